-- The first round is read, and the attempt goes on from there.
use Rattle.std.proofs.Common.{◌≡◌, inl, ℕ, ◌+◌, Bool, true, false, List, length, drop, Some, Ok, refl, sym, ◌∙◌, ap, subst, arith}
use Rattle.dm_types.specs.declared.kinds.DiskKind.{DiskKind}
use Rattle.dm_disk_model.specs.Disk.{History as Clock}
use Rattle.dm_edge.specs.declared.fault.NetFault.{NetFault}
use Rattle.dm_edge.specs.Wire.{Purpose, Told, Closed}
use Rattle.dm_item.specs.Fields.{no_bytes}
use Rattle.dm_kept.specs.Files.{Says}
use Rattle.dm_store.specs.declared.pass.Pass.{Pass}
use Rattle.dm_store.specs.View.{View}
use Rattle.dm_answers.specs.declared.answer.SlicePass.{SlicePass}
use Rattle.dm_attempt.specs.declared.source.Source.{Source}
use Rattle.dm_attempt.specs.declared.stop.Going.{Going}
use Rattle.dm_attempt.specs.declared.stop.Stop.{Stop}
use Rattle.dm_attempt.specs.Asking.{Asking, source_by}
use Rattle.dm_attempt.specs.Ends.{next_parts}
use Rattle.dm_attempt.specs.Scene.{Scene, begun_by}
use Rattle.dm_attempt.specs.Trace.{Round, Tale, Trace}
use Rattle.dm_rounds.specs.declared.lane.Lane.{Lane}
use Rattle.dm_rounds.specs.First.{first_asking}
use Rattle.dm_rounds.specs.Opened.{IsOpened, LosesRound}
use Rattle.dm_rounds.specs.Opening.{AreAsked}
use Rattle.dm_rounds.specs.Parts.{IsOfNet}
use Rattle.dm_rounds.specs.Reading.{closed_before}
use Rattle.dm_rounds.specs.Rounding.{next_shares}
use Rattle.dm_rounds.specs.Running.{IsRunning, IsShort, ReadsOne}
use Rattle.dm_rounds.specs.Serving.{IsFirstOpen}
use Rattle.dm_rounds.specs.Trail.{AreRead, RunEnds, RunStops, asking_behind}
use Rattle.dm_rounds.proofs.Alone.{alone_full}
use Rattle.dm_rounds.proofs.Lost.{all_opened}
use Rattle.dm_rounds.proofs.Nexts.{lost_opens, next_count, numbers, round_opens}
use Rattle.dm_rounds.proofs.Onward.{from_same, lost_stops, next_runs}
use Rattle.dm_rounds.proofs.Serves.{others_asked}

module _ {D O W : Type 0} (tells : Type 0) (clock : D → Clock) (says : O → Says) (far : D → ℕ) (counts : D → DiskKind → ℕ) (net wires : Type 0) (made_for : W → Purpose) (told : W → Told) (origin : W → O) (scene : Scene D O) (pass : Pass) (desk : View D O) (before : List Closed) (there : O) (trace : Trace) (tale : Tale) (passes : List SlicePass)
    (lanes : List (Lane W)) (at : ℕ) (is : IsFirstOpen tells clock says far counts net wires made_for told origin scene pass desk before there trace tale passes lanes at) where
  abbrev pub first : Asking
  first = first_asking pass tale

  abbrev going : Going
  going = record { pass = pass; round = 1 }

  asking_is : asking_behind first trace.rounds ≡ first
  asking_is = ap (asking_behind first) is.none

  none_read : AreRead net first trace.rounds
  none_read = subst (AreRead net first) (sym is.none) tt

  one_turn : 1 ≡ length trace.rounds + 1
  one_turn = let e = ap (λ (l : List Round). length l) is.none in omega (arith, e)

  -- the other parts are asked for by their ranges
  pub rest_asked : (source : Source) → source_by tale.address tale.key tale.total ≡ Some source → AreAsked first source pass (next_shares scene trace) 1 (drop 1 passes)
  rest_asked source source_is =
      subst (λ (l : List SlicePass). AreAsked first source pass (next_shares scene trace) 1 (drop 1 l)) (sym is.planned.1)
      (others_asked pass tale source source_is (length trace.rounds + 1) (next_parts scene trace) (numbers tells clock says far counts scene pass desk trace first passes is.planned))

  pub share_count : length (next_shares scene trace) ≡ length passes
  share_count = next_count tells clock says far counts scene pass desk trace first passes is.planned

  -- where all are open the round is read
  pub first_runs : (closed : List Closed) (now : O) (open_lanes : List (Lane W)) (next : Going) → next.pass ≡ pass → next.round ≡ 1 → now ≡ there
      → IsOpened net wires made_for told origin there first (closed_before scene trace) closed (next_shares scene trace) open_lanes
      → IsRunning tells clock says far counts net wires made_for told origin scene next desk closed now trace first (next_shares scene trace) open_lanes at
  first_runs closed now open_lanes next pass_is turn same opened =
      next_runs tells clock says far counts net scene going trace first first trace (from_same trace) asking_is none_read is.none_lost (inl is.none) wires made_for told origin desk closed now open_lanes at next pass_is (turn ∙ one_turn)
      (round_opens tells clock says far counts scene pass desk trace first passes is.planned net wires made_for told origin closed open_lanes is.keyed
      (subst (λ (o : O). IsOpened net wires made_for told origin o first (closed_before scene trace) closed (next_shares scene trace) open_lanes) is.there_is opened)) (same ∙ is.there_is) is.at_is

  -- of one part it is
  pub one_opened : length passes ≡ 1 → IsOpened net wires made_for told origin there first (closed_before scene trace) before (next_shares scene trace) lanes
  one_opened one = all_opened net wires made_for told origin there first (closed_before scene trace) before (next_shares scene trace) 1 lanes (share_count ∙ one) (λ served. omega arith) is.opening

  -- where one part isn't had the round is given up
  pub first_lost : (source : Source) (since now : NetFault → ℕ) (closed : List Closed) (stop : Stop) → IsOfNet stop → LosesRound net first source pass (closed_before scene trace) closed since now (next_shares scene trace) stop
      → RunStops tells clock says far counts net scene pass desk closed since now trace first stop
  first_lost source since now closed stop own loses =
      lost_stops tells clock says far counts net scene going trace first first trace (from_same trace) asking_is none_read is.none_lost (inl is.none) since now desk closed stop source since (λ kind. omega arith)
      (lost_opens tells clock says far counts scene pass desk trace first passes is.planned net closed since now source stop own loses)

  -- one part alone leaves no place
  pub none_short : trace.count ≡ 1 → (begun_by scene).slices ≡ no_bytes → (next : Going) → next.round ≡ 1 → (after : View D O) (closed : List Closed) → IsShort tells clock says far counts net scene next after closed trace first → ⊥
  none_short one bare next turn after closed short =
      alone_full net scene pass tale short.trace (short.from.told_is ∙ is.told_is) (short.from.count_is ∙ one) bare short.live.planned short.place short.missing short.trace.rounds refl (short.turn_is ∙ turn) short.rounds

-- where no place is left all came
pub reads_all : {D O : Type 0} (tells : Type 0) (clock : D → Clock) (says : O → Says) (far : D → ℕ) (counts : D → DiskKind → ℕ) (net : Type 0) (scene : Scene D O) (going : Going) (desk : View D O) (closed : List Closed) (before now : NetFault → ℕ) (older : Trace) (first : Asking) (done : Bool)
    → (IsShort tells clock says far counts net scene going desk closed older first → ⊥) → ReadsOne tells clock says far counts net scene going desk closed before now older first (Ok done) → RunEnds tells clock says far counts net scene going.pass desk closed older first
reads_all tells clock says far counts net scene turn desk closed before now older asking true none reads = reads
reads_all tells clock says far counts net scene turn desk closed before now older asking false none reads = absurd (none reads)
