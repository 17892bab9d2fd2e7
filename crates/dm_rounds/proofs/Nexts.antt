-- The next round of an attempt, open or given up.
use Rattle.std.proofs.Common.{◌≡◌, inl, ◌<◌, ℕ, ◌+◌, zero, suc, List, [], ◌∷◌, length, map, get_or, Some, Ok, Err, refl, sym, ◌∙◌, ap, subst, arith, false}
use Rattle.std.specs.Prelude.{slice_get}
use Rattle.std.proofs.lemmas.List.{length-map}
use Rattle.dm_types.specs.declared.item.Attempt.{Attempt}
use Rattle.dm_types.specs.declared.item.ItemId.{ItemId}
use Rattle.dm_types.specs.declared.kinds.DiskKind.{DiskKind}
use Rattle.dm_disk_model.specs.Disk.{History as Clock}
use Rattle.dm_policy.specs.declared.cause.Cause.TheVariants as causes
use Rattle.dm_edge.specs.declared.fault.NetFault.{NetFault}
use Rattle.dm_edge.specs.Wire.{Purpose, Told, Closed}
use Rattle.dm_kept.specs.Files.{Says}
use Rattle.dm_slice.specs.declared.plan.Part.{Part}
use Rattle.dm_store.specs.declared.pass.Pass.{Pass}
use Rattle.dm_store.specs.View.{View}
use Rattle.dm_answers.specs.Plan.{last_round, slice_pass}
use Rattle.dm_answers.specs.Slices.{part_of}
use Rattle.dm_answers.specs.declared.answer.SlicePass.{SlicePass}
use Rattle.dm_attempt.specs.declared.source.Source.{Source}
use Rattle.dm_attempt.specs.declared.stop.Stop.{Stop}
use Rattle.dm_attempt.specs.declared.stop.Stop.TheVariants as stops
use Rattle.dm_attempt.specs.Asking.{Asking}
use Rattle.dm_attempt.specs.Ending.{IfBroke, StopHolds}
use Rattle.dm_attempt.specs.Ends.{PlanLeaves, empty_share, next_parts, next_round}
use Rattle.dm_attempt.specs.Live.{LiveDesk}
use Rattle.dm_attempt.specs.Scene.{Scene, told_by}
use Rattle.dm_attempt.specs.Trace.{AreNumbered, Trace, opened}
use Rattle.dm_attempt.proofs.Rounds.{empty_parts}
use Rattle.dm_rounds.specs.declared.lane.Lane.{Lane}
use Rattle.dm_rounds.specs.Opened.{IsOpened, LosesRound}
use Rattle.dm_rounds.specs.Opening.{AreAsked}
use Rattle.dm_rounds.specs.Parts.{IsOfNet}
use Rattle.dm_rounds.specs.Reading.{IsKeyed, closed_before}
use Rattle.dm_rounds.specs.Rounding.{AsksAll, LostOpens, NoneOpens, RoundOpens, next_shares}

pub index_at : (id : ItemId) (attempt : Attempt) (round at : ℕ) (parts : List Part) → AreNumbered at parts → (k : ℕ) (d : SlicePass) → k < length (map (slice_pass id attempt round) parts)
    → (get_or (map (slice_pass id attempt round) parts) k d).index ≡ at + k
index_at id attempt round at [] numbers k d short = absurd (omega (arith, short))
index_at id attempt round at (part ∷ rest) numbers zero d short = let own : part.index ≡ at = numbers.0 in let e : part.index ≡ at + 0 = omega (arith, own) in e
index_at id attempt round at (part ∷ rest) numbers (suc k) d short =
    index_at id attempt round (suc at) rest numbers.1 k d (omega (arith, short)) ∙ (let e : suc at + k ≡ at + suc k = omega arith in e)

pub share_at : (id : ItemId) (attempt : Attempt) (round : ℕ) (parts : List Part) (k : ℕ) (d : SlicePass) → k < length (map (slice_pass id attempt round) parts)
    → slice_get (map empty_share parts) k ≡ Some (empty_share (part_of (get_or (map (slice_pass id attempt round) parts) k d)))
share_at id attempt round [] k d short = absurd (omega (arith, short))
share_at id attempt round (part ∷ rest) zero d short = refl
share_at id attempt round (part ∷ rest) (suc k) d short = share_at id attempt round rest k d (omega (arith, short))

asked_all : (asking : Asking) (source : Source) (pass : Pass) → AsksAll asking source pass → (round : ℕ) (parts : List Part) → AreNumbered 0 parts
    → AreAsked asking source pass (map empty_share parts) 0 (map (slice_pass pass.id pass.attempt round) parts)
asked_all asking source pass asks round parts numbers k d short = record {
  asks = record { source_is = asks.source_is; key_is = asks.key_is; purpose_is = asks.purpose_is; own = inl asks.own; known_is = asks.known_is };
  number_is = index_at pass.id pass.attempt round 0 parts numbers k d short;
  empty = subst (λ (n : ℕ). slice_get (map empty_share parts) n ≡ Some (empty_share (part_of (get_or (map (slice_pass pass.id pass.attempt round) parts) k d)))) (let e : k ≡ 0 + k = omega arith in e)
      (share_at pass.id pass.attempt round parts k d short);
}

module _ {D O : Type 0} (tells : Type 0) (clock : D → Clock) (says : O → Says) (far : D → ℕ) (counts : D → DiskKind → ℕ) (scene : Scene D O) (pass : Pass) (present : View D O) (trace : Trace) (asking : Asking) where
  module _ (passes : List SlicePass) (planned : PlanLeaves tells clock says far counts scene pass present trace asking (Ok passes)) where
    pub numbers : AreNumbered 0 (next_parts scene trace)
    numbers = subst (AreNumbered 0) (empty_parts (next_parts scene trace)) planned.2.planned.placed.0

    pub next_asked : (source : Source) → AsksAll asking source pass → AreAsked asking source pass (next_shares scene trace) 0 passes
    next_asked source asks = subst (λ (l : List SlicePass). AreAsked asking source pass (next_shares scene trace) 0 l) (sym planned.1)
        (asked_all asking source pass asks (length trace.rounds + 1) (next_parts scene trace) numbers)

    pub next_count : length (next_shares scene trace) ≡ length passes
    next_count = length-map (next_parts scene trace) empty_share ∙ sym (length-map (next_parts scene trace) (slice_pass pass.id pass.attempt (length trace.rounds + 1))) ∙ ap length (sym planned.1)

    pub round_opens : {W : Type 0} (net wires : Type 0) (made_for : W → Purpose) (told : W → Told) (origin : W → O) (closed : List Closed) (lanes : List (Lane W)) → IsKeyed pass asking (told_by scene trace.told)
        → IsOpened net wires made_for told origin scene.start.origin asking (closed_before scene trace) closed (next_shares scene trace) lanes
        → RoundOpens tells clock says far counts net wires made_for told origin scene pass present closed trace asking lanes
    round_opens net wires made_for told origin closed lanes keyed opens = record {
      more = planned.0;
      reading = λ going pass_is turn_is. record {
        has = record {
          live = subst (λ (p : Pass). LiveDesk tells clock says far counts scene p present (opened trace (next_round scene trace asking))) (sym pass_is) planned.2;
          turn_is = turn_is;
          keyed = subst (λ (p : Pass). IsKeyed p asking (told_by scene trace.told)) (sym pass_is) keyed;
        };
        ready = opens.ready;
        origins = opens.origins;
        few = opens.few;
        round = opens.round;
      };
    }

    holds_by : (stop : Stop) → IsOfNet stop → StopHolds false tells clock says far counts scene pass present (opened trace (next_round scene trace asking)) stop
    holds_by (stops.Broke cause) own = planned.2
    holds_by stops.NoMemory own = planned.2
    holds_by (stops.Fault fault) own = absurd own
    holds_by (stops.Recorded reason) own = absurd own

    pub lost_opens : (net : Type 0) (closed : List Closed) (before after : NetFault → ℕ) (source : Source) (stop : Stop) → IsOfNet stop → LosesRound net asking source pass (closed_before scene trace) closed before after (next_shares scene trace) stop
        → LostOpens tells clock says far counts net scene pass present closed before after trace asking source stop
    lost_opens net closed before after source stop own loses = record { holds = holds_by stop own; round = loses }

  pub plan_holds : (stop : Stop) → PlanLeaves tells clock says far counts scene pass present trace asking (Err stop) → StopHolds false tells clock says far counts scene pass present trace stop
  plan_holds (stops.Broke cause) left = left.2
  plan_holds stops.NoMemory left = left
  plan_holds (stops.Fault fault) left = absurd left
  plan_holds (stops.Recorded reason) left = absurd left

  plan_why : (stop : Stop) → PlanLeaves tells clock says far counts scene pass present trace asking (Err stop) → IfBroke stop (λ cause. (cause ≡ causes.RangeRefused 206) × (length trace.rounds ≡ last_round))
  plan_why (stops.Broke cause) left = (left.0, left.1)
  plan_why stops.NoMemory left = tt
  plan_why (stops.Fault fault) left = absurd left
  plan_why (stops.Recorded reason) left = absurd left

  pub none_opens : (net : Type 0) (closed : List Closed) (stop : Stop) → PlanLeaves tells clock says far counts scene pass present trace asking (Err stop) → (net → closed ≡ closed_before scene trace)
      → NoneOpens tells clock says far counts net scene pass present closed trace stop
  none_opens net closed stop left still = record { holds = plan_holds stop left; still = still; why = plan_why stop left }
