-- What a turn of one lane leaves of the reading of a round.
use Rattle.std.proofs.Common.{◌≡◌, ◌<◌, ℕ, List, [], ◌∷◌, ◌++◌, length, get_or, set, Result, Ok, Err, refl, sym, ◌∙◌, subst, arith}
use Rattle.std.specs.List.{AllByRecursion, remove}
use Rattle.std.proofs.lemmas.List.{length-set, get_or-set_same}
use Rattle.dm_types.specs.declared.kinds.DiskKind.{DiskKind}
use Rattle.dm_types.specs.declared.slices.Slice.{Slice}
use Rattle.dm_disk_model.specs.Disk.{History as Clock}
use Rattle.dm_edge.specs.Wire.{Purpose, Told, Closed, closed_of}
use Rattle.dm_reply.specs.Reads.{GoesOn}
use Rattle.dm_slice.specs.declared.plan.Part.{Part}
use Rattle.dm_kept.specs.Files.{Says}
use Rattle.dm_store.specs.View.{View}
use Rattle.dm_attempt.specs.declared.stop.Going.{Going}
use Rattle.dm_attempt.specs.declared.stop.Stop.{Stop}
use Rattle.dm_attempt.specs.Asking.{Asking}
use Rattle.dm_attempt.specs.Scene.{Scene}
use Rattle.dm_attempt.specs.Shares.{Grows, Share}
use Rattle.dm_attempt.specs.Trace.{Trace, with_saves}
use Rattle.dm_rounds.specs.declared.lane.Lane.{Lane}
use Rattle.dm_rounds.specs.declared.lane.Turn.TheVariants.{More, Whole}
use Rattle.dm_rounds.specs.Lanes.{IsLeft, IsReady, LaneAsks, Closes}
use Rattle.dm_rounds.specs.Reading.{IsReading, IsTurn, MayRead, MayTurn, ReadLeaves, ReadStops, ReadsOn, RoundLeaves, TurnGoes, TurnStops, closed_before}
use Rattle.dm_rounds.proofs.Ends.{cut_round, cut_shown, whole_round}
use Rattle.dm_rounds.proofs.Rounds.{few_rest, few_set, known_at, ready_at, ready_rest, ready_set, round_close, round_set, stop_set}
use Rattle.dm_rounds.proofs.Totals.{at_each, remove_each, set_each, weaker_each}

module _ {D O W : Type 0} (tells : Type 0) (clock : D → Clock) (says : O → Says) (far : D → ℕ) (counts : D → DiskKind → ℕ) (net wires : Type 0) (by : net → wires) (made_for : W → Purpose) (told : W → Told) (origin : W → O) where
  abbrev pub Reading : Scene D O → Going → View D O → List Closed → Trace → Asking → List Slice → List Share → List (Lane W) → Type 0
  Reading scene going desk closed older asking cover shares lanes = IsReading tells clock says far counts net wires made_for told origin scene going desk closed older asking cover shares lanes

  module _ (scene : Scene D O) (going : Going) (older : Trace) (asking : Asking) (cover : List Slice) (shares : List Share) (lanes : List (Lane W)) (k : ℕ) (was : Lane W) (within : k < length lanes) (at : was ≡ get_or lanes k was)
      (before : View D O) (closed : List Closed) (reading : Reading scene going before closed older asking cover shares lanes) where
    abbrev Asks : Lane W → Type 0
    Asks lane = LaneAsks wires made_for told asking lane

    abbrev Own : Lane W → Type 0
    Own lane = origin lane.wire ≡ scene.start.origin

    pub turn_at : IsTurn wires made_for told origin scene.start.origin asking shares was
    turn_at = record {
      ready = ready_at wires made_for told asking.key shares lanes k was within at reading.ready;
      asks = subst Asks (sym at) (at_each Asks lanes k was within reading.round.asks);
      origin_is = subst Own (sym at) (at_each Own lanes k was within reading.origins);
    }

    pub may_turn : MayTurn tells clock says far counts wires made_for told origin going before was
    may_turn = record { scene = scene; older = older; asking = asking; cover = cover; shares = shares; round = reading.has; turn = turn_at }

    module _ (lane : Lane W) (part : lane.part ≡ was.part) (bounded : lane.bounded ≡ was.bounded) (wanted : lane.reader.wanted ≡ was.reader.wanted) (stays : made_for lane.wire ≡ made_for was.wire) (same : origin lane.wire ≡ origin was.wire)
        (sent : wires → (told lane.wire).sent ≡ (told was.wire).sent) (given : wires → GoesOn (told was.wire) (told lane.wire)) (desk : View D O) where
      own_grows : (after : List Share) → Grows lane.part.index shares after → Grows was.part.index shares after
      own_grows after grows = subst (λ (p : Part). Grows p.index shares after) part grows

      known : was.part.index < length shares
      known = known_at wires made_for told asking.key shares lanes k was within at reading.ready

      own_set : AllByRecursion Own (set lanes k lane)
      own_set = set_each Own lanes k lane (same ∙ turn_at.origin_is) reading.origins

      -- it went on
      pub turned_more : TurnGoes tells clock says far counts wires made_for told scene going desk older asking cover shares lane More
          → ReadLeaves tells clock says far counts net wires made_for told origin scene going desk closed older asking cover shares (set lanes k lane) (Ok tt)
      turned_more goes =
          let grows = own_grows goes.after goes.grows in
          record {
            saves = goes.saves;
            after = goes.after;
            keeps = goes.grows.keeps;
            is = record {
              has = record { live = goes.live; turn_is = reading.has.turn_is; keyed = reading.has.keyed };
              ready = ready_set lanes k was lane within at part wires made_for told asking.key shares goes.after grows reading.few reading.ready goes.is;
              origins = own_set;
              few = few_set lanes k was lane within at part reading.few;
              round = round_set lanes k was lane within at part net wires made_for told asking (closed_before scene older) closed shares goes.after grows known bounded wanted stays sent given reading.round;
            };
          }

      -- the lane's part is whole, and its wire went back
      pub turned_whole : (after : List Closed) → (net → after ≡ closed ++ closed_of (made_for lane.wire) (told lane.wire) ∷ []) → TurnGoes tells clock says far counts wires made_for told scene going desk older asking cover shares lane Whole
          → ReadLeaves tells clock says far counts net wires made_for told origin scene going desk after older asking cover shares (remove (set lanes k lane) k) (Ok tt)
      turned_whole after closes goes =
          let grows = own_grows goes.after goes.grows in
          let long : k < length (set lanes k lane) = omega (arith, within, length-set lanes k lane) in
          record {
            saves = goes.saves;
            after = goes.after;
            keeps = goes.grows.keeps;
            is = record {
              has = record { live = goes.live; turn_is = reading.has.turn_is; keyed = reading.has.keyed };
              ready = ready_rest lanes k was lane within at part wires made_for told asking.key shares goes.after grows reading.few reading.ready;
              origins = remove_each Own (set lanes k lane) k own_set;
              few = few_rest lanes k was lane within at part reading.few;
              round = round_close net wires by made_for told asking (closed_before scene older) closed after goes.after (set lanes k lane) k lane long (sym (get_or-set_same lanes k lane lane within)) goes.is closes
                  (round_set lanes k was lane within at part net wires made_for told asking (closed_before scene older) closed shares goes.after grows known bounded wanted stays sent given reading.round);
            };
          }

      -- it stopped the attempt
      pub turned_stop : (stop : Stop) → TurnStops tells clock says far counts wires told scene going desk older asking cover shares lane stop
          → ReadLeaves tells clock says far counts net wires made_for told origin scene going desk closed older asking cover shares (set lanes k lane) (Err stop)
      turned_stop stop stops =
          let still : Grows was.part.index shares shares = record { keeps = refl; others = λ j other. refl } in
          record {
            saves = stops.saves;
            after = shares;
            keeps = refl;
            holds = stops.holds;
            left = set_each (IsLeft wires told shares) lanes k lane stops.left (weaker_each (IsReady wires made_for told asking.key shares) (IsLeft wires told shares) (λ l ready. ready.left) lanes reading.ready);
            round = round_set lanes k was lane within at part net wires made_for told asking (closed_before scene older) closed shares shares still known bounded wanted stays sent given reading.round;
            stops = λ t. stop_set lanes k was lane within at part told shares stop (stops.stops t);
          }

  -- one turn behind others
  pub reads_then : (scene : Scene D O) (going : Going) (mid desk : View D O) (between closed : List Closed) (older : Trace) (asking : Asking) (cover : List Slice) (shares : List Share) (lanes last : List (Lane W)) (result : Result (Unit {0}) Stop)
      → (first : ReadsOn tells clock says far counts net wires made_for told origin scene going mid between older asking cover shares lanes)
      → ReadLeaves tells clock says far counts net wires made_for told origin scene going desk closed (with_saves older first.saves) asking cover first.after last result
      → ReadLeaves tells clock says far counts net wires made_for told origin scene going desk closed older asking cover shares last result
  reads_then scene going mid desk between closed older asking cover shares lanes last (Ok done) first next =
      record { saves = next.saves; after = next.after; keeps = next.keeps ∙ first.keeps; is = next.is }
  reads_then scene going mid desk between closed older asking cover shares lanes last (Err stop) first next =
      record { saves = next.saves; after = next.after; keeps = next.keeps ∙ first.keeps; holds = next.holds; left = next.left; round = next.round; stops = next.stops }

  pub may_read : (scene : Scene D O) (going : Going) (desk : View D O) (closed : List Closed) (older : Trace) (asking : Asking) (cover : List Slice) (shares : List Share) (lanes : List (Lane W))
      → ReadsOn tells clock says far counts net wires made_for told origin scene going desk closed older asking cover shares lanes → MayRead tells clock says far counts net wires made_for told origin going desk closed lanes
  may_read scene going desk closed older asking cover shares lanes on = record { scene = scene; older = with_saves older on.saves; asking = asking; cover = cover; shares = on.after; is = on.is }

  -- the round was read to its end
  pub round_goes : (scene : Scene D O) (going : Going) (desk : View D O) (closed : List Closed) (older : Trace) (asking : Asking) (cover : List Slice) (shares : List Share) (lanes : List (Lane W)) → lanes ≡ []
      → ReadsOn tells clock says far counts net wires made_for told origin scene going desk closed older asking cover shares lanes → RoundLeaves tells clock says far counts net scene going desk closed older asking cover shares (Ok tt)
  round_goes scene going desk closed older asking cover shares lanes none on = record {
    saves = on.saves;
    after = on.after;
    keeps = on.keeps;
    live = on.is.has.live;
    round = whole_round net wires made_for told asking (closed_before scene older) closed on.after lanes none on.is.round;
  }

  -- and here it stopped
  pub round_stops : (scene : Scene D O) (going : Going) (desk : View D O) (closed after : List Closed) (older : Trace) (asking : Asking) (cover : List Slice) (shares : List Share) (lanes : List (Lane W)) (stop : Stop)
      → (net → Closes made_for told closed after lanes) → ReadStops tells clock says far counts net wires made_for told scene going desk closed older asking cover shares lanes stop
      → RoundLeaves tells clock says far counts net scene going desk after older asking cover shares (Err stop)
  round_stops scene going desk closed after older asking cover shares lanes stop closes stops = record {
    saves = stops.saves;
    after = stops.after;
    keeps = stops.keeps;
    holds = stops.holds;
    round = cut_round net wires by made_for told asking stops.after (closed_before scene older) closed after lanes stops.left closes stops.round;
    shown = λ n. cut_shown net wires by made_for told asking stops.after (closed_before scene older) closed after lanes stops.left closes stops.round stop n (stops.stops (by n));
  }
