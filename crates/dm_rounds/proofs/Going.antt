-- What a turn leaves of the attempt.
use Rattle.std.proofs.Common.{◌≡◌, ◌≤◌, ℕ, ◌+◌, List, ◌++◌, length, take, Ok, Err, refl, sym, ◌∙◌, ap, subst, false}
use Rattle.std.proofs.lemmas.Option.{same_Some}
use Rattle.dm_types.specs.declared.item.Item.{Item}
use Rattle.dm_types.specs.declared.item.Key.{Key}
use Rattle.dm_types.specs.declared.kinds.DiskKind.{DiskKind}
use Rattle.dm_types.specs.declared.slices.Slice.{Slice}
use Rattle.dm_types.specs.declared.address.Address.{Address}
use Rattle.dm_disk_model.specs.Disk.{History as Clock}
use Rattle.dm_policy.specs.declared.cause.Cause.{Cause}
use Rattle.dm_edge.specs.Fair.{IsHonest}
use Rattle.dm_edge.specs.Wire.{Purpose, Told}
use Rattle.dm_reply.specs.declared.got.Got.TheVariants.{Bytes, End}
use Rattle.dm_reply.specs.Content.{EndsAll}
use Rattle.dm_slice.specs.declared.plan.Part.{Part}
use Rattle.dm_kept.specs.Files.{Says}
use Rattle.dm_store.specs.Origin.{said_of}
use Rattle.dm_store.specs.View.{View}
use Rattle.dm_answers.specs.Land.{SaysPiece}
use Rattle.dm_attempt.specs.declared.stop.Going.{Going}
use Rattle.dm_attempt.specs.declared.stop.Stop.{Stop}
use Rattle.dm_attempt.specs.declared.stop.Stop.TheVariants as stops
use Rattle.dm_attempt.specs.Asking.{Asking, IsAsked}
use Rattle.dm_attempt.specs.Ending.{StopHolds}
use Rattle.dm_attempt.specs.Live.{LiveDesk}
use Rattle.dm_attempt.specs.Scene.{Scene, told_by}
use Rattle.dm_attempt.specs.Shares.{Share, added}
use Rattle.dm_attempt.specs.Stops.{LandLeaves, Refused}
use Rattle.dm_attempt.specs.Trace.{Trace, opened, with_saves}
use Rattle.dm_attempt.proofs.Items.{all_saves}
use Rattle.dm_attempt.proofs.Sharing.{grows}
use Rattle.dm_rounds.specs.declared.lane.Lane.{Lane}
use Rattle.dm_rounds.specs.declared.lane.Turn.{Turn}
use Rattle.dm_rounds.specs.declared.lane.Turn.TheVariants.{Whole}
use Rattle.dm_rounds.specs.Lanes.{HasGiven, LaneBroke, LaneStops, PieceMoves, PieceSays, TurnIs, TurnSays, most_given, stop_met, told_count}
use Rattle.dm_rounds.specs.Reading.{HasRound, IsTurn, TurnLeaves, live_round}
use Rattle.dm_rounds.proofs.Causes.{by_cause}
use Rattle.dm_rounds.proofs.Saying.{said_piece}
use Rattle.dm_rounds.proofs.Turns.{broke_left, end_full, landed_says, lane_broke, refused_left}

module _ {D O W : Type 0} (tells : Type 0) (clock : D → Clock) (says : O → Says) (far : D → ℕ) (counts : D → DiskKind → ℕ) (wires : Type 0) (made_for : W → Purpose) (told : W → Told) (origin : W → O) where
  -- what the desk has of the item that the round's content stands under
  pub says_next : (original : O → Address → Key → ℕ → ℕ → Type 0) → (scene : Scene D O) (going : Going) (desk : View D O) (older : Trace) (asking : Asking) (cover : List Slice) (shares : List Share) (old new : Lane W) (piece : List ℕ)
      → HasRound tells clock says far counts scene going desk older asking cover shares → (turn : IsTurn wires made_for told origin scene.start.origin asking shares old)
      → new.part ≡ old.part → new.reader.wanted ≡ old.reader.wanted → made_for new.wire ≡ made_for old.wire → origin new.wire ≡ origin old.wire → (wires → (told new.wire).sent ≡ (told old.wire).sent)
      → IsHonest wires (original (origin new.wire)) (made_for new.wire) (told new.wire)
      → (wires → HasGiven asking.key (made_for old.wire) old.reader.wanted (told new.wire).given new.reader (turn.ready.left.share.bytes ++ piece))
      → SaysPiece (said_of (original desk.origin)) desk.items.items going.pass.id old.at piece
  says_next original scene going desk older asking cover shares old new piece has turn part wanted stays same sent honest given item key address there keyed placed k byte here =
      let item_same : has.live.runs.item ≡ item = same_Some has.live.runs.item item (sym has.live.runs.there ∙ there) in
      let base : (i : Item) → i ≡ i = λ i. refl in
      let key_is : asking.key ≡ key =
      same_Some asking.key key (sym has.keyed.key_is ∙ sym (ap (λ (i : Item). i.key) has.live.runs.is.item_is ∙ ap (λ (i : Item). i.key) (all_saves scene.item.id older.saves (told_by scene older.told))) ∙ ap (λ (i : Item). i.key) item_same ∙ keyed) in
      let address_is : asking.purpose.address.text ≡ address =
      same_Some asking.purpose.address.text address (sym has.keyed.address_is ∙ sym (ap (λ (i : Item). i.last_address) has.live.runs.is.item_is ∙ ap (λ (i : Item). i.last_address) (all_saves scene.item.id older.saves (told_by scene older.told)))
      ∙ ap (λ (i : Item). i.last_address) item_same ∙ placed) in
      let origin_is : origin new.wire ≡ desk.origin = same ∙ turn.origin_is ∙ sym has.live.goes.went.origin in
      let asks : IsAsked wires asking old.part old.reader.wanted (made_for old.wire) (told new.wire).sent (told old.wire).given =
      record { wanted_is = turn.asks.asked.wanted_is; first_is = turn.asks.asked.first_is; purpose_is = turn.asks.asked.purpose_is; sent_is = λ t. sent t ∙ turn.asks.asked.sent_is t; replied = turn.asks.asked.replied } in
      let said = said_piece wires (original (origin new.wire)) (made_for old.wire) (told new.wire) asking old.part old.reader.wanted new.reader turn.ready.left.share.bytes piece (told old.wire).given old.at
      (subst (λ (p : Purpose). IsHonest wires (original (origin new.wire)) p (told new.wire)) stays honest) asks given has.keyed.reads turn.ready.at k byte here in
      subst (λ (o : O). said_of (original o) address key (old.at + k) byte) origin_is
      (subst (λ (x : Key). said_of (original (origin new.wire)) address x (old.at + k) byte) key_is
      (subst (λ (t : List ℕ). said_of (original (origin new.wire)) t asking.key (old.at + k) byte) address_is said))

  module _ (scene : Scene D O) (going : Going) (desk : View D O) (older : Trace) (asking : Asking) (cover : List Slice) (shares : List Share) (old new : Lane W)
      (turn : IsTurn wires made_for told origin scene.start.origin asking shares old) (part : new.part ≡ old.part) (wanted : new.reader.wanted ≡ old.reader.wanted) (stays : made_for new.wire ≡ made_for old.wire) where
    abbrev round : Trace
    round = opened older (live_round asking cover shares)

    -- the piece was landed
    pub turn_landed : (n room : ℕ) (buffer : List ℕ) (moves : PieceMoves old new (Ok (Bytes n)) room) (within : n ≤ length buffer) → most_given new.reader ≡ most_given old.reader → told_count new.reader ≡ told_count old.reader → new.bounded ≡ old.bounded
        → (wires → (bytes : List ℕ) → HasGiven asking.key (made_for old.wire) old.reader.wanted (told old.wire).given old.reader bytes → PieceSays asking.key made_for told old new (Ok (Bytes n)) buffer bytes)
        → LandLeaves tells clock says far counts scene going.pass desk older (live_round asking cover shares) new.part.index (take n buffer) (Ok tt) → (is : Turn) → TurnIs new is
        → TurnLeaves tells clock says far counts wires made_for told scene going desk older asking cover shares new (Ok is)
    turn_landed n room buffer moves within limit counted bounded piece_says leaves is turn_is = record {
      saves = leaves.0;
      after = added shares new.part.index (take n buffer);
      live = leaves.1;
      grows = grows shares new.part.index (take n buffer);
      is = subst (λ (p : Part). TurnSays wires made_for told asking.key (added shares p.index (take n buffer)) new is) (sym part)
          (landed_says wires made_for told asking.key shares old new turn.ready part wanted stays n room buffer moves within limit counted bounded piece_says is turn_is);
    }

    refused_holds : (trace : Trace) (stop : Stop) → Refused tells clock says far counts scene going.pass desk trace stop → StopHolds false tells clock says far counts scene going.pass desk trace stop
    refused_holds trace (stops.Broke cause) refused = absurd refused
    refused_holds trace stops.NoMemory refused = refused
    refused_holds trace (stops.Fault fault) refused = refused
    refused_holds trace (stops.Recorded reason) refused = absurd refused

    refused_stops : (trace : Trace) (stop : Stop) → Refused tells clock says far counts scene going.pass desk trace stop → LaneStops told shares new stop
    refused_stops trace (stops.Broke cause) refused = absurd refused
    refused_stops trace stops.NoMemory refused = tt
    refused_stops trace (stops.Fault fault) refused = tt
    refused_stops trace (stops.Recorded reason) refused = absurd refused

    -- the desk took no more
    pub turn_refused : (n : ℕ) (buffer : List ℕ)
        → (wires → (bytes : List ℕ) → HasGiven asking.key (made_for old.wire) old.reader.wanted (told old.wire).given old.reader bytes → PieceSays asking.key made_for told old new (Ok (Bytes n)) buffer bytes)
        → (k : ℕ) (piece : List ℕ) (stop : Stop) → LandLeaves tells clock says far counts scene going.pass desk older (live_round asking cover shares) k piece (Err stop)
        → TurnLeaves tells clock says far counts wires made_for told scene going desk older asking cover shares new (Err stop)
    turn_refused n buffer piece_says k piece stop leaves = record {
      saves = leaves.0;
      holds = refused_holds (opened (with_saves older leaves.0) (live_round asking cover shares)) stop leaves.1;
      left = refused_left wires made_for told asking.key shares old new turn.ready part wanted stays n buffer piece_says;
      stops = λ t. refused_stops (opened (with_saves older leaves.0) (live_round asking cover shares)) stop leaves.1;
    }

    module _ (live : LiveDesk tells clock says far counts scene going.pass desk (opened older (live_round asking cover shares))) where
      -- the content came to its end
      pub turn_ended : EndsAll old.reader (Ok End) → told_count new.reader ≡ told_count old.reader → new.bounded ≡ old.bounded → (buffer : List ℕ)
          → (wires → (bytes : List ℕ) → HasGiven asking.key (made_for old.wire) old.reader.wanted (told old.wire).given old.reader bytes → PieceSays asking.key made_for told old new (Ok End) buffer bytes)
          → TurnLeaves tells clock says far counts wires made_for told scene going desk older asking cover shares new (Ok Whole)
      turn_ended all counted bounded buffer piece_says = record {
        saves = older.saves;
        after = shares;
        live = live;
        grows = record { keeps = refl; others = λ j other. refl };
        is = end_full wires made_for told asking.key shares old new turn.ready part wanted stays all bounded buffer piece_says;
      }

      -- a cause ended it
      pub turn_broke : (cause : Cause) (buffer : List ℕ)
          → (wires → (bytes : List ℕ) → HasGiven asking.key (made_for old.wire) old.reader.wanted (told old.wire).given old.reader bytes → PieceSays asking.key made_for told old new (Err cause) buffer bytes)
          → TurnLeaves tells clock says far counts wires made_for told scene going desk older asking cover shares new (Err (stop_met cause))
      turn_broke cause buffer piece_says = record {
        saves = older.saves;
        holds = by_cause (λ (c : Cause) (stop : Stop). LiveDesk tells clock says far counts scene going.pass desk (opened older (live_round asking cover shares))
            → StopHolds false tells clock says far counts scene going.pass desk (opened older (live_round asking cover shares)) stop) (λ l. l) (λ c l. l) cause live;
        left = broke_left wires made_for told asking.key shares old new turn.ready part wanted stays cause buffer piece_says;
        stops = λ t. by_cause (λ (c : Cause) (stop : Stop). LaneBroke told shares new c → LaneStops told shares new stop) (λ l. tt) (λ c l. l) cause
            (lane_broke wires made_for told asking.key shares old new turn.ready part wanted stays cause buffer piece_says t);
      }
