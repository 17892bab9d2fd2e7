-- How an item whose content is saved ends: what its calls make of a desk.
use Rattle.std.proofs.Common.{◌≡◌, inl, inr, ℕ, true, false, List, [], ◌∷◌, Option, Some, None, Result, Ok, Err, refl, sym, subst}
use Rattle.std.specs.Prelude.{IfErr, IfSome}
use Rattle.dm_types.specs.Faults.{HasCause, NoneFell, Rose}
use Rattle.dm_types.specs.declared.entry.Entry.TheVariants as entries
use Rattle.dm_types.specs.declared.item.ItemId.{ItemId}
use Rattle.dm_types.specs.declared.kinds.DiskKind.{DiskKind}
use Rattle.dm_types.specs.declared.reason.Reason.{Reason}
use Rattle.dm_types.specs.declared.reason.Reason.TheVariants as reasons
use Rattle.dm_disk_model.specs.declared.place.Place.{Place}
use Rattle.dm_disk_model.specs.Disk.{History as Clock, bytes_at, now}
use Rattle.dm_policy.specs.Cause.{reason_of_file}
use Rattle.dm_store.specs.Becomes.{Becomes, Fell}
use Rattle.dm_store.specs.Lives.{part_place}
use Rattle.dm_store.specs.View.{View}
use Rattle.dm_store.proofs.Composing.{fell_one}
use Rattle.dm_store.proofs.Saved.{from_disk, later_then, rose_first, rose_last}
use Rattle.dm_answers.specs.declared.answer.Finished.{Finished}
use Rattle.dm_answers.specs.declared.answer.Finished.TheVariants as finished
use Rattle.dm_answers.specs.declared.fault.DeskFault.{DeskFault}
use Rattle.dm_answers.specs.declared.fault.DeskFault.TheVariants as faults
use Rattle.dm_answers.specs.Faults.{desk_kind}
use Rattle.dm_answers.specs.Finish.{HasSum, ended_early, mismatched}
use Rattle.dm_finish.specs.declared.confirming.Confirmed.TheVariants.{Sum, Other, Short}
use Rattle.dm_finish.specs.declared.naming.Naming.{Naming}
use Rattle.dm_finish.specs.Closing.{Closes, CompleteMakes, Finds, IsClosing, StopMakes}
use Rattle.dm_finish.specs.Ending.{GivesName, IsEnding}
use Rattle.dm_finish.proofs.Givings.{naming_part}

-- a name was given, as it is answered
pub completes : {D O : Type 0} (old new : View D O) (id : ItemId) (total : ℕ) (digest : List ℕ) (at : ℕ) (result : Result (Unit {0}) DiskKind) → GivesName old new id total digest at result → (answer : Result Finished DeskFault)
    → ((done : Unit {0}) → result ≡ Ok done → answer ≡ Ok finished.Complete) → ((kind : DiskKind) → result ≡ Err kind → answer ≡ Err (faults.Journal kind)) → CompleteMakes old new id total digest at answer
completes old new id total digest at (Ok done) gives answer ok err = subst (CompleteMakes old new id total digest at) (sym (ok done refl)) gives
completes old new id total digest at (Err kind) gives answer ok err = subst (CompleteMakes old new id total digest at) (sym (err kind refl)) gives

-- A desk of which the disk was only read.
module _ {D O : Type 0} (tells : Type 0) (clock : D → Clock) (counts : D → DiskKind → ℕ) (old : View D O) (disk : D) (same : clock disk ≡ clock old.disk) (id : ItemId) (total : ℕ) (stated : Option (List ℕ)) (naming : Naming) (closing : IsClosing old id total stated naming) where
  abbrev mid : View D O
  mid = record old { disk = disk }

  -- the sum is known of the item
  pub sum_ending : (digest : List ℕ) → Finds tells clock old total stated naming (Sum digest) → IsEnding tells clock mid id total digest
  sum_ending digest found = record {
    item = closing.item;
    life = closing.life;
    there = closing.there;
    lives = closing.lives;
    told = closing.told;
    full = closing.full;
    total_is = closing.total_is;
    live_total = closing.live_total;
    stated = subst (λ (d : Option (List ℕ)). IfSome d (λ s. s ≡ digest)) (sym closing.stated_is) found.0;
    sum = λ told.
        subst (λ (c : Clock). HasSum (bytes_at (now c) (part_place closing.item.id.0 closing.item.epoch.0)) total digest) (sym same)
        (subst (λ (p : Place). HasSum (bytes_at (now (clock old.disk)) p) total digest) (naming_part old id total naming closing.naming_is closing.item closing.there) (found.1 told));
  }

  module _ (new : View D O) (at : ℕ) where
    gives_from : (digest : List ℕ) (result : Result (Unit {0}) DiskKind) → GivesName mid new id total digest at result → GivesName old new id total digest at result
    gives_from digest (Ok done) gives = from_disk old new disk (entries.Finishing id total ∷ entries.Done id digest at ∷ []) [] false gives
    gives_from digest (Err kind) (inl fell) = inl (record { recorded = fell.recorded; entry = fell.entry; rest = fell.rest; tries_are = fell.tries_are; becomes = from_disk old new disk fell.recorded (fell.entry ∷ []) true fell.becomes })
    gives_from digest (Err kind) (inr broke) = inr (from_disk old new disk (entries.Finishing id total ∷ []) [] true broke)

    -- its sum
    pub closes_sum : (digest : List ℕ) → Finds tells clock old total stated naming (Sum digest) → (result : Result Finished DeskFault) → CompleteMakes mid new id total digest at result → Closes tells clock counts old new id total stated naming at result
    closes_sum digest found (Ok finished.Complete) gives = record { digest = digest; found = found; is = gives_from digest (Ok tt) gives }
    closes_sum digest found (Ok (finished.Mismatch have wanted)) gives = absurd gives
    closes_sum digest found (Ok (finished.Short have wanted)) gives = absurd gives
    closes_sum digest found (Err (faults.Journal kind)) gives = inl (record { digest = digest; found = found; is = gives_from digest (Err kind) gives })
    closes_sum digest found (Err (faults.NoItem other)) gives = absurd gives
    closes_sum digest found (Err (faults.WrongState phase)) gives = absurd gives
    closes_sum digest found (Err (faults.Stale attempt round)) gives = absurd gives
    closes_sum digest found (Err (faults.NotNext place)) gives = absurd gives
    closes_sum digest found (Err (faults.PastEnd end)) gives = absurd gives
    closes_sum digest found (Err (faults.CheckpointDue bytes)) gives = absurd gives
    closes_sum digest found (Err (faults.ItemsFull count)) gives = absurd gives
    closes_sum digest found (Err (faults.WordTaken other)) gives = absurd gives
    closes_sum digest found (Err (faults.File kind)) gives = absurd gives
    closes_sum digest found (Err faults.Broken) gives = absurd gives
    closes_sum digest found (Err faults.NoMemory) gives = absurd gives
    closes_sum digest found (Err (faults.Damaged place)) gives = absurd gives

    fell_from : (reason : Reason) → Becomes mid new [] (entries.Broke id reason ∷ []) true → Fell old new (entries.Broke id reason ∷ [])
    fell_from reason becomes = fell_one old new (entries.Broke id reason) (from_disk old new disk [] (entries.Broke id reason ∷ []) true becomes)

    -- another sum than the stated one
    pub closes_other : (have wanted : List ℕ) → Finds tells clock old total stated naming (Other have wanted) → (result : Result Finished DeskFault)
        → StopMakes (counts disk) (counts new.disk) mid new id reasons.FileHashMismatch (Ok (finished.Mismatch have wanted)) result → Closes tells clock counts old new id total stated naming at result
    closes_other have wanted found result (inl stopped) =
        subst (Closes tells clock counts old new id total stated naming at) (sym stopped.same) (found, from_disk old new disk (mismatched id) [] false stopped.recorded)
    closes_other have wanted found result (inr unstopped) =
        subst (Closes tells clock counts old new id total stated naming at) (sym unstopped.is) (inr (inl (record { have = have; wanted = wanted; found = found; fell = fell_from reasons.FileHashMismatch unstopped.becomes })))

    -- it ends early
    pub closes_short : (have : ℕ) → Finds tells clock old total stated naming (Short have) → (result : Result Finished DeskFault)
        → StopMakes (counts disk) (counts new.disk) mid new id reasons.FileTooShort (Ok (finished.Short have total)) result → Closes tells clock counts old new id total stated naming at result
    closes_short have found result (inl stopped) =
        subst (Closes tells clock counts old new id total stated naming at) (sym stopped.same) (refl, found, from_disk old new disk (ended_early id) [] false stopped.recorded)
    closes_short have found result (inr unstopped) =
        subst (Closes tells clock counts old new id total stated naming at) (sym unstopped.is) (inr (inr (inl (record { have = have; found = found; fell = fell_from reasons.FileTooShort unstopped.becomes }))))

    -- a call on it failed
    pub closes_fault : (kind : DiskKind) → Rose (counts old.disk kind) (counts disk kind) → NoneFell (counts disk) (counts new.disk) → (result : Result Finished DeskFault)
        → StopMakes (counts disk) (counts new.disk) mid new id (reason_of_file kind) (Err (faults.File kind)) result → Closes tells clock counts old new id total stated naming at result
    closes_fault kind rose later result (inl stopped) =
        subst (Closes tells clock counts old new id total stated naming at) (sym stopped.same) (from_disk old new disk (entries.Broke id (reason_of_file kind) ∷ []) [] false stopped.recorded)
    closes_fault kind rose later result (inr unstopped) =
        subst (Closes tells clock counts old new id total stated naming at) (sym unstopped.is)
        (inr (inr (inr (record {
          behind = entries.Broke id (reason_of_file kind) ∷ [];
          is = record {
            entry = entries.Broke id (reason_of_file kind);
            is = record { kind = kind; rose = rose_first (counts old.disk kind) (counts disk kind) (counts new.disk kind) rose (later kind); is = refl };
            one = refl;
          };
          fell = fell_from (reason_of_file kind) unstopped.becomes;
        }))))

-- The cause of what is answered.

stop_rose : (before after : DiskKind → ℕ) (answer : Result Finished DeskFault) (result : Result Finished DeskFault) → result ≡ answer → IfErr answer (λ fault. IfSome (desk_kind fault) (λ kind. Rose (before kind) (after kind)))
    → IfErr result (λ fault. IfSome (desk_kind fault) (λ kind. Rose (before kind) (after kind)))
stop_rose before after answer result same rose = subst (λ (r : Result Finished DeskFault). IfErr r (λ fault. IfSome (desk_kind fault) (λ kind. Rose (before kind) (after kind)))) (sym same) rose

pub stop_cause : {D O : Type 0} (first before after : DiskKind → ℕ) (old new : View D O) (id : ItemId) (reason : Reason) (answer result : Result Finished DeskFault) → NoneFell first before → NoneFell before after → StopMakes before after old new id reason answer result
    → IfErr answer (λ fault. IfSome (desk_kind fault) (λ kind. Rose (first kind) (after kind))) → HasCause desk_kind first after result
stop_cause first before after old new id reason answer result earlier later (inl stopped) rose = record { later = later_then first before after earlier later; cause = stop_rose first after answer result stopped.same rose }
stop_cause first before after old new id reason answer result earlier later (inr unstopped) rose = record {
  later = later_then first before after earlier later;
  cause = stop_rose first after (Err (faults.Journal unstopped.kind)) result unstopped.is (rose_last (first unstopped.kind) (before unstopped.kind) (after unstopped.kind) (earlier unstopped.kind) unstopped.rose);
}

rose_more : (first before after : DiskKind → ℕ) (result : Result Finished DeskFault) → NoneFell first before → IfErr result (λ fault. IfSome (desk_kind fault) (λ kind. Rose (before kind) (after kind))) → IfErr result (λ fault. IfSome (desk_kind fault) (λ kind. Rose (first kind) (after kind)))
rose_more first before after (Ok value) earlier rose = tt
rose_more first before after (Err fault) earlier rose = by (desk_kind fault) rose
  where
    by : (kind : Option DiskKind) → IfSome kind (λ k. Rose (before k) (after k)) → IfSome kind (λ k. Rose (first k) (after k))
    by None is = tt
    by (Some k) is = rose_last (first k) (before k) (after k) (earlier k) is

pub cause_more : (first before after : DiskKind → ℕ) (result : Result Finished DeskFault) → NoneFell first before → HasCause desk_kind before after result → HasCause desk_kind first after result
cause_more first before after result earlier is = record { later = later_then first before after earlier is.later; cause = rose_more first before after result earlier is.cause }
