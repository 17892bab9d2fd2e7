-- What `finish` answers, of what was saved, found and recorded.
use Rattle.std.proofs.Common.{◌≡◌, inl, inr, ℕ, ◌<◌, Bool, true, false, List, [], ◌∷◌, ◌++◌, Option, Some, None, Result, Ok, Err, sym, ◌∙◌, ap, subst}
use Rattle.std.specs.Prelude.{IfSome}
use Rattle.dm_types.specs.Faults.{NoneFell}
use Rattle.dm_types.specs.declared.entry.Entry.TheVariants as entries
use Rattle.dm_types.specs.declared.item.Item.{Item}
use Rattle.dm_types.specs.declared.item.ItemId.{ItemId}
use Rattle.dm_types.specs.declared.kinds.DiskKind.{DiskKind}
use Rattle.dm_disk_model.specs.declared.place.Place.{Place}
use Rattle.dm_disk_model.specs.Disk.{History as Clock, bytes_at, now}
use Rattle.dm_policy.specs.Cause.{reason_of_file}
use Rattle.dm_item.specs.Lawful.{History}
use Rattle.dm_part.specs.Laws.{files_place}
use Rattle.dm_kept.proofs.Lists.{some_is}
use Rattle.dm_store.specs.declared.life.Life.{Life}
use Rattle.dm_store.specs.declared.pass.Pass.{Pass}
use Rattle.dm_store.specs.declared.saving.SaveFault.{SaveFault}
use Rattle.dm_store.specs.declared.saving.SaveFault.TheVariants.{File, Journal}
use Rattle.dm_store.specs.Becomes.{Becomes, Fell, Recorded}
use Rattle.dm_store.specs.Keeps.{StaysNear}
use Rattle.dm_store.specs.Lives.{part_place}
use Rattle.dm_store.specs.View.{View}
use Rattle.dm_store.proofs.Composing.{becomes_then, fell_one, fell_then, near_then}
use Rattle.dm_store.proofs.Saved.{rose_last}
use Rattle.dm_answers.specs.declared.answer.Finished.{Finished}
use Rattle.dm_answers.specs.declared.answer.Finished.TheVariants as finished
use Rattle.dm_answers.specs.declared.fault.DeskFault.{DeskFault}
use Rattle.dm_answers.specs.declared.fault.DeskFault.TheVariants as faults
use Rattle.dm_answers.specs.Finish.{Differs, EndsEarly, FinishAnswers, FinishBroke, FinishFell, FinishTail, HasMoved, HasSum, IsConfirmed, IsFinished, MayFinish, ended_early, finishing_entries, mismatched, total_of}
use Rattle.dm_answers.specs.Frame.{FellWith, FileBroke, KeepsReads}
use Rattle.dm_answers.specs.Pause.{saving_of}
use Rattle.dm_answers.specs.Running.{RunsWith, length_of, part_bytes, saving}
use Rattle.dm_land.specs.declared.saving.Prepared.{Prepared}
use Rattle.dm_land.specs.Preparing.{IsPrepared, PreparedOf, SaveIfMakes, fault_of_save, saved_by}
use Rattle.dm_land.proofs.Pauses.{saved_is}
use Rattle.dm_land.proofs.Saves.{fell_stopped, same_id}
use Rattle.dm_finish.specs.declared.confirming.Confirmed.TheVariants.{Sum, Other, Short}
use Rattle.dm_finish.specs.declared.naming.Naming.{Naming}
use Rattle.dm_finish.specs.Closing.{Closes, FellOther, FellShort, Finds}
use Rattle.dm_finish.specs.Ending.{GivesName, IsNaming}
use Rattle.dm_finish.specs.Finishing.{IsFullAt}
use Rattle.dm_finish.proofs.Givings.{naming_name, naming_part}

-- What was recorded stands at the list's end.
record Longer {D O : Type 0} (mid new : View D O) : Type 0 where
  second : History
  is : new.list ≡ mid.list ++ second

longer_of : {D O : Type 0} (mid new : View D O) (recorded failed : History) (broken : Bool) → Becomes mid new recorded failed broken → Longer mid new
longer_of mid new recorded failed broken becomes = record { second = recorded; is = becomes.list_is }

longer_fell : {D O : Type 0} (mid new : View D O) (behind : History) → Fell mid new behind → Longer mid new
longer_fell mid new behind fell = longer_of mid new fell.recorded (fell.entry ∷ []) true fell.becomes

longer_given : {D O : Type 0} (mid new : View D O) (id : ItemId) (total : ℕ) (digest : List ℕ) (at : ℕ) (kind : DiskKind) → GivesName mid new id total digest at (Err kind) → Longer mid new
longer_given mid new id total digest at kind (inl fell) = longer_fell mid new (entries.Finishing id total ∷ entries.Done id digest at ∷ []) fell
longer_given mid new id total digest at kind (inr broke) = longer_of mid new (entries.Finishing id total ∷ []) [] true broke

longer_closed : {D O : Type 0} (tells : Type 0) (clock : D → Clock) (counts : D → DiskKind → ℕ) (mid new : View D O) (id : ItemId) (total : ℕ) (stated : Option (List ℕ)) (naming : Naming) (at : ℕ) (result : Result Finished DeskFault)
    → Closes tells clock counts mid new id total stated naming at result → Longer mid new
longer_closed tells clock counts mid new id total stated naming at (Ok finished.Complete) makes = longer_of mid new (entries.Finishing id total ∷ entries.Done id makes.digest at ∷ []) [] false makes.is
longer_closed tells clock counts mid new id total stated naming at (Ok (finished.Mismatch have wanted)) makes = longer_of mid new (mismatched id) [] false makes.1
longer_closed tells clock counts mid new id total stated naming at (Ok (finished.Short have wanted)) makes = longer_of mid new (ended_early id) [] false makes.2
longer_closed tells clock counts mid new id total stated naming at (Err (faults.File kind)) makes = longer_of mid new (entries.Broke id (reason_of_file kind) ∷ []) [] false makes
longer_closed tells clock counts mid new id total stated naming at (Err (faults.Journal kind)) (inl gives) = longer_given mid new id total gives.digest at kind gives.is
longer_closed tells clock counts mid new id total stated naming at (Err (faults.Journal kind)) (inr (inl other)) = longer_fell mid new (mismatched id) other.fell
longer_closed tells clock counts mid new id total stated naming at (Err (faults.Journal kind)) (inr (inr (inl short))) = longer_fell mid new (ended_early id) short.fell
longer_closed tells clock counts mid new id total stated naming at (Err (faults.Journal kind)) (inr (inr (inr broke))) = longer_fell mid new broke.behind broke.fell
longer_closed tells clock counts mid new id total stated naming at (Err (faults.NoItem other)) makes = absurd makes
longer_closed tells clock counts mid new id total stated naming at (Err (faults.WrongState phase)) makes = absurd makes
longer_closed tells clock counts mid new id total stated naming at (Err (faults.Stale attempt round)) makes = absurd makes
longer_closed tells clock counts mid new id total stated naming at (Err (faults.NotNext place)) makes = absurd makes
longer_closed tells clock counts mid new id total stated naming at (Err (faults.PastEnd end)) makes = absurd makes
longer_closed tells clock counts mid new id total stated naming at (Err (faults.CheckpointDue bytes)) makes = absurd makes
longer_closed tells clock counts mid new id total stated naming at (Err (faults.ItemsFull count)) makes = absurd makes
longer_closed tells clock counts mid new id total stated naming at (Err (faults.WordTaken other)) makes = absurd makes
longer_closed tells clock counts mid new id total stated naming at (Err faults.Broken) makes = absurd makes
longer_closed tells clock counts mid new id total stated naming at (Err faults.NoMemory) makes = absurd makes
longer_closed tells clock counts mid new id total stated naming at (Err (faults.Damaged place)) makes = absurd makes

-- the count of far writes stays over the saving and the end
pub near_closed : {D O : Type 0} (tells : Type 0) (clock : D → Clock) (counts : D → DiskKind → ℕ) (old mid new : View D O) (first : History) → Recorded old mid first → (id : ItemId) (total : ℕ) (stated : Option (List ℕ)) (naming : Naming) (at : ℕ) (result : Result Finished DeskFault)
    → Closes tells clock counts mid new id total stated naming at result → (before between after : ℕ) → StaysNear before between old mid → StaysNear between after mid new → StaysNear before after old new
near_closed tells clock counts old mid new first one id total stated naming at result makes before between after near later =
    let longer = longer_closed tells clock counts mid new id total stated naming at result makes in
    near_then old mid new first one longer.second before between after longer.is near later

-- Of an attempt that has brought all.
module _ {D O : Type 0} (tells : Type 0) (clock : D → Clock) (counts : D → DiskKind → ℕ) (old : View D O) (pass : Pass) (at total : ℕ) (full : RunsWith old pass.id pass.attempt (IsFullAt total)) where
  id_is : full.item.id ≡ pass.id
  id_is = same_id pass.id full.item old.items.items full.there

  -- for the item's own id
  own_id : (P : ItemId → Type 0) → P pass.id → P full.item.id
  own_id P = subst P (sym id_is)

  saving_is : (prepared : Option Prepared) → PreparedOf old pass.id prepared → saving full.item full.life ≡ saved_by prepared
  saving_is prepared is = ap (saving_of full.item) (sym full.lives) ∙ saved_is old pass.id full.item full.there prepared is

  runs_with : (P : Item → Life → Type 0) → P full.item full.life → RunsWith old pass.id pass.attempt P
  runs_with P holds = record { item = full.item; there = full.there; runs = full.runs; attempt_is = full.attempt_is; life = full.life; lives = full.lives; is = holds }

  -- It couldn't be saved.

  unsaved_more : (prepared : Prepared) → IsPrepared old pass.id prepared → 0 < full.life.unsaved
  unsaved_more prepared is = subst (λ (l : Life). 0 < l.unsaved) (some_is is.saving.life full.life (sym is.saving.lives ∙ full.lives)) is.unsaved

  unsaved_case : (new : View D O) (prepared : Option Prepared) → PreparedOf old pass.id prepared → (fault : SaveFault) → SaveIfMakes (counts old.disk) (counts new.disk) old new pass.id prepared (Err fault) → FinishAnswers tells clock counts old new pass at (Err (fault_of_save fault))
  unsaved_case new None is fault makes = absurd makes
  unsaved_case new (Some prepared) is (File kind) makes =
      runs_with (λ item life. MayFinish item life × FinishBroke old new kind item life)
      (full.is.may, inl (unsaved_more prepared is, own_id (λ (n : ItemId). Recorded old new (entries.Broke n (reason_of_file kind) ∷ [])) makes))
  unsaved_case new (Some prepared) is (Journal kind) (inl becomes) =
      runs_with (λ item life. MayFinish item life × FinishFell tells clock counts old new at item life)
      (full.is.may, inl (subst (λ (h : History). Fell old new h) (sym (saving_is (Some prepared) is)) (fell_one old new prepared.entry becomes)))
  unsaved_case new (Some prepared) is (Journal kind) (inr stopped) =
      runs_with (λ item life. MayFinish item life × FinishFell tells clock counts old new at item life)
      (full.is.may, inr (inl (unsaved_more prepared is, own_id (λ (n : ItemId). FellWith old new [] (FileBroke (counts old.disk) (counts new.disk) n)) (fell_stopped (counts old.disk) (counts new.disk) old new pass.id stopped))))

  pub finish_unsaved : (new : View D O) (prepared : Option Prepared) → PreparedOf old pass.id prepared → (fault : SaveFault) (answer : DeskFault) → answer ≡ fault_of_save fault → SaveIfMakes (counts old.disk) (counts new.disk) old new pass.id prepared (Err fault)
      → FinishAnswers tells clock counts old new pass at (Err answer)
  finish_unsaved new prepared is fault answer is_fault makes = subst (λ (f : DeskFault). FinishAnswers tells clock counts old new pass at (Err f)) (sym is_fault) (unsaved_case new prepared is fault makes)

  -- It was saved.
  module _ (prepared : Option Prepared) (is : PreparedOf old pass.id prepared) (mid new : View D O) (saved : Recorded old mid (saved_by prepared)) (reads : tells → KeepsReads clock old.disk mid.disk) (earlier : NoneFell (counts old.disk) (counts mid.disk))
      (stated : Option (List ℕ)) (stated_is : full.item.digest ≡ stated) (naming : Naming) (named : IsNaming old pass.id total naming) where
    part_is : naming.part ≡ part_place full.item.id.0 full.item.epoch.0
    part_is = naming_part old pass.id total naming named full.item full.there

    part_reads : tells → bytes_at (now (clock mid.disk)) naming.part ≡ part_bytes clock old.disk full.item
    part_reads told =
        subst (λ (p : Place). bytes_at (now (clock mid.disk)) p ≡ part_bytes clock old.disk full.item) (sym part_is) (reads told (part_place full.item.id.0 full.item.epoch.0).name)

    sum_before : (sum : List ℕ) → tells → HasSum (bytes_at (now (clock mid.disk)) naming.part) total sum → HasSum (part_bytes clock old.disk full.item) (total_of full.item full.life) sum
    sum_before sum told has =
        subst (λ (t : ℕ). HasSum (part_bytes clock old.disk full.item) t sum) full.is.total_is
        (subst (λ (found : Option (List ℕ)). HasSum found total sum) (part_reads told) has)

    confirmed : (digest : List ℕ) → Finds tells clock mid total stated naming (Sum digest) → IsConfirmed tells clock old.disk full.item full.life digest
    confirmed digest found = record { stated = subst (λ (d : Option (List ℕ)). IfSome d (λ s. s ≡ digest)) (sym stated_is) found.0; sum = λ told. sum_before digest told (found.1 told) }

    differs : (have wanted : List ℕ) → Finds tells clock mid total stated naming (Other have wanted) → Differs tells clock old.disk full.item full.life have wanted
    differs have wanted found = record { stated = stated_is ∙ found.0; other = found.1; sum = λ told. sum_before have told (found.2 told) }

    early : (have : ℕ) → Finds tells clock mid total stated naming (Short have) → EndsEarly tells clock old.disk full.item full.life have total
    early have found = record { wanted_is = full.is.total_is; short = found.0; have_is = λ told. found.1 told ∙ ap length_of (part_reads told) }

    -- what was recorded since the start
    since : (behind failed : History) (broken : Bool) → Becomes mid new behind failed broken → Becomes old new (saving full.item full.life ++ behind) failed broken
    since behind failed broken becomes = subst (λ (h : History). Becomes old new (h ++ behind) failed broken) (sym (saving_is prepared is)) (becomes_then old mid new (saved_by prepared) saved behind failed broken becomes)

    fell_since : (behind : History) → Fell mid new behind → Fell old new (saving full.item full.life ++ behind)
    fell_since behind fell = subst (λ (h : History). Fell old new (h ++ behind)) (sym (saving_is prepared is)) (fell_then old mid new (saved_by prepared) saved behind fell)

    entries_are : (digest : List ℕ) → entries.Finishing pass.id total ∷ entries.Done pass.id digest at ∷ [] ≡ finishing_entries full.item full.life digest at
    entries_are digest =
        ap (λ (t : ℕ). entries.Finishing pass.id t ∷ entries.Done pass.id digest at ∷ []) full.is.total_is
        ∙ ap (λ (n : ItemId). entries.Finishing n (total_of full.item full.life) ∷ entries.Done n digest at ∷ []) (sym id_is)

    whole_is : entries.Finishing pass.id total ∷ [] ≡ entries.Finishing full.item.id (total_of full.item full.life) ∷ []
    whole_is = ap (λ (t : ℕ). entries.Finishing pass.id t ∷ []) full.is.total_is ∙ ap (λ (n : ItemId). entries.Finishing n (total_of full.item full.life) ∷ []) (sym id_is)

    -- The journal failed behind the saving.

    falls : (behind : History) → FinishTail tells clock counts old.disk new.disk at full.item full.life behind → Fell mid new behind → FinishFell tells clock counts old new at full.item full.life
    falls behind tail fell = inr (inr (inl (record { behind = behind; is = tail; fell = fell_since behind fell })))

    falls_given : (digest : List ℕ) → Finds tells clock mid total stated naming (Sum digest) → (kind : DiskKind) → GivesName mid new pass.id total digest at (Err kind) → FinishFell tells clock counts old new at full.item full.life
    falls_given digest found kind (inl fell) =
        falls (entries.Finishing pass.id total ∷ entries.Done pass.id digest at ∷ []) (inl (record { digest = digest; confirmed = confirmed digest found; is = entries_are digest })) fell
    falls_given digest found kind (inr broke) =
        inr (inr (inr (record { digest = digest; confirmed = confirmed digest found; becomes = subst (λ (h : History). Becomes old new (saving full.item full.life ++ h) [] true) whole_is (since (entries.Finishing pass.id total ∷ []) [] true broke) })))

    falls_other : FellOther tells clock mid new pass.id total stated naming → FinishFell tells clock counts old new at full.item full.life
    falls_other other =
        falls (mismatched pass.id) (inr (inl (record { have = other.have; wanted = other.wanted; differs = differs other.have other.wanted other.found; is = ap mismatched (sym id_is) }))) other.fell

    falls_short : FellShort tells clock mid new pass.id total stated naming → FinishFell tells clock counts old new at full.item full.life
    falls_short short = falls (ended_early pass.id) (inr (inr (inl (record { have = short.have; wanted = total; early = early short.have short.found; is = ap ended_early (sym id_is) })))) short.fell

    falls_broke : FellWith mid new [] (FileBroke (counts mid.disk) (counts new.disk) pass.id) → FinishFell tells clock counts old new at full.item full.life
    falls_broke broke =
        let one = broke.is in
        let why = one.is in
        falls broke.behind
        (inr (inr (inr (record {
          entry = one.entry;
          is = record {
            kind = why.kind;
            rose = rose_last (counts old.disk why.kind) (counts mid.disk why.kind) (counts new.disk why.kind) (earlier why.kind) why.rose;
            is = why.is ∙ ap (λ (n : ItemId). entries.Broke n (reason_of_file why.kind)) (sym id_is);
          };
          one = one.one;
        }))))
        broke.fell

    fell_case : (kind : DiskKind) → Closes tells clock counts mid new pass.id total stated naming at (Err (faults.Journal kind)) → FinishFell tells clock counts old new at full.item full.life
    fell_case kind (inl gives) = falls_given gives.digest gives.found kind gives.is
    fell_case kind (inr (inl other)) = falls_other other
    fell_case kind (inr (inr (inl short))) = falls_short short
    fell_case kind (inr (inr (inr broke))) = falls_broke broke

    pub finish_closed : (result : Result Finished DeskFault) → Closes tells clock counts mid new pass.id total stated naming at result → FinishAnswers tells clock counts old new pass at result
    finish_closed (Ok finished.Complete) makes =
        runs_with (IsFinished tells clock old new at) (record {
          may = full.is.may;
          digest = makes.digest;
          confirmed = confirmed makes.digest makes.found;
          recorded = subst (λ (h : History). Recorded old new (saving full.item full.life ++ h)) (entries_are makes.digest) (since (entries.Finishing pass.id total ∷ entries.Done pass.id makes.digest at ∷ []) [] false makes.is);
        })
    finish_closed (Ok (finished.Mismatch have wanted)) makes =
        runs_with (λ item life. MayFinish item life × Differs tells clock old.disk item life have wanted × Recorded old new (saving item life ++ mismatched item.id))
        (full.is.may, differs have wanted makes.0, own_id (λ (n : ItemId). Recorded old new (saving full.item full.life ++ mismatched n)) (since (mismatched pass.id) [] false makes.1))
    finish_closed (Ok (finished.Short have wanted)) makes =
        runs_with (λ item life. MayFinish item life × EndsEarly tells clock old.disk item life have wanted × Recorded old new (saving item life ++ ended_early item.id)) (
          full.is.may,
          subst (EndsEarly tells clock old.disk full.item full.life have) (sym makes.0) (early have makes.1),
          own_id (λ (n : ItemId). Recorded old new (saving full.item full.life ++ ended_early n)) (since (ended_early pass.id) [] false makes.2),
        )
    finish_closed (Err (faults.File kind)) makes =
        runs_with (λ item life. MayFinish item life × FinishBroke old new kind item life)
        (full.is.may, inr (own_id (λ (n : ItemId). Recorded old new (saving full.item full.life ++ entries.Broke n (reason_of_file kind) ∷ [])) (since (entries.Broke pass.id (reason_of_file kind) ∷ []) [] false makes)))
    finish_closed (Err (faults.Journal kind)) makes =
        runs_with (λ item life. MayFinish item life × FinishFell tells clock counts old new at item life) (full.is.may, fell_case kind makes)
    finish_closed (Err (faults.NoItem other)) makes = absurd makes
    finish_closed (Err (faults.WrongState phase)) makes = absurd makes
    finish_closed (Err (faults.Stale attempt round)) makes = absurd makes
    finish_closed (Err (faults.NotNext place)) makes = absurd makes
    finish_closed (Err (faults.PastEnd end)) makes = absurd makes
    finish_closed (Err (faults.CheckpointDue bytes)) makes = absurd makes
    finish_closed (Err (faults.ItemsFull count)) makes = absurd makes
    finish_closed (Err (faults.WordTaken other)) makes = absurd makes
    finish_closed (Err faults.Broken) makes = absurd makes
    finish_closed (Err faults.NoMemory) makes = absurd makes
    finish_closed (Err (faults.Damaged place)) makes = absurd makes

    -- what reads under the name is what the part read at the start
    pub finish_moved : tells → bytes_at (now (clock new.disk)) naming.target ≡ bytes_at (now (clock mid.disk)) naming.part → RunsWith old pass.id pass.attempt (HasMoved clock old new)
    finish_moved told moved =
        runs_with (HasMoved clock old new) (record {
          moved = λ name file name_is there.
              subst (λ (n : List ℕ). bytes_at (now (clock new.disk)) (files_place n) ≡ Some file) (some_is named.name name (sym (naming_name old pass.id total naming named full.item full.there) ∙ name_is))
              (subst (λ (p : Place). bytes_at (now (clock new.disk)) p ≡ Some file) named.target_is (moved ∙ part_reads told ∙ there));
        })
