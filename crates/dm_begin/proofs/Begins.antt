-- What is answered where an attempt begins.
use Rattle.std.proofs.Common.{◌≡◌, inl, inr, ℕ, ◌<◌, true, false, List, [], ◌∷◌, ◌++◌, length, Option, Some, None, Result, Ok, Err, refl, sym, ◌∙◌, ap, subst, arith}
use Rattle.std.specs.Prelude.{IsSome}
use Rattle.std.specs.Option.{option_map}
use Rattle.std.proofs.lemmas.List.{append-nil}
use Rattle.dm_types.specs.Faults.{Rose}
use Rattle.dm_types.specs.declared.entry.Entry.TheVariants as entries
use Rattle.dm_types.specs.declared.item.Item.{Item}
use Rattle.dm_types.specs.declared.item.ItemId.{ItemId}
use Rattle.dm_types.specs.declared.kinds.By.{By}
use Rattle.dm_types.specs.declared.kinds.DiskKind.{DiskKind}
use Rattle.dm_types.specs.declared.reason.Reason.{Reason}
use Rattle.dm_types.specs.declared.reason.Reason.TheVariants as reasons
use Rattle.dm_policy.specs.Cause.{reason_of_file}
use Rattle.dm_disk_model.specs.Disk.{History as Clock}
use Rattle.dm_item.specs.Lawful.{History}
use Rattle.dm_item.specs.Listing.{item_in}
use Rattle.dm_item.specs.Restored.{IsSound}
use Rattle.dm_kept.proofs.Lists.{some_is}
use Rattle.dm_store.specs.declared.pass.Pass.{Pass}
use Rattle.dm_store.specs.Becomes.{Becomes, Fell, Recorded}
use Rattle.dm_store.specs.View.{View}
use Rattle.dm_store.proofs.Composing.{becomes_then, fell_before, fell_one, fell_then}
use Rattle.dm_store.proofs.Saved.{from_disk}
use Rattle.dm_answers.specs.declared.answer.Begun.{Begun}
use Rattle.dm_answers.specs.declared.answer.Begun.TheVariants as begun
use Rattle.dm_answers.specs.declared.fault.DeskFault.{DeskFault}
use Rattle.dm_answers.specs.declared.fault.DeskFault.TheVariants as faults
use Rattle.dm_answers.specs.Begin.{BeginAnswers, BeginsKept, BeginsTail, FallsShort, beginning, key_behind, too_short}
use Rattle.dm_answers.specs.Running.{ItemWith, length_of, part_bytes}
use Rattle.dm_begin.specs.declared.starting.Start.{Start}
use Rattle.dm_begin.specs.declared.starting.Start.TheVariants.{Anew, Fresh, Kept}
use Rattle.dm_begin.specs.Start.{BeginChecks, MayStart, PartHas, ThereAnswers, began_by, restart_by}
use Rattle.dm_begin.proofs.Starts.{beginning_one, beginning_two, key_gone, key_same, kept_some}

-- how long what was found is
some_length : (found : Option (List ℕ)) (have : ℕ) → Some have ≡ option_map length found → length_of found ≡ have
some_length None have is = absurd cc
some_length (Some bytes) have is = sym (some_is have (length bytes) is)

none_length : (found : Option (List ℕ)) → None ≡ option_map length found → length_of found ≡ 0
none_length None is = refl
none_length (Some bytes) is = absurd cc

module _ {D O : Type 0} (tells : Type 0) (clock : D → Clock) (counts : D → DiskKind → ℕ) (id : ItemId) (by : By) (at : ℕ) where
  pub check_refuses : (desk : View D O) (fault : DeskFault) → desk.broken ≡ false → BeginChecks desk id by (Err fault) → BeginAnswers tells clock counts desk desk id by at (Err fault)
  check_refuses desk (faults.NoItem other) whole checks = record { whole = whole; cause = checks; same = refl }
  check_refuses desk (faults.WrongState phase) whole checks = record { whole = whole; cause = checks; same = refl }
  check_refuses desk (faults.Stale attempt round) whole checks = absurd checks
  check_refuses desk (faults.NotNext place) whole checks = absurd checks
  check_refuses desk (faults.PastEnd end) whole checks = absurd checks
  check_refuses desk (faults.CheckpointDue bytes) whole checks = absurd checks
  check_refuses desk (faults.ItemsFull count) whole checks = absurd checks
  check_refuses desk (faults.WordTaken other) whole checks = absurd checks
  check_refuses desk (faults.File kind) whole checks = absurd checks
  check_refuses desk (faults.Journal kind) whole checks = absurd checks
  check_refuses desk faults.Broken whole checks = absurd checks
  check_refuses desk faults.NoMemory whole checks = absurd checks
  check_refuses desk (faults.Damaged place) whole checks = absurd checks

  pub begin_memory : (old new : View D O) (start : Start) → old.broken ≡ false → ItemWith old id (MayStart by start) → new ≡ old → BeginAnswers tells clock counts old new id by at (Err faults.NoMemory)
  begin_memory old new start whole s same = record { whole = whole; cause = record { item = s.item; there = s.there; is = s.is.may }; same = same }

  -- from the start, in the same epoch
  module _ (old new : View D O) (pass : Pass) (s : ItemWith old id (MayStart by (Fresh pass))) where
    pub fresh_answers : Recorded old new (began_by pass by at ∷ []) → BeginAnswers tells clock counts old new id by at (Ok (begun.Fresh pass))
    fresh_answers recorded = record {
      item = s.item;
      there = s.there;
      is = (
        record { may = s.is.may; untold = key_same s.item s.is.is.anew ∙ s.is.is.untold; pass_is = s.is.is.pass_is },
        subst (Recorded old new) (sym (beginning_one s.item by at pass s.is.is.anew s.is.is.pass_is)) recorded,
      );
    }

    pub fresh_journal : (kind : DiskKind) → Becomes old new [] (began_by pass by at ∷ []) true → BeginAnswers tells clock counts old new id by at (Err (faults.Journal kind))
    fresh_journal kind becomes = record {
      item = s.item;
      there = s.there;
      is = (
        s.is.may,
        record {
          behind = [];
          is = inl refl;
          fell = subst (Fell old new) (sym (append-nil (beginning s.item by at) ∙ beginning_one s.item by at pass s.is.is.anew s.is.is.pass_is)) (fell_one old new (began_by pass by at) becomes);
        },
      );
    }

  -- from the start, in a new epoch
  module _ (old new : View D O) (pass : Pass) (because : ℕ) (s : ItemWith old id (MayStart by (Anew pass because))) where
    pub anew_answers : (mid : View D O) → Recorded old mid (restart_by pass because ∷ []) → Recorded mid new (began_by pass by at ∷ []) → BeginAnswers tells clock counts old new id by at (Ok (begun.Fresh pass))
    anew_answers mid one two = record {
      item = s.item;
      there = s.there;
      is = (
        record { may = s.is.may; untold = key_gone s.item s.is.is.anew; pass_is = s.is.is.pass_is },
        subst (Recorded old new) (sym (beginning_two s.item by at pass because s.is.is)) (becomes_then old mid new (restart_by pass because ∷ []) one (began_by pass by at ∷ []) [] false two),
      );
    }

    anew_fell : Fell old new (restart_by pass because ∷ began_by pass by at ∷ []) → (kind : DiskKind) → BeginAnswers tells clock counts old new id by at (Err (faults.Journal kind))
    anew_fell fell kind = record {
      item = s.item;
      there = s.there;
      is = (
        s.is.may,
        record {
          behind = [];
          is = inl refl;
          fell = subst (Fell old new) (sym (append-nil (beginning s.item by at) ∙ beginning_two s.item by at pass because s.is.is)) fell;
        },
      );
    }

    pub restart_journal : (kind : DiskKind) → Becomes old new [] (restart_by pass because ∷ []) true → BeginAnswers tells clock counts old new id by at (Err (faults.Journal kind))
    restart_journal kind becomes = anew_fell (fell_before old new (restart_by pass because ∷ []) (began_by pass by at ∷ []) (fell_one old new (restart_by pass because) becomes)) kind

    pub anew_journal : (kind : DiskKind) (mid : View D O) → Recorded old mid (restart_by pass because ∷ []) → Becomes mid new [] (began_by pass by at ∷ []) true → BeginAnswers tells clock counts old new id by at (Err (faults.Journal kind))
    anew_journal kind mid one becomes = anew_fell (fell_then old mid new (restart_by pass because ∷ []) one (began_by pass by at ∷ []) (fell_one mid new (began_by pass by at) becomes)) kind

  -- where the part is looked at
  module _ (old new : View D O) (pass : Pass) (wanted : ℕ) (s : ItemWith old id (MayStart by (Kept pass wanted))) (disk : D) where
    own_id : pass.id ≡ s.item.id
    own_id = ap (λ (p : Pass). p.id) s.is.is.pass_is

    one : beginning s.item by at ≡ began_by pass by at ∷ []
    one = beginning_one s.item by at pass s.is.is.anew s.is.is.pass_is

    kept : BeginsKept by s.item
    kept = record { may = s.is.may; told = subst IsSome (sym (key_same s.item s.is.is.anew)) s.is.is.told }

    told : IsSome (key_behind s.item)
    told = kept.told

    two : (reason : Reason) → began_by pass by at ∷ entries.Broke pass.id reason ∷ [] ≡ beginning s.item by at ++ entries.Broke s.item.id reason ∷ []
    two reason = ap (λ (i : ItemId). began_by pass by at ∷ entries.Broke i reason ∷ []) own_id ∙ ap (λ (h : History). h ++ entries.Broke s.item.id reason ∷ []) (sym one)

    journal : (kind : DiskKind) (behind : History) → BeginsTail tells clock counts old.disk new.disk s.item behind → Fell old new (beginning s.item by at ++ behind) → BeginAnswers tells clock counts old new id by at (Err (faults.Journal kind))
    journal kind behind is fell = record { item = s.item; there = s.there; is = (s.is.may, record { behind = behind; is = is; fell = fell }) }

    fell_disk : (tries : History) → Fell (record old { disk = disk }) new tries → Fell old new tries
    fell_disk tries fell = record { recorded = fell.recorded; entry = fell.entry; rest = fell.rest; tries_are = fell.tries_are; becomes = from_disk old new disk fell.recorded (fell.entry ∷ []) true fell.becomes }

    falls : (have : ℕ) → (tells → (item : Item) → item_in id.0 old.items.items ≡ Some item → length_of (part_bytes clock old.disk item) ≡ have) → have < wanted → FallsShort tells clock old.disk have wanted s.item
    falls have found short = record { wanted_is = s.is.is.wanted_is; short = short; have_is = λ told. sym (found told s.item s.there) }

    short_fell : (kind : DiskKind) (have : ℕ) → FallsShort tells clock old.disk have wanted s.item → Fell (record old { disk = disk }) new (began_by pass by at ∷ entries.Broke pass.id reasons.FileTooShort ∷ []) → BeginAnswers tells clock counts old new id by at (Err (faults.Journal kind))
    short_fell kind have short fell =
        journal kind (too_short s.item.id) (inr (told, inl (refl, record { have = have; wanted = wanted; is = short }))) (subst (Fell old new) (two reasons.FileTooShort) (fell_disk (began_by pass by at ∷ entries.Broke pass.id reasons.FileTooShort ∷ []) fell))

    short_done : (have : ℕ) → FallsShort tells clock old.disk have wanted s.item → Recorded (record old { disk = disk }) new (began_by pass by at ∷ entries.Broke pass.id reasons.FileTooShort ∷ []) → BeginAnswers tells clock counts old new id by at (Ok (begun.Short have wanted))
    short_done have short recorded = record {
      item = s.item;
      there = s.there;
      is = (kept, short, subst (Recorded old new) (two reasons.FileTooShort) (from_disk old new disk (began_by pass by at ∷ entries.Broke pass.id reasons.FileTooShort ∷ []) [] false recorded));
    }

    -- its part stands
    pub there_answers : (have : ℕ) → (tells → PartHas clock old id have) → (result : Result Begun DeskFault) → ThereAnswers (record old { disk = disk }) new pass have wanted by at result → BeginAnswers tells clock counts old new id by at result
    there_answers have found (Ok (begun.Continue other)) is = record {
      item = s.item;
      there = s.there;
      is = (
        kept,
        record {
          pass_is = is.0 ∙ s.is.is.pass_is;
          long = λ told.
              let size = some_length (part_bytes clock old.disk s.item) have (found told s.item s.there) in
              let end = s.is.is.wanted_is in
              let enough = is.1.0 in
              omega (arith, size, end, enough);
        },
        subst (Recorded old new) (sym one) (from_disk old new disk (began_by pass by at ∷ []) [] false is.1.1),
      );
    }
    there_answers have found (Ok (begun.Short had asked)) is =
        subst (λ (h : ℕ). BeginAnswers tells clock counts old new id by at (Ok (begun.Short h asked))) (sym is.0.0)
        (subst (λ (w : ℕ). BeginAnswers tells clock counts old new id by at (Ok (begun.Short have w))) (sym is.0.1)
        (short_done have (falls have (λ told item at. some_length (part_bytes clock old.disk item) have (found told item at)) is.1.0) is.1.1))
    there_answers have found (Err (faults.Journal kind)) (inl fell) =
        journal kind [] (inl refl) (subst (Fell old new) (sym (append-nil (beginning s.item by at) ∙ one)) (fell_disk (began_by pass by at ∷ []) fell))
    there_answers have found (Err (faults.Journal kind)) (inr is) =
        short_fell kind have (falls have (λ told item at. some_length (part_bytes clock old.disk item) have (found told item at)) is.0) is.1
    there_answers have found (Ok (begun.Fresh other)) is = absurd is
    there_answers have found (Err (faults.NoItem other)) is = absurd is
    there_answers have found (Err (faults.WrongState phase)) is = absurd is
    there_answers have found (Err (faults.Stale attempt round)) is = absurd is
    there_answers have found (Err (faults.NotNext place)) is = absurd is
    there_answers have found (Err (faults.PastEnd end)) is = absurd is
    there_answers have found (Err (faults.CheckpointDue bytes)) is = absurd is
    there_answers have found (Err (faults.ItemsFull count)) is = absurd is
    there_answers have found (Err (faults.WordTaken other)) is = absurd is
    there_answers have found (Err (faults.File kind)) is = absurd is
    there_answers have found (Err faults.Broken) is = absurd is
    there_answers have found (Err faults.NoMemory) is = absurd is
    there_answers have found (Err (faults.Damaged place)) is = absurd is

    -- it is missing
    module _ (sound : IsSound s.item) (missing : tells → (item : Item) → item_in id.0 old.items.items ≡ Some item → None ≡ option_map length (part_bytes clock old.disk item)) where
      gone : FallsShort tells clock old.disk 0 wanted s.item
      gone =
          let some = kept_some by s.item sound s.is.may s.is.is.anew s.is.is.told in
          let end = s.is.is.wanted_is in
          falls 0 (λ told item at. none_length (part_bytes clock old.disk item) (missing told item at)) (omega (arith, some, end))

      pub missing_answers : Recorded (record old { disk = disk }) new (began_by pass by at ∷ entries.Broke pass.id reasons.FileTooShort ∷ []) → BeginAnswers tells clock counts old new id by at (Ok (begun.Short 0 wanted))
      missing_answers recorded = short_done 0 gone recorded

      pub missing_fell : (kind : DiskKind) → Fell (record old { disk = disk }) new (began_by pass by at ∷ entries.Broke pass.id reasons.FileTooShort ∷ []) → BeginAnswers tells clock counts old new id by at (Err (faults.Journal kind))
      missing_fell kind fell = short_fell kind 0 gone fell

    -- it can't be looked at
    pub file_answers : (kind : DiskKind) → Recorded (record old { disk = disk }) new (began_by pass by at ∷ entries.Broke pass.id (reason_of_file kind) ∷ []) → BeginAnswers tells clock counts old new id by at (Err (faults.File kind))
    file_answers kind recorded = record {
      item = s.item;
      there = s.there;
      is = (kept, subst (Recorded old new) (two (reason_of_file kind)) (from_disk old new disk (began_by pass by at ∷ entries.Broke pass.id (reason_of_file kind) ∷ []) [] false recorded));
    }

    pub file_fell : (failed kind : DiskKind) → Rose (counts old.disk failed) (counts new.disk failed) → Fell (record old { disk = disk }) new (began_by pass by at ∷ entries.Broke pass.id (reason_of_file failed) ∷ []) → BeginAnswers tells clock counts old new id by at (Err (faults.Journal kind))
    file_fell failed kind rose fell =
        journal kind (entries.Broke s.item.id (reason_of_file failed) ∷ [])
        (inr (told, inr (record { entry = entries.Broke s.item.id (reason_of_file failed); is = record { kind = failed; rose = rose; is = refl }; one = refl })))
        (subst (Fell old new) (two (reason_of_file failed)) (fell_disk (began_by pass by at ∷ entries.Broke pass.id (reason_of_file failed) ∷ []) fell))
