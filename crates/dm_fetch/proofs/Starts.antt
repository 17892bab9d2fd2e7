-- What `begin` leaves of an attempt.
use Rattle.std.proofs.Common.{◌≡◌, ◌⊎◌, inl, inr, ◌≤◌, ℕ, Bool, true, false, IsTrue, List, [], ◌∷◌, ◌++◌, length, Some, Err, refl, sym, ◌∙◌, ap, subst, arith, append_assoc}
use Rattle.std.specs.Prelude.{IfSome}
use Rattle.std.proofs.lemmas.List.{append-nil}
use Rattle.dm_types.specs.Faults.{Rose}
use Rattle.dm_types.specs.Name.{IsPart, part_name}
use Rattle.dm_types.specs.declared.entry.Entry.{Entry}
use Rattle.dm_types.specs.declared.entry.Entry.TheVariants as entries
use Rattle.dm_types.specs.declared.item.Item.{Item}
use Rattle.dm_types.specs.declared.item.ItemId.{ItemId}
use Rattle.dm_types.specs.declared.kinds.By.{By}
use Rattle.dm_types.specs.declared.kinds.DiskKind.{DiskKind}
use Rattle.dm_types.specs.declared.slices.Slice.{Slice}
use Rattle.dm_disk_model.specs.Disk.{History as Clock}
use Rattle.dm_disk_model.specs.Folder.{Folder, contents_of}
use Rattle.dm_disk_model.specs.Moments.{KeepsFiles}
use Rattle.dm_edge.specs.Wire.{Closed}
use Rattle.dm_edge.specs.declared.fault.NetFault.{NetFault}
use Rattle.dm_policy.specs.Cause.{reason_of_cause}
use Rattle.dm_policy.specs.declared.cause.Cause.{Cause}
use Rattle.dm_policy.specs.declared.cause.Cause.TheVariants as causes
use Rattle.dm_item.specs.Lawful.{History}
use Rattle.dm_item.specs.Listing.{Listing, item_in}
use Rattle.dm_kept.specs.Files.{Says}
use Rattle.dm_store.specs.Becomes.{Becomes, Fell, Recorded}
use Rattle.dm_store.specs.Keeps.{IsDesk}
use Rattle.dm_store.specs.Lives.{begun_life, life_in}
use Rattle.dm_store.specs.View.{View}
use Rattle.dm_store.specs.declared.life.Life.{Life}
use Rattle.dm_store.specs.declared.pass.Pass.{Pass}
use Rattle.dm_answers.proofs.Steps.{becomes_went}
use Rattle.dm_answers.specs.Begin.{BeginAnswers, BeginsTail, IsPartShort, beginning, may_begin, pass_of, too_short}
use Rattle.dm_answers.specs.Faults.{desk_kind}
use Rattle.dm_answers.specs.Frame.{FileBroke}
use Rattle.dm_answers.specs.Running.{RunsWith}
use Rattle.dm_answers.specs.declared.fault.DeskFault.{DeskFault}
use Rattle.dm_answers.specs.declared.fault.DeskFault.TheVariants as faults
use Rattle.dm_attempt.specs.declared.ended.Ended.TheVariants as ended
use Rattle.dm_attempt.specs.Brought.{HasAt}
use Rattle.dm_attempt.specs.Goes.{CallGoes, DeskGoes}
use Rattle.dm_attempt.specs.Live.{DeskOver, IsPlanned, IsSpared, IsTraced, all_entries}
use Rattle.dm_attempt.specs.Shows.{DeskFell, NoCause, ShowsClose}
use Rattle.dm_attempt.specs.Scene.{changed_all}
use Rattle.dm_attempt.specs.Trace.{Broken, untold}
use Rattle.dm_attempt.proofs.Goes.{goes_more}
use Rattle.dm_attempt.proofs.Items.{found_id}
use Rattle.dm_attempt.proofs.Rounds.{life_is}
use Rattle.dm_fetch.specs.Starts.{BeginsLive, StartEnds, failed, not_begun, scene_of}
use Rattle.dm_fetch.proofs.Begun.{begun_attempt, begun_lives, begun_runs, begun_there, none_ran}

module _ {D O : Type 0} (tells : Type 0) (clock : D → Clock) (says : O → Says) (far : D → ℕ) (counts : D → DiskKind → ℕ) (old new : View D O) (call : CallGoes tells clock says far counts IsPart old new) (id : ItemId) (by : By) (at : ℕ) where
  goes : (recorded lost : History) (broken : Bool) → Becomes old new recorded lost broken → DeskGoes tells clock says far counts IsPart old new recorded lost broken
  goes recorded lost broken becomes = record { went = becomes_went old new recorded lost broken becomes; keeps = call.keeps; near = call.near; later = call.later; beside = call.beside }

  module _ (item : Item) (there : item_in id.0 old.items.items ≡ Some item) where
    own : item.id ≡ id
    own = ap (λ (n : ℕ). record { 0 = n }) (found_id id.0 old.items.items item there)

    pub at_own : item_in item.id.0 old.items.items ≡ Some item
    at_own = subst (λ (i : ItemId). item_in i.0 old.items.items ≡ Some item) (sym own) there

    none_planned : (closed : List Closed) (before : NetFault → ℕ) (n : ℕ) → IsPlanned (scene_of old item by at closed before) (untold [] [] n)
    none_planned closed before n = record { saves = tt; rounds = tt; placed = tt }

    -- the attempt runs
    pub begins_live : (pass : Pass) → pass ≡ pass_of item → IsDesk tells clock old → IsTrue (may_begin by item) → Recorded old new (beginning item by at) → (tells → KeepsFiles (clock old.disk) (clock new.disk)) → BeginsLive tells clock says far counts old new by at pass item
    begins_live pass pass_is desk may recorded files closed before n = record {
      goes = subst (λ (h : History). DeskGoes tells clock says far counts IsPart old new h [] false) (sym (append-nil (beginning item by at))) (goes (beginning item by at) [] false recorded);
      pass_is = pass_is;
      runs = subst (λ (p : Pass). RunsWith new p.id p.attempt (IsTraced (scene_of old item by at closed before) (untold [] [] n))) (sym pass_is) (record {
        item = changed_all (beginning item by at) item;
        there = ap (λ (v : Listing). item_in item.id.0 v.items) recorded.items_are ∙ begun_there item by at old.items at_own;
        runs = begun_runs item by at;
        attempt_is = begun_attempt item by at;
        life = begun_life (changed_all (beginning item by at) item);
        lives = ap (λ (l : List Life). life_in item.id.0 l) recorded.lives_are ∙ begun_lives item by at old.items old.lives at_own (none_ran item by at tells clock old desk recorded.whole at_own may);
        is = record { item_is = refl; cover_is = refl; round_is = refl; plan_is = refl };
      });
      planned = none_planned closed before n;
      brought = λ told content start rounds place has.
          let made = changed_all (beginning item by at) item in
          let kept = files told in
          let later = kept.later in
          subst (λ (folder : Folder). HasAt content (contents_of folder (part_name made.id.0 made.epoch.0)) place) (sym (kept.each (clock new.disk).moment later (omega arith))) (start place has);
    }

    -- and no more slices are saved than may be
    pub begins_few : (pass : Pass) → IsDesk tells clock new → BeginsLive tells clock says far counts old new by at pass item → length (changed_all (beginning item by at) item).slices ≤ 64
    begins_few pass desk begins =
        let live = begins [] (λ kind. 0) 0 in
        subst (λ (cover : List Slice). length cover ≤ 64) live.runs.is.cover_is
        (life_is tells clock new pass (IsTraced (scene_of old item by at [] (λ kind. 0)) (untold [] [] 0)) desk live.goes.went.broken_is live.runs).few

    -- the desk recorded why it ends at once
    pub over_at_once : (cause : Cause) → Recorded old new (beginning item by at ++ entries.Broke item.id (reason_of_cause cause) ∷ []) → (closed : List Closed) (before : NetFault → ℕ)
        → DeskOver tells clock says far counts (scene_of old item by at closed before) new (untold [] [] 0) (Broken cause)
    over_at_once cause recorded closed before =
        let scene = scene_of old item by at closed before in
        record {
          goes = goes_more tells clock says far counts IsPart (IsSpared scene (all_entries scene (untold [] [] 0) (Broken cause))) (λ name part. inl part) old new (all_entries scene (untold [] [] 0) (Broken cause)) [] false
              (goes (beginning item by at ++ entries.Broke item.id (reason_of_cause cause) ∷ []) [] false recorded);
          planned = none_planned closed before 0;
        }

    -- the journal failed at one of these
    fell_at_once : (cause : Cause) (tries more : History) → Fell old new tries → (closed : List Closed) (before : NetFault → ℕ) → tries ++ more ≡ all_entries (scene_of old item by at closed before) (untold [] [] 0) (Broken cause)
        → ShowsClose false tells clock says far counts (scene_of old item by at closed before) new (untold [] [] 0) NoCause (Broken cause) → DeskFell false tells clock says far counts (scene_of old item by at closed before) new (untold [] [] 0) NoCause
    fell_at_once cause tries more fell closed before is shows =
        let scene = scene_of old item by at closed before in
        let parts : (fell.recorded ++ fell.entry ∷ fell.rest) ++ more ≡ (fell.recorded ++ fell.entry ∷ []) ++ (fell.rest ++ more) = simp append_assoc in
        record {
          after = untold [] [] 0;
          led_is = refl;
          lost_is = refl;
          rounds_are = refl;
          told_is = inl refl;
          close = Broken cause;
          seen = [];
          shows = shows;
          recorded = fell.recorded;
          failed = fell.entry ∷ [];
          rest = fell.rest ++ more;
          unpublished = λ none. absurd (let e = none in cc);
          is = sym is ∙ ap (λ (h : History). h ++ more) fell.tries_are ∙ parts;
          goes = goes_more tells clock says far counts IsPart (IsSpared scene fell.recorded) (λ name part. inl part) old new fell.recorded (fell.entry ∷ []) true (goes fell.recorded (fell.entry ∷ []) true fell.becomes);
          planned = none_planned closed before 0;
        }

    pub fell_behind : (behind : History) → BeginsTail tells clock counts old.disk new.disk item behind → Fell old new (beginning item by at ++ behind) → (closed : List Closed) (before : NetFault → ℕ)
        → DeskFell false tells clock says far counts (scene_of old item by at closed before) new (untold [] [] 0) NoCause
    fell_behind behind (inl none) fell closed before =
        fell_at_once causes.Memory (beginning item by at ++ behind) (entries.Broke item.id (reason_of_cause causes.Memory) ∷ []) fell closed before
        (ap (λ (h : History). (beginning item by at ++ h) ++ entries.Broke item.id (reason_of_cause causes.Memory) ∷ []) none ∙ ap (λ (h : History). h ++ entries.Broke item.id (reason_of_cause causes.Memory) ∷ []) (append-nil (beginning item by at)))
        (inl refl)
    fell_behind behind (inr why) fell closed before = by_why why.1
      where
        by_why : ((behind ≡ too_short item.id) × IsPartShort tells clock old.disk item) ⊎ FileBroke (counts old.disk) (counts new.disk) item.id behind → DeskFell false tells clock says far counts (scene_of old item by at closed before) new (untold [] [] 0) NoCause
        by_why (inl short) =
            fell_at_once (causes.PartShort short.1.have short.1.wanted) (beginning item by at ++ behind) [] fell closed before
            (append-nil (beginning item by at ++ behind) ∙ ap (λ (h : History). beginning item by at ++ h) short.0)
            (inr (inr (inr (inr (record { have = short.1.have; wanted = short.1.wanted; is = refl; short = short.1.is; untold = refl; none = refl })))))
        by_why (inr file) =
            fell_at_once (causes.File file.is.kind) (beginning item by at ++ behind) [] fell closed before
            (append-nil (beginning item by at ++ behind) ∙ ap (λ (h : History). beginning item by at ++ h) (file.one ∙ ap (λ (e : Entry). e ∷ []) file.is.is))
            (inr (inr (inl (record { kind = file.is.kind; is = refl; rose = file.is.rose }))))

  -- why no attempt runs
  pub begin_fails : (fault : DeskFault) → BeginAnswers tells clock counts old new id by at (Err fault) → IfSome (desk_kind fault) (λ kind. Rose (counts old.disk kind) (counts new.disk kind)) → StartEnds tells clock says far counts old new id by at (ended.Fault fault)
  begin_fails faults.Broken answer rose = not_begun faults.Broken refl answer
  begin_fails (faults.NoItem other) answer rose = not_begun (faults.NoItem other) refl answer
  begin_fails (faults.WrongState phase) answer rose = not_begun (faults.WrongState phase) refl answer
  begin_fails faults.NoMemory answer rose = not_begun faults.NoMemory refl answer
  begin_fails (faults.File kind) answer rose = failed (faults.File kind) refl (record {
    item = answer.item;
    there = answer.there;
    is = record { ends = λ closed before. (rose, ([], over_at_once answer.item answer.there (causes.File kind) answer.is.1 closed before)) };
  })
  begin_fails (faults.Journal kind) answer rose = failed (faults.Journal kind) refl (record {
    item = answer.item;
    there = answer.there;
    is = record { ends = λ closed before. (rose, fell_behind answer.item answer.there answer.is.1.behind answer.is.1.is answer.is.1.fell closed before) };
  })
  begin_fails (faults.Stale attempt round) answer rose = absurd answer
  begin_fails (faults.NotNext place) answer rose = absurd answer
  begin_fails (faults.PastEnd end) answer rose = absurd answer
  begin_fails (faults.CheckpointDue bytes) answer rose = absurd answer
  begin_fails (faults.ItemsFull count) answer rose = absurd answer
  begin_fails (faults.WordTaken other) answer rose = absurd answer
  begin_fails (faults.Damaged place) answer rose = absurd answer
