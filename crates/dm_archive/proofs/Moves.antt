-- A list of which one item after another is moved to the history.
use Rattle.std.proofs.Common.{◌≡◌, ◌⊎◌, inl, inr, ℕ, ◌+◌, ◌-◌, ◌<◌, Bool, true, false, List, [], ◌∷◌, ◌++◌, drop, length, Some, refl, sym, ◌∙◌, ap, subst, arith, append_assoc}
use Rattle.std.specs.Prelude.{Ok, Err}
use Rattle.std.proofs.lemmas.Bool.{false≢true}
use Rattle.std.proofs.lemmas.List.{append-nil, length-append}
use Rattle.std.proofs.Math.Seq.{drop-append_seam}
use Rattle.dm_types.specs.Faults.{NoneFell}
use Rattle.dm_types.specs.declared.entry.Entry.TheVariants as entries
use Rattle.dm_types.specs.declared.item.Item.{Item}
use Rattle.dm_types.specs.declared.kinds.DiskKind.{DiskKind}
use Rattle.dm_disk_model.specs.Disk.{DiskState, History as Clock, now}
use Rattle.dm_disk_model.specs.Moments.{KeepsFiles, Throughout}
use Rattle.dm_disk_model.proofs.Reaching.{at_start, weaker}
use Rattle.dm_item.specs.Kept.{IsNumbered}
use Rattle.dm_item.specs.Lawful.{History, IsOf, items_of}
use Rattle.dm_item.specs.Listing.{Admits, Listing, item_in, without}
use Rattle.dm_item.proofs.Numbers.{numbered-without}
use Rattle.dm_item.proofs.Shorts.{numbered_of}
use Rattle.dm_journal.proofs.Calls.{keeps_then as files_then}
use Rattle.dm_kept.specs.Files.{Says}
use Rattle.dm_kept.specs.Kept.{Kept}
use Rattle.dm_kept.specs.Recovery.{Found, Through}
use Rattle.dm_kept.proofs.Entered.{entered_is, items_are}
use Rattle.dm_kept.proofs.Lists.{without_beside, without_here}
use Rattle.dm_kept.proofs.Resting.{kept_weaker, sits_kept}
use Rattle.dm_store.specs.Becomes.{Becomes, Recorded}
use Rattle.dm_store.specs.Keeps.{Goes, HoldsOf, IsDesk, Keeps, StaysNear, added}
use Rattle.dm_store.specs.Lives.{covers_of}
use Rattle.dm_store.specs.View.{View}
use Rattle.dm_store.proofs.Composing.{becomes_then, near_then}
use Rattle.dm_store.proofs.Keeping.{at_rest, keeps_same, keeps_then}
use Rattle.dm_store.proofs.Saved.{later_then}
use Rattle.dm_land.proofs.Steps.{recorded_none}
use Rattle.dm_answers.specs.declared.fault.DeskFault.TheVariants as desks
use Rattle.dm_hist.specs.declared.keeper.KeeperFault.{KeeperFault}
use Rattle.dm_hist.specs.declared.row.Row.{Row}
use Rattle.dm_hist.specs.Rows.{AreRows, with_row}
use Rattle.dm_hist.specs.Shown.{row_of_item}
use Rattle.dm_shown.specs.Shows.{ShowTheSame}
use Rattle.dm_shown.proofs.Once.{Stay, archive_stays, put_here, put_stays, show_the_same, stay_same}
use Rattle.dm_archive.specs.declared.fault.ArchiveFault.{ArchiveFault}
use Rattle.dm_archive.specs.declared.fault.ArchiveFault.TheVariants as faults
use Rattle.dm_archive.specs.Leaving.{MoveAnswers, next_over}
use Rattle.dm_archive.specs.Moving.{ArchiveAnswers, Leave, archives, overs, put_all}
use Rattle.dm_archive.specs.Stops.{EachStop, ShowsEachOnce, begins, disk_goes_on, rows_change}
use Rattle.dm_archive.proofs.Nexts.{found_there, length_without, overs_first, overs_none}

-- the rows with those of more items
put_all_then : (first second : List Item) (rows : List Row) → put_all (first ++ second) rows ≡ put_all second (put_all first rows)
put_all_then [] second rows = refl
put_all_then (item ∷ first) second rows = put_all_then first second (with_row (row_of_item item) rows)

archives_then : (first second : List Item) → archives (first ++ second) ≡ archives first ++ archives second
archives_then [] second = refl
archives_then (item ∷ first) second = ap (λ (h : History). entries.Archived item.id ∷ h) (archives_then first second)

-- The list of a desk, as it is numbered.
desk_numbered : {D O : Type 0} {tells : Type 0} {clock : D → Clock} (desk : View D O) → IsDesk tells clock desk → IsNumbered 1 desk.items.items desk.items.next
desk_numbered desk is = numbered_of (is.founded.before ++ desk.list) desk.items is.founded.items

-- So far: the first items that go are moved.
pub record SoFar {D O : Type 0} (tells : Type 0) (told : Type 0) (clock : D → Clock) (counts : D → DiskKind → ℕ) (far : D → ℕ) (says : O → Says) (start present : View D O) (rows rows' : List Row) (fails fails' : KeeperFault → ℕ) : Type 0 where
  pub done : List Item
  pub all : done ++ overs present.items.items ≡ overs start.items.items
  pub size : length done + length present.items.items ≡ length start.items.items
  pub level : present.broken ≡ start.broken
  pub idle : start.broken ≡ true → (present ≡ start) × (done ≡ [])
  pub went : start.broken ≡ false → Recorded start present (archives done)
  pub rows_are : told → rows' ≡ put_all done rows
  pub rising : told → AreRows rows → AreRows rows'
  pub stay : told → Stay start.items.items rows present.items.items rows'
  pub stops : tells → told → AreRows rows → start.broken ≡ false → (good : Bool) (before : History) → HoldsOf good (says start.origin) clock start before
      → EachStop (ShowsEachOnce good (says start.origin) start.items.items rows) (clock start.disk) rows (clock present.disk) rows'
  pub keeps : Keeps tells clock says start present
  pub files : tells → KeepsFiles (clock start.disk) (clock present.disk)
  pub later : NoneFell (counts start.disk) (counts present.disk)
  pub fewer : NoneFell fails fails'
  pub near : StaysNear (far start.disk) (far present.disk) start present

module _ {D O : Type 0} (tells : Type 0) (told : Type 0) (clock : D → Clock) (counts : D → DiskKind → ℕ) (far : D → ℕ) (says : O → Says) where
  -- what a desk that isn't broken shows now, whatever a crash leaves
  shows_now : (good : Bool) (said : Says) (start desk : View D O) (before : History) (rows rows' : List Row) → IsDesk tells clock start → IsDesk tells clock desk → desk.broken ≡ false → AreRows rows → AreRows rows'
      → HoldsOf good said clock desk before → Stay start.items.items rows desk.items.items rows' → ShowsEachOnce good said start.items.items rows (now (clock desk.disk)) rows'
  shows_now good said start desk before rows rows' of_start of_desk whole are are' holds stay =
      let same : ShowTheSame start.items.items rows desk.items.items rows' =
      show_the_same 1 start.items.next start.items.items (desk_numbered start of_start) rows are.rising 1 desk.items.next desk.items.items (desk_numbered desk of_desk) rows' are'.rising stay in
      kept_weaker good said (Through before []) (λ (found : Found). ShowTheSame start.items.items rows found.items rows') (now (clock desk.disk))
      (λ found is. subst (λ (items : List Item). ShowTheSame start.items.items rows items rows') (items_are before desk.items holds.items ∙ sym (ap (λ (f : Found). f.items) is)) same)
      (sits_kept good said before [] desk.gate (covers_of desk.lives) (now (clock desk.disk)) (at_rest good said clock desk before whole holds))

  pub moves_start : (desk : View D O) (rows : List Row) (fails : KeeperFault → ℕ) → IsDesk tells clock desk → SoFar tells told clock counts far says desk desk rows rows fails fails
  moves_start desk rows fails is = record {
    done = [];
    all = refl;
    size = omega arith;
    level = refl;
    idle = λ broken. (refl, refl);
    went = λ whole. recorded_none desk whole (is.failed whole);
    rows_are = λ sees. refl;
    rising = λ sees are. are;
    stay = λ sees. stay_same desk.items.items rows;
    stops = λ sees knows are whole good before holds. begins (shows_now good (says desk.origin) desk desk before rows rows is is whole are are holds (stay_same desk.items.items rows));
    keeps = keeps_same tells clock says desk desk refl;
    files = λ sees. at_start (clock desk.disk) (λ (d : DiskState). d.files ≡ (now (clock desk.disk)).files) refl;
    later = λ kind. omega arith;
    fewer = λ kind. omega arith;
    near = λ short. refl;
  }

  module _ (start present : View D O) (rows rows' : List Row) (fails fails' : KeeperFault → ℕ) (of_start : IsDesk tells clock start) (of_present : IsDesk tells clock present)
      (so_far : SoFar tells told clock counts far says start present rows rows' fails fails') where
    numbered : IsNumbered 1 present.items.items present.items.next
    numbered = desk_numbered present of_present

    was_whole : present.broken ≡ false → start.broken ≡ false
    was_whole whole = sym so_far.level ∙ whole

    module _ (item : Item) (is : next_over present.items.items ≡ Some item) where
      there : item_in item.id.0 present.items.items ≡ Some item
      there = found_there 1 present.items.next present.items.items item numbered is

      more : overs present.items.items ≡ item ∷ overs (without item.id.0 present.items.items)
      more = overs_first 1 present.items.next present.items.items item numbered is

      -- the items that go are those that were moved, this one, and the rest
      pub are_all : overs start.items.items ≡ so_far.done ++ item ∷ overs (without item.id.0 present.items.items)
      are_all = sym so_far.all ∙ ap (λ (items : List Item). so_far.done ++ items) more

      abbrev behind : List Row
      behind = with_row (row_of_item item) rows'

      -- Its row is put.
      put_stay : told → Stay start.items.items rows present.items.items behind
      put_stay sees = put_stays start.items.items rows present.items.items rows' (so_far.stay sees) item there

      put_rows : told → behind ≡ put_all (so_far.done ++ item ∷ []) rows
      put_rows sees = ap (with_row (row_of_item item)) (so_far.rows_are sees) ∙ sym (put_all_then so_far.done (item ∷ []) rows)

      holds_now : tells → (good : Bool) (before : History) → HoldsOf good (says start.origin) clock start before → HoldsOf good (says start.origin) clock present (before ++ added start present)
      holds_now sees good before holds = (so_far.keeps sees good before holds).holds

      put_stops : AreRows behind → tells → told → AreRows rows → start.broken ≡ false → (good : Bool) (before : History) → HoldsOf good (says start.origin) clock start before
          → EachStop (ShowsEachOnce good (says start.origin) start.items.items rows) (clock start.disk) rows (clock present.disk) behind
      put_stops are' sees knows are whole good before holds =
          rows_change (clock present.disk) rows' behind (so_far.stops sees knows are whole good before holds)
          (shows_now good (says start.origin) start present (before ++ added start present) rows behind of_start of_present (so_far.level ∙ whole) are are' (holds_now sees good before holds) (put_stay knows))

      -- It goes, or its entry fails.
      module _ (next : View D O) (keeps : Keeps tells clock says present next) where
        gone_stay : told → Stay start.items.items rows (without item.id.0 present.items.items) behind
        gone_stay sees =
            archive_stays start.items.items rows present.items.items behind (put_stay sees) item there (without item.id.0 present.items.items)
            (without_here item.id.0 1 present.items.next present.items.items numbered)
            (λ id apart. without_beside id item.id.0 apart present.items.items)
            (put_here (row_of_item item) rows')

        leads : (b : History) → AreRows rows → AreRows behind → told → IsOf b present.items → items_of (b ++ entries.Archived item.id ∷ []) ≡ without item.id.0 present.items.items
            → (found : Found) → Through b (entries.Archived item.id ∷ []) found → ShowTheSame start.items.items rows found.items behind
        leads b are are' sees is_of second found (inl first) =
            subst (λ (items : List Item). ShowTheSame start.items.items rows items behind) (items_are b present.items is_of ∙ sym (ap (λ (f : Found). f.items) first))
            (show_the_same 1 start.items.next start.items.items (desk_numbered start of_start) rows are.rising 1 present.items.next present.items.items numbered behind are'.rising (put_stay sees))
        leads b are are' sees is_of second found (inr last) =
            subst (λ (items : List Item). ShowTheSame start.items.items rows items behind) (sym second ∙ sym (ap (λ (f : Found). f.items) last))
            (show_the_same 1 start.items.next start.items.items (desk_numbered start of_start) rows are.rising 1 present.items.next (without item.id.0 present.items.items)
            (numbered-without item.id.0 1 present.items.items present.items.next numbered) behind are'.rising (gone_stay sees))

        pub move_stops : present.broken ≡ false → added present next ++ next.failed ≡ entries.Archived item.id ∷ []
            → ((b : History) → IsOf b present.items → items_of (b ++ entries.Archived item.id ∷ []) ≡ without item.id.0 present.items.items)
            → AreRows behind → tells → told → AreRows rows → start.broken ≡ false → (good : Bool) (before : History) → HoldsOf good (says start.origin) clock start before
            → EachStop (ShowsEachOnce good (says start.origin) start.items.items rows) (clock start.disk) rows (clock next.disk) behind
        move_stops sound tried second are' sees knows are whole good before holds =
            let b : History = before ++ added start present in
            let held : HoldsOf good (says start.origin) clock present b = holds_now sees good before holds in
            let origin : present.origin ≡ start.origin = (so_far.went whole).origin in
            let goes : Goes good (says present.origin) clock present next b (added present next) = keeps sees good b (subst (λ (o : O). HoldsOf good (says o) clock present b) (sym origin) held) in
            let moments : Throughout (clock present.disk) (clock next.disk) (Kept good (says start.origin) (Through b (entries.Archived item.id ∷ []))) =
            subst (λ (o : O). Throughout (clock present.disk) (clock next.disk) (Kept good (says o) (Through b (entries.Archived item.id ∷ [])))) origin
            (subst (λ (h : History). Throughout (clock present.disk) (clock next.disk) (Kept good (says present.origin) (Through b h))) tried goes.moments) in
            disk_goes_on (clock present.disk) (clock next.disk) behind (put_stops are' sees knows are whole good before holds)
            (weaker (clock present.disk) (clock next.disk) (Kept good (says start.origin) (Through b (entries.Archived item.id ∷ []))) (λ disk. ShowsEachOnce good (says start.origin) start.items.items rows disk behind)
            (λ disk. kept_weaker good (says start.origin) (Through b (entries.Archived item.id ∷ [])) (λ (found : Found). ShowTheSame start.items.items rows found.items behind) disk
            (leads b are are' knows held.items (second b held.items)))
            moments)

      -- It was moved.
      module _ (next : View D O) (rows2 : List Row) (fails2 : KeeperFault → ℕ) (makes : Recorded present next (entries.Archived item.id ∷ [])) (put : told → rows2 ≡ behind) (rising : told → AreRows rows' → AreRows rows2) where
        next_items : next.items.items ≡ without item.id.0 present.items.items
        next_items = ap (λ (v : Listing). v.items) makes.items_are

        tried_one : added present next ++ next.failed ≡ entries.Archived item.id ∷ []
        tried_one =
            ap (λ (h : History). drop (length present.list) h ++ next.failed) makes.list_is ∙ ap (λ (h : History). h ++ next.failed) (drop-append_seam present.list (entries.Archived item.id ∷ []))
            ∙ ap (λ (h : History). entries.Archived item.id ∷ h) makes.failed_is

        second_one : (b : History) → IsOf b present.items → items_of (b ++ entries.Archived item.id ∷ []) ≡ without item.id.0 present.items.items
        second_one b is_of = sym (items_are (b ++ entries.Archived item.id ∷ []) next.items (makes.lawful b is_of)) ∙ next_items

        pub fewer_left : length (overs next.items.items) < length (overs present.items.items)
        fewer_left = let left = ap (λ (items : List Item). length (overs items)) next_items in let size = ap length more in omega (arith, left, size)

        pub moves_next : Keeps tells clock says present next → (tells → KeepsFiles (clock present.disk) (clock next.disk)) → NoneFell (counts present.disk) (counts next.disk) → NoneFell fails' fails2
            → StaysNear (far present.disk) (far next.disk) present next → SoFar tells told clock counts far says start next rows rows2 fails fails2
        moves_next keeps files later fewer near =
            let whole : start.broken ≡ false = was_whole makes.whole in
            let went : Recorded start present (archives so_far.done) = so_far.went whole in
            record {
              done = so_far.done ++ item ∷ [];
              all = append_assoc so_far.done (item ∷ []) (overs next.items.items) ∙ ap (λ (items : List Item). so_far.done ++ item ∷ overs items) next_items ∙ sym are_all;
              size = let long = length-append so_far.done (item ∷ []) in let left = ap (λ (items : List Item). length items) next_items in let one = length_without item.id.0 present.items.items item there in let old = so_far.size in omega (arith, long, left, one, old);
              level = makes.broken_is ∙ sym makes.whole ∙ so_far.level;
              idle = λ broken. absurd (false≢true (sym whole ∙ broken));
              went = λ sound. subst (λ (h : History). Recorded start next h) (sym (archives_then so_far.done (item ∷ []))) (becomes_then start present next (archives so_far.done) went (entries.Archived item.id ∷ []) [] false makes);
              rows_are = λ sees. put sees ∙ put_rows sees;
              rising = λ sees are. rising sees (so_far.rising sees are);
              stay = λ sees. subst (λ (items : List Item). Stay start.items.items rows items rows2) (sym next_items) (subst (λ (r : List Row). Stay start.items.items rows (without item.id.0 present.items.items) r) (sym (put sees)) (gone_stay next keeps sees));
              stops = λ sees knows are sound good before holds.
                  subst (λ (r : List Row). EachStop (ShowsEachOnce good (says start.origin) start.items.items rows) (clock start.disk) rows (clock next.disk) r) (sym (put knows))
                  (move_stops next keeps makes.whole tried_one second_one (subst AreRows (put knows) (rising knows (so_far.rising knows are))) sees knows are sound good before holds);
              keeps = keeps_then tells clock says start present next so_far.keeps went.origin went.failed_is keeps;
              files = λ sees. files_then (clock start.disk) (clock present.disk) (clock next.disk) (so_far.files sees) (files sees);
              later = later_then (counts start.disk) (counts present.disk) (counts next.disk) so_far.later later;
              fewer = later_then fails fails' fails2 so_far.fewer fewer;
              near = near_then start present next (archives so_far.done) went (entries.Archived item.id ∷ []) (far start.disk) (far present.disk) (far next.disk) makes.list_is so_far.near near;
            }

    -- The next one was moved.
    module _ (next : View D O) (rows2 : List Row) (fails2 : KeeperFault → ℕ) (answers : MoveAnswers told present next rows' rows2 (Ok true)) (rising : told → AreRows rows' → AreRows rows2) where
      pub step_smaller : length (overs next.items.items) < length (overs present.items.items)
      step_smaller = fewer_left answers.item answers.is next rows2 fails2 answers.does.0 answers.does.1 rising

      pub step_next : Keeps tells clock says present next → (tells → KeepsFiles (clock present.disk) (clock next.disk)) → NoneFell (counts present.disk) (counts next.disk) → NoneFell fails' fails2
          → StaysNear (far present.disk) (far next.disk) present next → SoFar tells told clock counts far says start next rows rows2 fails fails2
      step_next = moves_next answers.item answers.is next rows2 fails2 answers.does.0 answers.does.1 rising

    -- A fault came at the next one.
    module _ (next : View D O) (rows2 : List Row) (fault : ArchiveFault) (answers : MoveAnswers told present next rows' rows2 (Err fault)) where
      leave_same : next ≡ present → (broken : Bool) → start.broken ≡ broken → Leave so_far.done start next
      leave_same same true is = inl (record { broken = is; same = same ∙ (so_far.idle is).0 }, (so_far.idle is).1)
      leave_same same false is = inr (subst (λ (v : View D O). Recorded start v (archives so_far.done)) (sym same) (so_far.went is))

      ended : (f : ArchiveFault) → MoveAnswers told present next rows' rows2 (Err f) → ArchiveAnswers told start next rows rows2 (Err f)
      ended faults.Keeper at = record {
        gone = so_far.done;
        item = at.item;
        rest = overs (without at.item.id.0 present.items.items);
        are = are_all at.item at.is;
        is = (leave_same at.does.0 start.broken refl, λ sees. at.does.1 sees ∙ so_far.rows_are sees);
      }
      ended faults.NoMemory at = record {
        gone = so_far.done;
        item = at.item;
        rest = overs (without at.item.id.0 present.items.items);
        are = are_all at.item at.is;
        is = (
          leave_same at.does.0 start.broken refl,
          λ sees. elim (at.does.1 sees) as (λ _. (rows2 ≡ put_all so_far.done rows) ⊎ (rows2 ≡ put_all (so_far.done ++ at.item ∷ []) rows)) [
            | inl same ↦ inl (same ∙ so_far.rows_are sees)
            | inr put ↦ inr (put ∙ put_rows at.item at.is sees)
          ],
        );
      }
      ended (faults.Desk desks.Broken) at =
          let broken : start.broken ≡ true = sym so_far.level ∙ at.does.0.broken in
          record {
            gone = so_far.done;
            item = at.item;
            rest = overs (without at.item.id.0 present.items.items);
            are = are_all at.item at.is;
            is = (
              record { broken = broken; same = at.does.0.same ∙ (so_far.idle broken).0 },
              (so_far.idle broken).1,
              λ sees. at.does.1 sees ∙ put_rows at.item at.is sees ∙ ap (λ (items : List Item). put_all (items ++ at.item ∷ []) rows) (so_far.idle broken).1,
            );
          }
      ended (faults.Desk (desks.Journal kind)) at =
          record {
            gone = so_far.done;
            item = at.item;
            rest = overs (without at.item.id.0 present.items.items);
            are = are_all at.item at.is;
            is = (
              subst (λ (h : History). Becomes start next h (entries.Archived at.item.id ∷ []) true) (append-nil (archives so_far.done))
                  (becomes_then start present next (archives so_far.done) (so_far.went (was_whole at.does.0.whole)) [] (entries.Archived at.item.id ∷ []) true at.does.0),
              λ sees. at.does.1 sees ∙ put_rows at.item at.is sees,
            );
          }
      ended (faults.Desk other) at = absurd at

      -- nothing changed of the desk, or it wasn't broken before
      ended_by : (f : ArchiveFault) → MoveAnswers told present next rows' rows2 (Err f) → (next ≡ present) ⊎ ((present.broken ≡ false) × ((second : History) × (next.list ≡ present.list ++ second)))
      ended_by faults.Keeper at = inl at.does.0
      ended_by faults.NoMemory at = inl at.does.0
      ended_by (faults.Desk desks.Broken) at = inl at.does.0.same
      ended_by (faults.Desk (desks.Journal kind)) at = inr (at.does.0.whole, ([], at.does.0.list_is))
      ended_by (faults.Desk other) at = absurd at

      ended_keeps : Keeps tells clock says present next → (next ≡ present) ⊎ ((present.broken ≡ false) × ((second : History) × (next.list ≡ present.list ++ second))) → Keeps tells clock says start next
      ended_keeps keeps (inl same) = subst (λ (v : View D O). Keeps tells clock says start v) (sym same) so_far.keeps
      ended_keeps keeps (inr went) =
          let recorded : Recorded start present (archives so_far.done) = so_far.went (was_whole went.0) in
          keeps_then tells clock says start present next so_far.keeps recorded.origin recorded.failed_is keeps

      ended_near : StaysNear (far present.disk) (far next.disk) present next → (next ≡ present) ⊎ ((present.broken ≡ false) × ((second : History) × (next.list ≡ present.list ++ second))) → StaysNear (far start.disk) (far next.disk) start next
      ended_near near (inl same) = subst (λ (v : View D O). StaysNear (far start.disk) (far v.disk) start v) (sym same) so_far.near
      ended_near near (inr went) =
          near_then start present next (archives so_far.done) (so_far.went (was_whole went.0)) (went.1).0 (far start.disk) (far present.disk) (far next.disk) (went.1).1 so_far.near near

      -- where nothing of the desk changed, what was shown so far is shown
      same_stops : next ≡ present → (r : List Row) → tells → told → (good : Bool) → EachStop (ShowsEachOnce good (says start.origin) start.items.items rows) (clock start.disk) rows (clock present.disk) r
          → rows2 ≡ r → EachStop (ShowsEachOnce good (says start.origin) start.items.items rows) (clock start.disk) rows (clock next.disk) rows2
      same_stops same r sees knows good each is =
          subst (λ (v : View D O). EachStop (ShowsEachOnce good (says start.origin) start.items.items rows) (clock start.disk) rows (clock v.disk) rows2) (sym same)
          (subst (λ (q : List Row). EachStop (ShowsEachOnce good (says start.origin) start.items.items rows) (clock start.disk) rows (clock present.disk) q) (sym is) each)

      ended_stops : Keeps tells clock says present next → (told → AreRows rows' → AreRows rows2) → (f : ArchiveFault) → MoveAnswers told present next rows' rows2 (Err f) → tells → told → AreRows rows → start.broken ≡ false
          → (good : Bool) (before : History) → HoldsOf good (says start.origin) clock start before
          → EachStop (ShowsEachOnce good (says start.origin) start.items.items rows) (clock start.disk) rows (clock next.disk) rows2
      ended_stops keeps rising faults.Keeper at sees knows are whole good before holds = same_stops at.does.0 rows' sees knows good (so_far.stops sees knows are whole good before holds) (at.does.1 knows)
      ended_stops keeps rising faults.NoMemory at sees knows are whole good before holds =
          elim (at.does.1 knows) as (λ _. EachStop (ShowsEachOnce good (says start.origin) start.items.items rows) (clock start.disk) rows (clock next.disk) rows2) [
            | inl same ↦ same_stops at.does.0 rows' sees knows good (so_far.stops sees knows are whole good before holds) same
            | inr put ↦ same_stops at.does.0 (with_row (row_of_item at.item) rows') sees knows good
                (put_stops at.item at.is (subst AreRows put (rising knows (so_far.rising knows are))) sees knows are whole good before holds) put
          ]
      ended_stops keeps rising (faults.Desk desks.Broken) at sees knows are whole good before holds = absurd (false≢true (sym whole ∙ sym so_far.level ∙ at.does.0.broken))
      ended_stops keeps rising (faults.Desk (desks.Journal kind)) at sees knows are whole good before holds =
          let put : rows2 ≡ with_row (row_of_item at.item) rows' = at.does.1 knows in
          let tried : added present next ++ next.failed ≡ entries.Archived at.item.id ∷ [] =
          ap (λ (h : History). drop (length present.list) h ++ next.failed) at.does.0.list_is ∙ ap (λ (h : History). h ++ next.failed) (drop-append_seam present.list []) ∙ at.does.0.failed_is in
          let admits : Admits present.items (entries.Archived at.item.id) = subst (λ (v : Listing). Admits v (entries.Archived at.item.id)) at.does.0.items_are (at.does.0.may).0 in
          subst (λ (r : List Row). EachStop (ShowsEachOnce good (says start.origin) start.items.items rows) (clock start.disk) rows (clock next.disk) r) (sym put)
          (move_stops at.item at.is next keeps at.does.0.whole tried (λ b is_of. sym (entered_is b (entries.Archived at.item.id) present.items is_of admits))
          (subst AreRows put (rising knows (so_far.rising knows are))) sees knows are whole good before holds)
      ended_stops keeps rising (faults.Desk other) at sees knows are whole good before holds = absurd at

      pub fault_answers : ArchiveAnswers told start next rows rows2 (Err fault)
      fault_answers = ended fault answers

      pub fault_keeps : Keeps tells clock says present next → Keeps tells clock says start next
      fault_keeps keeps = ended_keeps keeps (ended_by fault answers)

      pub fault_near : StaysNear (far present.disk) (far next.disk) present next → StaysNear (far start.disk) (far next.disk) start next
      fault_near near = ended_near near (ended_by fault answers)

      pub fault_stops : Keeps tells clock says present next → (told → AreRows rows' → AreRows rows2) → tells → told → AreRows rows → start.broken ≡ false
          → (good : Bool) (before : History) → HoldsOf good (says start.origin) clock start before
          → EachStop (ShowsEachOnce good (says start.origin) start.items.items rows) (clock start.disk) rows (clock next.disk) rows2
      fault_stops keeps rising = ended_stops keeps rising fault answers

    -- None is left.
    module _ (next : View D O) (rows2 : List Row) (answers : MoveAnswers told present next rows' rows2 (Ok false)) where
      gone_all : so_far.done ≡ overs start.items.items
      gone_all = sym (append-nil so_far.done) ∙ ap (λ (items : List Item). so_far.done ++ items) (sym (overs_none present.items.items answers.0)) ∙ so_far.all

      leave_all : (broken : Bool) → start.broken ≡ broken → Leave (overs start.items.items) start next
      leave_all true is = inl (record { broken = is; same = answers.1 ∙ (so_far.idle is).0 }, sym gone_all ∙ (so_far.idle is).1)
      leave_all false is =
          inr (subst (λ (items : List Item). Recorded start next (archives items)) gone_all (subst (λ (v : View D O). Recorded start v (archives so_far.done)) (sym answers.1) (so_far.went is)))

      pub done_answers : (count : ℕ) → count ≡ length start.items.items - length next.items.items → ArchiveAnswers told start next rows rows2 (Ok count)
      done_answers count is = (
        let size = so_far.size in let all = ap length gone_all in let same = ap (λ (v : View D O). length v.items.items) answers.1 in omega (arith, is, size, all, same),
        leave_all start.broken refl,
        λ sees. answers.2 sees ∙ so_far.rows_are sees ∙ ap (λ (items : List Item). put_all items rows) gone_all,
      )

      pub done_stops : tells → told → AreRows rows → start.broken ≡ false → (good : Bool) (before : History) → HoldsOf good (says start.origin) clock start before
          → EachStop (ShowsEachOnce good (says start.origin) start.items.items rows) (clock start.disk) rows (clock next.disk) rows2
      done_stops sees knows are whole good before holds =
          subst (λ (v : View D O). EachStop (ShowsEachOnce good (says start.origin) start.items.items rows) (clock start.disk) rows (clock v.disk) rows2) (sym answers.1)
          (subst (λ (r : List Row). EachStop (ShowsEachOnce good (says start.origin) start.items.items rows) (clock start.disk) rows (clock present.disk) r) (sym (answers.2 knows))
          (so_far.stops sees knows are whole good before holds))
