-- All items are settled, one after another.
use Rattle.std.proofs.Common.{◌≡◌, ◌≢◌, ◌⊎◌, inl, inr, ℕ, ◌≤◌, Bool, true, false, IsTrue, ◌==◌, List, [], ◌∷◌, ◌++◌, length, drop, Option, Some, None, Err, refl, sym, ◌∙◌, ap, subst, arith}
use Rattle.std.specs.Prelude.{IfSome, IsSome, Contains}
use Rattle.std.specs.Option.{option_map}
use Rattle.std.proofs.lemmas.Bool.{false≢true}
use Rattle.std.proofs.lemmas.List.{append-nil}
use Rattle.std.proofs.Math.Seq.{drop-append_seam}
use Rattle.dm_types.specs.Name.{part_name}
use Rattle.dm_types.specs.declared.entry.Entry.{Entry}
use Rattle.dm_types.specs.declared.entry.Entry.TheVariants as entries
use Rattle.dm_types.specs.declared.item.Item.{Item}
use Rattle.dm_types.specs.declared.item.ItemId.{ItemId}
use Rattle.dm_types.specs.declared.item.Phase.TheVariants as phases
use Rattle.dm_disk_model.specs.declared.place.Place.{Place}
use Rattle.dm_disk_model.specs.Beside.{Besides}
use Rattle.dm_disk_model.specs.Disk.{DiskState, History as Clock, Stands, bytes_at, now}
use Rattle.dm_disk_model.proofs.Beside.{besides_more}
use Rattle.dm_disk_model.proofs.Places.{stands_from}
use Rattle.dm_disk_model.specs.Folder.{Folder, Lists, contents_of, names_of}
use Rattle.dm_item.specs.History.{get}
use Rattle.dm_item.specs.Lawful.{History, items_of}
use Rattle.dm_item.specs.Listing.{Listing, changed_at, item_in}
use Rattle.dm_item.specs.Kept.{IsNumbered}
use Rattle.dm_item.specs.Row.{changed, is_finishing}
use Rattle.dm_item.proofs.Shorts.{numbered_of}
use Rattle.dm_kept.specs.Files.{EachItem, Facts, IfGood, IsSmall, Says}
use Rattle.dm_kept.proofs.Entered.{items_are}
use Rattle.dm_kept.proofs.Flags.{if_is, if_map, if_two}
use Rattle.dm_kept.proofs.Lists.{changed_beside, changed_here, eq_is, eq_not, some_is}
use Rattle.dm_kept.proofs.Ranges.{NamesDiffer, names_differ, small_items}
use Rattle.dm_store.specs.Becomes.{Becomes, Recorded}
use Rattle.dm_store.specs.Keeps.{Goes, HoldsOf, IsDesk, Keeps, StaysNear, added}
use Rattle.dm_store.specs.Lives.{covers_of, part_place}
use Rattle.dm_store.specs.View.{View}
use Rattle.dm_store.proofs.Composing.{becomes_then, near_then}
use Rattle.dm_store.proofs.Keeping.{at_rest, goes_then}
use Rattle.dm_find.specs.declared.hindered.Hindered.{Hindered}
use Rattle.dm_find.specs.declared.hindered.Hindered.TheVariants as hindrances
use Rattle.dm_answers.specs.Settling.{AreDone, AreSettlings, IsSettling, SettledAs, Settles, WasAt, finishing, name_place, settled_of, stands}
use Rattle.dm_settle.specs.Judging.{IsFit, JudgedAs, Judges, LiesWhole, entry_of}
use Rattle.dm_settle.specs.Moving.{AreListed, IsFinishingIn, IsFirstOf, IsListedFor, IsMovingOf}
use Rattle.dm_settle.specs.Settled.{AllMakes, IsPartOrAlone, IsPartOrGiven, IsSettled, IsStopped, IsUnsettled, IsWhole, ItemGoes, ItemMakes, NeverBreaks}
use Rattle.dm_settle.specs.declared.judging.Judged.{Judged}
use Rattle.dm_settle.specs.declared.judging.Judged.TheVariants as judgements
use Rattle.dm_settle.specs.declared.moving.Moving.{Moving}
use Rattle.dm_settle.proofs.Finished.{judged_whole, name_no_part, name_there}
use Rattle.dm_settle.proofs.Frames.{Stood, listed_still, parts_apart, stands_still}
use Rattle.dm_settle.proofs.Lists.{first_there, judged_id, judged_items, judged_over, rest_left}

-- The history goes on.
pub record GoesOn (old new : Clock) : Type 0 where
  pub later : old.moment ≤ new.moment
  pub kept : (t : ℕ) → t ≤ old.moment → new.at t ≡ old.at t

-- What was settled stays settled.

was_later : (start end after : Clock) (place : Place) (P : Option (List ℕ) → Type 0) → GoesOn end after → WasAt start end place P → WasAt start after place P
was_later start end after place P on was = record {
  moment = was.moment;
  from = was.from;
  to = let a = was.to in let b = on.later in omega (arith, a, b);
  is = subst (λ (d : DiskState). P (bytes_at d place)) (sym (on.kept was.moment was.to)) was.is;
}

settled_later : (start end after : Clock) (at : ℕ) (item : Item) (part name : Bool) (entry : Entry) → GoesOn end after → SettledAs start end at item part name entry → SettledAs start after at item part name entry
settled_later start end after at item true true entry on is = is
settled_later start end after at item false false entry on is = is
settled_later start end after at item true false entry on is = was_later start end after (part_place item.id.0 item.epoch.0) (λ found. IsSome found × (entry ≡ settled_of item at found)) on is
settled_later start end after at item false true entry on is = was_later start end after (name_place item) (λ found. entry ≡ settled_of item at found) on is

settling_later : (tells : Type 0) (start end after : Clock) (at : ℕ) (item : Item) (entry : Entry) → (tells → GoesOn end after) → IsSettling tells start end at item entry → IsSettling tells start after at item entry
settling_later tells start end after at item entry on is = record {
  settles = is.settles;
  as_found = λ told. settled_later start end after at item (stands start (part_place item.id.0 item.epoch.0)) (stands start (name_place item)) entry (on told) (is.as_found told);
}

pub settlings_later : (tells : Type 0) (start end after : Clock) (at : ℕ) (items : List Item) (done : History) (left : List Item) → (tells → GoesOn end after) → AreSettlings tells start end at items done left → AreSettlings tells start after at items done left
settlings_later tells start end after at items [] left on is = is
settlings_later tells start end after at [] (entry ∷ more) left on is = absurd is
settlings_later tells start end after at (item ∷ rest) (entry ∷ more) left on is = (settling_later tells start end after at item entry on is.0, settlings_later tells start end after at rest more left on is.1)

-- One more was settled.
pub settlings_push : (tells : Type 0) (start end : Clock) (at : ℕ) (items : List Item) (done : History) (item : Item) (rest : List Item) (entry : Entry) → AreSettlings tells start end at items done (item ∷ rest) → IsSettling tells start end at item entry
    → AreSettlings tells start end at items (done ++ entry ∷ []) rest
settlings_push tells start end at items [] item rest entry is one = subst (λ (list : List Item). AreSettlings tells start end at list (entry ∷ []) rest) is (one, refl)
settlings_push tells start end at [] (first ∷ more) item rest entry is one = absurd is
settlings_push tells start end at (own ∷ others) (first ∷ more) item rest entry is one = (is.0, settlings_push tells start end at others more item rest entry is.1 one)

-- where each was complete, so is each with one more
pub done_push : (done : History) (id : ItemId) (at : ℕ) (judged : Judged) → AreDone done → IsWhole judged → AreDone (done ++ entry_of id at judged ∷ [])
done_push [] id at (judgements.Broken reason) all whole = absurd whole
done_push [] id at (judgements.InPart sum) all whole = tt
done_push [] id at (judgements.Named sum) all whole = tt
done_push (entries.Done other digest moment ∷ more) id at judged all whole = done_push more id at judged all whole
done_push (other ∷ more) id at judged all whole = absurd all

-- Two tests of one fact are the same.
test_same : (a b : Bool) (P : Type 0) → (IsTrue a → P) × (P → IsTrue a) → (IsTrue b → P) × (P → IsTrue b) → a ≡ b
test_same true b P one two = sym (two.1 (one.0 refl))
test_same false true P one two = absurd (false≢true (one.1 (two.0 refl)))
test_same false false P one two = refl

-- How an item was judged is how it was settled, by what stood at the start.
module _ (tells : Type 0) (start here : Clock) (at : ℕ) (names : List (List ℕ)) (listed : tells → Lists (now start).files names) (on : tells → GoesOn start here) (item : Item) (moving : Moving) (is : IsMovingOf item moving) (judged : Judged)
    (judges : Judges tells (now here) names moving judged) (part_stands : tells → Contains names (part_name item.id.0 item.epoch.0) → IsSome (names_of (now here).files (part_name item.id.0 item.epoch.0))) where
  part_same : tells → judges.part_listed ≡ stands start (part_place item.id.0 item.epoch.0)
  part_same told =
      let name = ap (λ (p : Place). p.name) is.part in
      let lists = (listed told).each (part_name item.id.0 item.epoch.0) in
      test_same judges.part_listed (stands start (part_place item.id.0 item.epoch.0)) (Contains names (part_name item.id.0 item.epoch.0))
      (subst (λ (n : List ℕ). (IsTrue judges.part_listed → Contains names n) × (Contains names n → IsTrue judges.part_listed)) name judges.part_is) (lists.1, lists.0)

  name_same : tells → judges.name_listed ≡ stands start (name_place item)
  name_same told =
      let name = ap (λ (p : Place). p.name) is.target in
      let lists = (listed told).each (get item.name []) in
      test_same judges.name_listed (stands start (name_place item)) (Contains names (get item.name []))
      (subst (λ (n : List ℕ). (IsTrue judges.name_listed → Contains names n) × (Contains names n → IsTrue judges.name_listed)) name judges.name_is) (lists.1, lists.0)

  here_at : tells → (place : Place) (P : Option (List ℕ) → Type 0) → P (bytes_at (now here) place) → WasAt start here place P
  here_at told place P holds = record { moment = here.moment; from = (on told).later; to = omega arith; is = holds }

  reads_some : (disk : DiskState) (name : List ℕ) → IsSome (names_of disk.files name) → IsSome (contents_of disk.files name)
  reads_some disk name some = by (names_of disk.files name) some
    where
      by : (found : Option ℕ) → IsSome found → IsSome (option_map (λ number. (disk.files.file number).bytes) found)
      by None none = absurd (false≢true none)
      by (Some number) there = refl

  as_judged : tells → (part name : Bool) → (part ≡ true → IsSome (names_of (now here).files (part_name item.id.0 item.epoch.0))) → JudgedAs (now here) item part name judged → SettledAs start here at item part name (entry_of item.id at judged)
  as_judged told true true stood is_judged = ap (entry_of item.id at) is_judged
  as_judged told false false stood is_judged = ap (entry_of item.id at) is_judged
  as_judged told true false stood is_judged =
      here_at told (part_place item.id.0 item.epoch.0) (λ found. IsSome found × (entry_of item.id at judged ≡ settled_of item at found))
      (reads_some (now here) (part_name item.id.0 item.epoch.0) (stood refl), is_judged at)
  as_judged told false true stood is_judged = here_at told (name_place item) (λ found. entry_of item.id at judged ≡ settled_of item at found) (is_judged at)

  fit_settles : (j : Judged) → IsFit moving.digest j → Settles at item (entry_of item.id at j)
  fit_settles (judgements.Broken reason) fit = (refl, fit)
  fit_settles (judgements.InPart sum) fit = (refl, refl, subst (λ (d : Option (List ℕ)). IfSome d (λ stated. stated ≡ sum)) is.digest fit)
  fit_settles (judgements.Named sum) fit = (refl, refl, subst (λ (d : Option (List ℕ)). IfSome d (λ stated. stated ≡ sum)) is.digest fit)

  pub judged_settles : IsSettling tells start here at item (entry_of moving.id at judged)
  judged_settles = subst (λ (i : ItemId). IsSettling tells start here at item (entry_of i at judged)) (sym is.id) (record {
    settles = fit_settles judged judges.fit;
    as_found = λ told.
        subst (λ (b : Bool). SettledAs start here at item b (stands start (name_place item)) (entry_of item.id at judged)) (part_same told)
        (subst (λ (b : Bool). SettledAs start here at item judges.part_listed b (entry_of item.id at judged)) (name_same told)
        (as_judged told judges.part_listed judges.name_listed
        (λ yes. part_stands told (subst (Contains names) (ap (λ (p : Place). p.name) is.part) (judges.part_is.0 yes)))
        (judges.as_found told item is)));
  })

-- Each part of an item that is being finished that was listed stands.
abbrev pub PartsListed : Folder → List (List ℕ) → List Item → Type 0
PartsListed folder names items =
    EachItem (λ item. item.phase ≡ phases.Finishing → Contains names (part_name item.id.0 item.epoch.0) → IsSome (names_of folder (part_name item.id.0 item.epoch.0))) items

-- So far.
pub record SoFarSettled {D O : Type 0} (tells : Type 0) (clock : D → Clock) (says : O → Says) (start present : View D O) (names : List (List ℕ)) (at : ℕ) : Type 0 where
  pub whole : present.broken ≡ false
  pub done : History
  pub becomes : Recorded start present done
  pub on : tells → GoesOn (clock start.disk) (clock present.disk)
  pub settles : AreSettlings tells (clock start.disk) (clock present.disk) at (finishing start.items.items) done (finishing present.items.items)
  pub goes : tells → (good : Bool) (before : History) → HoldsOf good (says start.origin) clock start before
      → Goes good (says start.origin) clock start present before (added start present) × IfGood good (AreListed (now (clock present.disk)).files names present.items.items)
  pub complete : tells → (before : History) → HoldsOf true (says start.origin) clock start before → AreDone done
  pub parts : tells → PartsListed (now (clock present.disk)).files names present.items.items
  -- those that are left are as they were
  pub same : (id : ℕ) (item : Item) → item_in id present.items.items ≡ Some item → item.phase ≡ phases.Finishing → item_in id start.items.items ≡ Some item

-- what was added is what was recorded
pub added_is : {D O : Type 0} (old new : View D O) (recorded : History) → new.list ≡ old.list ++ recorded → added old new ≡ recorded
added_is old new recorded list = ap (λ (h : History). drop (length old.list) h) list ∙ drop-append_seam old.list recorded

-- at the start
pub settled_start : {D O : Type 0} (tells : Type 0) (clock : D → Clock) (says : O → Says) (start : View D O) (names : List (List ℕ)) (at : ℕ) → (whole : start.broken ≡ false) → Becomes start start [] [] false → (keeps : Keeps tells clock says start start)
    → (tells → Lists (now (clock start.disk)).files names) → SoFarSettled tells clock says start start names at
settled_start tells clock says start names at whole becomes keeps listed = record {
  whole = whole;
  done = [];
  becomes = becomes;
  on = λ told. record { later = omega arith; kept = λ t le. refl };
  settles = refl;
  goes = λ told good before holds. (
    keeps told good before holds,
    if_is good (AreListed (now (clock start.disk)).files names start.items.items) (λ id item there finishes. record {
      part = (listed told).each (part_name item.id.0 item.epoch.0);
      name = (listed told).each (get item.name []);
    }),
  );
  complete = λ told before holds. tt;
  parts = λ told id item there finishes contains. ((listed told).each (part_name item.id.0 item.epoch.0)).0 contains;
  same = λ id item there finishes. there;
}

-- One more item is settled.
module _ {D O : Type 0} (tells : Type 0) (clock : D → Clock) (says : O → Says) (start present new : View D O) (names : List (List ℕ)) (at : ℕ) (listed : tells → Lists (now (clock start.disk)).files names) (so_far : SoFarSettled tells clock says start present names at)
    (is_desk : IsDesk tells clock present) (moving : Moving) (first : IsFirstOf present.items.items moving) where
  abbrev pub history : History
  history = is_desk.founded.before ++ present.list

  pub numbered : IsNumbered 1 present.items.items present.items.next
  numbered = numbered_of history present.items is_desk.founded.items

  abbrev pub first_in : IsFinishingIn present.items.items moving
  first_in =
      let found = first_there 1 present.items.next present.items.items first.item first.rest numbered first.first in
      record { item = first.item; there = subst (λ (i : ItemId). item_in i.0 present.items.items ≡ Some first.item) (sym first.is.id) found.there; finishing = found.finishing; is = first.is }

  small : EachItem IsSmall present.items.items
  small =
      subst (EachItem IsSmall) (sym (items_are history present.items is_desk.founded.items)) (small_items history is_desk.founded.items.lawful is_desk.founded.entries)

  -- how it was judged settles it
  pub judged_here : (judged : Judged) → Judges tells (now (clock present.disk)) names moving judged → IsSettling tells (clock start.disk) (clock present.disk) at first.item (entry_of moving.id at judged)
  judged_here judged judges =
      judged_settles tells (clock start.disk) (clock present.disk) at names listed so_far.on first.item moving first.is judged judges
      (λ told contains. so_far.parts told moving.id.0 first.item first_in.there first_in.finishing contains)

  settled_so_far : AreSettlings tells (clock start.disk) (clock present.disk) at (finishing start.items.items) so_far.done (first.item ∷ first.rest)
  settled_so_far = subst (AreSettlings tells (clock start.disk) (clock present.disk) at (finishing start.items.items) so_far.done) first.first so_far.settles

  -- with one entry more, whatever came of it
  pub tried_here : (judged : Judged) → Judges tells (now (clock present.disk)) names moving judged → (after : Clock) → (tells → GoesOn (clock present.disk) after)
      → AreSettlings tells (clock start.disk) after at (finishing start.items.items) (so_far.done ++ entry_of moving.id at judged ∷ []) first.rest
  tried_here judged judges after on =
      settlings_later tells (clock start.disk) (clock present.disk) after at (finishing start.items.items) (so_far.done ++ entry_of moving.id at judged ∷ []) first.rest on
      (settlings_push tells (clock start.disk) (clock present.disk) at (finishing start.items.items) so_far.done first.item first.rest (entry_of moving.id at judged) settled_so_far (judged_here judged judges))

  pub untried_here : (after : Clock) → (tells → GoesOn (clock present.disk) after) → AreSettlings tells (clock start.disk) after at (finishing start.items.items) so_far.done (first.item ∷ first.rest)
  untried_here after on = settlings_later tells (clock start.disk) (clock present.disk) after at (finishing start.items.items) so_far.done (first.item ∷ first.rest) on settled_so_far

  -- of a good disk what was listed of it is what stands
  first_listed : tells → (good : Bool) (before : History) → HoldsOf good (says start.origin) clock start before → IfGood good (IsListedFor (now (clock present.disk)).files names first.item)
  first_listed told good before holds =
      if_map good (AreListed (now (clock present.disk)).files names present.items.items) (IsListedFor (now (clock present.disk)).files names first.item)
      (λ all. all moving.id.0 first.item first_in.there first_in.finishing) (so_far.goes told good before holds).1

  origin_is : present.origin ≡ start.origin
  origin_is = so_far.becomes.origin

  held_here : tells → (good : Bool) (before : History) → HoldsOf good (says start.origin) clock start before → HoldsOf good (says present.origin) clock present (before ++ added start present)
  held_here told good before holds =
      subst (λ (o : O). HoldsOf good (says o) clock present (before ++ added start present)) (sym origin_is) (so_far.goes told good before holds).0.holds

  -- what is kept over both
  pub goes_here : ItemGoes tells clock says present new names first.item → tells → (good : Bool) (before : History) → HoldsOf good (says start.origin) clock start before → Goes good (says start.origin) clock start new before (added start new)
  goes_here goes told good before holds =
      goes_then good (says start.origin) clock start present new before (so_far.goes told good before holds).0 so_far.becomes.failed_is
      (subst (λ (o : O). Goes good (says o) clock present new (before ++ added start present) (added present new)) origin_is
      (goes told good (before ++ added start present) (held_here told good before holds) (first_listed told good before holds)))

  -- of a good disk it is whole
  pub whole_here : (judged : Judged) → Judges tells (now (clock present.disk)) names moving judged → tells → (before : History) → HoldsOf true (says start.origin) clock start before → IsWhole judged
  whole_here judged judges told before holds =
      let said = says present.origin in
      let held = held_here told true before holds in
      let sits = at_rest true said clock present (before ++ added start present) so_far.whole held in
      judged_whole present.items (before ++ added start present) held.items moving.id.0 first.item first_in.there first_in.finishing said (covers_of present.lives) (now (clock present.disk)) sits.rests.facts tells told names moving judged first.is
      (first_listed told true before holds) judges

  pub complete_here : (judged : Judged) → Judges tells (now (clock present.disk)) names moving judged → tells → (before : History) → HoldsOf true (says start.origin) clock start before → AreDone (so_far.done ++ entry_of moving.id at judged ∷ [])
  complete_here judged judges told before holds = done_push so_far.done moving.id at judged (so_far.complete told before holds) (whole_here judged judges told before holds)

  -- It was settled.
  module _ (settled : IsSettled tells clock present new names at moving) (on : tells → GoesOn (clock present.disk) (clock new.disk)) (goes : ItemGoes tells clock says present new names first.item) where
    items_new : new.items.items ≡ changed_at (entry_of moving.id at settled.judged) moving.id.0 present.items.items
    items_new = ap (λ (v : Listing). v.items) settled.becomes.items_are ∙ judged_items moving.id at settled.judged present.items

    pub left_new : finishing new.items.items ≡ first.rest
    left_new =
        ap finishing (items_new ∙ ap (λ (i : ItemId). changed_at (entry_of moving.id at settled.judged) i.0 present.items.items) first.is.id)
        ∙ rest_left (entry_of moving.id at settled.judged) 1 present.items.next present.items.items first.item first.rest numbered first.first (judged_over moving.id at settled.judged)

    -- another item that is being finished was there before
    other_there : (id : ℕ) (item : Item) → item_in id new.items.items ≡ Some item → item.phase ≡ phases.Finishing → (id ≢ moving.id.0) × (item_in id present.items.items ≡ Some item)
    other_there id item there finishes = by (id == moving.id.0) refl
      where
        there_changed : item_in id (changed_at (entry_of moving.id at settled.judged) moving.id.0 present.items.items) ≡ Some item
        there_changed = subst (λ (list : List Item). item_in id list ≡ Some item) items_new there

        by : (test : Bool) → (id == moving.id.0) ≡ test → (id ≢ moving.id.0) × (item_in id present.items.items ≡ Some item)
        by false apart = (
          eq_not id moving.id.0 apart,
          sym (changed_beside (entry_of moving.id at settled.judged) moving.id.0 (judged_id moving.id at settled.judged) id (eq_not id moving.id.0 apart) present.items.items) ∙ there_changed,
        )
        by true same =
            let at_it : item_in moving.id.0 (changed_at (entry_of moving.id at settled.judged) moving.id.0 present.items.items) ≡ Some item =
            subst (λ (n : ℕ). item_in n (changed_at (entry_of moving.id at settled.judged) moving.id.0 present.items.items) ≡ Some item) (eq_is id moving.id.0 same) there_changed in
            let is_it : changed (entry_of moving.id at settled.judged) first.item ≡ item =
            some_is (changed (entry_of moving.id at settled.judged) first.item) item
            (sym (changed_here (entry_of moving.id at settled.judged) moving.id.0 (judged_id moving.id at settled.judged) present.items.items ∙ ap (option_map (changed (entry_of moving.id at settled.judged))) first_in.there) ∙ at_it) in
            absurd (false≢true (sym (judged_over moving.id at settled.judged first.item) ∙ ap (λ (i : Item). is_finishing i.phase) is_it ∙ ap is_finishing finishes))

    stood : tells → Stood (now (clock present.disk)).files moving settled.judged
    stood told = by settled.judged (settled.judges.lies told)
      where
        by : (judged : Judged) → LiesWhole (now (clock present.disk)) moving judged → Stood (now (clock present.disk)).files moving judged
        by (judgements.Broken reason) lies = tt
        by (judgements.Named sum) lies = tt
        by (judgements.InPart sum) lies =
            subst (λ (p : Place). IsSome (names_of (now (clock present.disk)).files p.name)) (sym first.is.part)
            (subst (Stands (now (clock present.disk))) first.is.part (stands_from (now (clock present.disk)) moving.part lies.bytes lies.is))

    listed_new : tells → (good : Bool) (before : History) → HoldsOf good (says start.origin) clock start before → IfGood good (AreListed (now (clock new.disk)).files names new.items.items)
    listed_new told good before holds =
        let said = says present.origin in
        let covers = covers_of present.lives in
        let disk = now (clock present.disk) in
        let held = held_here told good before holds in
        let longer = before ++ added start present in
        let sits = at_rest good said clock present longer so_far.whole held in
        let differ : NamesDiffer present.items.items = names_differ longer present.items held.items in
        if_two good (Facts said covers (items_of longer) disk.files) (AreListed disk.files names present.items.items) (AreListed (now (clock new.disk)).files names new.items.items)
        (λ facts all id item there finishes.
        let was = other_there id item there finishes in
        listed_still present.items.items small first.item moving.id.0 first_in.there moving first.is differ first_in.finishing
        (name_there present.items longer held.items moving.id.0 first.item first_in.there first_in.finishing)
        (name_no_part present.items longer held.items moving.id.0 first.item first_in.there first_in.finishing said covers disk facts)
        settled.judged disk.files (now (clock new.disk)).files names (settled.leaves told) id item was.0 was.1 finishes
        (name_there present.items longer held.items id item was.1 finishes)
        (name_no_part present.items longer held.items id item was.1 finishes said covers disk facts)
        (all id item was.1 finishes)) sits.rests.facts (so_far.goes told good before holds).1

    pub settled_more : SoFarSettled tells clock says start new names at
    settled_more = record {
      whole = settled.becomes.broken_is;
      done = so_far.done ++ entry_of moving.id at settled.judged ∷ [];
      becomes = becomes_then start present new so_far.done so_far.becomes (entry_of moving.id at settled.judged ∷ []) [] false settled.becomes;
      on = λ told. record {
        later = let a = (so_far.on told).later in let b = (on told).later in omega (arith, a, b);
        kept = λ t le. (on told).kept t (let a = (so_far.on told).later in omega (arith, le, a)) ∙ (so_far.on told).kept t le;
      };
      settles = subst (AreSettlings tells (clock start.disk) (clock new.disk) at (finishing start.items.items) (so_far.done ++ entry_of moving.id at settled.judged ∷ [])) (sym left_new)
          (tried_here settled.judged settled.judges (clock new.disk) on);
      goes = λ told good before holds. (goes_here goes told good before holds, listed_new told good before holds);
      complete = complete_here settled.judged settled.judges;
      parts = λ told id item there finishes contains.
          let was = other_there id item there finishes in
          stands_still moving settled.judged (now (clock present.disk)).files (now (clock new.disk)).files (settled.leaves told) (part_name item.id.0 item.epoch.0)
          (parts_apart present.items.items small first.item moving.id.0 first_in.there moving first.is id item was.0 was.1) (stood told) (so_far.parts told id item was.1 finishes contains);
      same = λ id item there finishes. so_far.same id item (other_there id item there finishes).1 finishes;
    }

-- Where settling stops.
module _ {D O : Type 0} (tells : Type 0) (clock : D → Clock) (says : O → Says) (start present new : View D O) (names : List (List ℕ)) (at : ℕ) (listed : tells → Lists (now (clock start.disk)).files names) (so_far : SoFarSettled tells clock says start present names at)
    (is_desk : IsDesk tells clock present) (moving : Moving) (first : IsFirstOf present.items.items moving) (on : tells → GoesOn (clock present.disk) (clock new.disk)) where
  none_more : (so_far.done ++ []) ++ [] ≡ so_far.done
  none_more = append-nil (so_far.done ++ []) ∙ append-nil so_far.done

  unsettled_none : Recorded present new [] → IsUnsettled tells clock start new at
  unsettled_none becomes = record {
    recorded = so_far.done ++ [];
    failed = [];
    broken = false;
    becomes = becomes_then start present new so_far.done so_far.becomes [] [] false becomes;
    one = omega arith;
    left = first.item ∷ first.rest;
    settles = subst (λ (h : History). AreSettlings tells (clock start.disk) (clock new.disk) at (finishing start.items.items) h (first.item ∷ first.rest)) (sym none_more)
        (untried_here tells clock says start present new names at listed so_far is_desk moving first (clock new.disk) on);
  }

  unsettled_at : IsStopped tells clock present new names at moving → IsUnsettled tells clock start new at
  unsettled_at stopped = by stopped.stops.tried
    where
      by : (stopped.stops.failed ≡ []) ⊎ (stopped.stops.failed ≡ entry_of moving.id at stopped.judged ∷ []) → IsUnsettled tells clock start new at
      by (inl none) = record {
        recorded = so_far.done ++ [];
        failed = stopped.stops.failed;
        broken = true;
        becomes = becomes_then start present new so_far.done so_far.becomes [] stopped.stops.failed true stopped.stops.becomes;
        one = let none_long = ap (length {A = Entry}) none in omega (arith, none_long);
        left = first.item ∷ first.rest;
        settles = subst (λ (h : History). AreSettlings tells (clock start.disk) (clock new.disk) at (finishing start.items.items) ((so_far.done ++ []) ++ h) (first.item ∷ first.rest)) (sym none)
            (subst (λ (h : History). AreSettlings tells (clock start.disk) (clock new.disk) at (finishing start.items.items) h (first.item ∷ first.rest)) (sym none_more)
            (untried_here tells clock says start present new names at listed so_far is_desk moving first (clock new.disk) on));
      }
      by (inr one) = record {
        recorded = so_far.done ++ [];
        failed = stopped.stops.failed;
        broken = true;
        becomes = becomes_then start present new so_far.done so_far.becomes [] stopped.stops.failed true stopped.stops.becomes;
        one = let one_long = ap (length {A = Entry}) one in omega (arith, one_long);
        left = first.rest;
        settles = subst (λ (h : History). AreSettlings tells (clock start.disk) (clock new.disk) at (finishing start.items.items) ((so_far.done ++ []) ++ h) first.rest) (sym one)
            (subst (λ (h : History). AreSettlings tells (clock start.disk) (clock new.disk) at (finishing start.items.items) (h ++ entry_of moving.id at stopped.judged ∷ []) first.rest) (sym (append-nil so_far.done))
            (tried_here tells clock says start present new names at listed so_far is_desk moving first stopped.judged stopped.judges (clock new.disk) on));
      }

  pub all_failed : (fault : Hindered) → ItemMakes tells clock present new names at moving (Err fault) → AllMakes tells clock start new at (Err fault)
  all_failed (hindrances.Disk kind) (inl becomes) = unsettled_none becomes
  all_failed (hindrances.Disk kind) (inr stopped) = unsettled_at stopped
  all_failed hindrances.NoMemory becomes = (unsettled_none becomes, becomes.failed_is)

  -- what was added then, with what failed
  added_then : (failed : History) (broken : Bool) → Becomes present new [] failed broken → added start new ++ new.failed ≡ so_far.done ++ failed
  added_then failed broken becomes =
      let both = becomes_then start present new so_far.done so_far.becomes [] failed broken becomes in
      ap (λ (h : History). h ++ new.failed) (added_is start new (so_far.done ++ []) both.list_is ∙ append-nil so_far.done) ∙ ap (λ (h : History). so_far.done ++ h) both.failed_is

  done_none : (failed : History) (broken : Bool) → Becomes present new [] failed broken → failed ≡ [] → tells → (before : History) → HoldsOf true (says start.origin) clock start before → AreDone (added start new ++ new.failed)
  done_none failed broken becomes none told before holds =
      subst AreDone (sym (added_then failed broken becomes ∙ ap (λ (h : History). so_far.done ++ h) none ∙ append-nil so_far.done)) (so_far.complete told before holds)

  done_one : (judged : Judged) → Judges tells (now (clock present.disk)) names moving judged → (failed : History) (broken : Bool) → Becomes present new [] failed broken → failed ≡ entry_of moving.id at judged ∷ [] → tells → (before : History)
      → HoldsOf true (says start.origin) clock start before → AreDone (added start new ++ new.failed)
  done_one judged judges failed broken becomes one told before holds =
      subst AreDone (sym (added_then failed broken becomes ∙ ap (λ (h : History). so_far.done ++ h) one))
      (complete_here tells clock says start present new names at listed so_far is_desk moving first judged judges told before holds)

  pub all_never : (fault : Hindered) → ItemMakes tells clock present new names at moving (Err fault) → NeverBreaks tells clock says start new
  all_never (hindrances.Disk kind) (inl becomes) = done_none [] false becomes refl
  all_never (hindrances.Disk kind) (inr stopped) = by stopped.stops.tried
    where
      by : (stopped.stops.failed ≡ []) ⊎ (stopped.stops.failed ≡ entry_of moving.id at stopped.judged ∷ []) → NeverBreaks tells clock says start new
      by (inl none) = done_none stopped.stops.failed true stopped.stops.becomes none
      by (inr one) = done_one stopped.judged stopped.judges stopped.stops.failed true stopped.stops.becomes one
  all_never hindrances.NoMemory becomes = done_none [] false becomes refl

  -- the count of far writes, whatever was answered
  pub near_failed : (fault : Hindered) → ItemMakes tells clock present new names at moving (Err fault) → (before between after : ℕ) → StaysNear before between start present → StaysNear between after present new → StaysNear before after start new
  near_failed (hindrances.Disk kind) (inl becomes) before between after near later = near_then start present new so_far.done so_far.becomes [] before between after becomes.list_is near later
  near_failed (hindrances.Disk kind) (inr stopped) before between after near later = near_then start present new so_far.done so_far.becomes [] before between after stopped.stops.becomes.list_is near later
  near_failed hindrances.NoMemory becomes before between after near later = near_then start present new so_far.done so_far.becomes [] before between after becomes.list_is near later

-- A name that the part of an item, listed alone, gets.
module _ {D O : Type 0} (tells : Type 0) (clock : D → Clock) (says : O → Says) (start present : View D O) (names : List (List ℕ)) (at : ℕ) (listed : tells → Lists (now (clock start.disk)).files names) (so_far : SoFarSettled tells clock says start present names at)
    (is_desk : IsDesk tells clock present) (moving : Moving) (first : IsFirstOf present.items.items moving) (told : tells) where
  given : (name : List ℕ) → IsPartOrAlone names moving name → IsPartOrGiven clock start name
  given name (inl part) = inl part
  given name (inr alone) =
      let is = first_in tells clock says start present present names at listed so_far is_desk moving first in
      let history : History = is_desk.founded.before ++ present.list in
      let named = name_there present.items history is_desk.founded.items moving.id.0 is.item is.there is.finishing in
      let part = ap (λ (p : Place). p.name) is.is.part in
      let target = ap (λ (p : Place). p.name) is.is.target in
      let got : get is.item.name [] ≡ named.it = ap (λ (n : Option (List ℕ)). get n []) named.is in
      inr (record {
        id = moving.id.0;
        item = is.item;
        there = so_far.same moving.id.0 is.item is.there is.finishing;
        finishing = is.finishing;
        named = named.is ∙ ap Some (sym (alone.is ∙ target ∙ got));
        parted = ((listed told).each (part_name is.item.id.0 is.item.epoch.0)).0 (subst (Contains names) part alone.parted);
        free = off (stands (clock start.disk) (name_place is.item)) (λ some. alone.free (subst (Contains names) (sym target) (((listed told).each (get is.item.name [])).1 some)));
      })
    where
      off : (test : Bool) → (IsTrue test → ⊥) → test ≡ false
      off true not = absurd (not refl)
      off false not = refl

  pub given_beside : (new : Clock) → Besides (IsPartOrAlone names moving) (clock present.disk) new → Besides (IsPartOrGiven clock start) (clock present.disk) new
  given_beside new = besides_more (IsPartOrAlone names moving) (IsPartOrGiven clock start) (clock present.disk) new given

-- a run that leaves other names goes on
pub goes_on : (spared : List ℕ → Type 0) (old new : Clock) → Besides spared old new → GoesOn old new
goes_on spared old new besides = record { later = besides.later; kept = besides.kept }
