-- What a desk shows stops no attempt, where the disk was good at its start and a name is free: but for a sum that differs from the stated one.
use Rattle.std.proofs.Common.{◌≡◌, ◌⊎◌, inl, inr, ◌<◌, ◌≤◌, ℕ, ◌-◌, ◌==◌, cond, zero, suc, Bool, true, false, IsTrue, List, [], ◌∷◌, ◌++◌, length, map, Option, Some, None, refl, sym, ◌∙◌, ap, subst, arith}
use Rattle.std.specs.Prelude.{Any, IsSome, is_some, option_to_list}
use Rattle.std.specs.Option.{option_map}
use Rattle.std.proofs.lemmas.List.{take_all}
use Rattle.std.proofs.lemmas.Option.{none-some}
use Rattle.dm_types.specs.Name.{IsPart, fold_case}
use Rattle.dm_types.specs.declared.entry.Entry.TheVariants as entries
use Rattle.dm_types.specs.declared.item.Item.{Item}
use Rattle.dm_types.specs.declared.item.ItemId.{ItemId}
use Rattle.dm_types.specs.declared.item.Key.{Key}
use Rattle.dm_types.specs.declared.kinds.By.{By}
use Rattle.dm_types.specs.declared.kinds.DiskKind.{DiskKind}
use Rattle.dm_types.specs.declared.slices.Slice.{Slice}
use Rattle.dm_disk_model.specs.Beside.{IsFirmBut, LeftAsBefore}
use Rattle.dm_disk_model.specs.Disk.{History as Clock, IsSoundDisk, now}
use Rattle.dm_disk_model.specs.Folder.{Change, Contents, Folder, FolderLeaves, IsSoundFolder, NameLeaves, after_changes, contents_of, names_after, names_of}
use Rattle.dm_disk_model.proofs.FirmNames.{nothing_left}
use Rattle.dm_disk_model.proofs.Images.{folder_as_read}
use Rattle.dm_policy.specs.declared.cause.Cause.{Cause}
use Rattle.dm_policy.specs.declared.cause.Cause.TheVariants as causes
use Rattle.dm_name.specs.Forms.{AreAllTaken, IsTaken, form}
use Rattle.dm_slice.specs.Words.{HasByte, IsNormal, cover_end}
use Rattle.dm_slice.proofs.Ends.{HasLast, last-normal}
use Rattle.dm_item.specs.Fields.{no_bytes}
use Rattle.dm_item.specs.History.{get}
use Rattle.dm_item.specs.Lawful.{History, items_of}
use Rattle.dm_item.specs.Listing.{Listing, applied, changed_at, item_in}
use Rattle.dm_item.specs.Row.{begins_by, begins_in, is_cancelled, mode_of_item}
use Rattle.dm_item.proofs.Shorts.{sound_in}
use Rattle.dm_part.specs.Keeping.{Claim, Going, Stage}
use Rattle.dm_part.proofs.Standing.{held_stands, part_reads}
use Rattle.dm_kept.specs.Files.{FileKept, Says, claim_of, live_of, stage_of}
use Rattle.dm_kept.proofs.Entered.{items_are}
use Rattle.dm_kept.proofs.Standing.{begins_going}
use Rattle.dm_store.specs.declared.life.Life.{Life}
use Rattle.dm_store.specs.declared.pass.Pass.{Pass}
use Rattle.dm_store.specs.Becomes.{run_of}
use Rattle.dm_store.specs.Keeps.{HoldsOf, added}
use Rattle.dm_store.specs.Lives.{covers_of}
use Rattle.dm_store.specs.View.{View}
use Rattle.dm_store.proofs.Found.{there_is}
use Rattle.dm_store.proofs.Keeping.{at_rest}
use Rattle.dm_store.proofs.Saved.{going_is}
use Rattle.dm_answers.specs.Begin.{beginning, may_begin}
use Rattle.dm_answers.specs.Describe.{WithNames, used_names}
use Rattle.dm_answers.specs.Running.{length_of, part_bytes}
use Rattle.dm_attempt.specs.Ending.{IsDeskCause}
use Rattle.dm_attempt.specs.Live.{LiveDesk}
use Rattle.dm_attempt.specs.Scene.{Scene, cover_by, told_by}
use Rattle.dm_attempt.specs.Shows.{BeginMet, DeskMet, ShowsEnd, total_by}
use Rattle.dm_attempt.specs.Trace.{Tale, Trace, told_entries}
use Rattle.dm_attempt.proofs.Brought.{bytes_there}
use Rattle.dm_attempt.proofs.Items.{all_saves, found_id}
use Rattle.dm_fetch.specs.Completes.{HasFree, names_begun}
use Rattle.dm_fetch.proofs.Begun.{and_left}

-- Of a good disk each live place of a part has a byte.

module _ {D O : Type 0} (clock : D → Clock) (says : Says) (desk : View D O) (history : History) (whole : desk.broken ≡ false) (holds : HoldsOf true says clock desk history) (id : ItemId) (item : Item) (there : item_in id.0 desk.items.items ≡ Some item) (told : IsSome item.key)
    (going : stage_of item.phase ≡ Some Going) where
  listed : item_in id.0 (items_of history) ≡ Some item
  listed = subst (λ (list : List Item). item_in id.0 list ≡ Some item) (items_are history desk.items holds.items) there

  -- what is said of the live places, and that the saved ones are among them
  pub live_there : ((place : ℕ) → HasByte (live_of (covers_of desk.lives) item) place → place < length_of (part_bytes clock desk.disk item)) × ((place : ℕ) → HasByte item.slices place → place < length_of (part_bytes clock desk.disk item))
  live_there =
      let sits = at_rest true says clock desk history whole holds in
      let sound = sound_in history desk.items id.0 item holds.items there in
      let key = there_is item.key told in
      let address = there_is item.last_address (sound.told.has_address ∙ told) in
      let name = there_is item.name (sound.told.has_name ∙ told) in
      let claim : Claim = claim_of name.it (live_of (covers_of desk.lives) item) item in
      let kept : FileKept (says address.it key.it) (now (clock desk.disk)).files (Some Going) claim =
      subst (λ (s : Option Stage). FileKept (says address.it key.it) (now (clock desk.disk)).files s claim) going (sits.rests.facts id.0 item listed key.it address.it name.it key.is address.is name.is) in
      let stands = (held_stands (says address.it key.it) claim (now (clock desk.disk)) kept.0).0 in
      let reads = bytes_there (now (clock desk.disk)).files claim.part stands in
      let said = (part_reads (says address.it key.it) claim (now (clock desk.disk)) refl kept.0 reads.0 reads.1).0 in (
        λ place has. subst (λ (found : Option (List ℕ)). place < length_of found) (sym reads.1) (said place has).0,
        λ place has. subst (λ (found : Option (List ℕ)). place < length_of found) (sym reads.1) (said place (kept.0.filed.holds place has)).0,
      )

end_by : (slices : List Slice) (size : ℕ) → HasLast slices → ((place : ℕ) → HasByte slices place → place < size) → cover_end slices ≤ size
end_by slices size (inl none) below = omega (arith, none)
end_by slices size (inr last) below = let high = below (cover_end slices - 1) last in omega (arith, high)

last_by : (total : Option ℕ) (slices : List Slice) → IsNormal total slices ⊎ IsNormal None slices → HasLast slices
last_by total slices (inl normal) = last-normal total slices normal
last_by total slices (inr normal) = last-normal None slices normal

-- An attempt begins with as much of the part as was saved.
module _ {D O : Type 0} (tells : Type 0) (clock : D → Clock) (says : Says) (desk : View D O) (history : History) (told : tells) (whole : desk.broken ≡ false) (holds : HoldsOf true says clock desk history) (id : ItemId) (item : Item) (there : item_in id.0 desk.items.items ≡ Some item) (by : By)
    (may : IsTrue (may_begin by item)) where
  saved_by : (key : Option Key) → item.key ≡ key → cover_end item.slices ≤ length_of (part_bytes clock desk.disk item)
  saved_by None is =
      let sound = sound_in history desk.items id.0 item holds.items there in
      let bare : item.slices ≡ no_bytes = (sound.told.untold (ap (λ (k : Option Key). is_some k) is)).1 in
      let none : cover_end item.slices ≡ 0 = ap cover_end bare in
      omega (arith, none)
  saved_by (Some key) is =
      let sound = sound_in history desk.items id.0 item holds.items there in
      end_by item.slices (length_of (part_bytes clock desk.disk item)) (last_by item.total item.slices sound.covered.normal)
      (live_there clock says desk history whole holds id item there (ap (λ (k : Option Key). is_some k) is) (begins_going by item.phase (and_left (begins_in by item.phase) (begins_by by (mode_of_item item)) may))).1

  pub saved_there : cover_end item.slices ≤ length_of (part_bytes clock desk.disk item)
  saved_there = saved_by item.key refl

-- Which names are taken.

any_cases : {X : Type 0} (P : X → Type 0) (xs ys : List X) → Any P (xs ++ ys) → Any P xs ⊎ Any P ys
any_cases P [] ys some = inr some
any_cases P (x ∷ xs) ys (zero, y, below, is, holds) = inl (zero, y, omega arith, is, holds)
any_cases P (x ∷ xs) ys (suc k, y, below, is, holds) = elim (any_cases P xs ys (k, y, omega (arith, below), is, holds)) [
  | inl left ↦ let low = left.2 in inl (suc left.0, left.1, omega (arith, low), left.3, left.4)
  | inr right ↦ inr right
]

names_now : (folder : Folder) (name : List ℕ) → names_after folder (length folder.changes) name ≡ names_of folder name
names_now folder name = ap (λ (changes : List Change). after_changes folder.synced changes name) (take_all (length folder.changes) folder.changes (omega arith))

-- A name that is no part's, and that didn't stand at the start, doesn't stand.
module _ (start folder : Folder) (name : List ℕ) (firm : IsFirmBut IsPart start) (apart : IsPart name → ⊥) (left : LeftAsBefore name start folder) (none : names_of start name ≡ None) where
  never_named : (count : ℕ) → names_after start count name ≡ None
  never_named count = (firm name apart).named count ∙ sym ((firm name apart).named (length start.changes)) ∙ names_now start name ∙ none

  never_left : (contents : Contents) → FolderLeaves folder contents → contents name ≡ None
  never_left contents leaves =
      let was = left contents leaves in
      was.same ∙ nothing_left start.file (was.before name) (subst (λ (n : Option ℕ). NameLeaves start.file n (was.before name)) (never_named was.left.survive) (was.left.each name))

  pub never_stands : IsSoundFolder folder → IsSome (names_of folder name) → ⊥
  never_stands sound some = let there = bytes_there folder name some in none-some there.0 (sym (never_left (contents_of folder) (folder_as_read folder sound)) ∙ there.1)

-- What is saved changes no name.
progress_test : (id : ItemId) (slices : List Slice) (k : ℕ) (item : Item) (rest : List Item) (test : Bool) → used_names (changed_at (entries.Progress id slices) k rest) ≡ used_names rest
    → used_names (cond test (record item { slices = slices } ∷ rest) (item ∷ changed_at (entries.Progress id slices) k rest)) ≡ used_names (item ∷ rest)
progress_test id slices k item rest true same = refl
progress_test id slices k item rest false same = ap (λ (names : List (List ℕ)). cond (is_cancelled item.phase) [] (option_to_list item.name) ++ names) same

progress_names : (id : ItemId) (slices : List Slice) (k : ℕ) (items : List Item) → used_names (changed_at (entries.Progress id slices) k items) ≡ used_names items
progress_names id slices k [] = refl
progress_names id slices k (item ∷ rest) = progress_test id slices k item rest (item.id.0 == k) (progress_names id slices k rest)

saves_names : (id : ItemId) (saves : List (List Slice)) (v : Listing) → used_names (run_of (map (entries.Progress id) saves) v).items ≡ used_names v.items
saves_names id [] v = refl
saves_names id (slices ∷ more) v = saves_names id more (applied (entries.Progress id slices) v) ∙ progress_names id slices id.0 v.items

run_both : (first second : History) (v : Listing) → run_of (first ++ second) v ≡ run_of second (run_of first v)
run_both [] second v = refl
run_both (entry ∷ first) second v = run_both first second (applied entry v)

-- What is known of the content, or nothing is there.
abbrev pub IsDescribed : {D O : Type 0} → Scene D O → Trace → Type 0
IsDescribed scene trace = IsSome (told_by scene trace.told).key ⊎ (total_by scene trace ≡ 0)

-- a stated digest differs from the sum of what came
pub record Differs {D O : Type 0} (tells : Type 0) (clock : D → Clock) (says : O → Says) (far : D → ℕ) (counts : D → DiskKind → ℕ) (scene : Scene D O) (pass : Pass) (trace : Trace) (cause : Cause) : Type 0 where
  pub have : List ℕ
  pub wanted : List ℕ
  pub is : cause ≡ causes.DigestDiffers have wanted
  pub met : DeskMet tells clock says far counts scene pass trace (causes.DigestDiffers have wanted)

module _ {D O : Type 0} (tells : Type 0) (clock : D → Clock) (says : O → Says) (far : D → ℕ) (counts : D → DiskKind → ℕ) (scene : Scene D O) (pass : Pass) (trace : Trace) (told : tells) (sound : (disk : D) (t : ℕ) → IsSoundDisk ((clock disk).at t)) (history : History)
    (whole : scene.start.broken ≡ false) (holds : HoldsOf true (says scene.start.origin) clock scene.start history) where
  module _ (desk : View D O) (live : LiveDesk tells clock says far counts scene pass desk trace) where
    -- no part is too short that has brought all
    short_never : (have wanted : ℕ) → IsDescribed scene trace → ShowsEnd tells clock scene desk trace (causes.PartShort have wanted) → ⊥
    short_never have wanted (inr none) shows = let low = shows.2 in let same = shows.1 in omega (arith, low, same, none)
    short_never have wanted (inl key) shows =
        let item = live.runs.item in
        let saved = all_saves scene.item.id trace.saves (told_by scene trace.told) in
        let own_key : IsSome item.key = subst IsSome (sym (ap (λ (i : Item). i.key) live.runs.is.item_is ∙ ap (λ (i : Item). i.key) saved)) key in
        let live_is : live_of (covers_of desk.lives) item ≡ cover_by scene trace =
        ap (λ (found : Option (List Slice)). get found item.slices)
        (ap (covers_of desk.lives) (found_id pass.id.0 desk.items.items item live.runs.there) ∙ ap (option_map (λ (l : Life). l.cover)) live.runs.lives) ∙ live.runs.is.cover_is in
        let place : HasByte (live_of (covers_of desk.lives) item) have = subst (λ (c : List Slice). HasByte c have) (sym live_is) (shows.0 have (let low = shows.2 in let same = shows.1 in omega (arith, low, same))) in
        let there = (live_there clock (says scene.start.origin) desk (history ++ added scene.start desk) live.goes.went.broken_is (live.goes.keeps told true history holds).holds pass.id item live.runs.there own_key (going_is item.phase live.runs.runs)).0 have place in
        let same : part_bytes clock desk.disk item ≡ part_bytes clock desk.disk (told_by scene trace.told) = ap (λ (i : Item). part_bytes clock desk.disk i) live.runs.is.item_is ∙ ap (λ (i : Item). part_bytes clock desk.disk i) saved in
        let below = subst (λ (found : Option (List ℕ)). have < length_of found) same there in
        let has = shows.3 told in
        omega (arith, below, has)

    -- a name was free
    names_never : (wish : List ℕ) → HasFree clock scene.start (names_begun scene.start scene.item scene.by scene.at) wish → trace.told ≡ None → WithNames tells clock desk (AreAllTaken wish) → ⊥
    names_never wish free none names = by (any_cases (λ (other : List ℕ). fold_case other ≡ fold_case (form wish free.number)) names.listed (used_names desk.items.items) (names.is free.number free.within))
      where
        used_is : used_names desk.items.items ≡ names_begun scene.start scene.item scene.by scene.at
        used_is =
            ap (λ (v : Listing). used_names v.items) live.goes.went.items_are
            ∙ ap (λ (h : History). used_names (run_of (beginning scene.item scene.by scene.at ++ h) scene.start.items).items) (ap (λ (t : Option Tale). told_entries scene.item.id t ++ map (entries.Progress scene.item.id) trace.saves) none)
            ∙ ap (λ (v : Listing). used_names v.items) (run_both (beginning scene.item scene.by scene.at) (map (entries.Progress scene.item.id) trace.saves) scene.start.items)
            ∙ saves_names scene.item.id trace.saves (run_of (beginning scene.item scene.by scene.at) scene.start.items)

        by : Any (λ (other : List ℕ). fold_case other ≡ fold_case (form wish free.number)) names.listed ⊎ Any (λ (other : List ℕ). fold_case other ≡ fold_case (form wish free.number)) (used_names desk.items.items) → ⊥
        by (inl listed) =
            let other = listed.1 in
            let some = ((names.lists told).each other).0 (listed.0, listed.2, listed.3) in
            let beside = live.goes.beside told in
            let later = beside.later in
            let apart = free.free.no_part other listed.4 in
            never_stands (now (clock scene.start.disk)).files (now (clock desk.disk)).files other (at_rest true (says scene.start.origin) clock scene.start history whole holds).quiet apart
            (beside.each (clock desk.disk).moment later (omega arith) other apart) (free.free.no_file other listed.4) (sound desk.disk (clock desk.disk).moment).files some
        by (inr used) = free.free.no_item (subst (λ (taken : List (List ℕ)). IsTaken taken (form wish free.number)) used_is used)

  -- what is left of what a desk shows while an attempt runs
  met_differs : (cause : Cause) → IsDescribed scene trace → ((wish : List ℕ) → trace.wish ≡ Some wish → HasFree clock scene.start (names_begun scene.start scene.item scene.by scene.at) wish) → (met : DeskMet tells clock says far counts scene pass trace cause)
      → Differs tells clock says far counts scene pass trace cause
  met_differs causes.NamesTaken described free met = absurd (names_never met.desk met.live met.is.0 (free met.is.0 met.is.1) met.is.2 met.is.3)
  met_differs (causes.DigestDiffers have wanted) described free met = record { have = have; wanted = wanted; is = refl; met = met }
  met_differs (causes.PartShort have wanted) described free met = absurd (short_never met.desk met.live have wanted described met.is)
  met_differs cause described free met = absurd met.is

  -- nothing is too short as an attempt begins
  begin_never : (cause : Cause) → item_in scene.item.id.0 scene.start.items.items ≡ Some scene.item → IsTrue (may_begin scene.by scene.item) → BeginMet tells clock scene trace cause → ⊥
  begin_never cause there may met =
      let long = saved_there tells clock (says scene.start.origin) scene.start history told whole holds scene.item.id scene.item there scene.by may in
      let low = met.short.short in
      let same = met.short.wanted_is in
      let has = met.short.have_is told in
      omega (arith, long, low, same, has)

  pub desk_differs : (cause : Cause) → item_in scene.item.id.0 scene.start.items.items ≡ Some scene.item → IsTrue (may_begin scene.by scene.item) → IsDescribed scene trace
      → ((wish : List ℕ) → trace.wish ≡ Some wish → HasFree clock scene.start (names_begun scene.start scene.item scene.by scene.at) wish) → IsDeskCause tells clock says far counts scene pass trace cause → Differs tells clock says far counts scene pass trace cause
  desk_differs cause there may described free (inl met) = met_differs cause described free met
  desk_differs cause there may described free (inr met) = absurd (begin_never cause there may met)
