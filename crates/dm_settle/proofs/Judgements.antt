-- What recording a judgement makes and keeps.
use Rattle.std.proofs.Common.{◌≡◌, inl, inr, ℕ, Bool, true, false, List, [], ◌∷◌, ◌++◌, Option, Some, Result, Ok, Err, refl, sym, ◌∙◌, ap, subst, arith}
use Rattle.std.specs.Prelude.{IfSome}
use Rattle.std.proofs.lemmas.List.{append-nil}
use Rattle.dm_types.specs.declared.entry.Entry.{Entry}
use Rattle.dm_types.specs.declared.entry.Entry.TheVariants as entries
use Rattle.dm_types.specs.declared.item.Item.{Item}
use Rattle.dm_types.specs.declared.item.ItemId.{ItemId}
use Rattle.dm_types.specs.declared.kinds.DiskKind.{DiskKind}
use Rattle.dm_types.specs.declared.reason.Reason.{Reason}
use Rattle.dm_disk_model.specs.declared.place.Place.{Place}
use Rattle.dm_disk_model.specs.Disk.{DiskState, History as Clock, Stands, bytes_at, now}
use Rattle.dm_disk_model.specs.Folder.{Folder, names_of}
use Rattle.dm_disk_model.specs.Moments.{KeepsFiles}
use Rattle.dm_disk_model.proofs.Places.{stands_from}
use Rattle.dm_disk_model.proofs.Reaching.{at_end}
use Rattle.dm_item.specs.History.{get}
use Rattle.dm_item.specs.Lawful.{History, items_of}
use Rattle.dm_item.specs.Listing.{Listing, applied, item_in}
use Rattle.dm_part.specs.Laws.{files_place}
use Rattle.dm_kept.specs.Files.{Covers, EndsLive, Facts, IfGood, Says}
use Rattle.dm_kept.proofs.Entered.{items_are}
use Rattle.dm_kept.proofs.Flags.{if_map}
use Rattle.dm_kept.proofs.Lists.{some_is}
use Rattle.dm_kept.proofs.Standing.{ends_over}
use Rattle.dm_store.specs.Becomes.{Becomes, RecordMakes}
use Rattle.dm_store.specs.Keeps.{Allows, Goes, HoldsOf, IsDesk, Keeps, RecordGoes, added}
use Rattle.dm_store.specs.Lives.{covers_of}
use Rattle.dm_store.specs.Publishing.{IsMoving}
use Rattle.dm_store.specs.View.{View}
use Rattle.dm_store.proofs.Composing.{becomes_then, lawful_same}
use Rattle.dm_store.proofs.Keeping.{at_rest, goes_then}
use Rattle.dm_answers.specs.Settling.{whole_of}
use Rattle.dm_settle.specs.Judging.{HasWhole}
use Rattle.dm_settle.specs.Moving.{AreStated, IsFinishingAt, IsFinishingIn}
use Rattle.dm_settle.specs.Settled.{SettlesAs, SettleGoes, StopsAt}
use Rattle.dm_settle.specs.declared.judging.Judged.TheVariants as judgements
use Rattle.dm_settle.specs.declared.moving.Moving.{Moving}
use Rattle.dm_settle.proofs.Finished.{facts_done, name_there}

-- only the disk and the mark changed
pub becomes_still : {D O : Type 0} (old new : View D O) (broken : Bool) → old.broken ≡ false → old.failed ≡ [] → new ≡ record old { disk = new.disk; broken = broken } → Becomes old new [] [] broken
becomes_still {D = D} {O = O} old new broken whole none same = record {
  whole = whole;
  items_are = ap (λ (v : View D O). v.items) same;
  lives_are = ap (λ (v : View D O). v.lives) same;
  list_is = ap (λ (v : View D O). v.list) same ∙ sym (append-nil old.list);
  lawful = lawful_same old.items new.items (ap (λ (v : View D O). v.items) same);
  gate_is = let gate = ap (λ (v : View D O). v.gate) same in omega (arith, gate);
  failed_is = ap (λ (v : View D O). v.failed) same ∙ none;
  may = tt;
  broken_is = ap (λ (v : View D O). v.broken) same;
  origin = ap (λ (v : View D O). v.origin) same;
  limits = ap (λ (v : View D O). v.limits) same;
}

-- an entry was recorded, or failed
pub settles_recorded : {D O : Type 0} (old new : View D O) (entry : Entry) (result : Result (Unit {0}) DiskKind) → RecordMakes old new entry result → SettlesAs old new entry result
settles_recorded old new entry (Ok done) makes = makes
settles_recorded old new entry (Err kind) makes = record { failed = entry ∷ []; becomes = makes; tried = inr refl }

-- the publication failed before it
pub settles_unpublished : {D O : Type 0} (old new : View D O) (entry : Entry) → old.broken ≡ false → old.failed ≡ [] → new ≡ record old { disk = new.disk; broken = true } → StopsAt old new entry true
settles_unpublished old new entry whole none same = record { failed = []; becomes = becomes_still old new true whole none same; tried = inl refl }

-- the files stay where an entry is recorded, and so do their names
pub names_kept : (old new : Clock) → KeepsFiles old new → names_of (now new).files ≡ names_of (now old).files
names_kept old new keeps = ap (λ (f : Folder). names_of f) (at_end old new (λ disk. disk.files ≡ (now old).files) keeps)

-- what is known of an item that is being finished

pub finishing_at : (items : List Item) (moving : Moving) → IsFinishingIn items moving → IsFinishingAt items moving.id
finishing_at items moving is = record { item = is.item; there = is.there; finishing = is.finishing }

pub stated_of : (items : List Item) (moving : Moving) (is : IsFinishingIn items moving) (sum : List ℕ) → IfSome moving.digest (λ digest. digest ≡ sum) → AreStated items moving.id sum
stated_of items moving is sum stated item there =
    subst (λ (i : Item). IfSome i.digest (λ digest. digest ≡ sum)) (some_is is.item item (sym is.there ∙ there))
    (subst (λ (d : Option (List ℕ)). IfSome d (λ digest. digest ≡ sum)) is.is.digest stated)

pub moving_in : {D O : Type 0} (tells : Type 0) (clock : D → Clock) (desk : View D O) → IsDesk tells clock desk → (moving : Moving) (is : IsFinishingIn desk.items.items moving) → IsMoving desk.items.items moving.id.0 moving.part moving.target
moving_in tells clock desk is_desk moving is =
    let named = name_there desk.items (is_desk.founded.before ++ desk.list) is_desk.founded.items moving.id.0 is.item is.there is.finishing in
    record {
      item = is.item;
      there = is.there;
      finishing = is.finishing;
      part_is = is.is.part;
      name = named.it;
      name_is = named.is;
      target_is = is.is.target ∙ ap (λ (n : Option (List ℕ)). files_place (get n [])) named.is;
    }

-- what is whole stands
pub whole_stands : (disk : DiskState) (place : Place) (total : ℕ) (sum : List ℕ) → HasWhole (bytes_at disk place) total sum → Stands disk place
whole_stands disk place total sum has = stands_from disk place has.bytes has.is

-- A judgement that isn't whole is none of a good disk.
module _ {D O : Type 0} (tells : Type 0) (clock : D → Clock) (says : O → Says) (old new : View D O) (id : ItemId) (reason : Reason) where
  nothing_owed : (good : Bool) → IfGood good ⊥ → (entry : Entry) → Allows good (says old.origin) clock old entry
  nothing_owed true none entry = absurd none
  nothing_owed false none entry = record { facts = tt; ends = tt }

  pub broken_goes : RecordGoes tells clock says old new (entries.Broke id reason) → SettleGoes tells clock says old new (judgements.Broken reason)
  broken_goes goes told good before holds none = goes told good before holds (nothing_owed good none (entries.Broke id reason))

-- A whole file that stands under its name lets its item be complete.
module _ {D O : Type 0} (tells : Type 0) (clock : D → Clock) (says : O → Says) (desk : View D O) (whole : desk.broken ≡ false) (moving : Moving) (is : IsFinishingIn desk.items.items moving) (sum : List ℕ) (at : ℕ)
    (has : tells → HasWhole (bytes_at (now (clock desk.disk)) moving.target) moving.total sum) where
  pub done_allows : tells → (good : Bool) (before : History) → HoldsOf good (says desk.origin) clock desk before → Allows good (says desk.origin) clock desk (entries.Done moving.id sum at)
  done_allows told good before holds =
      let covers : Covers = covers_of desk.lives in
      let said = says desk.origin in
      let disk = now (clock desk.disk) in
      let sits = at_rest good said clock desk before whole holds in
      let named = name_there desk.items before holds.items moving.id.0 is.item is.there is.finishing in
      let here : moving.target ≡ files_place named.it = is.is.target ∙ ap (λ (n : Option (List ℕ)). files_place (get n [])) named.is in
      let lies : HasWhole (bytes_at disk (files_place named.it)) (whole_of is.item) sum =
      subst (λ (p : Place). HasWhole (bytes_at disk p) (whole_of is.item) sum) here (subst (λ (n : ℕ). HasWhole (bytes_at disk moving.target) n sum) is.is.total (has told)) in
      record {
        facts = if_map good (Facts said covers (items_of before) disk.files) (Facts said covers (applied (entries.Done moving.id sum at) desk.items).items disk.files)
            (λ facts. facts_done desk.items before holds.items moving.id.0 is.item is.there is.finishing said covers disk facts sum at moving.id refl sits.quiet (stands_from disk (files_place named.it) lies.bytes lies.is) lies) sits.rests.facts;
        ends = if_map good (EndsLive covers (items_of before) disk.files) (EndsLive covers (applied (entries.Done moving.id sum at) desk.items).items disk.files)
            (λ ends. ends_over covers covers (entries.Done moving.id sum at) moving.id.0 desk.items.items disk.files (λ item. refl) (λ other apart. refl) (λ item there. refl)
            (subst (λ (list : List Item). EndsLive covers list disk.files) (sym (items_are before desk.items holds.items)) ends)) sits.ends;
      }

-- A part is given its name, and then its item is complete.
module _ {D O : Type 0} (tells : Type 0) (clock : D → Clock) (says : O → Says) (old mid new : View D O) (moving : Moving) (is : IsFinishingIn old.items.items moving) (sum : List ℕ) (at : ℕ) (whole : old.broken ≡ false) (none : old.failed ≡ [])
    (same : mid ≡ record old { disk = mid.disk }) where
  mid_whole : mid.broken ≡ false
  mid_whole = ap (λ (v : View D O). v.broken) same ∙ whole

  mid_failed : mid.failed ≡ []
  mid_failed = ap (λ (v : View D O). v.failed) same ∙ none

  pub still_finishing : IsFinishingIn mid.items.items moving
  still_finishing = record { item = is.item; there = subst (λ (v : Listing). item_in moving.id.0 v.items ≡ Some is.item) (sym (ap (λ (v : View D O). v.items) same)) is.there; finishing = is.finishing; is = is.is }

  mid_becomes : Becomes old mid [] [] false
  mid_becomes = becomes_still old mid false whole none (same ∙ ap (λ (b : Bool). record old { disk = mid.disk; broken = b }) whole)

  pub published_makes : (result : Result (Unit {0}) DiskKind) → RecordMakes mid new (entries.Done moving.id sum at) result → SettlesAs old new (entries.Done moving.id sum at) result
  published_makes (Ok done) makes = becomes_then old mid new [] mid_becomes (entries.Done moving.id sum at ∷ []) [] false makes
  published_makes (Err kind) makes = record {
    failed = entries.Done moving.id sum at ∷ [];
    becomes = becomes_then old mid new [] mid_becomes [] (entries.Done moving.id sum at ∷ []) true makes;
    tried = inr refl;
  }

  pub published_goes : (tells → HasWhole (bytes_at (now (clock mid.disk)) moving.target) moving.total sum) → Keeps tells clock says old mid → RecordGoes tells clock says mid new (entries.Done moving.id sum at) → SettleGoes tells clock says old new (judgements.InPart sum)
  published_goes has keeps goes told good before holds fits =
      let said = says old.origin in
      let origin : mid.origin ≡ old.origin = ap (λ (v : View D O). v.origin) same in
      let went = keeps told good before holds in
      let held : HoldsOf good (says mid.origin) clock mid (before ++ added old mid) = subst (λ (o : O). HoldsOf good (says o) clock mid (before ++ added old mid)) (sym origin) went.holds in
      goes_then good said clock old mid new before went mid_failed
      (subst (λ (o : O). Goes good (says o) clock mid new (before ++ added old mid) (added mid new)) origin
      (goes told good (before ++ added old mid) held (done_allows tells clock says mid mid_whole moving still_finishing sum at has told good (before ++ added old mid) held)))

-- one that stands under its name already
pub named_goes : {D O : Type 0} (tells : Type 0) (clock : D → Clock) (says : O → Says) (old new : View D O) (whole : old.broken ≡ false) (moving : Moving) (is : IsFinishingIn old.items.items moving) (sum : List ℕ) (at : ℕ)
    → (tells → HasWhole (bytes_at (now (clock old.disk)) moving.target) moving.total sum) → RecordGoes tells clock says old new (entries.Done moving.id sum at) → SettleGoes tells clock says old new (judgements.Named sum)
named_goes tells clock says old new whole moving is sum at has goes told good before holds fits =
    goes told good before holds (done_allows tells clock says old whole moving is sum at has told good before holds)

-- where the publication failed
pub unpublished_goes : {D O : Type 0} (tells : Type 0) (clock : D → Clock) (says : O → Says) (old new : View D O) (sum : List ℕ) → Keeps tells clock says old new → SettleGoes tells clock says old new (judgements.InPart sum)
unpublished_goes tells clock says old new sum keeps told good before holds fits = keeps told good before holds
