-- A file that is given its name: what one call makes of a desk behind another.
use Rattle.std.proofs.Common.{◌≡◌, inl, inr, ℕ, Bool, true, false, ◌||◌, IsTrue, List, [], ◌∷◌, Option, Some, Result, Ok, Err, OnOk, refl, sym, ◌∙◌, ap, subst, arith}
use Rattle.std.specs.Prelude.{IfErr, IfSome}
use Rattle.std.specs.Option.{option_map}
use Rattle.std.proofs.lemmas.List.{append-nil}
use Rattle.dm_types.specs.Faults.{HasCause, NoneFell, Rose}
use Rattle.dm_types.specs.declared.entry.Entry.TheVariants as entries
use Rattle.dm_types.specs.declared.item.Item.{Item}
use Rattle.dm_types.specs.declared.item.ItemId.{ItemId}
use Rattle.dm_types.specs.declared.kinds.DiskKind.{DiskKind}
use Rattle.dm_disk_model.specs.declared.place.Place.{Place}
use Rattle.dm_disk_model.specs.Beside.{Besides}
use Rattle.dm_disk_model.specs.Disk.{DiskState, History as Clock, Stands, bytes_at, now}
use Rattle.dm_disk_model.specs.Folder.{Folder, contents_of}
use Rattle.dm_disk_model.specs.Moments.{KeepsFiles}
use Rattle.dm_disk_model.proofs.Beside.{besides_more, besides_same, besides_then}
use Rattle.dm_disk_model.proofs.Places.{stands_from}
use Rattle.dm_disk_model.proofs.Reaching.{at_end}
use Rattle.dm_item.specs.Lawful.{History}
use Rattle.dm_item.specs.Listing.{Listing, item_in}
use Rattle.dm_item.specs.Row.{changed, is_complete, is_finishing}
use Rattle.dm_part.specs.Laws.{files_place}
use Rattle.dm_kept.specs.Files.{Says}
use Rattle.dm_kept.proofs.Lists.{changed_here, some_is}
use Rattle.dm_store.specs.Becomes.{Becomes, Fell, Recorded, RecordMakes, kind_is}
use Rattle.dm_store.specs.Keeps.{Keeps, StaysNear}
use Rattle.dm_store.specs.Lives.{part_place}
use Rattle.dm_store.specs.Publishing.{IsPartOr}
use Rattle.dm_store.specs.View.{View}
use Rattle.dm_store.proofs.Composing.{becomes_then, fell_before, fell_one, fell_then, lawful_same, near_then}
use Rattle.dm_store.proofs.Keeping.{keeps_then}
use Rattle.dm_store.proofs.Saved.{from_disk, later_then, rose_last}
use Rattle.dm_answers.specs.Finish.{HasSum}
use Rattle.dm_answers.specs.Reads.{HasNameOf, IsPartOrNameOf}
use Rattle.dm_finish.specs.declared.naming.Naming.{Naming}
use Rattle.dm_finish.specs.Ending.{GivesName, IsEnding, IsGiving, IsNamed, IsNaming, NamesFile}

-- what reads where the files stay
pub reads_stay : (old new : Clock) (place : Place) (name : List ℕ) → place ≡ files_place name → KeepsFiles old new → bytes_at (now new) place ≡ bytes_at (now old) place
reads_stay old new place name is keeps =
    subst (λ (p : Place). bytes_at (now new) p ≡ bytes_at (now old) p) (sym is) (ap (λ (f : Folder). contents_of f name) (at_end old new (λ (d : DiskState). d.files ≡ (now old).files) keeps))

sum_moved : (from to : Option (List ℕ)) (total : ℕ) (digest : List ℕ) → to ≡ from → HasSum from total digest → HasSum to total digest
sum_moved from to total digest same sum = record { bytes = sum.bytes; there = same ∙ sum.there; long = sum.long; sum_is = sum.sum_is }

-- A desk of which the disk alone changed.
module _ {D O : Type 0} (tells : Type 0) (clock : D → Clock) (says : O → Says) (old mid : View D O) (same : mid ≡ record old { disk = mid.disk }) where
  pub giving_named : (id : ItemId) (part target : Place) (digest : List ℕ) → IsGiving tells clock old id part target digest → (tells → Stands (now (clock mid.disk)) target)
      → (tells → bytes_at (now (clock mid.disk)) target ≡ bytes_at (now (clock old.disk)) part) → IsNamed tells clock mid id digest
  giving_named id part target digest giving stands reads = record {
    item = giving.moving.item;
    there = subst (λ (v : Listing). item_in id.0 v.items ≡ Some giving.moving.item) (sym (ap (λ (v : View D O). v.items) same)) giving.moving.there;
    finishing = giving.moving.finishing;
    total = giving.total;
    total_is = giving.total_is;
    stated = giving.stated;
    name = giving.moving.name;
    name_is = giving.moving.name_is;
    stands = λ told. subst (Stands (now (clock mid.disk))) giving.moving.target_is (stands told);
    sum = λ told.
        sum_moved (bytes_at (now (clock old.disk)) part) (bytes_at (now (clock mid.disk)) (files_place giving.moving.name)) giving.total digest
        (subst (λ (p : Place). bytes_at (now (clock mid.disk)) p ≡ bytes_at (now (clock old.disk)) part) giving.moving.target_is (reads told)) (giving.sum told);
  }

  pub mid_whole : old.broken ≡ false → mid.broken ≡ false
  mid_whole whole = ap (λ (v : View D O). v.broken) same ∙ whole

  module _ (new : View D O) where
    pub mid_keeps : old.failed ≡ [] → Keeps tells clock says old mid → Keeps tells clock says mid new → Keeps tells clock says old new
    mid_keeps failed one two = keeps_then tells clock says old mid new one (ap (λ (v : View D O). v.origin) same) (ap (λ (v : View D O). v.failed) same ∙ failed) two

    from_mid : (recorded failed : History) (broken : Bool) → Becomes mid new recorded failed broken → Becomes old new recorded failed broken
    from_mid recorded failed broken makes = from_disk old new mid.disk recorded failed broken (subst (λ (v : View D O). Becomes v new recorded failed broken) same makes)

    pub names_after : (id : ItemId) (digest : List ℕ) (at : ℕ) (result : Result (Unit {0}) DiskKind) → RecordMakes mid new (entries.Done id digest at) result → NamesFile old new id digest at result
    names_after id digest at (Ok done) makes = from_mid (entries.Done id digest at ∷ []) [] false makes
    names_after id digest at (Err kind) makes = inl (from_mid [] (entries.Done id digest at ∷ []) true makes)

    pub mid_near : (far far' far'' : ℕ) → far' ≡ far → StaysNear far' far'' mid new → StaysNear far far'' old new
    mid_near far far' far'' equal near short = subst (λ (v : View D O). StaysNear far' far'' v new) same near short ∙ equal

-- The name couldn't be given.
pub broke_naming : {D O : Type 0} (old new : View D O) → new ≡ record old { disk = new.disk; broken = true } → old.broken ≡ false → old.failed ≡ [] → Becomes old new [] [] true
broke_naming {D = D} {O = O} old new same whole failed = record {
  whole = whole;
  items_are = ap (λ (v : View D O). v.items) same;
  lives_are = ap (λ (v : View D O). v.lives) same;
  list_is = ap (λ (v : View D O). v.list) same ∙ sym (append-nil old.list);
  lawful = lawful_same old.items new.items (ap (λ (v : View D O). v.items) same);
  gate_is = let gate = ap (λ (v : View D O). v.gate) same in omega (arith, gate);
  failed_is = ap (λ (v : View D O). v.failed) same ∙ failed;
  may = tt;
  broken_is = ap (λ (v : View D O). v.broken) same;
  origin = ap (λ (v : View D O). v.origin) same;
  limits = ap (λ (v : View D O). v.limits) same;
}

-- Behind the entry that the content is whole.
module _ {D O : Type 0} (tells : Type 0) (clock : D → Clock) (says : O → Says) (old mid : View D O) (id : ItemId) (total : ℕ) (digest : List ℕ) (at : ℕ) (one : Recorded old mid (entries.Finishing id total ∷ [])) (files : tells → KeepsFiles (clock old.disk) (clock mid.disk))
    (ending : IsEnding tells clock old id total digest) (part target : Place) (name : List ℕ) (part_is : part ≡ part_place ending.item.id.0 ending.item.epoch.0) (name_is : ending.item.name ≡ Some name) (target_is : target ≡ files_place name) where
  there_behind : item_in id.0 mid.items.items ≡ Some (changed (entries.Finishing id total) ending.item)
  there_behind =
      ap (λ (v : Listing). item_in id.0 v.items) one.items_are ∙ changed_here (entries.Finishing id total) id.0 (λ item. refl) old.items.items ∙ ap (option_map (changed (entries.Finishing id total))) ending.there

  part_reads : tells → bytes_at (now (clock mid.disk)) part ≡ bytes_at (now (clock old.disk)) (part_place ending.item.id.0 ending.item.epoch.0)
  part_reads told =
      subst (λ (p : Place). bytes_at (now (clock mid.disk)) p ≡ bytes_at (now (clock old.disk)) (part_place ending.item.id.0 ending.item.epoch.0)) (sym part_is)
      (ap (λ (f : Folder). contents_of f (part_place ending.item.id.0 ending.item.epoch.0).name) (at_end (clock old.disk) (clock mid.disk) (λ (d : DiskState). d.files ≡ (now (clock old.disk)).files) (files told)))

  pub giving_behind : IsGiving tells clock mid id part target digest
  giving_behind = record {
    moving = record { item = changed (entries.Finishing id total) ending.item; there = there_behind; finishing = refl; part_is = part_is; name = name; name_is = name_is; target_is = target_is };
    total = total;
    total_is = refl;
    stated = ending.stated;
    stands = λ told. let sum = ending.sum told in stands_from (now (clock mid.disk)) part sum.bytes (part_reads told ∙ sum.there);
    sum = λ told. sum_moved (bytes_at (now (clock old.disk)) (part_place ending.item.id.0 ending.item.epoch.0)) (bytes_at (now (clock mid.disk)) part) total digest (part_reads told) (ending.sum told);
  }

  module _ (new : View D O) where
    pub gives_after : (result : Result (Unit {0}) DiskKind) → NamesFile mid new id digest at result → GivesName old new id total digest at result
    gives_after (Ok done) two = becomes_then old mid new (entries.Finishing id total ∷ []) one (entries.Done id digest at ∷ []) [] false two
    gives_after (Err kind) (inl fell) = inl (fell_then old mid new (entries.Finishing id total ∷ []) one (entries.Done id digest at ∷ []) (fell_one mid new (entries.Done id digest at) fell))
    gives_after (Err kind) (inr broke) = inr (becomes_then old mid new (entries.Finishing id total ∷ []) one [] [] true broke)

    pub gives_near : (result : Result (Unit {0}) DiskKind) (far far' far'' : ℕ) → NamesFile mid new id digest at result → StaysNear far far' old mid → StaysNear far' far'' mid new → StaysNear far far'' old new
    gives_near (Ok done) far far' far'' two near later = near_then old mid new (entries.Finishing id total ∷ []) one (entries.Done id digest at ∷ []) far far' far'' two.list_is near later
    gives_near (Err kind) far far' far'' (inl fell) near later = near_then old mid new (entries.Finishing id total ∷ []) one [] far far' far'' fell.list_is near later
    gives_near (Err kind) far far' far'' (inr broke) near later = near_then old mid new (entries.Finishing id total ∷ []) one [] far far' far'' broke.list_is near later

    -- the item has the name behind it
    has_name : (items : List Item) (item : Item) (other : List ℕ) → new.items.items ≡ items → item_in id.0 items ≡ Some item → item.name ≡ Some name → IsTrue (is_finishing item.phase || is_complete item.phase) → other ≡ target.name → HasNameOf new id other
    has_name items item other are there named given same = record {
      item = item;
      there = subst (λ (list : List Item). item_in id.0 list ≡ Some item) (sym are) there;
      named = named ∙ ap Some (sym (same ∙ ap (λ (p : Place). p.name) target_is));
      given = given;
    }

    named_new : (result : Result (Unit {0}) DiskKind) → NamesFile mid new id digest at result → (other : List ℕ) → other ≡ target.name → HasNameOf new id other
    named_new (Ok done) two other same =
        has_name new.items.items (changed (entries.Done id digest at) (changed (entries.Finishing id total) ending.item)) other refl
        (ap (λ (v : Listing). item_in id.0 v.items) two.items_are ∙ changed_here (entries.Done id digest at) id.0 (λ item. refl) mid.items.items ∙ ap (option_map (changed (entries.Done id digest at))) there_behind) name_is refl same
    named_new (Err kind) (inl fell) other same = has_name mid.items.items (changed (entries.Finishing id total) ending.item) other (ap (λ (v : Listing). v.items) fell.items_are) there_behind name_is refl same
    named_new (Err kind) (inr broke) other same = has_name mid.items.items (changed (entries.Finishing id total) ending.item) other (ap (λ (v : Listing). v.items) broke.items_are) there_behind name_is refl same

    pub gives_beside : (result : Result (Unit {0}) DiskKind) → NamesFile mid new id digest at result → tells → Besides (IsPartOr target.name) (clock mid.disk) (clock new.disk) → Besides (IsPartOrNameOf new id) (clock old.disk) (clock new.disk)
    gives_beside result two told beside =
        besides_then (IsPartOrNameOf new id) (clock old.disk) (clock mid.disk) (clock new.disk) (besides_same (IsPartOrNameOf new id) (clock old.disk) (clock mid.disk) (files told))
        (besides_more (IsPartOr target.name) (IsPartOrNameOf new id) (clock mid.disk) (clock new.disk) wider beside)
      where
        wider : (other : List ℕ) → IsPartOr target.name other → IsPartOrNameOf new id other
        wider other (inl part_of) = inl part_of
        wider other (inr same) = inr (named_new result two other same)

-- the entry that the content is whole failed
pub gives_fell : {D O : Type 0} (old new : View D O) (id : ItemId) (total : ℕ) (digest : List ℕ) (at : ℕ) → Becomes old new [] (entries.Finishing id total ∷ []) true → Fell old new (entries.Finishing id total ∷ entries.Done id digest at ∷ [])
gives_fell old new id total digest at fell = fell_before old new (entries.Finishing id total ∷ []) (entries.Done id digest at ∷ []) (fell_one old new (entries.Finishing id total) fell)

-- Of calls that answer what the last one does.

pub all_ok : {A E P : Type 0} (result : Result A E) → P → OnOk result P
all_ok (Ok value) is = is
all_ok (Err fault) is = tt

ok_map : {A E : Type 0} (result : Result A E) (P Q : Type 0) → (P → Q) → OnOk result P → OnOk result Q
ok_map (Ok value) P Q leads is = leads is
ok_map (Err fault) P Q leads is = tt

rose_for : (first middle last : DiskKind → ℕ) (result : Result (Unit {0}) DiskKind) → NoneFell first middle → IfErr result (λ fault. IfSome (kind_is fault) (λ kind. Rose (middle kind) (last kind))) → IfErr result (λ fault. IfSome (kind_is fault) (λ kind. Rose (first kind) (last kind)))
rose_for first middle last (Ok done) earlier is = tt
rose_for first middle last (Err kind) earlier is = rose_last (first kind) (middle kind) (last kind) (earlier kind) is

pub cause_then : (first middle last : DiskKind → ℕ) (result : Result (Unit {0}) DiskKind) → NoneFell first middle → HasCause kind_is middle last result → HasCause kind_is first last result
cause_then first middle last result earlier is = record { later = later_then first middle last earlier is.later; cause = rose_for first middle last result earlier is.cause }

-- what names a file is what is known of its item
pub naming_part : {D O : Type 0} (desk : View D O) (id : ItemId) (total : ℕ) (naming : Naming) (is : IsNaming desk id total naming) (item : Item) → item_in id.0 desk.items.items ≡ Some item → naming.part ≡ part_place item.id.0 item.epoch.0
naming_part desk id total naming is item there = is.part_is ∙ ap (λ (i : Item). part_place i.id.0 i.epoch.0) (some_is is.item item (sym is.there ∙ there))

pub naming_name : {D O : Type 0} (desk : View D O) (id : ItemId) (total : ℕ) (naming : Naming) (is : IsNaming desk id total naming) (item : Item) → item_in id.0 desk.items.items ≡ Some item → item.name ≡ Some is.name
naming_name desk id total naming is item there = sym (ap (λ (i : Item). i.name) (some_is is.item item (sym is.there ∙ there))) ∙ is.name_is

-- what reads under the name at the end
module _ {D O : Type 0} (tells : Type 0) (clock : D → Clock) (says : O → Says) (old mid : View D O) (id : ItemId) (total : ℕ) (digest : List ℕ) (at : ℕ) (one : Recorded old mid (entries.Finishing id total ∷ [])) (files : tells → KeepsFiles (clock old.disk) (clock mid.disk))
    (ending : IsEnding tells clock old id total digest) (part target : Place) (name : List ℕ) (part_is : part ≡ part_place ending.item.id.0 ending.item.epoch.0) (name_is : ending.item.name ≡ Some name) (target_is : target ≡ files_place name) where
  pub reads_given : (result : Result (Unit {0}) DiskKind) (last : Clock) → tells → OnOk result (bytes_at (now last) target ≡ bytes_at (now (clock mid.disk)) part) → OnOk result (bytes_at (now last) target ≡ bytes_at (now (clock old.disk)) part)
  reads_given result last told =
      ok_map result (bytes_at (now last) target ≡ bytes_at (now (clock mid.disk)) part) (bytes_at (now last) target ≡ bytes_at (now (clock old.disk)) part)
      (λ reads. reads ∙ reads_stay (clock old.disk) (clock mid.disk) part (part_place ending.item.id.0 ending.item.epoch.0).name part_is (files told))
