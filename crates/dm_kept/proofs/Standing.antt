-- The parts of the items behind one more entry that ends or begins no attempt there: they stand, and end where they did.
use Rattle.std.proofs.Common.{◌≡◌, ◌≢◌, ℕ, false, IsTrue, List, Option, Some, None, refl, sym, ◌∙◌, ap}
use Rattle.std.specs.Prelude.{IsSome, length}
use Rattle.std.proofs.lemmas.Bool.{false≢true}
use Rattle.dm_types.specs.Name.{part_name}
use Rattle.dm_types.specs.declared.entry.Entry.{Entry}
use Rattle.dm_types.specs.declared.item.Item.{Item}
use Rattle.dm_types.specs.declared.item.Phase.{Phase}
use Rattle.dm_types.specs.declared.item.Phase.TheVariants as phases
use Rattle.dm_types.specs.declared.kinds.By.{By}
use Rattle.dm_types.specs.declared.kinds.By.TheVariants.{Itself, User}
use Rattle.dm_types.specs.declared.slices.Slice.{Slice}
use Rattle.dm_slice.specs.Words.{cover_end}
use Rattle.dm_disk_model.specs.Folder.{Folder, contents_of, names_of}
use Rattle.dm_item.specs.History.{get}
use Rattle.dm_item.specs.Listing.{changed_at, item_in, without}
use Rattle.dm_item.specs.Kept.{IsNumbered}
use Rattle.dm_item.specs.Row.{begins_in, changed}
use Rattle.dm_part.specs.Keeping.{Going}
use Rattle.dm_kept.specs.Files.{Covers, EndsLive, PartsStand, brings, live_of, stage_of}
use Rattle.dm_kept.proofs.Entered.{SameBut}
use Rattle.dm_kept.proofs.Lists.{each_changed, each_gone}

-- the part of an item that brings content stands
abbrev pub Stands : Folder → Item → Type 0
Stands folder item = IsTrue (brings item) → IsSome (names_of folder (part_name item.id.0 item.epoch.0))

-- and ends where the live cover does, where its total isn't known
abbrev pub Ends : Covers → Folder → Item → Type 0
Ends covers folder item = IsTrue (brings item) → item.total ≡ None → (bytes : List ℕ) → contents_of folder (part_name item.id.0 item.epoch.0) ≡ Some bytes → length bytes ≡ cover_end (live_of covers item)

ends_moved : (covers after : Covers) (folder : Folder) (item : Item) → after item.id.0 ≡ covers item.id.0 → Ends covers folder item → Ends after folder item
ends_moved covers after folder item same ends brings none bytes reads =
    ends brings none bytes reads ∙ ap (λ (cover : Option (List Slice)). cover_end (get cover item.slices)) (sym same)

-- an entry behind which no attempt of its item runs
pub stand_over : (e : Entry) (k : ℕ) (items : List Item) (folder : Folder) → ((item : Item) → (changed e item).id.0 ≡ item.id.0) → ((item : Item) → item_in k items ≡ Some item → brings (changed e item) ≡ false)
    → PartsStand items folder → PartsStand (changed_at e k items) folder
stand_over e k items folder same over =
    each_changed (Stands folder) (Stands folder) e k items same (λ item apart stands. stands) (λ item there stands brought. absurd (false≢true (sym (over item there) ∙ brought)))

pub ends_over : (covers after : Covers) (e : Entry) (k : ℕ) (items : List Item) (folder : Folder) → ((item : Item) → (changed e item).id.0 ≡ item.id.0) → SameBut k covers after
    → ((item : Item) → item_in k items ≡ Some item → brings (changed e item) ≡ false) → EndsLive covers items folder → EndsLive after (changed_at e k items) folder
ends_over covers after e k items folder same others over =
    each_changed (Ends covers folder) (Ends after folder) e k items same (λ item apart. ends_moved covers after folder item (others item.id.0 apart))
    (λ item there ends brought. absurd (false≢true (sym (over item there) ∙ brought)))

-- an entry that takes the item away
pub stand_gone : (k low next : ℕ) (items : List Item) (folder : Folder) → IsNumbered low items next → PartsStand items folder → PartsStand (without k items) folder
stand_gone k low next items folder numbered = each_gone (Stands folder) (Stands folder) k low next items numbered (λ item apart stands. stands)

pub ends_gone : (covers after : Covers) (k low next : ℕ) (items : List Item) (folder : Folder) → IsNumbered low items next → SameBut k covers after → EndsLive covers items folder → EndsLive after (without k items) folder
ends_gone covers after k low next items folder numbered others =
    each_gone (Ends covers folder) (Ends after folder) k low next items numbered (λ item apart. ends_moved covers after folder item (others item.id.0 apart))

-- an item that may begin is under way
pub begins_going : (by : By) (phase : Phase) → IsTrue (begins_in by phase) → stage_of phase ≡ Some Going
begins_going User phases.Waiting may = refl
begins_going User phases.Running may = refl
begins_going User phases.Paused may = refl
begins_going User (phases.Interrupted reason) may = refl
begins_going User phases.Finishing may = absurd (false≢true may)
begins_going User phases.Complete may = absurd (false≢true may)
begins_going User phases.Cancelled may = absurd (false≢true may)
begins_going Itself phases.Waiting may = refl
begins_going Itself phases.Running may = refl
begins_going Itself phases.Paused may = refl
begins_going Itself (phases.Interrupted reason) may = refl
begins_going Itself phases.Finishing may = absurd (false≢true may)
begins_going Itself phases.Complete may = absurd (false≢true may)
begins_going Itself phases.Cancelled may = absurd (false≢true may)
