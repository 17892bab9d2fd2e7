-- A desk of which one item after another is interrupted.
use Rattle.std.proofs.Common.{◌≡◌, ◌≢◌, ℕ, ◌+◌, ◌<◌, ◌≤◌, true, false, List, [], ◌∷◌, ◌++◌, length, Option, Some, None, refl, sym, ◌∙◌, ap, subst, arith, append_assoc}
use Rattle.std.specs.Prelude.{IsSome}
use Rattle.std.specs.Option.{option_map}
use Rattle.std.proofs.lemmas.List.{append-nil}
use Rattle.dm_types.specs.Faults.{NoneFell}
use Rattle.dm_types.specs.declared.item.Item.{Item}
use Rattle.dm_types.specs.declared.item.ItemId.{ItemId}
use Rattle.dm_types.specs.declared.kinds.DiskKind.{DiskKind}
use Rattle.dm_disk_model.specs.Disk.{DiskState, History as Clock, now}
use Rattle.dm_disk_model.specs.Moments.{KeepsFiles}
use Rattle.dm_disk_model.proofs.Reaching.{at_start}
use Rattle.dm_item.specs.Kept.{IsNumbered}
use Rattle.dm_item.specs.Lawful.{History}
use Rattle.dm_item.specs.Listing.{Listing, changed_at}
use Rattle.dm_item.proofs.Shorts.{numbered_of}
use Rattle.dm_journal.proofs.Calls.{keeps_then as files_then}
use Rattle.dm_kept.specs.Files.{Says}
use Rattle.dm_store.specs.Becomes.{Becomes, Fell, Recorded}
use Rattle.dm_store.specs.Keeps.{IsDesk, Keeps, StaysNear}
use Rattle.dm_store.specs.Lives.{life_in}
use Rattle.dm_store.specs.View.{View}
use Rattle.dm_store.proofs.Composing.{becomes_then, near_then}
use Rattle.dm_store.proofs.Keeping.{keeps_same, keeps_then}
use Rattle.dm_store.proofs.Saved.{later_then}
use Rattle.dm_answers.specs.Shut.{shuts}
use Rattle.dm_land.specs.Shutting.{running_in}
use Rattle.dm_land.proofs.Shuts.{found_runs, found_there, running_lives, shut_of, shuts_first, shuts_none}
use Rattle.dm_land.proofs.Steps.{recorded_none}

-- So far: the first items that ran are interrupted.
pub record ShutSoFar {D O : Type 0} (tells : Type 0) (clock : D → Clock) (counts : D → DiskKind → ℕ) (far : D → ℕ) (says : O → Says) (start present : View D O) : Type 0 where
  pub whole : present.broken ≡ false
  pub keeps : Keeps tells clock says start present
  pub done : History
  pub recorded : Recorded start present done
  pub all : done ++ shuts present.items.items ≡ shuts start.items.items
  pub files : tells → KeepsFiles (clock start.disk) (clock present.disk)
  pub later : NoneFell (counts start.disk) (counts present.disk)
  pub near : StaysNear (far start.disk) (far present.disk) start present

module _ {D O : Type 0} (tells : Type 0) (clock : D → Clock) (counts : D → DiskKind → ℕ) (far : D → ℕ) (says : O → Says) where
  pub shut_start : (desk : View D O) → IsDesk tells clock desk → desk.broken ≡ false → ShutSoFar tells clock counts far says desk desk
  shut_start desk is whole = record {
    whole = whole;
    keeps = keeps_same tells clock says desk desk refl;
    done = [];
    recorded = recorded_none desk whole (is.failed whole);
    all = refl;
    files = λ told. at_start (clock desk.disk) (λ (d : DiskState). d.files ≡ (now (clock desk.disk)).files) refl;
    later = λ kind. omega arith;
    near = λ short. refl;
  }

  module _ (start present : View D O) (is : IsDesk tells clock present) (so_far : ShutSoFar tells clock counts far says start present) where
    numbered : IsNumbered 1 present.items.items present.items.next
    numbered = numbered_of (is.founded.before ++ present.list) present.items is.founded.items

    -- The next one has a life.
    pub next_lives : (item : Item) → running_in present.items.items ≡ Some item → IsSome (life_in item.id.0 present.lives)
    next_lives item found =
        running_lives present.items.items present.lives item (is.lives so_far.whole) (found_there 1 present.items.next present.items.items item numbered found) (found_runs present.items.items item found)

    module _ (next : View D O) (item : Item) (found : running_in present.items.items ≡ Some item) where
      more : shuts present.items.items ≡ shut_of item.id ∷ shuts (changed_at (shut_of item.id) item.id.0 present.items.items)
      more = shuts_first 1 present.items.next present.items.items item numbered found

      -- It was interrupted.
      module _ (makes : Recorded present next (shut_of item.id ∷ [])) where
        behind : next.items.items ≡ changed_at (shut_of item.id) item.id.0 present.items.items
        behind = ap (λ (v : Listing). v.items) makes.items_are

        pub fewer : shuts present.items.items ≡ shut_of item.id ∷ shuts next.items.items
        fewer = more ∙ ap (λ (items : List Item). shut_of item.id ∷ shuts items) (sym behind)

        pub fewer_left : length (shuts next.items.items) < length (shuts present.items.items)
        fewer_left = let size = ap length fewer in omega (arith, size)

        pub shut_next : Keeps tells clock says present next → (tells → KeepsFiles (clock present.disk) (clock next.disk)) → NoneFell (counts present.disk) (counts next.disk) → StaysNear (far present.disk) (far next.disk) present next
            → ShutSoFar tells clock counts far says start next
        shut_next keeps files later near = record {
          whole = makes.broken_is;
          keeps = keeps_then tells clock says start present next so_far.keeps so_far.recorded.origin so_far.recorded.failed_is keeps;
          done = so_far.done ++ shut_of item.id ∷ [];
          recorded = becomes_then start present next so_far.done so_far.recorded (shut_of item.id ∷ []) [] false makes;
          all = append_assoc so_far.done (shut_of item.id ∷ []) (shuts next.items.items) ∙ ap (λ (h : History). so_far.done ++ h) (sym fewer) ∙ so_far.all;
          files = λ told. files_then (clock start.disk) (clock present.disk) (clock next.disk) (so_far.files told) (files told);
          later = later_then (counts start.disk) (counts present.disk) (counts next.disk) so_far.later later;
          near = near_then start present next so_far.done so_far.recorded (shut_of item.id ∷ []) (far start.disk) (far present.disk) (far next.disk) makes.list_is so_far.near near;
        }

      -- The journal failed at it.
      module _ (makes : Becomes present next [] (shut_of item.id ∷ []) true) where
        pub shut_fell : Fell start next (shuts start.items.items)
        shut_fell = record {
          recorded = so_far.done;
          entry = shut_of item.id;
          rest = shuts (changed_at (shut_of item.id) item.id.0 present.items.items);
          tries_are = sym so_far.all ∙ ap (λ (h : History). so_far.done ++ h) more;
          becomes = subst (λ (h : History). Becomes start next h (shut_of item.id ∷ []) true) (append-nil so_far.done) (becomes_then start present next so_far.done so_far.recorded [] (shut_of item.id ∷ []) true makes);
        }

        pub fell_keeps : Keeps tells clock says present next → Keeps tells clock says start next
        fell_keeps keeps = keeps_then tells clock says start present next so_far.keeps so_far.recorded.origin so_far.recorded.failed_is keeps

        pub fell_near : StaysNear (far present.disk) (far next.disk) present next → StaysNear (far start.disk) (far next.disk) start next
        fell_near near = near_then start present next so_far.done so_far.recorded [] (far start.disk) (far present.disk) (far next.disk) makes.list_is so_far.near near

    -- None is left.
    pub shut_done : running_in present.items.items ≡ None → Recorded start present (shuts start.items.items)
    shut_done none =
        subst (λ (h : History). Recorded start present h) (sym (append-nil so_far.done) ∙ ap (λ (h : History). so_far.done ++ h) (sym (shuts_none present.items.items none)) ∙ so_far.all) so_far.recorded

-- the item that was found, by its id
pub record FoundItem (items : List Item) (id : ItemId) : Type 0 where
  pub item : Item
  pub is : running_in items ≡ Some item
  pub id_is : item.id ≡ id

found_by : (items : List Item) (id : ItemId) (found : Option Item) → running_in items ≡ found → Some id ≡ option_map (λ i. i.id) found → FoundItem items id
found_by items id None is none = absurd cc
found_by items id (Some item) is some = record { item = item; is = is; id_is = sym (some_id id item.id some) }
  where
    some_id : (a b : ItemId) → Some a ≡ Some b → a ≡ b
    some_id a b e = cc

pub found_item : (items : List Item) (id : ItemId) → Some id ≡ option_map (λ i. i.id) (running_in items) → FoundItem items id
found_item items id some = found_by items id (running_in items) refl some

none_by : (found : Option Item) → option_map (λ i. i.id) found ≡ None → found ≡ None
none_by None none = refl
none_by (Some item) none = absurd cc

pub found_none : (items : List Item) → option_map (λ i. i.id) (running_in items) ≡ None → running_in items ≡ None
found_none items none = none_by (running_in items) none
