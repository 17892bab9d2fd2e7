-- Where the disk was good at the opening, no attempt finds its part too short: neither where it begins nor where it has brought all.
use Rattle.std.proofs.Common.{◌≡◌, ◌⊎◌, inl, inr, ℕ, zero, suc, ◌-◌, ◌<◌, ◌≤◌, Bool, true, false, ◌&&◌, cond, IsTrue, List, length, Option, Some, None, Ok, refl, sym, ◌∙◌, ap, subst, arith}
use Rattle.std.specs.Prelude.{IsSome, is_some}
use Rattle.std.specs.Option.{option_map}
use Rattle.std.proofs.lemmas.Bool.{false≢true}
use Rattle.dm_types.specs.declared.item.Item.{Item}
use Rattle.dm_types.specs.declared.item.ItemId.{ItemId}
use Rattle.dm_types.specs.declared.item.Key.{Key}
use Rattle.dm_types.specs.declared.item.Phase.{Phase}
use Rattle.dm_types.specs.declared.kinds.By.{By}
use Rattle.dm_types.specs.declared.kinds.DiskKind.{DiskKind}
use Rattle.dm_types.specs.declared.slices.Slice.{Slice}
use Rattle.dm_disk_model.specs.Disk.{History as Clock, now}
use Rattle.dm_slice.specs.Words.{HasByte, IsNormal, cover_end}
use Rattle.dm_slice.proofs.Ends.{HasLast, last-normal}
use Rattle.dm_item.specs.Fields.{is_running}
use Rattle.dm_item.specs.History.{get}
use Rattle.dm_item.specs.Lawful.{History, items_of}
use Rattle.dm_item.specs.Listing.{item_in}
use Rattle.dm_item.specs.Row.{begins_by, begins_in, mode_of_item}
use Rattle.dm_item.proofs.Shorts.{sound_in}
use Rattle.dm_part.specs.Keeping.{Claim, Going, Stage}
use Rattle.dm_part.proofs.Standing.{held_stands, part_reads}
use Rattle.dm_kept.specs.Files.{FileKept, Says, claim_of, live_of}
use Rattle.dm_kept.proofs.Entered.{items_are}
use Rattle.dm_kept.proofs.Lists.{id_in}
use Rattle.dm_kept.proofs.Standing.{begins_going}
use Rattle.dm_store.specs.declared.life.Life.{Life}
use Rattle.dm_store.specs.declared.pass.Pass.{Pass}
use Rattle.dm_store.specs.Keeps.{HoldsOf}
use Rattle.dm_store.specs.Lives.{covers_of, life_in, part_place}
use Rattle.dm_store.specs.View.{View}
use Rattle.dm_store.proofs.Found.{there_is}
use Rattle.dm_store.proofs.Keeping.{at_rest}
use Rattle.dm_store.proofs.Saved.{going_is}
use Rattle.dm_answers.specs.declared.answer.Begun.TheVariants as begun
use Rattle.dm_answers.specs.declared.answer.Finished.TheVariants as finished
use Rattle.dm_answers.specs.Begin.{BeginAnswers, begins_anew, may_begin}
use Rattle.dm_answers.specs.Finish.{FinishAnswers, MayFinish, total_of}
use Rattle.dm_answers.specs.Running.{length_of, part_bytes}
use Rattle.dm_finish.proofs.Sums.{reads_there}
use Rattle.dm_finish.proofs.Wholes.{running_is}

reaches : (total size : ℕ) → ((place : ℕ) → place < total → place < size) → total ≤ size
reaches zero size below = omega arith
reaches (suc n) size below = let last = below n (omega arith) in omega (arith, last)

module _ {D O : Type 0} (tells : Type 0) (clock : D → Clock) (says : Says) (counts : D → DiskKind → ℕ) (old new : View D O) (pass : Pass) (at have wanted : ℕ) where
  -- the part of an attempt that has brought all reaches its total
  part_long : (history : History) → old.broken ≡ false → HoldsOf true says clock old history → (item : Item) → item_in pass.id.0 old.items.items ≡ Some item → IsTrue (is_running item.phase) → (life : Life) → life_in pass.id.0 old.lives ≡ Some life → MayFinish item life
      → total_of item life ≤ length_of (part_bytes clock old.disk item)
  part_long history whole holds item there runs life lives may =
      let sits = at_rest true says clock old history whole holds in
      let listed : item_in pass.id.0 (items_of history) ≡ Some item = subst (λ (list : List Item). item_in pass.id.0 list ≡ Some item) (items_are history old.items holds.items) there in
      let sound = sound_in history old.items pass.id.0 item holds.items there in
      let key = there_is item.key may.told in
      let address = there_is item.last_address (sound.told.has_address ∙ may.told) in
      let name = there_is item.name (sound.told.has_name ∙ may.told) in
      let live : live_of (covers_of old.lives) item ≡ life.cover =
      ap (λ (found : Option (List Slice)). get found item.slices) (ap (covers_of old.lives) (id_in pass.id.0 item (items_of history) listed) ∙ ap (option_map (λ (l : Life). l.cover)) lives) in
      let claim : Claim = claim_of name.it (live_of (covers_of old.lives) item) item in
      let kept : FileKept (says address.it key.it) (now (clock old.disk)).files (Some Going) claim =
      subst (λ (s : Option Stage). FileKept (says address.it key.it) (now (clock old.disk)).files s claim) (going_is item.phase runs)
      (sits.rests.facts pass.id.0 item listed key.it address.it name.it key.is address.is name.is) in
      let brought = subst (λ (p : Phase). IsTrue (is_running p && is_some item.key)) (sym (running_is item.phase runs)) may.told in
      let reads = reads_there (now (clock old.disk)) (part_place item.id.0 item.epoch.0) (sits.stand pass.id.0 item listed brought) in
      let said = (part_reads (says address.it key.it) claim (now (clock old.disk)) refl kept.0 reads.it reads.is).0 in
      subst (λ (found : Option (List ℕ)). total_of item life ≤ length_of found) (sym reads.is)
      (reaches (total_of item life) (length reads.it) (λ place below. (said place (subst (λ (cover : List Slice). HasByte cover place) (sym live) (may.full place below))).0))

  pub never_short : tells → (history : History) → HoldsOf true says clock old history → FinishAnswers tells clock counts old new pass at (Ok (finished.Short have wanted)) → ⊥
  never_short told history holds answer =
      let early = answer.is.1 in
      let long = part_long history answer.is.2.whole holds answer.item answer.there answer.runs answer.life answer.lives answer.is.0 in
      let low = early.short in
      let same = early.wanted_is in
      let has = early.have_is told in
      omega (arith, long, low, same, has)

-- Where it begins.

first_of : (a b : Bool) → IsTrue (a && b) → IsTrue a
first_of true b both = refl
first_of false b both = both

key_kept : (anew : Bool) (key : Option Key) → IsSome (cond anew None key) → IsSome key
key_kept true key some = absurd (false≢true some)
key_kept false key some = some

-- each saved place has a byte of the part: so the part reaches the last one
end_reached : (slices : List Slice) (size : ℕ) → HasLast slices → ((place : ℕ) → HasByte slices place → place < size) → cover_end slices ≤ size
end_reached slices size (inl none) below = omega (arith, none)
end_reached slices size (inr last) below = let high = below (cover_end slices - 1) last in omega (arith, high)

last_of : (total : Option ℕ) (slices : List Slice) → IsNormal total slices ⊎ IsNormal None slices → HasLast slices
last_of total slices (inl normal) = last-normal total slices normal
last_of total slices (inr normal) = last-normal None slices normal

module _ {D O : Type 0} (tells : Type 0) (clock : D → Clock) (says : Says) (counts : D → DiskKind → ℕ) (old new : View D O) (id : ItemId) (by : By) (at have wanted : ℕ) where
  -- the part of an item that goes on reaches the end of what was saved
  saved_long : (history : History) → old.broken ≡ false → HoldsOf true says clock old history → (item : Item) → item_in id.0 old.items.items ≡ Some item → IsTrue (may_begin by item) → IsSome item.key → cover_end item.slices ≤ length_of (part_bytes clock old.disk item)
  saved_long history whole holds item there may told =
      let sits = at_rest true says clock old history whole holds in
      let listed : item_in id.0 (items_of history) ≡ Some item = subst (λ (list : List Item). item_in id.0 list ≡ Some item) (items_are history old.items holds.items) there in
      let sound = sound_in history old.items id.0 item holds.items there in
      let key = there_is item.key told in
      let address = there_is item.last_address (sound.told.has_address ∙ told) in
      let name = there_is item.name (sound.told.has_name ∙ told) in
      let claim : Claim = claim_of name.it (live_of (covers_of old.lives) item) item in
      let kept : FileKept (says address.it key.it) (now (clock old.disk)).files (Some Going) claim =
      subst (λ (s : Option Stage). FileKept (says address.it key.it) (now (clock old.disk)).files s claim) (begins_going by item.phase (first_of (begins_in by item.phase) (begins_by by (mode_of_item item)) may))
      (sits.rests.facts id.0 item listed key.it address.it name.it key.is address.is name.is) in
      let stands = (held_stands (says address.it key.it) claim (now (clock old.disk)) kept.0).0 in
      let reads = reads_there (now (clock old.disk)) (part_place item.id.0 item.epoch.0) stands in
      let said = (part_reads (says address.it key.it) claim (now (clock old.disk)) refl kept.0 reads.it reads.is).0 in
      subst (λ (found : Option (List ℕ)). cover_end item.slices ≤ length_of found) (sym reads.is)
      (end_reached item.slices (length reads.it) (last_of item.total item.slices sound.covered.normal) (λ place has. (said place (kept.0.filed.holds place has)).0))

  pub begun_never_short : tells → (history : History) → HoldsOf true says clock old history → BeginAnswers tells clock counts old new id by at (Ok (begun.Short have wanted)) → ⊥
  begun_never_short told history holds answer =
      let kept = answer.is.0 in
      let short = answer.is.1 in
      let long = saved_long history answer.is.2.whole holds answer.item answer.there kept.may (key_kept (begins_anew answer.item) answer.item.key kept.told) in
      let low = short.short in
      let same = short.wanted_is in
      let has = short.have_is told in
      omega (arith, long, low, same, has)
