-- An entry that meets its row, with room for it, is declined for want of memory alone.
use Rattle.std.proofs.Common.{◌≡◌, ⊎_elim, ◌≤◌, IsTrue, List, length, Option, Some, None, refl, sym, ◌∙◌, subst, arith}
use Rattle.std.specs.Prelude.{IsSomeAnd, option_and_then}
use Rattle.std.proofs.lemmas.Bool.{false≢true}
use Rattle.dm_types.specs.declared.item.Item.{Item}
use Rattle.dm_types.specs.declared.item.ItemId.{ItemId}
use Rattle.dm_types.specs.declared.entry.Entry.{Entry}
use Rattle.dm_types.specs.declared.entry.Entry.TheVariants as entries
use Rattle.dm_item.specs.declared.fault.ApplyFault.{ApplyFault}
use Rattle.dm_item.specs.declared.fault.ApplyFault.TheVariants as faults
use Rattle.dm_item.specs.Row.{Further, allows, target_of}
use Rattle.dm_item.specs.Listing.{HasRoomFor, Listing, Meets, Row, RowAt, item_in}
use Rattle.dm_item.specs.Declines.{Declines, RowDeclines, TargetDeclines}

-- a row that is met isn't declined
row_not : (entry : Entry) (items : List Item) (fault : ApplyFault) (item : Item) → IsTrue (allows entry item.phase) → Further entry items item → RowDeclines entry items item fault → ⊥
row_not entry items (faults.WrongPhase phase) item allowed further declines = false≢true (sym declines.1 ∙ allowed)
row_not entry items (faults.Unlawful kind) item allowed further declines = declines.1.1 further
row_not entry items (faults.NoItem id) item allowed further declines = declines
row_not entry items (faults.Full count) item allowed further declines = declines
row_not entry items faults.NoMemory item allowed further declines = declines

found_not : (entry : Entry) (items : List Item) (fault : ApplyFault) (item : Option Item) → Row entry items item → IsSomeAnd item (λ found. RowDeclines entry items found fault) → ⊥
found_not entry items fault None met declines = absurd met
found_not entry items fault (Some item) met declines = row_not entry items fault item met.0 met.1 declines

target_not : (entry : Entry) (items : List Item) (fault : ApplyFault) (id : Option ItemId) → RowAt entry items id
    → IsSomeAnd (option_and_then (λ (target : ItemId). item_in target.0 items) id) (λ found. RowDeclines entry items found fault) → ⊥
target_not entry items fault None met declines = absurd met
target_not entry items fault (Some id) met declines = found_not entry items fault (item_in id.0 items) met declines

changing : (entry : Entry) (items : List Item) (fault : ApplyFault) → RowAt entry items (target_of entry) → TargetDeclines entry items fault → fault ≡ faults.NoMemory
changing entry items (faults.NoItem id) met declines =
    absurd (subst (Row entry items) declines.1 (subst (RowAt entry items) declines.0 met))
changing entry items (faults.WrongPhase phase) met declines = absurd (target_not entry items (faults.WrongPhase phase) (target_of entry) met declines)
changing entry items (faults.Unlawful kind) met declines = absurd (target_not entry items (faults.Unlawful kind) (target_of entry) met declines)
changing entry items (faults.Full count) met declines = absurd declines
changing entry items faults.NoMemory met declines = refl

pub declined : (v : Listing) (entry : Entry) (fault : ApplyFault) → HasRoomFor v entry → Meets v entry → Declines v entry fault → fault ≡ faults.NoMemory
declined v (entries.Added id word address wish digest at) (faults.Full count) room meets declines =
    absurd (⊎_elim (λ (full : v.limit ≤ length v.items). let less = room.room in omega arith) (λ (last : v.next ≡ 4294967295). let less = room.number in omega arith) declines.1)
declined v (entries.Added id word address wish digest at) (faults.Unlawful kind) room meets declines = absurd (declines.1.1 meets)
declined v (entries.Added id word address wish digest at) faults.NoMemory room meets declines = refl
declined v (entries.Added id word address wish digest at) (faults.NoItem other) room meets declines = absurd declines
declined v (entries.Added id word address wish digest at) (faults.WrongPhase phase) room meets declines = absurd declines
declined v (entries.Reopened next at) (faults.Unlawful kind) room meets declines = absurd (declines.1 meets)
declined v (entries.Reopened next at) (faults.NoItem id) room meets declines = absurd declines
declined v (entries.Reopened next at) (faults.WrongPhase phase) room meets declines = absurd declines
declined v (entries.Reopened next at) (faults.Full count) room meets declines = absurd declines
declined v (entries.Reopened next at) faults.NoMemory room meets declines = absurd declines
declined v (entries.Restored item) (faults.Unlawful kind) room meets declines = absurd (declines.1 meets)
declined v (entries.Restored item) faults.NoMemory room meets declines = refl
declined v (entries.Restored item) (faults.NoItem id) room meets declines = absurd declines
declined v (entries.Restored item) (faults.WrongPhase phase) room meets declines = absurd declines
declined v (entries.Restored item) (faults.Full count) room meets declines = absurd declines
declined v (entries.Began id attempt by at) fault room meets declines = changing (entries.Began id attempt by at) v.items fault meets declines
declined v (entries.Described id key last_address total name modified) fault room meets declines = changing (entries.Described id key last_address total name modified) v.items fault meets declines
declined v (entries.Progress id slices) fault room meets declines = changing (entries.Progress id slices) v.items fault meets declines
declined v (entries.Broke id reason) fault room meets declines = changing (entries.Broke id reason) v.items fault meets declines
declined v (entries.Paused id) fault room meets declines = changing (entries.Paused id) v.items fault meets declines
declined v (entries.Cancelled id) fault room meets declines = changing (entries.Cancelled id) v.items fault meets declines
declined v (entries.Restarted id epoch because) fault room meets declines = changing (entries.Restarted id epoch because) v.items fault meets declines
declined v (entries.Finishing id total) fault room meets declines = changing (entries.Finishing id total) v.items fault meets declines
declined v (entries.Done id digest at) fault room meets declines = changing (entries.Done id digest at) v.items fault meets declines
declined v (entries.Removed id) fault room meets declines = changing (entries.Removed id) v.items fault meets declines
declined v (entries.Archived id) fault room meets declines = changing (entries.Archived id) v.items fault meets declines
declined v (entries.Asked id) fault room meets declines = changing (entries.Asked id) v.items fault meets declines
