-- A page of the list.
use Rattle.std.specs.Prelude.{ℕ, List, [], ◌∷◌, ◌++◌, cond, length, map, filter, take, nat_lt}
use Rattle.dm_types.specs.declared.item.Item.{Item}
use Rattle.dm_types.specs.declared.item.ItemId.{ItemId}

-- the ids above a number, in their order
abbrev pub ids_above : ℕ → List Item → List ItemId
ids_above after items = map (λ item. item.id) (filter (λ item. nat_lt after item.id.0) items)

-- the first so many of them
abbrev pub page_of : ℕ → ℕ → List Item → List ItemId
page_of after limit items = take limit (ids_above after items)

-- the page with one id more, where it is above the number and there is room
abbrev pub with_id : ℕ → ℕ → List ItemId → ItemId → List ItemId
with_id after limit ids id = cond (nat_lt after id.0) (cond (nat_lt (length ids) limit) (ids ++ id ∷ []) ids) ids
