-- A page with one item more.
use Rattle.std.proofs.Common.{◌≡◌, ℕ, ◌+◌, ◌<◌, ◌≤◌, Bool, true, false, cond, List, [], ◌∷◌, ◌++◌, length, map, filter, take, get_or, refl, sym, ◌∙◌, ap, arith, length-append}
use Rattle.std.specs.Prelude.{nat_lt}
use Rattle.std.proofs.lemmas.List.{append-nil, map-append, take-append-le, take_all, take_more, length-take}
use Rattle.std.proofs.lemmas.List.Elements.{filter-append}
use Rattle.dm_types.specs.declared.item.Item.{Item}
use Rattle.dm_types.specs.declared.item.ItemId.{ItemId}
use Rattle.dm_change.specs.Page.{ids_above, page_of, with_id}

ids_push : (after : ℕ) (items : List Item) (item : Item) → ids_above after (items ++ item ∷ []) ≡ ids_above after items ++ ids_above after (item ∷ [])
ids_push after items item =
    ap (map (λ (i : Item). i.id)) (filter-append (λ (i : Item). nat_lt after i.id.0) items (item ∷ []))
    ∙ map-append (λ (i : Item). i.id) (filter (λ (i : Item). nat_lt after i.id.0) items) (filter (λ (i : Item). nat_lt after i.id.0) (item ∷ []))

with_room : (limit : ℕ) (all : List ItemId) (id : ItemId) (room : Bool) → nat_lt (length (take limit all)) limit ≡ room → cond room (take limit all ++ id ∷ []) (take limit all) ≡ take limit (all ++ id ∷ [])
with_room limit all id true is =
    let less : length (take limit all) < limit = grind (arith, is) in
    let few : length all < limit = omega (arith, less, length-take limit all) in
    ap (λ (ids : List ItemId). ids ++ id ∷ []) (take_all limit all (omega arith)) ∙ sym (take_all limit (all ++ id ∷ []) (omega (arith, few, length-append all (id ∷ []))))
with_room limit all id false is =
    let less : limit ≤ length (take limit all) = grind (arith, is) in
    let many : limit ≤ length all = omega (arith, less, length-take limit all) in
    sym (take-append-le limit all (id ∷ []) many)

above : (after limit : ℕ) (all : List ItemId) (item : Item) (is_above : Bool) → nat_lt after item.id.0 ≡ is_above
    → cond is_above (cond (nat_lt (length (take limit all)) limit) (take limit all ++ item.id ∷ []) (take limit all)) (take limit all)
    ≡ take limit (all ++ map (λ (i : Item). i.id) (cond is_above (item ∷ []) []))
above after limit all item true is = with_room limit all item.id (nat_lt (length (take limit all)) limit) refl
above after limit all item false is = ap (take limit) (sym (append-nil all))

page_step : (after limit : ℕ) (items : List Item) (item : Item) → with_id after limit (page_of after limit items) item.id ≡ page_of after limit (items ++ item ∷ [])
page_step after limit items item =
    above after limit (ids_above after items) item (nat_lt after item.id.0) refl ∙ ap (take limit) (sym (ids_push after items item))

-- the items up to a place and the one there
pub page_more : (after limit : ℕ) (items : List Item) (index : ℕ) (item : Item) (ids new : List ItemId) → index < length items → item ≡ get_or items index item → ids ≡ page_of after limit (take index items)
    → new ≡ with_id after limit ids item.id → new ≡ page_of after limit (take (index + 1) items)
page_more after limit items index item ids new within here so_far is =
    is
    ∙ ap (λ (page : List ItemId). with_id after limit page item.id) so_far
    ∙ page_step after limit (take index items) item
    ∙ ap (page_of after limit) (ap (λ (i : Item). take index items ++ i ∷ []) here ∙ sym (take_more items index item within))

pub page_all : (after limit : ℕ) (items : List Item) (index : ℕ) (ids : List ItemId) → length items ≤ index → ids ≡ page_of after limit (take index items) → ids ≡ page_of after limit items
page_all after limit items index ids past so_far = so_far ∙ ap (page_of after limit) (take_all index items past)

pub page_none : (after limit : ℕ) (items : List Item) → [] ≡ page_of after limit (take 0 items)
page_none after limit items = sym (take_none limit) where
  take_none : (n : ℕ) → take n (ids_above after []) ≡ []
  take_none n = take_all n (ids_above after []) (omega arith)
