-- Lemmas on lists whose ids rise.
use Rattle.std.proofs.Common.{◌≡◌, ℕ, ◌+◌, ◌<◌, ◌≤◌, ◌⊎◌, List, [], ◌∷◌, ◌++◌, map, length, cond, true, false, Bool, ◌==◌, Option, Some, None, IsTrue, inl, inr, refl, ap, sym, subst, ◌∙◌, arith}
use Rattle.std.proofs.lemmas.Bool.{false≢true}
use Rattle.dm_types.specs.declared.item.Item.{Item}
use Rattle.dm_types.specs.declared.entry.Entry.{Entry}
use Rattle.dm_types.specs.declared.entry.Entry.TheVariants as entries
use Rattle.dm_types.specs.declared.item.ItemId.{ItemId}
use Rattle.dm_item.proofs.Basics.{eq_same}
use Rattle.dm_item.specs.Fields.{is_gone}
use Rattle.dm_item.specs.Row.{changed, target_of, stopped_item}
use Rattle.dm_item.specs.Restored.{IsAbove, IsRestorable}
use Rattle.dm_item.specs.Listing.{TargetTakes, changed_at, items_after, put_in, without}
use Rattle.dm_item.specs.Kept.{IsKept, IsNumbered}

pub numbered-count : (low : ℕ) (items : List Item) (next : ℕ) → IsNumbered low items next → low + length items ≤ next
numbered-count low [] next numbered = omega (arith, numbered)
numbered-count low (item ∷ rest) next numbered = let later = numbered-count (item.id.0 + 1) rest next numbered.1 in let own = numbered.0 in omega arith

pub numbered-low : (low lower : ℕ) (items : List Item) (next : ℕ) → lower ≤ low → IsNumbered low items next → IsNumbered lower items next
numbered-low low lower [] next below numbered = omega (arith, numbered)
numbered-low low lower (item ∷ rest) next below numbered = let own = numbered.0 in (omega arith, numbered.1)

-- a new item behind all others
pub numbered-push : (low : ℕ) (items : List Item) (next : ℕ) (item : Item) → IsNumbered low items next → item.id.0 ≡ next → IsNumbered low (items ++ item ∷ []) (item.id.0 + 1)
numbered-push low [] next item numbered same = (omega (arith, numbered), omega arith)
numbered-push low (first ∷ rest) next item numbered same = (numbered.0, numbered-push (first.id.0 + 1) rest next item numbered.1 same)

-- an item above all others and below the next id
pub numbered-above : (low : ℕ) (items : List Item) (next : ℕ) (item : Item) → low ≤ item.id.0 → IsNumbered low items next → IsAbove item.id.0 items → item.id.0 < next → IsNumbered low (items ++ item ∷ []) next
numbered-above low [] next item least numbered above below = (least, omega arith)
numbered-above low (first ∷ rest) next item least numbered above below =
    let own = above.0 in (numbered.0, numbered-above (first.id.0 + 1) rest next item (omega arith) numbered.1 above.1 below)

-- an effect keeps the id
pub changed-id : (e : Entry) (item : Item) → (changed e item).id ≡ item.id
changed-id (entries.Added id word address wish digest at) item = refl
changed-id (entries.Began id attempt by at) item = refl
changed-id (entries.Described id key last_address total name modified) item = refl
changed-id (entries.Progress id slices) item = refl
changed-id (entries.Broke id reason) item = refl
changed-id (entries.Paused id) item = refl
changed-id (entries.Cancelled id) item = refl
changed-id (entries.Restarted id epoch because) item = refl
changed-id (entries.Finishing id total) item = refl
changed-id (entries.Done id digest at) item = refl
changed-id (entries.Removed id) item = refl
changed-id (entries.Archived id) item = refl
changed-id (entries.Reopened next at) item = refl
changed-id (entries.Restored other) item = refl
changed-id (entries.Asked id) item = refl

pub numbered-changed_at : (e : Entry) (id low : ℕ) (items : List Item) (next : ℕ) → IsNumbered low items next → IsNumbered low (changed_at e id items) next
numbered-changed_at e id low [] next numbered = numbered
numbered-changed_at e id low (item ∷ rest) next numbered =
    elim (item.id.0 == id) as (λ (b : Bool). IsNumbered low (cond b (changed e item ∷ rest) (item ∷ changed_at e id rest)) next) [
      | true ↦ subst (λ (n : ℕ). (low ≤ n) × IsNumbered (n + 1) rest next) (ap (λ i. i.0) (sym (changed-id e item))) numbered
      | false ↦ (numbered.0, numbered-changed_at e id (item.id.0 + 1) rest next numbered.1)
    ]

pub numbered-without : (id low : ℕ) (items : List Item) (next : ℕ) → IsNumbered low items next → IsNumbered low (without id items) next
numbered-without id low [] next numbered = numbered
numbered-without id low (item ∷ rest) next numbered =
    elim (item.id.0 == id) as (λ (b : Bool). IsNumbered low (cond b rest (item ∷ without id rest)) next) [
      | true ↦ let own = numbered.0 in numbered-low (item.id.0 + 1) low rest next (omega arith) numbered.1
      | false ↦ (numbered.0, numbered-without id (item.id.0 + 1) rest next numbered.1)
    ]

pub numbered-stopped : (low : ℕ) (items : List Item) (next : ℕ) → IsNumbered low items next → IsNumbered low (map stopped_item items) next
numbered-stopped low [] next numbered = numbered
numbered-stopped low (item ∷ rest) next numbered = (numbered.0, numbered-stopped (item.id.0 + 1) rest next numbered.1)

-- what a list keeps through each way of taking an entry
pub kept-push : (limit next id : ℕ) (early : Bool) (items new : List Item) (item : Item) → IsNumbered 1 items next → id ≡ next → item.id.0 ≡ id → new ≡ items ++ item ∷ [] → IsKept (record { limit = limit; next = id + 1; is_first = false; is_early = early; items = new })
kept-push limit next id early items new item numbered same made value =
    let pushed : IsNumbered 1 (items ++ item ∷ []) (id + 1) = subst (λ (n : ℕ). IsNumbered 1 (items ++ item ∷ []) (n + 1)) made (numbered-push 1 items next item numbered (made ∙ same)) in
    record { numbered = subst (λ (x : List Item). IsNumbered 1 x (id + 1)) (sym value) pushed; fresh = λ no_way. absurd (false≢true no_way) }

pub kept-restored : (limit next : ℕ) (early : Bool) (items new : List Item) (item : Item) → IsNumbered 1 items next → IsRestorable early next items item → new ≡ items ++ item ∷ [] → IsKept (record { limit = limit; next = next; is_first = false; is_early = early; items = new })
kept-restored limit next early items new item numbered restorable value =
    record { numbered = subst (λ (x : List Item). IsNumbered 1 x next) (sym value) (numbered-above 1 items next item restorable.first numbered restorable.above restorable.below); fresh = λ no_way. absurd (false≢true no_way) }

numbered-items_after : (e : Entry) (name : Option ItemId) (low : ℕ) (items : List Item) (next : ℕ) → IsNumbered low items next → IsNumbered low (items_after e name items) next
numbered-items_after e None low items next numbered = numbered
numbered-items_after e (Some id) low items next numbered =
    elim (is_gone e) as (λ (b : Bool). IsNumbered low (cond b (without id.0 items) (changed_at e id.0 items)) next) [
      | true ↦ numbered-without id.0 low items next numbered
      | false ↦ numbered-changed_at e id.0 low items next numbered
    ]

pub kept-named : (limit next : ℕ) (e : Entry) (items new : List Item) → IsNumbered 1 items next → TargetTakes e items new → IsKept (record { limit = limit; next = next; is_first = false; is_early = false; items = new })
kept-named limit next e items new numbered takes =
    record { numbered = subst (λ (x : List Item). IsNumbered 1 x next) (sym takes.value) (numbered-items_after e (target_of e) 1 items next numbered); fresh = λ no_way. absurd (false≢true no_way) }

pub numbered-reopened : (first : Bool) (current next : ℕ) (items : List Item) → IsNumbered 1 items current → (IsTrue first → items ≡ []) → (next ≡ current) ⊎ (IsTrue first × (1 ≤ next)) → IsNumbered 1 (map stopped_item items) (cond first next current)
numbered-reopened false current next items numbered fresh may = numbered-stopped 1 items current numbered
numbered-reopened true current next items numbered fresh may =
    let least = numbered-count 1 items current numbered in
    let low : 1 ≤ next = elim may [ inl same ↦ omega arith | inr both ↦ both.1 ] in
    subst (λ (x : List Item). IsNumbered 1 (map stopped_item x) next) (sym (fresh refl)) low

pub kept-reopened : (limit current next after : ℕ) (first early : Bool) (items new : List Item) → IsNumbered 1 items current → (IsTrue first → items ≡ []) → (next ≡ current) ⊎ (IsTrue first × (1 ≤ next)) → after ≡ cond first next current → new ≡ map stopped_item items → IsKept (record { limit = limit; next = after; is_first = false; is_early = early; items = new })
kept-reopened limit current next after first early items new numbered fresh may is value =
    record { numbered = rw (value, is) (numbered-reopened first current next items numbered fresh may); fresh = λ no_way. absurd (false≢true no_way) }

-- an item put in the place of the one with its id
numbered-put_test : (new item : Item) (low : ℕ) (rest : List Item) (next : ℕ) (test : Bool) → (item.id.0 == new.id.0) ≡ test → IsNumbered low (item ∷ rest) next → IsNumbered (item.id.0 + 1) (put_in new.id.0 new rest) next
    → IsNumbered low (cond test (new ∷ rest) (item ∷ put_in new.id.0 new rest)) next
numbered-put_test new item low rest next true is numbered older = subst (λ (n : ℕ). (low ≤ n) × IsNumbered (n + 1) rest next) (eq_same item.id.0 new.id.0 is) numbered
numbered-put_test new item low rest next false is numbered older = (numbered.0, older)

pub numbered-put : (new : Item) (low : ℕ) (items : List Item) (next : ℕ) → IsNumbered low items next → IsNumbered low (put_in new.id.0 new items) next
numbered-put new low [] next numbered = numbered
numbered-put new low (item ∷ rest) next numbered =
    numbered-put_test new item low rest next (item.id.0 == new.id.0) refl numbered (numbered-put new (item.id.0 + 1) rest next numbered.1)

pub kept-put : (limit next : ℕ) (items after : List Item) (new : Item) → IsNumbered 1 items next → after ≡ put_in new.id.0 new items → IsKept (record { limit = limit; next = next; is_first = false; is_early = false; items = after })
kept-put limit next items after new numbered is =
    record { numbered = subst (λ (x : List Item). IsNumbered 1 x next) (sym is) (numbered-put new 1 items next numbered); fresh = λ no_way. absurd (false≢true no_way) }
