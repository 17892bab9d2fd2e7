-- What holds of each front of a list, and what entries make of an item that all of them are of.
use Rattle.std.proofs.Common.{◌≡◌, ℕ, List, [], ◌∷◌, ◌++◌, reverse, Option, Some, refl, sym, ◌∙◌, ap, subst, append_assoc}
use Rattle.std.proofs.lemmas.List.{append-nil}
use Rattle.std.specs.List.{AllByRecursion}
use Rattle.dm_types.specs.declared.entry.Entry.{Entry}
use Rattle.dm_types.specs.declared.item.Item.{Item}
use Rattle.dm_item.specs.Lawful.{History, IsLawful, IsOf, items_of, left_by}
use Rattle.dm_item.specs.Listing.{HasRoomFor, Listing, Meets, applied, changed_at, item_in}
use Rattle.dm_item.specs.Row.{changed}
use Rattle.dm_item.proofs.Histories.{keeps_step, meets_limit}
use Rattle.dm_kept.proofs.Entered.{items_are}
use Rattle.dm_attempt.specs.Scene.{changed_all}
use Rattle.dm_attempt.proofs.Items.{item_then}
use Rattle.dm_does.proofs.Behind.{lawful_front, lawful_last}

-- P holds of each front
abbrev pub EachFront : (History → Type 0) → History → Type 0
EachFront P [] = P []
EachFront P (entry ∷ more) = P [] × EachFront (λ front. P (entry ∷ front)) more

same_head : (a b : Entry) (x y : History) → a ∷ x ≡ b ∷ y → a ≡ b
same_head a b x y same = cc

same_rest : (a b : Entry) (x y : History) → a ∷ x ≡ b ∷ y → x ≡ y
same_rest a b x y same = cc

not_empty : (a : Entry) (x : History) → [] ≡ a ∷ x → ⊥
not_empty a x same = absurd cc

pub at_front : (P : History → Type 0) (all front back : History) → all ≡ front ++ back → EachFront P all → P front
at_front P [] [] back is each = each
at_front P [] (first ∷ front) back is each = absurd (not_empty first (front ++ back) is)
at_front P (entry ∷ more) [] back is each = each.0
at_front P (entry ∷ more) (first ∷ front) back is each =
    subst (λ (e : Entry). P (e ∷ front)) (same_head entry first more (front ++ back) is)
    (at_front (λ (h : History). P (entry ∷ h)) more front back (same_rest entry first more (front ++ back) is) each.1)

pub each_map : (P Q : History → Type 0) → ((front : History) → P front → Q front) → (all : History) → EachFront P all → EachFront Q all
each_map P Q f [] each = f [] each
each_map P Q f (entry ∷ more) each = (f [] each.0, each_map (λ (h : History). P (entry ∷ h)) (λ (h : History). Q (entry ∷ h)) (λ front. f (entry ∷ front)) more each.1)

-- the entry changes the item of an id, and needs no room
pub record Changes (k : ℕ) (e : Entry) : Type 0 where
  pub room : (v : Listing) → HasRoomFor v e
  pub items : (v : Listing) → (applied e v).items ≡ changed_at e k v.items

pub both : (k : ℕ) (xs ys : History) → AllByRecursion (Changes k) xs → AllByRecursion (Changes k) ys → AllByRecursion (Changes k) (xs ++ ys)
both k [] ys own more = more
both k (x ∷ xs) ys own more = (own.0, both k xs ys own.1 more)

pub fronts : (k : ℕ) (xs ys : History) → AllByRecursion (Changes k) (xs ++ ys) → AllByRecursion (Changes k) xs
fronts k [] ys own = tt
fronts k (x ∷ xs) ys own = (own.0, fronts k xs ys own.1)

-- the entry meets its row in the list
meets_in : (history : History) (v : Listing) (e : Entry) → IsOf history v → IsLawful (history ++ e ∷ []) → Meets v e
meets_in history v e is lawful =
    subst (λ (w : Listing). Meets w e) (sym is.value) (meets_limit e 0 v.limit (reverse history) (lawful_last history e lawful).0)

-- the item behind entries that are all of it
pub there_behind : (k : ℕ) (front history : History) (v : Listing) (item : Item) → IsOf history v → IsLawful (history ++ front) → AllByRecursion (Changes k) front → item_in k v.items ≡ Some item
    → item_in k (items_of (history ++ front)) ≡ Some (changed_all front item)
there_behind k [] history v item is lawful own there =
    ap (λ (h : History). item_in k (items_of h)) (append-nil history) ∙ ap (item_in k) (sym (items_are history v is)) ∙ there
there_behind k (e ∷ front) history v item is lawful own there =
    let longer : (history ++ e ∷ []) ++ front ≡ history ++ e ∷ front = append_assoc history (e ∷ []) front in
    let lawful_all : IsLawful ((history ++ e ∷ []) ++ front) = subst IsLawful (sym longer) lawful in
    let meets : Meets v e = meets_in history v e is (lawful_front (history ++ e ∷ []) front lawful_all) in
    ap (λ (h : History). item_in k (items_of h)) (sym longer)
    ∙ there_behind k front (history ++ e ∷ []) (applied e v) (changed e item) (keeps_step history e v (applied e v) is (record { room = own.0.room v; meets = meets; value = refl })) lawful_all own.1
    (ap (item_in k) (own.0.items v) ∙ item_then e k v.items item there)
