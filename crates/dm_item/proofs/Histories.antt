-- A list that took lawful entries is what their history leaves.
use Rattle.std.proofs.Common.{◌≡◌, ℕ, ◌+◌, ◌<◌, ◌≤◌, List, [], ◌∷◌, ◌++◌, reverse, length, get_or, take, refl, ap, sym, subst, ◌∙◌, append_assoc}
use Rattle.std.proofs.lemmas.List.{append-nil, reverse-append, take_more, take_all}
use Rattle.dm_types.specs.declared.entry.Entry.{Entry}
use Rattle.dm_types.specs.declared.entry.Entry.TheVariants as entries
use Rattle.dm_item.specs.Listing.{Listing, Meets, Takes, applied, empty_list}
use Rattle.dm_item.specs.Lawful.{History, IsLawfulBack, IsOf, KeepsHistory, left_by}
use Rattle.dm_item.proofs.Steps.{left_by_step}

-- the conditions of an entry don't read the limit
pub meets_limit : (e : Entry) (limit other : ℕ) (h : List Entry) → Meets (left_by limit h) e → Meets (left_by other h) e
meets_limit (entries.Added id word address wish digest at) limit other h meets = meets
meets_limit (entries.Began id attempt by at) limit other h meets = meets
meets_limit (entries.Described id key last_address total name modified) limit other h meets = meets
meets_limit (entries.Progress id slices) limit other h meets = meets
meets_limit (entries.Broke id reason) limit other h meets = meets
meets_limit (entries.Paused id) limit other h meets = meets
meets_limit (entries.Cancelled id) limit other h meets = meets
meets_limit (entries.Restarted id epoch because) limit other h meets = meets
meets_limit (entries.Finishing id total) limit other h meets = meets
meets_limit (entries.Done id digest at) limit other h meets = meets
meets_limit (entries.Removed id) limit other h meets = meets
meets_limit (entries.Archived id) limit other h meets = meets
meets_limit (entries.Reopened next at) limit other h meets = meets
meets_limit (entries.Restored item) limit other h meets = meets
meets_limit (entries.Asked id) limit other h meets = meets

-- the limit stays
pub limit_applied : (e : Entry) (v : Listing) → (applied e v).limit ≡ v.limit
limit_applied (entries.Added id word address wish digest at) v = refl
limit_applied (entries.Began id attempt by at) v = refl
limit_applied (entries.Described id key last_address total name modified) v = refl
limit_applied (entries.Progress id slices) v = refl
limit_applied (entries.Broke id reason) v = refl
limit_applied (entries.Paused id) v = refl
limit_applied (entries.Cancelled id) v = refl
limit_applied (entries.Restarted id epoch because) v = refl
limit_applied (entries.Finishing id total) v = refl
limit_applied (entries.Done id digest at) v = refl
limit_applied (entries.Removed id) v = refl
limit_applied (entries.Archived id) v = refl
limit_applied (entries.Reopened next at) v = refl
limit_applied (entries.Restored item) v = refl
limit_applied (entries.Asked id) v = refl

reverse_one : (h : History) (e : Entry) → reverse (h ++ e ∷ []) ≡ e ∷ reverse h
reverse_one h e = reverse-append h (e ∷ [])

taken_back : (e : Entry) (v w : Listing) (h : List Entry) → IsLawfulBack h → v ≡ left_by v.limit h → Meets v e → w ≡ applied e v → IsLawfulBack (e ∷ h) × (w ≡ left_by w.limit (e ∷ h))
taken_back e v w h lawful is meets value =
    let meets_left : Meets (left_by v.limit h) e = subst (λ (x : Listing). Meets x e) is meets in
    let limit : w.limit ≡ v.limit = ap (λ (x : Listing). x.limit) value ∙ limit_applied e v in (
      (meets_limit e v.limit 0 h meets_left, lawful),
      value ∙ ap (applied e) is ∙ sym (left_by_step v.limit e h lawful meets_left) ∙ ap (λ (n : ℕ). left_by n (e ∷ h)) (sym limit),
    )

-- taking one more entry keeps the tie to the history
pub keeps_step : (h : History) (e : Entry) (v w : Listing) → IsOf h v → Takes e v w → IsOf (h ++ e ∷ []) w
keeps_step h e v w is takes =
    let both = taken_back e v w (reverse h) is.lawful is.value takes.meets takes.value in
    record {
      lawful = subst IsLawfulBack (sym (reverse_one h e)) both.0;
      value = both.1 ∙ ap (left_by w.limit) (sym (reverse_one h e));
    }

pub keeps_none : (v : Listing) (list : List Entry) → KeepsHistory v v (take 0 list)
keeps_none v list h is = subst (λ (x : History). IsOf x v) (sym (append-nil h)) is

pub keeps_more : (v0 v1 v2 : Listing) (list : List Entry) (i : ℕ) (e : Entry) → i < length list → e ≡ get_or list i e → KeepsHistory v0 v1 (take i list) → Takes e v1 v2 → KeepsHistory v0 v2 (take (i + 1) list)
keeps_more v0 v1 v2 list i e within read keeps takes h is =
    let one = keeps_step (h ++ take i list) e v1 v2 (keeps h is) takes in
    let longer : take (i + 1) list ≡ take i list ++ e ∷ [] = take_more list i e within ∙ ap (λ (x : Entry). take i list ++ x ∷ []) (sym read) in
    subst (λ (x : History). IsOf x v2) (append_assoc h (take i list) (e ∷ []) ∙ ap (λ (x : List Entry). h ++ x) (sym longer)) one

pub keeps_all : (v0 v1 : Listing) (list : List Entry) (i : ℕ) → length list ≤ i → KeepsHistory v0 v1 (take i list) → KeepsHistory v0 v1 list
keeps_all v0 v1 list i past keeps = subst (KeepsHistory v0 v1) (take_all i list past) keeps

-- an empty list is what no entry leaves
pub empty_is : (limit : ℕ) → IsOf [] (empty_list limit)
empty_is limit = record { lawful = tt; value = refl }
