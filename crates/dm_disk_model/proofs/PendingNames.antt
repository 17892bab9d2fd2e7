-- Pending names: what the names are after one change more, and what holds of each prefix of the changes.
use Rattle.std.proofs.Common.{◌≡◌, ◌≢◌, ◌⊎◌, inl, inr, ⊎_elim, ℕ, ◌<◌, ◌≤◌, List, [], ◌∷◌, ◌++◌, length, take, Option, Some, None, Bool, true, false, cond, refl, sym, ◌∙◌, ap, subst, arith}
use Rattle.std.specs.Str.{bytes_eq}
use Rattle.std.proofs.lemmas.List.{take-append-le, take_all, length_push}
use Rattle.std.proofs.lemmas.Bool.{cases_lt, false≢true}
use Rattle.std.proofs.lemmas.Option.{none-some, same_Some}
use Rattle.std.proofs.lemmas.Slice.Eq.{bytes_eq-Decides}
use Rattle.std.specs.Bool.{Decides}
use Rattle.dm_disk_model.specs.Folder.{Names, Change, Created, Renamed, Removed, Folder, with_name, after_change, after_changes, names_of, names_after, EachPrefix, AreApart}

-- the test of two names
bytes_eq_same : (name : List ℕ) → bytes_eq name name ≡ true
bytes_eq_same name = (bytes_eq-Decides name name).1 refl

bytes_eq_other : (a b : List ℕ) → a ≢ b → bytes_eq a b ≡ false
bytes_eq_other a b differ = by_test (bytes_eq a b) (bytes_eq-Decides a b) differ where
  by_test : (t : Bool) → Decides t (a ≡ b) → a ≢ b → t ≡ false
  by_test true d h = absurd (h (d.0 refl))
  by_test false d h = refl

pub with_name_same : (names : Names) (name : List ℕ) (number : Option ℕ) → with_name names name number name ≡ number
with_name_same names name number = ap (λ t. cond t number (names name)) (bytes_eq_same name)

pub with_name_other : (names : Names) (name : List ℕ) (number : Option ℕ) (other : List ℕ) → other ≢ name → with_name names name number other ≡ names other
with_name_other names name number other differ = ap (λ t. cond t number (names other)) (bytes_eq_other other name differ)

-- a name that is set, and the others
pub with_name_cases : (names : Names) (name : List ℕ) (number : Option ℕ) (other : List ℕ)
    → ((other ≡ name) × (with_name names name number other ≡ number)) ⊎ ((other ≢ name) × (with_name names name number other ≡ names other))
with_name_cases names name number other = by (bytes_eq other name) (bytes_eq-Decides other name)
  where
    by : (b : Bool) → Decides b (other ≡ name) → ((other ≡ name) × (cond b number (names other) ≡ number)) ⊎ ((other ≢ name) × (cond b number (names other) ≡ names other))
    by true same = inl (same.0 refl, refl)
    by false differs = inr ((λ e. false≢true (differs.1 e)), refl)

pub after_changes-append : (names : Names) (first later : List Change) → after_changes names (first ++ later) ≡ after_changes (after_changes names first) later
after_changes-append names [] later = refl
after_changes-append names (change ∷ first) later = after_changes-append (after_change names change) first later

-- a prefix of one change more is a prefix of those before, or all
prefix_cases : (changes : List Change) (change : Change) (count : ℕ) → (take count (changes ++ change ∷ []) ≡ take count changes) ⊎ (take count (changes ++ change ∷ []) ≡ changes ++ change ∷ [])
prefix_cases changes change count =
    ⊎_elim
    (λ (more : length changes < count). inr (take_all count (changes ++ change ∷ []) (omega (arith, length_push changes change))))
    (λ (few : count ≤ length changes). inl (take-append-le count changes (change ∷ []) few))
    (cases_lt (length changes) count)

-- the names as they read are those after all changes
pub each_now : (folder : Folder) (P : Names → Type 0) → EachPrefix folder P → P (names_of folder)
each_now folder P each =
    let all : take (length folder.changes) folder.changes ≡ folder.changes = take_all (length folder.changes) folder.changes (omega arith) in
    subst (λ (changes : List Change). P (after_changes folder.synced changes)) all (each (length folder.changes))

-- one change more
pub names_more : (old new : Folder) (change : Change) → new.synced ≡ old.synced → new.changes ≡ old.changes ++ change ∷ [] → names_of new ≡ after_change (names_of old) change
names_more old new change synced changes =
    let all = after_changes-append old.synced old.changes (change ∷ []) in
    let moved : after_changes new.synced new.changes ≡ after_changes old.synced (old.changes ++ change ∷ []) = cc in
    moved ∙ all

pub each_more : (old new : Folder) (change : Change) (P : Names → Type 0) → new.synced ≡ old.synced → new.changes ≡ old.changes ++ change ∷ []
    → EachPrefix old P → P (after_change (names_of old) change) → EachPrefix new P
each_more old new change P synced changes each last count =
    ⊎_elim
    (λ (before : take count (old.changes ++ change ∷ []) ≡ take count old.changes).
    let same : names_after new count ≡ names_after old count = cc in subst P (sym same) (each count))
    (λ (all : take count (old.changes ++ change ∷ []) ≡ old.changes ++ change ∷ []).
    let read = names_more old new change synced changes in
    let same : names_after new count ≡ names_of new = cc in
    subst P (sym (same ∙ read)) last)
    (prefix_cases old.changes change count)

-- no change is left: the names as they read are all that there is
pub each_synced : (folder : Folder) (P : Names → Type 0) → folder.changes ≡ [] → P folder.synced → EachPrefix folder P
each_synced folder P none here count =
    let gone : take count folder.changes ≡ [] = ap (take count) none ∙ take_nil count in
    subst (λ (changes : List Change). P (after_changes folder.synced changes)) (sym gone) here
  where
    take_nil : (n : ℕ) → take {A = Change} n [] ≡ []
    take_nil n = take_all n [] (omega arith)

-- who has a file after a change, and where it was before
pub had_removed : (names : Names) (name other : List ℕ) (number : ℕ) → after_change names (Removed name) other ≡ Some number → (other ≢ name) × (names other ≡ Some number)
had_removed names name other number has =
    ⊎_elim
    (λ same. absurd (none-some number (sym same.1 ∙ has)))
    (λ differs. (differs.0, sym differs.1 ∙ has))
    (with_name_cases names name None other)

pub had_created : (names : Names) (name : List ℕ) (made : ℕ) (other : List ℕ) (number : ℕ) → after_change names (Created name made) other ≡ Some number
    → ((other ≡ name) × (made ≡ number)) ⊎ ((other ≢ name) × (names other ≡ Some number))
had_created names name made other number has =
    ⊎_elim
    (λ same. inl (same.0, same_Some made number (sym same.1 ∙ has)))
    (λ differs. inr (differs.0, sym differs.1 ∙ has))
    (with_name_cases names name (Some made) other)

pub had_renamed : (names : Names) (from to other : List ℕ) (number : ℕ) → after_change names (Renamed from to) other ≡ Some number
    → ((other ≡ to) × (names from ≡ Some number)) ⊎ ((other ≢ to) × (other ≢ from) × (names other ≡ Some number))
had_renamed names from to other number has =
    ⊎_elim
    (λ same. inl (same.0, sym same.1 ∙ has))
    (λ differs.
    let left = had_removed names from other number (sym differs.1 ∙ has) in
    inr (differs.0, left.0, left.1))
    (with_name_cases (with_name names from None) to (names from) other)

pub AreApart-removed : (names : Names) (name : List ℕ) → AreApart names → AreApart (after_change names (Removed name))
AreApart-removed names name apart a b number has_a has_b = apart a b number (had_removed names name a number has_a).1 (had_removed names name b number has_b).1

pub AreApart-created : (names : Names) (name : List ℕ) (made : ℕ) → ((other : List ℕ) → names other ≢ Some made) → AreApart names → AreApart (after_change names (Created name made))
AreApart-created names name made unused apart a b number has_a has_b = by (had_created names name made a number has_a) (had_created names name made b number has_b)
  where
    by : ((a ≡ name) × (made ≡ number)) ⊎ ((a ≢ name) × (names a ≡ Some number)) → ((b ≡ name) × (made ≡ number)) ⊎ ((b ≢ name) × (names b ≡ Some number)) → a ≡ b
    by (inl new_a) (inl new_b) = new_a.0 ∙ sym new_b.0
    by (inl new_a) (inr old_b) = absurd (unused b (old_b.1 ∙ ap Some (sym new_a.1)))
    by (inr old_a) (inl new_b) = absurd (unused a (old_a.1 ∙ ap Some (sym new_b.1)))
    by (inr old_a) (inr old_b) = apart a b number old_a.1 old_b.1

pub AreApart-renamed : (names : Names) (from to : List ℕ) → AreApart names → AreApart (after_change names (Renamed from to))
AreApart-renamed names from to apart a b number has_a has_b = by (had_renamed names from to a number has_a) (had_renamed names from to b number has_b)
  where
    by : ((a ≡ to) × (names from ≡ Some number)) ⊎ ((a ≢ to) × (a ≢ from) × (names a ≡ Some number))
        → ((b ≡ to) × (names from ≡ Some number)) ⊎ ((b ≢ to) × (b ≢ from) × (names b ≡ Some number)) → a ≡ b
    by (inl new_a) (inl new_b) = new_a.0 ∙ sym new_b.0
    by (inl new_a) (inr old_b) = absurd (old_b.1 (apart b from number old_b.2 new_a.1))
    by (inr old_a) (inl new_b) = absurd (old_a.1 (apart a from number old_a.2 new_b.1))
    by (inr old_a) (inr old_b) = apart a b number old_a.2 old_b.2
