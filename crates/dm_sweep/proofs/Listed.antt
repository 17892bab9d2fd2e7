-- The names that are left of a list, while the last is taken off.
use Rattle.std.proofs.Common.{◌≡◌, ◌≢◌, ◌⊎◌, inl, inr, ⊎_elim, ℕ, ◌+◌, ◌<◌, List, [], ◌∷◌, ◌++◌, length, get_or, Option, Some, None, refl, sym, ◌∙◌, ap, subst, arith, length-append}
use Rattle.std.specs.Prelude.{Contains, IsSome, slice_get}
use Rattle.std.proofs.lemmas.List.{get_or_append_left}
use Rattle.std.proofs.Math.Seq.{get_or-append_seam}
use Rattle.std.proofs.lemmas.List.Elements.{Contains-append_left, Contains-push, Contains-push_cases, at_from_Contains}
use Rattle.std.proofs.lemmas.Option.{slice_get-get_or}
use Rattle.dm_disk_model.specs.Folder.{Folder, Lists, names_of}
use Rattle.dm_item.specs.Listing.{Listing}
use Rattle.dm_answers.specs.Sweep.{IsLeftover}

-- no name is listed twice
abbrev pub AreOnce : List (List ℕ) → Type 0
AreOnce names = (i j : ℕ) → i < length names → j < length names → slice_get names i ≡ slice_get names j → i ≡ j

-- The names that weren't looked at yet: each stands, and each part that none needs and that stands is among them.
pub record AreLeft (v : Listing) (folder : Folder) (names : List (List ℕ)) : Type 0 where
  pub each : (name : List ℕ) → Contains names name → IsSome (names_of folder name)
  pub all : (name : List ℕ) → IsLeftover v name → IsSome (names_of folder name) → Contains names name
  pub once : AreOnce names

pub left_at_first : (v : Listing) (folder : Folder) (names : List (List ℕ)) → Lists folder names → AreLeft v folder names
left_at_first v folder names lists = record {
  each = λ name there. (lists.each name).0 there;
  all = λ name leftover stands. (lists.each name).1 stands;
  once = lists.once;
}

-- the place of a name among those before the last
get_front : (names : List (List ℕ)) (last : List ℕ) (i : ℕ) → i < length names → slice_get (names ++ last ∷ []) i ≡ slice_get names i
get_front names last i within =
    slice_get-get_or (names ++ last ∷ []) i last (omega (arith, within, length-append names (last ∷ [])))
    ∙ ap Some (get_or_append_left names (last ∷ []) last i within)
    ∙ sym (slice_get-get_or names i last within)

get_last : (names : List (List ℕ)) (last : List ℕ) → slice_get (names ++ last ∷ []) (length names) ≡ Some last
get_last names last =
    slice_get-get_or (names ++ last ∷ []) (length names) last (omega (arith, length-append names (last ∷ [])))
    ∙ ap Some (get_or-append_seam names last [] last)

once_front : (names : List (List ℕ)) (last : List ℕ) → AreOnce (names ++ last ∷ []) → AreOnce names
once_front names last once i j in_i in_j same =
    once i j (omega (arith, in_i, length-append names (last ∷ []))) (omega (arith, in_j, length-append names (last ∷ [])))
    (get_front names last i in_i ∙ same ∙ sym (get_front names last j in_j))

once_apart : (names : List (List ℕ)) (last : List ℕ) → AreOnce (names ++ last ∷ []) → Contains names last → ⊥
once_apart names last once there =
    let at = at_from_Contains names last there in
    let within : at.0 < length names = at.1 in
    let here : slice_get names at.0 ≡ Some last = slice_get-get_or names at.0 last within ∙ ap Some (at.2 last) in
    let same : at.0 ≡ length names =
    once at.0 (length names) (omega (arith, within, length-append names (last ∷ []))) (omega (arith, length-append names (last ∷ [])))
    (get_front names last at.0 within ∙ here ∙ sym (get_last names last)) in
    omega (arith, within, same)

-- the last of the list stands
pub last_stands : (v : Listing) (folder : Folder) (names : List (List ℕ)) (last : List ℕ) → AreLeft v folder (names ++ last ∷ []) → IsSome (names_of folder last)
last_stands v folder names last left = left.each last (Contains-push names last)

-- It was looked at: where it is a part that none needs it is gone, and no other name changed.
pub left_next : (v : Listing) (old new : Folder) (names : List (List ℕ)) (last : List ℕ) → AreLeft v old (names ++ last ∷ []) → (IsLeftover v last → names_of new last ≡ None)
    → ((other : List ℕ) → other ≢ last → names_of new other ≡ names_of old other) → AreLeft v new names
left_next v old new names last left gone others = record {
  each = λ name there.
      let apart : name ≢ last = λ same. once_apart names last left.once (subst (Contains names) same there) in
      subst (λ (n : Option ℕ). IsSome n) (sym (others name apart)) (left.each name (Contains-append_left names (last ∷ []) name there));
  all = λ name leftover stands. not_last name leftover stands;
  once = once_front names last left.once;
} where
  none_stands : (found : Option ℕ) → found ≡ None → IsSome found → ⊥
  none_stands found none some = absurd cc

  not_last : (name : List ℕ) → IsLeftover v name → IsSome (names_of new name) → Contains names name
  not_last name leftover stands =
      let apart : name ≢ last = λ same.
      none_stands (names_of new last) (gone (subst (IsLeftover v) same leftover)) (subst (λ (n : List ℕ). IsSome (names_of new n)) same stands) in
      ⊎_elim
      (λ (there : Contains names name). there)
      (λ (same : last ≡ name). absurd (apart (sym same)))
      (Contains-push_cases names last name (left.all name leftover (subst (λ (n : Option ℕ). IsSome n) (others name apart) stands)))

-- nothing is left
pub none_left : (v : Listing) (folder : Folder) (name : List ℕ) → AreLeft v folder [] → IsLeftover v name → names_of folder name ≡ None
none_left v folder name left leftover = by (names_of folder name) refl
  where
    by : (found : Option ℕ) → names_of folder name ≡ found → found ≡ None
    by None same = refl
    by (Some number) same = absurd (none_in (left.all name leftover (subst (λ (n : Option ℕ). IsSome n) (sym same) refl)))
      where
        none_in : Contains [] name → ⊥
        none_in there = omega (arith, (at_from_Contains [] name there).1)

pub none_of : (names : List (List ℕ)) → length names ≡ 0 → names ≡ []
none_of [] none = refl
none_of (name ∷ rest) none = absurd (omega arith)
