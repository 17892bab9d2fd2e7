-- What an edit of the index's entries changes of what the index has under each name.
use Rattle.std.proofs.Common.{◌≡◌, ◌≢◌, ◌⊎◌, inl, inr, ⊎_elim, ℕ, ◌+◌, ◌<◌, Bool, true, false, cond, List, [], ◌∷◌, ◌++◌, length, map, take, drop, set, get_or, zero, suc, Option, Some, None, IsSome, is_some, refl, sym, ◌∙◌, ap, subst, arith}
use Rattle.std.specs.Prelude.{◌&&◌, not, bytes_eq, Contains, slice_get}
use Rattle.std.specs.Option.{option_map}
use Rattle.std.specs.List.{AllPairs}
use Rattle.std.specs.Bool.{Decides}
use Rattle.std.proofs.lemmas.Bool.{false≢true, cases_Bool, cond-true, cond-false, not-true, false_from_ne_true}
use Rattle.std.proofs.lemmas.List.{get_or-map, length-map, take_more}
use Rattle.std.proofs.lemmas.List.Edits.{map_over_more}
use Rattle.std.proofs.lemmas.List.Elements.{filter_passes, Contains-push, Contains-push_cases, Contains-append_left, Contains-append_right, Contains-append_cases}
use Rattle.std.proofs.lemmas.List.Kept.{AllPairs-filter}
use Rattle.std.proofs.lemmas.List.Quantifiers.{all_pairs_push}
use Rattle.std.proofs.lemmas.Option.{get_or_from_slice_get}
use Rattle.std.proofs.lemmas.Slice.Eq.{bytes_eq-Decides}
use Rattle.dm_disk_model.specs.Folder.{Lists, names_of}
use Rattle.dm_disk_model.specs.Disk.{DiskState, folder_in}
use Rattle.dm_disk_model.specs.declared.place.Area.{Area}
use Rattle.dm_disk_model.specs.declared.place.Area.TheVariants.{State, Files}
use Rattle.dm_disk.specs.declared.index.Named.{Named}
use Rattle.dm_disk.specs.declared.index.Standing.{Standing}
use Rattle.dm_disk.specs.Image.{same_area}
use Rattle.dm_disk.specs.Index.{is_for, look, others_than, names_listed, standing_at, AreForTwo, IsIndexOf, Sets, Moves, grown_in, entry_grown}

pub same_area_true : (a b : Area) → same_area a b ≡ true → a ≡ b
same_area_true State State is = refl
same_area_true Files Files is = refl
same_area_true State Files is = absurd (false≢true is)
same_area_true Files State is = absurd (false≢true is)

pub same_area_itself : (a : Area) → same_area a a ≡ true
same_area_itself State = refl
same_area_itself Files = refl

-- the test of an entry
both_true : (a b : Bool) → (a && b) ≡ true → (a ≡ true) × (b ≡ true)
both_true true b is = (refl, is)
both_true false b is = absurd (false≢true is)

pub is_for_true : (area : Area) (name : List ℕ) (one : Named) → is_for area name one ≡ true → (area ≡ one.area) × (one.name ≡ name)
is_for_true area name one is =
    let both = both_true (same_area area one.area) (bytes_eq one.name name) is in
    (same_area_true area one.area both.0, (bytes_eq-Decides one.name name).0 both.1)

pub is_for_false : (area : Area) (name : List ℕ) (one : Named) → (area ≡ one.area → one.name ≡ name → ⊥) → is_for area name one ≡ false
is_for_false area name one apart = false_from_ne_true (is_for area name one) (λ is. let both = is_for_true area name one is in apart both.0 both.1)

pub is_for_itself : (area : Area) (name : List ℕ) (one : Named) → area ≡ one.area → one.name ≡ name → is_for area name one ≡ true
is_for_itself area name one here named =
    let places : same_area area one.area ≡ true = ap (same_area area) (sym here) ∙ same_area_itself area in
    let names : bytes_eq one.name name ≡ true = (bytes_eq-Decides one.name name).1 named in
    ap (λ (b : Bool). b && bytes_eq one.name name) places ∙ names

-- an entry for one name is for no other
not_for_other : (area a : Area) (name other : List ℕ) (one : Named) → (a ≡ area → other ≡ name → ⊥) → is_for area name one ≡ true → is_for a other one ≡ false
not_for_other area a name other one apart is =
    let for_one = is_for_true area name one is in
    is_for_false a other one (λ here named. apart (here ∙ sym for_one.0) (sym named ∙ for_one.1))

-- two names, apart or the same
name_cases : (a b : List ℕ) → (a ≡ b) ⊎ (a ≢ b)
name_cases a b = by (bytes_eq a b) (bytes_eq-Decides a b)
  where
    by : (test : Bool) → Decides test (a ≡ b) → (a ≡ b) ⊎ (a ≢ b)
    by true same = inl (same.0 refl)
    by false apart = inr (λ e. false≢true (apart.1 e))

pub place_cases : (a area : Area) (other name : List ℕ) → ((a ≡ area) × (other ≡ name)) ⊎ (a ≡ area → other ≡ name → ⊥)
place_cases a area other name =
    ⊎_elim
    (λ (here : same_area a area ≡ true).
    ⊎_elim (λ (same : other ≡ name). inl (same_area_true a area here, same)) (λ (apart : other ≢ name). inr (λ e same. apart same)) (name_cases other name))
    (λ (there : same_area a area ≡ false). inr (λ e same. false≢true (sym there ∙ ap (λ (x : Area). same_area x area) e ∙ same_area_itself area)))
    (cases_Bool (same_area a area))

-- what is left without a name
look_here_without : (area : Area) (name : List ℕ) (entries : List Named) → look area name (others_than area name entries) ≡ None
look_here_without area name [] = refl
look_here_without area name (one ∷ later) = by (is_for area name one) refl (look_here_without area name later)
  where
    rest : List Named
    rest = others_than area name later

    by : (test : Bool) → is_for area name one ≡ test → look area name rest ≡ None → look area name (cond (not test) (one ∷ rest) rest) ≡ None
    by true is past = past
    by false is past = cond-false (is_for area name one) (Some one.standing) (look area name rest) is ∙ past

look_other_without : (area a : Area) (name other : List ℕ) (entries : List Named) → (a ≡ area → other ≡ name → ⊥) → look a other (others_than area name entries) ≡ look a other entries
look_other_without area a name other [] apart = refl
look_other_without area a name other (one ∷ later) apart = by (is_for area name one) refl (look_other_without area a name other later apart)
  where
    rest : List Named
    rest = others_than area name later

    by : (test : Bool) → is_for area name one ≡ test → look a other rest ≡ look a other later → look a other (cond (not test) (one ∷ rest) rest) ≡ look a other (one ∷ later)
    by true is past = past ∙ sym (cond-false (is_for a other one) (Some one.standing) (look a other later) (not_for_other area a name other one apart is))
    by false is past = ap (cond (is_for a other one) (Some one.standing)) past

pub sets_without : (area : Area) (name : List ℕ) (old new : List Named) → new ≡ others_than area name old → Sets area name None old new
sets_without area name old new is = record {
  here = ap (look area name) is ∙ look_here_without area name old;
  others = λ a other apart. ap (look a other) is ∙ look_other_without area a name other old apart;
  once = λ once. subst (λ (entries : List Named). AllPairs AreForTwo entries) (sym is) (AllPairs-filter AreForTwo (λ one. not (is_for area name one)) old once);
}

-- one entry more at the end
look_here_push : (area : Area) (name : List ℕ) (entries : List Named) (one : Named) → look area name entries ≡ None → is_for area name one ≡ true → look area name (entries ++ one ∷ []) ≡ Some one.standing
look_here_push area name [] one none is = cond-true (is_for area name one) (Some one.standing) None is
look_here_push area name (first ∷ later) one none is = by (is_for area name first) none (λ left. look_here_push area name later one left is)
  where
    by : (test : Bool) → cond test (Some first.standing) (look area name later) ≡ None → (look area name later ≡ None → look area name (later ++ one ∷ []) ≡ Some one.standing)
        → cond test (Some first.standing) (look area name (later ++ one ∷ [])) ≡ Some one.standing
    by true some past = absurd (false≢true (sym (ap is_some some)))
    by false left past = past left

look_other_push : (a : Area) (other : List ℕ) (entries : List Named) (one : Named) → is_for a other one ≡ false → look a other (entries ++ one ∷ []) ≡ look a other entries
look_other_push a other [] one not_it = cond-false (is_for a other one) (Some one.standing) None not_it
look_other_push a other (first ∷ later) one not_it = ap (cond (is_for a other first) (Some first.standing)) (look_other_push a other later one not_it)

pub sets_pushed : (area : Area) (name : List ℕ) (standing : Standing) (old mid new : List Named) → mid ≡ others_than area name old
    → new ≡ mid ++ record { area = area; name = name; standing = standing } ∷ [] → Sets area name (Some standing) old new
sets_pushed area name standing old mid new without pushed =
    let one : Named = record { area = area; name = name; standing = standing } in
    let left = sets_without area name old mid without in
    let its_own : is_for area name one ≡ true = is_for_itself area name one refl refl in
    record {
      here = ap (look area name) pushed ∙ look_here_push area name mid one left.here its_own;
      others = λ a other apart.
          ap (look a other) pushed
          ∙ look_other_push a other mid one (not_for_other area a name other one apart its_own)
          ∙ left.others a other apart;
      once = λ once.
          subst (λ (entries : List Named). AllPairs AreForTwo entries) (sym pushed)
          (all_pairs_push AreForTwo mid one (left.once once)
          (λ k d lt here named.
          let passes : (entries : List Named) → entries ≡ others_than area name old → k < length entries → not (is_for area name (get_or entries k d)) ≡ true =
          λ entries is within. subst (λ (es : List Named). k < length es → not (is_for area name (get_or es k d)) ≡ true) (sym is) (λ low. filter_passes (λ e. not (is_for area name e)) old k d low) within in
          false≢true (sym (not-true (is_for area name (get_or mid k d)) (passes mid without lt)) ∙ is_for_itself area name (get_or mid k d) (sym here) named)));
    }

-- a name is doubled, and then the one is taken away
pub moved : (area : Area) (from to : List ℕ) (old mid new : List Named) → from ≢ to → Sets area to (look area from old) old mid → new ≡ others_than area from mid → Moves area from to old new
moved area from to old mid new apart doubled without =
    let left = sets_without area from mid new without in
    record {
      here = left.others area to (λ e same. apart (sym same)) ∙ doubled.here;
      gone = λ differ. left.here;
      others = λ a other not_to not_from. left.others a other not_from ∙ doubled.others a other not_to;
      once = λ once. left.once (doubled.once once);
    }

-- each entry after a write
pub look_grown : (area : Area) (file end : ℕ) (a : Area) (name : List ℕ) (entries : List Named)
    → look a name (map (entry_grown area file end) entries) ≡ option_map (grown_in area file end a) (look a name entries)
look_grown area file end a name [] = refl
look_grown area file end a name (one ∷ later) = by (is_for a name one) refl (look_grown area file end a name later)
  where
    by : (test : Bool) → is_for a name one ≡ test → look a name (map (entry_grown area file end) later) ≡ option_map (grown_in area file end a) (look a name later)
        → cond test (Some (grown_in area file end one.area one.standing)) (look a name (map (entry_grown area file end) later))
        ≡ option_map (grown_in area file end a) (cond test (Some one.standing) (look a name later))
    by true is past = let both = is_for_true a name one is in ap (λ (here : Area). Some (grown_in area file end here one.standing)) (sym both.0)
    by false is past = past

-- one entry more has grown
pub grown_more : (area : Area) (file end : ℕ) (old now : List Named) (i : ℕ) (one one_now : Named) → i < length old
    → now ≡ map (entry_grown area file end) (take i old) ++ drop i old → one ≡ get_or now i one → one_now ≡ entry_grown area file end one
    → set now i one_now ≡ map (entry_grown area file end) (take (i + 1) old) ++ drop (i + 1) old
grown_more area file end old now i one one_now lt so_far is grows =
    ap (set now i) grows ∙ map_over_more (entry_grown area file end) old now i one lt so_far is

pub once_grown : (area : Area) (file end : ℕ) (entries : List Named) → AllPairs AreForTwo entries → AllPairs AreForTwo (map (entry_grown area file end) entries)
once_grown area file end entries once i j d lt within here named =
    let long : length (map (entry_grown area file end) entries) ≡ length entries = length-map entries (entry_grown area file end) in
    let at_i = get_or-map (entry_grown area file end) entries i d d (omega (arith, long, lt, within)) in
    let at_j = get_or-map (entry_grown area file end) entries j d d (omega (arith, long, within)) in
    once i j d lt (omega (arith, long, within))
    (sym (ap (λ (one : Named). one.area) at_i) ∙ here ∙ ap (λ (one : Named). one.area) at_j)
    (sym (ap (λ (one : Named). one.name) at_i) ∙ named ∙ ap (λ (one : Named). one.name) at_j)

-- the names that the index has of a folder, one after another
pub names_listed-append : (area : Area) (first later : List Named) → names_listed area (first ++ later) ≡ names_listed area first ++ names_listed area later
names_listed-append area [] later = refl
names_listed-append area (one ∷ first) later = by (same_area area one.area) (names_listed-append area first later)
  where
    by : (test : Bool) → names_listed area (first ++ later) ≡ names_listed area first ++ names_listed area later
        → cond test (one.name ∷ names_listed area (first ++ later)) (names_listed area (first ++ later))
        ≡ cond test (one.name ∷ names_listed area first) (names_listed area first) ++ names_listed area later
    by true past = ap (λ (names : List (List ℕ)). one.name ∷ names) past
    by false past = past

pub listed_more : (area : Area) (entries : List Named) (i : ℕ) (one : Named) (old new : List (List ℕ)) → i < length entries → one ≡ get_or entries i one
    → old ≡ names_listed area (take i entries) → new ≡ old ++ names_listed area (one ∷ []) → new ≡ names_listed area (take (i + 1) entries)
listed_more area entries i one old new lt is so_far lists =
    let more : take (i + 1) entries ≡ take i entries ++ one ∷ [] =
    take_more entries i one lt ∙ ap (λ (e : Named). take i entries ++ e ∷ []) (sym is) in
    lists
    ∙ ap (λ (names : List (List ℕ)). names ++ names_listed area (one ∷ [])) so_far
    ∙ sym (names_listed-append area (take i entries) (one ∷ []))
    ∙ ap (names_listed area) (sym more)

contains_cons : (first : List ℕ) (later : List (List ℕ)) (name : List ℕ) → Contains (first ∷ later) name → (first ≡ name) ⊎ Contains later name
contains_cons first later name has =
    ⊎_elim
    (λ (here : Contains (first ∷ []) name). ⊎_elim (λ (none : Contains [] name). let lt = none.1 in absurd (omega (arith, lt))) (λ same. inl same) (Contains-push_cases [] first name here))
    (λ (there : Contains later name). inr there)
    (Contains-append_cases (first ∷ []) later name has)

some_past : (test : Bool) (standing : Standing) (found : Option Standing) → IsSome found → IsSome (cond test (Some standing) found)
some_past true standing found is = refl
some_past false standing found is = is

listed_found : (area : Area) (name : List ℕ) (entries : List Named) → Contains (names_listed area entries) name → IsSome (look area name entries)
listed_found area name [] has = let lt = has.1 in absurd (omega (arith, lt))
listed_found area name (one ∷ later) has = by (same_area area one.area) refl has (listed_found area name later)
  where
    by : (test : Bool) → same_area area one.area ≡ test → Contains (cond test (one.name ∷ names_listed area later) (names_listed area later)) name
        → (Contains (names_listed area later) name → IsSome (look area name later)) → IsSome (look area name (one ∷ later))
    by true is within past =
        ⊎_elim
        (λ (same : one.name ≡ name). ap is_some (cond-true (is_for area name one) (Some one.standing) (look area name later) (is_for_itself area name one (same_area_true area one.area is) same)))
        (λ (there : Contains (names_listed area later) name). some_past (is_for area name one) one.standing (look area name later) (past there))
        (contains_cons one.name (names_listed area later) name within)
    by false is within past = some_past (is_for area name one) one.standing (look area name later) (past within)

found_listed : (area : Area) (name : List ℕ) (entries : List Named) → IsSome (look area name entries) → Contains (names_listed area entries) name
found_listed area name [] some = absurd (false≢true some)
found_listed area name (one ∷ later) some = by (is_for area name one) refl some (found_listed area name later)
  where
    rest : List (List ℕ)
    rest = names_listed area later

    past : (test : Bool) → Contains rest name → Contains (cond test (one.name ∷ rest) rest) name
    past true has = Contains-append_right (one.name ∷ []) rest name has
    past false has = has

    here : (test : Bool) → test ≡ true → one.name ≡ name → Contains (cond test (one.name ∷ rest) rest) name
    here true is same = Contains-append_left (one.name ∷ []) rest name (subst (λ (n : List ℕ). Contains (one.name ∷ []) n) same (Contains-push [] one.name))
    here false is same = absurd (false≢true is)

    by : (test : Bool) → is_for area name one ≡ test → IsSome (cond test (Some one.standing) (look area name later))
        → (IsSome (look area name later) → Contains rest name) → Contains (cond (same_area area one.area) (one.name ∷ rest) rest) name
    by true is found listed =
        let both = is_for_true area name one is in
        here (same_area area one.area) (ap (same_area area) (sym both.0) ∙ same_area_itself area) both.1
    by false is found listed = past (same_area area one.area) (listed found)

-- no name of one entry stands in the others
none_for : (area : Area) (name : List ℕ) (entries : List Named) → ((k : ℕ) (d : Named) → k < length entries → is_for area name (get_or entries k d) ≡ false) → look area name entries ≡ None
none_for area name [] each = refl
none_for area name (one ∷ later) each =
    cond-false (is_for area name one) (Some one.standing) (look area name later) (each 0 one (omega arith))
    ∙ none_for area name later (λ k d lt. each (suc k) d (omega (arith, lt)))

abbrev IsOnce : List (List ℕ) → Type 0
IsOnce names = (i j : ℕ) → i < length names → j < length names → slice_get names i ≡ slice_get names j → i ≡ j

once_cons : (name : List ℕ) (names : List (List ℕ)) → (Contains names name → ⊥) → IsOnce names → IsOnce (name ∷ names)
once_cons name names new once zero zero lt_i lt_j same = refl
once_cons name names new once zero (suc j) lt_i lt_j same = absurd (new (j, omega (arith, lt_j), get_or_from_slice_get names j name name (sym same)))
once_cons name names new once (suc i) zero lt_i lt_j same = absurd (new (i, omega (arith, lt_i), get_or_from_slice_get names i name name same))
once_cons name names new once (suc i) (suc j) lt_i lt_j same = ap suc (once i j (omega (arith, lt_i)) (omega (arith, lt_j)) same)

listed_once : (area : Area) (entries : List Named) → AllPairs AreForTwo entries → IsOnce (names_listed area entries)
listed_once area [] once = λ i j lt_i lt_j same. absurd (omega (arith, lt_i))
listed_once area (one ∷ later) once = by (same_area area one.area) refl (listed_once area later (λ i j d lt within. once (suc i) (suc j) d (omega (arith, lt)) (omega (arith, within))))
  where
    none : area ≡ one.area → look area one.name later ≡ None
    none here =
        none_for area one.name later (λ k d lt. is_for_false area one.name (get_or later k d)
        (λ there named. once 0 (suc k) d (omega arith) (omega (arith, lt)) (sym here ∙ there) (sym named)))

    by : (test : Bool) → same_area area one.area ≡ test → IsOnce (names_listed area later) → IsOnce (cond test (one.name ∷ names_listed area later) (names_listed area later))
    by true is rest =
        once_cons one.name (names_listed area later)
        (λ has. false≢true (sym (ap is_some (none (same_area_true area one.area is))) ∙ listed_found area one.name later has)) rest
    by false is rest = rest

is_some_map : {A B : Type 0} (f : A → B) (found : Option A) → is_some (option_map f found) ≡ is_some found
is_some_map f None = refl
is_some_map f (Some value) = refl

-- an index that tells of the disk lists its names
pub lists_names : (area : Area) (disk : DiskState) (entries : List Named) → IsIndexOf disk entries → Lists (folder_in area disk) (names_listed area entries)
lists_names area disk entries told = record {
  each = λ name.
      let same : is_some (look area name entries) ≡ is_some (names_of (folder_in area disk) name) =
      ap is_some (told.each area name) ∙ is_some_map (standing_at (folder_in area disk)) (names_of (folder_in area disk) name) in (
        λ has. sym same ∙ listed_found area name entries has,
        λ some. found_listed area name entries (same ∙ some),
      );
  once = listed_once area entries told.once;
}
