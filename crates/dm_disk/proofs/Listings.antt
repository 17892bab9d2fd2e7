-- The names that stand are among those that calls gave, and a list that grows by each of them has all.
use Rattle.std.proofs.Common.{◌≡◌, ◌⊎◌, inl, inr, ⊎_elim, ℕ, ◌+◌, ◌<◌, ◌≤◌, List, [], ◌∷◌, ◌++◌, length, take, get_or, zero, suc, Option, Some, None, IsSome, is_some, true, false, refl, sym, ◌∙◌, ap, subst, arith}
use Rattle.std.specs.Prelude.{Contains, slice_get}
use Rattle.std.proofs.lemmas.Option.{none-some, same_Some, slice_get-get_or}
use Rattle.std.proofs.lemmas.List.{take_all, length_push, get_or_default, get_or_push, get_or_append_left}
use Rattle.std.proofs.lemmas.List.Elements.{Contains-push_cases}
use Rattle.std.proofs.lemmas.Bool.{cases_lt, false≢true}
use Rattle.dm_disk_model.specs.Folder.{Names, Lists, names_of}
use Rattle.dm_disk_model.specs.Disk.{DiskState, folder_in}
use Rattle.dm_disk_model.specs.declared.place.Area.{Area}
use Rattle.dm_disk_model.specs.declared.place.Area.TheVariants.{State, Files}
use Rattle.dm_disk_model.proofs.PendingNames.{had_created, had_renamed, had_removed}
use Rattle.dm_disk.specs.declared.call.Call.{Call}
use Rattle.dm_disk.specs.declared.call.Act.{Act}
use Rattle.dm_disk.specs.declared.call.Act.TheVariants.{Create, Write, Sync, Rename, Remove, SyncNames}
use Rattle.dm_disk.specs.Calls.{folder_after, in_folder, disk_after}
use Rattle.dm_disk.specs.Given.{name_of, given_by, HasListed}
use Rattle.dm_disk.proofs.Replay.{names_acted, names_after_act, disk_after_more}

-- a name that stands after a call stood before it, or was given by it
act_gave : (number : ℕ) (act : Act) (names : Names) (name : List ℕ) (file : ℕ) → names_acted number act names name ≡ Some file → IsSome (names name) ⊎ (name_of act ≡ Some name)
act_gave number (Create made) names name file has = ⊎_elim (λ new. inr (ap Some (sym new.0))) (λ old. inl (ap is_some old.1)) (had_created names made number name file has)
act_gave number (Write other at bytes) names name file has = inl (ap is_some has)
act_gave number (Sync other) names name file has = inl (ap is_some has)
act_gave number (Rename from to) names name file has = ⊎_elim (λ new. inr (ap Some (sym new.0))) (λ old. inl (ap is_some old.2)) (had_renamed names from to name file has)
act_gave number (Remove gone) names name file has = inl (ap is_some (had_removed names gone name file has).1)
act_gave number SyncNames names name file has = inl (ap is_some has)

-- one of the first so many calls gave the name
pub record GivenAt (calls : List Call) (area : Area) (name : List ℕ) (bound : ℕ) : Type 0 where
  pub place : ℕ
  pub below : place < bound
  pub call : Call
  pub is : call ≡ get_or calls place call
  pub given : given_by area call ≡ Some name

given_before : (calls : List Call) (area : Area) (name : List ℕ) (bound : ℕ) → GivenAt calls area name bound → GivenAt calls area name (bound + 1)
given_before calls area name bound at = record { place = at.place; below = omega (arith, at.below); call = at.call; is = at.is; given = at.given }

some_of : {T : Type 0} (found : Option T) → IsSome found → (value : T) × (found ≡ Some value)
some_of (Some value) some = (value, refl)
some_of None some = absurd (false≢true some)

call_gave : (number : ℕ) (area own : Area) (act : Act) (disk : DiskState) (name : List ℕ)
    → IsSome (names_of (folder_in area (in_folder own (folder_after number act) disk)) name)
    → IsSome (names_of (folder_in area disk) name) ⊎ (given_by area (record { area = own; act = act }) ≡ Some name)
call_gave number State State act disk name some =
    let has = some_of (names_of (folder_after number act disk.state) name) some in
    act_gave number act (names_of disk.state) name has.0 (ap (λ (names : Names). names name) (sym (names_after_act number act disk.state)) ∙ has.1)
call_gave number Files Files act disk name some =
    let has = some_of (names_of (folder_after number act disk.files) name) some in
    act_gave number act (names_of disk.files) name has.0 (ap (λ (names : Names). names name) (sym (names_after_act number act disk.files)) ∙ has.1)
call_gave number State Files act disk name some = inl some
call_gave number Files State act disk name some = inl some

any_default : (calls : List Call) (i : ℕ) → i < length calls → (call : Call) × (call ≡ get_or calls i call)
any_default [] i lt = absurd (omega arith)
any_default (call ∷ calls) zero lt = (call, refl)
any_default (first ∷ calls) (suc i) lt = any_default calls i (omega arith)

-- whatever stands was given
all_given : (calls : List Call) (area : Area) (name : List ℕ) (bound : ℕ) → bound ≤ length calls → IsSome (names_of (folder_in area (disk_after (take bound calls))) name) → GivenAt calls area name bound
all_given calls area name zero le some = absurd (false≢true (empty area some))
  where
    empty : (a : Area) → IsSome (names_of (folder_in a (disk_after (take zero calls))) name) → false ≡ true
    empty State has = has
    empty Files has = has
all_given calls area name (suc bound) le some =
    let lt : bound < length calls = omega arith in
    let here = any_default calls bound lt in
    let one : bound + 1 ≡ suc bound = omega arith in
    let after = disk_after_more calls bound here.0 lt here.1 in
    let stands : IsSome (names_of (folder_in area (in_folder here.0.area (folder_after bound here.0.act) (disk_after (take bound calls)))) name) =
    subst (λ (disk : DiskState). IsSome (names_of (folder_in area disk) name)) after
    (subst (λ (n : ℕ). IsSome (names_of (folder_in area (disk_after (take n calls))) name)) (sym one) some) in
    subst (λ (n : ℕ). GivenAt calls area name n) one
    (⊎_elim
    (λ (before : IsSome (names_of (folder_in area (disk_after (take bound calls))) name)). given_before calls area name bound (all_given calls area name bound (omega arith) before))
    (λ (now : given_by area here.0 ≡ Some name). record { place = bound; below = omega arith; call = here.0; is = here.1; given = now })
    (call_gave bound area here.0.area here.0.act (disk_after (take bound calls)) name stands))

-- no name stands twice
abbrev IsOnce : List (List ℕ) → Type 0
IsOnce names = (i j : ℕ) → i < length names → j < length names → slice_get names i ≡ slice_get names j → i ≡ j

-- what the list has after the first so many calls
pub record IsListing (calls : List Call) (area : Area) (bound : ℕ) (names : List (List ℕ)) : Type 0 where
  pub each : (name : List ℕ) → GivenAt calls area name bound → IsSome (names_of (folder_in area (disk_after calls)) name) → Contains names name
  pub stand : (name : List ℕ) → Contains names name → IsSome (names_of (folder_in area (disk_after calls)) name)
  pub once : (i j : ℕ) → i < length names → j < length names → slice_get names i ≡ slice_get names j → i ≡ j

pub nothing_listed : (calls : List Call) (area : Area) (names : List (List ℕ)) → names ≡ [] → IsListing calls area 0 names
nothing_listed calls area names none = record {
  each = λ name at some. absurd (omega (arith, at.below));
  stand = λ name has. absurd (no_place name has);
  once = λ i j lt. absurd (let none_long = ap length none in omega (arith, none_long, lt));
}
  where
    no_place : (name : List ℕ) → Contains names name → ⊥
    no_place name has = let none_long = ap length none in omega (arith, none_long, has.1)

-- which of the first so many gave it: one before the last, or the last
last_or_before : (calls : List Call) (area : Area) (name : List ℕ) (bound : ℕ) (call : Call) → bound < length calls → call ≡ get_or calls bound call
    → GivenAt calls area name (bound + 1) → GivenAt calls area name bound ⊎ (given_by area call ≡ Some name)
last_or_before calls area name bound call lt is at =
    ⊎_elim
    (λ (before : at.place < bound). inl (record { place = at.place; below = before; call = at.call; is = at.is; given = at.given }))
    (λ (here : bound ≤ at.place).
    let place : at.place ≡ bound = omega (arith, at.below, here) in
    let same : call ≡ at.call =
    is ∙ get_or_default calls bound call at.call lt ∙ ap (λ (n : ℕ). get_or calls n at.call) (sym place) ∙ sym at.is in
    inr (ap (given_by area) same ∙ at.given))
    (cases_lt at.place bound)

-- a call that gave no name here
pub not_given : (calls : List Call) (area : Area) (bound : ℕ) (call : Call) (names : List (List ℕ)) → bound < length calls → call ≡ get_or calls bound call
    → given_by area call ≡ None → IsListing calls area bound names → IsListing calls area (bound + 1) names
not_given calls area bound call names lt is none so_far = record {
  each = λ name at some. ⊎_elim
      (λ (before : GivenAt calls area name bound). so_far.each name before some)
      (λ (here : given_by area call ≡ Some name). absurd (none-some name (sym none ∙ here)))
      (last_or_before calls area name bound call lt is at);
  stand = so_far.stand;
  once = so_far.once;
}

once_push : (names : List (List ℕ)) (name : List ℕ) → (Contains names name → ⊥) → ((i j : ℕ) → i < length names → j < length names → slice_get names i ≡ slice_get names j → i ≡ j)
    → (i j : ℕ) → i < length (names ++ name ∷ []) → j < length (names ++ name ∷ []) → slice_get (names ++ name ∷ []) i ≡ slice_get (names ++ name ∷ []) j → i ≡ j
once_push names name new once i j lt_i lt_j same =
    let all : List (List ℕ) = names ++ name ∷ [] in
    let more = length_push names name in
    let read : get_or all i name ≡ get_or all j name =
    same_Some (get_or all i name) (get_or all j name) (sym (slice_get-get_or all i name lt_i) ∙ same ∙ slice_get-get_or all j name lt_j) in
    ⊎_elim
    (λ (in_i : i < length names).
    let at_i = get_or_append_left names (name ∷ []) name i in_i in
    ⊎_elim
    (λ (in_j : j < length names).
    let at_j = get_or_append_left names (name ∷ []) name j in_j in
    once i j in_i in_j (slice_get-get_or names i name in_i ∙ ap Some (sym at_i ∙ read ∙ at_j) ∙ sym (slice_get-get_or names j name in_j)))
    (λ (past_j : length names ≤ j).
    let last : length names ≡ j = omega (arith, more, lt_j, past_j) in
    absurd (new (i, in_i, sym at_i ∙ read ∙ get_or_push names name name j last)))
    (cases_lt j (length names)))
    (λ (past_i : length names ≤ i).
    let last_i : length names ≡ i = omega (arith, more, lt_i, past_i) in
    ⊎_elim
    (λ (in_j : j < length names).
    let at_j = get_or_append_left names (name ∷ []) name j in_j in
    absurd (new (j, in_j, sym at_j ∙ sym read ∙ get_or_push names name name i last_i)))
    (λ (past_j : length names ≤ j).
    let last_j : length names ≡ j = omega (arith, more, lt_j, past_j) in sym last_i ∙ last_j)
    (cases_lt j (length names)))
    (cases_lt i (length names))

-- a call that gave a name here
pub given_here : (calls : List Call) (area : Area) (bound : ℕ) (call : Call) (given : List ℕ) (old new : List (List ℕ)) → bound < length calls → call ≡ get_or calls bound call
    → given_by area call ≡ Some given → HasListed (names_of (folder_in area (disk_after calls))) given old new → IsListing calls area bound old → IsListing calls area (bound + 1) new
given_here calls area bound call given old new lt is gave has so_far = record {
  each = λ name at some. ⊎_elim
      (λ (before : GivenAt calls area name bound). has.kept name (so_far.each name before some))
      (λ (here : given_by area call ≡ Some name).
      let same : given ≡ name = same_Some given name (sym gave ∙ here) in
      subst (λ (n : List ℕ). Contains new n) same (has.listed (subst (λ (n : List ℕ). IsSome (names_of (folder_in area (disk_after calls)) n)) (sym same) some)))
      (last_or_before calls area name bound call lt is at);
  stand = λ name in_new. ⊎_elim
      (λ (same : new ≡ old). so_far.stand name (subst (λ (xs : List (List ℕ)). Contains xs name) same in_new))
      (λ (pushed : (new ≡ old ++ given ∷ []) × IsSome (names_of (folder_in area (disk_after calls)) given) × (Contains old given → ⊥)).
      ⊎_elim (so_far.stand name)
      (λ (last : given ≡ name). subst (λ (n : List ℕ). IsSome (names_of (folder_in area (disk_after calls)) n)) last pushed.1)
      (Contains-push_cases old given name (subst (λ (xs : List (List ℕ)). Contains xs name) pushed.0 in_new)))
      has.others;
  once = ⊎_elim
      (λ (same : new ≡ old). subst (λ (xs : List (List ℕ)). IsOnce xs) (sym same) so_far.once)
      (λ (pushed : (new ≡ old ++ given ∷ []) × IsSome (names_of (folder_in area (disk_after calls)) given) × (Contains old given → ⊥)).
      subst (λ (xs : List (List ℕ)). IsOnce xs) (sym pushed.0) (once_push old given pushed.2 so_far.once))
      has.others;
}

-- all calls are through
pub all_listed : (calls : List Call) (area : Area) (bound : ℕ) (names : List (List ℕ)) → length calls ≤ bound → IsListing calls area bound names → Lists (folder_in area (disk_after calls)) names
all_listed calls area bound names all listing = record {
  each = λ name. (
    listing.stand name,
    λ some.
        let whole : take (length calls) calls ≡ calls = take_all (length calls) calls (omega arith) in
        let at = all_given calls area name (length calls) (omega arith) (subst (λ (cs : List Call). IsSome (names_of (folder_in area (disk_after cs)) name)) (sym whole) some) in
        listing.each name (record { place = at.place; below = omega (arith, at.below, all); call = at.call; is = at.is; given = at.given }) some,
  );
  once = listing.once;
}
