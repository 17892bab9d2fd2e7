-- One folder of an image is taken, name by name.
use Rattle.std.proofs.Common.{◌≡◌, ◌≢◌, ◌⊎◌, inl, inr, ⊎_elim, ℕ, ◌+◌, ◌<◌, ◌≤◌, Bool, true, false, List, [], ◌∷◌, ◌++◌, length, take, get_or, Option, Some, None, is_some, refl, sym, ◌∙◌, ap, subst, arith}
use Rattle.std.specs.Prelude.{Contains}
use Rattle.std.specs.Option.{option_map}
use Rattle.std.specs.Str.{bytes_eq}
use Rattle.std.proofs.lemmas.Bool.{false≢true}
use Rattle.std.proofs.lemmas.List.{take_more, take_all}
use Rattle.std.proofs.lemmas.List.Elements.{Contains-push, Contains-push_cases, Contains-append_left}
use Rattle.std.proofs.lemmas.Option.{none-some}
use Rattle.std.proofs.lemmas.Slice.Eq.{bytes_eq-Decides}
use Rattle.std.specs.Bool.{Decides}
use Rattle.dm_disk_model.specs.Folder.{Names, Folder, AreSettled, Lists, names_of, contents_of}
use Rattle.dm_disk_model.specs.Disk.{DiskState, folder_in}
use Rattle.dm_disk_model.specs.Laws.{other_area}
use Rattle.dm_disk_model.specs.declared.place.Area.{Area}
use Rattle.dm_disk_model.specs.declared.place.Area.TheVariants.{State, Files}
use Rattle.dm_disk.specs.declared.call.Call.{Call}
use Rattle.dm_disk.specs.declared.call.Act.TheVariants.{SyncNames}
use Rattle.dm_disk.specs.declared.image.Pick.{Pick}
use Rattle.dm_disk.specs.Calls.{folder_after, in_folder, disk_after, empty_disk}
use Rattle.dm_disk.specs.Image.{picked_names, IsPicked, NamePicked, FolderPicked, HoldsPicked, IsTaken, Puts}
use Rattle.dm_disk.proofs.Replay.{disk_after_push, folder_in_same}

-- nothing stands in the folder
abbrev pub IsBare : Area → DiskState → Type 0
IsBare area disk = (name : List ℕ) → names_of (folder_in area disk) name ≡ None

-- the first so many of the names have what is picked, and no other stands
pub record Taking (pick : Pick) (from : Folder) (area : Area) (names : List (List ℕ)) (bound : ℕ) (new : DiskState) : Type 0 where
  pub have : (name : List ℕ) → Contains (take bound names) name → NamePicked pick from.file (picked_names pick from name) (contents_of (folder_in area new) name)
  pub none : (name : List ℕ) → (Contains (take bound names) name → ⊥) → contents_of (folder_in area new) name ≡ None
  pub settled : AreSettled (folder_in area new)

pub record IsTaking (pick : Pick) (from : Folder) (area : Area) (names : List (List ℕ)) (bound : ℕ) (old new : DiskState) : Type 0 where
  pub here : IsBare area old → Taking pick from area names bound new
  pub beside : folder_in (other_area area) new ≡ folder_in (other_area area) old

pub nothing_taken : (pick : Pick) (from : Folder) (area : Area) (names : List (List ℕ)) (disk : DiskState) → IsTaking pick from area names 0 disk disk
nothing_taken pick from area names disk = record {
  here = λ bare. record {
    have = λ name has. let lt = has.1 in absurd (omega (arith, lt));
    none = λ name not. ap (option_map (λ number. ((folder_in area disk).file number).bytes)) (bare name);
    settled = λ name number has. absurd (none-some number (sym (bare name) ∙ has));
  };
  beside = refl;
}

same_or_apart : (a b : List ℕ) → (a ≡ b) ⊎ (a ≢ b)
same_or_apart a b = by (bytes_eq a b) (bytes_eq-Decides a b)
  where
    by : (test : Bool) → Decides test (a ≡ b) → (a ≡ b) ⊎ (a ≢ b)
    by true same = inl (same.0 refl)
    by false apart = inr (λ e. false≢true (apart.1 e))

-- the next name was put
pub one_taken : (pick : Pick) (from : Folder) (area : Area) (names : List (List ℕ)) (bound : ℕ) (first old new : DiskState) (name bytes : List ℕ) (number : ℕ)
    → bound < length names → name ≡ get_or names bound name → picked_names pick from name ≡ Some number → IsPicked pick (from.file number) bytes
    → Puts area name bytes old new → IsTaking pick from area names bound first old → IsTaking pick from area names (bound + 1) first new
one_taken pick from area names bound first old new name bytes number lt is named picked puts so_far = record {
  here = λ bare.
      let taking = so_far.here bare in
      record {
        have = λ other has. ⊎_elim
            (λ (same : other ≡ name). here_is other same)
            (λ (apart : other ≢ name).
            subst (λ (found : Option (List ℕ)). NamePicked pick from.file (picked_names pick from other) found) (sym (puts.others other apart))
            (taking.have other (before other apart has)))
            (same_or_apart other name);
        none = λ other not.
            puts.others other (λ (same : other ≡ name). not (is_last other same)) ∙ taking.none other (λ has. not (is_kept other has));
        settled = puts.settled taking.settled;
      };
  beside = puts.beside ∙ so_far.beside;
}
  where
    more : take (bound + 1) names ≡ take bound names ++ name ∷ []
    more = take_more names bound name lt ∙ ap (λ (n : List ℕ). take bound names ++ n ∷ []) (sym is)

    here_is : (other : List ℕ) → other ≡ name → NamePicked pick from.file (picked_names pick from other) (contents_of (folder_in area new) other)
    here_is other same =
        subst (λ (n : List ℕ). NamePicked pick from.file (picked_names pick from n) (contents_of (folder_in area new) n)) (sym same)
        (subst (λ (found : Option ℕ). NamePicked pick from.file found (contents_of (folder_in area new) name)) (sym named)
        (subst (λ (found : Option (List ℕ)). NamePicked pick from.file (Some number) found) (sym puts.here) picked))

    before : (other : List ℕ) → other ≢ name → Contains (take (bound + 1) names) other → Contains (take bound names) other
    before other apart has =
        ⊎_elim (λ old_has. old_has) (λ (e : name ≡ other). absurd (apart (sym e)))
        (Contains-push_cases (take bound names) name other (subst (λ (xs : List (List ℕ)). Contains xs other) more has))

    is_last : (other : List ℕ) → other ≡ name → Contains (take (bound + 1) names) other
    is_last other same =
        subst (λ (xs : List (List ℕ)). Contains xs other) (sym more) (subst (λ (n : List ℕ). Contains (take bound names ++ name ∷ []) n) (sym same) (Contains-push (take bound names) name))

    is_kept : (other : List ℕ) → Contains (take bound names) other → Contains (take (bound + 1) names) other
    is_kept other has = subst (λ (xs : List (List ℕ)). Contains xs other) (sym more) (Contains-append_left (take bound names) (name ∷ []) other has)

-- the names were all put, and are synced
pub all_taken : (pick : Pick) (from named : DiskState) (area : Area) (names : List (List ℕ)) (bound : ℕ) (first : DiskState) (calls later : List Call) → length names ≤ bound
    → names_of (folder_in area named) ≡ picked_names pick (folder_in area from) → Lists (folder_in area named) names
    → IsTaking pick (folder_in area from) area names bound first (disk_after calls) → later ≡ calls ++ record { area = area; act = SyncNames } ∷ []
    → IsTaken pick area from first (disk_after later)
all_taken pick from named area names bound first calls later all same lists taking is =
    subst (λ (disk : DiskState). IsTaken pick area from first disk) (sym (ap disk_after is ∙ disk_after_push calls (record { area = area; act = SyncNames }))) (record {
      here = λ bare. subst (λ (f : Folder). FolderPicked pick (folder_in area from) f) (sym (folder_in_same area sync last)) (record {
        each = λ name. found (taking.here bare) name (picked_names pick (folder_in area from) name) refl;
        settled = (taking.here bare).settled;
        named = refl;
      });
      beside = stays area ∙ taking.beside;
    })
  where
    last : DiskState
    last = disk_after calls

    sync : Folder → Folder
    sync = folder_after (length calls) SyncNames

    stays : (a : Area) → folder_in (other_area a) (in_folder a sync last) ≡ folder_in (other_area a) last
    stays State = refl
    stays Files = refl

    whole : take bound names ≡ names
    whole = take_all bound names all

    found : Taking pick (folder_in area from) area names bound last → (name : List ℕ) → (number : Option ℕ) → picked_names pick (folder_in area from) name ≡ number
        → NamePicked pick (folder_in area from).file (picked_names pick (folder_in area from) name) (contents_of (folder_in area last) name)
    found done name (Some number) is_some_number =
        let reads : names_of (folder_in area named) name ≡ Some number = ap (λ (ns : Names). ns name) same ∙ is_some_number in
        let has : Contains names name = (lists.each name).1 (ap is_some reads) in
        done.have name (subst (λ (xs : List (List ℕ)). Contains xs name) (sym whole) has)
    found done name None is_none =
        let reads : names_of (folder_in area named) name ≡ None = ap (λ (ns : Names). ns name) same ∙ is_none in
        let not : Contains (take bound names) name → ⊥ = λ has. false≢true (sym (ap is_some reads) ∙ (lists.each name).0 (subst (λ (xs : List (List ℕ)). Contains xs name) whole has)) in
        subst (λ (n : Option ℕ). NamePicked pick (folder_in area from).file n (contents_of (folder_in area last) name)) (sym is_none)
        (subst (λ (f : Option (List ℕ)). NamePicked pick (folder_in area from).file None f) (sym (done.none name not)) tt)

-- both folders, one after the other, into an empty disk
pub both_taken : (pick : Pick) (from middle last : DiskState) → IsTaken pick State from empty_disk middle → IsTaken pick Files from middle last → HoldsPicked pick from last
both_taken pick from middle last state files = record {
  state = subst (λ (f : Folder). FolderPicked pick from.state f) (sym files.beside) (state.here (λ name. refl));
  files = files.here (λ name. ap (λ (f : Folder). names_of f name) state.beside);
}
