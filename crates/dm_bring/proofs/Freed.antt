-- The name that an attempt gives an item was free as the attempt began.
use Rattle.std.proofs.Common.{◌≡◌, ◌⊎◌, inl, inr, ℕ, ◌<◌, cond, Bool, true, false, List, [], ◌∷◌, ◌++◌, length, map, Option, Some, None, refl, sym, ◌∙◌, ap, subst, arith}
use Rattle.std.specs.List.{AllByRecursion}
use Rattle.std.specs.Prelude.{Contains, IfSome, IsSome}
use Rattle.std.specs.Option.{option_map}
use Rattle.std.proofs.lemmas.Bool.{false≢true}
use Rattle.std.proofs.lemmas.List.Elements.{Contains-append_cases, Contains-append_left, Contains-push_cases}
use Rattle.std.proofs.lemmas.Option.{none-some}
use Rattle.dm_types.specs.Name.{IsPart, fold_case}
use Rattle.dm_types.specs.declared.entry.Entry.{Entry}
use Rattle.dm_types.specs.declared.entry.Entry.TheVariants as entries
use Rattle.dm_types.specs.declared.item.Item.{Item}
use Rattle.dm_types.specs.declared.item.ItemId.{ItemId}
use Rattle.dm_types.specs.declared.item.Key.{Key}
use Rattle.dm_types.specs.declared.kinds.By.{By}
use Rattle.dm_types.specs.declared.kinds.DiskKind.{DiskKind}
use Rattle.dm_types.specs.declared.slices.Slice.{Slice}
use Rattle.dm_disk_model.specs.Beside.{WasUnder}
use Rattle.dm_disk_model.specs.Disk.{History as Clock, IsSoundDisk, now}
use Rattle.dm_disk_model.specs.Folder.{Folder, Lists, contents_of, names_of}
use Rattle.dm_disk_model.proofs.Images.{folder_as_read}
use Rattle.dm_name.specs.Forms.{IsFirstFree, IsTaken}
use Rattle.dm_edge.specs.declared.fault.NetFault.{NetFault}
use Rattle.dm_item.specs.Lawful.{History}
use Rattle.dm_kept.specs.Files.{Says}
use Rattle.dm_store.specs.declared.pass.Pass.{Pass}
use Rattle.dm_store.specs.View.{View}
use Rattle.dm_answers.specs.Begin.{beginning, begins_anew}
use Rattle.dm_answers.specs.Describe.{used_names}
use Rattle.dm_attempt.specs.Asking.{Asking}
use Rattle.dm_attempt.specs.Live.{all_entries}
use Rattle.dm_attempt.specs.Scene.{Scene, begun_by}
use Rattle.dm_attempt.specs.Trace.{Broken, Close, Done, Round, Tale, Trace, close_entries, entries_behind, told_entries}
use Rattle.dm_rounds.specs.First.{IsTold}
use Rattle.dm_fetch.specs.Attempts.{Asks, anew, nothing, on}
use Rattle.dm_fetch.proofs.Begun.{renewal, start}
use Rattle.dm_does.specs.Leaving.{IsNamedBy, WasFree}
use Rattle.dm_does.proofs.Touching.{free_before}
use Rattle.dm_bring.proofs.Names.{AreFree}

-- Entries that give no name.

abbrev pub is_described : Entry → Bool
is_described (entries.Described id key address total name modified) = true
is_described _ = false

abbrev pub GiveNone : History → Type 0
GiveNone list = AllByRecursion (λ entry. is_described entry ≡ false) list

single : {X : Type 0} (y x : X) → Contains (y ∷ []) x → y ≡ x
single y x c = by (Contains-push_cases [] y x c)
  where
    by : Contains [] x ⊎ (y ≡ x) → y ≡ x
    by (inl none) = let low = none.1 in absurd (omega (arith, low))
    by (inr is) = is

pub no_name : (list : History) (entry : Entry) → GiveNone list → Contains list entry → is_described entry ≡ true → ⊥
no_name [] entry none c is = let low = c.1 in omega (arith, low)
no_name (first ∷ list) entry none c is = by (λ later. no_name list entry none.1 later is) (Contains-append_cases (first ∷ []) list entry c)
  where
    by : (Contains list entry → ⊥) → Contains (first ∷ []) entry ⊎ Contains list entry → ⊥
    by others (inl here) = false≢true (sym none.0 ∙ ap is_described (single first entry here) ∙ is)
    by others (inr later) = others later

pub none_both : (a b : History) → GiveNone a → GiveNone b → GiveNone (a ++ b)
none_both [] b first second = second
none_both (entry ∷ a) b first second = (first.0, none_both a b first.1 second)

begun_none : (item : Item) (by : By) (at : ℕ) (test : Bool) → GiveNone (cond test (renewal item by at ∷ []) [] ++ start item by at ∷ [])
begun_none item by at true = (refl, (refl, tt))
begun_none item by at false = (refl, tt)

saves_none : (id : ItemId) (saves : List (List Slice)) → GiveNone (map (entries.Progress id) saves)
saves_none id [] = tt
saves_none id (slices ∷ saves) = (refl, saves_none id saves)

close_none : (id : ItemId) (at : ℕ) (close : Close) → GiveNone (close_entries id at close)
close_none id at (Broken cause) = (refl, tt)
close_none id at (Done total digest) = (refl, (refl, tt))

-- what was told gives the name
record IsTale (told : Option Tale) (name : List ℕ) : Type 0 where
  tale : Tale
  told_is : told ≡ Some tale
  name_is : name ≡ tale.name

same_name : (id other : ItemId) (tale : Tale) (by : Entry) (name : List ℕ) (is : IsNamedBy (by ∷ []) other name) → by ≡ entries.Described id tale.key tale.address.text tale.total tale.name tale.modified → name ≡ tale.name
same_name id other tale by name is same =
    let one : by ≡ entries.Described other is.key is.address is.total name is.modified = single by (entries.Described other is.key is.address is.total name is.modified) is.is in
    names_same other id is.key tale.key is.address tale.address.text is.total tale.total name tale.name is.modified tale.modified (sym one ∙ same)
  where
    names_same : (a b : ItemId) (k l : Key) (x y : List ℕ) (t u : Option ℕ) (n m : List ℕ) (v w : List ℕ) → entries.Described a k x t n v ≡ entries.Described b l y u m w → n ≡ m
    names_same a b k l x y t u n m v w same = cc

told_name : (id other : ItemId) (told : Option Tale) (name : List ℕ) → IsNamedBy (told_entries id told) other name → IsTale told name
told_name id other None name by = let low = by.is.1 in absurd (omega (arith, low))
told_name id other (Some tale) name by = record { tale = tale; told_is = refl; name_is = same_name id other tale (entries.Described id tale.key tale.address.text tale.total tale.name tale.modified) name by refl }

module _ {D O : Type 0} (scene : Scene D O) (trace : Trace) (close : Close) (other : ItemId) (name : List ℕ) where
  abbrev id : ItemId
  id = scene.item.id

  all_name : IsNamedBy (all_entries scene trace close) other name → IsTale trace.told name
  all_name by = begun (Contains-append_cases (beginning scene.item scene.by scene.at) (entries_behind id scene.at trace close) entry by.is)
    where
      entry : Entry
      entry = entries.Described other by.key by.address by.total name by.modified

      saved : Contains (map (entries.Progress id) trace.saves) entry ⊎ Contains (close_entries id scene.at close) entry → IsTale trace.told name
      saved (inl here) = absurd (no_name (map (entries.Progress id) trace.saves) entry (saves_none id trace.saves) here refl)
      saved (inr later) = absurd (no_name (close_entries id scene.at close) entry (close_none id scene.at close) later refl)

      told : Contains (told_entries id trace.told) entry ⊎ Contains (map (entries.Progress id) trace.saves ++ close_entries id scene.at close) entry → IsTale trace.told name
      told (inl here) = told_name id other trace.told name (record { key = by.key; address = by.address; total = by.total; modified = by.modified; is = here })
      told (inr later) = saved (Contains-append_cases (map (entries.Progress id) trace.saves) (close_entries id scene.at close) entry later)

      begun : Contains (beginning scene.item scene.by scene.at) entry ⊎ Contains (entries_behind id scene.at trace close) entry → IsTale trace.told name
      begun (inl here) = absurd (no_name (beginning scene.item scene.by scene.at) entry (begun_none scene.item scene.by scene.at (begins_anew scene.item)) here refl)
      begun (inr later) = told (Contains-append_cases (told_entries id trace.told) (map (entries.Progress id) trace.saves ++ close_entries id scene.at close) entry later)

-- A name that isn't taken is one that no file has.

not_listed : (folder : Folder) (listed : List (List ℕ)) (name : List ℕ) → Lists folder listed → (Contains listed name → ⊥) → (found : Option ℕ) → names_of folder name ≡ found → found ≡ None
not_listed folder listed name lists none None is = refl
not_listed folder listed name lists none (Some number) is = absurd (none ((lists.each name).1 (subst IsSome (sym is) refl)))

free_now : (clock : Clock) (listed used : List (List ℕ)) (wish name : List ℕ) → IsSoundDisk (now clock) → Lists (now clock).files listed → IsFirstFree wish (listed ++ used) name → WasFree clock name
free_now clock listed used wish name sound lists first =
    let none : names_of (now clock).files name ≡ None = not_listed (now clock).files listed name lists taken (names_of (now clock).files name) refl in
    record {
      before = contents_of (now clock).files;
      left = folder_as_read (now clock).files sound.files;
      same = sym (ap (λ (n : Option ℕ). option_map (λ number. ((now clock).files.file number).bytes) n) none);
    }
  where
    taken : Contains listed name → ⊥
    taken among =
        let longer = Contains-append_left listed used name among in
        first.free (longer.0, name, longer.1, longer.2, refl)

module _ {D O : Type 0} (tells : Type 0) (clock : D → Clock) (says : O → Says) (far : D → ℕ) (counts : D → DiskKind → ℕ) (net : Type 0) (sound : tells → (disk : D) (t : ℕ) → IsSoundDisk ((clock disk).at t)) (scene : Scene D O) (pass : Pass) (slices : ℕ) where
  tale_free : (P : Asking → List Round → Type 0) (trace : Trace) (tale : Tale) → trace.told ≡ Some tale → Asks tells clock says far counts net scene pass slices P trace → tells → (IsPart tale.name → ⊥) → WasFree (clock scene.start.disk) tale.name
  tale_free P trace tale is (nothing asks) told no_part = absurd (none-some tale (sym asks.told ∙ is))
  tale_free P trace tale is (on asks) told no_part = absurd (none-some tale (sym asks.told ∙ is))
  tale_free P trace tale is (anew asks) told no_part =
      let t = subst (λ (d : Option Tale). IfSome d (IsTold tells clock net asks.desk pass asks.first (begun_by scene).wish slices trace)) is asks.fresh.told in
      free_before IsPart (clock scene.start.disk) (clock asks.desk.disk) tale.name (asks.live.goes.beside told) no_part
      (free_now (clock asks.desk.disk) t.named.listed (used_names asks.desk.items.items) t.wish tale.name (sound told asks.desk.disk (clock asks.desk.disk).moment) (t.named.lists told) t.named.is)

  -- the names that its entries give were free at its start
  pub attempt_free : (P : Asking → List Round → Type 0) (trace asked : Trace) (close : Close) → trace.told ≡ asked.told → Asks tells clock says far counts net scene pass slices P asked → tells → AreFree (clock scene.start.disk) (all_entries scene trace close)
  attempt_free P trace asked close same asks told id name by no_part =
      let tale = all_name scene trace close id name by in
      subst (WasFree (clock scene.start.disk)) (sym tale.name_is)
      (tale_free P asked tale.tale (sym same ∙ tale.told_is) asks told (λ (part : IsPart tale.tale.name). no_part (subst IsPart (sym tale.name_is) part)))
