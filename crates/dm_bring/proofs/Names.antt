-- Which name an attempt gives to its file: the entry that says it stands among those of the attempt.
use Rattle.std.proofs.Common.{◌≡◌, ◌⊎◌, inl, inr, ℕ, cond, Bool, true, false, ◌||◌, IsTrue, List, [], ◌∷◌, ◌++◌, map, Option, Some, None, refl, sym, ◌∙◌, ap, subst, append_assoc}
use Rattle.std.specs.List.{AllByRecursion}
use Rattle.std.specs.Prelude.{Contains}
use Rattle.std.proofs.lemmas.Bool.{false≢true}
use Rattle.std.proofs.lemmas.List.Elements.{Contains-append_cases, Contains-append_left}
use Rattle.std.proofs.lemmas.Option.{none-some}
use Rattle.dm_types.specs.Name.{IsPart}
use Rattle.dm_types.specs.declared.entry.Entry.{Entry}
use Rattle.dm_types.specs.declared.entry.Entry.TheVariants as entries
use Rattle.dm_types.specs.declared.item.Item.{Item}
use Rattle.dm_types.specs.declared.item.ItemId.{ItemId}
use Rattle.dm_types.specs.declared.item.Phase.{Phase}
use Rattle.dm_types.specs.declared.item.Phase.TheVariants as phases
use Rattle.dm_types.specs.declared.kinds.By.{By}
use Rattle.dm_types.specs.declared.kinds.Mode.{Mode}
use Rattle.dm_types.specs.declared.slices.Slice.{Slice}
use Rattle.dm_disk_model.specs.Beside.{Besides}
use Rattle.dm_disk_model.specs.Disk.{History as Clock}
use Rattle.dm_policy.specs.Cause.{reason_of_cause}
use Rattle.dm_policy.specs.Mode.{is_immediate}
use Rattle.dm_item.specs.Lawful.{History, IsLawful, IsOf, items_of}
use Rattle.dm_item.specs.Listing.{Listing, item_in}
use Rattle.dm_item.specs.Row.{changed, is_complete, is_finishing, mode_in}
use Rattle.dm_answers.specs.Begin.{beginning, begins_anew}
use Rattle.dm_attempt.specs.Live.{IsGivenBy, all_entries}
use Rattle.dm_attempt.specs.Scene.{Scene, changed_all}
use Rattle.dm_attempt.specs.Trace.{Broken, Close, Done, Tale, Trace, close_entries, entries_behind, told_entries}
use Rattle.dm_fetch.proofs.Begun.{renewal, start}
use Rattle.dm_fetch.proofs.Rises.{Own}
use Rattle.dm_does.specs.Leaving.{IsFinished, IsNamedBy, WasFree}
use Rattle.dm_does.proofs.Behind.{lawful_front}
use Rattle.dm_does.proofs.Touching.{free_before}
use Rattle.dm_bring.proofs.Fronts.{Changes, EachFront, at_front, both, each_map, fronts, there_behind}

-- the item has a file, or gets it
abbrev pub is_given : Item → Bool
is_given item = is_finishing item.phase || is_complete item.phase

-- one of these entries says that the item has its whole content, and it has the name there
pub record Gives (id : ItemId) (item : Item) (recorded : History) (name : List ℕ) : Type 0 where
  pub front : History
  pub total : ℕ
  pub back : History
  pub is : recorded ≡ front ++ entries.Finishing id total ∷ back
  pub named : (changed_all front item).name ≡ Some name

-- Where the item has a file behind these entries, it has it by one of them.
abbrev pub IsBy : ItemId → Item → History → Type 0
IsBy id item recorded = (name : List ℕ) → IsGivenBy (changed_all recorded item) name → Gives id item recorded name

module _ (id : ItemId) where
  none_by : (item : Item) → is_given item ≡ false → IsBy id item []
  none_by item none name given = absurd (false≢true (sym none ∙ given.0))

  later : (e : Entry) (item : Item) (front : History) → IsBy id (changed e item) front → IsBy id item (e ∷ front)
  later e item front is name given =
      let by = is name given in
      record { front = e ∷ by.front; total = by.total; back = by.back; is = ap (λ (h : History). e ∷ h) by.is; named = by.named }

  -- one entry more, before which the item had none
  one : (e : Entry) (more : History) (item : Item) → is_given item ≡ false → EachFront (IsBy id (changed e item)) more → EachFront (IsBy id item) (e ∷ more)
  one e more item none each = (none_by item none, each_map (IsBy id (changed e item)) (λ (h : History). IsBy id item (e ∷ h)) (later e item) more each)

  module _ (at : ℕ) (close : Close) where
    closes : (end : Close) (item : Item) → is_given item ≡ false → EachFront (IsBy id item) (close_entries id at end)
    closes (Broken cause) item none = one (entries.Broke id (reason_of_cause cause)) [] item none (λ name given. absurd (false≢true given.0))
    closes (Done total digest) item none = (
      none_by item none,
      (
        (λ name given. record { front = []; total = total; back = []; is = refl; named = given.1 }),
        (λ name given. record { front = []; total = total; back = entries.Done id digest at ∷ []; is = refl; named = given.1 }),
      ),
    )

    saves_by : (saves : List (List Slice)) (item : Item) → is_given item ≡ false → EachFront (IsBy id item) (map (entries.Progress id) saves ++ close_entries id at close)
    saves_by [] item none = closes close item none
    saves_by (slices ∷ saves) item none = one (entries.Progress id slices) (map (entries.Progress id) saves ++ close_entries id at close) item none (saves_by saves (record item { slices = slices }) none)

    told_by : (told : Option Tale) (saves : List (List Slice)) (item : Item) → is_given item ≡ false → EachFront (IsBy id item) (told_entries id told ++ (map (entries.Progress id) saves ++ close_entries id at close))
    told_by None saves item none = saves_by saves item none
    told_by (Some tale) saves item none =
        let entry : Entry = entries.Described id tale.key tale.address.text tale.total tale.name tale.modified in
        one entry (map (entries.Progress id) saves ++ close_entries id at close) item none (saves_by saves (changed entry item) none)

  begun_by : (item : Item) (by : By) (at : ℕ) (trace : Trace) (close : Close) (test : Bool) → is_given item ≡ false
      → EachFront (IsBy id item) ((cond test (renewal item by at ∷ []) [] ++ start item by at ∷ []) ++ entries_behind id at trace close)
  begun_by item by at trace close true none =
      one (renewal item by at) (start item by at ∷ entries_behind id at trace close) item none
      (one (start item by at) (entries_behind id at trace close) (changed (renewal item by at) item) none (told_by at close trace.told trace.saves (changed (start item by at) (changed (renewal item by at) item)) refl))
  begun_by item by at trace close false none =
      one (start item by at) (entries_behind id at trace close) item none (told_by at close trace.told trace.saves (changed (start item by at) item) refl)

  -- all of them are of the item
  saves_own : (saves : List (List Slice)) → AllByRecursion (Changes id.0) (map (entries.Progress id) saves)
  saves_own [] = tt
  saves_own (slices ∷ saves) = (record { room = λ v. tt; items = λ v. refl }, saves_own saves)

  told_own : (told : Option Tale) → AllByRecursion (Changes id.0) (told_entries id told)
  told_own None = tt
  told_own (Some tale) = (record { room = λ v. tt; items = λ v. refl }, tt)

  close_own : (at : ℕ) (close : Close) → AllByRecursion (Changes id.0) (close_entries id at close)
  close_own at (Broken cause) = (record { room = λ v. tt; items = λ v. refl }, tt)
  close_own at (Done total digest) = (record { room = λ v. tt; items = λ v. refl }, (record { room = λ v. tt; items = λ v. refl }, tt))

begun_own : (item : Item) (by : By) (at : ℕ) (test : Bool) → AllByRecursion (Changes item.id.0) (cond test (renewal item by at ∷ []) [] ++ start item by at ∷ [])
begun_own item by at true = (record { room = λ v. tt; items = λ v. refl }, (record { room = λ v. tt; items = λ v. refl }, tt))
begun_own item by at false = (record { room = λ v. tt; items = λ v. refl }, tt)

module _ {D O : Type 0} (scene : Scene D O) (trace : Trace) (close : Close) where
  all_own : AllByRecursion (Changes scene.item.id.0) (all_entries scene trace close)
  all_own =
      let id = scene.item.id in
      both id.0 (beginning scene.item scene.by scene.at) (entries_behind id scene.at trace close) (begun_own scene.item scene.by scene.at (begins_anew scene.item))
      (both id.0 (told_entries id trace.told) (map (entries.Progress id) trace.saves ++ close_entries id scene.at close) (told_own id trace.told)
      (both id.0 (map (entries.Progress id) trace.saves) (close_entries id scene.at close) (saves_own id trace.saves) (close_own id scene.at close)))

  -- Of an item that had no file: the name that it has behind some first entries of the attempt is one that they give.
  pub given_by : (recorded more : History) → all_entries scene trace close ≡ recorded ++ more → is_given scene.item ≡ false → IsBy scene.item.id scene.item recorded
  given_by recorded more is none =
      at_front (IsBy scene.item.id scene.item) (all_entries scene trace close) recorded more is (begun_by scene.item.id scene.item scene.by scene.at trace close (begins_anew scene.item) none)

  pub recorded_own : (recorded more : History) → all_entries scene trace close ≡ recorded ++ more → AllByRecursion (Changes scene.item.id.0) recorded
  recorded_own recorded more is = fronts scene.item.id.0 recorded more (subst (AllByRecursion (Changes scene.item.id.0)) is all_own)

-- each name that these entries give, and that is no part's, was free at the start
abbrev pub AreFree : Clock → History → Type 0
AreFree from recorded = (id : ItemId) (name : List ℕ) → IsNamedBy recorded id name → (IsPart name → ⊥) → WasFree from name

by_more : (all front back : History) (id : ItemId) (name : List ℕ) → all ≡ front ++ back → IsNamedBy front id name → IsNamedBy all id name
by_more all front back id name is by = record {
  key = by.key;
  address = by.address;
  total = by.total;
  modified = by.modified;
  is = subst (λ (h : History). Contains h (entries.Described id by.key by.address by.total name by.modified)) (sym is) (Contains-append_left front back (entries.Described id by.key by.address by.total name by.modified) by.is);
}

-- and it stands in the log so
pub finished_by : (from : Clock) (broken : Bool) (id : ItemId) (item : Item) (history recorded rest : History) (v : Listing) (name : List ℕ) → IsOf history v → IsLawful (history ++ recorded) → AllByRecursion (Changes id.0) recorded → item_in id.0 v.items ≡ Some item
    → (broken ≡ false → AreFree from recorded) → Gives id item recorded name → IsFinished IsPart from history (recorded ++ rest) broken name
finished_by from broken id item history recorded rest v name is lawful own there free gives =
    let behind : History = entries.Finishing id gives.total ∷ gives.back in
    let whole : IsLawful ((history ++ gives.front) ++ behind) = subst IsLawful (ap (λ (h : History). history ++ h) gives.is ∙ sym (append_assoc history gives.front behind)) lawful in
    record {
      front = gives.front;
      id = id;
      total = gives.total;
      back = gives.back ++ rest;
      tried_is = ap (λ (h : History). h ++ rest) gives.is ∙ append_assoc gives.front behind rest;
      item = changed_all gives.front item;
      there = there_behind id.0 gives.front history v item is (lawful_front (history ++ gives.front) behind whole) (fronts id.0 gives.front behind (subst (AllByRecursion (Changes id.0)) gives.is own)) there;
      named = gives.named;
      free = λ unbroken no_part by. free unbroken id name (by_more recorded gives.front behind id name gives.is by) no_part;
    }

-- One part of a log behind another.

-- a name that one of both gives was free before both
free_then : (from mid : Clock) (one two : History) (id : ItemId) (name : List ℕ) → Besides IsPart from mid → (IsPart name → ⊥) → (IsNamedBy one id name → WasFree from name) → (IsNamedBy two id name → WasFree mid name) → IsNamedBy (one ++ two) id name
    → WasFree from name
free_then from mid one two id name beside no_part first second by = either (Contains-append_cases one two entry by.is)
  where
    entry : Entry
    entry = entries.Described id by.key by.address by.total name by.modified

    either : Contains one entry ⊎ Contains two entry → WasFree from name
    either (inl here) = first (record { key = by.key; address = by.address; total = by.total; modified = by.modified; is = here })
    either (inr later) = free_before IsPart from mid name beside no_part (second (record { key = by.key; address = by.address; total = by.total; modified = by.modified; is = later }))

pub free_both : (from mid : Clock) (one two : History) → Besides IsPart from mid → AreFree from one → AreFree mid two → AreFree from (one ++ two)
free_both from mid one two beside first second id name by no_part =
    free_then from mid one two id name beside no_part (λ own. first id name own no_part) (λ own. second id name own no_part) by

pub finished_front : (from : Clock) (first broken : Bool) (history one two : History) (name : List ℕ) → first ≡ false → IsFinished IsPart from history one first name → IsFinished IsPart from history (one ++ two) broken name
finished_front from first broken history one two name whole is = record {
  front = is.front;
  id = is.id;
  total = is.total;
  back = is.back ++ two;
  tried_is = ap (λ (h : History). h ++ two) is.tried_is ∙ append_assoc is.front (entries.Finishing is.id is.total ∷ is.back) two;
  item = is.item;
  there = is.there;
  named = is.named;
  free = λ unbroken no_part by. is.free whole no_part by;
}

pub finished_back : (from mid : Clock) (broken : Bool) (history one two : History) (name : List ℕ) → AreFree from one → Besides IsPart from mid → IsFinished IsPart mid (history ++ one) two broken name → IsFinished IsPart from history (one ++ two) broken name
finished_back from mid broken history one two name free beside is = record {
  front = one ++ is.front;
  id = is.id;
  total = is.total;
  back = is.back;
  tried_is = ap (λ (h : History). one ++ h) is.tried_is ∙ sym (append_assoc one is.front (entries.Finishing is.id is.total ∷ is.back));
  item = is.item;
  there = subst (λ (h : History). item_in is.id.0 (items_of h) ≡ Some is.item) (append_assoc history one is.front) is.there;
  named = is.named;
  free = λ unbroken no_part by. free_then from mid one is.front is.id name beside no_part (λ own. free is.id name own no_part) (λ own. is.free unbroken no_part own) by;
}

-- entries that change an item change no other
pub own_items : (k : ℕ) (list : History) → AllByRecursion (Changes k) list → AllByRecursion (Own k) list
own_items k [] own = tt
own_items k (entry ∷ list) own = (own.0.items, own_items k list own.1)

-- an item that goes on by itself has no file
pub none_given : (phase : Phase) (mode : Mode) → IsTrue (is_immediate (mode_in phase mode)) → (is_finishing phase || is_complete phase) ≡ false
none_given phases.Waiting mode is = refl
none_given phases.Running mode is = refl
none_given phases.Paused mode is = refl
none_given (phases.Interrupted reason) mode is = refl
none_given phases.Cancelled mode is = refl
none_given phases.Finishing mode is = absurd (false≢true is)
none_given phases.Complete mode is = absurd (false≢true is)
