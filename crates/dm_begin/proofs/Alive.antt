-- What a desk keeps where one of its lives changes, and no entry is recorded.
use Rattle.std.proofs.Common.{◌≡◌, ◌≢◌, ℕ, ◌+◌, ◌<◌, ◌==◌, Bool, true, false, List, [], ◌∷◌, ◌++◌, cond, length, Option, Some, None, refl, sym, ◌∙◌, ap, subst, arith}
use Rattle.std.specs.Prelude.{IfSome}
use Rattle.std.specs.Option.{option_map}
use Rattle.dm_types.specs.declared.item.Item.{Item}
use Rattle.dm_types.specs.declared.item.ItemId.{ItemId}
use Rattle.dm_types.specs.declared.item.Key.{Key}
use Rattle.dm_types.specs.declared.slices.Slice.{Slice}
use Rattle.dm_slice.specs.Cover.{SamePlaces}
use Rattle.dm_slice.specs.Words.{cover_end}
use Rattle.dm_disk_model.specs.Disk.{History as Clock, now}
use Rattle.dm_disk_model.specs.Folder.{Folder}
use Rattle.dm_disk_model.specs.Moments.{Throughout}
use Rattle.dm_disk_model.proofs.Reaching.{at_start}
use Rattle.dm_item.specs.History.{get}
use Rattle.dm_item.specs.Lawful.{History, items_of}
use Rattle.dm_item.specs.Listing.{item_in}
use Rattle.dm_part.specs.Keeping.{Stage}
use Rattle.dm_part.proofs.Own.{held_fewer}
use Rattle.dm_kept.specs.Files.{EndsLive, Facts, FileKept, Says, claim_of, live_of, says_all, stage_of}
use Rattle.dm_kept.specs.Kept.{Kept, Sits}
use Rattle.dm_kept.specs.Recovery.{Through}
use Rattle.dm_kept.proofs.Entered.{items_are}
use Rattle.dm_kept.proofs.Flags.{if_map}
use Rattle.dm_kept.proofs.Lists.{eq_is, eq_not, id_in, some_is}
use Rattle.dm_kept.proofs.Resting as resting
use Rattle.dm_store.specs.declared.life.Life.{Life}
use Rattle.dm_store.specs.Keeps.{HoldsOf, IsDesk, Keeps, RestsBy}
use Rattle.dm_store.specs.Lives.{AreBounded, AreLives, IsLifeOf, LifeOf, changed_life, covers_of, life_in}
use Rattle.dm_store.specs.View.{View}
use Rattle.dm_store.proofs.Keeping.{at_rest, step_keeps, whole_loses}
use Rattle.dm_store.proofs.Lives.{changed_other, changed_own}

-- as many lives as before
length_test : (f : Life → Life) (life : Life) (rest changed : List Life) (test : Bool) → length changed ≡ length rest → length (cond test (f life ∷ rest) (life ∷ changed)) ≡ length (life ∷ rest)
length_test f life rest changed true same = refl
length_test f life rest changed false same = omega (arith, same)

pub changed_length : (k : ℕ) (f : Life → Life) (lives : List Life) → length (changed_life k f lives) ≡ length lives
changed_length k f [] = refl
changed_length k f (life ∷ rest) = length_test f life rest (changed_life k f rest) (life.id.0 == k) (changed_length k f rest)

-- a life is changed alike by what is alike for it
alike_test : (k : ℕ) (f g : Life → Life) (life : Life) (rest : List Life) (test : Bool) → ((l : Life) → cond test (Some life) (life_in k rest) ≡ Some l → f l ≡ g l)
    → (((l : Life) → life_in k rest ≡ Some l → f l ≡ g l) → changed_life k f rest ≡ changed_life k g rest) → cond test (f life ∷ rest) (life ∷ changed_life k f rest) ≡ cond test (g life ∷ rest) (life ∷ changed_life k g rest)
alike_test k f g life rest true alike later = ap (λ (l : Life). l ∷ rest) (alike life refl)
alike_test k f g life rest false alike later = ap (λ (list : List Life). life ∷ list) (later alike)

pub changed_alike : (k : ℕ) (f g : Life → Life) (lives : List Life) → ((l : Life) → life_in k lives ≡ Some l → f l ≡ g l) → changed_life k f lives ≡ changed_life k g lives
changed_alike k f g [] alike = refl
changed_alike k f g (life ∷ rest) alike = alike_test k f g life rest (life.id.0 == k) alike (changed_alike k f g rest)

-- what is kept of a file, where the same places are live
kept_places : (says : ℕ → ℕ → Type 0) (folder : Folder) (stage : Option Stage) (name : List ℕ) (old new : List Slice) (item : Item) → SamePlaces new old → FileKept says folder stage (claim_of name old item) → FileKept says folder stage (claim_of name new item)
kept_places says folder None name old new item same kept = kept
kept_places says folder (Some stage) name old new item same kept =
    (held_fewer says folder (record (claim_of name old item) { stage = stage }) new (λ place has. (same place).0 has) (λ place has. (same place).1 (kept.0.filed.holds place has)) kept.0, kept.1)

abbrev KeptBy : Says → Folder → Key → List ℕ → List ℕ → Item → Option (List Slice) → Type 0
KeptBy said folder key address name item cover = FileKept (said address key) folder (stage_of item.phase) (claim_of name (get cover item.slices) item)

bounded_is : (bound : ℕ) (old new : Option Life) (life after : Life) → old ≡ Some life → new ≡ Some after → after.unsaved ≡ life.unsaved → IfSome old (λ (l : Life). l.unsaved < bound) → IfSome new (λ (l : Life). l.unsaved < bound)
bounded_is bound old new life after old_is new_is same bounded =
    let was : life.unsaved < bound = subst (λ (found : Option Life). IfSome found (λ (l : Life). l.unsaved < bound)) old_is bounded in
    subst (λ (found : Option Life). IfSome found (λ (l : Life). l.unsaved < bound)) (sym new_is) (subst (λ (k : ℕ). k < bound) (sym same) was)

module _ {D O : Type 0} (tells : Type 0) (clock : D → Clock) (says : O → Says) (desk : View D O) (is : IsDesk tells clock desk) (whole : desk.broken ≡ false) (id : ItemId) (item : Item) (life : Life)
    (there : item_in id.0 desk.items.items ≡ Some item) (here : life_in id.0 desk.lives ≡ Some life) (f : Life → Life) (same_id : (l : Life) → (f l).id.0 ≡ l.id.0) (lives_on : IsLifeOf item (f life)) (unsaved : (f life).unsaved ≡ life.unsaved)
    (places : SamePlaces (f life).cover life.cover) (ends : item.total ≡ None → cover_end (f life).cover ≡ cover_end life.cover) where
  life_after : life_in id.0 (changed_life id.0 f desk.lives) ≡ Some (f life)
  life_after = changed_own id.0 f desk.lives same_id ∙ ap (option_map f) here

  live_after : (k : ℕ) → k ≡ id.0 → covers_of (changed_life id.0 f desk.lives) k ≡ Some (f life).cover
  live_after k at = subst (λ (n : ℕ). covers_of (changed_life id.0 f desk.lives) n ≡ Some (f life).cover) (sym at) (ap (option_map (λ (l : Life). l.cover)) life_after)

  live_before : (k : ℕ) → k ≡ id.0 → covers_of desk.lives k ≡ Some life.cover
  live_before k at = subst (λ (n : ℕ). covers_of desk.lives n ≡ Some life.cover) (sym at) (ap (option_map (λ (l : Life). l.cover)) here)

  live_other : (k : ℕ) → k ≢ id.0 → covers_of (changed_life id.0 f desk.lives) k ≡ covers_of desk.lives k
  live_other k apart = ap (option_map (λ (l : Life). l.cover)) (changed_other id.0 k f desk.lives same_id apart)

  facts_alive : (said : Says) (folder : Folder) (items : List Item) → Facts said (covers_of desk.lives) items folder → Facts said (covers_of (changed_life id.0 f desk.lives)) items folder
  facts_alive said folder items facts k one at key address name key_is address_is name_is = by (one.id.0 == id.0) refl
    where
      by : (test : Bool) → (one.id.0 == id.0) ≡ test → KeptBy said folder key address name one (covers_of (changed_life id.0 f desk.lives) one.id.0)
      by true same =
          let own : one.id.0 ≡ id.0 = eq_is one.id.0 id.0 same in
          subst (KeptBy said folder key address name one) (sym (live_after one.id.0 own))
          (kept_places (said address key) folder (stage_of one.phase) name life.cover (f life).cover one places
          (subst (KeptBy said folder key address name one) (live_before one.id.0 own) (facts k one at key address name key_is address_is name_is)))
      by false same =
          subst (KeptBy said folder key address name one) (sym (live_other one.id.0 (eq_not one.id.0 id.0 same))) (facts k one at key address name key_is address_is name_is)

  ends_alive : (folder : Folder) (items : List Item) → item_in id.0 items ≡ Some item → EndsLive (covers_of desk.lives) items folder → EndsLive (covers_of (changed_life id.0 f desk.lives)) items folder
  ends_alive folder items found was k one at brought none bytes reads = was k one at brought none bytes reads ∙ by (one.id.0 == id.0) refl
    where
      by : (test : Bool) → (one.id.0 == id.0) ≡ test → cover_end (live_of (covers_of desk.lives) one) ≡ cover_end (live_of (covers_of (changed_life id.0 f desk.lives)) one)
      by true same =
          let own : one.id.0 ≡ id.0 = eq_is one.id.0 id.0 same in
          let k_is : k ≡ id.0 = sym (id_in k one items at) ∙ own in
          let one_is : one ≡ item = some_is one item (sym at ∙ subst (λ (n : ℕ). item_in n items ≡ Some item) (sym k_is) found) in
          let unknown : item.total ≡ None = sym (ap (λ (i : Item). i.total) one_is) ∙ none in
          ap (λ (cover : Option (List Slice)). cover_end (get cover one.slices)) (live_before one.id.0 own)
          ∙ sym (ends unknown) ∙ sym (ap (λ (cover : Option (List Slice)). cover_end (get cover one.slices)) (live_after one.id.0 own))
      by false same = ap (λ (cover : Option (List Slice)). cover_end (get cover one.slices)) (sym (live_other one.id.0 (eq_not one.id.0 id.0 same)))

  sits_alive : tells → (good : Bool) (said : Says) (before : History) → HoldsOf good said clock desk before → Sits good said before desk.gate (covers_of (changed_life id.0 f desk.lives)) (now (clock desk.disk))
  sits_alive told good said before holds =
      let disk = now (clock desk.disk) in
      let sits = at_rest good said clock desk before whole holds in
      let found : item_in id.0 (items_of before) ≡ Some item = subst (λ (list : List Item). item_in id.0 list ≡ Some item) (items_are before desk.items holds.items) there in
      resting.sits_of good said before desk.gate (covers_of (changed_life id.0 f desk.lives)) disk disk refl
      (resting.rests_with good said before desk.gate (covers_of desk.lives) (covers_of (changed_life id.0 f desk.lives)) disk disk refl (facts_alive said disk.files (items_of before)) sits.rests)
      sits.quiet sits.stand
      (if_map good (EndsLive (covers_of desk.lives) (items_of before) disk.files) (EndsLive (covers_of (changed_life id.0 f desk.lives)) (items_of before) disk.files) (ends_alive disk.files (items_of before) found) sits.ends)

  goes : tells → (good : Bool) (said : Says) (before : History) → HoldsOf good said clock desk before
      → Throughout (clock desk.disk) (clock desk.disk) (Kept good said (Through before [])) × HoldsOf good said clock (record desk { lives = changed_life id.0 f desk.lives }) before
  goes told good said before holds = (
    at_start (clock desk.disk) (Kept good said (Through before []))
        (resting.rests_kept good said before [] desk.gate (covers_of desk.lives) (now (clock desk.disk)) (at_rest good said clock desk before whole holds).rests),
    record {
      items = holds.items;
      rests = subst (λ (b : Bool). RestsBy b good said before desk.failed desk.gate (covers_of (changed_life id.0 f desk.lives)) (now (clock desk.disk))) (sym whole) (sits_alive told good said before holds);
    },
  )

  pub alive_keeps : Keeps tells clock says desk (record desk { lives = changed_life id.0 f desk.lives })
  alive_keeps = step_keeps tells clock says desk (record desk { lives = changed_life id.0 f desk.lives }) refl (is.failed whole) goes (whole_loses tells clock desk (record desk { lives = changed_life id.0 f desk.lives }) whole)

  lives_alive : AreLives desk.items.items (changed_life id.0 f desk.lives)
  lives_alive k = by (k == id.0) refl
    where
      by : (test : Bool) → (k == id.0) ≡ test → LifeOf (item_in k desk.items.items) (life_in k (changed_life id.0 f desk.lives))
      by true at =
          subst (λ (n : ℕ). LifeOf (item_in n desk.items.items) (life_in n (changed_life id.0 f desk.lives))) (sym (eq_is k id.0 at))
          (subst (λ (found : Option Item). LifeOf found (life_in id.0 (changed_life id.0 f desk.lives))) (sym there) (subst (LifeOf (Some item)) (sym life_after) lives_on))
      by false at = subst (LifeOf (item_in k desk.items.items)) (sym (changed_other id.0 k f desk.lives same_id (eq_not k id.0 at))) (is.lives whole k)

  bounded_alive : (bound : ℕ) → AreBounded bound desk.lives → AreBounded bound (changed_life id.0 f desk.lives)
  bounded_alive bound bounded k = by (k == id.0) refl
    where
      by : (test : Bool) → (k == id.0) ≡ test → IfSome (life_in k (changed_life id.0 f desk.lives)) (λ (l : Life). l.unsaved < bound)
      by true at =
          subst (λ (n : ℕ). IfSome (life_in n (changed_life id.0 f desk.lives)) (λ (l : Life). l.unsaved < bound)) (sym (eq_is k id.0 at))
          (bounded_is bound (life_in id.0 desk.lives) (life_in id.0 (changed_life id.0 f desk.lives)) life (f life) here life_after unsaved (bounded id.0))
      by false at = subst (λ (found : Option Life). IfSome found (λ (l : Life). l.unsaved < bound)) (sym (changed_other id.0 k f desk.lives same_id (eq_not k id.0 at))) (bounded k)

  pub alive_desk : IsDesk tells clock (record desk { lives = changed_life id.0 f desk.lives })
  alive_desk = record {
    limits_are = is.limits_are;
    limit = is.limit;
    founded = record {
      before = is.founded.before;
      entries = is.founded.entries;
      items = is.founded.items;
      holds = λ told. (goes told false says_all (is.founded.before ++ desk.list) (is.founded.holds told)).1;
    };
    failed = is.failed;
    lives = λ unbroken. lives_alive;
    bounded = bounded_alive (desk.limits.checkpoint + desk.limits.piece) is.bounded;
  }
