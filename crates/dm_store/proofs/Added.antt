-- What is kept where an item is added.
use Rattle.std.proofs.Common.{◌≡◌, ℕ, ◌==◌, Bool, true, false, cond, IsTrue, List, [], ◌∷◌, ◌++◌, Option, Some, None, refl, sym, subst}
use Rattle.std.proofs.lemmas.Bool.{false≢true}
use Rattle.dm_types.specs.declared.entry.Entry.{Entry}
use Rattle.dm_types.specs.declared.entry.Entry.TheVariants as entries
use Rattle.dm_types.specs.declared.item.Item.{Item}
use Rattle.dm_types.specs.declared.item.ItemId.{ItemId}
use Rattle.dm_disk_model.specs.Disk.{History as Clock, now}
use Rattle.dm_disk_model.specs.Folder.{Folder}
use Rattle.dm_item.specs.Before.{adds_or_changes}
use Rattle.dm_item.specs.Fields.{added_item, is_running}
use Rattle.dm_item.specs.Lawful.{History, items_of}
use Rattle.dm_item.specs.Listing.{Listing, applied, item_in}
use Rattle.dm_kept.specs.Files.{Covers, EndsLive, Facts, PartsStand, Says, says_all}
use Rattle.dm_kept.proofs.Entered.{facts_added, items_are}
use Rattle.dm_kept.proofs.Flags.{if_map}
use Rattle.dm_kept.proofs.Lists.{each_pushed}
use Rattle.dm_kept.proofs.Standing as standing
use Rattle.dm_store.specs.declared.life.Life.{Life}
use Rattle.dm_store.specs.Adding.{is_new}
use Rattle.dm_store.specs.Keeps.{Allows, HoldsOf, IsDesk, Keeps, RecordGoes, StandBehind}
use Rattle.dm_store.specs.Lives.{AreAfter, AreBounded, AreLives, LifeOf, covers_of, life_in, lives_after}
use Rattle.dm_store.specs.View.{View}
use Rattle.dm_store.proofs.Keeping.{at_rest}

-- what holds of each Added holds of an entry that adds a new item
new_case : (P : Entry → Type 0) → ((id : ItemId) (word address wish : List ℕ) (digest : Option (List ℕ)) (at : ℕ) → P (entries.Added id word address wish digest at)) → (entry : Entry) → IsTrue (is_new entry) → P entry
new_case P each (entries.Added id word address wish digest at) new = each id word address wish digest at
new_case P each _ new = absurd (false≢true new)

pub new_one : (entry : Entry) → IsTrue (is_new entry) → IsTrue (adds_or_changes entry)
new_one = new_case (λ (e : Entry). IsTrue (adds_or_changes e)) (λ id word address wish digest at. refl)

pub new_lives_same : (entry : Entry) → IsTrue (is_new entry) → (items : Listing) (lives : List Life) → lives ≡ lives_after entry items lives
new_lives_same = new_case (λ (e : Entry). (items : Listing) (lives : List Life) → lives ≡ lives_after e items lives) (λ id word address wish digest at items lives. refl)

-- Which item an id has in a list with one more.

behind_test : (k : ℕ) (x y : Item) (rest : List Item) (test : Bool) → cond test (Some y) (item_in k rest) ≡ None → (item_in k rest ≡ None → item_in k (rest ++ x ∷ []) ≡ cond (x.id.0 == k) (Some x) None)
    → cond test (Some y) (item_in k (rest ++ x ∷ [])) ≡ cond (x.id.0 == k) (Some x) None
behind_test k x y rest true none later = absurd cc
behind_test k x y rest false none later = later none

in_behind : (k : ℕ) (x : Item) (items : List Item) → item_in k items ≡ None → item_in k (items ++ x ∷ []) ≡ cond (x.id.0 == k) (Some x) None
in_behind k x [] none = refl
in_behind k x (y ∷ rest) none = behind_test k x y rest (y.id.0 == k) none (in_behind k x rest)

front_test : (k : ℕ) (x y item : Item) (rest : List Item) (test : Bool) → cond test (Some y) (item_in k rest) ≡ Some item → (item_in k rest ≡ Some item → item_in k (rest ++ x ∷ []) ≡ Some item)
    → cond test (Some y) (item_in k (rest ++ x ∷ [])) ≡ Some item
front_test k x y item rest true is later = is
front_test k x y item rest false is later = later is

in_front : (k : ℕ) (x item : Item) (items : List Item) → item_in k items ≡ Some item → item_in k (items ++ x ∷ []) ≡ Some item
in_front k x item [] is = absurd cc
in_front k x item (y ∷ rest) is = front_test k x y item rest (y.id.0 == k) is (in_front k x item rest)

-- an item that doesn't run has no life, nor has an id without an item
none_life : (life : Option Life) → LifeOf None life → life ≡ None
none_life None is = refl
none_life (Some life) is = absurd is

idle_only : (x : Item) (test : Bool) → is_running x.phase ≡ false → LifeOf (cond test (Some x) None) None
idle_only x true idle = idle
idle_only x false idle = tt

lives_pushed : (x : Item) (items : List Item) (lives : List Life) → is_running x.phase ≡ false → AreLives items lives → AreLives (items ++ x ∷ []) lives
lives_pushed x items lives idle are k = by (item_in k items) refl
  where
    by : (found : Option Item) → item_in k items ≡ found → LifeOf (item_in k (items ++ x ∷ [])) (life_in k lives)
    by None none =
        subst (λ (found : Option Item). LifeOf found (life_in k lives)) (sym (in_behind k x items none))
        (subst (LifeOf (cond (x.id.0 == k) (Some x) None)) (sym (none_life (life_in k lives) (subst (λ (found : Option Item). LifeOf found (life_in k lives)) none (are k)))) (idle_only x (x.id.0 == k) idle))
    by (Some item) is =
        subst (λ (found : Option Item). LifeOf found (life_in k lives)) (sym (in_front k x item items is)) (subst (λ (found : Option Item). LifeOf found (life_in k lives)) is (are k))

pub new_lives : (entry : Entry) → IsTrue (is_new entry) → (items : Listing) (lives : List Life) → AreLives items.items lives → AreAfter entry items lives
new_lives =
    new_case (λ (e : Entry). (items : Listing) (lives : List Life) → AreLives items.items lives → AreAfter e items lives)
    (λ id word address wish digest at items lives are. lives_pushed (added_item id word address wish digest at) items.items lives refl are)

pub new_bounded : (entry : Entry) → IsTrue (is_new entry) → (items : Listing) (bound : ℕ) (lives : List Life) → AreBounded bound lives → AreBounded bound (lives_after entry items lives)
new_bounded = new_case (λ (e : Entry). (items : Listing) (bound : ℕ) (lives : List Life) → AreBounded bound lives → AreBounded bound (lives_after e items lives)) (λ id word address wish digest at items bound lives bounded. bounded)

new_stand : (entry : Entry) → IsTrue (is_new entry) → (items : Listing) (folder : Folder) → PartsStand items.items folder → PartsStand (applied entry items).items folder
new_stand =
    new_case (λ (e : Entry). (items : Listing) (folder : Folder) → PartsStand items.items folder → PartsStand (applied e items).items folder)
    (λ id word address wish digest at items folder stand.
    each_pushed (standing.Stands folder) (standing.Stands folder) (added_item id word address wish digest at) items.items (λ item stands. stands) (λ brought. absurd (false≢true brought)) stand)

new_facts : (says : Says) (entry : Entry) → IsTrue (is_new entry) → (items : Listing) (lives : List Life) (folder : Folder) → Facts says (covers_of lives) items.items folder
    → Facts says (covers_of (lives_after entry (applied entry items) lives)) (applied entry items).items folder
new_facts says =
    new_case (λ (e : Entry). (items : Listing) (lives : List Life) (folder : Folder) → Facts says (covers_of lives) items.items folder → Facts says (covers_of (lives_after e (applied e items) lives)) (applied e items).items folder)
    (λ id word address wish digest at items lives folder facts. facts_added says (covers_of lives) folder id word address wish digest at items facts)

new_ends : (entry : Entry) → IsTrue (is_new entry) → (items : Listing) (lives : List Life) (folder : Folder) → EndsLive (covers_of lives) items.items folder
    → EndsLive (covers_of (lives_after entry (applied entry items) lives)) (applied entry items).items folder
new_ends =
    new_case (λ (e : Entry). (items : Listing) (lives : List Life) (folder : Folder) → EndsLive (covers_of lives) items.items folder → EndsLive (covers_of (lives_after e (applied e items) lives)) (applied e items).items folder)
    (λ id word address wish digest at items lives folder ends.
    each_pushed (standing.Ends (covers_of lives) folder) (standing.Ends (covers_of lives) folder) (added_item id word address wish digest at) items.items (λ item ends. ends) (λ brought. absurd (false≢true brought)) ends)

module _ {D O : Type 0} (tells : Type 0) (clock : D → Clock) (says : O → Says) (desk : View D O) (entry : Entry) (new : IsTrue (is_new entry)) (is : IsDesk tells clock desk) (whole : desk.broken ≡ false) where
  pub added_stands : tells → StandBehind clock desk entry
  added_stands told =
      let history : History = is.founded.before ++ desk.list in
      let holds = is.founded.holds told in
      new_stand entry new desk.items (now (clock desk.disk)).files
      (subst (λ (items : List Item). PartsStand items (now (clock desk.disk)).files) (sym (items_are history desk.items holds.items)) (at_rest false says_all clock desk history whole holds).stand)

  -- it owes nothing that isn't kept
  added_allows : (good : Bool) (before : History) → HoldsOf good (says desk.origin) clock desk before → Allows good (says desk.origin) clock desk entry
  added_allows good before holds =
      let said : Says = says desk.origin in
      let sits = at_rest good said clock desk before whole holds in
      let folder : Folder = (now (clock desk.disk)).files in
      let covers : Covers = covers_of desk.lives in
      let after : Covers = covers_of (lives_after entry (applied entry desk.items) desk.lives) in
      let back = sym (items_are before desk.items holds.items) in
      record {
        facts = if_map good (Facts said covers (items_of before) folder) (Facts said after (applied entry desk.items).items folder)
            (λ facts. new_facts said entry new desk.items desk.lives folder (subst (λ (items : List Item). Facts said covers items folder) back facts)) sits.rests.facts;
        ends = if_map good (EndsLive covers (items_of before) folder) (EndsLive after (applied entry desk.items).items folder)
            (λ ends. new_ends entry new desk.items desk.lives folder (subst (λ (items : List Item). EndsLive covers items folder) back ends)) sits.ends;
      }

  pub added_keeps : (after : View D O) → RecordGoes tells clock says desk after entry → Keeps tells clock says desk after
  added_keeps after goes told good before holds = goes told good before holds (added_allows good before holds)
