-- What is kept where an attempt begins.
use Rattle.std.proofs.Common.{◌≡◌, ◌≢◌, ◌⊎◌, inl, inr, ℕ, ◌+◌, ◌==◌, Bool, true, false, ◌&&◌, cond, IsTrue, List, [], ◌∷◌, ◌++◌, length, Option, Some, None, refl, sym, ◌∙◌, ap, subst, arith, length-append}
use Rattle.std.specs.Prelude.{IsSome, is_some}
use Rattle.std.specs.Option.{option_map}
use Rattle.std.proofs.lemmas.Bool.{false≢true}
use Rattle.std.proofs.lemmas.Bool.Decides.{nat_tests}
use Rattle.dm_types.specs.Name.{part_name}
use Rattle.dm_types.specs.declared.entry.Entry.{Entry}
use Rattle.dm_types.specs.declared.entry.Entry.TheVariants as entries
use Rattle.dm_types.specs.declared.item.Attempt.{Attempt}
use Rattle.dm_types.specs.declared.item.Item.{Item}
use Rattle.dm_types.specs.declared.item.ItemId.{ItemId}
use Rattle.dm_types.specs.declared.item.Key.{Key}
use Rattle.dm_types.specs.declared.item.Phase.{Phase}
use Rattle.dm_types.specs.declared.item.Phase.TheVariants as phases
use Rattle.dm_types.specs.declared.kinds.By.{By}
use Rattle.dm_types.specs.declared.kinds.By.TheVariants.{User, Itself}
use Rattle.dm_types.specs.declared.slices.Slice.{Slice}
use Rattle.dm_policy.specs.Mode.{is_continue}
use Rattle.dm_slice.specs.Cover.{IsCover}
use Rattle.dm_slice.specs.Words.{IsNormal, cover_end}
use Rattle.dm_slice.proofs.Covers.{cover-normal}
use Rattle.dm_disk_model.specs.Disk.{History as Clock, now}
use Rattle.dm_disk_model.specs.Folder.{Folder, names_of}
use Rattle.dm_item.specs.Fields.{is_running}
use Rattle.dm_item.specs.History.{get}
use Rattle.dm_item.specs.Lawful.{History, IsOf, items_of}
use Rattle.dm_item.specs.Listing.{Admits, Listing, Row, applied, changed_at, item_in}
use Rattle.dm_item.specs.Restored.{IsCovered, IsSound}
use Rattle.dm_item.proofs.Continuing.{can_go_on}
use Rattle.dm_item.specs.Row.{IsBegun, begins_in, begun_item, changed, facts_of, mode_of_item}
use Rattle.dm_item.proofs.Shorts.{sound_in}
use Rattle.dm_kept.specs.Files.{Covers, EndsLive, Facts, PartsStand, Says, live_of, says_all}
use Rattle.dm_kept.specs.Spelled.{AllEntries}
use Rattle.dm_kept.proofs.Entered.{NoMoreLive, SameBut, facts_began, items_are, row_of}
use Rattle.dm_kept.proofs.Flags.{if_map}
use Rattle.dm_kept.proofs.Lists.{changed_beside, changed_here, each_changed, eq_is, eq_not, id_in, some_is}
use Rattle.dm_kept.proofs.Ranges.{few_slices}
use Rattle.dm_kept.proofs.Standing as standing
use Rattle.dm_store.specs.declared.life.Life.{Life}
use Rattle.dm_store.specs.Keeps.{Allows, HoldsOf, IsDesk, StandBehind}
use Rattle.dm_store.specs.Lives.{AreAfter, AreLives, IsLifeOf, LifeOf, begun_life, covers_of, life_in, lives_after, with_life}
use Rattle.dm_store.specs.View.{View}
use Rattle.dm_store.proofs.Found.{There}
use Rattle.dm_store.proofs.Keeping.{at_rest}
use Rattle.dm_store.proofs.Lives.{idle_life}

-- What goes on from where it stopped has a total.

middle_is : (a b c : Bool) → IsTrue (a && b && c) → IsTrue b
middle_is true true c is = refl
middle_is true false c is = absurd (false≢true is)
middle_is false b c is = absurd (false≢true is)

total_told : (item : Item) → IsTrue (is_continue (mode_of_item item)) → is_some item.total ≡ true
total_told item is =
    let facts = facts_of item in
    middle_is facts.strong facts.total facts.covered (can_go_on item is)

-- no item begins that runs
began_idle : (who : By) (phase : Phase) → IsTrue (begins_in who phase) → is_running phase ≡ false
began_idle User phases.Running may = absurd (false≢true may)
began_idle Itself phases.Running may = absurd (false≢true may)
began_idle who phases.Waiting may = refl
began_idle who phases.Paused may = refl
began_idle who phases.Finishing may = refl
began_idle who phases.Complete may = refl
began_idle who phases.Cancelled may = refl
began_idle who (phases.Interrupted reason) may = refl

-- what an item has saved is a cover
cover_of : (total : Option ℕ) (slices : List Slice) → IsCovered total slices → IsCover slices
cover_of total slices is = by is.normal
  where
    by : IsNormal total slices ⊎ IsNormal None slices → IsCover slices
    by (inl normal) = cover-normal total slices normal is.greatest
    by (inr normal) = cover-normal None slices normal is.greatest

-- Which life an id has, where one more begins.

test_is : (n m : ℕ) → n ≡ m → (n == m) ≡ true
test_is n m same = grind (arith, nat_tests)

test_not : (n m : ℕ) → n ≢ m → (n == m) ≡ false
test_not n m apart = grind (arith, nat_tests)

pub pushed_other : (k : ℕ) (life : Life) (lives : List Life) → (life.id.0 == k) ≡ false → life_in k (lives ++ life ∷ []) ≡ life_in k lives
pushed_other k life [] apart = ap (λ (b : Bool). cond b (Some life) None) apart
pushed_other k life (other ∷ rest) apart = ap (λ (found : Option Life). cond (other.id.0 == k) (Some other) found) (pushed_other k life rest apart)

own_test : (k : ℕ) (life other : Life) (rest : List Life) (test : Bool) → cond test (Some other) (life_in k rest) ≡ None → (life_in k rest ≡ None → life_in k (rest ++ life ∷ []) ≡ Some life)
    → cond test (Some other) (life_in k (rest ++ life ∷ [])) ≡ Some life
own_test k life other rest true none later = absurd cc
own_test k life other rest false none later = later none

pub pushed_own : (k : ℕ) (life : Life) (lives : List Life) → (life.id.0 == k) ≡ true → life_in k lives ≡ None → life_in k (lives ++ life ∷ []) ≡ Some life
pushed_own k life [] is none = ap (λ (b : Bool). cond b (Some life) None) is
pushed_own k life (other ∷ rest) is none = own_test k life other rest (other.id.0 == k) none (pushed_own k life rest is)

-- The item that begins.
module _ (id : ItemId) (attempt : Attempt) (who : By) (at : ℕ) (v : Listing) (item : Item) (there : item_in id.0 v.items ≡ Some item) where
  abbrev entry : Entry
  entry = entries.Began id attempt who at

  abbrev begun : Item
  begun = begun_item attempt who item

  own_id : item.id.0 ≡ id.0
  own_id = id_in id.0 item v.items there

  -- as it is behind the entry
  pub begun_there : item_in id.0 (changed_at entry id.0 v.items) ≡ Some begun
  begun_there = changed_here entry id.0 (λ x. refl) v.items ∙ ap (option_map (changed entry)) there

  -- of a lawful history of spelled entries, its life is one
  pub begun_is : (history : History) → IsOf history v → AllEntries history → IsBegun item attempt.0 who → IsLifeOf begun (begun_life begun)
  begun_is history is_of entries begins = record {
    runs = refl;
    part = refl;
    cover = cover_of item.total item.slices sound.covered;
    few = few_slices history is_of.lawful entries id.0 item (subst (λ (list : List Item). item_in id.0 list ≡ Some item) (items_are history v is_of) there);
    within = sound.covered.within;
    holds = λ place has. has;
    count = omega arith;
    same = λ saved place. (λ has. has, λ has. has);
    untold = λ none. ((sound.told.untold (ap (λ (k : Option Key). is_some k) none)).1, refl);
    one = one_slice (is_some item.key) refl;
    fresh = λ first. refl;
    plan = tt;
    ends = tt;
  }
    where
      sound : IsSound item
      sound = sound_in history v id.0 item is_of there

      one_slice : (has : Bool) → is_some item.key ≡ has → item.total ≡ None → length item.slices ≡ 1
      one_slice true is none = absurd (false≢true (sym (ap (λ (t : Option ℕ). is_some t) none) ∙ total_told item (begins.goes_on (sound.told.is_begun is))))
      one_slice false is none = ap (length {A = Slice}) (sound.told.untold is).1

  -- The lives behind the entry.
  module _ (lives : List Life) (idle : is_running item.phase ≡ false) (are : AreLives v.items lives) where
    -- no attempt of it ran
    none_ran : life_in id.0 lives ≡ None
    none_ran = idle_life item (life_in id.0 lives) idle (subst (λ (found : Option Item). LifeOf found (life_in id.0 lives)) there (are id.0))

    -- its life is the last
    pub begun_lives : lives_after entry (applied entry v) lives ≡ lives ++ begun_life begun ∷ []
    begun_lives = ap (λ (found : Option Item). with_life (option_map begun_life found) lives) begun_there

    pub own_life : life_in id.0 (lives ++ begun_life begun ∷ []) ≡ Some (begun_life begun)
    own_life = pushed_own id.0 (begun_life begun) lives (test_is item.id.0 id.0 own_id) none_ran

    pub other_lives : (k : ℕ) → k ≢ id.0 → life_in k (lives ++ begun_life begun ∷ []) ≡ life_in k lives
    other_lives k apart = pushed_other k (begun_life begun) lives (test_not item.id.0 k (λ same. apart (sym same ∙ own_id)))

    pub lives_began : IsLifeOf begun (begun_life begun) → AreLives (changed_at entry id.0 v.items) (lives ++ begun_life begun ∷ [])
    lives_began is k = by (k == id.0) refl
      where
        by : (test : Bool) → (k == id.0) ≡ test → LifeOf (item_in k (changed_at entry id.0 v.items)) (life_in k (lives ++ begun_life begun ∷ []))
        by true here =
            subst (λ (n : ℕ). LifeOf (item_in n (changed_at entry id.0 v.items)) (life_in n (lives ++ begun_life begun ∷ []))) (sym (eq_is k id.0 here))
            (subst (λ (found : Option Item). LifeOf found (life_in id.0 (lives ++ begun_life begun ∷ []))) (sym begun_there) (subst (LifeOf (Some begun)) (sym own_life) is))
        by false apart =
            let other : k ≢ id.0 = eq_not k id.0 apart in
            subst (λ (found : Option Item). LifeOf found (life_in k (lives ++ begun_life begun ∷ []))) (sym (changed_beside entry id.0 (λ x. refl) k other v.items))
            (subst (LifeOf (item_in k v.items)) (sym (other_lives k other)) (are k))

    -- no other cover is live, and of it the saved places are
    pub covers_began : SameBut id.0 (covers_of lives) (covers_of (lives ++ begun_life begun ∷ []))
    covers_began k apart = ap (option_map (λ (life : Life). life.cover)) (other_lives k apart)

    pub saved_began : NoMoreLive id.0 v.items (covers_of lives) (covers_of (lives ++ begun_life begun ∷ []))
    saved_began other there_other =
        inr (subst (λ (i : Item). live_of (covers_of (lives ++ begun_life begun ∷ [])) i ≡ i.slices) (some_is item other (sym there ∙ there_other))
        (ap (λ (cover : Option (List Slice)). get cover item.slices) (ap (covers_of (lives ++ begun_life begun ∷ [])) own_id ∙ ap (option_map (λ (life : Life). life.cover)) own_life)))

-- the row of an entry that names an item has one
pub row_there : (e : Entry) (items : List Item) (found : Option Item) → Row e items found → There found
row_there e items None row = absurd row
row_there e items (Some item) row = record { it = item; is = refl }

-- A desk that begins an attempt.
module _ {D O : Type 0} (tells : Type 0) (clock : D → Clock) (says : O → Says) (desk : View D O) (is : IsDesk tells clock desk) (whole : desk.broken ≡ false) (id : ItemId) (attempt : Attempt) (who : By) (at : ℕ)
    (may : Admits desk.items (entries.Began id attempt who at)) where
  abbrev began : Entry
  began = entries.Began id attempt who at

  abbrev folder : Folder
  folder = (now (clock desk.disk)).files

  -- the item that begins
  pub began_there : There (item_in id.0 desk.items.items)
  began_there = row_there began desk.items.items (item_in id.0 desk.items.items) may.meets

  row : IsTrue (begins_in who began_there.it.phase) × IsBegun began_there.it attempt.0 who
  row = row_of began desk.items.items began_there.it (item_in id.0 desk.items.items) began_there.is may.meets

  idle : is_running began_there.it.phase ≡ false
  idle = began_idle who began_there.it.phase row.0

  -- the lives behind the entry
  pub began_lives_are : lives_after began (applied began desk.items) desk.lives ≡ desk.lives ++ begun_life (begun_item attempt who began_there.it) ∷ []
  began_lives_are = begun_lives id attempt who at desk.items began_there.it began_there.is desk.lives idle (is.lives whole)

  pub began_count : length (lives_after began (applied began desk.items) desk.lives) ≡ length desk.lives + 1
  began_count = ap (length {A = Life}) began_lives_are ∙ length-append desk.lives (begun_life (begun_item attempt who began_there.it) ∷ [])

  -- the life that the entry begins
  pub began_life_is : option_map begun_life (item_in id.0 (applied began desk.items).items) ≡ Some (begun_life (begun_item attempt who began_there.it))
  began_life_is = ap (option_map begun_life) (begun_there id attempt who at desk.items began_there.it began_there.is)

  pub began_lives : AreAfter began desk.items desk.lives
  began_lives =
      subst (AreLives (changed_at began id.0 desk.items.items)) (sym began_lives_are)
      (lives_began id attempt who at desk.items began_there.it began_there.is desk.lives idle (is.lives whole)
      (begun_is id attempt who at desk.items began_there.it began_there.is (is.founded.before ++ desk.list) is.founded.items is.founded.entries row.1))

  -- where the item is described its part stands, so the parts of all stand behind it
  pub began_stands : tells → (is_some began_there.it.key ≡ true → IsSome (names_of (now (clock desk.disk)).files (part_name began_there.it.id.0 began_there.it.epoch.0))) → StandBehind clock desk began
  began_stands told own =
      let history : History = is.founded.before ++ desk.list in
      let sits = at_rest false says_all clock desk history whole (is.founded.holds told) in
      each_changed (standing.Stands folder) (standing.Stands folder) began id.0 desk.items.items (λ x. refl) (λ other apart stands. stands)
      (λ other there stands. subst (λ (i : Item). standing.Stands folder (changed began i)) (some_is began_there.it other (sym began_there.is ∙ there)) own)
      (subst (λ (items : List Item). PartsStand items folder) (sym (items_are history desk.items is.founded.items)) sits.stand)

  abbrev said : Says
  said = says desk.origin

  abbrev covers : Covers
  covers = covers_of desk.lives

  abbrev after : Covers
  after = covers_of (desk.lives ++ begun_life (begun_item attempt who began_there.it) ∷ [])

  -- it owes nothing that isn't kept: of an unknown total nothing is live, since what goes on has one
  pub began_allows : (good : Bool) (before : History) → HoldsOf good (says desk.origin) clock desk before → Allows good (says desk.origin) clock desk began
  began_allows good before holds =
      let sits = at_rest good (says desk.origin) clock desk before whole holds in
      let back = sym (items_are before desk.items holds.items) in
      record {
        facts = if_map good (Facts said covers (items_of before) folder) (Facts said (covers_of (lives_after began (applied began desk.items) desk.lives)) (applied began desk.items).items folder)
            (λ facts. subst (λ (lives : List Life). Facts said (covers_of lives) (applied began desk.items).items folder) (sym began_lives_are)
            (facts_began said covers after folder id attempt who at desk.items may.meets others less (subst (λ (list : List Item). Facts said covers list folder) back facts))) sits.rests.facts;
        ends = if_map good (EndsLive covers (items_of before) folder) (EndsLive (covers_of (lives_after began (applied began desk.items) desk.lives)) (applied began desk.items).items folder)
            (λ ends. subst (λ (lives : List Life). EndsLive (covers_of lives) (applied began desk.items).items folder) (sym began_lives_are) (ends_began before holds.items (subst (λ (list : List Item). EndsLive covers list folder) back ends))) sits.ends;
      }
    where
      others : SameBut id.0 covers after
      others = covers_began id attempt who at desk.items began_there.it began_there.is desk.lives idle (is.lives whole)

      less : NoMoreLive id.0 desk.items.items covers after
      less = saved_began id attempt who at desk.items began_there.it began_there.is desk.lives idle (is.lives whole)

      ends_began : (history : History) → IsOf history desk.items → EndsLive covers desk.items.items folder → EndsLive after (changed_at began id.0 desk.items.items) folder
      ends_began history is_of =
          each_changed (standing.Ends covers folder) (standing.Ends after folder) began id.0 desk.items.items (λ x. refl)
          (λ other apart ends brought none bytes reads. ends brought none bytes reads ∙ ap (λ (found : Option (List Slice)). cover_end (get found other.slices)) (sym (others other.id.0 apart)))
          (λ other there ends brought none bytes reads.
          let sound = sound_in history desk.items id.0 other is_of there in
          let begins = (row_of began desk.items.items other (item_in id.0 desk.items.items) there may.meets).1 in
          absurd (false≢true (sym (ap (λ (t : Option ℕ). is_some t) none) ∙ total_told other (begins.goes_on (sound.told.is_begun brought)))))
