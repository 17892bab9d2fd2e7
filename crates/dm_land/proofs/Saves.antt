-- What saving an attempt records, as the calls answer it.
use Rattle.std.proofs.Common.{◌≡◌, ◌≢◌, ◌⊎◌, inl, inr, ℕ, zero, suc, ◌+◌, ◌<◌, ◌≤◌, ◌==◌, Bool, true, false, cond, if◌then◌else◌, List, [], ◌∷◌, ◌++◌, length, map, Option, Some, None, Result, Ok, Err, refl, sym, ◌∙◌, ap, subst, arith}
use Rattle.std.specs.Prelude.{IfSome, IsSome, IsSomeAnd, is_some}
use Rattle.std.proofs.lemmas.Bool.{false≢true}
use Rattle.dm_types.specs.declared.entry.Entry.{Entry}
use Rattle.dm_types.specs.declared.entry.Entry.TheVariants as entries
use Rattle.dm_types.specs.declared.item.Item.{Item}
use Rattle.dm_types.specs.declared.item.ItemId.{ItemId}
use Rattle.dm_types.specs.declared.item.Key.{Key}
use Rattle.dm_types.specs.declared.kinds.DiskKind.{DiskKind}
use Rattle.dm_types.specs.declared.slices.Slice.{Slice}
use Rattle.dm_policy.specs.Cause.{reason_of_file}
use Rattle.dm_record.specs.Limits.{IsCount}
use Rattle.dm_slice.specs.Cover.{IsCover, joined, marked, normal_of}
use Rattle.dm_slice.specs.Words.{covered, end_of}
use Rattle.dm_item.specs.Fields.{no_bytes}
use Rattle.dm_item.specs.Lawful.{History}
use Rattle.dm_item.specs.Listing.{item_in}
use Rattle.dm_kept.proofs.Lists.{eq_is, id_in, some_is}
use Rattle.dm_store.specs.declared.life.Life.{Life}
use Rattle.dm_store.specs.declared.pass.Pass.{Pass}
use Rattle.dm_store.specs.declared.saving.SaveFault.{SaveFault}
use Rattle.dm_store.specs.declared.saving.SaveFault.TheVariants.{File, Journal}
use Rattle.dm_store.specs.Becomes.{Becomes, Fell, Recorded}
use Rattle.dm_store.specs.Lives.{AreLives, IsLifeOf, LifeOf, life_in}
use Rattle.dm_store.specs.Saving.{FellStopped, IsSaving, SaveMakes}
use Rattle.dm_store.specs.View.{View}
use Rattle.dm_store.proofs.Composing.{fell_one}
use Rattle.dm_answers.specs.declared.fault.DeskFault.{DeskFault}
use Rattle.dm_answers.specs.Broke.{IsUnderWay}
use Rattle.dm_answers.specs.Checkpoint.{CheckpointAnswers, FallsSaving, HasUnsaved, IsSaved}
use Rattle.dm_answers.specs.Frame.{FellWith, FileBroke}
use Rattle.dm_answers.specs.Running.{RunsWith, saving}
use Rattle.dm_land.specs.declared.saving.Prepared.{Prepared}
use Rattle.dm_land.specs.Preparing.{IsPrepared, fault_of_save}

-- How many slices the saved cover has.

joined_test : (now slice : Slice) (rest : List Slice) (a b : Bool) → (1 ≤ length (joined now rest)) × (length (joined now rest) ≤ length rest + 1)
    → (1 ≤ length (joined (record now { got = now.got + slice.got }) rest)) × (length (joined (record now { got = now.got + slice.got }) rest) ≤ length rest + 1)
    → (1 ≤ length (joined slice rest)) × (length (joined slice rest) ≤ length rest + 1)
    → (1 ≤ length (if a then joined now rest else (if b then joined (record now { got = now.got + slice.got }) rest else (now ∷ joined slice rest))))
    × (length (if a then joined now rest else (if b then joined (record now { got = now.got + slice.got }) rest else (now ∷ joined slice rest))) ≤ (length rest + 1) + 1)
joined_test now slice rest true b left more apart = let few = left.1 in (left.0, omega (arith, few))
joined_test now slice rest false true left more apart = let few = more.1 in (more.0, omega (arith, few))
joined_test now slice rest false false left more apart = let few = apart.1 in (omega (arith, few), omega (arith, few))

joined_count : (now : Slice) (rest : List Slice) → (1 ≤ length (joined now rest)) × (length (joined now rest) ≤ length rest + 1)
joined_count now [] = (omega arith, omega arith)
joined_count now (slice ∷ rest) =
    let both = joined_test now slice rest (slice.got == 0) (slice.first == end_of now) (joined_count now rest) (joined_count (record now { got = now.got + slice.got }) rest) (joined_count slice rest) in
    let few = both.1 in
    (both.0, omega (arith, few))

marked_count : (total : Option ℕ) (slices : List Slice) → length (map (marked total) slices) ≡ length slices
marked_count total [] = refl
marked_count total (slice ∷ rest) = let later = marked_count total rest in omega (arith, later)

pub saved_count : (total : Option ℕ) (cover : List Slice) → IsCover cover → length cover ≤ 64 → IsCount (normal_of total cover)
saved_count total [] is few = absurd is
saved_count total (slice ∷ rest) is few =
    let both = joined_count slice rest in
    let some = both.0 in
    let most = both.1 in
    let same = marked_count total (joined slice rest) in
    (omega (arith, same, some), omega (arith, same, most, few))

-- An attempt of which something isn't saved was described.
told_test : (item : Item) (life : Life) (key : Option Key) → item.key ≡ key → IsLifeOf item life → 0 < life.unsaved → IsSome key
told_test item life None none is more =
    let empty : covered life.cover ≡ 0 = ap covered (is.untold none).0 in
    let count = is.count in
    absurd (omega (arith, empty, count, more))
told_test item life (Some key) there is more = refl

pub told_unsaved : (item : Item) (life : Life) → IsLifeOf item life → 0 < life.unsaved → IsSome item.key
told_unsaved item life is more = told_test item life item.key refl is more

-- its own life
pub own_life : {D O : Type 0} (desk : View D O) (id : ItemId) (item : Item) (life : Life) → AreLives desk.items.items desk.lives → item_in id.0 desk.items.items ≡ Some item → life_in id.0 desk.lives ≡ Some life → IsLifeOf item life
own_life desk id item life are there here = subst (LifeOf (Some item)) here (subst (λ (found : Option Item). LifeOf found (life_in id.0 desk.lives)) there (are id.0))

pub same_id : (id : ItemId) (item : Item) (items : List Item) → item_in id.0 items ≡ Some item → item.id ≡ id
same_id id item items there = ap (λ (n : ℕ). record { 0 = n }) (id_in id.0 item items there)

not_zero : (n : ℕ) → 0 < n → (n == 0) ≡ false
not_zero n more = by (n == 0) refl
  where
    by : (test : Bool) → (n == 0) ≡ test → (n == 0) ≡ false
    by true same = let none = eq_is n 0 same in absurd (omega (arith, none, more))
    by false other = other

-- the entry that saves it is what is saved of it
pub saving_one : {D O : Type 0} (desk : View D O) (id : ItemId) (entry : Entry) (is : IsSaving desk id entry) → 0 < is.life.unsaved → saving is.item is.life ≡ entry ∷ []
saving_one desk id entry is more =
    ap (λ (b : Bool). cond b [] (entries.Progress is.item.id (normal_of is.item.total is.life.cover) ∷ [])) (not_zero is.life.unsaved more)
    ∙ ap (λ (n : ItemId). entries.Progress n (normal_of is.item.total is.life.cover) ∷ []) (same_id id is.item desk.items.items is.there) ∙ ap (λ (e : Entry). e ∷ []) (sym is.is)

-- nothing is saved of it
pub saving_none : (item : Item) (life : Life) → life.unsaved ≡ 0 → saving item life ≡ []
saving_none item life zero_is = ap (λ (n : ℕ). cond (n == 0) [] (entries.Progress item.id (normal_of item.total life.cover) ∷ [])) zero_is

-- what fell
pub fell_stopped : {D O : Type 0} (before after : DiskKind → ℕ) (old new : View D O) (id : ItemId) → FellStopped before after old new id → FellWith old new [] (FileBroke before after id)
fell_stopped before after old new id stopped = record {
  behind = entries.Broke id (reason_of_file stopped.kind) ∷ [];
  is = record { entry = entries.Broke id (reason_of_file stopped.kind); is = record { kind = stopped.kind; rose = stopped.rose; is = refl }; one = refl };
  fell = fell_one old new (entries.Broke id (reason_of_file stopped.kind)) stopped.becomes;
}

-- What a checkpoint answers.
module _ {D O : Type 0} (desk mid new : View D O) (same : mid ≡ desk) (pass : Pass) (live : RunsWith desk pass.id pass.attempt IsUnderWay) (prepared : Prepared) (is : IsPrepared desk pass.id prepared) where
  item_is : is.saving.item ≡ live.item
  item_is = some_is is.saving.item live.item (sym is.saving.there ∙ live.there)

  life_is : is.saving.life ≡ live.life
  life_is = some_is is.saving.life live.life (sym is.saving.lives ∙ live.lives)

  unsaved_is : 0 < live.life.unsaved
  unsaved_is = subst (λ (l : Life). 0 < l.unsaved) life_is is.unsaved

  one_is : saving live.item live.life ≡ prepared.entry ∷ []
  one_is = subst (λ (i : Item). saving i live.life ≡ prepared.entry ∷ []) item_is (subst (λ (l : Life). saving is.saving.item l ≡ prepared.entry ∷ []) life_is (saving_one desk pass.id prepared.entry is.saving is.unsaved))

  pub checkpoint_saved : Recorded mid new (prepared.entry ∷ []) → RunsWith desk pass.id pass.attempt (IsSaved desk new)
  checkpoint_saved recorded = record {
    item = live.item;
    there = live.there;
    runs = live.runs;
    attempt_is = live.attempt_is;
    life = live.life;
    lives = live.lives;
    is = record {
      saved = subst (λ (h : History). Recorded desk new h) (sym one_is) (subst (λ (v : View D O). Recorded v new (prepared.entry ∷ [])) same recorded);
      still = λ zero_is. absurd (omega (arith, zero_is, unsaved_is));
    };
  }

  unsaved_runs : RunsWith desk pass.id pass.attempt HasUnsaved
  unsaved_runs = record { item = live.item; there = live.there; runs = live.runs; attempt_is = live.attempt_is; life = live.life; lives = live.lives; is = unsaved_is }

  falls : (before after : DiskKind → ℕ) → Fell desk new (saving live.item live.life) ⊎ FellWith desk new [] (FileBroke before after live.item.id) → RunsWith desk pass.id pass.attempt (FallsSaving before after desk new)
  falls before after fell = record {
    item = live.item;
    there = live.there;
    runs = live.runs;
    attempt_is = live.attempt_is;
    life = live.life;
    lives = live.lives;
    is = record { unsaved = unsaved_is; fell = fell };
  }

  by_fault : (counts : D → DiskKind → ℕ) (fault : SaveFault) → SaveMakes (counts desk.disk) (counts new.disk) desk new pass.id prepared.entry (Err fault) → CheckpointAnswers counts desk new pass (Err (fault_of_save fault))
  by_fault counts (File kind) makes = (unsaved_runs, makes)
  by_fault counts (Journal kind) (inl becomes) = falls (counts desk.disk) (counts new.disk) (inl (subst (λ (h : History). Fell desk new h) (sym one_is) (fell_one desk new prepared.entry becomes)))
  by_fault counts (Journal kind) (inr stopped) =
      falls (counts desk.disk) (counts new.disk)
      (inr (subst (λ (n : ItemId). FellWith desk new [] (FileBroke (counts desk.disk) (counts new.disk) n)) (sym (same_id pass.id live.item desk.items.items live.there)) (fell_stopped (counts desk.disk) (counts new.disk) desk new pass.id stopped)))

  pub checkpoint_unsaved : (counts : D → DiskKind → ℕ) (fault : SaveFault) (answer : DeskFault) → answer ≡ fault_of_save fault → SaveMakes (counts mid.disk) (counts new.disk) mid new pass.id prepared.entry (Err fault) → CheckpointAnswers counts desk new pass (Err answer)
  checkpoint_unsaved counts fault answer is_fault makes =
      subst (λ (f : DeskFault). CheckpointAnswers counts desk new pass (Err f)) (sym is_fault)
      (by_fault counts fault (subst (λ (v : View D O). SaveMakes (counts v.disk) (counts new.disk) v new pass.id prepared.entry (Err fault)) same makes))
