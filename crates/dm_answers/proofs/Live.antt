-- A pass that is live isn't declined.
use Rattle.std.proofs.Common.{◌≡◌, ◌≢◌, ◌⊎◌, inl, inr, Bool, true, false, Option, Some, None, IsTrue, sym, ◌∙◌, subst}
use Rattle.std.specs.Prelude.{IsSome}
use Rattle.std.proofs.lemmas.Bool.{false≢true}
use Rattle.std.proofs.lemmas.Option.{same_Some}
use Rattle.dm_types.specs.declared.item.Attempt.{Attempt}
use Rattle.dm_types.specs.declared.item.Item.{Item}
use Rattle.dm_types.specs.declared.item.ItemId.{ItemId}
use Rattle.dm_types.specs.declared.item.Key.{Key}
use Rattle.dm_item.specs.Fields.{is_running}
use Rattle.dm_store.specs.declared.life.Life.{Life}
use Rattle.dm_store.specs.declared.pass.Gone.{Gone}
use Rattle.dm_store.specs.declared.pass.Gone.TheVariants as gones
use Rattle.dm_store.specs.Lives.{life_in}
use Rattle.dm_store.specs.Passes.{DeclinesItem, PassDeclines}
use Rattle.dm_store.specs.View.{View}
use Rattle.dm_answers.specs.declared.answer.SlicePass.{SlicePass}
use Rattle.dm_answers.specs.Running.{RunsWith}
use Rattle.dm_answers.specs.Slices.{DeclinesSlice, HasNoPart, HasPart, SliceDeclines}

pub not_broken : (b : Bool) → b ≡ false → b ≡ true → ⊥
not_broken b whole broken = false≢true (sym whole ∙ broken)

not_over : (item : Item) (attempt : Attempt) → IsTrue (is_running item.phase) → item.attempt ≡ attempt → (is_running item.phase ≡ false) ⊎ (item.attempt ≢ attempt) → ⊥
not_over item attempt runs same (inl stopped) = false≢true (sym stopped ∙ runs)
not_over item attempt runs same (inr other) = other same

item_not : (item : Item) (life : Option Life) (id : ItemId) (attempt : Attempt) → IsTrue (is_running item.phase) → item.attempt ≡ attempt → (gone : Gone) → DeclinesItem (Some item) life id attempt gone → ⊥
item_not item life id attempt runs same (gones.NoItem other) declines = declines
item_not item life id attempt runs same (gones.Stale told round) declines = not_over item attempt runs same declines.over

pub not_declined : {D O : Type 0} (desk : View D O) (id : ItemId) (attempt : Attempt) (P : Item → Life → Type 0) (gone : Gone) → RunsWith desk id attempt P → PassDeclines desk id attempt gone → ⊥
not_declined desk id attempt P gone runs declines =
    item_not runs.item (life_in id.0 desk.lives) id attempt runs.runs runs.attempt_is gone (subst (λ (found : Option Item). DeclinesItem found (life_in id.0 desk.lives) id attempt gone) runs.there declines)

-- one item and one life are meant
pub one_item : {D O : Type 0} (desk : View D O) (id : ItemId) (attempt : Attempt) (P Q : Item → Life → Type 0) → (a : RunsWith desk id attempt P) → (b : RunsWith desk id attempt Q) → a.item ≡ b.item
one_item desk id attempt P Q a b = same_Some a.item b.item (sym a.there ∙ b.there)

pub one_life : {D O : Type 0} (desk : View D O) (id : ItemId) (attempt : Attempt) (P Q : Item → Life → Type 0) → (a : RunsWith desk id attempt P) → (b : RunsWith desk id attempt Q) → a.life ≡ b.life
one_life desk id attempt P Q a b = same_Some a.life b.life (sym a.lives ∙ b.lives)

-- both hold of the same item and life
pub both : {D O : Type 0} (desk : View D O) (id : ItemId) (attempt : Attempt) (P Q : Item → Life → Type 0) (R : Type 0) → RunsWith desk id attempt P → RunsWith desk id attempt Q → ((item : Item) (life : Life) → P item life → Q item life → R) → R
both desk id attempt P Q R a b next =
    next b.item b.life (subst (λ (life : Life). P b.item life) (one_life desk id attempt P Q a b) (subst (λ (item : Item). P item a.life) (one_item desk id attempt P Q a b) a.is)) b.is

slice_over : (pass : SlicePass) (item : Item) (life : Life) → IsTrue (is_running item.phase) → item.attempt ≡ pass.attempt → HasPart pass item life → (is_running item.phase ≡ false) ⊎ ((item.attempt ≢ pass.attempt) ⊎ HasNoPart pass (Some life)) → ⊥
slice_over pass item life runs same has (inl stopped) = false≢true (sym stopped ∙ runs)
slice_over pass item life runs same has (inr (inl other)) = other same
slice_over pass item life runs same has (inr (inr (inl other))) = other has.round
slice_over pass item life runs same has (inr (inr (inr other))) = other has.part

slice_not : (pass : SlicePass) (item : Item) (life : Life) → IsTrue (is_running item.phase) → item.attempt ≡ pass.attempt → HasPart pass item life → (gone : Gone) → DeclinesSlice (Some item) (Some life) pass gone → ⊥
slice_not pass item life runs same has (gones.NoItem other) declines = declines
slice_not pass item life runs same has (gones.Stale told round) declines = slice_over pass item life runs same has declines.over

pub slice_not_declined : {D O : Type 0} (desk : View D O) (pass : SlicePass) (gone : Gone) → RunsWith desk pass.id pass.attempt (HasPart pass) → SliceDeclines desk pass gone → ⊥
slice_not_declined desk pass gone runs declines =
    slice_not pass runs.item runs.life runs.runs runs.attempt_is runs.is gone
    (subst (λ (life : Option Life). DeclinesSlice (Some runs.item) life pass gone) runs.lives (subst (λ (found : Option Item). DeclinesSlice found (life_in pass.id.0 desk.lives) pass gone) runs.there declines))

-- of a weaker condition
abbrev pub weaker : {D O : Type 0} (desk : View D O) (id : ItemId) (attempt : Attempt) (P Q : Item → Life → Type 0) → ((item : Item) (life : Life) → P item life → Q item life) → RunsWith desk id attempt P → RunsWith desk id attempt Q
weaker desk id attempt P Q f runs = record { item = runs.item; there = runs.there; runs = runs.runs; attempt_is = runs.attempt_is; life = runs.life; lives = runs.lives; is = f runs.item runs.life runs.is }

some_none : (key : Option Key) → IsSome key → key ≡ None → ⊥
some_none None some none = false≢true some
some_none (Some key) some none = absurd cc

pub told_untold : (item : Item) → IsSome item.key → item.key ≡ None → ⊥
told_untold item told untold = some_none item.key told untold
