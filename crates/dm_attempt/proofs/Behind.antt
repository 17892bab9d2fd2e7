-- The item and the life of an attempt behind a save, whatever came before.
use Rattle.std.proofs.Common.{◌≡◌, ◌⊎◌, inl, inr, ℕ, ◌+◌, ◌==◌, cond, Bool, true, false, List, [], ◌∷◌, ◌++◌, Option, Some, None, refl, sym, ◌∙◌, ap, subst}
use Rattle.std.specs.Prelude.{slice_get}
use Rattle.std.proofs.lemmas.Bool.Decides.{eqb_tells}
use Rattle.std.proofs.lemmas.Option.{same_Some}
use Rattle.dm_types.specs.declared.entry.Entry.TheVariants as entries
use Rattle.dm_types.specs.declared.item.Item.{Item}
use Rattle.dm_types.specs.declared.item.ItemId.{ItemId}
use Rattle.dm_types.specs.declared.item.Key.{Key}
use Rattle.dm_types.specs.declared.item.Limits.{Limits}
use Rattle.dm_types.specs.declared.slices.Slice.{Slice}
use Rattle.dm_slice.specs.Cover.{normal_of}
use Rattle.dm_item.specs.Listing.{Listing, changed_at, item_in}
use Rattle.dm_kept.specs.Files.{Says}
use Rattle.dm_store.specs.Becomes.{Recorded}
use Rattle.dm_store.specs.Lives.{changed_life, life_in}
use Rattle.dm_store.specs.View.{View}
use Rattle.dm_store.specs.declared.life.Life.{Life}
use Rattle.dm_store.specs.declared.pass.Pass.{Pass}
use Rattle.dm_answers.specs.Checkpoint.{IsSaved}
use Rattle.dm_answers.specs.Land.{SaysPiece}
use Rattle.dm_answers.specs.Running.{RunsWith, saving}
use Rattle.dm_attempt.specs.Live.{NothingUnsaved}
use Rattle.dm_attempt.proofs.Items.{found_id, item_then, life_then}

module _ {D O : Type 0} (old new : View D O) (pass : Pass) (found : RunsWith old pass.id pass.attempt (IsSaved old new)) where
  abbrev slices : List Slice
  slices = normal_of found.item.total found.life.cover

  abbrev emptied : Life → Life
  emptied life = record life { unsaved = 0 }

  -- what was recorded, where something was unsaved
  noted : (found.life.unsaved == 0) ≡ false → Recorded old new (entries.Progress found.item.id slices ∷ [])
  noted some = subst (Recorded old new) (ap (λ (b : Bool). cond b [] (entries.Progress found.item.id slices ∷ [])) some) found.is.saved

  there : Recorded old new (entries.Progress found.item.id slices ∷ []) → item_in pass.id.0 new.items.items ≡ Some (record found.item { slices = slices })
  there recorded =
      ap (λ (v : Listing). item_in pass.id.0 v.items) recorded.items_are
      ∙ subst (λ (k : ℕ). item_in pass.id.0 (changed_at (entries.Progress found.item.id slices) k old.items.items) ≡ Some (record found.item { slices = slices }))
      (sym (found_id pass.id.0 old.items.items found.item found.there)) (item_then (entries.Progress found.item.id slices) pass.id.0 old.items.items found.item found.there)

  pub saved_none : NothingUnsaved new pass
  saved_none =
      elim (eqb_tells found.life.unsaved 0) [
        | inl none ↦ subst (λ (desk : View D O). NothingUnsaved desk pass) (sym (found.is.still none.1))
            (record { item = found.item; there = found.there; runs = found.runs; attempt_is = found.attempt_is; life = found.life; lives = found.lives; is = none.1 })
        | inr some ↦ let recorded = noted some.0 in record {
          item = record found.item { slices = slices };
          there = there recorded;
          runs = found.runs;
          attempt_is = found.attempt_is;
          life = emptied found.life;
          lives = ap (λ (l : List Life). life_in pass.id.0 l) recorded.lives_are
              ∙ subst (λ (k : ℕ). life_in pass.id.0 (changed_life k emptied old.lives) ≡ Some (emptied found.life)) (sym (found_id pass.id.0 old.items.items found.item found.there))
              (life_then pass.id.0 emptied (λ (l : Life). refl) old.lives found.life found.lives);
          is = refl;
        }
      ]

  pub saved_limits : new.limits ≡ old.limits
  saved_limits =
      elim (eqb_tells found.life.unsaved 0) [
        | inl none ↦ ap (λ (desk : View D O). desk.limits) (found.is.still none.1)
        | inr some ↦ (noted some.0).limits
      ]

  pub saved_says : (says : O → Says) (at : ℕ) (piece : List ℕ) → SaysPiece (says old.origin) old.items.items pass.id at piece → SaysPiece (says new.origin) new.items.items pass.id at piece
  saved_says says at piece said =
      elim (eqb_tells found.life.unsaved 0) [
        | inl none ↦ subst (λ (desk : View D O). SaysPiece (says desk.origin) desk.items.items pass.id at piece) (sym (found.is.still none.1)) said
        | inr some ↦ let recorded = noted some.0 in
            subst (λ (o : O). SaysPiece (says o) new.items.items pass.id at piece) (sym recorded.origin)
            (λ item key address is keyed placed.
            let same : record found.item { slices = slices } ≡ item = same_Some (record found.item { slices = slices }) item (sym (there recorded) ∙ is) in
            said found.item key address found.there (ap (λ (i : Item). i.key) same ∙ keyed) (ap (λ (i : Item). i.last_address) same ∙ placed))
      ]
