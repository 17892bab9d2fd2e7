-- A desk behind the saving of an attempt that has brought all.
use Rattle.std.proofs.Common.{◌≡◌, ◌⊎◌, inl, inr, ℕ, List, [], ◌∷◌, length, Option, Some, None, refl, sym, ◌∙◌, ap, subst, arith}
use Rattle.std.specs.Prelude.{IfSome}
use Rattle.std.specs.Option.{option_map}
use Rattle.dm_types.specs.declared.entry.Entry.{Entry}
use Rattle.dm_types.specs.declared.entry.Entry.TheVariants as entries
use Rattle.dm_types.specs.declared.item.Attempt.{Attempt}
use Rattle.dm_types.specs.declared.item.Item.{Item}
use Rattle.dm_types.specs.declared.item.ItemId.{ItemId}
use Rattle.dm_types.specs.declared.slices.Slice.{Slice}
use Rattle.dm_slice.specs.Cover.{IsCover, SamePlaces, normal_of}
use Rattle.dm_slice.specs.Words.{IsFull, IsNormal, cover_end}
use Rattle.dm_slice.proofs.Ends.{same_end}
use Rattle.dm_slice.proofs.Joins.{normal_of-meaning}
use Rattle.dm_item.specs.History.{get}
use Rattle.dm_item.specs.Listing.{Listing, item_in}
use Rattle.dm_item.specs.Restored.{IsSound}
use Rattle.dm_item.specs.Row.{IsTotalOf, changed}
use Rattle.dm_kept.proofs.Lists.{changed_here, some_is}
use Rattle.dm_store.specs.declared.life.Life.{Life}
use Rattle.dm_store.specs.Becomes.{Recorded}
use Rattle.dm_store.specs.Lives.{IsLifeOf, life_in, saved_life}
use Rattle.dm_store.specs.View.{View}
use Rattle.dm_store.proofs.Lives.{changed_own}
use Rattle.dm_answers.specs.Running.{RunsWith}
use Rattle.dm_land.specs.declared.saving.Prepared.{Prepared}
use Rattle.dm_land.specs.Preparing.{PreparedOf, saved_by}
use Rattle.dm_finish.specs.declared.naming.Naming.{Naming}
use Rattle.dm_finish.specs.Closing.{IsClosing}
use Rattle.dm_finish.specs.Ending.{IsNaming}
use Rattle.dm_finish.specs.Finishing.{IsFullAt}
use Rattle.dm_finish.proofs.Givings.{naming_name, naming_part}

-- a cover of one slice ends where the normal slices of its places end
one_end : (cover slices : List Slice) → length cover ≡ 1 → IsCover cover → IsNormal None slices → SamePlaces cover slices → cover_end cover ≡ cover_end slices
one_end [] slices one is normal same = absurd is
one_end (slice ∷ []) slices one is normal same = same_end slice None slices is normal same
one_end (slice ∷ other ∷ rest) slices one is normal same = absurd (omega (arith, one))

total_behind : (known : Option ℕ) (cover slices : List Slice) (total : ℕ) → total ≡ get known (cover_end cover) → (known ≡ None → cover_end cover ≡ cover_end slices) → IsTotalOf known slices total
total_behind None cover slices total is ends = is ∙ ends refl
total_behind (Some t) cover slices total is ends = is

live_behind : (known : Option ℕ) (cover : List Slice) (total : ℕ) → total ≡ get known (cover_end cover) → known ≡ None → total ≡ cover_end cover
live_behind known cover total is none = is ∙ ap (λ (k : Option ℕ). get k (cover_end cover)) none

either_normal : (known : Option ℕ) (slices : List Slice) → known ≡ None → IsNormal known slices ⊎ IsNormal None slices → IsNormal None slices
either_normal known slices none (inl normal) = subst (λ (k : Option ℕ). IsNormal k slices) none normal
either_normal known slices none (inr normal) = normal

zero_unsaved : (found : Option Life) (life : Life) → found ≡ Some life → IfSome found (λ l. l.unsaved ≡ 0) → life.unsaved ≡ 0
zero_unsaved None life here is = absurd cc
zero_unsaved (Some other) life here is = subst (λ (l : Life). l.unsaved ≡ 0) (some_is other life here) is

module _ {D O : Type 0} (old mid : View D O) (id : ItemId) (attempt : Attempt) (total : ℕ) (full : RunsWith old id attempt (IsFullAt total)) (own : IsLifeOf full.item full.life) (sound : IsSound full.item) (naming : Naming) (named : IsNaming old id total naming) (stated : Option (List ℕ)) (stated_is : full.item.digest ≡ stated) where
  all_there : IsFull total full.life.cover
  all_there = subst (λ (t : ℕ). IsFull t full.life.cover) (sym full.is.total_is) full.is.may.full

  -- nothing was to be saved
  closing_none : IfSome (life_in id.0 old.lives) (λ l. l.unsaved ≡ 0) → Recorded old mid [] → IsClosing mid id total stated naming
  closing_none zero_is saved =
      let same : SamePlaces full.life.cover full.item.slices = own.same (zero_unsaved (life_in id.0 old.lives) full.life full.lives zero_is) in
      record {
        item = full.item;
        life = full.life;
        there = ap (λ (v : Listing). item_in id.0 v.items) saved.items_are ∙ full.there;
        lives = ap (life_in id.0) saved.lives_are ∙ full.lives;
        told = full.is.may.told;
        full = λ place below. (same place).0 (all_there place below);
        total_is = total_behind full.item.total full.life.cover full.item.slices total full.is.total_is
            (λ none. one_end full.life.cover full.item.slices (own.one none) own.cover (either_normal full.item.total full.item.slices none sound.covered.normal) same);
        live_total = live_behind full.item.total full.life.cover total full.is.total_is;
        stated_is = stated_is;
        naming_is = record {
          readied = record { is = named.readied.is; body = named.readied.body; size = named.readied.size; item = named.readied.item };
          item = full.item;
          there = ap (λ (v : Listing). item_in id.0 v.items) saved.items_are ∙ full.there;
          part_is = naming_part old id total naming named full.item full.there;
          name = named.name;
          name_is = naming_name old id total naming named full.item full.there;
          target_is = named.target_is;
        };
      }

  -- all that was live is saved
  abbrev slices : List Slice
  slices = normal_of full.item.total full.life.cover

  abbrev progress : Entry
  progress = entries.Progress id slices

  closing_some : Recorded old mid (progress ∷ []) → IsClosing mid id total stated naming
  closing_some saved =
      let means = normal_of-meaning full.item.total full.life.cover own.cover in
      let there : item_in id.0 mid.items.items ≡ Some (changed progress full.item) =
      ap (λ (v : Listing). item_in id.0 v.items) saved.items_are ∙ changed_here progress id.0 (λ item. refl) old.items.items ∙ ap (option_map (changed progress)) full.there in
      record {
        item = changed progress full.item;
        life = saved_life full.life;
        there = there;
        lives = ap (life_in id.0) saved.lives_are ∙ changed_own id.0 saved_life old.lives (λ l. refl) ∙ ap (option_map saved_life) full.lives;
        told = full.is.may.told;
        full = λ place below. (means.places place).1 (all_there place below);
        total_is = total_behind full.item.total full.life.cover slices total full.is.total_is
            (λ none. one_end full.life.cover slices (own.one none) own.cover (subst (λ (k : Option ℕ). IsNormal k slices) none means.normal) (λ place. ((means.places place).1, (means.places place).0)));
        live_total = live_behind full.item.total full.life.cover total full.is.total_is;
        stated_is = stated_is;
        naming_is = record {
          readied = record { is = named.readied.is; body = named.readied.body; size = named.readied.size; item = named.readied.item };
          item = changed progress full.item;
          there = there;
          part_is = naming_part old id total naming named full.item full.there;
          name = named.name;
          name_is = naming_name old id total naming named full.item full.there;
          target_is = named.target_is;
        };
      }

  pub closing_behind : (prepared : Option Prepared) → PreparedOf old id prepared → Recorded old mid (saved_by prepared) → IsClosing mid id total stated naming
  closing_behind None zero_is saved = closing_none zero_is saved
  closing_behind (Some prepared) is saved =
      let item : is.saving.item ≡ full.item = some_is is.saving.item full.item (sym is.saving.there ∙ full.there) in
      let life : is.saving.life ≡ full.life = some_is is.saving.life full.life (sym is.saving.lives ∙ full.lives) in
      let same : prepared.entry ≡ progress =
      is.saving.is ∙ ap (λ (i : Item). entries.Progress id (normal_of i.total is.saving.life.cover)) item ∙ ap (λ (l : Life). entries.Progress id (normal_of full.item.total l.cover)) life in
      closing_some (subst (λ (e : Entry). Recorded old mid (e ∷ [])) same saved)
