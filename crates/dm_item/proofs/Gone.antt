-- An item that is gone stays gone.
use Rattle.std.proofs.Common.{◌≡◌, ℕ, ◌<◌, List, [], ◌∷◌, ◌++◌, reverse, cond, true, false, Bool, ◌&&◌, None, refl, ap, sym, subst, ◌∙◌, arith}
use Rattle.std.proofs.lemmas.Bool.{false≢true}
use Rattle.std.proofs.lemmas.List.{reverse-append}
use Rattle.dm_types.specs.declared.entry.Entry.{Entry}
use Rattle.dm_types.specs.declared.entry.Entry.TheVariants as entries
use Rattle.dm_item.proofs.Basics.{eq_same}
use Rattle.dm_item.specs.Fields.{id_of, is_early, is_early_entry, is_empty, is_for}
use Rattle.dm_item.specs.Listing.{Listing, Meets, applied, item_in}
use Rattle.dm_item.specs.Lawful.{History, IsLawful, IsLawfulBack, left_by}
use Rattle.dm_item.proofs.Applied.{item_after, item_applied, item_beside}
use Rattle.dm_item.proofs.Shorts.{good_lawful}
use Rattle.dm_item.proofs.Steps.{left_by_step}

-- No item has the id, though it was given, and none may be restored any more.
pub record IsGone (k : ℕ) (v : Listing) : Type 0 where
  pub late : v.is_early ≡ false
  pub given : k < v.next
  pub none : item_in k v.items ≡ None

later_entry : (b : Bool) (early : Bool) → early ≡ false → (b && early) ≡ false
later_entry true early late = late
later_entry false early late = refl

-- the id is another than the next one, and a Restored doesn't come
step_none : (e : Entry) (v : Listing) (k : ℕ) → Meets v e → IsGone k v → is_for k (id_of e) ≡ true → item_after e None ≡ None
step_none (entries.Added id word address wish digest at) v k meets gone is = let same = eq_same id.0 k is in let at_next = meets.0 in let low = gone.given in absurd (omega arith)
step_none (entries.Restored item) v k meets gone is = absurd (false≢true (sym gone.late ∙ meets.is_early))
step_none (entries.Reopened next at) v k meets gone is = refl
step_none (entries.Began id attempt by at) v k meets gone is = refl
step_none (entries.Described id key last_address total name modified) v k meets gone is = refl
step_none (entries.Progress id slices) v k meets gone is = refl
step_none (entries.Broke id reason) v k meets gone is = refl
step_none (entries.Paused id) v k meets gone is = refl
step_none (entries.Cancelled id) v k meets gone is = refl
step_none (entries.Restarted id epoch because) v k meets gone is = refl
step_none (entries.Finishing id total) v k meets gone is = refl
step_none (entries.Done id digest at) v k meets gone is = refl
step_none (entries.Removed id) v k meets gone is = refl
step_none (entries.Archived id) v k meets gone is = refl
step_none (entries.Asked id) v k meets gone is = refl

-- the next id never falls, where an entry was taken before
step_next : (e : Entry) (v : Listing) (k : ℕ) → v.is_first ≡ false → Meets v e → k < v.next → k < (applied e v).next
step_next (entries.Added id word address wish digest at) v k first meets low = let at_next = meets.0 in omega arith
step_next (entries.Restored item) v k first meets low = low
step_next (entries.Reopened next at) v k first meets low = subst (λ (b : Bool). k < cond b next v.next) (sym first) low
step_next (entries.Began id attempt by at) v k first meets low = low
step_next (entries.Described id key last_address total name modified) v k first meets low = low
step_next (entries.Progress id slices) v k first meets low = low
step_next (entries.Broke id reason) v k first meets low = low
step_next (entries.Paused id) v k first meets low = low
step_next (entries.Cancelled id) v k first meets low = low
step_next (entries.Restarted id epoch because) v k first meets low = low
step_next (entries.Finishing id total) v k first meets low = low
step_next (entries.Done id digest at) v k first meets low = low
step_next (entries.Removed id) v k first meets low = low
step_next (entries.Archived id) v k first meets low = low
step_next (entries.Asked id) v k first meets low = low

not_first : (h : List Entry) → is_early h ≡ false → is_empty h ≡ false
not_first [] late = absurd (false≢true (sym late))
not_first (e ∷ h) late = refl

step_item : (e : Entry) (h : List Entry) (k : ℕ) (here : Bool) → is_for k (id_of e) ≡ here → IsLawfulBack h → Meets (left_by 0 h) e → IsGone k (left_by 0 h) → item_in k (applied e (left_by 0 h)).items ≡ None
step_item e h k true is lawful meets gone =
    item_applied e (left_by 0 h) k (good_lawful h lawful).numbered meets is ∙ ap (item_after e) gone.none ∙ step_none e (left_by 0 h) k meets gone is
step_item e h k false is lawful meets gone = item_beside e (left_by 0 h) k is ∙ gone.none

gone_step : (e : Entry) (h : List Entry) (k : ℕ) → IsLawfulBack (e ∷ h) → IsGone k (left_by 0 h) → IsGone k (left_by 0 (e ∷ h))
gone_step e h k lawful gone =
    let step = left_by_step 0 e h lawful.1 lawful.0 in
    record {
      late = later_entry (is_early_entry e) (is_early h) gone.late;
      given = subst (λ (v : Listing). k < v.next) (sym step) (step_next e (left_by 0 h) k (not_first h gone.late) lawful.0 gone.given);
      none = ap (λ (v : Listing). item_in k v.items) step ∙ step_item e h k (is_for k (id_of e)) refl lawful.1 lawful.0 gone;
    }

gone_more : (k : ℕ) (more h : List Entry) → IsLawfulBack (more ++ h) → IsGone k (left_by 0 h) → IsGone k (left_by 0 (more ++ h))
gone_more k [] h lawful gone = gone
gone_more k (e ∷ more) h lawful gone = gone_step e (more ++ h) k lawful (gone_more k more h lawful.1 gone)

pub gone_stays : (history more : History) (k : ℕ) → IsLawful (history ++ more) → IsGone k (left_by 0 (reverse history)) → IsGone k (left_by 0 (reverse (history ++ more)))
gone_stays history more k lawful gone =
    let turned : reverse (history ++ more) ≡ reverse more ++ reverse history = reverse-append history more in
    subst (λ (h : List Entry). IsGone k (left_by 0 h)) (sym turned) (gone_more k (reverse more) (reverse history) (subst IsLawfulBack turned lawful) gone)
