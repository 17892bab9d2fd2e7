-- One more lawful entry does to the items of a history what the table says.
use Rattle.std.proofs.Common.{◌≡◌, ◌≢◌, ℕ, suc, ◌+◌, ◌<◌, ◌≤◌, List, [], ◌∷◌, ◌++◌, map, cond, true, false, Bool, ◌&&◌, ◌==◌, Option, Some, None, inl, inr, refl, ap, sym, subst, ◌∙◌, arith, add-one}
use Rattle.std.specs.Prelude.{is_some, option_to_list, option_and_then}
use Rattle.std.proofs.lemmas.Bool.{cases_eq, false≢true}
use Rattle.dm_types.specs.declared.item.Item.{Item}
use Rattle.dm_types.specs.declared.item.ItemId.{ItemId}
use Rattle.dm_types.specs.declared.entry.Entry.{Entry}
use Rattle.dm_types.specs.declared.entry.Entry.TheVariants as entries
use Rattle.dm_item.proofs.Basics.{eq_false, eq_same, eq_true, first_none}
use Rattle.dm_item.specs.History.{first_some, there, get, map_some, newest, oldest, since, stands}
use Rattle.dm_item.specs.Fields.{added_id, added_item, base_of, finishing_total, id_of, is_early, is_early_entry, is_for, is_gone, is_restarted, item_at, item_of, items_below, looked_back, next_of, own, reopened_next}
use Rattle.dm_item.specs.Row.{Further, allows, begun_item, changed, target_of, restarted_item, stopped_item}
use Rattle.dm_item.specs.Listing.{Listing, Meets, Row, applied, item_in, items_after}
use Rattle.dm_item.specs.Lawful.{IsLawfulBack, left_by}
use Rattle.dm_item.proofs.Looks.{FinishingHasKey, Fresh, nothing, opened, present, item-added, item-reopened, item-restored, one_gone, one_more, step_began, step_described, no_finishing, all_since}
use Rattle.dm_item.proofs.Below.{Found, IsIndexed, above_below, below-edit, below-none, below-same, below-stopped, edit-after, effect, in_below}

-- the entries of one id
own_other : (e : Entry) (h : List Entry) (id k : ℕ) → id_of e ≡ Some id → id ≢ k → own k (e ∷ h) ≡ own k h
own_other e h id k named other =
    ap (λ (n : Option ℕ). cond (is_for k n) (e ∷ own k h) (own k h)) named ∙ ap (λ (b : Bool). cond b (e ∷ own k h) (own k h)) (eq_false id k other)

own_same : (e : Entry) (h : List Entry) (id : ℕ) → id_of e ≡ Some id → own id (e ∷ h) ≡ e ∷ own id h
own_same e h id named =
    ap (λ (n : Option ℕ). cond (is_for id n) (e ∷ own id h) (own id h)) named ∙ ap (λ (b : Bool). cond b (e ∷ own id h) (own id h)) (eq_true id)

-- what every lawful history keeps
pub record Sane (h : List Entry) : Type 0 where
  pub indexed : IsIndexed (item_at h)
  pub fresh : (k : ℕ) → next_of h ≤ k → Fresh (own k h)
  pub keyed : (k : ℕ) (item : Item) → item_at h k ≡ Some item → FinishingHasKey (own k h) item

-- what one more entry does, and that it keeps this
pub record Next (limit : ℕ) (e : Entry) (h : List Entry) : Type 0 where
  pub value : left_by limit (e ∷ h) ≡ applied e (left_by limit h)
  pub sane : Sane (e ∷ h)

some_same : (i j : Item) → Some i ≡ Some j → i ≡ j
some_same i j e = cc

none_some : (item : Item) (found : Option Item) → found ≡ None → found ≡ Some item → ⊥
none_some item found none some = cc

-- a base entry's item has the id that the entry names
base_named : (e : Entry) (base : Item) → base_of e ≡ Some base → id_of e ≡ Some base.id.0
base_named (entries.Added id word address wish digest at) base is = ap (λ (i : Item). Some i.id.0) (some_same _ base is)
base_named (entries.Restored item) base is = ap (λ (i : Item). Some i.id.0) (some_same item base is)
base_named (entries.Began id attempt by at) base is = absurd (cc)
base_named (entries.Described id key last_address total name modified) base is = absurd (cc)
base_named (entries.Progress id slices) base is = absurd (cc)
base_named (entries.Broke id reason) base is = absurd (cc)
base_named (entries.Paused id) base is = absurd (cc)
base_named (entries.Cancelled id) base is = absurd (cc)
base_named (entries.Restarted id epoch because) base is = absurd (cc)
base_named (entries.Finishing id total) base is = absurd (cc)
base_named (entries.Done id digest at) base is = absurd (cc)
base_named (entries.Removed id) base is = absurd (cc)
base_named (entries.Archived id) base is = absurd (cc)
base_named (entries.Reopened next at) base is = absurd (cc)
base_named (entries.Asked id) base is = absurd (cc)

own_base_at : (k : ℕ) (e : Entry) (h : List Entry) (base : Item) (here : Bool) (told : Option Item) → is_for k (id_of e) ≡ here → base_of e ≡ told → newest base_of (cond here (e ∷ own k h) (own k h)) ≡ Some base → (newest base_of (own k h) ≡ Some base → base.id.0 ≡ k) → base.id.0 ≡ k
own_base_at k e h base false told here told_is is older = older is
own_base_at k e h base true None here told_is is older = older (ap (λ (x : Option Item). first_some x (newest base_of (own k h))) (sym told_is) ∙ is)
own_base_at k e h base true (Some b) here told_is is older =
    let same : b ≡ base = some_same b base (ap (λ (x : Option Item). first_some x (newest base_of (own k h))) (sym told_is) ∙ is) in
    let named = base_named e b told_is in
    let is_own : (b.id.0 == k) ≡ true = ap (is_for k) (sym named) ∙ here in
    ap (λ (i : Item). i.id.0) (sym same) ∙ eq_same b.id.0 k is_own

own_base : (k : ℕ) (h : List Entry) (base : Item) → newest base_of (own k h) ≡ Some base → base.id.0 ≡ k
own_base k [] base is = absurd (cc)
own_base k (e ∷ h) base is = own_base_at k e h base (is_for k (id_of e)) (base_of e) refl refl is (own_base k h base)

indexed_by : (h : List Entry) → IsIndexed (item_at h)
indexed_by h = record {
  own = λ k item is.
      let p = present (own k h) item is in
      ap (λ (i : Item). i.id.0) (sym p.item_is) ∙ own_base k h p.base p.base_is;
}

-- an entry that names an item: what it does to it
record Stepped (e : Entry) (g : List Entry) (item : Item) : Type 0 where
  is : item_of (e ∷ g) ≡ effect e item
  keyed : FinishingHasKey (e ∷ g) (changed e item)

stepped : (e : Entry) (id : ItemId) (g : List Entry) (items : List Item) (item : Item) → target_of e ≡ Some id → item_of g ≡ Some item → FinishingHasKey g item → Further e items item → Stepped e g item
stepped (entries.Added id word address wish digest at) named g items item name found has further = absurd (cc)
stepped (entries.Began id attempt by at) named g items item name found has further =
    record { is = one_more (entries.Began id attempt by at) g item refl refl (λ base is. step_began id attempt by at g base ∙ ap (begun_item attempt by) is) found; keyed = has }
stepped (entries.Described id key last_address total name modified) named g items item name_is found has further =
    record { is = one_more (entries.Described id key last_address total name modified) g item refl refl (λ base is. step_described id key last_address total name modified g base item is further.no_key has) found; keyed = λ there_is. refl }
stepped (entries.Progress id slices) named g items item name found has further =
    record { is = one_more (entries.Progress id slices) g item refl refl (λ base is. ap (λ (i : Item). record i { slices = slices }) is) found; keyed = has }
stepped (entries.Broke id reason) named g items item name found has further =
    record { is = one_more (entries.Broke id reason) g item refl refl (λ base is. ap (changed (entries.Broke id reason)) is) found; keyed = has }
stepped (entries.Paused id) named g items item name found has further =
    record { is = one_more (entries.Paused id) g item refl refl (λ base is. ap (changed (entries.Paused id)) is) found; keyed = has }
stepped (entries.Cancelled id) named g items item name found has further =
    record { is = one_more (entries.Cancelled id) g item refl refl (λ base is. ap (changed (entries.Cancelled id)) is) found; keyed = has }
stepped (entries.Restarted id epoch because) named g items item name found has further =
    record { is = one_more (entries.Restarted id epoch because) g item refl refl (λ base is. ap (restarted_item epoch) is) found; keyed = λ there_is. absurd (false≢true there_is) }
stepped (entries.Finishing id total) named g items item name found has further =
    record { is = one_more (entries.Finishing id total) g item refl refl (λ base is. ap (changed (entries.Finishing id total)) is) found; keyed = λ there_is. further.has_key }
stepped (entries.Done id digest at) named g items item name found has further =
    record { is = one_more (entries.Done id digest at) g item refl refl (λ base is. ap (changed (entries.Done id digest at)) is) found; keyed = has }
stepped (entries.Removed id) named g items item name found has further = record { is = one_gone (entries.Removed id) g refl; keyed = has }
stepped (entries.Archived id) named g items item name found has further = record { is = one_gone (entries.Archived id) g refl; keyed = has }
stepped (entries.Reopened next at) named g items item name found has further = absurd (cc)
stepped (entries.Restored other) named g items item name found has further = absurd (cc)
stepped (entries.Asked id) named g items item name found has further =
    record { is = one_more (entries.Asked id) g item refl refl (λ base is. ap (changed (entries.Asked id)) is) found; keyed = has }

-- an entry that names an item, and is none of the three others
record Plain (e : Entry) (id : ItemId) : Type 0 where
  name : target_of e ≡ Some id
  named : id_of e ≡ Some id.0
  no_added : added_id e ≡ None
  no_next : reopened_next e ≡ None
  late : is_early_entry e ≡ false

next_plain : (e : Entry) (h : List Entry) → added_id e ≡ None → reopened_next e ≡ None → next_of (e ∷ h) ≡ next_of h
next_plain e h no_added no_next =
    ap (λ (x : Option ℕ). get (first_some (first_some x (newest added_id h)) (first_some (oldest reopened_next h) (reopened_next e))) 1) no_added
    ∙ ap (λ (x : Option ℕ). get (first_some (newest added_id h) (first_some (oldest reopened_next h) x)) 1) no_next
    ∙ ap (λ (x : Option ℕ). get (first_some (newest added_id h) x) 1) (first_none (oldest reopened_next h))

same_list : (limit next next2 : ℕ) (first early early2 : Bool) (items items2 : List Item) → next ≡ next2 → early ≡ early2 → items ≡ items2 →
    ◌≡◌ {A = Listing} (record { limit = limit; next = next; is_first = first; is_early = early; items = items }) (record { limit = limit; next = next2; is_first = first; is_early = early2; items = items2 })
same_list limit next next2 first early early2 items items2 n b l =
    ap (λ (x : ℕ). record { limit = limit; next = x; is_first = first; is_early = early; items = items }) n
    ∙ ap (λ (x : Bool). record { limit = limit; next = next2; is_first = first; is_early = x; items = items }) b
    ∙ ap (λ (x : List Item). record { limit = limit; next = next2; is_first = first; is_early = early2; items = x }) l

-- the item that an entry names is in the list, and meets its row
record Named (e : Entry) (id : ItemId) (h : List Entry) (items : List Item) (item : Item) : Type 0 where
  found : Found (item_at h) id.0 (next_of h) item
  further : Further e items item

named_of : (e : Entry) (id : ItemId) (h : List Entry) (items : List Item) (found : Option Item) → Sane h → items ≡ items_below (item_at h) (next_of h) → item_in id.0 items ≡ found → Row e items found → (item : Item) × Named e id h items item
named_of e id h items None sane same is row = absurd row
named_of e id h items (Some item) sane same is row =
    (item, record { found = in_below (item_at h) id.0 (next_of h) item sane.indexed (subst (λ (x : List Item). item_in id.0 x ≡ Some item) same is); further = row.1 })

module _ (limit : ℕ) (e : Entry) (id : ItemId) (h : List Entry) (sane : Sane h) (plain : Plain e id) (item : Item) (named : Named e id h (items_below (item_at h) (next_of h)) item) where
  step_is : Stepped e (own id.0 h) item
  step_is = stepped e id (own id.0 h) (items_below (item_at h) (next_of h)) item plain.name named.found.is (sane.keyed id.0 item named.found.is) named.further

  at_other : (k : ℕ) → k ≢ id.0 → item_at (e ∷ h) k ≡ item_at h k
  at_other k other = ap item_of (own_other e h id.0 k plain.named (λ (s : id.0 ≡ k). other (sym s)))

  at_own : item_at (e ∷ h) id.0 ≡ effect e item
  at_own = ap item_of (own_same e h id.0 plain.named) ∙ step_is.is

  next_same : next_of (e ∷ h) ≡ next_of h
  next_same = next_plain e h plain.no_added plain.no_next

  items_are : items_below (item_at (e ∷ h)) (next_of (e ∷ h)) ≡ items_after e (Some id) (items_below (item_at h) (next_of h))
  items_are =
      ap (items_below (item_at (e ∷ h))) next_same
      ∙ below-edit (item_at h) (item_at (e ∷ h)) id.0 (next_of h) (effect e) sane.indexed at_other (at_own ∙ ap (option_and_then (effect e)) (sym named.found.is))
      ∙ edit-after e id (items_below (item_at h) (next_of h))

  fresh_on : (k : ℕ) → next_of (e ∷ h) ≤ k → Fresh (own k (e ∷ h))
  fresh_on k past =
      let low = named.found.below in
      let past_older : next_of h ≤ k = subst (λ (n : ℕ). n ≤ k) next_same past in
      subst Fresh (sym (own_other e h id.0 k plain.named (λ (s : id.0 ≡ k). omega arith))) (sane.fresh k past_older)

  keyed_own : (new : Item) → effect e item ≡ Some new → FinishingHasKey (e ∷ own id.0 h) new
  keyed_own new is = keyed_effect (is_gone e) refl is
    where
      keyed_effect : (gone : Bool) → is_gone e ≡ gone → cond gone None (Some (changed e item)) ≡ Some new → FinishingHasKey (e ∷ own id.0 h) new
      keyed_effect true gone same = absurd (cc)
      keyed_effect false gone same = subst (FinishingHasKey (e ∷ own id.0 h)) (some_same (changed e item) new same) step_is.keyed

  keyed_on : (k : ℕ) (new : Item) → item_at (e ∷ h) k ≡ Some new → FinishingHasKey (own k (e ∷ h)) new
  keyed_on k new is =
      elim (cases_eq k id.0) [
        | inl same ↦
            let is_own : effect e item ≡ Some new = sym at_own ∙ subst (λ (j : ℕ). item_at (e ∷ h) j ≡ Some new) same is in
            let there_own : FinishingHasKey (own id.0 (e ∷ h)) new = subst (λ (g : List Entry). FinishingHasKey g new) (sym (own_same e h id.0 plain.named)) (keyed_own new is_own) in
            subst (λ (j : ℕ). FinishingHasKey (own j (e ∷ h)) new) (sym same) there_own
        | inr other ↦
            subst (λ (g : List Entry). FinishingHasKey g new) (sym (own_other e h id.0 k plain.named (λ (s : id.0 ≡ k). other (sym s)))) (sane.keyed k new (sym (at_other k other) ∙ is))
      ]

  early_late : is_early (e ∷ h) ≡ false
  early_late = ap (λ (b : Bool). b && is_early h) plain.late

  listed : left_by limit (e ∷ h) ≡ record (left_by limit h) { is_first = false; is_early = false; items = items_after e (Some id) (items_below (item_at h) (next_of h)) }
  listed = same_list limit (next_of (e ∷ h)) (next_of h) false (is_early (e ∷ h)) false _ _ next_same early_late items_are

  sane_named : Sane (e ∷ h)
  sane_named = record { indexed = indexed_by (e ∷ h); fresh = fresh_on; keyed = keyed_on }

-- each of the twelve
record Takes12 (limit : ℕ) (e : Entry) (id : ItemId) (h : List Entry) : Type 0 where
  plain : Plain e id
  meets : Meets (left_by limit h) e → Row e (items_below (item_at h) (next_of h)) (item_in id.0 (items_below (item_at h) (next_of h)))
  value : applied e (left_by limit h) ≡ record (left_by limit h) { is_first = false; is_early = false; items = items_after e (Some id) (items_below (item_at h) (next_of h)) }

next_named : (limit : ℕ) (e : Entry) (id : ItemId) (h : List Entry) → Sane h → Takes12 limit e id h → Meets (left_by limit h) e → Next limit e h
next_named limit e id h sane takes meets =
    let pair = named_of e id h (items_below (item_at h) (next_of h)) (item_in id.0 (items_below (item_at h) (next_of h))) sane refl refl (takes.meets meets) in
    record { value = listed limit e id h sane takes.plain pair.0 pair.1 ∙ sym takes.value; sane = sane_named limit e id h sane takes.plain pair.0 pair.1 }

-- a Reopened

next_kept : (added opens : Option ℕ) (next : ℕ) → next ≡ get (first_some added opens) 1 → get (first_some added (first_some opens (Some next))) 1 ≡ get (first_some added opens) 1
next_kept (Some n) opens next same = refl
next_kept None (Some n) next same = refl
next_kept None None next same = same

reopened_items : (next at : ℕ) (h : List Entry) (n : ℕ) → items_below (item_at (entries.Reopened next at ∷ h)) n ≡ map stopped_item (items_below (item_at h) n)
reopened_items next at h n = below-stopped (item_at h) (item_at (entries.Reopened next at ∷ h)) n (λ k. item-reopened next at (own k h))

reopened_keyed : (next at : ℕ) (g : List Entry) (new : Item) (found : Option Item) → item_of g ≡ found → map_some stopped_item found ≡ Some new → ((item : Item) → item_of g ≡ Some item → FinishingHasKey g item) → FinishingHasKey (entries.Reopened next at ∷ g) new
reopened_keyed next at g new None is same has = absurd (cc)
reopened_keyed next at g new (Some item) is same has =
    let old = has item is in
    λ there_is. ap (λ (i : Item). is_some i.key) (sym (some_same (stopped_item item) new same)) ∙ old there_is

reopened_sane : (next at : ℕ) (h : List Entry) → Sane h → ((k : ℕ) → next_of (entries.Reopened next at ∷ h) ≤ k → Fresh (own k h)) → Sane (entries.Reopened next at ∷ h)
reopened_sane next at h sane fresh =
    record {
      indexed = indexed_by (entries.Reopened next at ∷ h);
      fresh = λ k past. opened (fresh k past);
      keyed = λ k new is. reopened_keyed next at (own k h) new (item_at h k) refl (sym (item-reopened next at (own k h)) ∙ is) (sane.keyed k);
    }

next_reopened : (limit next at : ℕ) (h : List Entry) → Sane h → Meets (left_by limit h) (entries.Reopened next at) → Next limit (entries.Reopened next at) h
next_reopened limit next at [] sane meets =
    record {
      value = same_list limit next next false true true (items_below (item_at (entries.Reopened next at ∷ [])) next) [] refl refl
          (below-none (item_at (entries.Reopened next at ∷ [])) 0 next (omega arith) (λ k low high. refl));
      sane = reopened_sane next at [] sane (λ k past. nothing);
    }
next_reopened limit next at (e ∷ h) sane meets =
    let older = e ∷ h in
    let same : next ≡ next_of older = elim meets [ inl is ↦ is | inr both ↦ absurd (false≢true both.0) ] in
    let kept : next_of (entries.Reopened next at ∷ older) ≡ next_of older = next_kept (newest added_id older) (oldest reopened_next older) next same in
    record {
      value = same_list limit (next_of (entries.Reopened next at ∷ older)) (next_of older) false (is_early older) (is_early older) _ _ kept refl
          (ap (items_below (item_at (entries.Reopened next at ∷ older))) kept ∙ reopened_items next at older (next_of older));
      sane = reopened_sane next at older sane (λ k past. sane.fresh k (subst (λ (n : ℕ). n ≤ k) kept past));
    }

-- an entry that brings a new item
module _ (e : Entry) (h : List Entry) (new : Item) (sane : Sane h) (named : id_of e ≡ Some new.id.0) (made : item_of (e ∷ own new.id.0 h) ≡ Some new) (no_total : there (newest finishing_total (since is_restarted (e ∷ own new.id.0 h))) ≡ false) where
  new_other : (k : ℕ) → k ≢ new.id.0 → item_at (e ∷ h) k ≡ item_at h k
  new_other k other = ap item_of (own_other e h new.id.0 k named (λ (s : new.id.0 ≡ k). other (sym s)))

  new_own : item_at (e ∷ h) new.id.0 ≡ Some new
  new_own = ap item_of (own_same e h new.id.0 named) ∙ made

  -- the list up to the new item
  new_items : items_below (item_at (e ∷ h)) (suc new.id.0) ≡ items_below (item_at h) new.id.0 ++ new ∷ []
  new_items =
      ap (λ (x : List Item). x ++ option_to_list (item_at (e ∷ h) new.id.0)) (below-same (item_at h) (item_at (e ∷ h)) new.id.0 (λ k low. new_other k (λ (s : k ≡ new.id.0). omega arith)))
      ∙ ap (λ (x : Option Item). items_below (item_at h) new.id.0 ++ option_to_list x) new_own

  new_sane : ((k : ℕ) → next_of (e ∷ h) ≤ k → (new.id.0 ≢ k) × (next_of h ≤ k)) → Sane (e ∷ h)
  new_sane past =
      record {
        indexed = indexed_by (e ∷ h);
        fresh = λ k low. subst Fresh (sym (own_other e h new.id.0 k named (past k low).0)) (sane.fresh k (past k low).1);
        keyed = λ k item is.
            elim (cases_eq k new.id.0) [
              | inl same ↦
                  let none : there (newest finishing_total (since is_restarted (own k (e ∷ h)))) ≡ false =
                  ap (λ (g : List Entry). there (newest finishing_total (since is_restarted g))) (ap (λ (j : ℕ). own j (e ∷ h)) same ∙ own_same e h new.id.0 named) ∙ no_total in
                  λ there_is. absurd (false≢true (sym none ∙ there_is))
              | inr other ↦ subst (λ (g : List Entry). FinishingHasKey g item) (sym (own_other e h new.id.0 k named (λ (s : new.id.0 ≡ k). other (sym s)))) (sane.keyed k item (sym (new_other k other) ∙ is))
            ];
      }

fresh_total : (g : List Entry) → Fresh g → there (newest finishing_total (since is_restarted g)) ≡ false
fresh_total g fresh = ap (λ (x : List Entry). there (newest finishing_total x)) (all_since g fresh) ∙ ap there (no_finishing g fresh)

next_added : (limit : ℕ) (id : ItemId) (word address wish : List ℕ) (digest : Option (List ℕ)) (at : ℕ) (h : List Entry) → Sane h → Meets (left_by limit h) (entries.Added id word address wish digest at) → Next limit (entries.Added id word address wish digest at) h
next_added limit id word address wish digest at h sane meets =
    let e = entries.Added id word address wish digest at in
    let new = added_item id word address wish digest at in
    let same : id.0 ≡ next_of h = meets.0 in
    let fresh : Fresh (own id.0 h) = sane.fresh id.0 (omega arith) in
    let made : item_of (e ∷ own id.0 h) ≡ Some new = item-added (own id.0 h) fresh id word address wish digest at in
    let no_total = fresh_total (own id.0 h) fresh in
    record {
      value = same_list limit (id.0 + 1) (id.0 + 1) false false false _ _ refl refl
          (ap (items_below (item_at (e ∷ h))) (add-one id.0) ∙ new_items e h new sane refl made no_total ∙ ap (λ (n : ℕ). items_below (item_at h) n ++ new ∷ []) same);
      sane = new_sane e h new sane refl made no_total (λ k low. (λ (s : id.0 ≡ k). omega arith, omega arith));
    }

-- in a list of only Reopened and Restored entries what is absent has no entry
early_gone : (k : ℕ) (h : List Entry) → is_early h ≡ true → stands is_gone (own k h) ≡ false
early_gone k [] early = refl
early_gone k ((entries.Added id word address wish digest at) ∷ h) early = absurd (false≢true early)
early_gone k ((entries.Began id attempt by at) ∷ h) early = absurd (false≢true early)
early_gone k ((entries.Described id key last_address total name modified) ∷ h) early = absurd (false≢true early)
early_gone k ((entries.Progress id slices) ∷ h) early = absurd (false≢true early)
early_gone k ((entries.Broke id reason) ∷ h) early = absurd (false≢true early)
early_gone k ((entries.Paused id) ∷ h) early = absurd (false≢true early)
early_gone k ((entries.Cancelled id) ∷ h) early = absurd (false≢true early)
early_gone k ((entries.Restarted id epoch because) ∷ h) early = absurd (false≢true early)
early_gone k ((entries.Finishing id total) ∷ h) early = absurd (false≢true early)
early_gone k ((entries.Done id digest at) ∷ h) early = absurd (false≢true early)
early_gone k ((entries.Removed id) ∷ h) early = absurd (false≢true early)
early_gone k ((entries.Archived id) ∷ h) early = absurd (false≢true early)
early_gone k ((entries.Reopened next at) ∷ h) early = early_gone k h early
early_gone k ((entries.Restored item) ∷ h) early =
    elim (item.id.0 == k) as (λ (b : Bool). stands is_gone (cond b ((entries.Restored item) ∷ own k h) (own k h)) ≡ false) [ true ↦ early_gone k h early | false ↦ early_gone k h early ]
early_gone k ((entries.Asked id) ∷ h) early = absurd (false≢true early)

absent_at : (found : Option Item) → ((i : Item) → found ≡ Some i → ⊥) → found ≡ None
absent_at None never = refl
absent_at (Some i) never = absurd (never i refl)

map_none : (found : Option Item) → map_some stopped_item found ≡ None → found ≡ None
map_none None is = refl
map_none (Some i) is = absurd (cc)

restored_there : (item : Item) (g : List Entry) → stands is_gone g ≡ false → item_of (entries.Restored item ∷ g) ≡ None → ⊥
restored_there item g gone is = none_some (looked_back (entries.Restored item ∷ g) item) (item_of (entries.Restored item ∷ g)) is (ap (λ (b : Bool). cond b None (Some (looked_back (entries.Restored item ∷ g) item))) gone)

early_restored : (k : ℕ) (item : Item) (h : List Entry) (here : Bool) → stands is_gone (own k h) ≡ false → item_of (cond here (entries.Restored item ∷ own k h) (own k h)) ≡ None → (item_at h k ≡ None → Fresh (own k h)) → Fresh (cond here (entries.Restored item ∷ own k h) (own k h))
early_restored k item h true gone is older = absurd (restored_there item (own k h) gone is)
early_restored k item h false gone is older = older is

early_fresh : (k : ℕ) (h : List Entry) → is_early h ≡ true → item_at h k ≡ None → Fresh (own k h)
early_fresh k [] early is = nothing
early_fresh k ((entries.Added id word address wish digest at) ∷ h) early is = absurd (false≢true early)
early_fresh k ((entries.Began id attempt by at) ∷ h) early is = absurd (false≢true early)
early_fresh k ((entries.Described id key last_address total name modified) ∷ h) early is = absurd (false≢true early)
early_fresh k ((entries.Progress id slices) ∷ h) early is = absurd (false≢true early)
early_fresh k ((entries.Broke id reason) ∷ h) early is = absurd (false≢true early)
early_fresh k ((entries.Paused id) ∷ h) early is = absurd (false≢true early)
early_fresh k ((entries.Cancelled id) ∷ h) early is = absurd (false≢true early)
early_fresh k ((entries.Restarted id epoch because) ∷ h) early is = absurd (false≢true early)
early_fresh k ((entries.Finishing id total) ∷ h) early is = absurd (false≢true early)
early_fresh k ((entries.Done id digest at) ∷ h) early is = absurd (false≢true early)
early_fresh k ((entries.Removed id) ∷ h) early is = absurd (false≢true early)
early_fresh k ((entries.Archived id) ∷ h) early is = absurd (false≢true early)
early_fresh k ((entries.Reopened next at) ∷ h) early is = opened (early_fresh k h early (map_none (item_at h k) (sym (item-reopened next at (own k h)) ∙ is)))
early_fresh k ((entries.Restored item) ∷ h) early is = early_restored k item h (item.id.0 == k) (early_gone k h early) is (early_fresh k h early)
early_fresh k ((entries.Asked id) ∷ h) early is = absurd (false≢true early)

next_restored : (limit : ℕ) (item : Item) (h : List Entry) → Sane h → Meets (left_by limit h) (entries.Restored item) → Next limit (entries.Restored item) h
next_restored limit item h sane meets =
    let e = entries.Restored item in
    let id = item.id.0 in
    let next = next_of h in
    let low : id < next = meets.below in
    let absent : (k : ℕ) → id ≤ k → k < next → item_at h k ≡ None = λ k from to. absent_at (item_at h k) (λ i is. let under = above_below (item_at h) id next k i sane.indexed meets.above to is in omega arith) in
    let fresh : Fresh (own id h) = early_fresh id h meets.is_early (absent id (omega arith) low) in
    let made : item_of (e ∷ own id h) ≡ Some item = item-restored (own id h) fresh item in
    let no_total = fresh_total (own id h) fresh in
    let kept : next_of (e ∷ h) ≡ next = next_plain e h refl refl in
    let older : items_below (item_at h) next ≡ items_below (item_at h) id = below-none (item_at h) id next (omega arith) absent in
    let newer : items_below (item_at (e ∷ h)) next ≡ items_below (item_at (e ∷ h)) (suc id) =
    below-none (item_at (e ∷ h)) (suc id) next (omega arith) (λ k from to. new_other e h item sane refl made no_total k (λ (s : k ≡ id). omega arith) ∙ absent k (omega arith) to) in
    record {
      value = same_list limit (next_of (e ∷ h)) next false (is_early h) (is_early h) _ _ kept refl
          (ap (items_below (item_at (e ∷ h))) kept ∙ newer ∙ new_items e h item sane refl made no_total ∙ ap (λ (x : List Item). x ++ item ∷ []) (sym older));
      sane = new_sane e h item sane refl made no_total (λ k past. let past_next : next ≤ k = subst (λ (n : ℕ). n ≤ k) kept past in (λ (s : id ≡ k). omega arith, past_next));
    }

-- the whole of it
pub next_of_lawful : (limit : ℕ) (e : Entry) (h : List Entry) → Sane h → Meets (left_by limit h) e → Next limit e h
next_of_lawful limit (entries.Added id word address wish digest at) h sane meets = next_added limit id word address wish digest at h sane meets
next_of_lawful limit (entries.Began id attempt by at) h sane meets = next_named limit (entries.Began id attempt by at) id h sane (record { plain = record { name = refl; named = refl; no_added = refl; no_next = refl; late = refl }; meets = λ m. m; value = refl }) meets
next_of_lawful limit (entries.Described id key last_address total name modified) h sane meets = next_named limit (entries.Described id key last_address total name modified) id h sane (record { plain = record { name = refl; named = refl; no_added = refl; no_next = refl; late = refl }; meets = λ m. m; value = refl }) meets
next_of_lawful limit (entries.Progress id slices) h sane meets = next_named limit (entries.Progress id slices) id h sane (record { plain = record { name = refl; named = refl; no_added = refl; no_next = refl; late = refl }; meets = λ m. m; value = refl }) meets
next_of_lawful limit (entries.Broke id reason) h sane meets = next_named limit (entries.Broke id reason) id h sane (record { plain = record { name = refl; named = refl; no_added = refl; no_next = refl; late = refl }; meets = λ m. m; value = refl }) meets
next_of_lawful limit (entries.Paused id) h sane meets = next_named limit (entries.Paused id) id h sane (record { plain = record { name = refl; named = refl; no_added = refl; no_next = refl; late = refl }; meets = λ m. m; value = refl }) meets
next_of_lawful limit (entries.Cancelled id) h sane meets = next_named limit (entries.Cancelled id) id h sane (record { plain = record { name = refl; named = refl; no_added = refl; no_next = refl; late = refl }; meets = λ m. m; value = refl }) meets
next_of_lawful limit (entries.Restarted id epoch because) h sane meets = next_named limit (entries.Restarted id epoch because) id h sane (record { plain = record { name = refl; named = refl; no_added = refl; no_next = refl; late = refl }; meets = λ m. m; value = refl }) meets
next_of_lawful limit (entries.Finishing id total) h sane meets = next_named limit (entries.Finishing id total) id h sane (record { plain = record { name = refl; named = refl; no_added = refl; no_next = refl; late = refl }; meets = λ m. m; value = refl }) meets
next_of_lawful limit (entries.Done id digest at) h sane meets = next_named limit (entries.Done id digest at) id h sane (record { plain = record { name = refl; named = refl; no_added = refl; no_next = refl; late = refl }; meets = λ m. m; value = refl }) meets
next_of_lawful limit (entries.Removed id) h sane meets = next_named limit (entries.Removed id) id h sane (record { plain = record { name = refl; named = refl; no_added = refl; no_next = refl; late = refl }; meets = λ m. m; value = refl }) meets
next_of_lawful limit (entries.Archived id) h sane meets = next_named limit (entries.Archived id) id h sane (record { plain = record { name = refl; named = refl; no_added = refl; no_next = refl; late = refl }; meets = λ m. m; value = refl }) meets
next_of_lawful limit (entries.Reopened next at) h sane meets = next_reopened limit next at h sane meets
next_of_lawful limit (entries.Restored item) h sane meets = next_restored limit item h sane meets
next_of_lawful limit (entries.Asked id) h sane meets = next_named limit (entries.Asked id) id h sane (record { plain = record { name = refl; named = refl; no_added = refl; no_next = refl; late = refl }; meets = λ m. m; value = refl }) meets

pub sane_empty : Sane []
sane_empty = record { indexed = indexed_by []; fresh = λ k low. nothing; keyed = λ k item is. absurd (cc) }

pub sane_lawful : (h : List Entry) → IsLawfulBack h → Sane h
sane_lawful [] lawful = sane_empty
sane_lawful (e ∷ h) lawful = (next_of_lawful 0 e h (sane_lawful h lawful.1) lawful.0).sane

-- One more entry that meets its row does what the table says.
pub left_by_step : (limit : ℕ) (e : Entry) (h : List Entry) → IsLawfulBack h → Meets (left_by limit h) e → left_by limit (e ∷ h) ≡ applied e (left_by limit h)
left_by_step limit e h lawful meets = (next_of_lawful limit e h (sane_lawful h lawful) meets).value

-- What one more lawful entry is to an id.
pub data StepAt (e : Entry) (h : List Entry) (k : ℕ) : Type 0 where
  elsewhere : own k (e ∷ h) ≡ own k h → StepAt e h k
  named_here : (id : ItemId) (item : Item) → target_of e ≡ Some id → item_at h k ≡ Some item → allows e item.phase ≡ true → Further e (items_below (item_at h) (next_of h)) item → own k (e ∷ h) ≡ e ∷ own k h → item_at (e ∷ h) k ≡ effect e item → StepAt e h k
  opened_all : (next at : ℕ) → e ≡ entries.Reopened next at → own k (e ∷ h) ≡ e ∷ own k h → item_at (e ∷ h) k ≡ map_some stopped_item (item_at h k) → StepAt e h k
  made_here : Fresh (own k h) → own k (e ∷ h) ≡ e ∷ own k h → there (base_of e) ≡ true → StepAt e h k

named_at : (e : Entry) (id : ItemId) (h : List Entry) (k : ℕ) → Sane h → Plain e id → (found : Option Item) → item_in id.0 (items_below (item_at h) (next_of h)) ≡ found → Row e (items_below (item_at h) (next_of h)) found → StepAt e h k
named_at e id h k sane plain None is row = absurd row
named_at e id h k sane plain (Some item) is row =
    let named : Named e id h (items_below (item_at h) (next_of h)) item = record { found = in_below (item_at h) id.0 (next_of h) item sane.indexed is; further = row.1 } in
    elim (cases_eq id.0 k) [
      | inl same ↦ named_here id item plain.name (subst (λ (j : ℕ). item_at h j ≡ Some item) same named.found.is) row.0 row.1
          (subst (λ (j : ℕ). own j (e ∷ h) ≡ e ∷ own j h) same (own_same e h id.0 plain.named))
          (subst (λ (j : ℕ). item_at (e ∷ h) j ≡ effect e item) same (at_own 0 e id h sane plain item named))
      | inr other ↦ elsewhere (own_other e h id.0 k plain.named other)
    ]

made_at : (e : Entry) (h : List Entry) (id k : ℕ) → id_of e ≡ Some id → there (base_of e) ≡ true → Fresh (own id h) → StepAt e h k
made_at e h id k named base fresh =
    elim (cases_eq id k) [
      | inl same ↦ made_here (subst (λ (j : ℕ). Fresh (own j h)) same fresh) (subst (λ (j : ℕ). own j (e ∷ h) ≡ e ∷ own j h) same (own_same e h id named)) base
      | inr other ↦ elsewhere (own_other e h id k named other)
    ]

restored_fresh : (item : Item) (h : List Entry) → Sane h → Meets (left_by 0 h) (entries.Restored item) → Fresh (own item.id.0 h)
restored_fresh item h sane meets =
    early_fresh item.id.0 h meets.is_early
    (absent_at (item_at h item.id.0) (λ i is. let under = above_below (item_at h) item.id.0 (next_of h) item.id.0 i sane.indexed meets.above meets.below is in omega arith))

pub step_at : (e : Entry) (h : List Entry) (k : ℕ) → Sane h → Meets (left_by 0 h) e → StepAt e h k
step_at (entries.Added id word address wish digest at) h k sane meets = made_at (entries.Added id word address wish digest at) h id.0 k refl refl (sane.fresh id.0 (let same = meets.0 in omega arith))
step_at (entries.Began id attempt by at) h k sane meets = named_at (entries.Began id attempt by at) id h k sane (record { name = refl; named = refl; no_added = refl; no_next = refl; late = refl }) (item_in id.0 (items_below (item_at h) (next_of h))) refl meets
step_at (entries.Described id key last_address total name modified) h k sane meets = named_at (entries.Described id key last_address total name modified) id h k sane (record { name = refl; named = refl; no_added = refl; no_next = refl; late = refl }) (item_in id.0 (items_below (item_at h) (next_of h))) refl meets
step_at (entries.Progress id slices) h k sane meets = named_at (entries.Progress id slices) id h k sane (record { name = refl; named = refl; no_added = refl; no_next = refl; late = refl }) (item_in id.0 (items_below (item_at h) (next_of h))) refl meets
step_at (entries.Broke id why) h k sane meets = named_at (entries.Broke id why) id h k sane (record { name = refl; named = refl; no_added = refl; no_next = refl; late = refl }) (item_in id.0 (items_below (item_at h) (next_of h))) refl meets
step_at (entries.Paused id) h k sane meets = named_at (entries.Paused id) id h k sane (record { name = refl; named = refl; no_added = refl; no_next = refl; late = refl }) (item_in id.0 (items_below (item_at h) (next_of h))) refl meets
step_at (entries.Cancelled id) h k sane meets = named_at (entries.Cancelled id) id h k sane (record { name = refl; named = refl; no_added = refl; no_next = refl; late = refl }) (item_in id.0 (items_below (item_at h) (next_of h))) refl meets
step_at (entries.Restarted id epoch because) h k sane meets = named_at (entries.Restarted id epoch because) id h k sane (record { name = refl; named = refl; no_added = refl; no_next = refl; late = refl }) (item_in id.0 (items_below (item_at h) (next_of h))) refl meets
step_at (entries.Finishing id total) h k sane meets = named_at (entries.Finishing id total) id h k sane (record { name = refl; named = refl; no_added = refl; no_next = refl; late = refl }) (item_in id.0 (items_below (item_at h) (next_of h))) refl meets
step_at (entries.Done id digest at) h k sane meets = named_at (entries.Done id digest at) id h k sane (record { name = refl; named = refl; no_added = refl; no_next = refl; late = refl }) (item_in id.0 (items_below (item_at h) (next_of h))) refl meets
step_at (entries.Removed id) h k sane meets = named_at (entries.Removed id) id h k sane (record { name = refl; named = refl; no_added = refl; no_next = refl; late = refl }) (item_in id.0 (items_below (item_at h) (next_of h))) refl meets
step_at (entries.Archived id) h k sane meets = named_at (entries.Archived id) id h k sane (record { name = refl; named = refl; no_added = refl; no_next = refl; late = refl }) (item_in id.0 (items_below (item_at h) (next_of h))) refl meets
step_at (entries.Reopened next at) h k sane meets = opened_all next at refl refl (item-reopened next at (own k h))
step_at (entries.Restored other) h k sane meets = made_at (entries.Restored other) h other.id.0 k refl refl (restored_fresh other h sane meets)
step_at (entries.Asked id) h k sane meets = named_at (entries.Asked id) id h k sane (record { name = refl; named = refl; no_added = refl; no_next = refl; late = refl }) (item_in id.0 (items_below (item_at h) (next_of h))) refl meets
