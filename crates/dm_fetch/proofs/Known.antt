-- What is known of a content is what was kept, or what an entry tells.
use Rattle.std.proofs.Common.{◌≡◌, inl, inr, ℕ, List, [], ◌∷◌, ◌++◌, map, Option, Some, None, refl, sym, subst, arith}
use Rattle.std.specs.List.{Contains}
use Rattle.std.proofs.lemmas.List.Elements.{Contains-append_left, Contains-append_right}
use Rattle.std.proofs.lemmas.Option.{same_Some}
use Rattle.dm_types.specs.declared.entry.Entry.TheVariants as entries
use Rattle.dm_types.specs.declared.item.Item.{Item}
use Rattle.dm_types.specs.declared.item.ItemId.{ItemId}
use Rattle.dm_types.specs.declared.item.Key.{Key}
use Rattle.dm_types.specs.declared.item.Key.TheVariants.{Strong}
use Rattle.dm_edge.specs.Wire.{Purpose}
use Rattle.dm_edge.specs.declared.wanted.Wanted.{Wanted}
use Rattle.dm_item.specs.Lawful.{History}
use Rattle.dm_slice.specs.declared.plan.Part.{Part}
use Rattle.dm_answers.specs.Begin.{beginning}
use Rattle.dm_attempt.specs.declared.source.Source.{Source}
use Rattle.dm_attempt.specs.Asking.{Asking, IsRangeOf, WantedBy}
use Rattle.dm_attempt.specs.Live.{all_entries}
use Rattle.dm_attempt.specs.Scene.{Scene, begun_by, told_by}
use Rattle.dm_attempt.specs.Trace.{Close, Round, Tale, Trace, close_entries, told_entries}
use Rattle.dm_attempt.proofs.Items.{all_id}
use Rattle.dm_rounds.specs.Trail.{asking_behind}
use Rattle.dm_fetch.specs.Known.{IsKnownOf, OfKnown, kept, told}

-- of the content that ranges are asked of the total is known
abbrev pub AsksKnown : Item → History → Asking → Type 0
AsksKnown item list asking = (source : Source) → asking.source ≡ Some source → IsKnownOf item list (Strong source.tag) asking.purpose.address.text source.total

module _ (item : Item) (list : History) (asking : Asking) (knows : AsksKnown item list asking) (part : Part) (wanted : Wanted) (purpose : Purpose) (same : purpose ≡ asking.purpose) where
  -- and so of a range that is asked for
  pub range_known : IsRangeOf asking.source part wanted → OfKnown item list purpose.address.text wanted
  range_known range =
      subst (OfKnown item list purpose.address.text) (sym range.asked_is)
      (subst (λ (p : Purpose). IsKnownOf item list (Strong range.of.tag) p.address.text range.of.total) (sym same) (knows range.of range.source_is))

  pub wanted_known : WantedBy asking part wanted → OfKnown item list purpose.address.text wanted
  wanted_known (inl first) = subst (OfKnown item list purpose.address.text) (sym first.2) tt
  wanted_known (inr range) = range_known range.1

-- later rounds ask of the same content
pub knows_behind : (item : Item) (list : History) (first : Asking) (rounds : List Round) → AsksKnown item list first → AsksKnown item list (asking_behind first rounds)
knows_behind item list first [] knows = knows
knows_behind item list first (round ∷ older) knows = knows

module _ {D O : Type 0} (scene : Scene D O) (trace : Trace) (close : Close) (list : History) (validator : Key) (address : List ℕ) (total : ℕ) where
  -- the first of these entries are among all
  tale_among : (old : History) (tale : Tale) → trace.told ≡ Some tale → Contains (old ++ all_entries scene trace close) (entries.Described scene.item.id tale.key tale.address.text tale.total tale.name tale.modified)
  tale_among old tale is =
      let e = entries.Described scene.item.id tale.key tale.address.text tale.total tale.name tale.modified in
      let own : Contains (told_entries scene.item.id trace.told) e = subst (λ (d : Option Tale). Contains (told_entries scene.item.id d) e) (sym is) (0, omega arith, refl) in
      Contains-append_right old (all_entries scene trace close) e
      (Contains-append_right (beginning scene.item scene.by scene.at) (told_entries scene.item.id trace.told ++ (map (entries.Progress scene.item.id) trace.saves ++ close_entries scene.item.id scene.at close)) e
      (Contains-append_left (told_entries scene.item.id trace.told) (map (entries.Progress scene.item.id) trace.saves ++ close_entries scene.item.id scene.at close) e own))

  -- what was told, of an item with this number
  tale_entry : (old : History) → list ≡ old ++ all_entries scene trace close → (tale : Tale) → trace.told ≡ Some tale → Some tale.key ≡ Some validator → Some tale.address.text ≡ Some address → tale.total ≡ Some total → (id : ItemId) → id ≡ scene.item.id
      → Contains list (entries.Described id validator address (Some total) tale.name tale.modified)
  tale_entry old list_is tale is key_is address_is total_is id id_is =
      let among = subst (λ (l : History). Contains l (entries.Described scene.item.id tale.key tale.address.text tale.total tale.name tale.modified)) (sym list_is) (tale_among old tale is) in
      let own_key : tale.key ≡ validator = same_Some tale.key validator key_is in
      let own_address : tale.address.text ≡ address = same_Some tale.address.text address address_is in
      subst (λ (i : ItemId). Contains list (entries.Described i validator address (Some total) tale.name tale.modified)) (sym id_is)
      (subst (λ (k : Key). Contains list (entries.Described scene.item.id k address (Some total) tale.name tale.modified)) own_key
      (subst (λ (a : List ℕ). Contains list (entries.Described scene.item.id tale.key a (Some total) tale.name tale.modified)) own_address
      (subst (λ (t : Option ℕ). Contains list (entries.Described scene.item.id tale.key tale.address.text t tale.name tale.modified)) total_is among)))

  -- what is known of the content, by the item as the attempt has begun it
  begun_by_known : (old : History) → list ≡ old ++ all_entries scene trace close → (tale : Option Tale) → trace.told ≡ tale → (told_by scene tale).key ≡ Some validator → (told_by scene tale).last_address ≡ Some address → (told_by scene tale).total ≡ Some total
      → IsKnownOf (begun_by scene) list validator address total
  begun_by_known old list_is None is key_is address_is total_is = kept key_is address_is total_is
  begun_by_known old list_is (Some tale) is key_is address_is total_is = told tale.name tale.modified (tale_entry old list_is tale is key_is address_is total_is (begun_by scene).id (all_id (beginning scene.item scene.by scene.at) scene.item))

-- What is known of an attempt's content, by the item as it has begun.
abbrev pub Knows : {D O : Type 0} → Scene D O → Trace → History → Type 0
Knows scene trace list = (validator : Key) (address : List ℕ) (total : ℕ) → (told_by scene trace.told).key ≡ Some validator → (told_by scene trace.told).last_address ≡ Some address → (told_by scene trace.told).total ≡ Some total
    → IsKnownOf (begun_by scene) list validator address total

pub knows_left : {D O : Type 0} (scene : Scene D O) (trace : Trace) (close : Close) (list : History) → list ≡ scene.start.list ++ all_entries scene trace close → Knows scene trace list
knows_left scene trace close list list_is validator address total key_is address_is total_is =
    begun_by_known scene trace close list validator address total scene.start.list list_is trace.told refl key_is address_is total_is
