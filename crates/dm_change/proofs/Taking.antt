-- The entry of an order, and what its recording makes.
use Rattle.std.proofs.Common.{◌≡◌, ℕ, IsTrue, refl, sym, ◌∙◌, ap, subst}
use Rattle.dm_types.specs.declared.entry.Entry.{Entry}
use Rattle.dm_types.specs.declared.entry.Entry.TheVariants.{Added}
use Rattle.dm_types.specs.declared.item.ItemId.{ItemId}
use Rattle.dm_record.specs.Limits.{IsSpellable}
use Rattle.dm_item.specs.Listing.{Admits, Listing}
use Rattle.dm_store.specs.Adding.{is_new}
use Rattle.dm_answers.specs.declared.order.Order.{Order}
use Rattle.dm_answers.specs.Add.{IsNew, IsOrder, added_by}

module _ (items : Listing) (order : Order) (at : ℕ) (id : ItemId) (entry : Entry) (is : entry ≡ Added id order.word order.address.text order.wish order.digest at) where
  pub new_of : IsTrue (is_new entry)
  new_of = subst (λ (e : Entry). IsTrue (is_new e)) (sym is) refl

  pub spelled_of : IsOrder order → IsSpellable entry
  spelled_of keeps = subst IsSpellable (sym is) (keeps.word, keeps.address, keeps.wish)

  pub taken_of : id.0 ≡ items.next → IsNew items order → Admits items entry
  taken_of next fresh = subst (Admits items) (sym is) (record { room = fresh.room; meets = (next, fresh.free) })

  -- it is that with the next id
  pub entry_is : id.0 ≡ items.next → entry ≡ added_by items order at
  entry_is next = is ∙ ap (λ (n : ℕ). Added (record { 0 = n }) order.word order.address.text order.wish order.digest at) next
