-- Where every byte is said, each byte of an item is whose address was read.
use Rattle.std.proofs.Common.{◌≡◌, ℕ, List, Some, Result, Ok, Err, IsTrue, sym, ◌∙◌, ap, subst}
use Rattle.std.specs.Prelude.{IfOk, is_ok}
use Rattle.std.proofs.lemmas.Bool.{false≢true}
use Rattle.dm_types.specs.declared.address.Address.{Address}
use Rattle.dm_types.specs.declared.item.Item.{Item}
use Rattle.dm_types.specs.declared.item.ItemId.{ItemId}
use Rattle.dm_request.specs.Fault.{IsRead}
use Rattle.dm_item.specs.Listing.{item_in}
use Rattle.dm_kept.proofs.Lists.{some_is}
use Rattle.dm_store.specs.Origin.{said_of}
use Rattle.dm_answers.specs.Land.{SaysPiece}

pub read_said : {E : Type 0} (items : List Item) (id : ItemId) (at : ℕ) (piece : List ℕ) (known : Item) (text : List ℕ) (answer : Result Address E)
    → item_in id.0 items ≡ Some known → known.last_address ≡ Some text → IfOk answer (IsRead text) → IsTrue (is_ok answer) → SaysPiece (said_of (λ _ _ _ _. Unit {0})) items id at piece
read_said items id at piece known text (Ok read) found told reads ok item key address there key_is address_is k byte is =
    let same : known ≡ item = some_is known item (sym found ∙ there) in
    let texts : text ≡ address = some_is text address (sym told ∙ ap (λ (i : Item). i.last_address) same ∙ address_is) in
    record { address = read; reads = subst (λ (t : List ℕ). IsRead t read) texts reads; said = tt }
read_said items id at piece known text (Err fault) found told reads ok item key address there key_is address_is k byte is = absurd (false≢true ok)
