-- What an origin says of a kept address.
use Rattle.std.specs.Prelude.{◌≡◌, ℕ, List, None, Ok}
use Rattle.dm_types.specs.declared.address.Address.{Address}
use Rattle.dm_types.specs.declared.item.Key.{Key}
use Rattle.dm_request.specs.Reading.{address_read}
use Rattle.dm_kept.specs.Files.{Says}

-- an address is read of the text, and the origin says the byte under it
pub record IsSaidOf (says : Address → Key → ℕ → ℕ → Type 0) (text : List ℕ) (key : Key) (place byte : ℕ) : Type 0 where
  pub address : Address
  pub reads : address_read None text ≡ Ok address
  pub said : says address key place byte

abbrev pub said_of : (Address → Key → ℕ → ℕ → Type 0) → Says
said_of says = IsSaidOf says
