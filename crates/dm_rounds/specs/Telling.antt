-- What the first reply tells of the file.
use Rattle.std.specs.Prelude.{◌≡◌, ℕ, List, Option}
use Rattle.dm_types.specs.declared.address.Address.{Address}
use Rattle.dm_types.specs.declared.item.Key.{Key}
use Rattle.dm_disposition.specs.declared.Disposition.{Disposition}
use Rattle.dm_disposition.specs.Read.{ToldBy}
use Rattle.dm_name.specs.Clean.{cleaned}
use Rattle.dm_name.specs.Wish.{raw_wish}
use Rattle.dm_reply.specs.declared.head.Head.{Head}
use Rattle.dm_answers.specs.declared.answer.Told.{Told}

-- the cleaned wish for a name: of what was handed in, what a Content-Disposition tells, and the address's path
pub record IsWishOf (handed : List ℕ) (value : Option (List ℕ)) (target clean : List ℕ) : Type 0 where
  pub told : Option Disposition
  pub by : ToldBy value told
  pub clean_is : clean ≡ cleaned (raw_wish handed told target)

-- what is told of a file: the head's total and Last-Modified, the address and key of its content, and the wish for its name
pub record IsToldOf (handed : List ℕ) (head : Head) (address : Address) (key : Key) (told : Told) : Type 0 where
  pub key_is : told.key ≡ key
  pub address_is : told.last_address ≡ address.text
  pub total_is : told.total ≡ head.total
  pub modified_is : told.modified ≡ head.modified
  pub wish_is : IsWishOf handed head.disposition address.target told.wish
