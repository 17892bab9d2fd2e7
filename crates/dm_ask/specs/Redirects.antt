-- The connections that led on to the next address.
use Rattle.std.specs.Prelude.{◌≡◌, ℕ, List, [], ◌∷◌, None}
use Rattle.dm_types.specs.declared.address.Address.{Address}
use Rattle.dm_types.specs.declared.item.ItemId.{ItemId}
use Rattle.dm_types.specs.declared.item.Attempt.{Attempt}
use Rattle.dm_edge.specs.Wire.{Purpose, Closed}
use Rattle.dm_edge.specs.Begins.{HasRedirect}
use Rattle.dm_edge.specs.declared.wanted.Wanted.TheVariants.{Whole}
use Rattle.dm_request.specs.Fault.{IsNext}
use Rattle.dm_request.specs.Request.{request_of}

-- the most redirects that are followed
abbrev pub most_redirects : ℕ
most_redirects = 10

-- what a connection to this address is made for, by an attempt on an item
abbrev pub purpose_of : ItemId → Attempt → Address → Purpose
purpose_of id attempt address = record { address = address; id = id; attempt = attempt }

-- A connection was made for the one address and was sent its whole request, and its stream leads to the other.
pub record LedOn (made_for : Address → Purpose) (from to : Address) (connection : Closed) : Type 0 where
  pub purpose_is : connection.purpose ≡ made_for from
  pub sent : connection.sent ≡ request_of from None
  pub location : List ℕ
  pub redirects : HasRedirect Whole connection.stream location
  pub next : IsNext from location to

-- The connections led from the one address to the other, each to the address of the following one.
abbrev pub Led : (Address → Purpose) → Address → List Closed → Address → Type 0
Led made_for from [] to = to ≡ from
Led made_for from (connection ∷ later) to = (between : Address) × LedOn made_for from between connection × Led made_for between later to
