-- Which servers bring a content whole.
use Rattle.std.specs.Prelude.{◌≡◌, ◌⊎◌, ◌≤◌, ℕ, List, [], ◌∷◌, length, IfSome}
use Rattle.std.specs.List.{AllByRecursion, Contains}
use Rattle.dm_types.specs.declared.address.Address.{Address}
use Rattle.dm_types.specs.declared.item.Item.{Item}
use Rattle.dm_request.specs.Fault.{IsNext}
use Rattle.dm_request.specs.Request.{request_of}
use Rattle.dm_edge.specs.declared.wanted.Wanted.{Wanted}
use Rattle.dm_edge.specs.declared.wanted.Wanted.TheVariants.{Whole, Part}
use Rattle.dm_edge.specs.Begins.{HasRedirect}
use Rattle.dm_edge.specs.Fair.{ask_of}
use Rattle.dm_edge.specs.Part.{part_size}
use Rattle.dm_edge.specs.Reply.{IsWhole}
use Rattle.dm_edge.specs.Wire.{Closed}
use Rattle.dm_ask.specs.Redirects.{most_redirects}
use Rattle.dm_item.specs.Lawful.{History}
use Rattle.dm_fetch.specs.Attempts.{IsStable}
use Rattle.dm_fetch.specs.Known.{OfKnown}

-- the text is that of the address that is read of it
pub record HasAddress (text : List ℕ) : Type 0 where
  pub address : Address
  pub stable : IsStable text address

-- the stream leads to an address
pub record LeadsOn (at : Address) (stream : List ℕ) : Type 0 where
  pub location : List ℕ
  pub next : Address
  pub redirects : HasRedirect Whole stream location
  pub is_next : IsNext at location next

-- the stream has the wanted content, whole
pub record BringsAll (wanted : Wanted) (stream : List ℕ) : Type 0 where
  pub content : List ℕ
  pub whole : IsWhole wanted stream content

-- the stream has all bytes of the asked part
pub record BringsPart (first last : ℕ) (wanted : Wanted) (stream : List ℕ) : Type 0 where
  pub brings : BringsAll wanted stream
  pub long : length brings.content ≡ part_size first last

-- What a reply is to have so that an attempt needs no other: the content or a redirect, and of a part all of its bytes.
abbrev pub Serves : Wanted → Address → List ℕ → Type 0
Serves Whole at stream = BringsAll Whole stream ⊎ LeadsOn at stream
Serves (Part first last tag total) at stream = BringsPart first last (Part first last tag total) stream

-- the stream leads elsewhere
pub record IsRedirection (c : Closed) : Type 0 where
  pub location : List ℕ
  pub redirects : HasRedirect Whole c.stream location

-- these connections are among the others, in their order
abbrev pub IsRowOf : List Closed → List Closed → Type 0
IsRowOf [] all = Unit {0}
IsRowOf (c ∷ row) [] = ⊥
IsRowOf (c ∷ row) (other ∷ all) = ((c ≡ other) × IsRowOf row all) ⊎ IsRowOf (c ∷ row) all

-- The item's addresses are read as themselves, each whole request on these connections is served, and no more than ten of them are redirects. Of a range the total is the one
-- that is known of the content, by the item or by an entry of the list.
pub record ServesWhole (item : Item) (list : History) (connections : List Closed) : Type 0 where
  pub first : HasAddress item.first_address
  pub last : IfSome item.last_address HasAddress
  pub each : (c : Closed) (wanted : Wanted) → Contains connections c → OfKnown item list c.purpose.address.text wanted → c.sent ≡ request_of c.purpose.address (ask_of wanted) → Serves wanted c.purpose.address c.stream
  pub few : (row : List Closed) → IsRowOf row connections → AllByRecursion IsRedirection row → length row ≤ most_redirects
