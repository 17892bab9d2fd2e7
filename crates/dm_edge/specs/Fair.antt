-- Fairness: a wire brings only what its origin says.
use Rattle.std.specs.Prelude.{◌≡◌, ℕ, ◌+◌, ◌≤◌, ◌⊎◌, List, slice_get, Option, Some, None}
use Rattle.httparse.specs.Grammar.{ResponseHead}
use Rattle.dm_types.specs.declared.address.Address.{Address}
use Rattle.dm_types.specs.declared.item.Key.{Key}
use Rattle.dm_types.specs.declared.item.Key.TheVariants.{Strong, Once}
use Rattle.dm_request.specs.Request.{request_of}
use Rattle.dm_request.specs.declared.request.Ask.{Ask}
use Rattle.dm_edge.specs.declared.framing.Framing.{Framing}
use Rattle.dm_edge.specs.declared.wanted.Wanted.{Wanted}
use Rattle.dm_edge.specs.declared.wanted.Wanted.TheVariants.{Whole, Part}
use Rattle.dm_edge.specs.Wire.{Purpose, Told, stream_of}
use Rattle.dm_edge.specs.Fields.{fields_of}
use Rattle.dm_edge.specs.Metadata.{IsStrongTag}
use Rattle.dm_edge.specs.Begins.{BeginsContent}
use Rattle.dm_edge.specs.Reply.{IsFrontOfContent}

-- the range that a request names for what is wanted
abbrev pub ask_of : Wanted → Option Ask
ask_of Whole = None
ask_of (Part first last tag total) = Some (record { first = first; last = last; tag = tag })

-- a wanted part has a byte
abbrev pub IsOrdered : Wanted → Type 0
IsOrdered Whole = Unit {0}
IsOrdered (Part first last tag total) = first ≤ last

-- the place of the wanted content's first byte
abbrev pub first_of : Wanted → ℕ
first_of Whole = 0
first_of (Part first last tag total) = first

-- the key that a reply's content stands under: its strong tag, or this one attempt where it has none
abbrev pub key_of : Purpose → Option (List ℕ) → Key
key_of purpose None = Once purpose.id purpose.attempt
key_of purpose (Some tag) = Strong tag

-- the stream has a head with the wanted content, and this is the head's strong tag, if it has one
pub record HasTag (wanted : Wanted) (stream : List ℕ) (tag : Option (List ℕ)) : Type 0 where
  pub head : ResponseHead
  pub framing : Framing
  pub rest : List ℕ
  pub begins : BeginsContent wanted stream head framing rest
  pub tag_is : IsStrongTag (fields_of head) tag

-- each byte of a content that begins at this place is said under this key
pub record SaysContent (says : Address → Key → ℕ → ℕ → Type 0) (address : Address) (key : Key) (first : ℕ) (content : List ℕ) : Type 0 where
  pub each : (place byte : ℕ) → slice_get content place ≡ Some byte → says address key (first + place) byte

-- Where the request that was sent is the one for this content, whatever the stream brings of the content that is wanted by it, each byte at its place is
-- said for the connected address under the reply's key.
abbrev pub IsFair : (Address → Key → ℕ → ℕ → Type 0) → Purpose → List ℕ → List ℕ → Type 0
IsFair says purpose sent stream = (wanted : Wanted) (content : List ℕ) (tag : Option (List ℕ)) → sent ≡ request_of purpose.address (ask_of wanted)
    → IsFrontOfContent wanted stream content → HasTag wanted stream tag → SaysContent says purpose.address (key_of purpose tag) (first_of wanted) content

-- the origin says every byte
abbrev pub SaysAll : (Address → Key → ℕ → ℕ → Type 0) → Type 0
SaysAll says = (address : Address) (key : Key) (place byte : ℕ) → says address key place byte

-- A wire is fair and tells its stream, or its origin says every byte.
abbrev pub IsHonest : Type 0 → (Address → Key → ℕ → ℕ → Type 0) → Purpose → Told → Type 0
IsHonest tells says purpose told = SaysAll says ⊎ (tells × IsFair says purpose told.sent (stream_of told))
