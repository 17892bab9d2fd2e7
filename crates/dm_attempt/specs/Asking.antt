-- What each connection of a round asks for.
use Rattle.std.specs.Prelude.{◌≡◌, ◌≢◌, ◌⊎◌, ℕ, ◌-◌, List, Bool, true, false, Option, Some, None}
use Rattle.dm_types.specs.declared.address.Address.{Address}
use Rattle.dm_types.specs.declared.item.Key.{Key}
use Rattle.dm_types.specs.declared.item.Key.TheVariants.{Strong, Once}
use Rattle.dm_request.specs.Request.{request_of}
use Rattle.dm_slice.specs.declared.plan.Part.{Part}
use Rattle.dm_edge.specs.declared.wanted.Wanted.{Wanted}
use Rattle.dm_edge.specs.declared.wanted.Wanted.TheVariants as wanted
use Rattle.dm_edge.specs.Fair.{ask_of, first_of}
use Rattle.dm_edge.specs.Wire.{Purpose}
use Rattle.dm_reply.specs.declared.head.Head.{Head}
use Rattle.dm_attempt.specs.declared.source.Source.{Source}
use Rattle.dm_attempt.specs.Heads.{SaysReply}

-- how a round asks: whether the first reply serves its first part, of which content the other parts are asked for, where they may be, what its connections
-- are made for, under which key the content stands, and whether its length is known
pub record Asking : Type 0 where
  pub served : Bool
  pub source : Option Source
  pub purpose : Purpose
  pub key : Key
  pub known : Bool
  pub reply : Option Head

-- the range request for a part: up to its last place, under the content's tag (RFC 9110, sections 13.1.5 and 14.2)
abbrev pub range_of : Source → Part → Wanted
range_of source part = wanted.Part part.first (part.end - 1) source.tag source.total

-- the part is asked for by its range
pub record IsRangeOf (source : Option Source) (part : Part) (asked : Wanted) : Type 0 where
  pub of : Source
  pub source_is : source ≡ Some of
  pub asked_is : asked ≡ range_of of part

-- the first reply brings the first part, and the others are asked for by their ranges
abbrev pub WantedBy : Asking → Part → Wanted → Type 0
WantedBy asking part asked =
    ((asking.served ≡ true) × (part.index ≡ 0) × (asked ≡ wanted.Whole))
    ⊎ (((asking.served ≡ false) ⊎ (part.index ≢ 0)) × IsRangeOf asking.source part asked)

-- A connection is made for the round, and its whole request asks for the part, from its first place on. What came where the whole content was asked for begins with
-- the head of the first reply.
pub record IsAsked (tells : Type 0) (asking : Asking) (part : Part) (asked : Wanted) (purpose : Purpose) (sent came : List ℕ) : Type 0 where
  pub wanted_is : WantedBy asking part asked
  pub first_is : first_of asked ≡ part.first
  pub purpose_is : tells → purpose ≡ asking.purpose
  pub sent_is : tells → sent ≡ request_of purpose.address (ask_of asked)
  pub replied : tells → asked ≡ wanted.Whole → SaysReply asking.reply came

-- Ranges are asked for under a strong tag of a content whose total is known.
abbrev pub source_by : Address → Key → Option ℕ → Option Source
source_by address (Strong tag) (Some total) = Some (record { address = address; tag = tag; total = total })
source_by address (Strong tag) None = None
source_by address (Once id attempt) total = None

-- how many parts are asked for: as many as are wanted where the first reply has a strong tag and a total and gives ranges, and else one
abbrev pub count_by : ℕ → Option (List ℕ) → Option ℕ → Bool → ℕ
count_by slices (Some tag) (Some total) true = slices
count_by slices (Some tag) (Some total) false = 1
count_by slices (Some tag) None ranges = 1
count_by slices None total ranges = 1
