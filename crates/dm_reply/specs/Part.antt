-- What the reader of a part makes of the answers that the framed content gives.
use Rattle.std.specs.Prelude.{ℕ, Some, Result, Ok, Err}
use Rattle.dm_policy.specs.declared.cause.Cause.{Cause}
use Rattle.dm_policy.specs.declared.cause.Cause.TheVariants.{ContentShort}
use Rattle.dm_reply.specs.declared.got.Got.{Got}
use Rattle.dm_reply.specs.declared.got.Got.TheVariants.{Bytes, End}

-- a cause that ends the framed content, where the part lacks bytes: of a short one the part's size is told
abbrev pub part_cause : ℕ → ℕ → Cause → Cause
part_cause given size (ContentShort have told) = ContentShort given (Some size)
part_cause given size broke = broke

-- an answer of the framed content, where the part lacks bytes: an end comes too early
abbrev pub part_answer : ℕ → ℕ → Result Got Cause → Result Got Cause
part_answer given size (Ok (Bytes count)) = Ok (Bytes count)
part_answer given size (Ok End) = Err (ContentShort given (Some size))
part_answer given size (Err broke) = Err (part_cause given size broke)
