-- What holds of the replies of every stream.
use Rattle.std.specs.Prelude.{◌≡◌, ℕ, ◌⊎◌, List, Option}
use Rattle.httparse.specs.Grammar.{ResponseHead}
use Rattle.dm_policy.specs.declared.cause.Cause.{Cause}
use Rattle.dm_policy.specs.declared.cause.Cause.TheVariants as cause
use Rattle.dm_edge.specs.declared.wanted.Wanted.{Wanted}
use Rattle.dm_edge.specs.Begins.{BeginsRedirect, HeadBroke, IsOfWire}
use Rattle.dm_edge.specs.Reply.{IsWhole, IsShort, IsBadlyChunked, IsOverfull, ContentBroke}

-- how a content ends: whole, short of what was told, where no chunk goes on, or where one byte too many comes
pub data Ending : Type 0 where
  Whole : List ℕ → Ending
  Short : List ℕ → Option ℕ → Ending
  BadlyChunked : List ℕ → Ending
  Overfull : List ℕ → Ending

abbrev pub IsEnding : Wanted → List ℕ → Ending → Type 0
IsEnding wanted stream (Whole content) = IsWhole wanted stream content
IsEnding wanted stream (Short content told) = IsShort wanted stream content told
IsEnding wanted stream (BadlyChunked content) = IsBadlyChunked wanted stream content
IsEnding wanted stream (Overfull content) = IsOverfull wanted stream content

-- a stream's content ends in at most one way, and is one, whatever is wanted
abbrev pub OneEnding : Type 0
OneEnding = (wanted : Wanted) (stream : List ℕ) (ending other : Ending) → IsEnding wanted stream ending → IsEnding wanted stream other → ending ≡ other

-- Where a stream is a whole reply, its content is one, its head leads nowhere else, and only the wire or want of memory ends its reading.
pub record WholeAlone : Type 0 where
  pub one_content : (wanted : Wanted) (stream content other : List ℕ) → IsWhole wanted stream content → IsWhole wanted stream other → content ≡ other
  pub no_redirect : (wanted : Wanted) (stream content : List ℕ) (head : ResponseHead) (location : List ℕ) → IsWhole wanted stream content
      → BeginsRedirect wanted stream head location → ⊥
  pub no_head_cause : (wanted : Wanted) (stream content : List ℕ) (broke : Cause) → IsWhole wanted stream content → HeadBroke wanted stream broke → IsOfWire broke
  pub no_content_cause : (wanted : Wanted) (stream content given : List ℕ) (broke : Cause) → IsWhole wanted stream content → ContentBroke wanted stream given broke
      → IsOfWire broke ⊎ (broke ≡ cause.Memory)
