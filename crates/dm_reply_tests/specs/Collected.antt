-- What a caller knows that reads a reply to its end, and follows no redirect.
use Rattle.std.specs.Prelude.{◌≡◌, ℕ, List}
use Rattle.httparse.specs.Grammar.{ResponseHead}
use Rattle.dm_policy.specs.declared.cause.Cause.{Cause}
use Rattle.dm_policy.specs.declared.cause.Cause.TheVariants as cause
use Rattle.dm_edge.specs.declared.wanted.Wanted.{Wanted}
use Rattle.dm_edge.specs.Begins.{BeginsRedirect, HeadBroke}
use Rattle.dm_edge.specs.Reply.{ContentBroke}
use Rattle.dm_reply.specs.Content.{Reader, HasRead}
use Rattle.dm_reply.specs.declared.head.HeadFault.{HeadFault}
use Rattle.dm_reply.specs.declared.head.HeadFault.TheVariants as fault

-- The answer that ended the reading is that of the whole stream.
pub data IsBroken (wanted : Wanted) (stream : List ℕ) (broke : Cause) : Type 0 where
  in_head : HeadBroke wanted stream broke → IsBroken wanted stream broke
  in_content : (content : List ℕ) → ContentBroke wanted stream content broke → IsBroken wanted stream broke
  led_on : (head : ResponseHead) (location : List ℕ) → BeginsRedirect wanted stream head location → broke ≡ cause.TooManyRedirects → IsBroken wanted stream broke

-- want of memory says nothing
abbrev pub CollectBreaks : Wanted → List ℕ → HeadFault → Type 0
CollectBreaks wanted stream (fault.Broke broke) = IsBroken wanted stream broke
CollectBreaks wanted stream fault.NoMemory = Unit {0}

-- behind some head of the wanted content this was read
pub record HasCollected (wanted : Wanted) (given : List ℕ) (reader : Reader) (content : List ℕ) : Type 0 where
  pub head : ResponseHead
  pub read : HasRead wanted head given reader content
