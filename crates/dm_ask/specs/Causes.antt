-- What each cause says that ends the asking.
use Rattle.std.specs.Prelude.{◌≡◌, ℕ, Bool, true, false, IsTrue, List, Option, Some, None, IfSome}
use Rattle.dm_types.specs.Faults.{Rose}
use Rattle.dm_types.specs.declared.address.Address.{Address}
use Rattle.dm_policy.specs.declared.cause.Cause.{Cause}
use Rattle.dm_policy.specs.declared.cause.Cause.TheVariants as cause
use Rattle.dm_edge.specs.declared.fault.NetFault.{NetFault}
use Rattle.dm_edge.specs.declared.fault.NetFault.TheVariants as net
use Rattle.dm_edge.specs.declared.wanted.Wanted.{Wanted}
use Rattle.dm_edge.specs.Causes.{is_head_cause}
use Rattle.dm_edge.specs.Begins.{HasRedirect, IsNinthInterim, ComesToBroke}
use Rattle.dm_request.specs.Fault.{IsNowhere}
use Rattle.dm_ask.specs.Redirects.{most_redirects}

-- What a cause says that ends the asking at the head of a reply: of the whole stream, of the address that it was asked for, and of how many redirects
-- were followed to there.
pub data MeetsHead (wanted : Wanted) (at : Address) (followed : ℕ) (stream : List ℕ) (broke : Cause) : Type 0 where
  ninth : IsNinthInterim stream broke → MeetsHead wanted at followed stream broke
  refused : ComesToBroke wanted stream broke → MeetsHead wanted at followed stream broke
  nowhere : (location : List ℕ) → broke ≡ cause.BadLocation → HasRedirect wanted stream location → IsNowhere at location → MeetsHead wanted at followed stream broke
  too_many : (location : List ℕ) → broke ≡ cause.TooManyRedirects → HasRedirect wanted stream location → followed ≡ most_redirects
      → MeetsHead wanted at followed stream broke

-- the causes that may end the asking
abbrev pub is_ask_cause : Cause → Bool
is_ask_cause cause.NetNoRoute = true
is_ask_cause cause.NetRefused = true
is_ask_cause cause.BadLocation = true
is_ask_cause cause.TooManyRedirects = true
is_ask_cause cause.Memory = true
is_ask_cause broke = is_head_cause broke

-- the causes that may end it on a connection
abbrev pub is_talk_cause : Cause → Bool
is_talk_cause cause.Memory = true
is_talk_cause broke = is_head_cause broke

-- the count of the net that a cause shows in, where it shows in one
abbrev pub net_kind_of : Cause → Option NetFault
net_kind_of cause.NetNoRoute = Some net.NoRoute
net_kind_of cause.NetRefused = Some net.Refused
net_kind_of cause.NetTimeout = Some net.Timeout
net_kind_of cause.NetFailed = Some net.Failed
net_kind_of _ = None

-- A cause of the asking, which shows in the net's counts where it is one of its faults.
pub record IsAskCause (before after : NetFault → ℕ) (broke : Cause) : Type 0 where
  pub own : IsTrue (is_ask_cause broke)
  pub counted : IfSome (net_kind_of broke) (λ kind. Rose (before kind) (after kind))
