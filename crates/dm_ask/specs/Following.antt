-- What the steps say that lead from the first address to a reply with content.
use Rattle.std.specs.Prelude.{◌≡◌, ◌⊎◌, ℕ, ◌≤◌, List, [], ◌∷◌, ◌++◌, length, take, Result, MatchResult, IfSome, IsTrue, None}
use Rattle.dm_types.specs.Faults.{Rose}
use Rattle.dm_types.specs.declared.address.Address.{Address}
use Rattle.dm_policy.specs.declared.cause.Cause.{Cause}
use Rattle.dm_policy.specs.declared.cause.Cause.TheVariants as cause
use Rattle.dm_edge.specs.declared.fault.NetFault.{NetFault}
use Rattle.dm_edge.specs.declared.fault.WireFault.{WireFault}
use Rattle.dm_edge.specs.declared.wanted.Wanted.{Wanted}
use Rattle.dm_edge.specs.declared.wanted.Wanted.TheVariants.{Whole, Part}
use Rattle.dm_edge.specs.Causes.{IsNetFault, IsWireFault, CutsNet, CutsWire}
use Rattle.dm_edge.specs.Fair.{ask_of, key_of}
use Rattle.dm_types.specs.declared.item.Key.{Key}
use Rattle.dm_edge.specs.Wire.{Purpose, Told, Closed}
use Rattle.dm_edge.specs.Begins.{HasRedirect, IsNinthInterim, ComesToBroke}
use Rattle.dm_reply.specs.declared.head.Head.{Head}
use Rattle.dm_reply.specs.declared.head.HeadFault.{HeadFault}
use Rattle.dm_reply.specs.declared.head.HeadFault.TheVariants as fault
use Rattle.dm_reply.specs.declared.head.Kind.TheVariants as kind
use Rattle.dm_reply.specs.Content.{Reader, HeadSays, IsPlainHead, IsFramedAs}
use Rattle.dm_reply.specs.Faults.{cause_kind}
use Rattle.dm_request.specs.Fault.{IsNext, IsNowhere}
use Rattle.dm_request.specs.Request.{request_of}
use Rattle.dm_ask.specs.declared.asking.NoContent.{NoContent}
use Rattle.dm_ask.specs.declared.asking.NoContent.TheVariants.{Redirect, Broke}
use Rattle.dm_ask.specs.Redirects.{most_redirects, Led}
use Rattle.dm_ask.specs.Causes.{MeetsHead, IsAskCause, is_talk_cause}

-- the cause of a refused head
abbrev pub head_cause : HeadFault → Cause
head_cause (fault.Broke broke) = broke
head_cause fault.NoMemory = cause.Memory

-- What a reader has behind a head, whatever its wire tells: it is one of what is wanted, nothing was given and nothing broke it, and the head and the
-- reader say the same lengths.
pub record IsHeard (wanted : Wanted) (reader : Reader) (head : Head) : Type 0 where
  pub wanted_is : reader.wanted ≡ wanted
  pub plain : IsPlainHead wanted head
  pub framed : IsFramedAs wanted head reader head.kind
  pub unread : reader.reading.given ≡ 0
  pub unbroken : reader.reading.broke ≡ None

-- the same of a head that content follows, and its key
pub record IsContent (wanted : Wanted) (made_for : Address → Purpose) (reader : Reader) (head : Head) (key : Key) : Type 0 where
  pub kind_is : head.kind ≡ kind.Content
  pub heard : IsHeard wanted reader head
  pub key_is : (address : Address) → key ≡ key_of (made_for address) head.strong

-- the cause is that of the stream's head
abbrev pub IsOfHead : Wanted → List ℕ → Cause → Type 0
IsOfHead wanted stream broke = IsNinthInterim stream broke ⊎ ComesToBroke wanted stream broke

-- memory was wanting, a call on the wire failed, or the stream's head has the cause
abbrev pub TalkBroke : Wanted → (WireFault → ℕ) → List ℕ → Cause → Type 0
TalkBroke wanted counts stream broke = (broke ≡ cause.Memory) ⊎ (IsWireFault counts broke ⊎ IsOfHead wanted stream broke)

-- a cause of a wire's faults shows in its counts
abbrev pub ShowsOn : (WireFault → ℕ) → Cause → Type 0
ShowsOn counts broke = IfSome (cause_kind broke) (λ kind. Rose 0 (counts kind))

-- what was sent until a cause: the whole request, or some front of it where the cause is one that cuts it off
abbrev pub SentUntil : (Cause → Type 0) → List ℕ → List ℕ → Cause → Type 0
SentUntil Cuts request sent broke = (sent ≡ request) ⊎ (Cuts broke × ((n : ℕ) × (sent ≡ take n request)))

-- the whole request was sent, unless a cause cut it off
abbrev pub SentBy : {T : Type 0} → (WireFault → ℕ) → List ℕ → List ℕ → Result T Cause → Type 0
SentBy counts request sent result = MatchResult result (λ _. sent ≡ request) (SentUntil (CutsWire counts) request sent)

-- what it says of a wire that no content came on it
abbrev pub MeetsNone : Wanted → (WireFault → ℕ) → List ℕ → NoContent → Type 0
MeetsNone wanted counts stream (Redirect location) = HasRedirect wanted stream location
MeetsNone wanted counts stream (Broke broke) = TalkBroke wanted counts stream broke

-- the whole request was sent before a redirect
abbrev pub SentBefore : (WireFault → ℕ) → List ℕ → List ℕ → NoContent → Type 0
SentBefore counts request sent (Redirect location) = sent ≡ request
SentBefore counts request sent (Broke broke) = SentUntil (CutsWire counts) request sent broke

abbrev pub SentWith : {T : Type 0} → (WireFault → ℕ) → List ℕ → List ℕ → Result T NoContent → Type 0
SentWith counts request sent result = MatchResult result (λ _. sent ≡ request) (SentBefore counts request sent)

-- a cause, if it is one, is one of a connection, and shows in the wire's counts where it is one of its faults
abbrev pub ShownOn : (WireFault → ℕ) → NoContent → Type 0
ShownOn counts (Redirect location) = Unit {0}
ShownOn counts (Broke broke) = IsTrue (is_talk_cause broke) × ShowsOn counts broke

-- A connection for this purpose was sent the request, and its head was read.
pub record IsAnswered (wanted : Wanted) (made_for : Purpose) (request : List ℕ) (purpose : Purpose) (told : Told) (reader : Reader) (head : Head) : Type 0 where
  pub purpose_is : purpose ≡ made_for
  pub sent : told.sent ≡ request
  pub says : HeadSays wanted told reader head

-- one connection was made and closed, and its stream leads elsewhere
pub record IsRedirected (wanted : Wanted) (made_for : Purpose) (request : List ℕ) (before after : List Closed) (location : List ℕ) : Type 0 where
  pub connection : Closed
  pub last : after ≡ before ++ connection ∷ []
  pub purpose_is : connection.purpose ≡ made_for
  pub sent : connection.sent ≡ request
  pub redirects : HasRedirect wanted connection.stream location

-- one connection was made and closed, and met this cause
pub record IsBrokenOff (made_for : Purpose) (request : List ℕ) (net_before net_after : NetFault → ℕ) (Meets : List ℕ → Cause → Type 0) (before after : List Closed) (broke : Cause) : Type 0 where
  pub connection : Closed
  pub last : after ≡ before ++ connection ∷ []
  pub purpose_is : connection.purpose ≡ made_for
  pub sent : SentUntil (CutsNet net_before net_after) request connection.sent broke
  pub met : (broke ≡ cause.Memory) ⊎ (IsNetFault net_before net_after broke ⊎ Meets connection.stream broke)

-- no connection was made: memory was wanting, or a call on the net failed
abbrev pub IsUnreached : (NetFault → ℕ) → (NetFault → ℕ) → List Closed → List Closed → Cause → Type 0
IsUnreached net_before net_after before after broke = (after ≡ before) × CutsNet net_before net_after broke

-- what it says of one connection that no content came
abbrev pub NoneSays : Wanted → Purpose → List ℕ → (NetFault → ℕ) → (NetFault → ℕ) → List Closed → List Closed → NoContent → Type 0
NoneSays wanted made_for request net_before net_after before after (Redirect location) = IsRedirected wanted made_for request before after location
NoneSays wanted made_for request net_before net_after before after (Broke broke) =
    IsUnreached net_before net_after before after broke ⊎ IsBrokenOff made_for request net_before net_after (IsOfHead wanted) before after broke

-- where a part is wanted nothing leads on
abbrev pub LeadsFor : Wanted → NoContent → Type 0
LeadsFor Whole none = Unit {0}
LeadsFor (Part first last tag total) (Redirect location) = ⊥
LeadsFor (Part first last tag total) (Broke broke) = Unit {0}

-- a part is wanted
abbrev pub IsPart : Wanted → Type 0
IsPart Whole = ⊥
IsPart (Part first last tag total) = Unit {0}

-- it is a cause
abbrev pub IsCause : NoContent → Type 0
IsCause (Redirect location) = ⊥
IsCause (Broke broke) = Unit {0}

-- a cause, if it is one, is one of the asking
abbrev pub NoneShown : (NetFault → ℕ) → (NetFault → ℕ) → NoContent → Type 0
NoneShown before after (Redirect location) = Unit {0}
NoneShown before after (Broke broke) = IsAskCause before after broke

-- this address is the next one
abbrev pub GoesTo : Address → NoContent → Address → Type 0
GoesTo base (Redirect location) next = IsNext base location next
GoesTo base (Broke broke) next = ⊥

-- there is no next address, by this cause
abbrev pub StopsBy : Address → ℕ → NoContent → Cause → Type 0
StopsBy at followed (Redirect location) broke =
    (broke ≡ cause.Memory) ⊎ (((broke ≡ cause.BadLocation) × IsNowhere at location) ⊎ ((broke ≡ cause.TooManyRedirects) × (followed ≡ most_redirects)))
StopsBy at followed (Broke met) broke = broke ≡ met

-- So many connections led on from the first address to this one, and nothing else was closed since.
pub record IsLed (made_for : Address → Purpose) (first : Address) (before now : List Closed) (at : Address) (followed : ℕ) : Type 0 where
  pub led : List Closed
  pub closed : now ≡ before ++ led
  pub count : length led ≡ followed
  pub leads : Led made_for first led at

-- No content was reached, by this cause: at most ten connections led on, none for a part, and then none was made, or the last one met the cause.
pub record IsStopped (wanted : Wanted) (made_for : Address → Purpose) (first : Address) (net_before net_after : NetFault → ℕ) (before after : List Closed) (broke : Cause) : Type 0 where
  pub led : List Closed
  pub few : length led ≤ most_redirects
  pub at : Address
  pub leads : Led made_for first led at
  pub direct : (wanted ≡ Whole) ⊎ (led ≡ [])
  pub ended : IsUnreached net_before net_after (before ++ led) after broke
      ⊎ IsBrokenOff (made_for at) (request_of at (ask_of wanted)) net_before net_after (MeetsHead wanted at (length led)) (before ++ led) after broke
