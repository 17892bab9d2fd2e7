-- What an answer of `ask` hands out, and what it says.
use Rattle.std.specs.Prelude.{◌≡◌, ◌⊎◌, ℕ, ◌≤◌, List, [], ◌++◌, length, None, Result, Ok, Err}
use Rattle.dm_types.specs.declared.address.Address.{Address}
use Rattle.dm_types.specs.declared.item.Key.{Key}
use Rattle.dm_policy.specs.declared.cause.Cause.{Cause}
use Rattle.dm_policy.specs.declared.cause.Cause.TheVariants as cause
use Rattle.dm_edge.specs.declared.wanted.Wanted.{Wanted}
use Rattle.dm_edge.specs.declared.wanted.Wanted.TheVariants.{Whole}
use Rattle.dm_edge.specs.Fair.{ask_of, key_of}
use Rattle.dm_edge.specs.Wire.{Purpose, Seen, Closed}
use Rattle.dm_request.specs.Fault.{IsRead}
use Rattle.dm_request.specs.Request.{request_of}
use Rattle.dm_reply.specs.declared.head.Head.{Head}
use Rattle.dm_reply.specs.declared.head.Kind.TheVariants as kind
use Rattle.dm_reply.specs.Content.{Reader, HeadSays, IsPlainHead, IsFramedAs}
use Rattle.dm_ask.specs.declared.aim.Aim.{Aim}
use Rattle.dm_ask.specs.declared.asked.Asked.{Asked}
use Rattle.dm_ask.specs.declared.asked.Asked.TheVariants as asked
use Rattle.dm_ask.specs.declared.following.Reached.{Reached}
use Rattle.dm_ask.specs.Redirects.{most_redirects, Led}

-- the request is the one for what is wanted
abbrev pub IsAim : Wanted → Aim → Type 0
IsAim wanted aim = aim.request ≡ request_of aim.address (ask_of wanted)

-- What is handed out, over any net: a reader of what is wanted, a head of content, of which nothing was given, the key of the head, and an address that
-- is read of its own text where the first one is.
pub record IsReady (wanted : Wanted) (made_for : Address → Purpose) (first : Address) (reader : Reader) (head : Head) (address : Address) (key : Key) : Type 0 where
  pub kind_is : head.kind ≡ kind.Content
  pub wanted_is : reader.wanted ≡ wanted
  pub plain : IsPlainHead wanted head
  pub framed : IsFramedAs wanted head reader kind.Content
  pub unread : reader.reading.given ≡ 0
  pub unbroken : reader.reading.broke ≡ None
  pub key_is : key ≡ key_of (made_for address) head.strong
  pub reads : IsRead first.text first → IsRead address.text address

-- What is handed out, where the net tells: at most ten connections led to the address, none for a part; the connection was made for it and was sent the
-- whole request; and the head was read of its stream.
pub record IsReached (wanted : Wanted) (made_for : Address → Purpose) (first : Address) (before after : List Closed) (seen : Seen) (reader : Reader) (head : Head) (address : Address) : Type 0 where
  pub led : List Closed
  pub few : length led ≤ most_redirects
  pub leads : Led made_for first led address
  pub closed : after ≡ before ++ led
  pub direct : (wanted ≡ Whole) ⊎ (led ≡ [])
  pub purpose_is : seen.purpose ≡ made_for address
  pub sent : seen.told.sent ≡ request_of address (ask_of wanted)
  pub says : HeadSays wanted seen.told reader head

-- of an answer with content this holds
abbrev pub IfContent : {W : Type 0} → Asked W → (W → Reader → Head → Address → Key → Type 0) → Type 0
IfContent (asked.Content wire reader head address key) P = P wire reader head address key
IfContent (asked.Broke broke) P = Unit {0}
IfContent asked.NoMemory P = Unit {0}

-- of the cause of one without content this holds, where want of memory is one
abbrev pub IfStopped : {W : Type 0} → Asked W → (Cause → Type 0) → Type 0
IfStopped (asked.Content wire reader head address key) P = Unit {0}
IfStopped (asked.Broke broke) P = P broke
IfStopped asked.NoMemory P = P cause.Memory

-- of the cause that is answered this holds
abbrev pub IfBroke : {W : Type 0} → Asked W → (Cause → Type 0) → Type 0
IfBroke (asked.Content wire reader head address key) P = Unit {0}
IfBroke (asked.Broke broke) P = P broke
IfBroke asked.NoMemory P = Unit {0}

-- the answer that is made of what was reached, or of the cause for which nothing was
abbrev pub asked_of : {W : Type 0} → Result (Reached W) Cause → Asked W
asked_of (Ok found) = asked.Content found.wire found.reader found.head found.address found.key
asked_of (Err cause.Memory) = asked.NoMemory
asked_of (Err broke) = asked.Broke broke
