-- What holds of the heads of every stream.
use Rattle.std.specs.Prelude.{◌≡◌, ℕ, List, ◌++◌}
use Rattle.httparse.specs.Grammar.{ResponseHead}
use Rattle.dm_policy.specs.declared.cause.Cause.{Cause}
use Rattle.dm_edge.specs.declared.framing.Framing.{Framing}
use Rattle.dm_edge.specs.declared.wanted.Wanted.{Wanted}
use Rattle.dm_edge.specs.Fields.{NameAndValue, FramedBy}
use Rattle.dm_edge.specs.Head.{BeginsWith, BeginsFinal, ComesTo, HasHead, HasNinthInterim}
use Rattle.dm_edge.specs.Begins.{BeginsContent, BeginsRedirect, ComesToBroke, HeadBroke, IsOfWire}

-- what a stream's head can be: one with the wanted content, one of a redirect, none for this cause, or one interim head too many
pub data Outcome : Type 0 where
  Content : ResponseHead → Framing → List ℕ → Outcome
  Redirect : ResponseHead → List ℕ → Outcome
  Broke : Cause → Outcome
  Ninth : ℕ → Outcome

abbrev pub IsOutcome : Wanted → List ℕ → Outcome → Type 0
IsOutcome wanted stream (Content head framing rest) = BeginsContent wanted stream head framing rest
IsOutcome wanted stream (Redirect head location) = BeginsRedirect wanted stream head location
IsOutcome wanted stream (Broke cause) = ComesToBroke wanted stream cause
IsOutcome wanted stream (Ninth status) = HasNinthInterim stream status

-- a stream has at most one outcome, whatever is wanted
abbrev pub OneOutcome : Type 0
OneOutcome = (wanted : Wanted) (stream : List ℕ) (outcome other : Outcome) → IsOutcome wanted stream outcome → IsOutcome wanted stream other → outcome ≡ other

-- a stream has at most one head, and what follows it
abbrev pub OneHead : Type 0
OneHead = (stream : List ℕ) (head other : ResponseHead) (rest behind : List ℕ)
    → HasHead stream head rest → HasHead stream other behind → (head ≡ other) × (rest ≡ behind)

-- fields frame a content in at most one way
abbrev pub OneFraming : Type 0
OneFraming = (minor : ℕ) (fields : List NameAndValue) (framing other : Framing)
    → FramedBy minor fields framing → FramedBy minor fields other → framing ≡ other

-- at most one cause ends the head, faults of the wire aside
abbrev pub OneCause : Type 0
OneCause = (wanted : Wanted) (stream : List ℕ) (cause other : Cause) → ¬ (IsOfWire cause) → ¬ (IsOfWire other)
    → HeadBroke wanted stream cause → HeadBroke wanted stream other → cause ≡ other

-- a head that a cause ends is no head with content and none of a redirect
pub record BrokeAlone : Type 0 where
  pub no_content : (wanted : Wanted) (stream : List ℕ) (cause : Cause) (head : ResponseHead) (framing : Framing) (rest : List ℕ) → ¬ (IsOfWire cause)
      → HeadBroke wanted stream cause → BeginsContent wanted stream head framing rest → ⊥
  pub no_redirect : (wanted : Wanted) (stream : List ℕ) (cause : Cause) (head : ResponseHead) (location : List ℕ) → ¬ (IsOfWire cause)
      → HeadBroke wanted stream cause → BeginsRedirect wanted stream head location → ⊥

-- what stands at the front stands there whatever follows
pub record MoreBytes : Type 0 where
  pub begins : (stream : List ℕ) (head : ResponseHead) (rest more : List ℕ) → BeginsWith stream head rest
      → BeginsWith (stream ++ more) head (rest ++ more)
  pub final : (stream : List ℕ) (head : ResponseHead) (rest more : List ℕ) → BeginsFinal stream head rest
      → BeginsFinal (stream ++ more) head (rest ++ more)
  pub comes : (stream from more : List ℕ) → ComesTo stream from → ComesTo (stream ++ more) (from ++ more)
  pub has : (stream : List ℕ) (head : ResponseHead) (rest more : List ℕ) → HasHead stream head rest
      → HasHead (stream ++ more) head (rest ++ more)
  pub ninth : (stream : List ℕ) (status : ℕ) (more : List ℕ) → HasNinthInterim stream status → HasNinthInterim (stream ++ more) status
