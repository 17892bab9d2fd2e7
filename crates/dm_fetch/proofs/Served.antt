-- Where each request is served whole, no head has a cause, and no content breaks.
use Rattle.std.proofs.Common.{◌≡◌, ◌≢◌, ◌⊎◌, inl, inr, ℕ, List, ◌++◌, refl, ap, subst}
use Rattle.std.specs.Prelude.{IfSome}
use Rattle.dm_types.specs.Faults.{NoneRose, Rose}
use Rattle.dm_types.specs.declared.address.Address.{Address}
use Rattle.dm_policy.specs.declared.cause.Cause.{Cause}
use Rattle.dm_policy.specs.declared.cause.Cause.TheVariants as causes
use Rattle.dm_request.specs.Fault.{IsNext}
use Rattle.httparse.specs.Grammar.{ResponseHead}
use Rattle.dm_edge.specs.declared.fault.NetFault.{NetFault}
use Rattle.dm_edge.specs.declared.fault.NetFault.TheVariants as nets
use Rattle.dm_edge.specs.declared.wanted.Wanted.{Wanted}
use Rattle.dm_edge.specs.declared.wanted.Wanted.TheVariants.{Part, Whole}
use Rattle.dm_edge.specs.declared.framing.Framing.{Framing}
use Rattle.dm_edge.specs.declared.framing.Framing.TheVariants as framings
use Rattle.dm_edge.specs.Begins.{BeginsContent, BeginsRedirect, HasRedirect, IsOfWire}
use Rattle.dm_edge.specs.Reply.{ContentBroke, IsWhole}
use Rattle.dm_ask.specs.Causes.{MeetsHead, net_kind_of, ninth, nowhere, refused, too_many}
use Rattle.dm_ask.specs.Redirects.{most_redirects}
use Rattle.dm_head.specs.Laws.{Content, Outcome, Redirect}
use Rattle.dm_head.proofs.Outcomes.{broke_alone, one_outcome}
use Rattle.dm_reply.proofs.Outcomes.{whole_alone}
use Rattle.dm_fetch.specs.Serves.{LeadsOn, Serves}

-- the stream has a head with content
record HasContent (stream : List ℕ) : Type 0 where
  head : ResponseHead
  framing : Framing
  rest : List ℕ
  begins : BeginsContent Whole stream head framing rest

content_begins : (stream given : List ℕ) (cause : Cause) → ContentBroke Whole stream given cause → HasContent stream
content_begins stream given causes.NetFailed broke = record { head = broke.head; framing = broke.some.framing; rest = broke.some.bytes ++ broke.some.after; begins = broke.some.begins }
content_begins stream given causes.NetTimeout broke = record { head = broke.head; framing = broke.some.framing; rest = broke.some.bytes ++ broke.some.after; begins = broke.some.begins }
content_begins stream given causes.Memory broke = record { head = broke.head; framing = broke.some.framing; rest = broke.some.bytes ++ broke.some.after; begins = broke.some.begins }
content_begins stream given (causes.ContentShort have told) broke = record { head = broke.0.head; framing = broke.0.lacks.framing; rest = broke.0.lacks.rest; begins = broke.0.lacks.begins }
content_begins stream given causes.BadFraming broke = record { head = broke.head; framing = framings.Chunked; rest = broke.breaks.rest; begins = broke.breaks.begins }
content_begins stream given (causes.TooLarge total) broke = record { head = broke.0.head; framing = broke.0.over.framing; rest = broke.0.over.bytes ++ broke.0.over.after; begins = broke.0.over.begins }
content_begins stream given other broke = absurd broke

abbrev is_redirect : Outcome → Type 0
is_redirect (Redirect head location) = Unit {0}
is_redirect outcome = ⊥

-- no head is both one of content and one of a redirect
pub content_alone : (stream : List ℕ) (head : ResponseHead) (framing : Framing) (rest : List ℕ) (other : ResponseHead) (location : List ℕ) → BeginsContent Whole stream head framing rest → BeginsRedirect Whole stream other location → ⊥
content_alone stream head framing rest other location begins leads = subst is_redirect (one_outcome Whole stream (Redirect other location) (Content head framing rest) leads begins) tt

redirect_no_content : (stream : List ℕ) (head : ResponseHead) (location : List ℕ) → BeginsRedirect Whole stream head location → (given : List ℕ) (cause : Cause) → ContentBroke Whole stream given cause → ⊥
redirect_no_content stream head location begins given cause broke =
    let has = content_begins stream given cause broke in
    content_alone stream has.head has.framing has.rest head location has.begins begins

-- no count of the net rose that the cause shows in
abbrev pub IsQuiet : (NetFault → ℕ) → (NetFault → ℕ) → Cause → Type 0
IsQuiet before after cause = IfSome (net_kind_of cause) (λ kind. Rose (before kind) (after kind))

-- a whole content was wanted, so many redirects were followed, and another one came
pub record IsEleventh (wanted : Wanted) (followed : ℕ) (stream : List ℕ) : Type 0 where
  pub whole : wanted ≡ Whole
  pub many : followed ≡ most_redirects
  pub location : List ℕ
  pub redirects : HasRedirect Whole stream location

module _ (before after : NetFault → ℕ) (none : NoneRose before after) (cause : Cause) (counted : IsQuiet before after cause) where
  -- the cause is no fault of a wire
  pub no_wire : IsOfWire cause → ⊥
  no_wire (inl failed) = none nets.Failed (subst (IsQuiet before after) failed counted)
  no_wire (inr timeout) = none nets.Timeout (subst (IsQuiet before after) timeout counted)

  -- a whole content has no cause in its head
  pub head_whole : (wanted : Wanted) (at : Address) (followed : ℕ) (stream content : List ℕ) → IsWhole wanted stream content → MeetsHead wanted at followed stream cause → ⊥
  head_whole wanted at followed stream content whole (ninth is) = no_wire (whole_alone.no_head_cause wanted stream content cause whole (inr (inl is)))
  head_whole wanted at followed stream content whole (refused is) = no_wire (whole_alone.no_head_cause wanted stream content cause whole (inr (inr is)))
  head_whole wanted at followed stream content whole (nowhere location is redirects none_there) = whole_alone.no_redirect wanted stream content redirects.head location whole redirects.begins
  head_whole wanted at followed stream content whole (too_many location is redirects many) = whole_alone.no_redirect wanted stream content redirects.head location whole redirects.begins

  -- and none in its content
  pub content_whole : (wanted : Wanted) (stream content given : List ℕ) → cause ≢ causes.Memory → IsWhole wanted stream content → ContentBroke wanted stream given cause → ⊥
  content_whole wanted stream content given apart whole broke = by (whole_alone.no_content_cause wanted stream content given cause whole broke)
    where
      by : IsOfWire cause ⊎ (cause ≡ causes.Memory) → ⊥
      by (inl wire) = no_wire wire
      by (inr memory) = apart memory

  abbrev location_of : Outcome → List ℕ → List ℕ
  location_of (Redirect head location) other = location
  location_of outcome other = other

  one_location : (stream : List ℕ) (head other : ResponseHead) (location told : List ℕ) → BeginsRedirect Whole stream head location → BeginsRedirect Whole stream other told → location ≡ told
  one_location stream head other location told one two = ap (λ (o : Outcome). location_of o told) (one_outcome Whole stream (Redirect head location) (Redirect other told) one two)

  -- where the stream leads on, only too many redirects are met
  pub head_leads : (at : Address) (followed : ℕ) (stream : List ℕ) → LeadsOn at stream → MeetsHead Whole at followed stream cause → followed ≡ most_redirects
  head_leads at followed stream leads (ninth is) = absurd (broke_alone.no_redirect Whole stream cause leads.redirects.head leads.location no_wire (inr (inl is)) leads.redirects.begins)
  head_leads at followed stream leads (refused is) = absurd (broke_alone.no_redirect Whole stream cause leads.redirects.head leads.location no_wire (inr (inr is)) leads.redirects.begins)
  head_leads at followed stream leads (nowhere location is redirects none_there) =
      absurd (none_there leads.next (subst (λ (l : List ℕ). IsNext at l leads.next) (one_location stream leads.redirects.head redirects.head leads.location location leads.redirects.begins redirects.begins) leads.is_next))
  head_leads at followed stream leads (too_many location is redirects many) = many

  -- a reply that serves has no cause in its head but an eleventh redirect
  pub served_head : (wanted : Wanted) (at : Address) (followed : ℕ) (stream : List ℕ) → Serves wanted at stream → MeetsHead wanted at followed stream cause → IsEleventh wanted followed stream
  served_head Whole at followed stream (inl brings) met = absurd (head_whole Whole at followed stream brings.content brings.whole met)
  served_head Whole at followed stream (inr leads) met = record { whole = refl; many = head_leads at followed stream leads met; location = leads.location; redirects = leads.redirects }
  served_head (Part first last tag total) at followed stream serves met = absurd (head_whole (Part first last tag total) at followed stream serves.brings.content serves.brings.whole met)

  -- and its content doesn't break
  pub served_content : cause ≢ causes.Memory → (wanted : Wanted) (at : Address) (stream given : List ℕ) → Serves wanted at stream → ContentBroke wanted stream given cause → ⊥
  served_content apart Whole at stream given (inl brings) broke = content_whole Whole stream brings.content given apart brings.whole broke
  served_content apart Whole at stream given (inr leads) broke = redirect_no_content stream leads.redirects.head leads.location leads.redirects.begins given cause broke
  served_content apart (Part first last tag total) at stream given serves broke = content_whole (Part first last tag total) stream serves.brings.content given apart serves.brings.whole broke
