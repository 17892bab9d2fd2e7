-- The heads at the front of what came, against the whole stream.
use Rattle.std.specs.Prelude.{codes, nat_le}
use Rattle.std.specs.Option.{option_map}
use Rattle.std.proofs.lemmas.Bool.{leb-true}
use Rattle.std.proofs.Common.{◌≡◌, ◌↔◌, Bool, true, false, IsTrue, ℕ, ◌+◌, ◌-◌, ◌*◌, ◌<◌, ◌≤◌, ◌⊎◌, inl, inr, List, [], ◌∷◌, ◌++◌, length, drop, refl, sym, ap, ◌∙◌, subst, arith, Result, Ok, Err, IfOk, IfSome, Option, Some, None}
use Rattle.std.proofs.lemmas.List.{append-nil}
use Rattle.httparse.specs.declared.spans.Span.{Span}
use Rattle.httparse.specs.Spans.{IsWithin, span_bytes}
use Rattle.httparse.specs.Grammar.{ResponseHead}
use Rattle.dm_policy.specs.declared.cause.Cause.{Cause}
use Rattle.dm_policy.specs.declared.cause.Cause.TheVariants as cause
use Rattle.dm_types.specs.Faults.{HasCause, NoneFell, Rose}
use Rattle.dm_edge.specs.declared.fault.WireFault.{WireFault}
use Rattle.dm_edge.specs.declared.fault.WireFault.TheVariants as wire
use Rattle.dm_edge.specs.Causes.{is_head_cause}
use Rattle.dm_reply.specs.Faults.{cause_kind, head_kind}
use Rattle.dm_edge.specs.Wire.{Told, stream_of}
use Rattle.dm_edge.specs.declared.framing.Framing.{Framing}
use Rattle.dm_edge.specs.Head.{most_head, most_interim, Passes, ComesTo, IsHeadCut}
use Rattle.dm_chunk.specs.Fronts.{IsFrontOf}
use Rattle.dm_chunk.specs.declared.place.Place.TheVariants.{Digits}
use Rattle.dm_chunk.proofs.StepLemmas.{front_told, fresh}
use Rattle.dm_edge.specs.declared.framing.Framing.TheVariants as framing
use Rattle.dm_edge.specs.declared.wanted.Wanted.{Wanted}
use Rattle.dm_edge.specs.declared.wanted.Wanted.TheVariants.{Whole, Part}
use Rattle.dm_edge.specs.Part.{part_size}
use Rattle.dm_edge.specs.Begins.{content_status, told_total, LeadsTo, BeginsContent, BeginsRedirect, FrontBroke, HeadBroke, IsOfWire}
use Rattle.dm_head.specs.declared.part.Extent.{Extent}
use Rattle.dm_head.specs.Fit.{IsExtent, IsWithinLimit}
use Rattle.dm_edge.specs.Fields.{NameAndValue, values_of, fields_of}
use Rattle.dm_edge.specs.Metadata.{most_tag, IsStrongTag, IsOnlyValue, TakesRanges}
use Rattle.dm_head.specs.declared.metadata.Metadata.{Metadata}
use Rattle.dm_head.specs.Metadata.{CoversStrong, CoversOnly, IsMetadata}
use Rattle.dm_edge.specs.Metadata.{most_modified, only_within}
use Rattle.dm_head.specs.Look.{FindsInterim, FindsContent, FindsRedirect}
use Rattle.dm_head.proofs.PassLemmas.{passes_more, comes_more, has_more, ninth_more}
use Rattle.dm_reply.specs.declared.body.Body.{Body}
use Rattle.dm_reply.specs.declared.body.Body.TheVariants as body
use Rattle.dm_reply.specs.declared.found.Found.{Found}
use Rattle.dm_reply.specs.declared.head.Head.{Head}
use Rattle.dm_reply.specs.declared.head.HeadFault.{HeadFault}
use Rattle.dm_reply.specs.declared.head.HeadFault.TheVariants as fault
use Rattle.dm_reply.specs.declared.head.Kind.TheVariants as kind
use Rattle.dm_reply.specs.declared.receiving.Came.{Came}
use Rattle.dm_reply.specs.declared.receiving.Came.TheVariants as came
use Rattle.dm_reply.specs.Ahead.{Continues, ShownBy, HeadShows}
use Rattle.dm_reply.specs.Causes.{IsHeadFault}
use Rattle.dm_reply.specs.Content.{Reader, HasFramed, HasRead, IsSized, FieldsSay, HeadSays, HeadBreaks, KindSays, ExtentSays, EndsBy, PlacesSay, IsPlainHead, IsFramedAs, extent_of, no_extent, size_told, framing_of}
use Rattle.dm_reply.specs.Found.{AreWithin, AreShort, HasTexts, Starts, IsContentHead, IsRedirectHead, HasPassed, OpenBroke, MoreSays, IsShortHead, started}
use Rattle.dm_reply.specs.Unfinished.{LeavesHead}
use Rattle.dm_reply.specs.Steps.{going, head_fault_of}

-- ---- behind an open head

pub cut_broke : (wanted : Wanted) (now : Told) (ahead : List ℕ) → IsHeadCut ahead → now.left ≡ [] → OpenBroke wanted now now ahead cause.HeadCut
cut_broke wanted now ahead open_head over = record {
  given = refl;
  met = inr (subst (λ (t : List ℕ). FrontBroke wanted t cause.HeadCut) (sym (ap (λ t. ahead ++ t) over ∙ append-nil ahead)) open_head);
}

-- what a fault of the wire says of an open head
pub fault_broke : (wanted : Wanted) (now : Told) (ahead : List ℕ) (fault : WireFault) → MoreSays wanted now now ahead ahead (Err (head_fault_of fault))
fault_broke wanted now ahead wire.Failed = record { given = refl; met = inl (inl refl) }
fault_broke wanted now ahead wire.Timeout = record { given = refl; met = inl (inr refl) }
fault_broke wanted now ahead wire.NoMemory = tt

-- it is a cause of a head, or want of memory
pub fault_own : (fault : WireFault) → IsHeadFault (head_fault_of fault)
fault_own wire.Failed = refl
fault_own wire.Timeout = refl
fault_own wire.NoMemory = tt

-- and shows in the count that the fault shows in
pub fault_shows : (before now : WireFault → ℕ) (fault : WireFault) → ShownBy before now (came.Fault fault) → HeadShows before now (head_fault_of fault)
fault_shows before now wire.Failed shown = shown
fault_shows before now wire.Timeout shown = shown
fault_shows before now wire.NoMemory shown = tt

-- what showed in a count shows in it since an earlier moment
pub shown_since : (before first now : WireFault → ℕ) (next : Came) → NoneFell before first → ShownBy first now next → ShownBy before now next
shown_since before first now came.Bytes later shown = tt
shown_since before first now came.End later shown = tt
shown_since before first now (came.Fault wire.Failed) later shown = omega (arith, later wire.Failed, shown)
shown_since before first now (came.Fault wire.Timeout) later shown = omega (arith, later wire.Timeout, shown)
shown_since before first now (came.Fault wire.NoMemory) later shown = tt

-- whether more may come
abbrev pub more_of : Came → ℕ
more_of came.Bytes = 1
more_of came.End = 0
more_of (came.Fault fault) = 0

-- where more bytes came, or no more will, less is to come
pub less_left : (old new : ℕ) (before next : Came) → new ≤ most_head → before ≡ came.Bytes → old ≤ new → (next ≡ came.Bytes → old < new)
    → 2 * (most_head - new) + more_of next < 2 * (most_head - old) + more_of before
less_left old new before came.Bytes within is order more =
    subst (λ (b : Came). 2 * (most_head - new) + 1 < 2 * (most_head - old) + more_of b) (sym is) (omega (arith, within, more refl))
less_left old new before came.End within is order more =
    subst (λ (b : Came). 2 * (most_head - new) + 0 < 2 * (most_head - old) + more_of b) (sym is) (omega (arith, within, order))
less_left old new before (came.Fault fault) within is order more =
    subst (λ (b : Came). 2 * (most_head - new) + 0 < 2 * (most_head - old) + more_of b) (sym is) (omega (arith, within, order))

-- ---- interim heads

pub none_passed : (given : List ℕ) → given ≡ [] → HasPassed given [] 0
none_passed given fresh = record { passed = []; passes = fresh; size = refl }

pub one_passed : (given ahead : List ℕ) (count size status : ℕ) → HasPassed given ahead count → FindsInterim ahead size status
    → HasPassed given (drop size ahead) (count + 1)
one_passed given ahead count size status before finds = record {
  passed = finds.head ∷ before.passed;
  passes = (ahead, before.passes, finds.one);
  size = omega (arith, before.size);
}

pub more_passed : (before now : Told) (old new : List ℕ) (count : ℕ) → HasPassed before.given old count → Continues before now old new
    → HasPassed now.given new count
more_passed before now old new count passed more = record {
  passed = passed.passed;
  passes =
      subst (λ (g : List ℕ). Passes g passed.passed new) (sym more.given)
      (subst (λ (a : List ℕ). Passes (before.given ++ more.piece) passed.passed a) (sym more.ahead)
      (passes_more before.given passed.passed old passed.passes more.piece));
  size = passed.size;
}

comes_of : (given ahead : List ℕ) (count : ℕ) → HasPassed given ahead count → count ≤ most_interim → ComesTo given ahead
comes_of given ahead count passed few = record { passed = passed.passed; passes = passed.passes; few = omega (arith, passed.size, few) }

pub ninth_broke : (wanted : Wanted) (now : Told) (ahead : List ℕ) (count size status : ℕ) → HasPassed now.given ahead count → count ≡ most_interim
    → FindsInterim ahead size status → HeadBroke wanted (stream_of now) (cause.Status status)
ninth_broke wanted now ahead count size status passed all finds =
    inr (inl (
      status,
      refl,
      ninth_more (record {
        passed = passed.passed;
        from = ahead;
        passes = passed.passes;
        all = passed.size ∙ all;
        head = finds.head;
        rest = drop size ahead;
        one = finds.one;
        status_is = finds.status_is;
      }) now.left,
    ))

pub refused_broke : (wanted : Wanted) (now : Told) (ahead : List ℕ) (count : ℕ) (broke : Cause) → HasPassed now.given ahead count → count ≤ most_interim
    → ((more : List ℕ) → FrontBroke wanted (ahead ++ more) broke) → HeadBroke wanted (stream_of now) broke
refused_broke wanted now ahead count broke passed few met =
    inr (inr (record { from = ahead ++ now.left; comes = comes_more (comes_of now.given ahead count passed few) now.left; met = met now.left }))

-- what ends an open head ends the stream's
pub more_broke : (wanted : Wanted) (before now : Told) (old new : List ℕ) (count : ℕ) (refusal : HeadFault) → HasPassed before.given old count → count ≤ most_interim
    → MoreSays wanted before now old new (Err refusal) → HeadBreaks wanted (stream_of now) refusal
more_broke wanted before now old new count (fault.Broke broke) passed few said = of_met said.met
  where
    comes : ComesTo (stream_of now) (old ++ now.left)
    comes = subst (λ (g : List ℕ). ComesTo (g ++ now.left) (old ++ now.left)) (sym said.given) (comes_more (comes_of before.given old count passed few) now.left)

    of_met : IsOfWire broke ⊎ FrontBroke wanted (old ++ now.left) broke → HeadBroke wanted (stream_of now) broke
    of_met (inl wire) = inl wire
    of_met (inr met) = inr (inr (record { from = old ++ now.left; comes = comes; met = met }))
more_broke wanted before now old new count fault.NoMemory passed few said = tt

-- a fault behind an open head leaves it open
pub open_leaves : (before now : Told) (old new : List ℕ) (count : ℕ) (refusal : HeadFault) → HasPassed before.given old count → count ≤ most_interim
    → IsHeadCut old → ((wanted : Wanted) → MoreSays wanted before now old new (Err refusal)) → LeavesHead now.given refusal
open_leaves before now old new count (fault.Broke broke) passed few open_head said = λ wire. record {
  from = old;
  comes = subst (λ (g : List ℕ). ComesTo g old) (sym (said Whole).given) (comes_of before.given old count passed few);
  open_head = open_head;
}
open_leaves before now old new count fault.NoMemory passed few open_head said = tt

-- a cause that a head is refused for is none of the wire
pub front_leaves : (wanted : Wanted) (given from : List ℕ) (broke : Cause) → FrontBroke wanted from broke → LeavesHead given (fault.Broke broke)
front_leaves wanted given from broke met (inl failed) = absurd (subst (FrontBroke wanted from) failed met)
front_leaves wanted given from broke met (inr late) = absurd (subst (FrontBroke wanted from) late met)

-- ---- what the fields say

strong_of : (fields : List NameAndValue) (ahead : List ℕ) (strong : Option Span) (told : Option (List ℕ)) → CoversStrong ahead fields strong
    → told ≡ option_map (span_bytes ahead) strong → IsStrongTag fields told
strong_of fields ahead (Some span) told covers is = subst (IsStrongTag fields) (sym is) covers.1
strong_of fields ahead None told covers is = subst (IsStrongTag fields) (sym is) covers

only_of : (values : List (List ℕ)) (ahead : List ℕ) (span : Option Span) (told : Option (List ℕ)) → CoversOnly ahead values span
    → told ≡ option_map (span_bytes ahead) span → IsOnlyValue values told
only_of values ahead (Some span) told covers is = subst (IsOnlyValue values) (sym is) covers.1
only_of values ahead None told covers is = subst (IsOnlyValue values) (sym is) covers

fields_say : {fields : List NameAndValue} {ahead : List ℕ} {metadata : Metadata} {told : Head} → IsMetadata ahead fields metadata
    → HasTexts ahead metadata told → FieldsSay fields told
fields_say {fields} {ahead} {metadata} {told} is texts = record {
  strong_is = strong_of fields ahead metadata.strong told.strong is.strong_at texts.strong_is;
  ranges_are = subst (λ (b : Bool). IsTrue b ↔ TakesRanges fields) (sym texts.ranges_are) is.ranges_are;
  disposition_is = only_of (values_of (codes "content-disposition") fields) ahead metadata.disposition told.disposition is.disposition_at texts.disposition_is;
  modified_is = texts.modified_is ∙ is.modified_at.is;
}

within_if : (fields : List NameAndValue) (ahead : List ℕ) (strong : Option Span) → CoversStrong ahead fields strong
    → IfSome strong (IsWithin (length ahead)) × IfSome strong (λ span. length (span_bytes ahead span) ≤ most_tag)
within_if fields ahead (Some span) covers = (covers.0, covers.1.short)
within_if fields ahead None covers = (tt, tt)

only_within_if : (values : List (List ℕ)) (ahead : List ℕ) (span : Option Span) → CoversOnly ahead values span → IfSome span (IsWithin (length ahead))
only_within_if values ahead (Some span) covers = covers.0
only_within_if values ahead None covers = tt

-- the spans of a head's metadata lie in the head
pub metadata_within : {fields : List NameAndValue} {ahead : List ℕ} {metadata : Metadata} → IsMetadata ahead fields metadata
    → AreWithin (length ahead) metadata
metadata_within {fields} {ahead} {metadata} is = record {
  strong = (within_if fields ahead metadata.strong is.strong_at).0;
  disposition = only_within_if (values_of (codes "content-disposition") fields) ahead metadata.disposition is.disposition_at;
  modified = is.modified_at.within;
}

kept_short : (most : ℕ) (values : List (List ℕ)) → length (only_within most values) ≤ most
kept_short most [] = omega arith
kept_short most (value ∷ []) = of_test (nat_le (length value) most) refl
  where
    of_test : (b : Bool) → nat_le (length value) most ≡ b → length (only_within most (value ∷ [])) ≤ most
    of_test true e = rw e (leb-true (length value) most e)
    of_test false e = rw e (omega arith)
kept_short most (value ∷ other ∷ others) = omega arith

-- and cover texts that keep their limits
pub metadata_short : {fields : List NameAndValue} {ahead : List ℕ} {metadata : Metadata} → IsMetadata ahead fields metadata → AreShort ahead metadata
metadata_short {fields} {ahead} {metadata} is = record {
  strong = (within_if fields ahead metadata.strong is.strong_at).1;
  modified = let e = ap (λ (t : List ℕ). length t) is.modified_at.is in omega (arith, e, kept_short most_modified (values_of (codes "last-modified") fields));
}

-- ---- a head that was found

record AtContent (wanted : Wanted) (given ahead : List ℕ) (head : ResponseHead) (told : Framing) (body : Body) : Type 0 where
  framing_is : told ≡ framing_of body
  framed : BeginsContent wanted given head (framing_of body) ahead
  read : HasFramed wanted head given (going ahead body 0) []

-- nothing is a front of chunks
front_none : IsFrontOf [] []
front_none = front_told (Digits 0 0) [] [] refl fresh

starts : (wanted : Wanted) (given ahead : List ℕ) (head : ResponseHead) (told : Framing) (body : Body) → Starts told body
    → BeginsContent wanted given head told ahead → AtContent wanted given ahead head told body
starts wanted given ahead head told (body.Counted count) is begins =
    let framed = subst (λ (f : Framing). BeginsContent wanted given head f ahead) is begins in
    record {
      framing_is = is;
      framed = framed;
      read = record {
        bytes = ahead;
        begins = framed;
        holds = (refl, omega arith);
        count = refl;
        limit = omega arith;
        unbroken = refl;
        front = record { framing = framing.Counted count; bytes = []; after = ahead; begins = framed; brings = (refl, omega arith); limit = omega arith };
      };
    }
starts wanted given ahead head told body.ToEnd is begins =
    let framed = subst (λ (f : Framing). BeginsContent wanted given head f ahead) is begins in
    record {
      framing_is = is;
      framed = framed;
      read = record {
        bytes = ahead;
        begins = framed;
        holds = refl;
        count = refl;
        limit = omega arith;
        unbroken = refl;
        front = record { framing = framing.ToEnd; bytes = []; after = ahead; begins = framed; brings = refl; limit = omega arith };
      };
    }
starts wanted given ahead head told (body.Chunked chunks) is begins =
    let framed = subst (λ (f : Framing). BeginsContent wanted given head f ahead) is.0 begins in
    record {
      framing_is = is.0;
      framed = framed;
      read = record {
        bytes = ahead;
        begins = framed;
        holds = record { read = []; parts = refl; decoded = is.1 };
        count = refl;
        limit = omega arith;
        unbroken = refl;
        front = record { framing = framing.Chunked; bytes = []; after = ahead; begins = framed; brings = front_none; limit = omega arith };
      };
    }

-- the size of the part that was found
sized : (wanted : Wanted) (head : ResponseHead) (told : Framing) (extent : Extent) (size : Option ℕ)
    → IsExtent wanted (fields_of head) told extent → size ≡ size_told extent → IsSized wanted head size []
sized Whole head told extent size is kept = kept ∙ ap size_told is
sized (Part first last tag known) head told extent size is kept = record {
  count = part_size first is.to;
  size_is = kept ∙ ap (option_map (part_size extent.first)) is.last_is ∙ ap (λ (n : ℕ). Some (part_size n is.to)) is.first_is;
  to = is.to;
  total = extent.total;
  asked = is.asked;
  count_is = refl;
  within = omega arith;
}

pub content_says : (wanted : Wanted) (now : Told) (ahead behind : List ℕ) (count start : ℕ) (told : Framing) (extent : Extent) (metadata : Metadata)
    (found : Found) → HasPassed now.given ahead count → count ≤ most_interim → FindsContent wanted ahead start told extent metadata
    → IsContentHead (content_status wanted) told extent ahead metadata found → behind ≡ drop start ahead
    → HeadSays wanted now (started wanted behind found) found.head
content_says wanted now ahead behind count start told extent metadata found passed few finds is behind_is =
    let begins : BeginsContent wanted now.given finds.head told (drop start ahead) = record {
      has = record { from = ahead; comes = comes_of now.given ahead count passed few; final = finds.begins };
      ok = finds.ok;
      good = finds.good;
      fits = finds.fits;
    } in
    let at = starts wanted now.given behind finds.head told found.body is.starts
    (subst (λ (t : List ℕ). BeginsContent wanted now.given finds.head told t) (sym behind_is) begins) in
    let found_extent = subst (IsExtent wanted (fields_of finds.head) told) (sym is.extent_is) finds.extent_is in
    let read : HasRead wanted finds.head now.given (started wanted behind found) [] = record {
      framed = at.read;
      sized = sized wanted finds.head told (extent_of found.head) (size_told (extent_of found.head)) found_extent refl;
    } in
    record {
      head = finds.head;
      kind_is = subst (KindSays wanted now (started wanted behind found) finds.head) (sym is.kind_is) read;
      status_is = is.status_is ∙ sym finds.ok;
      extent_is = subst (ExtentSays wanted finds.head (framing_of found.body) found.head) (sym is.kind_is)
          (subst (λ (f : Framing). IsExtent wanted (fields_of finds.head) f (extent_of found.head)) at.framing_is found_extent);
      fields_say = fields_say finds.metadata_is is.texts;
    }

pub redirect_says : (wanted : Wanted) (now : Told) (ahead : List ℕ) (count status : ℕ) (location : Span) (metadata : Metadata) (found : Found)
    → HasPassed now.given ahead count → count ≤ most_interim → FindsRedirect wanted ahead status location metadata
    → IsRedirectHead status (span_bytes ahead location) ahead metadata found
    → HeadSays wanted now (started wanted ahead found) found.head
redirect_says wanted now ahead count status location metadata found passed few finds is =
    let redirect : BeginsRedirect wanted (stream_of now) finds.head (span_bytes ahead location) = record {
      rest = finds.rest ++ now.left;
      has = has_more (record { from = ahead; comes = comes_of now.given ahead count passed few; final = finds.begins }) now.left;
      leads = finds.leads;
      framing = finds.framing;
      good = finds.good;
    } in
    record {
      head = finds.head;
      kind_is = subst (KindSays wanted now (started wanted ahead found) finds.head) (sym is.kind_is) redirect;
      status_is = is.status_is ∙ sym finds.status_is;
      extent_is = subst (ExtentSays wanted finds.head (framing_of found.body) found.head) (sym is.kind_is) is.extent_is;
      fields_say = fields_say finds.metadata_is is.texts;
    }

-- ---- what a head has, also where the wire doesn't tell

places : (wanted : Wanted) (head : ResponseHead) (told : Framing) (extent : Extent) (found : Head) → IsExtent wanted (fields_of head) told extent
    → extent_of found ≡ extent → PlacesSay wanted found kind.Content
places Whole head told extent found is same =
    (ap (λ (e : Extent). e.first) (same ∙ is), ap (λ (e : Extent). e.last) (same ∙ is))
places (Part first last tag known) head told extent found is same = (
  ap (λ (e : Extent). e.first) same ∙ is.first_is,
  subst (EndsBy last) (sym (ap (λ (e : Extent). e.last) same ∙ is.last_is)) is.asked.within,
)

pub content_plain : (wanted : Wanted) (ahead : List ℕ) (status start : ℕ) (told : Framing) (extent : Extent) (metadata : Metadata)
    (result : Result Found HeadFault) → FindsContent wanted ahead start told extent metadata
    → IfOk result (IsContentHead status told extent ahead metadata) → IfOk result (λ found. IsShortHead found.head)
    → IfOk result (λ found. IsPlainHead wanted found.head)
content_plain wanted ahead status start told extent metadata (Err refusal) finds is short = tt
content_plain wanted ahead status start told extent metadata (Ok found) finds is short = record {
  places = subst (PlacesSay wanted found.head) (sym is.kind_is) (places wanted finds.head told extent found.head finds.extent_is is.extent_is);
  limit = subst IsWithinLimit (sym is.extent_is) finds.in_limit;
  strong = short.strong;
  modified = short.modified;
}

-- where a part is wanted no head leads on
redirect_places : (wanted : Wanted) (head : ResponseHead) (location found : List ℕ) (told : Head) → LeadsTo wanted head location → extent_of told ≡ no_extent
    → PlacesSay wanted told (kind.Redirect found)
redirect_places Whole head location found told leads is = is
redirect_places (Part first last tag known) head location found told leads is = absurd (let wrong = leads.redirects in cc)

pub redirect_plain : (wanted : Wanted) (status : ℕ) (location : Span) (ahead : List ℕ) (metadata : Metadata) (result : Result Found HeadFault)
    → FindsRedirect wanted ahead status location metadata → IfOk result (IsRedirectHead status (span_bytes ahead location) ahead metadata)
    → IfOk result (λ found. IsShortHead found.head) → IfOk result (λ found. IsPlainHead wanted found.head)
redirect_plain wanted status location ahead metadata (Err refusal) finds is short = tt
redirect_plain wanted status location ahead metadata (Ok found) finds is short = record {
  places = subst (PlacesSay wanted found.head) (sym is.kind_is)
      (redirect_places wanted finds.head (span_bytes ahead location) (span_bytes ahead location) found.head finds.leads is.extent_is);
  limit = subst IsWithinLimit (sym is.extent_is) (record { last = tt; total = tt });
  strong = short.strong;
  modified = short.modified;
}

-- ---- what the reader keeps of a head, also where the wire doesn't tell

starts_framed : (told : Framing) (body : Body) → Starts told body → told ≡ framing_of body
starts_framed told (body.Counted count) is = is
starts_framed told body.ToEnd is = is
starts_framed told (body.Chunked chunks) is = is.0

framed_as : (wanted : Wanted) (head : ResponseHead) (told : Framing) (extent : Extent) (found : Found) (behind : List ℕ) → IsExtent wanted (fields_of head) told extent
    → extent_of found.head ≡ extent → Starts told found.body → IsFramedAs wanted found.head (started wanted behind found) kind.Content
framed_as Whole head told extent found behind is same starts =
    (ap size_told (same ∙ is), ap (λ (e : Extent). e.total) (same ∙ is) ∙ ap told_total (starts_framed told found.body starts))
framed_as (Part first last tag known) head told extent found behind is same starts = record {
  count = part_size first is.to;
  size_is = ap size_told same ∙ ap (option_map (part_size extent.first)) is.last_is ∙ ap (λ (n : ℕ). Some (part_size n is.to)) is.first_is;
  some = omega arith;
  within = omega (arith, is.asked.within, is.asked.names.reads.is_range.in_order);
}

pub content_framed : (wanted : Wanted) (ahead behind : List ℕ) (status start : ℕ) (told : Framing) (extent : Extent) (metadata : Metadata)
    (result : Result Found HeadFault) → FindsContent wanted ahead start told extent metadata → IfOk result (IsContentHead status told extent ahead metadata)
    → IfOk result (λ found. IsFramedAs wanted found.head (started wanted behind found) found.head.kind)
content_framed wanted ahead behind status start told extent metadata (Err refusal) finds is = tt
content_framed wanted ahead behind status start told extent metadata (Ok found) finds is =
    subst (IsFramedAs wanted found.head (started wanted behind found)) (sym is.kind_is)
    (framed_as wanted finds.head told extent found behind finds.extent_is is.extent_is is.starts)

leads_framed : (wanted : Wanted) (told : Head) (reader : Reader) (location : List ℕ) → IsFramedAs wanted told reader (kind.Redirect location)
leads_framed Whole told reader location = tt
leads_framed (Part first last tag known) told reader location = tt

pub redirect_framed : (wanted : Wanted) (status : ℕ) (location ahead behind : List ℕ) (metadata : Metadata) (result : Result Found HeadFault)
    → IfOk result (IsRedirectHead status location ahead metadata)
    → IfOk result (λ found. IsFramedAs wanted found.head (started wanted behind found) found.head.kind)
redirect_framed wanted status location ahead behind metadata (Err refusal) is = tt
redirect_framed wanted status location ahead behind metadata (Ok found) is =
    subst (IsFramedAs wanted found.head (started wanted behind found)) (sym is.kind_is) (leads_framed wanted found.head (started wanted behind found) location)

-- ---- answers

pub content_answer : (wanted : Wanted) (now : Told) (ahead behind : List ℕ) (count start : ℕ) (told : Framing) (extent : Extent) (metadata : Metadata)
    (result : Result Found HeadFault) → HasPassed now.given ahead count → count ≤ most_interim → FindsContent wanted ahead start told extent metadata
    → IfOk result (IsContentHead (content_status wanted) told extent ahead metadata) → IfOk result (λ _. behind ≡ drop start ahead)
    → IfOk result (λ found. HeadSays wanted now (started wanted behind found) found.head)
content_answer wanted now ahead behind count start told extent metadata (Ok found) passed few finds is behind_is =
    content_says wanted now ahead behind count start told extent metadata found passed few finds is behind_is
content_answer wanted now ahead behind count start told extent metadata (Err refusal) passed few finds is behind_is = tt

pub redirect_answer : (wanted : Wanted) (now : Told) (ahead : List ℕ) (count status : ℕ) (location : Span) (metadata : Metadata)
    (result : Result Found HeadFault) → HasPassed now.given ahead count → count ≤ most_interim → FindsRedirect wanted ahead status location metadata
    → IfOk result (IsRedirectHead status (span_bytes ahead location) ahead metadata)
    → IfOk result (λ found. HeadSays wanted now (started wanted ahead found) found.head)
redirect_answer wanted now ahead count status location metadata (Ok found) passed few finds is =
    redirect_says wanted now ahead count status location metadata found passed few finds is
redirect_answer wanted now ahead count status location metadata (Err refusal) passed few finds is = tt

-- a cause that a head is refused for is none of the wire
front_unkind : (wanted : Wanted) (from : List ℕ) (broke : Cause) → FrontBroke wanted from broke → cause_kind broke ≡ None
front_unkind wanted from cause.NetFailed met = absurd met
front_unkind wanted from cause.NetTimeout met = absurd met
front_unkind wanted from (cause.File kind) met = refl
front_unkind wanted from cause.NamesTaken met = refl
front_unkind wanted from cause.BothStand met = refl
front_unkind wanted from (cause.TooLarge total) met = refl
front_unkind wanted from (cause.PartShort have known) met = refl
front_unkind wanted from (cause.DigestDiffers have known) met = refl
front_unkind wanted from cause.HeadCut met = refl
front_unkind wanted from cause.NetNoRoute met = refl
front_unkind wanted from cause.NetRefused met = refl
front_unkind wanted from cause.BadLocation met = refl
front_unkind wanted from cause.TooManyRedirects met = refl
front_unkind wanted from (cause.Status status) met = refl
front_unkind wanted from cause.BadHead met = refl
front_unkind wanted from cause.Encoded met = refl
front_unkind wanted from cause.BadFraming met = refl
front_unkind wanted from (cause.RangeRefused status) met = refl
front_unkind wanted from (cause.ContentShort have told) met = refl
front_unkind wanted from cause.Cancel met = refl
front_unkind wanted from cause.Shutdown met = refl
front_unkind wanted from cause.Memory met = refl
front_unkind wanted from cause.Crash met = refl

-- it is a cause of a head
pub front_own : (wanted : Wanted) (from : List ℕ) (broke : Cause) → FrontBroke wanted from broke → IsTrue (is_head_cause broke)
front_own wanted from cause.HeadCut met = refl
front_own wanted from cause.BadHead met = refl
front_own wanted from (cause.Status status) met = refl
front_own wanted from cause.Encoded met = refl
front_own wanted from cause.BadFraming met = refl
front_own wanted from (cause.RangeRefused status) met = refl
front_own wanted from (cause.TooLarge total) met = refl
front_own wanted from cause.NetFailed met = refl
front_own wanted from cause.NetTimeout met = refl
front_own wanted from (cause.File kind) met = absurd met
front_own wanted from cause.NamesTaken met = absurd met
front_own wanted from cause.BothStand met = absurd met
front_own wanted from (cause.PartShort have known) met = absurd met
front_own wanted from (cause.DigestDiffers have known) met = absurd met
front_own wanted from cause.NetNoRoute met = absurd met
front_own wanted from cause.NetRefused met = absurd met
front_own wanted from cause.BadLocation met = absurd met
front_own wanted from cause.TooManyRedirects met = absurd met
front_own wanted from (cause.ContentShort have told) met = absurd met
front_own wanted from cause.Cancel met = absurd met
front_own wanted from cause.Shutdown met = absurd met
front_own wanted from cause.Memory met = absurd met
front_own wanted from cause.Crash met = absurd met

pub refused_cause : {T : Type 0} (wanted : Wanted) (from : List ℕ) (broke : Cause) (before now : WireFault → ℕ) → FrontBroke wanted from broke → NoneFell before now
    → HasCause {T = T} head_kind before now (Err (fault.Broke broke))
refused_cause wanted from broke before now met fell = record {
  later = fell;
  cause = subst (λ (o : Option WireFault). IfSome o (λ kind. Rose (before kind) (now kind))) (sym (front_unkind wanted from broke met)) tt;
}

-- a redirect's address is the stream's
pub led_to : (wanted : Wanted) (now : Told) (reader : Reader) (told : Head) (location : List ℕ) → (says : HeadSays wanted now reader told)
    → told.kind ≡ kind.Redirect location → BeginsRedirect wanted (stream_of now) says.head location
led_to wanted now reader told location says is = subst (KindSays wanted now reader says.head) is says.kind_is
