-- Heads of requests at the front of a stream, whatever follows.
use Rattle.std.specs.List.{flat_map}
use Rattle.std.proofs.Common.{◌≡◌, ◌≢◌, ℕ, ◌+◌, ◌-◌, ◌<◌, ◌≤◌, ◌⊎◌, inl, inr, List, [], ◌∷◌, ◌++◌, length, take, drop, map, refl, sym, ap, ◌∙◌, subst, arith, append_assoc, length-append, All}
use Rattle.std.specs.Prelude.{slice_range}
use Rattle.std.proofs.lemmas.List.{append-nil, length-drop, length-map, length-take, take-append-le, take_at}
use Rattle.httparse.specs.declared.Error.{Error}
use Rattle.httparse.specs.declared.Error.TheVariants as error
use Rattle.httparse.specs.declared.spans.Span.{Span}
use Rattle.httparse.specs.declared.spans.HeaderSpan.{HeaderSpan}
use Rattle.httparse.specs.declared.spans.RequestSpans.{RequestSpans}
use Rattle.httparse.specs.Grammar.{EndsInTarget, HasNoRequest, NeverHasRequest, RequestHead, print_request}
use Rattle.httparse.specs.Spans.{IsHeaderWithin, IsRequestAt, IsRequestWithin, IsWithin, RequestExceeds, header_bytes, name_and_value, span_bytes}
use Rattle.httparse.proofs.GrammarLemmas.{ReadsRequest-append}
use Rattle.form_urlencoded.specs.Form.{split_once}
use Rattle.dm_edge.specs.Fields.{NameAndValue}
use Rattle.dm_edge.specs.Head.{most_fields}
use Rattle.dm_head.proofs.HeadLemmas.{take_past}
use Rattle.dm_target.proofs.Fronts.{stays_outside}
use Rattle.dm_call.specs.Asked.{kind_of}
use Rattle.dm_call.specs.declared.request.ApiRequest.{ApiRequest}
use Rattle.dm_hear.specs.Head.{BeginsRequest, HasManyLines, IsBadHead, IsHeadLong, IsOpen, many, most_request, never}
use Rattle.dm_hear.specs.Content.{HasLength, HasNoLength, fields_of}
use Rattle.dm_hear.specs.Heard.{HasBadLength, HasSized, IsContentCut, IsContentLong, IsRequest, request_of}
use Rattle.dm_hear.specs.Held.{ArePartsWithin, HasWhole, request_at}
use Rattle.dm_hear.specs.declared.judge.Parts.{Parts}
use Rattle.dm_hear.proofs.ManyLines.{exceeds_many, few_inside}

-- what begins with a head does so whatever follows
begins_more : {stream rest : List ℕ} {head : RequestHead} → BeginsRequest stream head rest → (more : List ℕ)
    → BeginsRequest (stream ++ more) head (rest ++ more)
begins_more {stream} {rest} {head} b more = record { reads = ReadsRequest-append stream head rest more b.reads; size = b.size; count = b.count }

wider : (n m : ℕ) (spans : List HeaderSpan) → n ≤ m → All (IsHeaderWithin n) spans → All (IsHeaderWithin m) spans
wider n m spans h all i d l =
    let at = all i d l in ((at.0.0, omega (arith, at.0.1, h)), (at.1.0, omega (arith, at.1.1, h)))

wide : (n m : ℕ) (span : Span) → n ≤ m → IsWithin n span → IsWithin m span
wide n m span h is = (is.0, omega (arith, is.1, h))

-- what the parser answered, as the code holds it
pub whole_at : {front : List ℕ} {headers : List HeaderSpan} {r : RequestSpans} {h : RequestHead}
    → length front ≤ most_request → length headers ≡ most_fields → IsRequestAt front headers r h
    → IsRequestWithin front headers r → HasWhole front r (take r.headers headers)
whole_at {front} {headers} {r} {h} small room at within = record {
  head = h;
  begins = record {
    reads = at.reads;
    size = omega (arith, at.len, within.section.len_fits);
    count =
        let lengths = ap length at.fields in
        omega (
          arith,
          lengths,
          length-map (take r.headers headers) (header_bytes front),
          length-map h.fields name_and_value,
          length-take r.headers headers,
          within.section.count_fits,
        );
  };
  len_is = at.len;
  len_fits = within.section.len_fits;
  method_is = at.method;
  target_is = at.path;
  method = wide r.len (length front) r.method within.section.len_fits within.method;
  path = wide r.len (length front) r.path within.section.len_fits within.path;
  fields_are = at.fields;
  within = wider r.len (length front) (take r.headers headers) within.section.len_fits within.section.headers_fit;
}

-- ---- no head

never_more : (front : List ℕ) → length front ≤ most_request → NeverHasRequest front → (more : List ℕ)
    → NeverHasRequest (take most_request (front ++ more))
never_more front small none more others =
    subst HasNoRequest (sym (ap (λ t. t ++ others) (take_past most_request front more small) ∙ append_assoc front _ others))
    (none (take (most_request - length front) more ++ others))

many_more : {text : List ℕ} → HasManyLines text → (more : List ℕ) → HasManyLines (text ++ more)
many_more {text} m more = record {
  lines = m.lines;
  next = m.next;
  rest = m.rest ++ more;
  is = ap (λ t. t ++ more) m.is ∙ append_assoc m.lines (m.next ∷ m.rest) more;
  head = m.head;
  reads = m.reads;
  last = m.last;
  count = m.count;
  in_line = m.in_line;
}

pub many_bad : (front : List ℕ) → length front ≤ most_request → HasManyLines front → (more : List ℕ) → IsBadHead (front ++ more)
many_bad front small m more = many (subst HasManyLines (sym (take_past most_request front more small)) (many_more m _))

too_many_or_not : (e : Error) → (e ≡ error.TooManyHeaders) ⊎ (e ≢ error.TooManyHeaders)
too_many_or_not error.HeaderName = inr (λ e. cc)
too_many_or_not error.HeaderValue = inr (λ e. cc)
too_many_or_not error.NewLine = inr (λ e. cc)
too_many_or_not error.Status = inr (λ e. cc)
too_many_or_not error.Token = inr (λ e. cc)
too_many_or_not error.TooManyHeaders = inl refl
too_many_or_not error.Version = inr (λ e. cc)

-- what an error of the parser says outside a target
pub refused_bad : (front : List ℕ) → length front ≤ most_request → (e : Error)
    → (e ≢ error.TooManyHeaders → NeverHasRequest front)
    → (e ≡ error.TooManyHeaders → RequestExceeds most_fields front)
    → (EndsInTarget front → ⊥)
    → (more : List ℕ) → IsBadHead (front ++ more)
refused_bad front small e none exceeds outside more = elim (too_many_or_not e) [
  | inl is ↦ many_bad front small (exceeds_many (exceeds is)) more
  | inr other ↦
      never (never_more front small (none other) more)
      (λ is. stays_outside front (take (most_request - length front) more) (none other) outside (subst EndsInTarget (take_past most_request front more small) is))
]

-- what an error says inside one
pub refused_open : (front : List ℕ) → (e : Error)
    → (e ≢ error.TooManyHeaders → NeverHasRequest front)
    → (e ≡ error.TooManyHeaders → RequestExceeds most_fields front)
    → EndsInTarget front → IsOpen front
refused_open front e none exceeds inside = elim (too_many_or_not e) [
  | inl is ↦ absurd (few_inside front inside (exceeds_many (exceeds is)))
  | inr other ↦ record {
    none = subst HasNoRequest (append-nil front) (none other []);
    open_head = inr inside;
    few = few_inside front inside;
  }
]

-- as many bytes as a request may have hold no whole head
pub full_long : (front : List ℕ) → IsOpen front → length front ≡ most_request → (more : List ℕ) → IsHeadLong (front ++ more) ⊎ IsContentLong (front ++ more)
full_long front is full more =
    inl (record { long = omega (arith, full, length-append front more); open_head = subst IsOpen (sym (take_at front more most_request full)) is })

-- ---- a whole head

module _ {front : List ℕ} {spans : RequestSpans} {fields : List HeaderSpan} (w : HasWhole front spans fields) where
  abbrev Told : List NameAndValue
  Told = map (header_bytes front) fields

  sized : (size : ℕ) → HasLength Told size → (more : List ℕ) → HasSized (front ++ more) w.head (drop spans.len front ++ more) size
  sized size is more = record { begins = begins_more w.begins more; length_is = subst (λ (fs : List NameAndValue). HasLength fs size) w.fields_are is }

  pub no_length : HasNoLength Told → (more : List ℕ) → HasBadLength (front ++ more)
  no_length none more = record {
    head = w.head;
    rest = drop spans.len front ++ more;
    begins = begins_more w.begins more;
    none = subst HasNoLength w.fields_are none;
  }

  pub too_long : (size : ℕ) → HasLength Told size → most_request < spans.len + size → (more : List ℕ) → IsHeadLong (front ++ more) ⊎ IsContentLong (front ++ more)
  too_long size is above more = inr (record {
    head = w.head;
    rest = drop spans.len front ++ more;
    size = size;
    sized = sized size is more;
    above = omega (arith, above, w.len_is);
  })

  pub cut_short : (size : ℕ) → HasLength Told size → spans.len + size ≤ most_request → length front < spans.len + size → IsContentCut front
  cut_short size is fits short = record {
    head = w.head;
    rest = drop spans.len front;
    size = size;
    sized = record { begins = w.begins; length_is = subst (λ (fs : List NameAndValue). HasLength fs size) w.fields_are is };
    fits = omega (arith, fits, w.len_is);
    short = omega (arith, short, length-drop spans.len front);
  }

  -- the parts of a whole request
  abbrev parts_of : ℕ → Parts
  parts_of size = record { method = spans.method; target = spans.path; content = record { start = spans.len; end = spans.len + size } }

  content_is : (size : ℕ) (more : List ℕ) → spans.len + size ≤ length front → slice_range front spans.len (spans.len + size) ≡ take size (drop spans.len front ++ more)
  content_is size more fits =
      let count : spans.len + size - spans.len ≡ size = omega arith in
      ap (λ (n : ℕ). take n (drop spans.len front)) count
      ∙ sym (take-append-le size (drop spans.len front) more (omega (arith, fits, length-drop spans.len front)))

  pub whole_request : (size : ℕ) → HasLength Told size → spans.len + size ≤ length front → length front ≤ most_request → (more : List ℕ)
      → IsRequest (front ++ more) (request_at front (parts_of size))
  whole_request size is fits small more = record {
    head = w.head;
    rest = drop spans.len front ++ more;
    size = size;
    sized = sized size is more;
    fits = omega (arith, fits, small, w.len_is);
    whole = omega (arith, fits, length-drop spans.len front, length-append (drop spans.len front) more);
    is = rw (w.method_is, w.target_is, content_is size more fits) refl;
  }

  pub parts_within : (size : ℕ) → spans.len + size ≤ length front → ArePartsWithin (length front) (parts_of size)
  parts_within size fits = record { method = w.method; target = w.path; content = (omega arith, fits) }
