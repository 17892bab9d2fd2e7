-- Heads at the front of a stream, whatever follows.
use Rattle.std.specs.Prelude.{codes}
use Rattle.std.specs.List.{flat_map}
use Rattle.std.proofs.Common.{◌≡◌, ◌≢◌, ℕ, ◌+◌, ◌-◌, ◌<◌, ◌≤◌, ◌⊎◌, inl, inr, true, false, List, [], ◌∷◌, ◌++◌, length, take, drop, map, refl, sym, ap, ◌∙◌, subst, arith, append_assoc, length-append, All}
use Rattle.std.proofs.lemmas.List.{length-take, length-map, take_at}
use Rattle.std.proofs.Math.Seq.{take-append-add}
use Rattle.httparse.specs.declared.Error.{Error}
use Rattle.httparse.specs.declared.Error.TheVariants as error
use Rattle.httparse.specs.declared.spans.Span.{Span}
use Rattle.httparse.specs.declared.spans.HeaderSpan.{HeaderSpan}
use Rattle.httparse.specs.declared.spans.ResponseSpans.{ResponseSpans}
use Rattle.httparse.specs.Grammar.{ResponseHead, print_response, print_blank, print_version, print_reason, print_end, print_field, HasNoResponse, NeverHasResponse, status_code}
use Rattle.httparse.specs.Spans.{IsResponseAt, IsResponseWithin, ResponseExceeds, IsHeaderWithin, header_bytes, span_bytes, name_and_value}
use Rattle.httparse.proofs.GrammarLemmas.{ReadsResponse-append}
use Rattle.dm_policy.specs.declared.cause.Cause.TheVariants as cause
use Rattle.dm_edge.specs.Fields.{NameAndValue, values_of, fields_of, FramedBy, IsUnframeable, is_plain}
use Rattle.dm_edge.specs.Head.{most_head, most_fields, BeginsWith, BeginsFinal, HasManyLines, IsBadHead, never, long, many, is_interim}
use Rattle.dm_edge.specs.declared.wanted.Wanted.{Wanted}
use Rattle.dm_edge.specs.declared.framing.Framing.{Framing}
use Rattle.dm_edge.specs.declared.framing.Framing.TheVariants.{Counted}
use Rattle.dm_edge.specs.Begins.{content_status, leads_on, refuses_range, most_content, LeadsTo, GoesOn, IsGoodHead, Fits, IsOtherPart, MissesSize, TellsWhole, HasLostRedirect, HasEncoded, HasBadFraming, HasOtherStatus, HasRefusal, HasOtherPart, HasOtherSize, HasTooLarge, FrontBroke}
use Rattle.dm_head.specs.declared.framing.Framed.TheVariants as framed
use Rattle.dm_head.specs.declared.whole.Kind.TheVariants as kind
use Rattle.dm_head.specs.declared.fields.Values.{Values}
use Rattle.dm_head.specs.declared.fields.Values.TheVariants as found
use Rattle.dm_head.specs.Values.{AreValues}
use Rattle.dm_head.specs.Whole.{HasWhole, IsFramed, IsKind}
use Rattle.dm_head.specs.declared.metadata.Metadata.{Metadata}
use Rattle.dm_head.specs.declared.part.Extent.{Extent}
use Rattle.dm_head.specs.Metadata.{IsMetadata}
use Rattle.dm_head.specs.Fit.{IsExtent}
use Rattle.dm_head.specs.Look.{FindsContent}
use Rattle.dm_head.proofs.PartLemmas.{keeps_limit, in_limit}
use Rattle.dm_head.proofs.ManyLines.{exceeds_many, printed, start_of}

-- what begins with a head does so whatever follows
pub begins_more : {stream rest : List ℕ} {head : ResponseHead} → BeginsWith stream head rest → (more : List ℕ)
    → BeginsWith (stream ++ more) head (rest ++ more)
begins_more {stream} {rest} {head} b more = record {
  reads = ReadsResponse-append stream head rest more b.reads;
  size = b.size;
  count = b.count;
}

-- what the parser answered is a head within the limits
pub begins_at : {front : List ℕ} {headers : List HeaderSpan} {r : ResponseSpans} {h : ResponseHead}
    → length front ≤ most_head → length headers ≡ most_fields → IsResponseAt front headers r h
    → IsResponseWithin front headers r → BeginsWith front h (drop r.len front)
begins_at {front} {headers} {r} {h} small room at within = record {
  reads = at.reads;
  size = omega (arith, at.len, within.section.len_fits);
  count =
      let lengths = ap length at.fields in
      omega (
        arith,
        lengths,
        length-map (take r.headers headers) (header_bytes front),
        length-map h.fields name_and_value,
        length-take r.headers headers,
        within.section.count_fits,
      );
}

-- a head has bytes
pub some_printed : (h : ResponseHead) → 0 < length (print_response h)
some_printed h =
    let front = print_blank h.blank in
    let behind = h.digits ++ (print_reason h.reason ++ print_end h.line_end) in
    let fields = flat_map print_field h.fields ++ (print_end h.last ++ []) in
    omega (
      arith,
      ap length (printed h []),
      length-append (print_response h) [],
      length-append (start_of h) fields,
      length-append front (print_version h.minor ++ 32 ∷ behind),
      length-append (print_version h.minor) (32 ∷ behind),
    )

wider : (n m : ℕ) (spans : List HeaderSpan) → n ≤ m → All (IsHeaderWithin n) spans → All (IsHeaderWithin m) spans
wider n m spans h all i d l =
    let at = all i d l in ((at.0.0, omega (arith, at.0.1, h)), (at.1.0, omega (arith, at.1.1, h)))

-- what the parser answered, as the code holds it
pub whole_at : {front : List ℕ} {headers : List HeaderSpan} {r : ResponseSpans} {h : ResponseHead}
    → length front ≤ most_head → length headers ≡ most_fields → IsResponseAt front headers r h
    → IsResponseWithin front headers r → HasWhole front r (take r.headers headers)
whole_at {front} {headers} {r} {h} small room at within = record {
  head = h;
  begins = begins_at small room at within;
  some = omega (arith, at.len, some_printed h);
  len_fits = within.section.len_fits;
  code_is = at.code;
  minor_is = at.version;
  fields_are = at.fields;
  within = wider r.len (length front) (take r.headers headers) within.section.len_fits within.section.headers_fit;
}

-- ---- a whole head, whatever follows

pub final_more : {front : List ℕ} {spans : ResponseSpans} {fields : List HeaderSpan} → (w : HasWhole front spans fields)
    → is_interim spans.code ≡ false → (more : List ℕ) → BeginsFinal (front ++ more) w.head (drop spans.len front ++ more)
final_more w is more = record { begins = begins_more w.begins more; final = ap is_interim (sym w.code_is) ∙ is }

pub leads_at : {front : List ℕ} {spans : ResponseSpans} {fields : List HeaderSpan} → (wanted : Wanted) (w : HasWhole front spans fields) (location : Span)
    → leads_on wanted spans.code ≡ true → AreValues front (found.One location) (values_of (codes "location") (map (header_bytes front) fields))
    → LeadsTo wanted w.head (span_bytes front location)
leads_at wanted w location is only = record {
  redirects = ap (leads_on wanted) (sym w.code_is) ∙ is;
  only = ap (values_of (codes "location")) (sym w.fields_are) ∙ only.0;
}

pub unframeable_at : {front : List ℕ} {spans : ResponseSpans} {fields : List HeaderSpan} → (w : HasWhole front spans fields)
    → IsUnframeable spans.version (map (header_bytes front) fields) → IsUnframeable w.head.minor (fields_of w.head)
unframeable_at {front} {spans} {fields} w none framing framed =
    none framing (subst (λ (n : ℕ). FramedBy n (map (header_bytes front) fields) framing) (sym w.minor_is)
    (subst (λ (fs : List NameAndValue). FramedBy w.head.minor fs framing) (sym w.fields_are) framed))

not_one : (head : List ℕ) (values : Values) (texts : List (List ℕ)) (location : List ℕ) → ((span : Span) → values ≢ found.One span)
    → AreValues head values texts → texts ≢ location ∷ []
not_one head found.Absent texts location other are e = absurd (omega (arith, ap length are, ap length e))
not_one head (found.One span) texts location other are e = other span refl
not_one head found.Several texts location other are e = absurd (omega (arith, ap length e, are))

pub lost_more : {front : List ℕ} {spans : ResponseSpans} {fields : List HeaderSpan} → (wanted : Wanted) (w : HasWhole front spans fields) (values : Values)
    → is_interim spans.code ≡ false → leads_on wanted spans.code ≡ true → ((span : Span) → values ≢ found.One span)
    → AreValues front values (values_of (codes "location") (map (header_bytes front) fields))
    → (more : List ℕ) → IsBadHead (front ++ more) ⊎ HasLostRedirect wanted (front ++ more)
lost_more {front} {spans} wanted w values final is other are more = inr (record {
  head = w.head;
  rest = drop spans.len front ++ more;
  begins = final_more w final more;
  leads = record {
    redirects = ap (leads_on wanted) (sym w.code_is) ∙ is;
    none = λ location e. not_one front values _ location other are (ap (values_of (codes "location")) w.fields_are ∙ e);
  };
})

-- ---- a whole head that is refused, whatever follows

module _ (wanted : Wanted) {front : List ℕ} {spans : ResponseSpans} {fields : List HeaderSpan} (w : HasWhole front spans fields) where
  abbrev NamesAndValues : List NameAndValue
  NamesAndValues = map (header_bytes front) fields

  -- the fields as the head has them
  of_head : (P : List NameAndValue → Type 0) → P NamesAndValues → P (fields_of w.head)
  of_head P is = subst P w.fields_are is

  wanted_status : spans.code ≡ content_status wanted → status_code w.head ≡ content_status wanted
  wanted_status is = sym w.code_is ∙ is

  pub good_at : (framing : Framing) → IsFramed spans.version NamesAndValues (framed.Good framing) → IsGoodHead w.head framing
  good_at framing is = record {
    plain = of_head (λ fs. is_plain fs ≡ true) is.0;
    framed = subst (λ (n : ℕ). FramedBy n (fields_of w.head) framing) w.minor_is (of_head (λ fs. FramedBy spans.version fs framing) is.1);
  }

  pub encoded_more : is_interim spans.code ≡ false → GoesOn wanted w.head → is_plain NamesAndValues ≡ false → (more : List ℕ)
      → HasEncoded wanted (front ++ more)
  encoded_more final goes_on is more = record {
    head = w.head;
    rest = drop spans.len front ++ more;
    begins = final_more w final more;
    goes_on = goes_on;
    encoded = of_head (λ fs. is_plain fs ≡ false) is;
  }

  pub unframed_more : is_interim spans.code ≡ false → GoesOn wanted w.head → is_plain NamesAndValues ≡ true
      → IsUnframeable spans.version NamesAndValues → (more : List ℕ) → HasBadFraming wanted (front ++ more) ⊎ HasOtherSize wanted (front ++ more)
  unframed_more final goes_on plain none more = inl (record {
    head = w.head;
    rest = drop spans.len front ++ more;
    begins = final_more w final more;
    goes_on = goes_on;
    plain = of_head (λ fs. is_plain fs ≡ true) plain;
    unframeable = unframeable_at w none;
  })

  pub goes_on_at : IsKind wanted spans.code kind.Content → GoesOn wanted w.head
  goes_on_at is = inl (wanted_status is.1)

  pub leads_on_at : (location : Span) → IsKind wanted spans.code kind.Redirect
      → AreValues front (found.One location) (values_of (codes "location") NamesAndValues) → GoesOn wanted w.head
  leads_on_at location is only = inr (span_bytes front location, leads_at wanted w location is.1 only)

  pub refusal_more : IsKind wanted spans.code kind.Refusal → (more : List ℕ)
      → HasRefusal wanted (front ++ more) spans.code ⊎ HasOtherPart wanted (front ++ more) spans.code
  refusal_more is more = inl (record {
    head = w.head;
    rest = drop spans.len front ++ more;
    begins = final_more w is.0 more;
    status_is = sym w.code_is;
    refuses = is.1;
  })

  pub other_more : IsKind wanted spans.code kind.Other → (more : List ℕ) → HasOtherStatus wanted (front ++ more) spans.code
  other_more is more = record {
    head = w.head;
    rest = drop spans.len front ++ more;
    begins = final_more w is.0 more;
    status_is = sym w.code_is;
    other = record { not_ok = is.1; no_redirect = is.2; no_refusal = is.3 };
  }

  module _ (framing : Framing) (is : IsKind wanted spans.code kind.Content) (good : IsFramed spans.version NamesAndValues (framed.Good framing)) where
    pub other_part_more : IsOtherPart wanted NamesAndValues → (more : List ℕ)
        → HasRefusal wanted (front ++ more) spans.code ⊎ HasOtherPart wanted (front ++ more) spans.code
    other_part_more other more = inr (record {
      head = w.head;
      rest = drop spans.len front ++ more;
      begins = final_more w is.0 more;
      ok = wanted_status is.1;
      status_is = is.1;
      framing = framing;
      good = good_at framing good;
      other = of_head (IsOtherPart wanted) other;
    })

    pub other_size_more : MissesSize wanted NamesAndValues framing → (more : List ℕ)
        → HasBadFraming wanted (front ++ more) ⊎ HasOtherSize wanted (front ++ more)
    other_size_more misses more = inr (record {
      head = w.head;
      rest = drop spans.len front ++ more;
      begins = final_more w is.0 more;
      ok = wanted_status is.1;
      framing = framing;
      good = good_at framing good;
      misses = of_head (λ fs. MissesSize wanted fs framing) misses;
    })

    pub large_more : (total : ℕ) → TellsWhole wanted NamesAndValues framing total → most_content < total → (more : List ℕ)
        → HasTooLarge wanted (front ++ more) total
    large_more total tells above more = record {
      head = w.head;
      rest = drop spans.len front ++ more;
      begins = final_more w is.0 more;
      ok = wanted_status is.1;
      framing = framing;
      good = good_at framing good;
      tells = of_head (λ fs. TellsWhole wanted fs framing total) tells;
      above = above;
    }

    pub found_content : (extent : Extent) (metadata : Metadata) → Fits wanted NamesAndValues framing → IsExtent wanted NamesAndValues framing extent
        → IsMetadata front NamesAndValues metadata → FindsContent wanted front spans.len framing extent metadata
    found_content extent metadata fits extent_is metadata_is = record {
      head = w.head;
      begins = record { begins = w.begins; final = ap is_interim (sym w.code_is) ∙ is.0 };
      ok = wanted_status is.1;
      good = good_at framing good;
      fits = of_head (λ fs. Fits wanted fs framing) fits;
      limit = keeps_limit wanted NamesAndValues framing fits;
      extent_is = of_head (λ fs. IsExtent wanted fs framing extent) extent_is;
      in_limit = in_limit wanted NamesAndValues framing extent fits extent_is;
      within = w.len_fits;
      metadata_is = of_head (λ fs. IsMetadata front fs metadata) metadata_is;
    }

-- ---- no head

pub take_past : (n : ℕ) (xs ys : List ℕ) → length xs ≤ n → take n (xs ++ ys) ≡ xs ++ take (n - length xs) ys
take_past n xs ys h =
    let whole : length xs + (n - length xs) ≡ n = omega arith in
    subst (λ (k : ℕ). take k (xs ++ ys) ≡ xs ++ take (n - length xs) ys) whole (take-append-add xs ys (n - length xs))

-- bytes that can't begin a head stay so
pub never_more : (front : List ℕ) → length front ≤ most_head → NeverHasResponse front → (more : List ℕ)
    → NeverHasResponse (take most_head (front ++ more))
never_more front small none more others =
    subst HasNoResponse (sym (ap (λ t. t ++ others) (take_past most_head front more small) ∙ append_assoc front _ others))
    (none (take (most_head - length front) more ++ others))

pub many_more : {text : List ℕ} → HasManyLines text → (more : List ℕ) → HasManyLines (text ++ more)
many_more {text} m more = record {
  lines = m.lines;
  next = m.next;
  rest = m.rest ++ more;
  is = ap (λ t. t ++ more) m.is ∙ append_assoc m.lines (m.next ∷ m.rest) more;
  head = m.head;
  reads = m.reads;
  last = m.last;
  count = m.count;
  in_line = m.in_line;
}

pub many_in_limit : (front : List ℕ) → length front ≤ most_head → HasManyLines front → (more : List ℕ)
    → HasManyLines (take most_head (front ++ more))
many_in_limit front small m more = subst HasManyLines (sym (take_past most_head front more small)) (many_more m _)

too_many_or_not : (e : Error) → (e ≡ error.TooManyHeaders) ⊎ (e ≢ error.TooManyHeaders)
too_many_or_not error.HeaderName = inr (λ e. cc)
too_many_or_not error.HeaderValue = inr (λ e. cc)
too_many_or_not error.NewLine = inr (λ e. cc)
too_many_or_not error.Status = inr (λ e. cc)
too_many_or_not error.Token = inr (λ e. cc)
too_many_or_not error.TooManyHeaders = inl refl
too_many_or_not error.Version = inr (λ e. cc)

-- what an error of the parser says
pub refused_bad : (wanted : Wanted) (front : List ℕ) → length front ≤ most_head → (e : Error)
    → (e ≢ error.TooManyHeaders → NeverHasResponse front)
    → (e ≡ error.TooManyHeaders → ResponseExceeds most_fields front)
    → (more : List ℕ) → IsBadHead (front ++ more) ⊎ HasLostRedirect wanted (front ++ more)
refused_bad wanted front small e none exceeds more = elim (too_many_or_not e) [
  | inl is ↦ inl (many (many_in_limit front small (exceeds_many (exceeds is)) more))
  | inr other ↦ inl (never (never_more front small (none other) more))
]

-- as many bytes as a head may have hold none
pub full_bad : (wanted : Wanted) (front : List ℕ) → HasNoResponse front → length front ≡ most_head → (more : List ℕ) → FrontBroke wanted (front ++ more) cause.BadHead
full_bad wanted front none full more =
    inl (long (omega (arith, full, length-append front more)) (subst HasNoResponse (sym (take_at front more most_head full)) none))
