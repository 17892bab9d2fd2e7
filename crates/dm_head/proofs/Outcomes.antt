-- A stream has one outcome: no two of the definitions hold of it, nor one of them twice.
use Rattle.std.specs.Prelude.{codes}
use Rattle.std.proofs.Common.{◌≡◌, ℕ, ◌-◌, ◌<◌, ◌≤◌, inl, inr, true, false, List, [], ◌∷◌, ◌++◌, length, take, drop, refl, sym, ap, ◌∙◌, subst, arith, append_assoc, length-append, Option}
use Rattle.std.proofs.lemmas.Bool.{cases_lt, false≢true}
use Rattle.std.proofs.lemmas.List.{append-nil, take_all}
use Rattle.httparse.specs.Grammar.{lf, print_end, ResponseHead, print_response, ReadsResponse, status_code}
use Rattle.httparse.proofs.GrammarLemmas.{response_unique}
use Rattle.dm_policy.specs.declared.cause.Cause.{Cause}
use Rattle.dm_policy.specs.declared.cause.Cause.TheVariants as cause
use Rattle.dm_edge.specs.declared.framing.Framing.{Framing}
use Rattle.dm_edge.specs.declared.framing.Framing.TheVariants as frame
use Rattle.dm_edge.specs.Fields.{NameAndValue, values_of, fields_of, IsCountedHead}
use Rattle.dm_edge.specs.Head.{most_head, most_fields, BeginsWith, BeginsFinal, HasManyLines, IsBadHead, never, long, many, IsHeadCut, ComesTo, HasNinthInterim}
use Rattle.dm_edge.specs.declared.wanted.Wanted.{Wanted}
use Rattle.dm_edge.specs.declared.wanted.Wanted.TheVariants.{Whole, Part}
use Rattle.dm_edge.specs.Part.{IsAskedPart, part_size, FitsSize, told_whole}
use Rattle.dm_edge.specs.Begins.{content_status, leads_on, refuses_range, most_content, LeadsTo, LeadsNowhere, GoesOn, IsOtherStatus, IsGoodHead, KeepsLimit, Fits, IsOtherPart, MissesSize, TellsWhole, BeginsContent, BeginsRedirect, FrontBroke, ComesToBroke, HeadBroke, IsOfWire}
use Rattle.dm_head.specs.declared.framing.Framed.{Framed}
use Rattle.dm_head.specs.declared.framing.Framed.TheVariants as framed
use Rattle.dm_head.specs.Laws.{Outcome, Content, Redirect, Broke, Ninth, IsOutcome, OneFraming, OneOutcome, OneCause, BrokeAlone}
use Rattle.dm_head.specs.Lines.{lines_begun}
use Rattle.dm_head.specs.Whole.{IsFramed}
use Rattle.dm_head.proofs.FieldLemmas.{one_agrees}
use Rattle.dm_head.proofs.HeadLemmas.{take_past}
use Rattle.dm_head.proofs.LineLemmas.{head_lines, begun_if_many, begins_other}
use Rattle.dm_head.proofs.ManyLines.{cut_at}
use Rattle.dm_head.proofs.PartLemmas.{one_part}
use Rattle.dm_head.proofs.PassLemmas.{Stops, final_stops, one_place, ninth_not_few, one_ninth, one_begins}

-- ---- a head within the limits leaves no room for a bad head or a cut one

reads_in_limit : {stream rest : List ℕ} {h : ResponseHead} → BeginsWith stream h rest
    → ReadsResponse (take most_head stream) h (take (most_head - length (print_response h)) rest)
reads_in_limit {stream} {rest} {h} b =
    (b.reads.0, ap (take most_head) b.reads.1 ∙ take_past most_head (print_response h) rest b.size)

many_not_whole : (text : List ℕ) (h : ResponseHead) (rest : List ℕ) → HasManyLines text → ReadsResponse text h rest
    → length h.fields ≤ most_fields → ⊥
many_not_whole text h rest m reads few =
    let same : print_response h ++ rest ≡ m.lines ++ m.next ∷ m.rest = sym reads.1 ∙ m.is in
    elim (cases_lt (length m.lines) (length (print_response h))) [
      | inl longer ↦
          let cut = cut_at (print_response h) rest m.lines m.rest m.next longer same in
          let in_head : HasManyLines (print_response h) = record {
            lines = m.lines;
            next = m.next;
            rest = cut.0;
            is = cut.1;
            head = m.head;
            reads = m.reads;
            last = m.last;
            count = m.count;
            in_line = m.in_line;
          } in
          let begun = begun_if_many (print_response h) in_head in
          let count = sym (ap (lines_begun false) (append-nil (print_response h))) ∙ head_lines h reads.0 in
          absurd (omega (arith, begun, count, few))
      | inr shorter ↦
          let other = begins_other (print_response h) rest m.lines (m.next ∷ m.rest) same shorter in
          let tail = drop (length (print_response h)) m.lines in
          let again : ReadsResponse (m.lines ++ print_end lf) h (tail ++ print_end lf) =
          (reads.0, ap (λ t. t ++ print_end lf) other ∙ append_assoc (print_response h) tail (print_end lf)) in
          let unique = response_unique (m.lines ++ print_end lf) m.head h [] (tail ++ print_end lf) m.reads again in
          absurd (omega (arith, ap length unique.1, length-append tail (print_end lf)))
    ]

pub begins_not_bad : {stream rest : List ℕ} {h : ResponseHead} → BeginsWith stream h rest → IsBadHead stream → ⊥
begins_not_bad {stream} {rest} {h} b (never none) =
    let reads = reads_in_limit b in
    none [] h (take (most_head - length (print_response h)) rest) (reads.0, append-nil (take most_head stream) ∙ reads.1)
begins_not_bad {stream} {rest} {h} b (long full none) = none h _ (reads_in_limit b)
begins_not_bad {stream} {rest} {h} b (many m) = many_not_whole (take most_head stream) h _ m (reads_in_limit b) b.count

pub begins_not_cut : {stream rest : List ℕ} {h : ResponseHead} → BeginsWith stream h rest → IsHeadCut stream → ⊥
begins_not_cut {stream} {rest} {h} b cut = cut.none h rest b.reads

pub bad_not_cut : (stream : List ℕ) → IsBadHead stream → IsHeadCut stream → ⊥
bad_not_cut stream bad cut = of_case bad
  where
    whole : take most_head stream ≡ stream
    whole = take_all most_head stream (omega (arith, cut.short))

    of_case : IsBadHead stream → ⊥
    of_case (never none) =
        let may = cut.open_head in
        none may.0 may.1 [] (may.2.0, ap (λ t. t ++ may.0) whole ∙ may.2.1)
    of_case (long full none) = absurd (omega (arith, full, cut.short))
    of_case (many m) = cut.few (subst HasManyLines whole m)

-- ---- one framing

coded_or_not : (values : List (List ℕ)) (coding : List ℕ) → values ≡ coding ∷ [] → values ≡ [] → ⊥
coded_or_not values coding is none = omega (arith, ap length is, ap length none)

one_count : (fields : List NameAndValue) (count other : ℕ) → IsCountedHead fields count → IsCountedHead fields other → count ≡ other
one_count fields count other x y = one_agrees (values_of (codes "content-length") fields) count other x.some x.agree y.agree

pub one_framing : OneFraming
one_framing minor fields frame.Chunked frame.Chunked x y = refl
one_framing minor fields frame.Chunked (frame.Counted n) x y = absurd (coded_or_not _ x.coding x.only y.uncoded)
one_framing minor fields frame.Chunked frame.ToEnd x y = absurd (coded_or_not _ x.coding x.only y.uncoded)
one_framing minor fields (frame.Counted n) frame.Chunked x y = absurd (coded_or_not _ y.coding y.only x.uncoded)
one_framing minor fields (frame.Counted n) (frame.Counted m) x y = ap frame.Counted (one_count fields n m x y)
one_framing minor fields (frame.Counted n) frame.ToEnd x y = absurd (x.some y.uncounted)
one_framing minor fields frame.ToEnd frame.Chunked x y = absurd (coded_or_not _ y.coding y.only x.uncoded)
one_framing minor fields frame.ToEnd (frame.Counted n) x y = absurd (y.some x.uncounted)
one_framing minor fields frame.ToEnd frame.ToEnd x y = refl

one_framed : (minor : ℕ) (fields : List NameAndValue) (a b : Framed) → IsFramed minor fields a → IsFramed minor fields b → a ≡ b
one_framed minor fields (framed.Good f) (framed.Good g) x y = ap framed.Good (one_framing minor fields f g x.1 y.1)
one_framed minor fields (framed.Good f) framed.Encoded x y = absurd (false≢true (sym y ∙ x.0))
one_framed minor fields (framed.Good f) framed.Unframeable x y = absurd (y.1 f x.1)
one_framed minor fields framed.Encoded (framed.Good g) x y = absurd (false≢true (sym x ∙ y.0))
one_framed minor fields framed.Encoded framed.Encoded x y = refl
one_framed minor fields framed.Encoded framed.Unframeable x y = absurd (false≢true (sym x ∙ y.0))
one_framed minor fields framed.Unframeable (framed.Good g) x y = absurd (x.1 g y.1)
one_framed minor fields framed.Unframeable framed.Encoded x y = absurd (false≢true (sym y ∙ x.0))
one_framed minor fields framed.Unframeable framed.Unframeable x y = refl

-- ---- one class of a status

data Class : Type 0 where
  Fine : Class
  Leads : List ℕ → Class
  Lost : Class
  Refusal : ℕ → Class
  Other : ℕ → Class

abbrev IsClass : Wanted → ResponseHead → Class → Type 0
IsClass wanted h Fine = status_code h ≡ content_status wanted
IsClass wanted h (Leads location) = LeadsTo wanted h location
IsClass wanted h Lost = LeadsNowhere wanted h
IsClass wanted h (Refusal status) = (status_code h ≡ status) × (refuses_range wanted status ≡ true)
IsClass wanted h (Other status) = (status_code h ≡ status) × IsOtherStatus wanted status

fine_leads_not : (wanted : Wanted) → leads_on wanted (content_status wanted) ≡ false
fine_leads_not Whole = refl
fine_leads_not (Part first last tag total) = refl

fine_refuses_not : (wanted : Wanted) → refuses_range wanted (content_status wanted) ≡ false
fine_refuses_not Whole = refl
fine_refuses_not (Part first last tag total) = refl

not_both : (wanted : Wanted) (status : ℕ) → leads_on wanted status ≡ true → refuses_range wanted status ≡ true → ⊥
not_both Whole status leads refuses = false≢true refuses
not_both (Part first last tag total) status leads refuses = false≢true leads

fine_or_redirect : (wanted : Wanted) (status : ℕ) → status ≡ content_status wanted → leads_on wanted status ≡ true → ⊥
fine_or_redirect wanted status fine is = false≢true (sym (fine_leads_not wanted) ∙ sym (ap (leads_on wanted) fine) ∙ is)

fine_or_refusal : (wanted : Wanted) (h : ResponseHead) (status : ℕ) → status_code h ≡ content_status wanted → status_code h ≡ status
    → refuses_range wanted status ≡ true → ⊥
fine_or_refusal wanted h status fine is refuses =
    false≢true (sym (fine_refuses_not wanted) ∙ ap (refuses_range wanted) (sym fine ∙ is) ∙ refuses)

redirect_or_refusal : (wanted : Wanted) (h : ResponseHead) (status : ℕ) → leads_on wanted (status_code h) ≡ true → status_code h ≡ status
    → refuses_range wanted status ≡ true → ⊥
redirect_or_refusal wanted h status leads is refuses = not_both wanted status (sym (ap (leads_on wanted) is) ∙ leads) refuses

refusal_or_other : (wanted : Wanted) (h : ResponseHead) (s t : ℕ) → status_code h ≡ s → refuses_range wanted s ≡ true
    → status_code h ≡ t → refuses_range wanted t ≡ false → ⊥
refusal_or_other wanted h s t p refuses q not = false≢true (sym not ∙ ap (refuses_range wanted) (sym q ∙ p) ∙ refuses)

other_or_redirect : (wanted : Wanted) (h : ResponseHead) (status : ℕ) → status_code h ≡ status → leads_on wanted status ≡ false
    → leads_on wanted (status_code h) ≡ true → ⊥
other_or_redirect wanted h status is no_redirect redirect = false≢true (sym no_redirect ∙ sym (ap (leads_on wanted) is) ∙ redirect)

same_head : (values : List (List ℕ)) (x y : List ℕ) → values ≡ x ∷ [] → values ≡ y ∷ [] → x ≡ y
same_head values x y p q = cc

one_class : (wanted : Wanted) (h : ResponseHead) (a b : Class) → IsClass wanted h a → IsClass wanted h b → a ≡ b
one_class wanted h Fine Fine x y = refl
one_class wanted h Fine (Leads l) x y = absurd (fine_or_redirect wanted _ x y.redirects)
one_class wanted h Fine Lost x y = absurd (fine_or_redirect wanted _ x y.redirects)
one_class wanted h Fine (Refusal s) x y = absurd (fine_or_refusal wanted h s x y.0 y.1)
one_class wanted h Fine (Other s) x y = absurd (y.1.not_ok (sym y.0 ∙ x))
one_class wanted h (Leads l) Fine x y = absurd (fine_or_redirect wanted _ y x.redirects)
one_class wanted h (Leads l) (Leads k) x y = ap Leads (same_head _ l k x.only y.only)
one_class wanted h (Leads l) Lost x y = absurd (y.none l x.only)
one_class wanted h (Leads l) (Refusal s) x y = absurd (redirect_or_refusal wanted h s x.redirects y.0 y.1)
one_class wanted h (Leads l) (Other s) x y = absurd (other_or_redirect wanted h s y.0 y.1.no_redirect x.redirects)
one_class wanted h Lost Fine x y = absurd (fine_or_redirect wanted _ y x.redirects)
one_class wanted h Lost (Leads k) x y = absurd (x.none k y.only)
one_class wanted h Lost Lost x y = refl
one_class wanted h Lost (Refusal s) x y = absurd (redirect_or_refusal wanted h s x.redirects y.0 y.1)
one_class wanted h Lost (Other s) x y = absurd (other_or_redirect wanted h s y.0 y.1.no_redirect x.redirects)
one_class wanted h (Refusal s) Fine x y = absurd (fine_or_refusal wanted h s y x.0 x.1)
one_class wanted h (Refusal s) (Leads k) x y = absurd (redirect_or_refusal wanted h s y.redirects x.0 x.1)
one_class wanted h (Refusal s) Lost x y = absurd (redirect_or_refusal wanted h s y.redirects x.0 x.1)
one_class wanted h (Refusal s) (Refusal t) x y = ap Refusal (sym x.0 ∙ y.0)
one_class wanted h (Refusal s) (Other t) x y = absurd (refusal_or_other wanted h s t x.0 x.1 y.0 y.1.no_refusal)
one_class wanted h (Other s) Fine x y = absurd (x.1.not_ok (sym x.0 ∙ y))
one_class wanted h (Other s) (Leads k) x y = absurd (other_or_redirect wanted h s x.0 x.1.no_redirect y.redirects)
one_class wanted h (Other s) Lost x y = absurd (other_or_redirect wanted h s x.0 x.1.no_redirect y.redirects)
one_class wanted h (Other s) (Refusal t) x y = absurd (refusal_or_other wanted h t s y.0 y.1 x.0 x.1.no_refusal)
one_class wanted h (Other s) (Other t) x y = ap Other (sym x.0 ∙ y.0)

-- ---- one verdict on the fields of a head that can be read

data Verdict : Type 0 where
  Taken : Verdict
  OtherPart : Verdict
  OtherSize : Verdict
  TooLarge : ℕ → Verdict

abbrev IsVerdict : Wanted → List NameAndValue → Framing → Verdict → Type 0
IsVerdict wanted fields framing Taken = Fits wanted fields framing
IsVerdict wanted fields framing OtherPart = IsOtherPart wanted fields
IsVerdict wanted fields framing OtherSize = MissesSize wanted fields framing
IsVerdict wanted fields framing (TooLarge total) = TellsWhole wanted fields framing total × (most_content < total)

whole_limit : (framing : Framing) (total : ℕ) → KeepsLimit framing → framing ≡ frame.Counted total → most_content < total → ⊥
whole_limit framing total keeps is above =
    let limit : total ≤ most_content = subst KeepsLimit is keeps in omega (arith, limit, above)

one_whole : (framing : Framing) (m n : ℕ) → framing ≡ frame.Counted m → framing ≡ frame.Counted n → m ≡ n
one_whole framing m n p q = cc

module _ (first last : ℕ) (tag : List ℕ) (known : ℕ) (fields : List NameAndValue) (framing : Framing) where
  -- what fits one part fits the other one, since they are the same
  fits_other : (x y : ℕ) (s t : Option ℕ) → IsAskedPart first last tag known fields x s → IsAskedPart first last tag known fields y t
      → FitsSize (part_size first x) framing → FitsSize (part_size first y) framing
  fits_other x y s t p q = subst (λ (to : ℕ). FitsSize (part_size first to) framing) (one_part p q).to_is

  same_whole : (x y : ℕ) (s t : Option ℕ) → IsAskedPart first last tag known fields x s → IsAskedPart first last tag known fields y t
      → told_whole x s ≡ told_whole y t
  same_whole x y s t p q =
      let same = one_part p q in
      ap (λ (to : ℕ). told_whole to s) same.to_is ∙ ap (told_whole y) same.total_is

  part_verdict : (a b : Verdict) → IsVerdict (Part first last tag known) fields framing a → IsVerdict (Part first last tag known) fields framing b → a ≡ b
  part_verdict Taken Taken x y = refl
  part_verdict Taken OtherPart x y = absurd (y x.to x.total x.asked)
  part_verdict Taken OtherSize x y = absurd (y.other (fits_other x.to y.to x.total y.total x.asked y.asked x.size))
  part_verdict Taken (TooLarge n) x y =
      let whole = same_whole x.to y.0.to x.total y.0.total x.asked y.0.asked in
      absurd (omega (arith, whole, x.limit, y.0.whole_is, y.1))
  part_verdict OtherPart Taken x y = absurd (x y.to y.total y.asked)
  part_verdict OtherPart OtherPart x y = refl
  part_verdict OtherPart OtherSize x y = absurd (x y.to y.total y.asked)
  part_verdict OtherPart (TooLarge n) x y = absurd (x y.0.to y.0.total y.0.asked)
  part_verdict OtherSize Taken x y = absurd (x.other (fits_other y.to x.to y.total x.total y.asked x.asked y.size))
  part_verdict OtherSize OtherPart x y = absurd (y x.to x.total x.asked)
  part_verdict OtherSize OtherSize x y = refl
  part_verdict OtherSize (TooLarge n) x y = absurd (x.other (fits_other y.0.to x.to y.0.total x.total y.0.asked x.asked y.0.size))
  part_verdict (TooLarge m) Taken x y =
      let whole = same_whole y.to x.0.to y.total x.0.total y.asked x.0.asked in
      absurd (omega (arith, whole, y.limit, x.0.whole_is, x.1))
  part_verdict (TooLarge m) OtherPart x y = absurd (y x.0.to x.0.total x.0.asked)
  part_verdict (TooLarge m) OtherSize x y = absurd (y.other (fits_other x.0.to y.to x.0.total y.total x.0.asked y.asked x.0.size))
  part_verdict (TooLarge m) (TooLarge n) x y =
      ap TooLarge (x.0.whole_is ∙ same_whole x.0.to y.0.to x.0.total y.0.total x.0.asked y.0.asked ∙ sym y.0.whole_is)

one_verdict : (wanted : Wanted) (fields : List NameAndValue) (framing : Framing) (a b : Verdict) → IsVerdict wanted fields framing a
    → IsVerdict wanted fields framing b → a ≡ b
one_verdict (Part first last tag known) fields framing a b x y = part_verdict first last tag known fields framing a b x y
one_verdict Whole fields framing Taken Taken x y = refl
one_verdict Whole fields framing Taken (TooLarge n) x y = absurd (whole_limit framing n x y.0 y.1)
one_verdict Whole fields framing (TooLarge m) Taken x y = absurd (whole_limit framing m y x.0 x.1)
one_verdict Whole fields framing (TooLarge m) (TooLarge n) x y = ap TooLarge (one_whole framing m n x.0 y.0)
one_verdict Whole fields framing OtherPart b x y = absurd x
one_verdict Whole fields framing OtherSize b x y = absurd x
one_verdict Whole fields framing Taken OtherPart x y = absurd y
one_verdict Whole fields framing Taken OtherSize x y = absurd y
one_verdict Whole fields framing (TooLarge m) OtherPart x y = absurd y
one_verdict Whole fields framing (TooLarge m) OtherSize x y = absurd y

-- ---- what a head amounts to

abbrev judged : Wanted → ResponseHead → List ℕ → Framing → Verdict → Outcome
judged wanted h rest framing Taken = Content h framing rest
judged wanted h rest framing OtherPart = Broke (cause.RangeRefused (content_status wanted))
judged wanted h rest framing OtherSize = Broke cause.BadFraming
judged wanted h rest framing (TooLarge total) = Broke (cause.TooLarge total)

-- of a head with the wanted status, by its framing
record Judged (wanted : Wanted) (h : ResponseHead) (rest : List ℕ) (framing : Framing) (outcome : Outcome) : Type 0 where
  verdict : Verdict
  is_verdict : IsVerdict wanted (fields_of h) framing verdict
  is : outcome ≡ judged wanted h rest framing verdict

abbrev Fined : Wanted → ResponseHead → List ℕ → Framed → Outcome → Type 0
Fined wanted h rest (framed.Good framing) outcome = Judged wanted h rest framing outcome
Fined wanted h rest framed.Encoded outcome = outcome ≡ Broke cause.Encoded
Fined wanted h rest framed.Unframeable outcome = outcome ≡ Broke cause.BadFraming

-- of a redirect, by its framing
abbrev led : ResponseHead → List ℕ → Framed → Outcome
led h location (framed.Good framing) = Redirect h location
led h location framed.Encoded = Broke cause.Encoded
led h location framed.Unframeable = Broke cause.BadFraming

record FineAt (wanted : Wanted) (h : ResponseHead) (rest : List ℕ) (outcome : Outcome) : Type 0 where
  found : Framed
  is_framed : IsFramed h.minor (fields_of h) found
  is : Fined wanted h rest found outcome

record LedAt (h : ResponseHead) (location : List ℕ) (outcome : Outcome) : Type 0 where
  found : Framed
  is_framed : IsFramed h.minor (fields_of h) found
  is : outcome ≡ led h location found

abbrev Amounts : Wanted → ResponseHead → List ℕ → Class → Outcome → Type 0
Amounts wanted h rest Fine outcome = FineAt wanted h rest outcome
Amounts wanted h rest (Leads location) outcome = LedAt h location outcome
Amounts wanted h rest Lost outcome = outcome ≡ Broke cause.BadHead
Amounts wanted h rest (Refusal status) outcome = outcome ≡ Broke (cause.RangeRefused status)
Amounts wanted h rest (Other status) outcome = outcome ≡ Broke (cause.Status status)

record At (wanted : Wanted) (h : ResponseHead) (rest : List ℕ) (outcome : Outcome) : Type 0 where
  class : Class
  is_class : IsClass wanted h class
  amounts : Amounts wanted h rest class outcome

record IsBegun (wanted : Wanted) (from : List ℕ) (outcome : Outcome) : Type 0 where
  head : ResponseHead
  rest : List ℕ
  begins : BeginsFinal from head rest
  at : At wanted head rest outcome

same_fined : (wanted : Wanted) (h : ResponseHead) (rest : List ℕ) (f : Framed) (a b : Outcome) → Fined wanted h rest f a → Fined wanted h rest f b → a ≡ b
same_fined wanted h rest (framed.Good framing) a b x y =
    x.is ∙ ap (judged wanted h rest framing) (one_verdict wanted (fields_of h) framing x.verdict y.verdict x.is_verdict y.is_verdict) ∙ sym y.is
same_fined wanted h rest framed.Encoded a b x y = x ∙ sym y
same_fined wanted h rest framed.Unframeable a b x y = x ∙ sym y

same_amounts : (wanted : Wanted) (h : ResponseHead) (rest : List ℕ) (c : Class) (a b : Outcome) → Amounts wanted h rest c a → Amounts wanted h rest c b → a ≡ b
same_amounts wanted h rest Fine a b x y =
    let same = one_framed h.minor (fields_of h) x.found y.found x.is_framed y.is_framed in
    same_fined wanted h rest y.found a b (subst (λ (f : Framed). Fined wanted h rest f a) same x.is) y.is
same_amounts wanted h rest (Leads location) a b x y =
    x.is ∙ ap (led h location) (one_framed h.minor (fields_of h) x.found y.found x.is_framed y.is_framed) ∙ sym y.is
same_amounts wanted h rest Lost a b x y = x ∙ sym y
same_amounts wanted h rest (Refusal status) a b x y = x ∙ sym y
same_amounts wanted h rest (Other status) a b x y = x ∙ sym y

same_at : (wanted : Wanted) (h : ResponseHead) (rest : List ℕ) (a b : Outcome) → At wanted h rest a → At wanted h rest b → a ≡ b
same_at wanted h rest a b x y =
    let same = one_class wanted h x.class y.class x.is_class y.is_class in
    same_amounts wanted h rest y.class a b (subst (λ (c : Class). Amounts wanted h rest c a) same x.amounts) y.amounts

same_begun : (wanted : Wanted) {from : List ℕ} {a b : Outcome} → IsBegun wanted from a → IsBegun wanted from b → a ≡ b
same_begun wanted {from} {a} {b} x y =
    let same = one_begins x.begins.begins y.begins.begins in
    same_at wanted y.head y.rest a b
    (subst (λ (r : List ℕ). At wanted y.head r a) same.1 (subst (λ (h : ResponseHead). At wanted h x.rest a) same.0 x.at)) y.at

-- ---- what stands behind the interim heads

data AtFront (wanted : Wanted) (from : List ℕ) (outcome : Outcome) : Type 0 where
  begun : IsBegun wanted from outcome → AtFront wanted from outcome
  bad : IsBadHead from → outcome ≡ Broke cause.BadHead → AtFront wanted from outcome
  cut : IsHeadCut from → outcome ≡ Broke cause.HeadCut → AtFront wanted from outcome

front_stops : {wanted : Wanted} {from : List ℕ} {outcome : Outcome} → AtFront wanted from outcome → Stops from
front_stops (begun x) = final_stops x.begins
front_stops (bad x e) = λ head rest p. begins_not_bad p.begins x
front_stops (cut x e) = λ head rest p. begins_not_cut p.begins x

same_front : (wanted : Wanted) (from : List ℕ) (a b : Outcome) → AtFront wanted from a → AtFront wanted from b → a ≡ b
same_front wanted from a b (begun x) (begun y) = same_begun wanted x y
same_front wanted from a b (begun x) (bad y e) = absurd (begins_not_bad x.begins.begins y)
same_front wanted from a b (begun x) (cut y e) = absurd (begins_not_cut x.begins.begins y)
same_front wanted from a b (bad x e) (begun y) = absurd (begins_not_bad y.begins.begins x)
same_front wanted from a b (bad x d) (bad y e) = d ∙ sym e
same_front wanted from a b (bad x d) (cut y e) = absurd (bad_not_cut from x y)
same_front wanted from a b (cut x d) (begun y) = absurd (begins_not_cut y.begins.begins x)
same_front wanted from a b (cut x d) (bad y e) = absurd (bad_not_cut from y x)
same_front wanted from a b (cut x d) (cut y e) = d ∙ sym e

-- ---- a whole stream

record Comes (wanted : Wanted) (stream : List ℕ) (outcome : Outcome) : Type 0 where
  from : List ℕ
  comes : ComesTo stream from
  at : AtFront wanted from outcome

data Cases (wanted : Wanted) (stream : List ℕ) (outcome : Outcome) : Type 0 where
  comes : Comes wanted stream outcome → Cases wanted stream outcome
  ninth : (status : ℕ) → HasNinthInterim stream status → outcome ≡ Ninth status → Cases wanted stream outcome

same_comes : {wanted : Wanted} {stream : List ℕ} {a b : Outcome} → Comes wanted stream a → Comes wanted stream b → a ≡ b
same_comes {wanted} {stream} {a} {b} x y =
    let same = one_place x.comes (front_stops x.at) y.comes (front_stops y.at) in
    same_front wanted y.from a b (subst (λ (t : List ℕ). AtFront wanted t a) same x.at) y.at

same_cases : (wanted : Wanted) (stream : List ℕ) (a b : Outcome) → Cases wanted stream a → Cases wanted stream b → a ≡ b
same_cases wanted stream a b (comes x) (comes y) = same_comes x y
same_cases wanted stream a b (comes x) (ninth s y e) = absurd (ninth_not_few y x.comes (front_stops x.at))
same_cases wanted stream a b (ninth s x e) (comes y) = absurd (ninth_not_few x y.comes (front_stops y.at))
same_cases wanted stream a b (ninth s x d) (ninth t y e) = d ∙ ap Ninth (one_ninth x y) ∙ sym e

-- a head that goes on, and fields that can't be taken
goes_on_to : (wanted : Wanted) {from : List ℕ} {outcome : Outcome} (h : ResponseHead) (rest : List ℕ) → BeginsFinal from h rest → GoesOn wanted h
    → (found : Framed) → IsFramed h.minor (fields_of h) found → Fined wanted h rest found outcome
    → ((location : List ℕ) → outcome ≡ led h location found) → AtFront wanted from outcome
goes_on_to wanted h rest begins (inl ok) found is fine leads = begun (record {
  head = h;
  rest = rest;
  begins = begins;
  at = record { class = Fine; is_class = ok; amounts = record { found = found; is_framed = is; is = fine } };
})
goes_on_to wanted h rest begins (inr leads_to) found is fine leads = begun (record {
  head = h;
  rest = rest;
  begins = begins;
  at = record { class = Leads leads_to.0; is_class = leads_to.1; amounts = record { found = found; is_framed = is; is = leads leads_to.0 } };
})

-- a head with the wanted status that can be read
judged_at : (wanted : Wanted) {from : List ℕ} {outcome : Outcome} (h : ResponseHead) (rest : List ℕ) → BeginsFinal from h rest
    → status_code h ≡ content_status wanted → (framing : Framing) → IsGoodHead h framing → (verdict : Verdict)
    → IsVerdict wanted (fields_of h) framing verdict → outcome ≡ judged wanted h rest framing verdict → IsBegun wanted from outcome
judged_at wanted h rest begins ok framing good verdict is_verdict is = record {
  head = h;
  rest = rest;
  begins = begins;
  at = record {
    class = Fine;
    is_class = ok;
    amounts = record {
      found = framed.Good framing;
      is_framed = (good.plain, good.framed);
      is = record { verdict = verdict; is_verdict = is_verdict; is = is };
    };
  };
}

front_of : (wanted : Wanted) (from : List ℕ) (broke : Cause) → FrontBroke wanted from broke → AtFront wanted from (Broke broke)
front_of wanted from cause.HeadCut met = cut met refl
front_of wanted from cause.BadHead (inl met) = bad met refl
front_of wanted from cause.BadHead (inr met) = begun (record {
  head = met.head;
  rest = met.rest;
  begins = met.begins;
  at = record { class = Lost; is_class = met.leads; amounts = refl };
})
front_of wanted from (cause.Status status) met = begun (record {
  head = met.head;
  rest = met.rest;
  begins = met.begins;
  at = record { class = Other status; is_class = (met.status_is, met.other); amounts = refl };
})
front_of wanted from cause.Encoded met =
    goes_on_to wanted met.head met.rest met.begins met.goes_on framed.Encoded met.encoded refl (λ location. refl)
front_of wanted from cause.BadFraming (inl met) =
    goes_on_to wanted met.head met.rest met.begins met.goes_on framed.Unframeable (met.plain, met.unframeable) refl (λ location. refl)
front_of wanted from cause.BadFraming (inr met) =
    begun (judged_at wanted met.head met.rest met.begins met.ok met.framing met.good OtherSize met.misses refl)
front_of wanted from (cause.TooLarge total) met =
    begun (judged_at wanted met.head met.rest met.begins met.ok met.framing met.good (TooLarge total) (met.tells, met.above) refl)
front_of wanted from (cause.RangeRefused status) (inl met) = begun (record {
  head = met.head;
  rest = met.rest;
  begins = met.begins;
  at = record { class = Refusal status; is_class = (met.status_is, met.refuses); amounts = refl };
})
front_of wanted from (cause.RangeRefused status) (inr met) =
    begun (judged_at wanted met.head met.rest met.begins met.ok met.framing met.good OtherPart met.other (ap (λ (n : ℕ). Broke (cause.RangeRefused n)) met.status_is))
front_of wanted from cause.NetFailed met = absurd met
front_of wanted from cause.NetTimeout met = absurd met
front_of wanted from (cause.File kind) met = absurd met
front_of wanted from cause.NamesTaken met = absurd met
front_of wanted from cause.BothStand met = absurd met
front_of wanted from (cause.PartShort have known) met = absurd met
front_of wanted from (cause.DigestDiffers have known) met = absurd met
front_of wanted from cause.NetNoRoute met = absurd met
front_of wanted from cause.NetRefused met = absurd met
front_of wanted from cause.BadLocation met = absurd met
front_of wanted from cause.TooManyRedirects met = absurd met
front_of wanted from (cause.ContentShort have told) met = absurd met
front_of wanted from cause.Cancel met = absurd met
front_of wanted from cause.Shutdown met = absurd met
front_of wanted from cause.Memory met = absurd met
front_of wanted from cause.Crash met = absurd met

cases_of : (wanted : Wanted) (stream : List ℕ) (outcome : Outcome) → IsOutcome wanted stream outcome → Cases wanted stream outcome
cases_of wanted stream (Content head framing rest) x = comes (record {
  from = x.has.from;
  comes = x.has.comes;
  at = begun (judged_at wanted head rest x.has.final x.ok framing x.good Taken x.fits refl);
})
cases_of wanted stream (Redirect head location) x = comes (record {
  from = x.has.from;
  comes = x.has.comes;
  at = begun (record {
    head = head;
    rest = x.rest;
    begins = x.has.final;
    at = record {
      class = Leads location;
      is_class = x.leads;
      amounts = record { found = framed.Good x.framing; is_framed = (x.good.plain, x.good.framed); is = refl };
    };
  });
})
cases_of wanted stream (Broke broke) x = comes (record { from = x.from; comes = x.comes; at = front_of wanted x.from broke x.met })
cases_of wanted stream (Ninth status) x = ninth status x refl

-- a stream has at most one outcome
pub one_outcome : OneOutcome
one_outcome wanted stream a b x y = same_cases wanted stream a b (cases_of wanted stream a x) (cases_of wanted stream b y)

-- ---- causes

data HasBroke (wanted : Wanted) (stream : List ℕ) (broke : Cause) : Type 0 where
  too_many : (status : ℕ) → broke ≡ cause.Status status → HasNinthInterim stream status → HasBroke wanted stream broke
  met : ComesToBroke wanted stream broke → HasBroke wanted stream broke

broke_of : (wanted : Wanted) (stream : List ℕ) (broke : Cause) → ¬ (IsOfWire broke) → HeadBroke wanted stream broke → HasBroke wanted stream broke
broke_of wanted stream broke other (inl wire) = absurd (other wire)
broke_of wanted stream broke other (inr (inl x)) = too_many x.0 x.1 x.2
broke_of wanted stream broke other (inr (inr x)) = met x

same_broke : (a b : Cause) → Broke a ≡ Broke b → a ≡ b
same_broke a b e = cc

no_ninth : (a : Cause) (status : ℕ) → Broke a ≡ Ninth status → ⊥
no_ninth a status e = absurd cc

same_has : (wanted : Wanted) (stream : List ℕ) (a b : Cause) → HasBroke wanted stream a → HasBroke wanted stream b → a ≡ b
same_has wanted stream a b (too_many s d x) (too_many t e y) = d ∙ ap cause.Status (one_ninth x y) ∙ sym e
same_has wanted stream a b (too_many s d x) (met y) = absurd (no_ninth b s (one_outcome wanted stream (Broke b) (Ninth s) y x))
same_has wanted stream a b (met x) (too_many t e y) = absurd (no_ninth a t (one_outcome wanted stream (Broke a) (Ninth t) x y))
same_has wanted stream a b (met x) (met y) = same_broke a b (one_outcome wanted stream (Broke a) (Broke b) x y)

pub one_cause : OneCause
one_cause wanted stream a b no_wire other_no_wire x y = same_has wanted stream a b (broke_of wanted stream a no_wire x) (broke_of wanted stream b other_no_wire y)

content_alone : (wanted : Wanted) (stream : List ℕ) (broke : Cause) (head : ResponseHead) (framing : Framing) (rest : List ℕ) → HasBroke wanted stream broke
    → BeginsContent wanted stream head framing rest → ⊥
content_alone wanted stream broke head framing rest (too_many s d x) y =
    let e = one_outcome wanted stream (Ninth s) (Content head framing rest) x y in absurd cc
content_alone wanted stream broke head framing rest (met x) y =
    let e = one_outcome wanted stream (Broke broke) (Content head framing rest) x y in absurd cc

redirect_alone : (wanted : Wanted) (stream : List ℕ) (broke : Cause) (head : ResponseHead) (location : List ℕ) → HasBroke wanted stream broke
    → BeginsRedirect wanted stream head location → ⊥
redirect_alone wanted stream broke head location (too_many s d x) y =
    let e = one_outcome wanted stream (Ninth s) (Redirect head location) x y in absurd cc
redirect_alone wanted stream broke head location (met x) y =
    let e = one_outcome wanted stream (Broke broke) (Redirect head location) x y in absurd cc

pub broke_alone : BrokeAlone
broke_alone = record {
  no_content = λ wanted stream broke head framing rest no_wire x y. content_alone wanted stream broke head framing rest (broke_of wanted stream broke no_wire x) y;
  no_redirect = λ wanted stream broke head location no_wire x y. redirect_alone wanted stream broke head location (broke_of wanted stream broke no_wire x) y;
}
