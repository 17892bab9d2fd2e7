-- A content ends in at most one way.
use Rattle.std.proofs.Common.{◌≡◌, ℕ, ◌≤◌, ◌⊎◌, inl, inr, List, [], ◌∷◌, ◌++◌, length, take, refl, sym, ap, ◌∙◌, subst, arith, append_assoc, length-append, Option, Some}
use Rattle.std.proofs.lemmas.List.{append-nil, take_at, append_cancel_left}
use Rattle.httparse.specs.Grammar.{ResponseHead}
use Rattle.dm_policy.specs.declared.cause.Cause.{Cause}
use Rattle.dm_policy.specs.declared.cause.Cause.TheVariants as cause
use Rattle.dm_chunk.specs.Grammar.{IsChunked}
use Rattle.dm_chunk.specs.Fronts.{Begins, Brings, IsFrontOf, IsBadChunked}
use Rattle.dm_chunk.proofs.ListLemmas.{fronts, head_is}
use Rattle.dm_chunk.proofs.LawLemmas.{one_chunked, one_front, one_bad, chunked_no_front, chunked_not_bad, front_not_bad}
use Rattle.dm_edge.specs.declared.framing.Framing.{Framing}
use Rattle.dm_edge.specs.declared.framing.Framing.TheVariants as framing
use Rattle.dm_edge.specs.declared.wanted.Wanted.{Wanted}
use Rattle.dm_edge.specs.declared.wanted.Wanted.TheVariants as asks
use Rattle.dm_edge.specs.Fields.{fields_of}
use Rattle.dm_edge.specs.Part.{part_size}
use Rattle.dm_edge.specs.Begins.{BeginsContent, BeginsRedirect, KeepsLimit, most_content, HeadBroke, IsOfWire}
use Rattle.dm_edge.specs.Reply.{IsFramedWhole, IsFramedFront, IsFramedShort, IsFramedBadly, IsFramedOver, HasPartSize, HasFramedEnd, IsWholeBehind, IsShortBehind, IsBadBehind, IsOverBehind, IsWhole, IsFrontOfContent, EndsWhole, EndsShort, ContentBroke}
use Rattle.dm_edge.specs.Reply.{BringsFramed}
use Rattle.dm_head.specs.Laws.{Content, Redirect, Broke, Ninth}
use Rattle.dm_head.proofs.Outcomes.{one_outcome}
use Rattle.dm_head.proofs.PartLemmas.{one_part, keeps_limit}
use Rattle.dm_reply.specs.Laws.{Ending, Whole, Short, BadlyChunked, Overfull, IsEnding, OneEnding, WholeAlone}

-- ---- by the framing, and the bytes behind the head

record Over (told : Framing) (rest content : List ℕ) : Type 0 where
  bytes : List ℕ
  after : List ℕ
  more : ℕ
  parts : rest ≡ bytes ++ after
  brings : BringsFramed told bytes (content ++ more ∷ [])
  full : length content ≡ most_content

abbrev Ends : Framing → List ℕ → Ending → Type 0
Ends told rest (Whole content) = EndsWhole told rest content × (length content ≤ most_content)
Ends told rest (Short content wanted) = EndsShort told rest content wanted × (length content ≤ most_content)
Ends told rest (BadlyChunked content) = (told ≡ framing.Chunked) × IsBadChunked rest content × (length content ≤ most_content)
Ends told rest (Overfull content) = Over told rest content

record Ended (wanted : Wanted) (head : ResponseHead) (stream : List ℕ) (ending : Ending) : Type 0 where
  told : Framing
  rest : List ℕ
  begins : BeginsContent wanted stream head told rest
  ends : Ends told rest ending

-- the ending of what a head frames
abbrev IsFramedEnding : Wanted → ResponseHead → List ℕ → Ending → Type 0
IsFramedEnding wanted head stream (Whole content) = IsFramedWhole wanted head stream content
IsFramedEnding wanted head stream (Short content told) = IsFramedShort wanted head stream content told
IsFramedEnding wanted head stream (BadlyChunked content) = IsFramedBadly wanted head stream content
IsFramedEnding wanted head stream (Overfull content) = IsFramedOver wanted head stream content

ended : (wanted : Wanted) (head : ResponseHead) (stream : List ℕ) (ending : Ending) → IsFramedEnding wanted head stream ending
    → Ended wanted head stream ending
ended wanted head stream (Whole content) e = record { told = e.framing; rest = e.rest; begins = e.begins; ends = (e.whole, e.limit) }
ended wanted head stream (Short content told) e = record { told = e.framing; rest = e.rest; begins = e.begins; ends = (e.short, e.limit) }
ended wanted head stream (BadlyChunked content) e = record { told = framing.Chunked; rest = e.rest; begins = e.begins; ends = (refl, e.bad, e.limit) }
ended wanted head stream (Overfull content) e = record {
  told = e.framing;
  rest = e.bytes ++ e.after;
  begins = e.begins;
  ends = record { bytes = e.bytes; after = e.after; more = e.more; parts = refl; brings = e.brings; full = e.full };
}

-- a head that can be read, and the framing and what is behind it
record HasFramedHead (wanted : Wanted) (head : ResponseHead) (stream : List ℕ) : Type 0 where
  framing : Framing
  rest : List ℕ
  begins : BeginsContent wanted stream head framing rest

begins_limit : {wanted : Wanted} {head : ResponseHead} {stream rest : List ℕ} {told : Framing} → BeginsContent wanted stream head told rest → KeepsLimit told
begins_limit {wanted} {head} {stream} {rest} {told} b = keeps_limit wanted (fields_of head) told b.fits

-- ---- lists

same_front : (a x b y : List ℕ) → a ++ x ≡ b ++ y → length a ≡ length b → a ≡ b
same_front a x b y e size = sym (take_at a x (length b) size) ∙ ap (take (length b)) e ∙ take_at b y (length b) refl

longer : (whole front : List ℕ) → Begins whole front → length front ≤ length whole
longer whole front b = let e = ap length b.parts in omega (arith, e, length-append front b.rest)

-- what begins with as many bytes is the same
same_begun : (a b : List ℕ) → length a ≡ length b → Begins a b → a ≡ b
same_begun a b size h = sym (same_front b h.rest a [] (sym h.parts ∙ sym (append-nil a)) (sym size))

same_all : (a b : List ℕ) (x y : ℕ) → length a ≡ length b → Begins (a ++ x ∷ []) (b ++ y ∷ []) → a ≡ b
same_all a b x y size h =
    same_front a (x ∷ []) b (y ∷ h.rest) (h.parts ∙ append_assoc b (y ∷ []) h.rest) size

-- ---- to the connection's end

to_end_one : (rest : List ℕ) (a b : Ending) → Ends framing.ToEnd rest a → Ends framing.ToEnd rest b → a ≡ b
to_end_one rest (Whole a) (Whole b) x y = ap Whole (sym x.0 ∙ y.0)
to_end_one rest (Whole a) (Overfull b) x y =
    absurd (omega (arith, x.1, ap length x.0, ap length y.parts, ap length y.brings, y.full, length-append b (y.more ∷ []), length-append y.bytes y.after))
to_end_one rest (Overfull a) (Whole b) x y =
    absurd (omega (arith, y.1, ap length y.0, ap length x.parts, ap length x.brings, x.full, length-append a (x.more ∷ []), length-append x.bytes x.after))
to_end_one rest (Overfull a) (Overfull b) x y =
    ap Overfull (same_front a (x.more ∷ x.after) b (y.more ∷ y.after)
    (sym (ap (λ t. t ++ x.after) x.brings ∙ append_assoc a (x.more ∷ []) x.after) ∙ sym x.parts ∙ y.parts
    ∙ ap (λ t. t ++ y.after) y.brings ∙ append_assoc b (y.more ∷ []) y.after)
    (x.full ∙ sym y.full))
to_end_one rest (Short a v) b x y = absurd x.0
to_end_one rest (Whole a) (Short b w) x y = absurd y.0
to_end_one rest (Overfull a) (Short b w) x y = absurd y.0
to_end_one rest (BadlyChunked a) b x y = absurd (let wrong = x.0 in cc)
to_end_one rest (Whole a) (BadlyChunked b) x y = absurd (let wrong = y.0 in cc)
to_end_one rest (Overfull a) (BadlyChunked b) x y = absurd (let wrong = y.0 in cc)

-- ---- counted

no_over : (count : ℕ) (rest content : List ℕ) → count ≤ most_content → Over (framing.Counted count) rest content → ⊥
no_over count rest content limit o = absurd (omega (arith, limit, o.brings.1, o.full, length-append content (o.more ∷ [])))

counted_one : (count : ℕ) (rest : List ℕ) (a b : Ending) → count ≤ most_content
    → Ends (framing.Counted count) rest a → Ends (framing.Counted count) rest b → a ≡ b
counted_one count rest (Whole a) (Whole b) limit x y =
    ap Whole (same_front a x.0.0 b y.0.0 (sym x.0.1 ∙ y.0.1) (x.0.2 ∙ sym y.0.2))
counted_one count rest (Whole a) (Short b w) limit x y =
    absurd (omega (arith, ap length x.0.1, x.0.2, ap length y.0.0, y.0.1, length-append a x.0.0))
counted_one count rest (Short a v) (Whole b) limit x y =
    absurd (omega (arith, ap length y.0.1, y.0.2, ap length x.0.0, x.0.1, length-append b y.0.0))
counted_one count rest (Short a v) (Short b w) limit x y =
    let same : a ≡ b = sym x.0.0 ∙ y.0.0 in
    let told : v ≡ w = x.0.2 ∙ sym y.0.2 in
    cc
counted_one count rest (Overfull a) b limit x y = absurd (no_over count rest a limit x)
counted_one count rest (Whole a) (Overfull b) limit x y = absurd (no_over count rest b limit y)
counted_one count rest (Short a v) (Overfull b) limit x y = absurd (no_over count rest b limit y)
counted_one count rest (BadlyChunked a) b limit x y = absurd (let wrong = x.0 in cc)
counted_one count rest (Whole a) (BadlyChunked b) limit x y = absurd (let wrong = y.0 in cc)
counted_one count rest (Short a v) (BadlyChunked b) limit x y = absurd (let wrong = y.0 in cc)

-- ---- in chunks

brings_more : (text more front : List ℕ) → Brings text front → Brings (text ++ more) front
brings_more text more front b = λ further content behind c.
    b (more ++ further) content behind (subst (λ (t : List ℕ). IsChunked t content behind) (append_assoc text more further) c)

-- what one byte too many brings is longer than a content may be
too_long : (content whole : List ℕ) (more : ℕ) → length content ≡ most_content → length whole ≤ most_content
    → Begins whole (content ++ more ∷ []) → ⊥
too_long content whole more full limit b =
    absurd (omega (arith, full, limit, longer whole (content ++ more ∷ []) b, length-append content (more ∷ [])))

over_brings : {rest content : List ℕ} → (o : Over framing.Chunked rest content) → Brings rest (content ++ o.more ∷ [])
over_brings {rest} {content} o =
    subst (λ (t : List ℕ). Brings t (content ++ o.more ∷ [])) (sym o.parts) (brings_more o.bytes o.after (content ++ o.more ∷ []) o.brings.brought)

over_not_whole : {rest content whole behind : List ℕ} → Over framing.Chunked rest content → IsChunked rest whole behind → length whole ≤ most_content → ⊥
over_not_whole {rest} {content} {whole} {behind} o c limit =
    too_long content whole o.more o.full limit
    (over_brings o [] whole behind (subst (λ (t : List ℕ). IsChunked t whole behind) (sym (append-nil rest)) c))

over_not_front : {rest content front : List ℕ} → Over framing.Chunked rest content → IsFrontOf rest front → length front ≤ most_content → ⊥
over_not_front {rest} {content} {front} o f limit = too_long content front o.more o.full limit (f.all (content ++ o.more ∷ []) (over_brings o))

-- what a front brings before a text goes wrong was brought before it does
front_in_bad : {rest bytes front brought : List ℕ} (after : List ℕ) → rest ≡ bytes ++ after → IsFrontOf bytes front → IsBadChunked rest brought → Begins brought front
front_in_bad {rest} {bytes} {front} {brought} after parts brings bad = of_case (fronts bytes after bad.front (bad.byte ∷ bad.rest) (sym parts ∙ bad.parts))
  where
    from_bytes : (r : List ℕ) → bad.front ≡ bytes ++ r → Begins brought front
    from_bytes r e =
        bad.before.all front (subst (λ (t : List ℕ). Brings t front) (sym e) (brings_more bytes r front brings.brought))

    from_front : (r : List ℕ) → bytes ≡ bad.front ++ r → Begins brought front
    from_front [] e = from_bytes [] (sym (e ∙ append-nil bad.front) ∙ sym (append-nil bytes))
    from_front (x ∷ r) e =
        let both : bad.front ++ x ∷ (r ++ after) ≡ bad.front ++ bad.byte ∷ bad.rest =
        sym (ap (λ t. t ++ after) e ∙ append_assoc bad.front (x ∷ r) after) ∙ sym parts ∙ bad.parts
        in
        let byte = head_is x bad.byte (r ++ after) bad.rest (append_cancel_left bad.front (x ∷ (r ++ after)) (bad.byte ∷ bad.rest) both) in
        let on = brings.goes_on in
        absurd (bad.stops (record {
          more = r ++ on.more;
          content = on.content;
          after = on.after;
          chunked = subst (λ (t : List ℕ). IsChunked t on.content on.after)
              (ap (λ t. t ++ on.more) (e ∙ ap (λ (b : ℕ). bad.front ++ b ∷ r) byte) ∙ append_assoc bad.front (bad.byte ∷ r) on.more
              ∙ sym (append_assoc bad.front (bad.byte ∷ []) (r ++ on.more)))
              on.chunked;
        }))

    of_case : Begins bytes bad.front ⊎ Begins bad.front bytes → Begins brought front
    of_case (inl b) = from_front b.rest b.parts
    of_case (inr b) = from_bytes b.rest b.parts

over_not_bad : {rest content brought : List ℕ} → Over framing.Chunked rest content → IsBadChunked rest brought → length brought ≤ most_content → ⊥
over_not_bad {rest} {content} {brought} o bad limit = too_long content brought o.more o.full limit (front_in_bad o.after o.parts o.brings bad)

over_one : {rest a b : List ℕ} → Over framing.Chunked rest a → Over framing.Chunked rest b → a ≡ b
over_one {rest} {a} {b} x y = of_case (fronts x.bytes x.after y.bytes y.after (sym x.parts ∙ y.parts))
  where
    of_case : Begins x.bytes y.bytes ⊎ Begins y.bytes x.bytes → a ≡ b
    of_case (inl h) =
        same_all a b x.more y.more (x.full ∙ sym y.full)
        (x.brings.all (b ++ y.more ∷ []) (subst (λ (t : List ℕ). Brings t (b ++ y.more ∷ [])) (sym h.parts) (brings_more y.bytes h.rest (b ++ y.more ∷ []) y.brings.brought)))
    of_case (inr h) =
        sym (same_all b a y.more x.more (y.full ∙ sym x.full)
        (y.brings.all (a ++ x.more ∷ []) (subst (λ (t : List ℕ). Brings t (a ++ x.more ∷ [])) (sym h.parts) (brings_more x.bytes h.rest (a ++ x.more ∷ []) x.brings.brought))))

chunked_one : (rest : List ℕ) (a b : Ending) → Ends framing.Chunked rest a → Ends framing.Chunked rest b → a ≡ b
chunked_one rest (Whole a) (Whole b) x y = ap Whole (one_chunked rest a x.0.0 b y.0.0 x.0.1 y.0.1).0
chunked_one rest (Whole a) (Short b w) x y = absurd (chunked_no_front rest a x.0.0 b x.0.1 y.0.0)
chunked_one rest (Whole a) (BadlyChunked b) x y = absurd (chunked_not_bad rest a x.0.0 b x.0.1 y.1)
chunked_one rest (Whole a) (Overfull b) x y = absurd (over_not_whole y x.0.1 x.1)
chunked_one rest (Short a v) (Whole b) x y = absurd (chunked_no_front rest b y.0.0 a y.0.1 x.0.0)
chunked_one rest (Short a v) (Short b w) x y =
    let same = one_front rest a b x.0.0 y.0.0 in
    let told : v ≡ w = x.0.1 ∙ sym y.0.1 in
    cc
chunked_one rest (Short a v) (BadlyChunked b) x y = absurd (front_not_bad rest a b x.0.0 y.1)
chunked_one rest (Short a v) (Overfull b) x y = absurd (over_not_front y x.0.0 x.1)
chunked_one rest (BadlyChunked a) (Whole b) x y = absurd (chunked_not_bad rest b y.0.0 a y.0.1 x.1)
chunked_one rest (BadlyChunked a) (Short b w) x y = absurd (front_not_bad rest b a y.0.0 x.1)
chunked_one rest (BadlyChunked a) (BadlyChunked b) x y = ap BadlyChunked (one_bad rest a b x.1 y.1)
chunked_one rest (BadlyChunked a) (Overfull b) x y = absurd (over_not_bad y x.1 x.2)
chunked_one rest (Overfull a) (Whole b) x y = absurd (over_not_whole x y.0.1 y.1)
chunked_one rest (Overfull a) (Short b w) x y = absurd (over_not_front x y.0.0 y.1)
chunked_one rest (Overfull a) (BadlyChunked b) x y = absurd (over_not_bad x y.1 y.2)
chunked_one rest (Overfull a) (Overfull b) x y = ap Overfull (over_one x y)

-- ---- the law

ends_one : (told : Framing) (rest : List ℕ) (a b : Ending) → KeepsLimit told → Ends told rest a → Ends told rest b → a ≡ b
ends_one framing.Chunked rest a b limit x y = chunked_one rest a b x y
ends_one (framing.Counted count) rest a b limit x y = counted_one count rest a b limit x y
ends_one framing.ToEnd rest a b limit x y = to_end_one rest a b x y

same_place : {wanted : Wanted} {head other : ResponseHead} {stream : List ℕ} {a b : Ending} → (x : Ended wanted head stream a)
    → (y : Ended wanted other stream b) → (x.told ≡ y.told) × (x.rest ≡ y.rest)
same_place {wanted} {head} {other} {stream} x y =
    let same = one_outcome wanted stream (Content head x.told x.rest) (Content other y.told y.rest) x.begins y.begins in
    ((cc), (cc))

one_framed_ending : (wanted : Wanted) (head other : ResponseHead) (stream : List ℕ) (a b : Ending) → IsFramedEnding wanted head stream a
    → IsFramedEnding wanted other stream b → a ≡ b
one_framed_ending wanted head other stream a b is other_is =
    let x = ended wanted head stream a is in
    let y = ended wanted other stream b other_is in
    let same = same_place x y in
    ends_one x.told x.rest a b (begins_limit x.begins) x.ends
    (subst (λ (t : Framing). Ends t x.rest b) (sym same.0) (subst (λ (r : List ℕ). Ends y.told r b) (sym same.1) y.ends))

-- ---- fronts of what a head frames

-- first bytes, by the framing and what is behind the head
record FrontAt (told : Framing) (rest front : List ℕ) : Type 0 where
  bytes : List ℕ
  after : List ℕ
  parts : rest ≡ bytes ++ after
  brings : BringsFramed told bytes front

front_at : {wanted : Wanted} {head other : ResponseHead} {stream front rest : List ℕ} {told : Framing} → IsFramedFront wanted head stream front
    → BeginsContent wanted stream other told rest → FrontAt told rest front
front_at {wanted} {head} {other} {stream} {front} {rest} {told} f begins =
    let same = one_outcome wanted stream (Content head f.framing (f.bytes ++ f.after)) (Content other told rest) f.begins begins in
    let framing_is : f.framing ≡ told = cc in
    let rest_is : f.bytes ++ f.after ≡ rest = cc in
    record {
      bytes = f.bytes;
      after = f.after;
      parts = sym rest_is;
      brings = subst (λ (t : Framing). BringsFramed t f.bytes front) framing_is f.brings;
    }

-- bytes in place are a front of what they are at the front of
plain_length : (rest bytes after front : List ℕ) → rest ≡ bytes ++ after → bytes ≡ front → length front ≤ length rest
plain_length rest bytes after front parts is = omega (arith, ap length parts, ap length is, length-append bytes after)

-- of two fronts the longer one begins with the other
shorter_begins : (a b : List ℕ) → length b ≤ length a → Begins a b ⊎ Begins b a → Begins a b
shorter_begins a b short (inl h) = h
shorter_begins a b short (inr h) =
    let same = same_begun b a (omega (arith, longer b a h, short)) h in
    record { rest = []; parts = sym same ∙ sym (append-nil b) }

-- what is whole begins with each front
whole_begins : (told : Framing) (rest front content : List ℕ) → FrontAt told rest front → EndsWhole told rest content → Begins content front
whole_begins framing.Chunked rest front content f whole =
    brings_more f.bytes f.after front f.brings.brought [] content whole.0
    (subst (λ (t : List ℕ). IsChunked t content whole.0) (f.parts ∙ sym (append-nil (f.bytes ++ f.after))) whole.1)
whole_begins (framing.Counted count) rest front content f whole =
    shorter_begins content front (omega (arith, f.brings.1, whole.2))
    (fronts content whole.0 front f.after (sym whole.1 ∙ f.parts ∙ ap (λ t. t ++ f.after) f.brings.0))
whole_begins framing.ToEnd rest front content f whole = record { rest = f.after; parts = sym whole ∙ f.parts ∙ ap (λ t. t ++ f.after) f.brings }

-- and so no front is longer
front_in_whole : (told : Framing) (rest front content : List ℕ) → FrontAt told rest front → EndsWhole told rest content → length front ≤ length content
front_in_whole told rest front content f whole = longer content front (whole_begins told rest front content f whole)

-- nor than what came of a short one
front_in_short : (told : Framing) (rest front content : List ℕ) (length_told : Option ℕ) → FrontAt told rest front
    → EndsShort told rest content length_told → length front ≤ length content
front_in_short framing.Chunked rest front content length_told f short =
    longer content front (short.0.all front (subst (λ (t : List ℕ). Brings t front) (sym f.parts) (brings_more f.bytes f.after front f.brings.brought)))
front_in_short (framing.Counted count) rest front content length_told f short =
    omega (arith, plain_length rest f.bytes f.after front f.parts f.brings.0, ap length short.0)
front_in_short framing.ToEnd rest front content length_told f short = absurd short

-- one of two fronts begins with the other
fronts_at : (told : Framing) (rest a b : List ℕ) → FrontAt told rest a → FrontAt told rest b → Begins a b ⊎ Begins b a
fronts_at framing.Chunked rest a b x y = of_case (fronts x.bytes x.after y.bytes y.after (sym x.parts ∙ y.parts))
  where
    of_case : Begins x.bytes y.bytes ⊎ Begins y.bytes x.bytes → Begins a b ⊎ Begins b a
    of_case (inl h) = inl (x.brings.all b (subst (λ (t : List ℕ). Brings t b) (sym h.parts) (brings_more y.bytes h.rest b y.brings.brought)))
    of_case (inr h) = inr (y.brings.all a (subst (λ (t : List ℕ). Brings t a) (sym h.parts) (brings_more x.bytes h.rest a x.brings.brought)))
fronts_at (framing.Counted count) rest a b x y =
    fronts a x.after b y.after (ap (λ t. t ++ x.after) (sym x.brings.0) ∙ sym x.parts ∙ y.parts ∙ ap (λ t. t ++ y.after) y.brings.0)
fronts_at framing.ToEnd rest a b x y =
    fronts a x.after b y.after (ap (λ t. t ++ x.after) (sym x.brings) ∙ sym x.parts ∙ y.parts ∙ ap (λ t. t ++ y.after) y.brings)

-- two fronts of one length are the same
one_front_at : (told : Framing) (rest a b : List ℕ) → FrontAt told rest a → FrontAt told rest b → length a ≡ length b → a ≡ b
one_front_at told rest a b x y size = same_begun a b size (shorter_begins a b (omega (arith, size)) (fronts_at told rest a b x y))

-- ---- the wanted content

-- what is wanted ends so behind this head
abbrev EndsSo : Wanted → ResponseHead → List ℕ → Ending → Type 0
EndsSo wanted head stream (Whole content) = IsWholeBehind wanted head stream content
EndsSo wanted head stream (Short content told) = IsShortBehind wanted head stream content told
EndsSo wanted head stream (BadlyChunked content) = IsBadBehind wanted head stream content
EndsSo wanted head stream (Overfull content) = IsOverBehind wanted head stream content

record EndsBehind (wanted : Wanted) (stream : List ℕ) (ending : Ending) : Type 0 where
  head : ResponseHead
  ends : EndsSo wanted head stream ending

ends_behind : (wanted : Wanted) (stream : List ℕ) (ending : Ending) → IsEnding wanted stream ending → EndsBehind wanted stream ending
ends_behind wanted stream (Whole content) e = record { head = e.head; ends = e.all }
ends_behind wanted stream (Short content told) e = record { head = e.head; ends = e.lacks }
ends_behind wanted stream (BadlyChunked content) e = record { head = e.head; ends = e.breaks }
ends_behind wanted stream (Overfull content) e = record { head = e.head; ends = e.over }

-- of a whole content it is the ending of what is framed
framed_ends : (head : ResponseHead) (stream : List ℕ) (ending : Ending) → EndsSo asks.Whole head stream ending
    → IsFramedEnding asks.Whole head stream ending
framed_ends head stream (Whole content) e = e
framed_ends head stream (Short content told) e = e
framed_ends head stream (BadlyChunked content) e = e
framed_ends head stream (Overfull content) e = e

module _ (first last : ℕ) (tag : List ℕ) (known : ℕ) (stream : List ℕ) where
  abbrev part : Wanted
  part = asks.Part first last tag known

  -- two heads of one stream are one, and tell one size
  one_size : (head other : ResponseHead) (m n : ℕ) → head ≡ other → HasPartSize first last tag known head m → HasPartSize first last tag known other n → m ≡ n
  one_size head other m n same x y =
      let moved = subst (λ (h : ResponseHead). HasPartSize first last tag known h m) same x in
      moved.size_is ∙ ap (part_size first) (one_part moved.asked y.asked).to_is ∙ sym y.size_is

  head_of_end : (head : ResponseHead) (content : List ℕ) → HasFramedEnd part head stream content → HasFramedHead part head stream
  head_of_end head content (inl whole) = record { framing = whole.framing; rest = whole.rest; begins = whole.begins }
  head_of_end head content (inr short) = record { framing = short.1.framing; rest = short.1.rest; begins = short.1.begins }

  -- a part that is whole is no longer than what ended
  all_in_end : (head other : ResponseHead) (front content : List ℕ) → IsFramedFront part head stream front → HasFramedEnd part other stream content
      → length front ≤ length content
  all_in_end head other front content f (inl whole) =
      front_in_whole whole.framing whole.rest front content (front_at f whole.begins) whole.whole
  all_in_end head other front content f (inr short) =
      front_in_short short.1.framing short.1.rest front content short.0 (front_at f short.1.begins) short.1.short

  all_in_bad : (head other : ResponseHead) (front content : List ℕ) → IsFramedFront part head stream front → IsFramedBadly part other stream content
      → length front ≤ length content
  all_in_bad head other front content f bad =
      let at = front_at f bad.begins in longer content front (front_in_bad at.after at.parts at.brings bad.bad)

  one_end : (head other : ResponseHead) (a b : List ℕ) → HasFramedEnd part head stream a → HasFramedEnd part other stream b → a ≡ b
  one_end head other a b (inl x) (inl y) =
      let same = one_framed_ending part head other stream (Whole a) (Whole b) x y in cc
  one_end head other a b (inl x) (inr y) =
      let same = one_framed_ending part head other stream (Whole a) (Short b y.0) x y.1 in absurd cc
  one_end head other a b (inr x) (inl y) =
      let same = one_framed_ending part head other stream (Short a x.0) (Whole b) x.1 y in absurd cc
  one_end head other a b (inr x) (inr y) =
      let same = one_framed_ending part head other stream (Short a x.0) (Short b y.0) x.1 y.1 in cc

  end_not_bad : (head other : ResponseHead) (a b : List ℕ) → HasFramedEnd part head stream a → IsFramedBadly part other stream b → ⊥
  end_not_bad head other a b (inl x) y =
      let same = one_framed_ending part head other stream (Whole a) (BadlyChunked b) x y in absurd cc
  end_not_bad head other a b (inr x) y =
      let same = one_framed_ending part head other stream (Short a x.0) (BadlyChunked b) x.1 y in absurd cc

  same_heads : {head other : ResponseHead} → HasFramedHead part head stream → HasFramedHead part other stream → head ≡ other
  same_heads {head} {other} x y =
      let same = one_outcome part stream (Content head x.framing x.rest) (Content other y.framing y.rest) x.begins y.begins in cc

  head_of_front : {head : ResponseHead} {content : List ℕ} → IsFramedFront part head stream content → HasFramedHead part head stream
  head_of_front f = record { framing = f.framing; rest = f.bytes ++ f.after; begins = f.begins }

  head_of_bad : {head : ResponseHead} {content : List ℕ} → IsFramedBadly part head stream content → HasFramedHead part head stream
  head_of_bad f = record { framing = framing.Chunked; rest = f.rest; begins = f.begins }

  one_part_ending : (head other : ResponseHead) (a b : Ending) → EndsSo part head stream a → EndsSo part other stream b → a ≡ b
  one_part_ending head other (Whole a) (Whole b) x y =
      let same = same_heads (head_of_front x.front) (head_of_front y.front) in
      let size = one_size head other x.size y.size same x.has_size y.has_size in
      ap Whole (one_front_at y.front.framing (y.front.bytes ++ y.front.after) a b (front_at x.front y.front.begins) (front_at y.front y.front.begins)
      (x.all ∙ size ∙ sym y.all))
  one_part_ending head other (Whole a) (Short b v) x y =
      let same = same_heads (head_of_front x.front) (head_of_end other b y.ended) in
      let size = one_size head other x.size y.size same x.has_size y.has_size in
      absurd (omega (arith, all_in_end head other a b x.front y.ended, x.all, y.lacks, size))
  one_part_ending head other (Whole a) (BadlyChunked b) x y =
      let same = same_heads (head_of_front x.front) (head_of_bad y.bad) in
      let size = one_size head other x.size y.size same x.has_size y.has_size in
      absurd (omega (arith, all_in_bad head other a b x.front y.bad, x.all, y.lacks, size))
  one_part_ending head other (Short a v) (Whole b) x y =
      let same = same_heads (head_of_front y.front) (head_of_end head a x.ended) in
      let size = one_size other head y.size x.size same y.has_size x.has_size in
      absurd (omega (arith, all_in_end other head b a y.front x.ended, y.all, x.lacks, size))
  one_part_ending head other (Short a v) (Short b w) x y =
      let content = one_end head other a b x.ended y.ended in
      let same = same_heads (head_of_end head a x.ended) (head_of_end other b y.ended) in
      let size = one_size head other x.size y.size same x.has_size y.has_size in
      let told : v ≡ w = x.told_is ∙ ap (λ (n : ℕ). Some n) size ∙ sym y.told_is in
      cc
  one_part_ending head other (Short a v) (BadlyChunked b) x y = absurd (end_not_bad head other a b x.ended y.bad)
  one_part_ending head other (BadlyChunked a) (Whole b) x y =
      let same = same_heads (head_of_front y.front) (head_of_bad x.bad) in
      let size = one_size other head y.size x.size same y.has_size x.has_size in
      absurd (omega (arith, all_in_bad other head b a y.front x.bad, y.all, x.lacks, size))
  one_part_ending head other (BadlyChunked a) (Short b w) x y = absurd (end_not_bad other head b a y.ended x.bad)
  one_part_ending head other (BadlyChunked a) (BadlyChunked b) x y =
      let same = one_framed_ending part head other stream (BadlyChunked a) (BadlyChunked b) x.bad y.bad in cc
  one_part_ending head other (Overfull a) b x y = absurd x
  one_part_ending head other (Whole a) (Overfull b) x y = absurd y
  one_part_ending head other (Short a v) (Overfull b) x y = absurd y
  one_part_ending head other (BadlyChunked a) (Overfull b) x y = absurd y

one_so : (wanted : Wanted) (stream : List ℕ) (head other : ResponseHead) (a b : Ending) → EndsSo wanted head stream a → EndsSo wanted other stream b → a ≡ b
one_so asks.Whole stream head other a b x y =
    one_framed_ending asks.Whole head other stream a b (framed_ends head stream a x) (framed_ends other stream b y)
one_so (asks.Part first last tag known) stream head other a b x y = one_part_ending first last tag known stream head other a b x y

pub one_ending : OneEnding
one_ending wanted stream a b is other =
    let x = ends_behind wanted stream a is in
    let y = ends_behind wanted stream b other in
    one_so wanted stream x.head y.head a b x.ends y.ends

-- ---- what is whole is nothing else

head_of_all : (wanted : Wanted) (head : ResponseHead) (stream content : List ℕ) → IsWholeBehind wanted head stream content → HasFramedHead wanted head stream
head_of_all asks.Whole head stream content all = record { framing = all.framing; rest = all.rest; begins = all.begins }
head_of_all (asks.Part first last tag known) head stream content all =
    record { framing = all.front.framing; rest = all.front.bytes ++ all.front.after; begins = all.front.begins }

one_whole : (wanted : Wanted) (stream content other : List ℕ) → IsWhole wanted stream content → IsWhole wanted stream other → content ≡ other
one_whole wanted stream content other w v = let same = one_ending wanted stream (Whole content) (Whole other) w v in cc

whole_no_redirect : (wanted : Wanted) (stream content : List ℕ) (head : ResponseHead) (location : List ℕ) → IsWhole wanted stream content → BeginsRedirect wanted stream head location → ⊥
whole_no_redirect wanted stream content head location w r =
    let h = head_of_all wanted w.head stream content w.all in
    let same = one_outcome wanted stream (Content w.head h.framing h.rest) (Redirect head location) h.begins r in
    absurd cc

whole_head : (wanted : Wanted) (stream content : List ℕ) (broke : Cause) → IsWhole wanted stream content → HeadBroke wanted stream broke → IsOfWire broke
whole_head wanted stream content broke w (inl wire) = wire
whole_head wanted stream content broke w (inr (inl ninth)) =
    let h = head_of_all wanted w.head stream content w.all in
    let same = one_outcome wanted stream (Content w.head h.framing h.rest) (Ninth ninth.0) h.begins ninth.2 in
    absurd cc
whole_head wanted stream content broke w (inr (inr met)) =
    let h = head_of_all wanted w.head stream content w.all in
    let same = one_outcome wanted stream (Content w.head h.framing h.rest) (Broke broke) h.begins met in
    absurd cc

whole_content : (wanted : Wanted) (stream content given : List ℕ) (broke : Cause) → IsWhole wanted stream content → ContentBroke wanted stream given broke
    → IsOfWire broke ⊎ (broke ≡ cause.Memory)
whole_content wanted stream content given cause.NetFailed w met = inl (inl refl)
whole_content wanted stream content given cause.NetTimeout w met = inl (inr refl)
whole_content wanted stream content given cause.Memory w met = inr refl
whole_content wanted stream content given (cause.ContentShort have told) w met =
    let same = one_ending wanted stream (Whole content) (Short given told) w met.0 in absurd cc
whole_content wanted stream content given cause.BadFraming w met =
    let same = one_ending wanted stream (Whole content) (BadlyChunked given) w met in absurd cc
whole_content wanted stream content given (cause.TooLarge total) w met =
    let same = one_ending wanted stream (Whole content) (Overfull given) w met.0 in absurd cc
whole_content wanted stream content given cause.HeadCut w met = absurd met
whole_content wanted stream content given (cause.Status status) w met = absurd met
whole_content wanted stream content given cause.BadHead w met = absurd met
whole_content wanted stream content given cause.Encoded w met = absurd met
whole_content wanted stream content given (cause.File kind) w met = absurd met
whole_content wanted stream content given cause.NamesTaken w met = absurd met
whole_content wanted stream content given cause.BothStand w met = absurd met
whole_content wanted stream content given (cause.PartShort have known) w met = absurd met
whole_content wanted stream content given (cause.DigestDiffers have known) w met = absurd met
whole_content wanted stream content given cause.NetNoRoute w met = absurd met
whole_content wanted stream content given cause.NetRefused w met = absurd met
whole_content wanted stream content given cause.BadLocation w met = absurd met
whole_content wanted stream content given cause.TooManyRedirects w met = absurd met
whole_content wanted stream content given (cause.RangeRefused status) w met = absurd met
whole_content wanted stream content given cause.Cancel w met = absurd met
whole_content wanted stream content given cause.Shutdown w met = absurd met
whole_content wanted stream content given cause.Crash w met = absurd met

pub whole_alone : WholeAlone
whole_alone = record {
  one_content = one_whole;
  no_redirect = whole_no_redirect;
  no_head_cause = whole_head;
  no_content_cause = whole_content;
}

-- ---- first bytes of what is whole

front_begins : (wanted : Wanted) (stream content front : List ℕ) → IsWhole wanted stream content → IsFrontOfContent wanted stream front → Begins content front
front_begins asks.Whole stream content front w f =
    whole_begins w.all.framing w.all.rest front content (front_at f.some w.all.begins) w.all.whole
front_begins (asks.Part first last tag known) stream content front w f =
    let x = w.all in
    let y = f.some in
    let same = same_heads first last tag known stream (head_of_front first last tag known stream x.front) (head_of_front first last tag known stream y.front) in
    let size = one_size first last tag known stream w.head f.head x.size y.size same x.has_size y.has_size in
    shorter_begins content front (omega (arith, x.all, y.within, size))
    (fronts_at x.front.framing (x.front.bytes ++ x.front.after) content front (front_at x.front x.front.begins) (front_at y.front x.front.begins))

-- what is whole begins with first bytes of it
pub whole_front : (wanted : Wanted) (stream content front : List ℕ) → IsWhole wanted stream content → IsFrontOfContent wanted stream front → (rest : List ℕ) × (content ≡ front ++ rest)
whole_front wanted stream content front w f = let b = front_begins wanted stream content front w f in (b.rest, b.parts)

-- and with what came of it before a cause ended the reading
pub whole_broke : (wanted : Wanted) (stream content given : List ℕ) (broke : Cause) → IsWhole wanted stream content → ContentBroke wanted stream given broke → (rest : List ℕ) × (content ≡ given ++ rest)
whole_broke wanted stream content given broke w met = by (whole_content wanted stream content given broke w met)
  where
    front : (other : Cause) → broke ≡ other → ContentBroke wanted stream given other
    front other is = subst (λ (c : Cause). ContentBroke wanted stream given c) is met

    by : IsOfWire broke ⊎ (broke ≡ cause.Memory) → (rest : List ℕ) × (content ≡ given ++ rest)
    by (inl (inl is)) = whole_front wanted stream content given w (front cause.NetFailed is)
    by (inl (inr is)) = whole_front wanted stream content given w (front cause.NetTimeout is)
    by (inr is) = whole_front wanted stream content given w (front cause.Memory is)
