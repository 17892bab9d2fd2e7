-- What a generated stream has of a content is what its number generates.
use Rattle.std.proofs.Common.{◌≡◌, ℕ, zero, suc, ◌+◌, ◌-◌, ◌^◌, ◌<◌, ◌≤◌, Bool, true, false, List, [], ◌∷◌, ◌++◌, length, take, drop, get_or, codes, refl, sym, ap, ◌∙◌, subst, arith, inl, inr, Some, None, length-append}
use Rattle.std.specs.Prelude.{All, slice_get, nat_lt, nat_le, ◌&&◌}
use Rattle.std.specs.Fmt.{decimal}
use Rattle.std.proofs.lemmas.Bool.{cond-false, false≢true, ltb-true, leb-true}
use Rattle.std.proofs.lemmas.List.{get_or_append_left, take-append-drop}
use Rattle.std.proofs.lemmas.List.Elements.{All-cons}
use Rattle.std.proofs.lemmas.Option.{slice_get_cases, same_Some, none-some}
use Rattle.httparse.specs.Grammar.{ResponseHead, print_response, status_code, trim_ows}
use Rattle.httparse.proofs.OnLiterals.{httparse_on_literals}
use Rattle.dm_tag.specs.Length.{IsLength}
use Rattle.dm_tag.specs.Units.{NamesBytes}
use Rattle.dm_edge.specs.Wire.{Purpose}
use Rattle.dm_edge.specs.declared.framing.Framing.{Framing}
use Rattle.dm_edge.specs.declared.framing.Framing.TheVariants.{Chunked, Counted, ToEnd}
use Rattle.dm_edge.specs.declared.wanted.Wanted.{Wanted}
use Rattle.dm_edge.specs.declared.wanted.Wanted.TheVariants as wanted
use Rattle.dm_edge.specs.Fair.{IsHonest, first_of}
use Rattle.dm_edge.specs.Fields.{FramedBy, IsCountedHead, fields_of, values_of}
use Rattle.dm_edge.specs.Head.{HasHead, Passes}
use Rattle.dm_edge.specs.Origin.{generated_byte}
use Rattle.dm_edge.specs.Part.{NamesPart}
use Rattle.dm_edge.specs.Reply.{BringsFramed, IsFramedFront, IsFrontOfContent}
use Rattle.dm_head.proofs.HeadLemmas.{some_printed}
use Rattle.dm_head.proofs.PartLemmas.{one_named}
use Rattle.dm_head.proofs.PassLemmas.{one_head}
use Rattle.dm_generated.specs.Content.{bytes_from, size_of, tag_of}
use Rattle.dm_generated.specs.Laws.{BringsGenerated, PartReads, ReadsBack, WholeReads}
use Rattle.dm_generated.specs.Replies.{body_of, brought, head_of, is_reply, part_head, places_text, stream_with, whole_head}
use Rattle.dm_generated.specs.declared.reply.Reply.{Reply}
use Rattle.dm_generated.specs.declared.reply.Reply.TheVariants as replies
use Rattle.dm_generated.proofs.Bytes.{bytes_at, bytes_length}
use Rattle.dm_generated.proofs.Heads.{length_is, range_is, size_small, strong_part, strong_whole, trimmed_number, trimmed_places}
use Rattle.dm_generated.proofs.Printed.{has_part, has_whole}

both : (x y : Bool) → (x && y) ≡ true → (x ≡ true) × (y ≡ true)
both true y e = (refl, e)
both false y e = absurd (false≢true e)

-- ---- no head stands in nothing

empties : (passed : List ResponseHead) (from : List ℕ) → Passes [] passed from → from ≡ []
empties [] from p = sym p
empties (h ∷ older) from p =
    let before : p.0 ≡ [] = empties older p.0 p.1 in
    absurd (omega (arith, ap length before, ap length p.2.begins.reads.1, length-append (print_response h) from, some_printed h))

nothing_begins : (head : ResponseHead) (rest : List ℕ) → HasHead [] head rest → ⊥
nothing_begins head rest has =
    let none : has.from ≡ [] = empties has.comes.passed has.from has.comes.passes in
    omega (arith, ap length none, ap length has.final.begins.reads.1, length-append (print_response head) rest, some_printed head)

-- ---- what the heads say

places_are : (n first last : ℕ) → first ≤ last → last < size_of n → NamesPart (fields_of (part_head n first last)) first last (Some (size_of n))
places_are n first last order below = record { value = places_text n first last; only = rw (trimmed_places n first last) refl; reads = range_is n first last order below }

all_one : (count : ℕ) (value : List ℕ) → IsLength value count → All (λ v. IsLength v count) (value ∷ [])
all_one count value is = All-cons (λ (v : List ℕ). IsLength v count) value [] is (λ k d below. absurd (omega arith))

counted_whole : (n : ℕ) → IsCountedHead (fields_of (whole_head n)) (size_of n)
counted_whole n =
    let small = size_small n in
    record {
      uncoded = refl;
      some = λ none. absurd cc;
      agree = all_one (size_of n) _ (subst (λ (value : List ℕ). IsLength value (size_of n)) (sym (trimmed_number (size_of n) (omega (arith, small)))) (length_is (size_of n) (omega (arith, small))));
    }

-- ---- the front of a content

front_bytes : (n first count : ℕ) (content after : List ℕ) → content ++ after ≡ bytes_from n first count → (place byte : ℕ) → slice_get content place ≡ Some byte → byte ≡ generated_byte n (first + place)
front_bytes n first count content after is place byte found = elim ((slice_get_cases content place).1) [
  | inl one ↦
      let same : one.0 ≡ byte = same_Some one.0 byte (sym one.2 ∙ found) in
      let below : place < count = omega (arith, one.1, ap length is, length-append content after, bytes_length n first count) in
      sym same ∙ sym one.3 ∙ sym (get_or_append_left content after one.0 place one.1) ∙ ap (λ (bytes : List ℕ). get_or bytes place one.0) is ∙ bytes_at n first count place one.0 below
  | inr past ↦ absurd (none-some byte (sym past.1 ∙ found))
]

-- a content without a coding of its transfer is the bytes behind the head
plainly : (fields : List (List ℕ × List ℕ)) (minor : ℕ) (framing : Framing) (bytes content : List ℕ) → values_of (codes "transfer-encoding") fields ≡ [] → FramedBy minor fields framing → BringsFramed framing bytes content → bytes ≡ content
plainly fields minor Chunked bytes content none framed brings = let e = sym none ∙ framed.only in absurd cc
plainly fields minor (Counted count) bytes content none framed brings = brings.0
plainly fields minor ToEnd bytes content none framed brings = brings

front_of_whole : (n w : ℕ) → n < 2 ^ 32 → (wanted : Wanted) (head : ResponseHead) (content : List ℕ) → (front : IsFramedFront wanted head (stream_with n w replies.Whole) content)
    → (head ≡ whole_head n) × (content ++ front.after ≡ body_of n w replies.Whole)
front_of_whole n w small wanted head content front =
    let same = one_head front.begins.has (has_whole n w small) in
    let fields : values_of (codes "transfer-encoding") (fields_of head) ≡ [] = ap (λ (h : ResponseHead). values_of (codes "transfer-encoding") (fields_of h)) same.0 in
    let plain : front.bytes ≡ content = plainly (fields_of head) head.minor front.framing front.bytes content fields front.begins.good.framed front.brings in
    (same.0, ap (λ (xs : List ℕ). xs ++ front.after) (sym plain) ∙ same.1)

front_of_part : (n w first last : ℕ) → n < 2 ^ 32 → first ≤ last → last < size_of n → (wanted : Wanted) (head : ResponseHead) (content : List ℕ) → (front : IsFramedFront wanted head (stream_with n w (replies.Part first last)) content)
    → (head ≡ part_head n first last) × (content ++ front.after ≡ body_of n w (replies.Part first last))
front_of_part n w first last small order below wanted head content front =
    let same = one_head front.begins.has (has_part n w first last small order below) in
    let fields : values_of (codes "transfer-encoding") (fields_of head) ≡ [] = ap (λ (h : ResponseHead). values_of (codes "transfer-encoding") (fields_of h)) same.0 in
    let plain : front.bytes ≡ content = plainly (fields_of head) head.minor front.framing front.bytes content fields front.begins.good.framed front.brings in
    (same.0, ap (λ (xs : List ℕ). xs ++ front.after) (sym plain) ∙ same.1)

-- what each byte is to be
abbrev Is : ℕ → ℕ → List ℕ → Type 0
Is n first content = (place byte : ℕ) → slice_get content place ≡ Some byte → byte ≡ generated_byte n (first + place)

by_whole : (n w : ℕ) → n < 2 ^ 32 → (wanted : Wanted) (content : List ℕ) → IsFrontOfContent wanted (stream_with n w replies.Whole) content → Is n (first_of wanted) content
by_whole n w small wanted.Whole content front =
    let f = front_of_whole n w small wanted.Whole front.head content front.some in
    front_bytes n 0 (brought n w (size_of n)) content front.some.after f.1
by_whole n w small (wanted.Part first last tag known) content front =
    let f = front_of_whole n w small (wanted.Part first last tag known) front.head content front.some.front in
    let ok : 206 ≡ 200 = sym front.some.front.begins.ok ∙ ap status_code f.0 in
    absurd (omega (arith, ok))

by_part : (n w a b : ℕ) → n < 2 ^ 32 → a ≤ b → b < size_of n → (wanted : Wanted) (content : List ℕ) → IsFrontOfContent wanted (stream_with n w (replies.Part a b)) content → Is n (first_of wanted) content
by_part n w a b small order below wanted.Whole content front =
    let f = front_of_part n w a b small order below wanted.Whole front.head content front.some in
    let ok : 200 ≡ 206 = sym front.some.begins.ok ∙ ap status_code f.0 in
    absurd (omega (arith, ok))
by_part n w a b small order below (wanted.Part first last tag known) content front =
    let inner = front.some.front in
    let f = front_of_part n w a b small order below (wanted.Part first last tag known) front.head content inner in
    let names : NamesPart (fields_of (part_head n a b)) first inner.begins.fits.to inner.begins.fits.total = subst (λ (h : ResponseHead). NamesPart (fields_of h) first inner.begins.fits.to inner.begins.fits.total) f.0 inner.begins.fits.asked.names in
    let same = one_named names (places_are n a b order below) in
    let brings : Is n a content = front_bytes n a (brought n w (b - a + 1)) content inner.after f.1 in
    subst (λ (place : ℕ). Is n place content) (sym same.first_is) brings

by_nothing : (n : ℕ) (wanted : Wanted) (content : List ℕ) → IsFrontOfContent wanted [] content → Is n (first_of wanted) content
by_nothing n wanted.Whole content front = absurd (nothing_begins front.head (front.some.bytes ++ front.some.after) front.some.begins.has)
by_nothing n (wanted.Part first last tag known) content front = absurd (nothing_begins front.head (front.some.front.bytes ++ front.some.front.after) front.some.front.begins.has)

by_reply : (n w : ℕ) (reply : Reply) (wanted : Wanted) (content : List ℕ) → is_reply n reply ≡ true → IsFrontOfContent wanted (stream_with n w reply) content → Is n (first_of wanted) content
by_reply n w replies.Nothing wanted content good front = by_nothing n wanted content front
by_reply n w replies.Whole wanted content good front = by_whole n w (ltb-true n (2 ^ 32) good) wanted content front
by_reply n w (replies.Part a b) wanted content good front =
    let parts = both (nat_lt n (2 ^ 32)) (nat_le a b && nat_lt b (size_of n)) good in
    let places = both (nat_le a b) (nat_lt b (size_of n)) parts.1 in
    by_part n w a b (ltb-true n (2 ^ 32) parts.0) (leb-true a b places.0) (ltb-true b (size_of n) places.1) wanted content front

pub brings_generated : BringsGenerated
brings_generated n w reply wanted content front = by_test (is_reply n reply) refl
  where
    by_test : (t : Bool) → is_reply n reply ≡ t → Is n (first_of wanted) content
    by_test true good = by_reply n w reply wanted content good front
    by_test false bad = by_nothing n wanted content (subst (λ (stream : List ℕ). IsFrontOfContent wanted stream content) (cond-false (is_reply n reply) (head_of n reply ++ body_of n w reply) [] bad) front)

-- such a wire is honest, however much of its stream was received
pub honest_by : (n w : ℕ) (reply : Reply) (purpose : Purpose) (given : ℕ) (sent : List ℕ)
    → IsHonest (Unit {0}) (λ address key place byte. byte ≡ generated_byte n place) purpose (record { given = take given (stream_with n w reply); left = drop given (stream_with n w reply); sent = sent })
honest_by n w reply purpose given sent = inr (
  tt,
  λ wanted content tag asked front has. record {
    each = brings_generated n w reply wanted content (subst (λ (stream : List ℕ). IsFrontOfContent wanted stream content) (take-append-drop given (stream_with n w reply)) front);
  },
)

-- ---- each reply is read back

names_bytes : NamesBytes (trim_ows (codes " bytes"))
unfolding httparse_on_literals
names_bytes = (0, codes "bytes", omega arith, refl, record { before = []; unit = codes "bytes"; after = []; parts = refl; blank_before = tt; bytes = refl; blank_after = tt })

whole_reads : (n w : ℕ) → n < 2 ^ 32 → WholeReads n w
whole_reads n w small =
    let size = size_small n in
    record {
      begins = record { has = has_whole n w small; ok = refl; good = record { plain = refl; framed = counted_whole n }; fits = omega (arith, size) };
      strong = strong_whole n (omega (arith, small));
      ranges = (1, (codes "Accept-Ranges", trim_ows (codes " bytes")), omega arith, refl, record { named = refl; bytes = names_bytes });
    }

counted_part : (n first last : ℕ) → first ≤ last → last < size_of n → IsCountedHead (fields_of (part_head n first last)) (last - first + 1)
counted_part n first last order below =
    let small = size_small n in
    let fits : last - first + 1 < 2 ^ 62 = omega (arith, small, below) in
    record {
      uncoded = refl;
      some = λ none. absurd cc;
      agree = all_one (last - first + 1) _ (subst (λ (value : List ℕ). IsLength value (last - first + 1)) (sym (trimmed_number (last - first + 1) (omega (arith, fits)))) (length_is (last - first + 1) fits));
    }

part_reads : (n w first last : ℕ) → n < 2 ^ 32 → first ≤ last → last < size_of n → PartReads n w first last
part_reads n w first last small order below =
    let size = size_small n in
    record {
      has = has_part n w first last small order below;
      ok = refl;
      good = record { plain = refl; framed = counted_part n first last order below };
      fits = record {
        to = last;
        total = Some (size_of n);
        asked = record { names = places_are n first last order below; within = omega arith; agrees = refl; strong = strong_part n first last (omega (arith, small)) };
        size = refl;
        limit = omega (arith, size);
      };
    }

pub reads_back : ReadsBack
reads_back n w small = (whole_reads n w small, λ first last order below. part_reads n w first last small order below)
