-- Bodies by their first line, and what begins with it.
use Rattle.std.proofs.Common.{◌≡◌, ℕ, zero, suc, ◌+◌, ◌*◌, ◌^◌, ◌<◌, ◌≤◌, List, [], ◌∷◌, ◌++◌, length, append_assoc, length-append, refl, sym, ap, ◌∙◌, subst, arith}
use Rattle.std.specs.List.{flat_map, AllByRecursion}
use Rattle.dm_chunk.specs.Bytes.{hexadecimal}
use Rattle.dm_chunk.specs.Grammar.{Line, line_text, IsLine, Chunk, chunk_text, data_of, Body, body_text, IsBody, IsTrailer, section_text}
use Rattle.dm_chunk.proofs.Places.{IsWhole, Behind, Section, Sized, InDigits}

-- a line and what follows it
pub record Opens (w content : List ℕ) : Type 0 where
  pub line : Line
  pub rest : List ℕ
  pub is : IsLine line
  pub parts : w ≡ line_text line ++ rest
  pub follows : Sized (hexadecimal line.digits) rest content

line_regroup : (l : Line) (w : List ℕ) → line_text l ++ w ≡ l.digits ++ (l.blanks ++ (l.extension ++ 13 ∷ 10 ∷ w))
line_regroup l w =
    append_assoc l.digits (l.blanks ++ (l.extension ++ 13 ∷ 10 ∷ [])) w
    ∙ ap (λ (x : List ℕ). l.digits ++ x) (append_assoc l.blanks (l.extension ++ 13 ∷ 10 ∷ []) w ∙ ap (λ (x : List ℕ). l.blanks ++ x) (append_assoc l.extension (13 ∷ 10 ∷ []) w))

line_length : (l : Line) → length (line_text l) ≡ length l.digits + (length l.blanks + (length l.extension + 2))
line_length l = simp length-append (omega arith)

from_nothing : (k h : ℕ) → 0 * k + h ≡ h
from_nothing k h = omega arith

pub line_open : (w content : List ℕ) → Opens w content → InDigits 0 0 w content
line_open w content o =
    let l = o.line in
    let len = line_length l in
    let within = o.is.within in
    let some = o.is.some in
    let most = o.is.most in
    record {
      digits = l.digits;
      behind = l.blanks ++ (l.extension ++ 13 ∷ 10 ∷ o.rest);
      each = o.is.digits;
      some = omega arith;
      most = omega arith;
      small = omega arith;
      parts = o.parts ∙ line_regroup l o.rest;
      follows = record {
        blanks = l.blanks;
        extension = l.extension;
        rest = o.rest;
        each = o.is.blanks;
        is = o.is.extension;
        parts = refl;
        within = omega arith;
        follows = subst (λ (n : ℕ). Sized n o.rest content) (sym (from_nothing (16 ^ length l.digits) (hexadecimal l.digits))) o.follows;
      };
    }

pub line_close : (w content : List ℕ) → InDigits 0 0 w content → Opens w content
line_close w content d =
    let b = d.follows in
    let l : Line = record { digits = d.digits; blanks = b.blanks; extension = b.extension } in
    let len = line_length l in
    let some = d.some in
    let most = d.most in
    let within = b.within in
    record {
      line = l;
      rest = b.rest;
      is = record { digits = d.each; some = omega arith; most = omega arith; blanks = b.each; extension = b.is; within = omega arith };
      parts = d.parts ∙ ap (λ (x : List ℕ). d.digits ++ x) b.parts ∙ sym (line_regroup l b.rest);
      follows = subst (λ (n : ℕ). Sized n b.rest content) (from_nothing (16 ^ length d.digits) (hexadecimal d.digits)) b.follows;
    }

-- ---- whole bodies

sized_last : (n : ℕ) (lines : List (List ℕ)) → n ≡ 0 → AllByRecursion IsTrailer lines → length (section_text lines) ≤ 16384 → Sized n (section_text lines) []
sized_last zero lines e each within = record { lines = lines; each = each; parts = refl; within = within; none = refl }
sized_last (suc n) lines e each within = absurd cc

sized_data : (n : ℕ) (bytes more rest : List ℕ) → n ≡ length bytes → 0 < length bytes → IsWhole more rest → Sized n (bytes ++ 13 ∷ 10 ∷ more) (bytes ++ rest)
sized_data zero bytes more rest e some f = absurd (omega arith)
sized_data (suc n) bytes more rest e some f = record { bytes = bytes; more = more; rest = rest; parts = refl; size_is = sym e; follows = f; joined = refl }

chunk_regroup : (ch : Chunk) (w more : List ℕ) → (chunk_text ch ++ w) ++ more ≡ line_text ch.line ++ (ch.bytes ++ 13 ∷ 10 ∷ (w ++ more))
chunk_regroup ch w more =
    append_assoc (chunk_text ch) w more
    ∙ append_assoc (line_text ch.line) (ch.bytes ++ 13 ∷ 10 ∷ []) (w ++ more)
    ∙ ap (λ (x : List ℕ). line_text ch.line ++ x) (append_assoc ch.bytes (13 ∷ 10 ∷ []) (w ++ more))

opens_by : (chunks : List Chunk) (last : Line) (trailers : List (List ℕ)) → IsBody (record { chunks = chunks; last = last; trailers = trailers }) → Opens (body_text (record { chunks = chunks; last = last; trailers = trailers })) (flat_map data_of chunks)
opens_by [] last trailers is = record { line = last; rest = section_text trailers; is = is.last; parts = refl; follows = sized_last (hexadecimal last.digits) trailers is.zero is.trailers.each is.trailers.within }
opens_by (ch ∷ chs) last trailers is =
    let more : Body = record { chunks = chs; last = last; trailers = trailers } in
    let one = is.chunks.0 in
    record {
      line = ch.line;
      rest = ch.bytes ++ 13 ∷ 10 ∷ body_text more;
      is = one.line;
      parts = chunk_regroup ch (flat_map chunk_text chs) (line_text last ++ section_text trailers);
      follows = sized_data (hexadecimal ch.line.digits) ch.bytes (body_text more) (flat_map data_of chs) one.size one.some (record { body = more; is = record { chunks = is.chunks.1; last = is.last; zero = is.zero; trailers = is.trailers }; parts = refl; joined = refl });
    }

pub digits_of_whole : (w content : List ℕ) → IsWhole w content → InDigits 0 0 w content
digits_of_whole w content h =
    let b = h.body in
    line_open w content (subst (λ (x : List ℕ). Opens x content) (sym h.parts) (subst (λ (x : List ℕ). Opens (body_text b) x) (sym h.joined) (opens_by b.chunks b.last b.trailers h.is)))

whole_last : (l : Line) (w content : List ℕ) → IsLine l → hexadecimal l.digits ≡ 0 → Section 16382 w content → IsWhole (line_text l ++ w) content
whole_last l w content is nothing s = record {
  body = record { chunks = []; last = l; trailers = s.lines };
  is = record { chunks = tt; last = is; zero = nothing; trailers = record { each = s.each; within = s.within } };
  parts = ap (λ (x : List ℕ). line_text l ++ x) s.parts;
  joined = s.none;
}

whole_data : (l : Line) (n : ℕ) (w content : List ℕ) → IsLine l → hexadecimal l.digits ≡ suc n → Behind (suc n) w content → IsWhole (line_text l ++ w) content
whole_data l n w content is size h =
    let f = h.follows in
    let b = f.body in
    let ch : Chunk = record { line = l; bytes = h.bytes } in
    let len = h.size_is in
    record {
      body = record b { chunks = ch ∷ b.chunks };
      is = record { chunks = (record { line = is; some = omega arith; size = size ∙ sym len }, f.is.chunks); last = f.is.last; zero = f.is.zero; trailers = f.is.trailers };
      parts =
          ap (λ (x : List ℕ). line_text l ++ x) (h.parts ∙ ap (λ (x : List ℕ). h.bytes ++ 13 ∷ 10 ∷ x) f.parts)
          ∙ sym (chunk_regroup ch (flat_map chunk_text b.chunks) (line_text b.last ++ section_text b.trailers));
      joined = h.joined ∙ ap (λ (x : List ℕ). h.bytes ++ x) f.joined;
    }

whole_by : (l : Line) (n : ℕ) (w content : List ℕ) → IsLine l → hexadecimal l.digits ≡ n → Sized n w content → IsWhole (line_text l ++ w) content
whole_by l zero w content is e s = whole_last l w content is e s
whole_by l (suc n) w content is e s = whole_data l n w content is e s

pub whole_of_digits : (w content : List ℕ) → InDigits 0 0 w content → IsWhole w content
whole_of_digits w content d =
    let o = line_close w content d in
    subst (λ (x : List ℕ). IsWhole x content) (sym o.parts) (whole_by o.line (hexadecimal o.line.digits) o.rest content o.is refl o.follows)
