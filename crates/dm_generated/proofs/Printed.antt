-- A generated stream has one head: the one that was printed.
use Rattle.std.proofs.Common.{◌≡◌, ℕ, zero, suc, ◌+◌, ◌-◌, ◌^◌, ◌<◌, ◌≤◌, Bool, true, false, List, [], ◌∷◌, ◌++◌, length, codes, refl, sym, ap, ◌∙◌, subst, arith, append_assoc, append-nil, length-append, Some, None}
use Rattle.std.specs.Prelude.{All, nat_lt, nat_le}
use Rattle.std.specs.Fmt.{decimal}
use Rattle.std.proofs.lemmas.Bool.{cond-true, lt-ltb, le-leb}
use Rattle.std.proofs.lemmas.Fmt.{length-decimal-le}
use Rattle.std.proofs.lemmas.List.Elements.{All-cons}
use Rattle.std.proofs.lemmas.List.Folds.{list_all-append}
use Rattle.std.proofs.lemmas.List.Sums.{AllPass-from_list_all}
use Rattle.std.specs.List.{list_all}
use Rattle.std.specs.Char.{is_ascii_digit}
use Rattle.httparse.specs.Grammar.{AllPass, Field, IsField, IsResponseHead, ResponseHead, is_token_byte, is_value_byte, print_response}
use Rattle.httparse.proofs.OnLiterals.{httparse_on_literals}
use Rattle.dm_edge.specs.Head.{BeginsWith, HasHead}
use Rattle.dm_generated.specs.Content.{size_of, tag_of}
use Rattle.dm_generated.specs.Replies.{body_of, field, head_of, head_with, is_reply, part_head, places_text, stream_with, whole_head}
use Rattle.dm_generated.specs.declared.reply.Reply.TheVariants as replies
use Rattle.dm_generated.proofs.Digits.{decimal_passes}
use Rattle.dm_generated.proofs.Heads.{size_small}

-- ---- the printed text, in its pieces

abbrev pub whole_pieces : (n size : List ℕ) → List ℕ
whole_pieces n size = codes "HTTP/1.1 200 OK\r\nETag: \"g" ++ (n ++ (codes "\"\r\nAccept-Ranges: bytes\r\nContent-Length: " ++ (size ++ codes "\r\n\r\n")))

abbrev pub part_pieces : (n first last size count : List ℕ) → List ℕ
part_pieces n first last size count =
    codes "HTTP/1.1 206 Partial Content\r\nETag: \"g" ++ (n ++ (codes "\"\r\nContent-Range: bytes " ++ (first ++ (codes "-" ++ (last ++ (codes "/" ++ (size ++ (codes "\r\nContent-Length: " ++ (count ++ codes "\r\n\r\n")))))))))

whole_general : (p d q e c s : List ℕ) → p ++ ((((d ++ q) ++ e) ++ (c ++ ((s ++ e) ++ []))) ++ e) ≡ p ++ (d ++ (q ++ (e ++ (c ++ (s ++ (e ++ e))))))
whole_general p d q e c s = simp (append_assoc, append-nil)

pub whole_printed : (n : ℕ) → print_response (whole_head n) ≡ whole_pieces (decimal n) (decimal (size_of n))
unfolding print_response
whole_printed n =
    whole_general (codes "HTTP/1.1 200 OK\r\nETag: \"g") (decimal n) (34 ∷ []) (13 ∷ 10 ∷ []) (codes "Accept-Ranges: bytes\r\nContent-Length: ") (decimal (size_of n))

part_general : (p d q e r f h l t s m c : List ℕ) → p ++ ((((d ++ q) ++ e) ++ (r ++ (((f ++ (h ++ (l ++ (t ++ s)))) ++ e) ++ (m ++ ((c ++ e) ++ []))))) ++ e)
    ≡ p ++ (d ++ (q ++ (e ++ (r ++ (f ++ (h ++ (l ++ (t ++ (s ++ (e ++ (m ++ (c ++ (e ++ e)))))))))))))
part_general p d q e r f h l t s m c = simp (append_assoc, append-nil)

pub part_printed : (n first last : ℕ) → print_response (part_head n first last) ≡ part_pieces (decimal n) (decimal first) (decimal last) (decimal (size_of n)) (decimal (last - first + 1))
unfolding print_response
part_printed n first last =
    part_general (codes "HTTP/1.1 206 Partial Content\r\nETag: \"g") (decimal n) (34 ∷ []) (13 ∷ 10 ∷ []) (codes "Content-Range: bytes ") (decimal first) (45 ∷ []) (decimal last) (47 ∷ []) (decimal (size_of n))
    (codes "Content-Length: ") (decimal (last - first + 1))

-- ---- the head is one

short : (n : ℕ) → n < 2 ^ 64 → length (decimal n) ≤ 20
short n small = length-decimal-le 20 n (omega arith) (omega (arith, small)) small

whole_short : (n : ℕ) → n < 2 ^ 32 → length (print_response (whole_head n)) ≤ 65536
whole_short n small =
    let size = size_small n in
    let printed : length (print_response (whole_head n)) ≡ length (whole_pieces (decimal n) (decimal (size_of n))) = ap length (whole_printed n) in
    let a = length-append (decimal n) (codes "\"\r\nAccept-Ranges: bytes\r\nContent-Length: " ++ (decimal (size_of n) ++ codes "\r\n\r\n")) in
    let b = length-append (decimal (size_of n)) (codes "\r\n\r\n") in
    omega (arith, printed, a, b, short n (omega (arith, small)), short (size_of n) (omega (arith, size)))

part_short : (n first last : ℕ) → n < 2 ^ 32 → first ≤ last → last < size_of n → length (print_response (part_head n first last)) ≤ 65536
part_short n first last small order below =
    let size = size_small n in
    let dn = decimal n in
    let df = decimal first in
    let dl = decimal last in
    let ds = decimal (size_of n) in
    let dc = decimal (last - first + 1) in
    let printed : length (print_response (part_head n first last)) ≡ length (part_pieces dn df dl ds dc) = ap length (part_printed n first last) in
    let e = length-append dc (codes "\r\n\r\n") in
    let d = length-append ds (codes "\r\nContent-Length: " ++ (dc ++ codes "\r\n\r\n")) in
    let c = length-append dl (codes "/" ++ (ds ++ (codes "\r\nContent-Length: " ++ (dc ++ codes "\r\n\r\n")))) in
    let b = length-append df (codes "-" ++ (dl ++ (codes "/" ++ (ds ++ (codes "\r\nContent-Length: " ++ (dc ++ codes "\r\n\r\n")))))) in
    let a = length-append dn (codes "\"\r\nContent-Range: bytes " ++ (df ++ (codes "-" ++ (dl ++ (codes "/" ++ (ds ++ (codes "\r\nContent-Length: " ++ (dc ++ codes "\r\n\r\n")))))))) in
    omega (arith, printed, a, b, c, d, e, short n (omega (arith, small)), short first (omega (arith, order, below, size)), short last (omega (arith, below, size)), short (size_of n) (omega (arith, size)), short (last - first + 1) (omega (arith, below, size)))

is_field : (name value : List ℕ) → list_all is_token_byte name ≡ true → 0 < length name → list_all is_value_byte value ≡ true → IsField (field name value)
is_field name value token some visible = record {
  name = (some, AllPass-from_list_all is_token_byte name token);
  raw = AllPass-from_list_all is_value_byte (32 ∷ value) visible;
}

number_visible : (n : ℕ) → n < 2 ^ 64 → list_all is_value_byte (decimal n) ≡ true
number_visible n small = decimal_passes is_value_byte n refl small

number_more : (n : ℕ) (more : List ℕ) → n < 2 ^ 64 → list_all is_value_byte more ≡ true → list_all is_value_byte (decimal n ++ more) ≡ true
number_more n more small visible = rw (list_all-append is_value_byte (decimal n) more, number_visible n small) visible

etag_field : (n : ℕ) → n < 2 ^ 64 → IsField (field (codes "ETag") (tag_of n))
unfolding httparse_on_literals
etag_field n small = is_field (codes "ETag") (tag_of n) refl (omega arith) (number_more n (34 ∷ []) small refl)

ranges_field : IsField (field (codes "Accept-Ranges") (codes "bytes"))
unfolding httparse_on_literals
ranges_field = is_field (codes "Accept-Ranges") (codes "bytes") refl (omega arith) refl

length_field : (n : ℕ) → n < 2 ^ 64 → IsField (field (codes "Content-Length") (decimal n))
unfolding httparse_on_literals
length_field n small = is_field (codes "Content-Length") (decimal n) refl (omega arith) (number_visible n small)

places_field : (n first last : ℕ) → first ≤ last → last < size_of n → IsField (field (codes "Content-Range") (places_text n first last))
unfolding httparse_on_literals
places_field n first last order below =
    let size = size_small n in
    let d = decimal (size_of n) in
    is_field (codes "Content-Range") (places_text n first last) refl (omega arith)
    (number_more first (45 ∷ (decimal last ++ 47 ∷ d)) (omega (arith, order, below, size)) (number_more last (47 ∷ d) (omega (arith, below, size)) (number_visible (size_of n) (omega (arith, size)))))

is_head : (digits phrase : List ℕ) (fields : List Field) → length digits ≡ 3 → list_all is_ascii_digit digits ≡ true → list_all is_value_byte phrase ≡ true → All IsField fields → IsResponseHead (head_with digits phrase fields)
is_head digits phrase fields three number visible each = record {
  minor = omega arith;
  digits = (three, AllPass-from_list_all is_ascii_digit digits number);
  reason = AllPass-from_list_all is_value_byte phrase visible;
  fields = each;
}

three_fields : (a b c : Field) → IsField a → IsField b → IsField c → All IsField (a ∷ b ∷ c ∷ [])
three_fields a b c x y z = All-cons IsField a (b ∷ c ∷ []) x (All-cons IsField b (c ∷ []) y (All-cons IsField c [] z (λ k d below. absurd (omega arith))))

pub whole_is_head : (n : ℕ) → n < 2 ^ 64 → IsResponseHead (whole_head n)
whole_is_head n small =
    let size = size_small n in
    is_head (codes "200") (codes "OK") (whole_head n).fields refl refl refl (three_fields _ _ _ (etag_field n small) ranges_field (length_field (size_of n) (omega (arith, size))))

pub part_is_head : (n first last : ℕ) → n < 2 ^ 64 → first ≤ last → last < size_of n → IsResponseHead (part_head n first last)
part_is_head n first last small order below =
    let size = size_small n in
    is_head (codes "206") (codes "Partial Content") (part_head n first last).fields refl refl refl (three_fields _ _ _ (etag_field n small) (places_field n first last order below) (length_field (last - first + 1) (omega (arith, below, size))))

pub good_whole : (n : ℕ) → n < 2 ^ 32 → is_reply n replies.Whole ≡ true
good_whole n small = lt-ltb n (2 ^ 32) small

pub good_part : (n first last : ℕ) → n < 2 ^ 32 → first ≤ last → last < size_of n → is_reply n (replies.Part first last) ≡ true
good_part n first last small order below = rw (lt-ltb n (2 ^ 32) small, le-leb first last order, lt-ltb last (size_of n) below) refl

pub has_whole : (n w : ℕ) → n < 2 ^ 32 → HasHead (stream_with n w replies.Whole) (whole_head n) (body_of n w replies.Whole)
has_whole n w small = record {
  from = stream_with n w replies.Whole;
  comes = record { passed = []; passes = refl; few = omega arith };
  final = record {
    begins = record {
      reads = (whole_is_head n (omega (arith, small)), cond-true (is_reply n replies.Whole) (head_of n replies.Whole ++ body_of n w replies.Whole) [] (good_whole n small));
      size = whole_short n small;
      count = omega arith;
    };
    final = refl;
  };
}

pub has_part : (n w first last : ℕ) → n < 2 ^ 32 → first ≤ last → last < size_of n → HasHead (stream_with n w (replies.Part first last)) (part_head n first last) (body_of n w (replies.Part first last))
has_part n w first last small order below = record {
  from = stream_with n w (replies.Part first last);
  comes = record { passed = []; passes = refl; few = omega arith };
  final = record {
    begins = record {
      reads = (part_is_head n first last (omega (arith, small)) order below, cond-true (is_reply n (replies.Part first last)) (head_of n (replies.Part first last) ++ body_of n w (replies.Part first last)) [] (good_part n first last small order below));
      size = part_short n first last small order below;
      count = omega arith;
    };
    final = refl;
  };
}
