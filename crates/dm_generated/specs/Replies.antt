-- What a generated wire says: of a number, the wire's own number, and what is asked for.
use Rattle.std.specs.Prelude.{◌≡◌, ◌≢◌, ℕ, ◌+◌, ◌-◌, ◌*◌, ◌%◌, ◌^◌, ◌<◌, ◌≤◌, ◌==◌, ◌||◌, ◌&&◌, min, nat_le, nat_lt, if◌then◌else◌, Bool, true, List, [], ◌∷◌, ◌++◌, codes, Option, Some, None}
use Rattle.std.specs.Fmt.{decimal}
use Rattle.httparse.specs.Grammar.{Field, LineEnd, ResponseHead, crlf, print_response}
use Rattle.dm_types.specs.declared.address.Address.{Address}
use Rattle.dm_request.specs.Request.{request_of}
use Rattle.dm_request.specs.declared.request.Ask.{Ask}
use Rattle.dm_generated.specs.Content.{bytes_from, size_of, tag_of}
use Rattle.dm_generated.specs.declared.reply.Reply.{Reply}
use Rattle.dm_generated.specs.declared.reply.Reply.TheVariants.{Nothing, Whole, Part}

-- a field, with a space before its value
abbrev pub field : List ℕ → List ℕ → Field
field name value = record { name = name; raw = codes " " ++ value; end = crlf }

-- a head of HTTP/1.1, whose lines end with CR LF
abbrev pub head_with : List ℕ → List ℕ → List Field → ResponseHead
head_with digits phrase fields = record {
  blank = [];
  minor = 1;
  digits = digits;
  reason = Some phrase;
  line_end = crlf;
  fields = fields;
  last = crlf;
}

-- the head of the whole content (RFC 9110, section 15.3.1)
abbrev pub whole_head : ℕ → ResponseHead
whole_head number = head_with (codes "200") (codes "OK")
    (field (codes "ETag") (tag_of number)
    ∷ field (codes "Accept-Ranges") (codes "bytes")
    ∷ field (codes "Content-Length") (decimal (size_of number)) ∷ [])

-- the places of a part, and the size of the whole (RFC 9110, section 14.4). 45 is the dash, 47 the slash
abbrev pub places_text : (number first last : ℕ) → List ℕ
places_text number first last = codes "bytes" ++ 32 ∷ (decimal first ++ 45 ∷ (decimal last ++ 47 ∷ decimal (size_of number)))

-- the head of a part (RFC 9110, section 15.3.7)
abbrev pub part_head : (number first last : ℕ) → ResponseHead
part_head number first last = head_with (codes "206") (codes "Partial Content")
    (field (codes "ETag") (tag_of number)
    ∷ field (codes "Content-Range") (places_text number first last)
    ∷ field (codes "Content-Length") (decimal (last - first + 1)) ∷ [])

abbrev pub head_of : ℕ → Reply → List ℕ
head_of number Nothing = []
head_of number Whole = print_response (whole_head number)
head_of number (Part first last) = print_response (part_head number first last)

-- three of the wires end early
abbrev pub is_cut : ℕ → Bool
is_cut wire = (wire == 0) || (wire == 5) || (wire == 10)

-- how many bytes the wire brings of so many
abbrev pub brought : (number wire count : ℕ) → ℕ
brought number wire count = if is_cut wire then min count (65536 * (wire + 1) + number % 65536) else count

-- the content, as far as the wire brings it
abbrev pub body_of : (number wire : ℕ) → Reply → List ℕ
body_of number wire Nothing = []
body_of number wire Whole = bytes_from number 0 (brought number wire (size_of number))
body_of number wire (Part first last) = bytes_from number first (brought number wire (last - first + 1))

-- the number has 32 bits, and a part lies within the content
abbrev pub is_reply : ℕ → Reply → Bool
is_reply number Nothing = true
is_reply number Whole = nat_lt number (2 ^ 32)
is_reply number (Part first last) = nat_lt number (2 ^ 32) && (nat_le first last && nat_lt last (size_of number))

-- All that the wire says with this reply: the head, and then the content, as far as the wire brings it.
abbrev pub stream_with : (number wire : ℕ) → Reply → List ℕ
stream_with number wire reply = if is_reply number reply then head_of number reply ++ body_of number wire reply else []

-- a part, as it is asked for
abbrev pub part_ask : (number first last : ℕ) → Ask
part_ask number first last = record { first = first; last = last; tag = tag_of number }

-- The reply that a request gets. What was sent has to be the request, to its last byte: no part that isn't within the content, no other
-- tag and no other text gets a reply.
abbrev pub Answers : (number : ℕ) (address : Address) (sent : List ℕ) → Reply → Type 0
Answers number address sent Whole = sent ≡ request_of address None
Answers number address sent (Part first last) = (first ≤ last) × (last < size_of number) × (sent ≡ request_of address (Some (part_ask number first last)))
Answers number address sent Nothing =
    (sent ≢ request_of address None)
    × ((first last : ℕ) → first ≤ last → last < size_of number → sent ≢ request_of address (Some (part_ask number first last)))

-- What may be a request for this range gets this part, or nothing.
abbrev pub AnswersRange : (number : ℕ) (address : Address) (sent : List ℕ) (first last : ℕ) → Reply → Type 0
AnswersRange number address sent first last Nothing = sent ≢ request_of address (Some (part_ask number first last))
AnswersRange number address sent first last Whole = ⊥
AnswersRange number address sent first last (Part from to) = (from ≡ first) × (to ≡ last) × (sent ≡ request_of address (Some (part_ask number first last)))

-- the place of the first byte that is asked for, and how many are
abbrev pub first_of : Reply → ℕ
first_of Nothing = 0
first_of Whole = 0
first_of (Part first last) = first

abbrev pub count_of : ℕ → Reply → ℕ
count_of number Nothing = 0
count_of number Whole = size_of number
count_of number (Part first last) = last - first + 1
