-- The requests, in their pieces: where a range's places stand, and that a text is one request at most.
use Rattle.std.proofs.Common.{◌≡◌, ℕ, ◌+◌, ◌-◌, ◌^◌, ◌<◌, ◌≤◌, List, [], ◌∷◌, ◌++◌, length, drop, codes, refl, sym, ap, ◌∙◌, subst, arith, append_assoc, append-nil, length-append, subst₂, Option, Some, None, Result, Ok, Err, IfOk}
use Rattle.std.specs.Char.{is_ascii_digit}
use Rattle.std.specs.Fmt.{decimal}
use Rattle.std.proofs.Math.Seq.{drop-append-add}
use Rattle.std.proofs.lemmas.Fmt.{decimal_injective}
use Rattle.std.proofs.lemmas.Option.{none-some, same_Some}
use Rattle.dm_types.specs.Bytes.{Stops}
use Rattle.dm_types.specs.declared.address.Address.{Address}
use Rattle.dm_tag.proofs.CutLemmas.{run_one, cons_tail}
use Rattle.dm_request.specs.Address.{port_part}
use Rattle.dm_request.specs.Request.{line, request_of}
use Rattle.dm_request.specs.declared.request.Ask.{Ask}
use Rattle.dm_generated.specs.Content.{size_of}
use Rattle.dm_generated.specs.Laws.{OneAnswer}
use Rattle.dm_generated.specs.Replies.{Answers, AnswersRange, part_ask}
use Rattle.dm_generated.specs.declared.reply.Reply.{Reply}
use Rattle.dm_generated.specs.declared.reply.Reply.TheVariants.{Nothing, Whole, Part}
use Rattle.dm_generated.proofs.Digits.{decimal_digits}
use Rattle.dm_generated.proofs.Heads.{size_small}

-- the lines that each request has
abbrev front_of : Address → List ℕ
front_of address =
    line (codes "GET " ++ address.target ++ codes " HTTP/1.1")
    ++ line (codes "Host: " ++ address.host ++ port_part address.port)
    ++ line (codes "User-Agent: dm/1")
    ++ line (codes "Accept: */*")
    ++ line (codes "Accept-Encoding: identity")
    ++ line (codes "Connection: close")

-- what follows the range's last place
abbrev pub behind : Ask → List ℕ
behind ask = 10 ∷ (codes "If-Range: " ++ (ask.tag ++ 13 ∷ 10 ∷ 13 ∷ 10 ∷ []))

abbrev pub places_of : Ask → List ℕ
places_of ask = decimal ask.first ++ 45 ∷ (decimal ask.last ++ 13 ∷ behind ask)

plain : (address : Address) → request_of address None ≡ front_of address ++ 13 ∷ 10 ∷ []
plain address = ap (λ (xs : List ℕ). xs ++ 13 ∷ 10 ∷ []) (append-nil (front_of address))

general : (p r f d l e i t : List ℕ) → (p ++ ((r ++ f ++ d ++ l ++ e) ++ (i ++ t ++ e))) ++ e ≡ p ++ (r ++ (f ++ (d ++ (l ++ (e ++ (i ++ (t ++ (e ++ e))))))))
general p r f d l e i t = simp append_assoc

ranged : (address : Address) (ask : Ask) → request_of address (Some ask) ≡ front_of address ++ (codes "Range: bytes=" ++ places_of ask)
ranged address ask = general (front_of address) (codes "Range: bytes=") (decimal ask.first) (45 ∷ []) (decimal ask.last) (13 ∷ 10 ∷ []) (codes "If-Range: ") ask.tag

plain_length : (address : Address) → length (request_of address None) ≡ length (front_of address) + 2
plain_length address = ap length (plain address) ∙ length-append (front_of address) (13 ∷ 10 ∷ [])

pub ranged_length : (address : Address) (ask : Ask) → length (request_of address None) + 11 < length (request_of address (Some ask))
ranged_length address ask =
    omega (arith, plain_length address, ap length (ranged address ask), length-append (front_of address) (codes "Range: bytes=" ++ places_of ask), length-append (codes "Range: bytes=") (places_of ask), length-append (decimal ask.first) (45 ∷ (decimal ask.last ++ 13 ∷ behind ask)))

-- the places stand behind the name of the range
pub placed : (address : Address) (ask : Ask) → drop (length (request_of address None) + 11) (request_of address (Some ask)) ≡ places_of ask
placed address ask =
    let at : length (request_of address None) + 11 ≡ length (front_of address) + 13 = omega (arith, plain_length address) in
    ap (λ (k : ℕ). drop k (request_of address (Some ask))) at
    ∙ ap (drop (length (front_of address) + 13)) (ranged address ask)
    ∙ drop-append-add (front_of address) (codes "Range: bytes=" ++ places_of ask) 13

pub one_number : (m n : ℕ) (x y : List ℕ) → m < 2 ^ 64 → n < 2 ^ 64 → Stops is_ascii_digit x → Stops is_ascii_digit y → decimal m ++ x ≡ decimal n ++ y → (m ≡ n) × (x ≡ y)
one_number m n x y p q sx sy is =
    let parts = run_one is_ascii_digit (decimal m) (decimal n) x y (decimal_digits m p) (decimal_digits n q) sx sy is in
    (decimal_injective m n p q parts.0, parts.1)

same_places : (a b c d : ℕ) (x y : List ℕ) → a < 2 ^ 64 → b < 2 ^ 64 → c < 2 ^ 64 → d < 2 ^ 64
    → decimal a ++ 45 ∷ (decimal b ++ 13 ∷ x) ≡ decimal c ++ 45 ∷ (decimal d ++ 13 ∷ y) → (a ≡ c) × (b ≡ d)
same_places a b c d x y pa pb pc pd is =
    let first = one_number a c (45 ∷ (decimal b ++ 13 ∷ x)) (45 ∷ (decimal d ++ 13 ∷ y)) pa pc refl refl is in
    let second = one_number b d (13 ∷ x) (13 ∷ y) pb pd refl refl (cons_tail 45 (decimal b ++ 13 ∷ x) (decimal d ++ 13 ∷ y) first.1) in
    (first.0, second.0)

not_both : (address : Address) (ask : Ask) (sent : List ℕ) → sent ≡ request_of address None → sent ≡ request_of address (Some ask) → ⊥
not_both address ask sent p q = omega (arith, ap length p, ap length q, ranged_length address ask)

pub one_answer : OneAnswer
one_answer n address sent Nothing Nothing p q = refl
one_answer n address sent Nothing Whole p q = absurd (p.0 q)
one_answer n address sent Nothing (Part c d) p q = absurd (p.1 c d q.0 q.1 q.2)
one_answer n address sent Whole Nothing p q = absurd (q.0 p)
one_answer n address sent Whole Whole p q = refl
one_answer n address sent Whole (Part c d) p q = absurd (not_both address (part_ask n c d) sent p q.2)
one_answer n address sent (Part a b) Nothing p q = absurd (q.1 a b p.0 p.1 p.2)
one_answer n address sent (Part a b) Whole p q = absurd (not_both address (part_ask n a b) sent q p.2)
one_answer n address sent (Part a b) (Part c d) p q =
    let size = size_small n in
    let at = length (request_of address None) + 11 in
    let places = sym (placed address (part_ask n a b)) ∙ ap (drop at) (sym p.2 ∙ q.2) ∙ placed address (part_ask n c d) in
    let same = same_places a b c d (behind (part_ask n a b)) (behind (part_ask n c d)) (omega (arith, p.0, p.1, size)) (omega (arith, p.1, size)) (omega (arith, q.0, q.1, size)) (omega (arith, q.1, size)) places in
    let first = same.0 in
    let last = same.1 in
    cc

-- ---- the range that a request names is found

-- what a search for the places of a range says
abbrev pub Finds : (plain : ℕ) (sent : List ℕ) → Option (ℕ × ℕ) → Type 0
Finds plain sent found = (address : Address) (ask : Ask) → ask.first < 2 ^ 64 → ask.last < 2 ^ 64 → plain ≡ length (request_of address None) → sent ≡ request_of address (Some ask) → found ≡ Some (ask.first, ask.last)

module _ (n : ℕ) (address : Address) (sent : List ℕ) (plain : ℕ) (found : Option (ℕ × ℕ)) (plain_is : plain ≡ length (request_of address None)) (finds : Finds plain sent found) (not_whole : sent ≡ request_of address None → ⊥) where
  found_by : (f l : ℕ) → f ≤ l → l < size_of n → sent ≡ request_of address (Some (part_ask n f l)) → found ≡ Some (f, l)
  found_by f l order below is = let size = size_small n in finds address (part_ask n f l) (omega (arith, order, below, size)) (omega (arith, below, size)) plain_is is

  pub nothing_by_none : found ≡ None → Answers n address sent Nothing
  nothing_by_none none = (not_whole, λ f l order below is. none-some (f, l) (sym none ∙ found_by f l order below is))

  pub nothing_by_other : (first last : ℕ) → found ≡ Some (first, last) → (first ≤ last → last < size_of n → ⊥) → Answers n address sent Nothing
  nothing_by_other first last some other = (
    not_whole,
    λ f l order below is.
        let same : (first, last) ≡ (f, l) = same_Some (first, last) (f, l) (sym some ∙ found_by f l order below is) in
        other (subst₂ (λ (x y : ℕ). x ≤ y) (sym (ap (λ (p : ℕ × ℕ). p.0) same)) (sym (ap (λ (p : ℕ × ℕ). p.1) same)) order) (subst (λ (y : ℕ). y < size_of n) (sym (ap (λ (p : ℕ × ℕ). p.1) same)) below),
  )

  pub range_by : {E : Type 0} (first last : ℕ) (result : Result Reply E) → first ≤ last → last < size_of n → found ≡ Some (first, last) → IfOk result (AnswersRange n address sent first last) → IfOk result (Answers n address sent)
  range_by first last (Ok Nothing) order below some answers = (
    not_whole,
    λ f l fits small is.
        let same : (first, last) ≡ (f, l) = same_Some (first, last) (f, l) (sym some ∙ found_by f l fits small is) in
        answers (is ∙ sym (ap (λ (p : ℕ × ℕ). request_of address (Some (part_ask n p.0 p.1))) same)),
  )
  range_by first last (Ok Whole) order below some answers = absurd answers
  range_by first last (Ok (Part from to)) order below some answers =
      let a = answers.0 in
      let b = answers.1 in
      (omega (arith, a, b, order), omega (arith, b, below), answers.2 ∙ sym (ap (λ (x : ℕ). request_of address (Some (part_ask n x last))) a) ∙ sym (ap (λ (y : ℕ). request_of address (Some (part_ask n from y))) b))
  range_by first last (Err e) order below some answers = tt
