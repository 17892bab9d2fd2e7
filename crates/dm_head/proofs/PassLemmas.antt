-- The interim heads that are passed over, and the head behind them.
use Rattle.std.proofs.Common.{◌≡◌, ℕ, ◌<◌, inl, inr, List, [], ◌∷◌, ◌++◌, length, sym, ap, ◌∙◌, subst, arith}
use Rattle.std.proofs.lemmas.Bool.{cases_lt, false≢true}
use Rattle.httparse.specs.Grammar.{ResponseHead, status_code}
use Rattle.httparse.proofs.GrammarLemmas.{response_unique}
use Rattle.dm_edge.specs.Head.{is_interim, BeginsWith, PassesOne, Passes, ComesTo, BeginsFinal, HasHead, HasNinthInterim}
use Rattle.dm_head.proofs.HeadLemmas.{begins_more}

-- ---- more bytes

pub one_more_bytes : {before from : List ℕ} {head : ResponseHead} → PassesOne before head from → (more : List ℕ)
    → PassesOne (before ++ more) head (from ++ more)
one_more_bytes p more = record { begins = begins_more p.begins more; interim = p.interim }

pub passes_more : (stream : List ℕ) (passed : List ResponseHead) (from : List ℕ) → Passes stream passed from → (more : List ℕ)
    → Passes (stream ++ more) passed (from ++ more)
passes_more stream [] from is more = ap (λ t. t ++ more) is
passes_more stream (head ∷ older) from p more =
    (p.0 ++ more, passes_more stream older p.0 p.1 more, one_more_bytes p.2 more)

pub comes_more : {stream from : List ℕ} → ComesTo stream from → (more : List ℕ) → ComesTo (stream ++ more) (from ++ more)
comes_more {stream} {from} c more = record { passed = c.passed; passes = passes_more stream c.passed from c.passes more; few = c.few }

pub final_goes_on : {from rest : List ℕ} {head : ResponseHead} → BeginsFinal from head rest → (more : List ℕ)
    → BeginsFinal (from ++ more) head (rest ++ more)
final_goes_on b more = record { begins = begins_more b.begins more; final = b.final }

pub has_more : {stream rest : List ℕ} {head : ResponseHead} → HasHead stream head rest → (more : List ℕ)
    → HasHead (stream ++ more) head (rest ++ more)
has_more h more = record { from = h.from ++ more; comes = comes_more h.comes more; final = final_goes_on h.final more }

pub ninth_more : {stream : List ℕ} {status : ℕ} → HasNinthInterim stream status → (more : List ℕ) → HasNinthInterim (stream ++ more) status
ninth_more {stream} n more = record {
  passed = n.passed;
  from = n.from ++ more;
  passes = passes_more stream n.passed n.from n.passes more;
  all = n.all;
  head = n.head;
  rest = n.rest ++ more;
  one = one_more_bytes n.one more;
  status_is = n.status_is;
}

-- ---- no two ways

pub one_begins : {stream r q : List ℕ} {h k : ResponseHead} → BeginsWith stream h r → BeginsWith stream k q → (h ≡ k) × (r ≡ q)
one_begins {stream} {r} {q} {h} {k} x y = response_unique stream h k r q x.reads y.reads

-- no interim head stands at the front
abbrev pub Stops : List ℕ → Type 0
Stops from = (head : ResponseHead) (rest : List ℕ) → PassesOne from head rest → ⊥

pub final_stops : {from rest : List ℕ} {head : ResponseHead} → BeginsFinal from head rest → Stops from
final_stops b head rest p =
    let same = one_begins b.begins p.begins in
    false≢true (sym b.final ∙ ap (λ (h : ResponseHead). is_interim (status_code h)) same.0 ∙ p.interim)

-- as many interim heads come to one place
same_passes : (stream : List ℕ) (a b : List ResponseHead) (x y : List ℕ) → Passes stream a x → Passes stream b y
    → length a ≡ length b → x ≡ y
same_passes stream [] [] x y p q e = sym p ∙ q
same_passes stream [] (k ∷ b) x y p q e = absurd (omega (arith, e))
same_passes stream (h ∷ a) [] x y p q e = absurd (omega (arith, e))
same_passes stream (h ∷ a) (k ∷ b) x y p q e =
    let before = same_passes stream a b p.0 q.0 p.1 q.1 (omega (arith, e)) in
    (one_begins (subst (λ (t : List ℕ). BeginsWith t h x) before p.2.begins) q.2.begins).1

-- where more interim heads are passed over, the next one comes behind so many
record Reached (stream : List ℕ) (count : ℕ) : Type 0 where
  passed : List ResponseHead
  from : List ℕ
  passes : Passes stream passed from
  count_is : length passed ≡ count
  head : ResponseHead
  rest : List ℕ
  one : PassesOne from head rest

reach : (stream : List ℕ) (b : List ResponseHead) (y : List ℕ) (count : ℕ) → Passes stream b y → count < length b → Reached stream count
reach stream [] y count q h = absurd (omega arith)
reach stream (k ∷ b) y count q h = elim (cases_lt count (length b)) [
  | inl less ↦ reach stream b q.0 count q.1 less
  | inr more ↦ record {
    passed = b;
    from = q.0;
    passes = q.1;
    count_is = omega (arith, more);
    head = k;
    rest = y;
    one = q.2;
  }
]

not_behind : (stream : List ℕ) (a b : List ResponseHead) (x y : List ℕ) → Passes stream a x → Stops x → Passes stream b y
    → length a < length b → ⊥
not_behind stream a b x y p stops q less =
    let r = reach stream b y (length a) q less in
    let same = same_passes stream r.passed a r.from x r.passes p r.count_is in
    stops r.head r.rest (subst (λ (t : List ℕ). PassesOne t r.head r.rest) same r.one)

-- interim heads end at one place
pub one_place : {stream x y : List ℕ} → ComesTo stream x → Stops x → ComesTo stream y → Stops y → x ≡ y
one_place {stream} {x} {y} p stop q end = elim (cases_lt (length p.passed) (length q.passed)) [
  | inl less ↦ absurd (not_behind stream p.passed q.passed x y p.passes stop q.passes less)
  | inr no_less ↦ elim (cases_lt (length q.passed) (length p.passed)) [
    | inl more ↦ absurd (not_behind stream q.passed p.passed y x q.passes end p.passes more)
    | inr no_more ↦ same_passes stream p.passed q.passed x y p.passes q.passes (omega (arith, no_less, no_more))
  ]
]

pub ninth_not_few : {stream x : List ℕ} {status : ℕ} → HasNinthInterim stream status → ComesTo stream x → Stops x → ⊥
ninth_not_few {stream} {x} n p stop = elim (cases_lt (length p.passed) (length n.passed)) [
  | inl less ↦ not_behind stream p.passed n.passed x n.from p.passes stop n.passes less
  | inr no_less ↦
      let same = same_passes stream n.passed p.passed n.from x n.passes p.passes (omega (arith, no_less, n.all, p.few)) in
      stop n.head n.rest (subst (λ (t : List ℕ). PassesOne t n.head n.rest) same n.one)
]

pub one_ninth : {stream : List ℕ} {status other : ℕ} → HasNinthInterim stream status → HasNinthInterim stream other → status ≡ other
one_ninth {stream} m n =
    let same = same_passes stream m.passed n.passed m.from n.from m.passes n.passes (omega (arith, m.all, n.all)) in
    let heads = one_begins (subst (λ (t : List ℕ). BeginsWith t m.head m.rest) same m.one.begins) n.one.begins in
    sym m.status_is ∙ ap status_code heads.0 ∙ n.status_is

pub one_head : {stream r q : List ℕ} {h k : ResponseHead} → HasHead stream h r → HasHead stream k q → (h ≡ k) × (r ≡ q)
one_head {stream} {r} {q} {h} {k} x y =
    let same = one_place x.comes (final_stops x.final) y.comes (final_stops y.final) in
    one_begins (subst (λ (t : List ℕ). BeginsWith t h r) same x.final.begins) y.final.begins
