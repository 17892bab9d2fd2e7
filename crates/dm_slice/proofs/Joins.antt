-- The normal list of a cover: it is normal, and has the same bytes.
use Rattle.std.proofs.Common.{◌≡◌, ℕ, ◌+◌, ◌<◌, ◌≤◌, List, [], ◌∷◌, map, Option, Some, None, inl, inr, refl, sym, subst, arith, Result, Ok, Err, IfOk}
use Rattle.std.proofs.lemmas.Bool.{cases_lt}
use Rattle.std.proofs.lemmas.Bool.Decides.{nat_tests}
use Rattle.dm_types.specs.declared.slices.Slice.{Slice}
use Rattle.dm_slice.specs.Words.{end_of, HasByte, IsApart, IsMarked, IsNormal, is_last}
use Rattle.dm_slice.specs.Cover.{IsRising, IsCover, IsNormalOf, joined, marked, normal_of}

-- one step of joining
abbrev pub with_more : Slice → Slice → Slice
with_more now slice = record now { got = now.got + slice.got }

pub joined-empty : (now slice : Slice) (rest : List Slice) → slice.got ≡ 0 → joined now (slice ∷ rest) ≡ joined now rest
joined-empty now slice rest empty = grind (arith, nat_tests)

pub joined-touch : (now slice : Slice) (rest : List Slice) → 0 < slice.got → slice.first ≡ end_of now → joined now (slice ∷ rest) ≡ joined (with_more now slice) rest
joined-touch now slice rest full touch = grind (arith, nat_tests)

pub joined-apart : (now slice : Slice) (rest : List Slice) → 0 < slice.got → end_of now < slice.first → joined now (slice ∷ rest) ≡ now ∷ joined slice rest
joined-apart now slice rest full apart = grind (arith, nat_tests)

-- where a slice stands to the one before
pub data Meets (now slice : Slice) : Type 0 where
  empty : slice.got ≡ 0 → Meets now slice
  touch : 0 < slice.got → slice.first ≡ end_of now → Meets now slice
  apart : 0 < slice.got → end_of now < slice.first → Meets now slice

pub meets : (now slice : Slice) → end_of now ≤ slice.first → Meets now slice
meets now slice behind =
    elim (cases_lt 0 slice.got) [
      | inl full ↦ elim (cases_lt (end_of now) slice.first) [ inl far ↦ apart full far | inr near ↦ touch full (omega arith) ]
      | inr none ↦ empty (omega arith)
    ]

pub rising-later : (end other : ℕ) (rest : List Slice) → IsRising other rest → end ≤ other → IsRising end rest
rising-later end other [] rising before = tt
rising-later end other (slice ∷ rest) rising before = (omega arith, rising.1, rising.2)

-- the first slice begins at a place and has at least so many bytes, and each later one stands apart
abbrev Begins : ℕ → ℕ → List Slice → Type 0
Begins at least [] = ⊥
Begins at least (slice ∷ rest) = (slice.first ≡ at) × (least ≤ slice.got) × IsApart (end_of slice) rest

begins-fewer : (at least fewer : ℕ) (slices : List Slice) → fewer ≤ least → Begins at least slices → Begins at fewer slices
begins-fewer at least fewer [] few begins = absurd begins
begins-fewer at least fewer (slice ∷ rest) few begins = (begins.0, omega arith, begins.2)

apart-begins : (now : Slice) (at least : ℕ) (slices : List Slice) → end_of now < at → 0 < least → Begins at least slices → IsApart (end_of now) slices
apart-begins now at least [] far full begins = absurd begins
apart-begins now at least (slice ∷ rest) far full begins = (omega arith, omega arith, begins.2)

begins-joined : (now : Slice) (rest : List Slice) → IsRising (end_of now) rest → Begins now.first now.got (joined now rest)
begins-joined now [] rising = (refl, omega arith, tt)
begins-joined now (slice ∷ rest) rising =
    elim (meets now slice rising.0) [
      | empty none ↦ rw (joined-empty now slice rest none) (begins-joined now rest (rising-later (end_of now) (end_of slice) rest rising.2 (omega arith)))
      | touch full near ↦
          let more = with_more now slice in
          let joins : IsRising (end_of more) rest = rising-later (end_of more) (end_of slice) rest rising.2 (omega arith) in
          rw (joined-touch now slice rest full near) (begins-fewer now.first more.got now.got (joined more rest) (omega arith) (begins-joined more rest joins))
      | apart full far ↦ rw (joined-apart now slice rest full far) (refl, omega arith, apart-begins now slice.first slice.got (joined slice rest) far full (begins-joined slice rest rising.2))
    ]

-- joining keeps the bytes
joined-forward : (now : Slice) (rest : List Slice) → IsRising (end_of now) rest → (place : ℕ) → HasByte (joined now rest) place → HasByte (now ∷ rest) place
joined-forward now [] rising place has = has
joined-forward now (slice ∷ rest) rising place has =
    elim (meets now slice rising.0) [
      | empty none ↦
          let kept = rw (joined-empty now slice rest none) at has in
          elim (joined-forward now rest (rising-later (end_of now) (end_of slice) rest rising.2 (omega arith)) place kept) [ inl here ↦ inl here | inr later ↦ inr (inr later) ]
      | touch full near ↦
          let more = with_more now slice in
          let joins : IsRising (end_of more) rest = rising-later (end_of more) (end_of slice) rest rising.2 (omega arith) in
          let kept = rw (joined-touch now slice rest full near) at has in
          elim (joined-forward more rest joins place kept) [
            | inl here ↦ elim (cases_lt place slice.first) [ inl first ↦ inl (here.0, omega arith) | inr second ↦ inr (inl (second, omega arith)) ]
            | inr later ↦ inr (inr later)
          ]
      | apart full far ↦
          let kept = rw (joined-apart now slice rest full far) at has in
          elim kept [ inl here ↦ inl here | inr later ↦ inr (joined-forward slice rest rising.2 place later) ]
    ]

joined-back : (now : Slice) (rest : List Slice) → IsRising (end_of now) rest → (place : ℕ) → HasByte (now ∷ rest) place → HasByte (joined now rest) place
joined-back now [] rising place has = has
joined-back now (slice ∷ rest) rising place has =
    elim (meets now slice rising.0) [
      | empty none ↦
          rw (joined-empty now slice rest none) (joined-back now rest (rising-later (end_of now) (end_of slice) rest rising.2 (omega arith)) place
          (elim has [ inl here ↦ inl here | inr later ↦ elim later [ inl second ↦ absurd (omega arith) | inr last ↦ inr last ] ]))
      | touch full near ↦
          let more = with_more now slice in
          let joins : IsRising (end_of more) rest = rising-later (end_of more) (end_of slice) rest rising.2 (omega arith) in
          rw (joined-touch now slice rest full near) (joined-back more rest joins place
          (elim has [ inl here ↦ inl (here.0, omega arith) | inr later ↦ elim later [ inl second ↦ inl (omega arith, omega arith) | inr last ↦ inr last ] ]))
      | apart full far ↦
          rw (joined-apart now slice rest full far) (elim has [ inl here ↦ inl here | inr later ↦ inr (joined-back slice rest rising.2 place later) ])
    ]

-- marks change no byte
is_last-marked : (total mark : Option ℕ) (slice : Slice) → is_last total (marked mark slice) ≡ is_last total slice
is_last-marked None mark slice = refl
is_last-marked (Some total) mark slice = refl

marked-right : (total : Option ℕ) (slices : List Slice) → IsMarked total (map (marked total) slices)
marked-right total [] = tt
marked-right total (slice ∷ rest) = (sym (is_last-marked total total slice), marked-right total rest)

marked-apart : (total : Option ℕ) (end : ℕ) (slices : List Slice) → IsApart end slices → IsApart end (map (marked total) slices)
marked-apart total end [] far = tt
marked-apart total end (slice ∷ rest) far = (far.0, far.1, marked-apart total (end_of slice) rest far.2)

marked-forward : (total : Option ℕ) (slices : List Slice) (place : ℕ) → HasByte (map (marked total) slices) place → HasByte slices place
marked-forward total [] place has = has
marked-forward total (slice ∷ rest) place (inl here) = inl here
marked-forward total (slice ∷ rest) place (inr later) = inr (marked-forward total rest place later)

marked-back : (total : Option ℕ) (slices : List Slice) (place : ℕ) → HasByte slices place → HasByte (map (marked total) slices) place
marked-back total [] place has = has
marked-back total (slice ∷ rest) place (inl here) = inl here
marked-back total (slice ∷ rest) place (inr later) = inr (marked-back total rest place later)

normal-begins : (total : Option ℕ) (least : ℕ) (slices : List Slice) → Begins 0 least slices → IsNormal total (map (marked total) slices)
normal-begins total least [] begins = absurd begins
normal-begins total least (slice ∷ rest) begins =
    (begins.0, marked-apart total (end_of slice) rest begins.2, marked-right total (slice ∷ rest))

pub normal_of-meaning : (total : Option ℕ) (cover : List Slice) → IsCover cover → IsNormalOf total cover (normal_of total cover)
normal_of-meaning total [] is = absurd is
normal_of-meaning total (slice ∷ rest) is =
    let begins : Begins 0 slice.got (joined slice rest) = subst (λ (at : ℕ). Begins at slice.got (joined slice rest)) is.0 (begins-joined slice rest is.1.2) in
    record {
      normal = normal-begins total slice.got (joined slice rest) begins;
      places = λ place. (λ has. joined-forward slice rest is.1.2 place (marked-forward total (joined slice rest) place has), λ has. marked-back total (joined slice rest) place (joined-back slice rest is.1.2 place has));
    }

pub normal_of-result : (total : Option ℕ) (cover : List Slice) {E : Type 0} (result : Result (List Slice) E) → IsCover cover → IfOk result (λ slices. slices ≡ normal_of total cover) → IfOk result (IsNormalOf total cover)
normal_of-result total cover (Ok slices) is value = subst (IsNormalOf total cover) (sym value) (normal_of-meaning total cover is)
normal_of-result total cover (Err fault) is value = tt
