-- What may stand behind each place, up to the end of the body, and the content that it brings.
use Rattle.std.proofs.Common.{◌≡◌, ℕ, zero, suc, ◌+◌, ◌-◌, ◌*◌, ◌^◌, ◌<◌, ◌≤◌, Bool, true, false, cond, ltb, List, [], ◌∷◌, ◌++◌, length, refl, subst, arith}
use Rattle.std.specs.List.{AllByRecursion}
use Rattle.std.proofs.lemmas.Bool.{ltb-true, ltb-false}
use Rattle.dm_types.specs.Bytes.{is_blank, Each}
use Rattle.dm_chunk.specs.Bytes.{is_line_byte, is_hex, hexadecimal}
use Rattle.dm_chunk.specs.Grammar.{Body, body_text, body_data, IsBody, IsExtension, IsTrailer, section_text}
use Rattle.dm_chunk.specs.Machine.{spend}
use Rattle.dm_chunk.specs.declared.place.Place.{Place}
use Rattle.dm_chunk.specs.declared.place.Place.TheVariants.{Digits, Blanks, Extension, LineEnd, Data, DataEnd, TrailerStart, Trailer, TrailerEnd, LastEnd, Done, Broken}

-- a chunked body, and nothing behind it
pub record IsWhole (w content : List ℕ) : Type 0 where
  pub body : Body
  pub is : IsBody body
  pub parts : w ≡ body_text body
  pub joined : content ≡ body_data body

-- so much data, its end, and a whole body
pub record Behind (size : ℕ) (w content : List ℕ) : Type 0 where
  pub bytes : List ℕ
  pub more : List ℕ
  pub rest : List ℕ
  pub parts : w ≡ bytes ++ 13 ∷ 10 ∷ more
  pub size_is : length bytes ≡ size
  pub follows : IsWhole more rest
  pub joined : content ≡ bytes ++ rest

-- trailer lines and the empty one
pub record Section (spare : ℕ) (w content : List ℕ) : Type 0 where
  pub lines : List (List ℕ)
  pub each : AllByRecursion IsTrailer lines
  pub parts : w ≡ section_text lines
  pub within : length (section_text lines) ≤ spare + 2
  pub none : content ≡ []

-- no CR LF stands in the bytes
abbrev pub Unbroken : List ℕ → Type 0
Unbroken bytes = (before behind : List ℕ) → bytes ≡ before ++ 13 ∷ 10 ∷ behind → ⊥

-- the rest of a trailer line, and a section
pub record InTrailer (spare : ℕ) (w content : List ℕ) : Type 0 where
  pub bytes : List ℕ
  pub lines : List (List ℕ)
  pub unbroken : Unbroken bytes
  pub each : AllByRecursion IsTrailer lines
  pub parts : w ≡ bytes ++ 13 ∷ 10 ∷ section_text lines
  pub within : length bytes + length (section_text lines) ≤ spare + 2
  pub none : content ≡ []

-- behind a chunk line of this size
abbrev pub Sized : ℕ → List ℕ → List ℕ → Type 0
Sized zero w content = Section 16382 w content
Sized (suc size) w content = Behind (suc size) w content

pub record InLineEnd (size : ℕ) (w content : List ℕ) : Type 0 where
  pub rest : List ℕ
  pub parts : w ≡ 10 ∷ rest
  pub follows : Sized size rest content

pub record InExtension (size spare : ℕ) (w content : List ℕ) : Type 0 where
  pub bytes : List ℕ
  pub rest : List ℕ
  pub each : Each is_line_byte bytes
  pub parts : w ≡ bytes ++ 13 ∷ 10 ∷ rest
  pub within : length bytes ≤ spare
  pub follows : Sized size rest content

pub record InBlanks (size spare : ℕ) (w content : List ℕ) : Type 0 where
  pub blanks : List ℕ
  pub extension : List ℕ
  pub rest : List ℕ
  pub each : Each is_blank blanks
  pub is : IsExtension extension
  pub parts : w ≡ blanks ++ (extension ++ 13 ∷ 10 ∷ rest)
  pub within : length blanks + length extension ≤ spare
  pub follows : Sized size rest content

pub record InDigits (count size : ℕ) (w content : List ℕ) : Type 0 where
  pub digits : List ℕ
  pub behind : List ℕ
  pub each : Each is_hex digits
  pub some : 0 < count + length digits
  pub most : count + length digits ≤ 15
  pub small : size < 16 ^ count
  pub parts : w ≡ digits ++ behind
  pub follows : InBlanks (size * 16 ^ length digits + hexadecimal digits) (16382 - (count + length digits)) behind content

pub record InDataEnd (w content : List ℕ) : Type 0 where
  pub rest : List ℕ
  pub parts : w ≡ 10 ∷ rest
  pub follows : IsWhole rest content

abbrev pub From : Place → List ℕ → List ℕ → Type 0
From (Digits count size) w content = InDigits count size w content
From (Blanks size spare) w content = InBlanks size spare w content
From (Extension size spare) w content = InExtension size spare w content
From (LineEnd size) w content = InLineEnd size w content
From (Data left) w content = Behind left w content
From DataEnd w content = InDataEnd w content
From (TrailerStart spare) w content = Section spare w content
From (Trailer spare) w content = InTrailer spare w content
From (TrailerEnd spare) w content = InTrailer spare (13 ∷ w) content
From (LastEnd spare) w content = Section spare (13 ∷ w) content
From Done w content = (w ≡ []) × (content ≡ [])
From Broken w content = ⊥

-- ---- choices

pub from_if : (x : Bool) (p q : Place) (w content : List ℕ) → (x ≡ true → From p w content) → (x ≡ false → From q w content) → From (cond x p q) w content
from_if true p q w content on off = on refl
from_if false p q w content on off = off refl

pub if_from : (x : Bool) (p q : Place) (w content : List ℕ) (R : Type 0) → From (cond x p q) w content → (x ≡ true → From p w content → R) → (x ≡ false → From q w content → R) → R
if_from true p q w content R f on off = on refl f
if_from false p q w content R f on off = off refl f

-- where the bytes are there to spare
pub spent : (spare count left : ℕ) (place : ℕ → Place) (w content : List ℕ) → spare ≡ count + left → From (place left) w content → From (spend spare count place) w content
spent spare count left place w content e f =
    from_if (ltb spare count) Broken (place (spare - count)) w content (λ h. absurd (not_less h)) (λ h. subst (λ (n : ℕ). From (place n) w content) taken f)
  where
    taken : left ≡ spare - count
    taken = omega arith

    not_less : ltb spare count ≡ true → ⊥
    not_less h = let lt = ltb-true spare count h in omega arith

pub record Spent (spare count : ℕ) (place : ℕ → Place) (w content : List ℕ) : Type 0 where
  pub left : ℕ
  pub sum : spare ≡ count + left
  pub follows : From (place left) w content

pub unspent : (spare count : ℕ) (place : ℕ → Place) (w content : List ℕ) → From (spend spare count place) w content → Spent spare count place w content
unspent spare count place w content f =
    if_from (ltb spare count) Broken (place (spare - count)) w content (Spent spare count place w content) f
    (λ h g. absurd g)
    (λ h g. record { left = spare - count; sum = let le = ltb-false spare count h in omega arith; follows = g })
