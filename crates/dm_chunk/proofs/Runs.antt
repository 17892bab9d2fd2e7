-- Runs over texts, and how they go on.
use Rattle.std.proofs.Common.{◌≡◌, ℕ, zero, suc, ◌+◌, ◌*◌, ◌^◌, ◌<◌, ◌≤◌, ◌⊎◌, inl, inr, List, [], ◌∷◌, ◌++◌, length, append_assoc, length-append, refl, sym, ap, ◌∙◌, subst, arith}
use Rattle.std.proofs.lemmas.List.{append-nil}
use Rattle.dm_chunk.specs.Bytes.{hexadecimal}
use Rattle.dm_chunk.specs.Grammar.{section_text}
use Rattle.dm_chunk.specs.Machine.{after, brings, run, data_in}
use Rattle.dm_chunk.specs.declared.place.Place.{Place}
use Rattle.dm_chunk.specs.declared.place.Place.TheVariants.{Digits, Blanks, Extension, LineEnd, Data, DataEnd, TrailerStart, Trailer, TrailerEnd, LastEnd, Done, Broken}
use Rattle.dm_chunk.proofs.Places.{IsWhole, Sized, InBlanks, InTrailer, Section, From}
use Rattle.dm_chunk.proofs.Forward.{Goes, plain, forward, section_least}
use Rattle.dm_chunk.proofs.Back.{Sound, sound_after, back}

pub run_append : (t : List ℕ) (p : Place) (v : List ℕ) → run p (t ++ v) ≡ run (run p t) v
unfolding run
run_append [] p v = refl
run_append (b ∷ t) p v = run_append t (after p b) v

pub data_append : (t : List ℕ) (p : Place) (v : List ℕ) → data_in p (t ++ v) ≡ data_in p t ++ data_in (run p t) v
unfolding run data_in
data_append [] p v = refl
data_append (b ∷ t) p v = ap (λ (x : List ℕ). brings p b ++ x) (data_append t (after p b) v) ∙ sym (append_assoc (brings p b) (data_in (after p b) t) (data_in (run (after p b) t) v))

pub run_sound : (t : List ℕ) (p : Place) → Sound p → Sound (run p t)
unfolding run
run_sound [] p s = s
run_sound (b ∷ t) p s = run_sound t (after p b) (sound_after p b s)

pub run_forward : (t : List ℕ) (p : Place) (w content : List ℕ) → From p (t ++ w) content → Goes (run p t) (data_in p t) w content
unfolding run data_in
run_forward [] p w content f = plain p w content f
run_forward (b ∷ t) p w content f =
    let one = forward p b (t ++ w) content f in
    let others = run_forward t (after p b) w one.rest one.follows in
    record {
      rest = others.rest;
      follows = others.follows;
      joined = one.joined ∙ ap (λ (x : List ℕ). brings p b ++ x) others.joined ∙ sym (append_assoc (brings p b) (data_in (after p b) t) others.rest);
    }

pub run_back : (t : List ℕ) (p : Place) (w content : List ℕ) → Sound p → From (run p t) w content → From p (t ++ w) (data_in p t ++ content)
unfolding run data_in
run_back [] p w content s f = f
run_back (b ∷ t) p w content s f =
    subst (λ (x : List ℕ). From p (b ∷ (t ++ w)) x) (sym (append_assoc (brings p b) (data_in (after p b) t) content))
    (back p b (t ++ w) (data_in (after p b) t ++ content) s (run_back t (after p b) w content (sound_after p b s) f))

pub run_broken : (t : List ℕ) → run Broken t ≡ Broken
unfolding run
run_broken [] = refl
run_broken (b ∷ t) = run_broken t

-- nothing stands behind a whole body
pub run_done : (t : List ℕ) → run Done t ≡ Done → t ≡ []
unfolding run
run_done [] e = refl
run_done (b ∷ t) e = absurd (let wrong = sym (run_broken t) ∙ e in cc)

pub run_done_or : (t : List ℕ) → (run Done t ≡ Done) ⊎ (run Done t ≡ Broken)
unfolding run
run_done_or [] = inl refl
run_done_or (b ∷ t) = inr (run_broken t)

-- ---- where a body ends

not_empty : (a x : List ℕ) (b : ℕ) → ◌≡◌ {A = List ℕ} [] (a ++ b ∷ x) → ⊥
not_empty [] x b e = absurd cc
not_empty (c ∷ a) x b e = absurd cc

nothing_left : (a x : List ℕ) → ◌≡◌ {A = List ℕ} [] (a ++ x) → ◌≡◌ {A = List ℕ} [] x
nothing_left [] x e = e
nothing_left (c ∷ a) x e = absurd cc

blanks_left : (n spare : ℕ) (w content : List ℕ) → w ≡ [] → InBlanks n spare w content → ⊥
blanks_left n spare w content e b = not_empty b.extension (10 ∷ b.rest) 13 (nothing_left b.blanks (b.extension ++ 13 ∷ 10 ∷ b.rest) (sym e ∙ b.parts))

section_left : (spare : ℕ) (w content : List ℕ) → length w < 2 → Section spare w content → ⊥
section_left spare w content lt s =
    let least = section_least s.lines in
    let e = ap length s.parts in
    absurd (omega arith)

trailer_left : (spare : ℕ) (w content : List ℕ) → length w < 2 → InTrailer spare w content → ⊥
trailer_left spare w content lt s =
    let least = section_least s.lines in
    let e = ap length s.parts in
    let f = length-append s.bytes (13 ∷ 10 ∷ section_text s.lines) in
    absurd (omega arith)

pub ends_from : (p : Place) (content : List ℕ) → From p [] content → (p ≡ Done) × (content ≡ [])
ends_from (Digits count size) content f = absurd (blanks_left _ _ f.behind content (sym (nothing_left f.digits f.behind f.parts)) f.follows)
ends_from (Blanks size spare) content f = absurd (blanks_left size spare [] content refl f)
ends_from (Extension size spare) content f = absurd (not_empty f.bytes (10 ∷ f.rest) 13 f.parts)
ends_from (LineEnd size) content f = absurd (not_empty [] f.rest 10 f.parts)
ends_from (Data left) content f = absurd (not_empty f.bytes (10 ∷ f.more) 13 f.parts)
ends_from DataEnd content f = absurd (not_empty [] f.rest 10 f.parts)
ends_from (TrailerStart spare) content f = absurd (section_left spare [] content (omega arith) f)
ends_from (Trailer spare) content f = absurd (trailer_left spare [] content (omega arith) f)
ends_from (TrailerEnd spare) content f = absurd (trailer_left spare (13 ∷ []) content (omega arith) f)
ends_from (LastEnd spare) content f = absurd (section_left spare (13 ∷ []) content (omega arith) f)
ends_from Done content f = (refl, f.1)
ends_from Broken content f = absurd f

-- ---- each place goes on

-- the same byte, so many times
abbrev pub copies : ℕ → ℕ → List ℕ
copies zero b = []
copies (suc n) b = b ∷ copies n b

length_copies : (n b : ℕ) → length (copies n b) ≡ n
length_copies zero b = refl
length_copies (suc n) b = ap suc (length_copies n b)

-- a text that may stand behind the place, whose data are such bytes
pub record Some (P : List ℕ → List ℕ → Type 0) (b : ℕ) : Type 0 where
  pub w : List ℕ
  pub count : ℕ
  pub follows : P w (copies count b)

least_body : IsWhole (48 ∷ 13 ∷ 10 ∷ 13 ∷ 10 ∷ []) []
least_body = record {
  body = record { chunks = []; last = record { digits = 48 ∷ []; blanks = []; extension = [] }; trailers = [] };
  is = record {
    chunks = tt;
    last = record { digits = (refl, tt); some = omega arith; most = omega arith; blanks = tt; extension = tt; within = omega arith };
    zero = refl;
    trailers = record { each = tt; within = omega arith };
  };
  parts = refl;
  joined = refl;
}

some_behind : (n b : ℕ) → Some (From (Data n)) b
some_behind n b = record {
  w = copies n b ++ 13 ∷ 10 ∷ 48 ∷ 13 ∷ 10 ∷ 13 ∷ 10 ∷ [];
  count = n;
  follows = record {
    bytes = copies n b;
    more = 48 ∷ 13 ∷ 10 ∷ 13 ∷ 10 ∷ [];
    rest = [];
    parts = refl;
    size_is = length_copies n b;
    follows = least_body;
    joined = sym (append-nil (copies n b));
  };
}

some_section : (spare b : ℕ) → Some (Section spare) b
some_section spare b = record { w = 13 ∷ 10 ∷ []; count = 0; follows = record { lines = []; each = tt; parts = refl; within = omega arith; none = refl } }

some_sized : (n b : ℕ) → Some (Sized n) b
some_sized zero b = some_section 16382 b
some_sized (suc n) b = some_behind (suc n) b

some_digits : (count size b : ℕ) → count ≤ 15 → size < 16 ^ count → Some (From (Digits count size)) b
some_digits zero size b most small =
    let s = some_sized (size * 16 ^ 1 + hexadecimal (48 ∷ [])) b in
    record {
      w = 48 ∷ 13 ∷ 10 ∷ s.w;
      count = s.count;
      follows = record {
        digits = 48 ∷ [];
        behind = 13 ∷ 10 ∷ s.w;
        each = (refl, tt);
        some = omega arith;
        most = omega arith;
        small = small;
        parts = refl;
        follows = record { blanks = []; extension = []; rest = s.w; each = tt; is = tt; parts = refl; within = omega arith; follows = s.follows };
      };
    }
some_digits (suc count) size b most small =
    let s = some_sized (size * 16 ^ 0 + 0) b in
    record {
      w = 13 ∷ 10 ∷ s.w;
      count = s.count;
      follows = record {
        digits = [];
        behind = 13 ∷ 10 ∷ s.w;
        each = tt;
        some = omega arith;
        most = omega arith;
        small = small;
        parts = refl;
        follows = record { blanks = []; extension = []; rest = s.w; each = tt; is = tt; parts = refl; within = omega arith; follows = s.follows };
      };
    }

some_trailer : (spare : ℕ) → InTrailer spare (13 ∷ 10 ∷ 13 ∷ 10 ∷ []) []
some_trailer spare = record { bytes = []; lines = []; unbroken = none_broken; each = tt; parts = refl; within = omega arith; none = refl }
  where
    none_broken : (before behind : List ℕ) → ◌≡◌ {A = List ℕ} [] (before ++ 13 ∷ 10 ∷ behind) → ⊥
    none_broken before behind e = not_empty before (10 ∷ behind) 13 e

pub some_from : (p : Place) (b : ℕ) → Sound p → (p ≡ Broken → ⊥) → Some (From p) b
some_from (Digits count size) b s live = some_digits count size b s.0 s.1
some_from (Blanks size spare) b s live =
    let t = some_sized size b in
    record { w = 13 ∷ 10 ∷ t.w; count = t.count; follows = record { blanks = []; extension = []; rest = t.w; each = tt; is = tt; parts = refl; within = omega arith; follows = t.follows } }
some_from (Extension size spare) b s live =
    let t = some_sized size b in
    record { w = 13 ∷ 10 ∷ t.w; count = t.count; follows = record { bytes = []; rest = t.w; each = tt; parts = refl; within = omega arith; follows = t.follows } }
some_from (LineEnd size) b s live =
    let t = some_sized size b in
    record { w = 10 ∷ t.w; count = t.count; follows = record { rest = t.w; parts = refl; follows = t.follows } }
some_from (Data left) b s live = some_behind left b
some_from DataEnd b s live = record { w = 10 ∷ 48 ∷ 13 ∷ 10 ∷ 13 ∷ 10 ∷ []; count = 0; follows = record { rest = 48 ∷ 13 ∷ 10 ∷ 13 ∷ 10 ∷ []; parts = refl; follows = least_body } }
some_from (TrailerStart spare) b s live = some_section spare b
some_from (Trailer spare) b s live = record { w = 13 ∷ 10 ∷ 13 ∷ 10 ∷ []; count = 0; follows = some_trailer spare }
some_from (TrailerEnd spare) b s live = record { w = 10 ∷ 13 ∷ 10 ∷ []; count = 0; follows = some_trailer spare }
some_from (LastEnd spare) b s live = record { w = 10 ∷ []; count = 0; follows = record { lines = []; each = tt; parts = refl; within = omega arith; none = refl } }
some_from Done b s live = record { w = []; count = 0; follows = (refl, refl) }
some_from Broken b s live = absurd (live refl)
