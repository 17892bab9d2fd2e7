-- What a decoder knows after bytes more.
use Rattle.std.proofs.Common.{◌≡◌, ℕ, zero, suc, ◌+◌, ◌-◌, ◌<◌, ◌≤◌, false, List, [], ◌∷◌, ◌++◌, length, take, drop, get_or, append_assoc, length-drop, refl, sym, ap, ◌∙◌, subst, arith}
use Rattle.std.specs.List.{slice_range}
use Rattle.std.proofs.lemmas.List.{append-nil, take-append-drop, take_more, take_all, length-take-le}
use Rattle.std.proofs.Math.Seq.{take-add}
use Rattle.dm_chunk.specs.Grammar.{IsChunked}
use Rattle.dm_chunk.specs.Fronts.{IsFrontOf, IsBadChunked}
use Rattle.dm_chunk.specs.Machine.{after, brings, run, data_in, is_stop}
use Rattle.dm_chunk.specs.Decoded.{Leads, Stands, HasDecoded}
use Rattle.dm_chunk.specs.declared.Chunks.{Chunks}
use Rattle.dm_chunk.specs.declared.place.Place.{Place}
use Rattle.dm_chunk.specs.declared.place.Place.TheVariants.{Digits, Blanks, Extension, LineEnd, Data, DataEnd, TrailerStart, Trailer, TrailerEnd, LastEnd, Done, Broken}
use Rattle.dm_chunk.proofs.Runs.{run_append, data_append}
use Rattle.dm_chunk.proofs.Texts.{start, chunked_more, done_chunked, front_of}
use Rattle.dm_chunk.proofs.LawLemmas.{one_byte, bad_at, bad_more}

-- ---- nothing yet

pub fresh : Leads [] [] start
unfolding run data_in
fresh = record { here = refl; brought = refl }

-- ---- one byte of framing

pub leads_of : (p : Place) (read content : List ℕ) → is_stop p ≡ false → Stands read content p → Leads read content p
leads_of (Digits count size) read content h s = s
leads_of (Blanks size spare) read content h s = s
leads_of (Extension size spare) read content h s = s
leads_of (LineEnd size) read content h s = s
leads_of (Data left) read content h s = s
leads_of DataEnd read content h s = s
leads_of (TrailerStart spare) read content h s = s
leads_of (Trailer spare) read content h s = s
leads_of (TrailerEnd spare) read content h s = s
leads_of (LastEnd spare) read content h s = s
leads_of Done read content h s = absurd cc
leads_of Broken read content h s = absurd cc

data_none : (left b : ℕ) → is_stop (Data left) ≡ false → brings (Data left) b ≡ []
data_none zero b h = refl
data_none (suc left) b h = absurd cc

brings_none : (p : Place) (b : ℕ) → is_stop p ≡ false → brings p b ≡ []
brings_none (Digits count size) b h = refl
brings_none (Blanks size spare) b h = refl
brings_none (Extension size spare) b h = refl
brings_none (LineEnd size) b h = refl
brings_none (Data left) b h = data_none left b h
brings_none DataEnd b h = refl
brings_none (TrailerStart spare) b h = refl
brings_none (Trailer spare) b h = refl
brings_none (TrailerEnd spare) b h = refl
brings_none (LastEnd spare) b h = refl
brings_none Done b h = refl
brings_none Broken b h = refl

settle : (p : Place) (read content : List ℕ) → Leads read content p → (p ≡ Broken → IsBadChunked read content) → Stands read content p
settle (Digits count size) read content l bad = l
settle (Blanks size spare) read content l bad = l
settle (Extension size spare) read content l bad = l
settle (LineEnd size) read content l bad = l
settle (Data left) read content l bad = l
settle DataEnd read content l bad = l
settle (TrailerStart spare) read content l bad = l
settle (Trailer spare) read content l bad = l
settle (TrailerEnd spare) read content l bad = l
settle (LastEnd spare) read content l bad = l
settle Done read content l bad = subst (λ (x : List ℕ). IsChunked read x []) (sym l.brought) (done_chunked read (sym l.here))
settle Broken read content l bad = bad refl

not_done : (p : Place) → is_stop p ≡ false → p ≡ Done → ⊥
not_done p h e = let wrong : is_stop Done ≡ false = ap is_stop (sym e) ∙ h in absurd cc

not_broken : (p : Place) → is_stop p ≡ false → p ≡ Broken → ⊥
not_broken p h e = let wrong : is_stop Broken ≡ false = ap is_stop (sym e) ∙ h in absurd cc

data_one : (p : Place) (b : ℕ) → data_in p (b ∷ []) ≡ brings p b ++ []
unfolding data_in
data_one p b = refl

one_more : (p : Place) (read content : List ℕ) (b : ℕ) → is_stop p ≡ false → Stands read content p → Stands (read ++ b ∷ []) content (after p b)
one_more p read content b h s =
    let l = leads_of p read content h s in
    let none : data_in (run start read) (b ∷ []) ≡ [] = ap (λ (q : Place). data_in q (b ∷ [])) (sym l.here) ∙ data_one p b ∙ ap (λ (x : List ℕ). x ++ []) (brings_none p b h) in
    settle (after p b) (read ++ b ∷ []) content
    (record {
      here = ap (λ (q : Place). after q b) l.here ∙ sym (one_byte read b);
      brought = l.brought ∙ sym (append-nil (data_in start read)) ∙ ap (λ (x : List ℕ). data_in start read ++ x) (sym none) ∙ sym (data_append read start (b ∷ []));
    })
    (λ e. subst (λ (x : List ℕ). IsBadChunked (read ++ b ∷ []) x) (sym l.brought)
    (bad_at read b [] (λ f. not_done p h (l.here ∙ f)) (λ f. not_broken p h (l.here ∙ f)) (ap (λ (q : Place). after q b) (sym l.here) ∙ e)))

-- one byte more of what is ahead
pub step_more : (p : Place) (read content ahead : List ℕ) (i b : ℕ) → i < length ahead → b ≡ get_or ahead i 0 → is_stop p ≡ false → Stands (read ++ take i ahead) content p → Stands (read ++ take (i + 1) ahead) content (after p b)
step_more p read content ahead i b lt here h s =
    let e : read ++ take (i + 1) ahead ≡ (read ++ take i ahead) ++ b ∷ [] =
    ap (λ (x : List ℕ). read ++ x) (take_more ahead i 0 lt ∙ ap (λ (x : ℕ). take i ahead ++ x ∷ []) (sym here)) ∙ sym (append_assoc read (take i ahead) (b ∷ []))
    in
    subst (λ (x : List ℕ). Stands x content (after p b)) (sym e) (one_more p (read ++ take i ahead) content b h s)

-- ---- answers

pub front_told : (p : Place) (read content : List ℕ) → is_stop p ≡ false → Stands read content p → IsFrontOf read content
front_told p read content h s =
    let l = leads_of p read content h s in
    subst (λ (x : List ℕ). IsFrontOf read x) (sym l.brought) (front_of read (λ e. not_done p h (l.here ∙ e)) (λ e. not_broken p h (l.here ∙ e)))

pub data_front : (left : ℕ) (read content : List ℕ) → Stands read content (Data left) → IsFrontOf read content
data_front left read content l =
    subst (λ (x : List ℕ). IsFrontOf read x) (sym l.brought) (front_of read (λ e. clash (l.here ∙ e)) (λ e. other (l.here ∙ e)))
  where
    clash : Data left ≡ Done → ⊥
    clash e = absurd cc

    other : Data left ≡ Broken → ⊥
    other e = absurd cc

-- the whole of what is ahead follows its front
pub ahead_parts : (read ahead : List ℕ) (n : ℕ) → (read ++ take n ahead) ++ drop n ahead ≡ read ++ ahead
ahead_parts read ahead n = append_assoc read (take n ahead) (drop n ahead) ∙ ap (λ (x : List ℕ). read ++ x) (take-append-drop n ahead)

pub end_told : (read content ahead : List ℕ) (n : ℕ) → IsChunked (read ++ take n ahead) content [] → IsChunked (read ++ ahead) content (drop n ahead)
end_told read content ahead n c =
    subst (λ (x : List ℕ). IsChunked x content (drop n ahead)) (ahead_parts read ahead n) (chunked_more (read ++ take n ahead) content [] (drop n ahead) c)

pub bad_told : (read content ahead : List ℕ) (n : ℕ) → IsBadChunked (read ++ take n ahead) content → IsBadChunked (read ++ ahead) content
bad_told read content ahead n b = subst (λ (x : List ℕ). IsBadChunked x content) (ahead_parts read ahead n) (bad_more (read ++ take n ahead) content (drop n ahead) b)

-- ---- data

run_data : (bytes : List ℕ) (left : ℕ) → length bytes ≤ left → (run (Data left) bytes ≡ Data (left - length bytes)) × (data_in (Data left) bytes ≡ bytes)
unfolding run data_in
run_data [] left le = (ap Data (all_left left), refl)
  where
    all_left : (n : ℕ) → n ≡ n - 0
    all_left n = omega arith
run_data (b ∷ bytes) zero le = absurd (omega arith)
run_data (b ∷ bytes) (suc left) le =
    let rest = run_data bytes left (omega arith) in
    let sum : left - length bytes ≡ suc left - suc (length bytes) = omega arith in
    (rest.0 ∙ ap Data sum, ap (λ (x : List ℕ). b ∷ x) rest.1)

pub data_more : (left : ℕ) (read content bytes : List ℕ) → length bytes ≤ left → Stands read content (Data left) → Stands (read ++ bytes) (content ++ bytes) (Data (left - length bytes))
data_more left read content bytes le l =
    let ran = run_data bytes left le in
    record {
      here = sym ran.0 ∙ ap (λ (p : Place). run p bytes) l.here ∙ sym (run_append read start bytes);
      brought =
          ap (λ (x : List ℕ). x ++ bytes) l.brought ∙ ap (λ (x : List ℕ). data_in start read ++ x) (sym ran.1 ∙ ap (λ (p : Place). data_in p bytes) l.here) ∙ sym (data_append read start bytes);
    }

-- ---- answers of a decoder

stands_at : (p : Place) (read content : List ℕ) (chunks : Chunks) → chunks.place ≡ p → HasDecoded read content chunks → Stands read content p
stands_at p read content chunks e h = subst (λ (q : Place). Stands read content q) e h.stands

pub end_step : (read content ahead : List ℕ) (n : ℕ) (new : Chunks) → new.place ≡ Done → HasDecoded (read ++ take n ahead) content new → IsChunked (read ++ ahead) content (drop n ahead)
end_step read content ahead n new e h = end_told read content ahead n (stands_at Done (read ++ take n ahead) content new e h)

pub broken_step : (read content ahead : List ℕ) (n : ℕ) (new : Chunks) → new.place ≡ Broken → HasDecoded (read ++ take n ahead) content new → IsBadChunked (read ++ ahead) content × HasDecoded (read ++ ahead) content new
broken_step read content ahead n new e h =
    let b = bad_told read content ahead n (stands_at Broken (read ++ take n ahead) content new e h) in
    (b, record { stands = subst (λ (q : Place). Stands (read ++ ahead) content q) (sym e) b })

all_taken : (ahead : List ℕ) (n : ℕ) → n ≡ length ahead → take n ahead ≡ ahead
all_taken ahead n e = take_all n ahead (omega arith)

pub more_step : (read content ahead : List ℕ) (n : ℕ) (new : Chunks) → is_stop new.place ≡ false → n ≡ length ahead → HasDecoded (read ++ take n ahead) content new → IsFrontOf (read ++ ahead) content × HasDecoded (read ++ ahead) content new
more_step read content ahead n new goes e h =
    let all = subst (λ (x : List ℕ). HasDecoded (read ++ x) content new) (all_taken ahead n e) h in
    (front_told new.place (read ++ ahead) content goes all.stands, all)

-- no data stands where nothing is taken, though some is asked for: all of what is ahead was read
pub none_taken : (left : ℕ) (read content ahead : List ℕ) (from : ℕ) (new : Chunks) → new.place ≡ Data left → (0 < left → from ≡ length ahead) → (is_stop new.place ≡ false → from ≡ length ahead) → HasDecoded (read ++ take from ahead) content new → IsFrontOf (read ++ ahead) content × HasDecoded (read ++ ahead) content new
none_taken left read content ahead from new here some none h =
    let all = subst (λ (x : List ℕ). HasDecoded (read ++ x) content new) (all_taken ahead from (whole left here some none)) h in
    (data_front left (read ++ ahead) content (stands_at (Data left) (read ++ ahead) content new here all), all)
  where
    whole : (n : ℕ) → new.place ≡ Data n → (0 < n → from ≡ length ahead) → (is_stop new.place ≡ false → from ≡ length ahead) → from ≡ length ahead
    whole zero e f g = g (ap is_stop e)
    whole (suc n) e f g = f (omega arith)

-- data is taken
pub data_step : (left count from : ℕ) (read content ahead : List ℕ) (old : Chunks) → old.place ≡ Data left → count ≤ left → from + count ≤ length ahead → HasDecoded (read ++ take from ahead) content old
    → IsFrontOf (read ++ take (from + count) ahead) (content ++ slice_range ahead from (from + count)) × Stands (read ++ take (from + count) ahead) (content ++ slice_range ahead from (from + count)) (Data (left - count))
data_step left count from read content ahead old here most within h =
    let bytes : List ℕ = slice_range ahead from (from + count) in
    let some : from + count - from ≡ count = omega arith in
    let left_there = length-drop from ahead in
    let len : length bytes ≡ count = ap (λ (n : ℕ). length (take n (drop from ahead))) some ∙ length-take-le count (drop from ahead) (omega arith) in
    let parts : read ++ take (from + count) ahead ≡ (read ++ take from ahead) ++ bytes =
    ap (λ (x : List ℕ). read ++ x) (take-add from count ahead ∙ ap (λ (n : ℕ). take from ahead ++ take n (drop from ahead)) (sym some)) ∙ sym (append_assoc read (take from ahead) bytes)
    in
    let s = data_more left (read ++ take from ahead) content bytes (omega arith) (stands_at (Data left) (read ++ take from ahead) content old here h) in
    let t : Stands (read ++ take (from + count) ahead) (content ++ bytes) (Data (left - count)) =
    subst (λ (x : List ℕ). Stands x (content ++ bytes) (Data (left - count))) (sym parts) (subst (λ (n : ℕ). Stands ((read ++ take from ahead) ++ bytes) (content ++ bytes) (Data (left - n))) len s) in
    (data_front (left - count) (read ++ take (from + count) ahead) (content ++ bytes) t, t)
