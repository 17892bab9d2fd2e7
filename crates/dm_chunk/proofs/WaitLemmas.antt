-- Each byte of framing leaves less of it to come.
use Rattle.std.proofs.Common.{◌≡◌, ℕ, zero, suc, ◌+◌, ◌-◌, ◌*◌, ◌<◌, ◌≤◌, Bool, true, false, ◌&&◌, cond, ltb, eqb, ◌^◌, refl, sym, arith}
use Rattle.std.proofs.lemmas.Bool.{ltb-true, ltb-false, false≢true}
use Rattle.std.specs.Char.{digit_value}
use Rattle.dm_types.specs.Bytes.{is_blank}
use Rattle.dm_chunk.specs.Bytes.{is_hex}
use Rattle.dm_chunk.specs.Machine.{spend, digit_taken, no_digit, behind_size, opened, data_goes, after, is_stop}
use Rattle.dm_chunk.specs.Waits.{framing_from}
use Rattle.dm_chunk.specs.declared.place.Place.{Place}
use Rattle.dm_chunk.specs.declared.place.Place.TheVariants.{Digits, Blanks, Extension, LineEnd, Data, DataEnd, TrailerStart, Trailer, TrailerEnd, LastEnd, Done, Broken}
use Rattle.dm_chunk.proofs.ListLemmas.{both_true}

if_less : (x : Bool) (p q : Place) (most : ℕ) → (x ≡ true → framing_from p < most) → (x ≡ false → framing_from q < most) → framing_from (cond x p q) < most
if_less true p q most on off = on refl
if_less false p q most on off = off refl

spend_less : (spare count most : ℕ) (place : ℕ → Place) → 0 < most → (count ≤ spare → framing_from (place (spare - count)) < most)
    → framing_from (spend spare count place) < most
spend_less spare count most place some less =
    if_less (ltb spare count) Broken (place (spare - count)) most (λ _. some) (λ h. less (ltb-false spare count h))

digit_less : (count size digit : ℕ) → framing_from (digit_taken count size digit) < 81914 + (15 - count)
digit_less count size digit =
    if_less (ltb count 15 && ltb size (2 ^ 60)) (Digits (count + 1) (16 * size + digit)) Broken (81914 + (15 - count))
    (λ h. let below = ltb-true count 15 (both_true (ltb count 15) (ltb size (2 ^ 60)) h).0 in omega arith)
    (λ _. omega arith)

behind_less : (size spare b : ℕ) → framing_from (behind_size size spare b) < 65532 + spare
behind_less size spare b =
    if_less (eqb b 13) (LineEnd size) _ (65532 + spare) (λ _. omega arith) (λ _.
    if_less (is_blank b) (spend spare 1 (Blanks size)) _ (65532 + spare) (λ _. spend_less spare 1 (65532 + spare) (Blanks size) (omega arith) (λ h. omega arith)) (λ _.
    if_less (eqb b 59) (spend spare 1 (Extension size)) Broken (65532 + spare) (λ _. spend_less spare 1 (65532 + spare) (Extension size) (omega arith) (λ h. omega arith)) (λ _. omega arith)))

opened_less : (size : ℕ) → framing_from (opened size) < 65531
opened_less zero = omega arith
opened_less (suc size) = omega arith

data_less : (left b : ℕ) → is_stop (Data left) ≡ false → framing_from (data_goes left b) < framing_from (Data left)
data_less zero b h = if_less (eqb b 13) DataEnd Broken 81931 (λ _. omega arith) (λ _. omega arith)
data_less (suc left) b h = absurd (false≢true (sym h))

pub falls : (p : Place) (b : ℕ) → is_stop p ≡ false → framing_from (after p b) < framing_from p
falls (Digits count size) b h =
    if_less (is_hex b) (digit_taken count size (digit_value b)) (no_digit count size b) (81914 + (15 - count))
    (λ _. digit_less count size (digit_value b))
    (λ _. if_less (eqb count 0) Broken (behind_size size (16382 - count) b) (81914 + (15 - count)) (λ _. omega arith)
    (λ _. let less = behind_less size (16382 - count) b in omega arith))
falls (Blanks size spare) b h = behind_less size spare b
falls (Extension size spare) b h =
    if_less (eqb b 13) (LineEnd size) _ (65532 + spare) (λ _. omega arith) (λ _.
    if_less (eqb b 10) Broken (spend spare 1 (Extension size)) (65532 + spare) (λ _. omega arith) (λ _. spend_less spare 1 (65532 + spare) (Extension size) (omega arith) (λ g. omega arith)))
falls (LineEnd size) b h = if_less (eqb b 10) (opened size) Broken 65531 (λ _. opened_less size) (λ _. omega arith)
falls (Data left) b h = data_less left b h
falls DataEnd b h = if_less (eqb b 10) (Digits 0 0) Broken 81930 (λ _. omega arith) (λ _. omega arith)
falls (TrailerStart spare) b h =
    if_less (eqb b 13) (LastEnd spare) (spend spare 3 Trailer) (4 * spare + 2) (λ _. omega arith) (λ _. spend_less spare 3 (4 * spare + 2) Trailer (omega arith) (λ g. omega arith))
falls (Trailer spare) b h =
    if_less (eqb b 13) (TrailerEnd spare) (spend spare 1 Trailer) (4 * spare + 4) (λ _. omega arith) (λ _. spend_less spare 1 (4 * spare + 4) Trailer (omega arith) (λ g. omega arith))
falls (TrailerEnd spare) b h =
    if_less (eqb b 10) (TrailerStart spare) _ (4 * spare + 3) (λ _. omega arith) (λ _.
    if_less (eqb b 13) (spend spare 1 TrailerEnd) (spend spare 2 Trailer) (4 * spare + 3)
    (λ _. spend_less spare 1 (4 * spare + 3) TrailerEnd (omega arith) (λ g. omega arith)) (λ _. spend_less spare 2 (4 * spare + 3) Trailer (omega arith) (λ g. omega arith)))
falls (LastEnd spare) b h =
    if_less (eqb b 10) Done _ (4 * spare + 1) (λ _. omega arith) (λ _.
    if_less (eqb b 13) (spend spare 3 TrailerEnd) (spend spare 4 Trailer) (4 * spare + 1)
    (λ _. spend_less spare 3 (4 * spare + 1) TrailerEnd (omega arith) (λ g. omega arith)) (λ _. spend_less spare 4 (4 * spare + 1) Trailer (omega arith) (λ g. omega arith)))
falls Done b h = absurd (false≢true (sym h))
falls Broken b h = absurd (false≢true (sym h))
