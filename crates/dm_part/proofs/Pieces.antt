-- A digest takes in a file piece by piece.
use Rattle.std.proofs.Common.{◌≡◌, ℕ, ◌+◌, ◌<◌, ◌≤◌, List, ◌++◌, length, take, drop, sym, ◌∙◌, ap, arith, ⊎_elim, length-drop, length-take}
use Rattle.std.proofs.lemmas.Bool.{cases_lt}
use Rattle.std.proofs.lemmas.List.{drop-take, take-append-drop, take-take, length-take-le}
use Rattle.dm_disk_model.specs.Disk.{Reads}

-- the first at + count bytes are the first, and as many behind them
take_more : (xs : List ℕ) (at count : ℕ) → take (at + count) xs ≡ take at xs ++ take count (drop at xs)
take_more xs at count =
    let whole = take-append-drop at (take (at + count) xs) in
    sym (rw (take-take at (at + count) xs (omega arith), drop-take at count xs) at whole)

pub piece_is : (file buffer : List ℕ) (at n count : ℕ) → Reads file at n buffer → count ≤ n → take (at + count) file ≡ take at file ++ take count buffer
piece_is file buffer at n count reads few =
    let mine : take count (take n buffer) ≡ take count buffer = take-take count n buffer few in
    let its : take count (take n (drop at file)) ≡ take count (drop at file) = take-take count n (drop at file) few in
    let same : take count buffer ≡ take count (drop at file) = sym mine ∙ ap (take count) reads.bytes ∙ its in
    take_more file at count ∙ ap (λ (piece : List ℕ). take at file ++ piece) (sym same)

-- as many bytes as were read stand there
read_within : (file buffer : List ℕ) (at n : ℕ) → Reads file at n buffer → n ≤ length buffer → n ≤ length (drop at file)
read_within file buffer at n reads fits =
    let mine : length (take n buffer) ≡ n = length-take-le n buffer fits in
    ⊎_elim
    (λ (more : length (drop at file) < n). omega (arith, mine, ap length reads.bytes, length-take n (drop at file)))
    (λ (few : n ≤ length (drop at file)). few)
    (cases_lt (length (drop at file)) n)

pub piece_within : (file buffer : List ℕ) (at n count : ℕ) → Reads file at n buffer → n ≤ length buffer → count ≤ n → at ≤ length file → at + count ≤ length file
piece_within file buffer at n count reads fits few within = omega (arith, read_within file buffer at n reads fits, length-drop at file)

-- nothing was read: the file ends there
pub piece_none : (file buffer : List ℕ) (at n : ℕ) → Reads file at n buffer → 0 < length buffer → at ≤ length file → n ≡ 0 → length file ≡ at
piece_none file buffer at n reads room within none =
    ⊎_elim
    (λ (more : at < length file). absurd (omega (arith, reads.some room more)))
    (λ (end : length file ≤ at). omega arith)
    (cases_lt at (length file))
