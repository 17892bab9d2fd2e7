-- The decoder's places, byte by byte.
use Rattle.std.specs.Prelude.{ℕ, ◌+◌, ◌-◌, ◌*◌, ◌^◌, zero, suc, Bool, true, false, ◌&&◌, ◌==◌, nat_lt, if◌then◌else◌, List, [], ◌∷◌, ◌++◌}
use Rattle.std.specs.Char.{digit_value}
use Rattle.dm_types.specs.Bytes.{is_blank}
use Rattle.dm_chunk.specs.Bytes.{is_hex}
use Rattle.dm_chunk.specs.declared.place.Place.{Place}
use Rattle.dm_chunk.specs.declared.place.Place.TheVariants.{Digits, Blanks, Extension, LineEnd, Data, DataEnd, TrailerStart, Trailer, TrailerEnd, LastEnd, Done, Broken}

-- so many bytes are spent of those to spare, where they are there
abbrev pub spend : ℕ → ℕ → (ℕ → Place) → Place
spend spare count place = if nat_lt spare count then Broken else place (spare - count)

-- a digit of this value in a size that has so many before it
abbrev pub digit_taken : ℕ → ℕ → ℕ → Place
digit_taken count size digit = if nat_lt count 15 && nat_lt size (2 ^ 60) then Digits (count + 1) (16 * size + digit) else Broken

-- behind a size, or behind blanks
abbrev pub behind_size : ℕ → ℕ → ℕ → Place
behind_size size spare b = if b == 13 then LineEnd size else (if is_blank b then spend spare 1 (Blanks size) else (if b == 59 then spend spare 1 (Extension size) else Broken))

-- and another byte, behind so many digits
abbrev pub no_digit : ℕ → ℕ → ℕ → Place
no_digit count size b = if count == 0 then Broken else behind_size size (16382 - count) b

-- behind a chunk line
abbrev pub opened : ℕ → Place
opened zero = TrailerStart 16382
opened (suc size) = Data (suc size)

abbrev pub data_goes : ℕ → ℕ → Place
data_goes zero b = if b == 13 then DataEnd else Broken
data_goes (suc left) b = Data left

-- where the decoder stands after one byte more
abbrev pub after : Place → ℕ → Place
after (Digits count size) b = if is_hex b then digit_taken count size (digit_value b) else no_digit count size b
after (Blanks size spare) b = behind_size size spare b
after (Extension size spare) b = if b == 13 then LineEnd size else (if b == 10 then Broken else spend spare 1 (Extension size))
after (LineEnd size) b = if b == 10 then opened size else Broken
after (Data left) b = data_goes left b
after DataEnd b = if b == 10 then Digits 0 0 else Broken
after (TrailerStart spare) b = if b == 13 then LastEnd spare else spend spare 3 Trailer
after (Trailer spare) b = if b == 13 then TrailerEnd spare else spend spare 1 Trailer
after (TrailerEnd spare) b = if b == 10 then TrailerStart spare else (if b == 13 then spend spare 1 TrailerEnd else spend spare 2 Trailer)
after (LastEnd spare) b = if b == 10 then Done else (if b == 13 then spend spare 3 TrailerEnd else spend spare 4 Trailer)
after Done b = Broken
after Broken b = Broken

abbrev pub data_brings : ℕ → ℕ → List ℕ
data_brings zero b = []
data_brings (suc left) b = b ∷ []

-- the data that the byte is
abbrev pub brings : Place → ℕ → List ℕ
brings (Digits count size) b = []
brings (Blanks size spare) b = []
brings (Extension size spare) b = []
brings (LineEnd size) b = []
brings (Data left) b = data_brings left b
brings DataEnd b = []
brings (TrailerStart spare) b = []
brings (Trailer spare) b = []
brings (TrailerEnd spare) b = []
brings (LastEnd spare) b = []
brings Done b = []
brings Broken b = []

-- where the decoder stands after these bytes
unfoldable pub run : Place → List ℕ → Place
run p [] = p
run p (b ∷ bytes) = run (after p b) bytes

-- and the data among them
unfoldable pub data_in : Place → List ℕ → List ℕ
data_in p [] = []
data_in p (b ∷ bytes) = brings p b ++ data_in (after p b) bytes

abbrev pub is_data : ℕ → Bool
is_data zero = false
is_data (suc left) = true

-- data stands here, or nothing more is read
abbrev pub is_stop : Place → Bool
is_stop (Digits count size) = false
is_stop (Blanks size spare) = false
is_stop (Extension size spare) = false
is_stop (LineEnd size) = false
is_stop (Data left) = is_data left
is_stop DataEnd = false
is_stop (TrailerStart spare) = false
is_stop (Trailer spare) = false
is_stop (TrailerEnd spare) = false
is_stop (LastEnd spare) = false
is_stop Done = true
is_stop Broken = true
