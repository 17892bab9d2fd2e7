-- The rules of what is said with a command.
use Rattle.std.specs.Prelude.{◌≡◌, ◌⊎◌, ℕ, ◌<◌, ◌≤◌, ◌^◌, Bool, not, ◌||◌, ◌==◌, List, length, codes, Option, Some, None, IsTrue, Ok}
use Rattle.std.specs.List.{list_all}
use Rattle.std.specs.Char.{is_ascii_alphanumeric}
use Rattle.std.specs.Str.{IsUtf8}
use Rattle.std.specs.Str.Parse.{IsNumeral, digits_value}
use Rattle.hex.specs.Hex.{decode_sized}

-- a letter, a digit, a dot, an underscore or a hyphen
abbrev pub is_word_byte : ℕ → Bool
is_word_byte b = is_ascii_alphanumeric b || b == 46 || b == 95 || b == 45

-- what the user calls an item: 1 to 64 letters, digits, dots, underscores and hyphens
pub record IsWord (word : List ℕ) : Type 0 where
  pub filled : 0 < length word
  pub short : length word ≤ 64
  pub each : IsTrue (list_all is_word_byte word)

-- what a file is to be named: 1 to 255 bytes of UTF-8
pub record IsName (name : List ℕ) : Type 0 where
  pub filled : 0 < length name
  pub short : length name ≤ 255
  pub text : IsUtf8 name

-- 64 hexadecimal digits, of either case: two for each of the 32 bytes
abbrev pub IsDigest : List ℕ → List ℕ → Type 0
IsDigest digits digest = decode_sized digits 32 ≡ Ok digest

-- a digest is there where its digits are, and is theirs
abbrev pub IsDigestOf : Option (List ℕ) → Option (List ℕ) → Type 0
IsDigestOf None None = Unit {0}
IsDigestOf None (Some digest) = ⊥
IsDigestOf (Some digits) None = ⊥
IsDigestOf (Some digits) (Some digest) = IsDigest digits digest

-- 1 to 10 decimal digits, leading zeros allowed, and at most 4,294,967,295
pub record IsNumber (digits : List ℕ) (number : ℕ) : Type 0 where
  pub numeral : IsNumeral 10 digits
  pub short : length digits ≤ 10
  pub value : number ≡ digits_value 10 digits
  pub fits : number < 2 ^ 32

-- a number of 1 to so many
pub record IsUpTo (most : ℕ) (digits : List ℕ) (number : ℕ) : Type 0 where
  pub is_number : IsNumber digits number
  pub some : 1 ≤ number
  pub few : number ≤ most

-- in how many slices the content is asked for: 1 to 16, and one where nothing is said
abbrev pub IsSlices : Option (List ℕ) → ℕ → Type 0
IsSlices None slices = slices ≡ 1
IsSlices (Some digits) slices = IsUpTo 16 digits slices

-- neither a slash nor the byte 0
abbrev pub is_file_byte : ℕ → Bool
is_file_byte b = not (b == 47 || b == 0)

-- `.` or `..`, which are folders
abbrev pub AreDots : List ℕ → Type 0
AreDots name = (name ≡ codes ".") ⊎ (name ≡ codes "..")

-- the name of a file in the folder of files: such a name with no slash and no byte 0, which is neither `.` nor `..`
pub record IsFileName (name : List ℕ) : Type 0 where
  pub is_name : IsName name
  pub each : IsTrue (list_all is_file_byte name)
  pub no_dots : AreDots name → ⊥

-- behind which row: behind none, where nothing is said
abbrev pub IsAfter : Option (List ℕ) → ℕ → Type 0
IsAfter None after = after ≡ 0
IsAfter (Some digits) after = IsNumber digits after

-- how many rows at most: 1 to 100, and 50 where nothing is said
abbrev pub IsLimit : Option (List ℕ) → ℕ → Type 0
IsLimit None limit = limit ≡ 50
IsLimit (Some digits) limit = IsUpTo 100 digits limit

-- the port: 1 to 65535, and 8765 where nothing is said
abbrev pub IsPort : Option (List ℕ) → ℕ → Type 0
IsPort None port = port ≡ 8765
IsPort (Some digits) port = IsUpTo 65535 digits port

-- how many workers bring items meanwhile: none so far
abbrev pub IsWorkers : Option (List ℕ) → Type 0
IsWorkers None = Unit {0}
IsWorkers (Some digits) = IsNumber digits 0
