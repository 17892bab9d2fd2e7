-- The names of files: which are taken for one, and which are those of parts.
use Rattle.std.specs.Prelude.{◌≡◌, ℕ, ◌<◌, ◌^◌, List, ◌++◌, map, codes}
use Rattle.std.specs.Char.{to_ascii_lowercase}
use Rattle.std.specs.Fmt.{decimal}

-- the bytes with the capital letters of ASCII made small: two names are taken for one where these agree
abbrev pub fold_case : List ℕ → List ℕ
fold_case bytes = map to_ascii_lowercase bytes

-- what a part's name ends in
abbrev pub part_ending : List ℕ
part_ending = codes ".crdownload"

-- Unconfirmed <id>-<epoch>.crdownload: the part holds content that isn't confirmed yet
abbrev pub part_name : ℕ → ℕ → List ℕ
part_name id epoch = codes "Unconfirmed " ++ decimal id ++ codes "-" ++ decimal epoch ++ part_ending

-- the name of the part of some item in some epoch
pub record IsPart (name : List ℕ) : Type 0 where
  pub id : ℕ
  pub epoch : ℕ
  pub small : (id < 2 ^ 32) × (epoch < 2 ^ 32)
  pub is : name ≡ part_name id epoch
