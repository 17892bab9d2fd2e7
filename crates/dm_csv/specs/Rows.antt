-- What a file tells that is imported: a header, and then a record for each item. Records are read as the `csv` crate reads them: fields between commas, a record in each line, a field between
-- quotes where it holds a comma, a quote, which is doubled there, or a line's end. An empty line is no record, and a byte order mark at the file's start is passed over.
use Rattle.std.specs.Prelude.{◌≡◌, ◌⊎◌, ◌≤◌, ℕ, suc, List, [], ◌∷◌, ◌++◌, length, codes, Option, Some, None}
use Rattle.csv.specs.Reading.{AreRecords, default_config, strip_bom}
use Rattle.csv.specs.declared.parser.State.TheVariants as st
use Rattle.dm_words.specs.Values.{IsDigest, IsName, IsWord}
use Rattle.dm_request.specs.Fault.{IsRead}
use Rattle.dm_csv.specs.declared.row.ImportRow.{ImportRow}
use Rattle.dm_csv.specs.declared.importing.ImportFault.{ImportFault}
use Rattle.dm_csv.specs.declared.importing.ImportFault.TheVariants.{Bad, NoMemory}

abbrev pub import_header : List (List ℕ)
import_header = codes "word" ∷ codes "address" ∷ codes "name" ∷ codes "sha256" ∷ []

-- no name, or one that keeps its rule
abbrev pub IsNameIn : List ℕ → Type 0
IsNameIn name = (name ≡ []) ⊎ IsName name

-- no digits, or 64 of them, which are the digest's
abbrev pub IsDigestIn : List ℕ → Option (List ℕ) → Type 0
IsDigestIn [] None = Unit {0}
IsDigestIn [] (Some digest) = ⊥
IsDigestIn (digit ∷ digits) None = ⊥
IsDigestIn (digit ∷ digits) (Some digest) = IsDigest (digit ∷ digits) digest

-- the values keep the rules of the command line, but that a name and a digest may be empty
pub record AreGood (word name sum : List ℕ) (digest : Option (List ℕ)) : Type 0 where
  pub is_word : IsWord word
  pub is_name : IsNameIn name
  pub is_digest : IsDigestIn sum digest

-- the record's fields are those of this row: a word, an address, a name and the digits of a digest
pub record IsRow (fields : List (List ℕ)) (row : ImportRow) : Type 0 where
  pub address : List ℕ
  pub sum : List ℕ
  pub fields_are : fields ≡ row.word ∷ address ∷ row.wish ∷ sum ∷ []
  pub good : AreGood row.word row.wish sum row.digest
  pub reads : IsRead address row.address
  -- as of every address that is read
  pub short : length row.address.text ≤ 4096

-- each record is the row at its place
abbrev pub AreRows : List (List (List ℕ)) → List ImportRow → Type 0
AreRows [] [] = Unit {0}
AreRows [] (row ∷ rows) = ⊥
AreRows (fields ∷ more) [] = ⊥
AreRows (fields ∷ more) (row ∷ rows) = IsRow fields row × AreRows more rows

-- the records of a file
abbrev pub HasRecords : List ℕ → List (List (List ℕ)) → Type 0
HasRecords bytes all = AreRecords default_config st.StartRecord (strip_bom bytes) all

-- the file has the header, and these rows under it
pub record IsImport (bytes : List ℕ) (rows : List ImportRow) : Type 0 where
  pub under : List (List (List ℕ))
  pub has : HasRecords bytes (import_header ∷ under)
  pub are : AreRows under rows

-- the first records are rows, so many, and the next one is none
pub record IsBadBehind (under : List (List (List ℕ))) (count : ℕ) : Type 0 where
  pub first : List (List (List ℕ))
  pub fields : List (List ℕ)
  pub rest : List (List (List ℕ))
  pub under_are : under ≡ first ++ fields ∷ rest
  pub count_is : length first ≡ count
  pub rows : List ImportRow
  pub are : AreRows first rows
  pub none : (row : ImportRow) → ¬ IsRow fields row

-- of the records under the header the one of this number, counted from 1, is the first that is bad
abbrev pub IsBadUnder : List (List (List ℕ)) → ℕ → Type 0
IsBadUnder under number = (count : ℕ) × (number ≡ suc count) × IsBadBehind under count

-- the header is bad, whose number is 0, or a record under it
abbrev pub IsBadAt : List (List (List ℕ)) → ℕ → Type 0
IsBadAt all number =
    ((number ≡ 0) × ((under : List (List (List ℕ))) → ¬ (all ≡ import_header ∷ under))) ⊎ ((under : List (List (List ℕ))) × (all ≡ import_header ∷ under) × IsBadUnder under number)

-- a file that can't be imported, or memory was wanting
abbrev pub Refuses : List ℕ → ImportFault → Type 0
Refuses bytes (Bad number) = (all : List (List (List ℕ))) × HasRecords bytes all × IsBadAt all number
Refuses bytes NoMemory = Unit {0}
