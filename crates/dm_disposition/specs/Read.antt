-- What a reading of the value makes of the answer.
use Rattle.std.specs.Prelude.{◌≡◌, ℕ, Option, Some, None, Result, Ok, Err, List}
use Rattle.dm_disposition.specs.Grammar.{Field, Spells}
use Rattle.dm_disposition.specs.Names.{named_of, AreApart, IsFirstRepeat}
use Rattle.dm_disposition.specs.Told.{PlainOf, ExtendedOf}
use Rattle.dm_disposition.specs.Fronts.{IsStuckAt}
use Rattle.dm_disposition.specs.declared.Disposition.{Disposition}
use Rattle.dm_disposition.specs.declared.DispFault.{DispFault}
use Rattle.dm_disposition.specs.declared.DispFault.TheVariants.{NotGrammar, Repeated, NoMemory}

-- what a field tells
pub record Tells (field : Field) (told : Disposition) : Type 0 where
  pub apart : AreApart (named_of field)
  pub kind : told.kind ≡ field.kind
  pub plain : PlainOf (named_of field) told.plain
  pub extended : ExtendedOf (named_of field) told.extended

-- the answer to a value that reads as this field
abbrev pub Answers : Field → Result Disposition DispFault → Type 0
Answers field (Ok told) = Tells field told
Answers field (Err (NotGrammar n)) = ⊥
Answers field (Err (Repeated place)) = IsFirstRepeat (named_of field) place
Answers field (Err NoMemory) = Unit {0}

-- what an answer says of the grammar
abbrev pub Judges : List ℕ → Result Disposition DispFault → Type 0
Judges value (Ok told) = (field : Field) × Spells field value
Judges value (Err (NotGrammar n)) = IsStuckAt value n
Judges value (Err (Repeated place)) = (field : Field) × Spells field value
Judges value (Err NoMemory) = Unit {0}

-- some field spells the value, and tells this
pub record IsTold (value : List ℕ) (told : Disposition) : Type 0 where
  pub field : Field
  pub spells : Spells field value
  pub answers : Answers field (Ok told)

-- what is told by a value that may be missing: nothing where it is, or where no field spells it that tells something
abbrev pub ToldBy : Option (List ℕ) → Option Disposition → Type 0
ToldBy None told = told ≡ None
ToldBy (Some value) (Some told) = IsTold value told
ToldBy (Some value) None = (told : Disposition) → IsTold value told → ⊥
