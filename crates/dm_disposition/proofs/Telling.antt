-- A value that is refused tells nothing.
use Rattle.std.proofs.Common.{◌≢◌, ℕ, List, Err, refl}
use Rattle.dm_disposition.specs.Grammar.{Field, Spells}
use Rattle.dm_disposition.specs.Read.{Answers, IsTold}
use Rattle.dm_disposition.specs.declared.Disposition.{Disposition}
use Rattle.dm_disposition.specs.declared.DispFault.{DispFault}
use Rattle.dm_disposition.specs.declared.DispFault.TheVariants.{NotGrammar, Repeated, NoMemory}
use Rattle.dm_disposition.proofs.NameLemmas.{apart_alone}

pub tells_none : (value : List ℕ) (fault : DispFault) → fault ≢ NoMemory → ((field : Field) → Spells field value → Answers field (Err fault))
    → (told : Disposition) → IsTold value told → ⊥
tells_none value (NotGrammar n) other answers told is = answers is.field is.spells
tells_none value (Repeated place) other answers told is = apart_alone _ place is.answers.apart (answers is.field is.spells)
tells_none value NoMemory other answers told is = other refl
