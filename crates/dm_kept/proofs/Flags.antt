-- What is asked for only of a good disk.
use Rattle.std.proofs.Common.{Bool, true, false}
use Rattle.dm_kept.specs.Files.{IfGood}

pub if_map : (good : Bool) (P Q : Type 0) → (P → Q) → IfGood good P → IfGood good Q
if_map true P Q leads is = leads is
if_map false P Q leads is = tt

pub if_two : (good : Bool) (P Q R : Type 0) → (P → Q → R) → IfGood good P → IfGood good Q → IfGood good R
if_two true P Q R leads p q = leads p q
if_two false P Q R leads p q = tt

pub if_is : (good : Bool) (P : Type 0) → P → IfGood good P
if_is true P is = is
if_is false P is = tt

-- of a disk that isn't good nothing is asked for
pub if_not : (P : Type 0) → IfGood false P
if_not P = tt
