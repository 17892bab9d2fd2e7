-- The net told its origin.
use Rattle.std.proofs.Common.{◌≡◌, subst}
use Rattle.dm_kept.specs.Files.{Says}

pub at_origin : {O : Type 0} (says : O → Says) (P : Says → Type 0) (told origin : O) → told ≡ origin → P (says told) → P (says origin)
at_origin {O = O} says P told origin same is = subst (λ (o : O). P (says o)) same is
