-- A value that is there.
use Rattle.std.proofs.Common.{◌≡◌, true, Option, Some, None, refl}
use Rattle.std.specs.Prelude.{is_some}
use Rattle.std.proofs.lemmas.Bool.{false≢true}

pub record There {A : Type 0} (found : Option A) : Type 0 where
  pub it : A
  pub is : found ≡ Some it

pub there_is : {A : Type 0} (found : Option A) → is_some found ≡ true → There found
there_is None some = absurd (false≢true some)
there_is (Some it) some = record { it = it; is = refl }
