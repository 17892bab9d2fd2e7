-- Which names stand for a file of a folder, and so never lead out of it.
use Rattle.std.specs.Prelude.{◌≢◌, ℕ, List, [], ◌∷◌, Contains}

-- not empty, not `.` or `..`, and without a slash
pub record IsFileName (name : List ℕ) : Type 0 where
  pub some : name ≢ []
  pub not_here : name ≢ 46 ∷ []
  pub not_above : name ≢ 46 ∷ 46 ∷ []
  pub no_slash : ¬ Contains name 47
