-- The rules of values, where what is read may be absent.
use Rattle.std.proofs.Common.{◌≡◌, ℕ, List, Option, Some, None, refl}
use Rattle.dm_words.specs.Values.{IsAfter, IsDigestOf, IsLimit, IsNumber, IsPort, IsSlices}

-- digits have one digest
pub one_digest : (digits first second : Option (List ℕ)) → IsDigestOf digits first → IsDigestOf digits second → first ≡ second
one_digest None None None is other = refl
one_digest None None (Some d) is other = absurd other
one_digest None (Some d) second is other = absurd is
one_digest (Some digits) None second is other = absurd is
one_digest (Some digits) (Some d) None is other = absurd other
one_digest (Some digits) (Some d) (Some e) is other = cc

pub one_number : (digits : List ℕ) (first second : ℕ) → IsNumber digits first → IsNumber digits second → first ≡ second
one_number digits first second is other = cc (is.value, other.value)

pub one_slices : (digits : Option (List ℕ)) (first second : ℕ) → IsSlices digits first → IsSlices digits second → first ≡ second
one_slices None first second is other = cc
one_slices (Some digits) first second is other = one_number digits first second is.is_number other.is_number

pub one_after : (digits : Option (List ℕ)) (first second : ℕ) → IsAfter digits first → IsAfter digits second → first ≡ second
one_after None first second is other = cc
one_after (Some digits) first second is other = one_number digits first second is other

pub one_limit : (digits : Option (List ℕ)) (first second : ℕ) → IsLimit digits first → IsLimit digits second → first ≡ second
one_limit None first second is other = cc
one_limit (Some digits) first second is other = one_number digits first second is.is_number other.is_number

pub one_port : (digits : Option (List ℕ)) (first second : ℕ) → IsPort digits first → IsPort digits second → first ≡ second
one_port None first second is other = cc
one_port (Some digits) first second is other = one_number digits first second is.is_number other.is_number
