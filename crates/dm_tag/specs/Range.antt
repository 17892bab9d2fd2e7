-- Content-Range (RFC 9110, section 14.4), for the unit bytes alone.
use Rattle.std.specs.Prelude.{◌≡◌, ℕ, ◌<◌, ◌≤◌, Option, Some, None, IfSome, List, ◌∷◌, ◌++◌, map, codes}
use Rattle.std.specs.Char.{to_ascii_lowercase}
use Rattle.dm_tag.specs.Number.{IsNumber}
use Rattle.dm_tag.specs.declared.range.ContentRange.{ContentRange}
use Rattle.dm_tag.specs.declared.range.ContentRange.TheVariants.{Part, Unsatisfied}

-- complete-length, or `*` where it isn't told
abbrev pub IsTotal : List ℕ → Option ℕ → Type 0
IsTotal text None = text ≡ codes "*"
IsTotal text (Some total) = IsNumber text total

-- range-resp = first-pos "-" last-pos "/" ( complete-length / "*" ), where last isn't below first and total is above last
pub record IsPart (text : List ℕ) (first last : ℕ) (total : Option ℕ) : Type 0 where
  pub first_text : List ℕ
  pub last_text : List ℕ
  pub total_text : List ℕ
  pub is_first : IsNumber first_text first
  pub is_last : IsNumber last_text last
  pub is_total : IsTotal total_text total
  pub parts : text ≡ first_text ++ 45 ∷ (last_text ++ 47 ∷ total_text)
  pub in_order : first ≤ last
  pub below : IfSome total (λ t. last < t)

-- unsatisfied-range = "*/" complete-length
pub record IsUnsatisfied (text : List ℕ) (total : ℕ) : Type 0 where
  pub total_text : List ℕ
  pub is_total : IsNumber total_text total
  pub parts : text ≡ 42 ∷ 47 ∷ total_text

abbrev pub IsRange : List ℕ → ContentRange → Type 0
IsRange text (Part first last total) = IsPart text first last total
IsRange text (Unsatisfied total) = IsUnsatisfied text total

-- Content-Range = range-unit SP ( range-resp / unsatisfied-range ), where the unit is `bytes` in any case
pub record IsContentRange (value : List ℕ) (range : ContentRange) : Type 0 where
  pub unit : List ℕ
  pub text : List ℕ
  pub parts : value ≡ unit ++ 32 ∷ text
  pub bytes : map to_ascii_lowercase unit ≡ codes "bytes"
  pub is_range : IsRange text range
