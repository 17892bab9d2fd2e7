-- No value reads in two ways.
use Rattle.std.specs.Prelude.{◌≡◌, ℕ, Bool, List}
use Rattle.dm_tag.specs.Tag.{IsTag}
use Rattle.dm_tag.specs.Range.{IsContentRange}
use Rattle.dm_tag.specs.Length.{IsLength}
use Rattle.dm_tag.specs.declared.range.ContentRange.{ContentRange}

-- a value is one tag at most
abbrev pub OneTag : Type 0
OneTag = (value : List ℕ) (weak other_weak : Bool) (opaque other : List ℕ) → IsTag value weak opaque → IsTag value other_weak other → (weak ≡ other_weak) × (opaque ≡ other)

-- a value is one content range at most
abbrev pub OneRange : Type 0
OneRange = (value : List ℕ) (range other : ContentRange) → IsContentRange value range → IsContentRange value other → range ≡ other

-- a value tells one length at most
abbrev pub OneLength : Type 0
OneLength = (value : List ℕ) (n other : ℕ) → IsLength value n → IsLength value other → n ≡ other
