-- The asked part of a head: it is one, its places fit, and what it tells keeps the limit.
use Rattle.std.specs.Prelude.{codes}
use Rattle.std.proofs.Common.{◌≡◌, ℕ, suc, ◌+◌, ◌-◌, ◌^◌, ◌<◌, ◌≤◌, inl, inr, ◌⊎◌, List, [], ◌∷◌, length, refl, sym, ap, ◌∙◌, subst, arith, Option, Some, None, IfSome, IfNone}
use Rattle.std.proofs.Math.Nat.{pow-le-pow_right}
use Rattle.dm_tag.specs.declared.range.ContentRange.{ContentRange}
use Rattle.dm_tag.specs.declared.range.ContentRange.TheVariants as range
use Rattle.dm_tag.specs.Number.{decimal, IsNumber}
use Rattle.dm_tag.specs.Range.{IsContentRange}
use Rattle.dm_tag.proofs.DigitLemmas.{decimal_below}
use Rattle.dm_tag.proofs.OneLemmas.{content_range_one}
use Rattle.dm_edge.specs.declared.framing.Framing.{Framing}
use Rattle.dm_edge.specs.declared.framing.Framing.TheVariants.{Chunked, Counted, ToEnd}
use Rattle.dm_edge.specs.declared.wanted.Wanted.{Wanted}
use Rattle.dm_edge.specs.declared.wanted.Wanted.TheVariants.{Whole, Part}
use Rattle.dm_edge.specs.Fields.{NameAndValue, values_of}
use Rattle.dm_edge.specs.Metadata.{HasStrong}
use Rattle.dm_edge.specs.Part.{NamesPart, IsAskedPart, part_size, FitsSize, told_whole}
use Rattle.dm_edge.specs.Begins.{most_content, KeepsLimit, Fits, IsFittingPart, TellsWhole, told_total}
use Rattle.dm_head.specs.declared.part.Extent.{Extent}
use Rattle.dm_head.specs.Fit.{IsPlace, IsExtent, IsWithinLimit}

-- ---- places

number_fits : (digits : List ℕ) (n : ℕ) → IsNumber digits n → n < 2 ^ 64 - 1
number_fits digits n is =
    let least : 0 < 10 = omega arith in
    let most = pow-le-pow_right {n = 10} least {i = length digits} {j = 19} is.most in
    omega (arith, decimal_below digits is.each, is.value)

-- the places of a part are in order, and fit
pub place_of : (value : List ℕ) (first to : ℕ) (total : Option ℕ) → IsContentRange value (range.Part first to total) → IsPlace first to
place_of value first to total is = record { order = is.is_range.in_order; fits = number_fits is.is_range.last_text to is.is_range.is_last }

-- a value that says something else names no part
pub unsatisfied_no_part : (value : List ℕ) (whole first to : ℕ) (total : Option ℕ) → IsContentRange value (range.Unsatisfied whole)
    → IsContentRange value (range.Part first to total) → ⊥
unsatisfied_no_part value whole first to total x y =
    let e = content_range_one value (range.Unsatisfied whole) (range.Part first to total) x y in absurd cc

-- ---- one part

same_value : (values : List (List ℕ)) (x y : List ℕ) → values ≡ x ∷ [] → values ≡ y ∷ [] → x ≡ y
same_value values x y p q = cc

-- two parts that one head names are the same
pub record SamePart (first to : ℕ) (total : Option ℕ) (other_first other_to : ℕ) (other_total : Option ℕ) : Type 0 where
  pub first_is : first ≡ other_first
  pub to_is : to ≡ other_to
  pub total_is : total ≡ other_total

pub one_named : {fields : List NameAndValue} {first to other_first other_to : ℕ} {total other_total : Option ℕ} → NamesPart fields first to total
    → NamesPart fields other_first other_to other_total → SamePart first to total other_first other_to other_total
one_named {fields} {first} {to} {other_first} {other_to} {total} {other_total} x y =
    let value = same_value (values_of (codes "content-range") fields) x.value y.value x.only y.only in
    let e = content_range_one y.value (range.Part first to total) (range.Part other_first other_to other_total)
    (subst (λ (v : List ℕ). IsContentRange v (range.Part first to total)) value x.reads) y.reads in
    record { first_is = cc; to_is = cc; total_is = cc }

-- a value that no part is named by leaves no part
pub none_by : {A P Q : Type 0} (o : Option A) → (P → Q) → IfNone o P → IfNone o Q
none_by None by is = by is
none_by (Some x) by is = tt

pub named_is : {fields : List NameAndValue} {first to : ℕ} {total : Option ℕ} → (names : NamesPart fields first to total) → (value : List ℕ)
    → values_of (codes "content-range") fields ≡ value ∷ [] → IsContentRange value (range.Part first to total)
named_is {fields} {first} {to} {total} names value only =
    subst (λ (v : List ℕ). IsContentRange v (range.Part first to total))
    (same_value (values_of (codes "content-range") fields) names.value value names.only only) names.reads

pub one_part : {first last known to other : ℕ} {tag : List ℕ} {fields : List NameAndValue} {total other_total : Option ℕ}
    → IsAskedPart first last tag known fields to total → IsAskedPart first last tag known fields other other_total
    → SamePart first to total first other other_total
one_part x y = one_named x.names y.names

-- a head has one strong tag
pub same_tag : (fields : List NameAndValue) (x y : List ℕ) → HasStrong fields x → HasStrong fields y → x ≡ y
same_tag fields x y p q = same_value (values_of (codes "etag") fields) x y p.only q.only

-- ---- limits

-- a part's last place is below what it tells of the whole
below_whole : (first to : ℕ) (total : Option ℕ) (value : List ℕ) → IsContentRange value (range.Part first to total) → to + 1 ≤ told_whole to total
below_whole first to None value is = omega arith
below_whole first to (Some total) value is = let below = is.is_range.below in omega (arith, below)

keeps_sized : (framing : Framing) (size : ℕ) → FitsSize size framing → size ≤ most_content → KeepsLimit framing
keeps_sized Chunked size fits limit = tt
keeps_sized (Counted count) size fits limit = omega (arith, fits, limit)
keeps_sized ToEnd size fits limit = tt

pub fitting_in : {first last known : ℕ} {tag : List ℕ} {fields : List NameAndValue} {framing : Framing}
    → (f : IsFittingPart first last tag known fields framing) → (first ≤ f.to) × (f.to < most_content)
fitting_in {first} f =
    let below = below_whole first f.to f.total f.asked.names.value f.asked.names.reads in
    let order = f.asked.names.reads.is_range.in_order in
    (order, omega (arith, below, f.limit))

-- the wanted content keeps the limit
pub keeps_limit : (wanted : Wanted) (fields : List NameAndValue) (framing : Framing) → Fits wanted fields framing → KeepsLimit framing
keeps_limit Whole fields framing fits = fits
keeps_limit (Part first last tag known) fields framing fits =
    let in_limit = fitting_in fits in
    keeps_sized framing (part_size first fits.to) fits.size (omega (arith, in_limit.0, in_limit.1))

total_in : (to : ℕ) (total : Option ℕ) → told_whole to total ≤ most_content → IfSome total (λ n. n ≤ most_content)
total_in to None limit = tt
total_in to (Some total) limit = limit

told_in : (framing : Framing) → KeepsLimit framing → IfSome (told_total framing) (λ n. n ≤ most_content)
told_in Chunked limit = tt
told_in (Counted count) limit = limit
told_in ToEnd limit = tt

-- and so do its places
pub in_limit : (wanted : Wanted) (fields : List NameAndValue) (framing : Framing) (extent : Extent) → Fits wanted fields framing
    → IsExtent wanted fields framing extent → IsWithinLimit extent
in_limit Whole fields framing extent fits is =
    subst IsWithinLimit (sym is) (record { last = tt; total = told_in framing fits })
in_limit (Part first last tag known) fields framing extent fits is =
    let same = one_part is.asked fits.asked in
    let places = fitting_in fits in
    record {
      last = subst (λ (o : Option ℕ). IfSome o (λ to. (extent.first ≤ to) × (to < most_content))) (sym is.last_is)
          (omega (arith, same.to_is, places.0, is.first_is), omega (arith, same.to_is, places.1));
      total = subst (λ (o : Option ℕ). IfSome o (λ n. n ≤ most_content)) (sym same.total_is) (total_in fits.to fits.total fits.limit);
    }
