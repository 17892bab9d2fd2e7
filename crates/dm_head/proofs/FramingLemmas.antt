-- No framing without a transfer coding.
use Rattle.std.specs.Prelude.{codes}
use Rattle.std.proofs.Common.{◌≡◌, ℕ, List, [], subst, sym, All, IfNone, Option, ap, length, arith}
use Rattle.std.proofs.lemmas.List.Elements.{All-nil}
use Rattle.dm_tag.specs.Length.{IsLength}
use Rattle.dm_edge.specs.declared.framing.Framing.{Framing}
use Rattle.dm_edge.specs.declared.framing.Framing.TheVariants.{Chunked, Counted, ToEnd}
use Rattle.dm_edge.specs.Fields.{NameAndValue, values_of, FramedBy, IsUnframeable}
use Rattle.dm_head.specs.declared.lengths.ToldLength.{ToldLength}
use Rattle.dm_head.specs.declared.lengths.ToldLength.TheVariants as told
use Rattle.dm_head.specs.Values.{Tells}
use Rattle.dm_head.specs.Whole.{framing_by}

unreadable : (minor : ℕ) (fields : List NameAndValue) → values_of (codes "transfer-encoding") fields ≡ []
    → Tells (values_of (codes "content-length") fields) told.Unreadable → (framing : Framing) → FramedBy minor fields framing → ⊥
unreadable minor fields uncoded tells Chunked is = absurd (omega (arith, ap length is.only, ap length uncoded))
unreadable minor fields uncoded tells (Counted count) is = tells count is.agree
unreadable minor fields uncoded tells ToEnd is =
    tells 0 (subst (λ (values : List (List ℕ)). All (λ v. IsLength v 0) values) (sym is.uncounted) (All-nil (λ v. IsLength v 0)))

none_by : (minor : ℕ) (fields : List NameAndValue) (length_told : ToldLength) → values_of (codes "transfer-encoding") fields ≡ []
    → Tells (values_of (codes "content-length") fields) length_told → IfNone (framing_by length_told) (IsUnframeable minor fields)
none_by minor fields told.Absent uncoded tells = tt
none_by minor fields (told.Count count) uncoded tells = tt
none_by minor fields told.Unreadable uncoded tells = unreadable minor fields uncoded tells

-- where no framing is found, there is none
pub none_found : (minor : ℕ) (fields : List NameAndValue) (length_told : ToldLength) (found : Option Framing) → found ≡ framing_by length_told
    → values_of (codes "transfer-encoding") fields ≡ []
    → Tells (values_of (codes "content-length") fields) length_told → IfNone found (IsUnframeable minor fields)
none_found minor fields length_told found is uncoded tells =
    subst (λ (f : Option Framing). IfNone f (IsUnframeable minor fields)) (sym is) (none_by minor fields length_told uncoded tells)
