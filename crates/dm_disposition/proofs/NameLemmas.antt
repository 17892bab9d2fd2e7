-- Parameters that are compared by their names.
use Rattle.std.proofs.Common.{◌≡◌, ℕ, zero, suc, ◌+◌, ◌<◌, Bool, true, false, List, [], ◌∷◌, ◌++◌, length, get_or, take, drop, map, MatchBool, Option, Some, None, refl, sym, ap, ◌∙◌, subst, arith}
use Rattle.std.specs.Prelude.{IsTrue, ◌↔◌}
use Rattle.std.specs.List.{HoldsAt, AllWithin, Any, AllByRecursion}
use Rattle.std.specs.Char.{to_ascii_lowercase}
use Rattle.std.proofs.lemmas.List.{get_or_default, take-append-drop, drop_more, take_more, map-append, get_or-map, length-map}
use Rattle.std.proofs.lemmas.Iterator.Search.{true_from_Any}
use Rattle.dm_disposition.specs.Grammar.{Value, IsValue, value_text, Parameter as Spelled, Piece, IsPiece, piece_text, IsOptional, Field, IsField}
use Rattle.dm_disposition.specs.Names.{Named, IsSpelled, SameName, AreApart, IsFirstRepeat, named_here, named_from, named_of}
use Rattle.dm_disposition.specs.Told.{HasText}
use Rattle.dm_disposition.specs.Views.{named}
use Rattle.dm_disposition.specs.declared.notes.Parameter.{Parameter}

some_item : {X : Type 0} (xs : List X) (k : ℕ) → k < length xs → X
some_item [] k lt = absurd (omega arith)
some_item (x ∷ xs) k lt = x

pub any_is : {X : Type 0} (P : X → Type 0) (r : Bool) (xs : List X) → MatchBool r ((k : ℕ) × (k < length xs) × HoldsAt P xs k) (AllWithin (λ x. P x → ⊥) xs 0 (length xs)) → IsTrue r ↔ Any P xs
any_is P true xs h =
    let d = some_item xs h.0 h.1 in
    (λ _. (h.0, get_or xs h.0 d, h.1, get_or_default xs h.0 (get_or xs h.0 d) d h.1, h.2 d), λ _. refl)
any_is P false xs h = (λ e. absurd cc, λ a. true_from_Any P (λ x. P x → ⊥) false xs (λ x p q. q p) h a.1 (a.0, a.2, a.3) a.4)

abbrev pub Has : List ℕ → Parameter → Type 0
Has name p = map to_ascii_lowercase p.name.items ≡ map to_ascii_lowercase name

-- the parameter at a place, seen as a name
named_at : (ps : List Parameter) (k : ℕ) (d : Parameter) (n : Named) → k < length ps → get_or (map named ps) k n ≡ named (get_or ps k d)
named_at ps k d n lt = get_or-map named ps k d n lt

any_named : (ps : List Parameter) (n : Named) → Any (Has n.name) ps → Any (λ m. SameName m n) (map named ps)
any_named ps n a =
    let lt : a.0 < length (map named ps) = omega (arith, length-map ps named, a.2) in
    (a.0, named a.1, lt, named_at ps a.0 a.1 (named a.1) a.2 ∙ ap named a.3, a.4)

named_any : (ps : List Parameter) (n : Named) → Any (λ m. SameName m n) (map named ps) → Any (Has n.name) ps
named_any ps n a =
    let lt : a.0 < length ps = omega (arith, length-map ps named, a.2) in
    let d = some_item ps a.0 lt in
    let p = get_or ps a.0 d in
    let same : named p ≡ a.1 = sym (named_at ps a.0 d a.1 lt) ∙ a.3 in
    (a.0, p, lt, get_or_default ps a.0 p d lt, subst (λ (m : Named). SameName m n) (sym same) a.4)

each_push : (P : Named → Type 0) (ns : List Named) (n : Named) → AllByRecursion P ns → P n → AllByRecursion P (ns ++ n ∷ [])
each_push P [] n h p = (p, tt)
each_push P (m ∷ ns) n h p = (h.0, each_push P ns n h.1 p)

apart_push : (ns : List Named) (n : Named) → AreApart ns → (Any (λ m. SameName m n) ns → ⊥) → AreApart (ns ++ n ∷ [])
apart_push [] n h none = (tt, tt)
apart_push (m ∷ ns) n h none = (
  each_push (λ k. SameName m k → ⊥) ns n h.0 (λ same. none (0, m, omega arith, refl, same)),
  apart_push ns n h.1 (λ a. none (suc a.0, a.1, omega (arith, a.2), a.3, a.4)),
)

pub apart_more : (ps : List Parameter) (i : ℕ) (p : Parameter) → i < length ps → p ≡ get_or ps i p → AreApart (map named (take i ps)) → (Any (Has p.name.items) (take i ps) → ⊥) → AreApart (map named (take (i + 1) ps))
apart_more ps i p lt here h none =
    let parts : map named (take (i + 1) ps) ≡ map named (take i ps) ++ named p ∷ [] = ap (map named) (take_more ps i p lt ∙ ap (λ (q : Parameter). take i ps ++ q ∷ []) (sym here)) ∙ map-append named (take i ps) (p ∷ []) in
    subst AreApart (sym parts) (apart_push (map named (take i ps)) (named p) h (λ a. none (named_any (take i ps) (named p) a)))

pub repeat_is : (ps : List Parameter) (i : ℕ) (p : Parameter) → i < length ps → p ≡ get_or ps i p → AreApart (map named (take i ps)) → Any (Has p.name.items) (take i ps) → IsFirstRepeat (map named ps) p.place
repeat_is ps i p lt here h any = record {
  before = map named (take i ps);
  again = named p;
  after = map named (drop (i + 1) ps);
  parts =
      ap (map named) (sym (take-append-drop i ps) ∙ ap (λ (x : List Parameter). take i ps ++ x) (drop_more ps i p lt ∙ ap (λ (q : Parameter). q ∷ drop (i + 1) ps) (sym here)))
      ∙ map-append named (take i ps) (p ∷ drop (i + 1) ps);
  apart = h;
  repeats = any_named (take i ps) (named p) any;
  here = refl;
}

pub text_is : (ps : List Parameter) (i : ℕ) (p : Parameter) (name : List ℕ) → i < length ps → p ≡ get_or ps i p → Has name p → HasText (map named ps) name p.text.items
text_is ps i p name lt here has = record {
  one = named p;
  among = (i, omega (arith, length-map ps named), named_at ps i p (named p) lt ∙ ap named (sym here));
  same = has;
  is = refl;
}

pub no_text : (ps : List Parameter) (name text : List ℕ) → ((k : ℕ) (d : Parameter) → k < length ps → Has name (get_or ps k d) → ⊥) → HasText (map named ps) name text → ⊥
no_text ps name text none h =
    let k = h.among.0 in
    let lt : k < length ps = omega (arith, length-map ps named, h.among.1) in
    let d = some_item ps k lt in
    let same : named (get_or ps k d) ≡ h.one = sym (named_at ps k d h.one lt) ∙ h.among.2 in
    none k d lt (subst (λ (n : Named). map to_ascii_lowercase n.name ≡ map to_ascii_lowercase name) (sym same) h.same)

-- ---- the names of a field

here_spelled : (at : ℕ) (o : Option Spelled) (others : List Named) → IsOptional o → AllByRecursion IsSpelled others → AllByRecursion IsSpelled (named_here at o others)
here_spelled at None others h rest = rest
here_spelled at (Some p) others h rest = (record { value = p.value; is = h.value; spelled = refl }, rest)

from_spelled : (at : ℕ) (ps : List Piece) → AllByRecursion IsPiece ps → AllByRecursion IsSpelled (named_from at ps)
from_spelled at [] h = tt
from_spelled at (p ∷ ps) h = here_spelled (at + (length p.before + (1 + length p.after))) p.parameter (named_from (at + length (piece_text p)) ps) h.0.parameter (from_spelled (at + length (piece_text p)) ps h.1)

pub of_spelled : (f : Field) → IsField f → AllByRecursion IsSpelled (named_of f)
of_spelled f h = from_spelled (length f.front + length f.kind) f.pieces h.pieces

-- ---- one text of a name

each_at : (P : Named → Type 0) (ns : List Named) (k : ℕ) (d : Named) → k < length ns → AllByRecursion P ns → P (get_or ns k d)
each_at P [] k d lt h = absurd (omega arith)
each_at P (n ∷ ns) zero d lt h = h.0
each_at P (n ∷ ns) (suc k) d lt h = each_at P ns k d (omega arith) h.1

pub spelled_among : (ns : List Named) (name text : List ℕ) → HasText ns name text → AllByRecursion IsSpelled ns → (v : Value) × IsValue v × (text ≡ value_text v)
spelled_among ns name text h each =
    let one = subst IsSpelled h.among.2 (each_at IsSpelled ns h.among.0 h.one h.among.1 each) in
    (one.value, one.is, h.is ∙ one.spelled)

-- two places of one name are one place
pub one_place : (ns : List Named) (i k : ℕ) (d : Named) → AreApart ns → i < length ns → k < length ns → SameName (get_or ns i d) (get_or ns k d) → i ≡ k
one_place [] i k d h li lk same = absurd (omega arith)
one_place (n ∷ ns) zero zero d h li lk same = refl
one_place (n ∷ ns) zero (suc k) d h li lk same = absurd (each_at (λ m. SameName n m → ⊥) ns k d (omega arith) h.0 same)
one_place (n ∷ ns) (suc i) zero d h li lk same = absurd (each_at (λ m. SameName n m → ⊥) ns i d (omega arith) h.0 (sym same))
one_place (n ∷ ns) (suc i) (suc k) d h li lk same = ap suc (one_place ns i k d h.1 (omega arith) (omega arith) same)

pub one_text : (ns : List Named) (name x y : List ℕ) → AreApart ns → HasText ns name x → HasText ns name y → x ≡ y
one_text ns name x y apart p q =
    let a : get_or ns p.among.0 p.one ≡ p.one = p.among.2 in
    let b : get_or ns q.among.0 p.one ≡ q.one = get_or_default ns q.among.0 p.one q.one q.among.1 ∙ q.among.2 in
    let same : SameName (get_or ns p.among.0 p.one) (get_or ns q.among.0 p.one) =
    ap (λ (n : Named). map to_ascii_lowercase n.name) a ∙ p.same ∙ sym q.same ∙ sym (ap (λ (n : Named). map to_ascii_lowercase n.name) b) in
    let at = one_place ns p.among.0 q.among.0 p.one apart p.among.1 q.among.1 same in
    p.is ∙ ap (λ (n : Named). n.text) (sym a ∙ ap (λ (k : ℕ). get_or ns k p.one) at ∙ b) ∙ sym q.is

-- where no name stands twice, none repeats an earlier one
apart_at : (before after : List Named) (again : Named) → AreApart (before ++ again ∷ after) → (k : ℕ) (n : Named) → k < length before → get_or before k n ≡ n → SameName n again → ⊥
apart_at [] after again apart k n lt is same = omega (arith, lt)
apart_at (m ∷ ms) after again apart zero n lt is same = each_at ms (apart.0)
  where
    each_at : (ns : List Named) → AllByRecursion (λ other. SameName m other → ⊥) (ns ++ again ∷ after) → ⊥
    each_at [] each = each.0 (subst (λ (x : Named). SameName x again) (sym is) same)
    each_at (x ∷ xs) each = each_at xs each.1
apart_at (m ∷ ms) after again apart (suc k) n lt is same = apart_at ms after again apart.1 k n (omega (arith, lt)) is same

pub apart_alone : (names : List Named) (place : ℕ) → AreApart names → IsFirstRepeat names place → ⊥
apart_alone names place apart repeat =
    let any = repeat.repeats in
    apart_at repeat.before repeat.after repeat.again (subst AreApart repeat.parts apart) any.0 any.1 any.2 any.3 any.4
