-- Wires are marked one after another, and then all connections are of wires of their own.
use Rattle.std.proofs.Common.{◌≡◌, ◌≢◌, ℕ, suc, ◌<◌, Bool, true, List, [], ◌∷◌, ◌++◌, length, map, slice_get, Option, Some, None, IfSome, refl, sym, ap, subst}
use Rattle.std.specs.List.{AllByRecursion}
use Rattle.dm_generated_net.specs.declared.chain.Connection.{Connection}
use Rattle.dm_generated_net.specs.Chain.{closed_as}
use Rattle.dm_generated_net.specs.Own.{AreDistinct, AreMarked, AreOfWires, IsBelow, IsMarked, wires_of}

each_of : {X : Type 0} (P Q : X → Type 0) (xs : List X) → ((x : X) → P x → Q x) → AllByRecursion P xs → AllByRecursion Q xs
each_of P Q [] leads all = tt
each_of P Q (x ∷ xs) leads all = (leads x all.0, each_of P Q xs leads all.1)

each_on : {X : Type 0} (P : X → Type 0) (xs : List X) (x : X) → AllByRecursion P xs → P x → AllByRecursion P (xs ++ x ∷ [])
each_on P [] x all last = (last, tt)
each_on P (y ∷ ys) x all last = (all.0, each_on P ys x all.1 last)

distinct_on : (wires : List ℕ) (wire : ℕ) → AreDistinct wires → AllByRecursion (λ other. other ≢ wire) wires → AreDistinct (wires ++ wire ∷ [])
distinct_on [] wire distinct others = (tt, tt)
distinct_on (first ∷ rest) wire distinct others = (each_on (λ other. first ≢ other) rest wire distinct.0 others.0, distinct_on rest wire distinct.1 others.1)

wires_on : (connections : List Connection) (last : Connection) → wires_of (connections ++ last ∷ []) ≡ wires_of connections ++ last.wire ∷ []
wires_on [] last = refl
wires_on (connection ∷ more) last = ap (λ (ws : List ℕ). connection.wire ∷ ws) (wires_on more last)

-- one connection more
pub marked_on : (number bound : ℕ) (older : List Connection) (newest : Connection) (old new : List Bool) → AreMarked number bound older old → IsMarked number bound newest old new → AreMarked number bound (older ++ newest ∷ []) new
marked_on number bound older newest old new are is =
    let others : AllByRecursion (λ other. other ≢ newest.wire) (wires_of older) =
    each_of (λ wire. slice_get old wire ≡ Some true) (λ other. other ≢ newest.wire) (wires_of older)
    (λ wire marked same. is.fresh (subst (λ (w : ℕ). slice_get old w ≡ Some true) same marked)) are.marked in
    record {
      each = each_on (IsBelow number bound) older newest are.each is.is;
      distinct = subst AreDistinct (sym (wires_on older newest)) (distinct_on (wires_of older) newest.wire are.distinct others);
      marked = subst (AllByRecursion (λ wire. slice_get new wire ≡ Some true)) (sym (wires_on older newest))
          (each_on (λ wire. slice_get new wire ≡ Some true) (wires_of older) newest.wire
          (each_of (λ wire. slice_get old wire ≡ Some true) (λ wire. slice_get new wire ≡ Some true) (wires_of older) is.stay are.marked) is.now);
    }

pub marked_if : (number bound : ℕ) (older : List Connection) (newest : Connection) (old new : List Bool) (count : Option ℕ) → AreMarked number bound older old → IsMarked number bound newest old new
    → IfSome count (λ _. AreMarked number bound (older ++ newest ∷ []) new)
marked_if number bound older newest old new (Some count) are is = marked_on number bound older newest old new are is
marked_if number bound older newest old new None are is = tt

-- of connections that were marked
pub of_wires : (number bound : ℕ) (connections : List Connection) → AllByRecursion (IsBelow number bound) connections → AreOfWires number (wires_of connections) (map closed_as connections)
of_wires number bound [] each = tt
of_wires number bound (connection ∷ more) each =
    (record { reply = connection.reply; stream_is = ap (λ (n : ℕ). (closed_as (record connection { number = n })).stream) each.0.number_is }, of_wires number bound more each.1)

pub below_bound : (number bound : ℕ) (connections : List Connection) → AllByRecursion (IsBelow number bound) connections → AllByRecursion (λ wire. wire < bound) (wires_of connections)
below_bound number bound [] each = tt
below_bound number bound (connection ∷ more) each = (each.0.below, below_bound number bound more each.1)

pub wires_long : (connections : List Connection) → length (wires_of connections) ≡ length connections
wires_long [] = refl
wires_long (connection ∷ more) = ap suc (wires_long more)
