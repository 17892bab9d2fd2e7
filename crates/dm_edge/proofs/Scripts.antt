-- The scripts that a net has left are good.
use Rattle.std.proofs.Common.{◌≡◌, ◌≢◌, ◌==◌, ℕ, suc, List, [], ◌∷◌, Bool, true, false, cond, Some, Err, subst, arith}
use Rattle.std.proofs.lemmas.Option.{none-some, same_Some}
use Rattle.std.specs.Prelude.{All}
use Rattle.dm_edge.specs.declared.script.WireScript.{WireScript}
use Rattle.dm_edge.specs.declared.fault.WireFault.{WireFault}
use Rattle.dm_edge.specs.declared.fault.WireFault.TheVariants as wire
use Rattle.dm_edge.specs.Script.{IsGood, fault_at}
use Rattle.dm_edge.specs.Wire.{WantsBy}

pub good_next : (old new : List WireScript) (script : WireScript) → old ≡ script ∷ new → All IsGood old → IsGood script × All IsGood new
good_next old new script taken good =
    let P : List WireScript → Type 0 = λ scripts. All IsGood scripts in
    let each : All IsGood (script ∷ new) = subst P taken good in
    (each 0 script (omega arith), λ k d below. each (suc k) d (omega arith))

-- what is so of each listed fault is so of the one under a call's number
pub listed_is : {F : Type 0} (P : F → Type 0) (entries : List (ℕ × F)) (call : ℕ) (fault : F) → All (λ (entry : ℕ × F). P entry.1) entries
    → fault_at entries call ≡ Some fault → P fault
listed_is P [] call fault good is = absurd (none-some fault is)
listed_is {F} P (entry ∷ entries) call fault good is =
    by_test (entry.0 == call) (listed_is P entries call fault (λ k d below. good (suc k) d (omega arith))) is
  where
    by_test : (b : Bool) → (fault_at entries call ≡ Some fault → P fault) → cond b (Some entry.1) (fault_at entries call) ≡ Some fault → P fault
    by_test true later same = subst P (same_Some entry.1 fault same) (good 0 entry (omega arith))
    by_test false later same = later same

-- a wire's list holds no want of memory, so a listed fault wants none
pub listed_wants : {T : Type 0} (entries : List (ℕ × WireFault)) (call wants : ℕ) (fault : WireFault) → All (λ (entry : ℕ × WireFault). entry.1 ≢ wire.NoMemory) entries
    → fault_at entries call ≡ Some fault → WantsBy {T = T} wants wants (Err fault)
listed_wants entries call wants fault good is =
    record { later = omega arith; rose = λ none. absurd (listed_is (λ (f : WireFault). f ≢ wire.NoMemory) entries call fault good is none) }
