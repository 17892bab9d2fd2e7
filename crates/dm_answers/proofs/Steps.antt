-- What calls made of a desk, one behind another.
use Rattle.std.proofs.Common.{◌≡◌, ℕ, Bool, false, [], ◌++◌, refl, sym, ◌∙◌, ap, subst, arith, append_assoc}
use Rattle.std.proofs.lemmas.List.{append-nil}
use Rattle.dm_item.specs.Lawful.{History}
use Rattle.dm_store.specs.declared.life.Life.{Life}
use Rattle.dm_store.specs.Becomes.{Becomes, run_of}
use Rattle.dm_store.specs.View.{View}
use Rattle.dm_store.proofs.Composing.{lawful_none, lawful_then, run_then, spelled_then}
use Rattle.dm_answers.specs.Frame.{LifeOnly, Went}

-- recording decides it
pub becomes_went : {D O : Type 0} (old new : View D O) (recorded failed : History) (broken : Bool) → Becomes old new recorded failed broken → Went old new recorded failed broken
becomes_went old new recorded failed broken becomes = record {
  whole = becomes.whole;
  items_are = becomes.items_are;
  list_is = becomes.list_is;
  lawful = becomes.lawful;
  may = becomes.may;
  gate_is = becomes.gate_is;
  failed_is = becomes.failed_is;
  broken_is = becomes.broken_is;
  origin = becomes.origin;
  limits = becomes.limits;
}

-- and nothing is recorded where only a life changed
pub life_went : {D O : Type 0} (old new : View D O) (id : ℕ) (change : Life → Life) → old.failed ≡ [] → LifeOnly old new id change → Went old new [] [] false
life_went {D = D} {O = O} old new id change none only =
    subst (λ (desk : View D O). Went old desk [] [] false) (sym only.same)
    (record { whole = only.whole; items_are = refl; list_is = sym (append-nil old.list); lawful = lawful_none old.items; may = tt; gate_is = omega arith; failed_is = none; broken_is = only.whole; origin = refl; limits = refl })

pub went_then : {D O : Type 0} (old mid new : View D O) (first second failed : History) (broken : Bool) → Went old mid first [] false → Went mid new second failed broken → Went old new (first ++ second) failed broken
went_then old mid new first second failed broken one two = record {
  whole = one.whole;
  items_are = two.items_are ∙ ap (run_of second) one.items_are ∙ sym (run_then first second old.items);
  list_is = two.list_is ∙ ap (λ (list : History). list ++ second) one.list_is ∙ append_assoc old.list first second;
  lawful = lawful_then old.items mid.items new.items first second one.lawful two.lawful;
  gate_is = let a = one.gate_is in let b = two.gate_is in let c = spelled_then first second in omega arith;
  failed_is = two.failed_is;
  may = two.may;
  broken_is = two.broken_is;
  origin = two.origin ∙ one.origin;
  limits = two.limits ∙ one.limits;
}
