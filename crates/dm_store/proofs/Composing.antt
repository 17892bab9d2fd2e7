-- What calls recorded, one behind another.
use Rattle.std.proofs.Common.{◌≡◌, ℕ, ◌+◌, Bool, true, false, List, [], ◌∷◌, ◌++◌, length, drop, refl, sym, ◌∙◌, ap, subst, arith, append_assoc}
use Rattle.std.proofs.lemmas.List.{append-nil}
use Rattle.std.proofs.Math.Seq.{drop-append_seam}
use Rattle.dm_types.specs.declared.entry.Entry.{Entry}
use Rattle.dm_item.specs.Lawful.{History, IsOf, KeepsHistory}
use Rattle.dm_item.specs.Listing.{Listing, Takes, applied}
use Rattle.dm_item.proofs.Histories.{keeps_step}
use Rattle.dm_store.specs.declared.life.Life.{Life}
use Rattle.dm_store.specs.Becomes.{Becomes, Fell, lives_of, run_of}
use Rattle.dm_store.specs.Keeps.{StaysNear, added}
use Rattle.dm_store.specs.Lives.{lives_after}
use Rattle.dm_store.specs.View.{View, spelled}

-- What is lawful behind each history.

pub lawful_none : (items : Listing) → KeepsHistory items items []
lawful_none items h is = subst (λ (x : History). IsOf x items) (sym (append-nil h)) is

pub lawful_same : (old new : Listing) → new ≡ old → KeepsHistory old new []
lawful_same old new same = subst (λ (v : Listing). KeepsHistory old v []) (sym same) (lawful_none old)

pub lawful_one : (entry : Entry) (old new : Listing) → Takes entry old new → KeepsHistory old new (entry ∷ [])
lawful_one entry old new takes h is = keeps_step h entry old new is takes

pub lawful_then : (old mid new : Listing) (first second : History) → KeepsHistory old mid first → KeepsHistory mid new second → KeepsHistory old new (first ++ second)
lawful_then old mid new first second one two h is = subst (λ (x : History). IsOf x new) (append_assoc h first second) (two (h ++ first) (one h is))

-- What the entries make.

pub run_then : (first second : History) (items : Listing) → run_of (first ++ second) items ≡ run_of second (run_of first items)
run_then [] second items = refl
run_then (entry ∷ first) second items = run_then first second (applied entry items)

pub lives_then : (first second : History) (items : Listing) (lives : List Life) → lives_of (first ++ second) items lives ≡ lives_of second (run_of first items) (lives_of first items lives)
lives_then [] second items lives = refl
lives_then (entry ∷ first) second items lives = lives_then first second (applied entry items) (lives_after entry (applied entry items) lives)

pub spelled_then : (first second : History) → spelled (first ++ second) ≡ spelled first + spelled second
spelled_then [] second = omega arith
spelled_then (entry ∷ first) second = let rest = spelled_then first second in omega (arith, rest)

-- Two calls, of which the first failed at nothing.
module _ {D O : Type 0} (old mid new : View D O) (first : History) (one : Becomes old mid first [] false) where
  pub becomes_then : (second failed : History) (broken : Bool) → Becomes mid new second failed broken → Becomes old new (first ++ second) failed broken
  becomes_then second failed broken two = record {
    whole = one.whole;
    items_are = two.items_are ∙ ap (run_of second) one.items_are ∙ sym (run_then first second old.items);
    lives_are = two.lives_are ∙ ap (λ (items : Listing). lives_of second items mid.lives) one.items_are ∙ ap (lives_of second (run_of first old.items)) one.lives_are ∙ sym (lives_then first second old.items old.lives);
    list_is = two.list_is ∙ ap (λ (list : History). list ++ second) one.list_is ∙ append_assoc old.list first second;
    lawful = lawful_then old.items mid.items new.items first second one.lawful two.lawful;
    gate_is = let a = one.gate_is in let b = two.gate_is in let c = spelled_then first second in omega (arith, a, b, c);
    failed_is = two.failed_is;
    may = two.may;
    broken_is = two.broken_is;
    origin = two.origin ∙ one.origin;
    limits = two.limits ∙ one.limits;
  }

  pub fell_then : (second : History) → Fell mid new second → Fell old new (first ++ second)
  fell_then second fell = record {
    recorded = first ++ fell.recorded;
    entry = fell.entry;
    rest = fell.rest;
    tries_are = ap (λ (h : History). first ++ h) fell.tries_are ∙ sym (append_assoc first fell.recorded (fell.entry ∷ fell.rest));
    becomes = becomes_then fell.recorded (fell.entry ∷ []) true fell.becomes;
  }

  -- the count of far writes stays over both
  pub near_then : (second : History) (before between after : ℕ) → new.list ≡ mid.list ++ second → StaysNear before between old mid → StaysNear between after mid new → StaysNear before after old new
  near_then second before between after list near later short =
      let both : added old new ++ new.failed ≡ first ++ (second ++ new.failed) =
      ap (λ (h : History). drop (length old.list) h ++ new.failed) (list ∙ ap (λ (h : History). h ++ second) one.list_is ∙ append_assoc old.list first second)
      ∙ ap (λ (h : History). h ++ new.failed) (drop-append_seam old.list (first ++ second))
      ∙ append_assoc first second new.failed in
      let whole : spelled (added old new ++ new.failed) ≡ spelled first + spelled (second ++ new.failed) = ap spelled both ∙ spelled_then first (second ++ new.failed) in
      let front : spelled (added old mid ++ mid.failed) ≡ spelled first =
      ap spelled (ap (λ (h : History). drop (length old.list) h ++ mid.failed) one.list_is ∙ ap (λ (h : History). h ++ mid.failed) (drop-append_seam old.list first) ∙ ap (λ (h : History). first ++ h) one.failed_is ∙ append-nil first) in
      let back : spelled (added mid new ++ new.failed) ≡ spelled (second ++ new.failed) =
      ap spelled (ap (λ (h : History). drop (length mid.list) h ++ new.failed) list ∙ ap (λ (h : History). h ++ new.failed) (drop-append_seam mid.list second)) in
      let gate = one.gate_is in
      later (omega (arith, short, whole, back, gate)) ∙ near (omega (arith, short, whole, front))

-- one entry was tried, and failed
pub fell_one : {D O : Type 0} (old new : View D O) (entry : Entry) → Becomes old new [] (entry ∷ []) true → Fell old new (entry ∷ [])
fell_one old new entry becomes = record { recorded = []; entry = entry; rest = []; tries_are = refl; becomes = becomes }

-- more were to be tried behind it
pub fell_before : {D O : Type 0} (old new : View D O) (tries more : History) → Fell old new tries → Fell old new (tries ++ more)
fell_before old new tries more fell = record {
  recorded = fell.recorded;
  entry = fell.entry;
  rest = fell.rest ++ more;
  tries_are = ap (λ (h : History). h ++ more) fell.tries_are ∙ append_assoc fell.recorded (fell.entry ∷ fell.rest) more;
  becomes = fell.becomes;
}
