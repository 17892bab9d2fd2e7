-- What calls leave, one behind another.
use Rattle.std.proofs.Common.{◌≡◌, ◌≤◌, ℕ, ◌+◌, ◌^◌, Bool, false, List, [], ◌∷◌, ◌++◌, length, drop, refl, sym, ◌∙◌, ap, subst, arith, append_assoc}
use Rattle.std.proofs.Math.Seq.{drop-append_seam}
use Rattle.std.proofs.lemmas.List.{append-nil}
use Rattle.dm_types.specs.Faults.{NoneFell}
use Rattle.dm_types.specs.declared.entry.Entry.{Entry}
use Rattle.dm_types.specs.declared.kinds.DiskKind.{DiskKind}
use Rattle.dm_disk_model.proofs.Beside.{besides_more, besides_then}
use Rattle.dm_disk_model.specs.Disk.{History as Clock}
use Rattle.dm_item.specs.Lawful.{History}
use Rattle.dm_kept.specs.Files.{Says}
use Rattle.dm_store.proofs.Keeping.{keeps_then}
use Rattle.dm_store.specs.Keeps.{StaysNear, added}
use Rattle.dm_store.specs.View.{View, spelled}
use Rattle.dm_answers.proofs.Steps.{went_then}
use Rattle.dm_answers.specs.Frame.{Went}
use Rattle.dm_attempt.specs.Goes.{CallGoes, DeskGoes}

pub spelled_then : (first second : History) → spelled (first ++ second) ≡ spelled first + spelled second
spelled_then [] second = omega arith
spelled_then (entry ∷ first) second = let rest = spelled_then first second in omega arith

added_is : (old new more : List Entry) → new ≡ old ++ more → drop (length old) new ≡ more
added_is old new more is = ap (λ (h : List Entry). drop (length old) h) is ∙ drop-append_seam old more

module _ {D O : Type 0} (tells : Type 0) (clock : D → Clock) (says : O → Says) (far : D → ℕ) (counts : D → DiskKind → ℕ) where
  near_then : (old mid new : View D O) (first second failed : History) (broken : Bool) → Went old mid first [] false → Went mid new second failed broken
      → StaysNear (far old.disk) (far mid.disk) old mid → StaysNear (far mid.disk) (far new.disk) mid new → StaysNear (far old.disk) (far new.disk) old new
  near_then old mid new first second failed broken one two one_near two_near short =
      let whole : new.list ≡ old.list ++ (first ++ second) = two.list_is ∙ ap (λ (h : History). h ++ second) one.list_is ∙ append_assoc old.list first second in
      let all : spelled (added old new ++ new.failed) ≡ spelled first + spelled (second ++ new.failed) =
      ap (λ (h : History). spelled (h ++ new.failed)) (added_is old.list new.list (first ++ second) whole) ∙ ap spelled (append_assoc first second new.failed) ∙ spelled_then first (second ++ new.failed) in
      let front : spelled (added old mid ++ mid.failed) ≡ spelled first =
      ap (λ (h : History). spelled (h ++ mid.failed)) (added_is old.list mid.list first one.list_is) ∙ ap (λ (h : History). spelled (first ++ h)) one.failed_is ∙ ap spelled (append-nil first) in
      let back : spelled (added mid new ++ new.failed) ≡ spelled (second ++ new.failed) = ap (λ (h : History). spelled (h ++ new.failed)) (added_is mid.list new.list second two.list_is) in
      let gate = one.gate_is in
      two_near (omega (arith, short, all, back, gate)) ∙ one_near (omega (arith, short, all, front))

  pub goes_then : (spared : List ℕ → Type 0) (old mid new : View D O) (first second failed : History) (broken : Bool) → DeskGoes tells clock says far counts spared old mid first [] false → Went mid new second failed broken
      → CallGoes tells clock says far counts spared mid new → DeskGoes tells clock says far counts spared old new (first ++ second) failed broken
  goes_then spared old mid new first second failed broken one two call = record {
    went = went_then old mid new first second failed broken one.went two;
    keeps = keeps_then tells clock says old mid new one.keeps one.went.origin one.went.failed_is call.keeps;
    near = near_then old mid new first second failed broken one.went two one.near call.near;
    later = λ kind. let a = one.later kind in let b = call.later kind in omega (arith, a, b);
    beside = λ t. besides_then spared (clock old.disk) (clock mid.disk) (clock new.disk) (one.beside t) (call.beside t);
  }

  pub goes_more : (spared more : List ℕ → Type 0) → ((name : List ℕ) → spared name → more name) → (old new : View D O) (recorded failed : History) (broken : Bool) → DeskGoes tells clock says far counts spared old new recorded failed broken
      → DeskGoes tells clock says far counts more old new recorded failed broken
  goes_more spared more wider old new recorded failed broken goes = record {
    went = goes.went;
    keeps = goes.keeps;
    near = goes.near;
    later = goes.later;
    beside = λ t. besides_more spared more (clock old.disk) (clock new.disk) wider (goes.beside t);
  }

  pub call_more : (spared more : List ℕ → Type 0) → ((name : List ℕ) → spared name → more name) → (old new : View D O) → CallGoes tells clock says far counts spared old new → CallGoes tells clock says far counts more old new
  call_more spared more wider old new call = record {
    keeps = call.keeps;
    near = call.near;
    later = call.later;
    beside = λ t. besides_more spared more (clock old.disk) (clock new.disk) wider (call.beside t);
  }
