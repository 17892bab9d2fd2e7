-- Calls on a desk, one behind another.
use Rattle.std.proofs.Common.{◌≡◌, ℕ, true, false, [], ◌∷◌, ◌++◌, refl, sym, ◌∙◌, ap, subst, append_assoc, arith}
use Rattle.std.proofs.lemmas.Bool.{false≢true}
use Rattle.std.proofs.lemmas.List.{append-nil}
use Rattle.dm_types.specs.Faults.{NoneFell}
use Rattle.dm_types.specs.Name.{IsPart}
use Rattle.dm_types.specs.declared.kinds.DiskKind.{DiskKind}
use Rattle.dm_disk_model.specs.Disk.{History as Clock}
use Rattle.dm_disk_model.specs.Moments.{KeepsFiles}
use Rattle.dm_disk_model.proofs.Beside.{besides_same, besides_stay, besides_then}
use Rattle.dm_item.specs.Lawful.{History}
use Rattle.dm_kept.specs.Files.{Says}
use Rattle.dm_store.specs.Becomes.{Recorded}
use Rattle.dm_store.specs.Keeps.{Keeps, StaysNear}
use Rattle.dm_store.specs.View.{View}
use Rattle.dm_store.proofs.Composing.{becomes_then, near_then}
use Rattle.dm_store.proofs.Keeping.{keeps_same, keeps_then}
use Rattle.dm_does.specs.Log.{ArePlain}
use Rattle.dm_does.proofs.Plain.{plain_both}
use Rattle.dm_works.specs.Moving.{Moved, Steps, fell, recorded, same}

-- a desk that is as before
pub steps_same : {D O : Type 0} (tells : Type 0) (clock : D → Clock) (counts : D → DiskKind → ℕ) (far : D → ℕ) (says : O → Says) (desk : View D O) → Steps tells clock counts far says desk desk
steps_same tells clock counts far says desk = record {
  moved = same refl;
  keeps = keeps_same tells clock says desk desk refl;
  beside = λ told. besides_stay IsPart (clock desk.disk) (clock desk.disk) refl;
  later = λ kind. omega arith;
  near = λ short. refl;
}

-- a call that touches no file of the user's
pub steps_files : {D O : Type 0} (tells : Type 0) (clock : D → Clock) (counts : D → DiskKind → ℕ) (far : D → ℕ) (says : O → Says) (old new : View D O) → Moved old new → Keeps tells clock says old new → (tells → KeepsFiles (clock old.disk) (clock new.disk))
    → NoneFell (counts old.disk) (counts new.disk) → StaysNear (far old.disk) (far new.disk) old new → Steps tells clock counts far says old new
steps_files tells clock counts far says old new moved keeps files later near = record {
  moved = moved;
  keeps = keeps;
  beside = λ told. besides_same IsPart (clock old.disk) (clock new.disk) (files told);
  later = later;
  near = near;
}

module _ {D O : Type 0} (tells : Type 0) (clock : D → Clock) (counts : D → DiskKind → ℕ) (far : D → ℕ) (says : O → Says) (old mid new : View D O) (one : Steps tells clock counts far says old mid) (two : Steps tells clock counts far says mid new) where
  abbrev Both : Type 0
  Both = Steps tells clock counts far says old new

  -- the first recorded these, and the second these behind them
  joined : (first : History) → Recorded old mid first → Moved old new → (second : History) → new.list ≡ mid.list ++ second → Both
  joined first becomes moved second list = record {
    moved = moved;
    keeps = keeps_then tells clock says old mid new one.keeps becomes.origin becomes.failed_is two.keeps;
    beside = λ told. besides_then IsPart (clock old.disk) (clock mid.disk) (clock new.disk) (one.beside told) (two.beside told);
    later = λ kind. let a = one.later kind in let b = two.later kind in omega (arith, a, b);
    near = near_then old mid new first becomes second (far old.disk) (far mid.disk) (far new.disk) list one.near two.near;
  }

  behind : (first : History) → ArePlain first → Recorded old mid first → Moved mid new → Both
  behind first plain becomes (same is) =
      joined first becomes (recorded first plain (subst (λ (v : View D O). Recorded old v first) (sym is) becomes)) [] (ap (λ (v : View D O). v.list) is ∙ sym (append-nil mid.list))
  behind first plain becomes (recorded second plain_too next) =
      joined first becomes (recorded (first ++ second) (plain_both first second plain plain_too) (becomes_then old mid new first becomes second [] false next)) second next.list_is
  behind first plain becomes (fell second entry plain_too next) =
      joined first becomes
      (fell (first ++ second) entry (subst ArePlain (sym (append_assoc first second (entry ∷ []))) (plain_both first (second ++ entry ∷ []) plain plain_too)) (becomes_then old mid new first becomes second (entry ∷ []) true next))
      second next.list_is

  -- a desk that is broken takes no more
  stopped : mid.broken ≡ true → Moved mid new → Both
  stopped broken (same is) = subst (λ (v : View D O). Steps tells clock counts far says old v) (sym is) one
  stopped broken (recorded second plain next) = absurd (false≢true (sym next.whole ∙ broken))
  stopped broken (fell second entry plain next) = absurd (false≢true (sym next.whole ∙ broken))

  by_first : Moved old mid → Both
  by_first (same is) = subst (λ (v : View D O). Steps tells clock counts far says v new) is two
  by_first (recorded first plain becomes) = behind first plain becomes two.moved
  by_first (fell first entry plain becomes) = stopped becomes.broken_is two.moved

  pub steps_then : Both
  steps_then = by_first one.moved
