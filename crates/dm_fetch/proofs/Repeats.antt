-- Attempts that an item makes by itself.
use Rattle.std.proofs.Common.{◌≡◌, ◌<◌, ◌≤◌, ℕ, suc, ◌+◌, ◌-◌, ◌||◌, cond, Bool, true, false, IsTrue, List, Option, refl, sym, ◌∙◌, ap, subst, arith}
use Rattle.std.specs.Prelude.{nat_le}
use Rattle.std.proofs.lemmas.Bool.{false≢true}
use Rattle.std.proofs.lemmas.Bool.Decides.{nat_tests}
use Rattle.dm_types.specs.Faults.{NoneFell}
use Rattle.dm_types.specs.declared.item.Item.{Item}
use Rattle.dm_types.specs.declared.item.ItemId.{ItemId}
use Rattle.dm_types.specs.declared.item.Phase.{Phase}
use Rattle.dm_types.specs.declared.item.Phase.TheVariants as phases
use Rattle.dm_types.specs.declared.kinds.By.{By}
use Rattle.dm_types.specs.declared.kinds.By.TheVariants.{Itself, User}
use Rattle.dm_types.specs.declared.kinds.DiskKind.{DiskKind}
use Rattle.dm_types.specs.declared.kinds.Mode.{Mode}
use Rattle.dm_types.specs.declared.kinds.Mode.TheVariants as modes
use Rattle.dm_disk_model.specs.Disk.{History as Clock}
use Rattle.dm_policy.specs.Mode.{asks_user, by_user, is_immediate, is_last_attempt, mode_by, placed_mode}
use Rattle.dm_edge.specs.Wire.{Closed}
use Rattle.dm_edge.specs.declared.fault.NetFault.{NetFault}
use Rattle.dm_item.specs.Listing.{item_in}
use Rattle.dm_item.specs.Row.{facts_of, is_paused, mode_in, mode_of_item}
use Rattle.dm_kept.specs.Files.{Says}
use Rattle.dm_store.specs.View.{View}
use Rattle.dm_attempt.specs.declared.ended.Ended.{Ended}
use Rattle.dm_attempt.specs.declared.ended.Ended.TheVariants as ended
use Rattle.dm_fetch.specs.Attempts.{Attempts}
use Rattle.dm_fetch.specs.Fetches.{Fetched, Fetches, GoesOn, again, autos_of, once}
use Rattle.dm_fetch.proofs.Rises.{autos_rise}

not_user : (mode : Mode) → is_immediate (by_user mode) ≡ false
not_user modes.Invalid = refl
not_user modes.ImmediateContinue = refl
not_user modes.ImmediateRestart = refl
not_user modes.UserContinue = refl
not_user modes.UserRestart = refl

asks_not : (last asks : Bool) (mode : Mode) → IsTrue (is_immediate (cond last modes.Invalid (cond asks (by_user mode) mode))) → asks ≡ false
asks_not true asks mode is = absurd (false≢true is)
asks_not false true mode is = absurd (false≢true (sym (not_user mode) ∙ is))
asks_not false false mode is = refl

in_phase : (phase : Phase) (mode : Mode) → IsTrue (is_immediate (mode_in phase mode)) → IsTrue (is_immediate mode)
in_phase phases.Waiting mode is = is
in_phase phases.Running mode is = is
in_phase phases.Paused mode is = is
in_phase (phases.Interrupted reason) mode is = is
in_phase phases.Finishing mode is = absurd (false≢true is)
in_phase phases.Complete mode is = absurd (false≢true is)
in_phase phases.Cancelled mode is = absurd (false≢true is)

or_right : (a b : Bool) → (a || b) ≡ false → b ≡ false
or_right true b none = absurd (false≢true (sym none))
or_right false b none = none

below : (n : ℕ) → nat_le 5 n ≡ false → n < 5
below n none = grind (arith, nat_tests)

-- an item that goes on by itself has made fewer than five attempts so
few_autos : (item : Item) → IsTrue (is_immediate (mode_of_item item)) → item.autos < 5
few_autos item is =
    let facts = facts_of item in
    below item.autos (or_right (is_paused item.phase) (nat_le 5 item.autos)
    (asks_not (is_last_attempt facts) (asks_user facts) (placed_mode item.reason facts) (in_phase item.phase (mode_by item.reason facts) is)))

-- how many attempts may come, at most
abbrev pub left_of : Ended → ℕ → ℕ
left_of ended.Complete autos = 0
left_of (ended.Stopped reason) autos = 6 - autos
left_of (ended.Fault fault) autos = 0

module _ {D O : Type 0} (tells : Type 0) (clock : D → Clock) (says : O → Says) (far : D → ℕ) (counts : D → DiskKind → ℕ) (net : Type 0) (id : ItemId) (slices at : ℕ) where
  abbrev Did : View D O → List Closed → (NetFault → ℕ) → View D O → List Closed → (NetFault → ℕ) → By → Ended → Type 0
  Did old was before new closed after by end = Attempts tells clock says far counts net old new was closed before after id by slices at end × NoneFell before after

  abbrev All : View D O → List Closed → (NetFault → ℕ) → By → View D O → List Closed → (NetFault → ℕ) → Ended → ℕ → Type 0
  All old was before by new now after end more = Fetches tells clock says far counts net id slices at new now after end old was before by more

  abbrev autos_at : View D O → ℕ
  autos_at desk = autos_of (item_in id.0 desk.items.items)

  -- where an attempt was stopped, the item has counted those that it made by itself
  abbrev HasCounted : View D O → ℕ → Ended → Type 0
  HasCounted desk done ended.Complete = Unit {0}
  HasCounted desk done (ended.Stopped reason) = autos_at desk ≡ done
  HasCounted desk done (ended.Fault fault) = Unit {0}

  -- The last attempt so far, so many being by the item itself, and all of them with what is to come behind it.
  pub record IsLast (start : View D O) (first : List Closed) (counted : NetFault → ℕ) (desk : View D O) (closed : List Closed) (faults : NetFault → ℕ) (end : Ended) : Type 0 where
    pub old : View D O
    pub was : List Closed
    pub before : NetFault → ℕ
    pub by : By
    pub done : ℕ
    pub few : done ≤ 5
    pub has : HasCounted desk done end
    pub did : Did old was before desk closed faults by end
    pub rest : (new : View D O) (now : List Closed) (after : NetFault → ℕ) (last : Ended) (more : ℕ) → All old was before by new now after last more → All start first counted User new now after last (done + more)

  counts_user : (start : View D O) (first : List Closed) (counted : NetFault → ℕ) (desk : View D O) (closed : List Closed) (faults : NetFault → ℕ) (end : Ended) → Did start first counted desk closed faults User end → HasCounted desk 0 end
  counts_user start first counted desk closed faults ended.Complete did = tt
  counts_user start first counted desk closed faults (ended.Stopped reason) did = autos_rise tells clock says far counts net start desk first closed counted faults id User slices at reason did.0
  counts_user start first counted desk closed faults (ended.Fault fault) did = tt

  pub first_last : (start : View D O) (first : List Closed) (counted : NetFault → ℕ) (desk : View D O) (closed : List Closed) (faults : NetFault → ℕ) (end : Ended) → Did start first counted desk closed faults User end
      → IsLast start first counted desk closed faults end
  first_last start first counted desk closed faults end did = record {
    old = start;
    was = first;
    before = counted;
    by = User;
    done = 0;
    few = omega arith;
    has = counts_user start first counted desk closed faults end did;
    did = did;
    rest = λ new now after last more all. subst (All start first counted User new now after last) (let e : more ≡ 0 + more = omega arith in e) all;
  }

  goes_again : (old mid new : View D O) (was between now : List Closed) (before amid after : NetFault → ℕ) (by : By) (end last : Ended) (more : ℕ) → Did old was before mid between amid by end → GoesOn mid id end → All mid between amid Itself new now after last more
      → All old was before by new now after last (suc more)
  goes_again old mid new was between now before amid after by ended.Complete last more did goes all = absurd goes
  goes_again old mid new was between now before amid after by (ended.Stopped reason) last more did goes all = again old was before by mid between amid reason more did.0 did.1 goes all
  goes_again old mid new was between now before amid after by (ended.Fault fault) last more did goes all = absurd goes

  -- an item that goes on has made fewer than five by itself, and they are counted
  few_done : (desk : View D O) (done : ℕ) (end : Ended) → HasCounted desk done end → GoesOn desk id end → (autos_at desk ≡ done) × (done < 5)
  few_done desk done ended.Complete has goes = absurd goes
  few_done desk done (ended.Stopped reason) has goes =
      let few : autos_at desk < 5 = subst (λ (found : Option Item). autos_of found < 5) (sym goes.there) (few_autos goes.item goes.is) in
      (has, omega (arith, has, few))
  few_done desk done (ended.Fault fault) has goes = absurd goes

  counts_itself : (desk later : View D O) (closed now : List Closed) (faults after : NetFault → ℕ) (done : ℕ) (next : Ended) → autos_at desk ≡ done → Did desk closed faults later now after Itself next → HasCounted later (done + 1) next
  counts_itself desk later closed now faults after done ended.Complete same did = tt
  counts_itself desk later closed now faults after done (ended.Stopped reason) same did = autos_rise tells clock says far counts net desk later closed now faults after id Itself slices at reason did.0 ∙ ap (λ (n : ℕ). n + 1) same
  counts_itself desk later closed now faults after done (ended.Fault fault) same did = tt

  -- another attempt came behind the last one
  pub next_last : (start : View D O) (first : List Closed) (counted : NetFault → ℕ) (desk : View D O) (closed : List Closed) (faults : NetFault → ℕ) (end : Ended) → IsLast start first counted desk closed faults end → GoesOn desk id end
      → (later : View D O) (now : List Closed) (after : NetFault → ℕ) (next : Ended) → Did desk closed faults later now after Itself next → IsLast start first counted later now after next
  next_last start first counted desk closed faults end last goes later now after next did =
      let few = few_done desk last.done end last.has goes in
      record {
        old = desk;
        was = closed;
        before = faults;
        by = Itself;
        done = last.done + 1;
        few = omega (arith, few.1);
        has = counts_itself desk later closed now faults after last.done next few.0 did;
        did = did;
        rest = λ new then since final more all.
            subst (All start first counted User new then since final) (let e : last.done + suc more ≡ last.done + 1 + more = omega arith in e)
            (last.rest new then since final (suc more) (goes_again last.old desk new last.was closed then last.before faults since last.by end final more last.did goes all));
      }

  -- and no other
  pub all_last : (start : View D O) (first : List Closed) (counted : NetFault → ℕ) (desk : View D O) (closed : List Closed) (faults : NetFault → ℕ) (end : Ended) → IsLast start first counted desk closed faults end → (GoesOn desk id end → ⊥)
      → Fetched tells clock says far counts net start desk first closed counted faults id slices at end
  all_last start first counted desk closed faults end last stays =
      let none : last.done + 0 ≡ last.done = omega arith in
      record {
        more = last.done;
        few = last.few;
        all = subst (All start first counted User desk closed faults end) none (last.rest desk closed faults end 0 (once last.old last.was last.before last.by last.did.0 last.did.1 stays));
      }

  some_left : (desk : View D O) (end : Ended) → GoesOn desk id end → (left_of end (autos_at desk) ≡ 6 - autos_at desk) × (autos_at desk < 5)
  some_left desk ended.Complete goes = absurd goes
  some_left desk (ended.Stopped reason) goes = (refl, subst (λ (found : Option Item). autos_of found < 5) (sym goes.there) (few_autos goes.item goes.is))
  some_left desk (ended.Fault fault) goes = absurd goes

  fewer : (desk later : View D O) (closed now : List Closed) (faults after : NetFault → ℕ) (next : Ended) → autos_at desk < 5 → Did desk closed faults later now after Itself next → left_of next (autos_at later) < 6 - autos_at desk
  fewer desk later closed now faults after ended.Complete few did = omega (arith, few)
  fewer desk later closed now faults after (ended.Stopped reason) few did =
      let rise : autos_at later ≡ autos_at desk + 1 = autos_rise tells clock says far counts net desk later closed now faults after id Itself slices at reason did.0 in
      omega (arith, few, rise)
  fewer desk later closed now faults after (ended.Fault fault) few did = omega (arith, few)

  pub fewer_left : (desk : View D O) (closed : List Closed) (faults : NetFault → ℕ) (end : Ended) → GoesOn desk id end → (later : View D O) (now : List Closed) (after : NetFault → ℕ) (next : Ended) → Did desk closed faults later now after Itself next
      → left_of next (autos_at later) < left_of end (autos_at desk)
  fewer_left desk closed faults end goes later now after next did =
      let left = some_left desk end goes in
      let less = fewer desk later closed now faults after next left.1 did in
      omega (arith, left.0, less)
