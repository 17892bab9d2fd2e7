-- What an item that may begin is, and what its entries are.
use Rattle.std.proofs.Common.{◌≡◌, ◌≢◌, ◌⊎◌, inl, inr, ℕ, ◌+◌, ◌<◌, ◌≤◌, ◌^◌, ◌==◌, Bool, true, false, not, ◌&&◌, ◌||◌, cond, IsTrue, List, [], ◌∷◌, ◌++◌, Option, Some, None, refl, sym, ◌∙◌, ap, subst, arith}
use Rattle.std.specs.Prelude.{IsSome, nat_lt}
use Rattle.std.specs.Option.{option_map}
use Rattle.std.proofs.lemmas.Bool.{cases_lt, false≢true}
use Rattle.std.proofs.lemmas.Bool.Decides.{nat_tests}
use Rattle.dm_types.specs.declared.entry.Entry.TheVariants as entries
use Rattle.dm_types.specs.declared.item.Item.{Item}
use Rattle.dm_types.specs.declared.item.ItemId.{ItemId}
use Rattle.dm_types.specs.declared.item.Phase.{Phase}
use Rattle.dm_types.specs.declared.item.Phase.TheVariants as phases
use Rattle.dm_types.specs.declared.kinds.By.{By}
use Rattle.dm_types.specs.declared.kinds.By.TheVariants.{User, Itself}
use Rattle.dm_types.specs.declared.kinds.Mode.{Mode}
use Rattle.dm_types.specs.declared.kinds.Mode.TheVariants as modes
use Rattle.dm_types.specs.declared.slices.Slice.{Slice}
use Rattle.dm_policy.specs.Mode.{asked_mode, asks_user, because_by, by_user, is_continue, is_last_attempt, is_restart, mode_by, placed_mode}
use Rattle.dm_slice.specs.Cover.{IsCoverWithin}
use Rattle.dm_slice.specs.Words.{IsNormal, IsWithin, covered, cover_end}
use Rattle.dm_item.specs.History.{get}
use Rattle.dm_item.specs.Listing.{Admits, Listing, Row, applied, changed_at, item_in}
use Rattle.dm_item.specs.Restored.{IsCovered, IsSound}
use Rattle.dm_item.proofs.Continuing.{can_go_on}
use Rattle.dm_item.specs.Row.{IsBegun, begins_by, begins_in, changed, facts_of, is_interrupted, is_waiting, mode_in, mode_of_item, restarted_item}
use Rattle.dm_item.proofs.Restarts.{restarted_begins}
use Rattle.dm_kept.proofs.Lists.{changed_here, id_in}
use Rattle.dm_store.specs.declared.pass.Pass.{Pass}
use Rattle.dm_answers.specs.Begin.{beginning, begins_anew, because_of, epoch_behind, key_behind, may_begin, pass_of}
use Rattle.dm_begin.specs.Start.{IsRule, StartsAnew, began_by, restart_by}

and-false : (b : Bool) → (b && false) ≡ false
and-false true = refl
and-false false = refl

pub both-left : (a b : Bool) → IsTrue (a && b) → IsTrue a
both-left true b is = refl
both-left false b is = absurd (false≢true is)

pub both-right : (a b : Bool) → IsTrue (a && b) → IsTrue b
both-right true b is = is
both-right false b is = absurd (false≢true is)

test-is : (n m : ℕ) → n ≡ m → (n == m) ≡ true
test-is n m same = grind (arith, nat_tests)

-- An item whose attempts are used up may not begin.

none-in : (phase : Phase) → mode_in phase modes.Invalid ≡ modes.Invalid
none-in phases.Waiting = refl
none-in phases.Running = refl
none-in phases.Paused = refl
none-in phases.Finishing = refl
none-in phases.Complete = refl
none-in phases.Cancelled = refl
none-in (phases.Interrupted reason) = refl

none-begins : (by : By) → begins_by by modes.Invalid ≡ false
none-begins User = refl
none-begins Itself = refl

pub attempt_left : (by : By) (item : Item) → IsTrue (may_begin by item) → item.attempt.0 ≢ 4294967295
attempt_left by item may same =
    let facts = facts_of item in
    let last : is_last_attempt facts ≡ true = test-is item.attempt.0 4294967295 same in
    let mode : mode_by item.reason facts ≡ modes.Invalid = ap (λ (b : Bool). cond b modes.Invalid (cond (asks_user facts) (by_user (placed_mode item.reason facts)) (placed_mode item.reason facts))) last in
    let whole : mode_of_item item ≡ modes.Invalid = ap (mode_in item.phase) mode ∙ none-in item.phase in
    let none : begins_by by (mode_of_item item) ≡ false = ap (begins_by by) whole ∙ none-begins by in
    false≢true (sym none ∙ both-right (begins_in by item.phase) (begins_by by (mode_of_item item)) may)

-- the epoch rises with the attempts
pub epoch_counted : (item : Item) → IsSound item → begins_anew item ≡ true → item.epoch.0 ≤ item.attempt.0
epoch_counted item sound anew =
    let begun : item.begun ≡ true = both-left item.begun (is_restart (mode_of_item item)) anew in
    let high = sound.counted.epoch_high in
    let none = ap {B = ℕ} (λ (b : Bool). cond b 0 1) begun in
    omega (arith, high, none)

end-within : (bound : ℕ) (slices : List Slice) → IsWithin bound slices → cover_end slices ≤ bound
end-within bound [] within = omega arith
end-within bound (slice ∷ rest) within = let here = within.0 in let later = end-within bound rest within.1 in omega (arith, here, later)

pub end_small : (item : Item) → IsSound item → cover_end item.slices ≤ 2 ^ 40
end_small item sound = end-within (2 ^ 40) item.slices sound.covered.greatest

-- What goes on has places that were saved.

restart-in : (phase : Phase) (mode : Mode) → IsTrue (is_restart (mode_in phase mode)) → IsTrue (is_restart mode)
restart-in phases.Waiting mode is = is
restart-in phases.Running mode is = is
restart-in phases.Paused mode is = is
restart-in (phases.Interrupted reason) mode is = is
restart-in phases.Finishing mode is = absurd (false≢true is)
restart-in phases.Complete mode is = absurd (false≢true is)
restart-in phases.Cancelled mode is = absurd (false≢true is)

pub restart_mode : (item : Item) → begins_anew item ≡ true → IsTrue (is_restart (mode_by item.reason (facts_of item)))
restart_mode item anew = restart-in item.phase (mode_by item.reason (facts_of item)) (both-right item.begun (is_restart (mode_of_item item)) anew)

continues : (by : By) (mode : Mode) → IsTrue (begins_by by mode) → is_restart mode ≡ false → IsTrue (is_continue mode)
continues User modes.Invalid begins anew = absurd (false≢true begins)
continues Itself modes.Invalid begins anew = absurd (false≢true begins)
continues by modes.ImmediateContinue begins anew = refl
continues by modes.UserContinue begins anew = refl
continues by modes.ImmediateRestart begins anew = absurd (false≢true (sym anew))
continues by modes.UserRestart begins anew = absurd (false≢true (sym anew))

goes-on : (begun restart : Bool) → (begun && restart) ≡ false → IsTrue begun → restart ≡ false
goes-on true restart none begun = none
goes-on false restart none begun = absurd (false≢true begun)

pub continues_item : (by : By) (item : Item) → IsTrue (may_begin by item) → begins_anew item ≡ false → IsTrue item.begun → IsTrue (is_continue (mode_of_item item))
continues_item by item may anew begun =
    continues by (mode_of_item item) (both-right (begins_in by item.phase) (begins_by by (mode_of_item item)) may) (goes-on item.begun (is_restart (mode_of_item item)) anew begun)

last-is : (a b c : Bool) → IsTrue (a && b && c) → IsTrue c
last-is a b c is = both-right (a && b) c is

some-end : (slices : List Slice) → 0 < covered slices → 0 < cover_end slices
some-end [] some = absurd (omega (arith, some))
some-end (slice ∷ rest) some = by (λ more. some-end rest more) (cases_lt 0 slice.got)
  where
    by : (0 < covered rest → 0 < cover_end rest) → (0 < slice.got) ⊎ (slice.got ≤ 0) → 0 < cover_end (slice ∷ rest)
    by later (inl own) = omega (arith, own)
    by later (inr none) = let more : 0 < covered rest = omega (arith, some, none) in let high = later more in omega (arith, high)

test-less : (n m : ℕ) → IsTrue (nat_lt n m) → n < m
test-less n m is = grind (arith, nat_tests)

pub kept_some : (by : By) (item : Item) → IsSound item → IsTrue (may_begin by item) → begins_anew item ≡ false → IsSome item.key → 0 < cover_end item.slices
kept_some by item sound may anew told =
    let facts = facts_of item in
    let goes = continues_item by item may anew (sound.told.is_begun told) in
    some-end item.slices
    (test-less 0 (covered item.slices)
    (last-is facts.strong facts.total facts.covered
    (can_go_on item goes)))

-- The list takes the entries.

pub own_there : (pass : Pass) (item : Item) (id : ItemId) (items : List Item) → pass ≡ pass_of item → item_in id.0 items ≡ Some item → item_in pass.id.0 items ≡ Some item
own_there pass item id items is there =
    subst (λ (n : ℕ). item_in n items ≡ Some item) (sym (ap (λ (p : Pass). p.id.0) is ∙ id_in id.0 item items there)) there

pub began_taken : (by : By) (at : ℕ) (pass : Pass) (item : Item) (id : ItemId) (v : Listing) → item_in id.0 v.items ≡ Some item → IsTrue (may_begin by item) → begins_anew item ≡ false → pass ≡ pass_of item → Admits v (began_by pass by at)
began_taken by at pass item id v there may anew is = record {
  room = tt;
  meets = subst (λ (found : Option Item). Row (began_by pass by at) v.items found) (sym (own_there pass item id v.items is there)) (
    both-left (begins_in by item.phase) (begins_by by (mode_of_item item)) may,
    record {
      next = ap (λ (p : Pass). p.attempt.0) is;
      mode = both-right (begins_in by item.phase) (begins_by by (mode_of_item item)) may;
      goes_on = continues_item by item may anew;
    },
  );
}

waits : (by : By) (phase : Phase) → IsTrue (begins_in by phase) → (is_waiting phase || is_interrupted phase) ≡ true
waits User phases.Waiting may = refl
waits User (phases.Interrupted reason) may = refl
waits User phases.Running may = absurd (false≢true may)
waits User phases.Paused may = absurd (false≢true may)
waits User phases.Finishing may = absurd (false≢true may)
waits User phases.Complete may = absurd (false≢true may)
waits User phases.Cancelled may = absurd (false≢true may)
waits Itself phases.Waiting may = refl
waits Itself (phases.Interrupted reason) may = refl
waits Itself phases.Running may = absurd (false≢true may)
waits Itself phases.Paused may = absurd (false≢true may)
waits Itself phases.Finishing may = absurd (false≢true may)
waits Itself phases.Complete may = absurd (false≢true may)
waits Itself phases.Cancelled may = absurd (false≢true may)

pub next_epoch : (item : Item) → begins_anew item ≡ true → epoch_behind item ≡ item.epoch.0 + 1
next_epoch item anew = ap (λ (b : Bool). cond b (item.epoch.0 + 1) item.epoch.0) anew

pub same_epoch : (item : Item) → begins_anew item ≡ false → epoch_behind item ≡ item.epoch.0
same_epoch item anew = ap (λ (b : Bool). cond b (item.epoch.0 + 1) item.epoch.0) anew

pub restart_taken : (by : By) (pass : Pass) (because : ℕ) (item : Item) (id : ItemId) (v : Listing) → item_in id.0 v.items ≡ Some item → IsTrue (may_begin by item) → StartsAnew item pass because → Admits v (restart_by pass because)
restart_taken by pass because item id v there may starts = record {
  room = tt;
  meets = subst (λ (found : Option Item). Row (restart_by pass because) v.items found) (sym (own_there pass item id v.items starts.pass_is there)) (
    waits by item.phase (both-left (begins_in by item.phase) (begins_by by (mode_of_item item)) may),
    record {
      begun = both-left item.begun (is_restart (mode_of_item item)) starts.anew;
      mode = both-right item.begun (is_restart (mode_of_item item)) starts.anew;
      next = ap (λ (p : Pass). p.epoch.0) starts.pass_is ∙ next_epoch item starts.anew;
      first = starts.because_is;
    },
  );
}

-- the item behind the restart
pub restart_there : (pass : Pass) (because : ℕ) (item : Item) (items : List Item) → item_in pass.id.0 items ≡ Some item → item_in pass.id.0 (changed_at (restart_by pass because) pass.id.0 items) ≡ Some (restarted_item pass.epoch item)
restart_there pass because item items there = changed_here (restart_by pass because) pass.id.0 (λ x. refl) items ∙ ap (option_map (changed (restart_by pass because))) there

pub began_behind : (by : By) (at : ℕ) (pass : Pass) (because : ℕ) (item : Item) (id : ItemId) (v : Listing) → item_in id.0 v.items ≡ Some item → IsTrue (may_begin by item) → StartsAnew item pass because
    → Admits (applied (restart_by pass because) v) (began_by pass by at)
began_behind by at pass because item id v there may starts =
    let begins = both-left (begins_in by item.phase) (begins_by by (mode_of_item item)) may in
    let is = restarted_begins pass.id pass.epoch because by item (waits by item.phase begins) (both-right (begins_in by item.phase) (begins_by by (mode_of_item item)) may) in
    record {
      room = tt;
      meets = subst (λ (found : Option Item). Row (began_by pass by at) (changed_at (restart_by pass because) pass.id.0 v.items) found)
          (sym (restart_there pass because item v.items (own_there pass item id v.items starts.pass_is there))) (
            begins,
            subst (λ (n : ℕ). IsBegun (restarted_item pass.epoch item) n by) (sym (ap (λ (p : Pass). p.attempt.0) starts.pass_is)) is,
          );
    }

-- a rule's number
rule-of : (a b c d : Bool) (n : ℕ) → cond a (Some 1) (cond b (Some 2) (cond c (Some 3) (cond d (Some 4) None))) ≡ Some n → IsRule n
rule-of true b c d n is = let same : 1 ≡ n = cc in (omega (arith, same), omega (arith, same))
rule-of false true c d n is = let same : 2 ≡ n = cc in (omega (arith, same), omega (arith, same))
rule-of false false true d n is = let same : 3 ≡ n = cc in (omega (arith, same), omega (arith, same))
rule-of false false false true n is = let same : 4 ≡ n = cc in (omega (arith, same), omega (arith, same))
rule-of false false false false n is = absurd cc

pub rule_is : (item : Item) (because : ℕ) → because_by item.reason (facts_of item) ≡ Some because → IsRule because
rule_is item because is =
    let facts = facts_of item in rule-of (is_restart (asked_mode item.reason)) (not facts.strong) (not facts.total) (not facts.covered) because is

-- What is recorded.

pub beginning_one : (item : Item) (by : By) (at : ℕ) (pass : Pass) → begins_anew item ≡ false → pass ≡ pass_of item → beginning item by at ≡ began_by pass by at ∷ []
beginning_one item by at pass anew is =
    ap (λ (b : Bool). cond b (entries.Restarted item.id (record { 0 = epoch_behind item }) (because_of item) ∷ []) [] ++ entries.Began item.id (record { 0 = item.attempt.0 + 1 }) by at ∷ []) anew
    ∙ ap (λ (p : Pass). began_by p by at ∷ []) (sym is)

pub beginning_two : (item : Item) (by : By) (at : ℕ) (pass : Pass) (because : ℕ) → StartsAnew item pass because → beginning item by at ≡ restart_by pass because ∷ began_by pass by at ∷ []
beginning_two item by at pass because starts =
    ap (λ (b : Bool). cond b (entries.Restarted item.id (record { 0 = epoch_behind item }) (because_of item) ∷ []) [] ++ entries.Began item.id (record { 0 = item.attempt.0 + 1 }) by at ∷ []) starts.anew
    ∙ ap (λ (found : Option ℕ). entries.Restarted item.id (record { 0 = epoch_behind item }) (get found 0) ∷ entries.Began item.id (record { 0 = item.attempt.0 + 1 }) by at ∷ []) starts.because_is
    ∙ ap (λ (p : Pass). restart_by p because ∷ began_by p by at ∷ []) (sym starts.pass_is)

pub key_same : (item : Item) → begins_anew item ≡ false → key_behind item ≡ item.key
key_same item anew = ap (λ (b : Bool). cond b None item.key) anew

pub key_gone : (item : Item) → begins_anew item ≡ true → key_behind item ≡ None
key_gone item anew = ap (λ (b : Bool). cond b None item.key) anew

-- a saved cover is one for the total, or for none
pub covered_none : (total : Option ℕ) (slices : List Slice) → IsCovered total slices → (IsCoverWithin total slices → ⊥) → (IsCoverWithin None slices → ⊥) → ⊥
covered_none total slices is first second = by is.normal
  where
    by : IsNormal total slices ⊎ IsNormal None slices → ⊥
    by (inl normal) = first (record { normal = normal; greatest = is.greatest; within = is.within })
    by (inr normal) = second (record { normal = normal; greatest = is.greatest; within = tt })
