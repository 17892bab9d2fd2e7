-- Which names a session may touch, from what the desk's calls say.
use Rattle.std.proofs.Common.{inl, inr, ℕ, List, Option, None, sym, subst}
use Rattle.dm_disk_model.specs.Beside.{Besides, LeftAsBefore, WasUnder}
use Rattle.dm_disk_model.specs.Disk.{DiskState, History as Clock, now}
use Rattle.dm_disk_model.specs.Moments.{KeepsFiles}
use Rattle.dm_disk_model.proofs.Beside.{besides_more, besides_same, besides_then}
use Rattle.dm_disk_model.proofs.Reaching.{at_end}
use Rattle.dm_answers.specs.Reads.{IsSettledName}
use Rattle.dm_does.specs.Leaving.{IsLeftName, IsTouched, WasFree}
use Rattle.dm_does.specs.Log.{Run}

-- what an opening touches
pub settled_left : {D : Type 0} (clock : D → Clock) (disk : D) (name : List ℕ) → IsSettledName clock disk name → IsLeftName (clock disk) name
settled_left clock disk name (inl part) = inl part
settled_left clock disk name (inr given) = inr (record {
  found = given.found;
  reads = given.reads;
  id = given.id;
  item = given.item;
  there = given.there;
  finishing = given.finishing;
  named = given.named;
  parted = given.parted;
  free = given.free;
})

left_touched : (start : Clock) (run : Run) (name : List ℕ) → IsLeftName start name → IsTouched start run name
left_touched start run name (inl part) = inl part
left_touched start run name (inr given) = inr (inl given)

pub opening_touches : {D : Type 0} (clock : D → Clock) (disk : D) (mid : Clock) (run : Run) → Besides (IsSettledName clock disk) (clock disk) mid → Besides (IsTouched (clock disk) run) (clock disk) mid
opening_touches clock disk mid run beside =
    besides_more (IsSettledName clock disk) (IsTouched (clock disk) run) (clock disk) mid (λ name settled. left_touched (clock disk) run name (settled_left clock disk name settled)) beside

-- calls that leave the user's files as they are touch nothing, and what steps touch is touched by all of them
pub then_still : (start mid end : Clock) (run : Run) → Besides (IsTouched start run) start mid → KeepsFiles mid end → Besides (IsTouched start run) start end
then_still start mid end run beside keeps = besides_then (IsTouched start run) start mid end beside (besides_same (IsTouched start run) mid end keeps)

-- a name that was free, and that no step touched before, was free before them
pub free_before : (spared : List ℕ → Type 0) (old new : Clock) (name : List ℕ) → Besides spared old new → (spared name → ⊥) → WasFree new name → WasFree old name
free_before spared old new name beside apart free =
    let left : LeftAsBefore name (now old).files (now new).files = at_end old new (λ (disk : DiskState). (n : List ℕ) → (spared n → ⊥) → LeftAsBefore n (now old).files disk.files) beside name apart in
    subst (λ (found : Option (List ℕ)). WasUnder (now old).files name found) (sym free.same) (left free.before free.left)
