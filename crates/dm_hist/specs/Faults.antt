-- The one kind of fault that a keeper counts. Want of memory has none.
use Rattle.std.specs.Prelude.{ℕ, Bool, true, false, Option, Some, None, Result, Ok, Err}
use Rattle.dm_types.specs.declared.memory.NoMemory.{NoMemory as Wants}
use Rattle.dm_hist.specs.declared.keeper.KeeperFault.{KeeperFault}
use Rattle.dm_hist.specs.declared.keeper.KeeperFault.TheVariants.{Failed, NoMemory}

abbrev pub keeper_kind : KeeperFault → Option KeeperFault
keeper_kind Failed = Some Failed
keeper_kind NoMemory = None

-- how often a call failed, where one number counts it
abbrev pub keeper_count : ℕ → KeeperFault → ℕ
keeper_count failed Failed = failed
keeper_count failed NoMemory = 0

-- the fault is a failure, and no want of memory
abbrev pub is_failure : KeeperFault → Bool
is_failure Failed = true
is_failure NoMemory = false

-- the call failed
abbrev pub has_failed : {T : Type 0} → Result T KeeperFault → Bool
has_failed (Ok value) = false
has_failed (Err fault) = is_failure fault

-- an answer that can only want memory, as a keeper gives it
abbrev pub answer_of : {T : Type 0} → Result T Wants → Result T KeeperFault
answer_of (Ok value) = Ok value
answer_of (Err wants) = Err NoMemory
