-- Words that ask for a task, and runs of any words.
use Rattle.std.proofs.Common.{◌≡◌, inl, inr, ℕ, List, Option, Some, None, sym, ◌∙◌, ap, subst}
use Rattle.std.specs.Prelude.{IfSome, IfNone}
use Rattle.dm_types.specs.declared.kinds.DiskKind.{DiskKind}
use Rattle.dm_disk_model.specs.Disk.{History as Clock}
use Rattle.dm_edge.specs.declared.fault.NetFault.{NetFault}
use Rattle.dm_edge.specs.Wire.{Closed}
use Rattle.dm_item.proofs.Basics.{none_some}
use Rattle.dm_kept.specs.Files.{Says}
use Rattle.dm_report.specs.Said.{Said}
use Rattle.dm_words.specs.Asked.{Asked, Asks}
use Rattle.dm_does.specs.Answering.{Bringing}
use Rattle.dm_does.specs.Log.{Run}
use Rattle.dm_does.specs.World.{World}
use Rattle.dm_list.specs.Running.{world_of}
use Rattle.dm_past.specs.All.{AsksNoTask, RunsAll, by_list, by_row, by_task}
use Rattle.dm_past.specs.Listed.{RunsEither}
use Rattle.dm_past.specs.Past.{Past}
use Rattle.dm_past.specs.Running.{TaskRuns}
use Rattle.dm_past.specs.Tasks.{Does}
use Rattle.dm_past.specs.Words.{HasTask, task_of}
use Rattle.dm_past.specs.declared.task.Task.{Task}
use Rattle.dm_past.proofs.Left.{task_tells}
use Rattle.dm_past.proofs.Whole.{task_runs}

pub some_task : (words : List (List ℕ)) (asked : Asked) → Asks words asked → (found : Option Task) → found ≡ task_of asked → IfSome found (HasTask words)
some_task words asked asks (Some task) is = record { asked = asked; asks = asks; is = sym is }
some_task words asked asks None is = tt

pub none_task : (words : List (List ℕ)) (asked : Asked) → ((other : Asked) → Asks words other → other ≡ asked) → (found : Option Task) → found ≡ task_of asked → IfNone found ((task : Task) → HasTask words task → ⊥)
none_task words asked alone (Some task) is = tt
none_task words asked alone None is = λ task has. absurd (none_some (is ∙ ap task_of (sym (alone has.asked has.asks)) ∙ has.is))

pub no_words_task : (words : List (List ℕ)) → ((other : Asked) → Asks words other → ⊥) → (task : Task) → HasTask words task → ⊥
no_words_task words none task has = none has.asked has.asks

pub task_all : {D O : Type 0} (P : Run → Type 0) (brings : ℕ → Bringing) (tells told : Type 0) (clock : D → Clock) (counts : D → DiskKind → ℕ) (far : D → ℕ) (says : O → Says) (origin other : O) (words : List (List ℕ)) (task : Task) (at : ℕ) (start end : D) (past past' : Past) (said : Said)
    (net_faults : NetFault → ℕ) (closed : List Closed) → origin ≡ other → HasTask words task → TaskRuns tells told clock counts far says origin (Does told task) at start end past past' said
    → RunsAll P brings tells told (says other) words at (world_of clock counts net_faults closed start) (world_of clock counts net_faults closed end) past past' (far start) (far end) said
task_all {O = O} P brings tells told clock counts far says origin other words task at start end past past' said net_faults closed same has runs =
    subst (λ (o : O). RunsAll P brings tells told (says o) words at (world_of clock counts net_faults closed start) (world_of clock counts net_faults closed end) past past' (far start) (far end) said) same
    (by_task (record { task = task; has = has; runs = task_runs tells told clock counts far says origin (Does told task) (task_tells told task) at start past past' said net_faults closed end runs }))

pub either_all : (P : Run → Type 0) (brings : ℕ → Bringing) (tells told : Type 0) (says : Says) (words : List (List ℕ)) (at : ℕ) (before after : World) (past past' : Past) (far far' : ℕ) (said : Said) → AsksNoTask words → RunsEither P brings tells told says words at before after past past' far far' said
    → RunsAll P brings tells told says words at before after past past' far far' said
either_all P brings tells told says words at before after past past' far far' said none (inl listed) = by_list none listed
either_all P brings tells told says words at before after past past' far far' said none (inr row) = by_row row
