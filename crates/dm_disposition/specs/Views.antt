-- What the notes of the code say, as lists.
use Rattle.std.specs.Prelude.{ℕ, List, map, Result, Ok, Err}
use Rattle.dm_disposition.specs.Names.{Named}
use Rattle.dm_disposition.specs.Machine.{Notes, StopsAt, EndsWith}
use Rattle.dm_disposition.specs.declared.notes.Parameter.{Parameter}
use Rattle.dm_disposition.specs.declared.notes.Notes.{Notes as Held}
use Rattle.dm_disposition.specs.declared.DispFault.{DispFault}
use Rattle.dm_disposition.specs.declared.DispFault.TheVariants.{NotGrammar, Repeated, NoMemory}

abbrev pub named : Parameter → Named
named p = record { place = p.place; name = p.name.items; text = p.text.items }

abbrev pub view : Held → Notes
view n = record { state = n.state; kind = n.kind.items; done = map named n.done.items; place = n.place; name = n.name.items; text = n.text.items }

-- what a run gave
abbrev pub Gives : List ℕ → Result Held DispFault → Type 0
Gives text (Ok notes) = EndsWith text (view notes)
Gives text (Err (NotGrammar k)) = StopsAt text k
Gives text (Err (Repeated place)) = ⊥
Gives text (Err NoMemory) = Unit {0}
