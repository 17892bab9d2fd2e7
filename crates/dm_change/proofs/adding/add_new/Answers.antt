use Rattle.std.proofs.Common.{[], ◌∷◌, Err, subst}
use Rattle.dm_types.specs.declared.entry.Entry.{Entry}
use Rattle.dm_store.specs.Becomes.{Fell, Recorded}
use Rattle.dm_store.specs.Store.{view_of}
use Rattle.dm_store.specs.Unrecorded.{UnrecordedMakes}
use Rattle.dm_store.specs.declared.unrecorded.Unrecorded.{Unrecorded}
use Rattle.dm_store.proofs.Composing.{fell_one}
use Rattle.dm_change.proofs.Taking.{entry_is, new_of, spelled_of, taken_of}
use Rattle.dm_change.proofs.adding.add_new.Goals as goal

pub record_new-requires-clause-added : goal.record_new-requires-clause-added
record_new-requires-clause-added g c = new_of c.args.store.now.items c.args.order c.args.at c.args.id c.added-entry.result c.added-entry.ensures

pub record_new-requires-clause-spelled : goal.record_new-requires-clause-spelled
record_new-requires-clause-spelled g c = spelled_of c.args.store.now.items c.args.order c.args.at c.args.id c.added-entry.result c.added-entry.ensures c.requires.order

pub record_new-requires-clause-taken : goal.record_new-requires-clause-taken
record_new-requires-clause-taken g c = taken_of c.args.store.now.items c.args.order c.args.at c.args.id c.added-entry.result c.added-entry.ensures c.requires.id c.requires.fresh

pub returns-in-Ok-clause-answers : goal.returns-in-Ok-clause-answers
returns-in-Ok-clause-answers g c = (
  c.requires.id,
  c.requires.fresh,
  subst (λ (e : Entry). Recorded (view_of c.args.store.now) (view_of c.record_new.new.store) (e ∷ [])) (entry_is c.args.store.now.items c.args.order c.args.at c.args.id c.added-entry.result c.added-entry.ensures c.requires.id) c.in-Ok.ensures.makes,
)

pub returns-in-Journal-clause-answers : goal.returns-in-Journal-clause-answers
returns-in-Journal-clause-answers g c = (
  c.requires.fresh,
  subst (λ (e : Entry). Fell (view_of c.args.store.now) (view_of c.record_new.new.store) (e ∷ [])) (entry_is c.args.store.now.items c.args.order c.args.at c.args.id c.added-entry.result c.added-entry.ensures c.requires.id)
      (fell_one (view_of c.args.store.now) (view_of c.record_new.new.store) c.added-entry.result
      (subst (λ (f : Unrecorded). UnrecordedMakes (view_of c.args.store.now) (view_of c.record_new.new.store) c.added-entry.result (Err f)) c.in-Journal.is c.in-Err.ensures.makes)),
)
