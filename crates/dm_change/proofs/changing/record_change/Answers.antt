use Rattle.std.proofs.Common.{[], ◌∷◌, inr, Err, subst, sym, IsTrue}
use Rattle.dm_types.specs.declared.entry.Entry.{Entry}
use Rattle.dm_record.specs.Limits.{IsSpellable}
use Rattle.dm_item.specs.Listing.{Admits}
use Rattle.dm_store.specs.Becomes.{Fell, Recorded}
use Rattle.dm_store.specs.Idle.{is_idle}
use Rattle.dm_store.specs.Store.{view_of}
use Rattle.dm_store.specs.Unrecorded.{UnrecordedMakes}
use Rattle.dm_store.specs.declared.unrecorded.Unrecorded.{Unrecorded}
use Rattle.dm_store.proofs.Composing.{fell_one}
use Rattle.dm_change.proofs.Changings.{idle_of, spellable_of}
use Rattle.dm_change.proofs.changing.record_change.Goals as goal

pub record_idle-requires-clause-idle : goal.record_idle-requires-clause-idle
record_idle-requires-clause-idle g c = subst (λ (e : Entry). IsTrue (is_idle e)) (sym c.entry_of.ensures) (idle_of c.args.change c.args.id)

pub record_idle-requires-clause-spelled : goal.record_idle-requires-clause-spelled
record_idle-requires-clause-spelled g c = subst IsSpellable (sym c.entry_of.ensures) (spellable_of c.args.change c.args.id)

pub record_idle-requires-clause-taken : goal.record_idle-requires-clause-taken
record_idle-requires-clause-taken g c = subst (Admits c.args.store.now.items) (sym c.entry_of.ensures) c.requires.due.admits

pub returns-in-Ok-clause-answers : goal.returns-in-Ok-clause-answers
returns-in-Ok-clause-answers g c =
    inr (c.requires.due, subst (λ (e : Entry). Recorded (view_of c.args.store.now) (view_of c.record_idle.new.store) (e ∷ [])) c.entry_of.ensures c.in-Ok.ensures.makes)

pub returns-in-Journal-clause-answers : goal.returns-in-Journal-clause-answers
returns-in-Journal-clause-answers g c = (
  c.requires.due,
  subst (λ (e : Entry). Fell (view_of c.args.store.now) (view_of c.record_idle.new.store) (e ∷ [])) c.entry_of.ensures
      (fell_one (view_of c.args.store.now) (view_of c.record_idle.new.store) c.entry_of.result
      (subst (λ (f : Unrecorded). UnrecordedMakes (view_of c.args.store.now) (view_of c.record_idle.new.store) c.entry_of.result (Err f)) c.in-Journal.is c.in-Err.ensures.makes)),
)
