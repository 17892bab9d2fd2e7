use Rattle.std.proofs.Common.{List, ℕ, Err, refl, ap, subst}
use Rattle.dm_types.specs.Name.{IsPart}
use Rattle.dm_types.specs.declared.entry.Entry.TheVariants as entries
use Rattle.dm_types.specs.declared.reason.Reason.TheVariants as reasons
use Rattle.dm_disk_model.proofs.Beside.{besides_stay}
use Rattle.dm_name.specs.Forms.{AreAllTaken, IsFirstFree}
use Rattle.dm_store.specs.Origin.{said_of}
use Rattle.dm_store.specs.Store.{view_of}
use Rattle.dm_store.proofs.Keeping.{keeps_same}
use Rattle.dm_answers.specs.Describe.{described_by}
use Rattle.dm_begin.proofs.Named.{all_failed, entry_describes, entry_spelled, name_failed}
use Rattle.dm_begin.proofs.describing.give_name.Goals as goal

pub describe_as-requires-clause-spelled : goal.describe_as-requires-clause-spelled
describe_as-requires-clause-spelled g c =
    entry_spelled c.args.pass.now c.args.told c.in-Ok.name c.args.taken.now c.requires.telling (subst (λ (wish : List ℕ). IsFirstFree wish c.args.taken.now c.in-Ok.name) c.bytes.ensures c.in-Ok.ensures.free)

pub describe_as-requires-clause-describing : goal.describe_as-requires-clause-describing
describe_as-requires-clause-describing g c =
    entry_describes g.D.Disk.tells g.D.Disk.history (view_of c.args.store.now) c.args.pass.now c.args.told c.in-Ok.name c.args.taken.now c.requires.telling
    (subst (λ (wish : List ℕ). IsFirstFree wish c.args.taken.now c.in-Ok.name) c.bytes.ensures c.in-Ok.ensures.free) c.requires.taken c.requires.silent

pub returns-in-Ok-describe_as-clause-reads : goal.returns-in-Ok-describe_as-clause-reads
returns-in-Ok-describe_as-clause-reads g c told is = c.in-Ok-describe_as.ensures.reads told

pub returns-in-Ok-clause-answers : goal.returns-in-Ok-clause-answers
returns-in-Ok-clause-answers g c =
    name_failed g.D.Disk.faults (view_of c.args.store.now) (view_of c.describe_as.new.store) c.args.pass.now c.args.told c.args.taken.now (described_by c.args.pass.now c.args.told c.in-Ok.name) c.in-Err.fault
    (record { name = c.in-Ok.name; free = subst (λ (wish : List ℕ). IsFirstFree wish c.args.taken.now c.in-Ok.name) c.bytes.ensures c.in-Ok.ensures.free; is = refl }) c.in-Err.ensures.answers

pub returns-in-Ok-interrupt-clause-answers : goal.returns-in-Ok-interrupt-clause-answers
returns-in-Ok-interrupt-clause-answers g c = record {
  entry = entries.Broke c.args.pass.now.id reasons.FileFailed;
  is = record {
    all = subst (λ (wish : List ℕ). AreAllTaken wish c.args.taken.now) c.bytes.ensures (c.in-Err-AllTaken.ensures.all_taken (ap Err c.in-Err-AllTaken.field-0-is));
    is = refl;
  };
  recorded = c.in-Ok-interrupt.ensures.makes;
}

pub returns-in-Err-AllTaken-clause-answers : goal.returns-in-Err-AllTaken-clause-answers
returns-in-Err-AllTaken-clause-answers g c =
    all_failed g.D.Disk.faults (view_of c.args.store.now) (view_of c.interrupt.new.store) c.args.pass.now c.args.told c.args.taken.now c.in-Err-interrupt.kind
    (subst (λ (wish : List ℕ). AreAllTaken wish c.args.taken.now) c.bytes.ensures (c.in-Err-AllTaken.ensures.all_taken (ap Err c.in-Err-AllTaken.field-0-is))) c.in-Err-interrupt.ensures.makes

pub returns-clause-keeps : goal.returns-clause-keeps
returns-clause-keeps g c = keeps_same g.D.Disk.tells g.D.Disk.history (λ o. said_of (g.O.Origin.says o)) (view_of c.args.store.now) (view_of c.args.store.now) refl

pub returns-clause-beside : goal.returns-clause-beside
returns-clause-beside g c told = besides_stay IsPart (g.D.Disk.history c.args.store.now.disk) (g.D.Disk.history c.args.store.now.disk) refl
