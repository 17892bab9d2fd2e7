use Rattle.std.proofs.Common.{[], ◌∷◌, List, true, inr, refl, subst}
use Rattle.dm_types.specs.Name.{IsPart}
use Rattle.dm_types.specs.declared.entry.Entry.TheVariants as entries
use Rattle.dm_types.specs.declared.item.Item.{Item}
use Rattle.dm_types.specs.declared.reason.Reason.{Reason}
use Rattle.dm_policy.specs.Cause.{reason_of_file}
use Rattle.dm_disk_model.proofs.Beside.{besides_stay}
use Rattle.dm_store.specs.Becomes.{Becomes}
use Rattle.dm_store.specs.Origin.{said_of}
use Rattle.dm_store.specs.Store.{view_of}
use Rattle.dm_store.proofs.Saved.{from_disk, rose_first}
use Rattle.dm_begin.specs.Naming.{AreTaken}
use Rattle.dm_begin.proofs.Named.{name_answers}
use Rattle.dm_begin.proofs.Still.{still_keeps}
use Rattle.dm_begin.proofs.describing.describe_item.Goals as goal

pub returns-in-Ok-clause-answers : goal.returns-in-Ok-clause-answers
returns-in-Ok-clause-answers g c =
    name_answers g.D.Disk.tells g.D.Disk.history g.D.Disk.faults (view_of c.args.store.now) (view_of c.give_name.new.store) c.taken_names.new.disk c.args.pass.now c.args.told c.in-Ok.taken
    (subst (λ (items : List Item). AreTaken g.D.Disk.tells (g.D.Disk.history c.args.store.now.disk) items c.in-Ok.taken) c.items.ensures c.in-Ok.ensures.taken)
    c.taken_names.ensures.still c.taken_names.ensures.cause.later c.requires.whole c.requires.silent c.give_name.result c.give_name.ensures.answers

pub returns-in-Err-Disk-clause-answers : goal.returns-in-Err-Disk-clause-answers
returns-in-Err-Disk-clause-answers g c = (
  c.requires.silent,
  record {
    behind = entries.Broke c.args.pass.now.id (reason_of_file c.in-Err-Disk.kind) ∷ [];
    is = inr (inr (record {
      entry = entries.Broke c.args.pass.now.id (reason_of_file c.in-Err-Disk.kind);
      is = record {
        kind = c.in-Err-Disk.kind;
        rose = rose_first (g.D.Disk.faults c.args.store.now.disk c.in-Err-Disk.kind) (g.D.Disk.faults c.taken_names.new.disk c.in-Err-Disk.kind) (g.D.Disk.faults c.interrupt.new.store.disk c.in-Err-Disk.kind)
            (rw c.in-Err-Disk.field-0-is at c.in-Err-Disk.ensures.cause.cause) (c.interrupt.ensures.cause.later c.in-Err-Disk.kind);
        is = refl;
      };
      one = refl;
    }));
    fell = record {
      recorded = [];
      entry = entries.Broke c.args.pass.now.id (reason_of_file c.in-Err-Disk.kind);
      rest = [];
      tries_are = refl;
      becomes = subst (λ (r : Reason). Becomes (view_of c.args.store.now) (view_of c.interrupt.new.store) [] (entries.Broke c.args.pass.now.id r ∷ []) true) c.reason_of.ensures
          (from_disk (view_of c.args.store.now) _ c.taken_names.new.disk _ _ _ c.in-Err.ensures.makes);
    };
  },
)

pub returns-clause-keeps : goal.returns-clause-keeps
returns-clause-keeps g c =
    still_keeps g.D.Disk.tells g.D.Disk.history (λ o. said_of (g.O.Origin.says o)) (view_of c.args.store.now) c.taken_names.new.disk c.taken_names.ensures.still c.requires.store.desk c.requires.whole

pub returns-clause-beside : goal.returns-clause-beside
returns-clause-beside g c told = besides_stay IsPart (g.D.Disk.history c.args.store.now.disk) (g.D.Disk.history c.taken_names.new.disk) c.taken_names.ensures.still
