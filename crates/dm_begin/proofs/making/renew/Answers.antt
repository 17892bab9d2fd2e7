use Rattle.std.proofs.Common.{inl, inr, refl, subst}
use Rattle.dm_disk_model.specs.Disk.{History, Next, RemoveStep}
use Rattle.dm_begin.proofs.Renewed.{making_of}
use Rattle.dm_begin.proofs.making.renew.Goals as goal

pub returns-in-Ok-None-clause-done : goal.returns-in-Ok-None-clause-done
returns-in-Ok-None-clause-done g c told = record {
  middle = g.D.Disk.history c.length.new.self;
  removed = inl c.length.ensures.stays;
  made = making_of c.args.part.now (g.D.Disk.history c.length.new.self) (g.D.Disk.history c.create.new.disk) c.create.result (c.create.ensures.done told);
}

pub returns-in-Ok-clause-done : goal.returns-in-Ok-clause-done
returns-in-Ok-clause-done g c told = record {
  middle = g.D.Disk.history c.discard.new.disk;
  removed = inr (record {
    answer = c.discard.result;
    run = subst (λ (start : History). Next start (g.D.Disk.history c.discard.new.disk) (RemoveStep c.args.part.now c.discard.result)) c.length.ensures.stays (c.discard.ensures.done told);
  });
  made = making_of c.args.part.now (g.D.Disk.history c.discard.new.disk) (g.D.Disk.history c.create-in-Ok.new.disk) c.create-in-Ok.result (c.create-in-Ok.ensures.done told);
}

pub returns-in-Err-clause-done : goal.returns-in-Err-clause-done
returns-in-Err-clause-done g c told = record {
  middle = g.D.Disk.history c.args.disk.now;
  removed = inl refl;
  made = inl c.length.ensures.stays;
}
