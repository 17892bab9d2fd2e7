use Rattle.std.proofs.Common.{◌≡◌, ◌∙◌}
use Rattle.std.specs.List.{insert}
use Rattle.dm_hist.proofs.Placing.{put_at, put_in}
use Rattle.dm_hist.proofs.rows.put.Goals as goal
use Rattle.dm_hist.proofs.rows.put.Goals.{in-Ok-insert, in-Err-insert}

pub returns-in-Ok-clause-ok : goal.returns-in-Ok-clause-ok
returns-in-Ok-clause-ok c = put_at c.args.rows.now.items c.args.row c.requires c.in-Ok.place (rw c.deref.ensures.value at c.in-Ok.ensures.found)

pub returns-after-insert-clause-ok : goal.returns-after-insert-clause-ok
returns-after-insert-clause-ok c =
    elim c.match-insert.branch [
      | in-Ok-insert w ↦ rw w.result-is
          (let new : c.insert.new.self.items ≡ insert c.args.rows.now.items c.in-Err.place c.args.row = rw w.in-Ok-insert.is at c.insert.ensures.items in
          new ∙ put_in c.args.rows.now.items c.args.row c.in-Err.place (rw c.deref.ensures.value at c.in-Err.ensures.absent))
      | in-Err-insert w ↦ rw w.result-is tt
    ]
