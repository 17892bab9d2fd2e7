use Rattle.std.proofs.Common.{arith, sym, ◌∙◌, ◌<◌, length}
use Rattle.dm_disk.proofs.Picks.{names_synced_here, names_synced_before}
use Rattle.dm_disk.proofs.image.names_synced_at.Goals as goal
use Rattle.dm_disk.proofs.image.names_synced_at.Goals.{then-is_names_sync, else-is_names_sync}

pub loop-number-preserved : goal.loop-number-preserved
loop-number-preserved c =
    let lt : c.loop-number.number < length c.args.calls.now = omega arith in
    elim c.if-is_names_sync.branch [
      | then-is_names_sync w ↦ rw w.count-is (record {
        within = omega arith;
        names = names_synced_here c.args.calls.now c.loop-number.number c.index-calls-number.result c.args.area lt c.index-calls-number.is (sym c.is_names_sync.ensures ∙ w.if-is_names_sync.true);
      })
      | else-is_names_sync w ↦ rw w.count-is (record {
        within = omega arith;
        names = names_synced_before c.args.calls.now c.loop-number.number c.index-calls-number.result c.args.area _ lt c.index-calls-number.is (sym c.is_names_sync.ensures ∙ w.if-is_names_sync.false) c.loop-number.invariant.names;
      })
    ]
