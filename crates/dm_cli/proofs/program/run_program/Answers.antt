use Rattle.std.proofs.Common.{refl}
use Rattle.dm_kept.specs.Files.{Says}
use Rattle.dm_store.specs.Origin.{said_of}
use Rattle.dm_list.specs.Running.{world_of}
use Rattle.dm_list.specs.Writing.{outputs_of}
use Rattle.dm_past.specs.Past.{past_of}
use Rattle.dm_import.specs.Explaining.{ExplainsImport}
use Rattle.dm_cli.specs.Program.{by_import, by_rehearsal, by_words}
use Rattle.dm_cli.proofs.Origins.{at_origin}
use Rattle.dm_cli.proofs.program.run_program.Goals as goal

pub returns-in-Some : goal.returns-in-Some
returns-in-Some g c = by_rehearsal c.in-Some.number c.in-Some.ensures.some (record { prints = c.run_rehearsal-status.ensures; world_stays = refl; past_stays = refl })

pub returns-in-Some-read_import : goal.returns-in-Some-read_import
returns-in-Some-read_import g c =
    by_import c.in-Some-read_import.name.now c.in-Some-read_import.ensures.some
    (at_origin (λ o. said_of (g.N.O.Origin.says o))
    (λ (says : Says). ExplainsImport (record { disk = g.D.Disk.tells; clock = g.C.Clock.tells; outputs = g.S.Sink.tells }) g.K.Keeper.tells says c.in-Some-read_import.name.now (g.C.Clock.next c.args.clock.now)
    (world_of g.D.Disk.history g.D.Disk.faults (g.N.Net.faults c.args.net.now) (g.N.Net.closed c.args.net.now) c.args.disk) (world_of g.D.Disk.history g.D.Disk.faults (g.N.Net.faults c.args.net.now) (g.N.Net.closed c.args.net.now) c.run_import.result.disk)
    (past_of g.K.Keeper.rows g.K.Keeper.faults c.args.keeper.now) (past_of g.K.Keeper.rows g.K.Keeper.faults c.run_import.new.keeper) (g.D.Disk.far c.args.disk) (g.D.Disk.far c.run_import.result.disk)
    (outputs_of g.S.Sink.written g.S.Sink.faults c.args.out.now c.args.errs.now) (outputs_of g.S.Sink.written g.S.Sink.faults c.run_import.new.out c.run_import.new.errs) c.run_import.result.status)
    c.origin.result (g.N.Net.origin_of c.args.net.now) c.origin.ensures (c.run_import.ensures (g.N.Net.faults c.args.net.now) (g.N.Net.closed c.args.net.now)))

pub returns-in-None-read_import : goal.returns-in-None-read_import
returns-in-None-read_import g c = by_words c.in-None.ensures.none c.in-None-read_import.ensures.none c.run_with_history.ensures
