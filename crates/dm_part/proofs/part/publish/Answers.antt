use Rattle.dm_disk_model.specs.Disk.{now}
use Rattle.dm_part.proofs.Publication.{moves_refused, moves_done, whole_refused, whole_done, durable_done}
use Rattle.dm_part.proofs.part.publish.Goals as goal

pub returns-in-Ok-clause-moves : goal.returns-in-Ok-clause-moves
returns-in-Ok-clause-moves g c tells differ =
    let history = g.D.Disk.history in
    moves_done c.args.part.now c.args.target.now (c.requires.one_area tells) differ c.args.target.now.area c.sync_names.result
    (now (history c.args.disk.now)) (now (history c.rename.new.self)) (now (history c.sync_names.new.self)) (c.in-Ok.ensures.done tells).stepped (c.sync_names.ensures.done tells).stepped

pub returns-in-Ok-clause-whole : goal.returns-in-Ok-clause-whole
returns-in-Ok-clause-whole g c tells file settled absent =
    let history = g.D.Disk.history in
    whole_done c.args.part.now c.args.target.now (c.requires.one_area tells) file (history c.args.disk.now) settled absent c.args.target.now.area c.sync_names.result
    (history c.rename.new.self) (history c.sync_names.new.self) (c.in-Ok.ensures.done tells) (c.sync_names.ensures.done tells)

pub returns-in-Err-clause-moves : goal.returns-in-Err-clause-moves
returns-in-Err-clause-moves g c tells differ =
    let history = g.D.Disk.history in
    moves_refused c.args.part.now c.args.target.now (c.requires.one_area tells) differ c.in-Err.fault
    (now (history c.args.disk.now)) (now (history c.rename.new.self)) (c.in-Err.ensures.done tells).stepped

pub returns-in-Err-clause-whole : goal.returns-in-Err-clause-whole
returns-in-Err-clause-whole g c tells file settled absent =
    let history = g.D.Disk.history in
    whole_refused c.args.part.now c.args.target.now (c.requires.one_area tells) file (history c.args.disk.now) settled absent c.in-Err.fault (history c.rename.new.self) (c.in-Err.ensures.done tells)

pub returns-in-Ok-clause-durable : goal.returns-in-Ok-clause-durable
returns-in-Ok-clause-durable g c tells file settled =
    let history = g.D.Disk.history in
    durable_done c.args.part.now c.args.target.now file c.sync_names.result (now (history c.args.disk.now)) (now (history c.rename.new.self)) (now (history c.sync_names.new.self))
    (c.requires.one_area tells) settled (c.in-Ok.ensures.done tells).stepped (c.sync_names.ensures.done tells).stepped
