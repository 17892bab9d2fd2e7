use Rattle.dm_disk_model.specs.Disk.{now}
use Rattle.dm_find.proofs.Founds.{find_failed, found_moments, found_none, found_some, in_some, list_refused, lists_found, start_refused, started_found, started_moments}
use Rattle.dm_find.proofs.finding.find_list.Goals as goal

pub returns-in-Ok-Some-clause-moments : goal.returns-in-Ok-Some-clause-moments
returns-in-Ok-Some-clause-moments g c tells =
    found_moments (g.D.Disk.history c.args.disk.now) (g.D.Disk.history c.find.new.disk) (c.in-Ok-Some.ensures.any_moment tells)

pub returns-in-Ok-Some-clause-found : goal.returns-in-Ok-Some-clause-found
returns-in-Ok-Some-clause-found g c =
    let start = g.D.Disk.history c.args.disk.now in
    let end = g.D.Disk.history c.find.new.disk in
    lists_found g.D.Disk.tells start end c.args.limit c.in-Ok-Some.journal c.in-Ok-Some.bodies c.read_list.result
    (λ told. found_some (now start) (now end) c.in-Ok-Some.field-0 c.in-Ok-Some.journal c.in-Ok-Some.bodies (c.in-Ok-Some.ensures.found told) c.in-Ok-Some.field-0-is)
    (in_some c.in-Ok-Some.field-0 c.in-Ok-Some.journal c.in-Ok-Some.bodies c.in-Ok-Some.ensures.at c.in-Ok-Some.field-0-is) c.read_list.ensures.journal c.read_list.ensures.found

pub returns-in-Ok-Some-clause-refused : goal.returns-in-Ok-Some-clause-refused
returns-in-Ok-Some-clause-refused g c tells =
    let start = g.D.Disk.history c.args.disk.now in
    let end = g.D.Disk.history c.find.new.disk in
    let both = found_some (now start) (now end) c.in-Ok-Some.field-0 c.in-Ok-Some.journal c.in-Ok-Some.bodies (c.in-Ok-Some.ensures.found tells) c.in-Ok-Some.field-0-is in
    list_refused start end (c.in-Ok-Some.ensures.any_moment tells) c.args.limit c.in-Ok-Some.journal c.in-Ok-Some.bodies c.read_list.result (c.in-Ok-Some.ensures.reads tells) both.0 c.read_list.ensures.refused

pub returns-in-Ok-None-clause-moments : goal.returns-in-Ok-None-clause-moments
returns-in-Ok-None-clause-moments g c tells =
    let start = g.D.Disk.history c.args.disk.now in
    let middle = g.D.Disk.history c.find.new.disk in
    let both = found_none (now start) (now middle) c.in-Ok-None.field-0 (c.in-Ok-None.ensures.found tells) c.in-Ok-None.field-0-is in
    started_moments start middle (g.D.Disk.history c.start_list.new.disk) both.0 (c.in-Ok-None.ensures.any_moment tells) (c.start_list.ensures.moments tells)

pub returns-in-Ok-None-clause-refused : goal.returns-in-Ok-None-clause-refused
returns-in-Ok-None-clause-refused g c tells =
    let start = g.D.Disk.history c.args.disk.now in
    let middle = g.D.Disk.history c.find.new.disk in
    let both = found_none (now start) (now middle) c.in-Ok-None.field-0 (c.in-Ok-None.ensures.found tells) c.in-Ok-None.field-0-is in
    start_refused start middle (g.D.Disk.history c.start_list.new.disk) both.0 (c.in-Ok-None.ensures.any_moment tells) (c.start_list.ensures.moments tells) c.args.limit c.start_list.result c.start_list.ensures.undamaged

pub returns-in-Ok-None-clause-found : goal.returns-in-Ok-None-clause-found
returns-in-Ok-None-clause-found g c =
    let start = g.D.Disk.history c.args.disk.now in
    started_found g.D.Disk.tells start (g.D.Disk.history c.start_list.new.disk) c.args.limit c.start_list.result
    (λ told. (found_none (now start) (now (g.D.Disk.history c.find.new.disk)) c.in-Ok-None.field-0 (c.in-Ok-None.ensures.found told) c.in-Ok-None.field-0-is).0) c.start_list.ensures.ok c.start_list.ensures.items c.start_list.ensures.at

pub returns-in-Err-clause-moments : goal.returns-in-Err-clause-moments
returns-in-Err-clause-moments g c tells =
    found_moments (g.D.Disk.history c.args.disk.now) (g.D.Disk.history c.find.new.disk) (c.in-Err.ensures.any_moment tells)

pub returns-in-Err-clause-refused : goal.returns-in-Err-clause-refused
returns-in-Err-clause-refused g c tells =
    let start = g.D.Disk.history c.args.disk.now in
    let end = g.D.Disk.history c.find.new.disk in
    find_failed start end (c.in-Err.ensures.any_moment tells) c.args.limit c.in-Err.fault (c.in-Err.ensures.reads tells) (c.in-Err.ensures.found tells)
