use Rattle.std.proofs.Common.{inl, arith}
use Rattle.dm_disk_model.proofs.Beside.{besides_same}
use Rattle.dm_answers.specs.Reads.{IsPartOrNameOf}
use Rattle.dm_store.specs.Origin.{said_of}
use Rattle.dm_store.specs.Store.{view_of}
use Rattle.dm_store.proofs.Keeping.{keeps_then}
use Rattle.dm_finish.proofs.Givings.{gives_after, gives_beside, gives_fell, gives_near, giving_behind, naming_name, naming_part, reads_given, cause_then}
use Rattle.dm_finish.proofs.naming.give_name.Goals as goal

pub record_whole-requires-clause-ending : goal.record_whole-requires-clause-ending
record_whole-requires-clause-ending g c =
    record { digest = c.args.digest; ending = c.requires.ending }

pub name_file-requires-clause-giving : goal.name_file-requires-clause-giving
name_file-requires-clause-giving g c =
    giving_behind g.D.Disk.tells g.D.Disk.history (λ o. said_of (g.O.Origin.says o)) (view_of c.args.store.now) (view_of c.record_whole.new.store) c.args.id c.args.total c.args.digest c.args.at c.in-Ok.ensures.makes c.record_whole.ensures.beside c.requires.ending c.args.naming.part c.args.naming.target c.requires.naming.name (naming_part (view_of c.args.store.now) c.args.id c.args.total c.args.naming c.requires.naming c.requires.ending.item c.requires.ending.there) (naming_name (view_of c.args.store.now) c.args.id c.args.total c.args.naming c.requires.naming c.requires.ending.item c.requires.ending.there) c.requires.naming.target_is

pub name_file-requires-clause-room : goal.name_file-requires-clause-room
name_file-requires-clause-room g c =
    let room = c.in-Ok.ensures.room in omega (arith, room)

pub returns-in-Ok-clause-makes : goal.returns-in-Ok-clause-makes
returns-in-Ok-clause-makes g c =
    gives_after g.D.Disk.tells g.D.Disk.history (λ o. said_of (g.O.Origin.says o)) (view_of c.args.store.now) (view_of c.record_whole.new.store) c.args.id c.args.total c.args.digest c.args.at c.in-Ok.ensures.makes c.record_whole.ensures.beside c.requires.ending c.args.naming.part c.args.naming.target c.requires.naming.name (naming_part (view_of c.args.store.now) c.args.id c.args.total c.args.naming c.requires.naming c.requires.ending.item c.requires.ending.there) (naming_name (view_of c.args.store.now) c.args.id c.args.total c.args.naming c.requires.naming c.requires.ending.item c.requires.ending.there) c.requires.naming.target_is (view_of c.name_file.new.store) c.name_file.result c.name_file.ensures.makes

pub returns-in-Ok-clause-keeps : goal.returns-in-Ok-clause-keeps
returns-in-Ok-clause-keeps g c =
    keeps_then g.D.Disk.tells g.D.Disk.history (λ o. said_of (g.O.Origin.says o)) (view_of c.args.store.now) (view_of c.record_whole.new.store) (view_of c.name_file.new.store) c.record_whole.ensures.keeps c.in-Ok.ensures.makes.origin c.in-Ok.ensures.makes.failed_is c.name_file.ensures.keeps

pub returns-in-Ok-clause-reads : goal.returns-in-Ok-clause-reads
returns-in-Ok-clause-reads g c told =
    reads_given g.D.Disk.tells g.D.Disk.history (λ o. said_of (g.O.Origin.says o)) (view_of c.args.store.now) (view_of c.record_whole.new.store) c.args.id c.args.total c.args.digest c.args.at c.in-Ok.ensures.makes c.record_whole.ensures.beside c.requires.ending c.args.naming.part c.args.naming.target c.requires.naming.name (naming_part (view_of c.args.store.now) c.args.id c.args.total c.args.naming c.requires.naming c.requires.ending.item c.requires.ending.there) (naming_name (view_of c.args.store.now) c.args.id c.args.total c.args.naming c.requires.naming c.requires.ending.item c.requires.ending.there) c.requires.naming.target_is c.name_file.result (g.D.Disk.history c.name_file.new.store.disk) told (c.name_file.ensures.reads told)

pub returns-in-Ok-clause-beside : goal.returns-in-Ok-clause-beside
returns-in-Ok-clause-beside g c told =
    gives_beside g.D.Disk.tells g.D.Disk.history (λ o. said_of (g.O.Origin.says o)) (view_of c.args.store.now) (view_of c.record_whole.new.store) c.args.id c.args.total c.args.digest c.args.at c.in-Ok.ensures.makes c.record_whole.ensures.beside c.requires.ending c.args.naming.part c.args.naming.target c.requires.naming.name (naming_part (view_of c.args.store.now) c.args.id c.args.total c.args.naming c.requires.naming c.requires.ending.item c.requires.ending.there) (naming_name (view_of c.args.store.now) c.args.id c.args.total c.args.naming c.requires.naming c.requires.ending.item c.requires.ending.there) c.requires.naming.target_is (view_of c.name_file.new.store) c.name_file.result c.name_file.ensures.makes told (c.name_file.ensures.beside told)

pub returns-in-Ok-clause-cause : goal.returns-in-Ok-clause-cause
returns-in-Ok-clause-cause g c =
    cause_then (g.D.Disk.faults c.args.store.now.disk) (g.D.Disk.faults c.record_whole.new.store.disk) (g.D.Disk.faults c.name_file.new.store.disk) c.name_file.result c.record_whole.ensures.cause.later c.name_file.ensures.cause

pub returns-in-Ok-clause-far : goal.returns-in-Ok-clause-far
returns-in-Ok-clause-far g c =
    gives_near g.D.Disk.tells g.D.Disk.history (λ o. said_of (g.O.Origin.says o)) (view_of c.args.store.now) (view_of c.record_whole.new.store) c.args.id c.args.total c.args.digest c.args.at c.in-Ok.ensures.makes c.record_whole.ensures.beside c.requires.ending c.args.naming.part c.args.naming.target c.requires.naming.name (naming_part (view_of c.args.store.now) c.args.id c.args.total c.args.naming c.requires.naming c.requires.ending.item c.requires.ending.there) (naming_name (view_of c.args.store.now) c.args.id c.args.total c.args.naming c.requires.naming c.requires.ending.item c.requires.ending.there) c.requires.naming.target_is (view_of c.name_file.new.store) c.name_file.result (g.D.Disk.far c.args.store.now.disk) (g.D.Disk.far c.record_whole.new.store.disk) (g.D.Disk.far c.name_file.new.store.disk) c.name_file.ensures.makes c.record_whole.ensures.far c.name_file.ensures.far

pub returns-clause-makes : goal.returns-clause-makes
returns-clause-makes g c =
    inl (gives_fell (view_of c.args.store.now) (view_of c.record_whole.new.store) c.args.id c.args.total c.args.digest c.args.at c.in-Err.ensures.makes)

pub returns-clause-beside : goal.returns-clause-beside
returns-clause-beside g c told =
    besides_same (IsPartOrNameOf (view_of c.record_whole.new.store) c.args.id) (g.D.Disk.history c.args.store.now.disk) (g.D.Disk.history c.record_whole.new.store.disk) (c.record_whole.ensures.beside told)
