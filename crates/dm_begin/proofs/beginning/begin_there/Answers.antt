use Rattle.std.proofs.Common.{false, [], ◌∷◌, refl, arith}
use Rattle.dm_journal.proofs.Calls.{keeps_then as files_then}
use Rattle.dm_store.specs.Origin.{said_of}
use Rattle.dm_store.specs.Store.{view_of}
use Rattle.dm_store.proofs.Composing.{becomes_then, near_then}
use Rattle.dm_store.proofs.Keeping.{keeps_then}
use Rattle.dm_begin.specs.Start.{began_by}
use Rattle.dm_begin.proofs.Starts.{own_there}
use Rattle.dm_begin.proofs.Firsts.{begun_alive, same_life, same_taken, stands_long}
use Rattle.dm_types.specs.declared.entry.Entry.TheVariants as entries
use Rattle.dm_types.specs.declared.reason.Reason.TheVariants as reasons
use Rattle.dm_begin.proofs.beginning.begin_there.Goals as goal

pub record_began-requires-clause-taken : goal.record_began-requires-clause-taken
record_began-requires-clause-taken g c =
    same_taken (view_of c.args.store.now) c.args.id c.args.pass c.args.by c.args.at c.args.beginning.life c.requires.start.item c.requires.start.there c.requires.start.is.may c.requires.start.is.is.anew c.requires.start.is.is.pass_is c.requires.life

pub record_began-requires-clause-life : goal.record_began-requires-clause-life
record_began-requires-clause-life g c =
    same_life (view_of c.args.store.now) c.args.id c.args.pass c.args.by c.args.at c.args.beginning.life c.requires.start.item c.requires.start.there c.requires.start.is.may c.requires.start.is.is.anew c.requires.start.is.is.pass_is c.requires.life

pub record_began-requires-clause-stand : goal.record_began-requires-clause-stand
record_began-requires-clause-stand g c told =
    stands_long g.D.Disk.tells g.D.Disk.history (λ o. said_of (g.O.Origin.says o)) (view_of c.args.store.now) c.requires.store.desk c.requires.whole c.args.pass c.args.by c.args.at c.requires.start.item (own_there c.args.pass c.requires.start.item c.args.id c.args.store.now.items.items c.requires.start.is.is.pass_is c.requires.start.there) (same_taken (view_of c.args.store.now) c.args.id c.args.pass c.args.by c.args.at c.args.beginning.life c.requires.start.item c.requires.start.there c.requires.start.is.may c.requires.start.is.is.anew c.requires.start.is.is.pass_is c.requires.life) c.args.have told (c.requires.found told c.requires.start.item c.requires.start.there)

pub interrupt-requires-clause-lives : goal.interrupt-requires-clause-lives
interrupt-requires-clause-lives g c =
    begun_alive g.D.Disk.tells g.D.Disk.history (view_of c.record_began.new.store) c.record_began.ensures.store.desk c.in-Ok.ensures.makes.broken_is c.args.pass c.args.by c.args.at c.args.store.now.items c.in-Ok.ensures.makes.items_are c.requires.start.item (own_there c.args.pass c.requires.start.item c.args.id c.args.store.now.items.items c.requires.start.is.is.pass_is c.requires.start.there)

pub returns-in-Ok-interrupt-clause-answers : goal.returns-in-Ok-interrupt-clause-answers
returns-in-Ok-interrupt-clause-answers g c =
    let short = c.if-have-wanted.false in ((refl, refl), (omega (arith, short), becomes_then (view_of c.args.store.now) (view_of c.record_began.new.store) (view_of c.interrupt.new.store) (began_by c.args.pass c.args.by c.args.at ∷ []) c.in-Ok.ensures.makes (entries.Broke c.args.pass.id reasons.FileTooShort ∷ []) [] false c.in-Ok-interrupt.ensures.makes))

pub returns-in-Ok-interrupt-clause-keeps : goal.returns-in-Ok-interrupt-clause-keeps
returns-in-Ok-interrupt-clause-keeps g c =
    keeps_then g.D.Disk.tells g.D.Disk.history (λ o. said_of (g.O.Origin.says o)) (view_of c.args.store.now) (view_of c.record_began.new.store) (view_of c.interrupt.new.store) c.record_began.ensures.keeps c.in-Ok.ensures.makes.origin c.in-Ok.ensures.makes.failed_is c.interrupt.ensures.keeps

pub returns-in-Ok-interrupt-clause-beside : goal.returns-in-Ok-interrupt-clause-beside
returns-in-Ok-interrupt-clause-beside g c told =
    files_then (g.D.Disk.history c.args.store.now.disk) (g.D.Disk.history c.record_began.new.store.disk) (g.D.Disk.history c.interrupt.new.store.disk) (c.record_began.ensures.beside told) (c.interrupt.ensures.beside told)

pub returns-in-Ok-interrupt-clause-far : goal.returns-in-Ok-interrupt-clause-far
returns-in-Ok-interrupt-clause-far g c =
    near_then (view_of c.args.store.now) (view_of c.record_began.new.store) (view_of c.interrupt.new.store) (began_by c.args.pass c.args.by c.args.at ∷ []) c.in-Ok.ensures.makes (entries.Broke c.args.pass.id reasons.FileTooShort ∷ []) (g.D.Disk.far c.args.store.now.disk) (g.D.Disk.far c.record_began.new.store.disk) (g.D.Disk.far c.interrupt.new.store.disk) c.in-Ok-interrupt.ensures.makes.list_is c.record_began.ensures.far c.interrupt.ensures.far

pub returns-in-Err-interrupt-clause-keeps : goal.returns-in-Err-interrupt-clause-keeps
returns-in-Err-interrupt-clause-keeps g c =
    keeps_then g.D.Disk.tells g.D.Disk.history (λ o. said_of (g.O.Origin.says o)) (view_of c.args.store.now) (view_of c.record_began.new.store) (view_of c.interrupt.new.store) c.record_began.ensures.keeps c.in-Ok.ensures.makes.origin c.in-Ok.ensures.makes.failed_is c.interrupt.ensures.keeps

pub returns-in-Err-interrupt-clause-beside : goal.returns-in-Err-interrupt-clause-beside
returns-in-Err-interrupt-clause-beside g c told =
    files_then (g.D.Disk.history c.args.store.now.disk) (g.D.Disk.history c.record_began.new.store.disk) (g.D.Disk.history c.interrupt.new.store.disk) (c.record_began.ensures.beside told) (c.interrupt.ensures.beside told)

pub returns-in-Err-interrupt-clause-far : goal.returns-in-Err-interrupt-clause-far
returns-in-Err-interrupt-clause-far g c =
    near_then (view_of c.args.store.now) (view_of c.record_began.new.store) (view_of c.interrupt.new.store) (began_by c.args.pass c.args.by c.args.at ∷ []) c.in-Ok.ensures.makes [] (g.D.Disk.far c.args.store.now.disk) (g.D.Disk.far c.record_began.new.store.disk) (g.D.Disk.far c.interrupt.new.store.disk) c.in-Err-interrupt.ensures.makes.list_is c.record_began.ensures.far c.interrupt.ensures.far
