use Rattle.std.proofs.Common.{[], ◌∷◌, Some, None, refl, sym, ◌∙◌, subst}
use Rattle.dm_types.specs.declared.reason.Reason.{Reason}
use Rattle.dm_store.specs.Becomes.{Fell}
use Rattle.dm_store.specs.Store.{view_of}
use Rattle.dm_store.proofs.Saved.{rose_first}
use Rattle.dm_begin.specs.Start.{began_by}
use Rattle.dm_begin.proofs.Begins.{file_fell, missing_answers, missing_fell, there_answers}
use Rattle.dm_begin.proofs.Firsts.{item_sound, part_has, same_life, same_taken}
use Rattle.dm_types.specs.declared.entry.Entry.TheVariants as entries
use Rattle.dm_begin.proofs.beginning.begin_looked.Goals as goal

pub begin_there-requires-clause-found : goal.begin_there-requires-clause-found
begin_there-requires-clause-found g c told =
    part_has g.D.Disk.history (view_of c.args.store.now) c.args.id c.args.beginning.life c.requires.life c.length.new.self c.length.ensures.stays (Some c.in-Ok-Some.have) (sym c.in-Ok-Some.field-0-is ∙ c.in-Ok-Some.ensures.length told)

pub record_both-requires-clause-taken : goal.record_both-requires-clause-taken
record_both-requires-clause-taken g c =
    same_taken (view_of c.args.store.now) c.args.id c.args.pass c.args.by c.args.at c.args.beginning.life c.requires.start.item c.requires.start.there c.requires.start.is.may c.requires.start.is.is.anew c.requires.start.is.is.pass_is c.requires.life

pub record_both-requires-clause-life : goal.record_both-requires-clause-life
record_both-requires-clause-life g c =
    same_life (view_of c.args.store.now) c.args.id c.args.pass c.args.by c.args.at c.args.beginning.life c.requires.start.item c.requires.start.there c.requires.start.is.may c.requires.start.is.is.anew c.requires.start.is.is.pass_is c.requires.life

pub record_both-requires-in-Err-clause-taken : goal.record_both-requires-in-Err-clause-taken
record_both-requires-in-Err-clause-taken g c =
    same_taken (view_of c.args.store.now) c.args.id c.args.pass c.args.by c.args.at c.args.beginning.life c.requires.start.item c.requires.start.there c.requires.start.is.may c.requires.start.is.is.anew c.requires.start.is.is.pass_is c.requires.life

pub record_both-requires-in-Err-clause-life : goal.record_both-requires-in-Err-clause-life
record_both-requires-in-Err-clause-life g c =
    same_life (view_of c.args.store.now) c.args.id c.args.pass c.args.by c.args.at c.args.beginning.life c.requires.start.item c.requires.start.there c.requires.start.is.may c.requires.start.is.is.anew c.requires.start.is.is.pass_is c.requires.life

pub returns-in-Ok-Some-clause-answers : goal.returns-in-Ok-Some-clause-answers
returns-in-Ok-Some-clause-answers g c =
    there_answers g.D.Disk.tells g.D.Disk.history g.D.Disk.faults c.args.id c.args.by c.args.at (view_of c.args.store.now) (view_of c.begin_there.new.store) c.args.pass c.args.wanted c.requires.start c.length.new.self c.in-Ok-Some.have (λ told. part_has g.D.Disk.history (view_of c.args.store.now) c.args.id c.args.beginning.life c.requires.life c.args.store.now.disk refl (Some c.in-Ok-Some.have) (sym c.in-Ok-Some.field-0-is ∙ c.in-Ok-Some.ensures.length told)) c.begin_there.result c.begin_there.ensures.answers

pub returns-in-Ok-clause-answers : goal.returns-in-Ok-clause-answers
returns-in-Ok-clause-answers g c =
    missing_answers g.D.Disk.tells g.D.Disk.history g.D.Disk.faults c.args.id c.args.by c.args.at (view_of c.args.store.now) (view_of c.record_both.new.store) c.args.pass c.args.wanted c.requires.start c.length.new.self (item_sound g.D.Disk.tells g.D.Disk.history (view_of c.args.store.now) c.args.id.0 c.requires.start.item c.requires.store.desk c.requires.start.there) (λ told. part_has g.D.Disk.history (view_of c.args.store.now) c.args.id c.args.beginning.life c.requires.life c.args.store.now.disk refl None (sym c.in-Ok-None.field-0-is ∙ c.in-Ok-None.ensures.length told)) c.in-Ok.ensures.makes

pub returns-in-Err-record_both-clause-answers : goal.returns-in-Err-record_both-clause-answers
returns-in-Err-record_both-clause-answers g c =
    missing_fell g.D.Disk.tells g.D.Disk.history g.D.Disk.faults c.args.id c.args.by c.args.at (view_of c.args.store.now) (view_of c.record_both.new.store) c.args.pass c.args.wanted c.requires.start c.length.new.self (item_sound g.D.Disk.tells g.D.Disk.history (view_of c.args.store.now) c.args.id.0 c.requires.start.item c.requires.store.desk c.requires.start.there) (λ told. part_has g.D.Disk.history (view_of c.args.store.now) c.args.id c.args.beginning.life c.requires.life c.args.store.now.disk refl None (sym c.in-Ok-None.field-0-is ∙ c.in-Ok-None.ensures.length told)) c.in-Err-record_both.kind c.in-Err-record_both.ensures.makes

pub returns-in-Err-record_both-2-clause-answers : goal.returns-in-Err-record_both-2-clause-answers
returns-in-Err-record_both-2-clause-answers g c =
    file_fell g.D.Disk.tells g.D.Disk.history g.D.Disk.faults c.args.id c.args.by c.args.at (view_of c.args.store.now) (view_of c.record_both-in-Err.new.store) c.args.pass c.args.wanted c.requires.start c.length.new.self c.in-Err.fault.0 c.in-Err-record_both-2.kind
    (rose_first (g.D.Disk.faults c.args.store.now.disk c.in-Err.fault.0) (g.D.Disk.faults c.length.new.self c.in-Err.fault.0) (g.D.Disk.faults c.record_both-in-Err.new.store.disk c.in-Err.fault.0) c.in-Err.ensures.cause.cause (c.record_both-in-Err.ensures.cause.later c.in-Err.fault.0))
    (subst (λ (r : Reason). Fell (record (view_of c.args.store.now) { disk = c.length.new.self }) (view_of c.record_both-in-Err.new.store) (began_by c.args.pass c.args.by c.args.at ∷ entries.Broke c.args.pass.id r ∷ [])) c.reason_of-reason.ensures c.in-Err-record_both-2.ensures.makes)
