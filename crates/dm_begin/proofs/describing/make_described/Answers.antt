use Rattle.std.proofs.Common.{◌≢◌, true, [], ◌∷◌, Ok, length, vec_capacity, sym, ap, subst, ◌∙◌, inl, inr}
use Rattle.std.specs.Prelude.{is_some}
use Rattle.dm_types.specs.declared.entry.Entry.TheVariants as entries
use Rattle.dm_types.specs.declared.reason.Reason.{Reason}
use Rattle.dm_types.specs.declared.reason.Reason.TheVariants as reasons
use Rattle.dm_kept.proofs.Lists.{some_is}
use Rattle.dm_store.specs.declared.life.Life.{Life}
use Rattle.dm_store.specs.Becomes.{Becomes, Recorded}
use Rattle.dm_store.specs.Lives.{life_in}
use Rattle.dm_store.specs.Origin.{said_of}
use Rattle.dm_store.specs.Store.{view_of}
use Rattle.dm_store.proofs.Saved.{file_reason, from_disk, later_then, rose_first, rose_last}
use Rattle.dm_begin.specs.Anew.{Renews}
use Rattle.dm_begin.proofs.Telling.{describe_admits, describe_for, describe_keeps, describe_lives, describe_plain, describe_reads, describe_room, describe_stand, renewed_beside_then, renewed_desk, renewed_then}
use Rattle.dm_begin.proofs.describing.make_described.Goals as goal

pub record_described-requires-clause-store : goal.record_described-requires-clause-store
record_described-requires-clause-store g c =
    record { desk = renewed_desk g.D.Disk.tells g.D.Disk.history (λ o. said_of (g.O.Origin.says o)) (view_of c.args.store.now) c.requires.store.desk c.requires.whole c.args.id c.args.entry c.requires.describing c.renew.new.disk (Ok tt) (λ told. subst (λ (l : Life). Renews l.part (g.D.Disk.history c.args.store.now.disk) (g.D.Disk.history c.renew.new.disk) (Ok tt)) (some_is c.in-Some.life.now c.requires.describing.life (c.in-Some.ensures ∙ ap (life_in c.args.id.0) c.deref.ensures.value ∙ c.requires.describing.lives)) (c.in-Ok.ensures.done told)); room = c.requires.store.room }

pub record_described-requires-clause-plain : goal.record_described-requires-clause-plain
record_described-requires-clause-plain g c =
    describe_plain g.D.Disk.tells g.D.Disk.history (λ o. said_of (g.O.Origin.says o)) (view_of c.args.store.now) c.requires.store.desk c.requires.whole c.args.id c.args.entry c.requires.describing

pub record_described-requires-clause-taken : goal.record_described-requires-clause-taken
record_described-requires-clause-taken g c =
    describe_admits g.D.Disk.tells g.D.Disk.history (λ o. said_of (g.O.Origin.says o)) (view_of c.args.store.now) c.requires.store.desk c.requires.whole c.args.id c.args.entry c.requires.describing

pub record_described-requires-clause-life : goal.record_described-requires-clause-life
record_described-requires-clause-life g c =
    describe_for g.D.Disk.tells g.D.Disk.history (λ o. said_of (g.O.Origin.says o)) (view_of c.args.store.now) c.requires.store.desk c.requires.whole c.args.id c.args.entry c.requires.describing

pub record_described-requires-clause-lives : goal.record_described-requires-clause-lives
record_described-requires-clause-lives g c =
    describe_lives g.D.Disk.tells g.D.Disk.history (λ o. said_of (g.O.Origin.says o)) (view_of c.args.store.now) c.requires.store.desk c.requires.whole c.args.id c.args.entry c.requires.describing

pub record_described-requires-clause-stand : goal.record_described-requires-clause-stand
record_described-requires-clause-stand g c =
    describe_stand g.D.Disk.tells g.D.Disk.history (λ o. said_of (g.O.Origin.says o)) (view_of c.args.store.now) c.requires.store.desk c.requires.whole c.args.id c.args.entry c.requires.describing c.renew.new.disk (λ told. subst (λ (l : Life). Renews l.part (g.D.Disk.history c.args.store.now.disk) (g.D.Disk.history c.renew.new.disk) (Ok tt)) (some_is c.in-Some.life.now c.requires.describing.life (c.in-Some.ensures ∙ ap (life_in c.args.id.0) c.deref.ensures.value ∙ c.requires.describing.lives)) (c.in-Ok.ensures.done told))

pub record_described-requires-clause-room : goal.record_described-requires-clause-room
record_described-requires-clause-room g c =
    describe_room g.D.Disk.tells g.D.Disk.history (λ o. said_of (g.O.Origin.says o)) (view_of c.args.store.now) c.requires.store.desk c.requires.whole c.args.id c.args.entry c.requires.describing (length c.args.store.now.list.items) 0 (vec_capacity c.args.store.now.list) c.requires.room

pub interrupt-requires-clause-store : goal.interrupt-requires-clause-store
interrupt-requires-clause-store g c =
    record { desk = renewed_desk g.D.Disk.tells g.D.Disk.history (λ o. said_of (g.O.Origin.says o)) (view_of c.args.store.now) c.requires.store.desk c.requires.whole c.args.id c.args.entry c.requires.describing c.renew.new.disk c.renew.result (λ told. subst (λ (l : Life). Renews l.part (g.D.Disk.history c.args.store.now.disk) (g.D.Disk.history c.renew.new.disk) c.renew.result) (some_is c.in-Some.life.now c.requires.describing.life (c.in-Some.ensures ∙ ap (life_in c.args.id.0) c.deref.ensures.value ∙ c.requires.describing.lives)) (c.renew.ensures.done told)); room = c.requires.store.room }

pub interrupt-requires-clause-reason : goal.interrupt-requires-clause-reason
interrupt-requires-clause-reason g c =
    subst (λ (r : Reason). (r ≢ reasons.UserCanceled) × (r ≢ reasons.Crash)) (sym c.reason_of.ensures) (file_reason c.in-Err.fault.0)

pub interrupt-requires-clause-lives : goal.interrupt-requires-clause-lives
interrupt-requires-clause-lives g c =
    ap is_some c.requires.describing.lives

pub returns-in-Ok-record_described-clause-keeps : goal.returns-in-Ok-record_described-clause-keeps
returns-in-Ok-record_described-clause-keeps g c =
    describe_keeps g.D.Disk.tells g.D.Disk.history (λ o. said_of (g.O.Origin.says o)) (view_of c.args.store.now) c.requires.store.desk c.requires.whole c.args.id c.args.entry c.requires.describing c.renew.new.disk (λ told. subst (λ (l : Life). Renews l.part (g.D.Disk.history c.args.store.now.disk) (g.D.Disk.history c.renew.new.disk) (Ok tt)) (some_is c.in-Some.life.now c.requires.describing.life (c.in-Some.ensures ∙ ap (life_in c.args.id.0) c.deref.ensures.value ∙ c.requires.describing.lives)) (c.in-Ok.ensures.done told)) _ c.record_described.ensures.goes

pub returns-in-Err-record_described-clause-keeps : goal.returns-in-Err-record_described-clause-keeps
returns-in-Err-record_described-clause-keeps g c =
    describe_keeps g.D.Disk.tells g.D.Disk.history (λ o. said_of (g.O.Origin.says o)) (view_of c.args.store.now) c.requires.store.desk c.requires.whole c.args.id c.args.entry c.requires.describing c.renew.new.disk (λ told. subst (λ (l : Life). Renews l.part (g.D.Disk.history c.args.store.now.disk) (g.D.Disk.history c.renew.new.disk) (Ok tt)) (some_is c.in-Some.life.now c.requires.describing.life (c.in-Some.ensures ∙ ap (life_in c.args.id.0) c.deref.ensures.value ∙ c.requires.describing.lives)) (c.in-Ok.ensures.done told)) _ c.record_described.ensures.goes

pub returns-in-Ok-interrupt-clause-keeps : goal.returns-in-Ok-interrupt-clause-keeps
returns-in-Ok-interrupt-clause-keeps g c =
    renewed_then g.D.Disk.tells g.D.Disk.history (λ o. said_of (g.O.Origin.says o)) (view_of c.args.store.now) c.requires.store.desk c.requires.whole c.args.id c.args.entry c.requires.describing c.renew.new.disk c.renew.result (λ told. subst (λ (l : Life). Renews l.part (g.D.Disk.history c.args.store.now.disk) (g.D.Disk.history c.renew.new.disk) c.renew.result) (some_is c.in-Some.life.now c.requires.describing.life (c.in-Some.ensures ∙ ap (life_in c.args.id.0) c.deref.ensures.value ∙ c.requires.describing.lives)) (c.renew.ensures.done told)) _ c.interrupt.ensures.keeps

pub returns-in-Err-interrupt-clause-keeps : goal.returns-in-Err-interrupt-clause-keeps
returns-in-Err-interrupt-clause-keeps g c =
    renewed_then g.D.Disk.tells g.D.Disk.history (λ o. said_of (g.O.Origin.says o)) (view_of c.args.store.now) c.requires.store.desk c.requires.whole c.args.id c.args.entry c.requires.describing c.renew.new.disk c.renew.result (λ told. subst (λ (l : Life). Renews l.part (g.D.Disk.history c.args.store.now.disk) (g.D.Disk.history c.renew.new.disk) c.renew.result) (some_is c.in-Some.life.now c.requires.describing.life (c.in-Some.ensures ∙ ap (life_in c.args.id.0) c.deref.ensures.value ∙ c.requires.describing.lives)) (c.renew.ensures.done told)) _ c.interrupt.ensures.keeps

pub returns-in-Ok-record_described-clause-makes : goal.returns-in-Ok-record_described-clause-makes
returns-in-Ok-record_described-clause-makes g c =
    from_disk (view_of c.args.store.now) _ c.renew.new.disk _ _ _ c.in-Ok-record_described.ensures.makes

pub returns-in-Err-record_described-clause-makes : goal.returns-in-Err-record_described-clause-makes
returns-in-Err-record_described-clause-makes g c =
    inl (from_disk (view_of c.args.store.now) _ c.renew.new.disk _ _ _ c.in-Err-record_described.ensures.makes)

pub returns-in-Ok-interrupt-clause-makes : goal.returns-in-Ok-interrupt-clause-makes
returns-in-Ok-interrupt-clause-makes g c =
    subst (λ (r : Reason). Recorded (view_of c.args.store.now) (view_of c.interrupt.new.store) (entries.Broke c.args.id r ∷ [])) c.reason_of.ensures
    (from_disk (view_of c.args.store.now) _ c.renew.new.disk _ _ _ c.in-Ok-interrupt.ensures.makes)

pub returns-in-Err-interrupt-clause-makes : goal.returns-in-Err-interrupt-clause-makes
returns-in-Err-interrupt-clause-makes g c =
    inr (record {
      kind = c.in-Err.fault.0;
      rose = rose_first (g.D.Disk.faults c.args.store.now.disk c.in-Err.fault.0) (g.D.Disk.faults c.renew.new.disk c.in-Err.fault.0) (g.D.Disk.faults c.interrupt.new.store.disk c.in-Err.fault.0) c.in-Err.ensures.cause.cause (c.interrupt.ensures.cause.later c.in-Err.fault.0);
      becomes = subst (λ (r : Reason). Becomes (view_of c.args.store.now) (view_of c.interrupt.new.store) [] (entries.Broke c.args.id r ∷ []) true) c.reason_of.ensures (from_disk (view_of c.args.store.now) _ c.renew.new.disk _ _ _ c.in-Err-interrupt.ensures.makes);
    })

pub returns-in-Ok-record_described-clause-cause : goal.returns-in-Ok-record_described-clause-cause
returns-in-Ok-record_described-clause-cause g c =
    record { later = later_then (g.D.Disk.faults c.args.store.now.disk) (g.D.Disk.faults c.renew.new.disk) (g.D.Disk.faults c.record_described.new.store.disk) c.renew.ensures.cause.later c.record_described.ensures.cause.later; cause = tt }

pub returns-in-Err-record_described-clause-cause : goal.returns-in-Err-record_described-clause-cause
returns-in-Err-record_described-clause-cause g c =
    record { later = later_then (g.D.Disk.faults c.args.store.now.disk) (g.D.Disk.faults c.renew.new.disk) (g.D.Disk.faults c.record_described.new.store.disk) c.renew.ensures.cause.later c.record_described.ensures.cause.later; cause = rose_last (g.D.Disk.faults c.args.store.now.disk c.in-Err-record_described.kind) (g.D.Disk.faults c.renew.new.disk c.in-Err-record_described.kind) (g.D.Disk.faults c.record_described.new.store.disk c.in-Err-record_described.kind) (c.renew.ensures.cause.later c.in-Err-record_described.kind) c.in-Err-record_described.ensures.cause.cause }

pub returns-in-Ok-interrupt-clause-cause : goal.returns-in-Ok-interrupt-clause-cause
returns-in-Ok-interrupt-clause-cause g c =
    record { later = later_then (g.D.Disk.faults c.args.store.now.disk) (g.D.Disk.faults c.renew.new.disk) (g.D.Disk.faults c.interrupt.new.store.disk) c.renew.ensures.cause.later c.interrupt.ensures.cause.later; cause = rose_first (g.D.Disk.faults c.args.store.now.disk c.in-Err.fault.0) (g.D.Disk.faults c.renew.new.disk c.in-Err.fault.0) (g.D.Disk.faults c.interrupt.new.store.disk c.in-Err.fault.0) c.in-Err.ensures.cause.cause (c.interrupt.ensures.cause.later c.in-Err.fault.0) }

pub returns-in-Err-interrupt-clause-cause : goal.returns-in-Err-interrupt-clause-cause
returns-in-Err-interrupt-clause-cause g c =
    record { later = later_then (g.D.Disk.faults c.args.store.now.disk) (g.D.Disk.faults c.renew.new.disk) (g.D.Disk.faults c.interrupt.new.store.disk) c.renew.ensures.cause.later c.interrupt.ensures.cause.later; cause = rose_last (g.D.Disk.faults c.args.store.now.disk c.in-Err-interrupt.kind) (g.D.Disk.faults c.renew.new.disk c.in-Err-interrupt.kind) (g.D.Disk.faults c.interrupt.new.store.disk c.in-Err-interrupt.kind) (c.renew.ensures.cause.later c.in-Err-interrupt.kind) c.in-Err-interrupt.ensures.cause.cause }

pub returns-in-Ok-record_described-clause-far : goal.returns-in-Ok-record_described-clause-far
returns-in-Ok-record_described-clause-far g c short =
    c.record_described.ensures.far short ∙ c.renew.ensures.far

pub returns-in-Ok-record_described-clause-beside : goal.returns-in-Ok-record_described-clause-beside
returns-in-Ok-record_described-clause-beside g c told =
    renewed_beside_then g.D.Disk.tells g.D.Disk.history (λ o. said_of (g.O.Origin.says o)) (view_of c.args.store.now) c.requires.store.desk c.requires.whole c.args.id c.args.entry c.requires.describing c.renew.new.disk (Ok tt) (λ told. subst (λ (l : Life). Renews l.part (g.D.Disk.history c.args.store.now.disk) (g.D.Disk.history c.renew.new.disk) (Ok tt)) (some_is c.in-Some.life.now c.requires.describing.life (c.in-Some.ensures ∙ ap (life_in c.args.id.0) c.deref.ensures.value ∙ c.requires.describing.lives)) (c.in-Ok.ensures.done told)) (g.D.Disk.history c.record_described.new.store.disk) (g.met.D.Disk.sound told c.renew.new.disk) told (c.record_described.ensures.beside told)

pub returns-in-Err-record_described-clause-far : goal.returns-in-Err-record_described-clause-far
returns-in-Err-record_described-clause-far g c short =
    c.record_described.ensures.far short ∙ c.renew.ensures.far

pub returns-in-Err-record_described-clause-beside : goal.returns-in-Err-record_described-clause-beside
returns-in-Err-record_described-clause-beside g c told =
    renewed_beside_then g.D.Disk.tells g.D.Disk.history (λ o. said_of (g.O.Origin.says o)) (view_of c.args.store.now) c.requires.store.desk c.requires.whole c.args.id c.args.entry c.requires.describing c.renew.new.disk (Ok tt) (λ told. subst (λ (l : Life). Renews l.part (g.D.Disk.history c.args.store.now.disk) (g.D.Disk.history c.renew.new.disk) (Ok tt)) (some_is c.in-Some.life.now c.requires.describing.life (c.in-Some.ensures ∙ ap (life_in c.args.id.0) c.deref.ensures.value ∙ c.requires.describing.lives)) (c.in-Ok.ensures.done told)) (g.D.Disk.history c.record_described.new.store.disk) (g.met.D.Disk.sound told c.renew.new.disk) told (c.record_described.ensures.beside told)

pub returns-in-Ok-interrupt-clause-far : goal.returns-in-Ok-interrupt-clause-far
returns-in-Ok-interrupt-clause-far g c short =
    c.interrupt.ensures.far short ∙ c.renew.ensures.far

pub returns-in-Ok-interrupt-clause-beside : goal.returns-in-Ok-interrupt-clause-beside
returns-in-Ok-interrupt-clause-beside g c told =
    renewed_beside_then g.D.Disk.tells g.D.Disk.history (λ o. said_of (g.O.Origin.says o)) (view_of c.args.store.now) c.requires.store.desk c.requires.whole c.args.id c.args.entry c.requires.describing c.renew.new.disk c.renew.result (λ told. subst (λ (l : Life). Renews l.part (g.D.Disk.history c.args.store.now.disk) (g.D.Disk.history c.renew.new.disk) c.renew.result) (some_is c.in-Some.life.now c.requires.describing.life (c.in-Some.ensures ∙ ap (life_in c.args.id.0) c.deref.ensures.value ∙ c.requires.describing.lives)) (c.renew.ensures.done told)) (g.D.Disk.history c.interrupt.new.store.disk) (g.met.D.Disk.sound told c.renew.new.disk) told (c.interrupt.ensures.beside told)

pub returns-in-Err-interrupt-clause-far : goal.returns-in-Err-interrupt-clause-far
returns-in-Err-interrupt-clause-far g c short =
    c.interrupt.ensures.far short ∙ c.renew.ensures.far

pub returns-in-Err-interrupt-clause-beside : goal.returns-in-Err-interrupt-clause-beside
returns-in-Err-interrupt-clause-beside g c told =
    renewed_beside_then g.D.Disk.tells g.D.Disk.history (λ o. said_of (g.O.Origin.says o)) (view_of c.args.store.now) c.requires.store.desk c.requires.whole c.args.id c.args.entry c.requires.describing c.renew.new.disk c.renew.result (λ told. subst (λ (l : Life). Renews l.part (g.D.Disk.history c.args.store.now.disk) (g.D.Disk.history c.renew.new.disk) c.renew.result) (some_is c.in-Some.life.now c.requires.describing.life (c.in-Some.ensures ∙ ap (life_in c.args.id.0) c.deref.ensures.value ∙ c.requires.describing.lives)) (c.renew.ensures.done told)) (g.D.Disk.history c.interrupt.new.store.disk) (g.met.D.Disk.sound told c.renew.new.disk) told (c.interrupt.ensures.beside told)

pub returns-in-Ok-record_described-clause-reads : goal.returns-in-Ok-record_described-clause-reads
returns-in-Ok-record_described-clause-reads g c told item at =
    describe_reads g.D.Disk.tells g.D.Disk.history (λ o. said_of (g.O.Origin.says o)) (view_of c.args.store.now) c.requires.store.desk c.requires.whole c.args.id c.args.entry c.requires.describing c.renew.new.disk (λ told. subst (λ (l : Life). Renews l.part (g.D.Disk.history c.args.store.now.disk) (g.D.Disk.history c.renew.new.disk) (Ok tt)) (some_is c.in-Some.life.now c.requires.describing.life (c.in-Some.ensures ∙ ap (life_in c.args.id.0) c.deref.ensures.value ∙ c.requires.describing.lives)) (c.in-Ok.ensures.done told)) c.record_described.new.store.disk told (c.record_described.ensures.beside told) item at
