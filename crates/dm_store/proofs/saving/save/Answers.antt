use Rattle.std.proofs.Common.{◌≢◌, true, [], ◌∷◌, Ok, length, vec_capacity, sym, ap, subst, ◌∙◌, inl, inr}
use Rattle.std.specs.Prelude.{is_some}
use Rattle.dm_types.specs.declared.entry.Entry.TheVariants as entries
use Rattle.dm_types.specs.declared.reason.Reason.{Reason}
use Rattle.dm_types.specs.declared.reason.Reason.TheVariants as reasons
use Rattle.dm_disk_model.specs.Disk.{Next, SyncStep, Stands, now}
use Rattle.dm_kept.proofs.Lists.{some_is}
use Rattle.dm_store.specs.declared.life.Life.{Life}
use Rattle.dm_store.specs.Becomes.{Becomes, Recorded}
use Rattle.dm_store.specs.Lives.{life_in}
use Rattle.dm_store.specs.Origin.{said_of}
use Rattle.dm_store.specs.Store.{view_of}
use Rattle.dm_store.proofs.Saved.{beside_then, file_reason, from_disk, later_then, reads_then, rose_first, rose_last, save_admits, save_behind, save_life_for, save_lives, save_plain, save_stands, saved_keeps, synced_desk, synced_stand, synced_then}
use Rattle.dm_store.proofs.saving.save.Goals as goal

-- the part stands
pub settle-requires : goal.settle-requires
settle-requires g c told =
    subst (λ (l : Life). Stands (now (g.D.Disk.history c.args.store.now.disk)) l.part) (sym (some_is c.in-Some.life.now c.requires.saving.life (c.in-Some.ensures ∙ ap (life_in c.args.id.0) c.deref.ensures.value ∙ c.requires.saving.lives))) (save_stands g.D.Disk.tells g.D.Disk.history (λ o. said_of (g.O.Origin.says o)) (view_of c.args.store.now) c.args.store.now.disk c.requires.store.desk c.requires.whole c.args.id c.args.entry c.requires.saving (λ told. g.met.D.Disk.sound told c.args.store.now.disk (g.D.Disk.history c.args.store.now.disk).moment) told)

-- behind the sync of the part
pub record_readied-requires-clause-store : goal.record_readied-requires-clause-store
record_readied-requires-clause-store g c = record { desk = synced_desk g.D.Disk.tells g.D.Disk.history (λ o. said_of (g.O.Origin.says o)) (view_of c.args.store.now) c.settle.new.disk c.requires.store.desk c.requires.whole c.args.id c.args.entry c.requires.saving (λ told. g.met.D.Disk.sound told c.args.store.now.disk (g.D.Disk.history c.args.store.now.disk).moment) (Ok tt) (λ told. subst (λ (l : Life). Next (g.D.Disk.history c.args.store.now.disk) (g.D.Disk.history c.settle.new.disk) (SyncStep l.part (Ok tt))) (some_is c.in-Some.life.now c.requires.saving.life (c.in-Some.ensures ∙ ap (life_in c.args.id.0) c.deref.ensures.value ∙ c.requires.saving.lives)) (c.in-Ok.ensures.done told)); room = c.requires.store.room }

pub record_readied-requires-clause-plain : goal.record_readied-requires-clause-plain
record_readied-requires-clause-plain g c = save_plain g.D.Disk.tells g.D.Disk.history (λ o. said_of (g.O.Origin.says o)) (view_of c.args.store.now) c.settle.new.disk c.requires.store.desk c.requires.whole c.args.id c.args.entry c.requires.saving (λ told. g.met.D.Disk.sound told c.args.store.now.disk (g.D.Disk.history c.args.store.now.disk).moment)

pub record_readied-requires-clause-taken : goal.record_readied-requires-clause-taken
record_readied-requires-clause-taken g c = save_admits g.D.Disk.tells g.D.Disk.history (λ o. said_of (g.O.Origin.says o)) (view_of c.args.store.now) c.settle.new.disk c.requires.store.desk c.requires.whole c.args.id c.args.entry c.requires.saving (λ told. g.met.D.Disk.sound told c.args.store.now.disk (g.D.Disk.history c.args.store.now.disk).moment)

pub record_readied-requires-clause-life : goal.record_readied-requires-clause-life
record_readied-requires-clause-life g c = save_life_for g.D.Disk.tells g.D.Disk.history (λ o. said_of (g.O.Origin.says o)) (view_of c.args.store.now) c.settle.new.disk c.requires.store.desk c.requires.whole c.args.id c.args.entry c.requires.saving (λ told. g.met.D.Disk.sound told c.args.store.now.disk (g.D.Disk.history c.args.store.now.disk).moment)

pub record_readied-requires-clause-lives : goal.record_readied-requires-clause-lives
record_readied-requires-clause-lives g c = save_lives g.D.Disk.tells g.D.Disk.history (λ o. said_of (g.O.Origin.says o)) (view_of c.args.store.now) c.settle.new.disk c.requires.store.desk c.requires.whole c.args.id c.args.entry c.requires.saving (λ told. g.met.D.Disk.sound told c.args.store.now.disk (g.D.Disk.history c.args.store.now.disk).moment)

pub record_readied-requires-clause-stand : goal.record_readied-requires-clause-stand
record_readied-requires-clause-stand g c = synced_stand g.D.Disk.tells g.D.Disk.history (λ o. said_of (g.O.Origin.says o)) (view_of c.args.store.now) c.settle.new.disk c.requires.store.desk c.requires.whole c.args.id c.args.entry c.requires.saving (λ told. g.met.D.Disk.sound told c.args.store.now.disk (g.D.Disk.history c.args.store.now.disk).moment) (Ok tt) (λ told. subst (λ (l : Life). Next (g.D.Disk.history c.args.store.now.disk) (g.D.Disk.history c.settle.new.disk) (SyncStep l.part (Ok tt))) (some_is c.in-Some.life.now c.requires.saving.life (c.in-Some.ensures ∙ ap (life_in c.args.id.0) c.deref.ensures.value ∙ c.requires.saving.lives)) (c.in-Ok.ensures.done told))

pub record_readied-requires-clause-room : goal.record_readied-requires-clause-room
record_readied-requires-clause-room g c = save_behind g.D.Disk.tells g.D.Disk.history (λ o. said_of (g.O.Origin.says o)) (view_of c.args.store.now) c.settle.new.disk c.requires.store.desk c.requires.whole c.args.id c.args.entry c.requires.saving (λ told. g.met.D.Disk.sound told c.args.store.now.disk (g.D.Disk.history c.args.store.now.disk).moment) (length c.args.store.now.list.items) 0 (vec_capacity c.args.store.now.list) c.requires.room

pub interrupt-requires-clause-store : goal.interrupt-requires-clause-store
interrupt-requires-clause-store g c = record { desk = synced_desk g.D.Disk.tells g.D.Disk.history (λ o. said_of (g.O.Origin.says o)) (view_of c.args.store.now) c.settle.new.disk c.requires.store.desk c.requires.whole c.args.id c.args.entry c.requires.saving (λ told. g.met.D.Disk.sound told c.args.store.now.disk (g.D.Disk.history c.args.store.now.disk).moment) c.settle.result (λ told. subst (λ (l : Life). Next (g.D.Disk.history c.args.store.now.disk) (g.D.Disk.history c.settle.new.disk) (SyncStep l.part c.settle.result)) (some_is c.in-Some.life.now c.requires.saving.life (c.in-Some.ensures ∙ ap (life_in c.args.id.0) c.deref.ensures.value ∙ c.requires.saving.lives)) (c.settle.ensures.done told)); room = c.requires.store.room }

pub returns-in-Ok-record_readied-clause-keeps : goal.returns-in-Ok-record_readied-clause-keeps
returns-in-Ok-record_readied-clause-keeps g c = saved_keeps g.D.Disk.tells g.D.Disk.history (λ o. said_of (g.O.Origin.says o)) (view_of c.args.store.now) c.settle.new.disk c.requires.store.desk c.requires.whole c.args.id c.args.entry c.requires.saving (λ told. g.met.D.Disk.sound told c.args.store.now.disk (g.D.Disk.history c.args.store.now.disk).moment) (λ told. subst (λ (l : Life). Next (g.D.Disk.history c.args.store.now.disk) (g.D.Disk.history c.settle.new.disk) (SyncStep l.part (Ok tt))) (some_is c.in-Some.life.now c.requires.saving.life (c.in-Some.ensures ∙ ap (life_in c.args.id.0) c.deref.ensures.value ∙ c.requires.saving.lives)) (c.in-Ok.ensures.done told)) _ c.record_readied.ensures.goes

pub returns-in-Err-record_readied-clause-keeps : goal.returns-in-Err-record_readied-clause-keeps
returns-in-Err-record_readied-clause-keeps g c = saved_keeps g.D.Disk.tells g.D.Disk.history (λ o. said_of (g.O.Origin.says o)) (view_of c.args.store.now) c.settle.new.disk c.requires.store.desk c.requires.whole c.args.id c.args.entry c.requires.saving (λ told. g.met.D.Disk.sound told c.args.store.now.disk (g.D.Disk.history c.args.store.now.disk).moment) (λ told. subst (λ (l : Life). Next (g.D.Disk.history c.args.store.now.disk) (g.D.Disk.history c.settle.new.disk) (SyncStep l.part (Ok tt))) (some_is c.in-Some.life.now c.requires.saving.life (c.in-Some.ensures ∙ ap (life_in c.args.id.0) c.deref.ensures.value ∙ c.requires.saving.lives)) (c.in-Ok.ensures.done told)) _ c.record_readied.ensures.goes

pub returns-in-Ok-interrupt-clause-keeps : goal.returns-in-Ok-interrupt-clause-keeps
returns-in-Ok-interrupt-clause-keeps g c = synced_then g.D.Disk.tells g.D.Disk.history (λ o. said_of (g.O.Origin.says o)) (view_of c.args.store.now) c.settle.new.disk c.requires.store.desk c.requires.whole c.args.id c.args.entry c.requires.saving (λ told. g.met.D.Disk.sound told c.args.store.now.disk (g.D.Disk.history c.args.store.now.disk).moment) c.settle.result (λ told. subst (λ (l : Life). Next (g.D.Disk.history c.args.store.now.disk) (g.D.Disk.history c.settle.new.disk) (SyncStep l.part c.settle.result)) (some_is c.in-Some.life.now c.requires.saving.life (c.in-Some.ensures ∙ ap (life_in c.args.id.0) c.deref.ensures.value ∙ c.requires.saving.lives)) (c.settle.ensures.done told)) _ c.interrupt.ensures.keeps

pub returns-in-Err-interrupt-clause-keeps : goal.returns-in-Err-interrupt-clause-keeps
returns-in-Err-interrupt-clause-keeps g c = synced_then g.D.Disk.tells g.D.Disk.history (λ o. said_of (g.O.Origin.says o)) (view_of c.args.store.now) c.settle.new.disk c.requires.store.desk c.requires.whole c.args.id c.args.entry c.requires.saving (λ told. g.met.D.Disk.sound told c.args.store.now.disk (g.D.Disk.history c.args.store.now.disk).moment) c.settle.result (λ told. subst (λ (l : Life). Next (g.D.Disk.history c.args.store.now.disk) (g.D.Disk.history c.settle.new.disk) (SyncStep l.part c.settle.result)) (some_is c.in-Some.life.now c.requires.saving.life (c.in-Some.ensures ∙ ap (life_in c.args.id.0) c.deref.ensures.value ∙ c.requires.saving.lives)) (c.settle.ensures.done told)) _ c.interrupt.ensures.keeps

-- what was recorded
pub returns-in-Ok-record_readied-clause-makes : goal.returns-in-Ok-record_readied-clause-makes
returns-in-Ok-record_readied-clause-makes g c = from_disk (view_of c.args.store.now) _ c.settle.new.disk _ _ _ c.in-Ok-record_readied.ensures.makes

pub returns-in-Err-record_readied-clause-makes : goal.returns-in-Err-record_readied-clause-makes
returns-in-Err-record_readied-clause-makes g c = inl (from_disk (view_of c.args.store.now) _ c.settle.new.disk _ _ _ c.in-Err-record_readied.ensures.makes)

pub returns-in-Ok-interrupt-clause-makes : goal.returns-in-Ok-interrupt-clause-makes
returns-in-Ok-interrupt-clause-makes g c =
    subst (λ (r : Reason). Recorded (view_of c.args.store.now) (view_of c.interrupt.new.store) (entries.Broke c.args.id r ∷ [])) c.reason_of.ensures (from_disk (view_of c.args.store.now) _ c.settle.new.disk _ _ _ c.in-Ok-interrupt.ensures.makes)

pub returns-in-Err-interrupt-clause-makes : goal.returns-in-Err-interrupt-clause-makes
returns-in-Err-interrupt-clause-makes g c = inr (record {
  kind = c.in-Err.fault.0;
  rose = rose_first (g.D.Disk.faults c.args.store.now.disk c.in-Err.fault.0) (g.D.Disk.faults c.settle.new.disk c.in-Err.fault.0) (g.D.Disk.faults c.interrupt.new.store.disk c.in-Err.fault.0) c.in-Err.ensures.cause.cause (c.interrupt.ensures.cause.later c.in-Err.fault.0);
  becomes = subst (λ (r : Reason). Becomes (view_of c.args.store.now) (view_of c.interrupt.new.store) [] (entries.Broke c.args.id r ∷ []) true) c.reason_of.ensures (from_disk (view_of c.args.store.now) _ c.settle.new.disk _ _ _ c.in-Err-interrupt.ensures.makes);
})

pub interrupt-requires-clause-reason : goal.interrupt-requires-clause-reason
interrupt-requires-clause-reason g c = subst (λ (r : Reason). (r ≢ reasons.UserCanceled) × (r ≢ reasons.Crash)) (sym c.reason_of.ensures) (file_reason c.in-Err.fault.0)

pub interrupt-requires-clause-lives : goal.interrupt-requires-clause-lives
interrupt-requires-clause-lives g c = ap is_some c.requires.saving.lives

pub returns-in-Ok-record_readied-clause-cause : goal.returns-in-Ok-record_readied-clause-cause
returns-in-Ok-record_readied-clause-cause g c = record { later = later_then (g.D.Disk.faults c.args.store.now.disk) (g.D.Disk.faults c.settle.new.disk) (g.D.Disk.faults c.record_readied.new.store.disk) c.settle.ensures.cause.later c.record_readied.ensures.cause.later; cause = tt }

pub returns-in-Err-record_readied-clause-cause : goal.returns-in-Err-record_readied-clause-cause
returns-in-Err-record_readied-clause-cause g c = record {
  later = later_then (g.D.Disk.faults c.args.store.now.disk) (g.D.Disk.faults c.settle.new.disk) (g.D.Disk.faults c.record_readied.new.store.disk) c.settle.ensures.cause.later c.record_readied.ensures.cause.later;
  cause = rose_last (g.D.Disk.faults c.args.store.now.disk c.in-Err-record_readied.kind) (g.D.Disk.faults c.settle.new.disk c.in-Err-record_readied.kind) (g.D.Disk.faults c.record_readied.new.store.disk c.in-Err-record_readied.kind) (c.settle.ensures.cause.later c.in-Err-record_readied.kind) c.in-Err-record_readied.ensures.cause.cause;
}

pub returns-in-Ok-interrupt-clause-cause : goal.returns-in-Ok-interrupt-clause-cause
returns-in-Ok-interrupt-clause-cause g c = record {
  later = later_then (g.D.Disk.faults c.args.store.now.disk) (g.D.Disk.faults c.settle.new.disk) (g.D.Disk.faults c.interrupt.new.store.disk) c.settle.ensures.cause.later c.interrupt.ensures.cause.later;
  cause = rose_first (g.D.Disk.faults c.args.store.now.disk c.in-Err.fault.0) (g.D.Disk.faults c.settle.new.disk c.in-Err.fault.0) (g.D.Disk.faults c.interrupt.new.store.disk c.in-Err.fault.0) c.in-Err.ensures.cause.cause (c.interrupt.ensures.cause.later c.in-Err.fault.0);
}

pub returns-in-Err-interrupt-clause-cause : goal.returns-in-Err-interrupt-clause-cause
returns-in-Err-interrupt-clause-cause g c = record {
  later = later_then (g.D.Disk.faults c.args.store.now.disk) (g.D.Disk.faults c.settle.new.disk) (g.D.Disk.faults c.interrupt.new.store.disk) c.settle.ensures.cause.later c.interrupt.ensures.cause.later;
  cause = rose_last (g.D.Disk.faults c.args.store.now.disk c.in-Err-interrupt.kind) (g.D.Disk.faults c.settle.new.disk c.in-Err-interrupt.kind) (g.D.Disk.faults c.interrupt.new.store.disk c.in-Err-interrupt.kind) (c.settle.ensures.cause.later c.in-Err-interrupt.kind) c.in-Err-interrupt.ensures.cause.cause;
}

pub returns-in-Ok-record_readied-clause-room : goal.returns-in-Ok-record_readied-clause-room
returns-in-Ok-record_readied-clause-room g c count room =
    c.in-Ok-record_readied.ensures.room count (save_behind g.D.Disk.tells g.D.Disk.history (λ o. said_of (g.O.Origin.says o)) (view_of c.args.store.now) c.settle.new.disk c.requires.store.desk c.requires.whole c.args.id c.args.entry c.requires.saving (λ told. g.met.D.Disk.sound told c.args.store.now.disk (g.D.Disk.history c.args.store.now.disk).moment) (length c.args.store.now.list.items) count (vec_capacity c.args.store.now.list) room)

pub returns-in-Ok-record_readied-clause-far : goal.returns-in-Ok-record_readied-clause-far
returns-in-Ok-record_readied-clause-far g c short = c.record_readied.ensures.far short ∙ c.settle.ensures.far

pub returns-in-Err-record_readied-clause-far : goal.returns-in-Err-record_readied-clause-far
returns-in-Err-record_readied-clause-far g c short = c.record_readied.ensures.far short ∙ c.settle.ensures.far

pub returns-in-Ok-interrupt-clause-far : goal.returns-in-Ok-interrupt-clause-far
returns-in-Ok-interrupt-clause-far g c short = c.interrupt.ensures.far short ∙ c.settle.ensures.far

pub returns-in-Err-interrupt-clause-far : goal.returns-in-Err-interrupt-clause-far
returns-in-Err-interrupt-clause-far g c short = c.interrupt.ensures.far short ∙ c.settle.ensures.far

pub returns-in-Ok-record_readied-clause-beside : goal.returns-in-Ok-record_readied-clause-beside
returns-in-Ok-record_readied-clause-beside g c told = beside_then g.D.Disk.tells g.D.Disk.history (λ o. said_of (g.O.Origin.says o)) (view_of c.args.store.now) c.settle.new.disk c.requires.store.desk c.requires.whole c.args.id c.args.entry c.requires.saving (λ told. g.met.D.Disk.sound told c.args.store.now.disk (g.D.Disk.history c.args.store.now.disk).moment) (Ok tt) (λ told. subst (λ (l : Life). Next (g.D.Disk.history c.args.store.now.disk) (g.D.Disk.history c.settle.new.disk) (SyncStep l.part (Ok tt))) (some_is c.in-Some.life.now c.requires.saving.life (c.in-Some.ensures ∙ ap (life_in c.args.id.0) c.deref.ensures.value ∙ c.requires.saving.lives)) (c.in-Ok.ensures.done told)) (g.D.Disk.history c.record_readied.new.store.disk) told (c.record_readied.ensures.beside told)

pub returns-in-Err-record_readied-clause-beside : goal.returns-in-Err-record_readied-clause-beside
returns-in-Err-record_readied-clause-beside g c told = beside_then g.D.Disk.tells g.D.Disk.history (λ o. said_of (g.O.Origin.says o)) (view_of c.args.store.now) c.settle.new.disk c.requires.store.desk c.requires.whole c.args.id c.args.entry c.requires.saving (λ told. g.met.D.Disk.sound told c.args.store.now.disk (g.D.Disk.history c.args.store.now.disk).moment) (Ok tt) (λ told. subst (λ (l : Life). Next (g.D.Disk.history c.args.store.now.disk) (g.D.Disk.history c.settle.new.disk) (SyncStep l.part (Ok tt))) (some_is c.in-Some.life.now c.requires.saving.life (c.in-Some.ensures ∙ ap (life_in c.args.id.0) c.deref.ensures.value ∙ c.requires.saving.lives)) (c.in-Ok.ensures.done told)) (g.D.Disk.history c.record_readied.new.store.disk) told (c.record_readied.ensures.beside told)

pub returns-in-Ok-interrupt-clause-beside : goal.returns-in-Ok-interrupt-clause-beside
returns-in-Ok-interrupt-clause-beside g c told = beside_then g.D.Disk.tells g.D.Disk.history (λ o. said_of (g.O.Origin.says o)) (view_of c.args.store.now) c.settle.new.disk c.requires.store.desk c.requires.whole c.args.id c.args.entry c.requires.saving (λ told. g.met.D.Disk.sound told c.args.store.now.disk (g.D.Disk.history c.args.store.now.disk).moment) c.settle.result (λ told. subst (λ (l : Life). Next (g.D.Disk.history c.args.store.now.disk) (g.D.Disk.history c.settle.new.disk) (SyncStep l.part c.settle.result)) (some_is c.in-Some.life.now c.requires.saving.life (c.in-Some.ensures ∙ ap (life_in c.args.id.0) c.deref.ensures.value ∙ c.requires.saving.lives)) (c.settle.ensures.done told)) (g.D.Disk.history c.interrupt.new.store.disk) told (c.interrupt.ensures.beside told)

pub returns-in-Err-interrupt-clause-beside : goal.returns-in-Err-interrupt-clause-beside
returns-in-Err-interrupt-clause-beside g c told = beside_then g.D.Disk.tells g.D.Disk.history (λ o. said_of (g.O.Origin.says o)) (view_of c.args.store.now) c.settle.new.disk c.requires.store.desk c.requires.whole c.args.id c.args.entry c.requires.saving (λ told. g.met.D.Disk.sound told c.args.store.now.disk (g.D.Disk.history c.args.store.now.disk).moment) c.settle.result (λ told. subst (λ (l : Life). Next (g.D.Disk.history c.args.store.now.disk) (g.D.Disk.history c.settle.new.disk) (SyncStep l.part c.settle.result)) (some_is c.in-Some.life.now c.requires.saving.life (c.in-Some.ensures ∙ ap (life_in c.args.id.0) c.deref.ensures.value ∙ c.requires.saving.lives)) (c.settle.ensures.done told)) (g.D.Disk.history c.interrupt.new.store.disk) told (c.interrupt.ensures.beside told)

pub returns-in-Ok-record_readied-clause-reads : goal.returns-in-Ok-record_readied-clause-reads
returns-in-Ok-record_readied-clause-reads g c told = reads_then g.D.Disk.tells g.D.Disk.history (λ o. said_of (g.O.Origin.says o)) (view_of c.args.store.now) c.settle.new.disk c.requires.store.desk c.requires.whole c.args.id c.args.entry c.requires.saving (λ told. g.met.D.Disk.sound told c.args.store.now.disk (g.D.Disk.history c.args.store.now.disk).moment) (Ok tt) (λ told. subst (λ (l : Life). Next (g.D.Disk.history c.args.store.now.disk) (g.D.Disk.history c.settle.new.disk) (SyncStep l.part (Ok tt))) (some_is c.in-Some.life.now c.requires.saving.life (c.in-Some.ensures ∙ ap (life_in c.args.id.0) c.deref.ensures.value ∙ c.requires.saving.lives)) (c.in-Ok.ensures.done told)) (g.D.Disk.history c.record_readied.new.store.disk) told (c.record_readied.ensures.beside told)

pub returns-in-Err-record_readied-clause-reads : goal.returns-in-Err-record_readied-clause-reads
returns-in-Err-record_readied-clause-reads g c told = reads_then g.D.Disk.tells g.D.Disk.history (λ o. said_of (g.O.Origin.says o)) (view_of c.args.store.now) c.settle.new.disk c.requires.store.desk c.requires.whole c.args.id c.args.entry c.requires.saving (λ told. g.met.D.Disk.sound told c.args.store.now.disk (g.D.Disk.history c.args.store.now.disk).moment) (Ok tt) (λ told. subst (λ (l : Life). Next (g.D.Disk.history c.args.store.now.disk) (g.D.Disk.history c.settle.new.disk) (SyncStep l.part (Ok tt))) (some_is c.in-Some.life.now c.requires.saving.life (c.in-Some.ensures ∙ ap (life_in c.args.id.0) c.deref.ensures.value ∙ c.requires.saving.lives)) (c.in-Ok.ensures.done told)) (g.D.Disk.history c.record_readied.new.store.disk) told (c.record_readied.ensures.beside told)

pub returns-in-Ok-interrupt-clause-reads : goal.returns-in-Ok-interrupt-clause-reads
returns-in-Ok-interrupt-clause-reads g c told = reads_then g.D.Disk.tells g.D.Disk.history (λ o. said_of (g.O.Origin.says o)) (view_of c.args.store.now) c.settle.new.disk c.requires.store.desk c.requires.whole c.args.id c.args.entry c.requires.saving (λ told. g.met.D.Disk.sound told c.args.store.now.disk (g.D.Disk.history c.args.store.now.disk).moment) c.settle.result (λ told. subst (λ (l : Life). Next (g.D.Disk.history c.args.store.now.disk) (g.D.Disk.history c.settle.new.disk) (SyncStep l.part c.settle.result)) (some_is c.in-Some.life.now c.requires.saving.life (c.in-Some.ensures ∙ ap (life_in c.args.id.0) c.deref.ensures.value ∙ c.requires.saving.lives)) (c.settle.ensures.done told)) (g.D.Disk.history c.interrupt.new.store.disk) told (c.interrupt.ensures.beside told)

pub returns-in-Err-interrupt-clause-reads : goal.returns-in-Err-interrupt-clause-reads
returns-in-Err-interrupt-clause-reads g c told = reads_then g.D.Disk.tells g.D.Disk.history (λ o. said_of (g.O.Origin.says o)) (view_of c.args.store.now) c.settle.new.disk c.requires.store.desk c.requires.whole c.args.id c.args.entry c.requires.saving (λ told. g.met.D.Disk.sound told c.args.store.now.disk (g.D.Disk.history c.args.store.now.disk).moment) c.settle.result (λ told. subst (λ (l : Life). Next (g.D.Disk.history c.args.store.now.disk) (g.D.Disk.history c.settle.new.disk) (SyncStep l.part c.settle.result)) (some_is c.in-Some.life.now c.requires.saving.life (c.in-Some.ensures ∙ ap (life_in c.args.id.0) c.deref.ensures.value ∙ c.requires.saving.lives)) (c.settle.ensures.done told)) (g.D.Disk.history c.interrupt.new.store.disk) told (c.interrupt.ensures.beside told)
