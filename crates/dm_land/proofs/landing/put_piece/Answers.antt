use Rattle.std.proofs.Common.{◌≡◌, ◌≢◌, true, List, [], ◌∷◌, Ok, Some, length, vec_capacity, refl, sym, ap, subst, ◌∙◌}
use Rattle.std.specs.Prelude.{is_some}
use Rattle.dm_types.specs.Name.{IsPart}
use Rattle.dm_types.specs.declared.entry.Entry.TheVariants as entries
use Rattle.dm_types.specs.declared.reason.Reason.{Reason}
use Rattle.dm_types.specs.declared.reason.Reason.TheVariants as reasons
use Rattle.dm_disk_model.specs.Disk.{Next, Stands, WriteStep, bytes_at, now}
use Rattle.dm_disk_model.specs.File.{overwrite}
use Rattle.dm_disk_model.proofs.Beside.{besides_same, besides_then}
use Rattle.dm_kept.proofs.Lists.{some_is}
use Rattle.dm_store.specs.declared.life.Life.{Life}
use Rattle.dm_store.specs.Becomes.{Becomes, Recorded}
use Rattle.dm_store.specs.Lives.{life_in}
use Rattle.dm_store.specs.Origin.{said_of}
use Rattle.dm_store.specs.Store.{view_of}
use Rattle.dm_store.proofs.Saved.{file_reason, from_disk, later_then, rose_first, rose_last}
use Rattle.dm_answers.specs.Land.{grown_life}
use Rattle.dm_land.proofs.Landed.{can_grow, few_bytes, grown_room, is_near, landed_desk, landed_keeps, none_some, part_stands, piece_reads, torn_beside, torn_desk}
use Rattle.dm_land.proofs.Saves.{fell_stopped}
use Rattle.dm_land.proofs.Torn.{torn_fell, torn_recorded}
use Rattle.dm_land.proofs.landing.put_piece.Goals as goal

pub put-requires : goal.put-requires
put-requires g c told =
    subst (λ (l : Life). Stands (now (g.D.Disk.history c.args.store.now.disk)) l.part) (sym (some_is c.in-Some.life.now c.requires.may.life (c.in-Some.ensures ∙ ap (life_in c.args.pass.now.id.0) c.deref.ensures.value ∙ c.requires.may.lives))) (part_stands g.D.Disk.tells g.D.Disk.history (λ o. said_of (g.O.Origin.says o)) (view_of c.args.store.now) c.args.store.now.disk c.requires.store.desk c.requires.whole c.args.pass.now c.args.at c.args.piece.now c.requires.may c.requires.some (λ told. g.met.D.Disk.sound told c.args.store.now.disk (g.D.Disk.history c.args.store.now.disk).moment) told)

pub grow_life-requires : goal.grow_life-requires
grow_life-requires g c =
    can_grow g.D.Disk.tells g.D.Disk.history (λ o. said_of (g.O.Origin.says o)) (view_of c.args.store.now) c.put.new.disk c.requires.store.desk c.requires.whole c.args.pass.now c.args.at c.args.piece.now c.requires.may c.requires.some (λ told. g.met.D.Disk.sound told c.args.store.now.disk (g.D.Disk.history c.args.store.now.disk).moment) c.requires.store.desk.limits_are.checkpoint.1 (few_bytes c.requires.store.desk.limits_are c.requires.few)

pub returns-in-Ok-clause-store : goal.returns-in-Ok-clause-store
returns-in-Ok-clause-store g c =
    record { desk = landed_desk g.D.Disk.tells g.D.Disk.history (λ o. said_of (g.O.Origin.says o)) (view_of c.args.store.now) c.put.new.disk c.requires.store.desk c.requires.whole c.args.pass.now c.args.at c.args.piece.now c.requires.may c.requires.some (λ told. g.met.D.Disk.sound told c.args.store.now.disk (g.D.Disk.history c.args.store.now.disk).moment) (λ told. subst (λ (l : Life). Next (g.D.Disk.history c.args.store.now.disk) (g.D.Disk.history c.put.new.disk) (WriteStep l.part c.args.at c.args.piece.now (Ok tt))) (some_is c.in-Some.life.now c.requires.may.life (c.in-Some.ensures ∙ ap (life_in c.args.pass.now.id.0) c.deref.ensures.value ∙ c.requires.may.lives)) (c.in-Ok.ensures.done told)) (record (view_of c.args.store.now) { disk = c.put.new.disk; lives = c.grow_life.new.lives.items }) (ap (λ (lives : List Life). record (view_of c.args.store.now) { disk = c.put.new.disk; lives = lives }) c.grow_life.ensures) c.requires.few; room = grown_room c.args.pass.now.id.0 (grown_life c.args.pass.now.index (length c.args.piece.now)) c.args.store.now.lives.items c.grow_life.new.lives.items (length c.args.store.now.list.items) (vec_capacity c.args.store.now.list) c.grow_life.ensures c.requires.store.room }

pub returns-in-Ok-clause-keeps : goal.returns-in-Ok-clause-keeps
returns-in-Ok-clause-keeps g c =
    landed_keeps g.D.Disk.tells g.D.Disk.history (λ o. said_of (g.O.Origin.says o)) (view_of c.args.store.now) c.put.new.disk c.requires.store.desk c.requires.whole c.args.pass.now c.args.at c.args.piece.now c.requires.may c.requires.some (λ told. g.met.D.Disk.sound told c.args.store.now.disk (g.D.Disk.history c.args.store.now.disk).moment) (λ told. subst (λ (l : Life). Next (g.D.Disk.history c.args.store.now.disk) (g.D.Disk.history c.put.new.disk) (WriteStep l.part c.args.at c.args.piece.now (Ok tt))) (some_is c.in-Some.life.now c.requires.may.life (c.in-Some.ensures ∙ ap (life_in c.args.pass.now.id.0) c.deref.ensures.value ∙ c.requires.may.lives)) (c.in-Ok.ensures.done told)) (record (view_of c.args.store.now) { disk = c.put.new.disk; lives = c.grow_life.new.lives.items }) (ap (λ (lives : List Life). record (view_of c.args.store.now) { disk = c.put.new.disk; lives = lives }) c.grow_life.ensures) c.requires.said

pub returns-in-Ok-clause-beside : goal.returns-in-Ok-clause-beside
returns-in-Ok-clause-beside g c told =
    torn_beside g.D.Disk.tells g.D.Disk.history (λ o. said_of (g.O.Origin.says o)) (view_of c.args.store.now) c.put.new.disk c.requires.store.desk c.requires.whole c.args.pass.now c.args.at c.args.piece.now c.requires.may c.requires.some (λ told. g.met.D.Disk.sound told c.args.store.now.disk (g.D.Disk.history c.args.store.now.disk).moment) (Ok tt) (λ told. subst (λ (l : Life). Next (g.D.Disk.history c.args.store.now.disk) (g.D.Disk.history c.put.new.disk) (WriteStep l.part c.args.at c.args.piece.now (Ok tt))) (some_is c.in-Some.life.now c.requires.may.life (c.in-Some.ensures ∙ ap (life_in c.args.pass.now.id.0) c.deref.ensures.value ∙ c.requires.may.lives)) (c.in-Ok.ensures.done told)) told

pub interrupt-requires-clause-store : goal.interrupt-requires-clause-store
interrupt-requires-clause-store g c =
    record { desk = torn_desk g.D.Disk.tells g.D.Disk.history (λ o. said_of (g.O.Origin.says o)) (view_of c.args.store.now) c.put.new.disk c.requires.store.desk c.requires.whole c.args.pass.now c.args.at c.args.piece.now c.requires.may c.requires.some (λ told. g.met.D.Disk.sound told c.args.store.now.disk (g.D.Disk.history c.args.store.now.disk).moment) c.put.result (λ told. subst (λ (l : Life). Next (g.D.Disk.history c.args.store.now.disk) (g.D.Disk.history c.put.new.disk) (WriteStep l.part c.args.at c.args.piece.now c.put.result)) (some_is c.in-Some.life.now c.requires.may.life (c.in-Some.ensures ∙ ap (life_in c.args.pass.now.id.0) c.deref.ensures.value ∙ c.requires.may.lives)) (c.put.ensures.done told)); room = c.requires.store.room }

pub returns-in-Ok-interrupt-clause-keeps : goal.returns-in-Ok-interrupt-clause-keeps
returns-in-Ok-interrupt-clause-keeps g c =
    torn_recorded g.D.Disk.tells g.D.Disk.history (λ o. said_of (g.O.Origin.says o)) (view_of c.args.store.now) c.put.new.disk c.requires.store.desk c.requires.whole c.args.pass.now c.args.at c.args.piece.now c.requires.may c.requires.some (λ told. g.met.D.Disk.sound told c.args.store.now.disk (g.D.Disk.history c.args.store.now.disk).moment) c.put.result (λ told. subst (λ (l : Life). Next (g.D.Disk.history c.args.store.now.disk) (g.D.Disk.history c.put.new.disk) (WriteStep l.part c.args.at c.args.piece.now c.put.result)) (some_is c.in-Some.life.now c.requires.may.life (c.in-Some.ensures ∙ ap (life_in c.args.pass.now.id.0) c.deref.ensures.value ∙ c.requires.may.lives)) (c.put.ensures.done told)) c.reason_of.result (subst (λ (r : Reason). (r ≢ reasons.UserCanceled) × (r ≢ reasons.Crash)) (sym c.reason_of.ensures) (file_reason c.in-Err.fault.0)) (view_of c.interrupt.new.store) c.interrupt.ensures.keeps c.interrupt.ensures.beside c.in-Ok-interrupt.ensures.makes

pub returns-in-Ok-interrupt-clause-beside : goal.returns-in-Ok-interrupt-clause-beside
returns-in-Ok-interrupt-clause-beside g c told =
    besides_then IsPart (g.D.Disk.history c.args.store.now.disk) (g.D.Disk.history c.put.new.disk) (g.D.Disk.history c.interrupt.new.store.disk) (torn_beside g.D.Disk.tells g.D.Disk.history (λ o. said_of (g.O.Origin.says o)) (view_of c.args.store.now) c.put.new.disk c.requires.store.desk c.requires.whole c.args.pass.now c.args.at c.args.piece.now c.requires.may c.requires.some (λ told. g.met.D.Disk.sound told c.args.store.now.disk (g.D.Disk.history c.args.store.now.disk).moment) c.put.result (λ told. subst (λ (l : Life). Next (g.D.Disk.history c.args.store.now.disk) (g.D.Disk.history c.put.new.disk) (WriteStep l.part c.args.at c.args.piece.now c.put.result)) (some_is c.in-Some.life.now c.requires.may.life (c.in-Some.ensures ∙ ap (life_in c.args.pass.now.id.0) c.deref.ensures.value ∙ c.requires.may.lives)) (c.put.ensures.done told)) told) (besides_same IsPart (g.D.Disk.history c.put.new.disk) (g.D.Disk.history c.interrupt.new.store.disk) (c.interrupt.ensures.beside told))

pub returns-in-Ok-interrupt-clause-far : goal.returns-in-Ok-interrupt-clause-far
returns-in-Ok-interrupt-clause-far g c short =
    c.interrupt.ensures.far short ∙ c.put.ensures.far.near (is_near g.D.Disk.tells g.D.Disk.history (λ o. said_of (g.O.Origin.says o)) (view_of c.args.store.now) c.put.new.disk c.requires.store.desk c.requires.whole c.args.pass.now c.args.at c.args.piece.now c.requires.may c.requires.some (λ told. g.met.D.Disk.sound told c.args.store.now.disk (g.D.Disk.history c.args.store.now.disk).moment))

pub returns-in-Err-interrupt-clause-answers : goal.returns-in-Err-interrupt-clause-answers
returns-in-Err-interrupt-clause-answers g c =
    (c.requires.may, fell_stopped (g.D.Disk.faults c.args.store.now.disk) (g.D.Disk.faults c.interrupt.new.store.disk) (view_of c.args.store.now) (view_of c.interrupt.new.store) c.args.pass.now.id (record { kind = c.in-Err.fault.0; rose = rose_first (g.D.Disk.faults c.args.store.now.disk c.in-Err.fault.0) (g.D.Disk.faults c.put.new.disk c.in-Err.fault.0) (g.D.Disk.faults c.interrupt.new.store.disk c.in-Err.fault.0) c.in-Err.ensures.cause.cause (c.interrupt.ensures.cause.later c.in-Err.fault.0); becomes = subst (λ (r : Reason). Becomes (view_of c.args.store.now) (view_of c.interrupt.new.store) [] (entries.Broke c.args.pass.now.id r ∷ []) true) c.reason_of.ensures (from_disk (view_of c.args.store.now) _ c.put.new.disk _ _ _ c.in-Err-interrupt.ensures.makes) }))

pub returns-in-Err-interrupt-clause-keeps : goal.returns-in-Err-interrupt-clause-keeps
returns-in-Err-interrupt-clause-keeps g c =
    torn_fell g.D.Disk.tells g.D.Disk.history (λ o. said_of (g.O.Origin.says o)) (view_of c.args.store.now) c.put.new.disk c.requires.store.desk c.requires.whole c.args.pass.now c.args.at c.args.piece.now c.requires.may c.requires.some (λ told. g.met.D.Disk.sound told c.args.store.now.disk (g.D.Disk.history c.args.store.now.disk).moment) c.put.result (λ told. subst (λ (l : Life). Next (g.D.Disk.history c.args.store.now.disk) (g.D.Disk.history c.put.new.disk) (WriteStep l.part c.args.at c.args.piece.now c.put.result)) (some_is c.in-Some.life.now c.requires.may.life (c.in-Some.ensures ∙ ap (life_in c.args.pass.now.id.0) c.deref.ensures.value ∙ c.requires.may.lives)) (c.put.ensures.done told)) c.reason_of.result (subst (λ (r : Reason). (r ≢ reasons.UserCanceled) × (r ≢ reasons.Crash)) (sym c.reason_of.ensures) (file_reason c.in-Err.fault.0)) (view_of c.interrupt.new.store) c.interrupt.ensures.keeps c.interrupt.ensures.beside c.in-Err-interrupt.ensures.makes

pub returns-in-Err-interrupt-clause-beside : goal.returns-in-Err-interrupt-clause-beside
returns-in-Err-interrupt-clause-beside g c told =
    besides_then IsPart (g.D.Disk.history c.args.store.now.disk) (g.D.Disk.history c.put.new.disk) (g.D.Disk.history c.interrupt.new.store.disk) (torn_beside g.D.Disk.tells g.D.Disk.history (λ o. said_of (g.O.Origin.says o)) (view_of c.args.store.now) c.put.new.disk c.requires.store.desk c.requires.whole c.args.pass.now c.args.at c.args.piece.now c.requires.may c.requires.some (λ told. g.met.D.Disk.sound told c.args.store.now.disk (g.D.Disk.history c.args.store.now.disk).moment) c.put.result (λ told. subst (λ (l : Life). Next (g.D.Disk.history c.args.store.now.disk) (g.D.Disk.history c.put.new.disk) (WriteStep l.part c.args.at c.args.piece.now c.put.result)) (some_is c.in-Some.life.now c.requires.may.life (c.in-Some.ensures ∙ ap (life_in c.args.pass.now.id.0) c.deref.ensures.value ∙ c.requires.may.lives)) (c.put.ensures.done told)) told) (besides_same IsPart (g.D.Disk.history c.put.new.disk) (g.D.Disk.history c.interrupt.new.store.disk) (c.interrupt.ensures.beside told))

pub returns-in-Err-interrupt-clause-far : goal.returns-in-Err-interrupt-clause-far
returns-in-Err-interrupt-clause-far g c short =
    c.interrupt.ensures.far short ∙ c.put.ensures.far.near (is_near g.D.Disk.tells g.D.Disk.history (λ o. said_of (g.O.Origin.says o)) (view_of c.args.store.now) c.put.new.disk c.requires.store.desk c.requires.whole c.args.pass.now c.args.at c.args.piece.now c.requires.may c.requires.some (λ told. g.met.D.Disk.sound told c.args.store.now.disk (g.D.Disk.history c.args.store.now.disk).moment))
