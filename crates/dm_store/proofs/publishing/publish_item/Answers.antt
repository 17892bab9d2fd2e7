use Rattle.dm_store.specs.Origin.{said_of}
use Rattle.dm_store.specs.Store.{view_of}
use Rattle.dm_store.proofs.Published.{fell_desk, fell_keeps, named_beside, named_desk, named_keeps, named_names, named_reads, named_stands, one_area}
use Rattle.dm_store.proofs.publishing.publish_item.Goals as goal

pub publish-requires-clause-one_area : goal.publish-requires-clause-one_area
publish-requires-clause-one_area g c told = one_area c.args.store.now.items.items c.args.id.0 c.args.part.now c.args.target.now c.requires.moving

pub returns-in-Ok-clause-keeps : goal.returns-in-Ok-clause-keeps
returns-in-Ok-clause-keeps g c =
    named_keeps g.D.Disk.tells g.D.Disk.history (λ o. said_of (g.O.Origin.says o)) (view_of c.args.store.now) c.publish.new.disk c.requires.store.desk c.requires.whole c.args.id.0 c.args.part.now c.args.target.now c.requires.moving
    (λ told. g.met.D.Disk.sound told c.publish.new.disk) (λ told. g.met.D.Disk.sound told c.args.store.now.disk (g.D.Disk.history c.args.store.now.disk).moment) c.requires.stands c.in-Ok.ensures.done c.in-Ok.ensures.moves

pub returns-in-Ok-clause-store : goal.returns-in-Ok-clause-store
returns-in-Ok-clause-store g c = record {
  desk = named_desk g.D.Disk.tells g.D.Disk.history (λ o. said_of (g.O.Origin.says o)) (view_of c.args.store.now) c.publish.new.disk c.requires.store.desk c.requires.whole c.args.id.0 c.args.part.now c.args.target.now c.requires.moving
      (λ told. g.met.D.Disk.sound told c.publish.new.disk) (λ told. g.met.D.Disk.sound told c.args.store.now.disk (g.D.Disk.history c.args.store.now.disk).moment) c.requires.stands c.in-Ok.ensures.done c.in-Ok.ensures.moves;
  room = c.requires.store.room;
}

pub returns-in-Ok-clause-named : goal.returns-in-Ok-clause-named
returns-in-Ok-clause-named g c told =
    named_stands g.D.Disk.tells g.D.Disk.history (λ o. said_of (g.O.Origin.says o)) (view_of c.args.store.now) c.publish.new.disk c.requires.store.desk c.requires.whole c.args.id.0 c.args.part.now c.args.target.now c.requires.moving
    (λ told. g.met.D.Disk.sound told c.publish.new.disk) (λ told. g.met.D.Disk.sound told c.args.store.now.disk (g.D.Disk.history c.args.store.now.disk).moment) c.requires.stands c.in-Ok.ensures.done c.in-Ok.ensures.moves told

pub returns-in-Ok-clause-reads : goal.returns-in-Ok-clause-reads
returns-in-Ok-clause-reads g c told =
    named_reads g.D.Disk.tells g.D.Disk.history (λ o. said_of (g.O.Origin.says o)) (view_of c.args.store.now) c.publish.new.disk c.requires.store.desk c.requires.whole c.args.id.0 c.args.part.now c.args.target.now c.requires.moving
    (λ told. g.met.D.Disk.sound told c.publish.new.disk) (λ told. g.met.D.Disk.sound told c.args.store.now.disk (g.D.Disk.history c.args.store.now.disk).moment) c.requires.stands c.in-Ok.ensures.done c.in-Ok.ensures.moves told

pub returns-in-Ok-clause-names : goal.returns-in-Ok-clause-names
returns-in-Ok-clause-names g c told =
    named_names g.D.Disk.tells g.D.Disk.history (λ o. said_of (g.O.Origin.says o)) (view_of c.args.store.now) c.publish.new.disk c.requires.store.desk c.requires.whole c.args.id.0 c.args.part.now c.args.target.now c.requires.moving
    (λ told. g.met.D.Disk.sound told c.publish.new.disk) (λ told. g.met.D.Disk.sound told c.args.store.now.disk (g.D.Disk.history c.args.store.now.disk).moment) c.requires.stands c.in-Ok.ensures.done c.in-Ok.ensures.moves told

pub returns-in-Ok-clause-beside : goal.returns-in-Ok-clause-beside
returns-in-Ok-clause-beside g c told =
    named_beside g.D.Disk.tells g.D.Disk.history (λ o. said_of (g.O.Origin.says o)) (view_of c.args.store.now) c.publish.new.disk c.requires.store.desk c.requires.whole c.args.id.0 c.args.part.now c.args.target.now c.requires.moving
    (λ told. g.met.D.Disk.sound told c.publish.new.disk) (λ told. g.met.D.Disk.sound told c.args.store.now.disk (g.D.Disk.history c.args.store.now.disk).moment) c.requires.stands told c.publish.result (c.publish.ensures.done told)

pub returns-in-Err-clause-keeps : goal.returns-in-Err-clause-keeps
returns-in-Err-clause-keeps g c =
    fell_keeps g.D.Disk.tells g.D.Disk.history (λ o. said_of (g.O.Origin.says o)) (view_of c.args.store.now) c.publish.new.disk c.requires.store.desk c.requires.whole c.args.id.0 c.args.part.now c.args.target.now c.requires.moving
    (λ told. g.met.D.Disk.sound told c.publish.new.disk) (λ told. g.met.D.Disk.sound told c.args.store.now.disk (g.D.Disk.history c.args.store.now.disk).moment) c.requires.stands c.publish.result c.publish.ensures.done

pub returns-in-Err-clause-store : goal.returns-in-Err-clause-store
returns-in-Err-clause-store g c = record {
  desk = fell_desk g.D.Disk.tells g.D.Disk.history (λ o. said_of (g.O.Origin.says o)) (view_of c.args.store.now) c.publish.new.disk c.requires.store.desk c.requires.whole c.args.id.0 c.args.part.now c.args.target.now c.requires.moving
      (λ told. g.met.D.Disk.sound told c.publish.new.disk) (λ told. g.met.D.Disk.sound told c.args.store.now.disk (g.D.Disk.history c.args.store.now.disk).moment) c.requires.stands c.publish.result c.publish.ensures.done;
  room = c.requires.store.room;
}

pub returns-in-Err-clause-beside : goal.returns-in-Err-clause-beside
returns-in-Err-clause-beside g c told =
    named_beside g.D.Disk.tells g.D.Disk.history (λ o. said_of (g.O.Origin.says o)) (view_of c.args.store.now) c.publish.new.disk c.requires.store.desk c.requires.whole c.args.id.0 c.args.part.now c.args.target.now c.requires.moving
    (λ told. g.met.D.Disk.sound told c.publish.new.disk) (λ told. g.met.D.Disk.sound told c.args.store.now.disk (g.D.Disk.history c.args.store.now.disk).moment) c.requires.stands told c.publish.result (c.publish.ensures.done told)
