use Rattle.std.proofs.Common.{Ok, Err, subst}
use Rattle.dm_store.specs.Origin.{said_of}
use Rattle.dm_types.specs.declared.item.Item.{Item}
use Rattle.dm_attempt.specs.Scene.{begun_by}
use Rattle.dm_fetch.specs.Attempts.{IsSourceOf}
use Rattle.dm_fetch.specs.Drive.{HasNoSource, SourceOf}
use Rattle.dm_fetch.proofs.Drives.{begun_at, begun_item, kept_drives, kept_keyed, last_text, unread_stops}
use Rattle.dm_fetch.proofs.driving.drive_kept.Goals as goal

pub kept_source-requires : goal.kept_source-requires
kept_source-requires g c =
    let D = g.S.D.Disk in
    let N = g.N.Net in
    let may = c.requires.may in
    begun_at D.tells D.history (λ o. said_of (g.S.O.Origin.says o)) D.far D.faults N.tells may.scene c.args.pass.now (g.S.Desk.view c.args.desk.now) (N.closed c.args.net.now) (N.faults c.args.net.now) (N.origin_of c.args.net.now) c.args.at may.begun may.kept

pub run_kept-requires-clause-may : goal.run_kept-requires-clause-may
run_kept-requires-clause-may g c =
    let D = g.S.D.Disk in
    let N = g.N.Net in
    let may = c.requires.may in
    let found = c.in-Ok.ensures.is in
    let source = c.in-Ok.source in
    let same = begun_item D.tells D.history (λ o. said_of (g.S.O.Origin.says o)) D.far D.faults N.tells may.scene c.args.pass.now (g.S.Desk.view c.args.desk.now) (N.closed c.args.net.now) (N.faults c.args.net.now) (N.origin_of c.args.net.now) c.args.at may.begun
    (λ (item : Item). SourceOf item (Ok source)) found in
    record {
      scene = may.scene;
      is = record {
        live = may.begun.live c.args.slices;
        keyed = kept_keyed c.args.pass.now (begun_by may.scene) source (subst (λ (item : Item). IsSourceOf item source) same found.is);
        still = λ t. may.begun.closed_is;
        origin = may.begun.origin;
        at_is = may.begun.at_is;
      };
    }

pub returns-in-Err-clause-goes : goal.returns-in-Err-clause-goes
returns-in-Err-clause-goes g c scene begun kept =
    let D = g.S.D.Disk in
    let N = g.N.Net in
    let old = g.S.Desk.view c.args.desk.now in
    let found = c.in-Err.ensures.is in
    let same = begun_item D.tells D.history (λ o. said_of (g.S.O.Origin.says o)) D.far D.faults N.tells scene c.args.pass.now old (N.closed c.args.net.now) (N.faults c.args.net.now) (N.origin_of c.args.net.now) c.args.at begun
    (λ (item : Item). SourceOf item (Err c.in-Err.stop)) found in
    let none = subst (λ (item : Item). HasNoSource item c.in-Err.stop) same found.is in
    unread_stops D.tells D.history (λ o. said_of (g.S.O.Origin.says o)) D.far D.faults N.tells scene c.args.pass.now old (N.closed c.args.net.now) (N.faults c.args.net.now) (N.origin_of c.args.net.now) c.args.at begun
    none.text c.in-Err.stop c.args.slices
    (last_text D.tells D.history (λ o. said_of (g.S.O.Origin.says o)) D.far D.faults N.tells scene c.args.pass.now old (N.closed c.args.net.now) (N.faults c.args.net.now) (N.origin_of c.args.net.now) c.args.at begun kept.tag none.text kept.key_is none.text_is)
    none.unreads

pub returns-clause-goes : goal.returns-clause-goes
returns-clause-goes g c scene begun kept =
    let D = g.S.D.Disk in
    let N = g.N.Net in
    let old = g.S.Desk.view c.args.desk.now in
    let found = c.in-Ok.ensures.is in
    let source = c.in-Ok.source in
    let same = begun_item D.tells D.history (λ o. said_of (g.S.O.Origin.says o)) D.far D.faults N.tells scene c.args.pass.now old (N.closed c.args.net.now) (N.faults c.args.net.now) (N.origin_of c.args.net.now) c.args.at begun
    (λ (item : Item). SourceOf item (Ok source)) found in
    let is = subst (λ (item : Item). IsSourceOf item source) same found.is in
    kept_drives D.tells D.history (λ o. said_of (g.S.O.Origin.says o)) D.far D.faults N.tells scene c.args.pass.now old (N.closed c.args.net.now) (N.faults c.args.net.now) (N.origin_of c.args.net.now) c.args.at begun
    (g.S.Desk.view c.run_kept.new.desk) (N.closed c.run_kept.new.net) (N.faults c.run_kept.new.net) c.args.slices source is kept.few c.run_kept.result
    (c.run_kept.ensures.goes scene (record { live = begun.live c.args.slices; keyed = kept_keyed c.args.pass.now (begun_by scene) source is; still = λ t. begun.closed_is; origin = begun.origin; at_is = begun.at_is }))
