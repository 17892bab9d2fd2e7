use Rattle.std.proofs.Common.{refl}
use Rattle.dm_store.specs.Origin.{said_of}
use Rattle.dm_does.specs.declared.course.Course.TheVariants.{Brings}
use Rattle.dm_does.specs.Saying.{said_by}
use Rattle.dm_brings.proofs.Brings.{brought_of}
use Rattle.dm_brings.proofs.Completed.{ends_well}
use Rattle.dm_bring.proofs.Gone.{fetch_goes}
use Rattle.dm_bring.proofs.bringing.bring_item.Goals as goal

pub returns-clause-brought : goal.returns-clause-brought
returns-clause-brought g c =
    let D = g.D.Disk in
    let N = g.N.Net in
    let none = c.items-kept.ensures.kept.failed c.requires.whole in
    let did = c.fetch-ended.ensures.did in
    let brought = brought_of D.tells D.history (λ o. said_of (g.N.O.Origin.says o)) D.far D.faults N.tells c.args.id c.args.slices c.args.at c.args.desk.now c.fetch-ended.new.desk (N.closed c.args.net.now) (N.closed c.fetch-ended.new.net)
    (N.faults c.args.net.now) (N.faults c.fetch-ended.new.net) c.fetch-ended.result c.requires.whole none did in
    record {
      end = c.fetch-ended.result;
      course_is = c.course_behind.ensures;
      brought = brought;
      goes = fetch_goes D.tells D.history (λ o. said_of (g.N.O.Origin.says o)) D.far D.faults N.tells c.args.id c.args.slices c.args.at g.met.D.Disk.sound c.args.desk.now c.fetch-ended.new.desk (N.closed c.args.net.now) (N.closed c.fetch-ended.new.net)
          (N.faults c.args.net.now) (N.faults c.fetch-ended.new.net) c.fetch-ended.result c.requires.whole none did brought;
      ends = λ waits smooth.
          ends_well D.tells D.history (λ o. said_of (g.N.O.Origin.says o)) D.far D.faults N.tells c.args.desk.now c.fetch-ended.new.desk (N.closed c.args.net.now) (N.closed c.fetch-ended.new.net) (N.faults c.args.net.now) (N.faults c.fetch-ended.new.net)
          c.args.id c.args.slices c.args.at (said_by c.fetch-ended.new.desk.items.items (Brings c.args.id c.args.slices)) refl c.fetch-ended.result waits (c.fetch-ended.ensures.completes smooth);
    }
