use Rattle.std.proofs.Common.{refl, ◌∙◌, subst}
use Rattle.dm_store.specs.Origin.{said_of}
use Rattle.dm_store.specs.declared.pass.Pass.{Pass}
use Rattle.dm_fetch.specs.Attempts.{TriedBy, tried}
use Rattle.dm_fetch.specs.Starts.{scene_of}
use Rattle.dm_fetch.proofs.Begun.{begun_key}
use Rattle.dm_fetch.proofs.Ends.{unstarted}
use Rattle.dm_fetch.proofs.attempting.attempt_with.Goals as goal

pub drive_fresh-came-requires-clause-may : goal.drive_fresh-came-requires-clause-may
drive_fresh-came-requires-clause-may g c =
    let N = g.N.Net in
    let found = rw c.in-Ok-Fresh.field-0-is at c.in-Ok-Fresh.ensures.leaves in
    let scene = scene_of (g.S.Desk.view c.args.desk.now) found.item c.args.by c.args.at (N.closed c.args.net.now) (N.faults c.args.net.now) in
    record {
      scene = scene;
      begun = record { live = λ n. found.is.live (N.closed c.args.net.now) (N.faults c.args.net.now) n; closed_is = refl; counts_are = refl; origin = c.requires.origin; at_is = refl };
      none = begun_key found.item c.args.by c.args.at ∙ found.is.none;
    }

pub drive_kept-came-requires-clause-may : goal.drive_kept-came-requires-clause-may
drive_kept-came-requires-clause-may g c =
    let N = g.N.Net in
    let found = rw c.in-Ok-Continue.field-0-is at c.in-Ok-Continue.ensures.leaves in
    let scene = scene_of (g.S.Desk.view c.args.desk.now) found.item c.args.by c.args.at (N.closed c.args.net.now) (N.faults c.args.net.now) in
    record {
      scene = scene;
      begun = record { live = λ n. found.is.live (N.closed c.args.net.now) (N.faults c.args.net.now) n; closed_is = refl; counts_are = refl; origin = c.requires.origin; at_is = refl };
      kept = found.is.kept;
    }

pub returns-in-Ok-Fresh-clause-did : goal.returns-in-Ok-Fresh-clause-did
returns-in-Ok-Fresh-clause-did g c =
    let D = g.S.D.Disk in
    let N = g.N.Net in
    let found = rw c.in-Ok-Fresh.field-0-is at c.in-Ok-Fresh.ensures.leaves in
    let scene = scene_of (g.S.Desk.view c.args.desk.now) found.item c.args.by c.args.at (N.closed c.args.net.now) (N.faults c.args.net.now) in
    tried (record {
      item = found.item;
      there = found.there;
      is = subst (λ (p : Pass). TriedBy D.tells D.history (λ o. said_of (g.S.O.Origin.says o)) D.far D.faults N.tells scene p (g.S.Desk.view c.end_as.new.desk) (N.closed c.drive_fresh-came.new.net) (N.faults c.args.net.now) (N.faults c.drive_fresh-came.new.net) c.args.slices c.end_as.result) found.is.pass_is
          (c.end_as.ensures scene (N.faults c.args.net.now) c.args.slices
          (c.drive_fresh-came.ensures.goes scene (record { live = λ n. found.is.live (N.closed c.args.net.now) (N.faults c.args.net.now) n; closed_is = refl; counts_are = refl; origin = c.requires.origin; at_is = refl })
          (begun_key found.item c.args.by c.args.at ∙ found.is.none)));
    })

pub returns-in-Ok-Continue-clause-did : goal.returns-in-Ok-Continue-clause-did
returns-in-Ok-Continue-clause-did g c =
    let D = g.S.D.Disk in
    let N = g.N.Net in
    let found = rw c.in-Ok-Continue.field-0-is at c.in-Ok-Continue.ensures.leaves in
    let scene = scene_of (g.S.Desk.view c.args.desk.now) found.item c.args.by c.args.at (N.closed c.args.net.now) (N.faults c.args.net.now) in
    tried (record {
      item = found.item;
      there = found.there;
      is = subst (λ (p : Pass). TriedBy D.tells D.history (λ o. said_of (g.S.O.Origin.says o)) D.far D.faults N.tells scene p (g.S.Desk.view c.end_as-in-Ok-Continue.new.desk) (N.closed c.drive_kept-came.new.net) (N.faults c.args.net.now) (N.faults c.drive_kept-came.new.net) c.args.slices c.end_as-in-Ok-Continue.result) found.is.pass_is
          (c.end_as-in-Ok-Continue.ensures scene (N.faults c.args.net.now) c.args.slices
          (c.drive_kept-came.ensures.goes scene (record { live = λ n. found.is.live (N.closed c.args.net.now) (N.faults c.args.net.now) n; closed_is = refl; counts_are = refl; origin = c.requires.origin; at_is = refl })
          found.is.kept));
    })

pub returns-in-Err-clause-did : goal.returns-in-Err-clause-did
returns-in-Err-clause-did g c =
    let D = g.S.D.Disk in
    let N = g.N.Net in
    unstarted D.tells D.history (λ o. said_of (g.S.O.Origin.says o)) D.far D.faults N.tells (g.S.Desk.view c.args.desk.now) (g.S.Desk.view c.start.new.desk) (N.closed c.args.net.now) (N.closed c.args.net.now) (N.faults c.args.net.now) (N.faults c.args.net.now)
    c.args.id c.args.by c.args.slices c.args.at (λ t. refl) c.in-Err.ended c.in-Err.ensures.leaves
