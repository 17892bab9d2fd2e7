use Rattle.std.proofs.Common.{arith, sym, ◌∙◌}
use Rattle.dm_store.specs.Origin.{said_of}
use Rattle.dm_types.specs.declared.kinds.By.TheVariants.{Itself, User}
use Rattle.dm_fetch.proofs.Later.{fetch_completes}
use Rattle.dm_fetch.proofs.Repeats.{all_last, fewer_left, first_last, next_last}
use Rattle.dm_fetch.proofs.Rises.{origin_stays}
use Rattle.dm_fetch.proofs.fetching.fetch.Goals as goal

pub loop-ended-init : goal.loop-ended-init
loop-ended-init g c =
    let D = g.S.D.Disk in
    let N = g.N.Net in
    let view = g.S.Desk.view in
    record {
      last = first_last D.tells D.history (λ o. said_of (g.S.O.Origin.says o)) D.far D.faults N.tells c.args.id c.args.slices c.args.at (view c.args.desk.now) (N.closed c.args.net.now) (N.faults c.args.net.now)
          (view c.attempt-ended.new.desk) (N.closed c.attempt-ended.new.net) (N.faults c.attempt-ended.new.net) c.attempt-ended.result (c.attempt-ended.ensures.did, c.attempt-ended.ensures.later);
      origin = c.attempt-ended.ensures.stays ∙ c.requires.origin
          ∙ sym (origin_stays D.tells D.history (λ o. said_of (g.S.O.Origin.says o)) D.far D.faults N.tells (view c.args.desk.now) (view c.attempt-ended.new.desk) (N.closed c.args.net.now) (N.closed c.attempt-ended.new.net)
          (N.faults c.args.net.now) (N.faults c.attempt-ended.new.net) c.args.id User c.args.slices c.args.at c.attempt-ended.result c.attempt-ended.ensures.did);
      stays = c.attempt-ended.ensures.stays;
      later = c.attempt-ended.ensures.later;
    }

pub attempt-ended-requires-in-loop-ended-clause-origin : goal.attempt-ended-requires-in-loop-ended-clause-origin
attempt-ended-requires-in-loop-ended-clause-origin g c = c.loop-ended.invariant.origin

pub loop-ended-smaller : goal.loop-ended-smaller
loop-ended-smaller g c =
    let D = g.S.D.Disk in
    let N = g.N.Net in
    let view = g.S.Desk.view in
    fewer_left D.tells D.history (λ o. said_of (g.S.O.Origin.says o)) D.far D.faults N.tells c.args.id c.args.slices c.args.at (view c.loop-ended.desk) (N.closed c.loop-ended.net) (N.faults c.loop-ended.net)
    c.loop-ended.ended (c.goes_on.ensures.yes c.loop-ended-test.true) (view c.attempt-ended-in-loop-ended.new.desk) (N.closed c.attempt-ended-in-loop-ended.new.net) (N.faults c.attempt-ended-in-loop-ended.new.net)
    c.attempt-ended-in-loop-ended.result (c.attempt-ended-in-loop-ended.ensures.did, c.attempt-ended-in-loop-ended.ensures.later)

pub loop-ended-preserved : goal.loop-ended-preserved
loop-ended-preserved g c =
    let D = g.S.D.Disk in
    let N = g.N.Net in
    let view = g.S.Desk.view in
    record {
      last = next_last D.tells D.history (λ o. said_of (g.S.O.Origin.says o)) D.far D.faults N.tells c.args.id c.args.slices c.args.at (view c.args.desk.now) (N.closed c.args.net.now) (N.faults c.args.net.now)
          (view c.loop-ended.desk) (N.closed c.loop-ended.net) (N.faults c.loop-ended.net) c.loop-ended.ended c.loop-ended.invariant.last (c.goes_on.ensures.yes c.loop-ended-test.true)
          (view c.attempt-ended-in-loop-ended.new.desk) (N.closed c.attempt-ended-in-loop-ended.new.net) (N.faults c.attempt-ended-in-loop-ended.new.net) c.attempt-ended-in-loop-ended.result (c.attempt-ended-in-loop-ended.ensures.did, c.attempt-ended-in-loop-ended.ensures.later);
      origin = c.attempt-ended-in-loop-ended.ensures.stays ∙ c.loop-ended.invariant.origin
          ∙ sym (origin_stays D.tells D.history (λ o. said_of (g.S.O.Origin.says o)) D.far D.faults N.tells (view c.loop-ended.desk) (view c.attempt-ended-in-loop-ended.new.desk) (N.closed c.loop-ended.net) (N.closed c.attempt-ended-in-loop-ended.new.net)
          (N.faults c.loop-ended.net) (N.faults c.attempt-ended-in-loop-ended.new.net) c.args.id Itself c.args.slices c.args.at c.attempt-ended-in-loop-ended.result c.attempt-ended-in-loop-ended.ensures.did);
      stays = c.attempt-ended-in-loop-ended.ensures.stays ∙ c.loop-ended.invariant.stays;
      later = λ kind. let a = c.loop-ended.invariant.later kind in let b = c.attempt-ended-in-loop-ended.ensures.later kind in omega (arith, a, b);
    }

pub returns-clause-did : goal.returns-clause-did
returns-clause-did g c =
    let D = g.S.D.Disk in
    let N = g.N.Net in
    let view = g.S.Desk.view in
    all_last D.tells D.history (λ o. said_of (g.S.O.Origin.says o)) D.far D.faults N.tells c.args.id c.args.slices c.args.at (view c.args.desk.now) (N.closed c.args.net.now) (N.faults c.args.net.now)
    (view c.loop-ended.desk) (N.closed c.loop-ended.net) (N.faults c.loop-ended.net) c.loop-ended.ended c.loop-ended.invariant.last (c.goes_on.ensures.no c.loop-ended-test.false)

pub returns-clause-completes : goal.returns-clause-completes
returns-clause-completes g c smooth =
    let D = g.S.D.Disk in
    let N = g.N.Net in
    let view = g.S.Desk.view in
    let did = all_last D.tells D.history (λ o. said_of (g.S.O.Origin.says o)) D.far D.faults N.tells c.args.id c.args.slices c.args.at (view c.args.desk.now) (N.closed c.args.net.now) (N.faults c.args.net.now)
    (view c.loop-ended.desk) (N.closed c.loop-ended.net) (N.faults c.loop-ended.net) c.loop-ended.ended c.loop-ended.invariant.last (c.goes_on.ensures.no c.loop-ended-test.false) in
    fetch_completes D.tells D.history (λ o. said_of (g.S.O.Origin.says o)) D.far D.faults N.tells c.args.id c.args.slices c.args.at (view c.loop-ended.desk) (N.closed c.loop-ended.net) (N.faults c.loop-ended.net) c.loop-ended.ended
    g.met.S.D.Disk.sound c.requires.some (view c.args.desk.now) (N.closed c.args.net.now) (N.faults c.args.net.now) User did.more did.all smooth
