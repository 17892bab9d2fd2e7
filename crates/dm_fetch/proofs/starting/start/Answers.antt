use Rattle.std.proofs.Common.{◌≤◌, refl, subst, sym}
use Rattle.dm_store.specs.Origin.{said_of}
use Rattle.dm_types.specs.Name.{IsPart}
use Rattle.dm_types.specs.declared.item.Limits.{Limits}
use Rattle.dm_disk_model.proofs.Beside.{besides_same}
use Rattle.dm_policy.specs.declared.cause.Cause.TheVariants as causes
use Rattle.dm_attempt.specs.Goes.{CallGoes}
use Rattle.dm_fetch.specs.Starts.{short}
use Rattle.dm_fetch.proofs.Begun.{kept_begun}
use Rattle.dm_fetch.proofs.Starts.{at_own, begin_fails, begins_few, begins_live, over_at_once}
use Rattle.dm_fetch.proofs.starting.start.Goals as goal

pub returns-in-Ok-Fresh-clause-leaves : goal.returns-in-Ok-Fresh-clause-leaves
returns-in-Ok-Fresh-clause-leaves g c =
    let D = g.S.D.Disk in
    let view = g.S.Desk.view in
    let old = view c.args.desk.now in
    let new = view c.begin.new.self in
    let found = rw c.in-Ok-Fresh.field-0-is at c.in-Ok-Fresh.ensures.answers in
    record {
      item = found.item;
      there = found.there;
      is = record {
        pass_is = found.is.0.pass_is;
        none = found.is.0.untold;
        live = begins_live D.tells D.history (λ o. said_of (g.S.O.Origin.says o)) D.far D.faults old new
            (record { keeps = c.begin.ensures.keeps; near = c.begin.ensures.far; later = c.begin.ensures.cause.later; beside = λ t. besides_same IsPart (D.history old.disk) (D.history new.disk) (c.begin.ensures.beside t) })
            c.args.id c.args.by c.args.at found.item found.there c.in-Ok-Fresh.pass found.is.0.pass_is c.begin.ensures.was found.is.0.may found.is.1 c.begin.ensures.beside;
      };
    }

pub returns-in-Ok-Fresh-clause-limits : goal.returns-in-Ok-Fresh-clause-limits
returns-in-Ok-Fresh-clause-limits g c = let found = rw c.in-Ok-Fresh.field-0-is at c.in-Ok-Fresh.ensures.answers in found.is.1.limits

pub returns-in-Ok-Fresh-clause-some : goal.returns-in-Ok-Fresh-clause-some
returns-in-Ok-Fresh-clause-some g c = let found = rw c.in-Ok-Fresh.field-0-is at c.in-Ok-Fresh.ensures.answers in subst (λ (l : Limits). 1 ≤ l.piece) (sym found.is.1.limits) c.begin.ensures.was.limits_are.piece.0

pub returns-in-Ok-Continue-clause-leaves : goal.returns-in-Ok-Continue-clause-leaves
returns-in-Ok-Continue-clause-leaves g c =
    let D = g.S.D.Disk in
    let view = g.S.Desk.view in
    let old = view c.args.desk.now in
    let new = view c.begin.new.self in
    let found = rw c.in-Ok-Continue.field-0-is at c.in-Ok-Continue.ensures.answers in
    let call : CallGoes D.tells D.history (λ o. said_of (g.S.O.Origin.says o)) D.far D.faults IsPart old new = record { keeps = c.begin.ensures.keeps; near = c.begin.ensures.far; later = c.begin.ensures.cause.later; beside = λ t. besides_same IsPart (D.history old.disk) (D.history new.disk) (c.begin.ensures.beside t) } in
    let live = begins_live D.tells D.history (λ o. said_of (g.S.O.Origin.says o)) D.far D.faults old new call
    c.args.id c.args.by c.args.at found.item found.there c.in-Ok-Continue.pass found.is.1.pass_is c.begin.ensures.was found.is.0.may found.is.2 c.begin.ensures.beside in
    record {
      item = found.item;
      there = found.there;
      is = record {
        pass_is = found.is.1.pass_is;
        kept = kept_begun D.tells D.history old c.begin.ensures.was found.item
            (at_own D.tells D.history (λ o. said_of (g.S.O.Origin.says o)) D.far D.faults old new call c.args.id c.args.by c.args.at found.item found.there) c.args.by c.args.at found.is.0.may found.is.0.told
            (begins_few D.tells D.history (λ o. said_of (g.S.O.Origin.says o)) D.far D.faults old new call c.args.id c.args.by c.args.at found.item found.there c.in-Ok-Continue.pass c.begin.ensures.kept live);
        live = live;
      };
    }

pub returns-in-Ok-Continue-clause-limits : goal.returns-in-Ok-Continue-clause-limits
returns-in-Ok-Continue-clause-limits g c = let found = rw c.in-Ok-Continue.field-0-is at c.in-Ok-Continue.ensures.answers in found.is.2.limits

pub returns-in-Ok-Continue-clause-some : goal.returns-in-Ok-Continue-clause-some
returns-in-Ok-Continue-clause-some g c = let found = rw c.in-Ok-Continue.field-0-is at c.in-Ok-Continue.ensures.answers in subst (λ (l : Limits). 1 ≤ l.piece) (sym found.is.2.limits) c.begin.ensures.was.limits_are.piece.0

pub returns-in-Ok-Short-clause-leaves : goal.returns-in-Ok-Short-clause-leaves
returns-in-Ok-Short-clause-leaves g c =
    let D = g.S.D.Disk in
    let view = g.S.Desk.view in
    let old = view c.args.desk.now in
    let new = view c.begin.new.self in
    let found = rw c.in-Ok-Short.field-0-is at c.in-Ok-Short.ensures.answers in
    let have = c.in-Ok-Short._have in
    let wanted = c.in-Ok-Short._wanted in
    short have wanted refl (record {
      item = found.item;
      there = found.there;
      is = record {
        short = found.is.1;
        over = over_at_once D.tells D.history (λ o. said_of (g.S.O.Origin.says o)) D.far D.faults old new
            (record { keeps = c.begin.ensures.keeps; near = c.begin.ensures.far; later = c.begin.ensures.cause.later; beside = λ t. besides_same IsPart (D.history old.disk) (D.history new.disk) (c.begin.ensures.beside t) })
            c.args.id c.args.by c.args.at found.item found.there (causes.PartShort have wanted) found.is.2;
      };
    })

pub returns-in-Err-clause-leaves : goal.returns-in-Err-clause-leaves
returns-in-Err-clause-leaves g c =
    let D = g.S.D.Disk in
    let view = g.S.Desk.view in
    let old = view c.args.desk.now in
    let new = view c.begin.new.self in
    begin_fails D.tells D.history (λ o. said_of (g.S.O.Origin.says o)) D.far D.faults old new
    (record { keeps = c.begin.ensures.keeps; near = c.begin.ensures.far; later = c.begin.ensures.cause.later; beside = λ t. besides_same IsPart (D.history old.disk) (D.history new.disk) (c.begin.ensures.beside t) })
    c.args.id c.args.by c.args.at c.in-Err.fault c.in-Err.ensures.answers c.in-Err.ensures.cause.cause
