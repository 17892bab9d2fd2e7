use Rattle.std.proofs.Common.{◌≡◌, List, None, subst}
use Rattle.std.specs.Prelude.{slice_get}
use Rattle.dm_store.specs.Origin.{said_of}
use Rattle.dm_answers.specs.declared.answer.SlicePass.{SlicePass}
use Rattle.dm_rounds.specs.Serving.{IsServing}
use Rattle.dm_rounds.proofs.Serves.{none_is}
use Rattle.dm_rounds.proofs.fresh.bring.Goals as goal

pub returns-in-None-clause-goes : goal.returns-in-None-clause-goes
returns-in-None-clause-goes g c scene old first handed slices led is =
    let D = g.S.D.Disk in
    let N = g.N.Net in
    let W = g.N.W.Wire in
    let view = g.S.Desk.view in
    let plan = c.args.plan.now in
    let none : slice_get plan 0 ≡ None = let e = c.in-None.ensures.value in cc in
    c.finish_bare.ensures.goes scene old first handed slices led
    (subst (λ (l : List SlicePass). IsServing D.tells D.history (λ o. said_of (g.S.O.Origin.says o)) D.far D.faults N.tells W.tells W.purpose W.told W.origin scene c.args.pass.now old (view c.args.desk.now) (N.closed c.args.net.now) (N.origin_of c.args.net.now) first handed slices c.args.reply led c.args.count l c.args.at)
    (none_is plan none) is)
