use Rattle.std.proofs.Common.{◌≡◌, inl, inr, List, length, sym, ◌∙◌, ap, subst}
use Rattle.dm_store.specs.Origin.{said_of}
use Rattle.dm_answers.specs.declared.answer.SlicePass.{SlicePass}
use Rattle.dm_rounds.specs.Opened.{IsOpened}
use Rattle.dm_rounds.specs.Opening.{AreAsked}
use Rattle.dm_rounds.specs.Reading.{closed_before}
use Rattle.dm_rounds.specs.Rounding.{next_shares}
use Rattle.dm_rounds.proofs.Nexts.{lost_opens, next_asked, next_count, none_opens, round_opens}
use Rattle.dm_rounds.proofs.rounding.open_round.Goals as goal

pub returns-in-Err-clause-goes : goal.returns-in-Err-clause-goes
returns-in-Err-clause-goes g c scene trace asking live key count asks keyed still at =
    let D = g.S.D.Disk in
    let N = g.N.Net in
    inl (none_opens D.tells D.history (λ o. said_of (g.S.O.Origin.says o)) D.far D.faults scene c.args.pass.now (g.S.Desk.view c.plan_round.new.desk) trace asking N.tells (N.closed c.args.net.now) c.in-Err.stop
    (c.in-Err.ensures.goes scene trace asking live key count) still)

pub returns-in-Ok-open_parts-clause-goes : goal.returns-in-Ok-open_parts-clause-goes
returns-in-Ok-open_parts-clause-goes g c scene trace asking live key count asks keyed still at =
    let D = g.S.D.Disk in
    let N = g.N.Net in
    let W = g.N.W.Wire in
    let passes = c.in-Ok.passes in
    let present = g.S.Desk.view c.plan_round.new.desk in
    let planned = c.in-Ok.ensures.goes scene trace asking live key count in
    let shown : c.items.result.now ≡ passes = c.items.ensures in
    let asked = subst (λ (l : List SlicePass). AreAsked asking c.args.source.now c.args.pass.now (next_shares scene trace) 0 l) (sym shown)
    (next_asked D.tells D.history (λ o. said_of (g.S.O.Origin.says o)) D.far D.faults scene c.args.pass.now present trace asking passes planned c.args.source.now asks) in
    let many : length (next_shares scene trace) ≡ length c.items.result.now =
    next_count D.tells D.history (λ o. said_of (g.S.O.Origin.says o)) D.far D.faults scene c.args.pass.now present trace asking passes planned ∙ ap (λ (l : List SlicePass). length l) (sym shown) in
    let opened = c.in-Ok-open_parts.ensures.opened asking (next_shares scene trace) (closed_before scene trace) asks.own asked many still in
    round_opens D.tells D.history (λ o. said_of (g.S.O.Origin.says o)) D.far D.faults scene c.args.pass.now present trace asking passes planned N.tells W.tells W.purpose W.told W.origin
    (N.closed c.open_parts.new.net) c.open_parts.new.lanes.items keyed
    (subst (λ (o : g.row.S-O.Denot). IsOpened N.tells W.tells W.purpose W.told W.origin o asking (closed_before scene trace) (N.closed c.open_parts.new.net) (next_shares scene trace) c.open_parts.new.lanes.items) at opened)

pub returns-clause-goes : goal.returns-clause-goes
returns-clause-goes g c scene trace asking live key count asks keyed still at =
    let D = g.S.D.Disk in
    let N = g.N.Net in
    let passes = c.in-Ok.passes in
    let present = g.S.Desk.view c.plan_round.new.desk in
    let planned = c.in-Ok.ensures.goes scene trace asking live key count in
    let shown : c.items.result.now ≡ passes = c.items.ensures in
    let asked = subst (λ (l : List SlicePass). AreAsked asking c.args.source.now c.args.pass.now (next_shares scene trace) 0 l) (sym shown)
    (next_asked D.tells D.history (λ o. said_of (g.S.O.Origin.says o)) D.far D.faults scene c.args.pass.now present trace asking passes planned c.args.source.now asks) in
    inr (lost_opens D.tells D.history (λ o. said_of (g.S.O.Origin.says o)) D.far D.faults scene c.args.pass.now present trace asking passes planned N.tells (N.closed c.open_parts.new.net) (N.faults c.args.net.now)
    (N.faults c.open_parts.new.net) c.args.source.now c.in-Err-open_parts.stop c.in-Err-open_parts.ensures.own
    (c.in-Err-open_parts.ensures.stopped asking (next_shares scene trace) (closed_before scene trace) asked still))
