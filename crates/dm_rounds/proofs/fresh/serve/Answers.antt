use Rattle.std.proofs.Common.{◌≡◌, ◌∙◌, vec_len, ◌≤◌, ◌<◌, ℕ, ◌∷◌, List, [], length, get_or, sym, subst, arith}
use Rattle.dm_types.specs.declared.item.Limits.{Limits}
use Rattle.dm_store.specs.Origin.{said_of}
use Rattle.dm_edge.specs.Wire.{closed_of}
use Rattle.dm_answers.specs.declared.answer.SlicePass.{SlicePass}
use Rattle.dm_rounds.specs.Beginning.{HasPlanned}
use Rattle.dm_rounds.specs.Serving.{IsServing}
use Rattle.dm_rounds.proofs.Anew.{none_begun, untold_any}
use Rattle.dm_rounds.proofs.Heard.{own_reply}
use Rattle.dm_rounds.proofs.Serves.{count_some}
use Rattle.dm_rounds.proofs.fresh.serve.Goals as goal

pub begin_round-requires-clause-plain : goal.begin_round-requires-clause-plain
begin_round-requires-clause-plain g c = c.requires.may.is.has.replied.plain

pub begin_round-requires-clause-key : goal.begin_round-requires-clause-key
begin_round-requires-clause-key g c = c.requires.may.is.has.replied.key_is

pub begin_round-requires-clause-read : goal.begin_round-requires-clause-read
begin_round-requires-clause-read g c = c.requires.may.is.has.reads

pub begin_round-requires-clause-some : goal.begin_round-requires-clause-some
begin_round-requires-clause-some g c =
    let head = c.args.reply.head in
    subst (λ (n : ℕ). 1 ≤ n) (sym c.parts_wanted-count.ensures) (count_some c.args.slices head.strong head.total head.ranges c.requires.some).0

pub begin_round-requires-clause-few : goal.begin_round-requires-clause-few
begin_round-requires-clause-few g c =
    let head = c.args.reply.head in
    let most = (count_some c.args.slices head.strong head.total head.ranges c.requires.some).1 in
    let few = c.requires.few in
    subst (λ (n : ℕ). n ≤ 16) (sym c.parts_wanted-count.ensures) (omega (arith, most, few))

pub bring-requires-clause-some : goal.bring-requires-clause-some
bring-requires-clause-some g c =
    let head = c.args.reply.head in
    subst (λ (n : ℕ). 1 ≤ n) (sym c.parts_wanted-count.ensures) (count_some c.args.slices head.strong head.total head.ranges c.requires.some).0

pub bring-requires-clause-few : goal.bring-requires-clause-few
bring-requires-clause-few g c =
    let head = c.args.reply.head in
    let most = (count_some c.args.slices head.strong head.total head.ranges c.requires.some).1 in
    let few = c.requires.few in
    subst (λ (n : ℕ). n ≤ 16) (sym c.parts_wanted-count.ensures) (omega (arith, most, few))

pub bring-requires-clause-parts : goal.bring-requires-clause-parts
bring-requires-clause-parts g c = subst (λ (l : List SlicePass). length l ≤ c.parts_wanted-count.result) (sym c.items.ensures) c.in-Ok.ensures.few

pub bring-requires-clause-ordered : goal.bring-requires-clause-ordered
bring-requires-clause-ordered g c = subst (λ (l : List SlicePass). (k : ℕ) (d : SlicePass) → k < length l → (get_or l k d).first < (get_or l k d).end) (sym c.items.ensures) c.in-Ok.ensures.ordered

pub bring-requires-clause-most : goal.bring-requires-clause-most
bring-requires-clause-most g c =
    let D = g.S.D.Disk in
    let view = g.S.Desk.view in
    let m = c.requires.may in
    let planned = c.in-Ok.ensures.goes m.scene m.led [] (untold_any D.tells D.history (λ o. said_of (g.S.O.Origin.says o)) D.far D.faults m.scene c.args.pass.now (view c.args.desk.now) m.led [] c.parts_wanted-count.result m.is.live) m.is.none in
    let limits : (view c.begin_round.new.desk).limits ≡ (view c.args.desk.now).limits = planned.named.is.planned.2.goes.went.limits ∙ sym m.is.live.goes.went.limits in
    subst (λ (l : Limits). vec_len c.args.tools.now.buffer ≤ l.piece) (sym limits) c.requires.most

pub bring-requires-clause-may : goal.bring-requires-clause-may
bring-requires-clause-may g c =
    let D = g.S.D.Disk in
    let N = g.N.Net in
    let W = g.N.W.Wire in
    let view = g.S.Desk.view in
    let m = c.requires.may in
    let pass = c.args.pass.now in
    let reply = c.args.reply in
    let count = c.parts_wanted-count.result in
    let passes = c.in-Ok.passes in
    let shown : c.items.result.now ≡ passes = c.items.ensures in
    let serves : IsServing D.tells D.history (λ o. said_of (g.S.O.Origin.says o)) D.far D.faults N.tells W.tells W.purpose W.told W.origin m.scene pass (view c.args.desk.now) (view c.begin_round.new.desk) (N.closed c.args.net.now) (N.origin_of c.args.net.now) m.first c.args.wish.now c.args.slices reply m.led count c.items.result.now c.args.at = record {
      has = m.is.has;
      planned = λ lost. subst (λ (l : List SlicePass). HasPlanned D.tells D.history (λ o. said_of (g.S.O.Origin.says o)) D.far D.faults m.scene pass (view c.args.desk.now) (view c.begin_round.new.desk) m.led lost count c.args.wish.now reply.head reply.address reply.key l) (sym shown)
          (c.in-Ok.ensures.goes m.scene m.led lost (untold_any D.tells D.history (λ o. said_of (g.S.O.Origin.says o)) D.far D.faults m.scene pass (view c.args.desk.now) m.led lost count m.is.live) m.is.none);
      bare = c.in-Ok.ensures.bare m.scene m.led [] (untold_any D.tells D.history (λ o. said_of (g.S.O.Origin.says o)) D.far D.faults m.scene pass (view c.args.desk.now) m.led [] count m.is.live) m.is.none;
      count_is = c.parts_wanted-count.ensures;
    } in
    record { scene = m.scene; old = view c.args.desk.now; first = m.first; handed = c.args.wish.now; slices = c.args.slices; led = m.led; is = serves }

pub returns-in-Ok-clause-goes : goal.returns-in-Ok-clause-goes
returns-in-Ok-clause-goes g c scene first led is =
    let D = g.S.D.Disk in
    let N = g.N.Net in
    let W = g.N.W.Wire in
    let view = g.S.Desk.view in
    let pass = c.args.pass.now in
    let reply = c.args.reply in
    let count = c.parts_wanted-count.result in
    let passes = c.in-Ok.passes in
    let shown : c.items.result.now ≡ passes = c.items.ensures in
    let serves : IsServing D.tells D.history (λ o. said_of (g.S.O.Origin.says o)) D.far D.faults N.tells W.tells W.purpose W.told W.origin scene pass (view c.args.desk.now) (view c.begin_round.new.desk) (N.closed c.args.net.now) (N.origin_of c.args.net.now) first c.args.wish.now c.args.slices reply led count c.items.result.now c.args.at = record {
      has = is.has;
      planned = λ lost. subst (λ (l : List SlicePass). HasPlanned D.tells D.history (λ o. said_of (g.S.O.Origin.says o)) D.far D.faults scene pass (view c.args.desk.now) (view c.begin_round.new.desk) led lost count c.args.wish.now reply.head reply.address reply.key l) (sym shown)
          (c.in-Ok.ensures.goes scene led lost (untold_any D.tells D.history (λ o. said_of (g.S.O.Origin.says o)) D.far D.faults scene pass (view c.args.desk.now) led lost count is.live) is.none);
      bare = c.in-Ok.ensures.bare scene led [] (untold_any D.tells D.history (λ o. said_of (g.S.O.Origin.says o)) D.far D.faults scene pass (view c.args.desk.now) led [] count is.live) is.none;
      count_is = c.parts_wanted-count.ensures;
    } in
    c.bring.ensures.goes scene (view c.args.desk.now) first c.args.wish.now c.args.slices led serves

pub returns-in-Err-clause-goes : goal.returns-in-Err-clause-goes
returns-in-Err-clause-goes g c scene first led is =
    let D = g.S.D.Disk in
    let N = g.N.Net in
    let W = g.N.W.Wire in
    let view = g.S.Desk.view in
    let pass = c.args.pass.now in
    let reply = c.args.reply in
    let count = c.parts_wanted-count.result in
    let lost = closed_of (W.purpose reply.wire) (W.told reply.wire) in
    none_begun D.tells D.history (λ o. said_of (g.S.O.Origin.says o)) D.far D.faults scene pass N.tells (view c.args.desk.now) first c.args.wish.now c.args.slices W.tells W.purpose W.told W.origin (N.closed c.args.net.now) (N.origin_of c.args.net.now) reply led c.args.at count is.has
    (view c.begin_round.new.desk) (N.closed c.close_reply.new.net) (N.faults c.args.net.now) (N.faults c.close_reply.new.net) lost c.in-Err.stop c.parts_wanted-count.ensures c.close_reply.ensures.closed
    (λ n. own_reply W.purpose W.told pass first reply is.has.replied (is.has.heard (g.met.N.Net.wires_tell n)))
    (c.in-Err.ensures.goes scene led (lost ∷ []) (untold_any D.tells D.history (λ o. said_of (g.S.O.Origin.says o)) D.far D.faults scene pass (view c.args.desk.now) led (lost ∷ []) count is.live) is.none)
