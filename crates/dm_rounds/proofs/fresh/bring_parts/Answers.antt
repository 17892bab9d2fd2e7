use Rattle.std.proofs.Common.{◌≡◌, ◌∙◌, ◌++◌, ◌∷◌, List, [], length, refl, sym, ap, arith}
use Rattle.dm_types.specs.declared.item.Key.{Key}
use Rattle.dm_store.specs.Origin.{said_of}
use Rattle.dm_answers.specs.Slices.{part_of}
use Rattle.dm_attempt.specs.Asking.{source_by}
use Rattle.dm_rounds.specs.declared.lane.Lane.{Lane}
use Rattle.dm_rounds.specs.Serving.{first_lane}
use Rattle.dm_rounds.proofs.Serves.{count_alone, head_is, sliced}
use Rattle.dm_rounds.proofs.Taking.{is_open, run_leaves, source_same, tale, trace}
use Rattle.dm_rounds.proofs.fresh.bring_parts.Goals as goal

pub bring_all-requires-clause-may : goal.bring_all-requires-clause-may
bring_all-requires-clause-may g c =
    let D = g.S.D.Disk in
    let N = g.N.Net in
    let W = g.N.W.Wire in
    let view = g.S.Desk.view in
    let pass = c.args.pass.now in
    let plan = c.args.plan.now in
    let head = head_is plan c.args.slice.now c.requires.slice in
    let ordered = sliced plan c.args.slice.now head.0 head.1 c.requires.ordered in
    let m = c.requires.may in
    let items : c.open_lane.new.lanes.items ≡ first_lane c.args.reply (part_of c.args.slice.now) ∷ [] = c.open_lane.ensures.items ∙ ap (λ (l : List (Lane g.row.N-W.Denot)). l ++ first_lane c.args.reply (part_of c.args.slice.now) ∷ []) c.requires.none in
    record {
      scene = m.scene;
      trace = trace D.tells D.history (λ o. said_of (g.S.O.Origin.says o)) D.far D.faults N.tells W.tells g.met.N.Net.wires_tell W.purpose W.told W.origin m.scene pass m.old (view c.args.desk.now) (N.closed c.args.net.now) (N.origin_of c.args.net.now) m.first m.handed m.slices c.args.reply m.led c.args.count plan c.args.at m.is [];
      tale = tale D.tells D.history (λ o. said_of (g.S.O.Origin.says o)) D.far D.faults N.tells W.tells g.met.N.Net.wires_tell W.purpose W.told W.origin m.scene pass m.old (view c.args.desk.now) (N.closed c.args.net.now) (N.origin_of c.args.net.now) m.first m.handed m.slices c.args.reply m.led c.args.count plan c.args.at m.is [];
      is = is_open D.tells D.history (λ o. said_of (g.S.O.Origin.says o)) D.far D.faults N.tells W.tells g.met.N.Net.wires_tell W.purpose W.told W.origin m.scene pass m.old (view c.args.desk.now) (N.closed c.args.net.now) (N.origin_of c.args.net.now) m.first m.handed m.slices c.args.reply m.led c.args.count plan c.args.at m.is c.args.slice.now head.0 head.1 c.requires.some ordered c.open_lane.new.lanes.items items;
      source_is = source_same D.tells D.history (λ o. said_of (g.S.O.Origin.says o)) D.far D.faults N.tells W.tells g.met.N.Net.wires_tell W.purpose W.told W.origin m.scene pass m.old (view c.args.desk.now) (N.closed c.args.net.now) (N.origin_of c.args.net.now) m.first m.handed m.slices c.args.reply m.led c.args.count plan c.args.at m.is c.args.slice.now head.0 head.1 c.requires.some ordered ∙ sym c.open_lane.ensures.source ∙ c.in-Some.is;
      count_is = refl;
    }

pub bring_alone-requires-clause-may : goal.bring_alone-requires-clause-may
bring_alone-requires-clause-may g c =
    let D = g.S.D.Disk in
    let N = g.N.Net in
    let W = g.N.W.Wire in
    let view = g.S.Desk.view in
    let pass = c.args.pass.now in
    let plan = c.args.plan.now in
    let head = head_is plan c.args.slice.now c.requires.slice in
    let ordered = sliced plan c.args.slice.now head.0 head.1 c.requires.ordered in
    let m = c.requires.may in
    let items : c.open_lane.new.lanes.items ≡ first_lane c.args.reply (part_of c.args.slice.now) ∷ [] = c.open_lane.ensures.items ∙ ap (λ (l : List (Lane g.row.N-W.Denot)). l ++ first_lane c.args.reply (part_of c.args.slice.now) ∷ []) c.requires.none in
    let none = sym c.open_lane.ensures.source ∙ c.in-None.is in
    let reply = c.args.reply in
    let one : c.args.count ≡ 1 = m.is.count_is ∙ count_alone pass reply.address m.slices reply.head.strong reply.head.total reply.head.ranges (sym (ap (λ (k : Key). source_by reply.address k reply.head.total) m.is.has.replied.key_is) ∙ none) in
    let long : length plan ≡ 1 = let e = ap (λ (l : List _). length l) head.1 in let parts = c.requires.parts in omega (arith, e, parts, one) in (
      plan,
      long,
      record {
        scene = m.scene;
        trace = trace D.tells D.history (λ o. said_of (g.S.O.Origin.says o)) D.far D.faults N.tells W.tells g.met.N.Net.wires_tell W.purpose W.told W.origin m.scene pass m.old (view c.args.desk.now) (N.closed c.args.net.now) (N.origin_of c.args.net.now) m.first m.handed m.slices c.args.reply m.led c.args.count plan c.args.at m.is [];
        tale = tale D.tells D.history (λ o. said_of (g.S.O.Origin.says o)) D.far D.faults N.tells W.tells g.met.N.Net.wires_tell W.purpose W.told W.origin m.scene pass m.old (view c.args.desk.now) (N.closed c.args.net.now) (N.origin_of c.args.net.now) m.first m.handed m.slices c.args.reply m.led c.args.count plan c.args.at m.is [];
        is = is_open D.tells D.history (λ o. said_of (g.S.O.Origin.says o)) D.far D.faults N.tells W.tells g.met.N.Net.wires_tell W.purpose W.told W.origin m.scene pass m.old (view c.args.desk.now) (N.closed c.args.net.now) (N.origin_of c.args.net.now) m.first m.handed m.slices c.args.reply m.led c.args.count plan c.args.at m.is c.args.slice.now head.0 head.1 c.requires.some ordered c.open_lane.new.lanes.items items;
        source_is = source_same D.tells D.history (λ o. said_of (g.S.O.Origin.says o)) D.far D.faults N.tells W.tells g.met.N.Net.wires_tell W.purpose W.told W.origin m.scene pass m.old (view c.args.desk.now) (N.closed c.args.net.now) (N.origin_of c.args.net.now) m.first m.handed m.slices c.args.reply m.led c.args.count plan c.args.at m.is c.args.slice.now head.0 head.1 c.requires.some ordered ∙ none;
        count_is = one;
      },
    )

pub returns-in-Some-clause-goes : goal.returns-in-Some-clause-goes
returns-in-Some-clause-goes g c scene old first handed slices led is =
    let D = g.S.D.Disk in
    let N = g.N.Net in
    let W = g.N.W.Wire in
    let view = g.S.Desk.view in
    let pass = c.args.pass.now in
    let plan = c.args.plan.now in
    let head = head_is plan c.args.slice.now c.requires.slice in
    let ordered = sliced plan c.args.slice.now head.0 head.1 c.requires.ordered in
    let items : c.open_lane.new.lanes.items ≡ first_lane c.args.reply (part_of c.args.slice.now) ∷ [] = c.open_lane.ensures.items ∙ ap (λ (l : List (Lane g.row.N-W.Denot)). l ++ first_lane c.args.reply (part_of c.args.slice.now) ∷ []) c.requires.none in
    run_leaves D.tells D.history (λ o. said_of (g.S.O.Origin.says o)) D.far D.faults N.tells W.tells g.met.N.Net.wires_tell W.purpose W.told W.origin scene pass old (view c.args.desk.now) (N.closed c.args.net.now) (N.origin_of c.args.net.now) first handed slices c.args.reply led c.args.count plan c.args.at is c.args.slice.now head.0 head.1 c.requires.some ordered (view c.bring_all.new.desk) (N.closed c.bring_all.new.net) (N.faults c.args.net.now) (N.faults c.bring_all.new.net) c.bring_all.result
    (c.bring_all.ensures.goes scene (trace D.tells D.history (λ o. said_of (g.S.O.Origin.says o)) D.far D.faults N.tells W.tells g.met.N.Net.wires_tell W.purpose W.told W.origin scene pass old (view c.args.desk.now) (N.closed c.args.net.now) (N.origin_of c.args.net.now) first handed slices c.args.reply led c.args.count plan c.args.at is []) (tale D.tells D.history (λ o. said_of (g.S.O.Origin.says o)) D.far D.faults N.tells W.tells g.met.N.Net.wires_tell W.purpose W.told W.origin scene pass old (view c.args.desk.now) (N.closed c.args.net.now) (N.origin_of c.args.net.now) first handed slices c.args.reply led c.args.count plan c.args.at is []) (is_open D.tells D.history (λ o. said_of (g.S.O.Origin.says o)) D.far D.faults N.tells W.tells g.met.N.Net.wires_tell W.purpose W.told W.origin scene pass old (view c.args.desk.now) (N.closed c.args.net.now) (N.origin_of c.args.net.now) first handed slices c.args.reply led c.args.count plan c.args.at is c.args.slice.now head.0 head.1 c.requires.some ordered c.open_lane.new.lanes.items items) (source_same D.tells D.history (λ o. said_of (g.S.O.Origin.says o)) D.far D.faults N.tells W.tells g.met.N.Net.wires_tell W.purpose W.told W.origin scene pass old (view c.args.desk.now) (N.closed c.args.net.now) (N.origin_of c.args.net.now) first handed slices c.args.reply led c.args.count plan c.args.at is c.args.slice.now head.0 head.1 c.requires.some ordered ∙ sym c.open_lane.ensures.source ∙ c.in-Some.is) refl)

pub returns-in-None-clause-goes : goal.returns-in-None-clause-goes
returns-in-None-clause-goes g c scene old first handed slices led is =
    let D = g.S.D.Disk in
    let N = g.N.Net in
    let W = g.N.W.Wire in
    let view = g.S.Desk.view in
    let pass = c.args.pass.now in
    let plan = c.args.plan.now in
    let head = head_is plan c.args.slice.now c.requires.slice in
    let ordered = sliced plan c.args.slice.now head.0 head.1 c.requires.ordered in
    let items : c.open_lane.new.lanes.items ≡ first_lane c.args.reply (part_of c.args.slice.now) ∷ [] = c.open_lane.ensures.items ∙ ap (λ (l : List (Lane g.row.N-W.Denot)). l ++ first_lane c.args.reply (part_of c.args.slice.now) ∷ []) c.requires.none in
    let none = sym c.open_lane.ensures.source ∙ c.in-None.is in
    let reply = c.args.reply in
    let one : c.args.count ≡ 1 = is.count_is ∙ count_alone pass reply.address slices reply.head.strong reply.head.total reply.head.ranges (sym (ap (λ (k : Key). source_by reply.address k reply.head.total) is.has.replied.key_is) ∙ none) in
    let long : length plan ≡ 1 = let e = ap (λ (l : List _). length l) head.1 in let parts = c.requires.parts in omega (arith, e, parts, one) in
    run_leaves D.tells D.history (λ o. said_of (g.S.O.Origin.says o)) D.far D.faults N.tells W.tells g.met.N.Net.wires_tell W.purpose W.told W.origin scene pass old (view c.args.desk.now) (N.closed c.args.net.now) (N.origin_of c.args.net.now) first handed slices c.args.reply led c.args.count plan c.args.at is c.args.slice.now head.0 head.1 c.requires.some ordered (view c.bring_alone.new.desk) (N.closed c.bring_alone.new.net) (N.faults c.args.net.now) (N.faults c.bring_alone.new.net) c.bring_alone.result
    (c.bring_alone.ensures.goes scene (trace D.tells D.history (λ o. said_of (g.S.O.Origin.says o)) D.far D.faults N.tells W.tells g.met.N.Net.wires_tell W.purpose W.told W.origin scene pass old (view c.args.desk.now) (N.closed c.args.net.now) (N.origin_of c.args.net.now) first handed slices c.args.reply led c.args.count plan c.args.at is []) (tale D.tells D.history (λ o. said_of (g.S.O.Origin.says o)) D.far D.faults N.tells W.tells g.met.N.Net.wires_tell W.purpose W.told W.origin scene pass old (view c.args.desk.now) (N.closed c.args.net.now) (N.origin_of c.args.net.now) first handed slices c.args.reply led c.args.count plan c.args.at is []) plan (is_open D.tells D.history (λ o. said_of (g.S.O.Origin.says o)) D.far D.faults N.tells W.tells g.met.N.Net.wires_tell W.purpose W.told W.origin scene pass old (view c.args.desk.now) (N.closed c.args.net.now) (N.origin_of c.args.net.now) first handed slices c.args.reply led c.args.count plan c.args.at is c.args.slice.now head.0 head.1 c.requires.some ordered c.open_lane.new.lanes.items items) long one is.bare)
