use Rattle.std.proofs.Common.{◌≡◌, List, Bool, refl, sym, ◌∙◌, ap, subst, arith}
use Rattle.dm_disk_model.specs.Beside.{Besides}
use Rattle.dm_disk_model.specs.Disk.{now}
use Rattle.dm_disk_model.proofs.Beside.{besides_stay, besides_then}
use Rattle.dm_item.specs.Listing.{Listing}
use Rattle.dm_store.specs.Origin.{said_of}
use Rattle.dm_store.specs.Store.{view_of}
use Rattle.dm_store.specs.View.{View}
use Rattle.dm_store.proofs.Keeping.{keeps_same, keeps_then}
use Rattle.dm_answers.specs.Sweep.{IsLeftover}
use Rattle.dm_sweep.proofs.Listed.{AreLeft, last_stands, left_at_first, left_next, none_left, none_of}
use Rattle.dm_sweep.proofs.sweeping.sweep_names.Goals as goal

pub loop-name-init : goal.loop-name-init
loop-name-init g c =
    let D = g.D.Disk in
    let start = c.args.store.now in
    record {
      store = c.requires.store;
      same = refl;
      keeps = keeps_same D.tells D.history (λ o. said_of (g.O.Origin.says o)) (view_of start) (view_of start) refl;
      beside = λ told. besides_stay (IsLeftover start.items) (D.history start.disk) (D.history start.disk) refl;
      left = λ told. subst (AreLeft start.items (now (D.history start.disk)).files) (sym c.into_vec-left.ensures) (left_at_first start.items (now (D.history start.disk)).files c.args.names (c.requires.listed told));
      far = refl;
      later = λ kind. omega arith;
    }

pub sweep_name-requires-clause-whole : goal.sweep_name-requires-clause-whole
sweep_name-requires-clause-whole g c = ap (λ (v : View _ _). v.broken) c.loop-name.invariant.same ∙ c.requires.whole

pub sweep_name-requires-clause-stands : goal.sweep_name-requires-clause-stands
sweep_name-requires-clause-stands g c told =
    let D = g.D.Disk in
    let start = c.args.store.now in
    let here = (now (D.history c.loop-name.store.disk)).files in
    last_stands start.items here c.pop.new.self.items c.in-Some.name (subst (AreLeft start.items here) c.in-Some.ensures.items (c.loop-name.invariant.left told))

pub loop-name-preserved : goal.loop-name-preserved
loop-name-preserved g c =
    let D = g.D.Disk in
    let was = c.loop-name.invariant in
    let start = c.args.store.now in
    let middle = c.loop-name.store in
    let new = c.sweep_name.new.store in
    let items : middle.items ≡ start.items = ap (λ (v : View _ _). v.items) was.same in
    let whole : middle.broken ≡ start.broken = ap (λ (v : View _ _). v.broken) was.same in
    record {
      store = c.sweep_name.ensures.store;
      same = c.sweep_name.ensures.same ∙ ap (λ (v : View _ _). record v { disk = new.disk }) was.same;
      keeps = keeps_then D.tells D.history (λ o. said_of (g.O.Origin.says o)) (view_of start) (view_of middle) (view_of new) was.keeps (ap (λ (v : View _ _). v.origin) was.same) (was.store.desk.failed (whole ∙ c.requires.whole)) c.sweep_name.ensures.keeps;
      beside = λ told. besides_then (IsLeftover start.items) (D.history start.disk) (D.history middle.disk) (D.history new.disk) (was.beside told)
          (subst (λ (v : Listing). Besides (IsLeftover v) (D.history middle.disk) (D.history new.disk)) items (c.sweep_name.ensures.beside told));
      left = λ told. left_next start.items (now (D.history middle.disk)).files (now (D.history new.disk)).files c.pop.new.self.items c.in-Some.name
          (subst (AreLeft start.items (now (D.history middle.disk)).files) c.in-Some.ensures.items (was.left told))
          (λ leftover. c.in-Ok.ensures.gone told (subst (λ (v : Listing). IsLeftover v c.in-Some.name) (sym items) leftover))
          (c.sweep_name.ensures.others told);
      far = c.sweep_name.ensures.far ∙ was.far;
      later = λ kind. omega (arith, was.later kind, c.sweep_name.ensures.cause.later kind);
    }

pub returns-in-Err-clause-same : goal.returns-in-Err-clause-same
returns-in-Err-clause-same g c =
    c.sweep_name.ensures.same ∙ ap (λ (v : View _ _). record v { disk = c.sweep_name.new.store.disk }) c.loop-name.invariant.same

pub returns-in-Err-clause-keeps : goal.returns-in-Err-clause-keeps
returns-in-Err-clause-keeps g c =
    let D = g.D.Disk in
    let was = c.loop-name.invariant in
    keeps_then D.tells D.history (λ o. said_of (g.O.Origin.says o)) (view_of c.args.store.now) (view_of c.loop-name.store) (view_of c.sweep_name.new.store) was.keeps (ap (λ (v : View _ _). v.origin) was.same)
    (was.store.desk.failed (ap (λ (v : View _ _). v.broken) was.same ∙ c.requires.whole)) c.sweep_name.ensures.keeps

pub returns-in-Err-clause-beside : goal.returns-in-Err-clause-beside
returns-in-Err-clause-beside g c told =
    let D = g.D.Disk in
    let was = c.loop-name.invariant in
    let start = c.args.store.now in
    besides_then (IsLeftover start.items) (D.history start.disk) (D.history c.loop-name.store.disk) (D.history c.sweep_name.new.store.disk) (was.beside told)
    (subst (λ (v : Listing). Besides (IsLeftover v) (D.history c.loop-name.store.disk) (D.history c.sweep_name.new.store.disk)) (ap (λ (v : View _ _). v.items) was.same) (c.sweep_name.ensures.beside told))

pub returns-clause-swept : goal.returns-clause-swept
returns-clause-swept g c told name leftover =
    let start = c.args.store.now in
    let here = (now (g.D.Disk.history c.loop-name.store.disk)).files in
    none_left start.items here name (subst (AreLeft start.items here) (none_of c.loop-name.left.items (omega (arith, c.loop-name.left.ok.0, c.in_default.ensures.cases.0))) (c.loop-name.invariant.left told)) leftover
