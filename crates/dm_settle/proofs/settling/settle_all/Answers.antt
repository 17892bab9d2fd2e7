use Rattle.std.proofs.Common.{[], ◌∷◌, Bool, false, length, refl, ap, subst, arith}
use Rattle.dm_types.specs.declared.item.Item.{Item}
use Rattle.dm_disk_model.proofs.Beside.{besides_stay, besides_then}
use Rattle.dm_store.specs.Origin.{said_of}
use Rattle.dm_store.specs.Store.{view_of}
use Rattle.dm_store.proofs.Composing.{near_then}
use Rattle.dm_store.proofs.Keeping.{keeps_same}
use Rattle.dm_settle.specs.Judging.{entry_of}
use Rattle.dm_settle.specs.Moving.{NextMoving}
use Rattle.dm_settle.specs.Settled.{IsPartOrAlone, IsPartOrGiven}
use Rattle.dm_settle.proofs.Judgements.{becomes_still}
use Rattle.dm_settle.proofs.All.{all_failed, all_never, first_in, given_beside, goes_here, goes_on, left_new, near_failed, settled_more, settled_start}
use Rattle.dm_settle.proofs.settling.settle_all.Goals as goal

pub items-init : goal.items-init
items-init g c =
    let D = g.D.Disk in
    let start = view_of c.args.store.now in
    record {
      store = c.requires.store;
      so_far = settled_start D.tells D.history (λ o. said_of (g.O.Origin.says o)) start c.args.names.now c.args.at c.requires.whole
          (becomes_still start start false c.requires.whole (c.requires.store.desk.failed c.requires.whole) (ap (λ (b : Bool). record start { broken = b }) c.requires.whole))
          (keeps_same D.tells D.history (λ o. said_of (g.O.Origin.says o)) start start refl) c.requires.listed;
      beside = λ told. besides_stay (IsPartOrGiven D.history start) (D.history c.args.store.now.disk) (D.history c.args.store.now.disk) refl;
      later = λ kind. omega arith;
      near = λ short. refl;
    }

pub settle_item-requires-clause-whole : goal.settle_item-requires-clause-whole
settle_item-requires-clause-whole g c = c.items.invariant.so_far.whole

pub settle_item-requires-clause-finishing : goal.settle_item-requires-clause-finishing
settle_item-requires-clause-finishing g c =
    let D = g.D.Disk in
    let present = view_of c.items.store in
    let first = subst (NextMoving c.items.store.items.items) c.in-Ok-Some.field-0-is c.in-Ok-Some.ensures in
    first_in D.tells D.history (λ o. said_of (g.O.Origin.says o)) (view_of c.args.store.now) present present c.args.names.now c.args.at c.requires.listed c.items.invariant.so_far c.items.invariant.store.desk c.in-Ok-Some.moving first

pub items-preserved : goal.items-preserved
items-preserved g c =
    let D = g.D.Disk in
    let start = view_of c.args.store.now in
    let present = view_of c.items.store in
    let new = view_of c.settle_item.new.store in
    let was = c.items.invariant in
    let first = subst (NextMoving c.items.store.items.items) c.in-Ok-Some.field-0-is c.in-Ok-Some.ensures in
    let is = first_in D.tells D.history (λ o. said_of (g.O.Origin.says o)) start present new c.args.names.now c.args.at c.requires.listed was.so_far was.store.desk c.in-Ok-Some.moving first in
    record {
      store = c.settle_item.ensures.store;
      so_far = settled_more D.tells D.history (λ o. said_of (g.O.Origin.says o)) start present new c.args.names.now c.args.at c.requires.listed was.so_far was.store.desk c.in-Ok-Some.moving first c.in-Ok.ensures.makes
          (λ told. goes_on (IsPartOrAlone c.args.names.now c.in-Ok-Some.moving) (D.history c.items.store.disk) (D.history c.settle_item.new.store.disk) (c.settle_item.ensures.beside told)) (c.settle_item.ensures.goes is);
      beside = λ told. besides_then (IsPartOrGiven D.history start) (D.history c.args.store.now.disk) (D.history c.items.store.disk) (D.history c.settle_item.new.store.disk) (was.beside told)
          (given_beside D.tells D.history (λ o. said_of (g.O.Origin.says o)) start present c.args.names.now c.args.at c.requires.listed was.so_far was.store.desk c.in-Ok-Some.moving first told (D.history c.settle_item.new.store.disk) (c.settle_item.ensures.beside told));
      later = λ kind. omega (arith, was.later kind, c.settle_item.ensures.cause.later kind);
      near = near_then start present new was.so_far.done was.so_far.becomes (entry_of c.in-Ok-Some.moving.id c.args.at c.in-Ok.ensures.makes.judged ∷ []) (D.far c.args.store.now.disk) (D.far c.items.store.disk) (D.far c.settle_item.new.store.disk)
          c.in-Ok.ensures.makes.becomes.list_is was.near c.settle_item.ensures.far;
    }

pub items-smaller : goal.items-smaller
items-smaller g c =
    let D = g.D.Disk in
    let start = view_of c.args.store.now in
    let present = view_of c.items.store in
    let new = view_of c.settle_item.new.store in
    let was = c.items.invariant in
    let first = subst (NextMoving c.items.store.items.items) c.in-Ok-Some.field-0-is c.in-Ok-Some.ensures in
    let is = first_in D.tells D.history (λ o. said_of (g.O.Origin.says o)) start present new c.args.names.now c.args.at c.requires.listed was.so_far was.store.desk c.in-Ok-Some.moving first in
    let after = ap (length {A = Item}) (left_new D.tells D.history (λ o. said_of (g.O.Origin.says o)) start present new c.args.names.now c.args.at c.requires.listed was.so_far was.store.desk c.in-Ok-Some.moving first c.in-Ok.ensures.makes
    (λ told. goes_on (IsPartOrAlone c.args.names.now c.in-Ok-Some.moving) (D.history c.items.store.disk) (D.history c.settle_item.new.store.disk) (c.settle_item.ensures.beside told)) (c.settle_item.ensures.goes is)) in
    let before = ap (length {A = Item}) first.first in
    omega (arith, after, before)

pub returns-in-Err-settle_item-clause-makes : goal.returns-in-Err-settle_item-clause-makes
returns-in-Err-settle_item-clause-makes g c =
    let D = g.D.Disk in
    let first = subst (NextMoving c.items.store.items.items) c.in-Ok-Some.field-0-is c.in-Ok-Some.ensures in
    let was = c.items.invariant in
    all_failed D.tells D.history (λ o. said_of (g.O.Origin.says o)) (view_of c.args.store.now) (view_of c.items.store) (view_of c.settle_item.new.store) c.args.names.now c.args.at c.requires.listed was.so_far was.store.desk c.in-Ok-Some.moving first
    (λ told. goes_on (IsPartOrAlone c.args.names.now c.in-Ok-Some.moving) (D.history c.items.store.disk) (D.history c.settle_item.new.store.disk) (c.settle_item.ensures.beside told)) c.in-Err-settle_item.fault c.in-Err-settle_item.ensures.makes

pub returns-in-Err-settle_item-clause-never_breaks : goal.returns-in-Err-settle_item-clause-never_breaks
returns-in-Err-settle_item-clause-never_breaks g c =
    let D = g.D.Disk in
    let first = subst (NextMoving c.items.store.items.items) c.in-Ok-Some.field-0-is c.in-Ok-Some.ensures in
    let was = c.items.invariant in
    all_never D.tells D.history (λ o. said_of (g.O.Origin.says o)) (view_of c.args.store.now) (view_of c.items.store) (view_of c.settle_item.new.store) c.args.names.now c.args.at c.requires.listed was.so_far was.store.desk c.in-Ok-Some.moving first
    (λ told. goes_on (IsPartOrAlone c.args.names.now c.in-Ok-Some.moving) (D.history c.items.store.disk) (D.history c.settle_item.new.store.disk) (c.settle_item.ensures.beside told)) c.in-Err-settle_item.fault c.in-Err-settle_item.ensures.makes

pub returns-in-Err-settle_item-clause-far : goal.returns-in-Err-settle_item-clause-far
returns-in-Err-settle_item-clause-far g c =
    let D = g.D.Disk in
    let first = subst (NextMoving c.items.store.items.items) c.in-Ok-Some.field-0-is c.in-Ok-Some.ensures in
    let was = c.items.invariant in
    near_failed D.tells D.history (λ o. said_of (g.O.Origin.says o)) (view_of c.args.store.now) (view_of c.items.store) (view_of c.settle_item.new.store) c.args.names.now c.args.at c.requires.listed was.so_far was.store.desk c.in-Ok-Some.moving first
    (λ told. goes_on (IsPartOrAlone c.args.names.now c.in-Ok-Some.moving) (D.history c.items.store.disk) (D.history c.settle_item.new.store.disk) (c.settle_item.ensures.beside told)) c.in-Err-settle_item.fault c.in-Err-settle_item.ensures.makes
    (D.far c.args.store.now.disk) (D.far c.items.store.disk) (D.far c.settle_item.new.store.disk) was.near c.settle_item.ensures.far

pub returns-in-Err-settle_item-clause-keeps : goal.returns-in-Err-settle_item-clause-keeps
returns-in-Err-settle_item-clause-keeps g c =
    let D = g.D.Disk in
    let first = subst (NextMoving c.items.store.items.items) c.in-Ok-Some.field-0-is c.in-Ok-Some.ensures in
    let was = c.items.invariant in
    let is = first_in D.tells D.history (λ o. said_of (g.O.Origin.says o)) (view_of c.args.store.now) (view_of c.items.store) (view_of c.settle_item.new.store) c.args.names.now c.args.at c.requires.listed was.so_far was.store.desk c.in-Ok-Some.moving first in
    goes_here D.tells D.history (λ o. said_of (g.O.Origin.says o)) (view_of c.args.store.now) (view_of c.items.store) (view_of c.settle_item.new.store) c.args.names.now c.args.at c.requires.listed was.so_far was.store.desk c.in-Ok-Some.moving first (c.settle_item.ensures.goes is)

pub returns-in-Err-settle_item-clause-beside : goal.returns-in-Err-settle_item-clause-beside
returns-in-Err-settle_item-clause-beside g c told =
    let D = g.D.Disk in
    let start = view_of c.args.store.now in
    let present = view_of c.items.store in
    let was = c.items.invariant in
    let first = subst (NextMoving c.items.store.items.items) c.in-Ok-Some.field-0-is c.in-Ok-Some.ensures in
    besides_then (IsPartOrGiven D.history start) (D.history c.args.store.now.disk) (D.history c.items.store.disk) (D.history c.settle_item.new.store.disk) (was.beside told)
    (given_beside D.tells D.history (λ o. said_of (g.O.Origin.says o)) start present c.args.names.now c.args.at c.requires.listed was.so_far was.store.desk c.in-Ok-Some.moving first told (D.history c.settle_item.new.store.disk) (c.settle_item.ensures.beside told))
