use Rattle.std.proofs.Common.{rules, ◌≡◌, ◌++◌, ◌∷◌, [], List, Err, length, refl, sym, ◌∙◌, ap, subst, append_assoc, arith}
use Rattle.std.specs.List.{AllByRecursion}
use Rattle.std.specs.Vec.Iter.{into_iter_items}
use Rattle.dm_store.specs.Origin.{said_of}
use Rattle.dm_answers.specs.declared.order.Order.{Order}
use Rattle.dm_csv.specs.declared.row.ImportRow.{ImportRow}
use Rattle.dm_past.specs.Past.{Past, past_of}
use Rattle.dm_past.proofs.Turned.{page_goes}
use Rattle.dm_import.specs.Adding.{order_of}
use Rattle.dm_import.specs.Working.{IsGoodRow, NextAdded, NextTried}
use Rattle.dm_import.proofs.Chains.{goes_then, next_ends, next_far, next_list, none_far, rest_then}
use Rattle.dm_import.proofs.adding.add_rows.Goals as goal

pub rows-init : goal.rows-init
rows-init g c =
    let past : Past = past_of g.K.Keeper.rows g.K.Keeper.faults c.args.keeper.now in
    let all : c.args.rows ≡ into_iter_items c.into_iter-row-iterator.result = sym (c.into_iter-row-iterator.ensures.into_iter_gives.0 ∙ c.into_vec-row-items.ensures) in
    record {
      kept = c.requires.desk;
      far = none_far g.K.Keeper.tells g.D.Disk.history g.D.Disk.tells c.args.at c.args.desk.now past c.args.all.now c.requires.desk c.requires.whole c.requires.none;
      goes = page_goes g.D.Disk.tells g.K.Keeper.tells g.D.Disk.history g.D.Disk.faults g.D.Disk.far (λ o. said_of (g.O.Origin.says o)) c.args.desk.now past past c.requires.desk c.requires.whole (λ kind. omega arith);
      rest = record { same = λ knows. refl; later = λ kind. omega arith };
      left = all;
      good = subst (AllByRecursion IsGoodRow) all c.requires.good;
      number = search rules;
    }

pub rows-preserved : goal.rows-preserved
rows-preserved g c =
    let past : Past = past_of g.K.Keeper.rows g.K.Keeper.faults c.args.keeper.now in
    let between : Past = past_of g.K.Keeper.rows g.K.Keeper.faults c.rows.keeper in
    let past' : Past = past_of g.K.Keeper.rows g.K.Keeper.faults c.add_next.new.keeper in
    let inv = c.rows.invariant in
    let row : ImportRow = c.in-Some.row in
    let steps : into_iter_items c.rows.row-iterator ≡ row ∷ into_iter_items c.next.new.self = c.in-Some.ensures.steps.0 in
    let next : NextAdded g.K.Keeper.tells c.args.at (order_of row) c.rows.desk c.add_next.new.desk between c.rows.all c.add_next.new.all =
    subst (λ (o : Order). NextAdded g.K.Keeper.tells c.args.at o c.rows.desk c.add_next.new.desk between c.rows.all c.add_next.new.all) c.order_of.ensures c.in-Ok.ensures.tried in
    record {
      kept = c.in-Ok.ensures.kept;
      far = next_far g.K.Keeper.tells g.D.Disk.faults c.args.at c.args.desk.now c.rows.desk c.add_next.new.desk past between past' inv.rest.same c.rows.yielded c.rows.all inv.far row c.add_next.new.all next;
      goes = goes_then g.D.Disk.tells g.D.Disk.history g.D.Disk.faults g.D.Disk.far (λ o. said_of (g.O.Origin.says o)) c.args.desk.now c.rows.desk c.add_next.new.desk past between past' inv.far.recorded next.was.entries inv.far.becomes
          next.was.recorded.list_is inv.goes c.in-Ok.ensures.goes;
      rest = rest_then g.K.Keeper.tells past between past' inv.rest c.in-Ok.ensures.rest;
      left = inv.left ∙ ap (λ (xs : List ImportRow). c.rows.yielded ++ xs) steps ∙ sym (append_assoc c.rows.yielded (row ∷ []) (into_iter_items c.next.new.self));
      good = (subst (AllByRecursion IsGoodRow) steps inv.good).1;
      number = let was = inv.number in let gone = c.in-Some.ensures.steps.1 in let short = ap length steps in omega (arith, was, gone, short);
    }

pub returns-in-Err-clause-tried : goal.returns-in-Err-clause-tried
returns-in-Err-clause-tried g c =
    let past : Past = past_of g.K.Keeper.rows g.K.Keeper.faults c.args.keeper.now in
    let between : Past = past_of g.K.Keeper.rows g.K.Keeper.faults c.rows.keeper in
    let past' : Past = past_of g.K.Keeper.rows g.K.Keeper.faults c.add_next.new.keeper in
    let inv = c.rows.invariant in
    let row : ImportRow = c.in-Some.row in
    let steps : into_iter_items c.rows.row-iterator ≡ row ∷ into_iter_items c.next.new.self = c.in-Some.ensures.steps.0 in
    next_ends g.K.Keeper.tells g.D.Disk.faults c.args.at c.args.desk.now c.rows.desk c.add_next.new.desk past between past' inv.rest.same c.rows.yielded c.rows.all inv.far row c.args.rows (into_iter_items c.next.new.self)
    (inv.left ∙ ap (λ (xs : List ImportRow). c.rows.yielded ++ xs) steps) inv.goes.later inv.goes.past_later c.in-Err.verdict c.add_next.new.all
    (subst (λ (o : Order). NextTried g.K.Keeper.tells g.D.Disk.faults c.args.at o c.rows.desk c.add_next.new.desk between past' c.rows.all c.add_next.new.all (Err c.in-Err.verdict)) c.order_of.ensures c.in-Err.ensures.tried)

pub returns-in-Err-clause-goes : goal.returns-in-Err-clause-goes
returns-in-Err-clause-goes g c =
    let past : Past = past_of g.K.Keeper.rows g.K.Keeper.faults c.args.keeper.now in
    let between : Past = past_of g.K.Keeper.rows g.K.Keeper.faults c.rows.keeper in
    let past' : Past = past_of g.K.Keeper.rows g.K.Keeper.faults c.add_next.new.keeper in
    let inv = c.rows.invariant in
    let more = next_list g.K.Keeper.tells g.D.Disk.faults c.args.at c.order_of.result c.rows.desk c.add_next.new.desk between past' c.rows.all c.add_next.new.all (Err c.in-Err.verdict) c.in-Err.ensures.tried in
    goes_then g.D.Disk.tells g.D.Disk.history g.D.Disk.faults g.D.Disk.far (λ o. said_of (g.O.Origin.says o)) c.args.desk.now c.rows.desk c.add_next.new.desk past between past' inv.far.recorded more.0 inv.far.becomes more.1 inv.goes c.in-Err.ensures.goes
