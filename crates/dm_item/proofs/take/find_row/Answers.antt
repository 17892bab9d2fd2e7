use Rattle.std.proofs.Common.{sym, ◌∙◌}
use Rattle.dm_item.proofs.Places.{declines_at, place-none}
use Rattle.dm_item.proofs.take.find_row.Goals as goal

pub returns-in_default-find_place-clause-err : goal.returns-in_default-find_place-clause-err
returns-in_default-find_place-clause-err c =
    (sym c.target_of.ensures ∙ c.in-Some.is, place-none c.in-Some.id.0 c.args.items.now (sym c.find_place.ensures ∙ c.in_default-find_place.is))

pub returns-in-Err-clause-err : goal.returns-in-Err-clause-err
returns-in-Err-clause-err c =
    declines_at c.args.entry.now c.args.items.now c.in-Some.id c.in-Some-find_place.place c.index-items-place.result c.in-Err.fault (sym c.target_of.ensures ∙ c.in-Some.is)
    (sym c.find_place.ensures ∙ c.in-Some-find_place.is) c.index-items-place.is c.in-Err.ensures.err

pub returns-in-Ok-clause-ok : goal.returns-in-Ok-clause-ok
returns-in-Ok-clause-ok c = record {
  id = c.in-Some.id;
  item = c.index-items-place.result;
  named = sym c.target_of.ensures ∙ c.in-Some.is;
  at = sym c.find_place.ensures ∙ c.in-Some-find_place.is;
  is = c.index-items-place.is;
  phase = c.in-Ok.ensures.phase;
  further = c.in-Ok.ensures.further;
}
