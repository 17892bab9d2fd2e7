use Rattle.std.proofs.Common.{◌≡◌, ◌∙◌, ◌&&◌, sym, ap, true, false, take, length, refl, arith}
use Rattle.std.specs.List.{list_all}
use Rattle.std.proofs.lemmas.List.{take_all}
use Rattle.std.proofs.lemmas.List.Folds.{list_all-map, list_all_at}
use Rattle.dm_call.specs.Query.{is_known}
use Rattle.dm_call.specs.Held.{text_pair}
use Rattle.dm_call.proofs.query.all_known.Goals as goal

pub returns-then-not-is_known : goal.returns-then-not-is_known
returns-then-not-is_known c =
    sym (list_all-map is_known text_pair c.args.pairs.now ∙ list_all_at (λ pair. is_known (text_pair pair)) c.args.pairs.now c.loop-name.name-index c.loop-name-item.result c.loop-name-test.true
    (rw (← c.loop-name-item.is, ← c.deref.ensures) (sym c.is_known.ensures ∙ c.if-not-is_known.true)))

pub returns : goal.returns
returns c =
    sym (list_all-map is_known text_pair c.args.pairs.now ∙ sym (ap (list_all (λ pair. is_known (text_pair pair))) (take_all c.loop-name.name-index c.args.pairs.now c.loop-name-test.false)) ∙ c.loop-name.invariant)
