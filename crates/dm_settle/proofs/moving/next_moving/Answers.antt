use Rattle.std.proofs.Common.{List, sym, ◌∙◌, ap}
use Rattle.std.specs.Prelude.{find}
use Rattle.dm_types.specs.declared.item.Item.{Item}
use Rattle.dm_item.specs.Row.{is_finishing}
use Rattle.dm_answers.specs.Settling.{finishing}
use Rattle.dm_settle.proofs.Lists.{head_of, none_of, tail_of}
use Rattle.dm_settle.proofs.moving.next_moving.Goals as goal

pub returns-in-Ok : goal.returns-in-Ok
returns-in-Ok c = record {
  item = c.in-Some.item.now;
  rest = tail_of (finishing c.args.items.now.items);
  first = head_of c.args.items.now.items c.in-Some.item.now (sym (c.in-Some.ensures ∙ ap (λ (list : List Item). find (λ (i : Item). is_finishing i.phase) list) c.items.ensures));
  is = c.in-Ok.ensures;
}

pub returns-in-None : goal.returns-in-None
returns-in-None c = none_of c.args.items.now.items (sym (c.in-None.ensures ∙ ap (λ (list : List Item). find (λ (i : Item). is_finishing i.phase) list) c.items.ensures))
