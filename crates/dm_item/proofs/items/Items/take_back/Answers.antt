use Rattle.std.proofs.Common.{◌∙◌, subst, sym}
use Rattle.dm_item.specs.Kept.{IsKept}
use Rattle.dm_item.proofs.Undoing.{back-kept, fields-back, taken-back}
use Rattle.dm_item.proofs.items.Items.take_back.Goals as goal

pub invariant_of-self : goal.invariant_of-self
invariant_of-self c =
    subst IsKept (sym (fields-back _ c.args.self.now _ c.args.before c.put_back.new.items.items c.self.view_is c.before-2.view_is c.put_back.ensures)) (back-kept c.args.self.now c.args.before c.requires)

pub returns : goal.returns
returns c took =
    fields-back _ c.args.self.now _ c.args.before c.put_back.new.items.items c.self.view_is c.before-2.view_is c.put_back.ensures ∙ taken-back c.args.self.now c.args.before took
