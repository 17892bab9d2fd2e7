use Rattle.dm_item.proofs.Shorts.{short_law}
use Rattle.dm_item.proofs.items.Items.short_history.Goals as goal

pub returns-in_err-push-clause-law : goal.returns-in_err-push-clause-law
returns-in_err-push-clause-law c = λ history is. short_law history c.args.self.now c.args.at is

pub returns-in_err-add_restored-clause-law : goal.returns-in_err-add_restored-clause-law
returns-in_err-add_restored-clause-law c = λ history is. short_law history c.args.self.now c.args.at is

pub returns-clause-law : goal.returns-clause-law
returns-clause-law c = λ history is. short_law history c.args.self.now c.args.at is
