use Rattle.std.proofs.Common.{◌∙◌, sym}
use Rattle.dm_target.proofs.Fronts.{inside, outside}
use Rattle.dm_target.proofs.target.ends_in_target.Goals as goal

pub returns-clause-yes : goal.returns-clause-yes
returns-clause-yes c = λ is. inside c.args.front.now c.skip_blank.result.now c.skip_blank.ensures (sym c.is_line_front.ensures ∙ is)

pub returns-clause-no : goal.returns-clause-no
returns-clause-no c = λ is. outside c.args.front.now c.skip_blank.result.now c.skip_blank.ensures (sym c.is_line_front.ensures ∙ is)
