use Rattle.std.proofs.Common.{ℕ, List, ap, ◌∙◌, subst}
use Rattle.dm_generated.specs.Content.{address_text}
use Rattle.dm_request.specs.Fault.{IsRead}
use Rattle.dm_rehearse_run.proofs.session.address_for.Goals as goal

pub returns-in-Ok-clause-is : goal.returns-in-Ok-clause-is
returns-in-Ok-clause-is c = subst (λ (text : List ℕ). IsRead text c.in-Ok.address) (c.bytes.ensures ∙ c.in_ok-text.ensures ∙ ap address_text c.from.ensures) c.in-Ok.ensures.ok
