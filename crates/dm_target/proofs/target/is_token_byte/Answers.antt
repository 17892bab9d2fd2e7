use Rattle.std.specs.Prelude.{codes}
use Rattle.std.proofs.Common.{◌≡◌, ◌∙◌, ◌||◌, ◌==◌, Bool, sym, ap}
use Rattle.std.specs.List.{list_any}
use Rattle.httparse.specs.Grammar.{is_token_byte}
use Rattle.dm_target.proofs.target.is_token_byte.Goals as goal

pub returns-then-is_ascii_alphanumeric : goal.returns-then-is_ascii_alphanumeric
unfolding is_token_byte
returns-then-is_ascii_alphanumeric c =
    c.if-is_ascii_alphanumeric.true
    ∙ sym (ap (λ (b : Bool). b || list_any (λ x. x == c.args.byte) (codes "!#$%&'*+-.^_`|~")) (sym c.is_ascii_alphanumeric.ensures.value ∙ c.if-is_ascii_alphanumeric.true))

pub returns-else-is_ascii_alphanumeric : goal.returns-else-is_ascii_alphanumeric
unfolding is_token_byte
returns-else-is_ascii_alphanumeric c =
    c.is_mark.ensures
    ∙ sym (ap (λ (b : Bool). b || list_any (λ x. x == c.args.byte) (codes "!#$%&'*+-.^_`|~")) (sym c.is_ascii_alphanumeric.ensures.value ∙ c.if-is_ascii_alphanumeric.false))
