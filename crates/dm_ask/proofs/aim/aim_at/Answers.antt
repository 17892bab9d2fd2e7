use Rattle.std.proofs.Common.{◌∙◌, sym}
use Rattle.dm_ask.proofs.Talking.{ordered_ask}
use Rattle.dm_ask.proofs.aim.aim_at.Goals as goal

pub request_text-requires : goal.request_text-requires
request_text-requires c = ordered_ask c.args.wanted.now c.in-Some.range c.requires (sym c.in_ok-range.ensures ∙ c.in-Some.is)
