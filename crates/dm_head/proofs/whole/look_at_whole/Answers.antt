use Rattle.dm_head.proofs.HeadLemmas.{refusal_more, other_more}
use Rattle.dm_head.proofs.whole.look_at_whole.Goals as goal

pub returns-in-Refusal : goal.returns-in-Refusal
returns-in-Refusal c = refusal_more c.args.wanted.now c.requires.whole c.in-Refusal.ensures

pub returns-in-Other : goal.returns-in-Other
returns-in-Other c = other_more c.args.wanted.now c.requires.whole c.in-Other.ensures
