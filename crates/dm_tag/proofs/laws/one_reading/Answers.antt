use Rattle.dm_tag.proofs.OneLemmas.{tag_one, content_range_one, length_one}
use Rattle.dm_tag.proofs.laws.one_reading.Goals as goal

pub returns : goal.returns
returns c = record { tag = tag_one; range = content_range_one; length = length_one }
