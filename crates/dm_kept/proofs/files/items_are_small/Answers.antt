use Rattle.dm_kept.proofs.Ranges.{small_items}
use Rattle.dm_kept.proofs.files.items_are_small.Goals as goal

pub returns : goal.returns
returns c history lawful entries = small_items history lawful entries
