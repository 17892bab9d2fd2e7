-- What a command says of an item that it brings, where nothing stands in the way.
use Rattle.std.specs.Prelude.{◌≡◌}
use Rattle.dm_types.specs.declared.item.ItemId.{ItemId}
use Rattle.dm_types.specs.declared.item.Phase.TheVariants as phases
use Rattle.dm_store.specs.View.{View}
use Rattle.dm_fetch.specs.Completes.{IsLeftIn}
use Rattle.dm_report.specs.Said.{Said, only}
use Rattle.dm_report.specs.declared.verdict.Verdict.TheVariants.{Done, NoMemory}

-- The item is complete, after one attempt, and that is said. Or memory was wanting.
pub data EndsWell {D O : Type 0} (old new : View D O) (id : ItemId) (said : Said) : Type 0 where
  completed : IsLeftIn old new id phases.Complete → said.verdict ≡ Done → EndsWell old new id said
  wanting : said ≡ only NoMemory → EndsWell old new id said
