use Rattle.std.proofs.Common.{◌≡◌, Ok, subst}
use Rattle.dm_store.specs.Store.{view_of}
use Rattle.dm_store.specs.View.{View}
use Rattle.dm_answers.specs.declared.answer.Named.TheVariants as named
use Rattle.dm_answers.specs.Reads.{IsEmptied, PartReads}
use Rattle.dm_items.proofs.desk.Desk.describe.Goals as goal

pub returns-clause-reads : goal.returns-clause-reads
returns-clause-reads g c =
    subst (λ (v : View g.row.D.Denot g.row.O.Denot). g.D.Disk.tells → c.describe.result ≡ Ok named.Named → PartReads g.D.Disk.history v (view_of c.describe.new.store) c.args.pass.now.id IsEmptied)
    c.self.view_is c.describe.ensures.reads
