use Rattle.std.proofs.Common.{subst}
use Rattle.dm_store.specs.Origin.{said_of}
use Rattle.dm_store.specs.View.{View}
use Rattle.dm_answers.specs.Opening.{OpenKeeps}
use Rattle.dm_items.proofs.desk.Desk.reopen.Goals as goal

pub returns-clause-keeps : goal.returns-clause-keeps
returns-clause-keeps g c =
    subst (λ (v : View g.row.D.Denot g.row.O.Denot). g.D.Disk.tells → OpenKeeps g.D.Disk.tells (said_of (g.O.Origin.says v.origin)) (g.D.Disk.history v.disk) (g.D.Disk.history c.reopen.new.store.disk) c.args.at)
    c.self.view_is c.reopen.ensures.keeps
