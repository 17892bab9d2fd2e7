use Rattle.std.proofs.Common.{◌≡◌, Ok, subst}
use Rattle.dm_store.specs.Store.{view_of}
use Rattle.dm_store.specs.View.{View}
use Rattle.dm_answers.specs.declared.answer.Finished.TheVariants as finished
use Rattle.dm_answers.specs.Finish.{HasMoved}
use Rattle.dm_answers.specs.Running.{RunsWith}
use Rattle.dm_items.proofs.desk.Desk.finish.Goals as goal

pub returns-clause-reads : goal.returns-clause-reads
returns-clause-reads g c =
    subst (λ (v : View g.row.D.Denot g.row.O.Denot). g.D.Disk.tells → c.finish.result ≡ Ok finished.Complete → RunsWith v c.args.pass.now.id c.args.pass.now.attempt (HasMoved g.D.Disk.history v (view_of c.finish.new.store)))
    c.self.view_is c.finish.ensures.reads
