use Rattle.std.proofs.Common.{sym, subst}
use Rattle.std.specs.Prelude.{OnOk}
use Rattle.dm_store.specs.Origin.{said_of}
use Rattle.dm_store.specs.Store.{view_of}
use Rattle.dm_store.specs.View.{View}
use Rattle.dm_answers.specs.Land.{SaysPiece}
use Rattle.dm_answers.specs.Reads.{HasPiece, PartReads}
use Rattle.dm_items.proofs.calls.DeskCalls.land.Goals as goal

pub land-requires-clause-said : goal.land-requires-clause-said
land-requires-clause-said g c =
    subst (λ (v : View g.row.D.Denot g.row.O.Denot). SaysPiece (said_of (g.O.Origin.says v.origin)) v.items.items c.args.pass.now.id c.args.at c.args.piece.now)
    (sym c.self.view_is) c.requires.said

pub returns-clause-reads : goal.returns-clause-reads
returns-clause-reads g c =
    subst (λ (v : View g.row.D.Denot g.row.O.Denot). g.D.Disk.tells → OnOk c.land.result (PartReads g.D.Disk.history v (view_of c.land.new.store) c.args.pass.now.id (HasPiece c.args.at c.args.piece.now)))
    c.self.view_is c.land.ensures.reads
