use Rattle.std.proofs.Common.{sym, subst}
use Rattle.dm_hist.specs.Rows.{AreRows}
use Rattle.dm_shown.specs.Paging.{Adds}
use Rattle.dm_shown.proofs.Pieces.{adds, unlisted}
use Rattle.dm_shown.proofs.page.add_rows.Goals as goal

pub returns-in-Ok-add_shown-clause-adds : goal.returns-in-Ok-add_shown-clause-adds
returns-in-Ok-add_shown-clause-adds g c told =
    subst (Adds c.args.items.now (g.K.Keeper.rows c.args.keeper.now) c.args.from c.args.wanted c.args.page.now c.add_shown.new.page) (sym c.more_from-next.ensures.next)
    (adds c.args.items.now (g.K.Keeper.rows c.args.keeper.now) (subst AreRows (c.rows_page.ensures.same told) (c.rows_page.ensures.rising told)).rising c.args.from c.args.wanted c.requires.some
    c.args.page.now c.add_shown.new.page c.in-Ok.rows (c.in-Ok.ensures.page told) c.in-Ok-add_shown.ensures)

pub returns-in-Ok-add_shown-clause-unlisted : goal.returns-in-Ok-add_shown-clause-unlisted
returns-in-Ok-add_shown-clause-unlisted g c = unlisted c.args.items.now c.args.page.now c.add_shown.new.page c.in-Ok.rows c.in-Ok-add_shown.ensures
