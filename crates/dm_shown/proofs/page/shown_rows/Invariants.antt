use Rattle.std.proofs.Common.{◌≡◌, ◌^◌, ◌-◌, ◌++◌, length, false}
use Rattle.std.specs.List.{All}
use Rattle.dm_types.specs.Faults.{NoneFell}
use Rattle.dm_hist.specs.Shown.{is_listed}
use Rattle.dm_shown.specs.Pages.{shown_page}
use Rattle.dm_shown.proofs.page.shown_rows.Given as goal

abbrev pub invariant-pages : goal.invariant-pages
invariant-pages g l = record {
  same : g.K.Keeper.tells → g.K.Keeper.rows l.keeper ≡ g.K.Keeper.rows l.initial.keeper;
  so_far : g.K.Keeper.tells → l.page ++ shown_page l.items.items l.from (l.limit - length l.page) (g.K.Keeper.rows l.initial.keeper) ≡ shown_page l.items.items l.fn.after l.limit (g.K.Keeper.rows l.initial.keeper);
  unlisted : All (λ row. is_listed row.id.0 l.items.items ≡ false) l.page;
  later : NoneFell (g.K.Keeper.faults l.initial.keeper) (g.K.Keeper.faults l.keeper);
}

abbrev pub decreases-pages : goal.decreases-pages
decreases-pages g l = 2 ^ 32 - l.from
