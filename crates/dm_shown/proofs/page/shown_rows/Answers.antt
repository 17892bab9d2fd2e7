use Rattle.std.proofs.Common.{◌≡◌, ◌-◌, ◌++◌, ℕ, List, Some, length, ◌∙◌, ap, subst, arith, false}
use Rattle.std.specs.List.{All}
use Rattle.dm_types.specs.declared.item.Item.{Item}
use Rattle.dm_hist.specs.declared.row.Row.{Row}
use Rattle.dm_hist.specs.Shown.{is_listed}
use Rattle.dm_shown.specs.Pages.{shown_page}
use Rattle.dm_shown.specs.Paging.{Adds}
use Rattle.dm_shown.proofs.Pieces.{paged}
use Rattle.dm_shown.proofs.page.shown_rows.Goals as goal

pub pages-preserved : goal.pages-preserved
pages-preserved g c = record {
  same = λ told. c.add_rows.ensures.same told ∙ c.pages.invariant.same told;
  so_far = λ told.
      let wanted : c.args.limit - c.count-in-pages.result ≡ c.args.limit - length c.pages.page = ap (λ (n : ℕ). c.args.limit - n) c.count-in-pages.ensures in
      paged c.args.items.now.items (g.K.Keeper.rows c.args.keeper.now) c.pages.page c.add_rows.new.page c.pages.from c.in-Ok-Some.last (c.args.limit - c.count-in-pages.result) c.args.limit wanted
      (subst (λ (rows : List Row). Adds c.args.items.now.items rows c.pages.from (c.args.limit - c.count-in-pages.result) c.pages.page c.add_rows.new.page (Some c.in-Ok-Some.last)) (c.pages.invariant.same told)
      (subst (λ (items : List Item). Adds items (g.K.Keeper.rows c.pages.keeper) c.pages.from (c.args.limit - c.count-in-pages.result) c.pages.page c.add_rows.new.page (Some c.in-Ok-Some.last)) c.items.ensures
      (subst (Adds c.items.result.now (g.K.Keeper.rows c.pages.keeper) c.pages.from (c.args.limit - c.count-in-pages.result) c.pages.page c.add_rows.new.page) c.in-Ok-Some.field-0-is (c.in-Ok-Some.ensures.adds told))))
      ∙ ap (λ (n : ℕ). c.pages.page ++ shown_page c.args.items.now.items c.pages.from n (g.K.Keeper.rows c.args.keeper.now)) wanted
      ∙ c.pages.invariant.so_far told;
  unlisted =
      subst (λ (items : List Item). All (λ (row : Row). is_listed row.id.0 items ≡ false) c.pages.page → All (λ (row : Row). is_listed row.id.0 items ≡ false) c.add_rows.new.page) c.items.ensures
      c.in-Ok-Some.ensures.unlisted c.pages.invariant.unlisted;
  later = λ kind. let before = c.pages.invariant.later kind in let behind = c.add_rows.ensures.cause.later kind in omega (arith, before, behind);
}
