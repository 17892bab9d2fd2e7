use Rattle.std.proofs.Common.{inl, inr, refl, subst}
use Rattle.dm_item.specs.Listing.{Listing}
use Rattle.dm_past.specs.ByRows.{IsAnswered, NoRow, RowDoes}
use Rattle.dm_past.specs.Past.{past_of}
use Rattle.dm_past.proofs.listed.work_or_answer.Goals as goal

pub returns-in-Some : goal.returns-in-Some
returns-in-Some g c = inr (
  subst (λ (v : Listing). IsAnswered g.K.Keeper.tells (RowDoes g.K.Keeper.tells c.args.job) (record { items = v.items; rows = g.K.Keeper.rows c.args.keeper.now }) (past_of g.K.Keeper.rows g.K.Keeper.faults c.args.keeper.now)
      (past_of g.K.Keeper.rows g.K.Keeper.faults c.answer-answered.new.keeper) c.in-Some.ending) c.items.ensures.items c.in-Some.ensures,
  refl,
  refl,
  refl,
)

pub returns-in-None : goal.returns-in-None
returns-in-None g c = inl (
  c.work.ensures,
  c.in-None.ensures.0,
  λ knows. subst (λ (v : Listing). NoRow c.args.job (record { items = v.items; rows = g.K.Keeper.rows c.args.keeper.now })) c.items.ensures.items (c.in-None.ensures.1 knows),
)
