use Rattle.std.proofs.Common.{◌≡◌, true, [], ◌∷◌, Some, sym, ◌∙◌, ap, subst}
use Rattle.dm_item.specs.Listing.{item_in}
use Rattle.dm_store.specs.Becomes.{Becomes}
use Rattle.dm_store.specs.Origin.{said_of}
use Rattle.dm_store.specs.Store.{view_of}
use Rattle.dm_store.specs.View.{View}
use Rattle.dm_store.proofs.Keeping.{keeps_same}
use Rattle.dm_begin.specs.Start.{began_by}
use Rattle.dm_begin.proofs.Starts.{own_there}
use Rattle.dm_begin.proofs.Begins.{fresh_journal}
use Rattle.dm_begin.proofs.Firsts.{same_life, same_taken, stands_untold}
use Rattle.dm_begin.proofs.beginning.begin_fresh.Goals as goal

pub returns-in_default-clause-keeps : goal.returns-in_default-clause-keeps
returns-in_default-clause-keeps g c =
    keeps_same g.D.Disk.tells g.D.Disk.history (λ o. said_of (g.O.Origin.says o)) (view_of c.args.store.now) (view_of c.ready_began.new.store) c.ready_began.ensures.same

pub record_began-requires-clause-taken : goal.record_began-requires-clause-taken
record_began-requires-clause-taken g c =
    same_taken (view_of c.ready_began.new.store) c.args.id c.args.pass c.args.by c.args.at c.in-Ok.beginning.life c.requires.start.item (subst (λ (v : View g.row.D.Denot g.row.O.Denot). item_in c.args.id.0 v.items.items ≡ Some c.requires.start.item) (sym c.ready_began.ensures.same) c.requires.start.there) c.requires.start.is.may c.requires.start.is.is.anew c.requires.start.is.is.pass_is c.in-Ok.ensures.life

pub record_began-requires-clause-life : goal.record_began-requires-clause-life
record_began-requires-clause-life g c =
    same_life (view_of c.ready_began.new.store) c.args.id c.args.pass c.args.by c.args.at c.in-Ok.beginning.life c.requires.start.item (subst (λ (v : View g.row.D.Denot g.row.O.Denot). item_in c.args.id.0 v.items.items ≡ Some c.requires.start.item) (sym c.ready_began.ensures.same) c.requires.start.there) c.requires.start.is.may c.requires.start.is.is.anew c.requires.start.is.is.pass_is c.in-Ok.ensures.life

pub record_began-requires-clause-stand : goal.record_began-requires-clause-stand
record_began-requires-clause-stand g c =
    stands_untold g.D.Disk.tells g.D.Disk.history (λ o. said_of (g.O.Origin.says o)) (view_of c.ready_began.new.store) c.ready_began.ensures.store.desk (ap (λ (v : View g.row.D.Denot g.row.O.Denot). v.broken) c.ready_began.ensures.same ∙ c.requires.whole) c.args.pass c.args.by c.args.at c.requires.start.item (own_there c.args.pass c.requires.start.item c.args.id c.ready_began.new.store.items.items c.requires.start.is.is.pass_is (subst (λ (v : View g.row.D.Denot g.row.O.Denot). item_in c.args.id.0 v.items.items ≡ Some c.requires.start.item) (sym c.ready_began.ensures.same) c.requires.start.there)) (same_taken (view_of c.ready_began.new.store) c.args.id c.args.pass c.args.by c.args.at c.in-Ok.beginning.life c.requires.start.item (subst (λ (v : View g.row.D.Denot g.row.O.Denot). item_in c.args.id.0 v.items.items ≡ Some c.requires.start.item) (sym c.ready_began.ensures.same) c.requires.start.there) c.requires.start.is.may c.requires.start.is.is.anew c.requires.start.is.is.pass_is c.in-Ok.ensures.life) c.requires.start.is.is.untold

pub returns-in-Err-clause-answers : goal.returns-in-Err-clause-answers
returns-in-Err-clause-answers g c =
    fresh_journal g.D.Disk.tells g.D.Disk.history g.D.Disk.faults c.args.id c.args.by c.args.at (view_of c.args.store.now) (view_of c.record_began.new.store) c.args.pass c.requires.start c.in-Err.kind (subst (λ (v : View g.row.D.Denot g.row.O.Denot). Becomes v (view_of c.record_began.new.store) [] (began_by c.args.pass c.args.by c.args.at ∷ []) true) c.ready_began.ensures.same c.in-Err.ensures.makes)
