use Rattle.std.proofs.Common.{◌≡◌, inl, refl, List, ◌∙◌, ap, subst}
use Rattle.std.specs.Prelude.{IsSome}
use Rattle.dm_types.specs.declared.item.Item.{Item}
use Rattle.dm_item.specs.Listing.{Listing}
use Rattle.dm_store.specs.Origin.{said_of}
use Rattle.dm_store.proofs.Keeping.{keeps_same}
use Rattle.dm_archive.specs.Leaving.{next_over}
use Rattle.dm_archive.proofs.Nexts.{found_some}
use Rattle.dm_archive.proofs.moving.move_next.Goals as goal

pub returns-in-Ok-None-clause-keeps : goal.returns-in-Ok-None-clause-keeps
returns-in-Ok-None-clause-keeps g c = keeps_same g.D.Disk.tells g.D.Disk.history (λ o. said_of (g.O.Origin.says o)) c.args.desk.now c.args.desk.now refl

pub returns-clause-answers : goal.returns-clause-answers
returns-clause-answers g c =
    let same : c.items-2.result.now ≡ c.args.desk.now.items.items = c.items-2.ensures ∙ ap (λ (v : Listing). v.items) c.items.ensures.items in
    let found = found_some c.args.desk.now.items.items (subst (λ (items : List Item). IsSome (next_over items)) same c.in-Err.ensures.some) in
    record { item = found.item; is = found.is; does = (refl, λ knows. inl refl) }

pub returns-clause-keeps : goal.returns-clause-keeps
returns-clause-keeps g c = keeps_same g.D.Disk.tells g.D.Disk.history (λ o. said_of (g.O.Origin.says o)) c.args.desk.now c.args.desk.now refl
