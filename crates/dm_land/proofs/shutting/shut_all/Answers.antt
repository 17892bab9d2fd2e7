use Rattle.std.proofs.Common.{true, List, [], ◌∷◌, sym, ap, subst, ◌∙◌}
use Rattle.std.specs.Prelude.{IsSome}
use Rattle.std.specs.Option.{option_map}
use Rattle.dm_types.specs.declared.item.Item.{Item}
use Rattle.dm_types.specs.declared.item.ItemId.{ItemId}
use Rattle.dm_journal.proofs.Calls.{keeps_then as files_then}
use Rattle.dm_store.specs.Becomes.{Becomes, Recorded}
use Rattle.dm_store.specs.Lives.{life_in}
use Rattle.dm_store.specs.Origin.{said_of}
use Rattle.dm_store.specs.Store.{view_of}
use Rattle.dm_land.specs.Shutting.{running_in}
use Rattle.dm_land.proofs.Shutdown.{fell_keeps, fell_near, fewer_left, found_item, found_none, next_lives, shut_done, shut_fell, shut_next, shut_start}
use Rattle.dm_land.proofs.Shuts.{shut_of}
use Rattle.dm_land.proofs.shutting.shut_all.Goals as goal

pub items-init : goal.items-init
items-init g c = record { store = c.requires.store; so_far = shut_start g.D.Disk.tells g.D.Disk.history g.D.Disk.faults g.D.Disk.far (λ o. said_of (g.O.Origin.says o)) (view_of c.args.store.now) c.requires.store.desk c.requires.whole }

pub interrupt-requires-clause-lives : goal.interrupt-requires-clause-lives
interrupt-requires-clause-lives g c = subst (λ (n : ItemId). IsSome (life_in n.0 c.items.store.lives.items)) (found_item c.items.store.items.items c.in-Some.id (c.in-Some.ensures ∙ ap (λ (items : List Item). option_map (λ i. i.id) (running_in items)) c.items-in-items.ensures)).id_is (next_lives g.D.Disk.tells g.D.Disk.history g.D.Disk.faults g.D.Disk.far (λ o. said_of (g.O.Origin.says o)) (view_of c.args.store.now) (view_of c.items.store) c.items.invariant.store.desk c.items.invariant.so_far (found_item c.items.store.items.items c.in-Some.id (c.in-Some.ensures ∙ ap (λ (items : List Item). option_map (λ i. i.id) (running_in items)) c.items-in-items.ensures)).item (found_item c.items.store.items.items c.in-Some.id (c.in-Some.ensures ∙ ap (λ (items : List Item). option_map (λ i. i.id) (running_in items)) c.items-in-items.ensures)).is)

pub items-smaller : goal.items-smaller
items-smaller g c = fewer_left g.D.Disk.tells g.D.Disk.history g.D.Disk.faults g.D.Disk.far (λ o. said_of (g.O.Origin.says o)) (view_of c.args.store.now) (view_of c.items.store) c.items.invariant.store.desk c.items.invariant.so_far (view_of c.interrupt.new.store) (found_item c.items.store.items.items c.in-Some.id (c.in-Some.ensures ∙ ap (λ (items : List Item). option_map (λ i. i.id) (running_in items)) c.items-in-items.ensures)).item (found_item c.items.store.items.items c.in-Some.id (c.in-Some.ensures ∙ ap (λ (items : List Item). option_map (λ i. i.id) (running_in items)) c.items-in-items.ensures)).is (subst (λ (n : ItemId). Recorded (view_of c.items.store) (view_of c.interrupt.new.store) (shut_of n ∷ [])) (sym (found_item c.items.store.items.items c.in-Some.id (c.in-Some.ensures ∙ ap (λ (items : List Item). option_map (λ i. i.id) (running_in items)) c.items-in-items.ensures)).id_is) c.in-Ok.ensures.makes)

pub items-preserved : goal.items-preserved
items-preserved g c = record { store = c.interrupt.ensures.store; so_far = shut_next g.D.Disk.tells g.D.Disk.history g.D.Disk.faults g.D.Disk.far (λ o. said_of (g.O.Origin.says o)) (view_of c.args.store.now) (view_of c.items.store) c.items.invariant.store.desk c.items.invariant.so_far (view_of c.interrupt.new.store) (found_item c.items.store.items.items c.in-Some.id (c.in-Some.ensures ∙ ap (λ (items : List Item). option_map (λ i. i.id) (running_in items)) c.items-in-items.ensures)).item (found_item c.items.store.items.items c.in-Some.id (c.in-Some.ensures ∙ ap (λ (items : List Item). option_map (λ i. i.id) (running_in items)) c.items-in-items.ensures)).is (subst (λ (n : ItemId). Recorded (view_of c.items.store) (view_of c.interrupt.new.store) (shut_of n ∷ [])) (sym (found_item c.items.store.items.items c.in-Some.id (c.in-Some.ensures ∙ ap (λ (items : List Item). option_map (λ i. i.id) (running_in items)) c.items-in-items.ensures)).id_is) c.in-Ok.ensures.makes) c.interrupt.ensures.keeps c.interrupt.ensures.beside c.interrupt.ensures.cause.later c.interrupt.ensures.far }

pub returns-in-Err-clause-makes : goal.returns-in-Err-clause-makes
returns-in-Err-clause-makes g c = shut_fell g.D.Disk.tells g.D.Disk.history g.D.Disk.faults g.D.Disk.far (λ o. said_of (g.O.Origin.says o)) (view_of c.args.store.now) (view_of c.items.store) c.items.invariant.store.desk c.items.invariant.so_far (view_of c.interrupt.new.store) (found_item c.items.store.items.items c.in-Some.id (c.in-Some.ensures ∙ ap (λ (items : List Item). option_map (λ i. i.id) (running_in items)) c.items-in-items.ensures)).item (found_item c.items.store.items.items c.in-Some.id (c.in-Some.ensures ∙ ap (λ (items : List Item). option_map (λ i. i.id) (running_in items)) c.items-in-items.ensures)).is (subst (λ (n : ItemId). Becomes (view_of c.items.store) (view_of c.interrupt.new.store) [] (shut_of n ∷ []) true) (sym (found_item c.items.store.items.items c.in-Some.id (c.in-Some.ensures ∙ ap (λ (items : List Item). option_map (λ i. i.id) (running_in items)) c.items-in-items.ensures)).id_is) c.in-Err.ensures.makes)

pub returns-in-Err-clause-keeps : goal.returns-in-Err-clause-keeps
returns-in-Err-clause-keeps g c = fell_keeps g.D.Disk.tells g.D.Disk.history g.D.Disk.faults g.D.Disk.far (λ o. said_of (g.O.Origin.says o)) (view_of c.args.store.now) (view_of c.items.store) c.items.invariant.store.desk c.items.invariant.so_far (view_of c.interrupt.new.store) (found_item c.items.store.items.items c.in-Some.id (c.in-Some.ensures ∙ ap (λ (items : List Item). option_map (λ i. i.id) (running_in items)) c.items-in-items.ensures)).item (found_item c.items.store.items.items c.in-Some.id (c.in-Some.ensures ∙ ap (λ (items : List Item). option_map (λ i. i.id) (running_in items)) c.items-in-items.ensures)).is (subst (λ (n : ItemId). Becomes (view_of c.items.store) (view_of c.interrupt.new.store) [] (shut_of n ∷ []) true) (sym (found_item c.items.store.items.items c.in-Some.id (c.in-Some.ensures ∙ ap (λ (items : List Item). option_map (λ i. i.id) (running_in items)) c.items-in-items.ensures)).id_is) c.in-Err.ensures.makes) c.interrupt.ensures.keeps

pub returns-in-Err-clause-beside : goal.returns-in-Err-clause-beside
returns-in-Err-clause-beside g c told = files_then (g.D.Disk.history c.args.store.now.disk) (g.D.Disk.history c.items.store.disk) (g.D.Disk.history c.interrupt.new.store.disk) (c.items.invariant.so_far.files told) (c.interrupt.ensures.beside told)

pub returns-in-Err-clause-far : goal.returns-in-Err-clause-far
returns-in-Err-clause-far g c = fell_near g.D.Disk.tells g.D.Disk.history g.D.Disk.faults g.D.Disk.far (λ o. said_of (g.O.Origin.says o)) (view_of c.args.store.now) (view_of c.items.store) c.items.invariant.store.desk c.items.invariant.so_far (view_of c.interrupt.new.store) (found_item c.items.store.items.items c.in-Some.id (c.in-Some.ensures ∙ ap (λ (items : List Item). option_map (λ i. i.id) (running_in items)) c.items-in-items.ensures)).item (found_item c.items.store.items.items c.in-Some.id (c.in-Some.ensures ∙ ap (λ (items : List Item). option_map (λ i. i.id) (running_in items)) c.items-in-items.ensures)).is (subst (λ (n : ItemId). Becomes (view_of c.items.store) (view_of c.interrupt.new.store) [] (shut_of n ∷ []) true) (sym (found_item c.items.store.items.items c.in-Some.id (c.in-Some.ensures ∙ ap (λ (items : List Item). option_map (λ i. i.id) (running_in items)) c.items-in-items.ensures)).id_is) c.in-Err.ensures.makes) c.interrupt.ensures.far

pub returns-clause-makes : goal.returns-clause-makes
returns-clause-makes g c =
    shut_done g.D.Disk.tells g.D.Disk.history g.D.Disk.faults g.D.Disk.far (λ o. said_of (g.O.Origin.says o)) (view_of c.args.store.now) (view_of c.items.store) c.items.invariant.store.desk c.items.invariant.so_far (found_none c.items.store.items.items (ap (λ (items : List Item). option_map (λ i. i.id) (running_in items)) (sym c.items-in-items.ensures) ∙ sym c.first_running.ensures ∙ c.in_default.is))
