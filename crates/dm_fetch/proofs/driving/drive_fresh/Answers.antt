use Rattle.std.proofs.Common.{◌≡◌, List, ℕ, Ok, ◌∙◌, ap, subst}
use Rattle.dm_store.specs.Origin.{said_of}
use Rattle.dm_types.specs.declared.item.Item.{Item}
use Rattle.dm_attempt.specs.Scene.{begun_by}
use Rattle.dm_rounds.specs.First.{FreshLeaves}
use Rattle.dm_fetch.specs.Attempts.{IsStable}
use Rattle.dm_fetch.specs.Drive.{AskedOf, Unreads}
use Rattle.dm_fetch.proofs.Drives.{begun_item, begun_there, first_text, fresh_drives, own_text, unread_stops}
use Rattle.dm_fetch.proofs.driving.drive_fresh.Goals as goal

pub first_asked-requires : goal.first_asked-requires
first_asked-requires g c =
    let D = g.S.D.Disk in
    let N = g.N.Net in
    let may = c.requires.may in
    begun_there D.tells D.history (λ o. said_of (g.S.O.Origin.says o)) D.far D.faults N.tells may.scene c.args.pass.now (g.S.Desk.view c.args.desk.now) (N.closed c.args.net.now) (N.faults c.args.net.now) (N.origin_of c.args.net.now) c.args.at may.begun

pub run_fresh-requires-clause-read : goal.run_fresh-requires-clause-read
run_fresh-requires-clause-read g c = let found = c.in-Ok.ensures.is in own_text found.item.first_address c.in-Ok.asked.address found.is.stable

pub run_fresh-requires-clause-may : goal.run_fresh-requires-clause-may
run_fresh-requires-clause-may g c =
    let may = c.requires.may in
    record { scene = may.scene; is = record { live = may.begun.live 0; none = may.none; still = λ t. may.begun.closed_is; origin = may.begun.origin; at_is = may.begun.at_is } }

pub returns-in-Err-clause-goes : goal.returns-in-Err-clause-goes
returns-in-Err-clause-goes g c scene begun none =
    let D = g.S.D.Disk in
    let N = g.N.Net in
    let old = g.S.Desk.view c.args.desk.now in
    let found = c.in-Err.ensures.is in
    let same = begun_item D.tells D.history (λ o. said_of (g.S.O.Origin.says o)) D.far D.faults N.tells scene c.args.pass.now old (N.closed c.args.net.now) (N.faults c.args.net.now) (N.origin_of c.args.net.now) c.args.at begun
    (λ (item : Item). Unreads item.first_address c.in-Err.stop) found in
    unread_stops D.tells D.history (λ o. said_of (g.S.O.Origin.says o)) D.far D.faults N.tells scene c.args.pass.now old (N.closed c.args.net.now) (N.faults c.args.net.now) (N.origin_of c.args.net.now) c.args.at begun
    (begun_by scene).first_address c.in-Err.stop c.args.slices
    (first_text D.tells D.history (λ o. said_of (g.S.O.Origin.says o)) D.far D.faults N.tells scene c.args.pass.now old (N.closed c.args.net.now) (N.faults c.args.net.now) (N.origin_of c.args.net.now) c.args.at begun none)
    (subst (λ (item : Item). Unreads item.first_address c.in-Err.stop) same found.is)

pub returns-clause-goes : goal.returns-clause-goes
returns-clause-goes g c scene begun none =
    let D = g.S.D.Disk in
    let N = g.N.Net in
    let old = g.S.Desk.view c.args.desk.now in
    let new = g.S.Desk.view c.run_fresh.new.desk in
    let found = c.in-Ok.ensures.is in
    let asked = c.in-Ok.asked in
    let same = begun_item D.tells D.history (λ o. said_of (g.S.O.Origin.says o)) D.far D.faults N.tells scene c.args.pass.now old (N.closed c.args.net.now) (N.faults c.args.net.now) (N.origin_of c.args.net.now) c.args.at begun
    (λ (item : Item). AskedOf item (Ok asked)) found in
    let wish : c.bytes.result.now ≡ (begun_by scene).wish = c.bytes.ensures ∙ found.is.wish_is ∙ ap (λ (item : Item). item.wish) same in
    fresh_drives D.tells D.history (λ o. said_of (g.S.O.Origin.says o)) D.far D.faults N.tells scene c.args.pass.now old (N.closed c.args.net.now) (N.faults c.args.net.now) (N.origin_of c.args.net.now) c.args.at begun
    new (N.closed c.run_fresh.new.net) (N.faults c.run_fresh.new.net) c.args.slices asked.address none (subst (λ (item : Item). IsStable item.first_address asked.address) same found.is.stable) c.run_fresh.result
    (subst (λ (w : List ℕ). FreshLeaves D.tells D.history (λ o. said_of (g.S.O.Origin.says o)) D.far D.faults N.tells scene c.args.pass.now old new (N.closed c.run_fresh.new.net) (N.faults c.args.net.now) (N.faults c.run_fresh.new.net) asked.address w c.args.slices c.run_fresh.result) wish
    (c.run_fresh.ensures.goes scene (record { live = begun.live 0; none = none; still = λ t. begun.closed_is; origin = begun.origin; at_is = begun.at_is })))
