use Rattle.std.proofs.Common.{List, [], ◌∷◌, ◌++◌, ℕ, ◌+◌, length, drop, refl, sym, ap, subst, ◌∙◌, arith, length-append}
use Rattle.std.proofs.lemmas.List.{append-nil}
use Rattle.std.proofs.Math.Seq.{drop-append_seam, drop-length}
use Rattle.dm_types.specs.declared.entry.Entry.{Entry}
use Rattle.dm_disk_model.specs.Disk.{now}
use Rattle.dm_disk_model.specs.Moments.{LeavesOnly}
use Rattle.dm_journal.specs.AtRest.{AtRest, WithOrWithout}
use Rattle.dm_item.specs.Listing.{applied}
use Rattle.dm_store.specs.declared.life.Life.{Life}
use Rattle.dm_store.specs.Origin.{said_of}
use Rattle.dm_store.specs.Store.{list_of, view_of}
use Rattle.dm_store.proofs.Composing.{lawful_none, lawful_one}
use Rattle.dm_store.proofs.Keeping.{desk_stands, fallen_desk, few_items, near_one, positive, record_fell, record_goes, recorded_desk}
use Rattle.dm_store.proofs.Lives.{bounded_after, plain_stays}
use Rattle.dm_store.proofs.recording.record.Goals as goal

pub append-requires-clause-stands : goal.append-requires-clause-stands
append-requires-clause-stands g c = desk_stands g.D.Disk.tells g.D.Disk.history (view_of c.args.store.now) c.requires.store.desk c.requires.whole

pub put-requires-clause-stays : goal.put-requires-clause-stays
put-requires-clause-stays g c = plain_stays c.args.entry c.requires.plain

pub returns-in-Ok-clause-goes : goal.returns-in-Ok-clause-goes
returns-in-Ok-clause-goes g c =
    let start = g.D.Disk.history c.args.store.now.disk in
    let end = g.D.Disk.history c.append.new.disk in
    record_goes g.D.Disk.tells g.D.Disk.history (λ o. said_of (g.O.Origin.says o)) (view_of c.args.store.now) _ c.args.entry c.requires.is c.requires.taken
    (few_items g.D.Disk.tells g.D.Disk.history (view_of c.args.store.now) c.requires.store.desk) c.requires.whole c.append.ensures.beside
    (λ told bodies rest. subst (λ (body : List ℕ). LeavesOnly start end (WithOrWithout bodies body)) c.requires.body (c.append.ensures.any_moment told bodies rest))
    c.requires.stand (c.follow.ensures _ c.requires.life) c.requires.whole c.put.ensures c.push_reserved.ensures.items (c.requires.store.desk.failed c.requires.whole)
    (λ told bodies rest. subst (λ (body : List ℕ). AtRest (now end) c.append.new.self (bodies ++ body ∷ [])) c.requires.body (c.in-Ok.ensures.acknowledged told bodies rest))

pub returns-in-Ok-clause-room : goal.returns-in-Ok-clause-room
returns-in-Ok-clause-room g c count room =
    let capacity = c.push_reserved.ensures.capacity in
    let entries = ap (length {A = Entry}) c.push_reserved.ensures.items ∙ length-append c.args.store.now.list.items (c.args.entry ∷ []) in
    let lives = ap (length {A = Life}) (c.follow.ensures (applied c.args.entry c.args.store.now.items) c.requires.life) in
    omega (arith, capacity, entries, lives, room)

pub returns-in-Ok-clause-store : goal.returns-in-Ok-clause-store
returns-in-Ok-clause-store g c = record {
  desk = recorded_desk g.D.Disk.tells g.D.Disk.history (λ o. said_of (g.O.Origin.says o)) (view_of c.args.store.now) _ c.args.entry c.requires.store.desk refl (returns-in-Ok-clause-goes g c)
      c.requires.is
      (bounded_after c.args.entry (applied c.args.entry c.args.store.now.items) (c.args.store.now.limits.checkpoint + c.args.store.now.limits.piece) c.args.store.now.lives.items (positive c.requires.store.desk.limits_are) c.requires.plain c.requires.store.desk.bounded)
      c.put.ensures c.requires.lives (c.follow.ensures _ c.requires.life) c.push_reserved.ensures.items (c.requires.store.desk.failed c.requires.whole);
  room = returns-in-Ok-clause-room g c 0 c.requires.room;
}

pub returns-in-Ok-clause-makes : goal.returns-in-Ok-clause-makes
returns-in-Ok-clause-makes g c = record {
  whole = c.requires.whole;
  items_are = c.put.ensures.value;
  lives_are = c.follow.ensures _ c.requires.life;
  list_is = c.push_reserved.ensures.items;
  lawful = lawful_one c.args.entry c.args.store.now.items c.put.new.self c.put.ensures;
  gate_is = let size = ap (length {A = ℕ}) c.requires.body in let gate = c.in-Ok.ensures.ok in omega (arith, size, gate);
  failed_is = c.requires.store.desk.failed c.requires.whole;
  may = tt;
  broken_is = c.requires.whole;
  origin = refl;
  limits = refl;
}

pub returns-in-Ok-clause-far : goal.returns-in-Ok-clause-far
returns-in-Ok-clause-far g c =
    near_one c.args.store.now.journal c.args.store.now.list.items c.push_reserved.new.self.items (list_of c.args.store.now.failed) c.args.entry c.args.body.now (g.D.Disk.far c.args.store.now.disk) (g.D.Disk.far c.append.new.disk)
    (ap (λ (h : List Entry). h ++ list_of c.args.store.now.failed) (ap (λ (h : List Entry). drop (length c.args.store.now.list.items) h) c.push_reserved.ensures.items ∙ drop-append_seam c.args.store.now.list.items (c.args.entry ∷ []))
    ∙ ap (λ (h : List Entry). c.args.entry ∷ h) (c.requires.store.desk.failed c.requires.whole))
    c.requires.body c.append.ensures.far

pub returns-in-Err-clause-goes : goal.returns-in-Err-clause-goes
returns-in-Err-clause-goes g c =
    let start = g.D.Disk.history c.args.store.now.disk in
    let end = g.D.Disk.history c.append.new.disk in
    record_fell g.D.Disk.tells g.D.Disk.history (λ o. said_of (g.O.Origin.says o)) (view_of c.args.store.now) _ c.args.entry c.requires.is c.requires.taken
    (few_items g.D.Disk.tells g.D.Disk.history (view_of c.args.store.now) c.requires.store.desk) c.requires.whole c.append.ensures.beside
    (λ told bodies rest. subst (λ (body : List ℕ). LeavesOnly start end (WithOrWithout bodies body)) c.requires.body (c.append.ensures.any_moment told bodies rest))
    refl refl refl (ap list_of c.put_failed.ensures) (λ told bodies rest. c.in-Err.ensures.lost told bodies rest)

pub returns-in-Err-clause-store : goal.returns-in-Err-clause-store
returns-in-Err-clause-store g c = record {
  desk = fallen_desk g.D.Disk.tells g.D.Disk.history (λ o. said_of (g.O.Origin.says o)) (view_of c.args.store.now) _ c.args.entry c.requires.store.desk refl (returns-in-Err-clause-goes g c) refl refl refl refl;
  room = c.requires.store.room;
}

pub returns-in-Err-clause-far : goal.returns-in-Err-clause-far
returns-in-Err-clause-far g c =
    near_one c.args.store.now.journal c.args.store.now.list.items c.args.store.now.list.items (list_of c.put_failed.new.failed) c.args.entry c.args.body.now (g.D.Disk.far c.args.store.now.disk) (g.D.Disk.far c.append.new.disk)
    (ap (λ (h : List Entry). h ++ list_of c.put_failed.new.failed) (drop-length c.args.store.now.list.items) ∙ ap list_of c.put_failed.ensures)
    c.requires.body c.append.ensures.far

pub returns-in-Err-clause-makes : goal.returns-in-Err-clause-makes
returns-in-Err-clause-makes g c = record {
  whole = c.requires.whole;
  items_are = refl;
  lives_are = refl;
  list_is = sym (append-nil c.args.store.now.list.items);
  lawful = lawful_none c.args.store.now.items;
  gate_is = let gate = c.in-Err.ensures.err in omega (arith, gate);
  failed_is = ap list_of c.put_failed.ensures;
  may = (c.requires.taken, tt);
  broken_is = refl;
  origin = refl;
  limits = refl;
}
