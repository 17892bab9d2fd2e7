use Rattle.std.proofs.Common.{List, [], ◌∷◌, ◌++◌, ℕ, length, drop, refl, sym, ap, subst, ◌∙◌, arith, length-append}
use Rattle.std.proofs.lemmas.List.{append-nil}
use Rattle.std.proofs.Math.Seq.{drop-append_seam, drop-length}
use Rattle.dm_types.specs.declared.entry.Entry.{Entry}
use Rattle.dm_disk_model.specs.Disk.{now}
use Rattle.dm_disk_model.specs.Moments.{LeavesOnly}
use Rattle.dm_journal.specs.AtRest.{AtRest, WithOrWithout}
use Rattle.dm_item.specs.Listing.{Admits, Listing, applied}
use Rattle.dm_store.specs.declared.life.Life.{Life}
use Rattle.dm_store.specs.Origin.{said_of}
use Rattle.dm_store.specs.Store.{IsStore, list_of, view_of}
use Rattle.dm_store.proofs.Added.{added_keeps, added_stands, new_bounded, new_lives, new_lives_same, new_one}
use Rattle.dm_store.proofs.Composing.{lawful_one, lawful_same}
use Rattle.dm_store.proofs.Keeping.{desk_stands, fallen_desk, few_items, keeps_same, near_one, record_fell, record_goes, recorded_desk}
use Rattle.dm_store.proofs.adding.record_added.Goals as goal

pub append-requires-clause-stands : goal.append-requires-clause-stands
append-requires-clause-stands g c = desk_stands g.D.Disk.tells g.D.Disk.history (view_of c.args.store.now) c.requires.store.desk c.requires.whole

-- the list had no memory
pub returns-in_default-apply-clause-store : goal.returns-in_default-apply-clause-store
returns-in_default-apply-clause-store g c = subst (λ (items : Listing). IsStore g.D.Disk.tells g.D.Disk.history (record c.args.store.now { items = items })) (sym c.in_default-apply.ensures.same) c.requires.store

pub returns-in_default-apply-clause-keeps : goal.returns-in_default-apply-clause-keeps
returns-in_default-apply-clause-keeps g c = keeps_same g.D.Disk.tells g.D.Disk.history (λ o. said_of (g.O.Origin.says o)) (view_of c.args.store.now) _ (ap (λ (items : Listing). record (view_of c.args.store.now) { items = items }) c.in_default-apply.ensures.same)

pub returns-in_default-clause-keeps : goal.returns-in_default-clause-keeps
returns-in_default-clause-keeps g c = keeps_same g.D.Disk.tells g.D.Disk.history (λ o. said_of (g.O.Origin.says o)) (view_of c.args.store.now) _ refl

-- it is recorded
pub returns-in-Ok-append-clause-keeps : goal.returns-in-Ok-append-clause-keeps
returns-in-Ok-append-clause-keeps g c =
    added_keeps g.D.Disk.tells g.D.Disk.history (λ o. said_of (g.O.Origin.says o)) (view_of c.args.store.now) c.args.entry c.requires.added c.requires.store.desk c.requires.whole _
    (record_goes g.D.Disk.tells g.D.Disk.history (λ o. said_of (g.O.Origin.says o)) (view_of c.args.store.now) _ c.args.entry c.requires.is c.requires.taken
    (few_items g.D.Disk.tells g.D.Disk.history (view_of c.args.store.now) c.requires.store.desk) c.requires.whole c.append.ensures.beside
    (λ told bodies rest. subst (λ (body : List ℕ). LeavesOnly (g.D.Disk.history c.args.store.now.disk) (g.D.Disk.history c.append.new.disk) (WithOrWithout bodies body)) c.requires.body (c.append.ensures.any_moment told bodies rest))
    (added_stands g.D.Disk.tells g.D.Disk.history (λ o. said_of (g.O.Origin.says o)) (view_of c.args.store.now) c.args.entry c.requires.added c.requires.store.desk c.requires.whole)
    (new_lives_same c.args.entry c.requires.added (applied c.args.entry c.args.store.now.items) c.args.store.now.lives.items) c.requires.whole c.in-Ok-apply.ensures.ok c.push_reserved.ensures.items (c.requires.store.desk.failed c.requires.whole)
    (λ told bodies rest. subst (λ (body : List ℕ). AtRest (now (g.D.Disk.history c.append.new.disk)) c.append.new.self (bodies ++ body ∷ [])) c.requires.body (c.in-Ok-append.ensures.acknowledged told bodies rest)))

pub returns-in-Ok-append-clause-room : goal.returns-in-Ok-append-clause-room
returns-in-Ok-append-clause-room g c count room =
    let capacity = c.push_reserved.ensures.capacity in
    let entries = ap (length {A = Entry}) c.push_reserved.ensures.items ∙ length-append c.args.store.now.list.items (c.args.entry ∷ []) in
    let lives = ap (length {A = Life}) (new_lives_same c.args.entry c.requires.added (applied c.args.entry c.args.store.now.items) c.args.store.now.lives.items) in
    omega (arith, capacity, entries, lives, room)

pub returns-in-Ok-append-clause-store : goal.returns-in-Ok-append-clause-store
returns-in-Ok-append-clause-store g c = record {
  desk = recorded_desk g.D.Disk.tells g.D.Disk.history (λ o. said_of (g.O.Origin.says o)) (view_of c.args.store.now) _ c.args.entry c.requires.store.desk refl
      (record_goes g.D.Disk.tells g.D.Disk.history (λ o. said_of (g.O.Origin.says o)) (view_of c.args.store.now) _ c.args.entry c.requires.is c.requires.taken
      (few_items g.D.Disk.tells g.D.Disk.history (view_of c.args.store.now) c.requires.store.desk) c.requires.whole c.append.ensures.beside
      (λ told bodies rest. subst (λ (body : List ℕ). LeavesOnly (g.D.Disk.history c.args.store.now.disk) (g.D.Disk.history c.append.new.disk) (WithOrWithout bodies body)) c.requires.body (c.append.ensures.any_moment told bodies rest))
      (added_stands g.D.Disk.tells g.D.Disk.history (λ o. said_of (g.O.Origin.says o)) (view_of c.args.store.now) c.args.entry c.requires.added c.requires.store.desk c.requires.whole)
      (new_lives_same c.args.entry c.requires.added (applied c.args.entry c.args.store.now.items) c.args.store.now.lives.items) c.requires.whole c.in-Ok-apply.ensures.ok c.push_reserved.ensures.items (c.requires.store.desk.failed c.requires.whole)
      (λ told bodies rest. subst (λ (body : List ℕ). AtRest (now (g.D.Disk.history c.append.new.disk)) c.append.new.self (bodies ++ body ∷ [])) c.requires.body (c.in-Ok-append.ensures.acknowledged told bodies rest)))
      c.requires.is (new_bounded c.args.entry c.requires.added (applied c.args.entry c.args.store.now.items) _ c.args.store.now.lives.items c.requires.store.desk.bounded) c.in-Ok-apply.ensures.ok
      (new_lives c.args.entry c.requires.added c.args.store.now.items c.args.store.now.lives.items (c.requires.store.desk.lives c.requires.whole))
      (new_lives_same c.args.entry c.requires.added (applied c.args.entry c.args.store.now.items) c.args.store.now.lives.items) c.push_reserved.ensures.items (c.requires.store.desk.failed c.requires.whole);
  room =
      let capacity = c.push_reserved.ensures.capacity in
      let entries = ap (length {A = Entry}) c.push_reserved.ensures.items ∙ length-append c.args.store.now.list.items (c.args.entry ∷ []) in
      let room = c.requires.room in
      omega (arith, capacity, entries, room);
}

pub returns-in-Ok-append-clause-makes : goal.returns-in-Ok-append-clause-makes
returns-in-Ok-append-clause-makes g c = record {
  whole = c.requires.whole;
  items_are = c.in-Ok-apply.ensures.ok.value;
  lives_are = new_lives_same c.args.entry c.requires.added (applied c.args.entry c.args.store.now.items) c.args.store.now.lives.items;
  list_is = c.push_reserved.ensures.items;
  lawful = lawful_one c.args.entry c.args.store.now.items c.apply.new.self c.in-Ok-apply.ensures.ok;
  gate_is = let size = ap (length {A = ℕ}) c.requires.body in let gate = c.in-Ok-append.ensures.ok in omega (arith, size, gate);
  failed_is = c.requires.store.desk.failed c.requires.whole;
  may = tt;
  broken_is = c.requires.whole;
  origin = refl;
  limits = refl;
}

pub returns-in-Ok-append-clause-far : goal.returns-in-Ok-append-clause-far
returns-in-Ok-append-clause-far g c =
    near_one c.args.store.now.journal c.args.store.now.list.items c.push_reserved.new.self.items (list_of c.args.store.now.failed) c.args.entry c.args.body.now (g.D.Disk.far c.args.store.now.disk) (g.D.Disk.far c.append.new.disk)
    (ap (λ (h : List Entry). h ++ list_of c.args.store.now.failed) (ap (λ (h : List Entry). drop (length c.args.store.now.list.items) h) c.push_reserved.ensures.items ∙ drop-append_seam c.args.store.now.list.items (c.args.entry ∷ []))
    ∙ ap (λ (h : List Entry). c.args.entry ∷ h) (c.requires.store.desk.failed c.requires.whole))
    c.requires.body c.append.ensures.far

-- or the journal failed
pub returns-in-Err-clause-keeps : goal.returns-in-Err-clause-keeps
returns-in-Err-clause-keeps g c =
    added_keeps g.D.Disk.tells g.D.Disk.history (λ o. said_of (g.O.Origin.says o)) (view_of c.args.store.now) c.args.entry c.requires.added c.requires.store.desk c.requires.whole _
    (record_fell g.D.Disk.tells g.D.Disk.history (λ o. said_of (g.O.Origin.says o)) (view_of c.args.store.now) _ c.args.entry c.requires.is c.requires.taken
    (few_items g.D.Disk.tells g.D.Disk.history (view_of c.args.store.now) c.requires.store.desk) c.requires.whole c.append.ensures.beside
    (λ told bodies rest. subst (λ (body : List ℕ). LeavesOnly (g.D.Disk.history c.args.store.now.disk) (g.D.Disk.history c.append.new.disk) (WithOrWithout bodies body)) c.requires.body (c.append.ensures.any_moment told bodies rest))
    refl (c.take_back.ensures (record { older = c.args.store.now.items; entry = c.args.entry; one_item = new_one c.args.entry c.requires.added; was = c.in-Ok.ensures; takes = c.in-Ok-apply.ensures.ok })) refl (ap list_of c.put_failed.ensures) (λ told bodies rest. c.in-Err.ensures.lost told bodies rest))

pub returns-in-Err-clause-store : goal.returns-in-Err-clause-store
returns-in-Err-clause-store g c = record {
  desk = fallen_desk g.D.Disk.tells g.D.Disk.history (λ o. said_of (g.O.Origin.says o)) (view_of c.args.store.now) _ c.args.entry c.requires.store.desk refl
      (record_fell g.D.Disk.tells g.D.Disk.history (λ o. said_of (g.O.Origin.says o)) (view_of c.args.store.now) _ c.args.entry c.requires.is c.requires.taken
      (few_items g.D.Disk.tells g.D.Disk.history (view_of c.args.store.now) c.requires.store.desk) c.requires.whole c.append.ensures.beside
      (λ told bodies rest. subst (λ (body : List ℕ). LeavesOnly (g.D.Disk.history c.args.store.now.disk) (g.D.Disk.history c.append.new.disk) (WithOrWithout bodies body)) c.requires.body (c.append.ensures.any_moment told bodies rest))
      refl (c.take_back.ensures (record { older = c.args.store.now.items; entry = c.args.entry; one_item = new_one c.args.entry c.requires.added; was = c.in-Ok.ensures; takes = c.in-Ok-apply.ensures.ok })) refl (ap list_of c.put_failed.ensures) (λ told bodies rest. c.in-Err.ensures.lost told bodies rest))
      (c.take_back.ensures (record { older = c.args.store.now.items; entry = c.args.entry; one_item = new_one c.args.entry c.requires.added; was = c.in-Ok.ensures; takes = c.in-Ok-apply.ensures.ok })) refl refl refl;
  room = c.requires.store.room;
}

pub returns-in-Err-clause-far : goal.returns-in-Err-clause-far
returns-in-Err-clause-far g c =
    near_one c.args.store.now.journal c.args.store.now.list.items c.args.store.now.list.items (list_of c.put_failed.new.failed) c.args.entry c.args.body.now (g.D.Disk.far c.args.store.now.disk) (g.D.Disk.far c.append.new.disk)
    (ap (λ (h : List Entry). h ++ list_of c.put_failed.new.failed) (drop-length c.args.store.now.list.items) ∙ ap list_of c.put_failed.ensures)
    c.requires.body c.append.ensures.far

pub returns-in-Err-clause-makes : goal.returns-in-Err-clause-makes
returns-in-Err-clause-makes g c = record {
  whole = c.requires.whole;
  items_are = (c.take_back.ensures (record { older = c.args.store.now.items; entry = c.args.entry; one_item = new_one c.args.entry c.requires.added; was = c.in-Ok.ensures; takes = c.in-Ok-apply.ensures.ok }));
  lives_are = refl;
  list_is = sym (append-nil c.args.store.now.list.items);
  lawful = lawful_same c.args.store.now.items c.take_back.new.self (c.take_back.ensures (record { older = c.args.store.now.items; entry = c.args.entry; one_item = new_one c.args.entry c.requires.added; was = c.in-Ok.ensures; takes = c.in-Ok-apply.ensures.ok }));
  gate_is = let gate = c.in-Err.ensures.err in omega (arith, gate);
  failed_is = ap list_of c.put_failed.ensures;
  may = (subst (λ (items : Listing). Admits items c.args.entry) (sym (c.take_back.ensures (record { older = c.args.store.now.items; entry = c.args.entry; one_item = new_one c.args.entry c.requires.added; was = c.in-Ok.ensures; takes = c.in-Ok-apply.ensures.ok }))) c.requires.taken, tt);
  broken_is = refl;
  origin = refl;
  limits = refl;
}
