use Rattle.std.proofs.Common.{ℕ, ◌+◌, List, [], ◌∷◌, ◌++◌, length, Option, refl, sym, ◌∙◌, ap, subst, append_assoc, arith, length-append}
use Rattle.std.proofs.lemmas.List.{append-nil}
use Rattle.dm_types.specs.declared.entry.Entry.{Entry}
use Rattle.dm_types.specs.declared.entry.Entry.TheVariants as entries
use Rattle.dm_disk_model.specs.Disk.{now}
use Rattle.dm_disk_model.specs.Moments.{LeavesOnly}
use Rattle.dm_item.specs.Lawful.{KeepsHistory}
use Rattle.dm_item.specs.Listing.{Admits, Listing, applied}
use Rattle.dm_journal.specs.AtRest.{AtRest, WithOrWithout}
use Rattle.dm_store.specs.declared.life.Life.{Life}
use Rattle.dm_store.specs.Lives.{AreBounded, with_life}
use Rattle.dm_store.specs.Origin.{said_of}
use Rattle.dm_store.specs.Store.{list_of, view_of}
use Rattle.dm_store.proofs.Begun.{began_allows}
use Rattle.dm_store.proofs.Composing.{lawful_none, lawful_one, lawful_then}
use Rattle.dm_store.proofs.Keeping.{desk_stands, few_items, positive, record_fell}
use Rattle.dm_store.proofs.Keeping as keeping
use Rattle.dm_store.proofs.Lives.{bounded_after}
use Rattle.dm_begin.specs.Pair.{began_of}
use Rattle.dm_begin.proofs.Both.{broke_may, ended_desk, ended_keeps, fallen_desk, fallen_keeps, lives_back, middle_stands}
use Rattle.dm_begin.proofs.pairing.record_pair.Goals as goal

pub append-requires-clause-stands : goal.append-requires-clause-stands
append-requires-clause-stands g c = desk_stands g.D.Disk.tells g.D.Disk.history (view_of c.args.store.now) c.requires.store.desk c.requires.whole

pub append-requires-in-Ok-clause-stands : goal.append-requires-in-Ok-clause-stands
append-requires-in-Ok-clause-stands g c =
    middle_stands g.D.Disk.tells g.D.Disk.history (λ o. said_of (g.O.Origin.says o)) (view_of c.args.store.now) c.requires.store.desk c.requires.whole c.args.what c.args.reason c.requires.is c.requires.taken c.requires.reason
    (g.D.Disk.history c.append.new.disk) c.append.ensures.beside (λ told bodies rest. subst (λ (body : List ℕ). LeavesOnly (g.D.Disk.history c.args.store.now.disk) (g.D.Disk.history c.append.new.disk) (WithOrWithout bodies body)) c.requires.body (c.append.ensures.any_moment told bodies rest))
    c.append.new.self (λ told bodies rest. subst (λ (body : List ℕ). AtRest (now (g.D.Disk.history c.append.new.disk)) c.append.new.self (bodies ++ body ∷ [])) c.requires.body (c.in-Ok.ensures.acknowledged told bodies rest))

pub put-requires-in-Ok-append-clause-admitted : goal.put-requires-in-Ok-append-clause-admitted
put-requires-in-Ok-append-clause-admitted g c = (subst (λ (v : Listing). Admits v (entries.Broke c.args.what.id c.args.reason)) (sym (c.put.ensures.value ∙ ap (λ (e : Entry). applied e c.args.store.now.items) c.began_entry-began.ensures)) (broke_may g.D.Disk.tells g.D.Disk.history (λ o. said_of (g.O.Origin.says o)) (view_of c.args.store.now) c.requires.store.desk c.requires.whole c.args.what c.args.reason c.requires.is c.requires.taken c.requires.reason))

-- both are recorded
pub returns-in-Ok-append-clause-keeps : goal.returns-in-Ok-append-clause-keeps
returns-in-Ok-append-clause-keeps g c =
    ended_keeps g.D.Disk.tells g.D.Disk.history (λ o. said_of (g.O.Origin.says o)) (view_of c.args.store.now) c.requires.store.desk c.requires.whole c.args.what c.args.reason c.requires.is c.requires.taken c.requires.reason
    (g.D.Disk.history c.append.new.disk) c.append.ensures.beside (λ told bodies rest. subst (λ (body : List ℕ). LeavesOnly (g.D.Disk.history c.args.store.now.disk) (g.D.Disk.history c.append.new.disk) (WithOrWithout bodies body)) c.requires.body (c.append.ensures.any_moment told bodies rest))
    c.append.new.self (λ told bodies rest. subst (λ (body : List ℕ). AtRest (now (g.D.Disk.history c.append.new.disk)) c.append.new.self (bodies ++ body ∷ [])) c.requires.body (c.in-Ok.ensures.acknowledged told bodies rest))
    _ c.write_broke-broke.ensures.entry c.append-in-Ok.ensures.beside (λ told bodies rest. subst (λ (body : List ℕ). LeavesOnly (g.D.Disk.history c.append.new.disk) (g.D.Disk.history c.append-in-Ok.new.disk) (WithOrWithout bodies body)) c.write_broke-broke.ensures.bytes (c.append-in-Ok.ensures.any_moment told bodies rest)) refl
    (c.put-in-Ok-append.ensures.value ∙ ap (applied (entries.Broke c.args.what.id c.args.reason)) (c.put.ensures.value ∙ ap (λ (e : Entry). applied e c.args.store.now.items) c.began_entry-began.ensures))
    (c.push_reserved-in-Ok-append.ensures.items ∙ ap (λ (h : List Entry). h ++ (entries.Broke c.args.what.id c.args.reason) ∷ []) (c.push_reserved.ensures.items ∙ ap (λ (e : Entry). c.args.store.now.list.items ++ e ∷ []) c.began_entry-began.ensures)) (c.requires.store.desk.failed c.requires.whole) c.requires.whole refl
    (λ told bodies rest. subst (λ (body : List ℕ). AtRest (now (g.D.Disk.history c.append-in-Ok.new.disk)) c.append-in-Ok.new.self (bodies ++ body ∷ [])) c.write_broke-broke.ensures.bytes (c.in-Ok-append.ensures.acknowledged told bodies rest))

pub returns-in-Ok-append-clause-store : goal.returns-in-Ok-append-clause-store
returns-in-Ok-append-clause-store g c = record {
  desk = ended_desk g.D.Disk.tells g.D.Disk.history (λ o. said_of (g.O.Origin.says o)) (view_of c.args.store.now) c.requires.store.desk c.requires.whole c.args.what c.args.reason c.requires.is c.requires.taken c.requires.reason
      (g.D.Disk.history c.append.new.disk) c.append.ensures.beside (λ told bodies rest. subst (λ (body : List ℕ). LeavesOnly (g.D.Disk.history c.args.store.now.disk) (g.D.Disk.history c.append.new.disk) (WithOrWithout bodies body)) c.requires.body (c.append.ensures.any_moment told bodies rest))
      c.append.new.self (λ told bodies rest. subst (λ (body : List ℕ). AtRest (now (g.D.Disk.history c.append.new.disk)) c.append.new.self (bodies ++ body ∷ [])) c.requires.body (c.in-Ok.ensures.acknowledged told bodies rest))
      _ c.write_broke-broke.ensures.entry c.append-in-Ok.ensures.beside (λ told bodies rest. subst (λ (body : List ℕ). LeavesOnly (g.D.Disk.history c.append.new.disk) (g.D.Disk.history c.append-in-Ok.new.disk) (WithOrWithout bodies body)) c.write_broke-broke.ensures.bytes (c.append-in-Ok.ensures.any_moment told bodies rest)) refl
      (c.put-in-Ok-append.ensures.value ∙ ap (applied (entries.Broke c.args.what.id c.args.reason)) (c.put.ensures.value ∙ ap (λ (e : Entry). applied e c.args.store.now.items) c.began_entry-began.ensures))
      (c.push_reserved-in-Ok-append.ensures.items ∙ ap (λ (h : List Entry). h ++ (entries.Broke c.args.what.id c.args.reason) ∷ []) (c.push_reserved.ensures.items ∙ ap (λ (e : Entry). c.args.store.now.list.items ++ e ∷ []) c.began_entry-began.ensures)) (c.requires.store.desk.failed c.requires.whole) c.requires.whole refl
      (λ told bodies rest. subst (λ (body : List ℕ). AtRest (now (g.D.Disk.history c.append-in-Ok.new.disk)) c.append-in-Ok.new.self (bodies ++ body ∷ [])) c.write_broke-broke.ensures.bytes (c.in-Ok-append.ensures.acknowledged told bodies rest));
  room =
      let first = c.push_reserved.ensures.capacity in
      let second = c.push_reserved-in-Ok-append.ensures.capacity in
      let one = ap (length {A = Entry}) c.push_reserved.ensures.items ∙ length-append c.args.store.now.list.items (c.began_entry-began.result ∷ []) in
      let two = ap (length {A = Entry}) c.push_reserved-in-Ok-append.ensures.items ∙ length-append c.push_reserved.new.self.items ((entries.Broke c.args.what.id c.args.reason) ∷ []) in
      let room = c.requires.room in
      omega (arith, first, second, one, two, room);
}

pub returns-in-Ok-append-clause-makes : goal.returns-in-Ok-append-clause-makes
returns-in-Ok-append-clause-makes g c = record {
  whole = c.requires.whole;
  items_are = (c.put-in-Ok-append.ensures.value ∙ ap (applied (entries.Broke c.args.what.id c.args.reason)) (c.put.ensures.value ∙ ap (λ (e : Entry). applied e c.args.store.now.items) c.began_entry-began.ensures));
  lives_are = lives_back g.D.Disk.tells g.D.Disk.history (λ o. said_of (g.O.Origin.says o)) (view_of c.args.store.now) c.requires.store.desk c.requires.whole c.args.what c.args.reason c.requires.is c.requires.taken c.requires.reason;
  list_is = (c.push_reserved-in-Ok-append.ensures.items ∙ ap (λ (h : List Entry). h ++ (entries.Broke c.args.what.id c.args.reason) ∷ []) (c.push_reserved.ensures.items ∙ ap (λ (e : Entry). c.args.store.now.list.items ++ e ∷ []) c.began_entry-began.ensures)) ∙ append_assoc c.args.store.now.list.items ((began_of c.args.what) ∷ []) ((entries.Broke c.args.what.id c.args.reason) ∷ []);
  lawful = lawful_then c.args.store.now.items c.put.new.self c.put-in-Ok-append.new.self ((began_of c.args.what) ∷ []) ((entries.Broke c.args.what.id c.args.reason) ∷ []) (subst (λ (e : Entry). KeepsHistory c.args.store.now.items c.put.new.self (e ∷ [])) c.began_entry-began.ensures (lawful_one c.began_entry-began.result c.args.store.now.items c.put.new.self c.put.ensures))
      (lawful_one (entries.Broke c.args.what.id c.args.reason) c.put.new.self c.put-in-Ok-append.new.self c.put-in-Ok-append.ensures);
  gate_is =
      let first = c.in-Ok.ensures.ok in
      let second = c.in-Ok-append.ensures.ok in
      let one = ap (length {A = ℕ}) c.requires.body in
      let two = ap (length {A = ℕ}) c.write_broke-broke.ensures.bytes in
      omega (arith, first, second, one, two);
  failed_is = (c.requires.store.desk.failed c.requires.whole);
  may = tt;
  broken_is = c.requires.whole;
  origin = refl;
  limits = refl;
}

-- the second failed
pub returns-in-Err-append-clause-keeps : goal.returns-in-Err-append-clause-keeps
returns-in-Err-append-clause-keeps g c =
    fallen_keeps g.D.Disk.tells g.D.Disk.history (λ o. said_of (g.O.Origin.says o)) (view_of c.args.store.now) c.requires.store.desk c.requires.whole c.args.what c.args.reason c.requires.is c.requires.taken c.requires.reason
    (g.D.Disk.history c.append.new.disk) c.append.ensures.beside (λ told bodies rest. subst (λ (body : List ℕ). LeavesOnly (g.D.Disk.history c.args.store.now.disk) (g.D.Disk.history c.append.new.disk) (WithOrWithout bodies body)) c.requires.body (c.append.ensures.any_moment told bodies rest))
    c.append.new.self (λ told bodies rest. subst (λ (body : List ℕ). AtRest (now (g.D.Disk.history c.append.new.disk)) c.append.new.self (bodies ++ body ∷ [])) c.requires.body (c.in-Ok.ensures.acknowledged told bodies rest))
    _ c.write_broke-broke.ensures.entry c.append-in-Ok.ensures.beside (λ told bodies rest. subst (λ (body : List ℕ). LeavesOnly (g.D.Disk.history c.append.new.disk) (g.D.Disk.history c.append-in-Ok.new.disk) (WithOrWithout bodies body)) c.write_broke-broke.ensures.bytes (c.append-in-Ok.ensures.any_moment told bodies rest)) refl
    (c.put.ensures.value ∙ ap (λ (e : Entry). applied e c.args.store.now.items) c.began_entry-began.ensures)
    (c.push_reserved.ensures.items ∙ ap (λ (e : Entry). c.args.store.now.list.items ++ e ∷ []) c.began_entry-began.ensures) (ap list_of c.put_failed.ensures) refl (λ told bodies rest. c.in-Err-append.ensures.lost told bodies rest)

pub returns-in-Err-append-clause-store : goal.returns-in-Err-append-clause-store
returns-in-Err-append-clause-store g c = record {
  desk = fallen_desk g.D.Disk.tells g.D.Disk.history (λ o. said_of (g.O.Origin.says o)) (view_of c.args.store.now) c.requires.store.desk c.requires.whole c.args.what c.args.reason c.requires.is c.requires.taken c.requires.reason
      (g.D.Disk.history c.append.new.disk) c.append.ensures.beside (λ told bodies rest. subst (λ (body : List ℕ). LeavesOnly (g.D.Disk.history c.args.store.now.disk) (g.D.Disk.history c.append.new.disk) (WithOrWithout bodies body)) c.requires.body (c.append.ensures.any_moment told bodies rest))
      c.append.new.self (λ told bodies rest. subst (λ (body : List ℕ). AtRest (now (g.D.Disk.history c.append.new.disk)) c.append.new.self (bodies ++ body ∷ [])) c.requires.body (c.in-Ok.ensures.acknowledged told bodies rest))
      _ c.write_broke-broke.ensures.entry c.append-in-Ok.ensures.beside (λ told bodies rest. subst (λ (body : List ℕ). LeavesOnly (g.D.Disk.history c.append.new.disk) (g.D.Disk.history c.append-in-Ok.new.disk) (WithOrWithout bodies body)) c.write_broke-broke.ensures.bytes (c.append-in-Ok.ensures.any_moment told bodies rest)) refl
      (c.put.ensures.value ∙ ap (λ (e : Entry). applied e c.args.store.now.items) c.began_entry-began.ensures)
      (c.push_reserved.ensures.items ∙ ap (λ (e : Entry). c.args.store.now.list.items ++ e ∷ []) c.began_entry-began.ensures) (ap list_of c.put_failed.ensures) refl (λ told bodies rest. c.in-Err-append.ensures.lost told bodies rest)
      (subst (AreBounded (c.args.store.now.limits.checkpoint + c.args.store.now.limits.piece)) (sym (c.push_reserved-in-Err-append.ensures.items ∙ ap (λ (found : Option Life). with_life found c.args.store.now.lives.items) c.requires.life))
      (bounded_after (began_of c.args.what) (applied (began_of c.args.what) c.args.store.now.items) (c.args.store.now.limits.checkpoint + c.args.store.now.limits.piece) c.args.store.now.lives.items (positive c.requires.store.desk.limits_are) refl c.requires.store.desk.bounded));
  room =
      let first = c.push_reserved.ensures.capacity in
      let one = ap (length {A = Entry}) c.push_reserved.ensures.items ∙ length-append c.args.store.now.list.items (c.began_entry-began.result ∷ []) in
      let lives = ap (length {A = Life}) c.push_reserved-in-Err-append.ensures.items ∙ length-append c.args.store.now.lives.items (c.args.life ∷ []) in
      let room = c.requires.room in
      omega (arith, first, one, lives, room);
}

pub returns-in-Err-append-clause-makes : goal.returns-in-Err-append-clause-makes
returns-in-Err-append-clause-makes g c = record {
  recorded = (began_of c.args.what) ∷ [];
  entry = (entries.Broke c.args.what.id c.args.reason);
  rest = [];
  tries_are = refl;
  becomes = record {
    whole = c.requires.whole;
    items_are = (c.put.ensures.value ∙ ap (λ (e : Entry). applied e c.args.store.now.items) c.began_entry-began.ensures);
    lives_are = (c.push_reserved-in-Err-append.ensures.items ∙ ap (λ (found : Option Life). with_life found c.args.store.now.lives.items) c.requires.life);
    list_is = (c.push_reserved.ensures.items ∙ ap (λ (e : Entry). c.args.store.now.list.items ++ e ∷ []) c.began_entry-began.ensures);
    lawful = (subst (λ (e : Entry). KeepsHistory c.args.store.now.items c.put.new.self (e ∷ [])) c.began_entry-began.ensures (lawful_one c.began_entry-began.result c.args.store.now.items c.put.new.self c.put.ensures));
    gate_is =
        let first = c.in-Ok.ensures.ok in
        let second = c.in-Err-append.ensures.err in
        let one = ap (length {A = ℕ}) c.requires.body in
        omega (arith, first, second, one);
    failed_is = (ap list_of c.put_failed.ensures);
    may = ((subst (λ (v : Listing). Admits v (entries.Broke c.args.what.id c.args.reason)) (sym (c.put.ensures.value ∙ ap (λ (e : Entry). applied e c.args.store.now.items) c.began_entry-began.ensures)) (broke_may g.D.Disk.tells g.D.Disk.history (λ o. said_of (g.O.Origin.says o)) (view_of c.args.store.now) c.requires.store.desk c.requires.whole c.args.what c.args.reason c.requires.is c.requires.taken c.requires.reason)), tt);
    broken_is = refl;
    origin = refl;
    limits = refl;
  };
}

-- the first failed
pub returns-in-Err-clause-keeps : goal.returns-in-Err-clause-keeps
returns-in-Err-clause-keeps g c told good before holds =
    record_fell g.D.Disk.tells g.D.Disk.history (λ o. said_of (g.O.Origin.says o)) (view_of c.args.store.now) _ (began_of c.args.what) c.requires.is c.requires.taken
    (few_items g.D.Disk.tells g.D.Disk.history (view_of c.args.store.now) c.requires.store.desk) c.requires.whole c.append.ensures.beside
    (λ told bodies rest. subst (λ (body : List ℕ). LeavesOnly (g.D.Disk.history c.args.store.now.disk) (g.D.Disk.history c.append.new.disk) (WithOrWithout bodies body)) c.requires.body (c.append.ensures.any_moment told bodies rest))
    refl refl refl (ap list_of c.put_failed-in-Err.ensures ∙ ap (λ (e : Entry). e ∷ []) c.began_entry-began.ensures) (λ told bodies rest. c.in-Err.ensures.lost told bodies rest)
    told good before holds (began_allows g.D.Disk.tells g.D.Disk.history (λ o. said_of (g.O.Origin.says o)) (view_of c.args.store.now) c.requires.store.desk c.requires.whole c.args.what.id c.args.what.attempt c.args.what.by c.args.what.at c.requires.taken good before holds)

pub returns-in-Err-clause-store : goal.returns-in-Err-clause-store
returns-in-Err-clause-store g c = record {
  desk = keeping.fallen_desk g.D.Disk.tells g.D.Disk.history (λ o. said_of (g.O.Origin.says o)) (view_of c.args.store.now) _ (began_of c.args.what) c.requires.store.desk refl
      (record_fell g.D.Disk.tells g.D.Disk.history (λ o. said_of (g.O.Origin.says o)) (view_of c.args.store.now) _ (began_of c.args.what) c.requires.is c.requires.taken
      (few_items g.D.Disk.tells g.D.Disk.history (view_of c.args.store.now) c.requires.store.desk) c.requires.whole c.append.ensures.beside
      (λ told bodies rest. subst (λ (body : List ℕ). LeavesOnly (g.D.Disk.history c.args.store.now.disk) (g.D.Disk.history c.append.new.disk) (WithOrWithout bodies body)) c.requires.body (c.append.ensures.any_moment told bodies rest))
      refl refl refl (ap list_of c.put_failed-in-Err.ensures ∙ ap (λ (e : Entry). e ∷ []) c.began_entry-began.ensures) (λ told bodies rest. c.in-Err.ensures.lost told bodies rest))
      refl refl refl refl;
  room = c.requires.store.room;
}

pub returns-in-Err-clause-makes : goal.returns-in-Err-clause-makes
returns-in-Err-clause-makes g c = record {
  recorded = [];
  entry = (began_of c.args.what);
  rest = (entries.Broke c.args.what.id c.args.reason) ∷ [];
  tries_are = refl;
  becomes = record {
    whole = c.requires.whole;
    items_are = refl;
    lives_are = refl;
    list_is = sym (append-nil c.args.store.now.list.items);
    lawful = lawful_none c.args.store.now.items;
    gate_is = let gate = c.in-Err.ensures.err in omega (arith, gate);
    failed_is = (ap list_of c.put_failed-in-Err.ensures ∙ ap (λ (e : Entry). e ∷ []) c.began_entry-began.ensures);
    may = (c.requires.taken, tt);
    broken_is = refl;
    origin = refl;
    limits = refl;
  };
}
