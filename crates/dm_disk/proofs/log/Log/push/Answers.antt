use Rattle.std.proofs.Common.{◌≡◌, ◌++◌, ◌∷◌, [], ◌+◌, ◌≤◌, ℕ, List, length, true, is_ok, refl, sym, ◌∙◌, ap, subst, arith}
use Rattle.std.specs.Prelude.{Result, Ok, Err, OnErr}
use Rattle.std.proofs.lemmas.Bool.{cond-true}
use Rattle.dm_disk.specs.declared.call.Call.{Call}
use Rattle.dm_disk.specs.Calls.{disk_after, most_end}
use Rattle.dm_disk.specs.Index.{IsIndexOf}
use Rattle.dm_disk.proofs.Following.{tells_more}
use Rattle.dm_disk.proofs.Replay.{most_end_push}
use Rattle.dm_disk.proofs.log.Log.push.Goals as goal

-- where there is room a push is done
had_room : {T E : Type 0} (result : Result T E) (room count : ℕ) → count + 1 ≤ room → OnErr result (room ≤ count) → is_ok result ≡ true
had_room (Ok value) room count more full = refl
had_room (Err fault) room count more full = absurd (omega (arith, more, full))

pub invariant_of-self-2 : goal.invariant_of-self-2
invariant_of-self-2 c =
    let old = c.args.self.now.calls.items in
    let new = c.push.new.self.items in
    let room : is_ok c.push.result ≡ true = had_room c.push.result _ _ c.in_ok-reserve.ensures.ok c.push.ensures.full in
    let pushed : new ≡ old ++ c.args.call ∷ [] =
    c.push.ensures.items
    ∙ cond-true (is_ok c.push.result) (c.reserve.new.self.items ++ c.args.call ∷ []) c.reserve.new.self.items room
    ∙ ap (λ (calls : List Call). calls ++ c.args.call ∷ []) c.reserve.ensures.items in
    let grown = ap most_end pushed in
    let more = most_end_push old c.args.call in
    let number : c.len.result ≡ length old = omega (arith, c.len.ensures, c.reserve.ensures.len, c.args.self.now.calls.ok.0) in
    record {
      near = omega (arith, grown, more, c.args.self.now.near, c.requires);
      told = subst (λ (calls : List Call). IsIndexOf (disk_after calls) c.follow.new.self.entries.items) (sym pushed)
          (tells_more old c.args.call c.len.result c.args.self.now.index.entries.items c.follow.new.self.entries.items number c.in_ok-follow.ensures.ok c.args.self.now.told);
    }
