use Rattle.std.proofs.Common.{◌≡◌, ◌++◌, ◌∷◌, []}
use Rattle.dm_disk.specs.Index.{others_than}
use Rattle.dm_disk.proofs.Entries.{sets_pushed}
use Rattle.dm_disk.proofs.index.Index.put.Goals as goal
use Rattle.dm_disk.proofs.index.Index.put.Goals.{in-Ok, in-Err}

pub returns-clause-ok : goal.returns-clause-ok
returns-clause-ok c =
    elim c.match-push.branch [
      | in-Ok w ↦ rw w.result-is
          (let old = c.args.self.now.entries.items in
          let mid = c.forget.new.self.entries.items in
          let new = c.push.new.self.items in
          let without : mid ≡ others_than c.args.area c.args.name.now old = rw (c.reserve.ensures.items, c.bytes.ensures) at c.forget.ensures.entries in
          let pushed : new ≡ mid ++ record { area = c.args.area; name = c.args.name.now; standing = c.args.standing } ∷ [] = rw (w.in-Ok.is, c.in_ok-copy.ensures) at c.push.ensures.items in
          sets_pushed c.args.area c.args.name.now c.args.standing old mid new without pushed)
      | in-Err w ↦ rw w.result-is tt
    ]
