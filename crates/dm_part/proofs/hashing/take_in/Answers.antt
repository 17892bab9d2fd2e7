use Rattle.std.proofs.Common.{List, ℕ, length, ◌≤◌, take, Option, IfSome, sym, subst, arith}
use Rattle.sha2.specs.Hashers.{Holds256}
use Rattle.dm_disk_model.specs.Disk.{Reads}
use Rattle.dm_part.proofs.Pieces.{piece_is, piece_within, piece_none}
use Rattle.dm_part.proofs.hashing.take_in.Goals as goal

pub returns-clause-taken : goal.returns-clause-taken
returns-clause-taken g c tells file reads within holds =
    let n = c.in-Ok.count in
    let buf = c.read_at.new.buf in
    let told : Reads file c.args.at n buf = subst (λ (found : Option (List ℕ)). IfSome found (λ whole. Reads whole c.args.at n buf)) reads (c.in-Ok.ensures.read tells) in
    let fits : n ≤ length buf = omega (arith, c.in-Ok.ensures.within, c.read_at.auto.buf) in
    let few : c.min-count.result ≤ n = omega (arith, c.min-count.ensures) in (
      subst (λ (message : List ℕ). Holds256 c.update.new.self message) (sym (piece_is file buf c.args.at n c.min-count.result told few)) (c.update.ensures (take c.args.at file) holds),
      piece_within file buf c.args.at n c.min-count.result told fits few within,
      λ none. piece_none file buf c.args.at n told (omega (arith, c.requires.room, c.read_at.auto.buf)) within (omega (arith, c.min-count.ensures, c.requires.below)),
    )
