use Rattle.std.proofs.Common.{◌≡◌, refl}
use Rattle.dm_conns.proofs.Coming.{cause_of}
use Rattle.dm_conns.proofs.conn_mem.ConnMemConn.write.Goals as goal
use Rattle.dm_conns.proofs.conn_mem.ConnMemConn.write.Goals.{then-listed-via-then-listed, then-listed-via-else-listed+then-piece-left, then-listed-via-else-listed+else-piece-left+then-is_err}

pub returns-then-listed-clause-cause : goal.returns-then-listed-clause-cause
returns-then-listed-clause-cause c =
    let same : c.args.self.now.counting.failed ≡ c.then-listed.self-inside.calls.failed = elim c.then-listed.branch [
      | then-listed-via-then-listed w ↦ rw (w.self-inside-is, ← c.self.view_is) refl
      | then-listed-via-else-listed+then-piece-left w ↦ rw (w.self-inside-is, ← c.self.view_is) refl
      | then-listed-via-else-listed+else-piece-left+then-is_err w ↦ rw (w.self-inside-is, ← c.self.view_is) refl
    ] in
    rw same (cause_of c.then-listed.self-inside.calls.failed c.fail.new.self.failed c.fail.ensures.later c.fail.ensures.rose)
