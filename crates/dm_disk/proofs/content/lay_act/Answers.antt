use Rattle.std.proofs.Common.{arith}
use Rattle.dm_disk.proofs.Contents.{laid}
use Rattle.dm_disk.proofs.content.lay_act.Goals as goal

pub returns-then-file-written : goal.returns-then-file-written
returns-then-file-written c =
    laid c.args.act.now c.args.number c.args.file c.in-Write.written c.in-Write.at c.in-Write.bytes c.args.from c.args.window.now c.overlay.new.window
    c.in-Write.is c.if-file-written.true (omega arith)
    (λ k lt ge below. rw c.bytes.ensures at (c.overlay.ensures.inside k lt ge (rw c.bytes.ensures below)))
    (λ k lt out. c.overlay.ensures.outside k lt (rw c.bytes.ensures out))
