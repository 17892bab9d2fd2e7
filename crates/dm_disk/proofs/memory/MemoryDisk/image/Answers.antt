use Rattle.dm_disk.proofs.Held.{held_may_leave, held_picked, held_only}
use Rattle.dm_disk.proofs.memory.MemoryDisk.image.Goals as goal

pub returns-clause-picked : goal.returns-clause-picked
returns-clause-picked c = held_picked c.args.pick c.args.self.now.log.calls.items c.in_ok-log.log.calls.items (rw c.deref.ensures.value at c.in_ok-log.ensures)

pub returns-clause-leaves : goal.returns-clause-leaves
returns-clause-leaves c = held_may_leave c.args.pick c.args.self.now.log.calls.items c.in_ok-log.log.calls.items (rw c.deref.ensures.value at c.in_ok-log.ensures)

pub returns-clause-only : goal.returns-clause-only
returns-clause-only c = held_only c.args.pick c.args.self.now.log.calls.items c.in_ok-log.log.calls.items (rw c.deref.ensures.value at c.in_ok-log.ensures)
