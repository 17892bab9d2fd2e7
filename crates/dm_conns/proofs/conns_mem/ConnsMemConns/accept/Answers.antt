use Rattle.dm_conns.proofs.Coming.{cause_of}
use Rattle.dm_conns.proofs.conns_mem.ConnsMemConns.accept.Goals as goal

pub returns-then-is_listed-clause-cause : goal.returns-then-is_listed-clause-cause
returns-then-is_listed-clause-cause c = rw (← c.self.view_is) (cause_of c.self.inside.calls.failed c.fail.new.self.failed c.fail.ensures.later c.fail.ensures.rose)

pub returns-in-None-clause-cause : goal.returns-in-None-clause-cause
returns-in-None-clause-cause c =
    rw (← c.self.view_is) (cause_of c.self.inside.calls.failed c.fail-in-None.new.self.failed c.fail-in-None.ensures.later c.fail-in-None.ensures.rose)
