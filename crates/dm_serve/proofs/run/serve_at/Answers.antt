use Rattle.std.proofs.Common.{inl, inr, refl}
use Rattle.dm_serve.proofs.run.serve_at.Goals as goal

pub returns-in-Ok-clause-serves : goal.returns-in-Ok-clause-serves
returns-in-Ok-clause-serves g c = inr (record { port = c.in-Ok.field-0; asks = c.in-Ok.ensures.ok; runs = c.run_session.ensures.runs })

pub returns-in-Err-clause-serves : goal.returns-in-Err-clause-serves
returns-in-Err-clause-serves g c = inl (record { none = c.in-Err.ensures.err; said_is = c.fixed.ensures; same = refl; line_is = refl; none_failed = λ kind. refl; past_is = refl })
