use Rattle.std.proofs.Common.{arith}
use Rattle.dm_chunk.proofs.StepLemmas.{none_taken, data_step}
use Rattle.dm_chunk.proofs.Chunks.take_data.Goals as goal

pub returns-then-count-eq0-clause-decodes : goal.returns-then-count-eq0-clause-decodes
returns-then-count-eq0-clause-decodes c = λ read content h.
    none_taken c.args.left read content c.args.ahead.now c.args.from c.args.self.now c.requires.here (λ lt. omega arith) c.requires.stops h

pub returns-clause-decodes : goal.returns-clause-decodes
returns-clause-decodes c = λ read content h.
    let step = data_step c.args.left c.min-count.result c.args.from read content c.args.ahead.now c.args.self.now c.requires.here (omega arith) (omega arith) h in
    (step.0, record { stands = step.1 })
