use Rattle.std.proofs.Common.{arith, refl, sym, ◌∙◌}
use Rattle.std.proofs.lemmas.Bool.{false≢true}
use Rattle.dm_works.specs.Serving.{service_of}
use Rattle.dm_works.proofs.Recalled.{remove_item}
use Rattle.dm_works.proofs.recalling.remove_either.Goals as goal

pub remove_row-requires-clause-gone : goal.remove_row-requires-clause-gone
remove_row-requires-clause-gone g c = sym c.is_gone.ensures ∙ c.if-is_gone.true

pub returns-else-is_gone-clause-answers : goal.returns-else-is_gone-clause-answers
returns-else-is_gone-clause-answers g c =
    let K = g.K.Keeper in
    remove_item K.tells g.D.Disk.faults (service_of K.rows K.faults c.args.desk.now c.args.keeper.now) (service_of K.rows K.faults c.do_job.new.desk c.args.keeper.now) c.args.now c.do_job.result c.args.id
    (sym c.is_gone.ensures ∙ c.if-is_gone.false) (λ told. refl) (λ kind. omega arith) c.do_job.ensures.answers

pub returns-then-is_gone-clause-rows : goal.returns-then-is_gone-clause-rows
returns-then-is_gone-clause-rows g c there = absurd (false≢true (sym there ∙ sym c.is_gone.ensures ∙ c.if-is_gone.true))
