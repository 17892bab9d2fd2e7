use Rattle.dm_head.proofs.PassLemmas.{one_head}
use Rattle.dm_head.proofs.Outcomes as outcomes
use Rattle.dm_head.proofs.laws.one_outcome.Goals as goal

pub returns : goal.returns
returns c = record {
  outcome = outcomes.one_outcome;
  head = λ stream head other rest behind x y. one_head x y;
  framing = outcomes.one_framing;
  cause = outcomes.one_cause;
  alone = outcomes.broke_alone;
}
