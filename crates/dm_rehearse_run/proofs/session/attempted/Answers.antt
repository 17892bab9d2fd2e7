use Rattle.std.proofs.Common.{ap}
use Rattle.dm_disk.specs.Memory.{faults_in, far_in, history_in}
use Rattle.dm_edge.specs.declared.origin.Generated.{Generated}
use Rattle.dm_rehearse_run.specs.Kept.{says_of}
use Rattle.dm_rehearse_run.proofs.Going.{attempt_goes}
use Rattle.dm_rehearse_run.proofs.Keeping.{calls_go_on, goes_holds}
use Rattle.dm_rehearse_run.proofs.session.attempted.Goals as goal

pub returns-clause-tries : goal.returns-clause-tries
returns-clause-tries c = (c.attempt-ended.result, c.attempt-ended.ensures.did)

pub returns-clause-held : goal.returns-clause-held
returns-clause-held c =
    let goes = attempt_goes (Unit {0}) history_in (λ (o : Generated). says_of o.seed) far_in faults_in (Unit {0}) c.args.id 4 0 c.args.desk.now c.attempt-ended.new.desk _ _ _ _ _ c.attempt-ended.result c.attempt-ended.ensures.did in
    goes_holds c.args.desk.now c.attempt-ended.new.desk goes.keeps goes.origin c.requires.held

pub returns-clause-origin : goal.returns-clause-origin
returns-clause-origin c =
    let goes = attempt_goes (Unit {0}) history_in (λ (o : Generated). says_of o.seed) far_in faults_in (Unit {0}) c.args.id 4 0 c.args.desk.now c.attempt-ended.new.desk _ _ _ _ _ c.attempt-ended.result c.attempt-ended.ensures.did in
    goes.origin

pub returns-clause-goes_on : goal.returns-clause-goes_on
returns-clause-goes_on c =
    let goes = attempt_goes (Unit {0}) history_in (λ (o : Generated). says_of o.seed) far_in faults_in (Unit {0}) c.args.id 4 0 c.args.desk.now c.attempt-ended.new.desk _ _ _ _ _ c.attempt-ended.result c.attempt-ended.ensures.did in
    calls_go_on c.args.desk.now c.attempt-ended.new.desk goes.keeps c.requires.held

pub returns-clause-stays : goal.returns-clause-stays
returns-clause-stays c = ap (λ (o : Generated). o.seed) c.attempt-ended.ensures.stays
