use Rattle.std.proofs.Common.{ap, subst}
use Rattle.dm_attempt.specs.declared.ended.Ended.{Ended}
use Rattle.dm_disk.specs.Memory.{faults_in, far_in, history_in}
use Rattle.dm_edge.specs.declared.origin.Generated.{Generated}
use Rattle.dm_rehearse_run.specs.Kept.{says_of}
use Rattle.dm_rehearse_run.proofs.Going.{EndsWhole, fetched_goes, whole_brings}
use Rattle.dm_rehearse_run.proofs.Keeping.{calls_go_on, goes_holds}
use Rattle.dm_rehearse_run.proofs.session.fetched.Goals as goal

pub returns-in-Complete-clause-whole : goal.returns-in-Complete-clause-whole
returns-in-Complete-clause-whole c =
    let did = fetched_goes (Unit {0}) history_in (λ (o : Generated). says_of o.seed) far_in faults_in (Unit {0}) (record { 0 = 1 }) 4 0 c.args.desk.now c.fetch.new.desk _ _ _ _ c.fetch.result c.fetch.ensures.did in
    (subst (λ (end : Ended). EndsWhole end c.fetch.new.desk) c.in-Complete.is did.whole).0

pub returns-in-Complete-clause-held : goal.returns-in-Complete-clause-held
returns-in-Complete-clause-held c =
    let did = fetched_goes (Unit {0}) history_in (λ (o : Generated). says_of o.seed) far_in faults_in (Unit {0}) (record { 0 = 1 }) 4 0 c.args.desk.now c.fetch.new.desk _ _ _ _ c.fetch.result c.fetch.ensures.did in
    goes_holds c.args.desk.now c.fetch.new.desk did.goes.keeps did.goes.origin c.requires.open.held

pub returns-in-Complete-clause-origin : goal.returns-in-Complete-clause-origin
returns-in-Complete-clause-origin c =
    let did = fetched_goes (Unit {0}) history_in (λ (o : Generated). says_of o.seed) far_in faults_in (Unit {0}) (record { 0 = 1 }) 4 0 c.args.desk.now c.fetch.new.desk _ _ _ _ c.fetch.result c.fetch.ensures.did in
    did.goes.origin

pub returns-in-Complete-clause-brings : goal.returns-in-Complete-clause-brings
returns-in-Complete-clause-brings c = whole_brings c.args.desk.now c.fetch.new.desk c.args.net.now c.fetch.new.net c.fetch.result c.in-Complete.is c.fetch.ensures.did

pub returns-in-Complete-clause-goes_on : goal.returns-in-Complete-clause-goes_on
returns-in-Complete-clause-goes_on c =
    let did = fetched_goes (Unit {0}) history_in (λ (o : Generated). says_of o.seed) far_in faults_in (Unit {0}) (record { 0 = 1 }) 4 0 c.args.desk.now c.fetch.new.desk _ _ _ _ c.fetch.result c.fetch.ensures.did in
    calls_go_on c.args.desk.now c.fetch.new.desk did.goes.keeps c.requires.open.held

pub returns-in-Complete-clause-stays : goal.returns-in-Complete-clause-stays
returns-in-Complete-clause-stays c = ap (λ (o : Generated). o.seed) c.fetch.ensures.stays

pub returns-in-Stopped-clause-stays : goal.returns-in-Stopped-clause-stays
returns-in-Stopped-clause-stays c = ap (λ (o : Generated). o.seed) c.fetch.ensures.stays

pub returns-in-Fault-clause-stays : goal.returns-in-Fault-clause-stays
returns-in-Fault-clause-stays c = ap (λ (o : Generated). o.seed) c.fetch.ensures.stays
