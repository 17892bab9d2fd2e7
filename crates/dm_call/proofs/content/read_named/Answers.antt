use Rattle.std.proofs.Common.{◌≡◌, sym, subst, Ok, Result}
use Rattle.std.specs.Prelude.{IfErr, IfOk}
use Rattle.serde_json.specs.View.{view}
use Rattle.dm_call.specs.Asked.{Refuses}
use Rattle.dm_call.specs.declared.call.Named.{Named}
use Rattle.dm_call.specs.declared.call.Refusal.{Refusal}
use Rattle.dm_call.proofs.Bodies.{no_text, no_value, of_value}
use Rattle.dm_call.proofs.content.read_named.Goals as goal

pub returns-in-Err-clause-err : goal.returns-in-Err-clause-err
returns-in-Err-clause-err c = no_text c.args.body.now c.in-Err.ensures.cases.0

pub returns-in-Some-clause-ok : goal.returns-in-Some-clause-ok
returns-in-Some-clause-ok c =
    let is = of_value c.args.body.now c.in-Ok.text.now c.in-Some.value c.in_ok-value.field-0 c.in-Ok.ensures.cases.0 c.in-Ok.ensures.cases.1 c.in_ok-value.ensures c.in-Some.is in
    subst (λ (expected : Result Named Refusal). IfOk c.named_in.result (λ named. expected ≡ Ok named)) (sym is) c.named_in.ensures.ok

pub returns-in-Some-clause-err : goal.returns-in-Some-clause-err
returns-in-Some-clause-err c =
    let is = of_value c.args.body.now c.in-Ok.text.now c.in-Some.value c.in_ok-value.field-0 c.in-Ok.ensures.cases.0 c.in-Ok.ensures.cases.1 c.in_ok-value.ensures c.in-Some.is in
    subst (λ (expected : Result Named Refusal). IfErr c.named_in.result (Refuses expected)) (sym is) c.named_in.ensures.err
