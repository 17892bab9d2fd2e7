use Rattle.std.proofs.Common.{◌≡◌, ◌++◌, List, ℕ, ◌∙◌, refl, sym, subst, arith}
use Rattle.dm_generated.specs.Replies.{Answers}
use Rattle.dm_generated_net.specs.Wired.{Wired, Wants}
use Rattle.dm_generated_net.specs.contracts.wire.GeneratedWire.{the_view}
use Rattle.dm_generated_net.proofs.Sending.{on_ok, sent_on, wanted, wants_some}
use Rattle.dm_generated_net.proofs.wire.GeneratedWireWire.send.Goals as goal

pub returns-in-Err-clause-err : goal.returns-in-Err-clause-err
returns-in-Err-clause-err c =
    let before : Wired = the_view c.self.inside in
    let sent : c.push_bytes.new.self ≡ c.self.inside.sent ++ c.args.piece.now = on_ok c.push_bytes.result (sym c.is_err.ensures.value ∙ c.if-is_err.false) c.push_bytes.ensures.ok in
    rw (← c.self.view_is) (wanted before c.want-in-Err.new.self c.args.piece.now c.push_bytes.new.self c.want-in-Err.result c.want-in-Err.ensures.fault sent c.want-in-Err.ensures.counted)

pub returns-in-Err-clause-sent : goal.returns-in-Err-clause-sent
returns-in-Err-clause-sent c =
    let before : Wired = the_view c.self.inside in
    let sent : c.push_bytes.new.self ≡ c.self.inside.sent ++ c.args.piece.now = on_ok c.push_bytes.result (sym c.is_err.ensures.value ∙ c.if-is_err.false) c.push_bytes.ensures.ok in
    let wants : Wants before c.want-in-Err.new.self c.args.piece.now c.want-in-Err.result =
    wanted before c.want-in-Err.new.self c.args.piece.now c.push_bytes.new.self c.want-in-Err.result c.want-in-Err.ensures.fault sent c.want-in-Err.ensures.counted in
    rw (← c.self.view_is) (wants_some before c.want-in-Err.new.self c.args.piece.now c.want-in-Err.result wants)

pub returns-in-Ok-clause-ok : goal.returns-in-Ok-clause-ok
returns-in-Ok-clause-ok c =
    let before : Wired = the_view c.self.inside in
    let sent : c.push_bytes.new.self ≡ c.self.inside.sent ++ c.args.piece.now = on_ok c.push_bytes.result (sym c.is_err.ensures.value ∙ c.if-is_err.false) c.push_bytes.ensures.ok in
    rw (← c.self.view_is) (sent_on before c.args.piece.now c.push_bytes.new.self c.in-Ok.told.reply sent
    (λ none. subst (λ (bytes : List ℕ). Answers c.self.inside.number c.self.inside.address bytes c.in-Ok.told.reply) (c.bytes.ensures ∙ sent) c.in-Ok.ensures.answers)
    (λ some. absurd (omega (arith, some, c.if-self-eq0.true))))

pub returns-else-self-eq0-clause-ok : goal.returns-else-self-eq0-clause-ok
returns-else-self-eq0-clause-ok c =
    let before : Wired = the_view c.self.inside in
    let sent : c.push_bytes.new.self ≡ c.self.inside.sent ++ c.args.piece.now = on_ok c.push_bytes.result (sym c.is_err.ensures.value ∙ c.if-is_err.false) c.push_bytes.ensures.ok in
    rw (← c.self.view_is) (sent_on before c.args.piece.now c.push_bytes.new.self c.self.inside.reply sent (λ none. absurd (omega (arith, none, c.if-self-eq0.false))) (λ some. refl))
