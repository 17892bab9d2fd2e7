-- What a send on a generated wire leaves of its stream.
use Rattle.std.proofs.Common.{◌≡◌, ℕ, zero, suc, ◌<◌, false, List, ◌++◌, length, take, Result, Ok, Err, OnOk, refl, sym, ap, ◌∙◌, subst, arith}
use Rattle.std.specs.Prelude.{is_err}
use Rattle.std.proofs.Math.Seq.{take-length}
use Rattle.std.proofs.lemmas.Bool.{false≢true}
use Rattle.dm_edge.specs.Counts.{raised_by}
use Rattle.dm_edge.specs.Wire.{Sends}
use Rattle.dm_edge.specs.declared.fault.WireFault.{WireFault}
use Rattle.dm_edge.specs.declared.fault.WireFault.TheVariants as faults
use Rattle.dm_generated.specs.Replies.{Answers, stream_with}
use Rattle.dm_generated.specs.declared.reply.Reply.{Reply}
use Rattle.dm_generated_net.specs.Wired.{SendsAll, Wants, Wired, told_by}

-- where something was received the reply stays, and else nothing was given of either
given_stays : (n w : ℕ) (reply other : Reply) (given : ℕ) → (0 < given → other ≡ reply) → take given (stream_with n w other) ≡ take given (stream_with n w reply)
given_stays n w reply other zero stays = refl
given_stays n w reply other (suc k) stays = ap (λ (r : Reply). take (suc k) (stream_with n w r)) (stays (omega arith))

pub sends_all : (before now : Wired) (piece : List ℕ) → SendsAll before now piece → Sends (told_by before) (told_by now) (Ok tt) piece
sends_all before now piece s = subst (λ (w : Wired). Sends (told_by before) (told_by w) (Ok tt) piece) (sym s.after)
    (record { given = given_stays before.number before.wire before.reply s.reply before.given s.stays; sent = refl })

pub wants_some : (before now : Wired) (piece : List ℕ) (fault : WireFault) → Wants before now piece fault → Sends (told_by before) (told_by now) (Err fault) piece
wants_some before now piece fault w = subst (λ (x : Wired). Sends (told_by before) (told_by x) (Err fault) piece) (sym w.after)
    (record { given = refl; sent = (w.some, refl) })

-- ---- the steps of a send

pub on_ok : {T E : Type 0} {P : Type 0} (r : Result T E) → is_err r ≡ false → OnOk r P → P
on_ok (Ok x) good p = p
on_ok (Err x) good p = absurd (false≢true (sym good))

pub wanted : (before now : Wired) (piece sent : List ℕ) (fault : WireFault) → fault ≡ faults.NoMemory → sent ≡ before.sent ++ piece
    → now ≡ record before { sent = sent; wants = raised_by 1 before.wants } → Wants before now piece fault
wanted before now piece sent fault is all after = record {
  fault_is = is;
  some = length piece;
  after = after ∙ ap (λ (bytes : List ℕ). record before { sent = bytes; wants = raised_by 1 before.wants }) (all ∙ ap (λ (bytes : List ℕ). before.sent ++ bytes) (sym (take-length piece)));
}

pub sent_on : (before : Wired) (piece sent : List ℕ) (reply : Reply) → sent ≡ before.sent ++ piece
    → (before.given ≡ 0 → Answers before.number before.purpose.address (before.sent ++ piece) reply) → (0 < before.given → reply ≡ before.reply)
    → SendsAll before (record before { sent = sent; reply = reply }) piece
sent_on before piece sent reply all answers stays = record {
  reply = reply;
  answers = answers;
  stays = stays;
  after = ap (λ (bytes : List ℕ). record before { sent = bytes; reply = reply }) all;
}
