use Rattle.std.proofs.Common.{◌≡◌, ℕ, false}
use Rattle.std.specs.Global.{Vec}
use Rattle.std.proofs.lemmas.Result.{IfOk-weaker}
use Rattle.dm_disposition.specs.Grammar.{Value, IsValue, value_text, bytes_of}
use Rattle.dm_disposition.specs.Machine.{unescaped}
use Rattle.dm_disposition.proofs.TextLemmas.{quoted_bytes}
use Rattle.dm_disposition.proofs.plain.bytes_of.Goals as goal

pub returns-in-Some : goal.returns-in-Some
returns-in-Some c =
    IfOk-weaker c.unescaped.result (λ (b : Vec ℕ). b.items ≡ unescaped false c.in-Some.inner.now) (λ (b : Vec ℕ). (v : Value) → IsValue v → c.args.text.now ≡ value_text v → b.items ≡ bytes_of v)
    (λ b e v is text. quoted_bytes c.args.text.now c.in-Some.inner.now b.items v c.in-Some.ensures.found e is text) c.unescaped.ensures
