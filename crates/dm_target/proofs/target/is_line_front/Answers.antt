use Rattle.std.proofs.Common.{◌≡◌, ◌∙◌, ◌&&◌, ◌==◌, ◌<◌, ◌+◌, Bool, ℕ, length, drop, sym, ap, arith, rules}
use Rattle.std.specs.List.{list_all}
use Rattle.std.proofs.lemmas.List.{take_rest}
use Rattle.std.proofs.lemmas.List.Sums.{position_or_len_is}
use Rattle.httparse.specs.Grammar.{is_uri_byte}
use Rattle.dm_target.specs.Target.{space_in}
use Rattle.dm_target.proofs.Stripping.{front_at, no_front}
use Rattle.dm_target.proofs.target.is_line_front.Goals as goal

pub returns-then-is_token : goal.returns-then-is_token
returns-then-is_token c =
    let line = c.args.line.now in
    let at = c.in-Some.at in
    let found : space_in line ≡ at = position_or_len_is (λ (b : ℕ). b == 32) line at 0 (search rules) (search rules) (search rules) in
    let within : at < length line = search rules in
    c.is_target.ensures ∙ ap (list_all is_uri_byte) (take_rest line _)
    ∙ sym (front_at line at found within ∙ ap (λ (b : Bool). b && list_all is_uri_byte (drop (at + 1) line)) (sym c.is_token.ensures ∙ c.if-is_token.true))

pub returns-else-is_token : goal.returns-else-is_token
returns-else-is_token c =
    let line = c.args.line.now in
    let at = c.in-Some.at in
    let found : space_in line ≡ at = position_or_len_is (λ (b : ℕ). b == 32) line at 0 (search rules) (search rules) (search rules) in
    let within : at < length line = search rules in
    c.if-is_token.false
    ∙ sym (front_at line at found within ∙ ap (λ (b : Bool). b && list_all is_uri_byte (drop (at + 1) line)) (sym c.is_token.ensures ∙ c.if-is_token.false))

pub returns-in-None : goal.returns-in-None
returns-in-None c =
    let line = c.args.line.now in
    let none = position_or_len_is (λ (b : ℕ). b == 32) line (length line) 0 (omega arith) (search rules) (search rules) in
    sym (no_front line none)
