use Rattle.std.proofs.Common.{◌≡◌, ◌≤◌, ◌∙◌, sym, true, length, arith}
use Rattle.std.specs.List.{list_all}
use Rattle.std.specs.Char.{is_ascii_digit}
use Rattle.dm_call.proofs.numbers.read_number.Goals as goal
use Rattle.dm_call.proofs.Numerals.{parsed}

pub returns : goal.returns
returns c =
    let short : length c.args.digits.now ≤ 10 = omega (arith, c.if-digits-gt-MOST_DIGITS.false) in
    let all : list_all is_ascii_digit c.args.digits.now ≡ true = cc (c.are_digits.ensures, c.if-not-are_digits.false, c.as_bytes.ensures.value) in
    c.ok.ensures.value ∙ parsed c.args.digits.now c.parse.result short all c.parse.ensures.value.0
