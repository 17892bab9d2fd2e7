-- Digits are ASCII, so they are UTF-8.
use Rattle.std.proofs.lemmas.Fmt.{IsAscii-from_digits}
use Rattle.std.proofs.lemmas.Str.{IsUtf8-from_ascii}
use Rattle.dm_words.proofs.values.read_number.Goals as goal

pub returns-in-Err-clause-none : goal.returns-in-Err-clause-none
returns-in-Err-clause-none c = λ number is.
    c.in-Err.ensures.cases.0 (IsUtf8-from_ascii c.args.digits.now (IsAscii-from_digits c.args.digits.now is.numeral.1))
