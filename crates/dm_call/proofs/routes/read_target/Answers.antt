use Rattle.std.proofs.Common.{◌∙◌, sym}
use Rattle.std.proofs.lemmas.Str.{IsUtf8-from_ascii}
use Rattle.dm_call.proofs.Ascii.{ascii_of}
use Rattle.dm_call.proofs.routes.read_target.Goals as goal

pub returns-in-Err : goal.returns-in-Err
returns-in-Err c = absurd (c.in-Err.ensures.cases.0 (IsUtf8-from_ascii c.args.path.now (ascii_of c.args.path.now (sym c.is_plain.ensures ∙ c.if-not-is_plain.false))))
