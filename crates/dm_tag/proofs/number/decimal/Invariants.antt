use Rattle.std.proofs.Common.{◌≡◌, take}
use Rattle.dm_tag.specs.Number.{decimal}
use Rattle.dm_tag.proofs.number.decimal.Given as goal

abbrev pub invariant-loop-digit : goal.invariant-loop-digit
invariant-loop-digit l = l.number ≡ decimal (take l.digit-index l.digits)
