use Rattle.std.proofs.Common.{◌≡◌, true, take}
use Rattle.std.specs.List.{list_all}
use Rattle.dm_call.specs.Query.{is_known}
use Rattle.dm_call.specs.Held.{text_pair}
use Rattle.dm_call.proofs.query.all_known.Given as goal

abbrev pub invariant-loop-name : goal.invariant-loop-name
invariant-loop-name l = list_all (λ pair. is_known (text_pair pair)) (take l.name-index l.pairs) ≡ true
