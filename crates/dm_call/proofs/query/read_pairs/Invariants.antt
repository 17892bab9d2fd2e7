use Rattle.std.proofs.Common.{◌≡◌, ◌++◌, map}
use Rattle.form_urlencoded.specs.Parse.{owned_pairs_left}
use Rattle.dm_call.specs.Query.{decoded, pairs_of}
use Rattle.dm_call.specs.Held.{text_pair}
use Rattle.dm_call.proofs.query.read_pairs.Given as goal

abbrev pub invariant-loop-pair : goal.invariant-loop-pair
invariant-loop-pair l = map text_pair l.pairs.items ++ map decoded (owned_pairs_left l.pair-iterator) ≡ pairs_of l.query
