use Rattle.std.proofs.Common.{◌≡◌, ◌-◌, []}
use Rattle.dm_edge.specs.Begins.{most_content}
use Rattle.dm_reply_tests.specs.Collected.{HasCollected}
use Rattle.dm_reply_tests.proofs.collecting.collected.Given as goal

abbrev pub invariant-loop-content : goal.invariant-loop-content
invariant-loop-content g l =
    g.W.Wire.tells → (g.W.Wire.told l.fn.wire).given ≡ [] → HasCollected l.fn.wanted (g.W.Wire.told l.wire).given l.reader l.content.items

abbrev pub decreases-loop-content : goal.decreases-loop-content
decreases-loop-content g l = most_content - l.reader.reading.given
