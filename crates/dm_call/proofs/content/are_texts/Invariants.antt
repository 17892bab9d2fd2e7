use Rattle.std.proofs.Common.{◌≡◌}
use Rattle.serde_json.specs.View.{members_view}
use Rattle.dm_call.specs.Content.{are_texts}
use Rattle.dm_call.proofs.content.are_texts.Given as goal

abbrev pub invariant-loop-key : goal.invariant-loop-key
invariant-loop-key l =
    (goal.iterator-loop-key).can_next l.key-iterator ×
    (goal.iterator-loop-key).is_finite l.key-iterator ×
    (are_texts (members_view l.key-iterator) ≡ are_texts (members_view l.members.entries))
