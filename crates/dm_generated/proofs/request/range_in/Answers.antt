use Rattle.std.proofs.Common.{◌+◌, ap, ◌∙◌, drop}
use Rattle.std.proofs.lemmas.List.{take_rest}
use Rattle.dm_generated.proofs.Requests.{behind, placed}
use Rattle.dm_generated.proofs.request.range_in.Goals as goal

pub returns : goal.returns
returns c address ask first last plain_is is =
    c.places_at.ensures ask.first ask.last (behind ask) first last
    (take_rest c.args.sent.now (c.args.plain + 11) ∙ ap (λ k. drop (k + 11) c.args.sent.now) plain_is ∙ ap (drop _) is ∙ placed address ask)
