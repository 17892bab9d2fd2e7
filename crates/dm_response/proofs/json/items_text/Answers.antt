use Rattle.std.proofs.Common.{◌∙◌, ap}
use Rattle.serde_json.specs.Written.{has_float}
use Rattle.dm_response.proofs.NoFloats.{no_items}
use Rattle.dm_response.proofs.json.items_text.Goals as goal

pub text_of-requires : goal.text_of-requires
text_of-requires c = ap has_float c.in_ok-value.ensures ∙ no_items c.args.items.now
