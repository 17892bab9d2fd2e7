use Rattle.std.proofs.Common.{◌∙◌, ap}
use Rattle.serde_json.specs.Written.{has_float}
use Rattle.dm_response.proofs.NoFloats.{no_rows}
use Rattle.dm_response.proofs.history.rows_text.Goals as goal

pub text_of-requires : goal.text_of-requires
text_of-requires c = ap has_float c.in_ok-value.ensures ∙ no_rows c.args.rows.now
