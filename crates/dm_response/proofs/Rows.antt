-- Worked rows: an item as JSON, refusals, and a whole reply.
use Rattle.std.proofs.Common.{◌≡◌, codes, refl}
use Rattle.std.specs.Fmt.{digits}
use Rattle.serde_json.specs.Written.{compact_text}
use Rattle.serde_json.proofs.OnLiterals.{serde_json_on_literals}
use Rattle.dm_types.specs.declared.item.ItemId.{ItemId}
use Rattle.dm_types.specs.declared.item.Phase.TheVariants as phases
use Rattle.dm_call.specs.declared.call.Refusal.TheVariants as refusals
use Rattle.dm_response.specs.Trouble.{trouble_data}
use Rattle.dm_response.specs.declared.trouble.Trouble.TheVariants as troubles

no_route : compact_text (trouble_data (troubles.Refused refusals.Path)) ≡ codes "{\"error\":\"path\"}"
unfolding serde_json_on_literals digits
no_route = refl

a_state : compact_text (trouble_data (troubles.WrongState phases.Running)) ≡ codes "{\"error\":\"phase\",\"phase\":\"running\"}"
unfolding serde_json_on_literals digits
a_state = refl

a_word : compact_text (trouble_data (troubles.OtherWord (record { 0 = 1 }))) ≡ codes "{\"error\":\"word\",\"item\":1}"
unfolding serde_json_on_literals digits
a_word = refl

a_full_list : compact_text (trouble_data (troubles.Full 4096)) ≡ codes "{\"count\":4096,\"error\":\"full\"}"
unfolding serde_json_on_literals digits
a_full_list = refl
