-- Worked rows: what paths, queries and contents ask.
use Rattle.std.proofs.Common.{◌≡◌, ℕ, List, [], ◌∷◌, codes, Option, Some, None, refl}
use Rattle.std.specs.Prelude.{option_and_then}
use Rattle.matchit.proofs.OnLiterals.{matchit_on_literals}
use Rattle.serde_json.proofs.OnLiterals.{serde_json_on_literals}
use Rattle.serde_json.specs.Read.{read}
use Rattle.dm_types.specs.declared.item.ItemId.{ItemId}
use Rattle.dm_call.specs.Content.{Texts, texts_in}
use Rattle.dm_call.specs.Query.{Pair, window_in}
use Rattle.dm_call.specs.Routes.{target_of, with_route}
use Rattle.dm_call.specs.declared.call.Target.{Target}
use Rattle.dm_call.specs.declared.call.Target.TheVariants as targets
use Rattle.dm_call.specs.declared.call.Window.{Window}

abbrev numbered : ℕ → ItemId
numbered id = record { 0 = id }

-- ---- paths

path_of_the_list : target_of (codes "/items") ≡ Some targets.Items
unfolding matchit_on_literals with_route
path_of_the_list = refl

path_of_an_item : target_of (codes "/items/007") ≡ Some (targets.Item (numbered 7))
unfolding matchit_on_literals with_route
path_of_an_item = refl

path_of_a_pause : target_of (codes "/items/7/pause") ≡ Some (targets.Pause (numbered 7))
unfolding matchit_on_literals with_route
path_of_a_pause = refl

path_of_the_report : target_of (codes "/report") ≡ Some targets.Report
unfolding matchit_on_literals with_route
path_of_the_report = refl

path_of_no_number : target_of (codes "/items/x") ≡ None
unfolding matchit_on_literals with_route
path_of_no_number = refl

path_of_no_route : target_of (codes "/items/7/start") ≡ None
unfolding matchit_on_literals with_route
path_of_no_route = refl

-- ---- queries

abbrev told : List ℕ → List ℕ → Pair
told name value = (name, value)

usual : window_in [] ≡ Some (record { after = 0; limit = 50 })
usual = refl

both_told : window_in (told (codes "limit") (codes "100") ∷ told (codes "after") (codes "3") ∷ []) ≡ Some (record { after = 3; limit = 100 })
both_told = refl

too_many : window_in (told (codes "limit") (codes "101") ∷ []) ≡ None
too_many = refl

told_again : window_in (told (codes "after") (codes "1") ∷ told (codes "after") (codes "1") ∷ []) ≡ None
told_again = refl

other_name : window_in (told (codes "from") (codes "1") ∷ []) ≡ None
other_name = refl

-- ---- contents

abbrev texts_told : List ℕ → Option Texts
texts_told body = option_and_then texts_in (read body)

two_texts : texts_told (codes "{\"url\":\"http://h/a\",\"word\":\"w1\"}") ≡ Some (record { url = codes "http://h/a"; word = codes "w1"; name = None; sha256 = None })
unfolding serde_json_on_literals
two_texts = refl

a_key_more : texts_told (codes "{\"url\":\"http://h/a\",\"word\":\"w1\",\"x\":\"\"}") ≡ None
unfolding serde_json_on_literals
a_key_more = refl

no_word : texts_told (codes "{\"url\":\"http://h/a\"}") ≡ None
unfolding serde_json_on_literals
no_word = refl

a_number : texts_told (codes "{\"url\":\"http://h/a\",\"word\":1}") ≡ None
unfolding serde_json_on_literals
a_number = refl
