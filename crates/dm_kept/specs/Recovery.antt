-- What recovery gives of a history, and of some of the entries behind it.
use Rattle.std.specs.Prelude.{◌≡◌, ◌⊎◌, ℕ, List, [], ◌∷◌, ◌++◌}
use Rattle.dm_types.specs.declared.item.Item.{Item}
use Rattle.dm_item.specs.Lawful.{History, items_of, next_id_of}

-- the items by rising id, and the id that the next item gets
pub record Found : Type 0 where
  pub next : ℕ
  pub items : List Item

-- what a history leaves
abbrev pub recovered : History → Found
recovered history = record { next = next_id_of history; items = items_of history }

-- What is found is what the first history leaves, with some of the later entries behind it: none, or those up to some place.
abbrev pub Through : History → History → Found → Type 0
Through before [] found = found ≡ recovered before
Through before (entry ∷ more) found = (found ≡ recovered before) ⊎ Through (before ++ entry ∷ []) more found
