-- The names that are taken.
use Rattle.std.specs.Prelude.{◌≡◌, ℕ, cond, List, [], ◌++◌, option_to_list}
use Rattle.dm_types.specs.declared.item.Item.{Item}
use Rattle.dm_disk_model.specs.Disk.{History as Clock, now}
use Rattle.dm_disk_model.specs.Folder.{Lists}
use Rattle.dm_item.specs.Row.{is_cancelled}
use Rattle.dm_answers.specs.Describe.{used_names}

-- the name that an item uses: none where it is cancelled
abbrev pub name_used : Item → List (List ℕ)
name_used item = cond (is_cancelled item.phase) [] (option_to_list item.name)

-- these are the names of the files, and those that items use
pub record AreTaken (tells : Type 0) (clock : Clock) (items : List Item) (taken : List (List ℕ)) : Type 0 where
  pub listed : List (List ℕ)
  pub lists : tells → Lists (now clock).files listed
  pub is : taken ≡ listed ++ used_names items
