-- What the commands do to two items, one complete and one cancelled, by computation.
use Rattle.std.proofs.Common.{◌≡◌, ℕ, true, List, [], ◌∷◌, Option, Some, None, refl}
use Rattle.dm_types.specs.declared.entry.Entry.TheVariants as entries
use Rattle.dm_types.specs.declared.item.Item.{Item}
use Rattle.dm_types.specs.declared.item.Phase.{Phase}
use Rattle.dm_types.specs.declared.item.Phase.TheVariants as phases
use Rattle.dm_report.specs.declared.verdict.Verdict.TheVariants as verdicts
use Rattle.dm_hist.specs.declared.row.Row.{Row}
use Rattle.dm_hist.specs.Shown.{row_of_item}
use Rattle.dm_shown.specs.Shows.{times_shown}
use Rattle.dm_archive.specs.Doing.{Given, adds_row, archives_all, by_row_of, changed_rows, gets_row, lines, moved, nothing, puts, removes, says, shows_page}

-- an item with a word of one byte, an address of one byte and a name
abbrev item : ℕ → Phase → List ℕ → Option ℕ → Option (List ℕ) → Item
item id phase word total name = record {
  id = record { 0 = id };
  word = word;
  first_address = 97 ∷ [];
  wish = [];
  digest = None;
  phase = phase;
  reason = None;
  epoch = record { 0 = 1 };
  attempt = record { 0 = 1 };
  autos = 0;
  begun = true;
  key = None;
  last_address = None;
  total = total;
  name = name;
  modified = None;
  slices = [];
  have = None;
  at_ms = 0;
}

abbrev whole : Item
whole = item 1 phases.Complete (49 ∷ []) (Some 11) (Some (102 ∷ []))

abbrev stopped : Item
stopped = item 2 phases.Cancelled (50 ∷ []) None None

abbrev waits : Item
waits = item 3 phases.Waiting [] None None

abbrev at_first : Given
at_first = record { items = whole ∷ waits ∷ stopped ∷ []; rows = [] }

-- where both are moved
abbrev both : List Row
both = row_of_item whole ∷ row_of_item stopped ∷ []

abbrev behind : Given
behind = record { items = waits ∷ []; rows = both }

-- between the row and the entry
abbrev between : Given
between = record { items = whole ∷ waits ∷ stopped ∷ []; rows = row_of_item whole ∷ [] }

row_archive : archives_all at_first
    ≡ record { entries = entries.Archived whole.id ∷ entries.Archived stopped.id ∷ []; change = puts both; verdict = verdicts.Done; tells = moved 2 }
row_archive = refl

row_moved : changed_rows (archives_all at_first).change [] ≡ both
row_moved = refl

row_history : shows_page 0 50 behind ≡ says verdicts.Done (lines both)
row_history = refl

row_second_page : shows_page 1 1 behind ≡ says verdicts.Done (lines (row_of_item stopped ∷ []))
row_second_page = refl

row_between : shows_page 0 50 between ≡ says verdicts.Done (lines [])
row_between = refl

row_once_between : times_shown 1 between.items between.rows ≡ 1
row_once_between = refl

row_once_moved : times_shown 2 behind.items behind.rows ≡ 1
row_once_moved = refl

row_none_shown : times_shown 4 behind.items behind.rows ≡ 0
row_none_shown = refl

row_removed : changed_rows (removes whole.id behind).change both ≡ row_of_item stopped ∷ []
row_removed = refl

row_no_row : removes whole.id (record { items = waits ∷ []; rows = row_of_item stopped ∷ [] }) ≡ says (verdicts.NoItem whole.id) nothing
row_no_row = refl

row_get : by_row_of (49 ∷ []) (gets_row (97 ∷ [])) (says verdicts.BadWords nothing) behind ≡ says verdicts.Done (lines (row_of_item whole ∷ []))
row_get = refl

row_get_stopped : by_row_of (50 ∷ []) (gets_row (97 ∷ [])) (says verdicts.BadWords nothing) behind ≡ says (verdicts.WrongState phases.Cancelled) (lines (row_of_item stopped ∷ []))
row_get_stopped = refl

row_add_stopped : by_row_of (50 ∷ []) (adds_row (97 ∷ [])) (says verdicts.BadWords nothing) behind ≡ says verdicts.Done (lines (row_of_item stopped ∷ []))
row_add_stopped = refl

row_other : by_row_of (50 ∷ []) (adds_row (98 ∷ [])) (says verdicts.BadWords nothing) behind ≡ says (verdicts.OtherWord stopped.id) nothing
row_other = refl
