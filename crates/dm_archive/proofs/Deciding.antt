-- What the calls answer is what the commands do.
use Rattle.std.proofs.Common.{◌≡◌, ℕ, Bool, List, [], ◌∷◌, Option, None, refl, ◌∙◌, ap, subst}
use Rattle.std.specs.Prelude.{Ok, if◌then◌else◌, map}
use Rattle.dm_types.specs.declared.item.Item.{Item}
use Rattle.dm_types.specs.declared.item.ItemId.{ItemId}
use Rattle.dm_item.specs.Listing.{item_in}
use Rattle.dm_store.specs.View.{View}
use Rattle.dm_report.specs.declared.verdict.Verdict.TheVariants as verdicts
use Rattle.dm_hist.specs.declared.row.Row.{Row}
use Rattle.dm_hist.specs.Rows.{with_row}
use Rattle.dm_hist.specs.Shown.{row_of_item}
use Rattle.dm_archive.specs.Doing.{archives_all, changed_rows, drops_row, moved, nothing, removes, removes_of, says, with_rows}
use Rattle.dm_archive.specs.Moving.{ArchiveAnswers, overs, put_all}
use Rattle.dm_archive.specs.Removing.{RemoveAnswers, RemovesOf, RemovesRow}

pub puts_are : (items : List Item) (rows : List Row) → put_all items rows ≡ with_rows (map row_of_item items) rows
puts_are [] rows = refl
puts_are (item ∷ more) rows = puts_are more (with_row (row_of_item item) rows)

-- Where all were moved, the number is told, and the rows are those of the command.
pub archive_decides : {D O : Type 0} (told : Type 0) (old new : View D O) (rows rows' : List Row) (count : ℕ) → ArchiveAnswers told old new rows rows' (Ok count)
    → (moved count ≡ (archives_all (record { items = old.items.items; rows = rows })).tells) × (told → rows' ≡ changed_rows (archives_all (record { items = old.items.items; rows = rows })).change rows)
archive_decides told old new rows rows' count answers = (ap moved answers.0, λ knows. answers.2 knows ∙ puts_are (overs old.items.items) rows)

-- Where a row was dropped, that is what the command does.
pub row_decides : {D O : Type 0} (told : Type 0) (id : ItemId) (old new : View D O) (rows rows' : List Row) → item_in id.0 old.items.items ≡ None → told → RemoveAnswers told id old new rows rows' (Ok tt)
    → (removes id (record { items = old.items.items; rows = rows }) ≡ drops_row id) × (rows' ≡ changed_rows (drops_row id).change rows)
row_decides told id old new rows rows' none knows answers =
    let at : RemovesRow told id old new rows rows' (Ok tt) = subst (λ (found : Option Item). RemovesOf found told id old new rows rows' (Ok tt)) none answers in
    (ap (λ (found : Option Item). removes_of id rows found) none ∙ ap (λ (b : Bool). if b then drops_row id else says (verdicts.NoItem id) nothing) (at.1 knows).0, (at.1 knows).1)
