-- Entries that give no item a name: those of an opening, and a job's own.
use Rattle.std.proofs.Common.{ℕ, List, [], ◌∷◌, ◌++◌, refl, sym, subst}
use Rattle.std.proofs.lemmas.Bool.{false≢true}
use Rattle.std.specs.Prelude.{IsTrue}
use Rattle.dm_types.specs.declared.entry.Entry.{Entry}
use Rattle.dm_types.specs.declared.entry.Entry.TheVariants as entries
use Rattle.dm_types.specs.declared.item.Item.{Item}
use Rattle.dm_disk_model.specs.Disk.{History as Clock}
use Rattle.dm_item.specs.Lawful.{History, items_of}
use Rattle.dm_item.specs.Listing.{Listing}
use Rattle.dm_answers.specs.Opening.{IsTried, reopening}
use Rattle.dm_answers.specs.Settling.{AreSettlings, Settles, finishing}
use Rattle.dm_bring.proofs.Freed.{GiveNone}
use Rattle.dm_does.specs.declared.course.Course.{Course}
use Rattle.dm_does.specs.Laws.{FitsEntries, is_own}

settle_none : (at : ℕ) (item : Item) (entry : Entry) (more : History) → Settles at item entry → GiveNone more → GiveNone (entry ∷ more)
settle_none at item (entries.Done id digest moment) more settles none = (refl, none)
settle_none at item (entries.Broke id reason) more settles none = (refl, none)
settle_none at item entry more settles none = absurd settles

settled_none : (tells : Type 0) (start end : Clock) (at : ℕ) (items : List Item) (settled : History) (left : List Item) → AreSettlings tells start end at items settled left → GiveNone settled
settled_none tells start end at items [] left are = tt
settled_none tells start end at [] (entry ∷ more) left are = absurd are
settled_none tells start end at (item ∷ rest) (entry ∷ more) left are = settle_none at item entry more are.0.settles (settled_none tells start end at rest more left are.1)

pub opening_none : (tells : Type 0) (start end : Clock) (at : ℕ) (found tried : History) (left : List Item) → IsTried tells start end at found tried left → GiveNone tried
opening_none tells start end at found tried left is =
    subst GiveNone (sym is.tried_is) (refl, settled_none tells start end at (finishing (items_of (found ++ reopening found at))) is.settled left is.settles)

own_none : (entry : Entry) → IsTrue (is_own entry) → GiveNone (entry ∷ [])
own_none (entries.Added id word address wish digest at) own = (refl, tt)
own_none (entries.Asked id) own = (refl, tt)
own_none (entries.Paused id) own = (refl, tt)
own_none (entries.Cancelled id) own = (refl, tt)
own_none (entries.Removed id) own = (refl, tt)
own_none entry own = absurd (false≢true own)

pub entries_none : (list : Listing) (entries : History) (course : Course) → FitsEntries list entries course → GiveNone entries
entries_none list [] course fits = tt
entries_none list (entry ∷ []) course fits = own_none entry fits.0
entries_none list (entry ∷ other ∷ more) course fits = absurd fits
