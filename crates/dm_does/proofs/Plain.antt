-- Entries that open no list and restore no item.
use Rattle.std.proofs.Common.{◌≡◌, ℕ, [], ◌∷◌, ◌++◌, ◌∙◌}
use Rattle.std.specs.List.{AllByRecursion}
use Rattle.std.specs.Prelude.{IsTrue}
use Rattle.std.proofs.lemmas.Bool.{false≢true}
use Rattle.dm_types.specs.declared.entry.Entry.{Entry}
use Rattle.dm_types.specs.declared.entry.Entry.TheVariants as entries
use Rattle.dm_types.specs.declared.item.ItemId.{ItemId}
use Rattle.dm_item.specs.Lawful.{History}
use Rattle.dm_item.specs.Listing.{Listing}
use Rattle.dm_does.specs.declared.course.Course.{Course}
use Rattle.dm_does.specs.Answering.{IsOfAttempt}
use Rattle.dm_does.specs.Laws.{FitsEntries, is_own}
use Rattle.dm_does.specs.Log.{ArePlain}
use Rattle.dm_does.specs.World.{World}

-- Entries of a job's own open no list, and neither do those of attempts.

plain_own : (entry : Entry) → IsTrue (is_own entry) → ArePlain (entry ∷ [])
plain_own (entries.Added id word address wish digest at) own = tt
plain_own (entries.Asked id) own = tt
plain_own (entries.Paused id) own = tt
plain_own (entries.Cancelled id) own = tt
plain_own (entries.Removed id) own = tt
plain_own entry own = absurd (false≢true own)

pub plain_entries : (list : Listing) (entries : History) (course : Course) → FitsEntries list entries course → ArePlain entries
plain_entries list [] course fits = tt
plain_entries list (entry ∷ []) course fits = plain_own entry fits.0
plain_entries list (entry ∷ other ∷ more) course fits = absurd fits

pub plain_attempts : (from to : World) (id : ItemId) (at : ℕ) (tried : History) → AllByRecursion (IsOfAttempt from to id at) tried → ArePlain tried
plain_attempts from to id at [] all = tt
plain_attempts from to id at (entries.Restarted other epoch because ∷ more) all = plain_attempts from to id at more all.1
plain_attempts from to id at (entries.Began other attempt by moment ∷ more) all = plain_attempts from to id at more all.1
plain_attempts from to id at (entries.Described other key last_address total name modified ∷ more) all = plain_attempts from to id at more all.1
plain_attempts from to id at (entries.Progress other slices ∷ more) all = plain_attempts from to id at more all.1
plain_attempts from to id at (entries.Broke other reason ∷ more) all = plain_attempts from to id at more all.1
plain_attempts from to id at (entries.Finishing other total ∷ more) all = plain_attempts from to id at more all.1
plain_attempts from to id at (entries.Done other digest moment ∷ more) all = plain_attempts from to id at more all.1
plain_attempts from to id at (entry ∷ more) all = absurd all.0

-- one behind others, and the first of them
pub plain_both : (a b : History) → ArePlain a → ArePlain b → ArePlain (a ++ b)
plain_both [] b first second = second
plain_both (entries.Reopened next at ∷ a) b first second = absurd first
plain_both (entries.Restored item ∷ a) b first second = absurd first
plain_both (entries.Added id word address wish digest at ∷ a) b first second = plain_both a b first second
plain_both (entries.Began id attempt by at ∷ a) b first second = plain_both a b first second
plain_both (entries.Described id key last_address total name modified ∷ a) b first second = plain_both a b first second
plain_both (entries.Progress id slices ∷ a) b first second = plain_both a b first second
plain_both (entries.Broke id reason ∷ a) b first second = plain_both a b first second
plain_both (entries.Paused id ∷ a) b first second = plain_both a b first second
plain_both (entries.Cancelled id ∷ a) b first second = plain_both a b first second
plain_both (entries.Restarted id epoch because ∷ a) b first second = plain_both a b first second
plain_both (entries.Finishing id total ∷ a) b first second = plain_both a b first second
plain_both (entries.Done id digest at ∷ a) b first second = plain_both a b first second
plain_both (entries.Removed id ∷ a) b first second = plain_both a b first second
plain_both (entries.Archived id ∷ a) b first second = plain_both a b first second
plain_both (entries.Asked id ∷ a) b first second = plain_both a b first second

pub plain_front : (a b : History) → ArePlain (a ++ b) → ArePlain a
plain_front [] b plain = tt
plain_front (entries.Reopened next at ∷ a) b plain = absurd plain
plain_front (entries.Restored item ∷ a) b plain = absurd plain
plain_front (entries.Added id word address wish digest at ∷ a) b plain = plain_front a b plain
plain_front (entries.Began id attempt by at ∷ a) b plain = plain_front a b plain
plain_front (entries.Described id key last_address total name modified ∷ a) b plain = plain_front a b plain
plain_front (entries.Progress id slices ∷ a) b plain = plain_front a b plain
plain_front (entries.Broke id reason ∷ a) b plain = plain_front a b plain
plain_front (entries.Paused id ∷ a) b plain = plain_front a b plain
plain_front (entries.Cancelled id ∷ a) b plain = plain_front a b plain
plain_front (entries.Restarted id epoch because ∷ a) b plain = plain_front a b plain
plain_front (entries.Finishing id total ∷ a) b plain = plain_front a b plain
plain_front (entries.Done id digest at ∷ a) b plain = plain_front a b plain
plain_front (entries.Removed id ∷ a) b plain = plain_front a b plain
plain_front (entries.Archived id ∷ a) b plain = plain_front a b plain
plain_front (entries.Asked id ∷ a) b plain = plain_front a b plain
