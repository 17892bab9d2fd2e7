-- What an opening tried stays so at every later moment.
use Rattle.std.proofs.Common.{◌≡◌, ℕ, Bool, true, false, List, [], ◌∷◌, ◌++◌, Option, sym, subst, arith}
use Rattle.dm_types.specs.declared.entry.Entry.{Entry}
use Rattle.dm_types.specs.declared.entry.Entry.TheVariants as entries
use Rattle.dm_types.specs.declared.item.Item.{Item}
use Rattle.dm_disk_model.specs.declared.place.Place.{Place}
use Rattle.dm_disk_model.specs.Disk.{DiskState, History as Clock, bytes_at}
use Rattle.dm_disk_model.specs.Moments.{Throughout}
use Rattle.dm_item.specs.Lawful.{History, items_of}
use Rattle.dm_answers.specs.Opening.{IsTried, reopening}
use Rattle.dm_answers.specs.Settling.{AreDone, AreSettlings, SettledAs, WasAt, finishing, name_place, stands}
use Rattle.dm_store.specs.Lives.{part_place}
use Rattle.dm_does.specs.Leaving.{NoneBroke}

module _ (start mid end : Clock) where
  -- the earlier moments stay
  abbrev Stays : Type 0
  Stays = Throughout mid end (λ disk. Unit {0})

  was_later : {place : Place} {P : Option (List ℕ) → Type 0} → Stays → WasAt start mid place P → WasAt start end place P
  was_later {place = place} {P = P} stays was = record {
    moment = was.moment;
    from = was.from;
    to = let before = was.to in let after = stays.later in omega (arith, before, after);
    is = subst (λ (disk : DiskState). P (bytes_at disk place)) (sym (stays.kept was.moment was.to)) was.is;
  }

  settled_later : (at : ℕ) (item : Item) (part name : Bool) (entry : Entry) → Stays → SettledAs start mid at item part name entry → SettledAs start end at item part name entry
  settled_later at item true true entry stays as_found = as_found
  settled_later at item false false entry stays as_found = as_found
  settled_later at item true false entry stays as_found = was_later stays as_found
  settled_later at item false true entry stays as_found = was_later stays as_found

  settlings_later : (tells : Type 0) (at : ℕ) (items : List Item) (settled : History) (left : List Item) → (tells → Stays) → AreSettlings tells start mid at items settled left → AreSettlings tells start end at items settled left
  settlings_later tells at items [] left stays are = are
  settlings_later tells at [] (entry ∷ more) left stays are = absurd are
  settlings_later tells at (item ∷ rest) (entry ∷ more) left stays are = (
    record {
      settles = are.0.settles;
      as_found = λ told. settled_later at item (stands start (part_place item.id.0 item.epoch.0)) (stands start (name_place item)) entry (stays told) (are.0.as_found told);
    },
    settlings_later tells at rest more left stays are.1,
  )

  pub tried_later : (tells : Type 0) (at : ℕ) (found tried : History) (left : List Item) → (tells → Stays) → IsTried tells start mid at found tried left → IsTried tells start end at found tried left
  tried_later tells at found tried left stays is = record {
    reads = is.reads;
    settled = is.settled;
    tried_is = is.tried_is;
    settles = settlings_later tells at (finishing (items_of (found ++ reopening found at))) is.settled left stays is.settles;
  }

-- an opening that settled each item as complete interrupted none
none_broke : (settled : History) → AreDone settled → NoneBroke settled
none_broke [] done = tt
none_broke (entries.Done id digest at ∷ settled) done = none_broke settled done
none_broke (entry ∷ settled) done = absurd done

pub opening_done : (found opening settled : History) (at : ℕ) → opening ≡ reopening found at ++ settled → AreDone settled → NoneBroke opening
opening_done found opening settled at is done = subst NoneBroke (sym is) (none_broke settled done)
