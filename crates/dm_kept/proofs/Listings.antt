-- The list of a history, and which entry it takes.
use Rattle.std.proofs.Common.{◌≡◌, reverse, sym, subst}
use Rattle.dm_types.specs.declared.entry.Entry.{Entry}
use Rattle.dm_item.specs.Lawful.{History, IsOf}
use Rattle.dm_item.specs.Listing.{HasRoomFor, Listing, Meets}
use Rattle.dm_item.proofs.Histories.{meets_limit}
use Rattle.dm_kept.specs.Room.{MayFollow}

-- the list of a history takes an entry where the entry may follow
pub follows_of : (v : Listing) (entry : Entry) (history : History) → IsOf history v → HasRoomFor v entry → Meets v entry → MayFollow v.limit history entry
follows_of v entry history is room meets = record {
  room = subst (λ (w : Listing). HasRoomFor w entry) is.value room;
  meets = meets_limit entry v.limit 0 (reverse history) (subst (λ (w : Listing). Meets w entry) is.value meets);
}

pub room_of : (v : Listing) (entry : Entry) (history : History) → IsOf history v → MayFollow v.limit history entry → HasRoomFor v entry
room_of v entry history is follows = subst (λ (w : Listing). HasRoomFor w entry) (sym is.value) follows.room

pub meets_of : (v : Listing) (entry : Entry) (history : History) → IsOf history v → MayFollow v.limit history entry → Meets v entry
meets_of v entry history is follows =
    subst (λ (w : Listing). Meets w entry) (sym is.value) (meets_limit entry 0 v.limit (reverse history) follows.meets)
