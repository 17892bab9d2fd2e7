-- What was landed of one content is what the part reads.
use Rattle.std.proofs.Common.{◌≡◌, ◌⊎◌, inl, inr, ◌<◌, ◌≤◌, ℕ, ◌+◌, ◌-◌, zero, suc, Bool, false, ◌&&◌, IsTrue, List, [], ◌∷◌, ◌++◌, length, map, get_or, Option, Some, None, refl, sym, ◌∙◌, ap, subst, arith}
use Rattle.std.specs.Prelude.{IsSome, is_some, slice_get}
use Rattle.std.specs.Option.{option_map}
use Rattle.std.proofs.lemmas.Bool.{cases_lt, false≢true}
use Rattle.std.proofs.lemmas.Option.{get_or_from_slice_get, none-some, same_Some, slice_get-get_or, slice_get_within}
use Rattle.dm_types.specs.Name.{part_name}
use Rattle.dm_types.specs.declared.item.Attempt.{Attempt}
use Rattle.dm_types.specs.declared.item.Item.{Item}
use Rattle.dm_types.specs.declared.item.ItemId.{ItemId}
use Rattle.dm_types.specs.declared.slices.Slice.{Slice}
use Rattle.dm_disk_model.specs.Disk.{History as Clock, now}
use Rattle.dm_disk_model.specs.File.{overwrite}
use Rattle.dm_disk_model.specs.Folder.{Folder, contents_of, names_of}
use Rattle.dm_disk_model.proofs.FileBytes.{length-overwrite, overwrite_after, overwrite_before, overwrite_within}
use Rattle.dm_slice.specs.Cover.{IsAdded, IsCover, grown, next_of}
use Rattle.dm_slice.specs.Plan.{opened_by}
use Rattle.dm_slice.specs.Words.{HasByte, end_of}
use Rattle.dm_slice.proofs.Covers.{places-grown}
use Rattle.dm_slice.proofs.Joins.{normal_of-meaning}
use Rattle.dm_slice.proofs.Sums.{places-planned}
use Rattle.dm_item.specs.Fields.{is_running, no_bytes}
use Rattle.dm_item.specs.Lawful.{History}
use Rattle.dm_item.specs.Listing.{item_in}
use Rattle.dm_kept.specs.Files.{says_all}
use Rattle.dm_kept.proofs.Entered.{items_are}
use Rattle.dm_store.specs.Keeps.{IsDesk}
use Rattle.dm_store.specs.View.{View}
use Rattle.dm_store.specs.declared.life.Life.{Life}
use Rattle.dm_store.proofs.Keeping.{at_rest}
use Rattle.dm_answers.specs.Running.{RunsWith, part_bytes}
use Rattle.dm_attempt.specs.Brought.{AreOf, HasAt, HasCover, SharesOf}
use Rattle.dm_attempt.specs.Shares.{Share, added}
use Rattle.dm_attempt.specs.Trace.{AreAtEnds, filled}
use Rattle.dm_attempt.proofs.Filling.{filled_grown, filled_next}

-- a name that has a file reads
bytes_by : (folder : Folder) (name : List ℕ) (found : Option ℕ) → names_of folder name ≡ found → IsSome found → (bytes : List ℕ) × (contents_of folder name ≡ Some bytes)
bytes_by folder name None is some = absurd (false≢true some)
bytes_by folder name (Some number) is some = ((folder.file number).bytes, ap (option_map (λ (n : ℕ). (folder.file n).bytes)) is)

pub bytes_there : (folder : Folder) (name : List ℕ) → IsSome (names_of folder name) → (bytes : List ℕ) × (contents_of folder name ≡ Some bytes)
bytes_there folder name some = bytes_by folder name (names_of folder name) refl some

both_true : (a b : Bool) → IsTrue a → IsTrue b → IsTrue (a && b)
both_true a b left right = ap (λ (x : Bool). x && b) left ∙ right

-- The part of an item reads that runs and was told of.
pub part_there : {D O : Type 0} (tells : Type 0) (clock : D → Clock) (desk : View D O) (id : ItemId) (attempt : Attempt) (P : Item → Life → Type 0) → IsDesk tells clock desk → desk.broken ≡ false → (runs : RunsWith desk id attempt P) → IsSome runs.item.key → tells
    → (file : List ℕ) × (part_bytes clock desk.disk runs.item ≡ Some file)
part_there tells clock desk id attempt P is whole runs some told =
    let history : History = is.founded.before ++ desk.list in
    let holds = is.founded.holds told in
    let sits = at_rest false says_all clock desk history whole holds in
    let stands = sits.stand id.0 runs.item (subst (λ (list : List Item). item_in id.0 list ≡ Some runs.item) (items_are history desk.items holds.items) runs.there)
    (both_true (is_running runs.item.phase) (is_some runs.item.key) runs.runs some) in
    bytes_there (now (clock desk.disk)).files (part_name runs.item.id.0 runs.item.epoch.0) stands

-- ---- bytes of one content

get_front : (front back : List ℕ) (k byte : ℕ) → slice_get front k ≡ Some byte → slice_get (front ++ back) k ≡ Some byte
get_front [] back k byte is = absurd (none-some byte is)
get_front (b ∷ front) back zero byte is = is
get_front (b ∷ front) back (suc k) byte is = get_front front back k byte is

get_back : (front back : List ℕ) (k n byte : ℕ) → n ≡ length front + k → slice_get back k ≡ Some byte → slice_get (front ++ back) n ≡ Some byte
get_back [] back k n byte at is = let same : n ≡ k = omega (arith, at) in subst (λ (m : ℕ). slice_get back m ≡ Some byte) (sym same) is
get_back (b ∷ front) back k zero byte at is = absurd (omega (arith, at))
get_back (b ∷ front) back k (suc n) byte at is = get_back front back k n byte (omega (arith, at)) is

front_of : (content : List ℕ) (first : ℕ) (front back : List ℕ) → AreOf content first (front ++ back) → AreOf content first front
front_of content first front back are k byte is = are k byte (get_front front back k byte is)

back_of : (content : List ℕ) (first at : ℕ) (front back : List ℕ) → at ≡ first + length front → AreOf content first (front ++ back) → AreOf content at back
back_of content first at front back at_is are k byte is =
    let same : first + (length front + k) ≡ at + k = omega (arith, at_is) in
    subst (λ (n : ℕ). slice_get content n ≡ Some byte) same (are (length front + k) byte (get_back front back k (length front + k) byte refl is))

-- shares with a piece more
pub shares_front : (content : List ℕ) (shares : List Share) (k : ℕ) (piece : List ℕ) → SharesOf content (added shares k piece) → SharesOf content shares
shares_front content [] k piece are = tt
shares_front content (s ∷ shares) zero piece are = (front_of content s.part.first s.bytes piece are.0, are.1)
shares_front content (s ∷ shares) (suc k) piece are = (are.0, shares_front content shares k piece are.1)

pub piece_of : (content : List ℕ) (shares : List Share) (k : ℕ) (piece : List ℕ) (share : Share) (at : ℕ) → slice_get shares k ≡ Some share → at ≡ share.part.first + length share.bytes → SharesOf content (added shares k piece) → AreOf content at piece
piece_of content [] k piece share at is at_is are = absurd (none-some share is)
piece_of content (s ∷ shares) zero piece share at is at_is are =
    let same = ap (λ (x : Share). x.part.first + length x.bytes) (same_Some s share is) in
    back_of content s.part.first at s.bytes piece (omega (arith, at_is, same)) are.0
piece_of content (s ∷ shares) (suc k) piece share at is at_is are = piece_of content shares k piece share at is at_is are.1

-- ---- what a write of such bytes leaves
module _ (content file : List ℕ) (at : ℕ) (piece : List ℕ) (are : AreOf content at piece) where
  abbrev after : List ℕ
  after = overwrite file at piece

  long : (place : ℕ) → (place < length file) ⊎ (place < at + length piece) → slice_get after place ≡ Some (get_or after place 0)
  long place (inl below) = slice_get-get_or after place 0 (omega (arith, length-overwrite file at piece, below))
  long place (inr below) = slice_get-get_or after place 0 (omega (arith, length-overwrite file at piece, below))

  in_piece : (place : ℕ) → at ≤ place → place < at + length piece → HasAt content (Some after) place
  in_piece place low high =
      let k = place - at in
      let here : slice_get piece k ≡ Some (get_or piece k 0) = slice_get-get_or piece k 0 (omega (arith, low, high)) in
      let same : at + k ≡ place = omega (arith, low) in
      record {
        bytes = after;
        reads = refl;
        byte = get_or piece k 0;
        there = long place (inr high) ∙ ap Some (overwrite_within file at piece place low high);
        is = subst (λ (n : ℕ). slice_get content n ≡ Some (get_or piece k 0)) same (are k (get_or piece k 0) here);
      }

  in_file : (place : ℕ) → get_or after place 0 ≡ get_or file place 0 → HasAt content (Some file) place → HasAt content (Some after) place
  in_file place kept has =
      let same : file ≡ has.bytes = same_Some file has.bytes has.reads in
      let own : slice_get file place ≡ Some has.byte = subst (λ (f : List ℕ). slice_get f place ≡ Some has.byte) (sym same) has.there in
      record {
        bytes = after;
        reads = refl;
        byte = has.byte;
        there = long place (inl (slice_get_within file place has.byte own)) ∙ ap Some (kept ∙ get_or_from_slice_get file place has.byte 0 own);
        is = has.is;
      }

  has_still : (place : ℕ) → HasAt content (Some file) place → HasAt content (Some after) place
  has_still place has = elim (cases_lt place at) [
    | inl before ↦ in_file place (overwrite_before file at piece place before) has
    | inr low ↦ elim (cases_lt place (at + length piece)) [
      | inl high ↦ in_piece place low high
      | inr behind ↦ in_file place (overwrite_after file at piece place behind) has
    ]
  ]

  added_next : (slices : List Slice) (k place : ℕ) → next_of slices k ≡ Some at → IsAdded slices k (length piece) place → (at ≤ place) × (place < at + length piece)
  added_next [] k place next more = absurd more
  added_next (slice ∷ rest) zero place next more =
      let same : end_of slice ≡ at = same_Some (end_of slice) at next in
      let low = more.0 in let high = more.1 in (omega (arith, same, low), omega (arith, same, high))
  added_next (slice ∷ rest) (suc k) place next more = added_next rest k place next more

  has_grown : (slices : List Slice) (k : ℕ) → next_of slices k ≡ Some at → HasCover content slices (Some file) → HasCover content (grown slices k (length piece)) (Some after)
  has_grown slices k next has place there =
      elim ((places-grown slices k (length piece) place).0 there) [
        | inl before ↦ has_still place (has place before)
        | inr more ↦ let in_it = added_next slices k place next more in in_piece place in_it.0 in_it.1
      ]

  -- the cover that a round made, with the next piece of one of its parts
  pub has_landed : (slices : List Slice) (shares : List Share) (k : ℕ) (share : Share) → AreAtEnds (map (λ (s : Share). s.part) shares) slices → slice_get shares k ≡ Some share → at ≡ share.part.first + length share.bytes
      → HasCover content (filled slices shares) (Some file) → HasCover content (filled slices (added shares k piece)) (Some after)
  has_landed slices shares k share ends is at_is has =
      subst (λ (cover : List Slice). HasCover content cover (Some after)) (sym (filled_grown slices shares k piece (slice_get_within shares k share is)))
      (has_grown (filled slices shares) k (filled_next slices shares k share ends is ∙ ap Some (sym at_is)) has)

-- a plan has no place that the cover hasn't
pub opened_back : (total : Option ℕ) (n least : ℕ) (cover : List Slice) → IsCover cover → (place : ℕ) → HasByte (opened_by total n least cover) place → HasByte cover place
opened_back None n least cover is place has = ((normal_of-meaning None cover is).places place).0 has
opened_back (Some total) n least cover is place has = (places-planned total n least cover is place).0 has

-- where nothing came yet there is no place
pub none_there : (slices : List Slice) → slices ≡ no_bytes → (place : ℕ) → HasByte slices place → ⊥
none_there slices none place has = nowhere (subst (λ (s : List Slice). HasByte s place) none has)
  where
    nowhere : HasByte no_bytes place → ⊥
    nowhere (inl here) = let low = here.1 in omega (arith, low)
    nowhere (inr never) = never
