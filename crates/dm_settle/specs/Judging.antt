-- How an item that was being finished is judged.
use Rattle.std.specs.Prelude.{◌≡◌, ◌↔◌, ℕ, ◌<◌, ◌≤◌, Bool, true, false, cond, List, length, take, Option, Some, IfSome, IsTrue, Contains}
use Rattle.sha2.specs.Sha256.{sha256}
use Rattle.dm_types.specs.declared.entry.Entry.{Entry}
use Rattle.dm_types.specs.declared.entry.Entry.TheVariants as entries
use Rattle.dm_types.specs.declared.item.Item.{Item}
use Rattle.dm_types.specs.declared.item.ItemId.{ItemId}
use Rattle.dm_types.specs.declared.reason.Reason.TheVariants as reasons
use Rattle.dm_disk_model.specs.Disk.{DiskState, bytes_at}
use Rattle.dm_store.specs.Lives.{part_place}
use Rattle.dm_answers.specs.Settling.{is_stated_other, name_place, settled_of, settles_with}
use Rattle.dm_settle.specs.Moving.{IsMovingOf}
use Rattle.dm_settle.specs.declared.judging.Judged.{Judged}
use Rattle.dm_settle.specs.declared.judging.Judged.TheVariants as judgements
use Rattle.dm_settle.specs.declared.judging.Weighed.{Weighed}
use Rattle.dm_settle.specs.declared.judging.Weighed.TheVariants as weights
use Rattle.dm_settle.specs.declared.moving.Moving.{Moving}

-- so many bytes stand, and this is their SHA-256
pub record HasWhole (found : Option (List ℕ)) (total : ℕ) (sum : List ℕ) : Type 0 where
  pub bytes : List ℕ
  pub is : found ≡ Some bytes
  pub long : total ≤ length bytes
  pub sum_is : sum ≡ sha256 (take total bytes)

-- what was found holds so much of the content
abbrev pub Weighs : Option (List ℕ) → ℕ → Weighed → Type 0
Weighs found total weights.Short = (bytes : List ℕ) → found ≡ Some bytes → length bytes < total
Weighs found total (weights.Whole sum) = HasWhole found total sum

-- what is judged of the one file that stands
abbrev pub judged_by : Bool → Option (List ℕ) → Weighed → Judged
judged_by in_part stated weights.Short = judgements.Broken reasons.FileTooShort
judged_by in_part stated (weights.Whole sum) = cond (is_stated_other stated sum) (judgements.Broken reasons.FileHashMismatch) (cond in_part (judgements.InPart sum) (judgements.Named sum))

-- the entry that settles the item so
abbrev pub entry_of : ItemId → ℕ → Judged → Entry
entry_of id at (judgements.Broken reason) = entries.Broke id reason
entry_of id at (judgements.InPart sum) = entries.Done id sum at
entry_of id at (judgements.Named sum) = entries.Done id sum at

-- over every disk: a reason with which items are settled, or the digest that was stated
abbrev pub IsFit : Option (List ℕ) → Judged → Type 0
IsFit stated (judgements.Broken reason) = settles_with reason ≡ true
IsFit stated (judgements.InPart sum) = IfSome stated (λ digest. digest ≡ sum)
IsFit stated (judgements.Named sum) = IfSome stated (λ digest. digest ≡ sum)

-- by what was listed of part and name: both, none, or one whose bytes decide
abbrev pub JudgedAs : DiskState → Item → Bool → Bool → Judged → Type 0
JudgedAs disk item true true judged = judged ≡ judgements.Broken reasons.FileFailed
JudgedAs disk item false false judged = judged ≡ judgements.Broken reasons.FileTooShort
JudgedAs disk item true false judged = (at : ℕ) → entry_of item.id at judged ≡ settled_of item at (bytes_at disk (part_place item.id.0 item.epoch.0))
JudgedAs disk item false true judged = (at : ℕ) → entry_of item.id at judged ≡ settled_of item at (bytes_at disk (name_place item))

-- where the content lies that is whole
abbrev pub LiesWhole : DiskState → Moving → Judged → Type 0
LiesWhole disk moving (judgements.Broken reason) = Unit {0}
LiesWhole disk moving (judgements.InPart sum) = HasWhole (bytes_at disk moving.part) moving.total sum
LiesWhole disk moving (judgements.Named sum) = HasWhole (bytes_at disk moving.target) moving.total sum

-- only a part that was listed alone is given its name
abbrev pub IsAlone : Bool → Bool → Judged → Type 0
IsAlone part_listed name_listed (judgements.Broken reason) = Unit {0}
IsAlone part_listed name_listed (judgements.InPart sum) = (part_listed ≡ true) × (name_listed ≡ false)
IsAlone part_listed name_listed (judgements.Named sum) = Unit {0}

pub record Judges (tells : Type 0) (disk : DiskState) (names : List (List ℕ)) (moving : Moving) (judged : Judged) : Type 0 where
  pub fit : IsFit moving.digest judged
  pub part_listed : Bool
  pub name_listed : Bool
  pub part_is : IsTrue part_listed ↔ Contains names moving.part.name
  pub name_is : IsTrue name_listed ↔ Contains names moving.target.name
  pub alone : IsAlone part_listed name_listed judged
  pub as_found : tells → (item : Item) → IsMovingOf item moving → JudgedAs disk item part_listed name_listed judged
  pub lies : tells → LiesWhole disk moving judged
