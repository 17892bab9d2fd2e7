-- The sum of a part, and what is found of it.
use Rattle.std.proofs.Common.{◌≡◌, ℕ, ◌<◌, ◌≤◌, List, length, take, Option, Some, None, refl, sym, ◌∙◌, ap, subst}
use Rattle.std.specs.Prelude.{IfErr, IfOk, IfSome, IsSome, Result}
use Rattle.std.specs.Option.{option_map}
use Rattle.std.proofs.lemmas.Bool.{false≢true}
use Rattle.sha2.specs.Sha256.{sha256}
use Rattle.dm_types.specs.Faults.{HasCause, NoneFell, Rose}
use Rattle.dm_types.specs.declared.kinds.DiskKind.{DiskKind}
use Rattle.dm_disk_model.specs.declared.place.Place.{Place}
use Rattle.dm_disk_model.specs.Disk.{DiskState, Stands, bytes_at, folder_in}
use Rattle.dm_disk_model.specs.Folder.{Folder, names_of}
use Rattle.dm_part.specs.declared.hashing.PartFault.{PartFault}
use Rattle.dm_part.specs.declared.hashing.PartFault.TheVariants as parts
use Rattle.dm_part.specs.Digest.{EndsAt, part_kind}
use Rattle.dm_store.specs.Becomes.{kind_is}
use Rattle.dm_store.proofs.Found.{There}
use Rattle.dm_answers.specs.Finish.{HasSum}
use Rattle.dm_answers.specs.Running.{length_of}
use Rattle.dm_finish.specs.declared.confirming.Confirmed.{Confirmed}
use Rattle.dm_finish.specs.declared.confirming.Confirmed.TheVariants.{Sum, Other, Short}
use Rattle.dm_finish.specs.Ending.{Compares, ConfirmedAs, unconfirmed}

numbered_reads : (folder : Folder) (found : Option ℕ) → IsSome found → There (option_map (λ n. (folder.file n).bytes) found)
numbered_reads folder None some = absurd (false≢true some)
numbered_reads folder (Some number) some = record { it = (folder.file number).bytes; is = refl }

-- what stands reads as some bytes
pub reads_there : (disk : DiskState) (place : Place) → Stands disk place → There (bytes_at disk place)
reads_there disk place stands = numbered_reads (folder_in place.area disk) (names_of (folder_in place.area disk) place.name) stands

pub has_sum : (disk : DiskState) (place : Place) (total : ℕ) (sum : List ℕ) → Stands disk place → ((file : List ℕ) → bytes_at disk place ≡ Some file → (total ≤ length file) × (sum ≡ sha256 (take total file))) → HasSum (bytes_at disk place) total sum
has_sum disk place total sum stands is =
    let there = reads_there disk place stands in
    let both = is there.it there.is in
    record { bytes = there.it; there = there.is; long = both.0; sum_is = both.1 }

pub confirmed_sum : (tells : Type 0) (disk : DiskState) (part : Place) (total : ℕ) (stated : Option (List ℕ)) (have : List ℕ) (found : Confirmed) → Compares have stated found → (tells → HasSum (bytes_at disk part) total have) → ConfirmedAs tells disk part total stated found
confirmed_sum tells disk part total stated have (Sum sum) is has =
    (subst (λ (s : List ℕ). IfSome stated (λ d. d ≡ s)) (sym is.0) is.1, λ told. subst (λ (s : List ℕ). HasSum (bytes_at disk part) total s) (sym is.0) (has told))
confirmed_sum tells disk part total stated have (Other sum wanted) is has =
    (is.1, (λ same. is.2 (sym is.0 ∙ same)), λ told. subst (λ (s : List ℕ). HasSum (bytes_at disk part) total s) (sym is.0) (has told))
confirmed_sum tells disk part total stated have (Short end) is has = absurd is

-- it ends there
pub ends_short : (disk : DiskState) (place : Place) (have : ℕ) → Stands disk place → ((file : List ℕ) → bytes_at disk place ≡ Some file → have ≡ length file) → have ≡ length_of (bytes_at disk place)
ends_short disk place have stands is = let there = reads_there disk place stands in is there.it there.is ∙ sym (ap length_of there.is)

-- what is found of a part that has no sum, and why
pub fault_found : (tells : Type 0) (disk : DiskState) (part : Place) (total : ℕ) (stated : Option (List ℕ)) (fault : PartFault) → (tells → Stands disk part) → ((place : ℕ) → EndsAt fault place → place < total)
    → (tells → (file : List ℕ) → bytes_at disk part ≡ Some file → (place : ℕ) → EndsAt fault place → (place ≡ length file) × (place < total)) → IfOk (unconfirmed fault) (ConfirmedAs tells disk part total stated)
fault_found tells disk part total stated (parts.Disk kind) stands below short = tt
fault_found tells disk part total stated (parts.Short have) stands below short = (below have refl, λ told. ends_short disk part have (stands told) (λ file reads. (short told file reads have refl).0))

fault_rose : (before after : DiskKind → ℕ) (fault : PartFault) → IfSome (part_kind fault) (λ kind. Rose (before kind) (after kind)) → IfErr (unconfirmed fault) (λ kind. IfSome (kind_is kind) (λ k. Rose (before k) (after k)))
fault_rose before after (parts.Disk kind) rose = rose
fault_rose before after (parts.Short have) rose = tt

pub fault_cause : (before after : DiskKind → ℕ) (fault : PartFault) (result : Result Confirmed DiskKind) → result ≡ unconfirmed fault → NoneFell before after → IfSome (part_kind fault) (λ kind. Rose (before kind) (after kind)) → HasCause kind_is before after result
fault_cause before after fault result is later rose = subst (HasCause kind_is before after) (sym is) (record { later = later; cause = fault_rose before after fault rose })
