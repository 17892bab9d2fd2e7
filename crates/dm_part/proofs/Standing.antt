-- What a claim that holds says of the disk as it reads.
use Rattle.std.proofs.Common.{◌≡◌, ◌⊎◌, inl, inr, ⊎_elim, ℕ, ◌+◌, ◌-◌, ◌<◌, ◌≤◌, List, [], ◌∷◌, length, take, Option, Some, None, refl, sym, ◌∙◌, ap, subst, arith}
use Rattle.std.specs.Prelude.{IsSome, IfSome}
use Rattle.std.specs.Option.{option_map}
use Rattle.std.proofs.lemmas.Option.{none-some}
use Rattle.std.proofs.lemmas.List.{take_all}
use Rattle.std.proofs.lemmas.Bool.{cases_lt}
use Rattle.sha2.specs.Sha256.{sha256}
use Rattle.dm_types.specs.declared.slices.Slice.{Slice}
use Rattle.dm_slice.specs.Words.{HasByte, IsNormal, IsApart, IsFull, end_of, cover_end}
use Rattle.dm_disk_model.specs.Folder.{Names, EachPrefix, names_of, contents_of}
use Rattle.dm_disk_model.specs.Disk.{DiskState}
use Rattle.dm_disk_model.proofs.PendingNames.{each_now}
use Rattle.dm_part.specs.Keeping.{Stage, Going, Moving, Published, Claim, LiesAt, IsContent, IsWhole, IsAtMost, IsSaid, Held}
use Rattle.dm_part.specs.Laws.{StandsAs}
use Rattle.dm_part.proofs.Own.{reads_number, lies_going}

some_stands : (names : Names) (name : List ℕ) (number : ℕ) → names name ≡ Some number → IsSome (names name)
some_stands names name number is = subst (λ (found : Option ℕ). IsSome found) (sym is) refl

stands_as : (stage : Stage) (part name : List ℕ) (number : ℕ) (disk : DiskState) → LiesAt stage part name number (names_of disk.files) → StandsAs stage part name disk
stands_as Going part name number disk lies = (some_stands (names_of disk.files) part number lies.0, lies.1)
stands_as Moving part name number disk (inl lies) = inl (some_stands (names_of disk.files) part number lies.0, lies.1)
stands_as Moving part name number disk (inr lies) = inr (some_stands (names_of disk.files) name number lies.0, lies.1)
stands_as Published part name number disk lies = some_stands (names_of disk.files) name number lies

pub held_stands : (says : ℕ → ℕ → Type 0) (claim : Claim) (disk : DiskState) → Held says disk.files claim → StandsAs claim.stage claim.part claim.name disk
held_stands says claim disk held =
    stands_as claim.stage claim.part claim.name held.number disk (each_now disk.files (LiesAt claim.stage claim.part claim.name held.number) held.lies)

-- slices with bytes end where their bytes do
apart_end : (end n : ℕ) (slices : List Slice) → IsApart end slices → ((place : ℕ) → HasByte slices place → place < n) → cover_end slices ≤ n
apart_end end n [] apart below = omega arith
apart_end end n (slice ∷ rest) apart below =
    let some : 0 < slice.got = apart.1 in
    let last = below (slice.first + (slice.got - 1)) (inl (omega arith, omega arith)) in
    let others = apart_end (end_of slice) n rest apart.2 (λ place has. below place (inr has)) in
    omega arith

normal_end : (total : Option ℕ) (n : ℕ) (slices : List Slice) → IsNormal total slices → ((place : ℕ) → HasByte slices place → place < n) → cover_end slices ≤ n
normal_end total n [] normal below = absurd normal
normal_end total n (slice ∷ rest) normal below =
    let start : slice.first ≡ 0 = normal.0 in
    let others = apart_end (end_of slice) n rest normal.1 (λ place has. below place (inr has)) in
    ⊎_elim
    (λ (some : 0 < slice.got). let last = below (slice.got - 1) (inl (omega arith, omega arith)) in omega arith)
    (λ (none : slice.got ≤ 0). omega arith)
    (cases_lt 0 slice.got)

pub part_reads : (says : ℕ → ℕ → Type 0) (claim : Claim) (disk : DiskState) → claim.stage ≡ Going → Held says disk.files claim → (bytes : List ℕ) → contents_of disk.files claim.part ≡ Some bytes
    → IsSaid says claim.live bytes × IsAtMost claim.total bytes × (IsNormal claim.total claim.saved → cover_end claim.saved ≤ length bytes)
part_reads says claim disk going held bytes reads =
    let lies = lies_going says disk.files claim going held in
    let named = (each_now disk.files (LiesAt Going claim.part claim.name held.number) lies).0 in
    let same = reads_number disk.files claim.part held.number bytes named reads in
    let said = subst (IsSaid says claim.live) same held.filed.said in
    (said, subst (IsAtMost claim.total) same held.filed.short, λ normal. normal_end claim.total (length bytes) claim.saved normal (λ place has. (said place (held.filed.holds place has)).0))

-- what has this number is the whole content
content_of : (disk : DiskState) (claim : Claim) (number : ℕ) (name bytes : List ℕ) → IsContent claim.total claim.digest claim.saved (disk.files.file number).bytes → names_of disk.files name ≡ Some number
    → contents_of disk.files name ≡ Some bytes → IsContent claim.total claim.digest claim.saved bytes
content_of disk claim number name bytes whole named reads = subst (IsContent claim.total claim.digest claim.saved) (reads_number disk.files name number bytes named reads) whole

-- nothing reads under a name that has no file
none_reads : (disk : DiskState) (name bytes : List ℕ) → names_of disk.files name ≡ None → contents_of disk.files name ≡ Some bytes → ⊥
none_reads disk name bytes none reads = none-some bytes (sym (ap (option_map (λ k. (disk.files.file k).bytes)) none) ∙ reads)

either_content : (disk : DiskState) (claim : Claim) (number : ℕ) (name bytes : List ℕ) → IsContent claim.total claim.digest claim.saved (disk.files.file number).bytes → contents_of disk.files name ≡ Some bytes
    → (name ≡ claim.part) ⊎ (name ≡ claim.name) → LiesAt Moving claim.part claim.name number (names_of disk.files) → IsContent claim.total claim.digest claim.saved bytes
either_content disk claim number name bytes whole reads (inl is) (inl here) = content_of disk claim number name bytes whole (ap (names_of disk.files) is ∙ here.0) reads
either_content disk claim number name bytes whole reads (inl is) (inr here) = absurd (none_reads disk name bytes (ap (names_of disk.files) is ∙ here.1) reads)
either_content disk claim number name bytes whole reads (inr is) (inl here) = absurd (none_reads disk name bytes (ap (names_of disk.files) is ∙ here.1) reads)
either_content disk claim number name bytes whole reads (inr is) (inr here) = content_of disk claim number name bytes whole (ap (names_of disk.files) is ∙ here.0) reads

-- while it is moved, what reads under either name is the whole content
pub moving_reads : (says : ℕ → ℕ → Type 0) (claim : Claim) (disk : DiskState) → claim.stage ≡ Moving → Held says disk.files claim → (name bytes : List ℕ) → (name ≡ claim.part) ⊎ (name ≡ claim.name)
    → contents_of disk.files name ≡ Some bytes → IsContent claim.total claim.digest claim.saved bytes
moving_reads says claim disk moving held name bytes either reads =
    let lies : EachPrefix disk.files (LiesAt Moving claim.part claim.name held.number) =
    subst (λ (stage : Stage). EachPrefix disk.files (LiesAt stage claim.part claim.name held.number)) moving held.lies in
    either_content disk claim held.number name bytes
    (subst (λ (stage : Stage). IsWhole stage claim.total claim.digest claim.saved (disk.files.file held.number).bytes) moving held.filed.whole) reads either
    (each_now disk.files (LiesAt Moving claim.part claim.name held.number) lies)

pub published_reads : (says : ℕ → ℕ → Type 0) (claim : Claim) (disk : DiskState) → claim.stage ≡ Published → Held says disk.files claim → (bytes : List ℕ) → contents_of disk.files claim.name ≡ Some bytes
    → IsContent claim.total claim.digest claim.saved bytes
published_reads says claim disk published held bytes reads =
    let lies : EachPrefix disk.files (LiesAt Published claim.part claim.name held.number) =
    subst (λ (stage : Stage). EachPrefix disk.files (LiesAt stage claim.part claim.name held.number)) published held.lies in
    content_of disk claim held.number claim.name bytes
    (subst (λ (stage : Stage). IsWhole stage claim.total claim.digest claim.saved (disk.files.file held.number).bytes) published held.filed.whole)
    (each_now disk.files (LiesAt Published claim.part claim.name held.number) lies) reads

pub digest_tells : (total : ℕ) (saved : List Slice) (file sum : List ℕ) (stated : Option (List ℕ)) → length file ≤ total → total ≤ length file → sum ≡ sha256 (take total file) → IsFull total saved
    → IfSome stated (λ d. d ≡ sum) → IsContent (Some total) stated saved file
digest_tells total saved file sum stated most least is full same = record {
  ends = ap Some (let long : total ≡ length file = omega arith in long);
  full = λ place below. full place (omega arith);
  sum = by stated same;
}
  where
    whole : sum ≡ sha256 file
    whole = is ∙ ap sha256 (take_all total file (omega arith))

    by : (known : Option (List ℕ)) → IfSome known (λ d. d ≡ sum) → IfSome known (λ d. d ≡ sha256 file)
    by None told = tt
    by (Some d) told = told ∙ whole
