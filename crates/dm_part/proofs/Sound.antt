-- A claim that holds in a folder is sound in each of its images.
use Rattle.std.proofs.Common.{◌≡◌, inl, inr, ℕ, zero, suc, ◌≤◌, List, length, Option, Some, None, refl, sym, subst, arith}
use Rattle.std.proofs.lemmas.Grind.{same_number_lists}
use Rattle.dm_types.specs.declared.slices.Slice.{Slice}
use Rattle.dm_slice.specs.Words.{HasByte}
use Rattle.dm_disk_model.specs.File.{File, FileLeaves, IsClean}
use Rattle.dm_disk_model.specs.Folder.{Names, Folder, Contents, FolderLeaves, NameLeaves, names_after}
use Rattle.dm_disk_model.specs.Disk.{DiskState, Image, MayLeave}
use Rattle.dm_part.specs.Keeping.{Stage, Going, Moving, Published, Claim, LiesAt, FoundAt, IsContent, IsWhole, IsAtMost, IsShort, IsShortIn, Held, SoundOf}

-- of a whole file that is clean wherever it was saved, a crash leaves all
content_left : (total : Option ℕ) (digest : Option (List ℕ)) (saved : List Slice) (file : File) (bytes : List ℕ) → IsContent total digest saved file.bytes
    → ((place : ℕ) → HasByte saved place → IsClean file place) → FileLeaves file bytes → bytes ≡ file.bytes
content_left total digest saved file bytes content clean leaves =
    same_number_lists bytes file.bytes long (λ place below. leaves.clean place (clean place (content.full place (omega (arith, leaves.no_longer, below)))))
  where
    long : length bytes ≡ length file.bytes
    long = all (length file.bytes) refl
      where
        all : (n : ℕ) → n ≡ length file.bytes → length bytes ≡ length file.bytes
        all zero is = omega (arith, leaves.no_longer)
        all (suc n) is = let last = clean n (content.full n (omega arith)) in omega (arith, leaves.no_longer, leaves.no_shorter, last.below)

whole_left : (stage : Stage) (total : Option ℕ) (digest : Option (List ℕ)) (saved : List Slice) (file : File) (bytes : List ℕ) → IsWhole stage total digest saved file.bytes
    → ((place : ℕ) → HasByte saved place → IsClean file place) → FileLeaves file bytes → IsWhole stage total digest saved bytes
whole_left Going total digest saved file bytes whole clean leaves = tt
whole_left Moving total digest saved file bytes whole clean leaves =
    subst (IsContent total digest saved) (sym (content_left total digest saved file bytes whole clean leaves)) whole
whole_left Published total digest saved file bytes whole clean leaves =
    subst (IsContent total digest saved) (sym (content_left total digest saved file bytes whole clean leaves)) whole

pub fewer_bytes : (total : Option ℕ) (more few : List ℕ) → length few ≤ length more → IsAtMost total more → IsAtMost total few
fewer_bytes None more few le most = tt
fewer_bytes (Some t) more few le most = omega (arith, most)

-- what a crash leaves of a file under the name that has it, and of a name that has none
some_left : (files : ℕ → File) (number : ℕ) (found : Option (List ℕ)) → NameLeaves files (Some number) found → (bytes : List ℕ) × (found ≡ Some bytes) × FileLeaves (files number) bytes
some_left files number (Some bytes) left = (bytes, refl, left)
some_left files number None left = absurd left

none_left : (files : ℕ → File) (found : Option (List ℕ)) → NameLeaves files None found → found ≡ None
none_left files (Some bytes) left = absurd left
none_left files None left = refl

module _ (folder : Folder) (contents : Contents) (leaves : FolderLeaves folder contents) where
  survived : Names
  survived = names_after folder leaves.survive

  left_some : (name : List ℕ) (number : ℕ) → survived name ≡ Some number → (bytes : List ℕ) × (contents name ≡ Some bytes) × FileLeaves (folder.file number) bytes
  unfolding survived
  left_some name number is = some_left folder.file number (contents name) (subst (λ (found : Option ℕ). NameLeaves folder.file found (contents name)) is (leaves.each name))

  left_none : (name : List ℕ) → survived name ≡ None → contents name ≡ None
  unfolding survived
  left_none name is = none_left folder.file (contents name) (subst (λ (found : Option ℕ). NameLeaves folder.file found (contents name)) is (leaves.each name))

  found_at : (stage : Stage) (part name : List ℕ) (number : ℕ) → LiesAt stage part name number survived → (bytes : List ℕ) × FoundAt stage part name bytes contents × FileLeaves (folder.file number) bytes
  found_at Going part name number lies = let left = left_some part number lies.0 in (left.0, (left.1, left_none name lies.1), left.2)
  found_at Moving part name number (inl lies) = let left = left_some part number lies.0 in (left.0, inl (left.1, left_none name lies.1), left.2)
  found_at Moving part name number (inr lies) = let left = left_some name number lies.0 in (left.0, inr (left.1, left_none part lies.1), left.2)
  found_at Published part name number lies = let left = left_some name number lies in (left.0, left.1, left.2)

  pub held_sound : (says : ℕ → ℕ → Type 0) (claim : Claim) → Held says folder claim → SoundOf says claim contents
  unfolding survived
  held_sound says claim held =
      let left = found_at claim.stage claim.part claim.name held.number (held.lies leaves.survive) in
      let file = folder.file held.number in
      let bytes = left.0 in
      let filed = held.filed in
      record {
        bytes = bytes;
        found = left.1;
        said = λ place has.
            let clean = filed.clean place has in
            let same = left.2.clean place clean in
            (omega (arith, clean.below, left.2.no_shorter), subst (says place) (sym same) (filed.said place (filed.holds place has)).1);
        short = fewer_bytes claim.total file.bytes bytes left.2.no_longer filed.short;
        whole = whole_left claim.stage claim.total claim.digest claim.saved file bytes filed.whole filed.clean left.2;
      }

  pub short_left : (part : List ℕ) (total : Option ℕ) → IsShort part total folder → IsShortIn part total contents
  unfolding survived
  short_left part total short bytes is = by (survived part) refl
    where
      by : (found : Option ℕ) → survived part ≡ found → IsAtMost total bytes
      by None none = let gone = left_none part none in cc
      by (Some number) some =
          let left = left_some part number some in
          let same : left.0 ≡ bytes = cc (left.1) in
          fewer_bytes total (folder.file number).bytes bytes (subst (λ (b : List ℕ). length b ≤ length (folder.file number).bytes) same left.2.no_longer) (short leaves.survive number some)

-- each image of a disk
pub held_each : (says : ℕ → ℕ → Type 0) (claim : Claim) (disk : DiskState) → Held says disk.files claim → (image : Image) → MayLeave disk image → SoundOf says claim image.files
held_each says claim disk held image leaves = held_sound disk.files image.files leaves.files says claim held
