-- A folder that begins with what a crash left holds each claim that is sound in it.
use Rattle.std.proofs.Common.{◌≡◌, ◌⊎◌, inl, inr, ℕ, ◌<◌, ◌≤◌, List, length, get_or, Option, Some, None, refl, sym, ◌∙◌, ap, subst, arith}
use Rattle.std.specs.Option.{option_map}
use Rattle.std.proofs.lemmas.Option.{same_Some}
use Rattle.dm_disk_model.specs.File.{File, IsClean, IsAllClean}
use Rattle.dm_disk_model.specs.Folder.{Names, Folder, Contents, EachPrefix, names_of, contents_of, after_changes}
use Rattle.dm_disk_model.proofs.PendingNames.{each_synced}
use Rattle.dm_part.specs.Keeping.{Stage, Going, Moving, Published, Claim, LiesAt, FoundAt, IsWhole, IsAtMost, IsShort, IsShortIn, Held, SoundOf, Begins}
use Rattle.dm_part.proofs.Frame.{lies_under}

module _ (folder : Folder) (contents : Contents) (begins : Begins folder contents) where
  -- the names are the same whichever changes survive, since none is pending
  begun_each : (P : Names → Type 0) → P (names_of folder) → EachPrefix folder P
  begun_each P here = each_synced folder P begins.none_pending (subst P (ap (after_changes folder.synced) begins.none_pending) here)

  -- what is found under a name is a file's
  file_of : (name : List ℕ) (bytes : List ℕ) → contents name ≡ Some bytes → (number : ℕ) × (names_of folder name ≡ Some number) × ((folder.file number).bytes ≡ bytes)
  file_of name bytes is = by (names_of folder name) refl
    where
      by : (found : Option ℕ) → names_of folder name ≡ found → (number : ℕ) × (names_of folder name ≡ Some number) × ((folder.file number).bytes ≡ bytes)
      by None named = let none : contents_of folder name ≡ None = ap (option_map (λ n. (folder.file n).bytes)) named in let read = begins.reads name in cc
      by (Some number) named =
          let some : contents_of folder name ≡ Some (folder.file number).bytes = ap (option_map (λ n. (folder.file n).bytes)) named in
          (number, named, same_Some (folder.file number).bytes bytes (sym some ∙ begins.reads name ∙ is))

  none_of : (name : List ℕ) → contents name ≡ None → names_of folder name ≡ None
  none_of name is = by (names_of folder name) refl
    where
      by : (found : Option ℕ) → names_of folder name ≡ found → names_of folder name ≡ None
      by None named = named
      by (Some number) named = let some : contents_of folder name ≡ Some (folder.file number).bytes = ap (option_map (λ n. (folder.file n).bytes)) named in let read = begins.reads name in cc

  lies_where_found : (stage : Stage) (part name bytes : List ℕ) → FoundAt stage part name bytes contents → (number : ℕ) × LiesAt stage part name number (names_of folder) × ((folder.file number).bytes ≡ bytes)
  lies_where_found Going part name bytes found = let file = file_of part bytes found.0 in (file.0, (file.1, none_of name found.1), file.2)
  lies_where_found Moving part name bytes (inl found) = let file = file_of part bytes found.0 in (file.0, inl (file.1, none_of name found.1), file.2)
  lies_where_found Moving part name bytes (inr found) = let file = file_of name bytes found.0 in (file.0, inr (file.1, none_of part found.1), file.2)
  lies_where_found Published part name bytes found = let file = file_of name bytes found in (file.0, file.1, file.2)

  begun_short : (part : List ℕ) (total : Option ℕ) → IsShortIn part total contents → IsShort part total folder
  begun_short part total short =
      begun_each (λ names. (number : ℕ) → names part ≡ Some number → IsAtMost total (folder.file number).bytes)
      (λ number named. short (folder.file number).bytes (sym (begins.reads part) ∙ ap (option_map (λ n. (folder.file n).bytes)) named))

  -- the file has a name, so that it is clean as it reads
  settled_lies : (stage : Stage) (part name : List ℕ) (number : ℕ) → LiesAt stage part name number (names_of folder) → IsAllClean (folder.file number)
  settled_lies stage part name number lies = by (lies_under stage part name number (names_of folder) lies)
    where
      by : (names_of folder part ≡ Some number) ⊎ (names_of folder name ≡ Some number) → IsAllClean (folder.file number)
      by (inl under) = begins.settled part number under
      by (inr under) = begins.settled name number under

  pub sound_held : (says : ℕ → ℕ → Type 0) (claim : Claim) → SoundOf says claim contents → IsShortIn claim.part claim.total contents → Held says folder (record claim { live = claim.saved })
  sound_held says claim sound short =
      let file = lies_where_found claim.stage claim.part claim.name sound.bytes sound.found in
      let number = file.0 in
      let same : (folder.file number).bytes ≡ sound.bytes = file.2 in
      let settled = settled_lies claim.stage claim.part claim.name number file.1 in
      record {
        number = number;
        lies = begun_each (LiesAt claim.stage claim.part claim.name number) file.1;
        filed = record {
          clean = λ place has.
              subst (λ (f : File). IsClean f place) (sym settled)
              (record { below = subst (λ (bytes : List ℕ). place < length bytes) (sym same) (sound.said place has).0; untouched = tt });
          said = λ place has. subst (λ (bytes : List ℕ). (place < length bytes) × says place (get_or bytes place 0)) (sym same) (sound.said place has);
          holds = λ place has. has;
          short = subst (IsAtMost claim.total) (sym same) sound.short;
          within = subst (λ (f : File). f.synced ≤ length f.bytes) (sym settled) (omega arith);
          whole = subst (IsWhole claim.stage claim.total claim.digest claim.saved) (sym same) sound.whole;
        };
        short = begun_short claim.part claim.total short;
      }
