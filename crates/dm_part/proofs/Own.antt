-- What is done at an item's own part and name does to its claim.
use Rattle.std.proofs.Common.{◌≡◌, ◌≢◌, inl, inr, ⊎_elim, ℕ, ◌+◌, ◌-◌, ◌<◌, ◌≤◌, List, [], ◌∷◌, length, get_or, Option, Some, None, refl, sym, ◌∙◌, ap, subst, arith}
use Rattle.std.specs.Prelude.{IfSome, IsSome}
use Rattle.std.specs.Option.{option_map}
use Rattle.std.proofs.lemmas.Option.{same_Some, none-some}
use Rattle.sha2.specs.Sha256.{sha256}
use Rattle.dm_types.specs.declared.slices.Slice.{Slice}
use Rattle.dm_slice.specs.Words.{Holds}
use Rattle.dm_disk_model.specs.File.{File, IsUntouched, IsWritten, IsTorn, IsSynced, SameOutside, empty_file}
use Rattle.dm_disk_model.specs.Folder.{Names, Folder, Change, Created, Renamed, Removed, after_change, after_changes, FileSteps, Creates, Changes, SyncsNames, EachPrefix, names_of, contents_of, with_name}
use Rattle.dm_disk_model.specs.Firm.{HasFile}
use Rattle.dm_disk_model.specs.Beside.{IsFirm}
use Rattle.dm_disk_model.proofs.PendingNames.{each_now, each_more, each_synced, names_more, with_name_same, with_name_other}
use Rattle.dm_disk_model.proofs.FirmNames.{each_same}
use Rattle.dm_disk_model.proofs.Firmness.{firm_settled}
use Rattle.dm_disk_model.proofs.FileBytes.{length-overwrite, overwrite_within, overwrite_outside}
use Rattle.dm_part.specs.Keeping.{Stage, Going, Moving, Published, Claim, LiesAt, IsContent, IsWhole, IsAtMost, Filed, IsShort, Held, IsFree, Lands, IsEmpty}
use Rattle.dm_part.proofs.Frame.{short_changed, held_synced, removed_beside}

-- a file of an item that is going, a write of which was done or begun at a free place
touched_filed : (says : ℕ → ℕ → Type 0) (claim : Claim) (old new : File) (at count : ℕ) → claim.stage ≡ Going → IsFree claim at count → SameOutside at (at + count) old.bytes new.bytes
    → new.synced ≡ old.synced → new.touched ≡ (at, at + count) ∷ old.touched → Filed says claim old → Filed says claim new
touched_filed says claim old new at count going free outside synced touched filed = record {
  clean = λ place has.
      let was = filed.clean place has in
      record {
        below = omega (arith, was.below, synced);
        untouched = subst (λ (ranges : List (ℕ × ℕ)). IsUntouched ranges place) (sym touched) (free.beside place (filed.holds place has), was.untouched);
      };
  said = λ place has.
      let was = filed.said place has in
      (omega (arith, was.0, outside.no_shorter), subst (says place) (sym (outside.others place (free.beside place has))) was.1);
  holds = filed.holds;
  short = within claim.total free.within filed.short;
  within = omega (arith, synced, filed.within, outside.no_shorter);
  whole = subst (λ (stage : Stage). IsWhole stage claim.total claim.digest claim.saved new.bytes) (sym going) tt;
}
  where
    within : (total : Option ℕ) → IfSome total (λ t. at + count ≤ t) → IsAtMost total old.bytes → IsAtMost total new.bytes
    within None a b = tt
    within (Some t) a b = omega (arith, outside.no_longer, a, b)

-- what was written is what a write that was begun may leave
pub torn_by_write : (at : ℕ) (piece : List ℕ) (old new : File) → IsWritten at piece old new → IsTorn at (length piece) old new
torn_by_write at piece old new written = record {
  bytes = subst (SameOutside at (at + length piece) old.bytes) (sym written.bytes) (overwrite_outside old.bytes at piece);
  synced = written.synced;
  touched = written.touched;
}

-- a piece was landed
written_filed : (says : ℕ → ℕ → Type 0) (claim : Claim) (live : List Slice) (old new : File) (at : ℕ) (piece : List ℕ) → claim.stage ≡ Going → Lands says claim at piece live → IsWritten at piece old new
    → Filed says claim old → Filed says (record claim { live = live }) new
written_filed says claim live old new at piece going lands written filed =
    let torn = torn_by_write at piece old new written in
    let kept = touched_filed says claim old new at (length piece) going lands.free torn.bytes torn.synced torn.touched filed in
    record {
      clean = kept.clean;
      said = λ place has. ⊎_elim (kept.said place) (λ (mine : (at ≤ place) × (place < at + length piece)). landed place mine.0 mine.1) (lands.grown place has);
      holds = lands.holds;
      short = kept.short;
      within = kept.within;
      whole = kept.whole;
    }
  where
    landed : (place : ℕ) → at ≤ place → place < at + length piece → (place < length new.bytes) × says place (get_or new.bytes place 0)
    landed place ge lt =
        let mine = lands.said (place - at) (omega arith) in
        let here : at + (place - at) ≡ place = omega arith in
        let reads : get_or new.bytes place 0 ≡ get_or piece (place - at) 0 = ap (λ (bytes : List ℕ). get_or bytes place 0) written.bytes ∙ overwrite_within old.bytes at piece place ge lt in
        (omega (arith, ap length written.bytes, length-overwrite old.bytes at piece), subst (says place) (sym reads) (subst (λ (p : ℕ). says p (get_or piece (place - at) 0)) here mine))

-- the file was synced, and what is live is recorded, or less
synced_filed : (says : ℕ → ℕ → Type 0) (claim : Claim) (saved : List Slice) (old new : File) → claim.stage ≡ Going → Holds claim.live saved → IsSynced old new
    → Filed says claim old → Filed says (record claim { saved = saved }) new
synced_filed says claim saved old new going holds synced filed =
    subst (Filed says (record claim { saved = saved })) (sym synced)
    (record {
      clean = λ place has. record { below = (filed.said place (holds place has)).0; untouched = tt };
      said = filed.said;
      holds = holds;
      short = filed.short;
      within = omega arith;
      whole = subst (λ (stage : Stage). IsWhole stage claim.total claim.digest saved old.bytes) (sym going) tt;
    })

-- while an item is going, its part is the one file, so that this is short
short_going : (folder : Folder) (part name : List ℕ) (number : ℕ) (total : Option ℕ) → EachPrefix folder (LiesAt Going part name number) → IsAtMost total (folder.file number).bytes → IsShort part total folder
short_going folder part name number total lies most count other is =
    subst (λ (n : ℕ). IsAtMost total (folder.file n).bytes) (same_Some number other (sym (lies count).0 ∙ is)) most

-- a claim of an item that is going, from its parts
pub held_going : (says : ℕ → ℕ → Type 0) (folder : Folder) (claim : Claim) (number : ℕ) → claim.stage ≡ Going → EachPrefix folder (LiesAt Going claim.part claim.name number) → Filed says claim (folder.file number)
    → Held says folder claim
held_going says folder claim number going lies filed = record {
  number = number;
  lies = subst (λ (stage : Stage). EachPrefix folder (LiesAt stage claim.part claim.name number)) (sym going) lies;
  filed = filed;
  short = short_going folder claim.part claim.name number claim.total lies filed.short;
}

pub lies_going : (says : ℕ → ℕ → Type 0) (folder : Folder) (claim : Claim) → claim.stage ≡ Going → (held : Held says folder claim) → EachPrefix folder (LiesAt Going claim.part claim.name held.number)
lies_going says folder claim going held = subst (λ (stage : Stage). EachPrefix folder (LiesAt stage claim.part claim.name held.number)) going held.lies

-- its part has one file, whichever changes of names survive
pub firm_part : (says : ℕ → ℕ → Type 0) (folder : Folder) (claim : Claim) → claim.stage ≡ Going → (held : Held says folder claim) → HasFile folder claim.part (folder.file held.number)
firm_part says folder claim going held =
    let lies = lies_going says folder claim going held in
    record { number = held.number; named = λ count. (lies count).0; is = refl }

-- a step of its part
module _ (says : ℕ → ℕ → Type 0) (old new : Folder) (claim : Claim) (going : claim.stage ≡ Going) (held : Held says old claim) (step : File → File → Type 0) (taken : FileSteps claim.part step old new) where
  lies_before : EachPrefix old (LiesAt Going claim.part claim.name held.number)
  lies_before = lies_going says old claim going held

  pub own_lies : EachPrefix new (LiesAt Going claim.part claim.name held.number)
  own_lies = each_same old new (LiesAt Going claim.part claim.name held.number) taken.synced taken.changes lies_before

  pub own_step : step (old.file held.number) (new.file held.number)
  own_step =
      let same : taken.number ≡ held.number = same_Some taken.number held.number (sym taken.stands ∙ (each_now old (LiesAt Going claim.part claim.name held.number) lies_before).0) in
      subst (λ (n : ℕ). step (old.file n) (new.file n)) same taken.stepped

module _ (says : ℕ → ℕ → Type 0) (old new : Folder) (claim : Claim) (going : claim.stage ≡ Going) (held : Held says old claim) where
  -- a piece is landed
  pub held_written : (live : List Slice) (at : ℕ) (piece : List ℕ) → Lands says claim at piece live → FileSteps claim.part (IsWritten at piece) old new → Held says new (record claim { live = live })
  held_written live at piece lands taken =
      held_going says new (record claim { live = live }) held.number going
      (own_lies says old new claim going held (IsWritten at piece) taken)
      (written_filed says claim live (old.file held.number) (new.file held.number) at piece going lands (own_step says old new claim going held (IsWritten at piece) taken) held.filed)

  -- a write at a free place was begun
  pub held_torn : (at count : ℕ) → IsFree claim at count → FileSteps claim.part (IsTorn at count) old new → Held says new claim
  held_torn at count free taken =
      let torn = own_step says old new claim going held (IsTorn at count) taken in
      held_going says new claim held.number going
      (own_lies says old new claim going held (IsTorn at count) taken)
      (touched_filed says claim (old.file held.number) (new.file held.number) at count going free torn.bytes torn.synced torn.touched held.filed)

  -- the part is synced: what is live may be recorded
  pub held_saved : (saved : List Slice) → Holds claim.live saved → FileSteps claim.part IsSynced old new → Held says new (record claim { saved = saved })
  held_saved saved holds taken =
      held_going says new (record claim { saved = saved }) held.number going
      (own_lies says old new claim going held IsSynced taken)
      (synced_filed says claim saved (old.file held.number) (new.file held.number) going holds (own_step says old new claim going held IsSynced taken) held.filed)

-- fewer places are live, as after an interruption
pub held_fewer : (says : ℕ → ℕ → Type 0) (folder : Folder) (claim : Claim) (live : List Slice) → Holds claim.live live → Holds live claim.saved → Held says folder claim → Held says folder (record claim { live = live })
held_fewer says folder claim live fewer holds held = record {
  number = held.number;
  lies = held.lies;
  filed = record {
    clean = held.filed.clean;
    said = λ place has. held.filed.said place (fewer place has);
    holds = holds;
    short = held.filed.short;
    within = held.filed.within;
    whole = held.filed.whole;
  };
  short = held.short;
}

-- what reads under a name
pub reads_number : (folder : Folder) (name : List ℕ) (number : ℕ) (bytes : List ℕ) → names_of folder name ≡ Some number → contents_of folder name ≡ Some bytes → (folder.file number).bytes ≡ bytes
reads_number folder name number bytes named reads =
    same_Some (folder.file number).bytes bytes (sym (ap (option_map (λ n. (folder.file n).bytes)) named) ∙ reads)

-- a digest that is the file's may be claimed of a published one
pub held_told : (says : ℕ → ℕ → Type 0) (folder : Folder) (claim : Claim) (digest : Option (List ℕ)) (bytes : List ℕ) → claim.stage ≡ Published → contents_of folder claim.name ≡ Some bytes
    → IfSome digest (λ d. d ≡ sha256 bytes) → Held says folder claim → Held says folder (record claim { digest = digest })
held_told says folder claim digest bytes published reads sum held =
    let number = held.number in
    let lies : EachPrefix folder (LiesAt Published claim.part claim.name number) = subst (λ (stage : Stage). EachPrefix folder (LiesAt stage claim.part claim.name number)) published held.lies in
    let same = reads_number folder claim.name number bytes (each_now folder (LiesAt Published claim.part claim.name number) lies) reads in
    let whole : IsContent claim.total claim.digest claim.saved (folder.file number).bytes =
    subst (λ (stage : Stage). IsWhole stage claim.total claim.digest claim.saved (folder.file number).bytes) published held.filed.whole in
    let told : IsContent claim.total digest claim.saved (folder.file number).bytes =
    record { ends = whole.ends; full = whole.full; sum = subst (λ (content : List ℕ). IfSome digest (λ d. d ≡ sha256 content)) (sym same) sum } in
    record {
      number = number;
      lies = held.lies;
      filed = record {
        clean = held.filed.clean;
        said = held.filed.said;
        holds = held.filed.holds;
        short = held.filed.short;
        within = held.filed.within;
        whole = subst (λ (stage : Stage). IsWhole stage claim.total digest claim.saved (folder.file number).bytes) (sym published) told;
      };
      short = held.short;
    }

-- all of it was received and saved: it may be moved
pub held_moving : (says : ℕ → ℕ → Type 0) (folder : Folder) (claim : Claim) (total : Option ℕ) (digest : Option (List ℕ)) (bytes : List ℕ) → claim.stage ≡ Going → contents_of folder claim.part ≡ Some bytes
    → IsContent total digest claim.saved bytes → Held says folder claim → Held says folder (record claim { stage = Moving; total = total; digest = digest })
held_moving says folder claim total digest bytes going reads content held =
    let lies = lies_going says folder claim going held in
    let number = held.number in
    let same = reads_number folder claim.part number bytes (each_now folder (LiesAt Going claim.part claim.name number) lies).0 reads in
    let most : IsAtMost total (folder.file number).bytes = subst (λ (t : Option ℕ). IsAtMost t (folder.file number).bytes) (sym content.ends) (omega (arith, ap length same)) in
    record {
      number = number;
      lies = λ count. inl (lies count);
      filed = record {
        clean = held.filed.clean;
        said = held.filed.said;
        holds = held.filed.holds;
        short = most;
        within = held.filed.within;
        whole = subst (IsContent total digest claim.saved) (sym same) content;
      };
      short = short_going folder claim.part claim.name number total lies most;
    }

-- while it is moved, where it is as it reads
part_stands : (part name : List ℕ) (number : ℕ) (names : Names) → LiesAt Moving part name number names → IsSome (names part) → names part ≡ Some number
part_stands part name number names (inl lies) stands = lies.0
part_stands part name number names (inr lies) stands = let none = lies.1 in cc

name_stands : (part name : List ℕ) (number : ℕ) (names : Names) → LiesAt Moving part name number names → IsSome (names name) → names name ≡ Some number
name_stands part name number names (inl lies) stands = let none = lies.1 in cc
name_stands part name number names (inr lies) stands = lies.0

-- its two names differ, since one has a file and the other none
names_apart : (part name : List ℕ) (number : ℕ) (names : Names) → LiesAt Moving part name number names → part ≢ name
names_apart part name number names (inl lies) same = none-some number (sym lies.1 ∙ ap names (sym same) ∙ lies.0)
names_apart part name number names (inr lies) same = none-some number (sym lies.1 ∙ ap names same ∙ lies.0)

-- the rename that gives the name, done or begun
module _ (says : ℕ → ℕ → Type 0) (old new : Folder) (claim : Claim) (moving : claim.stage ≡ Moving) (held : Held says old claim) where
  lies_moving : EachPrefix old (LiesAt Moving claim.part claim.name held.number)
  lies_moving = subst (λ (stage : Stage). EachPrefix old (LiesAt stage claim.part claim.name held.number)) moving held.lies

  pub held_renamed : IsSome (names_of old claim.part) → Changes (Renamed claim.part claim.name) old new → Held says new claim
  held_renamed stands taken =
      let lies = LiesAt Moving claim.part claim.name held.number in
      let change : Change = Renamed claim.part claim.name in
      let names = names_of old in
      let here = part_stands claim.part claim.name held.number names (each_now old lies lies_moving) stands in
      let apart = names_apart claim.part claim.name held.number names (each_now old lies lies_moving) in
      let named : after_change names change claim.name ≡ Some held.number = with_name_same (with_name names claim.part None) claim.name (names claim.part) ∙ here in
      let gone : after_change names change claim.part ≡ None =
      with_name_other (with_name names claim.part None) claim.name (names claim.part) claim.part apart ∙ with_name_same names claim.part None in
      let files = λ (number : ℕ). ap (λ (f : ℕ → File). f number) taken.files in
      record {
        number = held.number;
        lies = subst (λ (stage : Stage). EachPrefix new (LiesAt stage claim.part claim.name held.number)) (sym moving) (each_more old new change lies taken.synced taken.changes lies_moving (inr (named, gone)));
        filed = subst (Filed says claim) (sym (files held.number)) held.filed;
        short = short_changed old new change taken.synced taken.changes claim.part claim.total (λ number is. absurd (none-some number (sym gone ∙ is))) (λ count number is. files number) held.short;
      }

-- Once it stands under its name, and that is firm, it is published.
pub published_firm : (says : ℕ → ℕ → Type 0) (folder : Folder) (claim : Claim) → claim.stage ≡ Moving → IsSome (names_of folder claim.name) → IsFirm claim.name folder → Held says folder claim
    → Held says folder (record claim { stage = Published })
published_firm says folder claim moving stands firm held =
    let lies : EachPrefix folder (LiesAt Moving claim.part claim.name held.number) = subst (λ (stage : Stage). EachPrefix folder (LiesAt stage claim.part claim.name held.number)) moving held.lies in
    let here = name_stands claim.part claim.name held.number (names_of folder) (each_now folder (LiesAt Moving claim.part claim.name held.number) lies) stands in
    let read : names_of folder claim.name ≡ firm.found = each_now folder (λ names. names claim.name ≡ firm.found) firm.named in
    record {
      number = held.number;
      lies = λ count. firm.named count ∙ sym read ∙ here;
      filed = record {
        clean = held.filed.clean;
        said = held.filed.said;
        holds = held.filed.holds;
        short = held.filed.short;
        within = held.filed.within;
        whole = subst (λ (stage : Stage). IsWhole stage claim.total claim.digest claim.saved (folder.file held.number).bytes) moving held.filed.whole;
      };
      short = held.short;
    }

-- the names are synced once the file stands under its name
pub held_published : (says : ℕ → ℕ → Type 0) (old new : Folder) (claim : Claim) → claim.stage ≡ Moving → Held says old claim → IsSome (names_of old claim.name) → SyncsNames old new
    → Held says new (record claim { stage = Published })
held_published says old new claim moving held stands taken =
    published_firm says new claim moving
    (subst (λ (names : Names). IsSome (names claim.name)) (sym (ap (after_changes new.synced) taken.changes ∙ taken.synced)) stands)
    (firm_settled new claim.name taken.changes) (held_synced old new taken says claim held)

-- the part is removed
pub short_removed : (old new : Folder) (part : List ℕ) (total : Option ℕ) → Changes (Removed part) old new → IsShort part total old → IsShort part total new
short_removed old new part total taken short =
    short_changed old new (Removed part) taken.synced taken.changes part total
    (λ number is. absurd (none-some number (sym (with_name_same (names_of old) part None) ∙ is)))
    (λ count number is. ap (λ (f : ℕ → File). f number) taken.files) short

-- a part that was left beside a published file is removed
pub held_swept : (says : ℕ → ℕ → Type 0) (old new : Folder) (claim : Claim) → claim.stage ≡ Published → claim.name ≢ claim.part → Changes (Removed claim.part) old new → Held says old claim → Held says new claim
held_swept says old new claim published apart taken held =
    let lies = LiesAt Published claim.part claim.name held.number in
    let before : EachPrefix old lies = subst (λ (stage : Stage). EachPrefix old (LiesAt stage claim.part claim.name held.number)) published held.lies in
    let files = ap (λ (f : ℕ → File). f held.number) taken.files in
    record {
      number = held.number;
      lies = subst (λ (stage : Stage). EachPrefix new (LiesAt stage claim.part claim.name held.number)) (sym published)
          (each_more old new (Removed claim.part) lies taken.synced taken.changes before (removed_beside (names_of old) claim.part claim.name apart ∙ each_now old lies before));
      filed = subst (Filed says claim) (sym files) held.filed;
      short = short_removed old new claim.part claim.total taken held.short;
    }

-- no bytes are at most any total
no_bytes : (total : Option ℕ) → IsAtMost total []
no_bytes None = tt
no_bytes (Some t) = omega arith

-- a new part is short
pub short_made : (old new : Folder) (part : List ℕ) (total : Option ℕ) → Creates part old new → IsShort part total old → IsShort part total new
short_made old new part total made short =
    short_changed old new (Created part made.number) made.synced made.changes part total
    (λ number is.
    let same : made.number ≡ number = same_Some made.number number (sym (with_name_same (names_of old) part (Some made.number)) ∙ is) in
    subst (λ (n : ℕ). IsAtMost total (new.file n).bytes) same (subst (λ (f : File). IsAtMost total f.bytes) (sym made.empty) (no_bytes total)))
    (λ count number is. made.others number (λ (same : number ≡ made.number). made.unused count part (is ∙ ap Some same))) short

empty_filed : (says : ℕ → ℕ → Type 0) (claim : Claim) → claim.stage ≡ Going → IsEmpty claim.saved → IsEmpty claim.live → Filed says claim empty_file
empty_filed says claim going none_saved none_live = record {
  clean = λ place has. absurd (none_saved place has);
  said = λ place has. absurd (none_live place has);
  holds = λ place has. absurd (none_saved place has);
  short = no_bytes claim.total;
  within = omega arith;
  whole = subst (λ (stage : Stage). IsWhole stage claim.total claim.digest claim.saved []) (sym going) tt;
}

-- a part is made for a name that is free, and the names are synced
pub held_made : (says : ℕ → ℕ → Type 0) (old middle new : Folder) (claim : Claim) → claim.stage ≡ Going → IsEmpty claim.saved → IsEmpty claim.live → claim.name ≢ claim.part → names_of old claim.name ≡ None
    → Creates claim.part old middle → SyncsNames middle new → Held says new claim
held_made says old middle new claim going none_saved none_live apart free made taken =
    let change : Change = Created claim.part made.number in
    let names = names_more old middle change made.synced made.changes in
    let named : names_of middle claim.part ≡ Some made.number = ap (λ (ns : Names). ns claim.part) names ∙ with_name_same (names_of old) claim.part (Some made.number) in
    let absent : names_of middle claim.name ≡ None = ap (λ (ns : Names). ns claim.name) names ∙ with_name_other (names_of old) claim.part (Some made.number) claim.name apart ∙ free in
    let lies = LiesAt Going claim.part claim.name made.number in
    let file : new.file made.number ≡ empty_file = ap (λ (f : ℕ → File). f made.number) taken.files ∙ made.empty in
    held_going says new claim made.number going
    (each_synced new lies taken.changes (subst lies (sym taken.synced) (named, absent)))
    (subst (Filed says claim) (sym file) (empty_filed says claim going none_saved none_live))
