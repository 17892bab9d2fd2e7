-- What is known of the file of an item that is being finished, where the disk was good.
use Rattle.std.proofs.Common.{◌≡◌, ◌⊎◌, inl, inr, ℕ, ◌≤◌, Bool, true, false, not, ◌||◌, nat_lt, cond, IsTrue, List, [], length, take, Option, Some, None, refl, sym, ◌∙◌, ap, subst, arith}
use Rattle.std.specs.Prelude.{IfSome, IsSome, Contains, is_some}
use Rattle.std.specs.Option.{option_map}
use Rattle.std.proofs.lemmas.Bool.{false≢true}
use Rattle.std.proofs.lemmas.Bool.Decides.{nat_tests}
use Rattle.std.proofs.lemmas.List.{take_all}
use Rattle.std.proofs.lemmas.Slice.Eq.{bytes_eq-Decides}
use Rattle.sha2.specs.Sha256.{sha256}
use Rattle.dm_types.specs.Name.{IsPart, part_name}
use Rattle.dm_types.specs.declared.entry.Entry.TheVariants as entries
use Rattle.dm_types.specs.declared.item.Item.{Item}
use Rattle.dm_types.specs.declared.item.ItemId.{ItemId}
use Rattle.dm_types.specs.declared.item.Phase.{Phase}
use Rattle.dm_types.specs.declared.item.Phase.TheVariants as phases
use Rattle.dm_types.specs.declared.reason.Reason.TheVariants as reasons
use Rattle.dm_disk_model.specs.declared.place.Place.{Place}
use Rattle.dm_disk_model.specs.Beside.{IsFirmBut}
use Rattle.dm_disk_model.specs.Disk.{DiskState, Stands, StandsNot}
use Rattle.dm_disk_model.specs.Folder.{contents_of, names_of}
use Rattle.dm_item.specs.History.{first_some, get}
use Rattle.dm_item.specs.Lawful.{History, IsOf, items_of}
use Rattle.dm_item.specs.Listing.{Listing, applied, item_in}
use Rattle.dm_item.specs.Restored.{IsDigestOf, IsSound, IsWhole as IsWholeItem}
use Rattle.dm_item.specs.Row.{changed, is_complete, is_finishing}
use Rattle.dm_item.proofs.Shorts.{sound_in}
use Rattle.dm_part.specs.Keeping.{Claim, Held, IsContent, Moving as AtMove, Published, Stage}
use Rattle.dm_part.specs.Laws.{files_place}
use Rattle.dm_part.proofs.Own.{held_told, published_firm}
use Rattle.dm_part.proofs.Standing.{held_stands, moving_reads}
use Rattle.dm_kept.specs.Files.{Covers, Fact, Facts, FileKept, Says, claim_of, live_of, stage_of}
use Rattle.dm_kept.proofs.Entered.{fact_of, facts_given, items_are}
use Rattle.dm_kept.proofs.Lists.{some_is}
use Rattle.dm_store.proofs.Found.{There, there_is}
use Rattle.dm_answers.specs.Settling.{is_stated_other, settled_by, settled_of, whole_of}
use Rattle.dm_settle.specs.Judging.{HasWhole, JudgedAs, Judges, entry_of}
use Rattle.dm_settle.specs.Moving.{IsListedFor, IsMovingOf}
use Rattle.dm_settle.specs.Settled.{IsWhole}
use Rattle.dm_settle.specs.declared.judging.Judged.{Judged}
use Rattle.dm_settle.specs.declared.judging.Judged.TheVariants as judgements
use Rattle.dm_settle.specs.declared.moving.Moving.{Moving}

less_not : (a b : ℕ) → b ≤ a → nat_lt a b ≡ false
less_not a b most = grind (arith, nat_tests)

same_not_other : (stated : Option (List ℕ)) (sum : List ℕ) → IfSome stated (λ digest. digest ≡ sum) → is_stated_other stated sum ≡ false
same_not_other None sum same = refl
same_not_other (Some digest) sum same = ap not ((bytes_eq-Decides digest sum).1 same)

none_is : {A : Type 0} (found : Option A) → is_some found ≡ false → found ≡ None
none_is None is = refl
none_is (Some value) is = absurd (false≢true (sym is))

-- a finishing item has no digest of its content yet
no_digest : (phase : Phase) (stated have : Option (List ℕ)) → phase ≡ phases.Finishing → IsDigestOf (is_complete phase) stated have → have ≡ None
no_digest phase stated have finishing is = none_is have (subst (λ (p : Phase). IsDigestOf (is_complete p) stated have) finishing is)

-- an entry of a whole content is a Done
done_whole : (id : ItemId) (at : ℕ) (sum : List ℕ) (judged : Judged) → entry_of id at judged ≡ entries.Done id sum at → IsWhole judged
done_whole id at sum (judgements.Broken reason) is = absurd cc
done_whole id at sum (judgements.InPart other) is = tt
done_whole id at sum (judgements.Named other) is = tt

-- a file that stands reads as some bytes
reads_there : (disk : DiskState) (name : List ℕ) → IsSome (names_of disk.files name) → There (contents_of disk.files name)
reads_there disk name stands = by (names_of disk.files name) refl
  where
    by : (found : Option ℕ) → names_of disk.files name ≡ found → There (contents_of disk.files name)
    by None none = absurd (false≢true (subst (λ (n : Option ℕ). IsSome n) none stands))
    by (Some number) some = record { it = (disk.files.file number).bytes; is = ap (option_map (λ k. (disk.files.file k).bytes)) some }

not_some : {A : Type 0} (found : Option A) → found ≡ None → IsSome found → ⊥
not_some found none some = false≢true (subst (λ (n : Option _). IsSome n) none some)

test_true : (test : Bool) (P : Type 0) → (P → IsTrue test) → P → test ≡ true
test_true test P decides is = decides is

test_false : (test : Bool) (P : Type 0) → (IsTrue test → P) → (P → ⊥) → test ≡ false
test_false true P decides not = absurd (not (decides refl))
test_false false P decides not = refl

module _ (v : Listing) (history : History) (is_of : IsOf history v) (id : ℕ) (one : Item) (there : item_in id v.items ≡ Some one) (finishing : one.phase ≡ phases.Finishing) where
  sound : IsSound one
  sound = sound_in history v id one is_of there

  whole : IsWholeItem one.key one.total one.slices
  whole = sound.whole (subst (λ (p : Phase). IsTrue (is_finishing p || is_complete p)) (sym finishing) refl)

  key_there : There one.key
  key_there = there_is one.key whole.has_key

  pub name_there : There one.name
  name_there = there_is one.name (sound.told.has_name ∙ whole.has_key)

  address_there : There one.last_address
  address_there = there_is one.last_address (sound.told.has_address ∙ whole.has_key)

  pub name_got : get one.name [] ≡ name_there.it
  name_got = ap (λ (n : Option (List ℕ)). get n []) name_there.is

  no_have : one.have ≡ None
  no_have = no_digest one.phase one.digest one.have finishing sound.digest

  -- bytes that are the whole content settle the item as complete
  settled_done : (bytes : List ℕ) → IsContent one.total (first_some one.have one.digest) one.slices bytes → (at : ℕ) → (sha256 (take (whole_of one) bytes) ≡ sha256 bytes) × (settled_by one at bytes ≡ entries.Done one.id (sha256 (take (whole_of one) bytes)) at)
  settled_done bytes content at =
      let size : whole_of one ≡ length bytes = ap (λ (t : Option ℕ). get t 0) content.ends in
      let all : take (whole_of one) bytes ≡ bytes = take_all (whole_of one) bytes (omega (arith, size)) in
      let sum : List ℕ = sha256 (take (whole_of one) bytes) in
      let stated : IfSome one.digest (λ d. d ≡ sha256 bytes) = subst (λ (h : Option (List ℕ)). IfSome (first_some h one.digest) (λ d. d ≡ sha256 bytes)) no_have content.sum in
      let same : is_stated_other one.digest sum ≡ false = same_not_other one.digest sum (subst (λ (b : List ℕ). IfSome one.digest (λ d. d ≡ sha256 b)) (sym all) stated) in (
        ap sha256 all,
        ap (λ (b : Bool). cond b (entries.Broke one.id reasons.FileTooShort) (cond (is_stated_other one.digest sum) (entries.Broke one.id reasons.FileHashMismatch) (entries.Done one.id sum at)))
            (less_not (length bytes) (whole_of one) (omega (arith, size)))
            ∙ ap (λ (b : Bool). cond b (entries.Broke one.id reasons.FileHashMismatch) (entries.Done one.id sum at)) same,
      )

  module _ (says : Says) (covers : Covers) where
    abbrev claim : Claim
    claim = record (claim_of name_there.it (live_of covers one) one) { stage = AtMove }

    module _ (disk : DiskState) (facts : Facts says covers (items_of history) disk.files) where
      kept : FileKept (says address_there.it key_there.it) disk.files (Some AtMove) (claim_of name_there.it (live_of covers one) one)
      kept =
          subst (λ (s : Option Stage). FileKept (says address_there.it key_there.it) disk.files s (claim_of name_there.it (live_of covers one) one)) (ap stage_of finishing)
          (facts id one (subst (λ (list : List Item). item_in id list ≡ Some one) (items_are history v is_of) there) key_there.it address_there.it name_there.it key_there.is address_there.is name_there.is)

      -- the name is no part's
      pub name_no_part : IsPart name_there.it → ⊥
      name_no_part = kept.1

      content : (n bytes : List ℕ) → (n ≡ part_name one.id.0 one.epoch.0) ⊎ (n ≡ name_there.it) → contents_of disk.files n ≡ Some bytes → IsContent one.total (first_some one.have one.digest) one.slices bytes
      content n bytes either reads = moving_reads (says address_there.it key_there.it) claim disk refl kept.0 n bytes either reads

      -- what reads under one of the two names settles it as complete
      settled_at : (n : List ℕ) (at : ℕ) → (n ≡ part_name one.id.0 one.epoch.0) ⊎ (n ≡ name_there.it) → (read : There (contents_of disk.files n)) → settled_of one at (contents_of disk.files n) ≡ entries.Done one.id (sha256 (take (whole_of one) read.it)) at
      settled_at n at either read = ap (settled_of one at) read.is ∙ (settled_done read.it (content n read.it either read.is) at).1

      -- Judged by what was listed, where that is what stands, it is whole.
      pub judged_whole : (tells : Type 0) → tells → (names : List (List ℕ)) (moving : Moving) (judged : Judged) → IsMovingOf one moving → IsListedFor disk.files names one → Judges tells disk names moving judged → IsWhole judged
      judged_whole tells told names moving judged is listed judges =
          by (held_stands (says address_there.it key_there.it) claim disk kept.0) judges.part_listed judges.name_listed (judges.as_found told one is) part_true part_false name_true name_false
        where
          part_is : moving.part.name ≡ part_name one.id.0 one.epoch.0
          part_is = ap (λ (p : Place). p.name) is.part

          target_is : moving.target.name ≡ get one.name []
          target_is = ap (λ (p : Place). p.name) is.target

          part_true : IsSome (names_of disk.files (part_name one.id.0 one.epoch.0)) → judges.part_listed ≡ true
          part_true stands = judges.part_is.1 (subst (Contains names) (sym part_is) (listed.part.1 stands))

          part_false : (IsSome (names_of disk.files (part_name one.id.0 one.epoch.0)) → ⊥) → judges.part_listed ≡ false
          part_false not = test_false judges.part_listed (Contains names moving.part.name) judges.part_is.0 (λ there. not (listed.part.0 (subst (Contains names) part_is there)))

          name_true : IsSome (names_of disk.files name_there.it) → judges.name_listed ≡ true
          name_true stands = judges.name_is.1 (subst (Contains names) (sym target_is) (listed.name.1 (subst (λ (n : List ℕ). IsSome (names_of disk.files n)) (sym name_got) stands)))

          name_false : (IsSome (names_of disk.files name_there.it) → ⊥) → judges.name_listed ≡ false
          name_false not =
              test_false judges.name_listed (Contains names moving.target.name) judges.name_is.0
              (λ there. not (subst (λ (n : List ℕ). IsSome (names_of disk.files n)) name_got (listed.name.0 (subst (Contains names) target_is there))))

          by : (Stands disk (files_place (part_name one.id.0 one.epoch.0)) × StandsNot disk (files_place name_there.it)) ⊎ (Stands disk (files_place name_there.it) × StandsNot disk (files_place (part_name one.id.0 one.epoch.0)))
              → (part_listed name_listed : Bool) → JudgedAs disk one part_listed name_listed judged → (IsSome (names_of disk.files (part_name one.id.0 one.epoch.0)) → part_listed ≡ true) → ((IsSome (names_of disk.files (part_name one.id.0 one.epoch.0)) → ⊥) → part_listed ≡ false)
              → (IsSome (names_of disk.files name_there.it) → name_listed ≡ true) → ((IsSome (names_of disk.files name_there.it) → ⊥) → name_listed ≡ false) → IsWhole judged
          by (inl part) true false as_found pt pf nt nf = done_whole one.id 0 _ judged (as_found 0 ∙ settled_at (part_name one.id.0 one.epoch.0) 0 (inl refl) (reads_there disk (part_name one.id.0 one.epoch.0) part.0))
          by (inl part) false name_listed as_found pt pf nt nf = absurd (false≢true (pt part.0))
          by (inl part) true true as_found pt pf nt nf = absurd (false≢true (sym (nf (not_some (names_of disk.files name_there.it) part.1))))
          by (inr name) false true as_found pt pf nt nf =
              done_whole one.id 0 _ judged (as_found 0 ∙ ap (λ (n : List ℕ). settled_of one 0 (contents_of disk.files n)) name_got ∙ settled_at name_there.it 0 (inr refl) (reads_there disk name_there.it name.0))
          by (inr name) true name_listed as_found pt pf nt nf = absurd (false≢true (sym (pf (not_some (names_of disk.files (part_name one.id.0 one.epoch.0)) name.1))))
          by (inr name) false false as_found pt pf nt nf = absurd (false≢true (nt name.0))

      -- Where it stands under its name, which is firm, with this sum, it may be complete.
      pub facts_done : (sum : List ℕ) (at : ℕ) (k : ItemId) → k.0 ≡ id → IsFirmBut IsPart disk.files → IsSome (names_of disk.files name_there.it) → HasWhole (contents_of disk.files name_there.it) (whole_of one) sum
          → Facts says covers (applied (entries.Done k sum at) v).items disk.files
      facts_done sum at k here quiet stands has =
          facts_given says covers covers disk.files (entries.Done k sum at) k.0 v.items (λ item. refl) (λ other apart. refl)
          (λ item is. subst (λ (i : Item). Fact says covers disk.files (changed (entries.Done k sum at) i)) (some_is one item (sym there ∙ subst (λ (n : ℕ). item_in n v.items ≡ Some item) here is)) done)
          (subst (λ (list : List Item). Facts says covers list disk.files) (sym (items_are history v is_of)) facts)
        where
          is_content : IsContent one.total (first_some one.have one.digest) one.slices has.bytes
          is_content = content name_there.it has.bytes (inr refl) has.is

          is_sum : sum ≡ sha256 has.bytes
          is_sum = has.sum_is ∙ (settled_done has.bytes is_content at).0

          held_done : Held (says address_there.it key_there.it) disk.files (record claim { stage = Published; digest = Some sum })
          held_done =
              held_told (says address_there.it key_there.it) disk.files (record claim { stage = Published }) (Some sum) has.bytes refl has.is is_sum
              (published_firm (says address_there.it key_there.it) disk.files claim refl stands (quiet name_there.it name_no_part) kept.0)

          done : Fact says covers disk.files (changed (entries.Done k sum at) one)
          done = fact_of says covers disk.files (changed (entries.Done k sum at) one) key_there.it address_there.it name_there.it key_there.is address_there.is name_there.is (held_done, name_no_part)
