-- What is kept where the part of an attempt is made anew, of which the first reply wasn't told.
use Rattle.std.proofs.Common.{◌≡◌, ◌≢◌, ◌⊎◌, inl, inr, ℕ, Bool, true, false, ◌&&◌, IsTrue, List, [], Option, Some, None, Result, Ok, Err, refl, sym, ◌∙◌, ap, subst, arith}
use Rattle.std.specs.Prelude.{IsSome, is_some}
use Rattle.std.specs.Option.{option_map}
use Rattle.std.proofs.lemmas.Bool.{false≢true}
use Rattle.dm_types.specs.Name.{IsPart, part_name}
use Rattle.dm_types.specs.declared.item.Item.{Item}
use Rattle.dm_types.specs.declared.item.ItemId.{ItemId}
use Rattle.dm_types.specs.declared.item.Key.{Key}
use Rattle.dm_disk_model.specs.declared.place.Area.TheVariants.{Files}
use Rattle.dm_disk_model.specs.declared.place.DiskFault.{DiskFault}
use Rattle.dm_disk_model.specs.declared.place.Place.{Place}
use Rattle.dm_disk_model.specs.Beside.{Besides, IsFirmBut}
use Rattle.dm_disk_model.specs.Disk.{CreateStep, DiskState, History as Clock, IsSoundDisk, RemoveStep, SyncNamesStep, now}
use Rattle.dm_disk_model.specs.Folder.{Folder, contents_of, names_of}
use Rattle.dm_disk_model.specs.Moments.{Throughout}
use Rattle.dm_disk_model.proofs.Beside.{besides_create, besides_names, besides_remove, besides_stay, besides_then}
use Rattle.dm_disk_model.proofs.Firmness.{quiet_create, quiet_remove}
use Rattle.dm_disk_model.proofs.Places.{create_others, create_reads, names_reads, remove_others, stands_not_from}
use Rattle.dm_disk_model.proofs.Reaching.{at_end, at_start, joined}
use Rattle.dm_item.specs.Fields.{is_running}
use Rattle.dm_item.specs.Lawful.{History, IsOf, items_of}
use Rattle.dm_item.specs.Listing.{Listing, item_in}
use Rattle.dm_part.specs.Laws.{files_place}
use Rattle.dm_part.specs.Runs.{InTurn, Twice}
use Rattle.dm_part.proofs.Names.{one_name}
use Rattle.dm_part.proofs.Turns.{over_one, over_two}
use Rattle.dm_kept.specs.Files.{Covers, EachItem, EndsLive, Facts, IsSmall, Says, brings}
use Rattle.dm_kept.specs.Kept.{Sits}
use Rattle.dm_kept.proofs.Entered.{items_are}
use Rattle.dm_kept.proofs.Flags.{if_map}
use Rattle.dm_kept.proofs.Frame.{facts_create, facts_discard, names_stay}
use Rattle.dm_kept.proofs.Lists.{id_in, some_is}
use Rattle.dm_kept.proofs.Ranges.{small_items}
use Rattle.dm_kept.proofs.Resting as resting
use Rattle.dm_begin.specs.Anew.{IsMaking, IsRemoval, Renews}

some_mapped : {A B : Type 0} (f : A → B) (found : Option A) → is_some (option_map f found) ≡ is_some found
some_mapped f None = refl
some_mapped f (Some x) = refl

-- a name stands where it reads as before
pub others_stand : (old new : Folder) (name : List ℕ) → contents_of new name ≡ contents_of old name → IsSome (names_of old name) → IsSome (names_of new name)
others_stand old new name same some =
    sym (some_mapped (λ (number : ℕ). (new.file number).bytes) (names_of new name)) ∙ ap (λ (found : Option (List ℕ)). is_some found) same ∙ some_mapped (λ (number : ℕ). (old.file number).bytes) (names_of old name) ∙ some

-- an item that isn't described brings nothing
and-false : (b : Bool) → (b && false) ≡ false
and-false true = refl
and-false false = refl

silent : (item : Item) → item.key ≡ None → brings item ≡ false
silent item none = ap (λ (key : Option Key). is_running item.phase && is_some key) none ∙ and-false (is_running item.phase)

removed_state : (place : List ℕ) (answer : Result (Unit {0}) DiskFault) (old disk : DiskState) → RemoveStep (files_place place) answer old disk → disk.state ≡ old.state
removed_state place (Ok done) old disk taken = taken.1
removed_state place (Err fault) old disk (inl taken) = taken.1
removed_state place (Err fault) old disk (inr same) = ap (λ (d : DiskState). d.state) same

created_state : (place : List ℕ) (answer : Result (Unit {0}) DiskFault) (old disk : DiskState) → CreateStep (files_place place) answer old disk → disk.state ≡ old.state
created_state place (Ok done) old disk taken = taken.1
created_state place (Err fault) old disk (inl taken) = taken.1
created_state place (Err fault) old disk (inr same) = ap (λ (d : DiskState). d.state) same

other_place : (name other : List ℕ) → name ≢ other → files_place name ≢ files_place other
other_place name other apart same = apart (ap (λ (p : Place). p.name) same)

-- what a making leaves under other names
pub removed_read : (place : List ℕ) (answer : Result (Unit {0}) DiskFault) (old disk : DiskState) → RemoveStep (files_place place) answer old disk → (name : List ℕ) → name ≢ place → contents_of disk.files name ≡ contents_of old.files name
removed_read place answer old disk taken name apart = remove_others (files_place place) answer old disk taken (files_place name) (other_place name place apart)

pub created_read : (place : List ℕ) (answer : Result (Unit {0}) DiskFault) (old disk : DiskState) → CreateStep (files_place place) answer old disk → (name : List ℕ) → name ≢ place → contents_of disk.files name ≡ contents_of old.files name
created_read place answer old disk taken name apart = create_others (files_place place) answer old disk taken (files_place name) (other_place name place apart)

-- a part that was made reads as empty
pub made_reads : (place : List ℕ) (old new : Clock) → Twice old new (CreateStep (files_place place) (Ok tt)) (SyncNamesStep Files (Ok tt)) → contents_of (now new).files place ≡ Some []
made_reads place old new run =
    names_reads Files (Ok tt) (now run.middle) (now new) run.after.stepped (files_place place) ∙ create_reads (files_place place) (now old) (now run.middle) run.before.stepped

-- a name that is free stays so until the part is made
none_mapped : {A B : Type 0} (f : A → B) (found : Option A) → found ≡ None → option_map f found ≡ None
none_mapped f found none = ap (option_map f) none

pub stays_free : (place : List ℕ) (old middle : Clock) → (middle ≡ old) ⊎ IsRemoval (files_place place) old middle → (name : List ℕ) → name ≢ place → names_of (now old).files name ≡ None → names_of (now middle).files name ≡ None
stays_free place old middle (inl same) name apart free = subst (λ (c : Clock). names_of (now c).files name ≡ None) (sym same) free
stays_free place old middle (inr gone) name apart free =
    stands_not_from (now middle) (files_place name)
    (removed_read place gone.answer (now old) (now middle) gone.run.stepped name apart ∙ none_mapped (λ (number : ℕ). ((now old).files.file number).bytes) (names_of (now old).files name) free)

module _ (good : Bool) (says : Says) (history : History) (gate : ℕ) (covers : Covers) (v : Listing) (is_of : IsOf history v) (id : ItemId) (one : Item) (there : item_in id.0 v.items ≡ Some one) (untold : one.key ≡ None) where
  there_in : item_in id.0 (items_of history) ≡ Some one
  there_in = subst (λ (list : List Item). item_in id.0 list ≡ Some one) (items_are history v is_of) there

  smalls : (disk : DiskState) → Sits good says history gate covers disk → EachItem IsSmall (items_of history)
  smalls disk sits = small_items history sits.rests.taken.lawful sits.rests.entries

  part_is : (disk : DiskState) → Sits good says history gate covers disk → IsPart (part_name one.id.0 one.epoch.0)
  part_is disk sits = let small = smalls disk sits id.0 one there_in in record { id = one.id.0; epoch = one.epoch.0; small = (small.id, small.epoch); is = refl }

  -- the parts of the others that bring content have other names
  parts_apart : (disk : DiskState) → Sits good says history gate covers disk → (k : ℕ) (item : Item) → item_in k (items_of history) ≡ Some item → IsTrue (brings item) → part_name item.id.0 item.epoch.0 ≢ part_name one.id.0 one.epoch.0
  parts_apart disk sits k item at brought same =
      let mine = smalls disk sits id.0 one there_in in
      let theirs = smalls disk sits k item at in
      let ids = one_name item.id.0 item.epoch.0 one.id.0 one.epoch.0 theirs.id theirs.epoch mine.id mine.epoch same in
      let k_is : k ≡ id.0 = sym (id_in k item (items_of history) at) ∙ ids.0 ∙ id_in id.0 one (items_of history) there_in in
      let item_is : item ≡ one = some_is item one (sym at ∙ subst (λ (n : ℕ). item_in n (items_of history) ≡ Some one) (sym k_is) there_in) in
      false≢true (sym (silent one untold) ∙ subst (λ (i : Item). IsTrue (brings i)) item_is brought)

  -- a step on the item's part
  sits_part : (old new : DiskState) → Sits good says history gate covers old → new.state ≡ old.state → (Facts says covers (items_of history) old.files → Facts says covers (items_of history) new.files) → IsFirmBut IsPart new.files
      → ((name : List ℕ) → name ≢ part_name one.id.0 one.epoch.0 → contents_of new.files name ≡ contents_of old.files name) → Sits good says history gate covers new
  sits_part old new sits state facts quiet others = record {
    rests = resting.rests_with good says history gate covers covers old new state facts sits.rests;
    quiet = quiet;
    stand = λ k item at brought.
        others_stand old.files new.files (part_name item.id.0 item.epoch.0) (others (part_name item.id.0 item.epoch.0) (parts_apart old sits k item at brought)) (sits.stand k item at brought);
    ends = if_map good (EndsLive covers (items_of history) old.files) (EndsLive covers (items_of history) new.files)
        (λ ends k item at brought none bytes reads. ends k item at brought none bytes (sym (others (part_name item.id.0 item.epoch.0) (parts_apart old sits k item at brought)) ∙ reads)) sits.ends;
  }

  sits_removed : (answer : Result (Unit {0}) DiskFault) (old disk : DiskState) → RemoveStep (files_place (part_name one.id.0 one.epoch.0)) answer old disk → Sits good says history gate covers old → Sits good says history gate covers disk
  sits_removed answer old disk taken sits =
      sits_part old disk sits (removed_state (part_name one.id.0 one.epoch.0) answer old disk taken) (facts_discard says covers (items_of history) old disk answer id.0 one there_in (smalls old sits) untold taken)
      (quiet_remove IsPart answer old disk sits.quiet (files_place (part_name one.id.0 one.epoch.0)) (part_is old sits) taken) (removed_read (part_name one.id.0 one.epoch.0) answer old disk taken)

  sits_created : (answer : Result (Unit {0}) DiskFault) (old disk : DiskState) → CreateStep (files_place (part_name one.id.0 one.epoch.0)) answer old disk → Sits good says history gate covers old → Sits good says history gate covers disk
  sits_created answer old disk taken sits =
      sits_part old disk sits (created_state (part_name one.id.0 one.epoch.0) answer old disk taken) (facts_create says covers (items_of history) old disk answer id.0 one there_in (smalls old sits) untold taken)
      (quiet_create IsPart answer old disk sits.quiet (files_place (part_name one.id.0 one.epoch.0)) (part_is old sits) taken) (created_read (part_name one.id.0 one.epoch.0) answer old disk taken)

  sits_named : (answer : Result (Unit {0}) DiskFault) (old disk : DiskState) → SyncNamesStep Files answer old disk → Sits good says history gate covers old → Sits good says history gate covers disk
  sits_named answer old disk taken sits = resting.sits_stay good says history gate covers old disk (names_stay says answer old disk taken) sits

  pub sits_gone : (old middle : Clock) → (middle ≡ old) ⊎ IsRemoval (files_place (part_name one.id.0 one.epoch.0)) old middle → Sits good says history gate covers (now old) → Throughout old middle (Sits good says history gate covers)
  sits_gone old middle (inl same) sits = subst (λ (c : Clock). Throughout old c (Sits good says history gate covers)) (sym same) (at_start old (Sits good says history gate covers) sits)
  sits_gone old middle (inr gone) sits =
      over_one old middle (Sits good says history gate covers) (RemoveStep (files_place (part_name one.id.0 one.epoch.0)) gone.answer) gone.run sits (λ disk taken. sits_removed gone.answer (now old) disk taken sits)

  sits_turn : (answer : Result (Unit {0}) DiskFault) (middle new : Clock) → InTurn (CreateStep (files_place (part_name one.id.0 one.epoch.0))) (SyncNamesStep Files) answer middle new → Sits good says history gate covers (now middle)
      → Throughout middle new (Sits good says history gate covers)
  sits_turn answer middle new turn sits =
      over_two middle new (Sits good says history gate covers) (CreateStep (files_place (part_name one.id.0 one.epoch.0))) (SyncNamesStep Files) answer turn sits
      (λ other disk taken. sits_created other (now middle) disk taken sits) (λ other between disk here first second. sits_named other between disk second here)

  pub sits_made : (answer : Result (Unit {0}) DiskFault) (middle new : Clock) → IsMaking (files_place (part_name one.id.0 one.epoch.0)) middle new answer → Sits good says history gate covers (now middle) → Throughout middle new (Sits good says history gate covers)
  sits_made (Ok done) middle new turn sits = sits_turn (Ok tt) middle new turn sits
  sits_made (Err fault) middle new (inl same) sits = subst (λ (c : Clock). Throughout middle c (Sits good says history gate covers)) (sym same) (at_start middle (Sits good says history gate covers) sits)
  sits_made (Err fault) middle new (inr turn) sits = sits_turn (Err fault) middle new turn sits

  -- so at each moment
  pub sits_renewed : (answer : Result (Unit {0}) DiskFault) (old new : Clock) → Renews (files_place (part_name one.id.0 one.epoch.0)) old new answer → Sits good says history gate covers (now old) → Throughout old new (Sits good says history gate covers)
  sits_renewed answer old new run sits =
      let first = sits_gone old run.middle run.removed sits in
      joined old run.middle new (Sits good says history gate covers) first (sits_made answer run.middle new run.made (at_end old run.middle (Sits good says history gate covers) first))

-- a making that took its turn
pub making_of : (part : Place) (middle new : Clock) (answer : Result (Unit {0}) DiskFault) → InTurn (CreateStep part) (SyncNamesStep part.area) answer middle new → IsMaking part middle new answer
making_of part middle new (Ok done) turn = turn
making_of part middle new (Err fault) turn = inr turn

-- Under other names nothing changes.

sound_at : (first last : Clock) (P : DiskState → Type 0) → Throughout first last P → ((t : ℕ) → IsSoundDisk (last.at t)) → IsSoundDisk (now first)
sound_at first last P through sound = subst IsSoundDisk (through.kept first.moment (omega arith)) (sound first.moment)

module _ (part : List ℕ) (is : IsPart part) where
  besides_gone : (old middle : Clock) → IsSoundDisk (now old) → (middle ≡ old) ⊎ IsRemoval (files_place part) old middle → Besides IsPart old middle
  besides_gone old middle sound (inl same) = besides_stay IsPart old middle same
  besides_gone old middle sound (inr gone) = besides_remove IsPart gone.answer old middle sound (files_place part) is gone.run

  besides_twice : (answer : Result (Unit {0}) DiskFault) (middle new : Clock) → ((t : ℕ) → IsSoundDisk (new.at t)) → IsSoundDisk (now middle) → Twice middle new (CreateStep (files_place part) (Ok tt)) (SyncNamesStep Files answer) → Besides IsPart middle new
  besides_twice answer middle new sound here run =
      let between : IsSoundDisk (now run.middle) = subst IsSoundDisk (run.after.kept run.middle.moment (omega arith)) (sound run.middle.moment) in
      besides_then IsPart middle run.middle new (besides_create IsPart (Ok tt) middle run.middle here (files_place part) is run.before) (besides_names IsPart answer run.middle new between Files run.after)

  besides_turn : (answer : Result (Unit {0}) DiskFault) (middle new : Clock) → ((t : ℕ) → IsSoundDisk (new.at t)) → IsSoundDisk (now middle) → InTurn (CreateStep (files_place part)) (SyncNamesStep Files) answer middle new → Besides IsPart middle new
  besides_turn (Ok done) middle new sound here run = besides_twice (Ok tt) middle new sound here run
  besides_turn (Err fault) middle new sound here (inl failed) = besides_create IsPart (Err fault) middle new here (files_place part) is failed
  besides_turn (Err fault) middle new sound here (inr run) = besides_twice (Err fault) middle new sound here run

  besides_made : (answer : Result (Unit {0}) DiskFault) (middle new : Clock) → ((t : ℕ) → IsSoundDisk (new.at t)) → IsSoundDisk (now middle) → IsMaking (files_place part) middle new answer → Besides IsPart middle new
  besides_made (Ok done) middle new sound here run = besides_turn (Ok tt) middle new sound here run
  besides_made (Err fault) middle new sound here (inl same) = besides_stay IsPart middle new same
  besides_made (Err fault) middle new sound here (inr run) = besides_turn (Err fault) middle new sound here run

  -- given that the moments before are those that they were
  pub besides_renewed : (answer : Result (Unit {0}) DiskFault) (old new : Clock) (P : DiskState → Type 0) → ((t : ℕ) → IsSoundDisk (new.at t)) → Throughout old new P → (run : Renews (files_place part) old new answer) → Throughout run.middle new P
      → Besides IsPart old new
  besides_renewed answer old new P sound whole run later =
      besides_then IsPart old run.middle new (besides_gone old run.middle (sound_at old new P whole sound) run.removed) (besides_made answer run.middle new sound (sound_at run.middle new P later sound) run.made)
