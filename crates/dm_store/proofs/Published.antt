-- What is kept where a file is given its name.
use Rattle.std.proofs.Common.{◌≡◌, ◌≢◌, ◌⊎◌, inl, inr, ℕ, Bool, true, false, ◌&&◌, IsTrue, List, [], ◌++◌, Option, Some, None, Result, Ok, Err, refl, sym, ◌∙◌, ap, subst, arith}
use Rattle.std.specs.Prelude.{IsSome, is_some}
use Rattle.std.specs.Option.{option_map}
use Rattle.std.proofs.lemmas.Bool.{false≢true}
use Rattle.dm_types.specs.Name.{IsPart, part_name}
use Rattle.dm_types.specs.declared.item.Item.{Item}
use Rattle.dm_types.specs.declared.item.Phase.{Phase}
use Rattle.dm_types.specs.declared.item.Phase.TheVariants as phases
use Rattle.dm_disk_model.specs.declared.place.Area.TheVariants.{Files}
use Rattle.dm_disk_model.specs.declared.place.DiskFault.{DiskFault}
use Rattle.dm_disk_model.specs.declared.place.Place.{Place}
use Rattle.dm_disk_model.specs.Beside.{Besides}
use Rattle.dm_disk_model.specs.Disk.{DiskState, History as Clock, IsSoundDisk, RenameStep, Stands, SyncNamesStep, now, bytes_at}
use Rattle.dm_disk_model.specs.File.{File}
use Rattle.dm_disk_model.specs.Folder.{Names, Renamed, after_change, contents_of, names_of, with_name}
use Rattle.dm_disk_model.specs.Moments.{Throughout}
use Rattle.dm_disk_model.proofs.Beside.{besides_names, besides_rename, besides_then}
use Rattle.dm_disk_model.proofs.Firmness.{all_firm}
use Rattle.dm_disk_model.proofs.PendingNames.{names_more, with_name_cases, with_name_same}
use Rattle.dm_disk_model.proofs.Reaching.{at_end, weaker}
use Rattle.dm_item.specs.Fields.{is_running}
use Rattle.dm_item.specs.Lawful.{History, IsOf, items_of}
use Rattle.dm_item.specs.Listing.{Listing, item_in}
use Rattle.dm_item.proofs.Shorts.{sound_in}
use Rattle.dm_part.specs.Keeping.{Moving, Stage}
use Rattle.dm_part.specs.Laws.{files_place}
use Rattle.dm_part.specs.Publish.{Moves}
use Rattle.dm_part.specs.Runs.{InTurn, Twice}
use Rattle.dm_part.proofs.Names.{one_name}
use Rattle.dm_part.proofs.Turns.{over_two}
use Rattle.dm_kept.specs.Files.{Covers, EachItem, EndsLive, Facts, FileKept, IsSmall, PartsStand, Says, brings, claim_of, live_of, says_all, stage_of}
use Rattle.dm_kept.specs.Kept.{Kept, Rests, Sits}
use Rattle.dm_kept.specs.Recovery.{Through}
use Rattle.dm_kept.proofs.Entered.{items_are}
use Rattle.dm_kept.proofs.Flags.{if_two}
use Rattle.dm_kept.proofs.Frame.{facts_rename, names_stay}
use Rattle.dm_kept.proofs.Lists.{id_in, some_is}
use Rattle.dm_kept.proofs.Ranges.{NamesDiffer, names_differ, small_items}
use Rattle.dm_kept.proofs.Resting as resting
use Rattle.dm_store.specs.Keeps.{HoldsOf, IsDesk, Keeps, RestsBy}
use Rattle.dm_store.specs.Lives.{covers_of}
use Rattle.dm_store.specs.Publishing.{IsMoving, IsPartOr}
use Rattle.dm_store.specs.View.{View}
use Rattle.dm_store.proofs.Found.{There, there_is}
use Rattle.dm_store.proofs.Keeping.{at_rest, step_desk, step_keeps, whole_loses}

-- a rename takes no file from another name than the old one
pub rename_leaves : (names : Names) (from to name : List ℕ) → name ≢ from → IsSome (names from) → IsSome (names name) → IsSome (after_change names (Renamed from to) name)
rename_leaves names from to name apart stands some = by (with_name_cases (with_name names from None) to (names from) name) (with_name_cases names from None name)
  where
    by : ((name ≡ to) × (with_name (with_name names from None) to (names from) name ≡ names from)) ⊎ ((name ≢ to) × (with_name (with_name names from None) to (names from) name ≡ with_name names from None name))
        → ((name ≡ from) × (with_name names from None name ≡ None)) ⊎ ((name ≢ from) × (with_name names from None name ≡ names name)) → IsSome (after_change names (Renamed from to) name)
    by (inl here) other = subst (λ (n : Option ℕ). IsSome n) (sym here.1) stands
    by (inr there) (inl same) = absurd (apart same.0)
    by (inr there) (inr still) = subst (λ (n : Option ℕ). IsSome n) (sym (there.1 ∙ still.1)) some

-- the journal's folder stays
renamed_state : (from to : List ℕ) (answer : Result (Unit {0}) DiskFault) (old disk : DiskState) → RenameStep (files_place from) (files_place to) answer old disk → disk.state ≡ old.state
renamed_state from to (Ok done) old disk taken = taken.1
renamed_state from to (Err fault) old disk (inl taken) = taken.1
renamed_state from to (Err fault) old disk (inr same) = ap (λ (d : DiskState). d.state) same

-- an item that is being finished brings nothing
finishing_idle : (phase : Phase) (described : Bool) → phase ≡ phases.Finishing → IsTrue (is_running phase && described) → ⊥
finishing_idle phase described is runs = false≢true (subst (λ (p : Phase). IsTrue (is_running p && described)) is runs)

module _ (good : Bool) (says : Says) (history : History) (gate : ℕ) (covers : Covers) (v : Listing) (is_of : IsOf history v) (id : ℕ) (one : Item) (there : item_in id v.items ≡ Some one) (finishing : one.phase ≡ phases.Finishing)
    (name : List ℕ) (name_is : one.name ≡ Some name) (old new : Clock) (sound : IsSoundDisk (now old)) (stands : Stands (now old) (files_place (part_name one.id.0 one.epoch.0))) where
  abbrev part : List ℕ
  part = part_name one.id.0 one.epoch.0

  there_in : item_in id (items_of history) ≡ Some one
  there_in = subst (λ (list : List Item). item_in id list ≡ Some one) (items_are history v is_of) there

  differ : NamesDiffer (items_of history)
  differ = subst NamesDiffer (items_are history v is_of) (names_differ history v is_of)

  moving : stage_of one.phase ≡ Some Moving
  moving = ap stage_of finishing

  described : is_some one.key ≡ true
  described = sym (sound_in history v id one is_of there).told.has_name ∙ ap (λ (n : Option (List ℕ)). is_some n) name_is

  key_there : There one.key
  key_there = there_is one.key described

  address_there : There one.last_address
  address_there = there_is one.last_address ((sound_in history v id one is_of there).told.has_address ∙ described)

  -- where the facts hold, the name is no part's
  no_part : Facts says covers (items_of history) (now old).files → IsPart name → ⊥
  no_part facts =
      (subst (λ (s : Option Stage). FileKept (says address_there.it key_there.it) (now old).files s (claim_of name (live_of covers one) one)) moving
      (facts id one there_in key_there.it address_there.it name key_there.is address_there.is name_is)).1

  module _ (rests : Rests good says history gate covers (now old)) where
    small : EachItem IsSmall (items_of history)
    small = small_items history rests.taken.lawful rests.entries

    renamed_rests : (answer : Result (Unit {0}) DiskFault) (disk : DiskState) → RenameStep (files_place part) (files_place name) answer (now old) disk → Rests good says history gate covers disk
    renamed_rests answer disk taken =
        resting.rests_with good says history gate covers covers (now old) disk (renamed_state part name answer (now old) disk taken)
        (facts_rename says covers (items_of history) (now old) disk answer id one key_there.it address_there.it name there_in small sound key_there.is address_there.is name_is moving differ stands taken) rests

    -- the journal and the facts of all items stay at each moment
    pub each_rests : (result : Result (Unit {0}) DiskFault) → InTurn (RenameStep (files_place part) (files_place name)) (SyncNamesStep Files) result old new → Throughout old new (Rests good says history gate covers)
    each_rests result run =
        over_two old new (Rests good says history gate covers) (RenameStep (files_place part) (files_place name)) (SyncNamesStep Files) result run rests renamed_rests
        (λ answer middle disk here renamed taken.
        let stays = names_stay says answer middle disk taken in
        resting.rests_with good says history gate covers covers middle disk stays.state (stays.facts covers (items_of history)) here)

    -- an item that brings content has another part
    other_part : (k : ℕ) (item : Item) → item_in k (items_of history) ≡ Some item → IsTrue (brings item) → part_name item.id.0 item.epoch.0 ≢ part
    other_part k item is brought same =
        let theirs = small k item is in
        let mine = small id one there_in in
        let ids : item.id.0 ≡ one.id.0 = (one_name item.id.0 item.epoch.0 one.id.0 one.epoch.0 theirs.id theirs.epoch mine.id mine.epoch same).0 in
        let at : k ≡ id = sym (id_in k item (items_of history) is) ∙ ids ∙ id_in id one (items_of history) there_in in
        let it : item ≡ one = some_is item one (sym (subst (λ (n : ℕ). item_in n (items_of history) ≡ Some item) at is) ∙ there_in) in
        finishing_idle one.phase (is_some one.key) finishing (subst (λ (i : Item). IsTrue (brings i)) it brought)

  module _ (sits : Sits good says history gate covers (now old)) (run : Twice old new (RenameStep (files_place part) (files_place name) (Ok tt)) (SyncNamesStep Files (Ok tt)))
      (moves : part ≢ name → Moves (files_place part) (files_place name) (Ok tt) (now old) (now new)) where
    abbrev middle : DiskState
    middle = now run.middle

    pub names_after_it : names_of (now new).files ≡ after_change (names_of (now old).files) (Renamed part name)
    names_after_it =
        (names_stay says (Ok tt) (now run.middle) (now new) run.after.stepped).names
        ∙ names_more (now old).files (now run.middle).files (Renamed part name) run.before.stepped.0.synced run.before.stepped.0.changes

    -- the file has its name
    pub target_stands : Stands (now new) (files_place name)
    target_stands =
        subst (λ (names : Names). IsSome (names name)) (sym names_after_it)
        (subst (λ (n : Option ℕ). IsSome n) (sym (with_name_same (with_name (names_of (now old).files) part None) name (names_of (now old).files part))) stands)

    -- and reads under it as the part did
    pub target_reads : contents_of (now new).files name ≡ contents_of (now old).files part
    target_reads =
        (names_stay says (Ok tt) (now run.middle) (now new) run.after.stepped).reads name
        ∙ ap (λ (file : ℕ → File). option_map (λ (number : ℕ). (file number).bytes) (names_of (now run.middle).files name)) run.before.stepped.0.files
        ∙ ap (λ (names : Names). option_map (λ (number : ℕ). ((now old).files.file number).bytes) (names name)) (names_more (now old).files (now run.middle).files (Renamed part name) run.before.stepped.0.synced run.before.stepped.0.changes)
        ∙ ap (option_map (λ (number : ℕ). ((now old).files.file number).bytes)) (with_name_same (with_name (names_of (now old).files) part None) name (names_of (now old).files part))

    stand : PartsStand (items_of history) (now new).files
    stand k item is brought =
        subst (λ (names : Names). IsSome (names (part_name item.id.0 item.epoch.0))) (sym names_after_it)
        (rename_leaves (names_of (now old).files) part name (part_name item.id.0 item.epoch.0) (other_part sits.rests k item is brought) stands (sits.stand k item is brought))

    own_name : Facts says covers (items_of history) (now old).files → part ≢ name
    own_name facts same =
        let mine = small sits.rests id one there_in in
        no_part facts (record { id = one.id.0; epoch = one.epoch.0; small = (mine.id, mine.epoch); is = sym same })

    ends : Facts says covers (items_of history) (now old).files → EndsLive covers (items_of history) (now old).files → EndsLive covers (items_of history) (now new).files
    ends facts before k item is brought none bytes reads =
        let theirs = small sits.rests k item is in
        let mine : List ℕ = part_name item.id.0 item.epoch.0 in
        let moved = moves (own_name facts) in
        let same : contents_of (now new).files mine ≡ contents_of (now old).files mine =
        moved.others (files_place mine) (λ e. other_part sits.rests k item is brought (ap (λ (p : Place). p.name) e))
        (λ e. no_part facts (record { id = item.id.0; epoch = item.epoch.0; small = (theirs.id, theirs.epoch); is = sym (ap (λ (p : Place). p.name) e) })) in
        before k item is brought none bytes (sym same ∙ reads)

    pub sits_named : Sits good says history gate covers (now new)
    sits_named = record {
      rests = at_end old new (Rests good says history gate covers) (each_rests sits.rests (Ok tt) run);
      quiet = λ other not. all_firm (now run.middle) (now new) run.after.stepped other;
      stand = stand;
      ends = if_two good (Facts says covers (items_of history) (now old).files) (EndsLive covers (items_of history) (now old).files) (EndsLive covers (items_of history) (now new).files) ends sits.rests.facts sits.ends;
    }

-- at each moment it recovers
each_kept : (good : Bool) (says : Says) (history : History) (gate : ℕ) (covers : Covers) (old new : Clock) → Throughout old new (Rests good says history gate covers) → Throughout old new (Kept good says (Through history []))
each_kept good says history gate covers old new =
    weaker old new (Rests good says history gate covers) (Kept good says (Through history [])) (λ disk rests. resting.rests_kept good says history [] gate covers disk rests)

-- A desk that publishes a file.
module _ {D O : Type 0} (tells : Type 0) (clock : D → Clock) (says : O → Says) (desk : View D O) (disk : D) (is : IsDesk tells clock desk) (whole : desk.broken ≡ false) (id : ℕ) (part target : Place)
    (is_moving : IsMoving desk.items.items id part target) (sound : tells → (t : ℕ) → IsSoundDisk ((clock disk).at t)) (start_sound : tells → IsSoundDisk (now (clock desk.disk))) (stands : tells → Stands (now (clock desk.disk)) part) where
  part_stands : tells → Stands (now (clock desk.disk)) (files_place (part_name is_moving.item.id.0 is_moving.item.epoch.0))
  part_stands told = subst (Stands (now (clock desk.disk))) is_moving.part_is (stands told)

  the_run : (result : Result (Unit {0}) DiskFault) → InTurn (RenameStep part target) (SyncNamesStep target.area) result (clock desk.disk) (clock disk)
      → InTurn (RenameStep (files_place (part_name is_moving.item.id.0 is_moving.item.epoch.0)) (files_place is_moving.name)) (SyncNamesStep Files) result (clock desk.disk) (clock disk)
  the_run result run =
      subst (λ (p : Place). InTurn (RenameStep p (files_place is_moving.name)) (SyncNamesStep Files) result (clock desk.disk) (clock disk)) is_moving.part_is
      (subst (λ (t : Place). InTurn (RenameStep part t) (SyncNamesStep t.area) result (clock desk.disk) (clock disk)) is_moving.target_is run)

  rests_each : (result : Result (Unit {0}) DiskFault) → tells → InTurn (RenameStep part target) (SyncNamesStep target.area) result (clock desk.disk) (clock disk) → (good : Bool) (said : Says) (before : History)
      → HoldsOf good said clock desk before → Throughout (clock desk.disk) (clock disk) (Rests good said before desk.gate (covers_of desk.lives))
  rests_each result told run good said before holds =
      each_rests good said before desk.gate (covers_of desk.lives) desk.items holds.items id is_moving.item is_moving.there is_moving.finishing is_moving.name is_moving.name_is (clock desk.disk) (clock disk) (start_sound told) (part_stands told)
      (at_rest good said clock desk before whole holds).rests result (the_run result run)

  -- After a fault it is broken, and its journal is as it was.
  fell : (result : Result (Unit {0}) DiskFault) → (tells → InTurn (RenameStep part target) (SyncNamesStep target.area) result (clock desk.disk) (clock disk)) → tells → (good : Bool) (said : Says) (before : History) → HoldsOf good said clock desk before
      → Throughout (clock desk.disk) (clock disk) (Kept good said (Through before [])) × HoldsOf good said clock (record desk { disk = disk; broken = true }) before
  fell result run told good said before holds =
      let kept = each_kept good said before desk.gate (covers_of desk.lives) (clock desk.disk) (clock disk) (rests_each result told (run told) good said before holds) in (
        kept,
        record {
          items = holds.items;
          rests = subst (λ (h : History). Kept good said (Through before h) (now (clock disk))) (sym (is.failed whole)) (at_end (clock desk.disk) (clock disk) (Kept good said (Through before [])) kept);
        },
      )

  pub fell_keeps : (result : Result (Unit {0}) DiskFault) → (tells → InTurn (RenameStep part target) (SyncNamesStep target.area) result (clock desk.disk) (clock disk)) → Keeps tells clock says desk (record desk { disk = disk; broken = true })
  fell_keeps result run =
      step_keeps tells clock says desk (record desk { disk = disk; broken = true }) refl (is.failed whole) (fell result run)
      (λ told good said before holds broken.
      resting.rests_leaves good said before desk.gate (covers_of desk.lives) (now (clock disk)) (sound told (clock disk).moment)
      (at_end (clock desk.disk) (clock disk) (Rests good said before desk.gate (covers_of desk.lives)) (rests_each result told (run told) good said before holds)))

  pub fell_desk : (result : Result (Unit {0}) DiskFault) → (tells → InTurn (RenameStep part target) (SyncNamesStep target.area) result (clock desk.disk) (clock disk)) → IsDesk tells clock (record desk { disk = disk; broken = true })
  fell_desk result run =
      step_desk tells clock says desk (record desk { disk = disk; broken = true }) refl (is.failed whole) (fell result run) is refl refl refl (λ unbroken. absurd (false≢true (sym unbroken)))

  -- After Ok the file has its name.
  module _ (run : tells → InTurn (RenameStep part target) (SyncNamesStep target.area) (Ok tt) (clock desk.disk) (clock disk))
      (moves : tells → part.name ≢ target.name → Moves part target (Ok tt) (now (clock desk.disk)) (now (clock disk))) where
    own_moves : tells → part_name is_moving.item.id.0 is_moving.item.epoch.0 ≢ is_moving.name
        → Moves (files_place (part_name is_moving.item.id.0 is_moving.item.epoch.0)) (files_place is_moving.name) (Ok tt) (now (clock desk.disk)) (now (clock disk))
    own_moves told =
        subst (λ (p : Place). p.name ≢ is_moving.name → Moves p (files_place is_moving.name) (Ok tt) (now (clock desk.disk)) (now (clock disk))) is_moving.part_is
        (subst (λ (t : Place). part.name ≢ t.name → Moves part t (Ok tt) (now (clock desk.disk)) (now (clock disk))) is_moving.target_is (moves told))

    named : tells → (good : Bool) (said : Says) (before : History) → HoldsOf good said clock desk before
        → Throughout (clock desk.disk) (clock disk) (Kept good said (Through before [])) × HoldsOf good said clock (record desk { disk = disk }) before
    named told good said before holds = (
      each_kept good said before desk.gate (covers_of desk.lives) (clock desk.disk) (clock disk) (rests_each (Ok tt) told (run told) good said before holds),
      record {
        items = holds.items;
        rests = subst (λ (b : Bool). RestsBy b good said before desk.failed desk.gate (covers_of desk.lives) (now (clock disk))) (sym whole)
            (sits_named good said before desk.gate (covers_of desk.lives) desk.items holds.items id is_moving.item is_moving.there is_moving.finishing is_moving.name is_moving.name_is (clock desk.disk) (clock disk) (start_sound told) (part_stands told)
            (at_rest good said clock desk before whole holds) (the_run (Ok tt) (run told)) (own_moves told));
      },
    )

    pub named_keeps : Keeps tells clock says desk (record desk { disk = disk })
    named_keeps = step_keeps tells clock says desk (record desk { disk = disk }) refl (is.failed whole) named (whole_loses tells clock desk (record desk { disk = disk }) whole)

    pub named_desk : IsDesk tells clock (record desk { disk = disk })
    named_desk = step_desk tells clock says desk (record desk { disk = disk }) refl (is.failed whole) named is refl refl refl (λ unbroken. is.lives whole)

    pub named_stands : tells → Stands (now (clock disk)) target
    named_stands told =
        let history : History = is.founded.before ++ desk.list in
        let holds = is.founded.holds told in
        subst (Stands (now (clock disk))) (sym is_moving.target_is)
        (target_stands false says_all history desk.gate (covers_of desk.lives) desk.items holds.items id is_moving.item is_moving.there is_moving.finishing is_moving.name is_moving.name_is (clock desk.disk) (clock disk) (start_sound told) (part_stands told)
        (at_rest false says_all clock desk history whole holds) (the_run (Ok tt) (run told)) (own_moves told))

    pub named_names : tells → names_of (now (clock disk)).files ≡ after_change (names_of (now (clock desk.disk)).files) (Renamed part.name target.name)
    named_names told =
        let history : History = is.founded.before ++ desk.list in
        let holds = is.founded.holds told in
        let own = names_after_it false says_all history desk.gate (covers_of desk.lives) desk.items holds.items id is_moving.item is_moving.there is_moving.finishing is_moving.name is_moving.name_is (clock desk.disk) (clock disk) (start_sound told) (part_stands told)
        (at_rest false says_all clock desk history whole holds) (the_run (Ok tt) (run told)) (own_moves told) in
        subst (λ (p : Place). names_of (now (clock disk)).files ≡ after_change (names_of (now (clock desk.disk)).files) (Renamed p.name target.name)) (sym is_moving.part_is)
        (subst (λ (t : Place). names_of (now (clock disk)).files ≡ after_change (names_of (now (clock desk.disk)).files) (Renamed (part_name is_moving.item.id.0 is_moving.item.epoch.0) t.name)) (sym is_moving.target_is) own)

    pub named_reads : tells → bytes_at (now (clock disk)) target ≡ bytes_at (now (clock desk.disk)) part
    named_reads told =
        let history : History = is.founded.before ++ desk.list in
        let holds = is.founded.holds told in
        let own = target_reads false says_all history desk.gate (covers_of desk.lives) desk.items holds.items id is_moving.item is_moving.there is_moving.finishing is_moving.name is_moving.name_is (clock desk.disk) (clock disk) (start_sound told) (part_stands told)
        (at_rest false says_all clock desk history whole holds) (the_run (Ok tt) (run told)) (own_moves told) in
        subst (λ (p : Place). bytes_at (now (clock disk)) target ≡ bytes_at (now (clock desk.disk)) p) (sym is_moving.part_is)
        (subst (λ (t : Place). bytes_at (now (clock disk)) t ≡ bytes_at (now (clock desk.disk)) (files_place (part_name is_moving.item.id.0 is_moving.item.epoch.0))) (sym is_moving.target_is) own)

  -- No other name is touched.

  is_part : tells → IsPart part.name
  is_part told =
      let history : History = is.founded.before ++ desk.list in
      let rests = (at_rest false says_all clock desk history whole (is.founded.holds told)).rests in
      let mine = small_items history rests.taken.lawful rests.entries id is_moving.item (subst (λ (list : List Item). item_in id list ≡ Some is_moving.item) (items_are history desk.items is.founded.items) is_moving.there) in
      record { id = is_moving.item.id.0; epoch = is_moving.item.epoch.0; small = (mine.id, mine.epoch); is = ap (λ (p : Place). p.name) is_moving.part_is }

  middle_sound : tells → (result : Result (Unit {0}) DiskFault) (twice : Twice (clock desk.disk) (clock disk) (RenameStep part target (Ok tt)) (SyncNamesStep target.area result)) → IsSoundDisk (now twice.middle)
  middle_sound told result twice = subst IsSoundDisk (twice.after.kept twice.middle.moment (omega arith)) (sound told twice.middle.moment)

  twice_beside : tells → (result : Result (Unit {0}) DiskFault) → Twice (clock desk.disk) (clock disk) (RenameStep part target (Ok tt)) (SyncNamesStep target.area result) → Besides (IsPartOr target.name) (clock desk.disk) (clock disk)
  twice_beside told result twice =
      besides_then (IsPartOr target.name) (clock desk.disk) twice.middle (clock disk)
      (besides_rename (IsPartOr target.name) (Ok tt) (clock desk.disk) twice.middle (start_sound told) part target (inl (is_part told)) (inr refl) twice.before)
      (besides_names (IsPartOr target.name) result twice.middle (clock disk) (middle_sound told result twice) target.area twice.after)

  pub named_beside : tells → (result : Result (Unit {0}) DiskFault) → InTurn (RenameStep part target) (SyncNamesStep target.area) result (clock desk.disk) (clock disk) → Besides (IsPartOr target.name) (clock desk.disk) (clock disk)
  named_beside told (Ok done) twice = twice_beside told (Ok tt) twice
  named_beside told (Err fault) (inl refused) = besides_rename (IsPartOr target.name) (Err fault) (clock desk.disk) (clock disk) (start_sound told) part target (inl (is_part told)) (inr refl) refused
  named_beside told (Err fault) (inr twice) = twice_beside told (Err fault) twice

-- both places are among the user's files
pub one_area : (items : List Item) (id : ℕ) (part target : Place) → IsMoving items id part target → target.area ≡ part.area
one_area items id from to is = ap (λ (p : Place). p.area) is.target_is ∙ sym (ap (λ (p : Place). p.area) is.part_is)
