-- A desk on which a piece may land, and what it keeps where the piece is written.
use Rattle.std.proofs.Common.{◌≡◌, ◌≢◌, ℕ, zero, suc, get_or, ◌+◌, ◌*◌, ◌<◌, ◌≤◌, ◌^◌, ◌==◌, cond, Bool, true, false, ◌&&◌, IsTrue, List, [], ◌∷◌, ◌++◌, length, drop, Option, Some, None, Result, Ok, Err, refl, sym, ◌∙◌, ap, subst, arith}
use Rattle.std.specs.Prelude.{IfSome, IsSomeAnd, is_some, slice_get}
use Rattle.std.specs.Option.{option_map}
use Rattle.std.proofs.lemmas.Bool.{false≢true}
use Rattle.std.proofs.lemmas.List.{append-nil}
use Rattle.std.proofs.lemmas.List.Quantifiers.{position-Some}
use Rattle.std.proofs.Math.Seq.{drop-length}
use Rattle.dm_types.specs.Limits.{IsLimits}
use Rattle.dm_types.specs.Name.{IsPart, part_name}
use Rattle.dm_types.specs.declared.item.Item.{Item}
use Rattle.dm_types.specs.declared.item.ItemId.{ItemId}
use Rattle.dm_types.specs.declared.item.Limits.{Limits}
use Rattle.dm_types.specs.declared.item.Key.{Key}
use Rattle.dm_types.specs.declared.item.Phase.{Phase}
use Rattle.dm_types.specs.declared.item.Phase.TheVariants as phases
use Rattle.dm_types.specs.declared.slices.Slice.{Slice}
use Rattle.dm_slice.specs.Cover.{grown, limit_at, next_of}
use Rattle.dm_disk_model.specs.declared.place.DiskFault.{DiskFault}
use Rattle.dm_disk_model.specs.declared.place.Place.{Place}
use Rattle.dm_disk_model.specs.Beside.{Besides, IsFirmBut}
use Rattle.dm_disk_model.specs.Disk.{History as Clock, IsSoundDisk, Next, Stands, WriteStep, bytes_at, now}
use Rattle.dm_disk_model.specs.File.{overwrite}
use Rattle.dm_disk_model.specs.Moments.{Throughout}
use Rattle.dm_disk_model.proofs.Beside.{besides_write}
use Rattle.dm_disk_model.proofs.Firmness.{quiet_write}
use Rattle.dm_disk_model.proofs.Reaching.{over_call}
use Rattle.dm_item.specs.Fields.{is_running}
use Rattle.dm_item.specs.Lawful.{History, IsOf, items_of}
use Rattle.dm_item.specs.Listing.{item_in}
use Rattle.dm_part.specs.Laws.{files_place}
use Rattle.dm_kept.specs.Files.{Covers, EndsLive, Facts, PartsStand, Says, brings, says_all}
use Rattle.dm_kept.specs.Kept.{Kept, Rests, Sits}
use Rattle.dm_kept.specs.Recovery.{Through}
use Rattle.dm_kept.proofs.Entered.{items_are}
use Rattle.dm_kept.proofs.Flags.{if_map}
use Rattle.dm_kept.proofs.Lists.{some_is}
use Rattle.dm_kept.proofs.Ranges.{small_items}
use Rattle.dm_kept.proofs.Resting as resting
use Rattle.dm_kept.proofs.Standing.{Ends}
use Rattle.dm_store.specs.declared.life.Life.{Life}
use Rattle.dm_store.specs.Keeps.{Goes, HoldsOf, IsDesk, Keeps, RestsBy}
use Rattle.dm_store.specs.Lives.{AreLives, IsLifeOf, LifeOf, changed_life, covers_of, life_in, part_place, place_of}
use Rattle.dm_store.specs.View.{View}
use Rattle.dm_store.proofs.Keeping.{at_rest}
use Rattle.dm_store.proofs.Lives.{changed_other, changed_own, no_place}
use Rattle.dm_answers.specs.declared.answer.SlicePass.{SlicePass}
use Rattle.dm_answers.specs.Land.{MayLand, SaysPiece, grown_life}
use Rattle.dm_answers.specs.Reads.{HasPiece, PartReads}
use Rattle.dm_answers.specs.Running.{RunsWith}
use Rattle.dm_answers.specs.Slices.{part_of}
use Rattle.dm_land.specs.Landing.{CanGrow, HasPlace}
use Rattle.dm_land.proofs.Grown.{bounded_grown, ends_within, grown_is, index_within, lives_grown, next_grown, next_low, room_at, room_of, told_by}
use Rattle.dm_land.proofs.Lifted.{less_sits}
use Rattle.dm_land.proofs.Written.{ends_landed, facts_landed, facts_written, other_reads, stand_written, state_written}

-- of a life
pub is_some_and : {A : Type 0} (found : Option A) (x : A) (P : A → Type 0) → found ≡ Some x → P x → IsSomeAnd found P
is_some_and None x P is holds = absurd cc
is_some_and (Some y) x P is holds = subst P (sym (some_is y x is)) holds

pub running_is : (phase : Phase) → IsTrue (is_running phase) → phase ≡ phases.Running
running_is phases.Running runs = refl
running_is phases.Waiting runs = absurd (false≢true runs)
running_is phases.Paused runs = absurd (false≢true runs)
running_is phases.Finishing runs = absurd (false≢true runs)
running_is phases.Complete runs = absurd (false≢true runs)
running_is phases.Cancelled runs = absurd (false≢true runs)
running_is (phases.Interrupted reason) runs = absurd (false≢true runs)

brought : (phase : Phase) (key : Option Key) → IsTrue (is_running phase) → is_some key ≡ true → IsTrue (is_running phase && is_some key)
brought phase key runs some = subst (λ (p : Phase). IsTrue (is_running p && is_some key)) (sym (running_is phase runs)) some

-- the origin says each byte, whatever the origin is, where every byte is said
pub all_said : (items : List Item) (id : ItemId) (at : ℕ) (piece : List ℕ) → SaysPiece says_all items id at piece
all_said items id at piece item key address there key_is address_is k byte is = tt

module _ {D O : Type 0} (tells : Type 0) (clock : D → Clock) (says : O → Says) (desk : View D O) (disk : D) (is : IsDesk tells clock desk) (whole : desk.broken ≡ false) (pass : SlicePass) (at : ℕ) (piece : List ℕ)
    (may : RunsWith desk pass.id pass.attempt (MayLand pass at (length piece) desk.limits.checkpoint)) (some : 1 ≤ length piece) (sound : tells → IsSoundDisk (now (clock desk.disk))) where
  own_life : IsLifeOf may.item may.life
  own_life = subst (LifeOf (Some may.item)) may.lives (subst (λ (found : Option Item). LifeOf found (life_in pass.id.0 desk.lives)) may.there (is.lives whole pass.id.0))

  told_is : is_some may.item.key ≡ true
  told_is = told_by may.item may.life pass.index (part_of pass) own_life may.is.fits.next.has.part

  room : at + length piece ≤ limit_at may.life.cover pass.index
  room = room_at may.item may.life pass.index at (length piece) (part_of pass) own_life may.is.fits.next.has.part may.is.fits.fits

  within : IfSome may.item.total (λ t. at + length piece ≤ t)
  within = ends_within may.item may.life pass.index at (length piece) (part_of pass) own_life may.is.fits.next.has.part may.is.fits.fits

  grown_own : IsLifeOf may.item (grown_life pass.index (length piece) may.life)
  grown_own = grown_is may.item may.life pass.index at (length piece) (part_of pass) own_life may.is.fits.next.has.part may.is.fits.next.next may.is.fits.fits some

  -- the life can have the piece
  pub can_grow : desk.limits.checkpoint ≤ 2 ^ 20 → length piece ≤ 2 ^ 16 → CanGrow desk.lives pass.id.0 pass.index (length piece)
  can_grow few small =
      let below = may.is.below in
      is_some_and (life_in pass.id.0 desk.lives) may.life (HasPlace pass.index (length piece)) may.lives (record {
        there = index_within may.life pass.index at may.is.fits.next.next;
        room = room_of may.life.cover pass.index at (length piece) may.is.fits.next.next room;
        fits = omega (arith, below, few, small);
      })

  -- it ends far below 2^63
  pub is_near : at + length piece < 2 ^ 63
  is_near =
      let low = next_low (grown may.life.cover pass.index (length piece)) pass.index (at + length piece) grown_own.cover (next_grown may.life.cover pass.index (length piece) at may.is.fits.next.next) in
      omega (arith, low)

  -- the part stands
  pub part_stands : tells → Stands (now (clock desk.disk)) may.life.part
  part_stands told =
      let history : History = is.founded.before ++ desk.list in
      let holds = is.founded.holds told in
      let sits = at_rest false says_all clock desk history whole holds in
      subst (Stands (now (clock desk.disk))) (sym own_life.part)
      (sits.stand pass.id.0 may.item (subst (λ (list : List Item). item_in pass.id.0 list ≡ Some may.item) (items_are history desk.items holds.items) may.there) (brought may.item.phase may.item.key may.runs told_is))

  -- What reads there behind a write.
  pub piece_reads : (new : View D O) → new.disk ≡ disk → ((file : List ℕ) → bytes_at (now (clock desk.disk)) may.life.part ≡ Some file → bytes_at (now (clock disk)) may.life.part ≡ Some (overwrite file at piece))
      → PartReads clock desk new pass.id (HasPiece at piece)
  piece_reads new same written item there file reads =
      let it : may.item ≡ item = some_is may.item item (sym may.there ∙ there) in
      let place : may.life.part ≡ part_place item.id.0 item.epoch.0 = own_life.part ∙ ap (λ (i : Item). part_place i.id.0 i.epoch.0) it in
      subst (λ (d : D). bytes_at (now (clock d)) (part_place item.id.0 item.epoch.0) ≡ Some (overwrite file at piece)) (sym same)
      (subst (λ (p : Place). bytes_at (now (clock disk)) p ≡ Some (overwrite file at piece)) place
      (written file (subst (λ (p : Place). bytes_at (now (clock desk.disk)) p ≡ Some file) (sym place) reads)))

  -- Whatever the write answers.
  module _ (answer : Result (Unit {0}) DiskFault) (run : tells → Next (clock desk.disk) (clock disk) (WriteStep may.life.part at piece answer)) where
    own_run : tells → Next (clock desk.disk) (clock disk) (WriteStep (files_place (part_name may.item.id.0 may.item.epoch.0)) at piece answer)
    own_run told = subst (λ (p : Place). Next (clock desk.disk) (clock disk) (WriteStep p at piece answer)) own_life.part (run told)

    cover_is : covers_of desk.lives pass.id.0 ≡ Some may.life.cover
    cover_is = ap (option_map (λ (l : Life). l.cover)) may.lives

    pub rests_at : tells → (good : Bool) (said : Says) (before : History) → HoldsOf good said clock desk before → Rests good said before desk.gate (covers_of desk.lives) (now (clock disk))
    rests_at told good said before holds =
        let rests = (at_rest good said clock desk before whole holds).rests in
        let taken = (own_run told).stepped in
        resting.rests_with good said before desk.gate (covers_of desk.lives) (covers_of desk.lives) (now (clock desk.disk)) (now (clock disk))
        (state_written (part_name may.item.id.0 may.item.epoch.0) at piece answer (now (clock desk.disk)) (now (clock disk)) taken)
        (facts_written said (covers_of desk.lives) before desk.items holds.items rests.entries pass.id may.item may.there may.runs told_is may.life.cover cover_is own_life.cover pass.index at piece may.is.fits.next.next room within (now (clock desk.disk)) (sound told)
        answer (now (clock disk)) taken) rests

    pub each_kept : tells → (good : Bool) (said : Says) (before : History) → HoldsOf good said clock desk before → Throughout (clock desk.disk) (clock disk) (Kept good said (Through before []))
    each_kept told good said before holds =
        over_call (clock desk.disk) (clock disk) (Kept good said (Through before [])) (WriteStep (files_place (part_name may.item.id.0 may.item.epoch.0)) at piece answer) (own_run told)
        (resting.rests_kept good said before [] desk.gate (covers_of desk.lives) (now (clock desk.disk)) (at_rest good said clock desk before whole holds).rests)
        (resting.rests_kept good said before [] desk.gate (covers_of desk.lives) (now (clock disk)) (rests_at told good said before holds))

    pub quiet_at : tells → (good : Bool) (said : Says) (before : History) → HoldsOf good said clock desk before → IsFirmBut IsPart (now (clock disk)).files
    quiet_at told good said before holds =
        quiet_write IsPart answer (now (clock desk.disk)) (now (clock disk)) (at_rest good said clock desk before whole holds).quiet (files_place (part_name may.item.id.0 may.item.epoch.0)) at piece (own_run told).stepped

    pub stand_at : tells → (good : Bool) (said : Says) (before : History) → HoldsOf good said clock desk before → PartsStand (items_of before) (now (clock disk)).files
    stand_at told good said before holds =
        stand_written (part_name may.item.id.0 may.item.epoch.0) at piece answer (items_of before) (now (clock desk.disk)) (now (clock disk)) (own_run told).stepped (at_rest good said clock desk before whole holds).stand

    -- the parts of the others end where they did
    pub other_ends : tells → (good : Bool) (said : Says) (before : History) → HoldsOf good said clock desk before → (k : ℕ) (item : Item) → k ≢ pass.id.0 → item_in k desk.items.items ≡ Some item
        → EndsLive (covers_of desk.lives) (items_of before) (now (clock desk.disk)).files → Ends (covers_of desk.lives) (now (clock disk)).files item
    other_ends told good said before holds k item apart found ends brings_it none bytes reads =
        let there_k : item_in k (items_of before) ≡ Some item = subst (λ (list : List Item). item_in k list ≡ Some item) (items_are before desk.items holds.items) found in
        ends k item there_k brings_it none bytes
        (sym (other_reads said (covers_of desk.lives) before desk.items holds.items (at_rest good said clock desk before whole holds).rests.entries pass.id may.item may.there may.runs told_is may.life.cover cover_is own_life.cover pass.index at piece may.is.fits.next.next
        room within (now (clock desk.disk)) (sound told) answer (now (clock disk)) (own_run told).stepped k item apart there_k)
        ∙ reads)

    -- the journal is held, and the names
    pub torn_holds : tells → (good : Bool) (said : Says) (before : History) → HoldsOf good said clock desk before → HoldsOf false said clock (record desk { disk = disk }) before
    torn_holds told good said before holds = record {
      items = holds.items;
      rests = subst (λ (b : Bool). RestsBy b false said before desk.failed desk.gate (covers_of desk.lives) (now (clock disk))) (sym whole)
          (less_sits good said before desk.gate (covers_of desk.lives) (now (clock disk)) (rests_at told good said before holds) (quiet_at told good said before holds) (stand_at told good said before holds));
    }

    pub torn_desk : IsDesk tells clock (record desk { disk = disk })
    torn_desk = record {
      limits_are = is.limits_are;
      limit = is.limit;
      founded = record {
        before = is.founded.before;
        entries = is.founded.entries;
        items = is.founded.items;
        holds = λ told. torn_holds told false says_all (is.founded.before ++ desk.list) (is.founded.holds told);
      };
      failed = is.failed;
      lives = is.lives;
      bounded = is.bounded;
    }

    pub torn_beside : tells → Besides IsPart (clock desk.disk) (clock disk)
    torn_beside told =
        let history : History = is.founded.before ++ desk.list in
        let sits = at_rest false says_all clock desk history whole (is.founded.holds told) in
        let small = small_items history sits.rests.taken.lawful sits.rests.entries pass.id.0 may.item
        (subst (λ (list : List Item). item_in pass.id.0 list ≡ Some may.item) (items_are history desk.items is.founded.items) may.there) in
        besides_write IsPart answer (clock desk.disk) (clock disk) (sound told) (files_place (part_name may.item.id.0 may.item.epoch.0)) at piece
        (record { id = may.item.id.0; epoch = may.item.epoch.0; small = (small.id, small.epoch); is = refl }) sits.quiet (own_run told)

  -- After Ok.

  abbrev after_lives : List Life
  after_lives = changed_life pass.id.0 (grown_life pass.index (length piece)) desk.lives

  cover_mine : covers_of after_lives pass.id.0 ≡ Some (grown may.life.cover pass.index (length piece))
  cover_mine =
      ap (option_map (λ (l : Life). l.cover)) (changed_own pass.id.0 (grown_life pass.index (length piece)) desk.lives (λ l. refl) ∙ ap (option_map (grown_life pass.index (length piece))) may.lives)

  cover_others : (k : ℕ) → k ≢ pass.id.0 → covers_of after_lives k ≡ covers_of desk.lives k
  cover_others k apart = ap (option_map (λ (l : Life). l.cover)) (changed_other pass.id.0 k (grown_life pass.index (length piece)) desk.lives (λ l. refl) apart)

  said_own : (said : Says) → SaysPiece said desk.items.items pass.id at piece → (key : Key) (address : List ℕ) → may.item.key ≡ Some key → may.item.last_address ≡ Some address → (i byte : ℕ) → slice_get piece i ≡ Some byte → said address key (at + i) byte
  said_own said says_piece key address key_is address_is i byte there = says_piece may.item key address may.there key_is address_is i byte there

  module _ (run : tells → Next (clock desk.disk) (clock disk) (WriteStep may.life.part at piece (Ok tt))) (new : View D O) (same : new ≡ record desk { disk = disk; lives = after_lives }) where
    abbrev landed : View D O
    landed = record desk { disk = disk; lives = after_lives }

    landed_holds : tells → (good : Bool) (said : Says) (before : History) → SaysPiece said desk.items.items pass.id at piece → HoldsOf good said clock desk before → HoldsOf good said clock landed before
    landed_holds told good said before says_piece holds =
        let old = now (clock desk.disk) in
        let disk_now = now (clock disk) in
        let sits = at_rest good said clock desk before whole holds in
        let taken = (own_run (Ok tt) run told).stepped in
        record {
          items = holds.items;
          rests = subst (λ (b : Bool). RestsBy b good said before desk.failed desk.gate (covers_of after_lives) disk_now) (sym whole)
              (resting.sits_of good said before desk.gate (covers_of after_lives) disk_now disk_now refl
              (resting.rests_with good said before desk.gate (covers_of desk.lives) (covers_of after_lives) old disk_now (state_written (part_name may.item.id.0 may.item.epoch.0) at piece (Ok tt) old disk_now taken)
              (facts_landed said (covers_of desk.lives) before desk.items holds.items sits.rests.entries pass.id may.item may.there may.runs told_is may.life.cover (cover_is (Ok tt) run) own_life.cover pass.index at piece may.is.fits.next.next room within old (sound told)
              own_life.holds own_life.one (covers_of after_lives) cover_mine cover_others (said_own said says_piece) disk_now taken) sits.rests)
              (quiet_at (Ok tt) run told good said before holds) (stand_at (Ok tt) run told good said before holds)
              (if_map good (EndsLive (covers_of desk.lives) (items_of before) old.files) (EndsLive (covers_of after_lives) (items_of before) disk_now.files)
              (ends_landed said (covers_of desk.lives) before desk.items holds.items sits.rests.entries pass.id may.item may.there may.runs told_is may.life.cover (cover_is (Ok tt) run) own_life.cover pass.index at piece may.is.fits.next.next room within old (sound told)
              own_life.holds own_life.one (covers_of after_lives) cover_mine cover_others disk_now taken) sits.ends));
        }

    landed_goes : SaysPiece (says desk.origin) desk.items.items pass.id at piece → Keeps tells clock says desk landed
    landed_goes says_piece told good before holds = subst (λ (h : History). Goes good (says desk.origin) clock desk landed before h) (sym (drop-length desk.list)) (record {
      longer = sym (append-nil desk.list);
      moments = subst (λ (h : History). Throughout (clock desk.disk) (clock disk) (Kept good (says desk.origin) (Through before h))) (sym (is.failed whole)) (each_kept (Ok tt) run told good (says desk.origin) before holds);
      holds = subst (HoldsOf good (says desk.origin) clock landed) (sym (append-nil before)) (landed_holds told good (says desk.origin) before says_piece holds);
      loses = λ was broken. absurd (false≢true (sym whole ∙ broken));
    })

    pub landed_keeps : SaysPiece (says desk.origin) desk.items.items pass.id at piece → Keeps tells clock says desk new
    landed_keeps says_piece = subst (Keeps tells clock says desk) (sym same) (landed_goes says_piece)

    landed_is : length piece ≤ desk.limits.piece → IsDesk tells clock landed
    landed_is few = record {
      limits_are = is.limits_are;
      limit = is.limit;
      founded = record {
        before = is.founded.before;
        entries = is.founded.entries;
        items = is.founded.items;
        holds = λ told. landed_holds told false says_all (is.founded.before ++ desk.list) (all_said desk.items.items pass.id at piece) (is.founded.holds told);
      };
      failed = is.failed;
      lives = λ unbroken. lives_grown pass.id.0 desk.items.items desk.lives (grown_life pass.index (length piece)) may.item may.life (λ l. refl) may.there may.lives grown_own (is.lives whole);
      bounded =
          let below = may.is.below in
          bounded_grown (desk.limits.checkpoint + desk.limits.piece) pass.id.0 desk.lives (grown_life pass.index (length piece)) may.life (λ l. refl) may.lives (omega (arith, below, few)) is.bounded;
    }

    pub landed_desk : length piece ≤ desk.limits.piece → IsDesk tells clock new
    landed_desk few = subst (IsDesk tells clock) (sym same) (landed_is few)

pub none_some : (found : Option Life) (life : Life) → found ≡ None → found ≡ Some life → ⊥
none_some found life none some = absurd cc

-- a piece is small
pub few_bytes : {limits : Limits} {count : ℕ} → IsLimits limits → count ≤ limits.piece → count ≤ 2 ^ 16
few_bytes are few = let most = are.piece.1 in omega (arith, most, few)

count_test : (k : ℕ) (f : Life → Life) (life : Life) (rest : List Life) (test : Bool) → length (changed_life k f rest) ≡ length rest → length (cond test (f life ∷ rest) (life ∷ changed_life k f rest)) ≡ length (life ∷ rest)
count_test k f life rest true later = refl
count_test k f life rest false later = omega (arith, later)

changed_count : (k : ℕ) (f : Life → Life) (lives : List Life) → length (changed_life k f lives) ≡ length lives
changed_count k f [] = refl
changed_count k f (life ∷ rest) = count_test k f life rest (life.id.0 == k) (changed_count k f rest)

-- as many live as before
pub grown_room : (k : ℕ) (f : Life → Life) (lives more : List Life) (used capacity : ℕ) → more ≡ changed_life k f lives → used + 0 + 3 * length lives ≤ capacity → used + 0 + 3 * length more ≤ capacity
grown_room k f lives more used capacity same room = let size = ap length same ∙ changed_count k f lives in omega (arith, size, room)

-- Where the life of an id stands.
life_first : (id : ℕ) (lives : List Life) (place : ℕ) (d : Life) → place < length lives → ((get_or lives place d).id.0 == id) ≡ true → ((k : ℕ) → k < place → ((get_or lives k d).id.0 == id) ≡ false) → life_in id lives ≡ Some (get_or lives place d)
life_first id [] place d within here before = absurd (omega (arith, within))
life_first id (life ∷ rest) zero d within here before = ap (λ (b : Bool). cond b (Some life) (life_in id rest)) here
life_first id (life ∷ rest) (suc place) d within here before =
    ap (λ (b : Bool). cond b (Some life) (life_in id rest)) (before 0 (omega arith)) ∙ life_first id rest place d (omega (arith, within)) here (λ k low. before (suc k) (omega (arith, low)))

life_place : (id : ℕ) (lives : List Life) (place : ℕ) (d : Life) → place_of id lives ≡ Some place → life_in id lives ≡ Some (get_or lives place d)
life_place id lives place d is = let first = position-Some (λ (l : Life). l.id.0 == id) lives place d is in life_first id lives place d first.0 first.1 first.2

some_and : {A : Type 0} (found : Option A) (x : A) (P : A → Type 0) → found ≡ Some x → IsSomeAnd found P → P x
some_and None x P is holds = absurd cc
some_and (Some y) x P is holds = subst P (some_is y x is) holds

none_and : {A : Type 0} (found : Option A) (P : A → Type 0) → found ≡ None → IsSomeAnd found P → ⊥
none_and None P none holds = absurd holds
none_and (Some y) P none holds = absurd cc

pub grow_place : (id : ℕ) (lives : List Life) (place index count : ℕ) (d : Life) → place_of id lives ≡ Some place → CanGrow lives id index count → HasPlace index count (get_or lives place d)
grow_place id lives place index count d at can = some_and (life_in id lives) (get_or lives place d) (HasPlace index count) (life_place id lives place d at) can

pub grow_there : (id : ℕ) (lives : List Life) (index count : ℕ) → place_of id lives ≡ None → CanGrow lives id index count → ⊥
grow_there id lives index count none can = none_and (life_in id lives) (HasPlace index count) (no_place id lives none) can
