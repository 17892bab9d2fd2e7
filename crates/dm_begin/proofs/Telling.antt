-- What is kept where the part of an attempt is made and what its first reply told is recorded.
use Rattle.std.proofs.Common.{◌≡◌, ◌≢◌, inl, inr, ℕ, ◌+◌, ◌*◌, ◌≤◌, ◌==◌, Bool, true, false, IsTrue, List, [], ◌++◌, length, Option, Some, None, Result, Ok, refl, sym, ◌∙◌, ap, subst, arith}
use Rattle.std.specs.Option.{option_map}
use Rattle.dm_types.specs.Name.{IsPart, part_name}
use Rattle.dm_types.specs.declared.entry.Entry.{Entry}
use Rattle.dm_types.specs.declared.entry.Entry.TheVariants as entries
use Rattle.dm_types.specs.declared.item.Item.{Item}
use Rattle.dm_types.specs.declared.item.ItemId.{ItemId}
use Rattle.dm_types.specs.declared.slices.Slice.{Slice}
use Rattle.dm_slice.specs.Cover.{IsWithinTotal}
use Rattle.dm_slice.specs.Words.{HasByte, cover_end}
use Rattle.dm_slice.specs.declared.plan.Part.{Part}
use Rattle.dm_disk_model.specs.declared.place.DiskFault.{DiskFault}
use Rattle.dm_disk_model.specs.declared.place.Place.{Place}
use Rattle.dm_disk_model.specs.Beside.{Besides}
use Rattle.dm_disk_model.specs.Disk.{DiskState, History as Clock, IsSoundDisk, bytes_at, now}
use Rattle.dm_disk_model.specs.Folder.{Folder, contents_of}
use Rattle.dm_disk_model.specs.Moments.{KeepsFiles, Throughout}
use Rattle.dm_disk_model.proofs.Beside.{besides_same, besides_then}
use Rattle.dm_disk_model.proofs.Places.{stands_from}
use Rattle.dm_disk_model.proofs.Reaching.{at_end, weaker}
use Rattle.dm_item.specs.Fields.{no_bytes}
use Rattle.dm_item.specs.History.{get}
use Rattle.dm_item.specs.Lawful.{History, IsOf, items_of}
use Rattle.dm_item.specs.Listing.{Admits, Row, applied, changed_at, item_in}
use Rattle.dm_item.specs.Row.{changed}
use Rattle.dm_part.specs.Keeping.{Held, IsEmpty, Stage}
use Rattle.dm_part.specs.Laws.{files_place}
use Rattle.dm_part.proofs.Calls.{make_held}
use Rattle.dm_kept.specs.Files.{Covers, EndsLive, Fact, Facts, FileKept, PartsStand, Says, claim_of, live_of, says_all}
use Rattle.dm_kept.specs.Kept.{Kept, Sits}
use Rattle.dm_kept.specs.Recovery.{Through}
use Rattle.dm_kept.proofs.Entered.{fact_of, facts_given, items_are}
use Rattle.dm_kept.proofs.Flags.{if_map}
use Rattle.dm_kept.proofs.Lists.{changed_beside, changed_here, each_changed, eq_is, eq_not, id_in, some_is}
use Rattle.dm_kept.proofs.Ranges.{small_items}
use Rattle.dm_kept.proofs.Resting as resting
use Rattle.dm_kept.proofs.Standing as standing
use Rattle.dm_store.specs.declared.life.Life.{Life}
use Rattle.dm_store.specs.Keeps.{Allows, HoldsOf, IsDesk, Keeps, RecordGoes, RestsBy, StandBehind}
use Rattle.dm_store.specs.Lives.{AreAfter, EndWithin, IsLifeFor, IsLifeOf, LifeOf, covers_of, is_plain, life_in, lives_after}
use Rattle.dm_store.specs.View.{View}
use Rattle.dm_store.proofs.Keeping.{at_rest, keeps_then, step_desk, step_keeps, whole_loses}
use Rattle.dm_store.proofs.Saved.{going_is}
use Rattle.dm_begin.specs.Anew.{Renews}
use Rattle.dm_begin.specs.Told.{IsDescribing}
use Rattle.dm_begin.proofs.Renewed.{besides_renewed, made_reads, sits_gone, sits_made, sits_renewed, stays_free}

no-place : (place : ℕ) → HasByte no_bytes place → ⊥
no-place place (inl here) = let low = here.0 in let high = here.1 in omega (arith, low, high)
no-place place (inr later) = later

empty-within : (total : Option ℕ) → IsWithinTotal total no_bytes
empty-within None = tt
empty-within (Some bytes) = (omega arith, tt)

no-plan : (total : Option ℕ) (plan : List Part) → plan ≡ [] → EndWithin total plan
no-plan total plan none = subst (EndWithin total) (sym none) tt

-- A desk that describes an item.
module _ {D O : Type 0} (tells : Type 0) (clock : D → Clock) (says : O → Says) (desk : View D O) (is : IsDesk tells clock desk) (whole : desk.broken ≡ false) (id : ItemId) (entry : Entry) (d : IsDescribing tells clock desk id entry) where
  own_life : IsLifeOf d.item d.life
  own_life = subst (LifeOf (Some d.item)) d.lives (subst (λ (found : Option Item). LifeOf found (life_in id.0 desk.lives)) d.there (is.lives whole id.0))

  nothing : d.life.cover ≡ no_bytes
  nothing = (own_life.untold d.untold).0

  no_live : IsEmpty d.life.cover
  no_live place has = no-place place (subst (λ (cover : List Slice). HasByte cover place) nothing has)

  no_saved : IsEmpty d.item.slices
  no_saved place has = no_live place (own_life.holds place has)

  -- the list takes the entry
  pub describe_admits : Admits desk.items entry
  describe_admits = subst (Admits desk.items) (sym d.is) (record {
    room = tt;
    meets = subst (λ (found : Option Item). Row (entries.Described id d.key d.address d.total d.name d.modified) desk.items.items found) (sym d.there)
        (own_life.runs, record { no_key = d.untold; small = d.small; free = d.free; own_key = d.own });
  })

  pub describe_plain : IsTrue (is_plain entry)
  describe_plain = subst (λ (e : Entry). IsTrue (is_plain e)) (sym d.is) refl

  pub describe_for : IsLifeFor entry (applied entry desk.items) None
  describe_for = subst (λ (e : Entry). IsLifeFor e (applied e desk.items) None) (sym d.is) tt

  pub describe_room : (used count capacity : ℕ) → used + (count + 1) + 3 * length desk.lives ≤ capacity → used + (count + 1) + 3 * length (lives_after entry (applied entry desk.items) desk.lives) ≤ capacity
  describe_room used count capacity room = subst (λ (e : Entry). used + (count + 1) + 3 * length (lives_after e (applied e desk.items) desk.lives) ≤ capacity) (sym d.is) room

  -- the life behind it
  told_life : IsLifeOf (changed (entries.Described id d.key d.address d.total d.name d.modified) d.item) d.life
  told_life = record {
    runs = own_life.runs;
    part = own_life.part;
    cover = own_life.cover;
    few = own_life.few;
    within = subst (IsWithinTotal d.total) (sym nothing) (empty-within d.total);
    holds = own_life.holds;
    count = own_life.count;
    same = own_life.same;
    untold = λ none. absurd cc;
    one = λ none. ap (length {A = Slice}) nothing;
    fresh = own_life.fresh;
    plan = own_life.plan;
    ends = no-plan d.total d.life.plan (own_life.fresh (own_life.untold d.untold).1);
  }

  told_lives : AreAfter (entries.Described id d.key d.address d.total d.name d.modified) desk.items desk.lives
  told_lives k = by (k == id.0) refl
    where
      by : (test : Bool) → (k == id.0) ≡ test → LifeOf (item_in k (changed_at (entries.Described id d.key d.address d.total d.name d.modified) id.0 desk.items.items)) (life_in k desk.lives)
      by true at =
          subst (λ (n : ℕ). LifeOf (item_in n (changed_at (entries.Described id d.key d.address d.total d.name d.modified) id.0 desk.items.items)) (life_in n desk.lives)) (sym (eq_is k id.0 at))
          (subst (λ (found : Option Item). LifeOf found (life_in id.0 desk.lives))
          (sym (changed_here (entries.Described id d.key d.address d.total d.name d.modified) id.0 (λ x. refl) desk.items.items ∙ ap (option_map (changed (entries.Described id d.key d.address d.total d.name d.modified))) d.there))
          (subst (LifeOf (Some (changed (entries.Described id d.key d.address d.total d.name d.modified) d.item))) (sym d.lives) told_life))
      by false at =
          subst (λ (found : Option Item). LifeOf found (life_in k desk.lives)) (sym (changed_beside (entries.Described id d.key d.address d.total d.name d.modified) id.0 (λ x. refl) k (eq_not k id.0 at) desk.items.items)) (is.lives whole k)

  pub describe_lives : AreAfter entry desk.items desk.lives
  describe_lives = subst (λ (e : Entry). AreAfter e desk.items desk.lives) (sym d.is) told_lives

  pub place_is : d.life.part ≡ files_place (part_name d.item.id.0 d.item.epoch.0)
  place_is = own_life.part

  there_of : (before : History) → IsOf before desk.items → item_in id.0 (items_of before) ≡ Some d.item
  there_of before is_of = subst (λ (list : List Item). item_in id.0 list ≡ Some d.item) (items_are before desk.items is_of) d.there

  is_part : tells → IsPart (part_name d.item.id.0 d.item.epoch.0)
  is_part told =
      let history : History = is.founded.before ++ desk.list in
      let holds = is.founded.holds told in
      let sits = at_rest false says_all clock desk history whole holds in
      let small = small_items history sits.rests.taken.lawful sits.rests.entries id.0 d.item (there_of history is.founded.items) in
      record { id = d.item.id.0; epoch = d.item.epoch.0; small = (small.id, small.epoch); is = refl }

  -- The part was made anew, or that failed.
  module _ (disk : D) (answer : Result (Unit {0}) DiskFault) (run : tells → Renews d.life.part (clock desk.disk) (clock disk) answer) where
    own_run : tells → Renews (files_place (part_name d.item.id.0 d.item.epoch.0)) (clock desk.disk) (clock disk) answer
    own_run told = subst (λ (p : Place). Renews p (clock desk.disk) (clock disk) answer) place_is (run told)

    sits_through : tells → (good : Bool) (said : Says) (before : History) → HoldsOf good said clock desk before → Throughout (clock desk.disk) (clock disk) (Sits good said before desk.gate (covers_of desk.lives))
    sits_through told good said before holds =
        sits_renewed good said before desk.gate (covers_of desk.lives) desk.items holds.items id d.item d.there d.untold answer (clock desk.disk) (clock disk) (own_run told) (at_rest good said clock desk before whole holds)

    sits_now : tells → (good : Bool) (said : Says) (before : History) → HoldsOf good said clock desk before → Sits good said before desk.gate (covers_of desk.lives) (now (clock disk))
    sits_now told good said before holds = at_end (clock desk.disk) (clock disk) (Sits good said before desk.gate (covers_of desk.lives)) (sits_through told good said before holds)

    goes : tells → (good : Bool) (said : Says) (before : History) → HoldsOf good said clock desk before
        → Throughout (clock desk.disk) (clock disk) (Kept good said (Through before [])) × HoldsOf good said clock (record desk { disk = disk }) before
    goes told good said before holds = (
      weaker (clock desk.disk) (clock disk) (Sits good said before desk.gate (covers_of desk.lives)) (Kept good said (Through before []))
          (λ other sits. resting.rests_kept good said before [] desk.gate (covers_of desk.lives) other sits.rests) (sits_through told good said before holds),
      record {
        items = holds.items;
        rests = subst (λ (b : Bool). RestsBy b good said before desk.failed desk.gate (covers_of desk.lives) (now (clock disk))) (sym whole) (sits_now told good said before holds);
      },
    )

    pub renewed_keeps : Keeps tells clock says desk (record desk { disk = disk })
    renewed_keeps = step_keeps tells clock says desk (record desk { disk = disk }) refl (is.failed whole) goes (whole_loses tells clock desk (record desk { disk = disk }) whole)

    pub renewed_desk : IsDesk tells clock (record desk { disk = disk })
    renewed_desk = step_desk tells clock says desk (record desk { disk = disk }) refl (is.failed whole) goes is refl refl refl (λ unbroken. is.lives whole)

    -- an interruption, or what else follows
    pub renewed_then : (new : View D O) → Keeps tells clock says (record desk { disk = disk }) new → Keeps tells clock says desk new
    renewed_then new = keeps_then tells clock says desk (record desk { disk = disk }) new renewed_keeps refl (is.failed whole)

    pub renewed_beside : ((t : ℕ) → IsSoundDisk ((clock disk).at t)) → tells → Besides IsPart (clock desk.disk) (clock disk)
    renewed_beside sound told =
        let history : History = is.founded.before ++ desk.list in
        let holds = is.founded.holds told in
        let covers : Covers = covers_of desk.lives in
        let sits = at_rest false says_all clock desk history whole holds in
        let ran = own_run told in
        let first = sits_gone false says_all history desk.gate covers desk.items holds.items id d.item d.there d.untold (clock desk.disk) ran.middle ran.removed sits in
        let second = sits_made false says_all history desk.gate covers desk.items holds.items id d.item d.there d.untold answer ran.middle (clock disk) ran.made (at_end (clock desk.disk) ran.middle (Sits false says_all history desk.gate covers) first) in
        besides_renewed (part_name d.item.id.0 d.item.epoch.0) (is_part told) answer (clock desk.disk) (clock disk) (Sits false says_all history desk.gate covers) sound (sits_through told false says_all history holds) ran second

    pub renewed_beside_then : (last : Clock) → ((t : ℕ) → IsSoundDisk ((clock disk).at t)) → tells → KeepsFiles (clock disk) last → Besides IsPart (clock desk.disk) last
    renewed_beside_then last sound told keeps = besides_then IsPart (clock desk.disk) (clock disk) last (renewed_beside sound told) (besides_same IsPart (clock disk) last keeps)

  -- After Ok the entry may be recorded.
  module _ (disk : D) (run : tells → Renews d.life.part (clock desk.disk) (clock disk) (Ok tt)) where
    made_run : tells → Renews (files_place (part_name d.item.id.0 d.item.epoch.0)) (clock desk.disk) (clock disk) (Ok tt)
    made_run told = own_run disk (Ok tt) run told

    pub reads_empty : tells → contents_of (now (clock disk)).files (part_name d.item.id.0 d.item.epoch.0) ≡ Some []
    reads_empty told = made_reads (part_name d.item.id.0 d.item.epoch.0) (made_run told).middle (clock disk) (made_run told).made

    name_apart : tells → d.name ≢ part_name d.item.id.0 d.item.epoch.0
    name_apart told same = d.no_part (subst IsPart (sym same) (is_part told))

    live_is : covers_of desk.lives d.item.id.0 ≡ Some d.life.cover
    live_is = subst (λ (k : ℕ). covers_of desk.lives k ≡ Some d.life.cover) (sym (id_in id.0 d.item desk.items.items d.there)) (ap (option_map (λ (l : Life). l.cover)) d.lives)

    live_cover : live_of (covers_of desk.lives) (changed (entries.Described id d.key d.address d.total d.name d.modified) d.item) ≡ d.life.cover
    live_cover = ap (λ (cover : Option (List Slice)). get cover d.item.slices) live_is

    held : tells → (said : ℕ → ℕ → Type 0) → Held said (now (clock disk)).files (claim_of d.name d.life.cover (changed (entries.Described id d.key d.address d.total d.name d.modified) d.item))
    held told said =
        make_held said (claim_of d.name d.life.cover (changed (entries.Described id d.key d.address d.total d.name d.modified) d.item)) (made_run told).middle (clock disk) refl no_saved no_live (name_apart told)
        (stays_free (part_name d.item.id.0 d.item.epoch.0) (clock desk.disk) (made_run told).middle (made_run told).removed d.name (name_apart told) (d.absent told)) (made_run told).made

    own_fact : tells → (said : Says) → Fact said (covers_of desk.lives) (now (clock disk)).files (changed (entries.Described id d.key d.address d.total d.name d.modified) d.item)
    own_fact told said =
        fact_of said (covers_of desk.lives) (now (clock disk)).files (changed (entries.Described id d.key d.address d.total d.name d.modified) d.item) d.key d.address d.name refl refl refl
        (subst (λ (s : Option Stage). FileKept (said d.address d.key) (now (clock disk)).files s
        (claim_of d.name (live_of (covers_of desk.lives) (changed (entries.Described id d.key d.address d.total d.name d.modified) d.item)) (changed (entries.Described id d.key d.address d.total d.name d.modified) d.item)))
        (sym (going_is d.item.phase own_life.runs)) (
          subst (λ (cover : List Slice). Held (said d.address d.key) (now (clock disk)).files (claim_of d.name cover (changed (entries.Described id d.key d.address d.total d.name d.modified) d.item))) (sym live_cover)
              (held told (said d.address d.key)),
          d.no_part,
        ))

    facts_told : tells → (said : Says) (items : List Item) → item_in id.0 items ≡ Some d.item → Facts said (covers_of desk.lives) items (now (clock disk)).files
        → Facts said (covers_of desk.lives) (changed_at (entries.Described id d.key d.address d.total d.name d.modified) id.0 items) (now (clock disk)).files
    facts_told told said items found =
        facts_given said (covers_of desk.lives) (covers_of desk.lives) (now (clock disk)).files (entries.Described id d.key d.address d.total d.name d.modified) id.0 items (λ item. refl) (λ k apart. refl)
        (λ item at. subst (λ (i : Item). Fact said (covers_of desk.lives) (now (clock disk)).files (changed (entries.Described id d.key d.address d.total d.name d.modified) i)) (some_is d.item item (sym found ∙ at)) (own_fact told said))

    no_length : (bytes : List ℕ) → tells → contents_of (now (clock disk)).files (part_name d.item.id.0 d.item.epoch.0) ≡ Some bytes → length bytes ≡ 0
    no_length bytes told reads = ap (length {A = ℕ}) (some_is bytes [] (sym reads ∙ reads_empty told))

    ends_told : tells → (items : List Item) → item_in id.0 items ≡ Some d.item → EndsLive (covers_of desk.lives) items (now (clock disk)).files
        → EndsLive (covers_of desk.lives) (changed_at (entries.Described id d.key d.address d.total d.name d.modified) id.0 items) (now (clock disk)).files
    ends_told told items found =
        each_changed (standing.Ends (covers_of desk.lives) (now (clock disk)).files) (standing.Ends (covers_of desk.lives) (now (clock disk)).files) (entries.Described id d.key d.address d.total d.name d.modified) id.0 items (λ item. refl)
        (λ item apart ends. ends)
        (λ item at ends. subst (λ (i : Item). standing.Ends (covers_of desk.lives) (now (clock disk)).files (changed (entries.Described id d.key d.address d.total d.name d.modified) i)) (some_is d.item item (sym found ∙ at))
        (λ brought none bytes reads. no_length bytes told reads ∙ sym (ap cover_end (live_cover ∙ nothing))))

    stand_told : tells → (items : List Item) → item_in id.0 items ≡ Some d.item → PartsStand items (now (clock disk)).files
        → PartsStand (changed_at (entries.Described id d.key d.address d.total d.name d.modified) id.0 items) (now (clock disk)).files
    stand_told told items found =
        each_changed (standing.Stands (now (clock disk)).files) (standing.Stands (now (clock disk)).files) (entries.Described id d.key d.address d.total d.name d.modified) id.0 items (λ item. refl) (λ item apart stands. stands)
        (λ item at stands. subst (λ (i : Item). standing.Stands (now (clock disk)).files (changed (entries.Described id d.key d.address d.total d.name d.modified) i)) (some_is d.item item (sym found ∙ at))
        (λ brought. stands_from (now (clock disk)) (files_place (part_name d.item.id.0 d.item.epoch.0)) [] (reads_empty told)))

    pub describe_stand : tells → StandBehind clock (record desk { disk = disk }) entry
    describe_stand told =
        let history : History = is.founded.before ++ desk.list in
        let holds = is.founded.holds told in
        subst (λ (e : Entry). PartsStand (applied e desk.items).items (now (clock disk)).files) (sym d.is)
        (stand_told told desk.items.items d.there
        (subst (λ (items : List Item). PartsStand items (now (clock disk)).files) (sym (items_are history desk.items holds.items)) (sits_now disk (Ok tt) run told false says_all history holds).stand))

    allows : tells → (good : Bool) (said : Says) (before : History) → HoldsOf good said clock (record desk { disk = disk }) before → Allows good said clock (record desk { disk = disk }) (entries.Described id d.key d.address d.total d.name d.modified)
    allows told good said before holds =
        let sits = at_rest good said clock (record desk { disk = disk }) before whole holds in
        let folder : Folder = (now (clock disk)).files in
        let e : Entry = entries.Described id d.key d.address d.total d.name d.modified in
        let back = sym (items_are before desk.items holds.items) in
        record {
          facts = if_map good (Facts said (covers_of desk.lives) (items_of before) folder) (Facts said (covers_of desk.lives) (changed_at e id.0 desk.items.items) folder)
              (λ facts. facts_told told said desk.items.items d.there (subst (λ (items : List Item). Facts said (covers_of desk.lives) items folder) back facts)) sits.rests.facts;
          ends = if_map good (EndsLive (covers_of desk.lives) (items_of before) folder) (EndsLive (covers_of desk.lives) (changed_at e id.0 desk.items.items) folder)
              (λ ends. ends_told told desk.items.items d.there (subst (λ (items : List Item). EndsLive (covers_of desk.lives) items folder) back ends)) sits.ends;
        }

    pub describe_keeps : (new : View D O) → RecordGoes tells clock says (record desk { disk = disk }) new entry → Keeps tells clock says desk new
    describe_keeps new recorded =
        renewed_then disk (Ok tt) run new
        (λ told good before holds. recorded told good before holds (subst (Allows good (says desk.origin) clock (record desk { disk = disk })) (sym d.is) (allows told good (says desk.origin) before holds)))

    -- the part is as it was made
    pub describe_reads : (last : D) → tells → KeepsFiles (clock disk) (clock last) → (item : Item) → item_in id.0 desk.items.items ≡ Some item → bytes_at (now (clock last)) (files_place (part_name item.id.0 item.epoch.0)) ≡ Some []
    describe_reads last told keeps item at =
        let same : (now (clock last)).files ≡ (now (clock disk)).files = at_end (clock disk) (clock last) (λ (state : DiskState). state.files ≡ (now (clock disk)).files) keeps in
        subst (λ (i : Item). contents_of (now (clock last)).files (part_name i.id.0 i.epoch.0) ≡ Some []) (some_is d.item item (sym d.there ∙ at))
        (subst (λ (f : Folder). contents_of f (part_name d.item.id.0 d.item.epoch.0) ≡ Some []) (sym same) (reads_empty told))
