-- A desk on which the whole content of an item is recorded: what it keeps.
use Rattle.std.proofs.Common.{◌≡◌, ℕ, ◌+◌, ◌*◌, ◌≤◌, Bool, true, false, ◌&&◌, IsTrue, List, ◌++◌, length, Option, Some, None, refl, sym, ◌∙◌, ap, subst, arith}
use Rattle.std.specs.Prelude.{IfSome, is_some}
use Rattle.std.specs.Option.{option_map}
use Rattle.std.proofs.lemmas.Bool.{false≢true}
use Rattle.dm_types.specs.declared.entry.Entry.{Entry}
use Rattle.dm_types.specs.declared.entry.Entry.TheVariants as entries
use Rattle.dm_types.specs.declared.item.Item.{Item}
use Rattle.dm_types.specs.declared.item.ItemId.{ItemId}
use Rattle.dm_types.specs.declared.item.Phase.{Phase}
use Rattle.dm_types.specs.declared.item.Phase.TheVariants as phases
use Rattle.dm_types.specs.declared.slices.Slice.{Slice}
use Rattle.dm_slice.specs.Words.{cover_end}
use Rattle.dm_disk_model.specs.Disk.{History as Clock, now}
use Rattle.dm_disk_model.specs.Folder.{Folder}
use Rattle.dm_item.specs.Fields.{is_running}
use Rattle.dm_item.specs.History.{first_some, get}
use Rattle.dm_item.specs.Lawful.{History, IsOf, items_of}
use Rattle.dm_item.specs.Listing.{Admits, Row, applied, item_in}
use Rattle.dm_item.specs.Restored.{IsDigestOf}
use Rattle.dm_item.specs.Row.{IsTotalOf, changed, is_complete}
use Rattle.dm_item.proofs.Shorts.{sound_in}
use Rattle.dm_part.specs.Keeping.{Claim, Going, IsContent, Moving, Stage}
use Rattle.dm_part.proofs.Own.{held_fewer, held_moving}
use Rattle.dm_part.proofs.Standing.{digest_tells, part_reads}
use Rattle.dm_kept.specs.Files.{Covers, EndsLive, Fact, Facts, FileKept, PartsStand, Says, brings, claim_of, live_of, says_all}
use Rattle.dm_kept.proofs.Entered.{fact_of, facts_given, items_are}
use Rattle.dm_kept.proofs.Flags.{if_map, if_two}
use Rattle.dm_kept.proofs.Lists.{id_in, some_is}
use Rattle.dm_kept.proofs.Standing.{ends_over, stand_over}
use Rattle.dm_store.specs.declared.life.Life.{Life}
use Rattle.dm_store.specs.Keeps.{Allows, HoldsOf, IsDesk, Keeps, RecordGoes, StandBehind}
use Rattle.dm_store.specs.Lives.{AreAfter, IsLifeOf, LifeOf, covers_of, life_in, without_life}
use Rattle.dm_store.specs.View.{View}
use Rattle.dm_store.proofs.Breaking.{broke_room}
use Rattle.dm_store.proofs.Found.{There, there_is}
use Rattle.dm_store.proofs.Keeping.{at_rest}
use Rattle.dm_store.proofs.Lives.{covers_others, lives_ended, no_life}
use Rattle.dm_store.proofs.Saved.{going_is}
use Rattle.dm_finish.specs.Ending.{IsEnding}

pub running_is : (phase : Phase) → IsTrue (is_running phase) → phase ≡ phases.Running
running_is phases.Running runs = refl
running_is phases.Waiting runs = absurd (false≢true runs)
running_is phases.Paused runs = absurd (false≢true runs)
running_is phases.Finishing runs = absurd (false≢true runs)
running_is phases.Complete runs = absurd (false≢true runs)
running_is phases.Cancelled runs = absurd (false≢true runs)
running_is (phases.Interrupted reason) runs = absurd (false≢true runs)

-- an item that isn't complete has no sum of its own
no_sum : (complete : Bool) (digest have : Option (List ℕ)) → complete ≡ false → IsDigestOf complete digest have → have ≡ None
no_sum true digest have over is = absurd (false≢true (sym over))
no_sum false digest None over is = refl
no_sum false digest (Some sum) over is = absurd (false≢true (sym is))

runs_incomplete : (phase : Phase) → IsTrue (is_running phase) → is_complete phase ≡ false
runs_incomplete phase runs = ap is_complete (running_is phase runs)

known_sum : (have stated : Option (List ℕ)) (sum : List ℕ) → have ≡ None → IfSome stated (λ d. d ≡ sum) → IfSome (first_some have stated) (λ d. d ≡ sum)
known_sum have stated sum none same = subst (λ (h : Option (List ℕ)). IfSome (first_some h stated) (λ d. d ≡ sum)) (sym none) same

-- how long the part is at most
at_most : (known : Option ℕ) (slices : List Slice) (total : ℕ) (bytes : List ℕ) → IsTotalOf known slices total → IfSome known (λ t. length bytes ≤ t) → (known ≡ None → length bytes ≡ total) → length bytes ≤ total
at_most None slices total bytes is short ends = let same = ends refl in omega (arith, same)
at_most (Some t) slices total bytes is short ends = omega (arith, is, short)

module _ {D O : Type 0} (tells : Type 0) (clock : D → Clock) (says : O → Says) (desk : View D O) (is : IsDesk tells clock desk) (whole : desk.broken ≡ false) (id : ItemId) (total : ℕ) (digest : List ℕ) (ending : IsEnding tells clock desk id total digest) where
  abbrev entry : Entry
  entry = entries.Finishing id total

  own : IsLifeOf ending.item ending.life
  own = subst (LifeOf (Some ending.item)) ending.lives (subst (λ (found : Option Item). LifeOf found (life_in id.0 desk.lives)) ending.there (is.lives whole id.0))

  -- The list takes the entry.
  pub finishing_admits : Admits desk.items entry
  finishing_admits = record {
    room = tt;
    meets = subst (λ (found : Option Item). Row entry desk.items.items found) (sym ending.there) (own.runs, record { has_key = ending.told; full = ending.full; total_is = ending.total_is });
  }

  pub finishing_lives : AreAfter entry desk.items desk.lives
  finishing_lives = lives_ended entry id.0 desk.items.items desk.lives (λ item. refl) (λ item. refl) (is.lives whole)

  pub finishing_stands : tells → StandBehind clock desk entry
  finishing_stands told =
      let history : History = is.founded.before ++ desk.list in
      let sits = at_rest false says_all clock desk history whole (is.founded.holds told) in
      stand_over entry id.0 desk.items.items (now (clock desk.disk)).files (λ item. refl) (λ item there. refl)
      (subst (λ (items : List Item). PartsStand items (now (clock desk.disk)).files) (sym (items_are history desk.items is.founded.items)) sits.stand)

  pub finishing_room : (used count capacity : ℕ) → used + count + 3 * length desk.lives ≤ capacity → used + ((count + 2) + 1) + 3 * length (without_life id.0 desk.lives) ≤ capacity
  finishing_room used count capacity room = broke_room id.0 desk.lives used count capacity (ap is_some ending.lives) room

  module _ (says_it : Says) (before : History) (is_of : IsOf before desk.items) where
    abbrev folder : Folder
    folder = (now (clock desk.disk)).files

    there_in : item_in id.0 (items_of before) ≡ Some ending.item
    there_in = subst (λ (list : List Item). item_in id.0 list ≡ Some ending.item) (items_are before desk.items is_of) ending.there

    key_there : There ending.item.key
    key_there = there_is ending.item.key ending.told

    address_there : There ending.item.last_address
    address_there = there_is ending.item.last_address ((sound_in before desk.items id.0 ending.item is_of ending.there).told.has_address ∙ ending.told)

    name_there : There ending.item.name
    name_there = there_is ending.item.name ((sound_in before desk.items id.0 ending.item is_of ending.there).told.has_name ∙ ending.told)

    none_have : ending.item.have ≡ None
    none_have = no_sum (is_complete ending.item.phase) ending.item.digest ending.item.have (runs_incomplete ending.item.phase own.runs) (sound_in before desk.items id.0 ending.item is_of ending.there).digest

    ids : ending.item.id.0 ≡ id.0
    ids = id_in id.0 ending.item (items_of before) there_in

    live_is : live_of (covers_of desk.lives) ending.item ≡ ending.life.cover
    live_is =
        ap (λ (found : Option (List Slice)). get found ending.item.slices) (ap (covers_of desk.lives) ids ∙ ap (option_map (λ (l : Life). l.cover)) ending.lives)

    brought : IsTrue (brings ending.item)
    brought = subst (λ (p : Phase). IsTrue (is_running p && is_some ending.item.key)) (sym (running_is ending.item.phase own.runs)) ending.told

    -- its file is whole, and may be moved
    moving : tells → Facts says_it (covers_of desk.lives) (items_of before) folder → EndsLive (covers_of desk.lives) (items_of before) folder
        → FileKept (says_it address_there.it key_there.it) folder (Some Moving) (claim_of name_there.it ending.item.slices (changed entry ending.item))
    moving told facts ends =
        let claim : Claim = claim_of name_there.it (live_of (covers_of desk.lives) ending.item) ending.item in
        let kept : FileKept (says_it address_there.it key_there.it) folder (Some Going) claim =
        subst (λ (s : Option Stage). FileKept (says_it address_there.it key_there.it) folder s claim) (going_is ending.item.phase own.runs)
        (facts id.0 ending.item there_in key_there.it address_there.it name_there.it key_there.is address_there.is name_there.is) in
        let sum = ending.sum told in
        let short = (part_reads (says_it address_there.it key_there.it) claim (now (clock desk.disk)) refl kept.0 sum.bytes sum.there).1 in
        let ended : ending.item.total ≡ None → length sum.bytes ≡ total =
        λ (none : ending.item.total ≡ None). ends id.0 ending.item there_in brought none sum.bytes sum.there ∙ ap cover_end live_is ∙ sym (ending.live_total none) in
        let most : length sum.bytes ≤ total = at_most ending.item.total ending.item.slices total sum.bytes ending.total_is short ended in
        let content : IsContent (Some total) (first_some ending.item.have ending.item.digest) ending.item.slices sum.bytes =
        digest_tells total ending.item.slices sum.bytes digest (first_some ending.item.have ending.item.digest) most sum.long sum.sum_is ending.full (known_sum ending.item.have ending.item.digest digest none_have ending.stated) in
        let fewer = held_fewer (says_it address_there.it key_there.it) folder claim ending.item.slices kept.0.filed.holds (λ place has. has) kept.0 in (
          held_moving (says_it address_there.it key_there.it) folder (record claim { live = ending.item.slices }) (Some total) (first_some ending.item.have ending.item.digest) sum.bytes refl sum.there content fewer,
          kept.1,
        )

    live_none : live_of (covers_of (without_life id.0 desk.lives)) ending.item ≡ ending.item.slices
    live_none =
        ap (λ (found : Option (List Slice)). get found ending.item.slices) (ap (covers_of (without_life id.0 desk.lives)) ids ∙ ap (option_map (λ (l : Life). l.cover)) (no_life id.0 desk.lives))

    moved : tells → Facts says_it (covers_of desk.lives) (items_of before) folder → EndsLive (covers_of desk.lives) (items_of before) folder → Fact says_it (covers_of (without_life id.0 desk.lives)) folder (changed entry ending.item)
    moved told facts ends =
        fact_of says_it (covers_of (without_life id.0 desk.lives)) folder (changed entry ending.item) key_there.it address_there.it name_there.it key_there.is address_there.is name_there.is
        (subst (λ (l : List Slice). FileKept (says_it address_there.it key_there.it) folder (Some Moving) (claim_of name_there.it l (changed entry ending.item))) (sym live_none) (moving told facts ends))

    facts_moved : tells → Facts says_it (covers_of desk.lives) (items_of before) folder → EndsLive (covers_of desk.lives) (items_of before) folder → Facts says_it (covers_of (without_life id.0 desk.lives)) (applied entry desk.items).items folder
    facts_moved told facts ends =
        facts_given says_it (covers_of desk.lives) (covers_of (without_life id.0 desk.lives)) folder entry id.0 desk.items.items (λ item. refl) (covers_others id.0 desk.lives)
        (λ item there. subst (λ (i : Item). Fact says_it (covers_of (without_life id.0 desk.lives)) folder (changed entry i)) (some_is ending.item item (sym ending.there ∙ there)) (moved told facts ends))
        (subst (λ (list : List Item). Facts says_it (covers_of desk.lives) list folder) (sym (items_are before desk.items is_of)) facts)

  finishing_allows : tells → (good : Bool) (before : History) → HoldsOf good (says desk.origin) clock desk before → Allows good (says desk.origin) clock desk entry
  finishing_allows told good before holds =
      let said : Says = says desk.origin in
      let sits = at_rest good said clock desk before whole holds in
      let place : Folder = (now (clock desk.disk)).files in
      let after : Covers = covers_of (without_life id.0 desk.lives) in
      record {
        facts = if_two good (Facts said (covers_of desk.lives) (items_of before) place) (EndsLive (covers_of desk.lives) (items_of before) place) (Facts said after (applied entry desk.items).items place)
            (facts_moved said before holds.items told) sits.rests.facts sits.ends;
        ends = if_map good (EndsLive (covers_of desk.lives) (items_of before) place) (EndsLive after (applied entry desk.items).items place)
            (λ ends. ends_over (covers_of desk.lives) after entry id.0 desk.items.items place (λ item. refl) (covers_others id.0 desk.lives) (λ item there. refl)
            (subst (λ (list : List Item). EndsLive (covers_of desk.lives) list place) (sym (items_are before desk.items holds.items)) ends)) sits.ends;
      }

  -- so its recording is a call like others
  pub finishing_keeps : (new : View D O) → RecordGoes tells clock says desk new entry → Keeps tells clock says desk new
  finishing_keeps new goes told good before holds = goes told good before holds (finishing_allows told good before holds)
