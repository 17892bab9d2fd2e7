-- A desk on which a file that has its name is recorded: what it keeps.
use Rattle.std.proofs.Common.{◌≡◌, inr, ℕ, Bool, true, false, ◌||◌, IsTrue, List, ◌++◌, length, Option, Some, refl, sym, ◌∙◌, ap, subst, arith}
use Rattle.std.specs.Prelude.{is_some}
use Rattle.std.proofs.lemmas.List.{take_all}
use Rattle.sha2.specs.Sha256.{sha256}
use Rattle.dm_types.specs.declared.entry.Entry.{Entry}
use Rattle.dm_types.specs.declared.entry.Entry.TheVariants as entries
use Rattle.dm_types.specs.declared.item.Item.{Item}
use Rattle.dm_types.specs.declared.item.ItemId.{ItemId}
use Rattle.dm_types.specs.declared.item.Phase.{Phase}
use Rattle.dm_types.specs.declared.item.Phase.TheVariants as phases
use Rattle.dm_disk_model.specs.Disk.{History as Clock, now}
use Rattle.dm_disk_model.specs.Folder.{Folder}
use Rattle.dm_item.specs.Fields.{is_running}
use Rattle.dm_item.specs.Lawful.{History, IsOf, items_of}
use Rattle.dm_item.specs.Listing.{Admits, Row, applied, item_in}
use Rattle.dm_item.specs.Row.{changed, is_complete, is_finishing}
use Rattle.dm_item.proofs.Shorts.{sound_in}
use Rattle.dm_part.specs.Keeping.{Claim, Moving, Published, Stage}
use Rattle.dm_part.proofs.Own.{held_told, published_firm}
use Rattle.dm_part.proofs.Standing.{moving_reads}
use Rattle.dm_kept.specs.Files.{EndsLive, Fact, Facts, FileKept, PartsStand, Says, claim_of, live_of, says_all, stage_of}
use Rattle.dm_kept.specs.Kept.{Sits}
use Rattle.dm_kept.proofs.Entered.{fact_of, facts_given, items_are}
use Rattle.dm_kept.proofs.Flags.{if_map}
use Rattle.dm_kept.proofs.Lists.{some_is}
use Rattle.dm_kept.proofs.Standing.{ends_over, stand_over}
use Rattle.dm_store.specs.Keeps.{Allows, HoldsOf, IsDesk, Keeps, RecordGoes, StandBehind}
use Rattle.dm_store.specs.Lives.{AreAfter, covers_of}
use Rattle.dm_store.specs.View.{View}
use Rattle.dm_store.proofs.Found.{There, there_is}
use Rattle.dm_store.proofs.Keeping.{at_rest}
use Rattle.dm_store.proofs.Lives.{lives_idle}
use Rattle.dm_finish.specs.Ending.{IsNamed}

finishing_whole : (phase : Phase) → phase ≡ phases.Finishing → IsTrue (is_finishing phase || is_complete phase)
finishing_whole phase is = subst (λ (p : Phase). IsTrue (is_finishing p || is_complete p)) (sym is) refl

finishing_stage : (phase : Phase) → phase ≡ phases.Finishing → stage_of phase ≡ Some Moving
finishing_stage phase is = ap stage_of is

module _ {D O : Type 0} (tells : Type 0) (clock : D → Clock) (says : O → Says) (desk : View D O) (is : IsDesk tells clock desk) (whole : desk.broken ≡ false) (id : ItemId) (digest : List ℕ) (at : ℕ) (named : IsNamed tells clock desk id digest) where
  abbrev entry : Entry
  entry = entries.Done id digest at

  pub done_admits : Admits desk.items entry
  done_admits = record {
    room = tt;
    meets = subst (λ (found : Option Item). Row entry desk.items.items found) (sym named.there) (subst (λ (p : Phase). IsTrue (is_finishing p)) (sym named.finishing) refl, named.stated);
  }

  pub done_lives : AreAfter entry desk.items desk.lives
  done_lives =
      lives_idle entry id.0 desk.items.items desk.lives (λ item. refl)
      (λ item there. subst (λ (i : Item). is_running i.phase ≡ false) (some_is named.item item (sym named.there ∙ there)) (ap is_running named.finishing)) (λ item there. refl) (is.lives whole)

  pub done_stands : tells → StandBehind clock desk entry
  done_stands told =
      let history : History = is.founded.before ++ desk.list in
      let sits = at_rest false says_all clock desk history whole (is.founded.holds told) in
      stand_over entry id.0 desk.items.items (now (clock desk.disk)).files (λ item. refl) (λ item there. refl)
      (subst (λ (items : List Item). PartsStand items (now (clock desk.disk)).files) (sym (items_are history desk.items is.founded.items)) sits.stand)

  module _ (good : Bool) (says_it : Says) (before : History) (is_of : IsOf before desk.items) (sits : Sits good says_it before desk.gate (covers_of desk.lives) (now (clock desk.disk))) where
    abbrev folder : Folder
    folder = (now (clock desk.disk)).files

    there_in : item_in id.0 (items_of before) ≡ Some named.item
    there_in = subst (λ (list : List Item). item_in id.0 list ≡ Some named.item) (items_are before desk.items is_of) named.there

    some_key : is_some named.item.key ≡ true
    some_key = ((sound_in before desk.items id.0 named.item is_of named.there).whole (finishing_whole named.item.phase named.finishing)).has_key

    key_there : There named.item.key
    key_there = there_is named.item.key some_key

    address_there : There named.item.last_address
    address_there = there_is named.item.last_address ((sound_in before desk.items id.0 named.item is_of named.there).told.has_address ∙ some_key)

    published : tells → Facts says_it (covers_of desk.lives) (items_of before) folder → Fact says_it (covers_of desk.lives) folder (changed entry named.item)
    published told facts =
        let claim : Claim = claim_of named.name (live_of (covers_of desk.lives) named.item) named.item in
        let kept : FileKept (says_it address_there.it key_there.it) folder (Some Moving) claim =
        subst (λ (s : Option Stage). FileKept (says_it address_there.it key_there.it) folder s claim) (finishing_stage named.item.phase named.finishing)
        (facts id.0 named.item there_in key_there.it address_there.it named.name key_there.is address_there.is named.name_is) in
        let sum = named.sum told in
        let content = moving_reads (says_it address_there.it key_there.it) (record claim { stage = Moving }) (now (clock desk.disk)) refl kept.0 named.name sum.bytes (inr refl) sum.there in
        let long : named.total ≡ length sum.bytes = some_is named.total (length sum.bytes) (sym named.total_is ∙ content.ends) in
        let all : digest ≡ sha256 sum.bytes = sum.sum_is ∙ ap sha256 (take_all named.total sum.bytes (omega (arith, long))) in
        let firm = sits.quiet named.name kept.1 in
        let held = published_firm (says_it address_there.it key_there.it) folder (record claim { stage = Moving }) refl (named.stands told) firm kept.0 in
        let told_it = held_told (says_it address_there.it key_there.it) folder (record claim { stage = Published }) (Some digest) sum.bytes refl sum.there all held in
        fact_of says_it (covers_of desk.lives) folder (changed entry named.item) key_there.it address_there.it named.name key_there.is address_there.is named.name_is (told_it, kept.1)

    facts_published : tells → Facts says_it (covers_of desk.lives) (items_of before) folder → Facts says_it (covers_of desk.lives) (applied entry desk.items).items folder
    facts_published told facts =
        facts_given says_it (covers_of desk.lives) (covers_of desk.lives) folder entry id.0 desk.items.items (λ item. refl) (λ k apart. refl)
        (λ item there. subst (λ (i : Item). Fact says_it (covers_of desk.lives) folder (changed entry i)) (some_is named.item item (sym named.there ∙ there)) (published told facts))
        (subst (λ (list : List Item). Facts says_it (covers_of desk.lives) list folder) (sym (items_are before desk.items is_of)) facts)

  done_allows : tells → (good : Bool) (before : History) → HoldsOf good (says desk.origin) clock desk before → Allows good (says desk.origin) clock desk entry
  done_allows told good before holds =
      let said : Says = says desk.origin in
      let sits = at_rest good said clock desk before whole holds in
      let place : Folder = (now (clock desk.disk)).files in
      record {
        facts = if_map good (Facts said (covers_of desk.lives) (items_of before) place) (Facts said (covers_of desk.lives) (applied entry desk.items).items place) (facts_published good said before holds.items sits told) sits.rests.facts;
        ends = if_map good (EndsLive (covers_of desk.lives) (items_of before) place) (EndsLive (covers_of desk.lives) (applied entry desk.items).items place)
            (λ ends. ends_over (covers_of desk.lives) (covers_of desk.lives) entry id.0 desk.items.items place (λ item. refl) (λ k apart. refl) (λ item there. refl)
            (subst (λ (list : List Item). EndsLive (covers_of desk.lives) list place) (sym (items_are before desk.items holds.items)) ends)) sits.ends;
      }

  pub done_keeps : (new : View D O) → RecordGoes tells clock says desk new entry → Keeps tells clock says desk new
  done_keeps new goes told good before holds = goes told good before holds (done_allows told good before holds)
