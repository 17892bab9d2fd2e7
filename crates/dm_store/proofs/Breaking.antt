-- What is kept where an attempt is interrupted.
use Rattle.std.proofs.Common.{◌≡◌, ◌≢◌, ℕ, ◌+◌, ◌*◌, ◌≤◌, Bool, false, ◌||◌, IsTrue, List, ◌++◌, length, Option, Some, None, refl, sym, subst, arith}
use Rattle.std.specs.Prelude.{IsSome, OnOk, Result, Ok, Err}
use Rattle.std.proofs.lemmas.Bool.{false≢true}
use Rattle.dm_types.specs.declared.entry.Entry.TheVariants as entries
use Rattle.dm_types.specs.declared.item.Item.{Item}
use Rattle.dm_types.specs.declared.item.ItemId.{ItemId}
use Rattle.dm_types.specs.declared.item.Phase.{Phase}
use Rattle.dm_types.specs.declared.item.Phase.TheVariants as phases
use Rattle.dm_types.specs.declared.reason.Reason.{Reason}
use Rattle.dm_types.specs.declared.reason.Reason.TheVariants as reasons
use Rattle.dm_disk_model.specs.Disk.{History as Clock, now}
use Rattle.dm_item.specs.Fields.{is_running}
use Rattle.dm_item.specs.Lawful.{History, items_of}
use Rattle.dm_item.specs.Listing.{Admits, Row, applied, item_in}
use Rattle.dm_item.specs.Row.{is_finishing}
use Rattle.dm_kept.specs.Files.{EndsLive, Facts, PartsStand, Says, says_all}
use Rattle.dm_kept.proofs.Entered.{facts_broke, items_are}
use Rattle.dm_kept.proofs.Flags.{if_map}
use Rattle.dm_kept.proofs.Standing.{ends_over, stand_over}
use Rattle.dm_store.specs.declared.life.Life.{Life}
use Rattle.dm_store.specs.Keeps.{Allows, HoldsOf, IsDesk, Keeps, RecordGoes, StandBehind}
use Rattle.dm_store.specs.Lives.{AreAfter, covers_of, life_in, without_life}
use Rattle.dm_store.specs.View.{View}
use Rattle.dm_store.proofs.Keeping.{at_rest}
use Rattle.dm_store.proofs.Lives.{covers_less, covers_others, fewer_lives, lives_ended, lives_run, lives_there}

running_or : (phase : Phase) → IsTrue (is_running phase) → IsTrue (is_running phase || is_finishing phase)
running_or phases.Running is = refl
running_or phases.Waiting is = is
running_or phases.Paused is = is
running_or phases.Finishing is = refl
running_or phases.Complete is = is
running_or phases.Cancelled is = is
running_or (phases.Interrupted reason) is = is

row_of_one : (id : ItemId) (reason : Reason) (items : List Item) (found : Option Item) → IsSome found → ((item : Item) → found ≡ Some item → IsTrue (is_running item.phase)) → (reason ≢ reasons.UserCanceled) × (reason ≢ reasons.Crash)
    → Row (entries.Broke id reason) items found
row_of_one id reason items None some runs allowed = absurd (false≢true some)
row_of_one id reason items (Some item) some runs allowed = (running_or item.phase (runs item refl), allowed)

module _ {D O : Type 0} (tells : Type 0) (clock : D → Clock) (says : O → Says) (desk : View D O) (id : ItemId) (reason : Reason) (is : IsDesk tells clock desk) (whole : desk.broken ≡ false) (some : IsSome (life_in id.0 desk.lives)) where
  runs : (item : Item) → item_in id.0 desk.items.items ≡ Some item → IsTrue (is_running item.phase)
  runs = lives_run id.0 desk.items.items desk.lives (is.lives whole) some

  -- the list takes the entry
  pub broke_admits : (reason ≢ reasons.UserCanceled) × (reason ≢ reasons.Crash) → Admits desk.items (entries.Broke id reason)
  broke_admits allowed = record {
    room = tt;
    meets = row_of_one id reason desk.items.items (item_in id.0 desk.items.items) (lives_there id.0 desk.items.items desk.lives (is.lives whole) some) runs allowed;
  }

  pub broke_lives : AreAfter (entries.Broke id reason) desk.items desk.lives
  broke_lives = lives_ended (entries.Broke id reason) id.0 desk.items.items desk.lives (λ item. refl) (λ item. refl) (is.lives whole)

  pub broke_stands : tells → StandBehind clock desk (entries.Broke id reason)
  broke_stands told =
      let history : History = is.founded.before ++ desk.list in
      let sits = at_rest false says_all clock desk history whole (is.founded.holds told) in
      stand_over (entries.Broke id reason) id.0 desk.items.items (now (clock desk.disk)).files (λ item. refl) (λ item there. refl)
      (subst (λ (items : List Item). PartsStand items (now (clock desk.disk)).files) (sym (items_are history desk.items is.founded.items)) sits.stand)

  -- it owes nothing that isn't kept
  pub broke_allows : (good : Bool) (before : History) → HoldsOf good (says desk.origin) clock desk before → Allows good (says desk.origin) clock desk (entries.Broke id reason)
  broke_allows good before holds =
      let entry = entries.Broke id reason in
      let sits = at_rest good (says desk.origin) clock desk before whole holds in
      let folder = (now (clock desk.disk)).files in
      let items = desk.items.items in
      let back = sym (items_are before desk.items holds.items) in
      record {
        facts = if_map good (Facts (says desk.origin) (covers_of desk.lives) (items_of before) folder) (Facts (says desk.origin) (covers_of (without_life id.0 desk.lives)) (applied entry desk.items).items folder)
            (λ facts. facts_broke (says desk.origin) (covers_of desk.lives) (covers_of (without_life id.0 desk.lives)) folder id reason desk.items runs (covers_others id.0 desk.lives) (covers_less id.0 items desk.lives)
            (subst (λ (list : List Item). Facts (says desk.origin) (covers_of desk.lives) list folder) back facts)) sits.rests.facts;
        ends = if_map good (EndsLive (covers_of desk.lives) (items_of before) folder) (EndsLive (covers_of (without_life id.0 desk.lives)) (applied entry desk.items).items folder)
            (λ ends. ends_over (covers_of desk.lives) (covers_of (without_life id.0 desk.lives)) entry id.0 items folder (λ item. refl) (covers_others id.0 desk.lives) (λ item there. refl)
            (subst (λ (list : List Item). EndsLive (covers_of desk.lives) list folder) back ends)) sits.ends;
      }

  -- so its recording is a call like others
  pub broke_keeps : (new : View D O) → RecordGoes tells clock says desk new (entries.Broke id reason) → Keeps tells clock says desk new
  broke_keeps new goes told good before holds = goes told good before holds (broke_allows good before holds)

-- room for three is left where an attempt ends, and one is used
pub broke_room : (id : ℕ) (lives : List Life) (used count capacity : ℕ) → IsSome (life_in id lives) → used + count + 3 * length lives ≤ capacity → used + ((count + 2) + 1) + 3 * length (without_life id lives) ≤ capacity
broke_room id lives used count capacity some room = let fewer = fewer_lives id lives some in omega (arith, fewer, room)

-- where it is answered Ok
pub on_ok : {A E : Type 0} (result : Result A E) (P Q : Type 0) → (P → Q) → OnOk result P → OnOk result Q
on_ok (Ok value) P Q leads is = leads is
on_ok (Err fault) P Q leads is = tt
