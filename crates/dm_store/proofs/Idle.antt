-- What is kept behind an entry that leaves no attempt of its item, and owes nothing of the files.
use Rattle.std.proofs.Common.{◌≡◌, inl, ◌≤◌, Bool, true, false, ◌&&◌, ◌||◌, IsTrue, List, ◌++◌, length, Some, None, refl, sym, subst, arith}
use Rattle.std.proofs.lemmas.Bool.{false≢true}
use Rattle.dm_types.specs.declared.entry.Entry.{Entry}
use Rattle.dm_types.specs.declared.entry.Entry.TheVariants as entries
use Rattle.dm_types.specs.declared.item.Item.{Item}
use Rattle.dm_types.specs.declared.item.Phase.{Phase}
use Rattle.dm_types.specs.declared.item.Phase.TheVariants as phases
use Rattle.dm_disk_model.specs.Disk.{History as Clock, now}
use Rattle.dm_disk_model.specs.Folder.{Folder}
use Rattle.dm_item.specs.Fields.{is_running}
use Rattle.dm_item.specs.Kept.{IsNumbered}
use Rattle.dm_item.specs.Lawful.{History, items_of}
use Rattle.dm_item.specs.Listing.{Admits, Listing, applied, item_in}
use Rattle.dm_item.specs.Row.{is_interrupted, is_paused, is_waiting}
use Rattle.dm_item.proofs.Shorts.{numbered_of}
use Rattle.dm_kept.specs.Files.{Covers, EndsLive, Facts, PartsStand, Says, says_all}
use Rattle.dm_kept.proofs.Entered.{facts_archived, facts_asked, facts_cancelled, facts_paused, facts_removed, facts_restarted, items_are, row_of}
use Rattle.dm_kept.proofs.Flags.{if_map}
use Rattle.dm_kept.proofs.Standing.{ends_gone, ends_over, stand_gone, stand_over}
use Rattle.dm_store.specs.declared.life.Life.{Life}
use Rattle.dm_store.specs.Idle.{is_idle}
use Rattle.dm_store.specs.Keeps.{Allows, HoldsOf, IsDesk, Keeps, RecordGoes, StandBehind}
use Rattle.dm_store.specs.Lives.{AreAfter, AreLives, IsLifeFor, covers_of, is_plain, lives_after, without_life}
use Rattle.dm_store.specs.View.{View}
use Rattle.dm_store.proofs.Keeping.{at_rest}
use Rattle.dm_store.proofs.Lives.{covers_less, covers_others, lives_ended, lives_gone, lives_idle, no_more_lives}

pub idle_plain : (entry : Entry) → IsTrue (is_idle entry) → IsTrue (is_plain entry)
idle_plain (entries.Paused id) idle = refl
idle_plain (entries.Cancelled id) idle = refl
idle_plain (entries.Restarted id epoch because) idle = refl
idle_plain (entries.Removed id) idle = refl
idle_plain (entries.Archived id) idle = refl
idle_plain (entries.Asked id) idle = refl
idle_plain (entries.Added id word address wish digest at) idle = absurd (false≢true idle)
idle_plain (entries.Began id attempt by at) idle = absurd (false≢true idle)
idle_plain (entries.Described id key last_address total name modified) idle = absurd (false≢true idle)
idle_plain (entries.Progress id slices) idle = absurd (false≢true idle)
idle_plain (entries.Broke id reason) idle = absurd (false≢true idle)
idle_plain (entries.Finishing id total) idle = absurd (false≢true idle)
idle_plain (entries.Done id digest at) idle = absurd (false≢true idle)
idle_plain (entries.Reopened next at) idle = absurd (false≢true idle)
idle_plain (entries.Restored item) idle = absurd (false≢true idle)

-- it begins no attempt
pub idle_for : (entry : Entry) → IsTrue (is_idle entry) → (items : Listing) → IsLifeFor entry items None
idle_for (entries.Paused id) idle items = tt
idle_for (entries.Cancelled id) idle items = tt
idle_for (entries.Restarted id epoch because) idle items = tt
idle_for (entries.Removed id) idle items = tt
idle_for (entries.Archived id) idle items = tt
idle_for (entries.Asked id) idle items = tt
idle_for (entries.Added id word address wish digest at) idle items = absurd (false≢true idle)
idle_for (entries.Began id attempt by at) idle items = absurd (false≢true idle)
idle_for (entries.Described id key last_address total name modified) idle items = absurd (false≢true idle)
idle_for (entries.Progress id slices) idle items = absurd (false≢true idle)
idle_for (entries.Broke id reason) idle items = absurd (false≢true idle)
idle_for (entries.Finishing id total) idle items = absurd (false≢true idle)
idle_for (entries.Done id digest at) idle items = absurd (false≢true idle)
idle_for (entries.Reopened next at) idle items = absurd (false≢true idle)
idle_for (entries.Restored item) idle items = absurd (false≢true idle)

-- an attempt leaves as much room as it takes
pub idle_room : (entry : Entry) → IsTrue (is_idle entry) → (items : Listing) (lives : List Life) → length (lives_after entry items lives) ≤ length lives
idle_room (entries.Paused id) idle items lives = no_more_lives id.0 lives
idle_room (entries.Cancelled id) idle items lives = no_more_lives id.0 lives
idle_room (entries.Restarted id epoch because) idle items lives = omega arith
idle_room (entries.Removed id) idle items lives = no_more_lives id.0 lives
idle_room (entries.Archived id) idle items lives = no_more_lives id.0 lives
idle_room (entries.Asked id) idle items lives = omega arith
idle_room (entries.Added id word address wish digest at) idle items lives = absurd (false≢true idle)
idle_room (entries.Began id attempt by at) idle items lives = absurd (false≢true idle)
idle_room (entries.Described id key last_address total name modified) idle items lives = absurd (false≢true idle)
idle_room (entries.Progress id slices) idle items lives = absurd (false≢true idle)
idle_room (entries.Broke id reason) idle items lives = absurd (false≢true idle)
idle_room (entries.Finishing id total) idle items lives = absurd (false≢true idle)
idle_room (entries.Done id digest at) idle items lives = absurd (false≢true idle)
idle_room (entries.Reopened next at) idle items lives = absurd (false≢true idle)
idle_room (entries.Restored item) idle items lives = absurd (false≢true idle)

-- phases in which no attempt runs

restarted_idle : (phase : Phase) → IsTrue (is_waiting phase || is_interrupted phase) → is_running phase ≡ false
restarted_idle phases.Running may = absurd (false≢true may)
restarted_idle phases.Waiting may = refl
restarted_idle phases.Paused may = refl
restarted_idle phases.Finishing may = refl
restarted_idle phases.Complete may = refl
restarted_idle phases.Cancelled may = refl
restarted_idle (phases.Interrupted reason) may = refl

asked_idle : (phase : Phase) → IsTrue (is_paused phase || is_interrupted phase) → is_running phase ≡ false
asked_idle phases.Running may = absurd (false≢true may)
asked_idle phases.Waiting may = refl
asked_idle phases.Paused may = refl
asked_idle phases.Finishing may = refl
asked_idle phases.Complete may = refl
asked_idle phases.Cancelled may = refl
asked_idle (phases.Interrupted reason) may = refl

never_told : (runs : Bool) → (runs && false) ≡ false
never_told true = refl
never_told false = refl

-- The list of a desk takes the entry.
module _ (v : Listing) (numbered : IsNumbered 1 v.items v.next) (lives : List Life) where
  lives_behind : (entry : Entry) → IsTrue (is_idle entry) → Admits v entry → AreLives v.items lives → AreAfter entry v lives
  lives_behind (entries.Paused id) idle may are = lives_ended (entries.Paused id) id.0 v.items lives (λ x. refl) (λ x. refl) are
  lives_behind (entries.Cancelled id) idle may are = lives_ended (entries.Cancelled id) id.0 v.items lives (λ x. refl) (λ x. refl) are
  lives_behind (entries.Restarted id epoch because) idle may are =
      let idles = λ (x : Item) (there : item_in id.0 v.items ≡ Some x). restarted_idle x.phase (row_of (entries.Restarted id epoch because) v.items x (item_in id.0 v.items) there may.meets).0 in
      lives_idle (entries.Restarted id epoch because) id.0 v.items lives (λ x. refl) idles idles are
  lives_behind (entries.Removed id) idle may are = lives_gone id.0 1 v.next v.items lives numbered are
  lives_behind (entries.Archived id) idle may are = lives_gone id.0 1 v.next v.items lives numbered are
  lives_behind (entries.Asked id) idle may are =
      lives_idle (entries.Asked id) id.0 v.items lives (λ x. refl)
      (λ x there. asked_idle x.phase (row_of (entries.Asked id) v.items x (item_in id.0 v.items) there may.meets).0) (λ x there. refl) are
  lives_behind (entries.Added id word address wish digest at) idle may are = absurd (false≢true idle)
  lives_behind (entries.Began id attempt by at) idle may are = absurd (false≢true idle)
  lives_behind (entries.Described id key last_address total name modified) idle may are = absurd (false≢true idle)
  lives_behind (entries.Progress id slices) idle may are = absurd (false≢true idle)
  lives_behind (entries.Broke id reason) idle may are = absurd (false≢true idle)
  lives_behind (entries.Finishing id total) idle may are = absurd (false≢true idle)
  lives_behind (entries.Done id digest at) idle may are = absurd (false≢true idle)
  lives_behind (entries.Reopened next at) idle may are = absurd (false≢true idle)
  lives_behind (entries.Restored item) idle may are = absurd (false≢true idle)

  facts_behind : (said : Says) (folder : Folder) (entry : Entry) → IsTrue (is_idle entry) → Admits v entry → Facts said (covers_of lives) v.items folder
      → Facts said (covers_of (lives_after entry (applied entry v) lives)) (applied entry v).items folder
  facts_behind said folder (entries.Paused id) idle may facts = facts_paused said (covers_of lives) (covers_of (without_life id.0 lives)) folder id v may.meets (covers_others id.0 lives) (covers_less id.0 v.items lives) facts
  facts_behind said folder (entries.Cancelled id) idle may facts = facts_cancelled said (covers_of lives) (covers_of (without_life id.0 lives)) folder id v (covers_others id.0 lives) facts
  facts_behind said folder (entries.Restarted id epoch because) idle may facts = facts_restarted said (covers_of lives) (covers_of lives) folder id epoch because v (λ k apart. refl) facts
  facts_behind said folder (entries.Removed id) idle may facts = facts_removed said (covers_of lives) (covers_of (without_life id.0 lives)) folder id v numbered (covers_others id.0 lives) facts
  facts_behind said folder (entries.Archived id) idle may facts = facts_archived said (covers_of lives) (covers_of (without_life id.0 lives)) folder id v numbered (covers_others id.0 lives) facts
  facts_behind said folder (entries.Asked id) idle may facts = facts_asked said (covers_of lives) (covers_of lives) folder id v may.meets (λ k apart. refl) (λ x there. inl refl) facts
  facts_behind said folder (entries.Added id word address wish digest at) idle may facts = absurd (false≢true idle)
  facts_behind said folder (entries.Began id attempt by at) idle may facts = absurd (false≢true idle)
  facts_behind said folder (entries.Described id key last_address total name modified) idle may facts = absurd (false≢true idle)
  facts_behind said folder (entries.Progress id slices) idle may facts = absurd (false≢true idle)
  facts_behind said folder (entries.Broke id reason) idle may facts = absurd (false≢true idle)
  facts_behind said folder (entries.Finishing id total) idle may facts = absurd (false≢true idle)
  facts_behind said folder (entries.Done id digest at) idle may facts = absurd (false≢true idle)
  facts_behind said folder (entries.Reopened next at) idle may facts = absurd (false≢true idle)
  facts_behind said folder (entries.Restored item) idle may facts = absurd (false≢true idle)

  ends_behind : (folder : Folder) (entry : Entry) → IsTrue (is_idle entry) → EndsLive (covers_of lives) v.items folder → EndsLive (covers_of (lives_after entry (applied entry v) lives)) (applied entry v).items folder
  ends_behind folder (entries.Paused id) idle ends = ends_over (covers_of lives) (covers_of (without_life id.0 lives)) (entries.Paused id) id.0 v.items folder (λ x. refl) (covers_others id.0 lives) (λ x there. refl) ends
  ends_behind folder (entries.Cancelled id) idle ends = ends_over (covers_of lives) (covers_of (without_life id.0 lives)) (entries.Cancelled id) id.0 v.items folder (λ x. refl) (covers_others id.0 lives) (λ x there. refl) ends
  ends_behind folder (entries.Restarted id epoch because) idle ends =
      ends_over (covers_of lives) (covers_of lives) (entries.Restarted id epoch because) id.0 v.items folder (λ x. refl) (λ k apart. refl) (λ x there. never_told (is_running x.phase)) ends
  ends_behind folder (entries.Removed id) idle ends = ends_gone (covers_of lives) (covers_of (without_life id.0 lives)) id.0 1 v.next v.items folder numbered (covers_others id.0 lives) ends
  ends_behind folder (entries.Archived id) idle ends = ends_gone (covers_of lives) (covers_of (without_life id.0 lives)) id.0 1 v.next v.items folder numbered (covers_others id.0 lives) ends
  ends_behind folder (entries.Asked id) idle ends = ends_over (covers_of lives) (covers_of lives) (entries.Asked id) id.0 v.items folder (λ x. refl) (λ k apart. refl) (λ x there. refl) ends
  ends_behind folder (entries.Added id word address wish digest at) idle ends = absurd (false≢true idle)
  ends_behind folder (entries.Began id attempt by at) idle ends = absurd (false≢true idle)
  ends_behind folder (entries.Described id key last_address total name modified) idle ends = absurd (false≢true idle)
  ends_behind folder (entries.Progress id slices) idle ends = absurd (false≢true idle)
  ends_behind folder (entries.Broke id reason) idle ends = absurd (false≢true idle)
  ends_behind folder (entries.Finishing id total) idle ends = absurd (false≢true idle)
  ends_behind folder (entries.Done id digest at) idle ends = absurd (false≢true idle)
  ends_behind folder (entries.Reopened next at) idle ends = absurd (false≢true idle)
  ends_behind folder (entries.Restored item) idle ends = absurd (false≢true idle)

  stand_behind : (folder : Folder) (entry : Entry) → IsTrue (is_idle entry) → PartsStand v.items folder → PartsStand (applied entry v).items folder
  stand_behind folder (entries.Paused id) idle stand = stand_over (entries.Paused id) id.0 v.items folder (λ x. refl) (λ x there. refl) stand
  stand_behind folder (entries.Cancelled id) idle stand = stand_over (entries.Cancelled id) id.0 v.items folder (λ x. refl) (λ x there. refl) stand
  stand_behind folder (entries.Restarted id epoch because) idle stand = stand_over (entries.Restarted id epoch because) id.0 v.items folder (λ x. refl) (λ x there. never_told (is_running x.phase)) stand
  stand_behind folder (entries.Removed id) idle stand = stand_gone id.0 1 v.next v.items folder numbered stand
  stand_behind folder (entries.Archived id) idle stand = stand_gone id.0 1 v.next v.items folder numbered stand
  stand_behind folder (entries.Asked id) idle stand = stand_over (entries.Asked id) id.0 v.items folder (λ x. refl) (λ x there. refl) stand
  stand_behind folder (entries.Added id word address wish digest at) idle stand = absurd (false≢true idle)
  stand_behind folder (entries.Began id attempt by at) idle stand = absurd (false≢true idle)
  stand_behind folder (entries.Described id key last_address total name modified) idle stand = absurd (false≢true idle)
  stand_behind folder (entries.Progress id slices) idle stand = absurd (false≢true idle)
  stand_behind folder (entries.Broke id reason) idle stand = absurd (false≢true idle)
  stand_behind folder (entries.Finishing id total) idle stand = absurd (false≢true idle)
  stand_behind folder (entries.Done id digest at) idle stand = absurd (false≢true idle)
  stand_behind folder (entries.Reopened next at) idle stand = absurd (false≢true idle)
  stand_behind folder (entries.Restored item) idle stand = absurd (false≢true idle)

-- A desk that records such an entry.
module _ {D O : Type 0} (tells : Type 0) (clock : D → Clock) (says : O → Says) (desk : View D O) (is : IsDesk tells clock desk) (whole : desk.broken ≡ false) (entry : Entry) (idle : IsTrue (is_idle entry)) (may : Admits desk.items entry) where
  numbered : IsNumbered 1 desk.items.items desk.items.next
  numbered = numbered_of (is.founded.before ++ desk.list) desk.items is.founded.items

  pub idle_lives : AreAfter entry desk.items desk.lives
  idle_lives = lives_behind desk.items numbered desk.lives entry idle may (is.lives whole)

  pub idle_stands : tells → StandBehind clock desk entry
  idle_stands told =
      let history : History = is.founded.before ++ desk.list in
      let sits = at_rest false says_all clock desk history whole (is.founded.holds told) in
      stand_behind desk.items numbered desk.lives (now (clock desk.disk)).files entry idle
      (subst (λ (items : List Item). PartsStand items (now (clock desk.disk)).files) (sym (items_are history desk.items is.founded.items)) sits.stand)

  pub idle_allows : (good : Bool) (before : History) → HoldsOf good (says desk.origin) clock desk before → Allows good (says desk.origin) clock desk entry
  idle_allows good before holds =
      let sits = at_rest good (says desk.origin) clock desk before whole holds in
      let folder : Folder = (now (clock desk.disk)).files in
      let covers : Covers = covers_of desk.lives in
      let after : Covers = covers_of (lives_after entry (applied entry desk.items) desk.lives) in
      let back = sym (items_are before desk.items holds.items) in
      record {
        facts = if_map good (Facts (says desk.origin) covers (items_of before) folder) (Facts (says desk.origin) after (applied entry desk.items).items folder)
            (λ facts. facts_behind desk.items numbered desk.lives (says desk.origin) folder entry idle may
            (subst (λ (list : List Item). Facts (says desk.origin) covers list folder) back facts)) sits.rests.facts;
        ends = if_map good (EndsLive covers (items_of before) folder) (EndsLive after (applied entry desk.items).items folder)
            (λ ends. ends_behind desk.items numbered desk.lives folder entry idle (subst (λ (list : List Item). EndsLive covers list folder) back ends)) sits.ends;
      }

  -- so its recording is a call like others
  pub idle_keeps : (new : View D O) → RecordGoes tells clock says desk new entry → Keeps tells clock says desk new
  idle_keeps new goes told good before holds = goes told good before holds (idle_allows good before holds)
