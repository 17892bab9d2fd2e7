-- What is kept where an attempt begins and ends in a row.
use Rattle.std.proofs.Common.{◌≡◌, ◌≢◌, inl, ℕ, ◌+◌, ◌≤◌, Bool, true, false, not, IsTrue, ◌==◌, cond, List, [], ◌∷◌, ◌++◌, length, drop, Option, Some, None, refl, sym, ◌∙◌, ap, subst, append_assoc, arith}
use Rattle.std.specs.Option.{option_map}
use Rattle.std.proofs.lemmas.Bool.{false≢true}
use Rattle.std.proofs.lemmas.Bool.Decides.{nat_tests}
use Rattle.std.proofs.Math.Seq.{drop-append_seam}
use Rattle.dm_types.specs.Limits.{IsLimits, most_items}
use Rattle.dm_types.specs.declared.entry.Entry.{Entry}
use Rattle.dm_types.specs.declared.entry.Entry.TheVariants as entries
use Rattle.dm_types.specs.declared.item.Item.{Item}
use Rattle.dm_types.specs.declared.item.Limits.{Limits}
use Rattle.dm_types.specs.declared.item.Phase.{Phase}
use Rattle.dm_types.specs.declared.item.Phase.TheVariants as phases
use Rattle.dm_types.specs.declared.kinds.By.{By}
use Rattle.dm_types.specs.declared.kinds.By.TheVariants.{User, Itself}
use Rattle.dm_types.specs.declared.reason.Reason.{Reason}
use Rattle.dm_types.specs.declared.reason.Reason.TheVariants as reasons
use Rattle.dm_disk_model.specs.Disk.{DiskState, History as Clock, Stands, now}
use Rattle.dm_disk_model.specs.File.{settled_file}
use Rattle.dm_disk_model.specs.Folder.{Folder}
use Rattle.dm_disk_model.specs.Moments.{KeepsFiles, LeavesOnly, Throughout}
use Rattle.dm_disk_model.proofs.FirmNames.{has_now}
use Rattle.dm_disk_model.proofs.Places.{stands_from}
use Rattle.dm_disk_model.proofs.Reaching.{at_end, joined, weaker}
use Rattle.dm_record.specs.Limits.{IsEntry}
use Rattle.dm_record.specs.Spelling.{spelling_of}
use Rattle.dm_item.specs.Fields.{is_running}
use Rattle.dm_item.specs.Lawful.{History, IsOf, items_of}
use Rattle.dm_item.specs.Listing.{Admits, Listing, Row, applied, changed_at, item_in}
use Rattle.dm_item.specs.Row.{begins_in, begun_item, changed}
use Rattle.dm_item.proofs.Histories.{keeps_step}
use Rattle.dm_journal.specs.AtRest.{AtRest, MayLeaveJust, WithOrWithout, journal_name, journal_place}
use Rattle.dm_kept.specs.Files.{Covers, EachItem, EndsLive, Facts, IfGood, PartsStand, Says, says_all}
use Rattle.dm_kept.specs.Kept.{Kept, Rests, Sits}
use Rattle.dm_kept.specs.Recovery.{Through}
use Rattle.dm_kept.specs.Room.{MayFollow}
use Rattle.dm_kept.specs.Spelled.{AllEntries, bodies_of}
use Rattle.dm_kept.proofs.Entered.{facts_began, facts_broke, items_are, row_of}
use Rattle.dm_kept.proofs.Flags.{if_map}
use Rattle.dm_kept.proofs.Histories.{entries_push, follows_more}
use Rattle.dm_kept.proofs.Lists.{changed_beside, changed_here, each_changed, eq_is, eq_not, id_in, some_is}
use Rattle.dm_kept.proofs.Listings.{follows_of}
use Rattle.dm_kept.proofs.Resting as resting
use Rattle.dm_kept.proofs.Standing as standing
use Rattle.dm_store.specs.declared.life.Life.{Life}
use Rattle.dm_store.specs.Becomes.{lives_of}
use Rattle.dm_store.specs.Keeps.{Goes, HoldsOf, IsDesk, Keeps, RestsBy}
use Rattle.dm_store.specs.Lives.{AreBounded, AreLives, LifeOf, begun_life, covers_of, life_in, without_life}
use Rattle.dm_store.specs.View.{View}
use Rattle.dm_store.proofs.Begun.{began_lives_are, began_there, begun_there}
use Rattle.dm_store.proofs.Keeping.{at_rest, few_items, founded_next}
use Rattle.dm_store.proofs.Lives.{idle_life}
use Rattle.dm_begin.specs.Pair.{began_of}
use Rattle.dm_begin.specs.declared.entering.Begins.{Begins}

-- The items behind both entries: those of other ids are as before, and the item doesn't run.

module _ (P : Item → Type 0) (began broke : Entry) (k : ℕ) (items : List Item) (same : (item : Item) → (changed began item).id.0 ≡ item.id.0) (then : (item : Item) → (changed broke item).id.0 ≡ item.id.0)
    (over : (item : Item) → P (changed broke item)) where
  -- what holds of each item holds behind both, where it holds of every item that the last entry leaves
  each_both : EachItem P items → EachItem P (changed_at broke k (changed_at began k items))
  each_both each =
      each_changed (λ (item : Item). item.id.0 ≢ k → P item) P broke k (changed_at began k items) then (λ item apart has. has apart) (λ item there has. over item)
      (each_changed P (λ (item : Item). item.id.0 ≢ k → P item) began k items same (λ item apart has other. has) (λ item there has other. absurd (other (same item ∙ id_in k item items there))) each)

-- the lives of a list in which no attempt of the item ran
lives_both : (began broke : Entry) (k : ℕ) (items : List Item) (lives : List Life) → ((item : Item) → (changed began item).id.0 ≡ item.id.0) → ((item : Item) → (changed broke item).id.0 ≡ item.id.0)
    → ((item : Item) → is_running (changed broke item).phase ≡ false) → life_in k lives ≡ None → AreLives items lives → AreLives (changed_at broke k (changed_at began k items)) lives
lives_both began broke k items lives same then over none are id = by (id == k) refl
  where
    ended : (found : Option Item) → LifeOf (option_map (changed broke) found) None
    ended None = tt
    ended (Some item) = over item

    by : (test : Bool) → (id == k) ≡ test → LifeOf (item_in id (changed_at broke k (changed_at began k items))) (life_in id lives)
    by true at =
        subst (λ (n : ℕ). LifeOf (item_in n (changed_at broke k (changed_at began k items))) (life_in n lives)) (sym (eq_is id k at))
        (subst (λ (found : Option Item). LifeOf found (life_in k lives)) (sym (changed_here broke k then (changed_at began k items)))
        (subst (LifeOf (option_map (changed broke) (item_in k (changed_at began k items)))) (sym none) (ended (item_in k (changed_at began k items)))))
    by false at =
        let apart : id ≢ k = eq_not id k at in
        subst (λ (found : Option Item). LifeOf found (life_in id lives)) (sym (changed_beside broke k then id apart (changed_at began k items) ∙ changed_beside began k same id apart items)) (are id)

-- a life that is pushed and taken away
pushed_test : (k : ℕ) (life x : Life) (rest : List Life) (test : Bool) → cond test (Some x) (life_in k rest) ≡ None → (life_in k rest ≡ None → without_life k (rest ++ life ∷ []) ≡ rest)
    → cond (not test) (x ∷ without_life k (rest ++ life ∷ [])) (without_life k (rest ++ life ∷ [])) ≡ x ∷ rest
pushed_test k life x rest true none later = absurd cc
pushed_test k life x rest false none later = ap (λ (lives : List Life). x ∷ lives) (later none)

without_pushed : (k : ℕ) (life : Life) (lives : List Life) → (life.id.0 == k) ≡ true → life_in k lives ≡ None → without_life k (lives ++ life ∷ []) ≡ lives
without_pushed k life [] is none = ap (λ (b : Bool). cond (not b) (life ∷ []) []) is
without_pushed k life (x ∷ rest) is none = pushed_test k life x rest (x.id.0 == k) none (without_pushed k life rest is)

same_test : (n m : ℕ) → n ≡ m → (n == m) ≡ true
same_test n m same = grind (arith, nat_tests)

-- no item begins that runs
idle_before : (who : By) (phase : Phase) → IsTrue (begins_in who phase) → is_running phase ≡ false
idle_before User phases.Running may = absurd (false≢true may)
idle_before Itself phases.Running may = absurd (false≢true may)
idle_before who phases.Waiting may = refl
idle_before who phases.Paused may = refl
idle_before who phases.Finishing may = refl
idle_before who phases.Complete may = refl
idle_before who phases.Cancelled may = refl
idle_before who (phases.Interrupted reason) may = refl

module _ {D O : Type 0} (tells : Type 0) (clock : D → Clock) (says : O → Says) (desk : View D O) (is : IsDesk tells clock desk) (whole : desk.broken ≡ false) (what : Begins) (reason : Reason)
    (entry_is : IsEntry (began_of what)) (may : Admits desk.items (began_of what)) (allowed : (reason ≢ reasons.UserCanceled) × (reason ≢ reasons.Crash)) where
  abbrev began : Entry
  began = entries.Began what.id what.attempt what.by what.at

  abbrev broke : Entry
  broke = entries.Broke what.id reason

  abbrev mid : Listing
  mid = applied began desk.items

  abbrev last : Listing
  last = applied broke mid

  abbrev covers : Covers
  covers = covers_of desk.lives

  abbrev start : Clock
  start = clock desk.disk

  abbrev folder : Folder
  folder = (now (clock desk.disk)).files

  mid_there : item_in what.id.0 mid.items ≡ Some (begun_item what.attempt what.by (began_there tells clock says desk is whole what.id what.attempt what.by what.at may).it)
  mid_there = begun_there what.id what.attempt what.by what.at desk.items (began_there tells clock says desk is whole what.id what.attempt what.by what.at may).it (began_there tells clock says desk is whole what.id what.attempt what.by what.at may).is

  -- no attempt of the item ran
  pub none_ran : life_in what.id.0 desk.lives ≡ None
  none_ran =
      let there = began_there tells clock says desk is whole what.id what.attempt what.by what.at may in
      idle_life there.it (life_in what.id.0 desk.lives) (idle_before what.by there.it.phase (row_of began desk.items.items there.it (item_in what.id.0 desk.items.items) there.is may.meets).0)
      (subst (λ (found : Option Item). LifeOf found (life_in what.id.0 desk.lives)) there.is (is.lives whole what.id.0))

  -- the list takes the second entry behind the first
  pub broke_may : Admits mid broke
  broke_may = record { room = tt; meets = subst (Row broke mid.items) (sym mid_there) (refl, allowed) }

  runs : (item : Item) → item_in what.id.0 mid.items ≡ Some item → IsTrue (is_running item.phase)
  runs item there = subst (λ (i : Item). IsTrue (is_running i.phase)) (some_is (begun_item what.attempt what.by (began_there tells clock says desk is whole what.id what.attempt what.by what.at may).it) item (sym mid_there ∙ there)) refl

  -- with its life they are the lives of before
  pub lives_back : desk.lives ≡ lives_of (began ∷ broke ∷ []) desk.items desk.lives
  lives_back =
      let there = began_there tells clock says desk is whole what.id what.attempt what.by what.at may in
      sym (ap (without_life what.id.0) (began_lives_are tells clock says desk is whole what.id what.attempt what.by what.at may)
      ∙ without_pushed what.id.0 (begun_life (begun_item what.attempt what.by there.it)) desk.lives (same_test there.it.id.0 what.id.0 (id_in what.id.0 there.it desk.items.items there.is)) none_ran)

  few : desk.items.limit ≤ most_items
  few = few_items tells clock desk is

  of_mid : (history : History) → IsOf history desk.items → IsOf (history ++ began ∷ []) mid
  of_mid history is_of = keeps_step history began desk.items mid is_of (record { room = may.room; meets = may.meets; value = refl })

  of_last : (history : History) → IsOf history desk.items → IsOf ((history ++ began ∷ []) ++ broke ∷ []) last
  of_last history is_of = keeps_step (history ++ began ∷ []) broke mid last (of_mid history is_of) (record { room = broke_may.room; meets = broke_may.meets; value = refl })

  follows_first : (history : History) → IsOf history desk.items → MayFollow most_items history began
  follows_first history is_of = follows_more desk.items.limit most_items history began few (follows_of desk.items began history is_of may.room may.meets)

  follows_second : (history : History) → IsOf history desk.items → MayFollow most_items (history ++ began ∷ []) broke
  follows_second history is_of = follows_more desk.items.limit most_items (history ++ began ∷ []) broke few (follows_of mid broke (history ++ began ∷ []) (of_mid history is_of) broke_may.room broke_may.meets)

  facts_mid : (said : Says) → Facts said covers desk.items.items folder → Facts said covers mid.items folder
  facts_mid said = facts_began said covers covers folder what.id what.attempt what.by what.at desk.items may.meets (λ k apart. refl) (λ item there. inl refl)

  facts_last : (said : Says) → Facts said covers mid.items folder → Facts said covers last.items folder
  facts_last said = facts_broke said covers covers folder what.id reason mid runs (λ k apart. refl) (λ item there. inl refl)

  -- The first entry was tried.
  module _ (middle : Clock) (keeps_first : tells → KeepsFiles start middle)
      (only_first : tells → (bodies : List (List ℕ)) → AtRest (now start) desk.gate bodies → LeavesOnly start middle (WithOrWithout bodies (spelling_of began))) where
    same_first : tells → (now middle).files ≡ folder
    same_first told = at_end start middle (λ (disk : DiskState). disk.files ≡ folder) (keeps_first told)

    owed_first : (good : Bool) (said : Says) (before : History) → HoldsOf good said clock desk before → IfGood good (Facts said covers (items_of (before ++ began ∷ [])) folder)
    owed_first good said before holds =
        let rests = (at_rest good said clock desk before whole holds).rests in
        if_map good (Facts said covers (items_of before) folder) (Facts said covers (items_of (before ++ began ∷ [])) folder)
        (λ facts. subst (λ (items : List Item). Facts said covers items folder) (items_are (before ++ began ∷ []) mid (of_mid before holds.items))
        (facts_mid said (subst (λ (items : List Item). Facts said covers items folder) (sym (items_are before desk.items holds.items)) facts))) rests.facts

    first_moments : tells → (good : Bool) (said : Says) (before : History) → HoldsOf good said clock desk before → Throughout start middle (Kept good said (Through before (began ∷ [])))
    first_moments told good said before holds =
        let rests = (at_rest good said clock desk before whole holds).rests in
        resting.moments good said before desk.gate covers covers start middle began entry_is (follows_first before holds.items) rests (keeps_first told) (owed_first good said before holds) (only_first told (bodies_of before) rests.journal)

    -- And recorded.
    module _ (gate : ℕ) (rest_first : tells → (bodies : List (List ℕ)) → AtRest (now start) desk.gate bodies → AtRest (now middle) gate (bodies ++ spelling_of began ∷ [])) where
      first_rests : tells → (good : Bool) (said : Says) (before : History) → HoldsOf good said clock desk before → Rests good said (before ++ began ∷ []) gate covers (now middle)
      first_rests told good said before holds =
          let rests = (at_rest good said clock desk before whole holds).rests in
          resting.rests_more good said before desk.gate covers covers start middle began entry_is (follows_first before holds.items) rests (keeps_first told) (owed_first good said before holds)
          gate (rest_first told (bodies_of before) rests.journal) (same_first told)

      -- the journal stands
      pub middle_stands : tells → Stands (now middle) journal_place
      middle_stands told =
          let journal = (first_rests told false says_all (is.founded.before ++ desk.list) (is.founded.holds told)).journal in
          stands_from (now middle) journal_place journal.bytes (has_now (now middle).state journal_name (settled_file journal.bytes) journal.file)

      -- The second was tried.
      module _ (new : View D O) (broke_is : IsEntry broke) (keeps_second : tells → KeepsFiles middle (clock new.disk))
          (only_second : tells → (bodies : List (List ℕ)) → AtRest (now middle) gate bodies → LeavesOnly middle (clock new.disk) (WithOrWithout bodies (spelling_of broke))) (limits : new.limits ≡ desk.limits) where
        abbrev end : Clock
        end = clock new.disk

        same_second : tells → (now end).files ≡ (now middle).files
        same_second told = at_end middle end (λ (disk : DiskState). disk.files ≡ (now middle).files) (keeps_second told)

        owed_second : tells → (good : Bool) (said : Says) (before : History) → HoldsOf good said clock desk before → IfGood good (Facts said covers (items_of ((before ++ began ∷ []) ++ broke ∷ [])) (now middle).files)
        owed_second told good said before holds =
            if_map good (Facts said covers (items_of (before ++ began ∷ [])) (now middle).files) (Facts said covers (items_of ((before ++ began ∷ []) ++ broke ∷ [])) (now middle).files)
            (λ facts. subst (λ (f : Folder). Facts said covers (items_of ((before ++ began ∷ []) ++ broke ∷ [])) f) (sym (same_first told))
            (subst (λ (items : List Item). Facts said covers items folder) (items_are ((before ++ began ∷ []) ++ broke ∷ []) last (of_last before holds.items))
            (facts_last said (subst (λ (items : List Item). Facts said covers items folder) (sym (items_are (before ++ began ∷ []) mid (of_mid before holds.items)))
            (subst (Facts said covers (items_of (before ++ began ∷ []))) (same_first told) facts))))) (first_rests told good said before holds).facts

        second_moments : tells → (good : Bool) (said : Says) (before : History) → HoldsOf good said clock desk before → Throughout middle end (Kept good said (Through (before ++ began ∷ []) (broke ∷ [])))
        second_moments told good said before holds =
            let rests = first_rests told good said before holds in
            resting.moments good said (before ++ began ∷ []) gate covers covers middle end broke broke_is (follows_second before holds.items) rests (keeps_second told) (owed_second told good said before holds)
            (only_second told (bodies_of (before ++ began ∷ [])) rests.journal)

        both_moments : tells → (good : Bool) (said : Says) (before : History) → HoldsOf good said clock desk before → Throughout start end (Kept good said (Through before (began ∷ broke ∷ [])))
        both_moments told good said before holds =
            joined start middle end (Kept good said (Through before (began ∷ broke ∷ [])))
            (weaker start middle (Kept good said (Through before (began ∷ []))) (Kept good said (Through before (began ∷ broke ∷ [])))
            (λ disk. resting.kept_weaker good said (Through before (began ∷ [])) (Through before (began ∷ broke ∷ [])) disk (λ found. resting.through_front before (began ∷ []) (broke ∷ []) found)) (first_moments told good said before holds))
            (weaker middle end (Kept good said (Through (before ++ began ∷ []) (broke ∷ []))) (Kept good said (Through before (began ∷ broke ∷ [])))
            (λ disk. resting.kept_weaker good said (Through (before ++ began ∷ []) (broke ∷ [])) (Through before (began ∷ broke ∷ [])) disk (λ found. resting.through_back before (began ∷ []) (broke ∷ []) found)) (second_moments told good said before holds))

        desk_of : (recorded : History) → new.list ≡ desk.list ++ recorded → ((h : History) → AllEntries h → AllEntries (h ++ recorded)) → ((h : History) → IsOf h desk.items → IsOf (h ++ recorded) new.items) → Keeps tells clock says desk new
            → new.items.limit ≡ desk.items.limit → (new.broken ≡ false → new.failed ≡ []) → (new.broken ≡ false → AreLives new.items.items new.lives) → AreBounded (desk.limits.checkpoint + desk.limits.piece) new.lives → IsDesk tells clock new
        desk_of recorded list entries items keeps limit failed lives bounded = record {
          limits_are = subst IsLimits (sym limits) is.limits_are;
          limit = limit ∙ is.limit ∙ sym (ap (λ (l : Limits). l.items) limits);
          founded = founded_next tells clock says desk new began recorded is.founded list entries items (λ told good before holds allows. keeps told good before holds);
          failed = failed;
          lives = lives;
          bounded = subst (λ (l : Limits). AreBounded (l.checkpoint + l.piece) new.lives) (sym limits) bounded;
        }

        -- It failed: the desk is broken, with the first in its list.
        module _ (items : new.items ≡ mid) (list : new.list ≡ desk.list ++ began ∷ []) (failed : new.failed ≡ broke ∷ []) (broken : new.broken ≡ true)
            (lost : tells → (bodies : List (List ℕ)) → AtRest (now middle) gate bodies → MayLeaveJust bodies (now end).state) where
          pub fallen_keeps : Keeps tells clock says desk new
          fallen_keeps told good before holds =
              let said : Says = says desk.origin in
              subst (λ (h : History). Goes good said clock desk new before h) (sym (ap (λ (h : History). drop (length desk.list) h) list ∙ drop-append_seam desk.list (began ∷ []))) (record {
                longer = list;
                moments = subst (λ (h : History). Throughout start end (Kept good said (Through before (began ∷ h)))) (sym failed) (both_moments told good said before holds);
                holds = record {
                  items = subst (IsOf (before ++ began ∷ [])) (sym items) (of_mid before holds.items);
                  rests = subst (λ (b : Bool). RestsBy b good said (before ++ began ∷ []) new.failed new.gate (covers_of new.lives) (now end)) (sym broken)
                      (subst (λ (h : History). Kept good said (Through (before ++ began ∷ []) h) (now end)) (sym failed)
                      (at_end middle end (Kept good said (Through (before ++ began ∷ []) (broke ∷ []))) (second_moments told good said before holds)));
                };
                loses = λ was broke_it.
                    let rests = first_rests told good said before holds in
                    resting.bodies_leave (before ++ began ∷ []) (now end) rests.entries (lost told (bodies_of (before ++ began ∷ [])) rests.journal);
              })

          pub fallen_desk : AreBounded (desk.limits.checkpoint + desk.limits.piece) new.lives → IsDesk tells clock new
          fallen_desk bounded =
              desk_of (began ∷ []) list (λ h all. entries_push h began all entry_is) (λ h is_of. subst (IsOf (h ++ began ∷ [])) (sym items) (of_mid h is_of)) fallen_keeps
              (ap (λ (v : Listing). v.limit) items) (λ unbroken. absurd (false≢true (sym unbroken ∙ broken))) (λ unbroken. absurd (false≢true (sym unbroken ∙ broken))) bounded

        -- Or it was recorded too.
        module _ (items : new.items ≡ last) (list : new.list ≡ (desk.list ++ began ∷ []) ++ broke ∷ []) (failed : new.failed ≡ []) (broken : new.broken ≡ false) (lives : new.lives ≡ desk.lives)
            (rest_second : tells → (bodies : List (List ℕ)) → AtRest (now middle) gate bodies → AtRest (now end) new.gate (bodies ++ spelling_of broke ∷ [])) where
          longer_is : new.list ≡ desk.list ++ began ∷ broke ∷ []
          longer_is = list ∙ append_assoc desk.list (began ∷ []) (broke ∷ [])

          sits_both : tells → (good : Bool) (said : Says) (before : History) → HoldsOf good said clock desk before → Sits good said ((before ++ began ∷ []) ++ broke ∷ []) new.gate covers (now end)
          sits_both told good said before holds =
              let sits = at_rest good said clock desk before whole holds in
              let rests = first_rests told good said before holds in
              let back = sym (items_are before desk.items holds.items) in
              let there = items_are ((before ++ began ∷ []) ++ broke ∷ []) last (of_last before holds.items) in
              resting.sits_of good said ((before ++ began ∷ []) ++ broke ∷ []) new.gate covers (now start) (now end) (same_second told ∙ same_first told)
              (resting.rests_more good said (before ++ began ∷ []) gate covers covers middle end broke broke_is (follows_second before holds.items) rests (keeps_second told) (owed_second told good said before holds)
              new.gate (rest_second told (bodies_of (before ++ began ∷ [])) rests.journal) (same_second told))
              sits.quiet
              (subst (λ (list : List Item). PartsStand list folder) there
              (each_both (standing.Stands folder) began broke what.id.0 desk.items.items (λ x. refl) (λ x. refl) (λ x brought. absurd (false≢true brought)) (subst (λ (list : List Item). PartsStand list folder) back sits.stand)))
              (if_map good (EndsLive covers (items_of before) folder) (EndsLive covers (items_of ((before ++ began ∷ []) ++ broke ∷ [])) folder)
              (λ ends. subst (λ (list : List Item). EndsLive covers list folder) there
              (each_both (standing.Ends covers folder) began broke what.id.0 desk.items.items (λ x. refl) (λ x. refl) (λ x brought. absurd (false≢true brought)) (subst (λ (list : List Item). EndsLive covers list folder) back ends))) sits.ends)

          pub ended_keeps : Keeps tells clock says desk new
          ended_keeps told good before holds =
              let said : Says = says desk.origin in
              let longer = append_assoc before (began ∷ []) (broke ∷ []) in
              subst (λ (h : History). Goes good said clock desk new before h) (sym (ap (λ (h : History). drop (length desk.list) h) longer_is ∙ drop-append_seam desk.list (began ∷ broke ∷ []))) (record {
                longer = longer_is;
                moments = subst (λ (h : History). Throughout start end (Kept good said (Through before (began ∷ broke ∷ h)))) (sym failed) (both_moments told good said before holds);
                holds = record {
                  items = subst (λ (h : History). IsOf h new.items) longer (subst (IsOf ((before ++ began ∷ []) ++ broke ∷ [])) (sym items) (of_last before holds.items));
                  rests = subst (λ (b : Bool). RestsBy b good said (before ++ began ∷ broke ∷ []) new.failed new.gate (covers_of new.lives) (now end)) (sym broken)
                      (subst (λ (l : List Life). Sits good said (before ++ began ∷ broke ∷ []) new.gate (covers_of l) (now end)) (sym lives)
                      (subst (λ (h : History). Sits good said h new.gate covers (now end)) longer (sits_both told good said before holds)));
                };
                loses = λ was broke_it. absurd (false≢true (sym broken ∙ broke_it));
              })

          pub ended_desk : IsDesk tells clock new
          ended_desk =
              desk_of (began ∷ broke ∷ []) longer_is
              (λ h all. subst AllEntries (append_assoc h (began ∷ []) (broke ∷ [])) (entries_push (h ++ began ∷ []) broke (entries_push h began all entry_is) broke_is))
              (λ h is_of. subst (λ (x : History). IsOf x new.items) (append_assoc h (began ∷ []) (broke ∷ [])) (subst (IsOf ((h ++ began ∷ []) ++ broke ∷ [])) (sym items) (of_last h is_of)))
              ended_keeps (ap (λ (v : Listing). v.limit) items) (λ unbroken. failed)
              (λ unbroken. subst (λ (v : Listing). AreLives v.items new.lives) (sym items) (subst (AreLives last.items) (sym lives) (lives_both began broke what.id.0 desk.items.items desk.lives (λ x. refl) (λ x. refl) (λ x. refl) none_ran (is.lives whole))))
              (subst (AreBounded (desk.limits.checkpoint + desk.limits.piece)) (sym lives) is.bounded)
