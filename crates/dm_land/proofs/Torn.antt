-- A desk whose write of a piece failed: the item is then interrupted, and nothing is claimed between of where its part ends.
use Rattle.std.proofs.Common.{◌≡◌, ◌≢◌, inl, ℕ, ◌+◌, ◌<◌, ◌≤◌, Bool, true, false, IsTrue, List, [], ◌∷◌, ◌++◌, length, drop, Option, Some, None, Result, refl, sym, ◌∙◌, ap, subst}
use Rattle.std.specs.Prelude.{IsSome, is_some}
use Rattle.std.specs.Option.{option_map}
use Rattle.std.proofs.lemmas.Bool.{false≢true}
use Rattle.std.proofs.lemmas.List.{append-nil}
use Rattle.std.proofs.Math.Seq.{drop-append_seam, drop-length}
use Rattle.dm_types.specs.declared.entry.Entry.{Entry}
use Rattle.dm_types.specs.declared.entry.Entry.TheVariants as entries
use Rattle.dm_types.specs.declared.item.Item.{Item}
use Rattle.dm_types.specs.declared.reason.Reason.{Reason}
use Rattle.dm_types.specs.declared.reason.Reason.TheVariants as reasons
use Rattle.dm_types.specs.declared.slices.Slice.{Slice}
use Rattle.dm_slice.specs.Words.{cover_end}
use Rattle.dm_disk_model.specs.declared.place.DiskFault.{DiskFault}
use Rattle.dm_disk_model.specs.Disk.{DiskState, History as Clock, IsSoundDisk, Next, WriteStep, now}
use Rattle.dm_disk_model.specs.Folder.{Folder}
use Rattle.dm_disk_model.specs.Moments.{KeepsFiles, Throughout}
use Rattle.dm_disk_model.proofs.Reaching.{at_end, both, joined, weaker}
use Rattle.dm_item.specs.Fields.{is_running}
use Rattle.dm_item.specs.History.{get}
use Rattle.dm_item.specs.Lawful.{History, IsOf, items_of}
use Rattle.dm_item.specs.Listing.{Admits, applied, item_in}
use Rattle.dm_kept.specs.Files.{Covers, EachItem, EndsLive, Facts, IfGood, Says, no_covers}
use Rattle.dm_kept.specs.Kept.{Kept, Sits}
use Rattle.dm_kept.specs.Recovery.{Found, Through}
use Rattle.dm_kept.proofs.Entered.{entered_is, facts_broke, items_are}
use Rattle.dm_kept.proofs.FilesKept.{facts_saved}
use Rattle.dm_kept.proofs.Flags.{if_map}
use Rattle.dm_kept.proofs.Lists.{each_changed, id_in}
use Rattle.dm_kept.proofs.Resting as resting
use Rattle.dm_kept.proofs.Standing as standing
use Rattle.dm_store.specs.declared.life.Life.{Life}
use Rattle.dm_store.specs.Becomes.{Becomes}
use Rattle.dm_store.specs.Keeps.{Goes, HoldsOf, IsDesk, Keeps, RestsBy, added}
use Rattle.dm_store.specs.Lives.{covers_of, life_in, without_life}
use Rattle.dm_store.specs.View.{View}
use Rattle.dm_store.proofs.Breaking.{broke_admits}
use Rattle.dm_store.proofs.Keeping.{at_rest}
use Rattle.dm_store.proofs.Lives.{covers_less, covers_others, lives_run}
use Rattle.dm_answers.specs.declared.answer.SlicePass.{SlicePass}
use Rattle.dm_answers.specs.Land.{MayLand}
use Rattle.dm_answers.specs.Running.{RunsWith}
use Rattle.dm_land.proofs.Landed.{each_kept, other_ends, rests_at, torn_holds}
use Rattle.dm_land.proofs.Lifted.{lift_kept, lift_sits}

module _ {D O : Type 0} (tells : Type 0) (clock : D → Clock) (says : O → Says) (desk : View D O) (disk : D) (is : IsDesk tells clock desk) (whole : desk.broken ≡ false) (pass : SlicePass) (at : ℕ) (piece : List ℕ)
    (may : RunsWith desk pass.id pass.attempt (MayLand pass at (length piece) desk.limits.checkpoint)) (some : 1 ≤ length piece) (sound : tells → IsSoundDisk (now (clock desk.disk)))
    (answer : Result (Unit {0}) DiskFault) (run : tells → Next (clock desk.disk) (clock disk) (WriteStep may.life.part at piece answer)) (reason : Reason) (allowed : (reason ≢ reasons.UserCanceled) × (reason ≢ reasons.Crash)) (new : View D O)
    (keeps : Keeps tells clock says (record desk { disk = disk }) new) (files : tells → KeepsFiles (clock disk) (clock new.disk)) where
  abbrev entry : Entry
  entry = entries.Broke pass.id reason

  abbrev mid : View D O
  mid = record desk { disk = disk }

  some_life : IsSome (life_in pass.id.0 desk.lives)
  some_life = ap is_some may.lives

  admits : Admits desk.items entry
  admits = broke_admits tells clock says desk pass.id reason is whole some_life allowed

  -- the facts, before the interruption and behind it
  facts_at : tells → (good : Bool) (said : Says) (before : History) → HoldsOf good said clock desk before → IfGood good (Facts said (covers_of desk.lives) (items_of before) (now (clock disk)).files)
  facts_at told good said before holds = (rests_at tells clock says desk disk is whole pass at piece may some sound answer run told good said before holds).facts

  saved_at : tells → (good : Bool) (said : Says) (before : History) → HoldsOf good said clock desk before → IfGood good (Facts said no_covers (items_of before) (now (clock disk)).files)
  saved_at told good said before holds =
      if_map good (Facts said (covers_of desk.lives) (items_of before) (now (clock disk)).files) (Facts said no_covers (items_of before) (now (clock disk)).files)
      (facts_saved said (covers_of desk.lives) (items_of before) (now (clock disk)).files) (facts_at told good said before holds)

  facts_behind : tells → (good : Bool) (said : Says) (before : History) → HoldsOf good said clock desk before
      → IfGood good (Facts said (covers_of (without_life pass.id.0 desk.lives)) (items_of (before ++ entry ∷ [])) (now (clock disk)).files)
  facts_behind told good said before holds =
      let folder : Folder = (now (clock disk)).files in
      let after : Covers = covers_of (without_life pass.id.0 desk.lives) in
      subst (λ (items : List Item). IfGood good (Facts said after items folder)) (entered_is before entry desk.items holds.items admits)
      (if_map good (Facts said (covers_of desk.lives) (items_of before) folder) (Facts said after (applied entry desk.items).items folder)
      (λ facts. facts_broke said (covers_of desk.lives) after folder pass.id reason desk.items (lives_run pass.id.0 desk.items.items desk.lives (is.lives whole) some_life) (covers_others pass.id.0 desk.lives)
      (covers_less pass.id.0 desk.items.items desk.lives) (subst (λ (list : List Item). Facts said (covers_of desk.lives) list folder) (sym (items_are before desk.items holds.items)) facts)) (facts_at told good said before holds))

  saved_behind : tells → (good : Bool) (said : Says) (before : History) → HoldsOf good said clock desk before → IfGood good (Facts said no_covers (items_of (before ++ entry ∷ [])) (now (clock disk)).files)
  saved_behind told good said before holds =
      let after : Covers = covers_of (without_life pass.id.0 desk.lives) in
      if_map good (Facts said after (items_of (before ++ entry ∷ [])) (now (clock disk)).files) (Facts said no_covers (items_of (before ++ entry ∷ [])) (now (clock disk)).files)
      (facts_saved said after (items_of (before ++ entry ∷ [])) (now (clock disk)).files) (facts_behind told good said before holds)

  -- and where the parts of the others end
  ends_behind : tells → (good : Bool) (said : Says) (before : History) → HoldsOf good said clock desk before
      → IfGood good (EndsLive (covers_of (without_life pass.id.0 desk.lives)) (items_of (before ++ entry ∷ [])) (now (clock disk)).files)
  ends_behind told good said before holds =
      let folder : Folder = (now (clock disk)).files in
      let after : Covers = covers_of (without_life pass.id.0 desk.lives) in
      let sits = at_rest good said clock desk before whole holds in
      subst (λ (items : List Item). IfGood good (EndsLive after items folder)) (entered_is before entry desk.items holds.items admits)
      (if_map good (EndsLive (covers_of desk.lives) (items_of before) (now (clock desk.disk)).files) (EndsLive after (applied entry desk.items).items folder)
      (λ ends. each_changed (λ (item : Item). item.id.0 ≢ pass.id.0 → standing.Ends after folder item) (standing.Ends after folder) entry pass.id.0 desk.items.items (λ item. refl) (λ item apart others. others apart)
      (λ item there others brought. absurd (false≢true brought))
      (λ k item found apart brought none bytes reads.
      other_ends tells clock says desk disk is whole pass at piece may some sound answer run told good said before holds k item (λ same. apart (id_in k item desk.items.items found ∙ same)) found ends brought none bytes reads
      ∙ ap (λ (cover : Option (List Slice)). cover_end (get cover item.slices)) (sym (covers_others pass.id.0 desk.lives item.id.0 apart)))) sits.ends)

  -- the same call, where the disk isn't good
  goes_less : tells → (good : Bool) (before : History) → HoldsOf good (says desk.origin) clock desk before → Goes false (says desk.origin) clock mid new before (added mid new)
  goes_less told good before holds = keeps told false before (torn_holds tells clock says desk disk is whole pass at piece may some sound answer run told good (says desk.origin) before holds)

  same_files : tells → (now (clock new.disk)).files ≡ (now (clock disk)).files
  same_files told = at_end (clock disk) (clock new.disk) (λ (d : DiskState). d.files ≡ (now (clock disk)).files) (files told)

  -- each moment of the interruption
  lifted : tells → (good : Bool) (before : History) (tried : added mid new ++ new.failed ≡ entry ∷ []) → HoldsOf good (says desk.origin) clock desk before → Throughout (clock disk) (clock new.disk) (Kept good (says desk.origin) (Through before (entry ∷ [])))
  lifted told good before tried holds =
      let said : Says = says desk.origin in
      let folder : Folder = (now (clock disk)).files in
      let less = subst (λ (h : History). Throughout (clock disk) (clock new.disk) (Kept false said (Through before h))) tried (goes_less told good before holds).moments in
      weaker (clock disk) (clock new.disk) (λ (d : DiskState). (d.files ≡ folder) × Kept false said (Through before (entry ∷ [])) d) (Kept good said (Through before (entry ∷ [])))
      (λ d here. lift_kept good said before entry d (subst (λ (f : Folder). IfGood good (Facts said no_covers (items_of before) f)) (sym here.0) (saved_at told good said before holds))
      (subst (λ (f : Folder). IfGood good (Facts said no_covers (items_of (before ++ entry ∷ [])) f)) (sym here.0) (saved_behind told good said before holds)) here.1)
      (both (clock disk) (clock new.disk) (λ (d : DiskState). d.files ≡ folder) (Kept false said (Through before (entry ∷ []))) (files told) less)

  moments : tells → (good : Bool) (before : History) (tried : added mid new ++ new.failed ≡ entry ∷ []) → HoldsOf good (says desk.origin) clock desk before
      → Throughout (clock desk.disk) (clock new.disk) (Kept good (says desk.origin) (Through before (added mid new ++ new.failed)))
  moments told good before tried holds =
      let said : Says = says desk.origin in
      subst (λ (h : History). Throughout (clock desk.disk) (clock new.disk) (Kept good said (Through before h))) (sym tried)
      (joined (clock desk.disk) (clock disk) (clock new.disk) (Kept good said (Through before (entry ∷ [])))
      (weaker (clock desk.disk) (clock disk) (Kept good said (Through before [])) (Kept good said (Through before (entry ∷ [])))
      (λ d. resting.kept_weaker good said (Through before []) (Through before (entry ∷ [])) d (λ found same. inl same))
      (each_kept tells clock says desk disk is whole pass at piece may some sound answer run told good said before holds))
      (lifted told good before tried holds))

  -- The interruption was recorded.
  pub torn_recorded : Becomes mid new (entry ∷ []) [] false → Keeps tells clock says desk new
  torn_recorded makes told good before holds =
      let said : Says = says desk.origin in
      let one : added mid new ≡ entry ∷ [] = ap (λ (h : History). drop (length desk.list) h) makes.list_is ∙ drop-append_seam desk.list (entry ∷ []) in
      let tried : added mid new ++ new.failed ≡ entry ∷ [] = ap (λ (h : History). h ++ new.failed) one ∙ ap (λ (h : History). entry ∷ h) makes.failed_is in
      let less = goes_less told good before holds in
      let sits : Sits false said (before ++ added mid new) new.gate (covers_of new.lives) (now (clock new.disk)) = at_rest false said clock new (before ++ added mid new) makes.broken_is less.holds in
      let folder : Folder = (now (clock new.disk)).files in
      record {
        longer = less.longer;
        loses = λ was. less.loses (λ broken. absurd (false≢true (sym whole ∙ broken)));
        moments = moments told good before tried holds;
        holds = record {
          items = less.holds.items;
          rests = subst (λ (b : Bool). RestsBy b good said (before ++ added mid new) new.failed new.gate (covers_of new.lives) (now (clock new.disk))) (sym makes.broken_is)
              (lift_sits good said (before ++ added mid new) new.gate (covers_of new.lives) (now (clock new.disk))
              (subst (λ (h : History). IfGood good (Facts said (covers_of new.lives) (items_of (before ++ h)) folder)) (sym one)
              (subst (λ (lives : List Life). IfGood good (Facts said (covers_of lives) (items_of (before ++ entry ∷ [])) folder)) (sym makes.lives_are)
              (subst (λ (f : Folder). IfGood good (Facts said (covers_of (without_life pass.id.0 desk.lives)) (items_of (before ++ entry ∷ [])) f)) (sym (same_files told)) (facts_behind told good said before holds))))
              (subst (λ (h : History). IfGood good (EndsLive (covers_of new.lives) (items_of (before ++ h)) folder)) (sym one)
              (subst (λ (lives : List Life). IfGood good (EndsLive (covers_of lives) (items_of (before ++ entry ∷ [])) folder)) (sym makes.lives_are)
              (subst (λ (f : Folder). IfGood good (EndsLive (covers_of (without_life pass.id.0 desk.lives)) (items_of (before ++ entry ∷ [])) f)) (sym (same_files told)) (ends_behind told good said before holds))))
              sits);
        };
      }

  -- The journal failed at it.
  pub torn_fell : Becomes mid new [] (entry ∷ []) true → Keeps tells clock says desk new
  torn_fell makes told good before holds =
      let said : Says = says desk.origin in
      let none : added mid new ≡ [] = ap (λ (h : History). drop (length desk.list) h) (makes.list_is ∙ append-nil desk.list) ∙ drop-length desk.list in
      let tried : added mid new ++ new.failed ≡ entry ∷ [] = ap (λ (h : History). h ++ new.failed) none ∙ makes.failed_is in
      let less = goes_less told good before holds in
      record {
        longer = less.longer;
        loses = λ was. less.loses (λ broken. absurd (false≢true (sym whole ∙ broken)));
        moments = moments told good before tried holds;
        holds = record {
          items = less.holds.items;
          rests = subst (λ (b : Bool). RestsBy b good said (before ++ added mid new) new.failed new.gate (covers_of new.lives) (now (clock new.disk))) (sym makes.broken_is)
              (subst (λ (h : History). Kept good said (Through h new.failed) (now (clock new.disk))) (sym (ap (λ (h : History). before ++ h) none ∙ append-nil before))
              (subst (λ (h : History). Kept good said (Through before h) (now (clock new.disk))) (sym makes.failed_is)
              (at_end (clock disk) (clock new.disk) (Kept good said (Through before (entry ∷ []))) (lifted told good before tried holds))));
        };
      }
