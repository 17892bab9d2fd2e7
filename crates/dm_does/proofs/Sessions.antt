-- What a session on a desk leaves is what the clause of a run says.
use Rattle.std.proofs.Common.{◌≡◌, ◌⊎◌, inl, inr, ℕ, Bool, true, false, List, ◌++◌, Option, sym, ◌∙◌, subst, append_assoc}
use Rattle.std.proofs.lemmas.Bool.{true≢false}
use Rattle.dm_disk_model.specs.Disk.{DiskState, Image, History as Clock, bytes_at, now}
use Rattle.dm_disk_model.specs.File.{settled_file}
use Rattle.dm_disk_model.specs.Moments.{Throughout}
use Rattle.dm_disk_model.proofs.FirmNames.{has_now}
use Rattle.dm_disk_model.proofs.Reaching.{joined, weaker}
use Rattle.dm_item.specs.Lawful.{History}
use Rattle.dm_journal.specs.AtRest.{journal_name, journal_place}
use Rattle.dm_journal.specs.Starting.{WasLeft}
use Rattle.dm_kept.specs.Files.{Covers, Says, says_all}
use Rattle.dm_kept.specs.Kept.{Kept, Recovers, Rests, WasKept}
use Rattle.dm_kept.specs.Recovery.{Found, Through}
use Rattle.dm_kept.specs.Spelled.{Records}
use Rattle.dm_kept.proofs.Resting.{kept_any, kept_weaker, recovers_weaker, sits_kept, through_back, through_front}
use Rattle.dm_store.specs.Keeps.{Goes, HoldsOf, LosesFailed, RestsBy, added}
use Rattle.dm_store.specs.Lives.{covers_of}
use Rattle.dm_store.specs.View.{View}
use Rattle.dm_answers.specs.Opening.{LeavesSome}
use Rattle.dm_does.specs.Leaving.{EndsWith, HoldsLog, KeepsAll, KeepsOne, RunLeaves}
use Rattle.dm_does.specs.Log.{Opened}
use Rattle.dm_does.specs.Session.{IsSession, log_of}

-- what the journal at rest reads as
rests_records : (good : Bool) (says : Says) (history : History) (gate : ℕ) (covers : Covers) (disk : DiskState) → Rests good says history gate covers disk → Records (bytes_at disk journal_place) history
rests_records good says history gate covers disk rests =
    subst (λ (found : Option (List ℕ)). Records found history) (sym (has_now disk.state journal_name (settled_file rests.journal.bytes) rests.journal.file))
    (record { entries = rests.entries; text = rests.journal.text })

-- a desk that is seen as it is
by_whole : (broken good : Bool) (says : Says) (history failed : History) (gate : ℕ) (covers : Covers) (disk : DiskState) → RestsBy broken good says history failed gate covers disk → Kept good says (Through history failed) disk
by_whole false good says history failed gate covers disk sits = sits_kept good says history failed gate covers disk sits
by_whole true good says history failed gate covers disk kept = kept

by_reading : (broken good : Bool) (says : Says) (history failed : History) (gate : ℕ) (covers : Covers) (disk : DiskState) → RestsBy broken good says history failed gate covers disk → broken ≡ false → Records (bytes_at disk journal_place) history
by_reading false good says history failed gate covers disk sits whole = rests_records good says history gate covers disk sits.rests
by_reading true good says history failed gate covers disk kept whole = absurd (true≢false whole)

module _ {D O : Type 0} (clock : D → Clock) (says : Says) (start : Clock) (found : History) (opened ended : View D O) (is : IsSession clock says start found opened ended) where
  abbrev more : History
  more = added opened ended

  abbrev tried : History
  tried = opened.list ++ (more ++ ended.failed)

  goes_from : (good : Bool) → WasKept good says (now start) → Goes good says clock opened ended (found ++ opened.list) more
  goes_from good was = is.goes good (found ++ opened.list) (is.holds good was)

  -- behind the opening: what was found, and some of all that was tried
  later : (good : Bool) → WasKept good says (now start) → Throughout (clock opened.disk) (clock ended.disk) (Kept good says (Through found tried))
  later good was =
      weaker (clock opened.disk) (clock ended.disk) (Kept good says (Through (found ++ opened.list) (more ++ ended.failed))) (Kept good says (Through found tried))
      (λ disk kept. kept_weaker good says (Through (found ++ opened.list) (more ++ ended.failed)) (Through found tried) disk (λ recovered through. through_back found opened.list (more ++ ended.failed) recovered through) kept)
      (goes_from good was).moments

  front : (recovered : Found) → Through found opened.list recovered → Through found tried recovered
  front recovered through = through_front found opened.list (more ++ ended.failed) recovered through

  pub session_leaves : RunLeaves start (clock ended.disk) (Opened (log_of found opened ended))
  session_leaves = joined start (clock opened.disk) (clock ended.disk) (LeavesSome (now start) found tried)
      (weaker start (clock opened.disk) (LeavesSome (now start) found opened.list) (LeavesSome (now start) found tried) (λ disk leaves image left. early disk image (leaves image left)) is.opens.leaves)
      (weaker (clock opened.disk) (clock ended.disk) (Kept false says (Through found tried)) (LeavesSome (now start) found tried)
      (λ disk kept image left. inr (kept_any says says_all (Through found tried) disk kept image left)) (later false tt))
    where
      early : (disk : DiskState) (image : Image) → WasLeft (now start) image ⊎ Recovers false says_all (Through found opened.list) disk.files image → WasLeft (now start) image ⊎ Recovers false says_all (Through found tried) disk.files image
      early disk image (inl was) = inl was
      early disk image (inr recovers) = inr (recovers_weaker false says_all (Through found opened.list) (Through found tried) disk.files image front recovers)

  pub session_keeps : (kept rest : History) → Kept true says (Through kept rest) (now start) → KeepsAll says start (clock ended.disk) kept rest (Opened (log_of found opened ended))
  session_keeps kept rest here = record {
    moments = joined start (clock opened.disk) (clock ended.disk) (KeepsOne says kept rest (Opened (log_of found opened ended)))
        (weaker start (clock opened.disk) (λ disk. Kept true says (Through kept rest) disk ⊎ Kept true says (Through found opened.list) disk) (KeepsOne says kept rest (Opened (log_of found opened ended))) early (is.on kept rest here))
        (weaker (clock opened.disk) (clock ended.disk) (Kept true says (Through found tried)) (KeepsOne says kept rest (Opened (log_of found opened ended))) (λ disk k. inr k) (later true was));
    after =
        let held : HoldsOf true says clock ended ((found ++ opened.list) ++ more) = (goes_from true was).holds in
        subst (λ (h : History). Kept true says (Through h ended.failed) (now (clock ended.disk))) (append_assoc found opened.list more)
        (by_whole ended.broken true says ((found ++ opened.list) ++ more) ended.failed ended.gate (covers_of ended.lives) (now (clock ended.disk)) held.rests);
    settles = is.done was;
  }
    where
      was : WasKept true says (now start)
      was = record { earlier = kept; more = rest; kept = here }

      early : (disk : DiskState) → Kept true says (Through kept rest) disk ⊎ Kept true says (Through found opened.list) disk → KeepsOne says kept rest (Opened (log_of found opened ended)) disk
      early disk (inl k) = inl k
      early disk (inr k) = inr (kept_weaker true says (Through found opened.list) (Through found tried) disk front k)

  pub session_holds : HoldsLog (clock ended.disk) (Opened (log_of found opened ended))
  session_holds whole =
      let held : HoldsOf false says clock ended ((found ++ opened.list) ++ more) = (goes_from false tt).holds in
      subst (λ (h : History). Records (bytes_at (now (clock ended.disk)) journal_place) h) (append_assoc found opened.list more)
      (by_reading ended.broken false says ((found ++ opened.list) ++ more) ended.failed ended.gate (covers_of ended.lives) (now (clock ended.disk)) held.rests whole)

  pub session_ends : EndsWith (now (clock ended.disk)) (Opened (log_of found opened ended))
  session_ends =
      let held : HoldsOf false says clock ended ((found ++ opened.list) ++ more) = (goes_from false tt).holds in
      subst (λ (h : History). Kept false says_all (Through h ended.failed) (now (clock ended.disk)) × LosesFailed clock ended h) (append_assoc found opened.list more) (
        kept_any says says_all (Through ((found ++ opened.list) ++ more) ended.failed) (now (clock ended.disk))
            (by_whole ended.broken false says ((found ++ opened.list) ++ more) ended.failed ended.gate (covers_of ended.lives) (now (clock ended.disk)) held.rests),
        (goes_from false tt).loses (λ broken. absurd (true≢false (sym broken ∙ is.whole))),
      )
