-- Whatever runs, crashes and kills led to a disk, it keeps what was acknowledged.
use Rattle.std.proofs.Common.{◌≡◌, inl, inr, true, List, [], ◌∷◌, ◌++◌, refl, sym, ◌∙◌, ap, subst, append_assoc}
use Rattle.std.proofs.lemmas.List.{append-nil}
use Rattle.dm_types.specs.declared.item.Item.{Item}
use Rattle.dm_disk_model.specs.Disk.{DiskState, Image, History as Clock, IsSoundDisk, MayLeave, now, reading}
use Rattle.dm_disk_model.specs.Folder.{contents_of}
use Rattle.dm_disk_model.proofs.Images.{as_read}
use Rattle.dm_item.specs.Lawful.{History, IsLawful, items_of}
use Rattle.dm_item.proofs.Lasting.{done_once}
use Rattle.dm_journal.specs.AtRest.{journal_name}
use Rattle.dm_kept.specs.Files.{Says, Sound}
use Rattle.dm_kept.specs.Kept.{Kept}
use Rattle.dm_kept.specs.Recovery.{Found, Through, recovered}
use Rattle.dm_kept.proofs.Histories.{records_one}
use Rattle.dm_kept.proofs.Resting.{empty_kept, kept_weaker}
use Rattle.dm_answers.specs.Opening.{reopening}
use Rattle.dm_does.specs.Headline.{AnyRuns, Cut, Ended, IsBehind, IsFrontOf, IsListOf, OpensOnce, Piece, BeginsWith, away, beside, crashed, cut, ended, fresh, killed, lost, next, none, ran, Lives}
use Rattle.dm_does.specs.Leaving.{KeepsAll, KeepsOne, TriedBy}
use Rattle.dm_does.specs.Log.{Run, Untouched, Unread, Unopened, Opened, tried_in}
use Rattle.dm_does.proofs.Added.{added_kept, taken_kept}
use Rattle.dm_does.proofs.Begun.{begins_kept}
use Rattle.dm_does.proofs.Behind.{FitAll, behind_all, fit_split, lawful_front, plain_fit, through_same}
use Rattle.dm_does.proofs.Whole.{never_less, there}

-- a list, and how much of what was pending behind it survived
record Survives (whole rest : History) (found : Found) : Type 0 where
  survived : History
  later : History
  rest_is : rest ≡ survived ++ later
  is : found ≡ recovered (whole ++ survived)

survives : (whole rest : History) (found : Found) → Through whole rest found → Survives whole rest found
survives whole [] found is = record { survived = []; later = []; rest_is = refl; is = is ∙ sym (ap recovered (append-nil whole)) }
survives whole (e ∷ rest) found (inl is) = record { survived = []; later = e ∷ rest; rest_is = refl; is = is ∙ sym (ap recovered (append-nil whole)) }
survives whole (e ∷ rest) found (inr more) =
    let one = survives (whole ++ e ∷ []) rest found more in
    record { survived = e ∷ one.survived; later = one.later; rest_is = ap (λ (h : History). e ∷ h) one.rest_is; is = one.is ∙ ap recovered (append_assoc whole (e ∷ []) one.survived) }

-- The disk keeps a list, and perhaps some of the rest behind it: each of these lists is one that the runs left.
record Stands (says : Says) (pieces : List Piece) (disk : DiskState) : Type 0 where
  whole : History
  rest : History
  lists : (front : History) → IsFrontOf rest front → IsListOf pieces (whole ++ front)
  lawful : IsLawful (whole ++ rest)
  kept : Kept true says (Through whole rest) disk

-- nothing is pending behind this list
stands_on : (says : Says) (pieces : List Piece) (disk : DiskState) (list : History) → IsListOf pieces list → IsLawful list → Kept true says (λ found. found ≡ recovered list) disk → Stands says pieces disk
stands_on says pieces disk list of lawful kept = record {
  whole = list;
  rest = [];
  lists = λ front is. subst (IsListOf pieces) (sym (append-nil list) ∙ ap (λ (h : History). list ++ h) (nothing front is.rest is.is)) of;
  lawful = subst IsLawful (sym (append-nil list)) lawful;
  kept = kept;
}
  where
    nothing : (front rest : History) → [] ≡ front ++ rest → [] ≡ front
    nothing [] rest is = refl
    nothing (e ∷ front) rest is = cc

-- what survived is one of the lists
record Survived (says : Says) (pieces : List Piece) (found : Found) : Type 0 where
  list : History
  of : IsListOf pieces list
  lawful : IsLawful list
  is : found ≡ recovered list

survived_in : (says : Says) (pieces : List Piece) (disk : DiskState) (found : Found) (on : Stands says pieces disk) → Through on.whole on.rest found → Survived says pieces found
survived_in says pieces disk found on through =
    let split = survives on.whole on.rest found through in
    let lawful : IsLawful ((on.whole ++ split.survived) ++ split.later) =
    subst IsLawful (sym (append_assoc on.whole split.survived split.later)) (subst (λ (h : History). IsLawful (on.whole ++ h)) split.rest_is on.lawful) in
    record {
      list = on.whole ++ split.survived;
      of = on.lists split.survived (record { rest = split.later; is = split.rest_is });
      lawful = lawful_front (on.whole ++ split.survived) split.later lawful;
      is = split.is;
    }

-- what reads at the start is one of the lists
record Grounded (says : Says) (pieces : List Piece) (found tried : History) : Type 0 where
  base : History
  of : IsListOf pieces base
  lawful : IsLawful base
  same : recovered found ≡ recovered base
  whole : IsLawful (found ++ tried)
  fits : FitAll found tried

grounded : (says : Says) (pieces : List Piece) (start : DiskState) (found tried : History) → IsSoundDisk start → Stands says pieces start → IsBehind start found tried → Grounded says pieces found tried
grounded says pieces start found tried sound on behind =
    let image = on.kept (reading start) (as_read start sound) in
    let same : image.history ≡ found = records_one (contents_of start.state journal_name) image.history found image.recorded behind.reads in
    let one = survived_in says pieces start (recovered found) on (subst (λ (h : History). Through on.whole on.rest (recovered h)) same image.items) in
    record {
      base = one.list;
      of = one.of;
      lawful = one.lawful;
      same = one.is;
      whole = behind.lawful;
      fits = subst (FitAll found) (sym behind.tried_is) (refl, plain_fit (found ++ reopening found behind.at) behind.rest behind.plain);
    }

-- Entries that were tried behind what reads are so behind the list that the runs left.
record Moved (found base more : History) : Type 0 where
  lawful : IsLawful (base ++ more)
  same : recovered (found ++ more) ≡ recovered (base ++ more)

moved : (says : Says) (pieces : List Piece) (found more behind : History) (on : Grounded says pieces found (more ++ behind)) → Moved found on.base more
moved says pieces found more behind on =
    let longer : IsLawful ((found ++ more) ++ behind) = subst IsLawful (sym (append_assoc found more behind)) on.whole in
    let all = behind_all found on.base more on.lawful on.same (lawful_front (found ++ more) behind longer) (fit_split found more behind on.fits).0 in
    record { lawful = all.0; same = all.1 }

-- A run that ended behind what it read: what failed may stand.
by_end : (says : Says) (pieces : List Piece) (disk : DiskState) (found recorded failed rest : History) → Grounded says pieces found (recorded ++ (failed ++ rest)) → Kept true says (Through (found ++ recorded) failed) disk
    → Stands says (Ended recorded failed ∷ pieces) disk
by_end says pieces disk found recorded failed rest on kept =
    let first = moved says pieces found recorded (failed ++ rest) on in
    let whole : IsLawful ((found ++ recorded) ++ (failed ++ rest)) = subst IsLawful (sym (append_assoc found recorded (failed ++ rest))) on.whole in
    let longer : IsLawful (((found ++ recorded) ++ failed) ++ rest) = subst IsLawful (sym (append_assoc (found ++ recorded) failed rest)) whole in
    let upto : IsLawful ((found ++ recorded) ++ failed) = lawful_front ((found ++ recorded) ++ failed) rest longer in
    let fits : FitAll (found ++ recorded) failed = (fit_split (found ++ recorded) failed rest (fit_split found recorded (failed ++ rest) on.fits).1).0 in
    record {
      whole = on.base ++ recorded;
      rest = failed;
      lists = λ front is. subst (IsListOf (Ended recorded failed ∷ pieces)) (sym (append_assoc on.base recorded front))
          (next pieces on.base (Ended recorded failed) (recorded ++ front) on.of (record { late = front; front = is; is = refl }));
      lawful = (behind_all (found ++ recorded) (on.base ++ recorded) failed first.lawful first.same upto fits).0;
      kept = kept_weaker true says (Through (found ++ recorded) failed) (Through (on.base ++ recorded) failed) disk
          (λ found_now is. through_same (found ++ recorded) (on.base ++ recorded) failed found_now first.lawful first.same upto fits is) kept;
    }

-- a run that did nothing to the list
by_none : (says : Says) (pieces : List Piece) (start disk : DiskState) (on : Stands says pieces start) → Kept true says (Through on.whole on.rest) disk → Stands says (Ended [] [] ∷ pieces) disk
by_none says pieces start disk on kept = record {
  whole = on.whole;
  rest = on.rest;
  lists = λ front is. subst (IsListOf (Ended [] [] ∷ pieces)) (append-nil (on.whole ++ front))
      (next pieces (on.whole ++ front) (Ended [] []) [] (on.lists front is) (record { late = []; front = record { rest = []; is = refl }; is = refl }));
  lawful = on.lawful;
  kept = kept;
}

opened_assoc : (opening more failed : History) → (opening ++ more) ++ (failed ++ []) ≡ opening ++ (more ++ failed)
opened_assoc opening more failed = ap (λ (h : History). (opening ++ more) ++ h) (append-nil failed) ∙ append_assoc opening more failed

by_run : (says : Says) (start end : Clock) (pieces : List Piece) (run : Run) → Stands says pieces (now start) → IsSoundDisk (now start) → OpensOnce (now start) run
    → ((kept rest : History) → Kept true says (Through kept rest) (now start) → KeepsAll says start end kept rest run) → Stands says (ended run ∷ pieces) (now end)
by_run says start end pieces Untouched on sound opens keeps = by_none says pieces (now start) (now end) on (keeps on.whole on.rest on.kept).after
by_run says start end pieces Unread on sound opens keeps = by_none says pieces (now start) (now end) on (keeps on.whole on.rest on.kept).after
by_run says start end pieces (Unopened found recorded failed rest) on sound opens keeps =
    by_end says pieces (now end) found recorded failed rest (grounded says pieces (now start) found (recorded ++ (failed ++ rest)) sound on opens) (keeps on.whole on.rest on.kept).after
by_run says start end pieces (Opened log) on sound opens keeps =
    by_end says pieces (now end) log.found (log.opening ++ log.more) log.failed []
    (subst (Grounded says pieces log.found) (sym (opened_assoc log.opening log.more log.failed)) (grounded says pieces (now start) log.found (tried_in (Opened log)) sound on opens))
    (keeps on.whole on.rest on.kept).after

-- a run that was cut: of what it tried some stands
by_cut : (says : Says) (pieces : List Piece) (disk : DiskState) (found tried history : History) → Grounded says pieces found tried → Through found tried (recovered history)
    → Kept true says (λ found_now. found_now ≡ recovered history) disk → Stands says (Cut tried ∷ pieces) disk
by_cut says pieces disk found tried history on through kept =
    let split = survives found tried (recovered history) through in
    let here : Grounded says pieces found (split.survived ++ split.later) = subst (Grounded says pieces found) split.rest_is on in
    let one = moved says pieces found split.survived split.later here in
    stands_on says (Cut tried ∷ pieces) disk (here.base ++ split.survived)
    (next pieces here.base (Cut tried) split.survived here.of (record { rest = split.later; is = split.rest_is }))
    one.lawful (kept_weaker true says (λ found_now. found_now ≡ recovered history) (λ found_now. found_now ≡ recovered (here.base ++ split.survived)) disk (λ found_now is. is ∙ split.is ∙ one.same) kept)

-- a run that was cut before anything of it stood
by_early : (says : Says) (pieces : List Piece) (start disk : DiskState) (tried history : History) (on : Stands says pieces start) → Through on.whole on.rest (recovered history)
    → Kept true says (λ found_now. found_now ≡ recovered history) disk → Stands says (Cut tried ∷ pieces) disk
by_early says pieces start disk tried history on through kept =
    let one = survived_in says pieces start (recovered history) on through in
    stands_on says (Cut tried ∷ pieces) disk one.list
    (subst (IsListOf (Cut tried ∷ pieces)) (append-nil one.list) (next pieces one.list (Cut tried) [] one.of (record { rest = tried; is = refl })))
    one.lawful (kept_weaker true says (λ found_now. found_now ≡ recovered history) (λ found_now. found_now ≡ recovered one.list) disk (λ found_now is. is ∙ one.is) kept)

-- of a run that was cut at a moment at which it kept what it found, and some of what it tried
by_crash : (says : Says) (start disk : DiskState) (pieces : List Piece) (run : Run) (history : History) → Stands says pieces start → IsSoundDisk start → OpensOnce start run
    → TriedBy run (recovered history) → Kept true says (λ found_now. found_now ≡ recovered history) disk → Stands says (cut run ∷ pieces) disk
by_crash says start disk pieces Untouched history on sound opens tried kept = absurd tried
by_crash says start disk pieces Unread history on sound opens tried kept = absurd tried
by_crash says start disk pieces (Unopened found recorded failed rest) history on sound opens tried kept =
    by_cut says pieces disk found (recorded ++ (failed ++ rest)) history (grounded says pieces start found (recorded ++ (failed ++ rest)) sound on opens) tried kept
by_crash says start disk pieces (Opened log) history on sound opens tried kept =
    by_cut says pieces disk log.found (tried_in (Opened log)) history (grounded says pieces start log.found (tried_in (Opened log)) sound on opens) tried kept

-- a crash at this moment
at_crash : (says : Says) (start moment disk : DiskState) (pieces : List Piece) (run : Run) (image : Image) (on : Stands says pieces start) → IsSoundDisk start → OpensOnce start run → KeepsOne says on.whole on.rest run moment
    → MayLeave moment image → BeginsWith disk image → Stands says (cut run ∷ pieces) disk
at_crash says start moment disk pieces run image on sound opens (inl kept) left begins =
    let found = kept image left in
    by_early says pieces start disk (tried_in run) found.history on found.items (begins_kept says (Through on.whole on.rest) moment disk image left begins found)
at_crash says start moment disk pieces run image on sound opens (inr kept) left begins =
    let found = kept image left in
    by_crash says start disk pieces run found.history on sound opens found.items (begins_kept says (TriedBy run) moment disk image left begins found)

-- A run that was killed: the disk stays as it was, and may still leave each of these.
still : (says : Says) (pieces : List Piece) (disk : DiskState) (found tried : History) → Grounded says pieces found tried → Kept true says (Through found tried) disk → Stands says (Cut tried ∷ pieces) disk
still says pieces disk found tried on kept = record {
  whole = on.base;
  rest = tried;
  lists = λ front is. next pieces on.base (Cut tried) front on.of is;
  lawful = (behind_all found on.base tried on.lawful on.same on.whole on.fits).0;
  kept = kept_weaker true says (Through found tried) (Through on.base tried) disk (λ found_now is. through_same found on.base tried found_now on.lawful on.same on.whole on.fits is) kept;
}

still_early : (says : Says) (pieces : List Piece) (start disk : DiskState) (tried : History) (on : Stands says pieces start) → Kept true says (Through on.whole on.rest) disk → Stands says (Cut tried ∷ pieces) disk
still_early says pieces start disk tried on kept = record {
  whole = on.whole;
  rest = on.rest;
  lists = λ front is. subst (IsListOf (Cut tried ∷ pieces)) (append-nil (on.whole ++ front)) (next pieces (on.whole ++ front) (Cut tried) [] (on.lists front is) (record { rest = tried; is = refl }));
  lawful = on.lawful;
  kept = kept;
}

-- what tried nothing leaves nothing else
nothing_tried : (says : Says) (pieces : List Piece) (start disk : DiskState) → Stands says pieces start → Kept true says (λ found. ⊥) disk → Stands says (Cut [] ∷ pieces) disk
nothing_tried says pieces start disk on kept = still_early says pieces start disk [] on (kept_weaker true says (λ found. ⊥) (Through on.whole on.rest) disk (λ found none. absurd none) kept)

at_kill : (says : Says) (start moment : DiskState) (pieces : List Piece) (run : Run) (on : Stands says pieces start) → IsSoundDisk start → OpensOnce start run → KeepsOne says on.whole on.rest run moment → Stands says (cut run ∷ pieces) moment
at_kill says start moment pieces run on sound opens (inl kept) = still_early says pieces start moment (tried_in run) on kept
at_kill says start moment pieces Untouched on sound opens (inr kept) = nothing_tried says pieces start moment on kept
at_kill says start moment pieces Unread on sound opens (inr kept) = nothing_tried says pieces start moment on kept
at_kill says start moment pieces (Unopened found recorded failed rest) on sound opens (inr kept) =
    still says pieces moment found (recorded ++ (failed ++ rest)) (grounded says pieces start found (recorded ++ (failed ++ rest)) sound on opens) kept
at_kill says start moment pieces (Opened log) on sound opens (inr kept) =
    still says pieces moment log.found (tried_in (Opened log)) (grounded says pieces start log.found (tried_in (Opened log)) sound on opens) kept

-- the power went between two runs
by_loss : (says : Says) (pieces : List Piece) (before disk : DiskState) (history : History) (on : Stands says pieces before) → Through on.whole on.rest (recovered history)
    → Kept true says (λ found_now. found_now ≡ recovered history) disk → Stands says pieces disk
by_loss says pieces before disk history on through kept =
    let one = survived_in says pieces before (recovered history) on through in
    stands_on says pieces disk one.list one.of one.lawful
    (kept_weaker true says (λ found_now. found_now ≡ recovered history) (λ found_now. found_now ≡ recovered one.list) disk (λ found_now is. is ∙ one.is) kept)

lives_stand : (says : Says) (disk : DiskState) (pieces : List Piece) → Lives says disk pieces → Stands says pieces disk
lives_stand says disk pieces (fresh _ absent) = stands_on says [] disk [] none tt (empty_kept true says disk absent)
lives_stand says disk pieces (ran start end before run lives is) = by_run says start end before run (lives_stand says (now start) before lives) is.sound is.opens is.keeps
lives_stand says disk pieces (crashed start end before run t image _ lives is from to left begins) =
    let on : Stands says before (now start) = lives_stand says (now start) before lives in
    at_crash says (now start) (end.at t) disk before run image on is.sound is.opens ((is.keeps on.whole on.rest on.kept).moments.each t from to) left begins
lives_stand says disk pieces (killed start end before run t lives is from to) =
    let on : Stands says before (now start) = lives_stand says (now start) before lives in
    at_kill says (now start) (end.at t) before run on is.sound is.opens ((is.keeps on.whole on.rest on.kept).moments.each t from to)
lives_stand says disk pieces (beside before _ _ added lives is) =
    let on : Stands says pieces before = lives_stand says before pieces lives in
    record {
      whole = on.whole;
      rest = on.rest;
      lists = on.lists;
      lawful = on.lawful;
      kept = added_kept says (Through on.whole on.rest) before disk added is.sound is.state is.files is.no_part is.no_item on.kept;
    }
lives_stand says disk pieces (away before _ _ taken lives is) =
    let on : Stands says pieces before = lives_stand says before pieces lives in
    record {
      whole = on.whole;
      rest = on.rest;
      lists = on.lists;
      lawful = on.lawful;
      kept = taken_kept says (Through on.whole on.rest) before disk taken is.sound is.state is.files is.no_part is.no_item on.kept;
    }
lives_stand says disk pieces (lost before _ image _ lives left begins) =
    let on : Stands says pieces before = lives_stand says before pieces lives in
    let found = on.kept image left in
    by_loss says pieces before disk found.history on found.items (begins_kept says (Through on.whole on.rest) before disk image left begins found)

pub any_runs : (says : Says) → AnyRuns says
any_runs says disk pieces lives image left =
    let on : Stands says pieces disk = lives_stand says disk pieces lives in
    let found = on.kept image left in
    let one = survived_in says pieces disk (recovered found.history) on found.items in
    let items : items_of found.history ≡ items_of one.list = ap (λ (f : Found). f.items) one.is in
    let sound : Sound says (items_of one.list) image = subst (λ (listed : List Item). Sound says listed image) items found.sound in
    record {
      recorded = found.history;
      reads = found.recorded;
      list = one.list;
      of_runs = one.of;
      lawful = one.lawful;
      once = done_once one.list one.lawful;
      items = items;
      next_id = ap (λ (f : Found). f.next) one.is;
      there = there says image one.list one.lawful sound;
      never_less = never_less says image one.list one.lawful sound;
    }
