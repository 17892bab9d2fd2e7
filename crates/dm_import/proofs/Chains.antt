-- Records that were added one after another.
use Rattle.std.proofs.Common.{◌≡◌, inl, inr, ℕ, true, false, List, [], ◌∷◌, ◌++◌, Some, None, Result, Ok, Err, refl, sym, ◌∙◌, subst, append_assoc}
use Rattle.std.proofs.lemmas.List.{append-nil}
use Rattle.dm_types.specs.Faults.{NoneFell}
use Rattle.dm_types.specs.declared.entry.Entry.TheVariants as entries
use Rattle.dm_types.specs.declared.kinds.DiskKind.{DiskKind}
use Rattle.dm_disk_model.specs.Disk.{History as Clock}
use Rattle.dm_item.specs.Lawful.{History}
use Rattle.dm_item.specs.Listing.{Listing}
use Rattle.dm_journal.proofs.Calls.{keeps_then as files_then}
use Rattle.dm_kept.specs.Files.{Says}
use Rattle.dm_land.proofs.Steps.{recorded_none}
use Rattle.dm_store.specs.Becomes.{Becomes, Recorded, run_of}
use Rattle.dm_store.specs.Keeps.{IsDesk}
use Rattle.dm_store.specs.View.{View}
use Rattle.dm_store.proofs.Composing.{becomes_then, near_then}
use Rattle.dm_store.proofs.Keeping.{keeps_then}
use Rattle.dm_store.proofs.Saved.{later_then, rose_last}
use Rattle.dm_answers.specs.declared.order.Order.{Order}
use Rattle.dm_report.specs.Said.{Said}
use Rattle.dm_report.specs.declared.verdict.Verdict.{Verdict}
use Rattle.dm_report.specs.declared.verdict.Verdict.TheVariants as verdicts
use Rattle.dm_hist.specs.declared.row.Row.{Row}
use Rattle.dm_hist.specs.Rows.{row_with}
use Rattle.dm_hist.specs.declared.keeper.KeeperFault.TheVariants as keepers
use Rattle.dm_shown.specs.declared.named.Named.{Named}
use Rattle.dm_csv.specs.declared.row.ImportRow.{ImportRow}
use Rattle.dm_does.specs.Log.{ArePlain}
use Rattle.dm_past.specs.ByRows.{IsFree, RowsRest}
use Rattle.dm_past.specs.Past.{Past}
use Rattle.dm_past.specs.Working.{TaskGoes}
use Rattle.dm_import.specs.Adding.{Answer, AreAdded, EndsSo, RecordDoes, all_added, by_list, by_past, fell, given_by, lost, none_yet, one_more, order_of, refused, wanted}
use Rattle.dm_import.specs.Saying.{SaysSo}
use Rattle.dm_import.specs.Working.{NextAdded, NextTried, RowTried, RowsTried, WasAdded, Worked, has_fallen, was_added, was_lost, was_refused, was_wanting}

-- entries that open no list, one behind another
plain_then : (first second : History) → ArePlain first → ArePlain second → ArePlain (first ++ second)
plain_then [] second one two = two
plain_then (entries.Reopened next at ∷ more) second one two = absurd one
plain_then (entries.Restored item ∷ more) second one two = absurd one
plain_then (entry ∷ more) second one two = plain_then more second one two

-- what was answered says that it was added
pub added_of : {D O : Type 0} (told : Type 0) (counts : D → DiskKind → ℕ) (at : ℕ) (order : Order) (old new : View D O) (past past' : Past) (one : Named) (answer : Answer) → RowTried told counts at order old new past past' answer → answer ≡ Ok one
    → WasAdded told at order old new past one
added_of told counts at order old new past past' one answer (was_added other was is) same =
    let named_same : other ≡ one = cc in subst (WasAdded told at order old new past) named_same was
added_of told counts at order old new past past' one answer (was_refused why does becomes is) same = absurd cc
added_of told counts at order old new past past' one answer (has_fallen entry other kind does becomes plain rose is) same = absurd cc
added_of told counts at order old new past past' one answer (was_lost free failed becomes is) same = absurd cc
added_of told counts at order old new past past' one answer (was_wanting becomes is) same = absurd cc

-- A history that keeps its rows.

free_rows : (word : List ℕ) (list : Listing) (rows other : List Row) → IsFree word (given_by list rows) → IsFree word (given_by list other)
free_rows word list rows other free = record { some = free.some; none = free.none }

does_same : (told : Type 0) (rows other : List Row) (at : ℕ) (list : Listing) (order : Order) (recorded : History) (answer : Answer) → (told → other ≡ rows) → RecordDoes told other at list order recorded answer → RecordDoes told rows at list order recorded answer
does_same told rows other at list order recorded answer same (by_list none is answer_is) =
    by_list (λ knows free. subst (λ (r : List Row). row_with order.word r ≡ None) (same knows) (none knows (free_rows order.word list rows other free))) is answer_is
does_same told rows other at list order recorded answer same (by_past row free is none answer_is) =
    by_past row (free_rows order.word list other rows free) (λ knows. subst (λ (r : List Row). row_with order.word r ≡ Some row) (same knows) (is knows)) none answer_is

-- Two calls, of which the first failed at nothing.
pub goes_then : {D O : Type 0} (tells : Type 0) (clock : D → Clock) (counts : D → DiskKind → ℕ) (far : D → ℕ) (says : O → Says) (old mid new : View D O) (past between past' : Past) (first second : History) → Recorded old mid first
    → new.list ≡ mid.list ++ second → TaskGoes tells clock counts far says old mid past between → TaskGoes tells clock counts far says mid new between past' → TaskGoes tells clock counts far says old new past past'
goes_then tells clock counts far says old mid new past between past' first second recorded list one two = record {
  keeps = keeps_then tells clock says old mid new one.keeps recorded.origin recorded.failed_is two.keeps;
  files = λ sees. files_then (clock old.disk) (clock mid.disk) (clock new.disk) (one.files sees) (two.files sees);
  later = later_then (counts old.disk) (counts mid.disk) (counts new.disk) one.later two.later;
  near = near_then old mid new first recorded second (far old.disk) (far mid.disk) (far new.disk) list one.near two.near;
  past_later = later_then past.faults between.faults past'.faults one.past_later two.past_later;
}

pub rest_then : (told : Type 0) (past between past' : Past) → RowsRest told past between → RowsRest told between past' → RowsRest told past past'
rest_then told past between past' one two = record {
  same = λ knows. two.same knows ∙ one.same knows;
  later = later_then past.faults between.faults past'.faults one.later two.later;
}

-- So many rows were added, and none failed.
pub record SoFar {D O : Type 0} (told : Type 0) (at : ℕ) (start present : View D O) (past : Past) (done : List ImportRow) (all : List Named) : Type 0 where
  pub recorded : History
  pub becomes : Recorded start present recorded
  pub plain : ArePlain recorded
  pub are : AreAdded told past.rows at start.items done recorded all

pub none_far : {D O : Type 0} (told : Type 0) (clock : D → Clock) (tells : Type 0) (at : ℕ) (desk : View D O) (past : Past) (all : List Named) → IsDesk tells clock desk → desk.broken ≡ false → all ≡ [] → SoFar told at desk desk past [] all
none_far told clock tells at desk past all is_desk whole none = record {
  recorded = [];
  becomes = recorded_none desk whole (is_desk.failed whole);
  plain = tt;
  are = subst (AreAdded told past.rows at desk.items [] []) (sym none) none_yet;
}

module _ {D O : Type 0} (told : Type 0) (counts : D → DiskKind → ℕ) (at : ℕ) (start mid new : View D O) (past between past' : Past) (same : told → between.rows ≡ past.rows) (done : List ImportRow) (all : List Named) (far : SoFar told at start mid past done all) (row : ImportRow) where
  -- what the next one does is what it does to the list that those before it left
  does_behind : (entries : History) (answer : Answer) → RecordDoes told between.rows at mid.items (order_of row) entries answer → RecordDoes told past.rows at (run_of far.recorded start.items) (order_of row) entries answer
  does_behind entries answer does =
      subst (λ (list : Listing). RecordDoes told past.rows at list (order_of row) entries answer) far.becomes.items_are (does_same told past.rows between.rows at mid.items (order_of row) entries answer same does)

  added_far : (one : Named) → WasAdded told at (order_of row) mid new between one → SoFar told at start new past (done ++ row ∷ []) (all ++ one ∷ [])
  added_far one was = record {
    recorded = far.recorded ++ was.entries;
    becomes = becomes_then start mid new far.recorded far.becomes was.entries [] false was.recorded;
    plain = plain_then far.recorded was.entries far.plain was.plain;
    are = one_more done far.recorded all row was.entries one far.are (does_behind was.entries (Ok one) was.does);
  }

  pub next_far : (all' : List Named) → NextAdded told at (order_of row) mid new between all all' → SoFar told at start new past (done ++ row ∷ []) all'
  next_far all' next = subst (SoFar told at start new past (done ++ row ∷ [])) (sym next.all_are) (added_far next.one next.was)

  -- it ended at this row
  module _ (rows more : List ImportRow) (rows_are : rows ≡ done ++ row ∷ more) (later : NoneFell (counts start.disk) (counts mid.disk)) (past_later : NoneFell past.faults between.faults) where
    -- nothing more was recorded
    still_far : Recorded mid new [] → Recorded start new far.recorded
    still_far becomes = subst (λ (h : History). Recorded start new h) (append-nil far.recorded) (becomes_then start mid new far.recorded far.becomes [] [] false becomes)

    ended_at : (verdict : Verdict) (all' : List Named) → Recorded start new far.recorded → EndsSo told (counts start.disk) (counts new.disk) past past' at (run_of far.recorded start.items) (row ∷ more) [] false verdict → all' ≡ all
        → RowsTried told counts at rows start new past past' all' verdict
    ended_at verdict all' becomes ends all_are = record {
      named = all;
      recorded = far.recorded;
      failed = [];
      broken = false;
      becomes = becomes;
      plain = subst ArePlain (sym (append-nil far.recorded)) far.plain;
      adds = record { first = done; rest = row ∷ more; rows_are = rows_are; are = far.are; ends = ends };
      all_are = inr all_are;
    }

    refused_at : (verdict : Verdict) (all' : List Named) (answer : Answer) → RowTried told counts at (order_of row) mid new between past' answer → answer ≡ Err verdict → all' ≡ all → RowsTried told counts at rows start new past past' all' verdict
    refused_at verdict all' answer (was_added one was is) err all_are = absurd cc
    refused_at verdict all' answer (was_refused why does becomes is) err all_are =
        let same_verdict : why ≡ verdict = cc in
        ended_at verdict all' (still_far becomes)
        (subst (EndsSo told (counts start.disk) (counts new.disk) past past' at (run_of far.recorded start.items) (row ∷ more) [] false) same_verdict (refused row more refl (does_behind [] (Err why) does) refl refl)) all_are
    refused_at verdict all' answer (has_fallen entry one kind does becomes plain rose is) err all_are = record {
      named = all;
      recorded = far.recorded;
      failed = entry ∷ [];
      broken = true;
      becomes = subst (λ (h : History). Becomes start new h (entry ∷ []) true) (append-nil far.recorded) (becomes_then start mid new far.recorded far.becomes [] (entry ∷ []) true becomes);
      plain = plain_then far.recorded (entry ∷ []) far.plain plain;
      adds = record {
        first = done;
        rest = row ∷ more;
        rows_are = rows_are;
        are = far.are;
        ends = fell row more entry one kind refl (does_behind (entry ∷ []) (Ok one) does) refl refl (rose_last (counts start.disk kind) (counts mid.disk kind) (counts new.disk kind) (later kind) rose) cc;
      };
      all_are = inr all_are;
    }
    refused_at verdict all' answer (was_lost free failed becomes is) err all_are =
        ended_at verdict all' (still_far becomes)
        (lost row more refl
        (subst (λ (list : Listing). IsFree row.word (given_by list past.rows)) far.becomes.items_are (free_rows row.word mid.items between.rows past.rows free))
        (rose_last (past.faults keepers.Failed) (between.faults keepers.Failed) (past'.faults keepers.Failed) (past_later keepers.Failed) failed) refl refl cc)
        all_are
    refused_at verdict all' answer (was_wanting becomes is) err all_are = ended_at verdict all' (still_far becomes) (wanted refl refl cc) all_are

    pub next_ends : (verdict : Verdict) (all' : List Named) → NextTried told counts at (order_of row) mid new between past' all all' (Err verdict) → RowsTried told counts at rows start new past past' all' verdict
    next_ends verdict all' (inl unsaid) =
        let after = added_far unsaid.one unsaid.was in
        record {
          named = all ++ unsaid.one ∷ [];
          recorded = after.recorded;
          failed = [];
          broken = false;
          becomes = after.becomes;
          plain = subst ArePlain (sym (append-nil after.recorded)) after.plain;
          adds = record { first = done ++ row ∷ []; rest = more; rows_are = rows_are ∙ sym (append_assoc done (row ∷ []) more); are = after.are; ends = wanted refl refl unsaid.is };
          all_are = inl unsaid.is;
        }
    next_ends verdict all' (inr (tried, all_are)) = refused_at verdict all' (Err verdict) tried refl all_are

-- all rows were added
pub all_done : {D O : Type 0} (told : Type 0) (counts : D → DiskKind → ℕ) (at : ℕ) (start present : View D O) (past past' : Past) (rows done : List ImportRow) (all : List Named) → rows ≡ done → SoFar told at start present past done all
    → RowsTried told counts at rows start present past past' all verdicts.Done
all_done told counts at start present past past' rows done all are far = record {
  named = all;
  recorded = far.recorded;
  failed = [];
  broken = false;
  becomes = far.becomes;
  plain = subst ArePlain (sym (append-nil far.recorded)) far.plain;
  adds = record { first = done; rest = []; rows_are = are ∙ sym (append-nil done); are = far.are; ends = all_added refl refl refl refl };
  all_are = inr refl;
}

-- How the list of recorded entries grew.

tried_list : {D O : Type 0} (told : Type 0) (counts : D → DiskKind → ℕ) (at : ℕ) (order : Order) (old new : View D O) (past past' : Past) (answer : Answer) → RowTried told counts at order old new past past' answer → (second : History) × (new.list ≡ old.list ++ second)
tried_list told counts at order old new past past' answer (was_added one was is) = (was.entries, was.recorded.list_is)
tried_list told counts at order old new past past' answer (was_refused why does becomes is) = ([], becomes.list_is)
tried_list told counts at order old new past past' answer (has_fallen entry one kind does becomes plain rose is) = ([], becomes.list_is)
tried_list told counts at order old new past past' answer (was_lost free failed becomes is) = ([], becomes.list_is)
tried_list told counts at order old new past past' answer (was_wanting becomes is) = ([], becomes.list_is)

pub next_list : {D O : Type 0} (told : Type 0) (counts : D → DiskKind → ℕ) (at : ℕ) (order : Order) (old new : View D O) (past past' : Past) (all all' : List Named) (result : Result (Unit {0}) Verdict) → NextTried told counts at order old new past past' all all' result
    → (second : History) × (new.list ≡ old.list ++ second)
next_list told counts at order old new past past' all all' (Ok done) next = (next.was.entries, next.was.recorded.list_is)
next_list told counts at order old new past past' all all' (Err verdict) (inl unsaid) = (unsaid.was.entries, unsaid.was.recorded.list_is)
next_list told counts at order old new past past' all all' (Err verdict) (inr (tried, all_are)) = tried_list told counts at order old new past past' (Err verdict) tried

-- no row was read
pub none_worked : {D O : Type 0} (told : Type 0) (clock : D → Clock) (tells : Type 0) (counts : D → DiskKind → ℕ) (at : ℕ) (desk : View D O) (past : Past) (why : Verdict) (read : Result (List ImportRow) Verdict) (said : Said) → IsDesk tells clock desk → desk.broken ≡ false → read ≡ Err why
    → SaysSo desk.items.items [] why said → Worked told counts at read desk desk past past said
none_worked told clock tells counts at desk past why read said is_desk whole is says =
    subst (λ (r : Result (List ImportRow) Verdict). Worked told counts at r desk desk past past said) (sym is) (record {
      named = [];
      verdict = why;
      recorded = [];
      failed = [];
      broken = false;
      becomes = recorded_none desk whole (is_desk.failed whole);
      plain = tt;
      comes = record { none = refl; nothing = refl; none_failed = refl; whole = refl; is = refl };
      says = says;
    })
