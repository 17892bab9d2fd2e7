-- What opening the list of a store keeps.
use Rattle.std.proofs.Common.{◌≡◌, ◌⊎◌, inl, inr, ℕ, ◌+◌, ◌≤◌, Bool, true, false, List, [], ◌∷◌, ◌++◌, length, drop, Option, Some, None, Result, Ok, Err, refl, sym, ◌∙◌, ap, subst, arith, length-append}
use Rattle.std.specs.Prelude.{is_some}
use Rattle.std.specs.Option.{option_map}
use Rattle.std.proofs.lemmas.Bool.{false≢true}
use Rattle.std.proofs.lemmas.List.{append-nil, append_assoc}
use Rattle.dm_types.specs.declared.entry.Entry.{Entry}
use Rattle.dm_types.specs.declared.entry.Entry.TheVariants as entries
use Rattle.dm_types.specs.declared.item.Item.{Item}
use Rattle.dm_types.specs.declared.item.Phase.{Phase}
use Rattle.dm_types.specs.declared.item.Phase.TheVariants as phases
use Rattle.dm_disk_model.specs.declared.place.Place.{Place}
use Rattle.dm_disk_model.specs.Disk.{DiskState, History as Clock, now}
use Rattle.dm_disk_model.specs.Folder.{names_of}
use Rattle.dm_disk_model.specs.Moments.{Throughout}
use Rattle.dm_disk_model.proofs.Reaching.{joined, weaker}
use Rattle.dm_item.specs.Fields.{stopped}
use Rattle.dm_item.specs.Lawful.{History, IsLawful, IsOf, items_of}
use Rattle.dm_item.specs.Listing.{Listing, applied, item_in}
use Rattle.dm_item.specs.Row.{stopped_item}
use Rattle.dm_item.proofs.Histories.{keeps_step}
use Rattle.dm_kept.specs.Files.{Covers, Says, no_covers, says_all}
use Rattle.dm_kept.specs.Kept.{Kept, Rests}
use Rattle.dm_kept.specs.Recovery.{Through}
use Rattle.dm_kept.proofs.Entered.{items_are}
use Rattle.dm_kept.proofs.Lists.{in_stopped, some_is}
use Rattle.dm_kept.proofs.Resting as resting
use Rattle.dm_store.specs.Becomes.{Becomes, MayTry, lives_of, run_of}
use Rattle.dm_store.specs.Keeps.{Goes, HoldsOf, IsDesk, Keeps, RestsBy, StaysNear, added}
use Rattle.dm_store.specs.Lives.{covers_of, lives_after, part_place}
use Rattle.dm_store.specs.View.{View, spelled}
use Rattle.dm_store.proofs.Composing.{spelled_then}
use Rattle.dm_answers.specs.Opening.{reopening}
use Rattle.dm_answers.specs.Settling.{AreDone, AreSettlings, SettledAs, Settles, WasAt, finishing, name_place, stands}
use Rattle.dm_find.specs.Reopening.{BeginGoes, BeginMakes, ListBegins, reopened_by}
use Rattle.dm_find.specs.declared.hindered.Hindered.{Hindered}
use Rattle.dm_find.specs.declared.hindered.Hindered.TheVariants as hindrances
use Rattle.dm_find.proofs.Begun.{reopened_takes}
use Rattle.dm_settle.specs.Settled.{IsGivenIn, IsPartOrGiven, NeverBreaks}
use Rattle.dm_settle.proofs.All.{added_is}
use Rattle.dm_open.specs.Finishing.{FinishMakes}
use Rattle.dm_open.specs.Resuming.{EndsAs, Resumes, Tries}

-- the entry of the opening is that of what was found
pub entry_is : (found : History) (v : Listing) (at : ℕ) → IsOf found v → reopened_by v at ∷ [] ≡ reopening found at
entry_is found v at is = ap (λ (w : Listing). entries.Reopened w.next at ∷ []) is.value

heads : (a b : Entry) (xs ys : History) → a ∷ xs ≡ b ∷ ys → a ≡ b
heads a b xs ys same = cc

tails : (a b : Entry) (xs ys : History) → a ∷ xs ≡ b ∷ ys → xs ≡ ys
tails a b xs ys same = cc

none_one : (a : Entry) (xs : History) → a ∷ xs ≡ [] → ⊥
none_one a xs same = absurd cc

-- What was settled from a later start on is settled from an earlier one, at which the same names stood.
module _ (start mid end : Clock) (later : start.moment ≤ mid.moment) (same : names_of (now mid).files ≡ names_of (now start).files) where
  was_earlier : (place : Place) (P : Option (List ℕ) → Type 0) → WasAt mid end place P → WasAt start end place P
  was_earlier place P was = record { moment = was.moment; from = let a = was.from in omega (arith, a, later); to = was.to; is = was.is }

  pub stands_same : (place : Place) → stands mid place ≡ stands start place
  stands_same place = ap (λ (names : List ℕ → Option ℕ). is_some (names place.name)) same

  settled_earlier : (at : ℕ) (item : Item) (part name : Bool) (entry : Entry) → SettledAs mid end at item part name entry → SettledAs start end at item part name entry
  settled_earlier at item true true entry is = is
  settled_earlier at item false false entry is = is
  settled_earlier at item true false entry is = was_earlier (part_place item.id.0 item.epoch.0) _ is
  settled_earlier at item false true entry is = was_earlier (name_place item) _ is

  pub found_earlier : (at : ℕ) (item : Item) (entry : Entry) → SettledAs mid end at item (stands mid (part_place item.id.0 item.epoch.0)) (stands mid (name_place item)) entry
      → SettledAs start end at item (stands start (part_place item.id.0 item.epoch.0)) (stands start (name_place item)) entry
  found_earlier at item entry is =
      settled_earlier at item (stands start (part_place item.id.0 item.epoch.0)) (stands start (name_place item)) entry
      (subst (λ (b : Bool). SettledAs mid end at item (stands start (part_place item.id.0 item.epoch.0)) b entry) (stands_same (name_place item))
      (subst (λ (b : Bool). SettledAs mid end at item b (stands mid (name_place item)) entry) (stands_same (part_place item.id.0 item.epoch.0)) is))

pub settlings_earlier : (tells : Type 0) (start mid end : Clock) (later : tells → start.moment ≤ mid.moment) (same : tells → names_of (now mid).files ≡ names_of (now start).files) (at : ℕ) (items : List Item) (done : History) (left : List Item)
    → AreSettlings tells mid end at items done left → AreSettlings tells start end at items done left
settlings_earlier tells start mid end later same at items [] left is = is
settlings_earlier tells start mid end later same at [] (entry ∷ more) left is = absurd is
settlings_earlier tells start mid end later same at (item ∷ rest) (entry ∷ more) left is = (
  record { settles = is.0.settles; as_found = λ told. found_earlier start mid end (later told) (same told) at item entry (is.0.as_found told) },
  settlings_earlier tells start mid end later same at rest more left is.1,
)

-- What settles an item lets none live.
settles_lives : (at : ℕ) (item : Item) (entry : Entry) (v : Listing) → Settles at item entry → lives_after entry v [] ≡ []
settles_lives at item (entries.Done id digest moment) v is = refl
settles_lives at item (entries.Broke id reason) v is = refl
settles_lives at item other v is = absurd is

lives_none : (tells : Type 0) (start end : Clock) (at : ℕ) (items : List Item) (recorded failed : History) (left : List Item) (v : Listing) → AreSettlings tells start end at items (recorded ++ failed) left → lives_of recorded v [] ≡ []
lives_none tells start end at items [] failed left v is = refl
lives_none tells start end at [] (entry ∷ more) failed left v is = absurd is
lives_none tells start end at (item ∷ rest) (entry ∷ more) failed left v is =
    ap (lives_of more (applied entry v)) (settles_lives at item entry (applied entry v) is.0.settles) ∙ lives_none tells start end at rest more failed left (applied entry v) is.1

-- A desk that is called broken holds what it held.
pub rests_broken : (broken good : Bool) (says : Says) (history failed : History) (gate : ℕ) (covers : Covers) (disk : DiskState) → RestsBy broken good says history failed gate covers disk → Kept good says (Through history failed) disk
rests_broken true good says history failed gate covers disk rests = rests
rests_broken false good says history failed gate covers disk rests = resting.sits_kept good says history failed gate covers disk rests

pub holds_broken : {D O : Type 0} (good : Bool) (says : Says) (clock : D → Clock) (desk : View D O) (history : History) → HoldsOf good says clock desk history → HoldsOf good says clock (record desk { broken = true }) history
holds_broken good says clock desk history holds =
    record { items = holds.items; rests = rests_broken desk.broken good says history desk.failed desk.gate (covers_of desk.lives) (now (clock desk.disk)) holds.rests }

pub desk_broken : {D O : Type 0} (tells : Type 0) (clock : D → Clock) (desk : View D O) → IsDesk tells clock desk → IsDesk tells clock (record desk { broken = true })
desk_broken tells clock desk is = record {
  limits_are = is.limits_are;
  limit = is.limit;
  founded = record {
    before = is.founded.before;
    entries = is.founded.entries;
    items = is.founded.items;
    holds = λ told. holds_broken false says_all clock desk (is.founded.before ++ desk.list) (is.founded.holds told);
  };
  failed = λ whole. absurd (false≢true (sym whole));
  lives = λ whole. absurd (false≢true (sym whole));
  bounded = is.bounded;
}

pub tries_broken : {D O : Type 0} (tells : Type 0) (clock : D → Clock) (says : O → Says) (at : ℕ) (found : History) (old new : View D O) (settled rest : History) (left : List Item) → Tries tells clock says at found old new settled rest left
    → Tries tells clock says at found old (record new { broken = true }) settled rest left
tries_broken tells clock says at found old new settled rest left tries = record {
  tried_is = tries.tried_is;
  lawful = tries.lawful;
  one = tries.one;
  settles = tries.settles;
  items = tries.items;
  gate_is = tries.gate_is;
  none_live = tries.none_live;
  origin = tries.origin;
  limits = tries.limits;
  goes = λ told good rests. let went = tries.goes told good rests in (went.0, holds_broken good (says old.origin) clock new (found ++ new.list) went.1);
}

-- What a list takes, one entry behind another, is lawful behind each history that leaves it.
may_lawful : (history : History) (items : Listing) (tried : History) → IsOf history items → MayTry items tried → IsLawful (history ++ tried)
may_lawful history items [] is may = subst IsLawful (sym (append-nil history)) is.lawful
may_lawful history items (entry ∷ more) is may =
    subst IsLawful (append_assoc history (entry ∷ []) more)
    (may_lawful (history ++ entry ∷ []) (applied entry items) more (keeps_step history entry items (applied entry items) is (record { room = may.0.room; meets = may.0.meets; value = refl })) may.1)

-- From a list that was begun.
module _ {D O : Type 0} (tells : Type 0) (clock : D → Clock) (says : O → Says) (old mid : View D O) (at : ℕ) (goes : BeginGoes tells clock says old mid (reopened_by old.items at)) (found : History) (is_of : IsOf found old.items) where
  -- It was hindered there.
  items_by : (list failed : History) → ((list ++ failed ≡ reopened_by old.items at ∷ []) ⊎ (list ++ failed ≡ [])) → IsOf (found ++ list) (run_of list old.items)
  items_by [] failed tried = subst (λ (h : History). IsOf h old.items) (sym (append-nil found)) is_of
  items_by (x ∷ []) failed (inl one) =
      subst (λ (e : Entry). IsOf (found ++ e ∷ []) (applied e old.items)) (sym (heads x (reopened_by old.items at) failed [] one))
      (keeps_step found (reopened_by old.items at) old.items (applied (reopened_by old.items at) old.items) is_of (reopened_takes old.items at))
  items_by (x ∷ []) failed (inr none) = absurd (none_one x failed none)
  items_by (x ∷ y ∷ more) failed (inl one) = absurd (none_one y (more ++ failed) (tails x (reopened_by old.items at) (y ∷ more ++ failed) [] one))
  items_by (x ∷ y ∷ more) failed (inr none) = absurd (none_one x (y ∷ more ++ failed) none)

  hindered_tries : ListBegins old mid (reopened_by old.items at) true → (rest : History) → mid.list ++ (mid.failed ++ rest) ≡ reopened_by old.items at ∷ []
      → Tries tells clock says at found old mid [] rest (finishing (items_of (found ++ reopening found at)))
  hindered_tries begins rest tried = record {
    tried_is = tried ∙ entry_is found old.items at is_of;
    lawful = subst (λ (h : History). IsLawful (found ++ h)) (sym tried) (keeps_step found (reopened_by old.items at) old.items (applied (reopened_by old.items at) old.items) is_of (reopened_takes old.items at)).lawful;
    one = let long = ap (length {A = Entry}) tried in omega (arith, long, length-append mid.list (mid.failed ++ rest), length-append mid.failed rest);
    settles = refl;
    items = subst (IsOf (found ++ mid.list)) (sym begins.items_are) (items_by mid.list mid.failed begins.tried);
    gate_is = begins.gate_is;
    none_live = begins.lives;
    origin = begins.origin;
    limits = begins.limits;
    goes = λ told good rests. let went = goes told good found is_of rests in (
      subst (λ (h : History). Throughout (clock old.disk) (clock mid.disk) (Kept good (says old.origin) (Through found h))) (entry_is found old.items at is_of) went.0,
      went.1,
    );
  }

  hindered_with : (fault : Hindered) → ListBegins old mid (reopened_by old.items at) true
      → ((settled rest : History) (left : List Item) → EndsAs tells clock says found old mid settled rest left (Err fault)) → Resumes tells clock says at found old mid (Err fault)
  hindered_with fault begins ends = by begins.tried
    where
      by : (mid.list ++ mid.failed ≡ reopened_by old.items at ∷ []) ⊎ (mid.list ++ mid.failed ≡ []) → Resumes tells clock says at found old mid (Err fault)
      by (inl one) = record {
        settled = [];
        rest = [];
        left = finishing (items_of (found ++ reopening found at));
        tries = hindered_tries begins [] (ap (λ (h : History). mid.list ++ h) (append-nil mid.failed) ∙ one);
        ends = ends [] [] (finishing (items_of (found ++ reopening found at)));
      }
      by (inr none) = record {
        settled = [];
        rest = reopened_by old.items at ∷ [];
        left = finishing (items_of (found ++ reopening found at));
        tries = hindered_tries begins (reopened_by old.items at ∷ []) (sym (append_assoc mid.list mid.failed (reopened_by old.items at ∷ [])) ∙ ap (λ (h : History). h ++ reopened_by old.items at ∷ []) none);
        ends = ends [] (reopened_by old.items at ∷ []) (finishing (items_of (found ++ reopening found at)));
      }

  pub hindered_resumes : (fault : Hindered) → BeginMakes old mid (reopened_by old.items at) (Err fault) → Resumes tells clock says at found old mid (Err fault)
  hindered_resumes (hindrances.Disk kind) begins = hindered_with (hindrances.Disk kind) begins (λ settled rest left. begins.broken_is)
  hindered_resumes hindrances.NoMemory begins = hindered_with hindrances.NoMemory begins.0 (λ settled rest left. (begins.0.broken_is, begins.1))

  -- It was begun, and then these were settled.
  module _ (begun : BeginMakes old mid (reopened_by old.items at) (Ok tt)) (new : View D O) (broken : Bool) (recorded failed : History) (becomes : Becomes mid new recorded failed broken) (left : List Item)
      (settles : AreSettlings tells (clock mid.disk) (clock new.disk) at (finishing mid.items.items) (recorded ++ failed) left) (keeps : Keeps tells clock says mid new) (later : tells → (clock old.disk).moment ≤ (clock mid.disk).moment)
      (names : tells → names_of (now (clock mid.disk)).files ≡ names_of (now (clock old.disk)).files) (one : length failed ≤ 1) where
    mid_items : IsOf (found ++ reopened_by old.items at ∷ []) mid.items
    mid_items =
        subst (IsOf (found ++ reopened_by old.items at ∷ [])) (sym (begun.0.items_are ∙ ap (λ (h : History). run_of h old.items) begun.1))
        (keeps_step found (reopened_by old.items at) old.items (applied (reopened_by old.items at) old.items) is_of (reopened_takes old.items at))

    new_list : new.list ≡ reopened_by old.items at ∷ recorded
    new_list = becomes.list_is ∙ ap (λ (h : History). h ++ recorded) begun.1

    held : tells → (good : Bool) → Rests good (says old.origin) found old.gate no_covers (now (clock old.disk)) → HoldsOf good (says mid.origin) clock mid (found ++ mid.list)
    held told good rests = subst (λ (o : O). HoldsOf good (says o) clock mid (found ++ mid.list)) (sym begun.0.origin) (goes told good found is_of rests).1

    added_here : added mid new ≡ recorded
    added_here = added_is mid new recorded becomes.list_is

    tried_here : reopened_by old.items at ∷ (recorded ++ failed) ≡ reopening found at ++ (recorded ++ failed)
    tried_here = ap (λ (h : History). h ++ (recorded ++ failed)) (entry_is found old.items at is_of)

    items_new : IsOf (found ++ new.list) new.items
    items_new =
        subst (λ (h : History). IsOf h new.items) (append_assoc found (reopened_by old.items at ∷ []) recorded ∙ sym (ap (λ (h : History). found ++ h) new_list)) (becomes.lawful (found ++ reopened_by old.items at ∷ []) mid_items)

    lawful_new : IsLawful (found ++ (new.list ++ (new.failed ++ [])))
    lawful_new =
        subst (λ (h : History). IsLawful (found ++ (new.list ++ h))) (sym (append-nil new.failed))
        (subst IsLawful (append_assoc found new.list new.failed) (may_lawful (found ++ new.list) new.items new.failed items_new (subst (MayTry new.items) (sym becomes.failed_is) becomes.may)))

    begun_tries : Tries tells clock says at found old new (recorded ++ failed) [] left
    begun_tries = record {
      tried_is = ap (λ (h : History). new.list ++ h) (append-nil new.failed ∙ becomes.failed_is) ∙ ap (λ (h : History). h ++ failed) new_list ∙ tried_here;
      lawful = lawful_new;
      one = subst (λ (h : History). length h ≤ 1) (sym becomes.failed_is) one;
      settles = subst (λ (items : List Item). AreSettlings tells (clock old.disk) (clock new.disk) at (finishing items) (recorded ++ failed) left)
          (items_are (found ++ reopened_by old.items at ∷ []) mid.items mid_items ∙ ap (λ (h : History). items_of (found ++ h)) (entry_is found old.items at is_of))
          (settlings_earlier tells (clock old.disk) (clock mid.disk) (clock new.disk) later names at (finishing mid.items.items) (recorded ++ failed) left settles);
      items = items_new;
      gate_is = let a = becomes.gate_is in let b = begun.0.gate_is in let c = ap spelled new_list in let d = ap spelled begun.1 in omega (arith, a, b, c, d);
      none_live = becomes.lives_are ∙ ap (lives_of recorded mid.items) begun.0.lives ∙ lives_none tells (clock mid.disk) (clock new.disk) at (finishing mid.items.items) recorded failed left mid.items settles;
      origin = becomes.origin ∙ begun.0.origin;
      limits = becomes.limits ∙ begun.0.limits;
      goes = λ told good rests.
          let said = says old.origin in
          let began = goes told good found is_of rests in
          let went : Goes good said clock mid new (found ++ mid.list) (added mid new) =
          subst (λ (o : O). Goes good (says o) clock mid new (found ++ mid.list) (added mid new)) begun.0.origin (keeps told good (found ++ mid.list) (held told good rests)) in
          let behind : Throughout (clock mid.disk) (clock new.disk) (Kept good said (Through (found ++ reopened_by old.items at ∷ []) (recorded ++ failed))) =
          subst (λ (h : History). Throughout (clock mid.disk) (clock new.disk) (Kept good said (Through (found ++ h) (recorded ++ failed)))) begun.1
          (subst (λ (h : History). Throughout (clock mid.disk) (clock new.disk) (Kept good said (Through (found ++ mid.list) h))) (ap (λ (h : History). h ++ new.failed) added_here ∙ ap (λ (h : History). recorded ++ h) becomes.failed_is) went.moments) in (
            subst (λ (h : History). Throughout (clock old.disk) (clock new.disk) (Kept good said (Through found h))) tried_here
                (joined (clock old.disk) (clock mid.disk) (clock new.disk) (Kept good said (Through found (reopened_by old.items at ∷ (recorded ++ failed))))
                (weaker (clock old.disk) (clock mid.disk) (Kept good said (Through found (reopened_by old.items at ∷ []))) (Kept good said (Through found (reopened_by old.items at ∷ (recorded ++ failed))))
                (λ disk. resting.kept_weaker good said (Through found (reopened_by old.items at ∷ [])) (Through found (reopened_by old.items at ∷ (recorded ++ failed))) disk
                (resting.through_front found (reopened_by old.items at ∷ []) (recorded ++ failed))) began.0)
                (weaker (clock mid.disk) (clock new.disk) (Kept good said (Through (found ++ reopened_by old.items at ∷ []) (recorded ++ failed))) (Kept good said (Through found (reopened_by old.items at ∷ (recorded ++ failed))))
                (λ disk. resting.kept_weaker good said (Through (found ++ reopened_by old.items at ∷ []) (recorded ++ failed)) (Through found (reopened_by old.items at ∷ (recorded ++ failed))) disk
                (resting.through_back found (reopened_by old.items at ∷ []) (recorded ++ failed))) behind)),
            subst (λ (h : History). HoldsOf good said clock new h) (append_assoc found mid.list (added mid new) ∙ sym (ap (λ (h : History). found ++ h) went.longer)) went.holds,
          );
    }

    pub begun_done : NeverBreaks tells clock says mid new → tells → Rests true (says old.origin) found old.gate no_covers (now (clock old.disk)) → AreDone (recorded ++ failed)
    begun_done never told rests =
        subst AreDone (ap (λ (h : History). h ++ new.failed) added_here ∙ ap (λ (h : History). recorded ++ h) becomes.failed_is) (never told (found ++ mid.list) (held told true rests))

  -- so it was opened whole
  pub whole_resumes : BeginMakes old mid (reopened_by old.items at) (Ok tt) → (new : View D O) → FinishMakes tells clock mid new at (Ok tt) → Keeps tells clock says mid new → NeverBreaks tells clock says mid new
      → (tells → (clock old.disk).moment ≤ (clock mid.disk).moment) → (tells → names_of (now (clock mid.disk)).files ≡ names_of (now (clock old.disk)).files) → Resumes tells clock says at found old new (Ok tt)
  whole_resumes begun new makes keeps never later names =
      let recorded : History = makes.0.recorded in
      let settles : AreSettlings tells (clock mid.disk) (clock new.disk) at (finishing mid.items.items) (recorded ++ []) [] =
      subst (λ (h : History). AreSettlings tells (clock mid.disk) (clock new.disk) at (finishing mid.items.items) h []) (sym (append-nil recorded)) makes.0.settles in
      record {
        settled = recorded ++ [];
        rest = [];
        left = [];
        tries = begun_tries begun new false recorded [] makes.0.becomes [] settles keeps later names (omega arith);
        ends = record {
          whole = makes.0.becomes.broken_is;
          none_failed = makes.0.becomes.failed_is;
          none_rest = refl;
          none_left = refl;
          never_breaks = begun_done begun new false recorded [] makes.0.becomes [] settles keeps later names (omega arith) never;
          swept = makes.1;
        };
      }

  -- or it was hindered behind
  pub stopped_resumes : (fault : Hindered) → BeginMakes old mid (reopened_by old.items at) (Ok tt) → (new : View D O) → FinishMakes tells clock mid new at (Err fault) → Keeps tells clock says mid new
      → (tells → (clock old.disk).moment ≤ (clock mid.disk).moment) → (tells → names_of (now (clock mid.disk)).files ≡ names_of (now (clock old.disk)).files) → Resumes tells clock says at found old (record new { broken = true }) (Err fault)
  stopped_resumes (hindrances.Disk kind) begun new makes keeps later names = record {
    settled = makes.recorded ++ makes.failed;
    rest = [];
    left = makes.left;
    tries = tries_broken tells clock says at found old new (makes.recorded ++ makes.failed) [] makes.left
        (begun_tries begun new makes.broken makes.recorded makes.failed makes.becomes makes.left makes.settles keeps later names makes.one);
    ends = refl;
  }
  stopped_resumes hindrances.NoMemory begun new makes keeps later names = record {
    settled = makes.0.recorded ++ makes.0.failed;
    rest = [];
    left = makes.0.left;
    tries = tries_broken tells clock says at found old new (makes.0.recorded ++ makes.0.failed) [] makes.0.left
        (begun_tries begun new makes.0.broken makes.0.recorded makes.0.failed makes.0.becomes makes.0.left makes.0.settles keeps later names makes.0.one);
    ends = (refl, makes.1);
  }

-- the name that an item gets, as it was before the list was begun
is_finishing_before : (phase : Phase) → stopped phase ≡ phases.Finishing → phase ≡ phases.Finishing
is_finishing_before phases.Running is = absurd cc
is_finishing_before phases.Waiting is = absurd cc
is_finishing_before phases.Paused is = absurd cc
is_finishing_before phases.Finishing is = refl
is_finishing_before phases.Complete is = absurd cc
is_finishing_before phases.Cancelled is = absurd cc
is_finishing_before (phases.Interrupted reason) is = absurd cc

none_some : (a : Item) → None ≡ Some a → ⊥
none_some a same = absurd cc

pub given_before : {D O : Type 0} (clock : D → Clock) (old mid : View D O) (at : ℕ) → mid.items ≡ applied (reopened_by old.items at) old.items → names_of (now (clock mid.disk)).files ≡ names_of (now (clock old.disk)).files
    → (clock old.disk).moment ≤ (clock mid.disk).moment → (name : List ℕ) → IsPartOrGiven clock mid name → IsPartOrGiven clock old name
given_before clock old mid at items names later name (inl part) = inl part
given_before clock old mid at items names later name (inr given) = inr (by (item_in given.id old.items.items) refl)
  where
    there : option_map stopped_item (item_in given.id old.items.items) ≡ Some given.item
    there = sym (in_stopped given.id old.items.items) ∙ sym (ap (λ (v : Listing). item_in given.id v.items) items) ∙ given.there

    by : (was : Option Item) → item_in given.id old.items.items ≡ was → IsGivenIn clock old name
    by None is = absurd (none_some given.item (sym (ap (option_map stopped_item) is) ∙ there))
    by (Some item) is =
        let same : stopped_item item ≡ given.item = some_is (stopped_item item) given.item (sym (ap (option_map stopped_item) is) ∙ there) in
        record {
          id = given.id;
          item = item;
          there = is;
          finishing = is_finishing_before item.phase (ap (λ (i : Item). i.phase) same ∙ given.finishing);
          named = ap (λ (i : Item). i.name) same ∙ given.named;
          parted = sym (stands_same (clock old.disk) (clock mid.disk) (clock mid.disk) later names (part_place item.id.0 item.epoch.0)) ∙ ap (λ (i : Item). stands (clock mid.disk) (part_place i.id.0 i.epoch.0)) same ∙ given.parted;
          free = sym (stands_same (clock old.disk) (clock mid.disk) (clock mid.disk) later names (name_place item)) ∙ ap (λ (i : Item). stands (clock mid.disk) (name_place i)) same ∙ given.free;
        }

-- the count of far writes over both
pub near_resumed : {D O : Type 0} (old mid new : View D O) (at : ℕ) → old.list ≡ [] → BeginMakes old mid (reopened_by old.items at) (Ok tt) → (recorded failed : History) (broken : Bool) → Becomes mid new recorded failed broken
    → (before between after : ℕ) → StaysNear before between old mid → StaysNear between after mid new → StaysNear before after old new
near_resumed old mid new at bare begun recorded failed broken becomes before between after near later short =
    let all : new.list ≡ reopened_by old.items at ∷ recorded = becomes.list_is ∙ ap (λ (h : History). h ++ recorded) begun.1 in
    let from_start : added old new ++ new.failed ≡ (reopened_by old.items at ∷ recorded) ++ failed = ap (λ (h : History). drop (length h) new.list ++ new.failed) bare ∙ ap (λ (h : History). h ++ new.failed) all
    ∙ ap (λ (h : History). (reopened_by old.items at ∷ recorded) ++ h) becomes.failed_is in
    let whole : spelled (added old new ++ new.failed) ≡ spelled (reopened_by old.items at ∷ recorded) + spelled failed = ap spelled from_start ∙ spelled_then (reopened_by old.items at ∷ recorded) failed in
    let front : spelled (added old mid ++ mid.failed) ≡ spelled (reopened_by old.items at ∷ []) =
    ap spelled (ap (λ (h : History). drop (length h) mid.list ++ mid.failed) bare ∙ ap (λ (h : History). h ++ mid.failed) begun.1 ∙ ap (λ (h : History). reopened_by old.items at ∷ h) begun.2) in
    let back : spelled (added mid new ++ new.failed) ≡ spelled recorded + spelled failed =
    ap spelled (ap (λ (h : History). h ++ new.failed) (added_is mid new recorded becomes.list_is) ∙ ap (λ (h : History). recorded ++ h) becomes.failed_is) ∙ spelled_then recorded failed in
    let gate = begun.0.gate_is in
    let one = ap spelled begun.1 in
    later (omega (arith, short, whole, back, gate, one)) ∙ near (omega (arith, short, whole, front))

pub near_finished : {D O : Type 0} (tells : Type 0) (clock : D → Clock) (old mid new : View D O) (at : ℕ) (result : Result (Unit {0}) Hindered) → old.list ≡ [] → BeginMakes old mid (reopened_by old.items at) (Ok tt) → FinishMakes tells clock mid new at result
    → (before between after : ℕ) → StaysNear before between old mid → StaysNear between after mid new → StaysNear before after old new
near_finished tells clock old mid new at (Ok done) bare begun makes = near_resumed old mid new at bare begun makes.0.recorded [] false makes.0.becomes
near_finished tells clock old mid new at (Err (hindrances.Disk kind)) bare begun makes = near_resumed old mid new at bare begun makes.recorded makes.failed makes.broken makes.becomes
near_finished tells clock old mid new at (Err hindrances.NoMemory) bare begun makes = near_resumed old mid new at bare begun makes.0.recorded makes.0.failed makes.0.broken makes.0.becomes

-- it is broken where it was hindered
pub broken_of : {D O : Type 0} (tells : Type 0) (clock : D → Clock) (says : O → Says) (found : History) (old new : View D O) (settled rest : History) (left : List Item) (fault : Hindered) → EndsAs tells clock says found old new settled rest left (Err fault) → new.broken ≡ true
broken_of tells clock says found old new settled rest left (hindrances.Disk kind) ends = ends
broken_of tells clock says found old new settled rest left hindrances.NoMemory ends = ends.0
