-- The name that an item gets, and what is answered.
use Rattle.std.proofs.Common.{◌≡◌, inl, inr, ℕ, suc, ◌≤◌, Bool, true, false, List, [], ◌∷◌, ◌++◌, length, Option, Some, None, Result, Ok, Err, refl, sym, ◌∙◌, ap, subst, arith}
use Rattle.std.specs.Prelude.{IfErr, IfSome, IsSome, cond, option_to_list}
use Rattle.std.specs.List.{Any}
use Rattle.std.proofs.lemmas.Grind.{common_steps}
use Rattle.dm_types.specs.Faults.{HasCause, NoneFell, Rose}
use Rattle.dm_types.specs.Name.{IsPart, fold_case}
use Rattle.dm_types.specs.declared.entry.Entry.{Entry}
use Rattle.dm_types.specs.declared.entry.Entry.TheVariants as entries
use Rattle.dm_types.specs.declared.item.Item.{Item}
use Rattle.dm_types.specs.declared.item.ItemId.{ItemId}
use Rattle.dm_types.specs.declared.item.Key.{Key}
use Rattle.dm_types.specs.declared.item.Key.TheVariants.{Once, Strong}
use Rattle.dm_types.specs.declared.kinds.DiskKind.{DiskKind}
use Rattle.dm_types.specs.declared.reason.Reason.TheVariants as reasons
use Rattle.dm_policy.specs.Cause.{reason_of_file}
use Rattle.dm_disk_model.specs.Disk.{History as Clock, now}
use Rattle.dm_disk_model.specs.Folder.{Folder, Lists, names_of}
use Rattle.dm_record.specs.Limits.{AtMost, IsSpellable}
use Rattle.dm_item.specs.Lawful.{History}
use Rattle.dm_item.specs.Row.{HasName, HasNameIn, IsFreeName, IsKeyOf, is_cancelled}
use Rattle.dm_kept.proofs.Lists.{id_in}
use Rattle.dm_name.specs.Clean.{cleaned}
use Rattle.dm_name.specs.Forms.{AreAllTaken, IsFirstFree, IsTaken, form}
use Rattle.dm_name.proofs.LawLemmas.{no_part_is}
use Rattle.dm_name.proofs.PlainLemmas.{short_is}
use Rattle.dm_store.specs.declared.pass.Gone.{Gone}
use Rattle.dm_store.specs.declared.pass.Gone.TheVariants as gones
use Rattle.dm_store.specs.declared.pass.Pass.{Pass}
use Rattle.dm_store.specs.Becomes.{Becomes}
use Rattle.dm_store.specs.Passes.{PassDeclines}
use Rattle.dm_store.specs.View.{View}
use Rattle.dm_store.proofs.Saved.{from_disk, later_then, rose_last}
use Rattle.dm_answers.specs.declared.answer.Named.{Named}
use Rattle.dm_answers.specs.declared.answer.Named.TheVariants as named
use Rattle.dm_answers.specs.declared.answer.Told.{Told}
use Rattle.dm_answers.specs.declared.fault.DeskFault.{DeskFault}
use Rattle.dm_answers.specs.declared.fault.DeskFault.TheVariants as faults
use Rattle.dm_answers.specs.Describe.{DescribeAnswers, DescribeTries, GivesName, GivesNone, IsKeyFor, IsSilent, IsTelling, WithNames, described_by, used_names}
use Rattle.dm_answers.specs.Faults.{fault_of}
use Rattle.dm_answers.specs.Running.{RunsWith}
use Rattle.dm_begin.specs.Naming.{AreTaken, name_used}
use Rattle.dm_begin.specs.Told.{DescribeChecks, EntryAnswers, IsDescribing, NameAnswers, NameTries}

-- One of some names.

any-here : {X : Type 0} (P : X → Type 0) (x : X) (xs : List X) → P x → Any P (x ∷ xs)
any-here P x xs p = (0, x, omega arith, refl, p)

any-later : {X : Type 0} (P : X → Type 0) (x : X) (xs : List X) → Any P xs → Any P (x ∷ xs)
any-later P x xs some = let below = some.2 in (suc some.0, some.1, omega (arith, below), some.3, some.4)

any-right : {X : Type 0} (P : X → Type 0) (xs ys : List X) → Any P ys → Any P (xs ++ ys)
any-right P [] ys some = some
any-right P (x ∷ xs) ys some = any-later P x (xs ++ ys) (any-right P xs ys some)

any-left : {X : Type 0} (P : X → Type 0) (xs ys : List X) → Any P xs → Any P (xs ++ ys)
any-left P xs ys some = let below = some.2 in let is = some.3 in (some.0, some.1, grind (arith, common_steps), grind (arith, common_steps), some.4)

abbrev Same : List ℕ → List ℕ → Type 0
Same name other = fold_case other ≡ fold_case name

used-in : (name : List ℕ) (found : Option (List ℕ)) → HasNameIn found name → Any (Same name) (option_to_list found)
used-in name None has = absurd has
used-in name (Some other) has = any-here (Same name) other [] (sym has)

used-by : (name : List ℕ) (item : Item) → is_cancelled item.phase ≡ false → HasName item name → Any (Same name) (name_used item)
used-by name item alive has = subst (λ (b : Bool). Any (Same name) (cond b [] (option_to_list item.name))) (sym alive) (used-in name item.name has)

-- a name that no item uses is free
free-name : (id : ℕ) (name : List ℕ) (items : List Item) → (IsTaken (used_names items) name → ⊥) → IsFreeName id name items
free-name id name [] none = tt
free-name id name (item ∷ rest) none = (
  λ other alive has. none (any-left (Same name) (name_used item) (used_names rest) (used-by name item alive has)),
  free-name id name rest (λ some. none (any-right (Same name) (name_used item) (used_names rest) some)),
)

-- a name that isn't listed doesn't stand
absent-name : (name : List ℕ) (folder : Folder) (listed : List (List ℕ)) → Lists folder listed → (IsTaken listed name → ⊥) → names_of folder name ≡ None
absent-name name folder listed lists none = by (names_of folder name) refl
  where
    by : (found : Option ℕ) → names_of folder name ≡ found → names_of folder name ≡ None
    by None is = is
    by (Some number) is =
        let has = (lists.each name).1 (subst IsSome (sym is) refl) in
        absurd (none (has.0, name, has.1, has.2, refl))

-- The entry of what was told.

key-own : (pass : Pass) (item : Item) (key : Key) → item.id.0 ≡ pass.id.0 → item.attempt ≡ pass.attempt → IsKeyFor pass key → IsKeyOf item key
key-own pass item (Strong tag) ids attempts own = tt
key-own pass item (Once id attempt) ids attempts own = (ap (λ (i : ItemId). i.0) own.0 ∙ sym ids, ap (λ a. a.0) (own.1 ∙ sym attempts))

short-form : (raw wish name : List ℕ) (number : ℕ) → wish ≡ cleaned raw → name ≡ form wish number → number ≤ 100 → AtMost 255 name
short-form raw wish name number wish_is name_is within =
    let short = short_is raw number within in
    let size : length name ≡ length (form (cleaned raw) number) = ap (length {A = ℕ}) (name_is ∙ ap (λ (w : List ℕ). form w number) wish_is) in
    omega (arith, short, size)

no-part : (raw wish name : List ℕ) (number : ℕ) → wish ≡ cleaned raw → name ≡ form wish number → IsPart name → ⊥
no-part raw wish name number wish_is name_is is = no_part_is raw number (subst IsPart (name_is ∙ ap (λ (w : List ℕ). form w number) wish_is) is)

pub entry_spelled : (pass : Pass) (told : Told) (name : List ℕ) (taken : List (List ℕ)) → IsTelling pass told → IsFirstFree told.wish taken name → IsSpellable (described_by pass told name)
entry_spelled pass told name taken telling first =
    (telling.tag, telling.address, short-form telling.wish.raw told.wish name first.number telling.wish.is first.is first.within, telling.modified)

pub entry_describes : {D O : Type 0} (tells : Type 0) (clock : D → Clock) (desk : View D O) (pass : Pass) (told : Told) (name : List ℕ) (taken : List (List ℕ)) → IsTelling pass told → IsFirstFree told.wish taken name
    → AreTaken tells (clock desk.disk) desk.items.items taken → RunsWith desk pass.id pass.attempt IsSilent → IsDescribing tells clock desk pass.id (described_by pass told name)
entry_describes tells clock desk pass told name taken telling first are runs = record {
  item = runs.item;
  there = runs.there;
  life = runs.life;
  lives = runs.lives;
  untold = runs.is;
  key = told.key;
  address = told.last_address;
  total = told.total;
  name = name;
  modified = told.modified;
  is = refl;
  small = telling.small;
  free = free-name runs.item.id.0 name desk.items.items
      (λ some. first.free (subst (λ (t : List (List ℕ)). IsTaken t name) (sym are.is) (any-right (Same name) are.listed (used_names desk.items.items) some)));
  own = key-own pass runs.item told.key (id_in pass.id.0 runs.item desk.items.items runs.there) runs.attempt_is telling.own;
  no_part = no-part telling.wish.raw told.wish name first.number telling.wish.is first.is;
  absent = λ tells.
      absent-name name (now (clock desk.disk)).files are.listed (are.lists tells)
      (λ some. first.free (subst (λ (t : List (List ℕ)). IsTaken t name) (sym are.is) (any-left (Same name) are.listed (used_names desk.items.items) some)));
}

-- Why the first reply may not be told.

pub gone_told : {D O : Type 0} (desk : View D O) (pass : Pass) (gone : Gone) (fault : DeskFault) → fault ≡ fault_of gone → PassDeclines desk pass.id pass.attempt gone → DescribeChecks desk pass (Err fault)
gone_told desk pass (gones.NoItem id) fault is declines = subst (λ (f : DeskFault). DescribeChecks desk pass (Err f)) (sym is) declines
gone_told desk pass (gones.Stale attempt round) fault is declines = subst (λ (f : DeskFault). DescribeChecks desk pass (Err f)) (sym is) declines

-- What comes of one entry is what comes of the wish.

pub name_failed : {D O : Type 0} (counts : D → DiskKind → ℕ) (old new : View D O) (pass : Pass) (told : Told) (taken : List (List ℕ)) (entry : Entry) (fault : DeskFault) → GivesName pass told entry taken → EntryAnswers counts old new pass.id entry (Err fault)
    → NameAnswers counts old new pass told taken (Err fault)
name_failed counts old new pass told taken entry faults.NoMemory gives same = same
name_failed counts old new pass told taken entry (faults.File kind) gives recorded = recorded
name_failed counts old new pass told taken entry (faults.Journal kind) gives (inl becomes) = record {
  behind = entry ∷ [];
  is = inl (record { entry = entry; is = gives; one = refl });
  fell = record { recorded = []; entry = entry; rest = []; tries_are = refl; becomes = becomes };
}
name_failed counts old new pass told taken entry (faults.Journal kind) gives (inr fell) = record {
  behind = entries.Broke pass.id (reason_of_file fell.kind) ∷ [];
  is = inr (inr (record { entry = entries.Broke pass.id (reason_of_file fell.kind); is = record { kind = fell.kind; rose = fell.rose; is = refl }; one = refl }));
  fell = record { recorded = []; entry = entries.Broke pass.id (reason_of_file fell.kind); rest = []; tries_are = refl; becomes = fell.becomes };
}
name_failed counts old new pass told taken entry (faults.NoItem id) gives none = absurd none
name_failed counts old new pass told taken entry (faults.WrongState phase) gives none = absurd none
name_failed counts old new pass told taken entry (faults.Stale attempt round) gives none = absurd none
name_failed counts old new pass told taken entry (faults.NotNext place) gives none = absurd none
name_failed counts old new pass told taken entry (faults.PastEnd end) gives none = absurd none
name_failed counts old new pass told taken entry (faults.CheckpointDue bytes) gives none = absurd none
name_failed counts old new pass told taken entry (faults.ItemsFull count) gives none = absurd none
name_failed counts old new pass told taken entry (faults.WordTaken id) gives none = absurd none
name_failed counts old new pass told taken entry faults.Broken gives none = absurd none
name_failed counts old new pass told taken entry (faults.Damaged place) gives none = absurd none

pub all_failed : {D O : Type 0} (counts : D → DiskKind → ℕ) (old new : View D O) (pass : Pass) (told : Told) (taken : List (List ℕ)) (kind : DiskKind) → AreAllTaken told.wish taken → Becomes old new [] (entries.Broke pass.id reasons.FileFailed ∷ []) true
    → NameAnswers counts old new pass told taken (Err (faults.Journal kind))
all_failed counts old new pass told taken kind all becomes = record {
  behind = entries.Broke pass.id reasons.FileFailed ∷ [];
  is = inr (inl (record { entry = entries.Broke pass.id reasons.FileFailed; is = record { all = all; is = refl }; one = refl }));
  fell = record { recorded = []; entry = entries.Broke pass.id reasons.FileFailed; rest = []; tries_are = refl; becomes = becomes };
}

-- The names were listed before.
module _ {D O : Type 0} (tells : Type 0) (clock : D → Clock) (counts : D → DiskKind → ℕ) (old new : View D O) (disk : D) (pass : Pass) (told : Told) (taken : List (List ℕ)) (are : AreTaken tells (clock old.disk) old.items.items taken)
    (same : clock disk ≡ clock old.disk) (fell : NoneFell (counts old.disk) (counts disk)) (whole : old.broken ≡ false) (runs : RunsWith old pass.id pass.attempt IsSilent) where
  with_names : (P : List (List ℕ) → Type 0) → P taken → WithNames tells clock old P
  with_names P is = record { listed = are.listed; lists = are.lists; is = subst P are.is is }

  tries_are : (tries : History) → NameTries (counts disk) (counts new.disk) pass told taken tries → DescribeTries tells clock counts old new pass told tries
  tries_are tries (inl one) = inl (record { entry = one.entry; is = with_names (GivesName pass told one.entry) one.is; one = one.one })
  tries_are tries (inr (inl one)) = inr (inl (record { entry = one.entry; is = with_names (GivesNone pass told one.entry) one.is; one = one.one }))
  tries_are tries (inr (inr one)) = inr (inr (record {
    entry = one.entry;
    is = record { kind = one.is.kind; rose = rose_last (counts old.disk one.is.kind) (counts disk one.is.kind) (counts new.disk one.is.kind) (fell one.is.kind) one.is.rose; is = one.is.is };
    one = one.one;
  }))

  pub name_answers : (result : Result Named DeskFault) → NameAnswers counts (record old { disk = disk }) new pass told taken result → DescribeAnswers tells clock counts old new pass told result
  name_answers (Ok named.Named) is = (runs, record { entry = is.entry; is = with_names (GivesName pass told is.entry) is.is; recorded = from_disk old new disk (is.entry ∷ []) [] false is.recorded })
  name_answers (Ok named.AllTaken) is = (runs, record { entry = is.entry; is = with_names (GivesNone pass told is.entry) is.is; recorded = from_disk old new disk (is.entry ∷ []) [] false is.recorded })
  name_answers (Err faults.NoMemory) is =
      let disks : new.disk ≡ disk = ap (λ (v : View D O). v.disk) is in
      record { whole = whole; cause = runs; same = is ∙ ap (λ (d : D). record old { disk = d }) (sym disks); still = ap clock disks ∙ same }
  name_answers (Err (faults.File kind)) is = (runs, from_disk old new disk (entries.Broke pass.id (reason_of_file kind) ∷ []) [] false is)
  name_answers (Err (faults.Journal kind)) is = (
    runs,
    record {
      behind = is.behind;
      is = tries_are is.behind is.is;
      fell = record {
        recorded = is.fell.recorded;
        entry = is.fell.entry;
        rest = is.fell.rest;
        tries_are = is.fell.tries_are;
        becomes = from_disk old new disk is.fell.recorded (is.fell.entry ∷ []) true is.fell.becomes;
      };
    },
  )
  name_answers (Err (faults.NoItem id)) is = absurd is
  name_answers (Err (faults.WrongState phase)) is = absurd is
  name_answers (Err (faults.Stale attempt round)) is = absurd is
  name_answers (Err (faults.NotNext place)) is = absurd is
  name_answers (Err (faults.PastEnd end)) is = absurd is
  name_answers (Err (faults.CheckpointDue bytes)) is = absurd is
  name_answers (Err (faults.ItemsFull count)) is = absurd is
  name_answers (Err (faults.WordTaken id)) is = absurd is
  name_answers (Err faults.Broken) is = absurd is
  name_answers (Err (faults.Damaged place)) is = absurd is

pub check_declines : {D O : Type 0} (tells : Type 0) (clock : D → Clock) (counts : D → DiskKind → ℕ) (desk : View D O) (pass : Pass) (told : Told) (fault : DeskFault) → desk.broken ≡ false → DescribeChecks desk pass (Err fault)
    → DescribeAnswers tells clock counts desk desk pass told (Err fault)
check_declines tells clock counts desk pass told (faults.NoItem id) whole checks = record { whole = whole; cause = checks; same = refl }
check_declines tells clock counts desk pass told (faults.WrongState phase) whole checks = record { whole = whole; cause = checks; same = refl }
check_declines tells clock counts desk pass told (faults.Stale attempt round) whole checks = record { whole = whole; cause = checks; same = refl }
check_declines tells clock counts desk pass told (faults.NotNext place) whole checks = absurd checks
check_declines tells clock counts desk pass told (faults.PastEnd end) whole checks = absurd checks
check_declines tells clock counts desk pass told (faults.CheckpointDue bytes) whole checks = absurd checks
check_declines tells clock counts desk pass told (faults.ItemsFull count) whole checks = absurd checks
check_declines tells clock counts desk pass told (faults.WordTaken id) whole checks = absurd checks
check_declines tells clock counts desk pass told (faults.File kind) whole checks = absurd checks
check_declines tells clock counts desk pass told (faults.Journal kind) whole checks = absurd checks
check_declines tells clock counts desk pass told faults.Broken whole checks = absurd checks
check_declines tells clock counts desk pass told faults.NoMemory whole checks = absurd checks
check_declines tells clock counts desk pass told (faults.Damaged place) whole checks = absurd checks

-- A cause over two calls, of which the first told no fault.
pub cause_then : {T E K : Type 0} (kind_of : E → Option K) (first middle last : K → ℕ) (result : Result T E) → NoneFell first middle → HasCause kind_of middle last result → HasCause kind_of first last result
cause_then {T = T} {E = E} {K = K} kind_of first middle last result fell is = record { later = later_then first middle last fell is.later; cause = by result is.cause }
  where
    some : (found : Option K) → IfSome found (λ (k : K). Rose (middle k) (last k)) → IfSome found (λ (k : K). Rose (first k) (last k))
    some None rose = tt
    some (Some k) rose = rose_last (first k) (middle k) (last k) (fell k) rose

    by : (r : Result T E) → IfErr r (λ (e : E). IfSome (kind_of e) (λ (k : K). Rose (middle k) (last k))) → IfErr r (λ (e : E). IfSome (kind_of e) (λ (k : K). Rose (first k) (last k)))
    by (Ok value) rose = tt
    by (Err fault) rose = some (kind_of fault) rose
