-- Once an attempt is over, its passes are refused for good.
use Rattle.std.proofs.Common.{◌≡◌, ◌⊎◌, inl, inr, ℕ, ◌<◌, ◌≤◌, true, false, List, ◌++◌, reverse, Option, Some, None, IsTrue, Result, Ok, Err, refl, sym, ◌∙◌, ap, subst, arith}
use Rattle.std.specs.Prelude.{IfSome, is_err}
use Rattle.std.proofs.lemmas.Option.{none-some, same_Some}
use Rattle.dm_types.specs.declared.item.Attempt.{Attempt}
use Rattle.dm_types.specs.declared.item.Item.{Item}
use Rattle.dm_types.specs.declared.item.ItemId.{ItemId}
use Rattle.dm_types.specs.declared.kinds.DiskKind.{DiskKind}
use Rattle.dm_item.specs.Fields.{is_running, item_at, next_of}
use Rattle.dm_item.specs.Lawful.{History, IsLawful, IsOf, item_with, left_by}
use Rattle.dm_item.specs.Listing.{Listing, item_in}
use Rattle.dm_item.proofs.Below.{in_below}
use Rattle.dm_item.proofs.Gone.{IsGone, gone_stays}
use Rattle.dm_item.proofs.Lasting.{stays_over}
use Rattle.dm_item.proofs.Steps.{sane_lawful}
use Rattle.dm_store.specs.declared.life.Life.{Life}
use Rattle.dm_store.specs.View.{View}
use Rattle.dm_answers.specs.declared.answer.SlicePass.{SlicePass}
use Rattle.dm_answers.specs.declared.fault.DeskFault.{DeskFault}
use Rattle.dm_answers.specs.declared.fault.DeskFault.TheVariants as faults
use Rattle.dm_answers.specs.Check.{CheckAnswers}
use Rattle.dm_answers.specs.Land.{LandAnswers}
use Rattle.dm_answers.specs.Running.{RunsWith}

-- the item doesn't run behind this history, and had this attempt or a later one
pub record HasEnded (history : History) (id attempt : ℕ) : Type 0 where
  pub item : Item
  pub there : item_with id history ≡ Some item
  pub idle : is_running item.phase ≡ false
  pub had : attempt ≤ item.attempt.0

-- the attempt is over behind this history: it ended, or the item is gone
abbrev pub IsOver : History → ℕ → ℕ → Type 0
IsOver history id attempt = HasEnded history id attempt ⊎ IsGone id (left_by 0 (reverse history))

use_some : (found : Option Item) (P : Item → Type 0) (item : Item) → IfSome found P → found ≡ Some item → P item
use_some None P item has is = absurd (none-some item is)
use_some (Some other) P item has is = subst P (same_Some other item is) has

-- the item that a list has is the history's
item_of : (history : History) (v : Listing) (id : ℕ) (item : Item) → IsOf history v → item_in id v.items ≡ Some item → item_with id history ≡ Some item
item_of history v id item is found =
    (in_below (item_at (reverse history)) id (next_of (reverse history)) item (sane_lawful (reverse history) is.lawful).indexed (subst (λ (x : Listing). item_in id x.items ≡ Some item) is.value found)).is

module _ (history more : History) (id attempt : ℕ) (lawful : IsLawful (history ++ more)) (v : Listing) (is : IsOf (history ++ more) v) (item : Item) (found : item_in id v.items ≡ Some item) (runs : IsTrue (is_running item.phase)) (same : item.attempt.0 ≡ attempt) where
  abbrev IsLater : Item → Item → Type 0
  IsLater earlier later = is_running later.phase ≡ true → earlier.attempt.0 < later.attempt.0

  abbrev StaysIdle : Item → Type 0
  StaysIdle earlier = is_running earlier.phase ≡ false → IfSome (item_with id (history ++ more)) (IsLater earlier)

  later_than : HasEnded history id attempt → ⊥
  later_than ended =
      let stays : StaysIdle ended.item = use_some (item_with id history) StaysIdle ended.item (stays_over history more lawful id) ended.there in
      let rose : ended.item.attempt.0 < item.attempt.0 = use_some (item_with id (history ++ more)) (IsLater ended.item) item (stays ended.idle) (item_of (history ++ more) v id item is found) runs in
      let had = ended.had in omega arith

  not_there : IsGone id (left_by 0 (reverse history)) → ⊥
  not_there gone =
      let still = gone_stays history more id lawful gone in
      none-some item (sym still.none ∙ subst (λ (x : Listing). item_in id x.items ≡ Some item) is.value found)

  not_again : IsOver history id attempt → ⊥
  not_again (inl ended) = later_than ended
  not_again (inr gone) = not_there gone

module _ {D O : Type 0} (history more : History) (old : View D O) (id : ItemId) (attempt : Attempt) (over : IsOver history id.0 attempt.0) (lawful : IsLawful (history ++ more)) (is : IsOf (history ++ more) old.items) where
  pub never_runs : (P : Item → Life → Type 0) → RunsWith old id attempt P → ⊥
  never_runs P runs = not_again history more id.0 attempt.0 lawful old.items is runs.item runs.there runs.runs (ap (λ (a : Attempt). a.0) runs.attempt_is) over

-- for every later list of entries
pub old_check : {D O : Type 0} (history more : History) (old : View D O) (pass : SlicePass) → IsOver history pass.id.0 pass.attempt.0 → IsLawful (history ++ more) → IsOf (history ++ more) old.items
    → (result : Result ℕ DeskFault) → CheckAnswers old pass result → is_err result ≡ true
old_check history more old pass over lawful is (Ok place) answer = absurd (never_runs history more old pass.id pass.attempt over lawful is _ answer.1)
old_check history more old pass over lawful is (Err fault) answer = refl

pub old_land : {D O : Type 0} (counts : D → DiskKind → ℕ) (history more : History) (old new : View D O) (pass : SlicePass) (at : ℕ) (piece : List ℕ) → IsOver history pass.id.0 pass.attempt.0 → IsLawful (history ++ more) → IsOf (history ++ more) old.items
    → (result : Result (Unit {0}) DeskFault) → LandAnswers counts old new pass at piece result → (is_err result ≡ true) × (new ≡ old)
old_land counts history more old new pass at piece over lawful is (Ok done) answer = absurd (never_runs history more old pass.id pass.attempt over lawful is _ answer.0)
old_land counts history more old new pass at piece over lawful is (Err faults.Broken) answer = (refl, answer.same)
old_land counts history more old new pass at piece over lawful is (Err (faults.NoItem id)) answer = (refl, answer.same)
old_land counts history more old new pass at piece over lawful is (Err (faults.Stale attempt round)) answer = (refl, answer.same)
old_land counts history more old new pass at piece over lawful is (Err (faults.NotNext place)) answer = (refl, answer.same)
old_land counts history more old new pass at piece over lawful is (Err (faults.PastEnd end)) answer = (refl, answer.same)
old_land counts history more old new pass at piece over lawful is (Err (faults.CheckpointDue bytes)) answer = (refl, answer.same)
old_land counts history more old new pass at piece over lawful is (Err (faults.File kind)) answer = absurd (never_runs history more old pass.id pass.attempt over lawful is _ answer.0)
old_land counts history more old new pass at piece over lawful is (Err (faults.Journal kind)) answer = absurd (never_runs history more old pass.id pass.attempt over lawful is _ answer.0)
old_land counts history more old new pass at piece over lawful is (Err faults.NoMemory) answer = absurd answer
old_land counts history more old new pass at piece over lawful is (Err (faults.WrongState phase)) answer = absurd answer
old_land counts history more old new pass at piece over lawful is (Err (faults.ItemsFull count)) answer = absurd answer
old_land counts history more old new pass at piece over lawful is (Err (faults.WordTaken id)) answer = absurd answer
old_land counts history more old new pass at piece over lawful is (Err (faults.Damaged place)) answer = absurd answer
