-- Behind an opening no attempt runs.
use Rattle.std.proofs.Common.{◌≡◌, ℕ, Bool, true, false, List, [], ◌∷◌, ◌++◌, reverse, Option, Some, None, refl, sym, ◌∙◌, ap, subst, append_assoc}
use Rattle.std.specs.Prelude.{IsTrue, option_and_then}
use Rattle.std.proofs.lemmas.Bool.{false≢true}
use Rattle.std.proofs.lemmas.List.{append-nil}
use Rattle.dm_types.specs.declared.entry.Entry.{Entry}
use Rattle.dm_types.specs.declared.entry.Entry.TheVariants as entries
use Rattle.dm_types.specs.declared.item.Item.{Item}
use Rattle.dm_types.specs.declared.item.Phase.{Phase}
use Rattle.dm_types.specs.declared.item.Phase.TheVariants as phases
use Rattle.dm_disk_model.specs.Disk.{History as Clock}
use Rattle.dm_item.specs.Fields.{id_of, is_for, is_running, stopped}
use Rattle.dm_item.specs.History.{map_some}
use Rattle.dm_item.specs.Kept.{IsNumbered}
use Rattle.dm_item.specs.Lawful.{History, IsLawful, IsLawfulBack, IsOf, items_of, left_by}
use Rattle.dm_item.specs.Listing.{Listing, Meets, applied, item_in}
use Rattle.dm_item.specs.Row.{stopped_item}
use Rattle.dm_item.proofs.Applied.{item_applied, item_beside}
use Rattle.dm_item.proofs.Basics.{some_same}
use Rattle.dm_item.proofs.Below.{effect}
use Rattle.dm_item.proofs.Shorts.{numbered_of}
use Rattle.dm_item.proofs.Steps.{left_by_step}
use Rattle.dm_kept.proofs.Histories.{reverse_push}
use Rattle.dm_store.specs.Keeps.{IsDesk}
use Rattle.dm_store.specs.Lives.{LifeOf, life_in}
use Rattle.dm_store.specs.View.{View}
use Rattle.dm_store.specs.declared.life.Life.{Life}
use Rattle.dm_answers.specs.Opening.{IsTried, reopening}
use Rattle.dm_answers.specs.Settling.{AreSettlings, Settles, finishing}
use Rattle.dm_does.specs.Laws.{NoneRuns}
use Rattle.dm_does.proofs.Behind.{lawful_front}
use Rattle.dm_list.specs.Working.{HasNoLife}

abbrev listed : History → Listing
listed h = left_by 0 (reverse h)

-- an entry that ends the phase of its item
abbrev Ends : Entry → Type 0
Ends (entries.Done id digest at) = Unit {0}
Ends (entries.Broke id reason) = Unit {0}
Ends entry = ⊥

abbrev AllEnd : History → Type 0
AllEnd [] = Unit {0}
AllEnd (entry ∷ more) = Ends entry × AllEnd more

settles_end : (at : ℕ) (item : Item) (entry : Entry) → Settles at item entry → Ends entry
settles_end at item (entries.Done id digest moment) settles = tt
settles_end at item (entries.Broke id reason) settles = tt
settles_end at item entry settles = absurd settles

all_end : (tells : Type 0) (start end : Clock) (at : ℕ) (items : List Item) (settled : History) (left : List Item) → AreSettlings tells start end at items settled left → AllEnd settled
all_end tells start end at items [] left are = tt
all_end tells start end at [] (entry ∷ more) left are = absurd are
all_end tells start end at (item ∷ rest) (entry ∷ more) left are = (settles_end at item entry are.0.settles, all_end tells start end at rest more left are.1)

-- One more entry.

last_of : (h : History) (e : Entry) → IsLawful (h ++ e ∷ []) → Meets (listed h) e × IsLawful h
last_of h e lawful = subst IsLawfulBack (reverse_push h e) lawful

listed_more : (h : History) (e : Entry) → IsLawful h → Meets (listed h) e → listed (h ++ e ∷ []) ≡ applied e (listed h)
listed_more h e lawful meets = ap (left_by 0) (reverse_push h e) ∙ left_by_step 0 e (reverse h) lawful meets

stopped_runs : (phase : Phase) → is_running (stopped phase) ≡ false
stopped_runs phases.Waiting = refl
stopped_runs phases.Running = refl
stopped_runs phases.Paused = refl
stopped_runs phases.Finishing = refl
stopped_runs phases.Complete = refl
stopped_runs phases.Cancelled = refl
stopped_runs (phases.Interrupted reason) = refl

stopped_none : (found : Option Item) (item : Item) → map_some stopped_item found ≡ Some item → is_running item.phase ≡ false
stopped_none None item is = absurd (cc)
stopped_none (Some one) item is = subst (λ (i : Item). is_running i.phase ≡ false) (some_same is) (stopped_runs one.phase)

ended_none : (e : Entry) → Ends e → (found : Option Item) (item : Item) → option_and_then (effect e) found ≡ Some item → is_running item.phase ≡ false
ended_none e ends None item is = absurd (cc)
ended_none (entries.Done id digest at) ends (Some one) item is = subst (λ (i : Item). is_running i.phase ≡ false) (some_same is) refl
ended_none (entries.Broke id reason) ends (Some one) item is = subst (λ (i : Item). is_running i.phase ≡ false) (some_same is) refl
ended_none e ends (Some one) item is = absurd ends

module _ (h : History) (lawful : IsLawful h) where
  numbered : IsNumbered 1 (listed h).items (listed h).next
  numbered = numbered_of h (listed h) (record { lawful = lawful; value = refl })

  pub none_opened : (next at : ℕ) → Meets (listed h) (entries.Reopened next at) → NoneRuns (applied (entries.Reopened next at) (listed h)).items
  none_opened next at meets id item there = stopped_none (item_in id (listed h).items) item (sym (item_applied (entries.Reopened next at) (listed h) id numbered meets refl) ∙ there)

  by_id : (e : Entry) → Ends e → Meets (listed h) e → NoneRuns (listed h).items → (id : ℕ) (item : Item) (own : Bool) → is_for id (id_of e) ≡ own → item_in id (applied e (listed h)).items ≡ Some item → is_running item.phase ≡ false
  by_id (entries.Done one digest at) ends meets none id item true own there =
      ended_none (entries.Done one digest at) ends (item_in id (listed h).items) item (sym (item_applied (entries.Done one digest at) (listed h) id numbered meets own) ∙ there)
  by_id (entries.Broke one reason) ends meets none id item true own there =
      ended_none (entries.Broke one reason) ends (item_in id (listed h).items) item (sym (item_applied (entries.Broke one reason) (listed h) id numbered meets own) ∙ there)
  by_id e ends meets none id item false own there = none id item (sym (item_beside e (listed h) id own) ∙ there)
  by_id e ends meets none id item true own there = absurd ends

  none_one : (e : Entry) → Ends e → Meets (listed h) e → NoneRuns (listed h).items → NoneRuns (applied e (listed h)).items
  none_one e ends meets none id item there = by_id e ends meets none id item (is_for id (id_of e)) refl there

none_all : (h more : History) → IsLawful (h ++ more) → NoneRuns (items_of h) → AllEnd more → NoneRuns (items_of (h ++ more))
none_all h [] lawful none ends = subst (λ (x : History). NoneRuns (items_of x)) (sym (append-nil h)) none
none_all h (e ∷ more) lawful none ends =
    let longer : IsLawful ((h ++ e ∷ []) ++ more) = subst IsLawful (sym (append_assoc h (e ∷ []) more)) lawful in
    let last = last_of h e (lawful_front (h ++ e ∷ []) more longer) in
    let here : NoneRuns (items_of (h ++ e ∷ [])) = subst (λ (v : Listing). NoneRuns v.items) (sym (listed_more h e last.1 last.0)) (none_one h last.1 e ends.0 last.0 none) in
    subst (λ (x : History). NoneRuns (items_of x)) (append_assoc h (e ∷ []) more) (none_all (h ++ e ∷ []) more longer here ends.1)

none_behind : (found : History) (next at : ℕ) (settled : History) → IsLawful (found ++ (entries.Reopened next at ∷ settled)) → AllEnd settled → NoneRuns (items_of (found ++ (entries.Reopened next at ∷ settled)))
none_behind found next at settled lawful ends =
    let longer : IsLawful ((found ++ entries.Reopened next at ∷ []) ++ settled) = subst IsLawful (sym (append_assoc found (entries.Reopened next at ∷ []) settled)) lawful in
    let last = last_of found (entries.Reopened next at) (lawful_front (found ++ entries.Reopened next at ∷ []) settled longer) in
    let here : NoneRuns (items_of (found ++ entries.Reopened next at ∷ [])) =
    subst (λ (v : Listing). NoneRuns v.items) (sym (listed_more found (entries.Reopened next at) last.1 last.0)) (none_opened found last.1 next at last.0) in
    subst (λ (x : History). NoneRuns (items_of x)) (append_assoc found (entries.Reopened next at ∷ []) settled) (none_all (found ++ entries.Reopened next at ∷ []) settled longer here ends)

-- no item of the list runs that an opening left
pub none_runs : (tells : Type 0) (start end : Clock) (at : ℕ) (found tried : History) (left : List Item) (items : Listing) → IsTried tells start end at found tried left → IsOf (found ++ tried) items → NoneRuns items.items
none_runs tells start end at found tried left items is of =
    let lawful : IsLawful (found ++ (reopening found at ++ is.settled)) = subst (λ (h : History). IsLawful (found ++ h)) is.tried_is of.lawful in
    subst NoneRuns (sym (ap (λ (v : Listing). v.items) of.value))
    (subst (λ (h : History). NoneRuns (items_of (found ++ h))) (sym is.tried_is)
    (none_behind found (next_of_found) at is.settled lawful (all_end tells start end at (finishing (items_of (found ++ reopening found at))) is.settled left is.settles)))
  where
    next_of_found : ℕ
    next_of_found = (left_by 0 (reverse found)).next

-- so no attempt lives
life_by : (found : Option Item) (life : Option Life) → LifeOf found life → ((item : Item) → found ≡ Some item → is_running item.phase ≡ false) → life ≡ None
life_by None None of none = refl
life_by None (Some life) of none = absurd of
life_by (Some item) None of none = refl
life_by (Some item) (Some life) of none = absurd (false≢true (sym (none item refl) ∙ of.runs))

pub no_life : {D O : Type 0} (tells : Type 0) (clock : D → Clock) (desk : View D O) → IsDesk tells clock desk → desk.broken ≡ false → NoneRuns desk.items.items → HasNoLife desk
no_life tells clock desk is whole none id = life_by (item_in id desk.items.items) (life_in id desk.lives) (is.lives whole id) (none id)
