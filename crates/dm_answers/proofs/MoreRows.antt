-- Worked rows of the calls that record, and of their refusals.
use Rattle.std.proofs.Common.{◌≡◌, inl, inr, ◌+◌, true, false, [], ◌∷◌, ◌++◌, codes, Some, None, Ok, Err, refl, arith}
use Rattle.std.proofs.lemmas.Bool.{false≢true}
use Rattle.dm_types.specs.Name.{part_name}
use Rattle.dm_types.specs.declared.address.Address.{Address}
use Rattle.dm_types.specs.declared.entry.Entry.TheVariants as entries
use Rattle.dm_types.specs.declared.item.Item.{Item}
use Rattle.dm_types.specs.declared.item.Phase.TheVariants as phases
use Rattle.dm_types.specs.declared.kinds.By.TheVariants.{User}
use Rattle.dm_types.specs.declared.reason.Reason.TheVariants as reasons
use Rattle.dm_disk_model.specs.Disk.{History as Clock}
use Rattle.dm_policy.specs.declared.cause.Cause.TheVariants as causes
use Rattle.dm_item.specs.Fields.{no_bytes}
use Rattle.dm_item.specs.Lawful.{History, KeepsHistory}
use Rattle.dm_item.specs.Row.{is_cancelled}
use Rattle.dm_store.specs.Becomes.{Recorded, lives_of, run_of}
use Rattle.dm_store.specs.View.{spelled}
use Rattle.dm_answers.specs.declared.answer.Begun.TheVariants as begun
use Rattle.dm_answers.specs.declared.answer.Told.{Told}
use Rattle.dm_answers.specs.declared.fault.DeskFault.TheVariants as faults
use Rattle.dm_answers.specs.declared.order.Taken.TheVariants.{Same}
use Rattle.dm_answers.specs.Add.{AddAnswers}
use Rattle.dm_answers.specs.Begin.{BeginAnswers}
use Rattle.dm_answers.specs.Broke.{BrokeAnswers}
use Rattle.dm_answers.specs.Change.{ChangeAnswers, in_no_phase}
use Rattle.dm_answers.specs.Checkpoint.{CheckpointAnswers}
use Rattle.dm_answers.specs.Describe.{DescribeAnswers}
use Rattle.dm_answers.specs.Finish.{FinishAnswers}
use Rattle.dm_answers.specs.Pause.{PauseAnswers, pausing}
use Rattle.dm_answers.specs.Plan.{PlanAnswers, last_round}
use Rattle.dm_answers.specs.Running.{saving}
use Rattle.dm_answers.specs.Shut.{ShutAnswers, shuts}
use Rattle.dm_answers.specs.Sweep.{IsLeftover}
use Rattle.dm_answers.proofs.Rows.{Seen, arriving, counts, desk, desk_of, item_of, life, one, strong, whole_pass}

-- the desk behind these entries
abbrev behind : Seen → History → Seen
behind old recorded = record old { items = run_of recorded old.items; lives = lives_of recorded old.items old.lives; list = old.list ++ recorded; gate = old.gate + spelled recorded }

-- where they are lawful behind each history of its items
done : (old : Seen) (recorded : History) → old.broken ≡ false → old.failed ≡ [] → KeepsHistory old.items (run_of recorded old.items) recorded → Recorded old (behind old recorded) recorded
done old recorded whole none lawful = record { whole = whole; items_are = refl; lives_are = refl; list_is = refl; lawful = lawful; may = tt; gate_is = refl; failed_is = none; broken_is = whole; origin = refl; limits = refl }

-- an item that waits, and of which nothing was told
abbrev waiting : Item
waiting = record arriving { phase = phases.Waiting; attempt = record { 0 = 0 }; begun = false; key = None; last_address = None; total = None; name = None; modified = None }

row_fresh : (tells : Type 0) (clock : Unit {0} → Clock) → KeepsHistory (desk_of 6 waiting []).items (run_of (entries.Began one (record { 0 = 1 }) User 7 ∷ []) (desk_of 6 waiting []).items) (entries.Began one (record { 0 = 1 }) User 7 ∷ [])
    → BeginAnswers tells clock counts (desk_of 6 waiting []) (behind (desk_of 6 waiting []) (entries.Began one (record { 0 = 1 }) User 7 ∷ [])) one User 7 (Ok (begun.Fresh whole_pass))
row_fresh tells clock lawful = record { item = waiting; there = refl; is = (record { may = refl; untold = refl; pass_is = refl }, done (desk_of 6 waiting []) (entries.Began one (record { 0 = 1 }) User 7 ∷ []) refl refl lawful) }

row_begins_twice : (tells : Type 0) (clock : Unit {0} → Clock) → BeginAnswers tells clock counts desk desk one User 7 (Err (faults.WrongState phases.Running))
row_begins_twice tells clock = record { whole = refl; cause = record { item = arriving; there = refl; is = (refl, refl) }; same = refl }

row_begins_none : (tells : Type 0) (clock : Unit {0} → Clock) → BeginAnswers tells clock counts desk desk (record { 0 = 9 }) User 7 (Err (faults.NoItem (record { 0 = 9 })))
row_begins_none tells clock = record { whole = refl; cause = record { is = refl; none = refl }; same = refl }

row_begins_broken : (tells : Type 0) (clock : Unit {0} → Clock) → BeginAnswers tells clock counts (record desk { broken = true }) (record desk { broken = true }) (record { 0 = 9 }) User 7 (Err faults.Broken)
row_begins_broken tells clock = record { broken = refl; same = refl }

row_told_twice : (tells : Type 0) (clock : Unit {0} → Clock) (told : Told) → DescribeAnswers tells clock counts desk desk whole_pass told (Err (faults.WrongState phases.Running))
row_told_twice tells clock told = record { whole = refl; cause = record { item = arriving; there = refl; runs = refl; attempt_is = refl; life = life; lives = refl; is = record { phase_is = refl; told = refl } }; same = refl }

row_last_round : PlanAnswers (desk_of 6 arriving (record life { round = last_round } ∷ [])) (desk_of 6 arriving (record life { round = last_round } ∷ [])) whole_pass 4 (Err (faults.WrongState phases.Running))
row_last_round = record {
  whole = refl;
  cause = record { item = arriving; there = refl; runs = refl; attempt_is = refl; life = record life { round = last_round }; lives = refl; is = record { phase_is = refl; why = inr refl } };
  same = refl;
}

row_saved : KeepsHistory desk.items (run_of (saving arriving life) desk.items) (saving arriving life) → CheckpointAnswers counts desk (behind desk (saving arriving life)) whole_pass (Ok tt)
row_saved lawful = record { item = arriving; there = refl; runs = refl; attempt_is = refl; life = life; lives = refl; is = record { saved = done desk (saving arriving life) refl refl lawful; still = λ none. absurd (omega arith) } }

row_interrupted : KeepsHistory desk.items (run_of (entries.Broke one reasons.NetworkFailed ∷ []) desk.items) (entries.Broke one reasons.NetworkFailed ∷ []) → BrokeAnswers desk (behind desk (entries.Broke one reasons.NetworkFailed ∷ [])) whole_pass causes.HeadCut (Ok tt)
row_interrupted lawful = (record { item = arriving; there = refl; runs = refl; attempt_is = refl; life = life; lives = refl; is = tt }, done desk (entries.Broke one reasons.NetworkFailed ∷ []) refl refl lawful)

row_paused : KeepsHistory desk.items (run_of (pausing arriving (Some life)) desk.items) (pausing arriving (Some life)) → PauseAnswers counts desk (behind desk (pausing arriving (Some life))) one (Ok tt)
row_paused lawful = inr (record { item = arriving; there = refl; is = (refl, done desk (pausing arriving (Some life)) refl refl lawful) })

row_paused_twice : PauseAnswers counts (desk_of 6 (item_of phases.Paused None strong no_bytes) []) (desk_of 6 (item_of phases.Paused None strong no_bytes) []) one (Ok tt)
row_paused_twice = inl (record { whole = refl; cause = record { item = item_of phases.Paused None strong no_bytes; there = refl; is = refl }; same = refl })

row_cancels_twice : ChangeAnswers is_cancelled (entries.Cancelled one) one (desk_of 6 (item_of phases.Cancelled (Some reasons.UserCanceled) strong no_bytes) []) (desk_of 6 (item_of phases.Cancelled (Some reasons.UserCanceled) strong no_bytes) []) (Ok tt)
row_cancels_twice = inl (record { whole = refl; cause = refl; same = refl })

row_removes_running : ChangeAnswers in_no_phase (entries.Removed one) one desk desk (Err (faults.WrongState phases.Running))
row_removes_running = record { whole = refl; cause = record { phase_is = refl; not_left = refl; row = λ row. false≢true row.0 }; same = refl }

row_shuts : KeepsHistory desk.items (run_of (shuts (arriving ∷ [])) desk.items) (shuts (arriving ∷ [])) → ShutAnswers desk (behind desk (shuts (arriving ∷ []))) (Ok tt)
row_shuts lawful = done desk (shuts (arriving ∷ [])) refl refl lawful

row_finishes_untold : (tells : Type 0) (clock : Unit {0} → Clock) → FinishAnswers tells clock counts (desk_of 6 (record arriving { key = None }) (life ∷ [])) (desk_of 6 (record arriving { key = None }) (life ∷ [])) whole_pass 7 (Err (faults.WrongState phases.Running))
row_finishes_untold tells clock = record {
  whole = refl;
  cause = record { item = record arriving { key = None }; there = refl; runs = refl; attempt_is = refl; life = life; lives = refl; is = record { phase_is = refl; untold = refl } };
  same = refl;
}

-- the list has room for one item
row_full : (address : Address) → AddAnswers desk desk (record { word = []; address = address; wish = []; digest = None }) 7 (Err (faults.ItemsFull 1))
row_full address = record { whole = refl; cause = record { free = tt; full = inl (omega arith); count_is = refl }; same = refl }

-- the same word and address
row_same : (address : Address) → AddAnswers (desk_of 6 (record arriving { word = codes "w1"; first_address = address.text }) []) (desk_of 6 (record arriving { word = codes "w1"; first_address = address.text }) [])
    (record { word = codes "w1"; address = address; wish = []; digest = None }) 7 (Ok (Same one))
row_same address = record {
  whole = refl;
  cause = record { named = (λ none. absurd cc, inl (refl, refl)); item = record arriving { word = codes "w1"; first_address = address.text }; there = refl; is = refl };
  same = refl;
}

-- the part of an earlier epoch is of no use, nor that of a cancelled item; that of an id that wasn't given isn't touched
row_leftover : IsLeftover (desk_of 6 (record arriving { epoch = record { 0 = 2 } }) []).items (part_name 1 1)
row_leftover = record { id = 1; epoch = 1; small = (omega arith, omega arith); is = refl; given = omega arith; outlived = inr (inr (λ same. absurd (omega arith))) }
