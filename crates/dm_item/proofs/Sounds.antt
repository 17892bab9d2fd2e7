-- Each row keeps its item sound.
use Rattle.std.proofs.Common.{◌≡◌, ◌≢◌, ℕ, ◌+◌, ◌^◌, ◌≤◌, ◌⊎◌, List, [], ◌∷◌, cond, true, false, Bool, not, ◌||◌, Option, Some, None, inl, inr, refl, ap, sym, subst, ◌∙◌, arith}
use Rattle.std.specs.Prelude.{is_some, IfSome}
use Rattle.std.proofs.lemmas.Bool.{false≢true}
use Rattle.dm_types.specs.declared.item.Item.{Item}
use Rattle.dm_types.specs.declared.item.ItemId.{ItemId}
use Rattle.dm_types.specs.declared.item.Attempt.{Attempt}
use Rattle.dm_types.specs.declared.item.Epoch.{Epoch}
use Rattle.dm_types.specs.declared.item.Key.{Key}
use Rattle.dm_types.specs.declared.item.Phase.{Phase}
use Rattle.dm_types.specs.declared.item.Phase.TheVariants as phases
use Rattle.dm_types.specs.declared.slices.Slice.{Slice}
use Rattle.dm_types.specs.declared.kinds.By.{By}
use Rattle.dm_types.specs.declared.kinds.By.TheVariants.{User, Itself}
use Rattle.dm_types.specs.declared.kinds.Mode.{Mode}
use Rattle.dm_types.specs.declared.kinds.Mode.TheVariants as modes
use Rattle.dm_types.specs.declared.reason.Reason.{Reason}
use Rattle.dm_types.specs.declared.reason.Reason.TheVariants as reasons
use Rattle.dm_types.specs.declared.entry.Entry.{Entry}
use Rattle.dm_types.specs.declared.entry.Entry.TheVariants as entries
use Rattle.dm_policy.specs.declared.mode.ModeFacts.{ModeFacts}
use Rattle.dm_policy.specs.Mode.{asked_mode, asks_user, by_user, can_continue, from_start, is_invalid, is_last_attempt, mode_by, placed_mode}
use Rattle.dm_slice.specs.Words.{IsNormal, IsWithin, cover_end}
use Rattle.dm_item.proofs.Basics.{none_some, some_same}
use Rattle.dm_item.specs.Fields.{added_item, is_gone, is_running, no_bytes, stopped}
use Rattle.dm_item.specs.Row.{Further, IsBegun, IsDescribed, IsFinishing, IsProgress, IsRestarted, IsTotalOf, allows, begins_in, changed, described_item, facts_of, is_cancelled, is_complete, is_finishing, is_interrupted, is_paused, is_waiting, mode_in, mode_of_item, restarted_item, stopped_item, stopped_reason}
use Rattle.dm_item.specs.Restored.{IsCovered, IsDigestOf, IsReasonOf, IsSound}

-- whether a mode is invalid rests on the attempt and the reason alone

invalid-by_user : (mode : Mode) → is_invalid (by_user mode) ≡ is_invalid mode
invalid-by_user modes.Invalid = refl
invalid-by_user modes.ImmediateContinue = refl
invalid-by_user modes.ImmediateRestart = refl
invalid-by_user modes.UserContinue = refl
invalid-by_user modes.UserRestart = refl

invalid-from_start : (mode : Mode) → is_invalid (from_start mode) ≡ is_invalid mode
invalid-from_start modes.Invalid = refl
invalid-from_start modes.ImmediateContinue = refl
invalid-from_start modes.ImmediateRestart = refl
invalid-from_start modes.UserContinue = refl
invalid-from_start modes.UserRestart = refl

invalid-placed : (can : Bool) (mode : Mode) → is_invalid (cond can mode (from_start mode)) ≡ is_invalid mode
invalid-placed true mode = refl
invalid-placed false mode = invalid-from_start mode

invalid-asked : (asks : Bool) (mode : Mode) → is_invalid (cond asks (by_user mode) mode) ≡ is_invalid mode
invalid-asked true mode = invalid-by_user mode
invalid-asked false mode = refl

invalid-last : (last : Bool) (mode : Mode) → is_invalid (cond last modes.Invalid mode) ≡ last || is_invalid mode
invalid-last true mode = refl
invalid-last false mode = refl

pub invalid-mode_by : (reason : Option Reason) (facts : ModeFacts) → is_invalid (mode_by reason facts) ≡ is_last_attempt facts || is_invalid (asked_mode reason)
invalid-mode_by reason facts =
    invalid-last (is_last_attempt facts) _
    ∙ ap (λ (b : Bool). is_last_attempt facts || b) (invalid-asked (asks_user facts) (placed_mode reason facts) ∙ invalid-placed (can_continue facts) (asked_mode reason))

mode-waiting : (phase : Phase) (mode : Mode) → is_waiting phase ≡ true → mode_in phase mode ≡ mode
mode-waiting phases.Waiting mode waits = refl
mode-waiting phases.Running mode waits = absurd (false≢true waits)
mode-waiting phases.Paused mode waits = absurd (false≢true waits)
mode-waiting phases.Finishing mode waits = absurd (false≢true waits)
mode-waiting phases.Complete mode waits = absurd (false≢true waits)
mode-waiting phases.Cancelled mode waits = absurd (false≢true waits)
mode-waiting (phases.Interrupted why) mode waits = absurd (false≢true waits)

-- an item that waits may go on where its reason's row lets it
abbrev MayGo : Item → Bool
MayGo item = is_last_attempt (facts_of item) || is_invalid (asked_mode item.reason)

waiting-mode : (item : Item) → is_waiting item.phase ≡ true → is_invalid (mode_of_item item) ≡ MayGo item
waiting-mode item waits = ap is_invalid (mode-waiting item.phase (mode_by item.reason (facts_of item)) waits) ∙ invalid-mode_by item.reason (facts_of item)

-- phases exclude one another
run_wait : (phase : Phase) → is_running phase ≡ true → is_waiting phase ≡ true → ⊥
run_wait phases.Waiting run waits = false≢true run
run_wait phases.Running run waits = false≢true waits
run_wait phases.Paused run waits = false≢true run
run_wait phases.Finishing run waits = false≢true run
run_wait phases.Complete run waits = false≢true run
run_wait phases.Cancelled run waits = false≢true run
run_wait (phases.Interrupted why) run waits = false≢true run

run_finish : (phase : Phase) → is_running phase ≡ true → (is_finishing phase || is_complete phase) ≡ true → ⊥
run_finish phases.Waiting run done = false≢true run
run_finish phases.Running run done = false≢true done
run_finish phases.Paused run done = false≢true run
run_finish phases.Finishing run done = false≢true run
run_finish phases.Complete run done = false≢true run
run_finish phases.Cancelled run done = false≢true run
run_finish (phases.Interrupted why) run done = false≢true run

run_complete : (phase : Phase) → is_running phase ≡ true → is_complete phase ≡ false
run_complete phases.Waiting run = refl
run_complete phases.Running run = refl
run_complete phases.Paused run = refl
run_complete phases.Finishing run = refl
run_complete phases.Complete run = absurd (false≢true run)
run_complete phases.Cancelled run = refl
run_complete (phases.Interrupted why) run = refl

-- an entry that changes an item
abbrev pub changes : Entry → Bool
changes (entries.Added id word address wish digest at) = false
changes (entries.Reopened next at) = false
changes (entries.Restored item) = false
changes _ = true

begins_not : (by : By) (phase : Phase) → is_waiting phase ≡ false → is_interrupted phase ≡ false → begins_in by phase ≡ true → ⊥
begins_not User phase waits breaks may = false≢true (sym waits ∙ may)
begins_not Itself phase waits breaks may = false≢true (sym breaks ∙ may)

pub never_complete : (e : Entry) → allows e phases.Complete ≡ true → is_gone e ≡ false → changes e ≡ true → ⊥
never_complete (entries.Added id word address wish digest at) may stays does = false≢true does
never_complete (entries.Began id attempt by at) may stays does = begins_not by phases.Complete refl refl may
never_complete (entries.Described id key last_address total name modified) may stays does = false≢true may
never_complete (entries.Progress id slices) may stays does = false≢true may
never_complete (entries.Broke id why) may stays does = false≢true may
never_complete (entries.Paused id) may stays does = false≢true may
never_complete (entries.Cancelled id) may stays does = false≢true may
never_complete (entries.Restarted id epoch because) may stays does = false≢true may
never_complete (entries.Finishing id total) may stays does = false≢true may
never_complete (entries.Done id digest at) may stays does = false≢true may
never_complete (entries.Removed id) may stays does = false≢true (sym stays)
never_complete (entries.Archived id) may stays does = false≢true (sym stays)
never_complete (entries.Reopened next at) may stays does = false≢true does
never_complete (entries.Restored other) may stays does = false≢true does
never_complete (entries.Asked id) may stays does = false≢true may

never_cancelled : (e : Entry) → allows e phases.Cancelled ≡ true → is_gone e ≡ false → changes e ≡ true → ⊥
never_cancelled (entries.Added id word address wish digest at) may stays does = false≢true does
never_cancelled (entries.Began id attempt by at) may stays does = begins_not by phases.Cancelled refl refl may
never_cancelled (entries.Described id key last_address total name modified) may stays does = false≢true may
never_cancelled (entries.Progress id slices) may stays does = false≢true may
never_cancelled (entries.Broke id why) may stays does = false≢true may
never_cancelled (entries.Paused id) may stays does = false≢true may
never_cancelled (entries.Cancelled id) may stays does = false≢true may
never_cancelled (entries.Restarted id epoch because) may stays does = false≢true may
never_cancelled (entries.Finishing id total) may stays does = false≢true may
never_cancelled (entries.Done id digest at) may stays does = false≢true may
never_cancelled (entries.Removed id) may stays does = false≢true (sym stays)
never_cancelled (entries.Archived id) may stays does = false≢true (sym stays)
never_cancelled (entries.Reopened next at) may stays does = false≢true does
never_cancelled (entries.Restored other) may stays does = false≢true does
never_cancelled (entries.Asked id) may stays does = false≢true may

-- the reason of a phase that may be paused or asked for isn't the user's cancel
kept_reason : (phase : Phase) (reason : Option Reason) → is_cancelled phase ≡ false → IsReasonOf phase reason → reason ≢ Some reasons.UserCanceled
kept_reason phases.Waiting reason lives is = is
kept_reason phases.Running reason lives is = λ cancels. none_some (sym is ∙ cancels)
kept_reason phases.Paused reason lives is = is
kept_reason phases.Finishing reason lives is = λ cancels. none_some (sym is ∙ cancels)
kept_reason phases.Complete reason lives is = λ cancels. none_some (sym is ∙ cancels)
kept_reason phases.Cancelled reason lives is = absurd (false≢true (sym lives))
kept_reason (phases.Interrupted why) reason lives is = λ cancels. is.1 (some_same (sym is.0 ∙ cancels))

running_reason : (phase : Phase) (reason : Option Reason) → is_running phase ≡ true → IsReasonOf phase reason → reason ≡ None
running_reason phases.Running reason run is = is
running_reason phases.Waiting reason run is = absurd (false≢true run)
running_reason phases.Paused reason run is = absurd (false≢true run)
running_reason phases.Finishing reason run is = absurd (false≢true run)
running_reason phases.Complete reason run is = absurd (false≢true run)
running_reason phases.Cancelled reason run is = absurd (false≢true run)
running_reason (phases.Interrupted why) reason run is = absurd (false≢true run)

finishing_reason : (phase : Phase) (reason : Option Reason) → is_finishing phase ≡ true → IsReasonOf phase reason → reason ≡ None
finishing_reason phases.Finishing reason ends is = is
finishing_reason phases.Waiting reason ends is = absurd (false≢true ends)
finishing_reason phases.Running reason ends is = absurd (false≢true ends)
finishing_reason phases.Paused reason ends is = absurd (false≢true ends)
finishing_reason phases.Complete reason ends is = absurd (false≢true ends)
finishing_reason phases.Cancelled reason ends is = absurd (false≢true ends)
finishing_reason (phases.Interrupted why) reason ends is = absurd (false≢true ends)

-- the entries that change an item come in no complete and no cancelled phase
pub stays_open : (e : Entry) (phase : Phase) → allows e phase ≡ true → is_gone e ≡ false → changes e ≡ true → (is_complete phase ≡ false) × (is_cancelled phase ≡ false)
stays_open e phases.Waiting may stays does = (refl, refl)
stays_open e phases.Running may stays does = (refl, refl)
stays_open e phases.Paused may stays does = (refl, refl)
stays_open e phases.Finishing may stays does = (refl, refl)
stays_open e (phases.Interrupted reason) may stays does = (refl, refl)
stays_open e phases.Complete may stays does = absurd (never_complete e may stays does)
stays_open e phases.Cancelled may stays does = absurd (never_cancelled e may stays does)

-- what is kept of a digest where the phase isn't complete
no_have : (complete : Bool) (digest have : Option (List ℕ)) → complete ≡ false → IsDigestOf complete digest have → is_some have ≡ false
no_have true digest have lives is = absurd (false≢true (sym lives))
no_have false digest have lives is = is

-- covers
no_bytes_covered : (total : Option ℕ) → IfSome total (λ bytes. bytes ≤ 2 ^ 40) → IsCovered total no_bytes
no_bytes_covered None small = record { small = small; normal = inr (refl, tt, (refl, tt)); greatest = (omega arith, tt); within = tt }
no_bytes_covered (Some total) small = record { small = small; normal = inr (refl, tt, (refl, tt)); greatest = (omega arith, tt); within = (omega arith, tt) }

end-within : (bound : ℕ) (slices : List Slice) → IsWithin bound slices → cover_end slices ≤ bound
end-within bound [] within = omega arith
end-within bound (slice ∷ rest) within = let later = end-within bound rest within.1 in let own = within.0 in omega arith

within-more : (low high : ℕ) (slices : List Slice) → low ≤ high → IsWithin low slices → IsWithin high slices
within-more low high [] more within = tt
within-more low high (slice ∷ rest) more within = let own = within.0 in (omega arith, within-more low high rest more within.1)

within-end : (slices : List Slice) → IsWithin (cover_end slices) slices
within-end [] = tt
within-end (slice ∷ rest) = (omega arith, within-more (cover_end rest) (cover_end (slice ∷ rest)) rest (omega arith) (within-end rest))

either_same : (slices : List Slice) → IsNormal None slices ⊎ IsNormal None slices → IsNormal None slices
either_same slices (inl normal) = normal
either_same slices (inr normal) = normal

finished_covered : (known : Option ℕ) (slices : List Slice) (total : ℕ) → IsCovered known slices → IsTotalOf known slices total → IsCovered (Some total) slices
finished_covered None slices total covered is =
    let low = end-within (2 ^ 40) slices covered.greatest in
    record {
      small = omega arith;
      normal = inr (either_same slices covered.normal);
      greatest = covered.greatest;
      within = subst (λ (n : ℕ). IsWithin n slices) (sym is) (within-end slices);
    }
finished_covered (Some known) slices total covered is = subst (λ (n : ℕ). IsCovered (Some n) slices) (sym is) covered

counted_more : (begun : Bool) (epoch attempt next : ℕ) → epoch ≤ attempt + cond begun 0 1 → next ≡ attempt + 1 → epoch ≤ next + 0
counted_more true epoch attempt next below is = omega arith
counted_more false epoch attempt next below is = omega arith

wait_run : (phase : Phase) → (is_waiting phase || is_interrupted phase) ≡ true → is_running phase ≡ true → ⊥
wait_run phases.Waiting may run = false≢true run
wait_run phases.Running may run = false≢true may
wait_run phases.Paused may run = false≢true may
wait_run phases.Finishing may run = false≢true may
wait_run phases.Complete may run = false≢true may
wait_run phases.Cancelled may run = false≢true may
wait_run (phases.Interrupted why) may run = false≢true run

wait_finish : (phase : Phase) → (is_waiting phase || is_interrupted phase) ≡ true → (is_finishing phase || is_complete phase) ≡ true → ⊥
wait_finish phases.Waiting may done = false≢true done
wait_finish phases.Running may done = false≢true may
wait_finish phases.Paused may done = false≢true may
wait_finish phases.Finishing may done = false≢true may
wait_finish phases.Complete may done = false≢true may
wait_finish phases.Cancelled may done = false≢true may
wait_finish (phases.Interrupted why) may done = false≢true done

asked-phase : (phase : Phase) (mode : Mode) → (is_paused phase || is_interrupted phase) ≡ true → mode_in phase mode ≡ mode
asked-phase phases.Paused mode may = refl
asked-phase (phases.Interrupted why) mode may = refl
asked-phase phases.Waiting mode may = absurd (false≢true may)
asked-phase phases.Running mode may = absurd (false≢true may)
asked-phase phases.Finishing mode may = absurd (false≢true may)
asked-phase phases.Complete mode may = absurd (false≢true may)
asked-phase phases.Cancelled mode may = absurd (false≢true may)

asked-mode : (item : Item) → (is_paused item.phase || is_interrupted item.phase) ≡ true → is_invalid (mode_of_item item) ≡ MayGo item
asked-mode item may = ap is_invalid (asked-phase item.phase (mode_by item.reason (facts_of item)) may) ∙ invalid-mode_by item.reason (facts_of item)

-- the rows
module _ (item : Item) (sound : IsSound item) where
  sound-began : (id : ItemId) (attempt : Attempt) (by : By) (at : ℕ) → begins_in by item.phase ≡ true → IsBegun item attempt.0 by → IsSound (changed (entries.Began id attempt by at) item)
  sound-began id attempt by at may further =
      record {
        covered = sound.covered;
        told = record { has_address = sound.told.has_address; has_name = sound.told.has_name; has_modified = sound.told.has_modified; is_begun = λ key. refl; untold = sound.told.untold };
        reason = refl;
        mode = λ waits. absurd (false≢true waits);
        counted = record { running = λ run. refl; epoch_low = sound.counted.epoch_low; epoch_high = counted_more item.begun item.epoch.0 item.attempt.0 attempt.0 sound.counted.epoch_high further.next };
        whole = λ done. absurd (false≢true done);
        digest = no_have (is_complete item.phase) item.digest item.have (stays_open (entries.Began id attempt by at) item.phase may refl refl).0 sound.digest;
      }

  sound-described : (key : Key) (last_address : List ℕ) (total : Option ℕ) (name modified : List ℕ) (items : List Item) → is_running item.phase ≡ true → IsDescribed items item key total name → IsSound (described_item key last_address total name modified item)
  sound-described key last_address total name modified items run further =
      let bare = sound.told.untold (ap is_some further.no_key) in
      record {
        covered = subst (IsCovered total) (sym bare.1) (no_bytes_covered total further.small);
        told = record { has_address = refl; has_name = refl; has_modified = refl; is_begun = λ told. sound.counted.running run; untold = λ none. absurd (false≢true (sym none)) };
        reason = sound.reason;
        mode = λ waits. absurd (run_wait item.phase run waits);
        counted = sound.counted;
        whole = λ done. absurd (run_finish item.phase run done);
        digest = sound.digest;
      }

  sound-progress : (slices : List Slice) → is_running item.phase ≡ true → IsProgress item slices → IsSound (record item { slices = slices })
  sound-progress slices run further =
      record {
        covered = record { small = sound.covered.small; normal = inl further.cover.normal; greatest = further.cover.greatest; within = further.cover.within };
        told = record { has_address = sound.told.has_address; has_name = sound.told.has_name; has_modified = sound.told.has_modified; is_begun = sound.told.is_begun; untold = λ none. absurd (false≢true (sym none ∙ further.has_key)) };
        reason = sound.reason;
        mode = λ waits. absurd (run_wait item.phase run waits);
        counted = sound.counted;
        whole = λ done. absurd (run_finish item.phase run done);
        digest = sound.digest;
      }

  -- a phase that only stops the item
  sound-stop : (phase : Phase) (reason : Option Reason) → is_running phase ≡ false → is_waiting phase ≡ false → (is_finishing phase || is_complete phase) ≡ false → is_complete phase ≡ false → is_complete item.phase ≡ false → IsReasonOf phase reason → IsSound (record item { phase = phase; reason = reason })
  sound-stop phase reason no_run no_wait no_end no_complete lives is =
      record {
        covered = sound.covered;
        told = sound.told;
        reason = is;
        mode = λ waits. absurd (false≢true (sym no_wait ∙ waits));
        counted = record { running = λ run. absurd (false≢true (sym no_run ∙ run)); epoch_low = sound.counted.epoch_low; epoch_high = sound.counted.epoch_high };
        whole = λ done. absurd (false≢true (sym no_end ∙ done));
        digest = subst (λ (b : Bool). IsDigestOf b item.digest item.have) (sym no_complete) (no_have (is_complete item.phase) item.digest item.have lives sound.digest);
      }

  sound-restarted : (epoch : Epoch) (because : ℕ) → (is_waiting item.phase || is_interrupted item.phase) ≡ true → IsRestarted item epoch.0 because → IsSound (restarted_item epoch item)
  sound-restarted epoch because may further =
      record {
        covered = no_bytes_covered None tt;
        told = record { has_address = refl; has_name = refl; has_modified = refl; is_begun = λ told. absurd (false≢true told); untold = λ none. (refl, refl) };
        reason = sound.reason;
        mode = λ waits. waiting-mode (restarted_item epoch item) waits ∙ sym (waiting-mode item waits) ∙ sound.mode waits;
        counted = record {
          running = λ run. absurd (wait_run item.phase may run);
          epoch_low = let next = further.next in omega arith;
          epoch_high = let next = further.next in let high = subst (λ (b : Bool). item.epoch.0 ≤ item.attempt.0 + cond b 0 1) further.begun sound.counted.epoch_high in omega arith;
        };
        whole = λ done. absurd (wait_finish item.phase may done);
        digest = sound.digest;
      }

  sound-finishing : (total : ℕ) → is_running item.phase ≡ true → IsFinishing item total → IsSound (record item { phase = phases.Finishing; total = Some total })
  sound-finishing total run further =
      record {
        covered = finished_covered item.total item.slices total sound.covered further.total_is;
        told = record { has_address = sound.told.has_address; has_name = sound.told.has_name; has_modified = sound.told.has_modified; is_begun = sound.told.is_begun; untold = λ none. absurd (false≢true (sym none ∙ further.has_key)) };
        reason = running_reason item.phase item.reason run sound.reason;
        mode = λ waits. absurd (false≢true waits);
        counted = record { running = λ no_run. absurd (false≢true no_run); epoch_low = sound.counted.epoch_low; epoch_high = sound.counted.epoch_high };
        whole = λ done. record { has_key = further.has_key; full = further.full };
        digest = no_have (is_complete item.phase) item.digest item.have (run_complete item.phase run) sound.digest;
      }

  sound-done : (digest : List ℕ) (at : ℕ) → is_finishing item.phase ≡ true → IfSome item.digest (λ stated. stated ≡ digest) → IsSound (record item { phase = phases.Complete; have = Some digest; at_ms = at })
  sound-done digest at ends stated =
      record {
        covered = sound.covered;
        told = sound.told;
        reason = finishing_reason item.phase item.reason ends sound.reason;
        mode = λ waits. absurd (false≢true waits);
        counted = record { running = λ no_run. absurd (false≢true no_run); epoch_low = sound.counted.epoch_low; epoch_high = sound.counted.epoch_high };
        whole = λ done. sound.whole (ap (λ (b : Bool). b || is_complete item.phase) ends);
        digest = stated;
      }

  sound-asked : (is_paused item.phase || is_interrupted item.phase) ≡ true → is_complete item.phase ≡ false → is_cancelled item.phase ≡ false → is_invalid (mode_of_item item) ≡ false → IsSound (record item { phase = phases.Waiting })
  sound-asked may lives alive valid =
      record {
        covered = sound.covered;
        told = sound.told;
        reason = kept_reason item.phase item.reason alive sound.reason;
        mode = λ waits. waiting-mode (record item { phase = phases.Waiting }) refl ∙ sym (asked-mode item may) ∙ valid;
        counted = record { running = λ run. absurd (false≢true run); epoch_low = sound.counted.epoch_low; epoch_high = sound.counted.epoch_high };
        whole = λ done. absurd (false≢true done);
        digest = no_have (is_complete item.phase) item.digest item.have lives sound.digest;
      }

not_false : (b : Bool) → not b ≡ true → b ≡ false
not_false true is = absurd (false≢true is)
not_false false is = refl

-- each row keeps its item sound
pub sound-changed : (e : Entry) (items : List Item) (item : Item) → IsSound item → allows e item.phase ≡ true → is_gone e ≡ false → changes e ≡ true → Further e items item → IsSound (changed e item)
sound-changed (entries.Added id word address wish digest at) items item sound may stays does further = absurd (false≢true does)
sound-changed (entries.Began id attempt by at) items item sound may stays does further = sound-began item sound id attempt by at may further
sound-changed (entries.Described id key last_address total name modified) items item sound may stays does further = sound-described item sound key last_address total name modified items may further
sound-changed (entries.Progress id slices) items item sound may stays does further = sound-progress item sound slices may further
sound-changed (entries.Broke id why) items item sound may stays does further = sound-stop item sound (phases.Interrupted why) (Some why) refl refl refl refl (stays_open (entries.Broke id why) item.phase may refl refl).0 (refl, further.0)
sound-changed (entries.Paused id) items item sound may stays does further = let lives = stays_open (entries.Paused id) item.phase may refl refl in sound-stop item sound phases.Paused item.reason refl refl refl refl lives.0 (kept_reason item.phase item.reason lives.1 sound.reason)
sound-changed (entries.Cancelled id) items item sound may stays does further = sound-stop item sound phases.Cancelled (Some reasons.UserCanceled) refl refl refl refl (stays_open (entries.Cancelled id) item.phase may refl refl).0 refl
sound-changed (entries.Restarted id epoch because) items item sound may stays does further = sound-restarted item sound epoch because may further
sound-changed (entries.Finishing id total) items item sound may stays does further = sound-finishing item sound total may further
sound-changed (entries.Done id digest at) items item sound may stays does further = sound-done item sound digest at may further
sound-changed (entries.Removed id) items item sound may stays does further = absurd (false≢true (sym stays))
sound-changed (entries.Archived id) items item sound may stays does further = absurd (false≢true (sym stays))
sound-changed (entries.Reopened next at) items item sound may stays does further = absurd (false≢true does)
sound-changed (entries.Restored other) items item sound may stays does further = absurd (false≢true does)
sound-changed (entries.Asked id) items item sound may stays does further = let lives = stays_open (entries.Asked id) item.phase may refl refl in sound-asked item sound may lives.0 lives.1 (not_false (is_invalid (mode_of_item item)) further)

-- a new item
pub sound-added : (id : ItemId) (word address wish : List ℕ) (digest : Option (List ℕ)) (at : ℕ) → IsSound (added_item id word address wish digest at)
sound-added id word address wish digest at =
    record {
      covered = no_bytes_covered None tt;
      told = record { has_address = refl; has_name = refl; has_modified = refl; is_begun = λ told. absurd (false≢true told); untold = λ none. (refl, refl) };
      reason = λ cancels. none_some cancels;
      mode = λ waits. refl;
      counted = record { running = λ run. absurd (false≢true run); epoch_low = omega arith; epoch_high = omega arith };
      whole = λ done. absurd (false≢true done);
      digest = refl;
    }

reason_apart : reasons.Crash ≡ reasons.UserCanceled → ⊥
reason_apart same = cc

-- an item that the program left
stopped_why : (phase : Phase) (reason : Option Reason) → IsReasonOf phase reason → IsReasonOf (stopped phase) (stopped_reason phase reason)
stopped_why phases.Running reason is = (refl, λ same. reason_apart same)
stopped_why phases.Waiting reason is = is
stopped_why phases.Paused reason is = is
stopped_why phases.Finishing reason is = is
stopped_why phases.Complete reason is = is
stopped_why phases.Cancelled reason is = is
stopped_why (phases.Interrupted why) reason is = is

stopped_run : (phase : Phase) → is_running (stopped phase) ≡ true → ⊥
stopped_run phases.Running run = false≢true run
stopped_run phases.Waiting run = false≢true run
stopped_run phases.Paused run = false≢true run
stopped_run phases.Finishing run = false≢true run
stopped_run phases.Complete run = false≢true run
stopped_run phases.Cancelled run = false≢true run
stopped_run (phases.Interrupted why) run = false≢true run

stopped_done : (phase : Phase) → (is_finishing (stopped phase) || is_complete (stopped phase)) ≡ (is_finishing phase || is_complete phase)
stopped_done phases.Running = refl
stopped_done phases.Waiting = refl
stopped_done phases.Paused = refl
stopped_done phases.Finishing = refl
stopped_done phases.Complete = refl
stopped_done phases.Cancelled = refl
stopped_done (phases.Interrupted why) = refl

stopped_complete : (phase : Phase) → is_complete (stopped phase) ≡ is_complete phase
stopped_complete phases.Running = refl
stopped_complete phases.Waiting = refl
stopped_complete phases.Paused = refl
stopped_complete phases.Finishing = refl
stopped_complete phases.Complete = refl
stopped_complete phases.Cancelled = refl
stopped_complete (phases.Interrupted why) = refl

pub stopped_cancelled : (phase : Phase) → is_cancelled (stopped phase) ≡ is_cancelled phase
stopped_cancelled phases.Running = refl
stopped_cancelled phases.Waiting = refl
stopped_cancelled phases.Paused = refl
stopped_cancelled phases.Finishing = refl
stopped_cancelled phases.Complete = refl
stopped_cancelled phases.Cancelled = refl
stopped_cancelled (phases.Interrupted why) = refl

stopped_waits : (phase : Phase) (reason : Option Reason) → is_waiting (stopped phase) ≡ true → (is_waiting phase ≡ true) × (stopped_reason phase reason ≡ reason)
stopped_waits phases.Waiting reason waits = (refl, refl)
stopped_waits phases.Running reason waits = absurd (false≢true waits)
stopped_waits phases.Paused reason waits = absurd (false≢true waits)
stopped_waits phases.Finishing reason waits = absurd (false≢true waits)
stopped_waits phases.Complete reason waits = absurd (false≢true waits)
stopped_waits phases.Cancelled reason waits = absurd (false≢true waits)
stopped_waits (phases.Interrupted why) reason waits = absurd (false≢true waits)

pub sound-stopped : (item : Item) → IsSound item → IsSound (stopped_item item)
sound-stopped item sound =
    record {
      covered = sound.covered;
      told = sound.told;
      reason = stopped_why item.phase item.reason sound.reason;
      mode = λ waits.
          let both = stopped_waits item.phase item.reason waits in
          waiting-mode (stopped_item item) waits ∙ ap (λ (r : Option Reason). is_last_attempt (facts_of item) || is_invalid (asked_mode r)) both.1 ∙ sym (waiting-mode item both.0) ∙ sound.mode both.0;
      counted = record { running = λ run. absurd (stopped_run item.phase run); epoch_low = sound.counted.epoch_low; epoch_high = sound.counted.epoch_high };
      whole = λ done. sound.whole (sym (stopped_done item.phase) ∙ done);
      digest = subst (λ (b : Bool). IsDigestOf b item.digest item.have) (sym (stopped_complete item.phase)) sound.digest;
    }
