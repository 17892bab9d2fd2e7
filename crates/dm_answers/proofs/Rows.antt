-- Worked rows: one item of eleven bytes, of which five came.
use Rattle.std.proofs.Common.{◌≡◌, ◌⊎◌, inl, inr, ℕ, ◌+◌, ◌^◌, ◌<◌, ◌≤◌, true, false, List, [], ◌∷◌, take, codes, Option, Some, None, Ok, Err, refl, arith}
use Rattle.std.proofs.lemmas.Bool.{false≢true}
use Rattle.sha2.specs.Sha256.{sha256}
use Rattle.dm_types.specs.declared.entry.Entry.TheVariants as entries
use Rattle.dm_types.specs.declared.item.Item.{Item}
use Rattle.dm_types.specs.declared.item.ItemId.{ItemId}
use Rattle.dm_types.specs.declared.item.Key.{Key}
use Rattle.dm_types.specs.declared.item.Key.TheVariants.{Once, Strong}
use Rattle.dm_types.specs.declared.item.Limits.{Limits}
use Rattle.dm_types.specs.declared.item.Phase.{Phase}
use Rattle.dm_types.specs.declared.item.Phase.TheVariants as phases
use Rattle.dm_types.specs.declared.kinds.By.TheVariants.{Itself, User}
use Rattle.dm_types.specs.declared.kinds.DiskKind.{DiskKind}
use Rattle.dm_types.specs.declared.kinds.DiskKind.TheVariants as kinds
use Rattle.dm_types.specs.declared.reason.Reason.{Reason}
use Rattle.dm_types.specs.declared.reason.Reason.TheVariants as reasons
use Rattle.dm_types.specs.declared.slices.Slice.{Slice}
use Rattle.dm_disk_model.specs.Disk.{History as Clock}
use Rattle.dm_policy.specs.Cause.{reason_of_file}
use Rattle.dm_policy.specs.declared.cause.Cause.TheVariants as causes
use Rattle.dm_item.specs.Fields.{no_bytes}
use Rattle.dm_store.specs.declared.life.Life.{Life}
use Rattle.dm_store.specs.declared.pass.Pass.{Pass}
use Rattle.dm_store.specs.Lives.{begun_life}
use Rattle.dm_store.specs.View.{View}
use Rattle.dm_answers.specs.declared.answer.SlicePass.{SlicePass}
use Rattle.dm_answers.specs.declared.fault.DeskFault.TheVariants as faults
use Rattle.dm_answers.specs.Begin.{beginning, may_begin, pass_of}
use Rattle.dm_answers.specs.Broke.{broke_by}
use Rattle.dm_answers.specs.Change.{ChangeAnswers, is_under_way}
use Rattle.dm_answers.specs.Check.{CheckAnswers}
use Rattle.dm_answers.specs.Describe.{used_names}
use Rattle.dm_answers.specs.Finish.{FinishAnswers, MayFinish, finishing_entries}
use Rattle.dm_answers.specs.Land.{LandAnswers}
use Rattle.dm_answers.specs.Pause.{pausing}
use Rattle.dm_answers.specs.Plan.{planned_life}
use Rattle.dm_answers.specs.Running.{RunsWith, saving}
use Rattle.dm_answers.specs.Settling.{settled_of}
use Rattle.dm_answers.specs.Shut.{shuts}
use Rattle.dm_answers.specs.Slices.{HasPart}

abbrev pub one : ItemId
one = record { 0 = 1 }

abbrev first_bytes : ℕ → List Slice
first_bytes count = record { first = 0; got = count; finished = false } ∷ []

abbrev pub strong : Key
strong = Strong (codes "a")

-- eleven bytes are to come, of which so many are saved; one attempt was begun
abbrev pub item_of : Phase → Option Reason → Key → List Slice → Item
item_of phase reason key slices = record {
  id = one;
  word = [];
  first_address = codes "http://h/a";
  wish = [];
  digest = None;
  phase = phase;
  reason = reason;
  epoch = record { 0 = 1 };
  attempt = record { 0 = 1 };
  autos = 0;
  begun = true;
  key = Some key;
  last_address = Some (codes "http://h/a");
  total = Some 11;
  name = Some (codes "hello.txt");
  modified = Some [];
  slices = slices;
  have = None;
  at_ms = 0;
}

-- How an attempt begins.

-- the stream ended early under a strong tag: it goes on
row_continues : beginning (item_of (phases.Interrupted reasons.ServerContentLengthMismatch) (Some reasons.ServerContentLengthMismatch) strong (first_bytes 5)) Itself 7
    ≡ entries.Began one (record { 0 = 2 }) Itself 7 ∷ []
row_continues = refl

-- the same under a tag that stands for the one attempt: it begins anew, because of the key
row_weak_tag : beginning (item_of (phases.Interrupted reasons.ServerContentLengthMismatch) (Some reasons.ServerContentLengthMismatch) (Once one (record { 0 = 1 })) (first_bytes 5)) Itself 7
    ≡ entries.Restarted one (record { 0 = 2 }) 2 ∷ entries.Began one (record { 0 = 2 }) Itself 7 ∷ []
row_weak_tag = refl

-- and the same where the user asks
row_weak_waiting : beginning (item_of phases.Waiting (Some reasons.ServerContentLengthMismatch) (Once one (record { 0 = 1 })) (first_bytes 5)) User 7
    ≡ entries.Restarted one (record { 0 = 2 }) 2 ∷ entries.Began one (record { 0 = 2 }) User 7 ∷ []
row_weak_waiting = refl

-- the server had another content: it begins anew, because of the reason
row_no_range : beginning (item_of (phases.Interrupted reasons.ServerNoRange) (Some reasons.ServerNoRange) strong (first_bytes 5)) Itself 7
    ≡ entries.Restarted one (record { 0 = 2 }) 1 ∷ entries.Began one (record { 0 = 2 }) Itself 7 ∷ []
row_no_range = refl

-- the part of another epoch is meant then
row_other_part : (pass_of (item_of (phases.Interrupted reasons.ServerNoRange) (Some reasons.ServerNoRange) strong (first_bytes 5))).epoch ≡ record { 0 = 2 }
row_other_part = refl

-- there was no room: it doesn't begin by itself, and where the user asks it begins anew
row_no_space : may_begin Itself (item_of (phases.Interrupted (reason_of_file kinds.NoSpace)) (Some (reason_of_file kinds.NoSpace)) strong (first_bytes 5)) ≡ false
row_no_space = refl

row_no_space_again : beginning (item_of phases.Waiting (Some (reason_of_file kinds.NoSpace)) strong (first_bytes 5)) User 7
    ≡ entries.Restarted one (record { 0 = 2 }) 1 ∷ entries.Began one (record { 0 = 2 }) User 7 ∷ []
row_no_space_again = refl

-- five attempts by itself are enough
row_autos : may_begin Itself (record (item_of (phases.Interrupted reasons.NetworkTimeout) (Some reasons.NetworkTimeout) strong (first_bytes 5)) { autos = 5 }) ≡ false
row_autos = refl

row_autos_four : may_begin Itself (record (item_of (phases.Interrupted reasons.NetworkTimeout) (Some reasons.NetworkTimeout) strong (first_bytes 5)) { autos = 4 }) ≡ true
row_autos_four = refl

-- A desk on which the item runs: five bytes were landed in the one part of the first round.

abbrev pub arriving : Item
arriving = item_of phases.Running None strong no_bytes

abbrev pub life : Life
life = record (begun_life arriving) { cover = first_bytes 5; unsaved = 5; round = 1; plan = record { index = 0; first = 0; end = 11 } ∷ [] }

abbrev limits : ℕ → Limits
limits checkpoint = record { items = 1; checkpoint = checkpoint; piece = 8; min_slice = 2; journal = 100 }

abbrev pub Seen : Type 0
Seen = View (Unit {0}) (Unit {0})

abbrev pub desk_of : ℕ → Item → List Life → Seen
desk_of checkpoint item lives = record {
  disk = tt;
  origin = tt;
  limits = limits checkpoint;
  items = record { limit = 1; next = 2; is_first = false; is_early = false; items = item ∷ [] };
  lives = lives;
  gate = 0;
  broken = false;
  list = [];
  failed = [];
}

abbrev pub desk : Seen
desk = desk_of 6 arriving (life ∷ [])

abbrev pub counts : Unit {0} → DiskKind → ℕ
counts disk kind = 0

abbrev pass : SlicePass
pass = record { id = one; attempt = record { 0 = 1 }; round = 1; index = 0; first = 0; end = 11 }

abbrev pub whole_pass : Pass
whole_pass = record { id = one; attempt = record { 0 = 1 }; epoch = record { 0 = 1 } }

runs : (checkpoint : ℕ) (P : Item → Life → Type 0) → P arriving life → RunsWith (desk_of checkpoint arriving (life ∷ [])) one (record { 0 = 1 }) P
runs checkpoint P is = record { item = arriving; there = refl; runs = refl; attempt_is = refl; life = life; lives = refl; is = is }

has : HasPart pass arriving life
has = record { round = refl; part = refl }

row_check : CheckAnswers desk pass (Ok 5)
row_check = (refl, runs 6 _ (record { has = has; next = refl }))

-- the pass of another round
row_other_round : CheckAnswers desk (record pass { round = 2 }) (Err (faults.Stale (record { 0 = 1 }) 1))
row_other_round = (refl, record { over = inr (inr (inl (λ same. absurd (omega arith)))); attempt_is = refl; round_is = refl })

-- a cancelled item's pass is refused, with the attempt and no round
row_cancelled : CheckAnswers (desk_of 6 (item_of phases.Cancelled (Some reasons.UserCanceled) strong no_bytes) []) pass (Err (faults.Stale (record { 0 = 1 }) 0))
row_cancelled = (refl, record { over = inl refl; attempt_is = refl; round_is = refl })

row_no_item : CheckAnswers desk (record pass { id = record { 0 = 9 } }) (Err (faults.NoItem (record { 0 = 9 })))
row_no_item = (refl, refl)

-- a broken desk refuses first
row_broken : CheckAnswers (record desk { broken = true }) (record pass { id = record { 0 = 9 } }) (Err faults.Broken)
row_broken = refl

row_not_next : LandAnswers counts desk desk pass 4 (codes "xyz") (Err (faults.NotNext 5))
row_not_next = record { whole = refl; cause = runs 6 _ (record { next = record { has = has; next = refl }; other = λ same. absurd (omega arith) }); same = refl }

row_past_end : LandAnswers counts desk desk pass 5 (codes "1234567") (Err (faults.PastEnd 11))
row_past_end = record { whole = refl; cause = runs 6 _ (record { next = record { has = has; next = refl }; end_is = refl; past = omega arith }); same = refl }

row_due : LandAnswers counts (desk_of 5 arriving (life ∷ [])) (desk_of 5 arriving (life ∷ [])) pass 5 (codes "xyz") (Err (faults.CheckpointDue 5))
row_due = record {
  whole = refl;
  cause = runs 5 _ (record { fits = record { next = record { has = has; next = refl }; fits = omega arith }; bytes_are = refl; due = omega arith });
  same = refl;
}

row_land : LandAnswers counts desk (record desk { lives = record life { cover = first_bytes 8; unsaved = 8 } ∷ [] }) pass 5 (codes "xyz") (Ok tt)
row_land = (runs 6 _ (record { fits = record { next = record { has = has; next = refl }; fits = omega arith }; below = omega arith }), record { whole = refl; same = refl })

-- What is saved.

row_saving : saving arriving life ≡ entries.Progress one (first_bytes 5) ∷ []
row_saving = refl

row_nothing_saved : saving arriving (record life { unsaved = 0 }) ≡ []
row_nothing_saved = refl

row_pausing : pausing arriving (Some life) ≡ entries.Progress one (first_bytes 5) ∷ entries.Paused one ∷ []
row_pausing = refl

row_broke : broke_by whole_pass causes.HeadCut ≡ entries.Broke one reasons.NetworkFailed
row_broke = refl

row_shut : shuts (arriving ∷ item_of phases.Waiting None strong no_bytes ∷ []) ≡ entries.Broke one reasons.UserShutdown ∷ []
row_shut = refl

-- finishing below the total: the first place that is missing is told
row_hole : (tells : Type 0) (clock : Unit {0} → Clock) → FinishAnswers tells clock counts desk desk whole_pass 7 (Err (faults.NotNext 5))
row_hole tells clock = record {
  whole = refl;
  cause = runs 6 _ (record { told = refl; first = record { within = (omega arith, omega arith); missing = none; before = λ place low below. inl (low, omega arith) } });
  same = refl;
}
  where
    none : ((0 ≤ 5) × (5 < 0 + 5)) ⊎ ⊥ → ⊥
    none (inl here) = let low = here.1 in omega arith
    none (inr later) = later

-- a content without a byte is whole from the start
row_empty : MayFinish (record arriving { total = Some 0 }) (record life { cover = no_bytes; unsaved = 0; plan = [] })
row_empty = record { told = refl; full = λ place below. absurd (omega arith) }

row_empty_entries : (digest : List ℕ) → finishing_entries (record arriving { total = Some 0 }) (record life { cover = no_bytes; unsaved = 0; plan = [] }) digest 7
    ≡ entries.Finishing one 0 ∷ entries.Done one digest 7 ∷ []
row_empty_entries digest = refl

-- The rounds of a large content: the hole behind three million bytes in four parts.

row_plan : (planned_life (Some 10485760) 4 1048576 (record life { cover = first_bytes 3145728 })).plan
    ≡ record { index = 0; first = 3145728; end = 4980736 } ∷ record { index = 1; first = 4980736; end = 6815744 } ∷ record { index = 2; first = 6815744; end = 8650752 } ∷ record { index = 3; first = 8650752; end = 10485760 } ∷ []
row_plan = refl

row_round : (planned_life (Some 10485760) 4 1048576 life).round ≡ 2
row_round = refl

-- an unknown total: one part, from the end on
row_open : (planned_life None 4 1048576 life).plan ≡ record { index = 0; first = 5; end = 2 ^ 40 } ∷ []
row_open = refl

-- Names: those of cancelled items are free.

row_names : used_names (arriving ∷ record arriving { phase = phases.Cancelled } ∷ record arriving { name = None } ∷ []) ≡ codes "hello.txt" ∷ []
row_names = refl

-- What a settling does of one file that stands whole, or short.

row_settled : settled_of (record (item_of phases.Finishing None strong no_bytes) { total = Some 3 }) 7 (Some (codes "abc")) ≡ entries.Done one (sha256 (take 3 (codes "abc"))) 7
row_settled = refl

row_settled_short : settled_of (item_of phases.Finishing None strong no_bytes) 7 (Some (codes "abc")) ≡ entries.Broke one reasons.FileTooShort
row_settled_short = refl

-- an encoded content isn't resumed
row_invalid : ChangeAnswers {D = Unit {0}} {O = Unit {0}} is_under_way (entries.Asked one) one (desk_of 6 (item_of (phases.Interrupted reasons.ServerBadContent) (Some reasons.ServerBadContent) strong no_bytes) [])
    (desk_of 6 (item_of (phases.Interrupted reasons.ServerBadContent) (Some reasons.ServerBadContent) strong no_bytes) []) (Err (faults.WrongState (phases.Interrupted reasons.ServerBadContent)))
row_invalid = record { whole = refl; cause = record { phase_is = refl; not_left = refl; row = λ row. false≢true row.1 }; same = refl }
