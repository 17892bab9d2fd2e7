-- Why passes are refused, and which reasons an attempt meets.
use Rattle.std.proofs.Common.{◌≡◌, ◌≢◌, ◌⊎◌, ◌↔◌, inl, inr, ℕ, ◌+◌, ◌==◌, Bool, true, false, ◌&&◌, ◌||◌, if◌then◌else◌, IsTrue, List, Option, Some, None, Err, refl, sym, ◌∙◌, subst, arith}
use Rattle.std.specs.Prelude.{nat_le, slice_get}
use Rattle.std.proofs.lemmas.Bool.{false≢true}
use Rattle.dm_types.specs.declared.item.Item.{Item}
use Rattle.dm_types.specs.declared.kinds.DiskKind.{DiskKind}
use Rattle.dm_types.specs.declared.reason.Reason.{Reason}
use Rattle.dm_types.specs.declared.reason.Reason.TheVariants as reasons
use Rattle.dm_policy.specs.Cause.{reason_of_cause}
use Rattle.dm_policy.specs.declared.cause.Cause.{Cause}
use Rattle.dm_policy.specs.declared.cause.Cause.TheVariants as causes
use Rattle.dm_slice.specs.Cover.{next_of}
use Rattle.dm_item.specs.Listing.{item_in}
use Rattle.dm_kept.proofs.Lists.{eq_is, eq_not}
use Rattle.dm_store.specs.declared.life.Life.{Life}
use Rattle.dm_store.specs.declared.pass.Gone.{Gone}
use Rattle.dm_store.specs.declared.pass.Gone.TheVariants as gones
use Rattle.dm_store.specs.declared.pass.Pass.{Pass}
use Rattle.dm_store.specs.Becomes.{Refuses}
use Rattle.dm_store.specs.Lives.{AreLives, IsLifeOf, LifeOf, life_in}
use Rattle.dm_store.specs.Passes.{DeclinesItem, IsLive, PassDeclines}
use Rattle.dm_store.specs.View.{View}
use Rattle.dm_store.proofs.Saved.{file_reason}
use Rattle.dm_answers.specs.declared.answer.SlicePass.{SlicePass}
use Rattle.dm_answers.specs.Broke.{BrokeAnswers, IsMet, IsUnderWay}
use Rattle.dm_answers.specs.Check.{CheckAnswers}
use Rattle.dm_answers.specs.Checkpoint.{CheckpointAnswers}
use Rattle.dm_answers.specs.Faults.{desk_kind, fault_of}
use Rattle.dm_answers.specs.Land.{LandAnswers}
use Rattle.dm_answers.specs.Running.{RunsWith}
use Rattle.dm_answers.specs.Slices.{DeclinesSlice, SliceDeclines, part_of}
use Rattle.dm_land.specs.Landing.{HasNext}
use Rattle.dm_land.proofs.Grown.{placed_at}

refused : {D O : Type 0} (desk : View D O) (why : Type 0) → desk.broken ≡ false → why → Refuses desk desk why
refused desk why whole is = record { whole = whole; cause = is; same = refl }

-- an attempt that is over has no live part
over_slice : (pass : SlicePass) (found : Option Item) (life : Option Life) (gone : Gone) → DeclinesItem found life pass.id pass.attempt gone → DeclinesSlice found life pass gone
over_slice pass None life (gones.NoItem other) declines = declines
over_slice pass None life (gones.Stale told round) declines = declines
over_slice pass (Some item) life (gones.NoItem other) declines = declines
over_slice pass (Some item) life (gones.Stale told round) declines = record { over = by declines.over; attempt_is = declines.attempt_is; round_is = declines.round_is }
  where
    by : {A B C : Type 0} → A ⊎ B → A ⊎ (B ⊎ C)
    by (inl idle) = inl idle
    by (inr other) = inr (inl other)

pub slice_over : {D O : Type 0} (desk : View D O) (pass : SlicePass) (gone : Gone) → PassDeclines desk pass.id pass.attempt gone → SliceDeclines desk pass gone
slice_over desk pass gone = over_slice pass (item_in pass.id.0 desk.items.items) (life_in pass.id.0 desk.lives) gone

-- nor has one of which the live round, or the part, is another
pub no_part : {D O : Type 0} (desk : View D O) (pass : SlicePass) (life : Life) (place : ℕ) (test : Bool) → IsLive desk pass.id pass.attempt place → life_in pass.id.0 desk.lives ≡ Some life
    → IsTrue test ↔ ((life.round ≡ pass.round) × (slice_get life.plan pass.index ≡ Some (part_of pass))) → test ≡ false → SliceDeclines desk pass (gones.Stale pass.attempt life.round)
no_part desk pass life place test is here means over =
    subst (λ (found : Option Item). DeclinesSlice found (life_in pass.id.0 desk.lives) pass (gones.Stale pass.attempt life.round)) (sym is.there)
    (subst (λ (found : Option Life). DeclinesSlice (Some is.item) found pass (gones.Stale pass.attempt life.round)) (sym here)
    (record { over = inr (inr (differ (life.round == pass.round) refl)); attempt_is = sym is.attempt_is; round_is = refl }))
  where
    differ : (eq : Bool) → (life.round == pass.round) ≡ eq → (life.round ≢ pass.round) ⊎ (slice_get life.plan pass.index ≢ Some (part_of pass))
    differ true same = inr (λ part. false≢true (sym over ∙ means.1 (eq_is life.round pass.round same, part)))
    differ false other = inl (eq_not life.round pass.round other)

-- a live part comes next somewhere
pub comes_there : {D O : Type 0} (desk : View D O) (pass : SlicePass) (life : Life) (place next : ℕ) → IsLive desk pass.id pass.attempt place → life_in pass.id.0 desk.lives ≡ Some life
    → (life.round ≡ pass.round) × (slice_get life.plan pass.index ≡ Some (part_of pass)) → next_of life.cover pass.index ≡ Some next → RunsWith desk pass.id pass.attempt (HasNext pass next life.unsaved)
comes_there desk pass life place next is here has comes = record {
  item = is.item;
  there = is.there;
  runs = is.runs;
  attempt_is = is.attempt_is;
  life = life;
  lives = here;
  is = record { comes = record { has = record { round = has.0; part = has.1 }; next = comes }; unsaved_is = refl };
}

pub always_next : {D O : Type 0} (desk : View D O) (pass : SlicePass) (life : Life) (place : ℕ) → AreLives desk.items.items desk.lives → IsLive desk pass.id pass.attempt place → life_in pass.id.0 desk.lives ≡ Some life
    → slice_get life.plan pass.index ≡ Some (part_of pass) → next_of life.cover pass.index ≡ None → ⊥
always_next desk pass life place are is here part none =
    let own : IsLifeOf is.item life = subst (LifeOf (Some is.item)) here (subst (λ (found : Option Item). LifeOf found (life_in pass.id.0 desk.lives)) is.there (are pass.id.0)) in
    let placed = placed_at 0 life.cover life.plan pass.index (part_of pass) own.plan part in
    let at : 0 + pass.index ≡ pass.index = omega arith in
    let next : next_of life.cover pass.index ≡ Some placed.place = subst (λ (n : ℕ). next_of life.cover n ≡ Some placed.place) at placed.next in
    absurd cc

-- What each call answers then.

pub check_declines : {D O : Type 0} (desk : View D O) (pass : SlicePass) (gone : Gone) → desk.broken ≡ false → SliceDeclines desk pass gone → CheckAnswers desk pass (Err (fault_of gone))
check_declines desk pass (gones.NoItem id) whole declines = (whole, declines)
check_declines desk pass (gones.Stale attempt round) whole declines = (whole, declines)

pub land_declines : {D O : Type 0} (counts : D → DiskKind → ℕ) (desk : View D O) (pass : SlicePass) (at : ℕ) (piece : List ℕ) (gone : Gone) → desk.broken ≡ false → SliceDeclines desk pass gone
    → LandAnswers counts desk desk pass at piece (Err (fault_of gone)) × (desk_kind (fault_of gone) ≡ None)
land_declines counts desk pass at piece (gones.NoItem id) whole declines = (refused desk (SliceDeclines desk pass (gones.NoItem id)) whole declines, refl)
land_declines counts desk pass at piece (gones.Stale attempt round) whole declines = (refused desk (SliceDeclines desk pass (gones.Stale attempt round)) whole declines, refl)

pub broke_declines : {D O : Type 0} (desk : View D O) (pass : Pass) (cause : Cause) (gone : Gone) → desk.broken ≡ false → PassDeclines desk pass.id pass.attempt gone → BrokeAnswers desk desk pass cause (Err (fault_of gone))
broke_declines desk pass cause (gones.NoItem id) whole declines = refused desk (PassDeclines desk pass.id pass.attempt (gones.NoItem id)) whole declines
broke_declines desk pass cause (gones.Stale attempt round) whole declines = refused desk (PassDeclines desk pass.id pass.attempt (gones.Stale attempt round)) whole declines

pub checkpoint_declines : {D O : Type 0} (counts : D → DiskKind → ℕ) (desk : View D O) (pass : Pass) (gone : Gone) → desk.broken ≡ false → PassDeclines desk pass.id pass.attempt gone → CheckpointAnswers counts desk desk pass (Err (fault_of gone))
checkpoint_declines counts desk pass (gones.NoItem id) whole declines = refused desk (PassDeclines desk pass.id pass.attempt (gones.NoItem id)) whole declines
checkpoint_declines counts desk pass (gones.Stale attempt round) whole declines = refused desk (PassDeclines desk pass.id pass.attempt (gones.Stale attempt round)) whole declines

-- such a fault is none of the disk's
pub no_kind : (gone : Gone) → desk_kind (fault_of gone) ≡ None
no_kind (gones.NoItem id) = refl
no_kind (gones.Stale attempt round) = refl

-- an attempt that is live runs
pub live_runs : {D O : Type 0} (desk : View D O) (pass : Pass) (place : ℕ) → IsLive desk pass.id pass.attempt place → RunsWith desk pass.id pass.attempt IsUnderWay
live_runs desk pass place is = record { item = is.item; there = is.there; runs = is.runs; attempt_is = is.attempt_is; life = is.life; lives = is.lives; is = tt }

-- The reasons of the causes that an attempt meets are neither the user's nor that of a program that was left.

abbrev IsAllowed : Reason → Type 0
IsAllowed reason = (reason ≢ reasons.UserCanceled) × (reason ≢ reasons.Crash)

status_allowed : (a b c d : Bool) → IsAllowed (if a then reasons.ServerUnauthorized else (if b then reasons.ServerForbidden else (if c then reasons.ServerBadContent else (if d then reasons.ServerNoRange else reasons.ServerFailed))))
status_allowed true b c d = (λ e. absurd cc, λ e. absurd cc)
status_allowed false true c d = (λ e. absurd cc, λ e. absurd cc)
status_allowed false false true d = (λ e. absurd cc, λ e. absurd cc)
status_allowed false false false true = (λ e. absurd cc, λ e. absurd cc)
status_allowed false false false false = (λ e. absurd cc, λ e. absurd cc)

pub met_reason : (cause : Cause) → IsMet cause → (reason_of_cause cause ≢ reasons.UserCanceled) × (reason_of_cause cause ≢ reasons.Crash)
met_reason (causes.File kind) met = file_reason kind
met_reason (causes.Status status) met = status_allowed ((status == 401) || (status == 407)) (status == 403) ((status == 404) || (status == 410) || (nat_le 201 status && nat_le status 299)) (status == 416)
met_reason causes.NamesTaken met = (λ e. absurd cc, λ e. absurd cc)
met_reason causes.BothStand met = (λ e. absurd cc, λ e. absurd cc)
met_reason (causes.TooLarge total) met = (λ e. absurd cc, λ e. absurd cc)
met_reason (causes.PartShort have wanted) met = (λ e. absurd cc, λ e. absurd cc)
met_reason (causes.DigestDiffers have wanted) met = (λ e. absurd cc, λ e. absurd cc)
met_reason causes.NetFailed met = (λ e. absurd cc, λ e. absurd cc)
met_reason causes.HeadCut met = (λ e. absurd cc, λ e. absurd cc)
met_reason causes.NetTimeout met = (λ e. absurd cc, λ e. absurd cc)
met_reason causes.NetNoRoute met = (λ e. absurd cc, λ e. absurd cc)
met_reason causes.NetRefused met = (λ e. absurd cc, λ e. absurd cc)
met_reason causes.BadLocation met = (λ e. absurd cc, λ e. absurd cc)
met_reason causes.TooManyRedirects met = (λ e. absurd cc, λ e. absurd cc)
met_reason causes.BadHead met = (λ e. absurd cc, λ e. absurd cc)
met_reason causes.Encoded met = (λ e. absurd cc, λ e. absurd cc)
met_reason causes.BadFraming met = (λ e. absurd cc, λ e. absurd cc)
met_reason (causes.RangeRefused status) met = (λ e. absurd cc, λ e. absurd cc)
met_reason (causes.ContentShort have wanted) met = (λ e. absurd cc, λ e. absurd cc)
met_reason causes.Memory met = (λ e. absurd cc, λ e. absurd cc)
met_reason causes.Cancel met = absurd (met.cancel refl)
met_reason causes.Shutdown met = absurd (met.shutdown refl)
met_reason causes.Crash met = absurd (met.crash refl)
