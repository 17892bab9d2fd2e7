-- The rows of the two tables, and what an item's facts make of a row, sentence by sentence.
use Rattle.std.specs.Prelude.{◌≡◌, ◌≢◌, ℕ, ◌≤◌, true, false, List, Option, Some, None}
use Rattle.dm_types.specs.Reason.{code_of}
use Rattle.dm_types.specs.declared.kinds.DiskKind.TheVariants as kinds
use Rattle.dm_types.specs.declared.kinds.Mode.{Mode}
use Rattle.dm_types.specs.declared.kinds.Mode.TheVariants.{Invalid, ImmediateContinue, ImmediateRestart, UserContinue, UserRestart}
use Rattle.dm_types.specs.declared.reason.Reason.{Reason}
use Rattle.dm_types.specs.declared.reason.Reason.TheVariants as reasons
use Rattle.dm_policy.specs.declared.cause.Cause.{Cause}
use Rattle.dm_policy.specs.declared.cause.Cause.TheVariants as causes
use Rattle.dm_policy.specs.declared.mode.ModeFacts.{ModeFacts}
use Rattle.dm_policy.specs.Cause.{reason_of_cause}
use Rattle.dm_policy.specs.Mode.{asked_mode, can_continue, asks_user, is_last_attempt, is_continue, is_immediate, mode_by}

-- the number that is recorded and shown for a cause
abbrev pub number_of : Cause → ℕ
number_of cause = code_of (reason_of_cause cause)

-- each cause but the statuses, by number
pub record CauseRows : Type 0 where
  pub failed : number_of (causes.File kinds.Failed) ≡ 1
  pub denied : number_of (causes.File kinds.Denied) ≡ 2
  pub no_space : number_of (causes.File kinds.NoSpace) ≡ 3
  pub name_too_long : number_of (causes.File kinds.NameTooLong) ≡ 5
  pub names_taken : number_of causes.NamesTaken ≡ 1
  pub both_stand : number_of causes.BothStand ≡ 1
  pub too_large : (total : ℕ) → number_of (causes.TooLarge total) ≡ 6
  pub part_short : (have wanted : ℕ) → number_of (causes.PartShort have wanted) ≡ 13
  pub digest_differs : (have wanted : List ℕ) → number_of (causes.DigestDiffers have wanted) ≡ 14
  pub net_failed : number_of causes.NetFailed ≡ 20
  pub head_cut : number_of causes.HeadCut ≡ 20
  pub net_timeout : number_of causes.NetTimeout ≡ 21
  pub net_no_route : number_of causes.NetNoRoute ≡ 22
  pub net_refused : number_of causes.NetRefused ≡ 23
  pub bad_location : number_of causes.BadLocation ≡ 24
  pub too_many_redirects : number_of causes.TooManyRedirects ≡ 24
  pub bad_head : number_of causes.BadHead ≡ 33
  pub encoded : number_of causes.Encoded ≡ 33
  pub bad_framing : number_of causes.BadFraming ≡ 33
  pub range_refused : (status : ℕ) → number_of (causes.RangeRefused status) ≡ 31
  pub content_short : (have : ℕ) (wanted : Option ℕ) → number_of (causes.ContentShort have wanted) ≡ 38
  pub cancel : number_of causes.Cancel ≡ 40
  pub shutdown : number_of causes.Shutdown ≡ 41
  pub memory : number_of causes.Memory ≡ 60
  pub crash : number_of causes.Crash ≡ 50

-- a status of none of the rows that name some
pub record IsOther (status : ℕ) : Type 0 where
  pub unauthorized : status ≢ 401
  pub proxy : status ≢ 407
  pub forbidden : status ≢ 403
  pub not_found : status ≢ 404
  pub gone : status ≢ 410
  pub success : 201 ≤ status → status ≤ 299 → ⊥
  pub no_range : status ≢ 416

-- each status (RFC 9110, section 15), by number
pub record StatusRows : Type 0 where
  pub unauthorized : number_of (causes.Status 401) ≡ 34
  pub proxy : number_of (causes.Status 407) ≡ 34
  pub forbidden : number_of (causes.Status 403) ≡ 36
  pub not_found : number_of (causes.Status 404) ≡ 33
  pub gone : number_of (causes.Status 410) ≡ 33
  pub other_success : (status : ℕ) → 201 ≤ status → status ≤ 299 → number_of (causes.Status status) ≡ 33
  pub no_range : number_of (causes.Status 416) ≡ 31
  pub other : (status : ℕ) → IsOther status → number_of (causes.Status status) ≡ 30

-- nothing in the facts changes the row: it can continue, the user need not be asked, and an attempt is left
pub record IsFree (facts : ModeFacts) : Type 0 where
  pub continues : can_continue facts ≡ true
  pub by_itself : asks_user facts ≡ false
  pub attempts : is_last_attempt facts ≡ false

-- the reason's row, where nothing changes it
abbrev pub RowIs : Option Reason → Mode → Type 0
RowIs reason mode = (facts : ModeFacts) → IsFree facts → mode_by reason facts ≡ mode

pub record ModeRows : Type 0 where
  pub timeout : RowIs (Some reasons.NetworkTimeout) ImmediateContinue
  pub short : RowIs (Some reasons.ServerContentLengthMismatch) ImmediateContinue
  pub no_range : RowIs (Some reasons.ServerNoRange) ImmediateRestart
  pub part_short : RowIs (Some reasons.FileTooShort) ImmediateRestart
  pub digest : RowIs (Some reasons.FileHashMismatch) ImmediateRestart
  pub failed : RowIs (Some reasons.NetworkFailed) UserContinue
  pub disconnected : RowIs (Some reasons.NetworkDisconnected) UserContinue
  pub server_down : RowIs (Some reasons.NetworkServerDown) UserContinue
  pub server_failed : RowIs (Some reasons.ServerFailed) UserContinue
  pub shutdown : RowIs (Some reasons.UserShutdown) UserContinue
  pub crash : RowIs (Some reasons.Crash) UserContinue
  pub memory : RowIs (Some reasons.NoMemory) UserContinue
  pub none : RowIs None UserContinue
  pub file_failed : RowIs (Some reasons.FileFailed) UserRestart
  pub denied : RowIs (Some reasons.FileAccessDenied) UserRestart
  pub no_space : RowIs (Some reasons.FileNoSpace) UserRestart
  pub name_too_long : RowIs (Some reasons.FileNameTooLong) UserRestart
  pub too_large : RowIs (Some reasons.FileTooLarge) UserRestart
  pub invalid_request : RowIs (Some reasons.NetworkInvalidRequest) Invalid
  pub bad_content : RowIs (Some reasons.ServerBadContent) Invalid
  pub unauthorized : RowIs (Some reasons.ServerUnauthorized) Invalid
  pub forbidden : RowIs (Some reasons.ServerForbidden) Invalid
  pub cancelled : RowIs (Some reasons.UserCanceled) Invalid

-- without a strong key, a known total and a covered byte nothing is continued
abbrev pub ContinueNeeds : Type 0
ContinueNeeds = (reason : Option Reason) (facts : ModeFacts) → can_continue facts ≡ false → is_continue (mode_by reason facts) ≡ false

-- where it is paused, or five attempts were made by itself, it isn't immediate
abbrev pub ImmediateNeeds : Type 0
ImmediateNeeds = (reason : Option Reason) (facts : ModeFacts) → asks_user facts ≡ true → is_immediate (mode_by reason facts) ≡ false

-- no attempt follows the last number
abbrev pub LastIsInvalid : Type 0
LastIsInvalid = (reason : Option Reason) (facts : ModeFacts) → facts.attempt.0 ≡ 4294967295 → mode_by reason facts ≡ Invalid

-- what is invalid by its row stays so
abbrev pub InvalidStays : Type 0
InvalidStays = (reason : Option Reason) (facts : ModeFacts) → asked_mode reason ≡ Invalid → mode_by reason facts ≡ Invalid

-- after five attempts that it made by itself the user is asked
abbrev pub FiveAsk : Type 0
FiveAsk = (facts : ModeFacts) → 5 ≤ facts.autos → asks_user facts ≡ true
