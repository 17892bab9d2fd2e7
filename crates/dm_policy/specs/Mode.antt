-- How an item may go on: the row of its reason, and what its facts make of it.
use Rattle.std.specs.Prelude.{ℕ, Bool, true, false, not, Option, Some, None, if◌then◌else◌, ◌==◌, ◌&&◌, ◌||◌, nat_le}
use Rattle.dm_types.specs.declared.reason.Reason.{Reason}
use Rattle.dm_types.specs.declared.reason.Reason.TheVariants.{FileFailed, FileAccessDenied, FileNoSpace, FileNameTooLong, FileTooLarge, FileTooShort, FileHashMismatch, NetworkFailed, NetworkTimeout, NetworkDisconnected, NetworkServerDown, NetworkInvalidRequest, ServerFailed, ServerNoRange, ServerBadContent, ServerUnauthorized, ServerForbidden, ServerContentLengthMismatch, UserCanceled, UserShutdown, Crash, NoMemory}
use Rattle.dm_types.specs.declared.kinds.Mode.{Mode}
use Rattle.dm_types.specs.declared.kinds.Mode.TheVariants.{Invalid, ImmediateContinue, ImmediateRestart, UserContinue, UserRestart}
use Rattle.dm_policy.specs.declared.mode.ModeFacts.{ModeFacts}

-- the table's row of a reason
abbrev pub row_mode : Reason → Mode
row_mode FileFailed = UserRestart
row_mode FileAccessDenied = UserRestart
row_mode FileNoSpace = UserRestart
row_mode FileNameTooLong = UserRestart
row_mode FileTooLarge = UserRestart
row_mode FileTooShort = ImmediateRestart
row_mode FileHashMismatch = ImmediateRestart
row_mode NetworkFailed = UserContinue
row_mode NetworkTimeout = ImmediateContinue
row_mode NetworkDisconnected = UserContinue
row_mode NetworkServerDown = UserContinue
row_mode NetworkInvalidRequest = Invalid
row_mode ServerFailed = UserContinue
row_mode ServerNoRange = ImmediateRestart
row_mode ServerBadContent = Invalid
row_mode ServerUnauthorized = Invalid
row_mode ServerForbidden = Invalid
row_mode ServerContentLengthMismatch = ImmediateContinue
row_mode UserCanceled = Invalid
row_mode UserShutdown = UserContinue
row_mode Crash = UserContinue
row_mode NoMemory = UserContinue

-- the row of an item's reason, or of none
abbrev pub asked_mode : Option Reason → Mode
asked_mode None = UserContinue
asked_mode (Some reason) = row_mode reason

-- from the start, where it went on from where it stopped
abbrev pub from_start : Mode → Mode
from_start Invalid = Invalid
from_start ImmediateContinue = ImmediateRestart
from_start ImmediateRestart = ImmediateRestart
from_start UserContinue = UserRestart
from_start UserRestart = UserRestart

-- where the user asks, where it went on by itself
abbrev pub by_user : Mode → Mode
by_user Invalid = Invalid
by_user ImmediateContinue = UserContinue
by_user ImmediateRestart = UserRestart
by_user UserContinue = UserContinue
by_user UserRestart = UserRestart

-- nothing that a continue needs is missing
abbrev pub can_continue : ModeFacts → Bool
can_continue facts = facts.strong && facts.total && facts.covered

-- the user is to be asked, whatever the reason's row says
abbrev pub asks_user : ModeFacts → Bool
asks_user facts = facts.paused || nat_le 5 facts.autos

-- the last attempt that a number can count
abbrev pub is_last_attempt : ModeFacts → Bool
is_last_attempt facts = facts.attempt.0 == 4294967295

abbrev pub placed_mode : Option Reason → ModeFacts → Mode
placed_mode reason facts = if can_continue facts then asked_mode reason else from_start (asked_mode reason)

abbrev pub mode_by : Option Reason → ModeFacts → Mode
mode_by reason facts =
    if is_last_attempt facts then Invalid
    else (if asks_user facts then by_user (placed_mode reason facts) else placed_mode reason facts)

-- the item may go on by itself
abbrev pub is_immediate : Mode → Bool
is_immediate ImmediateContinue = true
is_immediate ImmediateRestart = true
is_immediate Invalid = false
is_immediate UserContinue = false
is_immediate UserRestart = false

-- it goes on from where it stopped
abbrev pub is_continue : Mode → Bool
is_continue ImmediateContinue = true
is_continue UserContinue = true
is_continue Invalid = false
is_continue ImmediateRestart = false
is_continue UserRestart = false

-- its content is brought anew
abbrev pub is_restart : Mode → Bool
is_restart ImmediateRestart = true
is_restart UserRestart = true
is_restart Invalid = false
is_restart ImmediateContinue = false
is_restart UserContinue = false

-- it may not go on
abbrev pub is_invalid : Mode → Bool
is_invalid Invalid = true
is_invalid ImmediateContinue = false
is_invalid ImmediateRestart = false
is_invalid UserContinue = false
is_invalid UserRestart = false

-- The first rule by which the content is brought anew: 1 the row of its reason is a restart, 2 its key is
-- missing or stands for one attempt, 3 its total isn't known, 4 no byte is covered.
abbrev pub because_by : Option Reason → ModeFacts → Option ℕ
because_by reason facts =
    if is_restart (asked_mode reason) then Some 1
    else (if not facts.strong then Some 2
    else (if not facts.total then Some 3
    else (if not facts.covered then Some 4
    else None)))
