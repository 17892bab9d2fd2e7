-- The reason of each cause: this project's own table, row by row.
use Rattle.std.specs.Prelude.{ℕ, if◌then◌else◌, ◌==◌, ◌&&◌, ◌||◌, nat_le}
use Rattle.dm_types.specs.declared.kinds.DiskKind.{DiskKind}
use Rattle.dm_types.specs.declared.kinds.DiskKind.TheVariants as kinds
use Rattle.dm_types.specs.declared.reason.Reason.{Reason}
use Rattle.dm_types.specs.declared.reason.Reason.TheVariants as reasons
use Rattle.dm_policy.specs.declared.cause.Cause.{Cause}
use Rattle.dm_policy.specs.declared.cause.Cause.TheVariants as causes

-- a disk call on the part or on the names failed
abbrev pub reason_of_file : DiskKind → Reason
reason_of_file kinds.Failed = reasons.FileFailed
reason_of_file kinds.Denied = reasons.FileAccessDenied
reason_of_file kinds.NoSpace = reasons.FileNoSpace
reason_of_file kinds.NameTooLong = reasons.FileNameTooLong

-- A status that ends an attempt (RFC 9110, section 15). 200 and the redirects never come as a cause,
-- and have the reason of every other status.
abbrev pub reason_of_status : ℕ → Reason
reason_of_status status =
    if (status == 401) || (status == 407) then reasons.ServerUnauthorized
    else (if status == 403 then reasons.ServerForbidden
    else (if (status == 404) || (status == 410) || (nat_le 201 status && nat_le status 299) then reasons.ServerBadContent
    else (if status == 416 then reasons.ServerNoRange
    else reasons.ServerFailed)))

abbrev pub reason_of_cause : Cause → Reason
reason_of_cause (causes.File kind) = reason_of_file kind
reason_of_cause causes.NamesTaken = reasons.FileFailed
reason_of_cause causes.BothStand = reasons.FileFailed
reason_of_cause (causes.TooLarge total) = reasons.FileTooLarge
reason_of_cause (causes.PartShort have wanted) = reasons.FileTooShort
reason_of_cause (causes.DigestDiffers have wanted) = reasons.FileHashMismatch
reason_of_cause causes.NetFailed = reasons.NetworkFailed
reason_of_cause causes.HeadCut = reasons.NetworkFailed
reason_of_cause causes.NetTimeout = reasons.NetworkTimeout
reason_of_cause causes.NetNoRoute = reasons.NetworkDisconnected
reason_of_cause causes.NetRefused = reasons.NetworkServerDown
reason_of_cause causes.BadLocation = reasons.NetworkInvalidRequest
reason_of_cause causes.TooManyRedirects = reasons.NetworkInvalidRequest
reason_of_cause (causes.Status status) = reason_of_status status
reason_of_cause causes.BadHead = reasons.ServerBadContent
reason_of_cause causes.Encoded = reasons.ServerBadContent
reason_of_cause causes.BadFraming = reasons.ServerBadContent
reason_of_cause (causes.RangeRefused status) = reasons.ServerNoRange
reason_of_cause (causes.ContentShort have wanted) = reasons.ServerContentLengthMismatch
reason_of_cause causes.Cancel = reasons.UserCanceled
reason_of_cause causes.Shutdown = reasons.UserShutdown
reason_of_cause causes.Memory = reasons.NoMemory
reason_of_cause causes.Crash = reasons.Crash
