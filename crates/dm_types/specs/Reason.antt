-- The numbers and names of the reasons.
use Rattle.std.specs.Prelude.{ℕ, List, codes}
use Rattle.dm_types.specs.declared.reason.Reason.{Reason}
use Rattle.dm_types.specs.declared.reason.Reason.TheVariants.{FileFailed, FileAccessDenied, FileNoSpace, FileNameTooLong, FileTooLarge, FileTooShort, FileHashMismatch, NetworkFailed, NetworkTimeout, NetworkDisconnected, NetworkServerDown, NetworkInvalidRequest, ServerFailed, ServerNoRange, ServerBadContent, ServerUnauthorized, ServerForbidden, ServerContentLengthMismatch, UserCanceled, UserShutdown, Crash, NoMemory}

-- the number of a reason
abbrev pub code_of : Reason → ℕ
code_of FileFailed = 1
code_of FileAccessDenied = 2
code_of FileNoSpace = 3
code_of FileNameTooLong = 5
code_of FileTooLarge = 6
code_of FileTooShort = 13
code_of FileHashMismatch = 14
code_of NetworkFailed = 20
code_of NetworkTimeout = 21
code_of NetworkDisconnected = 22
code_of NetworkServerDown = 23
code_of NetworkInvalidRequest = 24
code_of ServerFailed = 30
code_of ServerNoRange = 31
code_of ServerBadContent = 33
code_of ServerUnauthorized = 34
code_of ServerForbidden = 36
code_of ServerContentLengthMismatch = 38
code_of UserCanceled = 40
code_of UserShutdown = 41
code_of Crash = 50
code_of NoMemory = 60

-- the bytes of its name
abbrev pub name_of : Reason → List ℕ
name_of FileFailed = codes "FILE_FAILED"
name_of FileAccessDenied = codes "FILE_ACCESS_DENIED"
name_of FileNoSpace = codes "FILE_NO_SPACE"
name_of FileNameTooLong = codes "FILE_NAME_TOO_LONG"
name_of FileTooLarge = codes "FILE_TOO_LARGE"
name_of FileTooShort = codes "FILE_TOO_SHORT"
name_of FileHashMismatch = codes "FILE_HASH_MISMATCH"
name_of NetworkFailed = codes "NETWORK_FAILED"
name_of NetworkTimeout = codes "NETWORK_TIMEOUT"
name_of NetworkDisconnected = codes "NETWORK_DISCONNECTED"
name_of NetworkServerDown = codes "NETWORK_SERVER_DOWN"
name_of NetworkInvalidRequest = codes "NETWORK_INVALID_REQUEST"
name_of ServerFailed = codes "SERVER_FAILED"
name_of ServerNoRange = codes "SERVER_NO_RANGE"
name_of ServerBadContent = codes "SERVER_BAD_CONTENT"
name_of ServerUnauthorized = codes "SERVER_UNAUTHORIZED"
name_of ServerForbidden = codes "SERVER_FORBIDDEN"
name_of ServerContentLengthMismatch = codes "SERVER_CONTENT_LENGTH_MISMATCH"
name_of UserCanceled = codes "USER_CANCELED"
name_of UserShutdown = codes "USER_SHUTDOWN"
name_of Crash = codes "CRASH"
name_of NoMemory = codes "NO_MEMORY"
