-- The faults of a wire among the causes that a reader answers.
use Rattle.std.specs.Prelude.{Option, Some, None}
use Rattle.dm_edge.specs.declared.fault.WireFault.{WireFault}
use Rattle.dm_edge.specs.declared.fault.WireFault.TheVariants as wire
use Rattle.dm_policy.specs.declared.cause.Cause.{Cause}
use Rattle.dm_policy.specs.declared.cause.Cause.TheVariants as cause
use Rattle.dm_reply.specs.declared.head.HeadFault.{HeadFault}
use Rattle.dm_reply.specs.declared.head.HeadFault.TheVariants as fault

-- the wire's fault that a cause shows, where it shows one
abbrev pub cause_kind : Cause → Option WireFault
cause_kind cause.NetFailed = Some wire.Failed
cause_kind cause.NetTimeout = Some wire.Timeout
cause_kind (cause.File kind) = None
cause_kind cause.NamesTaken = None
cause_kind cause.BothStand = None
cause_kind (cause.TooLarge total) = None
cause_kind (cause.PartShort have wanted) = None
cause_kind (cause.DigestDiffers have wanted) = None
cause_kind cause.HeadCut = None
cause_kind cause.NetNoRoute = None
cause_kind cause.NetRefused = None
cause_kind cause.BadLocation = None
cause_kind cause.TooManyRedirects = None
cause_kind (cause.Status status) = None
cause_kind cause.BadHead = None
cause_kind cause.Encoded = None
cause_kind cause.BadFraming = None
cause_kind (cause.RangeRefused status) = None
cause_kind (cause.ContentShort have wanted) = None
cause_kind cause.Cancel = None
cause_kind cause.Shutdown = None
cause_kind cause.Memory = None
cause_kind cause.Crash = None

abbrev pub head_kind : HeadFault → Option WireFault
head_kind (fault.Broke cause) = cause_kind cause
head_kind fault.NoMemory = None
