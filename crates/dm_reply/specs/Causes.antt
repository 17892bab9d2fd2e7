-- The causes that a reader may answer for a head.
use Rattle.std.specs.Prelude.{IsTrue}
use Rattle.dm_edge.specs.Causes.{is_head_cause}
use Rattle.dm_reply.specs.declared.head.HeadFault.{HeadFault}
use Rattle.dm_reply.specs.declared.head.HeadFault.TheVariants as fault

-- a refusal of `head` is a cause of a head, or want of memory
abbrev pub IsHeadFault : HeadFault → Type 0
IsHeadFault (fault.Broke broke) = IsTrue (is_head_cause broke)
IsHeadFault fault.NoMemory = Unit {0}
