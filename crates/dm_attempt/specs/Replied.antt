-- The first reply among the connections of an attempt.
use Rattle.std.specs.Prelude.{◌≡◌, None}
use Rattle.std.specs.List.{Contains}
use Rattle.dm_edge.specs.Wire.{Closed, Purpose}
use Rattle.dm_request.specs.Request.{request_of}
use Rattle.dm_reply.specs.declared.head.Head.{Head}
use Rattle.dm_attempt.specs.Heads.{SaysHead}
use Rattle.dm_attempt.specs.Trace.{Trace, connections_of}

-- One of the attempt's connections was made for this, was sent the whole request without a range, and its stream begins with this head.
pub record HasReplied (purpose : Purpose) (trace : Trace) (told : Head) : Type 0 where
  pub connection : Closed
  pub among : Contains (connections_of trace) connection
  pub purpose_is : connection.purpose ≡ purpose
  pub sent : connection.sent ≡ request_of purpose.address None
  pub says : SaysHead connection.stream told
