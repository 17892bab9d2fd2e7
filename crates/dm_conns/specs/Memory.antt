-- The objects in memory, as contracts see them.
use Rattle.std.specs.Prelude.{◌≡◌, ◌⊎◌, ℕ, ◌+◌, ◌<◌, ◌≤◌, Bool, nat_lt, if◌then◌else◌, min, List, [], ◌∷◌, ◌++◌, length, take, drop, Contains}
use Rattle.dm_edge.specs.Counts.{raised_by}
use Rattle.dm_edge.specs.Wire.{Told, stream_of}
use Rattle.dm_conns.specs.Conn.{Over}
use Rattle.dm_conns.specs.declared.chain.Served.{Served}

-- which calls are to fail, by their numbers from 0, the number of the next one, and how many failed
pub record Counting : Type 0 where
  pub failing : List ℕ
  pub calls : ℕ
  pub failed : ℕ

abbrev pub none_made : List ℕ → Counting
none_made failing = record { failing = failing; calls = 0; failed = 0 }

-- the next call is listed
abbrev pub IsListed : Counting → Type 0
IsListed counting = Contains counting.failing counting.calls

-- after a call that was made
abbrev pub made : Counting → Counting
made counting = record counting { calls = raised_by 1 counting.calls }

-- after a call that failed
abbrev pub failed_once : Counting → Counting
failed_once counting = record counting { calls = raised_by 1 counting.calls; failed = raised_by 1 counting.failed }

pub record ConnState : Type 0 where
  pub told : Told
  -- how many bytes may be written in all
  pub room : ℕ
  pub counting : Counting

-- before its first call
abbrev pub fresh : List ℕ → ℕ → List ℕ → ConnState
fresh stream room failing = record { told = record { given = []; left = stream; sent = [] }; room = room; counting = none_made failing }

-- the same connection as it was made
abbrev pub renewed : ConnState → ConnState
renewed conn = fresh (stream_of conn.told) conn.room conn.counting.failing

-- how many bytes a read gives: as many as the buffer holds and are left
abbrev pub next_size : ConnState → ℕ → ℕ
next_size conn room = min room (length conn.told.left)

-- a read that isn't listed gives so many bytes
pub record GivesNext (before now : ConnState) (n : ℕ) (buffer : List ℕ) : Type 0 where
  pub size : n ≡ next_size before (length buffer)
  pub bytes : take n buffer ≡ take n before.told.left
  pub after : now ≡ record before { told = record before.told { given = before.told.given ++ take n before.told.left; left = drop n before.told.left }; counting = made before.counting }

-- a call that failed changed nothing else
abbrev pub fails_once : ConnState → ConnState
fails_once conn = record conn { counting = failed_once conn.counting }

-- a write is listed, or its piece doesn't fit into the room that is left
abbrev pub MustFail : ConnState → List ℕ → Type 0
MustFail conn piece = IsListed conn.counting ⊎ (conn.room < length conn.told.sent + length piece)

-- after a write of the whole piece
abbrev pub with_piece : ConnState → List ℕ → ConnState
with_piece conn piece = record conn { told = record conn.told { sent = conn.told.sent ++ piece }; counting = made conn.counting }

-- what a connection keeps true
pub record IsKept (given : ℕ) (stream : List ℕ) (written room capacity : ℕ) : Type 0 where
  pub within : given ≤ length stream
  pub fits : written ≤ room
  pub reserved : room ≤ capacity

-- a connection that is over
abbrev pub over_by : ConnState → Over
over_by conn = record { stream = stream_of conn.told; sent = conn.told.sent; failed = nat_lt 0 conn.counting.failed }

-- what is kept of one
abbrev pub over_as : Served → Over
over_as served = record { stream = served.stream; sent = served.written.items; failed = nat_lt 0 served.failed }

pub record ConnsState : Type 0 where
  -- the connections to come
  pub coming : List ConnState
  pub counting : Counting
  pub over : List Over
  pub served : ℕ

abbrev pub fresh_conns : List ConnState → List ℕ → ConnsState
fresh_conns coming failing = record { coming = coming; counting = none_made failing; over = []; served = 0 }

-- an accept that isn't listed takes the next connection, as it was made
pub record Accepts (before now : ConnsState) (accepted : ConnState) : Type 0 where
  pub conn : ConnState
  pub next : before.coming ≡ conn ∷ now.coming
  pub renewed_is : accepted ≡ renewed conn
  pub after : now ≡ record before { coming = now.coming; counting = made before.counting }

-- an accept fails where it is listed, and past the last connection
abbrev pub AcceptFails : ConnsState → Type 0
AcceptFails conns = IsListed conns.counting ⊎ (conns.coming ≡ [])

abbrev pub failed_accept : ConnsState → ConnsState
failed_accept conns = record conns { counting = failed_once conns.counting }

-- after a connection was handed back
abbrev pub with_over : ConnsState → ConnState → ConnsState
with_over conns conn = record conns { over = conns.over ++ over_by conn ∷ []; served = raised_by 1 conns.served }
