-- What lies ahead, by the fields of its buffer.
use Rattle.std.specs.Prelude.{◌≡◌, ◌≤◌, ℕ, List, vec_len, slice_range}
use Rattle.dm_edge.specs.Head.{most_head}
use Rattle.dm_reply.specs.declared.ahead.Ahead.TheInside.{Inside}

abbrev pub ahead_of : Inside → List ℕ
ahead_of a = slice_range a.buffer.items a.start a.end

pub record IsBuffer (a : Inside) : Type 0 where
  pub room : vec_len a.buffer ≡ most_head
  pub ordered : a.start ≤ a.end
  pub in_buffer : a.end ≤ most_head
