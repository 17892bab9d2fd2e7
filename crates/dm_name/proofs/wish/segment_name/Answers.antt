use Rattle.std.proofs.Common.{refl}
use Rattle.dm_name.specs.Wish.{segment_name}
use Rattle.dm_name.proofs.wish.segment_name.Goals as goal

pub returns : goal.returns
unfolding segment_name
returns c =
    rw (
      c.in_ok-from_utf8_lossy.ensures.lossy,
      c.as_slice.ensures.value,
      c.in_ok-append_to.ensures.ok,
      c.new-bytes.ensures.items,
      c.percent_decode.ensures.bytes,
      c.after_slashes.ensures,
      c.path_of.ensures,
    )
    refl
