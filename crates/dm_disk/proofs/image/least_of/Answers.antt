use Rattle.std.proofs.Common.{arith, ◌<◌, ◌-◌, length, ap}
use Rattle.dm_disk.proofs.Picks.{most_end_take, least_start, least_synced_at}
use Rattle.dm_disk.proofs.image.least_of.Goals as goal
use Rattle.dm_disk.proofs.image.least_of.Goals.{then-next-eq0, else-next-eq0+in_ok-bytes}

pub bytes_of-requires : goal.bytes_of-requires
bytes_of-requires c = let less = most_end_take (c.first_least-next.result - 1) c.args.calls.now in omega (arith, less, c.requires)

pub loop-next-init : goal.loop-next-init
loop-next-init c =
    let next = c.first_least-next.result in
    elim c.if-next-eq0.branch [
      | then-next-eq0 w ↦
          let none = ap length w.new-bytes.ensures.items in
          rw w.bytes-is (record {
            within = c.first_least-next.ensures.within;
            least = least_start c.args.calls.now next c.args.area c.args.file w.new-bytes.result.items w.if-next-eq0.true w.new-bytes.ensures.items;
            near = omega (arith, none);
          })
      | else-next-eq0+in_ok-bytes w ↦
          let some : 0 < next = omega (arith, w.if-next-eq0.false) in
          rw w.bytes-is (record {
            within = c.first_least-next.ensures.within;
            least = least_synced_at c.args.calls.now next c.args.area c.args.file w.in_ok-bytes.bytes.items some c.first_least-next.ensures.within (c.first_least-next.ensures.synced some) w.in_ok-bytes.ensures.is;
            near = w.in_ok-bytes.ensures.near;
          })
    ]
