use Rattle.std.proofs.Common.{sym, arith}
use Rattle.dm_disk.proofs.Listings.{given_here, not_given, all_listed}
use Rattle.dm_disk.proofs.listing.list_names.Goals as goal
use Rattle.dm_disk.proofs.listing.list_names.Goals.{in-Some+in_ok-list_name, in_default}

pub loop-call-preserved : goal.loop-call-preserved
loop-call-preserved c =
    elim c.match-name_given.branch [
      | in-Some+in_ok-list_name w ↦ rw w.names-is
          (given_here c.args.calls.now c.args.area c.loop-call.call-index c.call-item.result w.in-Some.name.now c.loop-call.names.items w.list_name.new.names.items
          (omega arith) c.call-item.is (sym w.in-Some.ensures) w.in_ok-list_name.ensures c.loop-call.invariant)
      | in_default w ↦ rw w.names-is
          (not_given c.args.calls.now c.args.area c.loop-call.call-index c.call-item.result c.loop-call.names.items (omega arith) c.call-item.is (sym w.in_default.ensures) c.loop-call.invariant)
    ]

pub returns : goal.returns
returns c = all_listed c.args.calls.now c.args.area c.loop-call.call-index c.loop-call.names.items (omega arith) c.loop-call.invariant
