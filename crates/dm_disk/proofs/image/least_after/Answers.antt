use Rattle.std.proofs.Common.{arith}
use Rattle.std.proofs.lemmas.Bool.{iff_false}
use Rattle.dm_disk.proofs.Replay.{most_end_at}
use Rattle.dm_disk.proofs.Picks.{most_end_take, least_beside, least_more, least_synced, made_of_parts}
use Rattle.dm_disk.proofs.image.least_after.Goals as goal

pub returns-then-not-is_same_area-clause-least : goal.returns-then-not-is_same_area-clause-least
returns-then-not-is_same_area-clause-least c = λ least.
    least_beside c.args.calls.now c.args.place c.index-calls-place.result c.args.area c.args.file c.args.bytes.items c.requires.within c.index-calls-place.is
    (iff_false c.is_same_area.ensures c.if-not-is_same_area.true) least

pub bytes_of-requires : goal.bytes_of-requires
bytes_of-requires c = let less = most_end_take c.args.place c.args.calls.now in omega (arith, less, c.requires.ends)

pub returns-then-is_sync-clause-least : goal.returns-then-is_sync-clause-least
returns-then-is_sync-clause-least c = λ least.
    least_synced c.args.calls.now c.args.place c.index-calls-place.result c.args.area c.args.file _ c.requires.within c.index-calls-place.is
    (c.is_sync.ensures.0 c.if-is_sync.true) c.in_ok-synced.ensures.is

pub least_past-requires-clause-end : goal.least_past-requires-clause-end
least_past-requires-clause-end c =
    let far = most_end_at c.args.calls.now c.args.place c.index-calls-place.result c.requires.within c.index-calls-place.is in
    omega (arith, far, c.requires.ends)

pub least_past-requires-clause-not_synced : goal.least_past-requires-clause-not_synced
least_past-requires-clause-not_synced c = λ act.
    iff_false c.is_sync.ensures c.if-is_sync.false
    (made_of_parts c.index-calls-place.result c.args.area c.args.file (c.is_same_area.ensures.0 c.if-not-is_same_area.false) act)

pub returns-clause-least : goal.returns-clause-least
returns-clause-least c = λ least.
    least_more c.args.calls.now c.args.place c.index-calls-place.result c.args.area c.args.file c.args.bytes.items c.least_past.result.items
    c.requires.within c.index-calls-place.is (c.is_same_area.ensures.0 c.if-not-is_same_area.false) c.least_past.ensures.least least
