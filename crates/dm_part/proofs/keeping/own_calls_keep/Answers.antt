use Rattle.dm_disk_model.specs.Disk.{now}
use Rattle.dm_part.specs.Laws.{by_test}
use Rattle.dm_part.proofs.Own.{held_moving, held_fewer, held_told, published_firm}
use Rattle.dm_part.proofs.Calls.{put_held, put_moments, settle_held, settle_moments, publish_moments, publish_done, names_publish, make_held, sweep_moments, discard_moments}
use Rattle.dm_part.proofs.Lengths.{put_length}
use Rattle.dm_part.proofs.Standing.{digest_tells}
use Rattle.dm_part.proofs.keeping.own_calls_keep.Goals as goal

pub returns-clause-made : goal.returns-clause-made
returns-clause-made c test claim old new going none_saved none_live apart free run = make_held (by_test test) claim old new going none_saved none_live apart free run

pub returns-clause-landed : goal.returns-clause-landed
returns-clause-landed c test claim live at piece result old new going lands next held = (
  put_moments (by_test test) claim at piece result old new going lands.free next held,
  put_held (by_test test) claim live at piece result (now old) (now new) going lands held next.stepped,
)

pub returns-clause-lengths : goal.returns-clause-lengths
returns-clause-lengths c part at piece before after result old new taken was is = put_length part at piece before after result old new taken was is

pub returns-clause-settled : goal.returns-clause-settled
returns-clause-settled c test claim saved result old new going holds next held = (
  settle_moments (by_test test) claim result old new going next held,
  settle_held (by_test test) claim saved result (now old) (now new) going holds held next.stepped,
)

pub returns-clause-may_move : goal.returns-clause-may_move
returns-clause-may_move c test claim total digest bytes disk going reads content held = held_moving (by_test test) disk.files claim total digest bytes going reads content held

pub returns-clause-published : goal.returns-clause-published
returns-clause-published c test claim result old new moving stands run held = (
  publish_moments (by_test test) claim result old new moving stands run held,
  publish_done (by_test test) claim result old new moving stands run held,
)

pub returns-clause-names_publish : goal.returns-clause-names_publish
returns-clause-names_publish c test claim old new moving stands taken held = names_publish (by_test test) claim old new moving stands taken held

pub returns-clause-firm_publishes : goal.returns-clause-firm_publishes
returns-clause-firm_publishes c test claim disk moving stands firm held = published_firm (by_test test) disk.files claim moving stands firm held

pub returns-clause-discarded : goal.returns-clause-discarded
returns-clause-discarded c part total result old new next short = discard_moments part total result old new next short

pub returns-clause-swept : goal.returns-clause-swept
returns-clause-swept c test claim result old new published apart next held = sweep_moments (by_test test) claim result old new published apart next held

pub returns-clause-may_lose : goal.returns-clause-may_lose
returns-clause-may_lose c test claim live disk fewer holds held = held_fewer (by_test test) disk.files claim live fewer holds held

pub returns-clause-may_tell : goal.returns-clause-may_tell
returns-clause-may_tell c test claim digest bytes disk published reads sum held = held_told (by_test test) disk.files claim digest bytes published reads sum held

pub returns-clause-digest_tells : goal.returns-clause-digest_tells
returns-clause-digest_tells c total saved file sum stated most least is full same = digest_tells total saved file sum stated most least is full same
