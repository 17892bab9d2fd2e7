use Rattle.std.proofs.Common.{refl, sym, ◌∙◌, ap, subst}
use Rattle.dm_disk.specs.Memory.{held_in}
use Rattle.dm_disk_model.specs.Disk.{History, Stands, bytes_at, now}
use Rattle.dm_disk_model.proofs.Places.{stands_from}
use Rattle.dm_rehearse_run.proofs.Read.{sum_is}
use Rattle.dm_rehearse_run.proofs.reading.sum_on.Goals as goal

pub digest-requires-clause-stands : goal.digest-requires-clause-stands
digest-requires-clause-stands c told =
    let long = c.if-not-is_long.ensures.long refl in
    subst (λ (h : History). Stands (now h) c.args.place.now) (sym c.is_long.ensures.stays) (stands_from (held_in c.args.disk.now) c.args.place.now long.file long.reads)

pub returns-in-Ok-clause-sum : goal.returns-in-Ok-clause-sum
returns-in-Ok-clause-sum c =
    let long = c.if-not-is_long.ensures.long refl in
    let is = c.in-Ok.ensures.is tt long.file (ap (λ (h : History). bytes_at (now h) c.args.place.now) c.is_long.ensures.stays ∙ long.reads) in
    sum_is (held_in c.args.disk.now) c.args.place.now c.args.number c.size_of-size.result c.in-Ok.sum c.size_of-size.ensures.is long is.1
