use Rattle.std.proofs.Common.{◌≡◌, ℕ, ◌<◌, length, Some, refl, sym, subst, arith}
use Rattle.dm_disk_model.specs.Disk.{History, bytes_at, now}
use Rattle.dm_part.specs.Digest.{EndsAt}
use Rattle.dm_part.specs.declared.hashing.PartFault.{PartFault}
use Rattle.dm_settle.proofs.judging.weigh.Goals as goal

pub returns-in-Err-Short-clause-weighs : goal.returns-in-Err-Short-clause-weighs
returns-in-Err-Short-clause-weighs g c told bytes reads =
    let here = subst (λ (h : History). bytes_at (now h) c.args.place.now ≡ Some bytes) (sym c.length.ensures.stays) reads in
    let ends = subst (λ (f : PartFault). (p : ℕ) → EndsAt f p → (p ≡ length bytes) × (p < c.args.total)) c.in-Err-Short.field-0-is (c.in-Err-Short.ensures.short told bytes here) in
    let both = ends c.in-Err-Short.field-0-0 refl in
    let at = both.0 in
    let below = both.1 in
    omega (arith, at, below)
