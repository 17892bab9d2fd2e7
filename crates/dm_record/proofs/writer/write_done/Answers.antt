use Rattle.std.proofs.Common.{◌∙◌, ap, length, refl, arith}
use Rattle.dm_record.specs.Spelling.{number}
use Rattle.dm_record.proofs.Laid.{laid}
use Rattle.dm_record.proofs.Places as places
use Rattle.dm_record.proofs.writer.write_done.Goals as goal

pub returns-clause-bytes : goal.returns-clause-bytes
unfolding number
returns-clause-bytes c =
    let id = c.copy_from_slice.ensures.after ∙ c.to_be_bytes.ensures in
    let digest = c.copy_from_slice-2.ensures.after in
    let time = c.copy_from_slice-3.ensures.after ∙ c.to_be_bytes-2.ensures in
    laid c.copy_from_slice.new.self c.copy_from_slice-2.new.self c.copy_from_slice-3.new.self (ap length id) (ap length digest ∙ c.told-digest) (ap length time) ∙ rw (id, digest, time) refl

pub returns-clause-entry : goal.returns-clause-entry
returns-clause-entry c = (tt, (omega arith, (c.told-digest, places.are_bytes c.args.digest.now c.fits-digest), omega arith))
