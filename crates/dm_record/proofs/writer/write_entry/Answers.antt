use Rattle.dm_record.proofs.Lengths.{written-at_most}
use Rattle.dm_record.proofs.writer.write_entry.Goals as goal

pub returns-clause-length : goal.returns-clause-length
returns-clause-length c = written-at_most c.args.entry.now c.bytes_of.result c.bytes_of.ensures.bytes c.bytes_of.ensures.entry
