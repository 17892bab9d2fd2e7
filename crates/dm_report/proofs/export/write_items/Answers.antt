use Rattle.std.proofs.Common.{◌+◌, take}
use Rattle.csv.specs.Writing.{text_written}
use Rattle.dm_report.specs.Csv.{csv_row, csv_rows, fields_of}
use Rattle.dm_report.proofs.Pieces.{appends_none, appends_then, rows_more}
use Rattle.dm_report.proofs.export.write_items.Goals as goal

pub loop-item-init : goal.loop-item-init
loop-item-init g c = record { ready = c.requires; text = appends_none (text_written g.W.Write.contents c.args.writer.now) }

pub loop-item-preserved : goal.loop-item-preserved
loop-item-preserved g c = record {
  ready = c.in_ok-write_item.ensures.ready;
  text = appends_then (text_written g.W.Write.contents c.args.writer.now) (text_written g.W.Write.contents c.loop-item.writer) (text_written g.W.Write.contents c.write_item.new.writer)
      (csv_rows (take c.loop-item.item-index c.args.items.now)) (csv_row (fields_of c.item-item.result)) (csv_rows (take (c.loop-item.item-index + 1) c.args.items.now))
      (rows_more c.args.items.now c.loop-item.item-index c.item-item.result c.loop-item-test.true c.item-item.is) c.loop-item.invariant.text c.in_ok-write_item.ensures.text;
}
