use Rattle.dm_report.specs.Texts.{item_line_of}
use Rattle.dm_list.proofs.Texts.{interrupted_text, no_memory_text}
use Rattle.dm_list.proofs.saying.interrupted.Goals as goal

pub returns-in-NoMemory : goal.returns-in-NoMemory
returns-in-NoMemory c = no_memory_text c.args.reason (item_line_of c.args.item.now) c.fixed.result c.in-NoMemory.is c.fixed.ensures

pub returns-in_default : goal.returns-in_default
returns-in_default c =
    interrupted_text c.args.reason c.item_line.result (item_line_of c.args.item.now) c.with_text.result c.in_default.not-NoMemory c.with_text.ensures c.item_line.ensures
