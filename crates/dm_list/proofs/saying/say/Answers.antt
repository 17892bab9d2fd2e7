use Rattle.std.proofs.Common.{Option, subst}
use Rattle.dm_types.specs.declared.item.Item.{Item}
use Rattle.dm_report.specs.Said.{EndsAs}
use Rattle.dm_does.specs.declared.course.Course.TheVariants.{Ends, Brings}
use Rattle.dm_does.specs.Saying.{said_of}
use Rattle.dm_list.proofs.Texts.{fails_course, of_course}
use Rattle.dm_list.proofs.saying.say.Goals as goal

pub returns-in-Ends-clause-says : goal.returns-in-Ends-clause-says
returns-in-Ends-clause-says c = of_course c.args.items.now.items c.args.course (Ends c.in-Ends.verdict c.in-Ends.show) c.say_end.result c.in-Ends.is c.say_end.ensures.says

pub returns-in-Ends-clause-fails : goal.returns-in-Ends-clause-fails
returns-in-Ends-clause-fails c = fails_course c.args.course (Ends c.in-Ends.verdict c.in-Ends.show) c.say_end.result c.in-Ends.is c.say_end.ensures.fails

pub returns-in-Brings-clause-says : goal.returns-in-Brings-clause-says
returns-in-Brings-clause-says c =
    of_course c.args.items.now.items c.args.course (Brings c.in-Brings.id c.in-Brings.field-1) c.brought_with.result c.in-Brings.is
    (subst (λ (f : Option Item). EndsAs (said_of f) c.brought_with.result) c.get.ensures c.brought_with.ensures)

pub returns-in-Brings-clause-fails : goal.returns-in-Brings-clause-fails
returns-in-Brings-clause-fails c = fails_course c.args.course (Brings c.in-Brings.id c.in-Brings.field-1) c.brought_with.result c.in-Brings.is tt
