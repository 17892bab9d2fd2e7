-- The course that a job takes, by the answer of the desk's call. A broken desk gives none.
use Rattle.std.specs.Prelude.{Result, Ok, Err}
use Rattle.dm_report.specs.declared.verdict.Verdict.TheVariants as verdicts
use Rattle.dm_answers.specs.declared.fault.DeskFault.{DeskFault}
use Rattle.dm_answers.specs.declared.fault.DeskFault.TheVariants as faults
use Rattle.dm_answers.specs.declared.order.Taken.{Taken}
use Rattle.dm_answers.specs.declared.order.Taken.TheVariants.{New, Same}
use Rattle.dm_does.specs.declared.course.Course.{Course}
use Rattle.dm_does.specs.declared.course.Course.TheVariants.{Ends}
use Rattle.dm_does.specs.declared.course.Show.TheVariants.{Line}
use Rattle.dm_does.specs.Deciding.{course_of_fault}
use Rattle.dm_works.specs.declared.deciding.Broken.{Broken}

abbrev pub course_of_refusal : DeskFault → Result Course Broken
course_of_refusal faults.Broken = Err (record {})
course_of_refusal fault = Ok (course_of_fault fault)

abbrev pub course_by : Course → Result (Unit {0}) DeskFault → Result Course Broken
course_by course (Ok done) = Ok course
course_by course (Err fault) = course_of_refusal fault

abbrev pub course_by_order : Result Taken DeskFault → Result Course Broken
course_by_order (Ok (New id)) = Ok (Ends verdicts.Done (Line id))
course_by_order (Ok (Same id)) = Ok (Ends verdicts.Done (Line id))
course_by_order (Err fault) = course_of_refusal fault
