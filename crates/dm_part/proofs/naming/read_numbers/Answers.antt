use Rattle.dm_part.proofs.Names.{cut_numbers, no_cut}
use Rattle.dm_part.proofs.naming.read_numbers.Goals as goal

pub returns-in-None-clause-none : goal.returns-in-None-clause-none
returns-in-None-clause-none c first second small less is = no_cut c.args.text.now c.in-None.ensures.none first second is

pub returns-in-None-read_number-clause-none : goal.returns-in-None-read_number-clause-none
returns-in-None-read_number-clause-none c first second small less is =
    c.in-None-read_number.ensures.none first small (cut_numbers c.args.text.now c.in-Some.parts.0.now c.in-Some.parts.1.now c.in-Some.ensures.some c.in-Some.ensures.first first second small is).0

pub returns-in-None-read_number-2-clause-none : goal.returns-in-None-read_number-2-clause-none
returns-in-None-read_number-2-clause-none c first second small less is =
    c.in-None-read_number-2.ensures.none second less (cut_numbers c.args.text.now c.in-Some.parts.0.now c.in-Some.parts.1.now c.in-Some.ensures.some c.in-Some.ensures.first first second small is).1
