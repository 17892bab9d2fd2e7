use Rattle.dm_tag.specs.declared.range.ContentRange.TheVariants.{Part}
use Rattle.dm_head.proofs.PartLemmas.{place_of, unsatisfied_no_part}
use Rattle.dm_head.proofs.part.part_in.Goals as goal

pub returns-in-Some-Part-clause-place : goal.returns-in-Some-Part-clause-place
returns-in-Some-Part-clause-place c =
    let found = rw c.in-Some-Part.field-0-is at c.in-Some-Part.ensures.found in
    place_of c.args.value.now c.in-Some-Part.first c.in-Some-Part.last c.in-Some-Part.total found

pub returns-in-Some-Unsatisfied-clause-none : goal.returns-in-Some-Unsatisfied-clause-none
returns-in-Some-Unsatisfied-clause-none c = λ first to total is.
    let found = rw c.in-Some-Unsatisfied.field-0-is at c.in-Some-Unsatisfied.ensures.found in
    unsatisfied_no_part c.args.value.now c.in-Some-Unsatisfied.field-0-0 first to total found is

pub returns-in-None-clause-none : goal.returns-in-None-clause-none
returns-in-None-clause-none c = λ first to total is. c.in-None.ensures.none (Part first to total) is
