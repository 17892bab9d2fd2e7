use Rattle.std.proofs.Common.{List, map, subst, ◌∙◌}
use Rattle.std.specs.List.{AllByRecursion}
use Rattle.dm_disposition.specs.Names.{Named, IsSpelled, AreApart, IsFirstRepeat}
use Rattle.dm_disposition.specs.Told.{PlainOf, ExtendedOf}
use Rattle.dm_disposition.specs.Views.{named, view}
use Rattle.dm_disposition.specs.declared.notes.Parameter.{Parameter}
use Rattle.dm_disposition.proofs.FieldLemmas.{refused_answers, refused_judges, some_field, each_field, tells}
use Rattle.dm_disposition.proofs.read_disposition.Goals as goal

pub returns-in-Err-clause-answers : goal.returns-in-Err-clause-answers
returns-in-Err-clause-answers c = λ field spells. refused_answers c.args.value.now field c.in-Err.fault c.in-Err.ensures spells

pub returns-in-Err-clause-judges : goal.returns-in-Err-clause-judges
returns-in-Err-clause-judges c = refused_judges c.args.value.now c.in-Err.fault c.in-Err.ensures

pub returns-in-Some-clause-answers : goal.returns-in-Some-clause-answers
returns-in-Some-clause-answers c = λ field spells.
    let repeat = subst (λ (ps : List Parameter). IsFirstRepeat (map named ps) c.in-Some.place) c.as_slice-parameters.ensures.value c.in-Some.ensures.some in
    subst (λ (ns : List Named). IsFirstRepeat ns c.in-Some.place) (each_field c.args.value.now (view c.in-Ok.notes) field c.in-Ok.ensures spells).1 repeat

pub returns-in-Some-clause-judges : goal.returns-in-Some-clause-judges
returns-in-Some-clause-judges c = some_field c.args.value.now (view c.in-Ok.notes) c.in-Ok.ensures

pub returns-clause-answers : goal.returns-clause-answers
returns-clause-answers c = λ field spells.
    let at = c.as_slice-parameters.ensures.value in
    tells c.args.value.now (view c.in-Ok.notes) field _ c.in-Ok.ensures spells
    (subst (λ (ps : List Parameter). AreApart (map named ps)) at c.in_default.ensures.none)
    (c.in_ok-kind.ensures ∙ c.as_slice.ensures.value)
    (subst (λ (ps : List Parameter). AllByRecursion IsSpelled (map named ps) → PlainOf (map named ps) c.in_ok-plain.plain) at c.in_ok-plain.ensures)
    (subst (λ (ps : List Parameter). AreApart (map named ps) → ExtendedOf (map named ps) c.in_ok-extended.extended) at c.in_ok-extended.ensures)

pub returns-clause-judges : goal.returns-clause-judges
returns-clause-judges c = some_field c.args.value.now (view c.in-Ok.notes) c.in-Ok.ensures
