use Rattle.std.proofs.Common.{sym, subst, ◌∙◌, arith, Option, ℕ}
use Rattle.std.proofs.lemmas.Bool.{false≢true}
use Rattle.dm_edge.specs.Part.{AgreesWith}
use Rattle.dm_head.proofs.PartLemmas.{one_named}
use Rattle.dm_head.proofs.part.asked_part.Goals as goal
use Rattle.dm_head.proofs.part.asked_part.Goals.{else-is_asked-via-then-is_asked+else-has_tag, else-is_asked-via-else-is_asked}

pub returns-else-is_asked-clause-none : goal.returns-else-is_asked-clause-none
returns-else-is_asked-clause-none c = λ to total asked.
    elim c.else-is_asked.branch [
      | else-is_asked-via-then-is_asked+else-has_tag w ↦ false≢true (sym w.if-has_tag.false ∙ w.has_tag.ensures.1 asked.strong)
      | else-is_asked-via-else-is_asked w ↦
          let same = one_named c.in-Some.ensures.found asked.names in
          false≢true (sym w.if-is_asked.false ∙ c.is_asked.ensures.1 (
            same.first_is,
            omega (arith, same.to_is, asked.within),
            subst (AgreesWith c.args.known) (sym same.total_is) asked.agrees,
          ))
    ]

pub returns-in-None-clause-none : goal.returns-in-None-clause-none
returns-in-None-clause-none c = λ to total asked. c.in-None.ensures.none c.args.first to total asked.names
