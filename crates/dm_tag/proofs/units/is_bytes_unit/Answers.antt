use Rattle.dm_tag.proofs.ReadLemmas.{unit_from, unit_after, unit_none}
use Rattle.dm_tag.proofs.units.is_bytes_unit.Goals as goal

pub returns-in-Some : goal.returns-in-Some
returns-in-Some c =
    let cut = c.cut_blanks.ensures in
    let begins = c.in-Some.ensures.found in (
      λ t. unit_from c.args.piece.now c.cut_blanks.result.0.now c.cut_blanks.result.1.now c.in-Some.after.now cut begins (c.are_blank.ensures.0 t),
      λ u. c.are_blank.ensures.1 (unit_after c.args.piece.now c.cut_blanks.result.0.now c.cut_blanks.result.1.now c.in-Some.after.now cut begins u),
    )

pub returns-in-None : goal.returns-in-None
returns-in-None c = (
  λ t. absurd cc,
  λ u. absurd (unit_none c.args.piece.now c.cut_blanks.result.0.now c.cut_blanks.result.1.now c.cut_blanks.ensures c.in-None.ensures.none u),
)
