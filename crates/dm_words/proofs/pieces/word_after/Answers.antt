use Rattle.std.proofs.Common.{refl, ◌∙◌}
use Rattle.std.proofs.lemmas.Bool.{false≢true}
use Rattle.dm_words.proofs.MorePieces.{after_found, after_passed}
use Rattle.dm_words.proofs.Texts.{one_first}
use Rattle.dm_words.proofs.pieces.word_after.Goals as goal

pub returns-then-is : goal.returns-then-is
returns-then-is c =
    let are = one_first c.loop-rest.rest.now c.word-item.result c.in-len1-up.len_at_least c.word-item.is in
    c.first_of.ensures ∙ after_found c.args.option.now c.loop-rest.rest.now _ c.word-item.result are (c.if-is.ensures.0 refl) ∙ c.loop-rest.invariant

pub loop-rest-preserved : goal.loop-rest-preserved
loop-rest-preserved c =
    let are = one_first c.loop-rest.rest.now c.word-item.result c.in-len1-up.len_at_least c.word-item.is in
    after_passed c.args.option.now c.loop-rest.rest.now _ c.word-item.result are (λ same. false≢true (c.if-is.ensures.1 same)) ∙ c.loop-rest.invariant
