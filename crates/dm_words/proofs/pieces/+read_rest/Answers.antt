use Rattle.std.proofs.Common.{◌-◌, ℕ, List, ap, arith, drop, length, refl, subst, sym, take}
use Rattle.std.specs.Option.{option_copied}
use Rattle.std.proofs.lemmas.Bool.{false≢true}
use Rattle.std.proofs.lemmas.Option.{IfSome_then}
use Rattle.dm_words.specs.Reading.{SaysRest}
use Rattle.dm_words.proofs.MorePieces.{met_operand, since_operand, met_option, since_option, rest_done}
use Rattle.dm_words.proofs.Texts.{empty_words, if_none, one_first}
use Rattle.dm_words.proofs.pieces.+read_rest.Goals as goal

pub returns-in-None-clause-some : goal.returns-in-None-clause-some
returns-in-None-clause-some t c =
    let are = one_first c.args.words.now c.first-item.result c.in-len1-up.len_at_least c.first-item.is in
    IfSome_then c.read_rest.result c.read_rest.ensures.some (λ all says.
    met_operand c.args.name (option_copied c.args.operand) c.args.words.now _ c.first-item.result c.bytes-word.result.now (option_copied all) (ap option_copied c.in-None.is) are c.bytes-word.ensures (c.if-is_operand.ensures.0 refl) says)

pub returns-in-None-clause-none : goal.returns-in-None-clause-none
returns-in-None-clause-none t c =
    let are = one_first c.args.words.now c.first-item.result c.in-len1-up.len_at_least c.first-item.is in
    if_none c.read_rest.result _ _ c.read_rest.ensures.none (λ none all says.
    none all (since_operand c.args.name (option_copied c.args.operand) c.args.words.now _ c.first-item.result c.bytes-word.result.now all (ap option_copied c.in-None.is) are c.bytes-word.ensures (c.if-is_operand.ensures.0 refl) says))

pub returns-in-empty-clause-some : goal.returns-in-empty-clause-some
returns-in-empty-clause-some t c =
    subst (λ (l : List (List ℕ)). SaysRest c.args.name (option_copied c.args.operand) l (option_copied c.args.operand)) (sym (empty_words c.args.words.now (grind arith))) (rest_done c.args.name (option_copied c.args.operand))

pub returns-then-is_setting-clause-some : goal.returns-then-is_setting-clause-some
returns-then-is_setting-clause-some t c =
    let rest = take (length c.args.words.now - 1) (drop 1 c.args.words.now) in
    let are = one_first c.args.words.now c.first-item.result c.in-len1-up.len_at_least c.first-item.is in
    let next = one_first rest c.value-item.result c.in-len1-up-rest.len_at_least c.value-item.is in
    IfSome_then c.read_rest-then-is_setting.result c.read_rest-then-is_setting.ensures.some (λ all says.
    met_option c.args.name (option_copied c.args.operand) c.args.words.now rest _ c.first-item.result c.value-item.result (option_copied all) are next (c.if-is_setting.ensures.0 refl) says)

pub returns-then-is_setting-clause-none : goal.returns-then-is_setting-clause-none
returns-then-is_setting-clause-none t c =
    let rest = take (length c.args.words.now - 1) (drop 1 c.args.words.now) in
    let are = one_first c.args.words.now c.first-item.result c.in-len1-up.len_at_least c.first-item.is in
    let next = one_first rest c.value-item.result c.in-len1-up-rest.len_at_least c.value-item.is in
    if_none c.read_rest-then-is_setting.result _ _ c.read_rest-then-is_setting.ensures.none (λ none all says.
    let first = since_option c.args.name (option_copied c.args.operand) c.args.words.now rest _ c.first-item.result c.bytes-word.result.now c.value-item.result all are next c.bytes-word.ensures (λ good. absurd (false≢true (c.if-is_operand.ensures.1 good))) says in
    none all first.says)

pub returns-else-is_setting-clause-none : goal.returns-else-is_setting-clause-none
returns-else-is_setting-clause-none t c =
    let rest = take (length c.args.words.now - 1) (drop 1 c.args.words.now) in
    let are = one_first c.args.words.now c.first-item.result c.in-len1-up.len_at_least c.first-item.is in
    let next = one_first rest c.value-item.result c.in-len1-up-rest.len_at_least c.value-item.is in
    λ all says.
    let first = since_option c.args.name (option_copied c.args.operand) c.args.words.now rest _ c.first-item.result c.bytes-word.result.now c.value-item.result all are next c.bytes-word.ensures (λ good. absurd (false≢true (c.if-is_operand.ensures.1 good))) says in
    absurd (false≢true (c.if-is_setting.ensures.1 first.sets))
