use Rattle.std.proofs.Common.{sym, subst}
use Rattle.std.proofs.lemmas.Bool.{both_ways}
use Rattle.dm_types.specs.Bytes.{Each}
use Rattle.dm_disposition.specs.Bytes.{is_token_byte}
use Rattle.dm_disposition.specs.Told.{is_no_quote, AreChars}
use Rattle.dm_disposition.proofs.TextLemmas.{no_quote_within, ext_first, ext_second}
use Rattle.dm_disposition.proofs.extended.parts_of.Goals as goal

pub returns-in_err-charset-clause-none : goal.returns-in_err-charset-clause-none
returns-in_err-charset-clause-none c = rw c.from_residual.ensures (λ charset chars x.
    no_quote_within charset _ (subst (Each is_no_quote) x.parts c.in_err-charset.ensures.none))

pub returns-in_err-language-clause-none : goal.returns-in_err-language-clause-none
returns-in_err-language-clause-none c = rw c.from_residual-in_err-language.ensures (λ charset chars x.
    let found = c.in_ok-charset.ensures.found in
    let first = ext_first c.args.text.now c.in_ok-charset.charset.now c.in_ok-charset.rest.now charset chars found.0 found.1 x in
    no_quote_within x.language chars (subst (Each is_no_quote) first.1 c.in_err-language.ensures.none))

pub returns-else-is_tail-clause-none : goal.returns-else-is_tail-clause-none
returns-else-is_tail-clause-none c = λ charset chars x.
    let found = c.in_ok-charset.ensures.found in
    let first = ext_first c.args.text.now c.in_ok-charset.charset.now c.in_ok-charset.rest.now charset chars found.0 found.1 x in
    let behind = c.in_ok-language.ensures.found in
    let second = ext_second c.in_ok-charset.rest.now c.in_ok-language.language.now c.in_ok-language.chars.now x.language chars behind.0 behind.1 first.1 x.no_quote in
    both_ways c.is_tail.result c.if-is_tail.false (c.is_tail.ensures.1 (subst (Each is_token_byte) (sym second.0) x.tokens, subst AreChars (sym second.1) x.are))
