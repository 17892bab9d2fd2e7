use Rattle.std.proofs.Common.{◌≡◌}
use Rattle.percent_encoding.specs.Percent.{percent_decode}
use Rattle.dm_disposition.proofs.TextLemmas.{extended_is}
use Rattle.dm_disposition.proofs.extended.extended_of.Goals as goal

pub returns-in_default : goal.returns-in_default
returns-in_default c = λ chars x. c.in_default.ensures.none x.charset x.encoded x.parts

pub returns : goal.returns
returns c =
    let are : c.append_to.new.out.items ≡ percent_decode c.in-Some.encoded.now = rw (c.in_ok-append_to.ensures.ok, c.new-bytes.ensures.items) c.percent_decode.ensures.bytes in
    extended_is c.args.text.now c.in-Some.charset.now c.in-Some.encoded.now c.append_to.new.out.items c.in_charset.result c.in-Some.ensures.found are c.in_charset.ensures
