use Rattle.std.proofs.Common.{◌≡◌, false, refl, subst}
use Rattle.std.specs.Prelude.{IfOk}
use Rattle.dm_response.specs.Reply.{reply_of, trouble_of}
use Rattle.dm_response.specs.declared.reply.ApiReply.{ApiReply}
use Rattle.dm_response.specs.declared.reply.Media.TheVariants.{Json}
use Rattle.dm_response.proofs.trouble.trouble_reply.Goals as goal

pub returns : goal.returns
returns c =
    let is : reply_of c.status.result Json c.target.result c.bytes.result.now false ≡ trouble_of c.args.trouble =
    rw (c.status.ensures, c.target.ensures, c.bytes.ensures, c.in_ok-text.ensures, c.in_ok-value.ensures) refl in
    subst (λ (expected : ApiReply). IfOk c.reply_with.result (λ reply. reply ≡ expected)) is c.reply_with.ensures
