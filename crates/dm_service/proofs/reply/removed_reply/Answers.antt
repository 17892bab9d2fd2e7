use Rattle.std.proofs.Common.{◌≡◌, None, false, refl, subst}
use Rattle.std.specs.Prelude.{IfOk}
use Rattle.dm_response.specs.Reply.{reply_of}
use Rattle.dm_response.specs.declared.reply.ApiReply.{ApiReply}
use Rattle.dm_response.specs.declared.reply.Media.TheVariants.{Json}
use Rattle.dm_service.specs.Replies.{removed_reply}
use Rattle.dm_service.proofs.reply.removed_reply.Goals as goal

pub returns : goal.returns
returns c =
    let is : reply_of 200 Json None c.in_ok-text.text false ≡ removed_reply c.args.id = rw (c.in_ok-text.ensures, c.in_ok-value.ensures) refl in
    subst (λ (expected : ApiReply). IfOk c.tell.result (λ reply. reply ≡ expected)) is c.tell.ensures
