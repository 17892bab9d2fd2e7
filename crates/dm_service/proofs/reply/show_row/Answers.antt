use Rattle.std.proofs.Common.{◌≡◌, ℕ, List, None, false, ap, subst}
use Rattle.std.specs.Prelude.{IfOk}
use Rattle.dm_response.specs.Reply.{reply_of}
use Rattle.dm_response.specs.declared.reply.ApiReply.{ApiReply}
use Rattle.dm_response.specs.declared.reply.Media.TheVariants.{Json}
use Rattle.dm_service.specs.Replies.{row_told}
use Rattle.dm_service.proofs.reply.show_row.Goals as goal

pub returns : goal.returns
returns c =
    let is : reply_of 200 Json None c.in_ok-text.text false ≡ row_told c.args.row.now None = ap (λ (content : List ℕ). reply_of 200 Json None content false) c.in_ok-text.ensures in
    subst (λ (expected : ApiReply). IfOk c.tell.result (λ reply. reply ≡ expected)) is c.tell.ensures
