use Rattle.std.proofs.Common.{◌≡◌, None, false, refl, subst}
use Rattle.std.specs.Prelude.{IfOk}
use Rattle.std.specs.Option.{option_copied}
use Rattle.dm_response.specs.Reply.{reply_of}
use Rattle.dm_response.specs.declared.reply.ApiReply.{ApiReply}
use Rattle.dm_response.specs.declared.reply.Media.TheVariants.{Json}
use Rattle.dm_service.specs.Replies.{shown}
use Rattle.dm_service.proofs.reply.shown.Goals as goal

pub returns-in_ok-text-in-Some : goal.returns-in_ok-text-in-Some
returns-in_ok-text-in-Some c =
    let is : reply_of 200 Json None c.in_ok-text-in-Some.text false ≡ shown (option_copied c.args.item) = rw (c.in-Some.is, c.in_ok-text-in-Some.ensures) refl in
    subst (λ (expected : ApiReply). IfOk c.tell.result (λ reply. reply ≡ expected)) is c.tell.ensures
