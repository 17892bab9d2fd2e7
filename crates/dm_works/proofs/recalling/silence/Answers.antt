use Rattle.std.proofs.Common.{◌≡◌, subst}
use Rattle.std.specs.Prelude.{IfOk}
use Rattle.dm_response.specs.Reply.{trouble_of}
use Rattle.dm_response.specs.declared.reply.ApiReply.{ApiReply}
use Rattle.dm_response.specs.declared.trouble.Trouble.{Trouble}
use Rattle.dm_works.proofs.recalling.silence.Goals as goal

pub returns : goal.returns
returns c = subst (λ (trouble : Trouble). IfOk c.trouble_reply.result (λ (reply : ApiReply). reply ≡ trouble_of trouble)) c.trouble_of_keeper.ensures c.trouble_reply.ensures
