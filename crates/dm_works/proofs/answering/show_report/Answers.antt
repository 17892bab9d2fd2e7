use Rattle.std.proofs.Common.{◌≡◌, subst}
use Rattle.std.specs.Prelude.{IfOk}
use Rattle.dm_item.specs.Listing.{Listing}
use Rattle.dm_response.specs.declared.reply.ApiReply.{ApiReply}
use Rattle.dm_service.specs.Replies.{report_by}
use Rattle.dm_works.proofs.answering.show_report.Goals as goal

pub returns : goal.returns
returns g c = subst (λ (list : Listing). IfOk c.report_reply.result (λ (reply : ApiReply). reply ≡ report_by list.items)) c.items.ensures.items c.report_reply.ensures
