use Rattle.std.proofs.Common.{◌≡◌, subst}
use Rattle.std.specs.Prelude.{IfOk}
use Rattle.dm_report.specs.declared.verdict.Verdict.{Verdict}
use Rattle.dm_response.specs.declared.reply.ApiReply.{ApiReply}
use Rattle.dm_service.specs.Replies.{row_told, trouble_by}
use Rattle.dm_service.proofs.reply.row_reply.Goals as goal

pub returns : goal.returns
returns c = subst (λ (verdict : Verdict). IfOk c.show_by.result (λ (reply : ApiReply). reply ≡ row_told c.args.row.now (trouble_by verdict))) c.add_by_row.ensures c.show_by.ensures
