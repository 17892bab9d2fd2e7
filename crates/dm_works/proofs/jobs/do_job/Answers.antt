use Rattle.dm_works.proofs.Replying.{job_answered, job_refused}
use Rattle.dm_works.proofs.jobs.do_job.Goals as goal

pub returns-in-Ok-clause-answers : goal.returns-in-Ok-clause-answers
returns-in-Ok-clause-answers g c =
    job_answered g.D.Disk.faults c.args.desk.now c.decide.new.desk c.args.job c.args.now c.reply_to.result c.in-Ok.course c.removed_id-removed.result c.items.result.now _ c.in-Ok.ensures.decides c.removed_id-removed.ensures c.items.ensures.items c.item_of.ensures c.reply_to.ensures

pub returns-in-Err-clause-answers : goal.returns-in-Err-clause-answers
returns-in-Err-clause-answers g c = job_refused g.D.Disk.faults c.args.desk.now c.decide.new.desk c.args.job c.args.now c.trouble_reply.result c.in-Err.ensures.decides c.trouble_reply.ensures
