use Rattle.std.proofs.Common.{sym, ◌∙◌, subst}
use Rattle.dm_item.specs.Listing.{Listing}
use Rattle.dm_report.specs.Said.{EndsAs}
use Rattle.dm_does.specs.Doing.{does}
use Rattle.dm_does.specs.Saying.{said_by}
use Rattle.dm_does.proofs.Decisions.{given_of}
use Rattle.dm_list.proofs.Going.{decided_may, decided_origin}
use Rattle.dm_list.proofs.working.work.Goals as goal

pub bring-onward-requires-clause-may : goal.bring-onward-requires-clause-may
bring-onward-requires-clause-may g c = decided_may c.args.job c.args.at c.args.desk.now c.decide-decided.new.desk c.decide-decided.result c.requires.fits c.requires.whole c.decide-decided.ensures.decides

pub bring-onward-requires-clause-origin : goal.bring-onward-requires-clause-origin
bring-onward-requires-clause-origin g c =
    c.requires.origin ∙ sym (decided_origin (does c.args.job (given_of c.args.desk.now c.args.at)) c.args.desk.now c.decide-decided.new.desk c.decide-decided.result c.decide-decided.ensures.decides)

pub returns : goal.returns
returns g c = record {
  course = c.decide-decided.result;
  decided = c.decide-decided.new.desk;
  decides = c.decide-decided.ensures.decides;
  desk = c.decide-decided.ensures.kept;
  own = c.decide-decided.ensures.goes;
  shows = c.decide-decided.ensures.shows;
  onward = c.bring-onward.result;
  between = c.bring-onward.new.desk;
  brings = c.bring-onward.ensures.brings;
  net_later = c.bring-onward.ensures.later;
  unfailed = c.items.ensures.kept.failed;
  says_is = subst (λ (v : Listing). EndsAs (said_by v.items c.bring-onward.result) c.say-ending.result) c.items.ensures.items c.say-ending.ensures.says;
  fails = c.say-ending.ensures.fails;
  went = c.sweep_if.ensures.went;
  stays = c.sweep_if.ensures.stays;
  behind = c.sweep_if.ensures.goes;
  swept = λ is. c.sweep_if.ensures.swept (c.sweeps-sweeps.ensures ∙ is);
}
