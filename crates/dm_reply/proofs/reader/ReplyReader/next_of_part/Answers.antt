use Rattle.std.proofs.Common.{◌<◌, ◌≤◌, ℕ, ◌++◌, drop, Option, IfSome, IfErr, IsTrue, sym, ap, ◌∙◌, subst, Result, arith}
use Rattle.std.proofs.lemmas.List.{length-take}
use Rattle.dm_policy.specs.declared.cause.Cause.{Cause}
use Rattle.dm_edge.specs.Begins.{most_content}
use Rattle.dm_reply.specs.declared.got.Got.{Got}
use Rattle.dm_reply.specs.Content.{Reader, ContentSays, EndsAll}
use Rattle.dm_reply.specs.Part.{part_answer}
use Rattle.dm_reply.specs.Steps.{settled_reader, ShowsWant}
use Rattle.dm_reply.specs.Unfinished.{LeavesContent}
use Rattle.dm_reply.proofs.PartLemmas.{LacksBytes, part_whole, part_all, part_never, part_says, part_leaves, part_own, part_wants}
use Rattle.dm_reply.proofs.ReadsLemmas.{reads_none}
use Rattle.dm_edge.specs.Causes.{is_content_cause}
use Rattle.dm_reply.proofs.reader.ReplyReader.next_of_part.Goals as goal

pub returns-then-given-size-clause-says : goal.returns-then-given-size-clause-says
returns-then-given-size-clause-says g c tells wanted head content has =
    let all = sym (ap (λ (r : Reader). r.reading.given) c.self.view_is) ∙ c.if-given-size.true in
    (part_whole wanted head (g.W.Wire.told c.args.wire.now) c.args.self.now c.args.size content has c.requires.size all, has)

pub returns-clause-says : goal.returns-clause-says
returns-clause-says g c tells wanted head content has =
    let W = g.W.Wire in
    let given_is = ap (λ (r : Reader). r.reading.given) c.self.view_is in
    let size_is = ap (λ (r : Reader). r.size) c.self.view_is ∙ c.requires.size in
    let in_size = subst (λ (o : Option ℕ). IfSome o (λ size. (c.self.inside.given ≤ size) × (size ≤ most_content))) size_is c.self.invariant.sized in
    let new = c.framed-answer.new.self in
    let answer = c.framed-answer.result in
    let lacks : LacksBytes c.args.self.now new c.args.size = record {
      size_is = c.requires.size;
      kept = c.framed-answer.ensures.same.size;
      given = c.framed-answer.ensures.same.given;
      lacks = omega (arith, in_size.0, c.if-given-size.false, given_is);
      limit = in_size.1;
    } in
    subst (λ (r : Result Got Cause). ContentSays wanted head (W.told c.framed-answer.new.wire) (settled_reader new r) r
    (c.framed-answer.new.buf ++ drop c.least-room.result c.args.buf.now) content)
    (sym (c.part_answer.ensures ∙ ap (λ (n : ℕ). part_answer n c.args.size answer) given_is))
    (part_says wanted head (W.told c.framed-answer.new.wire) c.args.self.now new c.args.size _ _ answer c.framed-answer.new.buf
    (drop c.least-room.result c.args.buf.now) content (W.told c.args.wire.now).given has lacks c.framed-answer.ensures.keeps
    (omega (arith, c.framed-answer.auto.buf, c.least-room.ensures))
    (omega (arith, c.framed-answer.auto.buf, c.least-room.ensures, length-take {A = ℕ}, given_is))
    (c.framed-answer.ensures.says tells wanted head content has.framed))

pub returns-clause-unfinished : goal.returns-clause-unfinished
returns-clause-unfinished g c tells wanted head content has =
    let W = g.W.Wire in
    let given_is = ap (λ (r : Reader). r.reading.given) c.self.view_is in
    let size_is = ap (λ (r : Reader). r.size) c.self.view_is ∙ c.requires.size in
    let in_size = subst (λ (o : Option ℕ). IfSome o (λ size. (c.self.inside.given ≤ size) × (size ≤ most_content))) size_is c.self.invariant.sized in
    let answer = c.framed-answer.result in
    let lacks : c.args.self.now.reading.given < c.args.size = omega (arith, in_size.0, c.if-given-size.false, given_is) in
    subst (λ (r : Result Got Cause). LeavesContent wanted head (W.told c.framed-answer.new.wire).given content r)
    (sym (c.part_answer.ensures ∙ ap (λ (n : ℕ). part_answer n c.args.size answer) given_is))
    (part_leaves wanted head c.args.self.now c.args.size answer content (W.told c.args.wire.now).given (W.told c.framed-answer.new.wire).given has c.requires.size lacks
    (c.framed-answer.ensures.unfinished tells wanted head content has.framed))

pub returns-then-given-size-clause-all : goal.returns-then-given-size-clause-all
returns-then-given-size-clause-all g c =
    part_all c.args.self.now c.args.size c.requires.size (sym (ap (λ (r : Reader). r.reading.given) c.self.view_is) ∙ c.if-given-size.true)

pub returns-then-given-size-clause-reads : goal.returns-then-given-size-clause-reads
returns-then-given-size-clause-reads g c = reads_none _

pub returns-clause-all : goal.returns-clause-all
returns-clause-all g c =
    subst (EndsAll c.args.self.now) (sym c.part_answer.ensures) (part_never c.args.self.now c.self.inside.given c.args.size c.framed-answer.result)

pub returns-clause-own : goal.returns-clause-own
returns-clause-own g c =
    subst (λ (r : Result Got Cause). IfErr r (λ broke. IsTrue (is_content_cause broke))) (sym c.part_answer.ensures)
    (part_own c.self.inside.given c.args.size c.framed-answer.result c.framed-answer.ensures.own)

pub returns-clause-memory : goal.returns-clause-memory
returns-clause-memory g c =
    let W = g.W.Wire in
    subst (λ (r : Result Got Cause). IfErr r (ShowsWant (W.wants c.args.wire.now) (W.wants c.framed-answer.new.wire))) (sym c.part_answer.ensures)
    (part_wants c.self.inside.given c.args.size (W.wants c.args.wire.now) (W.wants c.framed-answer.new.wire) c.framed-answer.result c.framed-answer.ensures.memory)
