use Rattle.std.proofs.Common.{◌≡◌, sym, ap, ◌∙◌, None}
use Rattle.dm_reply.specs.Content.{Reader}
use Rattle.dm_reply.proofs.PartLemmas.{whole_answer, whole_leaves, whole_all}
use Rattle.dm_reply.proofs.reader.ReplyReader.next.Goals as goal

pub returns-in-None-clause-says : goal.returns-in-None-clause-says
returns-in-None-clause-says g c tells wanted head content has =
    let none : c.args.self.now.size ≡ None = sym (ap (λ (r : Reader). r.size) c.self.view_is) ∙ c.in-None.is in
    whole_answer wanted head (g.W.Wire.told c.framed.new.wire) c.args.self.now c.framed.new.self c.framed.result c.framed.new.buf content
    (g.W.Wire.told c.args.wire.now).given has none (c.framed.ensures.same.size ∙ none) (c.framed.ensures.says tells wanted head content has.framed)

pub returns-in-None-clause-unfinished : goal.returns-in-None-clause-unfinished
returns-in-None-clause-unfinished g c tells wanted head content has =
    let none : c.args.self.now.size ≡ None = sym (ap (λ (r : Reader). r.size) c.self.view_is) ∙ c.in-None.is in
    whole_leaves wanted head c.args.self.now c.framed.result content (g.W.Wire.told c.args.wire.now).given (g.W.Wire.told c.framed.new.wire).given has none
    (c.framed.ensures.unfinished tells wanted head content has.framed)

pub returns-in-None-clause-all : goal.returns-in-None-clause-all
returns-in-None-clause-all g c =
    let none : c.args.self.now.size ≡ None = sym (ap (λ (r : Reader). r.size) c.self.view_is) ∙ c.in-None.is in
    whole_all c.args.self.now c.framed.result none c.framed.ensures.all
