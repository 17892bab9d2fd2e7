use Rattle.std.proofs.Common.{◌≡◌, ◌∙◌, ◌+◌, ◌<◌, ◌++◌, ℕ, List, length, length-drop, length-take, take, drop, sym, ap, subst, arith}
use Rattle.dm_call.specs.declared.request.ApiRequest.{ApiRequest}
use Rattle.dm_hear.specs.Heard.{IsCut, IsFaultOf, IsRequest}
use Rattle.dm_hear.specs.Held.{Came, request_at}
use Rattle.dm_hear.proofs.Hearing.{came_more, heard_cut, heard_err, heard_ok, written_over}
use Rattle.dm_hear.proofs.read.read_api.Goals as goal

pub returns-in-Whole-clause-heard : goal.returns-in-Whole-clause-heard
returns-in-Whole-clause-heard g c = λ tells.
    let S = g.X.Source in
    let filled = c.loop-parts.filled in
    let left = (S.told c.loop-parts.source).left in
    let request = c.in_ok-make_request-in-Whole.field-0 in
    let judged = subst (λ (b : List ℕ). IsRequest (take filled b ++ left) (request_at (take filled b) c.in-Whole.parts)) c.deref.ensures.value (c.in-Whole.ensures.0 left) in
    let same = subst (λ (b : List ℕ). request ≡ request_at (take filled b) c.in-Whole.parts) c.deref-in-Whole.ensures.value c.in_ok-make_request-in-Whole.ensures in
    heard_ok (S.told c.args.source.now) (S.told c.loop-parts.source) (take filled c.loop-parts.buf.items) request (c.loop-parts.invariant.came tells)
    (subst (λ (r : ApiRequest). IsRequest (take filled c.loop-parts.buf.items ++ left) r) (sym same) judged)

pub returns-in-Refused-clause-heard : goal.returns-in-Refused-clause-heard
returns-in-Refused-clause-heard g c = λ tells.
    let S = g.X.Source in
    let filled = c.loop-parts.filled in
    let left = (S.told c.loop-parts.source).left in
    let judged = subst (λ (b : List ℕ). IsFaultOf (take filled b ++ left) c.in-Refused.fault) c.deref.ensures.value (c.in-Refused.ensures.1 left) in
    heard_err (S.told c.args.source.now) (S.told c.loop-parts.source) (take filled c.loop-parts.buf.items) c.in-Refused.fault (c.loop-parts.invariant.came tells) judged

pub returns-in-Ok-eq0-clause-heard : goal.returns-in-Ok-eq0-clause-heard
returns-in-Ok-eq0-clause-heard g c = λ tells.
    let S = g.X.Source in
    let filled = c.loop-parts.filled in
    let cut = subst (λ (b : List ℕ). IsCut (take filled b)) c.deref.ensures.value c.in-More.ensures.1 in
    let short : length (take filled c.loop-parts.buf.items) < 16384 = subst (λ (b : List ℕ). length (take filled b) < 16384) c.deref.ensures.value c.in-More.ensures.0 in
    let room : length c.read_more.new.buf ≡ length c.loop-parts.buf.items = c.read_more.ensures.room ∙ ap length c.deref_mut.ensures.value in
    let some : 0 < length (drop filled c.read_more.new.buf) =
    omega (arith, short, room, c.loop-parts.invariant.room, length-take filled c.loop-parts.buf.items, length-drop filled c.read_more.new.buf) in
    heard_cut (S.told c.args.source.now) (S.told c.loop-parts.source) (S.told c.read_more.new.source) (take filled c.loop-parts.buf.items) (drop filled c.read_more.new.buf) c.in-Ok-eq0.field-0 c.in-Ok-eq0.field-0-test
    (c.loop-parts.invariant.came tells) (c.in-Ok-eq0.ensures.given tells) some cut

pub loop-parts-preserved : goal.loop-parts-preserved
loop-parts-preserved g c =
    let S = g.X.Source in
    let was = c.loop-parts.invariant in
    let filled = c.loop-parts.filled in
    let items = c.loop-parts.buf.items in
    let new = c.read_more.new.buf in
    let size = c.in-Ok.size in
    let room : length new ≡ length items = c.read_more.ensures.room ∙ ap length c.deref_mut.ensures.value in
    let len : length items ≡ c.loop-parts.buf.len = subst (λ (b : List ℕ). length b ≡ c.loop-parts.buf.len) c.deref.ensures.value c.deref.ensures.len in
    let over = written_over new items c.loop-parts.buf.len room len in
    let kept : take filled new ≡ take filled items = c.read_more.ensures.kept ∙ ap (take filled) c.deref_mut.ensures.value in
    record {
      room = ap length over ∙ room ∙ was.room;
      filled = omega (arith, c.in-Ok.ensures.within, ap length c.deref_mut.ensures.value, was.room, was.filled, length-drop filled c.deref_mut.result.now);
      came = λ tells. subst (λ (b : List ℕ). Came (S.told c.args.source.now) (S.told c.read_more.new.source) (take (filled + size) b)) (sym over)
          (came_more (S.told c.args.source.now) (S.told c.loop-parts.source) (S.told c.read_more.new.source) items new filled size (was.came tells) kept (c.in-Ok.ensures.given tells));
      later = λ kind. omega (arith, was.later kind, c.read_more.ensures.cause.later kind);
    }
