use Rattle.std.proofs.Common.{◌≡◌, List, ℕ, length, take, drop, min, subst}
use Rattle.dm_conns.proofs.Coming.{cause_of, gave, received}
use Rattle.dm_conns.proofs.conn_mem.ConnMemSource.read.Goals as goal

pub returns-then-is_listed-clause-cause : goal.returns-then-is_listed-clause-cause
returns-then-is_listed-clause-cause c = rw (← c.self.view_is) (cause_of c.self.inside.calls.failed c.fail.new.self.failed c.fail.ensures.later c.fail.ensures.rose)

pub returns-clause-given : goal.returns-clause-given
returns-clause-given c =
    let s = c.self.inside in
    let n = c.feed-size.result in
    let buffer = c.feed-size.new.buf in
    let bytes = subst (λ (t : List ℕ). take n buffer ≡ take n (drop s.given t)) c.bytes.ensures c.feed-size.ensures.bytes in
    let size = subst (λ (t : List ℕ). n ≡ min (length c.args.buf.now) (length (drop s.given t))) c.bytes.ensures c.feed-size.ensures.size in
    rw (← c.self.view_is) (received s.given n (length c.args.buf.now) s.served.stream s.served.written.items buffer bytes size c.feed-size.ensures.room)

pub returns-clause-ok : goal.returns-clause-ok
returns-clause-ok c =
    let s = c.self.inside in
    let n = c.feed-size.result in
    let buffer = c.feed-size.new.buf in
    let bytes = subst (λ (t : List ℕ). take n buffer ≡ take n (drop s.given t)) c.bytes.ensures c.feed-size.ensures.bytes in
    let size = subst (λ (t : List ℕ). n ≡ min (length c.args.buf.now) (length (drop s.given t))) c.bytes.ensures c.feed-size.ensures.size in
    rw (← c.self.view_is) (gave s.given n (length c.args.buf.now) s.room s.served.stream s.served.written.items buffer s.calls c.make.new.self bytes size c.feed-size.ensures.room c.make.ensures)
