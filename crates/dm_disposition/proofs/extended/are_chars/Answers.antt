use Rattle.std.proofs.Common.{sym, refl, arith}
use Rattle.dm_disposition.proofs.TextLemmas.{digits_more, digits_stop, digits_end, chars_end}
use Rattle.dm_disposition.proofs.extended.are_chars.Goals as goal

pub returns-in-None : goal.returns-in-None
returns-in-None c = (
  λ e. absurd cc,
  λ a. absurd (digits_stop c.args.bytes.now c.loop-byte.byte-index _ c.loop-byte.digits (omega arith) refl (sym c.in-None.ensures) c.loop-byte.invariant a),
)

pub loop-byte-preserved : goal.loop-byte-preserved
loop-byte-preserved c = digits_more c.args.bytes.now c.loop-byte.byte-index _ c.loop-byte.digits c.in-Some.left (omega arith) refl (sym c.in-Some.ensures) c.loop-byte.invariant

pub returns : goal.returns
returns c = chars_end c.args.bytes.now c.loop-byte.digits (digits_end c.args.bytes.now c.loop-byte.byte-index c.loop-byte.digits (omega arith) c.loop-byte.invariant)
