use Rattle.std.proofs.Common.{◌≡◌, ◌∙◌, take, drop, min, length, ap, None, Some}
use Rattle.dm_edge.specs.Script.{fault_at}
use Rattle.std.specs.Prelude.{slice_get}
use Rattle.std.specs.Option.{option_map_or}
use Rattle.dm_edge.proofs.wire_mem.WireMemWire.receive.Goals as goal
use Rattle.dm_edge.proofs.Scripts.{listed_wants}
use Rattle.dm_edge.proofs.Received.{received, gave, at_end}

pub returns-clause-given : goal.returns-clause-given
returns-clause-given c =
    let w = c.self.inside in
    let stream = w.exchange.stream in
    let n = c.give-size.result in
    let buffer = c.give-size.new.buf in
    let bytes : take n buffer ≡ take n (drop w.given stream) = c.give-size.ensures.bytes ∙ ap (take n) c.left_of.ensures.left in
    let size : n ≡ min (option_map_or (min (length buffer)) (slice_get w.cuts w.receives) (length buffer)) (length (drop w.given stream)) =
    cc (c.give-size.ensures.size, c.allowed-most.ensures.most, c.copied.ensures, c.get.ensures, c.give-size.auto.buf, c.left_of.ensures.left) in
    rw (← c.self.view_is) (received w.given n stream w.exchange.sent buffer bytes (at_end w.cuts w.receives (length buffer) n (drop w.given stream) c.self.invariant.cuts_are size))

pub returns-clause-ok : goal.returns-clause-ok
returns-clause-ok c =
    let w = c.self.inside in
    let stream = w.exchange.stream in
    let n = c.give-size.result in
    let buffer = c.give-size.new.buf in
    let bytes : take n buffer ≡ take n (drop w.given stream) = c.give-size.ensures.bytes ∙ ap (take n) c.left_of.ensures.left in
    let size : n ≡ min (option_map_or (min (length buffer)) (slice_get w.cuts w.receives) (length buffer)) (length (drop w.given stream)) =
    cc (c.give-size.ensures.size, c.allowed-most.ensures.most, c.copied.ensures, c.get.ensures, c.give-size.auto.buf, c.left_of.ensures.left) in
    let unlisted : fault_at w.failing w.calls ≡ None = cc (c.listed_fault-fault.ensures, c.in_default.is, c.items.ensures) in
    rw (← c.self.view_is) (gave _ w.cuts w.failing w.calls w.receives c.saturating_add-self-inside.result c.saturating_add-self-inside-2.result w.counts w.wants w.given n stream w.exchange.sent buffer unlisted size bytes c.saturating_add-self-inside.ensures c.saturating_add-self-inside-2.ensures)

pub returns-in-Some-clause-wants : goal.returns-in-Some-clause-wants
returns-in-Some-clause-wants c =
    let w = c.self.inside in
    let listed : fault_at w.failing w.calls ≡ Some c.in-Some.fault = cc (c.listed_fault-fault.ensures, c.items.ensures, c.in-Some.is) in
    rw (← c.self.view_is) (listed_wants w.failing w.calls w.wants c.in-Some.fault c.self.invariant.faults listed)
