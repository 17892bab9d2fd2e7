use Rattle.std.proofs.Common.{◌∙◌, sym}
use Rattle.dm_item.proofs.Declined.{declined}
use Rattle.dm_item.proofs.Readied.{ready_light, ready_takes}
use Rattle.dm_item.proofs.items.Items.put.Goals as goal

pub returns-in-Some : goal.returns-in-Some
returns-in-Some c =
    ready_takes c.args.entry.now c.args.self.now c.put_changed.new.self c.in-Some.item c.requires.admitted.meets (sym c.in-Some.is ∙ c.requires.ready) c.put_changed.ensures

pub unreachable-requires : goal.unreachable-requires
unreachable-requires c =
    let light = ready_light c.args.entry.now c.args.self.now c.requires.stays c.requires.admitted.meets (sym c.in-None.is ∙ c.requires.ready) in
    c.in-Err.ensures.light light (declined c.args.self.now c.args.entry.now c.in-Err.field-0 c.requires.admitted.room c.requires.admitted.meets c.in-Err.ensures.err)
