use Rattle.std.proofs.Common.{◌≡◌, List, ℕ, get_or, take, subst, sym, ap, ◌∙◌, arith}
use Rattle.dm_disk_model.specs.Folder.{Names, Lists}
use Rattle.dm_disk_model.specs.Disk.{folder_in}
use Rattle.dm_disk.specs.Calls.{disk_after}
use Rattle.dm_disk.proofs.Taking.{one_taken, all_taken}
use Rattle.dm_disk.proofs.image.take_folder.Goals as goal

pub loop-name-preserved : goal.loop-name-preserved
loop-name-preserved c =
    let from = folder_in c.args.area (disk_after c.args.calls.now) in
    let names = c.deref-name-items.result.now in
    let name = c.bytes.result.now in
    let place = c.loop-name.name-index in
    let taken = c.in_ok-take_name.ensures in
    let is : name ≡ get_or names place name = subst (λ (n : List ℕ). n ≡ get_or names place n) (sym c.bytes.ensures) c.name-item.is in
    one_taken c.args.pick from c.args.area names place (disk_after c.args.log.now.calls.items) (disk_after c.loop-name.log.calls.items) (disk_after c.take_name.new.log.calls.items)
    name taken.bytes taken.number (omega arith) is
    (ap (λ (ns : Names). ns name) (sym c.names_until-count.ensures.names) ∙ taken.named) taken.picked taken.puts c.loop-name.invariant

pub returns : goal.returns
returns c =
    let count = c.names_until-count.result in
    let calls = c.args.calls.now in
    let names = c.deref-name-items.result.now in
    let lists : Lists (folder_in c.args.area (disk_after (take count calls))) names =
    subst (λ (xs : List (List ℕ)). Lists (folder_in c.args.area (disk_after (take count calls))) xs) (sym c.deref-name-items.ensures.value) c.in_ok-names.ensures in
    all_taken c.args.pick (disk_after calls) (disk_after (take count calls)) c.args.area names c.loop-name.name-index (disk_after c.args.log.now.calls.items)
    c.loop-name.log.calls.items c.sync_names.new.self.calls.items (omega arith) c.names_until-count.ensures.names lists c.loop-name.invariant c.in_ok-sync_names.ensures.ok
