use Rattle.std.proofs.Common.{Bool, false, refl, ap, subst}
use Rattle.dm_disk_model.specs.Beside.{Besides}
use Rattle.dm_disk_model.specs.Disk.{History}
use Rattle.dm_disk_model.proofs.Beside.{besides_more}
use Rattle.dm_store.specs.Origin.{said_of}
use Rattle.dm_store.specs.Store.{view_of}
use Rattle.dm_settle.specs.Settled.{IsPartOrGiven}
use Rattle.dm_settle.proofs.Judgements.{becomes_still}
use Rattle.dm_settle.proofs.Items.{read_keeps}
use Rattle.dm_open.proofs.Finishings.{all_untried, given_still}
use Rattle.dm_open.proofs.finishing.settle_listed.Goals as goal

pub returns-in-Ok-clause-beside : goal.returns-in-Ok-clause-beside
returns-in-Ok-clause-beside g c told =
    let D = g.D.Disk in
    let mid = record (view_of c.args.store.now) { disk = c.names.new.self } in
    subst (λ (h : History). Besides (IsPartOrGiven D.history (view_of c.args.store.now)) h (D.history c.settle_all.new.store.disk)) c.names.ensures.stays
    (besides_more (IsPartOrGiven D.history mid) (IsPartOrGiven D.history (view_of c.args.store.now)) (D.history c.names.new.self) (D.history c.settle_all.new.store.disk) (given_still D.history (view_of c.args.store.now) mid refl c.names.ensures.stays)
    (c.settle_all.ensures.beside told))

pub returns-in-Err-NoMemory-clause-makes : goal.returns-in-Err-NoMemory-clause-makes
returns-in-Err-NoMemory-clause-makes g c =
    let D = g.D.Disk in
    let start = view_of c.args.store.now in
    let mid = record start { disk = c.names.new.self } in (
      all_untried D.tells D.history start mid c.args.at
          (becomes_still start mid false c.requires.whole (c.requires.store.desk.failed c.requires.whole) (ap (λ (b : Bool). record start { disk = c.names.new.self; broken = b }) c.requires.whole)),
      c.requires.store.desk.failed c.requires.whole,
    )

pub returns-in-Err-NoMemory-clause-keeps : goal.returns-in-Err-NoMemory-clause-keeps
returns-in-Err-NoMemory-clause-keeps g c =
    let D = g.D.Disk in
    let start = view_of c.args.store.now in
    let mid = record start { disk = c.names.new.self } in
    read_keeps D.tells D.history (λ o. said_of (g.O.Origin.says o)) start mid c.requires.whole (c.requires.store.desk.failed c.requires.whole) refl (λ tells. g.met.D.Disk.sound tells c.args.store.now.disk (D.history c.args.store.now.disk).moment) c.names.ensures.stays

pub returns-in-Err-Disk-clause-makes : goal.returns-in-Err-Disk-clause-makes
returns-in-Err-Disk-clause-makes g c =
    let D = g.D.Disk in
    let start = view_of c.args.store.now in
    let mid = record start { disk = c.names.new.self } in
    all_untried D.tells D.history start mid c.args.at
    (becomes_still start mid false c.requires.whole (c.requires.store.desk.failed c.requires.whole) (ap (λ (b : Bool). record start { disk = c.names.new.self; broken = b }) c.requires.whole))

pub returns-in-Err-Disk-clause-keeps : goal.returns-in-Err-Disk-clause-keeps
returns-in-Err-Disk-clause-keeps g c =
    let D = g.D.Disk in
    let start = view_of c.args.store.now in
    let mid = record start { disk = c.names.new.self } in
    read_keeps D.tells D.history (λ o. said_of (g.O.Origin.says o)) start mid c.requires.whole (c.requires.store.desk.failed c.requires.whole) refl (λ tells. g.met.D.Disk.sound tells c.args.store.now.disk (D.history c.args.store.now.disk).moment) c.names.ensures.stays
