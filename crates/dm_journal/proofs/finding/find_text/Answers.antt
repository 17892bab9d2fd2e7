use Rattle.std.proofs.Common.{◌≡◌, Some, sym, ◌∙◌, subst}
use Rattle.dm_disk_model.specs.declared.place.Place.{Place}
use Rattle.dm_disk_model.specs.Disk.{History, bytes_at, now}
use Rattle.dm_journal.specs.Reading.{IsDurable}
use Rattle.dm_journal.proofs.Telling.{found_text, fault_text}
use Rattle.dm_journal.proofs.finding.find_text.Goals as goal

pub returns-in-Ok-clause-found : goal.returns-in-Ok-clause-found
returns-in-Ok-clause-found g c tells =
    let history = g.D.Disk.history in
    let old = now (history c.args.disk.now) in
    let new = now (history c.read_text.new.disk) in
    let settled = rw c.in-Ok-Stands.field-0-is at (c.in-Ok-Stands.ensures.settles tells) in
    let durable : IsDurable old new settled.0 = subst (λ (h : History). IsDurable old (now h) settled.0) (sym c.read_text.ensures.stays) settled.1 in
    let reads : bytes_at (now (history c.settle.new.disk)) c.args.place.now ≡ Some settled.0 =
    (c.settle.ensures.syncs tells).reads c.args.place.now ∙ subst (λ (place : Place). bytes_at old place ≡ Some settled.0) (sym c.requires.place) settled.1.reads in
    found_text old new settled.0 c.in-Ok.found durable (c.in-Ok.ensures.read tells settled.0 reads)

pub returns-in-Err-read_text-clause-found : goal.returns-in-Err-read_text-clause-found
returns-in-Err-read_text-clause-found g c tells =
    let history = g.D.Disk.history in
    let old = now (history c.args.disk.now) in
    let new = now (history c.read_text.new.disk) in
    let settled = rw c.in-Ok-Stands.field-0-is at (c.in-Ok-Stands.ensures.settles tells) in
    let durable : IsDurable old new settled.0 = subst (λ (h : History). IsDurable old (now h) settled.0) (sym c.read_text.ensures.stays) settled.1 in
    let reads : bytes_at (now (history c.settle.new.disk)) c.args.place.now ≡ Some settled.0 =
    (c.settle.ensures.syncs tells).reads c.args.place.now ∙ subst (λ (place : Place). bytes_at old place ≡ Some settled.0) (sym c.requires.place) settled.1.reads in
    fault_text old new settled.0 c.in-Err-read_text.fault durable (c.in-Err-read_text.ensures.read tells settled.0 reads)
