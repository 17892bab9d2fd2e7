use Rattle.std.proofs.Common.{refl, sym, ap, ◌∙◌}
use Rattle.dm_disk_model.specs.Folder.{names_of}
use Rattle.std.proofs.lemmas.Bool.{iff_false}
use Rattle.dm_disk.proofs.Looks.{created_here, created_other, renamed_to, renamed_from, renamed_other, removed_here, removed_other}
use Rattle.dm_disk.proofs.find.before_act.Goals as goal

pub returns-then-is : goal.returns-then-is
returns-then-is c = created_here c.args.act.now c.in-Create.made c.args.name.now c.in-Create.is (c.if-is.ensures.0 refl)

pub returns-else-is : goal.returns-else-is
returns-else-is c = created_other c.args.act.now c.in-Create.made c.args.name.now c.in-Create.is (iff_false c.is.ensures c.if-is.false)

pub returns-then-is-2 : goal.returns-then-is-2
returns-then-is-2 c = λ number folder.
    renamed_to c.args.act.now c.in-Rename.from c.in-Rename.to c.args.name.now c.in-Rename.is (c.if-is-2.ensures.0 refl) number folder ∙ ap (names_of folder) (sym c.bytes.ensures)

pub returns-then-is-3 : goal.returns-then-is-3
returns-then-is-3 c =
    renamed_from c.args.act.now c.in-Rename.from c.in-Rename.to c.args.name.now c.in-Rename.is (iff_false c.is-in-Rename.ensures c.if-is-2.false) (c.if-is-3.ensures.0 refl)

pub returns-else-is-3 : goal.returns-else-is-3
returns-else-is-3 c =
    renamed_other c.args.act.now c.in-Rename.from c.in-Rename.to c.args.name.now c.in-Rename.is (iff_false c.is-in-Rename.ensures c.if-is-2.false) (iff_false c.is-else-is-2.ensures c.if-is-3.false)

pub returns-then-is-4 : goal.returns-then-is-4
returns-then-is-4 c = removed_here c.args.act.now c.in-Remove.gone c.args.name.now c.in-Remove.is (c.if-is-4.ensures.0 refl)

pub returns-else-is-4 : goal.returns-else-is-4
returns-else-is-4 c = removed_other c.args.act.now c.in-Remove.gone c.args.name.now c.in-Remove.is (iff_false c.is-in-Remove.ensures c.if-is-4.false)
