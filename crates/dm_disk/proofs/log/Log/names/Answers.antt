use Rattle.std.proofs.Common.{List, ℕ, sym, subst}
use Rattle.std.specs.Prelude.{Result, Ok, Err, IfOk}
use Rattle.dm_disk_model.specs.Disk.{folder_in}
use Rattle.dm_disk_model.specs.Folder.{Lists}
use Rattle.dm_disk.specs.Calls.{disk_after}
use Rattle.dm_disk.proofs.Entries.{lists_names}
use Rattle.dm_disk.proofs.log.Log.names.Goals as goal

if_ok : {T E : Type 0} (result : Result T E) (P Q : T → Type 0) → ((value : T) → P value → Q value) → IfOk result P → IfOk result Q
if_ok (Ok value) P Q so has = so value has
if_ok (Err fault) P Q so has = tt

pub returns : goal.returns
returns c =
    let disk = disk_after c.args.self.now.calls.items in
    let entries = c.args.self.now.index.entries.items in
    if_ok c.names.result _ _
    (λ names is. subst (λ (listed : List (List ℕ)). Lists (folder_in c.args.area disk) listed) (sym is) (lists_names c.args.area disk entries c.args.self.now.told)) c.names.ensures
