use Rattle.dm_disk_model.proofs.Beside.{left_by_write, left_by_sync, left_by_create, left_by_rename, left_by_remove, left_by_names}
use Rattle.dm_disk.proofs.laws.other_names_are_left.Goals as goal

pub returns-clause-create : goal.returns-clause-create
returns-clause-create c = λ name place result old new sound apart taken. left_by_create name result old new sound place apart taken

pub returns-clause-write : goal.returns-clause-write
returns-clause-write c = λ name place at bytes result old new sound never taken. left_by_write name result old new sound place at bytes never taken

pub returns-clause-sync : goal.returns-clause-sync
returns-clause-sync c = λ name place result old new sound never taken. left_by_sync name result old new sound place never taken

pub returns-clause-rename : goal.returns-clause-rename
returns-clause-rename c = λ name from to result old new sound not_from not_to taken. left_by_rename name result old new sound from to not_from not_to taken

pub returns-clause-remove : goal.returns-clause-remove
returns-clause-remove c = λ name place result old new sound apart taken. left_by_remove name result old new sound place apart taken

pub returns-clause-sync_names : goal.returns-clause-sync_names
returns-clause-sync_names c = λ name area result old new sound taken. left_by_names name result old new sound area taken
