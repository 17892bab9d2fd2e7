-- An import is a run over which the promise over all runs goes on.
use Rattle.std.proofs.Common.{ℕ, List, ◌++◌}
use Rattle.dm_disk_model.specs.Disk.{IsSoundDisk, now}
use Rattle.dm_kept.specs.Files.{Says}
use Rattle.dm_report.specs.Said.{Said}
use Rattle.dm_does.specs.Explaining.{Telling}
use Rattle.dm_does.specs.Headline.{IsRun, OpensOnce}
use Rattle.dm_does.specs.Log.{Run, Untouched, Unread, Unopened, Opened}
use Rattle.dm_does.specs.Printing.{Outputs}
use Rattle.dm_does.specs.World.{World}
use Rattle.dm_does.proofs.Explained.{behind_opened, behind_opening}
use Rattle.dm_past.specs.Past.{Past}
use Rattle.dm_import.specs.Answering.{Answers}
use Rattle.dm_import.specs.Explaining.{ExplainsImport}

-- it opened the list once, and recorded what it tried behind what it found
import_opens : (tells told : Type 0) (name : List ℕ) (at : ℕ) (before after : World) (past past' : Past) (said : Said) (run : Run) → tells → Answers tells told name at before after past past' said run → OpensOnce (now before.disk) run
import_opens tells told name at before after past past' said Untouched sees answers = absurd answers
import_opens tells told name at before after past past' said Unread sees answers = tt
import_opens tells told name at before after past past' said (Unopened found recorded failed rest) sees answers =
    behind_opening tells before.disk after.disk at found (recorded ++ (failed ++ rest)) answers.left sees answers.lawful answers.tried
import_opens tells told name at before after past past' said (Opened log) sees answers = behind_opened tells before.disk after.disk at log sees answers.lawful answers.opened answers.once

pub import_promised : (tells : Telling) (told : Type 0) (says : Says) (name : List ℕ) (moment : ℕ) (before after : World) (past past' : Past) (far far' : ℕ) (seen seen' : Outputs) (status : ℕ)
    → tells.disk → IsSoundDisk (now before.disk) → (is : ExplainsImport tells told says name moment before after past past' far far' seen seen' status) → IsRun says before.disk after.disk is.run
import_promised tells told says name moment before after past past' far far' seen seen' status sees sound is = record {
  sound = sound;
  opens = import_opens tells.disk told name is.at before after past past' is.said is.run sees is.answers;
  keeps = is.keeps sees;
}
