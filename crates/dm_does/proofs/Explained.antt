-- The clause of a run gives what the promise over all runs asks of it.
use Rattle.std.proofs.Common.{ℕ, List, [], ◌∷◌, ◌++◌, ◌∙◌, ap, append_assoc}
use Rattle.dm_types.specs.declared.entry.Entry.{Entry}
use Rattle.dm_types.specs.declared.entry.Entry.TheVariants as entries
use Rattle.dm_types.specs.declared.item.Item.{Item}
use Rattle.dm_disk_model.specs.Disk.{History as Clock, IsSoundDisk, now}
use Rattle.dm_item.specs.Lawful.{History, IsLawful, items_of}
use Rattle.dm_kept.specs.Files.{Says}
use Rattle.dm_report.specs.Said.{Said}
use Rattle.dm_answers.specs.Opening.{IsTried, reopening}
use Rattle.dm_answers.specs.Settling.{AreSettlings, Settles, finishing}
use Rattle.dm_does.specs.Answering.{Answers, Bringing}
use Rattle.dm_does.specs.Explaining.{Explains, Telling}
use Rattle.dm_does.specs.Headline.{IsBehind, IsRun, OpensOnce}
use Rattle.dm_does.specs.Log.{ArePlain, Log, Run, Untouched, Unread, Unopened, Opened, tried_of}
use Rattle.dm_does.specs.Printing.{Outputs}
use Rattle.dm_does.specs.World.{World}

plain_append : (a b : History) → ArePlain a → ArePlain b → ArePlain (a ++ b)
plain_append [] b first second = second
plain_append (entries.Reopened next at ∷ a) b first second = absurd first
plain_append (entries.Restored item ∷ a) b first second = absurd first
plain_append (entry ∷ a) b first second = plain_append a b first second

-- what settles an item opens no list
entry_plain : (at : ℕ) (item : Item) (entry : Entry) (more : History) → Settles at item entry → ArePlain more → ArePlain (entry ∷ more)
entry_plain at item (entries.Done id digest moment) more settles plain = plain
entry_plain at item (entries.Broke id reason) more settles plain = plain
entry_plain at item entry more settles plain = absurd settles

settled_plain : (tells : Type 0) (start end : Clock) (at : ℕ) (items : List Item) (settled : History) (left : List Item) → AreSettlings tells start end at items settled left → ArePlain settled
settled_plain tells start end at items [] left are = tt
settled_plain tells start end at [] (entry ∷ more) left are = absurd are
settled_plain tells start end at (item ∷ rest) (entry ∷ more) left are = entry_plain at item entry more are.0.settles (settled_plain tells start end at rest more left are.1)

-- what an opening tried stands behind what reads
pub behind_opening : (tells : Type 0) (start end : Clock) (at : ℕ) (found tried : History) (left : List Item) → tells → IsLawful (found ++ tried) → IsTried tells start end at found tried left → IsBehind (now start) found tried
behind_opening tells start end at found tried left told lawful opened = record {
  reads = opened.reads told;
  lawful = lawful;
  at = at;
  rest = opened.settled;
  tried_is = opened.tried_is;
  plain = settled_plain tells start end at (finishing (items_of (found ++ reopening found at))) opened.settled left opened.settles;
}

-- and so does what was tried on the list that it opened
pub behind_opened : (tells : Type 0) (start end : Clock) (at : ℕ) (log : Log) → tells → IsLawful (log.found ++ tried_of log) → IsTried tells start end at log.found log.opening [] → ArePlain (log.more ++ log.failed)
    → IsBehind (now start) log.found (tried_of log)
behind_opened tells start end at log told lawful opened once = record {
  reads = opened.reads told;
  lawful = lawful;
  at = at;
  rest = opened.settled ++ (log.more ++ log.failed);
  tried_is =
      ap (λ (h : History). h ++ (log.more ++ log.failed)) opened.tried_is
      ∙ append_assoc (reopening log.found at) opened.settled (log.more ++ log.failed);
  plain = plain_append opened.settled (log.more ++ log.failed) (settled_plain tells start end at (finishing (items_of (log.found ++ reopening log.found at))) opened.settled [] opened.settles) once;
}

-- a run that answers so opens the list once
pub opens_once : (brings : ℕ → Bringing) (tells : Type 0) (words : List (List ℕ)) (at : ℕ) (before after : World) (said : Said) (run : Run) → tells → Answers brings tells words at before after said run → OpensOnce (now before.disk) run
opens_once brings tells words at before after said Untouched told answers = tt
opens_once brings tells words at before after said Unread told answers = tt
opens_once brings tells words at before after said (Unopened found recorded failed rest) told answers =
    behind_opening tells before.disk after.disk at found (recorded ++ (failed ++ rest)) answers.left told answers.lawful answers.tried
opens_once brings tells words at before after said (Opened log) told answers =
    behind_opened tells before.disk after.disk at log told answers.works.lawful answers.works.opened answers.works.once

-- a run that is explained is one over which the promise goes on
pub explained_run : (brings : ℕ → Bringing) (tells : Telling) (says : Says) (words : List (List ℕ)) (moment : ℕ) (before after : World) (far far' : ℕ) (seen seen' : Outputs) (status : ℕ) → tells.disk → IsSoundDisk (now before.disk)
    → (is : Explains brings tells says words moment before after far far' seen seen' status) → IsRun says before.disk after.disk is.run
explained_run brings tells says words moment before after far far' seen seen' status told sound is = record {
  sound = sound;
  opens = opens_once brings tells.disk words is.at before after is.said is.run told is.answers;
  keeps = is.keeps told;
}
