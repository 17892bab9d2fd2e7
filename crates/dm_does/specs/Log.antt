-- How far a run came, and what it recorded.
use Rattle.std.specs.Prelude.{Bool, false, [], ◌∷◌, ◌++◌}
use Rattle.dm_types.specs.declared.entry.Entry.TheVariants as entries
use Rattle.dm_item.specs.Lawful.{History}

-- no entry opens the list, or restores an item
abbrev pub ArePlain : History → Type 0
ArePlain [] = Unit {0}
ArePlain (entries.Reopened next at ∷ more) = ⊥
ArePlain (entries.Restored item ∷ more) = ⊥
ArePlain (entry ∷ more) = ArePlain more

-- what a run did to a list that was opened
pub record Log : Type 0 where
  -- the entries that the journal held
  pub found : History
  -- what the opening recorded: a Reopened, and one entry for each item whose publication was left open
  pub opening : History
  -- what was recorded then
  pub more : History
  -- the entry whose append failed, where one did
  pub failed : History
  -- a call on the journal or in a publication failed, so that nothing could be recorded any more
  pub broken : Bool

-- the list behind the opening
abbrev pub opened_of : Log → History
opened_of log = log.found ++ log.opening

-- all that is recorded at the end
abbrev pub kept_of : Log → History
kept_of log = log.found ++ (log.opening ++ log.more)

-- what the run recorded, with the entry whose append failed
abbrev pub tried_of : Log → History
tried_of log = log.opening ++ (log.more ++ log.failed)

-- how far a run came
pub data Run : Type 0 where
  -- the words were refused, or memory was wanting to read them: the disk wasn't looked at
  Untouched : Run
  -- no journal was read, and none was started but one of no entries
  Unread : Run
  -- The journal held the found entries, and then the opening was refused. Of what it tried behind them these were recorded, this one failed, where one did, and the rest wasn't tried any more.
  Unopened : (found recorded failed rest : History) → Run
  -- the list was opened
  Opened : (log : Log) → Run

-- what a run found, and what it tried to record behind it
abbrev pub found_in : Run → History
found_in Untouched = []
found_in Unread = []
found_in (Unopened found recorded failed rest) = found
found_in (Opened log) = log.found

abbrev pub tried_in : Run → History
tried_in Untouched = []
tried_in Unread = []
tried_in (Unopened found recorded failed rest) = recorded ++ (failed ++ rest)
tried_in (Opened log) = tried_of log

-- what it recorded
abbrev pub recorded_in : Run → History
recorded_in Untouched = []
recorded_in Unread = []
recorded_in (Unopened found recorded failed rest) = recorded
recorded_in (Opened log) = log.opening ++ log.more

-- the entry whose append failed, where one did
abbrev pub failed_in : Run → History
failed_in Untouched = []
failed_in Unread = []
failed_in (Unopened found recorded failed rest) = failed
failed_in (Opened log) = log.failed

-- whether a call on the journal or in a publication failed behind the opening
abbrev pub broken_in : Run → Bool
broken_in (Opened log) = log.broken
broken_in _ = false
