-- What a session of the service made of the list and of the history, and how it ended.
use Rattle.std.specs.Prelude.{◌≡◌, ℕ, ◌≤◌, Bool, true, false, List, [], ◌∷◌, ◌++◌, length, Result}
use Rattle.dm_types.specs.Limits.{most_items}
use Rattle.dm_types.specs.declared.entry.Entry.{Entry}
use Rattle.dm_types.specs.declared.item.Item.{Item}
use Rattle.dm_types.specs.declared.kinds.DiskKind.{DiskKind}
use Rattle.dm_types.specs.declared.kinds.DiskKind.TheVariants.{Failed}
use Rattle.dm_types.specs.declared.memory.NoMemory.{NoMemory}
use Rattle.dm_disk_model.specs.Disk.{History as Clock, now}
use Rattle.dm_disk_model.specs.Moments.{Throughout}
use Rattle.dm_item.specs.Lawful.{History, IsLawful, IsOf}
use Rattle.dm_kept.specs.Files.{Says}
use Rattle.dm_kept.specs.Kept.{WasKept}
use Rattle.dm_kept.specs.Room.{IsTaken}
use Rattle.dm_store.specs.Keeps.{HoldsOf, Keeps}
use Rattle.dm_store.specs.View.{View}
use Rattle.dm_report.specs.Said.{Said, only}
use Rattle.dm_report.specs.declared.verdict.Verdict.TheVariants as verdicts
use Rattle.dm_answers.specs.Opening.{IsTried}
use Rattle.dm_answers.specs.Shut.{ShutAnswers}
use Rattle.dm_answers.specs.declared.fault.DeskFault.{DeskFault}
use Rattle.dm_conns.specs.Conn.{Over}
use Rattle.dm_call.specs.declared.request.ApiRequest.{ApiRequest}
use Rattle.dm_response.specs.declared.reply.ApiReply.{ApiReply}
use Rattle.dm_does.specs.Answering.{SaysFault, SaysUnread}
use Rattle.dm_does.specs.Log.{ArePlain, Log, Run, Untouched, Unread, Unopened, Opened, tried_of}
use Rattle.dm_does.specs.Session.{log_of}
use Rattle.dm_does.specs.World.{World}
use Rattle.dm_past.specs.Past.{Past}
use Rattle.dm_works.specs.Requests.{AnswersOn}
use Rattle.dm_works.specs.Serving.{Service, both}
use Rattle.dm_session.specs.Turning.{AreServed, EndsBy, Turn}
use Rattle.dm_session.specs.declared.turning.Closed.{Closed}
use Rattle.dm_session.specs.declared.turning.Closed.TheVariants as closes

-- a list that is broken at the end is told
abbrev pub by_broken : Bool → Said
by_broken true = only (verdicts.DiskFailed Failed)
by_broken false = only verdicts.Done

-- What is said behind the last connection: an accept that failed is told before a list that is broken. Nothing goes to standard output.
abbrev pub said_at_end : Closed → Bool → Said
said_at_end closes.AcceptFailed broken = only verdicts.NotAccepted
said_at_end closes.Full broken = by_broken broken
said_at_end closes.Stopped broken = by_broken broken

-- what went over the connections that were handed back, and how many these are
pub record Line : Type 0 where
  pub over : List Over
  pub count : ℕ

-- the moment is one that a clock answers, where it tells which it answers
abbrev pub IsTold : {C : Type 0} → Type 0 → (C → ℕ) → ℕ → Type 0
IsTold {C = C} tells next at = tells → (clock : C) × (at ≡ next clock)

-- the request was answered so, at such a moment
abbrev pub AnswersAt : {D O : Type 0} → (ℕ → Type 0) → Type 0 → Type 0 → (D → Clock) → (D → DiskKind → ℕ) → (O → Says) → Service D O → ApiRequest → ℕ → Result ApiReply NoMemory → Service D O → Type 0
AnswersAt moment tells told clock counts says old request at result new = moment at × AnswersOn tells told clock counts says old request at result new

-- The list was opened. The connections were served from it and from the history one after another, each by what it asks of both as the ones before it left
-- them; and then all that ran was interrupted.
pub record ServesList {D O : Type 0} (tells conns_tell told : Type 0) (moment : ℕ → Type 0) (accepts accept_failed : Type 0) (clock : D → Clock) (counts : D → DiskKind → ℕ) (says : O → Says) (origin : O) (at : ℕ) (before after : World) (past past' : Past) (line line' : Line) (requests : ℕ) (log : Log) (said : Said) : Type 0 where
  -- all that was tried is lawful behind what was found, the opening did what openings do, and no later entry opens the list again
  pub taken : IsTaken most_items log.found
  pub lawful : IsLawful (log.found ++ tried_of log)
  pub tried : IsTried tells before.disk after.disk at log.found log.opening []
  pub once : ArePlain (log.more ++ log.failed)
  -- the list as it was opened, behind the last connection, and at the end
  pub opened : View D O
  pub left : View D O
  pub ended : View D O
  pub origin_is : opened.origin ≡ origin
  pub opened_is : IsOf (log.found ++ log.opening) opened.items
  pub limit : opened.items.limit ≡ most_items
  pub log_is : log ≡ log_of log.found opened ended
  -- a list that is broken at the end had an entry that failed
  pub fell : log.broken ≡ true → (entry : Entry) × (log.failed ≡ entry ∷ [])
  -- the list as it was opened stood at some moment, and the disk held it then
  pub stood : tells → Throughout before.disk (clock opened.disk) (λ disk. Unit {0})
  pub holds : tells → (good : Bool) → WasKept good (says origin) (now before.disk) → HoldsOf good (says origin) clock opened (log.found ++ log.opening)
  pub turns : List Turn
  pub served : AreServed conns_tell (AnswersAt moment tells told clock counts says) (both opened past) (both left past') line.over line'.over line.count line'.count turns
  pub closed : Closed
  pub ends : EndsBy requests accepts accept_failed turns closed
  pub shut : Result (Unit {0}) DeskFault
  pub shuts : ShutAnswers left ended shut
  pub shut_keeps : Keeps tells clock says left ended
  pub end_is : after.disk ≡ clock ended.disk
  pub said_is : said ≡ said_at_end closed ended.broken

-- No journal was read. Nothing was accepted, also no accept failed, and the history wasn't asked.
pub record ServesUnread (accepts : Type 0) (before after : World) (past past' : Past) (line line' : Line) (said : Said) : Type 0 where
  pub says : SaysUnread before after said
  pub none : line' ≡ line
  pub none_failed : accepts
  pub same : past' ≡ past

-- The opening was refused behind what it read; nothing was accepted, and the history wasn't asked. What it tried is lawful there: these entries were recorded, then one failed at most, and the rest wasn't tried.
pub record ServesUnopened (tells accepts : Type 0) (at : ℕ) (before after : World) (past past' : Past) (line line' : Line) (found recorded failed rest : History) (said : Said) : Type 0 where
  pub says : SaysFault before after said
  pub none : line' ≡ line
  pub none_failed : accepts
  pub same : past' ≡ past
  pub taken : IsTaken most_items found
  pub lawful : IsLawful (found ++ (recorded ++ (failed ++ rest)))
  pub one : length failed ≤ 1
  pub left : List Item
  pub tried : IsTried tells before.disk after.disk at found (recorded ++ (failed ++ rest)) left

-- by how far it came
abbrev pub ServesSo : {D O : Type 0} → Type 0 → Type 0 → Type 0 → (ℕ → Type 0) → Type 0 → Type 0 → (D → Clock) → (D → DiskKind → ℕ) → (O → Says) → O → ℕ → World → World → Past → Past → Line → Line → ℕ → Said → Run → Type 0
ServesSo tells conns_tell told moment accepts accept_failed clock counts says origin at before after past past' line line' requests said Untouched = ⊥
ServesSo tells conns_tell told moment accepts accept_failed clock counts says origin at before after past past' line line' requests said Unread = ServesUnread accepts before after past past' line line' said
ServesSo tells conns_tell told moment accepts accept_failed clock counts says origin at before after past past' line line' requests said (Unopened found recorded failed rest) = ServesUnopened tells accepts at before after past past' line line' found recorded failed rest said
ServesSo tells conns_tell told moment accepts accept_failed clock counts says origin at before after past past' line line' requests said (Opened log) = ServesList tells conns_tell told moment accepts accept_failed clock counts says origin at before after past past' line line' requests log said
