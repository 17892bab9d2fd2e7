-- What is replied to a job is what the definition says of it.
use Rattle.std.proofs.Common.{◌≡◌, inl, inr, ℕ, false, Option, Result, Ok, Err, refl, sym, ◌∙◌, ap, subst}
use Rattle.std.specs.Prelude.{IfOk, IsTrue}
use Rattle.std.proofs.lemmas.Bool.{false≢true}
use Rattle.dm_types.specs.declared.item.Item.{Item}
use Rattle.dm_types.specs.declared.item.ItemId.{ItemId}
use Rattle.dm_types.specs.declared.kinds.DiskKind.{DiskKind}
use Rattle.dm_types.specs.declared.memory.NoMemory.{NoMemory}
use Rattle.dm_item.specs.Lawful.{History}
use Rattle.dm_item.specs.Listing.{Listing}
use Rattle.dm_store.specs.Becomes.{run_of}
use Rattle.dm_store.specs.View.{View}
use Rattle.dm_does.specs.declared.course.Course.{Course}
use Rattle.dm_does.specs.declared.job.Job.{Job}
use Rattle.dm_does.specs.Doing.{Doing}
use Rattle.dm_call.specs.Fitting.{FitsCall}
use Rattle.dm_call.specs.declared.call.Call.{Call}
use Rattle.dm_call.specs.declared.call.Call.TheVariants as calls
use Rattle.dm_response.specs.Reply.{trouble_of}
use Rattle.dm_response.specs.declared.reply.ApiReply.{ApiReply}
use Rattle.dm_response.specs.declared.trouble.Trouble.TheVariants as troubles
use Rattle.dm_service.specs.Tasks.{task_by}
use Rattle.dm_service.specs.Api.{Api, api_of, does_now, is_change, item_by, removed_by, tells}
use Rattle.dm_service.specs.Replies.{reply_by}
use Rattle.dm_works.specs.Answering.{Answered, Gives}
use Rattle.dm_works.specs.Answering as answering
use Rattle.dm_works.specs.Deciding.{Decided, DidAll, FitsTask, Refused, Settles, did, fell, seen_of, wanted}

-- an answer that is this, or want of memory
pub gives : (reply : ApiReply) (result : Result ApiReply NoMemory) → IfOk result (λ told. told ≡ reply) → Gives reply result
gives reply (Ok told) is = inl (ap Ok is)
gives reply (Err wanting) is = inr refl

-- the list stays, and this is told
pub only_told : {D O : Type 0} (counts : D → DiskKind → ℕ) (desk : View D O) (reply : ApiReply) (result : Result ApiReply NoMemory) → IfOk result (λ told. told ≡ reply) → Answered counts (tells reply) desk desk result
only_told counts desk reply result is = answering.did (λ changes. absurd (false≢true changes)) (inr (refl, refl)) (gives reply result is)

module _ {D O : Type 0} (counts : D → DiskKind → ℕ) (old new : View D O) (job : Job) (at : ℕ) (result : Result ApiReply NoMemory) where
  abbrev doing : Doing
  doing = does_now job (seen_of old at)

  abbrev expected : Api
  expected = api_of (seen_of old at) job doing

  -- the items behind its entries are those of the desk
  items_are : DidAll doing.entries old new → new.items ≡ run_of doing.entries old.items
  items_are (inl becomes) = becomes.items_are
  items_are (inr (none, same)) = ap (λ (v : View D O). v.items) same ∙ ap (λ (h : History). run_of h old.items) (sym none)

  by_settled : (course : Course) → (IsTrue (is_change job) → old.broken ≡ false) → IfOk result (λ reply. reply ≡ reply_by (removed_by job) (item_by new.items.items course) course) → Settles counts doing old new course → Answered counts expected old new result
  by_settled course whole replied (did there is) =
      answering.did whole there
      (gives expected.reply result
      (subst (λ (reply : ApiReply). IfOk result (λ told. told ≡ reply))
      (ap (λ (c : Course). reply_by (removed_by job) (item_by new.items.items c) c) is ∙ ap (λ (list : Listing). reply_by (removed_by job) (item_by list.items doing.course) doing.course) (items_are there)) replied))
  by_settled course whole replied (fell kind rose failed is) =
      answering.fell kind rose failed
      (gives (trouble_of troubles.Disk) result
      (subst (λ (reply : ApiReply). IfOk result (λ told. told ≡ reply)) (ap (λ (c : Course). reply_by (removed_by job) (item_by new.items.items c) c) is) replied))
  by_settled course whole replied (wanted same is) =
      answering.wanted same
      (gives (trouble_of troubles.Memory) result
      (subst (λ (reply : ApiReply). IfOk result (λ told. told ≡ reply)) (ap (λ (c : Course). reply_by (removed_by job) (item_by new.items.items c) c) is) replied))

  pub job_answered : (course : Course) (id : ItemId) (list : Listing) (found : Option Item) → Decided counts (is_change job) doing old new course → id ≡ removed_by job → list ≡ new.items → found ≡ item_by list.items course
      → IfOk result (λ reply. reply ≡ reply_by id found course) → Answered counts expected old new result
  job_answered course id list found d id_is list_is found_is replied =
      by_settled course d.whole
      (subst (λ (one : ItemId). IfOk result (λ reply. reply ≡ reply_by one (item_by new.items.items course) course)) id_is
      (subst (λ (one : Option Item). IfOk result (λ reply. reply ≡ reply_by id one course)) (found_is ∙ ap (λ (v : Listing). item_by v.items course) list_is) replied))
      d.settles

  pub job_refused : Refused (is_change job) old new → IfOk result (λ reply. reply ≡ trouble_of troubles.Broken) → Answered counts expected old new result
  job_refused refused replied = answering.broken refused (gives (trouble_of troubles.Broken) result replied)

-- What a call that was read asks keeps the limits.
pub fits_task : (call : Call) → FitsCall call → FitsTask (task_by call)
fits_task (calls.Add named) fits = record { word = fits.word; address = fits.address; wish = fits.name }
fits_task (calls.Page window) fits = tt
fits_task (calls.Show id) fits = tt
fits_task (calls.Remove id) fits = tt
fits_task (calls.Pause id) fits = tt
fits_task (calls.Resume id) fits = tt
fits_task (calls.Cancel id) fits = tt
fits_task calls.Archive fits = tt
fits_task (calls.History window) fits = tt
fits_task calls.Report fits = tt
fits_task calls.Stop fits = tt
