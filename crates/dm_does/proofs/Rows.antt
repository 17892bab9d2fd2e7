-- Worked rows: what commands do to small lists, and what they say.
use Rattle.std.proofs.Common.{◌≡◌, ℕ, true, false, List, [], ◌∷◌, codes, Option, Some, None, refl}
use Rattle.std.specs.Fmt.{digits}
use Rattle.dm_types.specs.declared.address.Address.{Address}
use Rattle.dm_types.specs.declared.entry.Entry.TheVariants as entries
use Rattle.dm_types.specs.declared.item.Item.{Item}
use Rattle.dm_types.specs.declared.item.ItemId.{ItemId}
use Rattle.dm_types.specs.declared.item.Key.TheVariants.{Once}
use Rattle.dm_types.specs.declared.item.Phase.{Phase}
use Rattle.dm_types.specs.declared.item.Phase.TheVariants as phases
use Rattle.dm_types.specs.declared.reason.Reason.{Reason}
use Rattle.dm_types.specs.declared.reason.Reason.TheVariants as reasons
use Rattle.dm_item.specs.Fields.{added_item}
use Rattle.dm_item.specs.Lawful.{History}
use Rattle.dm_report.specs.Said.{Said, only}
use Rattle.dm_report.specs.Verdict.{errs_of}
use Rattle.dm_report.specs.declared.verdict.Verdict.{Verdict}
use Rattle.dm_report.specs.declared.verdict.Verdict.TheVariants as verdicts
use Rattle.dm_answers.specs.declared.order.Order.{Order}
use Rattle.dm_store.specs.Becomes.{run_of}
use Rattle.dm_does.specs.declared.course.Course.TheVariants.{Ends, Brings}
use Rattle.dm_does.specs.declared.course.Show.TheVariants.{Nothing, Line}
use Rattle.dm_does.specs.declared.job.Job.{Job}
use Rattle.dm_does.specs.declared.job.Job.TheVariants as jobs
use Rattle.dm_does.specs.Doing.{Given, does, ends, records, refuses}
use Rattle.dm_does.specs.Saying.{said_by}

abbrev pub numbered : ℕ → ItemId
numbered id = record { 0 = id }

abbrev pub address_of : List ℕ → Address
address_of text = record { text = text; host = codes "h"; port = 80; target = codes "/a" }

-- an order with a word, for an address
abbrev pub order_for : List ℕ → List ℕ → Order
order_for word text = record { word = word; address = address_of text; wish = []; digest = None }

-- an item that waits, with a word
abbrev pub waiting : ℕ → List ℕ → Item
waiting id word = added_item (numbered id) word (codes "http://h/a") [] None 0

-- the item in another phase, with this reason
abbrev pub put : Phase → Option Reason → Item → Item
put phase reason item = record item { phase = phase; reason = reason }

-- eleven bytes under a name
abbrev pub brought : Item → Item
brought item = record item {
  phase = phases.Complete;
  attempt = record { 0 = 1 };
  begun = true;
  key = Some (Once item.id (record { 0 = 1 }));
  last_address = Some item.first_address;
  total = Some 11;
  name = Some (codes "hello.txt");
  modified = Some [];
  slices = record { first = 0; got = 11; finished = true } ∷ [];
}

-- a list that was opened, with so many ids given
abbrev pub given : ℕ → List Item → Given
given next items = record { list = record { limit = 4096; next = next; is_first = false; is_early = false; items = items }; at = 0 }

abbrev pub added : ℕ → List ℕ → History
added id word = entries.Added (numbered id) word (codes "http://h/a") [] None 0 ∷ []

-- the items behind the entries that a job records of its own
abbrev pub behind : Job → Given → List Item
behind job on = (run_of (does job on).entries on.list).items

-- what it says where nothing else follows
abbrev pub says : Job → Given → Said
says job on = said_by (behind job on) (does job on).course

-- a line and its verdict
abbrev pub tells : Verdict → List ℕ → Said
tells verdict out = record { verdict = verdict; out = out }

-- `get` on empty folders: a new item is added, and brought
row_get : does (jobs.Get (order_for [] (codes "http://h/a")) 1) (given 1 []) ≡ records (entries.Added (numbered 1) [] (codes "http://h/a") [] None 0) (Brings (numbered 1) 1)
row_get = refl

-- it is complete at the end
row_got : said_by (brought (waiting 1 []) ∷ []) (Brings (numbered 1) 1) ≡ tells verdicts.Done (codes "1 complete 11 11 hello.txt\n")
unfolding digits
row_got = refl

-- it is interrupted at the end: the line is printed too, and the status is 1
row_timeout : said_by (put (phases.Interrupted reasons.NetworkTimeout) (Some reasons.NetworkTimeout) (waiting 1 []) ∷ []) (Brings (numbered 1) 1)
    ≡ tells (verdicts.Interrupted reasons.NetworkTimeout) (codes "1 interrupted:21 0 ? -\n")
unfolding digits
row_timeout = refl

row_timeout_line : errs_of (verdicts.Interrupted reasons.NetworkTimeout) ≡ codes "interrupted 21 NETWORK_TIMEOUT\n"
unfolding digits
row_timeout_line = refl

-- it was interrupted by want of memory, or still waits: nothing is printed, and the status is 9
row_no_memory : said_by (put (phases.Interrupted reasons.NoMemory) (Some reasons.NoMemory) (waiting 1 []) ∷ []) (Brings (numbered 1) 1) ≡ only verdicts.NoMemory
row_no_memory = refl

row_not_begun : said_by (waiting 1 [] ∷ []) (Brings (numbered 1) 1) ≡ only verdicts.NoMemory
row_not_begun = refl

-- `add --word w1 http://h/a` on empty folders
row_add : does (jobs.Add (order_for (codes "w1") (codes "http://h/a"))) (given 1 []) ≡ records (entries.Added (numbered 1) (codes "w1") (codes "http://h/a") [] None 0) (Ends verdicts.Done (Line (numbered 1)))
row_add = refl

row_added : says (jobs.Add (order_for (codes "w1") (codes "http://h/a"))) (given 1 []) ≡ tells verdicts.Done (codes "1 waiting 0 ? -\n")
unfolding digits
row_added = refl

-- the same again adds nothing, and says the same
row_add_again : does (jobs.Add (order_for (codes "w1") (codes "http://h/a"))) (given 2 (waiting 1 (codes "w1") ∷ [])) ≡ ends verdicts.Done (Line (numbered 1))
row_add_again = refl

row_added_again : says (jobs.Add (order_for (codes "w1") (codes "http://h/a"))) (given 2 (waiting 1 (codes "w1") ∷ [])) ≡ tells verdicts.Done (codes "1 waiting 0 ? -\n")
unfolding digits
row_added_again = refl

-- the same word with another address
row_other_word : says (jobs.Add (order_for (codes "w1") (codes "http://h/b"))) (given 2 (waiting 1 (codes "w1") ∷ [])) ≡ only (verdicts.OtherWord (numbered 1))
row_other_word = refl

row_other_word_line : errs_of (verdicts.OtherWord (numbered 1)) ≡ codes "word of item 1\n"
unfolding digits
row_other_word_line = refl

-- an order without a word is always a new item
row_add_next : says (jobs.Add (order_for [] (codes "http://h/a"))) (given 2 (waiting 1 [] ∷ [])) ≡ tells verdicts.Done (codes "2 waiting 0 ? -\n")
unfolding digits
row_add_next = refl

-- `list` prints all, by rising id
row_list : says jobs.List (given 3 (waiting 1 (codes "w1") ∷ waiting 2 [] ∷ [])) ≡ tells verdicts.Done (codes "1 waiting 0 ? -\n2 waiting 0 ? -\n")
unfolding digits
row_list = refl

row_list_empty : says jobs.List (given 1 []) ≡ tells verdicts.Done []
row_list_empty = refl

-- `get` of a word that an item has: a complete one is shown, also where it is asked for in more slices
row_get_complete : does (jobs.Get (order_for (codes "w1") (codes "http://h/a")) 4) (given 2 (brought (waiting 1 (codes "w1")) ∷ [])) ≡ ends verdicts.Done (Line (numbered 1))
row_get_complete = refl

-- one that waits is brought as it is
row_get_waiting : does (jobs.Get (order_for (codes "w1") (codes "http://h/a")) 4) (given 2 (waiting 1 (codes "w1") ∷ [])) ≡ record { entries = []; course = Brings (numbered 1) 4 }
row_get_waiting = refl

-- a paused one is asked for first
row_get_paused : does (jobs.Get (order_for (codes "w1") (codes "http://h/a")) 4) (given 2 (put phases.Paused None (waiting 1 (codes "w1")) ∷ [])) ≡ records (entries.Asked (numbered 1)) (Brings (numbered 1) 4)
row_get_paused = refl

-- and a cancelled one can't be brought
row_get_cancelled : does (jobs.Get (order_for (codes "w1") (codes "http://h/a")) 4) (given 2 (put phases.Cancelled (Some reasons.UserCanceled) (waiting 1 (codes "w1")) ∷ [])) ≡ refuses (verdicts.WrongState phases.Cancelled)
row_get_cancelled = refl

-- another address is told before anything is looked at
row_get_other : does (jobs.Get (order_for (codes "w1") (codes "http://h/b")) 1) (given 2 (brought (waiting 1 (codes "w1")) ∷ [])) ≡ refuses (verdicts.OtherWord (numbered 1))
row_get_other = refl

-- there was no room on the disk: `resume` asks for the item again
row_resume : does (jobs.Resume (numbered 1) 1) (given 2 (put (phases.Interrupted reasons.FileNoSpace) (Some reasons.FileNoSpace) (waiting 1 []) ∷ [])) ≡ records (entries.Asked (numbered 1)) (Brings (numbered 1) 1)
row_resume = refl

-- the reply was encoded: it can't go on
row_resume_encoded : does (jobs.Resume (numbered 1) 1) (given 2 (put (phases.Interrupted reasons.ServerBadContent) (Some reasons.ServerBadContent) (waiting 1 []) ∷ []))
    ≡ refuses (verdicts.WrongState (phases.Interrupted reasons.ServerBadContent))
row_resume_encoded = refl

row_resume_encoded_line : errs_of (verdicts.WrongState (phases.Interrupted reasons.ServerBadContent)) ≡ codes "state interrupted:33\n"
unfolding digits
row_resume_encoded_line = refl

-- nor can it once it was paused; then that is its state
row_resume_paused : says (jobs.Resume (numbered 1) 1) (given 2 (put phases.Paused (Some reasons.ServerBadContent) (waiting 1 []) ∷ [])) ≡ only (verdicts.WrongState phases.Paused)
row_resume_paused = refl

-- a complete item isn't brought again by `resume`
row_resume_complete : says (jobs.Resume (numbered 1) 1) (given 2 (brought (waiting 1 []) ∷ [])) ≡ only (verdicts.WrongState phases.Complete)
row_resume_complete = refl

-- nothing has the id
row_cancel_none : says (jobs.Cancel (numbered 9)) (given 1 []) ≡ only (verdicts.NoItem (numbered 9))
row_cancel_none = refl

row_cancel_none_line : errs_of (verdicts.NoItem (numbered 9)) ≡ codes "no item 9\n"
unfolding digits
row_cancel_none_line = refl

row_show_none : says (jobs.Show (numbered 5)) (given 1 []) ≡ only (verdicts.NoItem (numbered 5))
row_show_none = refl

row_show : says (jobs.Show (numbered 1)) (given 2 (waiting 1 (codes "w1") ∷ []))
    ≡ tells verdicts.Done (codes "id 1\nstate waiting\nword w1\naddress http://h/a\nlast -\nname -\ncovered 0\ntotal -\nepoch 1\nattempts 0\nautomatic 0\nmodified -\nsha256 -\n")
unfolding digits
row_show = refl

-- two items: the first is paused, the second is removed, and what is left is listed
row_pause : says (jobs.Pause (numbered 1)) (given 3 (waiting 1 [] ∷ waiting 2 [] ∷ [])) ≡ tells verdicts.Done (codes "1 paused 0 ? -\n")
unfolding digits
row_pause = refl

row_remove : says (jobs.Remove (numbered 2)) (given 3 (put phases.Paused None (waiting 1 []) ∷ waiting 2 [] ∷ [])) ≡ tells verdicts.Done []
row_remove = refl

row_removed : behind (jobs.Remove (numbered 2)) (given 3 (put phases.Paused None (waiting 1 []) ∷ waiting 2 [] ∷ [])) ≡ put phases.Paused None (waiting 1 []) ∷ []
row_removed = refl

row_list_paused : says jobs.List (given 3 (put phases.Paused None (waiting 1 []) ∷ [])) ≡ tells verdicts.Done (codes "1 paused 0 ? -\n")
unfolding digits
row_list_paused = refl

-- the word of an item that was removed is free again, and its id is not
row_add_removed : does (jobs.Add (order_for (codes "w1") (codes "http://h/b"))) (given 2 (behind (jobs.Remove (numbered 1)) (given 2 (waiting 1 (codes "w1") ∷ []))))
    ≡ records (entries.Added (numbered 2) (codes "w1") (codes "http://h/b") [] None 0) (Ends verdicts.Done (Line (numbered 2)))
row_add_removed = refl

-- a full list takes no more, and still answers for a word that it has
row_full : does (jobs.Add (order_for [] (codes "http://h/a"))) (record { list = record { limit = 1; next = 2; is_first = false; is_early = false; items = waiting 1 (codes "w1") ∷ [] }; at = 0 }) ≡ refuses (verdicts.ItemsFull 1)
row_full = refl

row_full_known : does (jobs.Add (order_for (codes "w1") (codes "http://h/a"))) (record { list = record { limit = 1; next = 2; is_first = false; is_early = false; items = waiting 1 (codes "w1") ∷ [] }; at = 0 }) ≡ ends verdicts.Done (Line (numbered 1))
row_full_known = refl

-- the ids are used up
row_last_id : does (jobs.Add (order_for [] (codes "http://h/a"))) (given 4294967295 []) ≡ refuses (verdicts.ItemsFull 0)
row_last_id = refl

-- pausing and cancelling twice do nothing more, and say the same
row_pause_again : does (jobs.Pause (numbered 1)) (given 2 (put phases.Paused None (waiting 1 []) ∷ [])) ≡ ends verdicts.Done (Line (numbered 1))
row_pause_again = refl

row_cancel : says (jobs.Cancel (numbered 1)) (given 2 (put (phases.Interrupted reasons.ServerBadContent) (Some reasons.ServerBadContent) (waiting 1 []) ∷ [])) ≡ tells verdicts.Done (codes "1 cancelled 0 ? -\n")
unfolding digits
row_cancel = refl

row_cancel_again : does (jobs.Cancel (numbered 1)) (given 2 (put phases.Cancelled (Some reasons.UserCanceled) (waiting 1 []) ∷ [])) ≡ ends verdicts.Done (Line (numbered 1))
row_cancel_again = refl

row_cancel_complete : says (jobs.Cancel (numbered 1)) (given 2 (brought (waiting 1 []) ∷ [])) ≡ only (verdicts.WrongState phases.Complete)
row_cancel_complete = refl

-- the lines and statuses of what stops an opening, and of a full list
row_damaged_line : errs_of (verdicts.Damaged 26) ≡ codes "journal damaged at 26\n"
unfolding digits
row_damaged_line = refl

row_full_line : errs_of (verdicts.ItemsFull 4096) ≡ codes "items full 4096\n"
unfolding digits
row_full_line = refl

-- what each change answers, by the state of its item

row_pause_none : says (jobs.Pause (numbered 7)) (given 2 (waiting 1 [] ∷ [])) ≡ only (verdicts.NoItem (numbered 7))
row_pause_none = refl

row_pause_interrupted : says (jobs.Pause (numbered 1)) (given 2 (put (phases.Interrupted reasons.NetworkTimeout) (Some reasons.NetworkTimeout) (waiting 1 []) ∷ [])) ≡ tells verdicts.Done (codes "1 paused 0 ? -\n")
unfolding digits
row_pause_interrupted = refl

row_pause_complete : says (jobs.Pause (numbered 1)) (given 2 (brought (waiting 1 []) ∷ [])) ≡ only (verdicts.WrongState phases.Complete)
row_pause_complete = refl

row_pause_cancelled : says (jobs.Pause (numbered 1)) (given 2 (put phases.Cancelled (Some reasons.UserCanceled) (waiting 1 []) ∷ [])) ≡ only (verdicts.WrongState phases.Cancelled)
row_pause_cancelled = refl

row_pause_cancelled_line : errs_of (verdicts.WrongState phases.Cancelled) ≡ codes "state cancelled\n"
row_pause_cancelled_line = refl

-- the list is as it was where a change is refused
row_pause_refused : behind (jobs.Pause (numbered 1)) (given 2 (brought (waiting 1 []) ∷ [])) ≡ brought (waiting 1 []) ∷ []
row_pause_refused = refl

row_resume_none : says (jobs.Resume (numbered 7) 1) (given 2 (waiting 1 [] ∷ [])) ≡ only (verdicts.NoItem (numbered 7))
row_resume_none = refl

-- an item that waits is brought, and nothing is recorded before
row_resume_waiting : does (jobs.Resume (numbered 1) 16) (given 2 (waiting 1 [] ∷ [])) ≡ record { entries = []; course = Brings (numbered 1) 16 }
row_resume_waiting = refl

row_resume_cancelled : says (jobs.Resume (numbered 1) 1) (given 2 (put phases.Cancelled (Some reasons.UserCanceled) (waiting 1 []) ∷ [])) ≡ only (verdicts.WrongState phases.Cancelled)
row_resume_cancelled = refl

row_resume_finishing : says (jobs.Resume (numbered 1) 1) (given 2 (put phases.Finishing None (waiting 1 []) ∷ [])) ≡ only (verdicts.WrongState phases.Finishing)
row_resume_finishing = refl

row_cancel_waiting : does (jobs.Cancel (numbered 1)) (given 2 (waiting 1 [] ∷ [])) ≡ records (entries.Cancelled (numbered 1)) (Ends verdicts.Done (Line (numbered 1)))
row_cancel_waiting = refl

row_cancel_paused : says (jobs.Cancel (numbered 1)) (given 2 (put phases.Paused None (waiting 1 []) ∷ [])) ≡ tells verdicts.Done (codes "1 cancelled 0 ? -\n")
unfolding digits
row_cancel_paused = refl

-- a cancelled item keeps its word, and can be removed
row_cancel_word : says (jobs.Add (order_for (codes "w1") (codes "http://h/a"))) (given 2 (behind (jobs.Cancel (numbered 1)) (given 2 (waiting 1 (codes "w1") ∷ [])))) ≡ tells verdicts.Done (codes "1 cancelled 0 ? -\n")
unfolding digits
row_cancel_word = refl

row_remove_none : says (jobs.Remove (numbered 7)) (given 2 (waiting 1 [] ∷ [])) ≡ only (verdicts.NoItem (numbered 7))
row_remove_none = refl

row_remove_complete : does (jobs.Remove (numbered 1)) (given 2 (brought (waiting 1 []) ∷ [])) ≡ records (entries.Removed (numbered 1)) (Ends verdicts.Done Nothing)
row_remove_complete = refl

row_remove_cancelled : behind (jobs.Remove (numbered 1)) (given 2 (put phases.Cancelled (Some reasons.UserCanceled) (waiting 1 []) ∷ [])) ≡ []
row_remove_cancelled = refl

-- what an attempt runs on, or is being finished, isn't removed
row_remove_running : says (jobs.Remove (numbered 1)) (given 2 (put phases.Running None (waiting 1 []) ∷ [])) ≡ only (verdicts.WrongState phases.Running)
row_remove_running = refl

row_remove_finishing : says (jobs.Remove (numbered 1)) (given 2 (put phases.Finishing None (waiting 1 []) ∷ [])) ≡ only (verdicts.WrongState phases.Finishing)
row_remove_finishing = refl

-- `get` of a list that is full, and of an item that can't go on
row_get_full : does (jobs.Get (order_for [] (codes "http://h/a")) 1) (record { list = record { limit = 1; next = 2; is_first = false; is_early = false; items = waiting 1 (codes "w1") ∷ [] }; at = 0 }) ≡ refuses (verdicts.ItemsFull 1)
row_get_full = refl

row_get_encoded : does (jobs.Get (order_for (codes "w1") (codes "http://h/a")) 1) (given 2 (put (phases.Interrupted reasons.ServerBadContent) (Some reasons.ServerBadContent) (waiting 1 (codes "w1")) ∷ []))
    ≡ refuses (verdicts.WrongState (phases.Interrupted reasons.ServerBadContent))
row_get_encoded = refl

-- the second of two items with a word is found by it
row_get_second : does (jobs.Get (order_for (codes "w2") (codes "http://h/a")) 1) (given 3 (brought (waiting 1 (codes "w1")) ∷ waiting 2 (codes "w2") ∷ [])) ≡ record { entries = []; course = Brings (numbered 2) 1 }
row_get_second = refl
