-- The report on all items: how many are in each state, how many have each reason, and the bytes that are there.
use Rattle.std.specs.Prelude.{ℕ, zero, suc, Bool, false, ◌==◌, if◌then◌else◌, List, [], ◌++◌, codes}
use Rattle.std.specs.Fmt.{decimal}
use Rattle.std.specs.List.{count_by, sum_by}
use Rattle.std.specs.Str.{bytes_eq}
use Rattle.dm_types.specs.Reason.{code_of}
use Rattle.dm_types.specs.declared.item.Item.{Item}
use Rattle.dm_types.specs.declared.item.Phase.{Phase}
use Rattle.dm_types.specs.declared.item.Phase.TheVariants.{Waiting, Running, Paused, Finishing, Complete, Cancelled, Interrupted}
use Rattle.dm_slice.specs.Words.{covered}
use Rattle.dm_report.specs.Texts.{field, labelled}

-- the word of a state, without a number
abbrev pub word_of : Phase → List ℕ
word_of Waiting = codes "waiting"
word_of Running = codes "running"
word_of Paused = codes "paused"
word_of Finishing = codes "finishing"
word_of Complete = codes "complete"
word_of Cancelled = codes "cancelled"
word_of (Interrupted reason) = codes "interrupted"

abbrev pub in_state : List ℕ → Item → Bool
in_state word item = bytes_eq (word_of item.phase) word

-- it is interrupted for the reason of this number
abbrev pub has_code : ℕ → Phase → Bool
has_code code (Interrupted reason) = code_of reason == code
has_code code _ = false

-- how many items are in the state of this word
abbrev pub count_in : List Item → List ℕ → ℕ
count_in items word = count_by (in_state word) items

-- how many items are interrupted for the reason of this number
abbrev pub count_for : List Item → ℕ → ℕ
count_for items code = count_by (λ item. has_code code item.phase) items

-- <state> <count>
abbrev pub state_line : List Item → List ℕ → List ℕ
state_line items word = labelled word (decimal (count_in items word))

-- seven lines, one for each state
abbrev pub states_of : List Item → List ℕ
states_of items =
    state_line items (codes "waiting") ++ state_line items (codes "running") ++ state_line items (codes "paused") ++ state_line items (codes "finishing")
    ++ state_line items (codes "complete") ++ state_line items (codes "cancelled") ++ state_line items (codes "interrupted")

-- reason <code> <count>, or nothing where no item has the reason
abbrev pub reason_line : ℕ → ℕ → List ℕ
reason_line code count = if count == 0 then [] else field (codes "reason") ++ labelled (decimal code) (decimal count)

-- the lines of the reasons whose numbers are below this one, by rising number
unfoldable pub reasons_below : List Item → ℕ → List ℕ
reasons_below items zero = []
reasons_below items (suc code) = reasons_below items code ++ reason_line code (count_for items code)

-- every reason's number is below this one
abbrev pub codes_end : ℕ
codes_end = 61

-- the bytes that the items have received
abbrev pub bytes_of : List Item → ℕ
bytes_of items = sum_by (λ item. covered item.slices) items

abbrev pub report_of : List Item → List ℕ
report_of items = states_of items ++ reasons_below items codes_end ++ labelled (codes "bytes") (decimal (bytes_of items))
