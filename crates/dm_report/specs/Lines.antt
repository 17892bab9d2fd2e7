-- The lines on standard error. Each ends with a line feed.
use Rattle.std.specs.Prelude.{ℕ, List, ◌++◌, codes}
use Rattle.std.specs.Fmt.{decimal}
use Rattle.dm_types.specs.Reason.{code_of, name_of}
use Rattle.dm_types.specs.declared.reason.Reason.{Reason}
use Rattle.dm_types.specs.declared.item.Phase.{Phase}
use Rattle.dm_types.specs.declared.kinds.DiskKind.{DiskKind}
use Rattle.dm_types.specs.declared.kinds.DiskKind.TheVariants.{Failed, Denied, NoSpace, NameTooLong}
use Rattle.dm_report.specs.Texts.{line, state_of}

-- interrupted <code> <NAME>
abbrev pub interrupted_line : Reason → List ℕ
interrupted_line reason = line (codes "interrupted " ++ decimal (code_of reason) ++ codes " " ++ name_of reason)

abbrev pub kind_word : DiskKind → List ℕ
kind_word Failed = codes "failed"
kind_word Denied = codes "denied"
kind_word NoSpace = codes "no-space"
kind_word NameTooLong = codes "name-too-long"

abbrev pub bad_words_line : List ℕ
bad_words_line = line (codes "bad words")

abbrev pub bad_address_line : List ℕ
bad_address_line = line (codes "bad address")

abbrev pub no_memory_line : List ℕ
no_memory_line = line (codes "no memory")

-- disk <kind>
abbrev pub disk_line : DiskKind → List ℕ
disk_line kind = line (codes "disk " ++ kind_word kind)

-- no item <id>
abbrev pub no_item_line : ℕ → List ℕ
no_item_line id = line (codes "no item " ++ decimal id)

-- state <state>, as in the line of an item
abbrev pub state_line : Phase → List ℕ
state_line phase = line (codes "state " ++ state_of phase)

-- journal damaged at <place>
abbrev pub journal_damaged_line : ℕ → List ℕ
journal_damaged_line place = line (codes "journal damaged at " ++ decimal place)

-- items full <count>
abbrev pub items_full_line : ℕ → List ℕ
items_full_line count = line (codes "items full " ++ decimal count)

-- word of item <id>
abbrev pub word_taken_line : ℕ → List ℕ
word_taken_line id = line (codes "word of item " ++ decimal id)

-- import <number>
abbrev pub import_line : ℕ → List ℕ
import_line number = line (codes "import " ++ decimal number)

abbrev pub not_accepted_line : List ℕ
not_accepted_line = line (codes "accept failed")

abbrev pub history_failed_line : List ℕ
history_failed_line = line (codes "history failed")
