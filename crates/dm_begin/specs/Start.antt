-- How an attempt of an item begins.
use Rattle.std.specs.Prelude.{◌≡◌, ◌⊎◌, ◌<◌, ◌≤◌, length, ℕ, true, false, Some, None, IsSome, IsTrue, List, [], ◌∷◌, Result, Ok, Err}
use Rattle.std.specs.Option.{option_map}
use Rattle.dm_types.specs.declared.entry.Entry.{Entry}
use Rattle.dm_types.specs.declared.entry.Entry.TheVariants as entries
use Rattle.dm_types.specs.declared.item.Epoch.{Epoch}
use Rattle.dm_types.specs.declared.item.Item.{Item}
use Rattle.dm_types.specs.declared.item.ItemId.{ItemId}
use Rattle.dm_types.specs.declared.kinds.By.{By}
use Rattle.dm_types.specs.declared.slices.Slice.{Slice}
use Rattle.dm_types.specs.declared.reason.Reason.TheVariants as reasons
use Rattle.dm_slice.specs.Words.{cover_end}
use Rattle.dm_disk_model.specs.Disk.{History as Clock}
use Rattle.dm_item.specs.Listing.{item_in}
use Rattle.dm_policy.specs.Mode.{because_by}
use Rattle.dm_item.specs.Row.{facts_of}
use Rattle.dm_record.specs.Limits.{IsEntry}
use Rattle.dm_record.specs.Spelling.{spelling_of}
use Rattle.dm_journal.specs.Text.{FitsCell}
use Rattle.dm_store.specs.declared.life.Life.{Life}
use Rattle.dm_store.specs.declared.pass.Pass.{Pass}
use Rattle.dm_store.specs.Becomes.{Fell, Recorded}
use Rattle.dm_store.specs.Lives.{part_place}
use Rattle.dm_store.specs.View.{View}
use Rattle.dm_answers.specs.declared.answer.Begun.{Begun}
use Rattle.dm_answers.specs.declared.answer.Begun.TheVariants as begun
use Rattle.dm_answers.specs.declared.fault.DeskFault.{DeskFault}
use Rattle.dm_answers.specs.declared.fault.DeskFault.TheVariants as faults
use Rattle.dm_answers.specs.Begin.{begins_anew, may_begin, pass_of}
use Rattle.dm_answers.specs.Running.{HasNone, ItemWith, part_bytes}
use Rattle.dm_begin.specs.declared.readying.Beginning.{Beginning}
use Rattle.dm_begin.specs.declared.starting.Start.{Start}
use Rattle.dm_begin.specs.declared.starting.Start.TheVariants.{Anew, Fresh, Kept}

-- the content is brought anew, by this rule
pub record StartsAnew (item : Item) (pass : Pass) (because : ℕ) : Type 0 where
  pub anew : begins_anew item ≡ true
  pub pass_is : pass ≡ pass_of item
  pub because_is : because_by item.reason (facts_of item) ≡ Some because

-- the first reply of the epoch wasn't told
pub record StartsFresh (item : Item) (pass : Pass) : Type 0 where
  pub anew : begins_anew item ≡ false
  pub pass_is : pass ≡ pass_of item
  pub untold : item.key ≡ None

-- the part is to have so many bytes
pub record StartsKept (item : Item) (pass : Pass) (wanted : ℕ) : Type 0 where
  pub anew : begins_anew item ≡ false
  pub pass_is : pass ≡ pass_of item
  pub told : IsSome item.key
  pub wanted_is : wanted ≡ cover_end item.slices

abbrev pub IsStart : Item → Start → Type 0
IsStart item (Anew pass because) = StartsAnew item pass because
IsStart item (Fresh pass) = StartsFresh item pass
IsStart item (Kept pass wanted) = StartsKept item pass wanted

-- it may begin, and so it does
pub record MayStart (by : By) (start : Start) (item : Item) : Type 0 where
  pub may : IsTrue (may_begin by item)
  pub is : IsStart item start

-- how an attempt of the item with the id begins, or why none may
abbrev pub BeginChecks : {D O : Type 0} → View D O → ItemId → By → Result Start DeskFault → Type 0
BeginChecks desk id by (Ok start) = ItemWith desk id (MayStart by start)
BeginChecks desk id by (Err (faults.NoItem other)) = HasNone desk id other
BeginChecks desk id by (Err (faults.WrongState phase)) = ItemWith desk id (λ item. (phase ≡ item.phase) × (may_begin by item ≡ false))
BeginChecks desk id by _ = ⊥

-- the life of an attempt that begins with these places saved
abbrev pub life_at : ItemId → Epoch → List Slice → Life
life_at id epoch slices = record { id = id; part = part_place id.0 epoch.0; cover = slices; unsaved = 0; round = 0; plan = [] }

-- the entry of the attempt
abbrev pub began_by : Pass → By → ℕ → Entry
began_by pass by at = entries.Began pass.id pass.attempt by at

-- all memory of an attempt that begins: its entry's spelling, and its life
pub record IsBeginning (entry : Entry) (life : Life) (beginning : Beginning) : Type 0 where
  pub is : IsEntry entry
  pub body : beginning.body ≡ spelling_of entry
  pub size : FitsCell beginning.body
  pub life_is : beginning.life ≡ life

-- the entry of a new epoch
abbrev pub restart_by : Pass → ℕ → Entry
restart_by pass because = entries.Restarted pass.id pass.epoch because

-- a rule by which content is brought anew
abbrev pub IsRule : ℕ → Type 0
IsRule because = (1 ≤ because) × (because ≤ 4)

-- the life is that of an attempt of the item with the id, as the item is now
abbrev pub HasLifeOf : {D O : Type 0} → View D O → ItemId → Life → Type 0
HasLifeOf desk id life = ItemWith desk id (λ item. life ≡ life_at item.id item.epoch item.slices)

-- the part of the item with the id has so many bytes
abbrev pub PartHas : {D O : Type 0} → (D → Clock) → View D O → ItemId → ℕ → Type 0
PartHas clock desk id have = (item : Item) → item_in id.0 desk.items.items ≡ Some item → Some have ≡ option_map length (part_bytes clock desk.disk item)

-- What comes of an attempt whose part stands.
abbrev pub ThereAnswers : {D O : Type 0} → View D O → View D O → Pass → ℕ → ℕ → By → ℕ → Result Begun DeskFault → Type 0
ThereAnswers old new pass have wanted by at (Ok (begun.Continue other)) = (other ≡ pass) × ((wanted ≤ have) × Recorded old new (began_by pass by at ∷ []))
ThereAnswers old new pass have wanted by at (Ok (begun.Short had asked)) =
    ((had ≡ have) × (asked ≡ wanted)) × ((have < wanted) × Recorded old new (began_by pass by at ∷ entries.Broke pass.id reasons.FileTooShort ∷ []))
ThereAnswers old new pass have wanted by at (Err (faults.Journal kind)) =
    Fell old new (began_by pass by at ∷ []) ⊎ ((have < wanted) × Fell old new (began_by pass by at ∷ entries.Broke pass.id reasons.FileTooShort ∷ []))
ThereAnswers old new pass have wanted by at _ = ⊥
