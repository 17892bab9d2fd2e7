-- An attempt that runs, and one that is over, as the desk has it.
use Rattle.std.specs.Prelude.{◌≡◌, ◌⊎◌, ℕ, ◌||◌, IsTrue, Option, true, false, List, [], ◌∷◌, ◌++◌, length, Some}
use Rattle.std.specs.List.{AllByRecursion}
use Rattle.dm_types.specs.Name.{IsPart}
use Rattle.dm_types.specs.declared.item.Item.{Item}
use Rattle.dm_types.specs.declared.kinds.DiskKind.{DiskKind}
use Rattle.dm_disk_model.specs.Disk.{History as Clock}
use Rattle.dm_item.specs.Lawful.{History}
use Rattle.dm_item.specs.Row.{is_complete, is_finishing}
use Rattle.dm_kept.specs.Files.{Says}
use Rattle.dm_slice.specs.Plan.{opened_by}
use Rattle.dm_store.specs.declared.life.Life.{Life}
use Rattle.dm_store.specs.declared.pass.Pass.{Pass}
use Rattle.dm_store.specs.View.{View}
use Rattle.dm_answers.specs.Begin.{beginning, pass_of}
use Rattle.dm_answers.specs.Running.{RunsWith, part_bytes}
use Rattle.dm_attempt.specs.Brought.{HasCover, RoundsOf}
use Rattle.dm_attempt.specs.Goes.{DeskGoes}
use Rattle.dm_attempt.specs.Scene.{Scene, begun_by, changed_all, cover_by, item_by, told_by}
use Rattle.dm_attempt.specs.Trace.{AreAtEnds, AreNumbered, ArePlanned, Close, IsSave, Round, Trace, entries_behind, plan_by, so_far}

-- the item and its life are what the trace makes of them
pub record IsTraced {D O : Type 0} (scene : Scene D O) (trace : Trace) (item : Item) (life : Life) : Type 0 where
  pub item_is : item ≡ item_by scene trace
  pub cover_is : life.cover ≡ cover_by scene trace
  pub round_is : life.round ≡ length trace.rounds
  pub plan_is : life.plan ≡ plan_by trace.rounds

-- the parts of the newest round are numbered, and each begins where its slice ended at the plan
abbrev pub ArePlaced : Option ℕ → ℕ → ℕ → List Round → Type 0
ArePlaced total n least [] = Unit {0}
ArePlaced total n least (round ∷ older) = AreNumbered 0 (plan_by (round ∷ older)) × AreAtEnds (plan_by (round ∷ older)) (opened_by total n least round.cover)

-- each save is the normal cover of what was landed at some moment, and each round is planned at the cover that the older ones made
pub record IsPlanned {D O : Type 0} (scene : Scene D O) (trace : Trace) : Type 0 where
  pub saves : AllByRecursion (IsSave (begun_by scene).slices (told_by scene trace.told).total trace.count scene.start.limits.min_slice trace.rounds) trace.saves
  pub rounds : ArePlanned (begun_by scene).slices (told_by scene trace.told).total trace.count scene.start.limits.min_slice trace.rounds
  pub placed : ArePlaced (told_by scene trace.told).total trace.count scene.start.limits.min_slice trace.rounds

-- The attempt runs. Its beginning, what was told and each save are recorded, and nothing else.
pub record LiveDesk {D O : Type 0} (tells : Type 0) (clock : D → Clock) (says : O → Says) (far : D → ℕ) (counts : D → DiskKind → ℕ) (scene : Scene D O) (pass : Pass) (present : View D O) (trace : Trace) : Type 0 where
  pub goes : DeskGoes tells clock says far counts IsPart scene.start present (beginning scene.item scene.by scene.at ++ so_far scene.item.id trace) [] false
  pub pass_is : pass ≡ pass_of scene.item
  pub runs : RunsWith present pass.id pass.attempt (IsTraced scene trace)
  pub planned : IsPlanned scene trace
  -- where what was saved and all that was landed is of one content, the part has it at each place of the live cover
  pub brought : tells → (content : List ℕ) → HasCover content (begun_by scene).slices (part_bytes clock scene.start.disk (begun_by scene)) → RoundsOf content trace.rounds
      → HasCover content (cover_by scene trace) (part_bytes clock present.disk (told_by scene trace.told))

-- the name is the item's, which is being finished or complete
abbrev pub IsGivenBy : Item → List ℕ → Type 0
IsGivenBy item name = IsTrue (is_finishing item.phase || is_complete item.phase) × (item.name ≡ Some name)

-- a part's name, or the item's own where these entries make it finishing or complete
abbrev pub IsSpared : {D O : Type 0} → Scene D O → History → List ℕ → Type 0
IsSpared scene recorded name = IsPart name ⊎ IsGivenBy (changed_all recorded scene.item) name

-- all entries of an attempt
abbrev pub all_entries : {D O : Type 0} → Scene D O → Trace → Close → History
all_entries scene trace close = beginning scene.item scene.by scene.at ++ entries_behind scene.item.id scene.at trace close

-- The attempt is over: it closed so, and all its entries are recorded.
pub record DeskOver {D O : Type 0} (tells : Type 0) (clock : D → Clock) (says : O → Says) (far : D → ℕ) (counts : D → DiskKind → ℕ) (scene : Scene D O) (present : View D O) (trace : Trace) (close : Close) : Type 0 where
  pub goes : DeskGoes tells clock says far counts (IsSpared scene (all_entries scene trace close)) scene.start present (all_entries scene trace close) [] false
  pub planned : IsPlanned scene trace

-- nothing was landed that isn't saved
abbrev pub NothingUnsaved : {D O : Type 0} → View D O → Pass → Type 0
NothingUnsaved present pass = RunsWith present pass.id pass.attempt (λ item life. life.unsaved ≡ 0)
