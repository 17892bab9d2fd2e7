-- Which lists runs make: worked rows, and that they make no other.
use Rattle.std.proofs.Common.{◌≡◌, List, [], ◌∷◌, ◌++◌, refl, ◌∙◌, ap}
use Rattle.std.proofs.lemmas.List.{append-nil}
use Rattle.dm_types.specs.declared.entry.Entry.{Entry}
use Rattle.dm_types.specs.declared.entry.Entry.TheVariants as entries
use Rattle.dm_types.specs.declared.item.ItemId.{ItemId}
use Rattle.dm_item.specs.Lawful.{History}
use Rattle.dm_does.specs.Headline.{AddsEnded, Cut, Ended, IsFrontOf, IsListOf, Piece, next, none}

one : ItemId
one = record { 0 = 1 }

paused : Entry
paused = entries.Paused one

asked : Entry
asked = entries.Asked one

cancelled : Entry
cancelled = entries.Cancelled one

-- a run that ended, with nothing that failed
row_ended : IsListOf (Ended (paused ∷ []) [] ∷ []) (paused ∷ [])
row_ended = next [] [] (Ended (paused ∷ []) []) (paused ∷ []) none (record { late = []; front = record { rest = []; is = refl }; is = refl })

-- then one that was cut: of what it tried only the first entry stands
row_cut : IsListOf (Cut (asked ∷ cancelled ∷ []) ∷ Ended (paused ∷ []) [] ∷ []) (paused ∷ asked ∷ [])
row_cut = next (Ended (paused ∷ []) [] ∷ []) (paused ∷ []) (Cut (asked ∷ cancelled ∷ [])) (asked ∷ []) row_ended (record { rest = cancelled ∷ []; is = refl })

-- or nothing of it
row_cut_early : IsListOf (Cut (asked ∷ cancelled ∷ []) ∷ Ended (paused ∷ []) [] ∷ []) (paused ∷ [])
row_cut_early = next (Ended (paused ∷ []) [] ∷ []) (paused ∷ []) (Cut (asked ∷ cancelled ∷ [])) [] row_ended (record { rest = asked ∷ cancelled ∷ []; is = refl })

-- an entry that failed may stand
row_failed : IsListOf (Ended (paused ∷ []) (asked ∷ []) ∷ []) (paused ∷ asked ∷ [])
row_failed = next [] [] (Ended (paused ∷ []) (asked ∷ [])) (paused ∷ asked ∷ []) none (record { late = asked ∷ []; front = record { rest = []; is = refl }; is = refl })

-- where no run was the list is empty
pub only_none : (list : History) → IsListOf [] list → list ≡ []
only_none _ none = refl

front_of_nothing : (front : History) → IsFrontOf [] front → front ≡ []
front_of_nothing [] is = refl
front_of_nothing (e ∷ front) is = cc

-- a run that ended added just what it recorded, where nothing failed
adds_just : (recorded more : History) → AddsEnded recorded [] more → more ≡ recorded
adds_just recorded more adds = adds.is ∙ ap (λ (late : History). recorded ++ late) (front_of_nothing adds.late adds.front) ∙ append-nil recorded

-- all runs ended, and nothing failed: the list is what they recorded
abbrev pub recorded_by : List History → History
recorded_by [] = []
recorded_by (recorded ∷ older) = recorded_by older ++ recorded

abbrev pub all_ended : List History → List Piece
all_ended [] = []
all_ended (recorded ∷ older) = Ended recorded [] ∷ all_ended older

pub only_recorded : (runs : List History) (list : History) → IsListOf (all_ended runs) list → list ≡ recorded_by runs
only_recorded [] list is = only_none list is
only_recorded (recorded ∷ older) _ (next _ list _ more is adds) =
    ap (λ (h : History). h ++ more) (only_recorded older list is) ∙ ap (λ (h : History). recorded_by older ++ h) (adds_just recorded more adds)
