-- Looking back in a history. Inside these definitions a history is newest first, so that one more entry is a
-- constructor; the public words turn a history that is oldest first round once.
use Rattle.std.specs.Prelude.{ℕ, ◌+◌, Bool, true, false, ◌||◌, cond, List, [], ◌∷◌, Option, Some, None}

-- the first that is there
abbrev pub first_some : {A : Type 0} → Option A → Option A → Option A
first_some None other = other
first_some (Some x) other = Some x

abbrev pub there : {A : Type 0} → Option A → Bool
there None = false
there (Some x) = true

abbrev pub get : {A : Type 0} → Option A → A → A
get None other = other
get (Some x) other = x

abbrev pub map_some : {A B : Type 0} → (A → B) → Option A → Option B
map_some f None = None
map_some f (Some x) = Some (f x)

-- what the newest entry that tells something tells
abbrev pub newest : {E A : Type 0} → (E → Option A) → List E → Option A
newest f [] = None
newest f (e ∷ older) = first_some (f e) (newest f older)

-- the same, where what an entry tells depends on those before it
abbrev pub newest_after : {E A : Type 0} → (E → List E → Option A) → List E → Option A
newest_after f [] = None
newest_after f (e ∷ older) = first_some (f e older) (newest_after f older)

-- what the oldest entry that tells something tells
abbrev pub oldest : {E A : Type 0} → (E → Option A) → List E → Option A
oldest f [] = None
oldest f (e ∷ older) = first_some (oldest f older) (f e)

-- the entries since the newest that passes
abbrev pub since : {E : Type 0} → (E → Bool) → List E → List E
since test [] = []
since test (e ∷ older) = cond (test e) [] (e ∷ since test older)

-- some entry passes
abbrev pub stands : {E : Type 0} → (E → Bool) → List E → Bool
stands test [] = false
stands test (e ∷ older) = test e || stands test older

-- how many entries pass
abbrev pub count_of : {E : Type 0} → (E → Bool) → List E → ℕ
count_of test [] = 0
count_of test (e ∷ older) = cond (test e) (count_of test older + 1) (count_of test older)

-- the entries that pass
abbrev pub those : {E : Type 0} → (E → Bool) → List E → List E
those test [] = []
those test (e ∷ older) = cond (test e) (e ∷ those test older) (those test older)
