-- A lawful list is one that a compaction may write: its short history is lawful and leaves the same items.
use Rattle.std.proofs.Common.{◌≡◌, ◌≢◌, ℕ, ◌+◌, ◌<◌, ◌≤◌, ◌⊎◌, List, [], ◌∷◌, ◌++◌, map, reverse, cond, true, false, Bool, ◌==◌, Option, Some, None, IsTrue, inr, refl, ap, sym, subst, ◌∙◌, arith, append_assoc}
use Rattle.std.specs.Prelude.{IfSome}
use Rattle.std.proofs.lemmas.Bool.{false≢true}
use Rattle.std.proofs.lemmas.List.{append-nil}
use Rattle.dm_types.specs.declared.item.Item.{Item}
use Rattle.dm_types.specs.declared.item.ItemId.{ItemId}
use Rattle.dm_types.specs.declared.entry.Entry.{Entry}
use Rattle.dm_types.specs.declared.entry.Entry.TheVariants as entries
use Rattle.dm_types.specs.Name.{fold_case}
use Rattle.dm_item.proofs.Basics.{eq_other, eq_same, none_some, some_same}
use Rattle.dm_item.specs.Fields.{added_item, is_gone}
use Rattle.dm_item.specs.Row.{Further, HasName, HasNameIn, IsFreeName, allows, changed, is_cancelled, stopped_item}
use Rattle.dm_item.specs.Words.{IsFreeWord}
use Rattle.dm_item.specs.Restored.{HasOwnName, IsAbove, IsApartFrom, IsRestorable, IsSound}
use Rattle.dm_item.specs.Listing.{Listing, Meets, Row, applied, changed_at, empty_list, item_in, items_after, without}
use Rattle.dm_item.specs.Kept.{IsNumbered}
use Rattle.dm_item.specs.Lawful.{History, IsLawfulBack, IsOf, IsShort, left_by, short_history}
use Rattle.dm_item.proofs.Numbers.{numbered-above, numbered-changed_at, numbered-count, numbered-push, numbered-reopened, numbered-without}
use Rattle.dm_item.proofs.Histories.{empty_is, keeps_step}
use Rattle.dm_item.proofs.Steps.{left_by_step}
use Rattle.dm_item.proofs.Undoing.{found-id}
use Rattle.dm_item.proofs.Sounds.{changes, sound-added, sound-changed, sound-stopped, stays_open, stopped_cancelled}

-- the word is empty, or another than this one
abbrev pub IsFreeOf : List ℕ → List ℕ → Type 0
IsFreeOf [] other = Unit {0}
IsFreeOf (byte ∷ rest) other = other ≢ (byte ∷ rest)

-- two items, the first of which stands before the second
pub record Pair (x y : Item) : Type 0 where
  pub word : IsFreeOf y.word x.word
  pub name : IsApartFrom y x

abbrev pub Behind : Item → List Item → Type 0
Behind x [] = Unit {0}
Behind x (y ∷ rest) = Pair x y × Behind x rest

abbrev pub Apart : List Item → Type 0
Apart [] = Unit {0}
Apart (x ∷ rest) = Behind x rest × Apart rest

abbrev Before : List Item → Item → Type 0
Before [] y = Unit {0}
Before (x ∷ rest) y = Pair x y × Before rest y

abbrev pub Sounds : List Item → Type 0
Sounds [] = Unit {0}
Sounds (x ∷ rest) = IsSound x × Sounds rest

-- what the list of a lawful history keeps
pub record Good (v : Listing) : Type 0 where
  pub numbered : IsNumbered 1 v.items v.next
  pub sounds : Sounds v.items
  pub apart : Apart v.items

-- one more item

behind-push : (x : Item) (rest : List Item) (y : Item) → Behind x rest → Pair x y → Behind x (rest ++ y ∷ [])
behind-push x [] y far pair = (pair, tt)
behind-push x (z ∷ rest) y far pair = (far.0, behind-push x rest y far.1 pair)

apart-push : (items : List Item) (y : Item) → Apart items → Before items y → Apart (items ++ y ∷ [])
apart-push [] y far before = (tt, tt)
apart-push (x ∷ rest) y far before = (behind-push x rest y far.0 before.0, apart-push rest y far.1 before.1)

sounds-push : (items : List Item) (y : Item) → Sounds items → IsSound y → Sounds (items ++ y ∷ [])
sounds-push [] y all sound = (sound, tt)
sounds-push (x ∷ rest) y all sound = (all.0, sounds-push rest y all.1 sound)

word_first : (word : List ℕ) (x : Item) (rest : List Item) → IsFreeWord word (x ∷ rest) → IsFreeOf word x.word
word_first [] x rest is_free = tt
word_first (b ∷ more) x rest is_free = is_free.0

word_rest : (word : List ℕ) (x : Item) (rest : List Item) → IsFreeWord word (x ∷ rest) → IsFreeWord word rest
word_rest [] x rest is_free = tt
word_rest (b ∷ more) x rest is_free = is_free.1

word_nil : (word : List ℕ) → IsFreeWord word []
word_nil [] = tt
word_nil (b ∷ more) = tt

word_both : (word : List ℕ) (x : Item) (rest : List Item) → IsFreeOf word x.word → IsFreeWord word rest → IsFreeWord word (x ∷ rest)
word_both [] x rest one others = tt
word_both (b ∷ more) x rest one others = (one, others)

before_new : (items : List Item) (y : Item) → IsFreeWord y.word items → HasOwnName y items → Before items y
before_new [] y word name = tt
before_new (x ∷ rest) y word name = (record { word = word_first y.word x rest word; name = name.0 }, before_new rest y (word_rest y.word x rest word) name.1)

no_name : (items : List Item) (y : Item) → y.name ≡ None → HasOwnName y items
no_name [] y none = tt
no_name (x ∷ rest) y none = (λ lives others. subst (λ (n : Option (List ℕ)). IfSome n (λ name. ¬ HasName x name)) (sym none) tt, no_name rest y none)

-- an item changed at its place

record Kept (x new y : Item) : Type 0 where
  left : Pair x y → Pair new y
  right : Pair y x → Pair y new

abbrev KeptAll : ℕ → Item → Item → List Item → Type 0
KeptAll id x new [] = Unit {0}
KeptAll id x new (y ∷ rest) = (y.id.0 ≢ id → Kept x new y) × KeptAll id x new rest

kept_left : (id : ℕ) (x new : Item) (rest : List Item) (low next : ℕ) → id < low → IsNumbered low rest next → KeptAll id x new rest → Behind x rest → Behind new rest
kept_left id x new [] low next far numbered kept behind = tt
kept_left id x new (y ∷ rest) low next far numbered kept behind =
    let own = numbered.0 in
    ((kept.0 (λ (e : y.id.0 ≡ id). omega arith)).left behind.0, kept_left id x new rest (y.id.0 + 1) next (omega arith) numbered.1 kept.1 behind.1)

behind_at_test : (e : Entry) (id : ℕ) (x y z : Item) (rest : List Item) (test : Bool) → (z.id.0 == id) ≡ test → cond test (Some z) (item_in id rest) ≡ Some x → (Pair y x → Pair y (changed e x)) → Behind y (z ∷ rest) → (item_in id rest ≡ Some x → Behind y (changed_at e id rest)) → Behind y (cond test (changed e z ∷ rest) (z ∷ changed_at e id rest))
behind_at_test e id x y z rest true is found right behind older =
    (subst (λ (i : Item). Pair y (changed e i)) (sym (some_same found)) (right (subst (λ (i : Item). Pair y i) (some_same found) behind.0)), behind.1)
behind_at_test e id x y z rest false is found right behind older = (behind.0, older found)

behind_at : (e : Entry) (id : ℕ) (x y : Item) (rest : List Item) → item_in id rest ≡ Some x → (Pair y x → Pair y (changed e x)) → Behind y rest → Behind y (changed_at e id rest)
behind_at e id x y [] found right behind = tt
behind_at e id x y (z ∷ rest) found right behind = behind_at_test e id x y z rest (z.id.0 == id) refl found right behind (λ later. behind_at e id x y rest later right behind.1)

apart_at_test : (e : Entry) (id : ℕ) (x y : Item) (rest : List Item) (low next : ℕ) (test : Bool) → (y.id.0 == id) ≡ test → cond test (Some y) (item_in id rest) ≡ Some x → IsNumbered low (y ∷ rest) next → KeptAll id x (changed e x) (y ∷ rest) → Apart (y ∷ rest) → (item_in id rest ≡ Some x → Apart (changed_at e id rest)) → Apart (cond test (changed e y ∷ rest) (y ∷ changed_at e id rest))
apart_at_test e id x y rest low next true is found numbered kept far older =
    let same : y ≡ x = some_same found in
    let own : y.id.0 ≡ id = eq_same y.id.0 id is in
    let behind_x : Behind x rest = subst (λ (i : Item). Behind i rest) same far.0 in
    (subst (λ (i : Item). Behind (changed e i) rest) (sym same) (kept_left id x (changed e x) rest (y.id.0 + 1) next (omega arith) numbered.1 kept.1 behind_x), far.1)
apart_at_test e id x y rest low next false is found numbered kept far older =
    (behind_at e id x y rest found (kept.0 (eq_other y.id.0 id is)).right far.0, older found)

apart_at : (e : Entry) (id : ℕ) (x : Item) (items : List Item) (low next : ℕ) → item_in id items ≡ Some x → IsNumbered low items next → KeptAll id x (changed e x) items → Apart items → Apart (changed_at e id items)
apart_at e id x [] low next found numbered kept far = tt
apart_at e id x (y ∷ rest) low next found numbered kept far =
    apart_at_test e id x y rest low next (y.id.0 == id) refl found numbered kept far (λ later. apart_at e id x rest (y.id.0 + 1) next later numbered.1 kept.1 far.1)

sounds_at_test : (e : Entry) (id : ℕ) (x y : Item) (rest : List Item) (test : Bool) → cond test (Some y) (item_in id rest) ≡ Some x → IsSound (changed e x) → Sounds (y ∷ rest) → (item_in id rest ≡ Some x → Sounds (changed_at e id rest)) → Sounds (cond test (changed e y ∷ rest) (y ∷ changed_at e id rest))
sounds_at_test e id x y rest true found sound all older = (subst (λ (i : Item). IsSound (changed e i)) (sym (some_same found)) sound, all.1)
sounds_at_test e id x y rest false found sound all older = (all.0, older found)

sounds_at : (e : Entry) (id : ℕ) (x : Item) (items : List Item) → item_in id items ≡ Some x → IsSound (changed e x) → Sounds items → Sounds (changed_at e id items)
sounds_at e id x [] found sound all = tt
sounds_at e id x (y ∷ rest) found sound all = sounds_at_test e id x y rest (y.id.0 == id) found sound all (λ later. sounds_at e id x rest later sound all.1)

sounds_in_test : (id : ℕ) (x y : Item) (rest : List Item) (test : Bool) → cond test (Some y) (item_in id rest) ≡ Some x → IsSound y → (item_in id rest ≡ Some x → IsSound x) → IsSound x
sounds_in_test id x y rest true found sound older = subst IsSound (some_same found) sound
sounds_in_test id x y rest false found sound older = older found

sounds_in : (id : ℕ) (x : Item) (items : List Item) → item_in id items ≡ Some x → Sounds items → IsSound x
sounds_in id x [] found all = absurd (none_some found)
sounds_in id x (y ∷ rest) found all = sounds_in_test id x y rest (y.id.0 == id) found all.0 (λ later. sounds_in id x rest later all.1)

-- the same word and name, of an item that wasn't cancelled
kept_same : (x new y : Item) → new.word ≡ x.word → new.name ≡ x.name → is_cancelled x.phase ≡ false → Kept x new y
kept_same x new y word name lives =
    record {
      left = λ pair. record {
        word = subst (λ (w : List ℕ). IsFreeOf y.word w) (sym word) pair.word;
        name = λ y_lives new_lives. subst (λ (n : Option (List ℕ)). IfSome y.name (λ theirs. ¬ HasNameIn n theirs)) (sym name) (pair.name y_lives lives);
      };
      right = λ pair. record {
        word = subst (λ (w : List ℕ). IsFreeOf w y.word) (sym word) pair.word;
        name = λ new_lives y_lives. subst (λ (n : Option (List ℕ)). IfSome n (λ theirs. ¬ HasName y theirs)) (sym name) (pair.name lives y_lives);
      };
    }

nothing_has : (name : Option (List ℕ)) → IfSome name (λ theirs. ¬ HasNameIn None theirs)
nothing_has None = tt
nothing_has (Some name) = λ has. has

other_way : (name : Option (List ℕ)) (told : List ℕ) → ¬ HasNameIn name told → IfSome name (λ theirs. ¬ HasNameIn (Some told) theirs)
other_way None told none = tt
other_way (Some name) told none = λ (same : fold_case name ≡ fold_case told). none (sym same)

-- no name any more
kept_none : (x new y : Item) → new.word ≡ x.word → new.name ≡ None → Kept x new y
kept_none x new y word name =
    record {
      left = λ pair. record {
        word = subst (λ (w : List ℕ). IsFreeOf y.word w) (sym word) pair.word;
        name = λ y_lives new_lives. subst (λ (n : Option (List ℕ)). IfSome y.name (λ theirs. ¬ HasNameIn n theirs)) (sym name) (nothing_has y.name);
      };
      right = λ pair. record {
        word = subst (λ (w : List ℕ). IsFreeOf w y.word) (sym word) pair.word;
        name = λ new_lives y_lives. subst (λ (n : Option (List ℕ)). IfSome n (λ theirs. ¬ HasName y theirs)) (sym name) tt;
      };
    }

-- a name that no other item has
kept_named : (x new y : Item) (told : List ℕ) → new.word ≡ x.word → new.name ≡ Some told → (is_cancelled y.phase ≡ false → ¬ HasName y told) → Kept x new y
kept_named x new y told word name is_free =
    record {
      left = λ pair. record {
        word = subst (λ (w : List ℕ). IsFreeOf y.word w) (sym word) pair.word;
        name = λ y_lives new_lives. subst (λ (n : Option (List ℕ)). IfSome y.name (λ theirs. ¬ HasNameIn n theirs)) (sym name) (other_way y.name told (is_free y_lives));
      };
      right = λ pair. record {
        word = subst (λ (w : List ℕ). IsFreeOf w y.word) (sym word) pair.word;
        name = λ new_lives y_lives. subst (λ (n : Option (List ℕ)). IfSome n (λ theirs. ¬ HasName y theirs)) (sym name) (is_free y_lives);
      };
    }

all_same : (id : ℕ) (x new : Item) (items : List Item) → new.word ≡ x.word → new.name ≡ x.name → is_cancelled x.phase ≡ false → KeptAll id x new items
all_same id x new [] word name lives = tt
all_same id x new (y ∷ rest) word name lives = (λ other. kept_same x new y word name lives, all_same id x new rest word name lives)

all_none : (id : ℕ) (x new : Item) (items : List Item) → new.word ≡ x.word → new.name ≡ None → KeptAll id x new items
all_none id x new [] word name = tt
all_none id x new (y ∷ rest) word name = (λ other. kept_none x new y word name, all_none id x new rest word name)

all_named : (id : ℕ) (x new : Item) (told : List ℕ) (items : List Item) → new.word ≡ x.word → new.name ≡ Some told → IsFreeName id told items → KeptAll id x new items
all_named id x new told [] word name is_free = tt
all_named id x new told (y ∷ rest) word name is_free = (λ other. kept_named x new y told word name (is_free.0 other), all_named id x new told rest word name is_free.1)

kept_row : (e : Entry) (id : ℕ) (items : List Item) (x : Item) → x.id.0 ≡ id → allows e x.phase ≡ true → is_gone e ≡ false → changes e ≡ true → Further e items x → KeptAll id x (changed e x) items
kept_row (entries.Added id word address wish digest at) named items x own may stays does further = absurd (false≢true does)
kept_row (entries.Began id attempt by at) named items x own may stays does further = all_same named x (changed (entries.Began id attempt by at) x) items refl refl (stays_open (entries.Began id attempt by at) x.phase may refl refl).1
kept_row (entries.Described id key last_address total name modified) named items x own may stays does further = subst (λ (n : ℕ). KeptAll n x (changed (entries.Described id key last_address total name modified) x) items) own (all_named x.id.0 x (changed (entries.Described id key last_address total name modified) x) name items refl refl further.free)
kept_row (entries.Progress id slices) named items x own may stays does further = all_same named x (changed (entries.Progress id slices) x) items refl refl (stays_open (entries.Progress id slices) x.phase may refl refl).1
kept_row (entries.Broke id why) named items x own may stays does further = all_same named x (changed (entries.Broke id why) x) items refl refl (stays_open (entries.Broke id why) x.phase may refl refl).1
kept_row (entries.Paused id) named items x own may stays does further = all_same named x (changed (entries.Paused id) x) items refl refl (stays_open (entries.Paused id) x.phase may refl refl).1
kept_row (entries.Cancelled id) named items x own may stays does further = all_same named x (changed (entries.Cancelled id) x) items refl refl (stays_open (entries.Cancelled id) x.phase may refl refl).1
kept_row (entries.Restarted id epoch because) named items x own may stays does further = all_none named x (changed (entries.Restarted id epoch because) x) items refl refl
kept_row (entries.Finishing id total) named items x own may stays does further = all_same named x (changed (entries.Finishing id total) x) items refl refl (stays_open (entries.Finishing id total) x.phase may refl refl).1
kept_row (entries.Done id digest at) named items x own may stays does further = all_same named x (changed (entries.Done id digest at) x) items refl refl (stays_open (entries.Done id digest at) x.phase may refl refl).1
kept_row (entries.Removed id) named items x own may stays does further = absurd (false≢true (sym stays))
kept_row (entries.Archived id) named items x own may stays does further = absurd (false≢true (sym stays))
kept_row (entries.Reopened next at) named items x own may stays does further = absurd (false≢true does)
kept_row (entries.Restored other) named items x own may stays does further = absurd (false≢true does)
kept_row (entries.Asked id) named items x own may stays does further = all_same named x (changed (entries.Asked id) x) items refl refl (stays_open (entries.Asked id) x.phase may refl refl).1

-- an item taken out
behind-without : (id : ℕ) (x : Item) (items : List Item) → Behind x items → Behind x (without id items)
behind-without id x [] behind = tt
behind-without id x (y ∷ rest) behind =
    elim (y.id.0 == id) as (λ (b : Bool). Behind x (cond b rest (y ∷ without id rest))) [ true ↦ behind.1 | false ↦ (behind.0, behind-without id x rest behind.1) ]

apart-without : (id : ℕ) (items : List Item) → Apart items → Apart (without id items)
apart-without id [] far = tt
apart-without id (y ∷ rest) far =
    elim (y.id.0 == id) as (λ (b : Bool). Apart (cond b rest (y ∷ without id rest))) [ true ↦ far.1 | false ↦ (behind-without id y rest far.0, apart-without id rest far.1) ]

sounds-without : (id : ℕ) (items : List Item) → Sounds items → Sounds (without id items)
sounds-without id [] all = tt
sounds-without id (y ∷ rest) all =
    elim (y.id.0 == id) as (λ (b : Bool). Sounds (cond b rest (y ∷ without id rest))) [ true ↦ all.1 | false ↦ (all.0, sounds-without id rest all.1) ]

-- each running item stopped
pair-stopped : (x y : Item) → Pair x y → Pair (stopped_item x) (stopped_item y)
pair-stopped x y pair =
    record { word = pair.word; name = λ y_lives x_lives. pair.name (sym (stopped_cancelled y.phase) ∙ y_lives) (sym (stopped_cancelled x.phase) ∙ x_lives) }

behind-stopped : (x : Item) (items : List Item) → Behind x items → Behind (stopped_item x) (map stopped_item items)
behind-stopped x [] behind = tt
behind-stopped x (y ∷ rest) behind = (pair-stopped x y behind.0, behind-stopped x rest behind.1)

apart-stopped : (items : List Item) → Apart items → Apart (map stopped_item items)
apart-stopped [] far = tt
apart-stopped (y ∷ rest) far = (behind-stopped y rest far.0, apart-stopped rest far.1)

sounds-stopped : (items : List Item) → Sounds items → Sounds (map stopped_item items)
sounds-stopped [] all = tt
sounds-stopped (y ∷ rest) all = (sound-stopped y all.0, sounds-stopped rest all.1)

-- each entry that meets its row keeps the list good

good-gone : (e : Entry) (id : ItemId) (v : Listing) (x : Item) (gone : Bool) → is_gone e ≡ gone → changes e ≡ true → Good v → item_in id.0 v.items ≡ Some x → Row e v.items (Some x) → Good (record v { is_first = false; is_early = false; items = cond gone (without id.0 v.items) (changed_at e id.0 v.items) })
good-gone e id v x true is does good found row =
    record { numbered = numbered-without id.0 1 v.items v.next good.numbered; sounds = sounds-without id.0 v.items good.sounds; apart = apart-without id.0 v.items good.apart }
good-gone e id v x false is does good found row =
    record {
      numbered = numbered-changed_at e id.0 1 v.items v.next good.numbered;
      sounds = sounds_at e id.0 x v.items found (sound-changed e v.items x (sounds_in id.0 x v.items found good.sounds) row.0 is does row.1) good.sounds;
      apart = apart_at e id.0 x v.items 1 v.next found good.numbered (kept_row e id.0 v.items x (found-id id.0 v.items x found) row.0 is does row.1) good.apart;
    }

good-named : (e : Entry) (id : ItemId) (v : Listing) (found : Option Item) → changes e ≡ true → Good v → item_in id.0 v.items ≡ found → Row e v.items found → Good (record v { is_first = false; is_early = false; items = items_after e (Some id) v.items })
good-named e id v None does good found row = absurd row
good-named e id v (Some x) does good found row = good-gone e id v x (is_gone e) refl does good found row

good-added : (id : ItemId) (word address wish : List ℕ) (digest : Option (List ℕ)) (at : ℕ) (v : Listing) → Good v → id.0 ≡ v.next → IsFreeWord word v.items → Good (applied (entries.Added id word address wish digest at) v)
good-added id word address wish digest at v good same is_free =
    let new = added_item id word address wish digest at in
    record {
      numbered = numbered-push 1 v.items v.next new good.numbered same;
      sounds = sounds-push v.items new good.sounds (sound-added id word address wish digest at);
      apart = apart-push v.items new good.apart (before_new v.items new is_free (no_name v.items new refl));
    }

good-restored : (item : Item) (v : Listing) → Good v → IsRestorable v.is_early v.next v.items item → Good (applied (entries.Restored item) v)
good-restored item v good is =
    record {
      numbered = numbered-above 1 v.items v.next item is.first good.numbered is.above is.below;
      sounds = sounds-push v.items item good.sounds is.sound;
      apart = apart-push v.items item good.apart (before_new v.items item is.word is.name);
    }

good-reopened : (next at : ℕ) (v : Listing) (first : Bool) → v.is_first ≡ first → (IsTrue v.is_first → v.items ≡ []) → Good v → (next ≡ v.next) ⊎ (IsTrue v.is_first × (1 ≤ next)) → Good (applied (entries.Reopened next at) v)
good-reopened next at v first is fresh good may =
    record {
      numbered = numbered-reopened v.is_first v.next next v.items good.numbered fresh may;
      sounds = sounds-stopped v.items good.sounds;
      apart = apart-stopped v.items good.apart;
    }

good-applied : (e : Entry) (v : Listing) → (IsTrue v.is_first → v.items ≡ []) → Good v → Meets v e → Good (applied e v)
good-applied (entries.Added id word address wish digest at) v fresh good meets = good-added id word address wish digest at v good meets.0 meets.1
good-applied (entries.Began id attempt by at) v fresh good meets = good-named (entries.Began id attempt by at) id v (item_in id.0 v.items) refl good refl meets
good-applied (entries.Described id key last_address total name modified) v fresh good meets = good-named (entries.Described id key last_address total name modified) id v (item_in id.0 v.items) refl good refl meets
good-applied (entries.Progress id slices) v fresh good meets = good-named (entries.Progress id slices) id v (item_in id.0 v.items) refl good refl meets
good-applied (entries.Broke id why) v fresh good meets = good-named (entries.Broke id why) id v (item_in id.0 v.items) refl good refl meets
good-applied (entries.Paused id) v fresh good meets = good-named (entries.Paused id) id v (item_in id.0 v.items) refl good refl meets
good-applied (entries.Cancelled id) v fresh good meets = good-named (entries.Cancelled id) id v (item_in id.0 v.items) refl good refl meets
good-applied (entries.Restarted id epoch because) v fresh good meets = good-named (entries.Restarted id epoch because) id v (item_in id.0 v.items) refl good refl meets
good-applied (entries.Finishing id total) v fresh good meets = good-named (entries.Finishing id total) id v (item_in id.0 v.items) refl good refl meets
good-applied (entries.Done id digest at) v fresh good meets = good-named (entries.Done id digest at) id v (item_in id.0 v.items) refl good refl meets
good-applied (entries.Removed id) v fresh good meets = good-named (entries.Removed id) id v (item_in id.0 v.items) refl good refl meets
good-applied (entries.Archived id) v fresh good meets = good-named (entries.Archived id) id v (item_in id.0 v.items) refl good refl meets
good-applied (entries.Reopened next at) v fresh good meets = good-reopened next at v v.is_first refl fresh good meets
good-applied (entries.Restored other) v fresh good meets = good-restored other v good meets
good-applied (entries.Asked id) v fresh good meets = good-named (entries.Asked id) id v (item_in id.0 v.items) refl good refl meets

good-limit : (limit other : ℕ) (h : List Entry) → Good (left_by limit h) → Good (left_by other h)
good-limit limit other h good = record { numbered = good.numbered; sounds = good.sounds; apart = good.apart }

first_empty : (limit : ℕ) (h : List Entry) → IsTrue (left_by limit h).is_first → (left_by limit h).items ≡ []
first_empty limit [] first = refl
first_empty limit (e ∷ h) first = absurd (false≢true first)

pub good_lawful : (h : List Entry) → IsLawfulBack h → Good (left_by 0 h)
good_lawful [] lawful = record { numbered = omega arith; sounds = tt; apart = tt }
good_lawful (e ∷ h) lawful =
    subst Good (sym (left_by_step 0 e h lawful.1 lawful.0)) (good-applied e (left_by 0 h) (first_empty 0 h) (good_lawful h lawful.1) lawful.0)

-- a good list may be written item by item

abbrev Rest : ℕ → List Item → List Item → Type 0
Rest next pre [] = Unit {0}
Rest next pre (item ∷ rest) = IsRestorable true next pre item × Rest next (pre ++ item ∷ []) rest

abbrev Across : List Item → List Item → Type 0
Across pre [] = Unit {0}
Across pre (y ∷ rest) = Before pre y × Across pre rest

before-push : (pre : List Item) (x y : Item) → Before pre y → Pair x y → Before (pre ++ x ∷ []) y
before-push [] x y before pair = (pair, tt)
before-push (z ∷ pre) x y before pair = (before.0, before-push pre x y before.1 pair)

across-push : (pre : List Item) (x : Item) (rest : List Item) → Across pre rest → Behind x rest → Across (pre ++ x ∷ []) rest
across-push pre x [] across behind = tt
across-push pre x (y ∷ rest) across behind = (before-push pre x y across.0 behind.0, across-push pre x rest across.1 behind.1)

before_word : (pre : List Item) (y : Item) → Before pre y → IsFreeWord y.word pre
before_word [] y before = word_nil y.word
before_word (x ∷ pre) y before = word_both y.word x pre before.0.word (before_word pre y before.1)

before_name : (pre : List Item) (y : Item) → Before pre y → HasOwnName y pre
before_name [] y before = tt
before_name (x ∷ pre) y before = (before.0.name, before_name pre y before.1)

above-push : (id : ℕ) (pre : List Item) (x : Item) → IsAbove id pre → x.id.0 < id → IsAbove id (pre ++ x ∷ [])
above-push id [] x above low = (low, tt)
above-push id (y ∷ pre) x above low = (above.0, above-push id pre x above.1 low)

above-more : (id more : ℕ) (pre : List Item) → id ≤ more → IsAbove id pre → IsAbove more pre
above-more id more [] low above = tt
above-more id more (y ∷ pre) low above = let own = above.0 in (omega arith, above-more id more pre low above.1)

rest_of : (low next : ℕ) (pre items : List Item) → 1 ≤ low → IsNumbered low items next → IsAbove low pre → Sounds items → Apart items → Across pre items → Rest next pre items
rest_of low next pre [] some numbered above sounds far across = tt
rest_of low next pre (item ∷ rest) some numbered above sounds far across =
    let own = numbered.0 in
    let later = numbered-count (item.id.0 + 1) rest next numbered.1 in (
      record {
        is_early = refl;
        first = omega arith;
        above = above-more low item.id.0 pre own above;
        below = omega arith;
        word = before_word pre item across.0;
        sound = sounds.0;
        name = before_name pre item across.0;
      },
      rest_of (item.id.0 + 1) next (pre ++ item ∷ []) rest (omega arith) numbered.1
          (above-push (item.id.0 + 1) pre item (above-more low (item.id.0 + 1) pre (omega arith) above) (omega arith)) sounds.1 far.1 (across-push pre item rest across.1 far.0),
    )

across_none : (items : List Item) → Across [] items
across_none [] = tt
across_none (y ∷ rest) = (tt, across_none rest)

-- the list behind the Reopened and the first so many items
abbrev written : ℕ → ℕ → List Item → Listing
written limit next pre = record { limit = limit; next = next; is_first = false; is_early = true; items = pre }

restored_step : (limit next : ℕ) (pre : List Item) (h : History) (item : Item) → IsOf h (written limit next pre) → IsRestorable true next pre item → IsOf (h ++ entries.Restored item ∷ []) (written limit next (pre ++ item ∷ []))
restored_step limit next pre h item is restorable =
    keeps_step h (entries.Restored item) (written limit next pre) (written limit next (pre ++ item ∷ [])) is (record { room = tt; meets = restorable; value = refl })

restored_all : (limit next : ℕ) (pre items : List Item) (h : History) → IsOf h (written limit next pre) → Rest next pre items → IsOf (h ++ map entries.Restored items) (written limit next (pre ++ items))
restored_all limit next pre [] h is rest =
    subst (λ (x : History). IsOf x (written limit next (pre ++ []))) (sym (append-nil h)) (subst (λ (x : List Item). IsOf h (written limit next x)) (sym (append-nil pre)) is)
restored_all limit next pre (item ∷ items) h is rest =
    let one = restored_step limit next pre h item is rest.0 in
    let all = restored_all limit next (pre ++ item ∷ []) items (h ++ entries.Restored item ∷ []) one rest.1 in
    subst (λ (x : List Item). IsOf (h ++ map entries.Restored (item ∷ items)) (written limit next x)) (append_assoc pre (item ∷ []) items)
    (subst (λ (x : History). IsOf x (written limit next ((pre ++ item ∷ []) ++ items))) (append_assoc h (entries.Restored item ∷ []) (map entries.Restored items)) all)

opened_first : (limit next at : ℕ) → 1 ≤ next → IsOf (entries.Reopened next at ∷ []) (written limit next [])
opened_first limit next at some =
    keeps_step [] (entries.Reopened next at) (empty_list limit) (written limit next []) (empty_is limit) (record { room = tt; meets = inr (refl, some); value = refl })

short_of : (v : Listing) (at : ℕ) → Good v → IsOf (short_history v at) (written v.limit v.next v.items)
short_of v at good =
    let some = numbered-count 1 v.items v.next good.numbered in
    restored_all v.limit v.next [] v.items (entries.Reopened v.next at ∷ []) (opened_first v.limit v.next at (omega arith))
    (rest_of 1 v.next [] v.items (omega arith) good.numbered tt good.sounds good.apart (across_none v.items))

pub good_of : (h : History) (v : Listing) → IsOf h v → Good v
good_of h v is = subst Good (sym is.value) (good-limit 0 v.limit (reverse h) (good_lawful (reverse h) is.lawful))

-- The short history of a lawful list is lawful, and leaves the same items.
pub short_law : (h : History) (v : Listing) (at : ℕ) → IsOf h v → IsShort v at
short_law h v at is =
    let short = short_of v at (good_of h v is) in
    record {
      lawful = short.lawful;
      items = ap (λ (x : Listing). x.items) (sym short.value);
      next = ap (λ (x : Listing). x.next) (sym short.value);
    }

-- an item of a lawful list is as a lawful history leaves one
pub sound_in : (h : History) (v : Listing) (id : ℕ) (item : Item) → IsOf h v → item_in id v.items ≡ Some item → IsSound item
sound_in h v id item is found = sounds_in id item v.items found (good_of h v is).sounds

-- two items of a lawful list have different names, where both have one and neither is cancelled
swap_names : (name other : Option (List ℕ)) → IfSome other (λ told. ¬ HasNameIn name told) → IfSome name (λ told. ¬ HasNameIn other told)
swap_names None other far = tt
swap_names (Some name) None far = λ has. has
swap_names (Some name) (Some other) far = λ (same : fold_case name ≡ fold_case other). far (sym same)

swap_apart : (x y : Item) → IsApartFrom y x → IsApartFrom x y
swap_apart x y far = λ x_lives y_lives. swap_names x.name y.name (far y_lives x_lives)

behind_in_test : (x z y : Item) (k : ℕ) (rest : List Item) (test : Bool) → cond test (Some z) (item_in k rest) ≡ Some y → Pair x z → (item_in k rest ≡ Some y → Pair x y) → Pair x y
behind_in_test x z y k rest true found pair older = subst (Pair x) (some_same found) pair
behind_in_test x z y k rest false found pair older = older found

behind_in : (x y : Item) (k : ℕ) (items : List Item) → Behind x items → item_in k items ≡ Some y → Pair x y
behind_in x y k [] behind found = absurd (none_some found)
behind_in x y k (z ∷ rest) behind found = behind_in_test x z y k rest (z.id.0 == k) found behind.0 (behind_in x y k rest behind.1)

apart_in_test : (z x y : Item) (k j : ℕ) (rest : List Item) (first second : Bool) → (z.id.0 == k) ≡ first → (z.id.0 == j) ≡ second → k ≢ j → Behind z rest
    → cond first (Some z) (item_in k rest) ≡ Some x → cond second (Some z) (item_in j rest) ≡ Some y → (item_in k rest ≡ Some x → item_in j rest ≡ Some y → IsApartFrom x y) → IsApartFrom x y
apart_in_test z x y k j rest true true is_k is_j other behind found_x found_y older = absurd (other (sym (eq_same z.id.0 k is_k) ∙ eq_same z.id.0 j is_j))
apart_in_test z x y k j rest true false is_k is_j other behind found_x found_y older =
    subst (λ (i : Item). IsApartFrom i y) (some_same found_x) (swap_apart z y (behind_in z y j rest behind found_y).name)
apart_in_test z x y k j rest false true is_k is_j other behind found_x found_y older =
    subst (IsApartFrom x) (some_same found_y) (behind_in z x k rest behind found_x).name
apart_in_test z x y k j rest false false is_k is_j other behind found_x found_y older = older found_x found_y

apart_in : (x y : Item) (k j : ℕ) (items : List Item) → k ≢ j → Apart items → item_in k items ≡ Some x → item_in j items ≡ Some y → IsApartFrom x y
apart_in x y k j [] other far found_x found_y = absurd (none_some found_x)
apart_in x y k j (z ∷ rest) other far found_x found_y =
    apart_in_test z x y k j rest (z.id.0 == k) (z.id.0 == j) refl refl other far.0 found_x found_y (apart_in x y k j rest other far.1)

pub names_apart : (h : History) (v : Listing) (id other : ℕ) (x y : Item) → IsOf h v → id ≢ other → item_in id v.items ≡ Some x → item_in other v.items ≡ Some y → IsApartFrom x y
names_apart h v id other x y is apart found_x found_y = apart_in x y id other v.items apart (good_of h v is).apart found_x found_y

-- a lawful list is numbered from 1 on
pub numbered_of : (h : History) (v : Listing) → IsOf h v → IsNumbered 1 v.items v.next
numbered_of h v is = (good_of h v is).numbered
