-- Two histories that leave the same items do so with the same entries behind them.
use Rattle.std.proofs.Common.{◌≡◌, inl, inr, ℕ, Bool, true, false, cond, List, [], ◌∷◌, ◌++◌, map, reverse, refl, sym, ◌∙◌, ap, subst, append_assoc}
use Rattle.std.proofs.lemmas.List.{append-nil, reverse-append}
use Rattle.dm_types.specs.declared.entry.Entry.{Entry}
use Rattle.dm_types.specs.declared.entry.Entry.TheVariants as entries
use Rattle.dm_types.specs.declared.item.Item.{Item}
use Rattle.dm_item.specs.Lawful.{History, IsLawful, IsLawfulBack, left_by}
use Rattle.dm_item.specs.Listing.{Listing, Meets, RowAt, applied, items_after}
use Rattle.dm_item.specs.Row.{stopped_item, target_of}
use Rattle.dm_item.specs.Fields.{added_item}
use Rattle.dm_item.specs.Words.{IsFreeWord}
use Rattle.dm_item.proofs.Steps.{left_by_step}
use Rattle.dm_kept.specs.Recovery.{Found, Through, recovered}
use Rattle.dm_kept.proofs.Histories.{reverse_push}
use Rattle.dm_does.specs.Log.{ArePlain}

-- the next id and the items of a list
abbrev pub found_of : Listing → Found
found_of v = record { next = v.next; items = v.items }

abbrev pub listed : History → Listing
listed h = left_by 0 (reverse h)

-- a Reopened tells the next id, and nothing is restored
abbrev pub FitsTo : Entry → Listing → Type 0
FitsTo (entries.Reopened next at) v = next ≡ v.next
FitsTo (entries.Restored item) v = ⊥
FitsTo e v = Unit {0}

pub record SameList (v w : Listing) : Type 0 where
  pub next : v.next ≡ w.next
  pub items : v.items ≡ w.items

same_of : (v w : Listing) → found_of v ≡ found_of w → SameList v w
same_of v w same = record { next = ap (λ (f : Found). f.next) same; items = ap (λ (f : Found). f.items) same }

found_eq : (v w : Listing) → SameList v w → found_of v ≡ found_of w
found_eq v w same =
    ap (λ (n : ℕ). (let found : Found = record { next = n; items = v.items } in found)) same.next ∙ ap (λ (i : List Item). (let found : Found = record { next = w.next; items = i } in found)) same.items

cond_same : (b : Bool) (n m : ℕ) → n ≡ m → cond b n m ≡ m
cond_same true n m same = same
cond_same false n m same = refl

pub applied_same : (e : Entry) (v w : Listing) → FitsTo e v → SameList v w → SameList (applied e v) (applied e w)
applied_same (entries.Added id word address wish digest at) v w fits same = record { next = refl; items = ap (λ (i : List Item). i ++ added_item id word address wish digest at ∷ []) same.items }
applied_same (entries.Reopened next at) v w fits same = record {
  next = cond_same v.is_first next v.next fits ∙ same.next ∙ sym (cond_same w.is_first next w.next (fits ∙ same.next));
  items = ap (map stopped_item) same.items;
}
applied_same (entries.Restored item) v w fits same = absurd fits
applied_same e v w fits same = record { next = same.next; items = ap (items_after e (target_of e)) same.items }

pub meets_same : (e : Entry) (v w : Listing) → FitsTo e v → SameList v w → Meets v e → Meets w e
meets_same (entries.Added id word address wish digest at) v w fits same meets = (meets.0 ∙ same.next, subst (IsFreeWord word) same.items meets.1)
meets_same (entries.Reopened next at) v w fits same meets = inl (fits ∙ same.next)
meets_same (entries.Restored item) v w fits same meets = absurd fits
meets_same e v w fits same meets = subst (λ (i : List Item). RowAt e i (target_of e)) same.items meets

-- one entry more
record Behind (a b : History) : Type 0 where
  lawful : IsLawful b
  same : recovered a ≡ recovered b

pub lawful_last : (h : History) (e : Entry) → IsLawful (h ++ e ∷ []) → Meets (listed h) e × IsLawful h
lawful_last h e lawful = subst IsLawfulBack (reverse_push h e) lawful

pub lawful_more : (h : History) (e : Entry) → Meets (listed h) e → IsLawful h → IsLawful (h ++ e ∷ [])
lawful_more h e meets lawful = subst IsLawfulBack (sym (reverse_push h e)) (meets, lawful)

pub recovered_more : (h : History) (e : Entry) → IsLawful h → Meets (listed h) e → recovered (h ++ e ∷ []) ≡ found_of (applied e (listed h))
recovered_more h e lawful meets = ap (λ (back : List Entry). found_of (left_by 0 back)) (reverse_push h e) ∙ ap found_of (left_by_step 0 e (reverse h) lawful meets)

behind_one : (a b : History) (e : Entry) → Behind a b → IsLawful (a ++ e ∷ []) → FitsTo e (listed a) → Behind (a ++ e ∷ []) (b ++ e ∷ [])
behind_one a b e is lawful fits =
    let last = lawful_last a e lawful in
    let same : SameList (listed a) (listed b) = same_of (listed a) (listed b) is.same in
    let meets : Meets (listed b) e = meets_same e (listed a) (listed b) fits same last.0 in
    record {
      lawful = lawful_more b e meets is.lawful;
      same = recovered_more a e last.1 last.0 ∙ found_eq (applied e (listed a)) (applied e (listed b)) (applied_same e (listed a) (listed b) fits same) ∙ sym (recovered_more b e is.lawful meets);
    }

-- a front of a lawful history is lawful
back_front : (more older : List Entry) → IsLawfulBack (more ++ older) → IsLawfulBack older
back_front [] older lawful = lawful
back_front (e ∷ more) older lawful = back_front more older lawful.1

pub lawful_front : (a b : History) → IsLawful (a ++ b) → IsLawful a
lawful_front a b lawful = back_front (reverse b) (reverse a) (subst IsLawfulBack (reverse-append a b) lawful)

-- each entry fits to the list of those before it
abbrev pub FitAll : History → History → Type 0
FitAll h [] = Unit {0}
FitAll h (e ∷ more) = FitsTo e (listed h) × FitAll (h ++ e ∷ []) more

pub plain_fit : (h more : History) → ArePlain more → FitAll h more
plain_fit h [] plain = tt
plain_fit h (entries.Reopened next at ∷ more) plain = absurd plain
plain_fit h (entries.Restored item ∷ more) plain = absurd plain
plain_fit h (entries.Added id word address wish digest at ∷ more) plain = (tt, plain_fit (h ++ entries.Added id word address wish digest at ∷ []) more plain)
plain_fit h (entries.Began id attempt by at ∷ more) plain = (tt, plain_fit (h ++ entries.Began id attempt by at ∷ []) more plain)
plain_fit h (entries.Described id key last_address total name modified ∷ more) plain = (tt, plain_fit (h ++ entries.Described id key last_address total name modified ∷ []) more plain)
plain_fit h (entries.Progress id slices ∷ more) plain = (tt, plain_fit (h ++ entries.Progress id slices ∷ []) more plain)
plain_fit h (entries.Broke id reason ∷ more) plain = (tt, plain_fit (h ++ entries.Broke id reason ∷ []) more plain)
plain_fit h (entries.Paused id ∷ more) plain = (tt, plain_fit (h ++ entries.Paused id ∷ []) more plain)
plain_fit h (entries.Cancelled id ∷ more) plain = (tt, plain_fit (h ++ entries.Cancelled id ∷ []) more plain)
plain_fit h (entries.Restarted id epoch because ∷ more) plain = (tt, plain_fit (h ++ entries.Restarted id epoch because ∷ []) more plain)
plain_fit h (entries.Finishing id total ∷ more) plain = (tt, plain_fit (h ++ entries.Finishing id total ∷ []) more plain)
plain_fit h (entries.Done id digest at ∷ more) plain = (tt, plain_fit (h ++ entries.Done id digest at ∷ []) more plain)
plain_fit h (entries.Removed id ∷ more) plain = (tt, plain_fit (h ++ entries.Removed id ∷ []) more plain)
plain_fit h (entries.Archived id ∷ more) plain = (tt, plain_fit (h ++ entries.Archived id ∷ []) more plain)
plain_fit h (entries.Asked id ∷ more) plain = (tt, plain_fit (h ++ entries.Asked id ∷ []) more plain)

pub fit_split : (h first second : History) → FitAll h (first ++ second) → FitAll h first × FitAll (h ++ first) second
fit_split h [] second fits = (tt, subst (λ (x : History). FitAll x second) (sym (append-nil h)) fits)
fit_split h (e ∷ first) second fits =
    let rest = fit_split (h ++ e ∷ []) first second fits.1 in
    ((fits.0, rest.0), subst (λ (x : History). FitAll x second) (append_assoc h (e ∷ []) first) rest.1)

-- any number of entries more
pub behind_all : (a b more : History) → IsLawful b → recovered a ≡ recovered b → IsLawful (a ++ more) → FitAll a more → IsLawful (b ++ more) × (recovered (a ++ more) ≡ recovered (b ++ more))
behind_all a b [] lawful_b same lawful fits =
    (subst IsLawful (sym (append-nil b)) lawful_b, ap recovered (append-nil a) ∙ same ∙ sym (ap recovered (append-nil b)))
behind_all a b (e ∷ more) lawful_b same lawful fits =
    let longer : IsLawful ((a ++ e ∷ []) ++ more) = subst IsLawful (sym (append_assoc a (e ∷ []) more)) lawful in
    let one : Behind (a ++ e ∷ []) (b ++ e ∷ []) = behind_one a b e (record { lawful = lawful_b; same = same }) (lawful_front (a ++ e ∷ []) more longer) fits.0 in
    let rest = behind_all (a ++ e ∷ []) (b ++ e ∷ []) more one.lawful one.same longer fits.1 in (
      subst IsLawful (append_assoc b (e ∷ []) more) rest.0,
      sym (ap recovered (append_assoc a (e ∷ []) more)) ∙ rest.1 ∙ ap recovered (append_assoc b (e ∷ []) more),
    )

-- so of each front
pub through_same : (a b more : History) (found : Found) → IsLawful b → recovered a ≡ recovered b → IsLawful (a ++ more) → FitAll a more → Through a more found → Through b more found
through_same a b [] found lawful_b same lawful fits is = is ∙ same
through_same a b (e ∷ more) found lawful_b same lawful fits (inl is) = inl (is ∙ same)
through_same a b (e ∷ more) found lawful_b same lawful fits (inr later) =
    let longer : IsLawful ((a ++ e ∷ []) ++ more) = subst IsLawful (sym (append_assoc a (e ∷ []) more)) lawful in
    let one : Behind (a ++ e ∷ []) (b ++ e ∷ []) = behind_one a b e (record { lawful = lawful_b; same = same }) (lawful_front (a ++ e ∷ []) more longer) fits.0 in
    inr (through_same (a ++ e ∷ []) (b ++ e ∷ []) more found one.lawful one.same longer fits.1 later)
