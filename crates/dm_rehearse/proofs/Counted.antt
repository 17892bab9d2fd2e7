-- What is counted of the bodies so far.
use Rattle.std.proofs.Common.{◌≡◌, ℕ, ◌+◌, ◌<◌, ◌≤◌, List, [], ◌∷◌, ◌++◌, length, take, get_or, Ok, Bool, true, false, cond, refl, sym, ◌∙◌, ap, arith}
use Rattle.std.specs.Prelude.{◌==◌}
use Rattle.std.proofs.lemmas.List.{take_all, take_more}
use Rattle.dm_types.specs.declared.entry.Entry.{Entry}
use Rattle.dm_types.specs.declared.entry.Entry.TheVariants as entries
use Rattle.dm_types.specs.Kind.{kind_of}
use Rattle.dm_record.specs.Limits.{Answers}
use Rattle.dm_item.specs.History.{count_of}
use Rattle.dm_item.specs.Lawful.{History}
use Rattle.dm_kept.specs.Spelled.{AllEntries, bodies_of}
use Rattle.dm_kept.proofs.Histories.{bodies_push, entries_push}
use Rattle.dm_rehearse.specs.Counting.{AreCounted, IsOfKind, is_began, is_broke}

began_kind : (e : Entry) → is_began e ≡ (kind_of e == 2)
began_kind (entries.Added id word address wish digest at) = refl
began_kind (entries.Began id attempt by at) = refl
began_kind (entries.Described id key last_address total name modified) = refl
began_kind (entries.Progress id slices) = refl
began_kind (entries.Broke id reason) = refl
began_kind (entries.Paused id) = refl
began_kind (entries.Cancelled id) = refl
began_kind (entries.Restarted id epoch because) = refl
began_kind (entries.Finishing id total) = refl
began_kind (entries.Done id digest at) = refl
began_kind (entries.Removed id) = refl
began_kind (entries.Archived id) = refl
began_kind (entries.Reopened next at) = refl
began_kind (entries.Restored item) = refl
began_kind (entries.Asked id) = refl

broke_kind : (e : Entry) → is_broke e ≡ (kind_of e == 5)
broke_kind (entries.Added id word address wish digest at) = refl
broke_kind (entries.Began id attempt by at) = refl
broke_kind (entries.Described id key last_address total name modified) = refl
broke_kind (entries.Progress id slices) = refl
broke_kind (entries.Broke id reason) = refl
broke_kind (entries.Paused id) = refl
broke_kind (entries.Cancelled id) = refl
broke_kind (entries.Restarted id epoch because) = refl
broke_kind (entries.Finishing id total) = refl
broke_kind (entries.Done id digest at) = refl
broke_kind (entries.Removed id) = refl
broke_kind (entries.Archived id) = refl
broke_kind (entries.Reopened next at) = refl
broke_kind (entries.Restored item) = refl
broke_kind (entries.Asked id) = refl

swapped : (a b : Bool) (n : ℕ) → cond a (cond b (n + 1) n + 1) (cond b (n + 1) n) ≡ cond b (cond a (n + 1) n + 1) (cond a (n + 1) n)
swapped true true n = refl
swapped true false n = refl
swapped false true n = refl
swapped false false n = refl

count_push : (test : Entry → Bool) (history : History) (entry : Entry) → count_of test (history ++ entry ∷ []) ≡ cond (test entry) (count_of test history + 1) (count_of test history)
count_push test [] entry = refl
count_push test (first ∷ history) entry =
    ap (λ (n : ℕ). cond (test first) (n + 1) n) (count_push test history entry) ∙ swapped (test first) (test entry) (count_of test history)

-- the bodies before a place are counted
pub record SoFar (bodies : List (List ℕ)) (index attempts broke : ℕ) : Type 0 where
  pub history : History
  pub entries : AllEntries history
  pub is : bodies_of history ≡ take index bodies
  pub attempts_are : attempts ≡ count_of is_began history
  pub broke_are : broke ≡ count_of is_broke history
  pub few_attempts : attempts ≤ index
  pub few_broke : broke ≤ index

pub none_so_far : (bodies : List (List ℕ)) → SoFar bodies 0 0 0
none_so_far bodies = record { history = []; entries = tt; is = refl; attempts_are = refl; broke_are = refl; few_attempts = omega arith; few_broke = omega arith }

-- one more passes or not
stays_few : (one : Bool) (count index : ℕ) → count ≤ index → cond one (count + 1) count ≤ index + 1
stays_few true count index few = omega (arith, few)
stays_few false count index few = omega (arith, few)

pub more_so_far : (bodies : List (List ℕ)) (index attempts broke : ℕ) → SoFar bodies index attempts broke → index < length bodies → (body : List ℕ) → body ≡ get_or bodies index body → (kind : ℕ) → IsOfKind body kind
    → SoFar bodies (index + 1) (cond (kind == 2) (attempts + 1) attempts) (cond (kind == 5) (broke + 1) broke)
more_so_far bodies index attempts broke so_far within body here kind is =
    let h = so_far.history in
    let e = is.entry in record {
      history = h ++ e ∷ [];
      entries = entries_push h e so_far.entries is.entry_is;
      is = bodies_push h e
          ∙ ap (λ (b : List ℕ). bodies_of h ++ b ∷ []) (sym is.spelled)
          ∙ ap (λ (bs : List (List ℕ)). bs ++ body ∷ []) so_far.is
          ∙ ap (λ (b : List ℕ). take index bodies ++ b ∷ []) here
          ∙ sym (take_more bodies index body within);
      attempts_are = ap (λ (n : ℕ). cond (n == 2) (attempts + 1) attempts) is.kind_is
          ∙ ap (λ (one : Bool). cond one (attempts + 1) attempts) (sym (began_kind e))
          ∙ ap (λ (n : ℕ). cond (is_began e) (n + 1) n) so_far.attempts_are
          ∙ sym (count_push is_began h e);
      broke_are = ap (λ (n : ℕ). cond (n == 5) (broke + 1) broke) is.kind_is
          ∙ ap (λ (one : Bool). cond one (broke + 1) broke) (sym (broke_kind e))
          ∙ ap (λ (n : ℕ). cond (is_broke e) (n + 1) n) so_far.broke_are
          ∙ sym (count_push is_broke h e);
      few_attempts = stays_few (kind == 2) attempts index so_far.few_attempts;
      few_broke = stays_few (kind == 5) broke index so_far.few_broke;
    }

pub all_so_far : (bodies : List (List ℕ)) (index attempts broke : ℕ) → length bodies ≤ index → SoFar bodies index attempts broke → AreCounted bodies (record { attempts = attempts; broke = broke })
all_so_far bodies index attempts broke past so_far = record {
  history = so_far.history;
  entries = so_far.entries;
  is = so_far.is ∙ take_all index bodies past;
  counts_are = ap (λ (n : ℕ). record { attempts = n; broke = broke }) so_far.attempts_are ∙ ap (λ (n : ℕ). record { attempts = count_of is_began so_far.history; broke = n }) so_far.broke_are;
}

-- a body that was read as an entry, to its end
pub is_of_kind : (body : List ℕ) (entry : Entry) (count kind : ℕ) → Answers body (Ok (entry, count)) → count ≡ length body → kind ≡ kind_of entry → IsOfKind body kind
is_of_kind body entry count kind answers whole kind_is = record {
  entry = entry;
  entry_is = answers.0;
  spelled = sym (take_all (length body) body (omega arith)) ∙ ap (λ (n : ℕ). take n body) (sym whole) ∙ answers.2;
  kind_is = kind_is;
}
