-- What a row says to a command of the list.
use Rattle.std.proofs.Common.{◌≡◌, inl, inr, ℕ, Bool, true, false, List, [], ◌∷◌, Option, Some, None, Result, Ok, Err, refl, sym, ◌∙◌, ap}
use Rattle.std.specs.Prelude.{option_map}
use Rattle.std.proofs.lemmas.Bool.{true≢false}
use Rattle.dm_types.specs.Faults.{HasCause, NoneFell}
use Rattle.dm_types.specs.declared.item.Item.{Item}
use Rattle.dm_types.specs.declared.item.ItemId.{ItemId}
use Rattle.dm_item.specs.Listing.{item_in}
use Rattle.dm_report.specs.Said.{EndsAs, Said, only}
use Rattle.dm_report.specs.declared.verdict.Verdict.{Verdict}
use Rattle.dm_report.specs.declared.verdict.Verdict.TheVariants as verdicts
use Rattle.dm_hist.specs.Faults.{keeper_kind}
use Rattle.dm_hist.specs.declared.keeper.KeeperFault.{KeeperFault}
use Rattle.dm_hist.specs.declared.keeper.KeeperFault.TheVariants as keepers
use Rattle.dm_hist.specs.declared.row.Row.{Row}
use Rattle.dm_hist.specs.Rows.{is_there, row_with, without_row}
use Rattle.dm_shown.specs.declared.named.Named.{Named}
use Rattle.dm_shown.specs.declared.named.Named.TheVariants as names
use Rattle.dm_shown.specs.Words.{HasWithout, first_named, item_with, named}
use Rattle.dm_archive.specs.Doing.{Change, Doing, Given, Tells, stay, changed_rows, drops_row, says as only_says}
use Rattle.dm_past.specs.ByRows.{FindsFree, IdDoes, IsAnswered, IsFree, WordDoes, unanswered}
use Rattle.dm_past.specs.Coming.{WasCut, all, first_of, lost, stopped}
use Rattle.dm_past.specs.Past.{Past}
use Rattle.dm_past.specs.Saying.{text_of}
use Rattle.dm_past.specs.Tasks.{DoingFor}
use Rattle.dm_past.specs.Working.{keeper_verdict}

-- Which row a word finds.

-- the answer isn't of the list alone
abbrev outside : Result (Option Named) KeeperFault → Bool
outside (Ok None) = false
outside (Ok (Some (names.Item id))) = false
outside (Ok (Some (names.Row row))) = true
outside (Err fault) = true

free_if : (word : List ℕ) (given : Given) (found : Option Item) (answer : Result (Option Named) KeeperFault) → item_with word given.items ≡ found → HasWithout word found answer → outside answer ≡ true → IsFree word given
free_if [] given found answer is without out = absurd (true≢false (sym out ∙ ap outside without))
free_if (byte ∷ rest) given (Some item) answer is without out = absurd (true≢false (sym out ∙ ap outside without))
free_if (byte ∷ rest) given None answer is without out = record { some = λ same. absurd cc; none = is }

pub free_by : (word : List ℕ) (given : Given) (answer : Result (Option Named) KeeperFault) → HasWithout word (item_with word given.items) answer → outside answer ≡ true → IsFree word given
free_by word given answer without out = free_if word given (item_with word given.items) answer refl without out

-- the row that was found
abbrev pub row_in : Option Named → Option Row
row_in None = None
row_in (Some (names.Item id)) = None
row_in (Some (names.Row row)) = Some row

row_in_map : (row : Option Row) → row_in (option_map names.Row row) ≡ row
row_in_map None = refl
row_in_map (Some row) = refl

named_free : (word : List ℕ) (given : Given) → IsFree word given → named word given.items given.rows ≡ option_map names.Row (row_with word given.rows)
named_free [] given free = absurd (free.some refl)
named_free (byte ∷ rest) given free = ap (λ (found : Option Item). first_named found (row_with (byte ∷ rest) given.rows)) free.none

pub row_found : (word : List ℕ) (given : Given) (found : Option Named) → found ≡ named word given.items given.rows → IsFree word given → row_with word given.rows ≡ row_in found
row_found word given found is free = sym (row_in_map (row_with word given.rows)) ∙ ap row_in (sym (named_free word given free)) ∙ ap row_in (sym is)

-- What was said.

module _ (told : Type 0) (given : Given) (past past' : Past) where
  rest_cut : (doing : Doing) → doing.entries ≡ [] → doing.change ≡ stay → (told → past'.rows ≡ past.rows) → WasCut told past.rows past'.rows doing [] []
  rest_cut doing none stays same = record {
    rest = [];
    entries_are = none;
    begun = λ knows. record {
      steps = 0;
      steps_are = inl refl;
      rows_are = same knows ∙ sym (ap (λ (change : Change). changed_rows (first_of 0 change) past.rows) stays);
    };
  }

  -- the history gave no answer
  pub fault_answered : (does : DoingFor) → does given unanswered → (fault : KeeperFault) (said : Said) {T : Type 0} → (told → past'.rows ≡ past.rows) → HasCause {T = T} keeper_kind past.faults past'.faults (Err fault) → said ≡ only (keeper_verdict fault)
      → IsAnswered told does given past past' said
  fault_answered does may keepers.Failed said same cause is = record {
    doing = unanswered;
    is = may;
    came = λ counts. lost refl refl (rest_cut unanswered refl refl same) cause.cause is;
    same = λ none. same;
    later = cause.later;
  }
  fault_answered does may keepers.NoMemory said same cause is = record {
    doing = unanswered;
    is = may;
    came = λ counts. stopped refl refl (rest_cut unanswered refl refl same) is;
    same = λ none. same;
    later = cause.later;
  }

  module _ (word : List ℕ) (verdict : Row → Verdict) (tells : Row → Tells) where
    abbrev by_row : Row → Doing
    by_row row = only_says (verdict row) (tells row)

    -- a row says this
    pub row_answered : (row : Row) (said : Said) → FindsFree told word given (Ok (Some row)) → (told → past'.rows ≡ past.rows) → NoneFell past.faults past'.faults → EndsAs (record { verdict = verdict row; out = text_of (tells row) }) said
        → IsAnswered told (WordDoes told word by_row) given past past' said
    row_answered row said found same later (inl is) = record {
      doing = by_row row;
      is = record { free = found.0; does = inl (record { row = row; is = found.1; doing_is = refl }) };
      came = λ counts. all refl refl refl same is;
      same = λ none. same;
      later = later;
    }
    row_answered row said found same later (inr is) = record {
      doing = by_row row;
      is = record { free = found.0; does = inl (record { row = row; is = found.1; doing_is = refl }) };
      came = λ counts. stopped refl refl (rest_cut (by_row row) refl refl same) is;
      same = λ none. same;
      later = later;
    }

    pub word_unanswered : IsFree word given → WordDoes told word by_row given unanswered
    word_unanswered free = record { free = free; does = inr refl }

  -- a row was dropped
  pub drop_answered : (id : ItemId) (said : Said) → item_in id.0 given.items ≡ None → (told → is_there id.0 given.rows ≡ true) → (told → past'.rows ≡ without_row id.0 past.rows) → NoneFell past.faults past'.faults → said ≡ only verdicts.Done
      → IsAnswered told (IdDoes told id) given past past' said
  drop_answered id said none there dropped later is = record {
    doing = drops_row id;
    is = record { none = none; does = inl (there, refl) };
    came = λ counts. all refl refl refl dropped is;
    same = λ none. absurd none;
    later = later;
  }

  pub id_unanswered : (id : ItemId) → item_in id.0 given.items ≡ None → IdDoes told id given unanswered
  id_unanswered id none = record { none = none; does = inr refl }
