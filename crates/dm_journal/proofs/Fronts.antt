-- A file is read from its front, piece by piece, and its text cell by cell.
use Rattle.std.proofs.Common.{◌≡◌, inr, ⊎_elim, ℕ, ◌+◌, ◌<◌, ◌≤◌, List, [], ◌∷◌, ◌++◌, length, take, drop, refl, sym, ◌∙◌, ap, subst, arith, append_assoc, length-append, length-drop}
use Rattle.std.proofs.lemmas.Bool.{cases_lt}
use Rattle.std.proofs.lemmas.List.{drop_at, take_at, take-append-drop, take-append-le, append-nil}
use Rattle.dm_disk_model.specs.Disk.{Reads}
use Rattle.dm_journal.specs.Text.{header, cell, cells, front, FitsCell, AllFit, IsBroken, IsJournalText, IsDamagedAt, HasNoHeader}
use Rattle.dm_journal.specs.Cell.{IsShut, IsNoCell}
use Rattle.dm_journal.specs.Taking.{TakesUpTo, TakesCells, EndsSo}
use Rattle.dm_journal.specs.declared.text.End.{End}
use Rattle.dm_journal.specs.Reading.{IsFront}
use Rattle.dm_journal.proofs.Texts.{cells_push, AllFit-push}

pub empty_of : (rest : List ℕ) → length rest ≡ 0 → rest ≡ []
empty_of [] none = refl
empty_of (x ∷ rest) none = absurd (omega arith)

-- the bytes that were read stand behind those before, and none are read only at the end
read_front : (file bytes piece : List ℕ) (n : ℕ) → 0 < length piece → Reads file (length bytes) n piece → IsFront bytes file → IsFront (bytes ++ take n piece) file × (n ≡ 0 → file ≡ bytes)
read_front file bytes piece n room reads front =
    let rest : List ℕ = front.rest in
    let behind : drop (length bytes) file ≡ rest = ap (drop (length bytes)) front.is ∙ drop_at bytes rest (length bytes) refl in
    let same : take n piece ≡ take n rest = reads.bytes ∙ ap (take n) behind in
    let whole : file ≡ (bytes ++ take n piece) ++ drop n rest =
    front.is
    ∙ ap (λ (xs : List ℕ). bytes ++ xs) (sym (take-append-drop n rest))
    ∙ sym (append_assoc bytes (take n rest) (drop n rest))
    ∙ ap (λ (xs : List ℕ). (bytes ++ xs) ++ drop n rest) (sym same) in (
      record { rest = drop n rest; is = whole },
      λ none.
          ⊎_elim
          (λ (more : length bytes < length file). absurd (let some = reads.some room more in omega (arith, some, none)))
          (λ (all : length file ≤ length bytes).
          let long = ap length front.is in
          let parts = length-append bytes rest in
          let nothing : rest ≡ [] = empty_of rest (omega (arith, long, parts, all)) in
          front.is ∙ ap (λ (xs : List ℕ). bytes ++ xs) nothing ∙ append-nil bytes)
          (cases_lt (length bytes) (length file)),
    )

-- the same of what stands ahead of a place
pub read_ahead : (file before ahead piece new : List ℕ) (at n : ℕ) → 0 < length piece → at ≡ length before → Reads file (at + length ahead) n piece → new ≡ ahead ++ take n piece → IsFront (before ++ ahead) file
    → IsFront (before ++ new) file × (n ≡ 0 → file ≡ before ++ ahead)
read_ahead file before ahead piece new at n room is reads more front =
    let place : at + length ahead ≡ length (before ++ ahead) = let parts = length-append before ahead in omega (arith, parts, is) in
    let read = read_front file (before ++ ahead) piece n room (subst (λ (p : ℕ). Reads file p n piece) place reads) front in
    let all : (before ++ ahead) ++ take n piece ≡ before ++ new = append_assoc before ahead (take n piece) ∙ ap (λ (xs : List ℕ). before ++ xs) (sym more) in
    (subst (λ (xs : List ℕ). IsFront xs file) all read.0, read.1)

pub nothing_read : (file bytes : List ℕ) → bytes ≡ [] → IsFront bytes file
nothing_read file bytes none = subst (λ (xs : List ℕ). IsFront xs file) (sym none) (record { rest = file; is = refl })

-- a file whose front has no header, or that is shorter, has none
pub no_header : (file ahead : List ℕ) → IsFront ahead file → length header ≤ length ahead → HasNoHeader ahead → HasNoHeader file
no_header file ahead front long without rest is =
    let same : take 8 ahead ≡ header = sym (take-append-le 8 ahead front.rest long) ∙ ap (take 8) (sym front.is ∙ is) ∙ take_at header rest 8 refl in
    without (drop 8 ahead) (sym (take-append-drop 8 ahead) ∙ ap (λ (xs : List ℕ). xs ++ drop 8 ahead) same)

pub short_file : (file : List ℕ) → length file < length header → HasNoHeader file
short_file file short rest is = let long = ap length is in let parts = length-append header rest in omega (arith, short, long, parts)

-- the header stands at the front, and then what is ahead of it
pub header_front : (file ahead cells_ahead new : List ℕ) → IsFront ahead file → ahead ≡ header ++ cells_ahead → new ≡ drop 8 ahead → IsFront (header ++ new) file
header_front file ahead cells_ahead new front is taken =
    let rest : new ≡ cells_ahead = taken ∙ ap (drop 8) is ∙ drop_at header cells_ahead 8 refl in
    subst (λ (xs : List ℕ). IsFront xs file) (is ∙ ap (λ (xs : List ℕ). header ++ xs) (sym rest)) front

-- nothing is taken yet, and one cell more
pub none_taken : (bodies : List (List ℕ)) (bytes : List ℕ) → TakesUpTo bodies bodies bytes bytes
none_taken bodies bytes = record { gone = []; is = refl; taken = sym (append-nil (cells bodies)); sizes = λ fit. fit }

pub one_taken : (old bodies new : List (List ℕ)) (bytes rest body after : List ℕ) → TakesUpTo old bodies bytes rest → FitsCell body → rest ≡ cell body ++ after → new ≡ bodies ++ body ∷ [] → TakesUpTo old new bytes after
one_taken old bodies new bytes rest body after takes fits here is = record {
  gone = takes.gone ++ cell body;
  is = takes.is ∙ ap (λ (xs : List ℕ). takes.gone ++ xs) here ∙ sym (append_assoc takes.gone (cell body) after);
  taken = ap cells is ∙ cells_push bodies body ∙ ap (λ (xs : List ℕ). xs ++ cell body) takes.taken ∙ append_assoc (cells old) takes.gone (cell body);
  sizes = λ fit. subst AllFit (sym is) (AllFit-push bodies body (takes.sizes fit) fits);
}

pub rest_within : (old new : List (List ℕ)) (bytes rest : List ℕ) → TakesUpTo old new bytes rest → length rest ≤ length bytes
rest_within old new bytes rest takes = let long = ap length takes.is in let parts = length-append takes.gone rest in omega (arith, long, parts)

pub all_taken : (old new : List (List ℕ)) (bytes rest : List ℕ) (count : ℕ) (end told : End) → TakesUpTo old new bytes rest → count + length rest ≡ length bytes → told ≡ end → EndsSo end rest
    → TakesCells old new bytes (record { count = count; end = told })
all_taken old new bytes rest count end told takes long same ends =
    let sum = ap length takes.is in
    let parts = length-append takes.gone rest in
    let gone : length takes.gone ≡ count = omega (arith, sum, parts, long) in
    let is : rest ≡ drop count bytes = sym (ap (drop count) takes.is ∙ drop_at takes.gone rest count gone) in
    record {
      within = omega (arith, long);
      takes = subst (TakesUpTo old new bytes) is takes;
      ends = subst (λ (e : End). EndsSo e (drop count bytes)) (sym same) (subst (EndsSo end) is ends);
    }

-- what was taken stands at the front of the file
pub taken_front : (old new : List (List ℕ)) (ahead rest file : List ℕ) → TakesUpTo old new ahead rest → IsFront (front old ++ ahead) file → IsFront (front new ++ rest) file
taken_front old new ahead rest file takes before =
    let all : front old ++ ahead ≡ front new ++ rest =
    ap (λ (xs : List ℕ). front old ++ xs) takes.is
    ∙ sym (append_assoc (front old) takes.gone rest)
    ∙ ap (λ (xs : List ℕ). xs ++ rest) (append_assoc header (cells old) takes.gone ∙ ap (λ (xs : List ℕ). header ++ xs) (sym takes.taken)) in
    subst (λ (xs : List ℕ). IsFront xs file) all before

pub taken_place : (old new : List (List ℕ)) (ahead : List ℕ) (count at : ℕ) → count ≤ length ahead → TakesUpTo old new ahead (drop count ahead) → at ≡ length (front old) → at + count ≡ length (front new)
taken_place old new ahead count at within takes is =
    let gone : length takes.gone ≡ count =
    let sum = ap length takes.is in
    let parts = length-append takes.gone (drop count ahead) in
    let cut = length-drop count ahead in
    omega (arith, sum, parts, cut, within) in
    let was = length-append header (cells old) in
    let now = length-append header (cells new) in
    let more = ap length takes.taken in
    let both = length-append (cells old) takes.gone in
    omega (arith, is, was, now, more, both, gone)

-- a closed gate stands below the end of what was read
pub shut_below : (ahead : List ℕ) (count at end : ℕ) → count ≤ length ahead → IsShut (drop count ahead) → at + length ahead ≤ end → at + count < end
shut_below ahead count at end within shut near = let some = ap length shut.is in let cut = length-drop count ahead in omega (arith, some, cut, within, near)

-- What stands behind the whole cells decides what the file is.
module _ (bodies : List (List ℕ)) (sizes : AllFit bodies) (rest file : List ℕ) where
  pub shut_text : IsShut rest → IsFront (front bodies ++ rest) file → IsJournalText bodies file
  shut_text shut before = record {
    sizes = sizes;
    gate = shut.gate;
    rest = shut.rest ++ before.rest;
    shut = shut.shut;
    is = before.is ∙ append_assoc (front bodies) rest before.rest ∙ ap (λ (xs : List ℕ). front bodies ++ (xs ++ before.rest)) shut.is;
  }

  pub broken_text : (at : ℕ) → IsNoCell rest → at ≡ length (front bodies) → IsFront (front bodies ++ rest) file → IsDamagedAt file at
  broken_text at never is before =
      inr (record { bodies = bodies; sizes = sizes; rest = rest ++ before.rest; is = before.is ∙ append_assoc (front bodies) rest before.rest; at = is; broken = never before.rest })

  pub ended_text : (at : ℕ) → IsBroken rest → at ≡ length (front bodies) → file ≡ front bodies ++ rest → IsDamagedAt file at
  ended_text at broken is all = inr (record { bodies = bodies; sizes = sizes; rest = rest; is = all; at = is; broken = broken })
