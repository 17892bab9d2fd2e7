-- The worked rows.
use Rattle.std.proofs.Common.{◌≡◌, ◌⊎◌, inl, inr, ℕ, zero, suc, ◌<◌, ◌≤◌, List, length, get_or, codes, Some, None, refl, sym, ap, subst, arith}
use Rattle.std.proofs.lemmas.Bool.{false≢true}
use Rattle.std.proofs.lemmas.Option.{same_Some, none-some}
use Rattle.dm_disk_model.specs.Folder.{Folder, Renamed, EachPrefix}
use Rattle.dm_disk_model.specs.File.{settled_file}
use Rattle.dm_disk_model.proofs.PendingNames.{each_more, each_synced}
use Rattle.dm_slice.specs.Words.{HasByte}
use Rattle.dm_part.specs.Keeping.{Stage, Going, Moving, Published, LiesAt, FoundAt, IsContent, IsWhole, IsSaid, IsAtMost, Filed, IsShort}
use Rattle.dm_part.specs.Laws.{by_test}
use Rattle.dm_part.specs.Rows.{says_abc, from_start, claim_abc, folder_with, part_with, moved_with, found_under, RowsHold}

-- each of so many places is one of them
abc_said : (count : ℕ) → count ≤ 3 → IsSaid (by_test says_abc) (from_start count) (codes "abc")
abc_said count few place (inl has) = (omega arith, by place (omega arith))
  where
    by : (p : ℕ) → p < 3 → by_test says_abc p (get_or (codes "abc") p 0)
    by zero lt = refl
    by (suc zero) lt = refl
    by (suc (suc zero)) lt = refl
    by (suc (suc (suc p))) lt = absurd (omega arith)
abc_said count few place (inr has) = absurd has

-- a part of three bytes is short
part_short : (bytes : List ℕ) → length bytes ≡ 3 → IsShort (codes "p") (Some 3) (part_with bytes)
part_short bytes three = each_synced (part_with bytes) (λ names. (number : ℕ) → names (codes "p") ≡ Some number → IsAtMost (Some 3) bytes) refl (λ number is. omega arith)

row_filed : (stage : Stage) (saved live : ℕ) → saved ≤ live → live ≤ 3 → IsWhole stage (Some 3) None (from_start saved) (codes "abc") → Filed (by_test says_abc) (claim_abc stage saved live) (settled_file (codes "abc"))
row_filed stage saved live few within whole = record {
  clean = λ place has. record { below = within_saved place has; untouched = tt };
  said = abc_said live within;
  holds = λ place has. more place has;
  short = omega arith;
  within = omega arith;
  whole = whole;
}
  where
    within_saved : (place : ℕ) → HasByte (from_start saved) place → place < 3
    within_saved place (inl has) = omega arith
    within_saved place (inr has) = absurd has

    more : (place : ℕ) → HasByte (from_start saved) place → HasByte (from_start live) place
    more place (inl has) = inl (omega arith, omega arith)
    more place (inr has) = absurd has

all_of_abc : IsContent (Some 3) None (from_start 3) (codes "abc")
all_of_abc = record { ends = refl; full = λ place below. inl (omega arith, omega arith); sum = tt }

lies_going : EachPrefix (part_with (codes "abc")) (LiesAt Going (codes "p") (codes "n") 0)
lies_going = each_synced (part_with (codes "abc")) (LiesAt Going (codes "p") (codes "n") 0) refl (refl, refl)

lies_moving : EachPrefix (moved_with (codes "abc")) (LiesAt Moving (codes "p") (codes "n") 0)
lies_moving =
    each_more (part_with (codes "abc")) (moved_with (codes "abc")) (Renamed (codes "p") (codes "n")) (LiesAt Moving (codes "p") (codes "n") 0) refl refl
    (λ count. inl (lies_going count)) (inr (refl, refl))

moved_short : IsShort (codes "p") (Some 3) (moved_with (codes "abc"))
moved_short =
    each_more (part_with (codes "abc")) (moved_with (codes "abc")) (Renamed (codes "p") (codes "n")) (λ names. (number : ℕ) → names (codes "p") ≡ Some number → 3 ≤ 3) refl refl
    (λ count number is. omega arith) (λ number is. omega arith)

-- what is found under a name is what is told
same_bytes : (found bytes : List ℕ) → Some found ≡ Some bytes → bytes ≡ found
same_bytes found bytes is = sym (same_Some found bytes is)

-- the file stands under its name
abbrev published_folder : Folder
published_folder = folder_with (codes "n") (settled_file (codes "abc"))

pub rows_hold : RowsHold
rows_hold = record {
  going = record { number = 0; lies = lies_going; filed = row_filed Going 2 3 (omega arith) (omega arith) tt; short = part_short (codes "abc") refl };
  other_live = λ held. false≢true (held.filed.said 2 (inl (omega arith, omega arith))).1;
  other_left = record {
    bytes = codes "abX";
    found = (refl, refl);
    said = two;
    short = omega arith;
    whole = tt;
  };
  other_saved = λ sound.
      let same = same_bytes (codes "aXc") sound.bytes sound.found.0 in
      false≢true (subst (λ (bytes : List ℕ). by_test says_abc 1 (get_or bytes 1 0)) same (sound.said 1 (inl (omega arith, omega arith))).1);
  missing = λ sound.
      let same = same_bytes (codes "a") sound.bytes sound.found.0 in
      let long = (sound.said 1 (inl (omega arith, omega arith))).0 in
      omega (arith, ap length same);
  touched = λ held. apart (held.filed.clean 1 (inl (omega arith, omega arith))).untouched.0;
  unsynced = λ held. let clean = held.filed.clean 1 (inl (omega arith, omega arith)) in omega (arith, clean.below);
  early = λ sound. none-some sound.bytes sound.found.0;
  both = λ held. none-some 1 (sym (held.lies 0).1);
  moving = record { number = 0; lies = lies_moving; filed = row_filed Moving 3 3 (omega arith) (omega arith) all_of_abc; short = moved_short };
  moved = record { bytes = codes "abc"; found = inr (refl, refl); said = abc_said 3 (omega arith); short = omega arith; whole = all_of_abc };
  half_moved = λ sound. half sound.bytes sound.found sound.whole.ends;
  other_digest = λ digest differs held. differs held.filed.whole.sum;
  published = record {
    number = 0;
    lies = each_synced published_folder (LiesAt Published (codes "p") (codes "n") 0) refl refl;
    filed = row_filed Published 3 3 (omega arith) (omega arith) all_of_abc;
    short = each_synced published_folder (λ names. (number : ℕ) → names (codes "p") ≡ Some number → 3 ≤ 3) refl (λ number is. omega arith);
  };
  unpublished = λ held. none-some held.number (held.lies 0);
  long = λ short. let four = short 0 0 refl in omega arith;
}
  where
    apart : (1 < 1) ⊎ (2 ≤ 1) → ⊥
    apart (inl low) = omega (arith, low)
    apart (inr high) = omega (arith, high)

    two : IsSaid (by_test says_abc) (from_start 2) (codes "abX")
    two place (inl has) = (omega arith, by place (omega arith))
      where
        by : (p : ℕ) → p < 2 → by_test says_abc p (get_or (codes "abX") p 0)
        by zero lt = refl
        by (suc zero) lt = refl
        by (suc (suc p)) lt = absurd (omega arith)
    two place (inr has) = absurd has

    half : (bytes : List ℕ) → FoundAt Moving (codes "p") (codes "n") bytes (found_under (codes "n") (codes "ab")) → Some 3 ≡ Some (length bytes) → ⊥
    half bytes (inl found) ends = none-some bytes found.0
    half bytes (inr found) ends = let three = same_Some 3 (length bytes) ends in let same = same_bytes (codes "ab") bytes found.0 in omega (arith, ap length same)
