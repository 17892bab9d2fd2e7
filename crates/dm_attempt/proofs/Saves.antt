-- What was saved stays what was landed at some moment.
use Rattle.std.proofs.Common.{◌≡◌, ℕ, ◌+◌, suc, zero, List, [], ◌∷◌, ◌++◌, length, map, Option, refl, sym, ◌∙◌, ap, subst, append_assoc}
use Rattle.std.specs.List.{AllByRecursion}
use Rattle.std.proofs.lemmas.List.{append-nil}
use Rattle.dm_types.specs.declared.slices.Slice.{Slice}
use Rattle.dm_slice.specs.Cover.{normal_of}
use Rattle.dm_slice.specs.declared.plan.Part.{Part}
use Rattle.dm_attempt.specs.Shares.{Share, added}
use Rattle.dm_attempt.specs.Trace.{AreFronts, ArePlanned, IsRound, IsSave, Round, WereRounds, cover_of, with_piece}
use Rattle.dm_attempt.proofs.Sharing.{added_keeps}

fronts_same : (shares : List Share) → AreFronts shares shares
fronts_same [] = tt
fronts_same (share ∷ shares) = (refl, ([], sym (append-nil share.bytes)), fronts_same shares)

fronts_more : (fronts shares : List Share) (k : ℕ) (piece : List ℕ) → AreFronts fronts shares → AreFronts fronts (added shares k piece)
fronts_more [] [] k piece are = are
fronts_more [] (share ∷ shares) k piece are = absurd are
fronts_more (front ∷ fronts) [] k piece are = are
fronts_more (front ∷ fronts) (share ∷ shares) zero piece are =
    (are.0, (are.1.0 ++ piece, ap (λ (l : List ℕ). l ++ piece) are.1.1 ∙ append_assoc front.bytes are.1.0 piece), are.2)
fronts_more (front ∷ fronts) (share ∷ shares) (suc k) piece are = (are.0, are.1, fronts_more fronts shares k piece are.2)

were_same : (rounds : List Round) → WereRounds rounds rounds
were_same [] = tt
were_same (round ∷ older) = (refl, fronts_same round.shares, refl)

were_more : (earlier : List Round) (round : Round) (older : List Round) (k : ℕ) (piece : List ℕ) → WereRounds earlier (round ∷ older) → WereRounds earlier (with_piece round k piece ∷ older)
were_more [] round older k piece were = absurd were
were_more (was ∷ before) round older k piece were = (were.0, fronts_more was.shares round.shares k piece were.1, were.2)

module _ (start : List Slice) (total : Option ℕ) (n least : ℕ) where
  -- the cover as it is
  pub save_now : (rounds : List Round) (slices : List Slice) → slices ≡ normal_of total (cover_of start total n least rounds) → IsSave start total n least rounds slices
  save_now rounds slices is = record { newer = []; rest = rounds; among = refl; earlier = rounds; was = were_same rounds; is = is }

  piece_at : (round : Round) (older newer rest earlier : List Round) (k : ℕ) (piece : List ℕ) (slices : List Slice) → round ∷ older ≡ newer ++ rest → WereRounds earlier rest
      → slices ≡ normal_of total (cover_of start total n least earlier) → IsSave start total n least (with_piece round k piece ∷ older) slices
  piece_at round older [] rest earlier k piece slices among was is = record {
    newer = [];
    rest = with_piece round k piece ∷ older;
    among = refl;
    earlier = earlier;
    was = were_more earlier round older k piece (subst (λ (l : List Round). WereRounds earlier l) (sym among) was);
    is = is;
  }
  piece_at round older (first ∷ newer) rest earlier k piece slices among was is =
      let tail : older ≡ newer ++ rest = cc in
      record { newer = with_piece round k piece ∷ newer; rest = rest; among = ap (λ (l : List Round). with_piece round k piece ∷ l) tail; earlier = earlier; was = was; is = is }

  -- the newest round has a piece more
  pub save_piece : (round : Round) (older : List Round) (k : ℕ) (piece : List ℕ) (slices : List Slice) → IsSave start total n least (round ∷ older) slices → IsSave start total n least (with_piece round k piece ∷ older) slices
  save_piece round older k piece slices save = piece_at round older save.newer save.rest save.earlier k piece slices save.among save.was save.is

  pub saves_piece : (round : Round) (older : List Round) (k : ℕ) (piece : List ℕ) (saves : List (List Slice)) → AllByRecursion (IsSave start total n least (round ∷ older)) saves
      → AllByRecursion (IsSave start total n least (with_piece round k piece ∷ older)) saves
  saves_piece round older k piece [] all = tt
  saves_piece round older k piece (slices ∷ more) all = (save_piece round older k piece slices all.0, saves_piece round older k piece more all.1)

  -- there is a round more
  pub saves_round : (round : Round) (rounds : List Round) (saves : List (List Slice)) → AllByRecursion (IsSave start total n least rounds) saves → AllByRecursion (IsSave start total n least (round ∷ rounds)) saves
  saves_round round rounds [] all = tt
  saves_round round rounds (slices ∷ more) all =
      (record { newer = round ∷ all.0.newer; rest = all.0.rest; among = ap (λ (l : List Round). round ∷ l) all.0.among; earlier = all.0.earlier; was = all.0.was; is = all.0.is }, saves_round round rounds more all.1)

  pub saves_push : (rounds : List Round) (saves : List (List Slice)) (slices : List Slice) → AllByRecursion (IsSave start total n least rounds) saves → IsSave start total n least rounds slices
      → AllByRecursion (IsSave start total n least rounds) (saves ++ slices ∷ [])
  saves_push rounds [] slices all save = (save, tt)
  saves_push rounds (first ∷ more) slices all save = (all.0, saves_push rounds more slices all.1 save)

  pub planned_piece : (round : Round) (older : List Round) (k : ℕ) (piece : List ℕ) → ArePlanned start total n least (round ∷ older) → ArePlanned start total n least (with_piece round k piece ∷ older)
  planned_piece round older k piece planned = (record { cover_is = planned.0.cover_is; parts_are = added_keeps round.shares k piece ∙ planned.0.parts_are }, planned.1)
