-- The four lines, in the pieces in which they are written.
use Rattle.std.proofs.Common.{◌≡◌, ℕ, List, [], ◌∷◌, ◌++◌, codes, append_assoc}
use Rattle.dm_rehearse.specs.Lines.{line}

general : (l a m b k c j d n : List ℕ) → l ++ (a ++ ((n ++ m) ++ (b ++ ((n ++ k) ++ (c ++ ((n ++ j) ++ (d ++ n))))))) ≡ (((l ++ (a ++ n)) ++ (m ++ (b ++ n))) ++ (k ++ (c ++ n))) ++ (j ++ (d ++ n))
general l a m b k c j d n = simp append_assoc

pub four_lines : (a b c d : List ℕ)
    → codes "bytes " ++ (a ++ (codes "\nattempts " ++ (b ++ (codes "\nbroke " ++ (c ++ (codes "\nsha256 " ++ (d ++ codes "\n")))))))
    ≡ line (codes "bytes") a ++ line (codes "attempts") b ++ line (codes "broke") c ++ line (codes "sha256") d
four_lines a b c d = general (codes "bytes ") a (codes "attempts ") b (codes "broke ") c (codes "sha256 ") d (10 ∷ [])
