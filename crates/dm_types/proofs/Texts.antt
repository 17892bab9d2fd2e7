-- Pieces of a text, grouped from the right as they are written, and from the left as they are read.
use Rattle.std.proofs.Common.{◌≡◌, ℕ, List, ◌++◌, append_assoc, sym}

pub five_pieces : (a b c d e : List ℕ) → a ++ (b ++ (c ++ (d ++ e))) ≡ (((a ++ b) ++ c) ++ d) ++ e
five_pieces a b c d e = sym (simp append_assoc)
