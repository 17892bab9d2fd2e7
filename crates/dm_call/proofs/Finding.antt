-- What a router finds is one of its routes.
use Rattle.std.proofs.Common.{◌≡◌, ℕ, zero, suc, ◌-◌, Bool, true, false, cond, ◌==◌, ltb, List, [], ◌∷◌, length, Option, Some, None, refl, sym, ap, ◌∙◌, subst, arith}
use Rattle.matchit.specs.Rows.{RowsOf, param_token, catch_all_token}
use Rattle.matchit.specs.Seek.{first, seek, step, own, or_else, param_step, with_suffix, longest_suffix, segment, same_text, has_slash}

module _ {K : Type 0} (P : K → Type 0) where
  -- each key of the rows is such
  abbrev pub Each : RowsOf K → Type 0
  Each [] = Unit {0}
  Each ((t, key) ∷ rest) = P key × Each rest

  abbrev pub Found : Option K → Type 0
  Found None = Unit {0}
  Found (Some key) = P key

  found_own : (rs : RowsOf K) → Each rs → Found (own rs)
  found_own [] each = tt
  found_own (([], key) ∷ rest) each = each.0
  found_own ((x ∷ t, key) ∷ rest) each = found_own rest each.1

  each_if : (b : Bool) (xs ys : RowsOf K) → Each xs → Each ys → Each (cond b xs ys)
  each_if true xs ys x y = x
  each_if false xs ys x y = y

  each_step : (b : ℕ) (rs : RowsOf K) → Each rs → Each (step b rs)
  each_step b [] each = tt
  each_step b (([], key) ∷ rest) each = each_step b rest each.1
  each_step b ((x ∷ t, key) ∷ rest) each = each_if (x == b) _ _ (each.0, each_step b rest each.1) (each_step b rest each.1)

  each_suffix : (suffix : List ℕ) (rs : RowsOf K) → Each rs → Each (with_suffix suffix rs)
  each_suffix suffix [] each = tt
  each_suffix suffix ((t, key) ∷ rest) each = each_if (same_text (segment t) suffix) _ _ (each.0, each_suffix suffix rest each.1) (each_suffix suffix rest each.1)

  found_else : (a b : Option K) → Found a → Found b → Found (or_else a b)
  found_else None b x y = y
  found_else (Some key) b x y = x

  each_of_if : (b : Bool) (xs ys : ℕ × RowsOf K) → Each xs.1 → Each ys.1 → Each (cond b xs ys).1
  each_of_if true xs ys x y = x
  each_of_if false xs ys x y = y

  each_param : (rs : RowsOf K) (path : List ℕ) → Each rs → Each (param_step rs path).1
  unfolding param_step
  each_param rs path each =
      each_of_if (ltb 0 (length (longest_suffix (segment path) rs))) _ _ (each_suffix (longest_suffix (segment path) rs) rs each)
      (each_of_if (has_slash path) _ _ tt each)

  pub found_seek : (skip : ℕ) (rs : RowsOf K) (path : List ℕ) → Each rs → Found (seek skip rs path)
  unfolding seek
  found_seek zero rs [] each = found_own rs each
  found_seek (suc skip) rs [] each = found_own rs each
  found_seek (suc skip) rs (b ∷ path) each = found_seek skip rs path each
  found_seek zero rs (b ∷ path) each =
      found_else _ _ (found_seek 0 (step b rs) path (each_step b rs each))
      (found_else _ _
      (found_seek ((param_step (step param_token rs) (b ∷ path)).0 - 1) (param_step (step param_token rs) (b ∷ path)).1 path
      (each_param (step param_token rs) (b ∷ path) (each_step param_token rs each)))
      (found_own (step catch_all_token rs) (each_step catch_all_token rs each)))
