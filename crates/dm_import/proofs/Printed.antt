-- The texts that an import says.
use Rattle.std.proofs.Common.{◌≡◌, ◌⊎◌, inl, inr, ℕ, ◌+◌, ◌<◌, List, [], ◌∷◌, ◌++◌, length, get_or, take, map, Result, refl, sym, ◌∙◌, ap, subst}
use Rattle.std.specs.Prelude.{IfOk}
use Rattle.std.specs.List.{concat}
use Rattle.std.proofs.lemmas.List.{append-nil, map_push, take_more}
use Rattle.std.proofs.lemmas.List.Folds.{concat-append}
use Rattle.dm_types.specs.declared.item.Item.{Item}
use Rattle.dm_types.specs.declared.kinds.DiskKind.{DiskKind}
use Rattle.dm_types.specs.declared.memory.NoMemory.{NoMemory}
use Rattle.dm_report.specs.Said.{Said}
use Rattle.dm_report.specs.declared.verdict.Verdict.{Verdict}
use Rattle.dm_report.specs.declared.verdict.Verdict.TheVariants as verdicts
use Rattle.dm_shown.specs.declared.named.Named.{Named}
use Rattle.dm_list.specs.Working.{EndsWithText}
use Rattle.dm_list.proofs.Texts.{ends_text}
use Rattle.dm_import.specs.Saying.{SaysSo, line_in, lines_in}

-- the lines of one more
lines_push : (items : List Item) (all : List Named) (one : Named) → lines_in items (all ++ one ∷ []) ≡ lines_in items all ++ line_in items one
lines_push items all one =
    ap concat (map_push (line_in items) all one)
    ∙ concat-append (map (line_in items) all) (line_in items one ∷ [])
    ∙ ap (λ (last : List ℕ). lines_in items all ++ last) (append-nil (line_in items one))

pub lines_more : (items : List Item) (all : List Named) (index : ℕ) (one : Named) (text new : List ℕ) → index < length all → one ≡ get_or all index one → text ≡ lines_in items (take index all)
    → new ≡ text ++ line_in items one → new ≡ lines_in items (take (index + 1) all)
lines_more items all index one text new within here so_far is =
    is
    ∙ ap (λ (front : List ℕ). front ++ line_in items one) so_far
    ∙ sym (lines_push items (take index all) one)
    ∙ ap (lines_in items) (ap (λ (n : Named). take index all ++ n ∷ []) here ∙ sym (take_more all index one within))

-- no failure was met
pub says_text : (items : List Item) (all : List Named) (verdict : Verdict) (made : Result (List ℕ) NoMemory) (said : Said) → ((kind : DiskKind) → verdict ≡ verdicts.DiskFailed kind → ⊥) → (verdict ≡ verdicts.HistoryFailed → ⊥) → (verdict ≡ verdicts.NoMemory → ⊥)
    → EndsWithText verdict made said → IfOk made (λ text. text ≡ lines_in items all) → SaysSo items all verdict said
says_text items all (verdicts.DiskFailed kind) made said no_disk no_history no_memory ends is = absurd (no_disk kind refl)
says_text items all verdicts.HistoryFailed made said no_disk no_history no_memory ends is = absurd (no_history refl)
says_text items all verdicts.NoMemory made said no_disk no_history no_memory ends is = absurd (no_memory refl)
says_text items all verdict made said no_disk no_history no_memory ends is = ends_text verdict made (lines_in items all) said ends is

pub says_as : (items : List Item) (all : List Named) (verdict other : Verdict) (said : Said) → verdict ≡ other → SaysSo items all other said → SaysSo items all verdict said
says_as items all verdict other said is says = subst (λ (v : Verdict). SaysSo items all v said) (sym is) says

-- what is printed was kept, unless memory was wanting
pub says_kept : (items : List Item) (kept named : List Named) (verdict : Verdict) (said : Said) → (verdict ≡ verdicts.NoMemory) ⊎ (kept ≡ named) → SaysSo items kept verdict said → SaysSo items named verdict said
says_kept items kept named verdict said (inl wanted) says = says_as items named verdict verdicts.NoMemory said wanted (subst (λ (v : Verdict). SaysSo items kept v said) wanted says)
says_kept items kept named verdict said (inr same) says = subst (λ (all : List Named). SaysSo items all verdict said) same says
