-- The texts that are said.
use Rattle.std.proofs.Common.{◌≡◌, inl, inr, ℕ, ◌+◌, ◌<◌, List, [], ◌∷◌, ◌++◌, length, get_or, take, map, Result, Ok, Err, refl, sym, ◌∙◌, ap, subst}
use Rattle.std.specs.Prelude.{IfOk}
use Rattle.std.specs.List.{concat}
use Rattle.std.proofs.lemmas.List.{append-nil, map_push, take_more}
use Rattle.std.proofs.lemmas.List.Folds.{concat-append}
use Rattle.dm_types.specs.declared.item.Item.{Item}
use Rattle.dm_types.specs.declared.item.Phase.{Phase}
use Rattle.dm_types.specs.declared.kinds.DiskKind.{DiskKind}
use Rattle.dm_types.specs.declared.memory.NoMemory.{NoMemory}
use Rattle.dm_types.specs.declared.reason.Reason.{Reason}
use Rattle.dm_types.specs.declared.reason.Reason.TheVariants as reasons
use Rattle.dm_report.specs.Said.{EndsAs, Said, only}
use Rattle.dm_report.specs.Texts.{item_line_of}
use Rattle.dm_report.specs.declared.verdict.Verdict.{Verdict}
use Rattle.dm_report.specs.declared.verdict.Verdict.TheVariants as verdicts
use Rattle.dm_does.specs.declared.course.Course.{Course}
use Rattle.dm_does.specs.declared.course.Course.TheVariants.{Ends}
use Rattle.dm_does.specs.declared.course.Show.{Show}
use Rattle.dm_does.specs.declared.course.Show.TheVariants.{Nothing}
use Rattle.dm_does.specs.Saying.{said_by, said_in, said_interrupted}
use Rattle.dm_list.specs.Working.{EndsWithText, SaysFailure}

-- a text that was made is said, or memory was wanting
pub ends_text : (verdict : Verdict) (made : Result (List ℕ) NoMemory) (text : List ℕ) (said : Said) → EndsWithText verdict made said → IfOk made (λ t. t ≡ text) → EndsAs (record { verdict = verdict; out = text }) said
ends_text verdict (Ok is) text said ends same = subst (λ (t : List ℕ). EndsAs (record { verdict = verdict; out = t }) said) same ends
ends_text verdict (Err fault) text said ends same = inr ends

-- an interruption by another reason than want of memory
pub said_other : (reason : Reason) (line : List ℕ) → (reason ≡ reasons.NoMemory → ⊥) → said_interrupted reason line ≡ record { verdict = verdicts.Interrupted reason; out = line }
said_other reasons.NoMemory line not = absurd (not refl)
said_other reason line not = refl

pub interrupted_text : (reason : Reason) (made : Result (List ℕ) NoMemory) (line : List ℕ) (said : Said) → (reason ≡ reasons.NoMemory → ⊥) → EndsWithText (verdicts.Interrupted reason) made said → IfOk made (λ t. t ≡ line)
    → EndsAs (said_interrupted reason line) said
interrupted_text reason made line said not ends same = subst (λ (s : Said). EndsAs s said) (sym (said_other reason line not)) (ends_text (verdicts.Interrupted reason) made line said ends same)

pub no_memory_text : (reason : Reason) (line : List ℕ) (said : Said) → reason ≡ reasons.NoMemory → said ≡ only verdicts.NoMemory → EndsAs (said_interrupted reason line) said
no_memory_text reason line said is told = subst (λ (r : Reason). EndsAs (said_interrupted r line) said) (sym is) (inl told)

-- of an item in this phase
pub in_phase : (phase other : Phase) (line : List ℕ) (said : Said) → phase ≡ other → EndsAs (said_in other line) said → EndsAs (said_in phase line) said
in_phase phase other line said is ends = subst (λ (p : Phase). EndsAs (said_in p line) said) (sym is) ends

-- only a failed call on the disk, with nothing besides, is told exactly
pub fails_show : (kind : DiskKind) (show : Show) (said : Said) → (show ≡ Nothing → ⊥) → SaysFailure (Ends (verdicts.DiskFailed kind) show) said
fails_show kind Nothing said not = absurd (not refl)
fails_show kind show said not = tt

pub fails_other : (verdict : Verdict) (show : Show) (said : Said) → ((kind : DiskKind) → verdict ≡ verdicts.DiskFailed kind → ⊥) → SaysFailure (Ends verdict show) said
fails_other (verdicts.DiskFailed kind) show said not = absurd (not kind refl)
fails_other verdict show said not = tt

pub of_course : (items : List Item) (course other : Course) (said : Said) → course ≡ other → EndsAs (said_by items other) said → EndsAs (said_by items course) said
of_course items course other said is ends = subst (λ (c : Course). EndsAs (said_by items c) said) (sym is) ends

pub fails_course : (course other : Course) (said : Said) → course ≡ other → SaysFailure other said → SaysFailure course said
fails_course course other said is fails = subst (λ (c : Course). SaysFailure c said) (sym is) fails

-- the lines of one item more
lines_push : (items : List Item) (item : Item) → concat (map item_line_of (items ++ item ∷ [])) ≡ concat (map item_line_of items) ++ item_line_of item
lines_push items item =
    ap concat (map_push item_line_of items item)
    ∙ concat-append (map item_line_of items) (item_line_of item ∷ [])
    ∙ ap (λ (last : List ℕ). concat (map item_line_of items) ++ last) (append-nil (item_line_of item))

pub lines_more : (items : List Item) (index : ℕ) (item : Item) (text new : List ℕ) → index < length items → item ≡ get_or items index item → text ≡ concat (map item_line_of (take index items))
    → new ≡ text ++ item_line_of item → new ≡ concat (map item_line_of (take (index + 1) items))
lines_more items index item text new within here so_far is =
    is
    ∙ ap (λ (front : List ℕ). front ++ item_line_of item) so_far
    ∙ sym (lines_push (take index items) item)
    ∙ ap (λ (some : List Item). concat (map item_line_of some)) (ap (λ (i : Item). take index items ++ i ∷ []) here ∙ sym (take_more items index item within))
