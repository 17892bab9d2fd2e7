-- What a run says of the grammar.
use Rattle.std.proofs.Common.{◌≡◌, ℕ, ◌+◌, ◌<◌, ◌≤◌, List, [], ◌∷◌, ◌++◌, length, get_or, take, drop, inl, inr, append_assoc, Option, Some, None, Result, Ok, Err, codes, refl, sym, ap, ◌∙◌, subst, arith}
use Rattle.std.specs.Prelude.{option_and_then, IfOk}
use Rattle.std.specs.List.{AllByRecursion}
use Rattle.std.proofs.lemmas.Bool.{both_ways}
use Rattle.std.proofs.lemmas.Option.{same_Some, none-some}
use Rattle.std.proofs.lemmas.List.{append-nil, take-append-drop, take-take, drop_more, take_more, take_all, length-take-le, get_or-take}
use Rattle.dm_disposition.specs.Grammar.{Field, Spells}
use Rattle.dm_disposition.specs.Names.{Named, named_of, IsSpelled, AreApart}
use Rattle.dm_disposition.specs.Told.{HasText, IsExtended, MaybeExtended, PlainOf, ExtendedOf}
use Rattle.dm_disposition.specs.Read.{Tells, Answers, Judges}
use Rattle.dm_disposition.specs.Views.{Gives}
use Rattle.dm_disposition.specs.declared.DispFault.{DispFault}
use Rattle.dm_disposition.specs.declared.DispFault.TheVariants.{NotGrammar, Repeated, NoMemory}
use Rattle.dm_disposition.specs.declared.Disposition.{Disposition}
use Rattle.dm_disposition.proofs.NameLemmas.{of_spelled, one_text}
use Rattle.dm_disposition.specs.Fronts.{BeginsValue, IsStuckAt}
use Rattle.dm_disposition.specs.Machine.{next, is_end, Notes, settled, taken, run, nothing, StopsAt, EndsWith}
use Rattle.dm_disposition.specs.declared.state.State.{State}
use Rattle.dm_disposition.proofs.SoundLemmas.{StartTail, run_back, ends_here, some_rest}
use Rattle.dm_disposition.proofs.RunLemmas.{run_one, run_append, field_run}

-- one byte more of a text
pub run_more : (text : List ℕ) (i b : ℕ) (n : Notes) (s : State) → i < length text → b ≡ get_or text i 0 → run nothing 0 (take i text) ≡ Some n → next n.state b ≡ Some s → run nothing 0 (take (i + 1) text) ≡ Some (taken n i b s)
unfolding run
run_more text i b n s lt here ran goes =
    let len = length-take-le i text (omega arith) in
    ap (run nothing 0) (take_more text i 0 lt ∙ ap (λ (x : ℕ). take i text ++ x ∷ []) (sym here))
    ∙ run_append (take i text) nothing 0 (b ∷ [])
    ∙ ap (option_and_then (λ m. run m (0 + length (take i text)) (b ∷ []))) ran
    ∙ run_one n (0 + length (take i text)) b [] s goes
    ∙ ap (λ (k : ℕ). Some (taken n k b s)) (zero_plus (length (take i text)) i len)
  where
    zero_plus : (k i : ℕ) → k ≡ i → 0 + k ≡ i
    zero_plus k i e = omega arith

-- a run that stops at a byte gives nothing, whatever follows
dead_by : (n : Notes) (at c : ℕ) (w : List ℕ) (o : Option State) → o ≡ None → option_and_then (λ s. run (taken n at c s) (at + 1) w) o ≡ None
dead_by n at c w None e = refl
dead_by n at c w (Some s) e = absurd cc

dead : (front w : List ℕ) (c : ℕ) (n : Notes) → run nothing 0 front ≡ Some n → next n.state c ≡ None → run nothing 0 (front ++ c ∷ w) ≡ None
unfolding run
dead front w c n ran stops =
    run_append front nothing 0 (c ∷ w) ∙ ap (option_and_then (λ m. run m (0 + length front) (c ∷ w))) ran ∙ dead_by n (0 + length front) c w (next n.state c) stops

-- a text that was cut behind a place goes on with the byte there
cut_at : (text : List ℕ) (k m : ℕ) → k < m → m ≤ length text → take m text ≡ take k text ++ get_or text k 0 ∷ drop (k + 1) (take m text)
cut_at text k m lt le =
    let len = length-take-le m text le in
    let short : k < length (take m text) = omega arith in
    sym (take-append-drop k (take m text))
    ∙ ap (λ (x : List ℕ). x ++ drop k (take m text)) (take-take k m text (omega arith))
    ∙ ap (λ (x : List ℕ). take k text ++ x) (drop_more (take m text) k 0 short ∙ ap (λ (b : ℕ). b ∷ drop (k + 1) (take m text)) (get_or-take m text k 0 lt))

pub from_tail : (front more : List ℕ) → StartTail (front ++ more) → BeginsValue front
from_tail front more t = record { more = more; field = t.field; spells = t.spells }

begins : (front : List ℕ) (n : Notes) → run nothing 0 front ≡ Some n → BeginsValue front
begins front n ran = let rest = some_rest n.state in from_tail front rest.0 (run_back front nothing n 0 rest.0 ran rest.1)

no_front : (text : List ℕ) (k : ℕ) (n : Notes) → run nothing 0 (take k text) ≡ Some n → next n.state (get_or text k 0) ≡ None → (m : ℕ) → k < m → m ≤ length text → BeginsValue (take m text) → ⊥
no_front text k n ran stops m lt le b =
    let ended = field_run b.field (take m text ++ b.more) b.spells in
    let cut = cut_at text k m lt le in
    let rest = drop (k + 1) (take m text) in
    let parts : take m text ++ b.more ≡ take k text ++ get_or text k 0 ∷ (rest ++ b.more) = ap (λ (x : List ℕ). x ++ b.more) cut ∙ append_assoc (take k text) (get_or text k 0 ∷ rest) b.more in
    none-some ended.last (sym (dead (take k text) (rest ++ b.more) (get_or text k 0) n ran stops) ∙ ap (run nothing 0) (sym parts) ∙ ended.ran)

pub stuck_is : (text : List ℕ) (k : ℕ) → StopsAt text k → IsStuckAt text k
stuck_is text k s =
    elim s.stops [
      | inl h ↦
          record {
            outside = λ field spells. no_front text k s.last s.ran h.1 (length text) h.0 (omega arith) (record { more = []; field = field; spells = subst (Spells field) (sym (append-nil (take (length text) text) ∙ take_all (length text) text (omega arith))) spells });
            front = record { within = omega (arith, h.0); begins = begins (take k text) s.last s.ran; longest = no_front text k s.last s.ran h.1 };
          }
      | inr h ↦
          record {
            outside = λ field spells.
                let ended = field_run field text spells in
                let whole = take_all k text (omega (arith, h.0)) in
                let same = same_Some s.last ended.last (sym s.ran ∙ ap (run nothing 0) whole ∙ ended.ran) in
                both_ways (is_end s.last.state) h.1 (ap (λ (n : Notes). is_end n.state) same ∙ ended.end);
            front = record { within = omega (arith, h.0); begins = begins (take k text) s.last s.ran; longest = λ m lt le b. absurd (omega (arith, h.0)) };
          }
    ]

-- a text that was run to its end is in the grammar
pub some_field : (text : List ℕ) (n : Notes) → EndsWith text n → (field : Field) × Spells field text
some_field text n e =
    let t = run_back text nothing e.last 0 [] e.ran (ends_here e.last.state e.end) in
    (t.field, subst (Spells t.field) (append-nil text) t.spells)

-- and its kind and parameters are those of each reading
pub each_field : (text : List ℕ) (n : Notes) (field : Field) → EndsWith text n → Spells field text → (n.kind ≡ field.kind) × (n.done ≡ named_of field)
each_field text n field e spells =
    let ended = field_run field text spells in
    let same = same_Some e.last ended.last (sym e.ran ∙ ended.ran) in
    let all = e.same ∙ ap settled same ∙ ended.same in
    (ap (λ (x : Notes). x.kind) all, ap (λ (x : Notes). x.done) all)

-- what was noted is what the field tells
pub tells : (value : List ℕ) (n : Notes) (field : Field) (told : Disposition) → EndsWith value n → Spells field value → AreApart n.done → told.kind ≡ n.kind → (AllByRecursion IsSpelled n.done → PlainOf n.done told.plain) → (AreApart n.done → ExtendedOf n.done told.extended) → Tells field told
tells value n field told ends spells apart kind plain extended =
    let same = each_field value n field ends spells in
    record {
      apart = subst AreApart same.1 apart;
      kind = kind ∙ same.0;
      plain = subst (λ (ns : List Named). PlainOf ns told.plain) same.1 (plain (subst (AllByRecursion IsSpelled) (sym same.1) (of_spelled field spells.is)));
      extended = subst (λ (ns : List Named). ExtendedOf ns told.extended) same.1 (extended apart);
    }

pub extended_told : {E : Type 0} (ns : List Named) (text : List ℕ) (r : Result (Option (List ℕ)) E) → HasText ns (codes "filename*") text → IfOk r (MaybeExtended text) → IfOk r (λ told. AreApart ns → ExtendedOf ns told)
extended_told ns text (Ok (Some chars)) h x = λ apart. (text, h, x)
extended_told ns text (Ok None) h none = λ apart other chars g x. none chars (subst (λ (t : List ℕ). IsExtended t chars) (one_text ns (codes "filename*") other text apart g h) x)
extended_told ns text (Err e) h x = tt

-- what was refused
pub refused_answers : (value : List ℕ) (field : Field) (fault : DispFault) → Gives value (Err fault) → Spells field value → Answers field (Err fault)
refused_answers value field (NotGrammar k) h spells = (stuck_is value k h).outside field spells
refused_answers value field (Repeated place) h spells = absurd h
refused_answers value field NoMemory h spells = tt

pub refused_judges : (value : List ℕ) (fault : DispFault) → Gives value (Err fault) → Judges value (Err fault)
refused_judges value (NotGrammar k) h = stuck_is value k h
refused_judges value (Repeated place) h = absurd h
refused_judges value NoMemory h = tt
