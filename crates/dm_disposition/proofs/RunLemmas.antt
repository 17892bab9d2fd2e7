-- Each value of the grammar is run through, and gives its kind and its parameters.
use Rattle.std.proofs.Common.{◌≡◌, ℕ, suc, ◌+◌, Bool, true, List, [], ◌∷◌, ◌++◌, length, Option, Some, None, refl, sym, ap, ◌∙◌, subst, append_assoc, arith, add-zero}
use Rattle.std.specs.Prelude.{option_and_then}
use Rattle.std.specs.List.{flat_map, AllByRecursion}
use Rattle.std.proofs.lemmas.List.{append-nil, length-append}
use Rattle.dm_types.specs.Bytes.{is_blank, Each}
use Rattle.dm_disposition.specs.Bytes.{is_token_byte, IsToken}
use Rattle.dm_disposition.specs.Grammar.{Mark, plain, escaped, mark_text, IsMark, Value, token, quoted, value_text, IsValue, Parameter, parameter_text, IsParameter, Piece, IsOptional, piece_text, IsPiece, Field, Spells}
use Rattle.dm_disposition.specs.Names.{Named, named_from, named_of}
use Rattle.dm_disposition.specs.Machine.{next, is_end, Notes, settled, taken, run, nothing}
use Rattle.dm_disposition.specs.declared.state.State.{State}
use Rattle.dm_disposition.specs.declared.state.State.TheVariants.{Start, Kind, Between, Semicolon, Name, AfterName, Equals, Token, Quoted, Escaped, Closed}
use Rattle.dm_disposition.proofs.ClassLemmas.{blank_no_token, token_no_blank, token_not, text_not}
use Rattle.dm_disposition.proofs.SpellLemmas.{parameter_regroup, pieces_regroup, quoted_regroup, marks_regroup}

abbrev pub notes : State → List ℕ → List Named → ℕ → List ℕ → List ℕ → Notes
notes s kind done place name text = record { state = s; kind = kind; done = done; place = place; name = name; text = text }

pub run_one : (n : Notes) (at b : ℕ) (w : List ℕ) (s : State) → next n.state b ≡ Some s → run n at (b ∷ w) ≡ run (taken n at b s) (at + 1) w
unfolding run
run_one n at b w s e = rw e refl

append_by : (xs : List ℕ) (n : Notes) (at x : ℕ) (ys : List ℕ) (o : Option State) → ((s : State) → run (taken n at x s) (at + 1) (xs ++ ys) ≡ option_and_then (λ m. run m ((at + 1) + length xs) ys) (run (taken n at x s) (at + 1) xs))
    → option_and_then (λ s. run (taken n at x s) (at + 1) (xs ++ ys)) o ≡ option_and_then (λ m. run m (at + suc (length xs)) ys) (option_and_then (λ s. run (taken n at x s) (at + 1) xs) o)
append_by xs n at x ys None f = refl
append_by xs n at x ys (Some s) f =
    let place : (at + 1) + length xs ≡ at + suc (length xs) = omega arith in
    subst (λ (k : ℕ). run (taken n at x s) (at + 1) (xs ++ ys) ≡ option_and_then (λ m. run m k ys) (run (taken n at x s) (at + 1) xs)) place (f s)

pub run_append : (xs : List ℕ) (n : Notes) (at : ℕ) (ys : List ℕ) → run n at (xs ++ ys) ≡ option_and_then (λ m. run m (at + length xs) ys) (run n at xs)
unfolding run
run_append [] n at ys = rw add-zero refl
run_append (x ∷ xs) n at ys = append_by xs n at x ys (next n.state x) (λ s. run_append xs (taken n at x s) (at + 1) ys)

-- a run of bytes that keeps the state, and is noted byte by byte
loop : (kind : ℕ → Bool) (s : State) (push : List ℕ → Notes) → ((xs : List ℕ) (b : ℕ) → kind b ≡ true → next (push xs).state b ≡ Some s) → ((xs : List ℕ) (at b : ℕ) → taken (push xs) at b s ≡ push (xs ++ b ∷ []))
    → (cs xs : List ℕ) (at : ℕ) (w : List ℕ) → Each kind cs → run (push xs) at (cs ++ w) ≡ run (push (xs ++ cs)) (at + length cs) w
loop kind s push goes pushes [] xs at w h = rw (append-nil, add-zero) refl
loop kind s push goes pushes (c ∷ cs) xs at w h =
    let place : (at + 1) + length cs ≡ at + suc (length cs) = omega arith in
    run_one (push xs) at c (cs ++ w) s (goes xs c h.0)
    ∙ ap (λ (m : Notes). run m (at + 1) (cs ++ w)) (pushes xs at c)
    ∙ loop kind s push goes pushes cs (xs ++ c ∷ []) (at + 1) w h.1
    ∙ ap (λ (k : ℕ). run (push ((xs ++ c ∷ []) ++ cs)) k w) place
    ∙ ap (λ (x : List ℕ). run (push x) (at + suc (length cs)) w) (append_assoc xs (c ∷ []) cs)

-- blanks that keep the state are not noted
blanks : (n : Notes) → ((b : ℕ) → is_blank b ≡ true → next n.state b ≡ Some n.state) → ((at b : ℕ) → taken n at b n.state ≡ n) → (bs : List ℕ) (at : ℕ) (w : List ℕ) → Each is_blank bs → run n at (bs ++ w) ≡ run n (at + length bs) w
blanks n goes keeps bs at w h = loop is_blank n.state (λ _. n) (λ xs b k. goes b k) (λ xs a b. keeps a b) bs [] at w h

-- ---- the state behind a kind, a semicolon or a value

abbrev IsBehind : State → Type 0
IsBehind Start = ⊥
IsBehind Kind = Unit {0}
IsBehind Between = Unit {0}
IsBehind Semicolon = Unit {0}
IsBehind Name = ⊥
IsBehind AfterName = ⊥
IsBehind Equals = ⊥
IsBehind Token = Unit {0}
IsBehind Quoted = ⊥
IsBehind Escaped = ⊥
IsBehind Closed = Unit {0}

record Behind (n : Notes) (kind : List ℕ) (done : List Named) (place : ℕ) : Type 0 where
  is : IsBehind n.state
  same : settled n ≡ notes n.state kind done place [] []

behind_semicolon : (s : State) → IsBehind s → next s 59 ≡ Some Semicolon
behind_semicolon Start h = absurd h
behind_semicolon Kind h = refl
behind_semicolon Between h = refl
behind_semicolon Semicolon h = refl
behind_semicolon Name h = absurd h
behind_semicolon AfterName h = absurd h
behind_semicolon Equals h = absurd h
behind_semicolon Token h = refl
behind_semicolon Quoted h = absurd h
behind_semicolon Escaped h = absurd h
behind_semicolon Closed h = refl

behind_end : (s : State) → IsBehind s → is_end s ≡ true
behind_end Start h = absurd h
behind_end Kind h = refl
behind_end Between h = refl
behind_end Semicolon h = refl
behind_end Name h = absurd h
behind_end AfterName h = absurd h
behind_end Equals h = absurd h
behind_end Token h = refl
behind_end Quoted h = absurd h
behind_end Escaped h = absurd h
behind_end Closed h = refl

-- what a blank makes of the notes behind a kind, a semicolon or a value
record AfterBlank (n : Notes) (at b : ℕ) (kind : List ℕ) (done : List Named) (place : ℕ) : Type 0 where
  state : State
  goes : next n.state b ≡ Some state
  made : taken n at b state ≡ notes state kind done place [] []
  behind : Behind (notes state kind done place [] []) kind done place

to_between : (n : Notes) (at b : ℕ) (kind : List ℕ) (done : List Named) (place : ℕ) → next n.state b ≡ Some Between → settled n ≡ notes n.state kind done place [] [] → AfterBlank n at b kind done place
to_between n at b kind done place e same = record {
  state = Between;
  goes = e;
  made = ap (λ (m : Notes). record m { state = Between }) same;
  behind = record { is = tt; same = refl };
}

after_blank : (n : Notes) (s : State) (at b : ℕ) (kind : List ℕ) (done : List Named) (place : ℕ) → n.state ≡ s → IsBehind s → settled n ≡ notes n.state kind done place [] [] → is_blank b ≡ true → AfterBlank n at b kind done place
after_blank n Start at b kind done place e h same k = absurd h
after_blank n Kind at b kind done place e h same k = to_between n at b kind done place (ap (λ (x : State). next x b) e ∙ rw (blank_no_token b k, k) refl) same
after_blank n Between at b kind done place e h same k = to_between n at b kind done place (ap (λ (x : State). next x b) e ∙ rw k refl) same
after_blank n Semicolon at b kind done place e h same k = record {
  state = Semicolon;
  goes = ap (λ (x : State). next x b) e ∙ rw k refl;
  made = ap (λ (m : Notes). record m { state = Semicolon }) same;
  behind = record { is = tt; same = refl };
}
after_blank n Name at b kind done place e h same k = absurd h
after_blank n AfterName at b kind done place e h same k = absurd h
after_blank n Equals at b kind done place e h same k = absurd h
after_blank n Token at b kind done place e h same k = to_between n at b kind done place (ap (λ (x : State). next x b) e ∙ rw (blank_no_token b k, k) refl) same
after_blank n Quoted at b kind done place e h same k = absurd h
after_blank n Escaped at b kind done place e h same k = absurd h
after_blank n Closed at b kind done place e h same k = to_between n at b kind done place (ap (λ (x : State). next x b) e ∙ rw k refl) same

blank_step : (n : Notes) (at b : ℕ) (kind : List ℕ) (done : List Named) (place : ℕ) (w : List ℕ) → Behind n kind done place → is_blank b ≡ true → (a : AfterBlank n at b kind done place) × (run n at (b ∷ w) ≡ run (notes a.state kind done place [] []) (at + 1) w)
blank_step n at b kind done place w behind k =
    let a = after_blank n n.state at b kind done place refl behind.is behind.same k in
    (a, run_one n at b w a.state a.goes ∙ ap (λ (m : Notes). run m (at + 1) w) a.made)

to_semicolon : (bs : List ℕ) (n : Notes) (at : ℕ) (kind : List ℕ) (done : List Named) (place : ℕ) (w : List ℕ) → Behind n kind done place → Each is_blank bs → run n at (bs ++ 59 ∷ w) ≡ run (notes Semicolon kind done place [] []) (at + (length bs + 1)) w
to_semicolon [] n at kind done place w behind h =
    run_one n at 59 w Semicolon (behind_semicolon n.state behind.is) ∙ ap (λ (m : Notes). run (record m { state = Semicolon }) (at + 1) w) behind.same
to_semicolon (b ∷ bs) n at kind done place w behind h =
    let step = blank_step n at b kind done place (bs ++ 59 ∷ w) behind h.0 in
    let place_is : (at + 1) + (length bs + 1) ≡ at + (suc (length bs) + 1) = omega arith in
    step.1 ∙ to_semicolon bs (notes step.0.state kind done place [] []) (at + 1) kind done place w step.0.behind h.1
    ∙ ap (λ (k : ℕ). run (notes Semicolon kind done place [] []) k w) place_is

-- a run to the end of a value, and what it noted
pub record Ended (n : Notes) (at : ℕ) (w kind : List ℕ) (done : List Named) : Type 0 where
  pub last : Notes
  pub ran : run n at w ≡ Some last
  pub end : is_end last.state ≡ true
  pub place : ℕ
  pub same : settled last ≡ notes last.state kind done place [] []

behind_ends : (bs : List ℕ) (n : Notes) (at : ℕ) (kind : List ℕ) (done : List Named) (place : ℕ) → Behind n kind done place → Each is_blank bs → Ended n at bs kind done
unfolding run
behind_ends [] n at kind done place behind h = record { last = n; ran = refl; end = behind_end n.state behind.is; place = place; same = behind.same }
behind_ends (b ∷ bs) n at kind done place behind h =
    let step = blank_step n at b kind done place bs behind h.0 in
    let rest = behind_ends bs (notes step.0.state kind done place [] []) (at + 1) kind done place step.0.behind h.1 in
    record { last = rest.last; ran = step.1 ∙ rest.ran; end = rest.end; place = rest.place; same = rest.same }

-- ---- a parameter

name_run : (name : List ℕ) (kind : List ℕ) (done : List Named) (place at : ℕ) (w : List ℕ) → IsToken name → run (notes Semicolon kind done place [] []) at (name ++ w) ≡ run (notes Name kind done at name []) (at + length name) w
name_run [] kind done place at w h = absurd (omega (arith, h.some))
name_run (c ∷ cs) kind done place at w h =
    let first : next Semicolon c ≡ Some Name = rw (token_no_blank c h.each.0, token_not c 59 h.each.0 refl, h.each.0) refl in
    let place_is : (at + 1) + length cs ≡ at + suc (length cs) = omega arith in
    run_one (notes Semicolon kind done place [] []) at c (cs ++ w) Name first
    ∙ loop is_token_byte Name (λ xs. notes Name kind done at (c ∷ xs) []) (λ xs b k. rw k refl) (λ xs a b. refl) cs [] (at + 1) w h.each.1
    ∙ ap (λ (k : ℕ). run (notes Name kind done at (c ∷ cs) []) k w) place_is

to_equals : (bs : List ℕ) (kind : List ℕ) (done : List Named) (place at : ℕ) (name w : List ℕ) → Each is_blank bs → run (notes Name kind done place name []) at (bs ++ 61 ∷ w) ≡ run (notes Equals kind done place name []) (at + (length bs + 1)) w
to_equals [] kind done place at name w h = run_one (notes Name kind done place name []) at 61 w Equals refl
to_equals (b ∷ bs) kind done place at name w h =
    let first : next Name b ≡ Some AfterName = rw (blank_no_token b h.0, h.0) refl in
    let place_is : ((at + 1) + length bs) + 1 ≡ at + (suc (length bs) + 1) = omega arith in
    run_one (notes Name kind done place name []) at b (bs ++ 61 ∷ w) AfterName first
    ∙ blanks (notes AfterName kind done place name []) (λ c k. rw k refl) (λ a c. refl) bs (at + 1) (61 ∷ w) h.1
    ∙ run_one (notes AfterName kind done place name []) ((at + 1) + length bs) 61 w Equals refl
    ∙ ap (λ (k : ℕ). run (notes Equals kind done place name []) k w) place_is

token_run : (bytes : List ℕ) (kind : List ℕ) (done : List Named) (place at : ℕ) (name w : List ℕ) → IsToken bytes → run (notes Equals kind done place name []) at (bytes ++ w) ≡ run (notes Token kind done place name bytes) (at + length bytes) w
token_run [] kind done place at name w h = absurd (omega (arith, h.some))
token_run (c ∷ cs) kind done place at name w h =
    let first : next Equals c ≡ Some Token = rw (token_no_blank c h.each.0, token_not c 34 h.each.0 refl, h.each.0) refl in
    let place_is : (at + 1) + length cs ≡ at + suc (length cs) = omega arith in
    run_one (notes Equals kind done place name []) at c (cs ++ w) Token first
    ∙ loop is_token_byte Token (λ xs. notes Token kind done place name (c ∷ xs)) (λ xs b k. rw k refl) (λ xs a b. refl) cs [] (at + 1) w h.each.1
    ∙ ap (λ (k : ℕ). run (notes Token kind done place name (c ∷ cs)) k w) place_is

mark_run : (m : Mark) (kind : List ℕ) (done : List Named) (place at : ℕ) (name text w : List ℕ) → IsMark m → run (notes Quoted kind done place name text) at (mark_text m ++ w) ≡ run (notes Quoted kind done place name (text ++ mark_text m)) (at + length (mark_text m)) w
mark_run (plain b) kind done place at name text w h =
    let goes : next Quoted b ≡ Some Quoted = rw (text_not b 34 h refl, text_not b 92 h refl, h) refl in
    run_one (notes Quoted kind done place name text) at b w Quoted goes
mark_run (escaped b) kind done place at name text w h =
    let goes : next Escaped b ≡ Some Quoted = rw h refl in
    let place_is : (at + 1) + 1 ≡ at + 2 = omega arith in
    run_one (notes Quoted kind done place name text) at 92 (b ∷ w) Escaped refl
    ∙ run_one (notes Escaped kind done place name (text ++ 92 ∷ [])) (at + 1) b w Quoted goes
    ∙ ap (λ (x : List ℕ). run (notes Quoted kind done place name x) ((at + 1) + 1) w) (append_assoc text (92 ∷ []) (b ∷ []))
    ∙ ap (λ (k : ℕ). run (notes Quoted kind done place name (text ++ 92 ∷ b ∷ [])) k w) place_is

marks_run : (ms : List Mark) (kind : List ℕ) (done : List Named) (place at : ℕ) (name text w : List ℕ) → AllByRecursion IsMark ms → run (notes Quoted kind done place name text) at (flat_map mark_text ms ++ w) ≡ run (notes Quoted kind done place name (text ++ flat_map mark_text ms)) (at + length (flat_map mark_text ms)) w
marks_run [] kind done place at name text w h = rw (append-nil, add-zero) refl
marks_run (m ∷ ms) kind done place at name text w h =
    let place_is : (at + length (mark_text m)) + length (flat_map mark_text ms) ≡ at + length (flat_map mark_text (m ∷ ms)) = omega (arith, length-append (mark_text m) (flat_map mark_text ms)) in
    ap (run (notes Quoted kind done place name text) at) (marks_regroup m ms w)
    ∙ mark_run m kind done place at name text (flat_map mark_text ms ++ w) h.0
    ∙ marks_run ms kind done place (at + length (mark_text m)) name (text ++ mark_text m) w h.1
    ∙ ap (λ (x : List ℕ). run (notes Quoted kind done place name x) ((at + length (mark_text m)) + length (flat_map mark_text ms)) w) (append_assoc text (mark_text m) (flat_map mark_text ms))
    ∙ ap (λ (k : ℕ). run (notes Quoted kind done place name (text ++ flat_map mark_text (m ∷ ms))) k w) place_is

-- a text that is run through, and the notes behind it
record Through (n : Notes) (at : ℕ) (text kind : List ℕ) (done : List Named) (place : ℕ) : Type 0 where
  last : Notes
  ran : (w : List ℕ) → run n at (text ++ w) ≡ run last (at + length text) w
  behind : Behind last kind done place

value_run : (v : Value) (kind : List ℕ) (done : List Named) (place at : ℕ) (name : List ℕ) → IsValue v → Through (notes Equals kind done place name []) at (value_text v) kind (done ++ record { place = place; name = name; text = value_text v } ∷ []) place
value_run (token bytes) kind done place at name h = record {
  last = notes Token kind done place name bytes;
  ran = λ w. token_run bytes kind done place at name w h;
  behind = record { is = tt; same = refl };
}
value_run (quoted ms) kind done place at name h =
    let flat = flat_map mark_text ms in
    let place_is : ((at + 1) + length flat) + 1 ≡ at + length (value_text (quoted ms)) = omega (arith, length-append flat (34 ∷ [])) in
    record {
      last = notes Closed kind done place name (34 ∷ (flat ++ 34 ∷ []));
      ran = λ w. ap (run (notes Equals kind done place name []) at) (quoted_regroup ms w)
          ∙ run_one (notes Equals kind done place name []) at 34 (flat ++ 34 ∷ w) Quoted refl
          ∙ marks_run ms kind done place (at + 1) name (34 ∷ []) (34 ∷ w) h
          ∙ run_one (notes Quoted kind done place name (34 ∷ flat)) ((at + 1) + length flat) 34 w Closed refl
          ∙ ap (λ (k : ℕ). run (notes Closed kind done place name (34 ∷ (flat ++ 34 ∷ []))) k w) place_is;
      behind = record { is = tt; same = refl };
    }

parameter_run : (p : Parameter) (kind : List ℕ) (done : List Named) (place at : ℕ) → IsParameter p → Through (notes Semicolon kind done place [] []) at (parameter_text p) kind (done ++ record { place = at; name = p.name; text = value_text p.value } ∷ []) at
parameter_run p kind done place at h =
    let a = ((at + length p.name) + (length p.before + 1)) + length p.after in
    let value = value_run p.value kind done at a p.name h.value in
    let sizes = length-append p.name (p.before ++ 61 ∷ (p.after ++ value_text p.value)) in
    let more = length-append p.before (61 ∷ (p.after ++ value_text p.value)) in
    let most = length-append p.after (value_text p.value) in
    let place_is : a + length (value_text p.value) ≡ at + length (parameter_text p) = omega arith in
    record {
      last = value.last;
      ran = λ w. ap (run (notes Semicolon kind done place [] []) at) (parameter_regroup p w)
          ∙ name_run p.name kind done place at (p.before ++ 61 ∷ (p.after ++ (value_text p.value ++ w))) h.name
          ∙ to_equals p.before kind done at (at + length p.name) p.name (p.after ++ (value_text p.value ++ w)) h.before
          ∙ blanks (notes Equals kind done at p.name []) (λ c k. rw k refl) (λ b c. refl) p.after ((at + length p.name) + (length p.before + 1)) (value_text p.value ++ w) h.after
          ∙ value.ran w
          ∙ ap (λ (k : ℕ). run value.last k w) place_is;
      behind = value.behind;
    }

-- ---- pieces

-- one piece, and what follows it
piece_ends : (before after : List ℕ) (o : Option Parameter) (ps : List Piece) (end : List ℕ) (n : Notes) (at : ℕ) (kind : List ℕ) (done : List Named) (place : ℕ) → Behind n kind done place → Each is_blank before → Each is_blank after → IsOptional o
    → ((m : Notes) (k : ℕ) (more : List Named) (q : ℕ) → Behind m kind more q → Ended m k (flat_map piece_text ps ++ end) kind (more ++ named_from k ps))
    → Ended n at (flat_map piece_text (record { before = before; after = after; parameter = o } ∷ ps) ++ end) kind (done ++ named_from at (record { before = before; after = after; parameter = o } ∷ ps))
piece_ends before after None ps end n at kind done place behind b a is follow =
    let p : Piece = record { before = before; after = after; parameter = None } in
    let k = (at + (length before + 1)) + length after in
    let size = length-append before (59 ∷ (after ++ [])) in
    let more = length-append after [] in
    let place_is : k ≡ at + length (piece_text p) = omega arith in
    let rest = follow (notes Semicolon kind done place [] []) k done place (record { is = tt; same = refl }) in
    let ran = ap (run n at) (pieces_regroup p ps end)
    ∙ to_semicolon before n at kind done place (after ++ (flat_map piece_text ps ++ end)) behind b
    ∙ blanks (notes Semicolon kind done place [] []) (λ c h. rw h refl) (λ x c. refl) after (at + (length before + 1)) (flat_map piece_text ps ++ end) a
    ∙ rest.ran in
    subst (λ (x : ℕ). Ended n at (flat_map piece_text (p ∷ ps) ++ end) kind (done ++ named_from x ps)) place_is
    (record { last = rest.last; ran = ran; end = rest.end; place = rest.place; same = rest.same })
piece_ends before after (Some q) ps end n at kind done place behind b a is follow =
    let p : Piece = record { before = before; after = after; parameter = Some q } in
    let k = (at + (length before + 1)) + length after in
    let size = length-append before (59 ∷ (after ++ parameter_text q)) in
    let more = length-append after (parameter_text q) in
    let here : k ≡ at + (length before + (1 + length after)) = omega arith in
    let behind_is : k + length (parameter_text q) ≡ at + length (piece_text p) = omega arith in
    let one : Named = record { place = k; name = q.name; text = value_text q.value } in
    let through = parameter_run q kind done place k is in
    let rest = follow through.last (k + length (parameter_text q)) (done ++ one ∷ []) k through.behind in
    let ran = ap (run n at) (pieces_regroup p ps end)
    ∙ to_semicolon before n at kind done place (after ++ (parameter_text q ++ (flat_map piece_text ps ++ end))) behind b
    ∙ blanks (notes Semicolon kind done place [] []) (λ c h. rw h refl) (λ x c. refl) after (at + (length before + 1)) (parameter_text q ++ (flat_map piece_text ps ++ end)) a
    ∙ through.ran (flat_map piece_text ps ++ end)
    ∙ rest.ran in
    let ended : Ended n at (flat_map piece_text (p ∷ ps) ++ end) kind ((done ++ one ∷ []) ++ named_from (k + length (parameter_text q)) ps) = record { last = rest.last; ran = ran; end = rest.end; place = rest.place; same = rest.same } in
    subst (λ (x : ℕ). Ended n at (flat_map piece_text (p ∷ ps) ++ end) kind (done ++ record { place = x; name = q.name; text = value_text q.value } ∷ named_from (at + length (piece_text p)) ps)) here
    (subst (λ (x : ℕ). Ended n at (flat_map piece_text (p ∷ ps) ++ end) kind (done ++ one ∷ named_from x ps)) behind_is
    (subst (λ (x : List Named). Ended n at (flat_map piece_text (p ∷ ps) ++ end) kind x) (append_assoc done (one ∷ []) (named_from (k + length (parameter_text q)) ps)) ended))

pieces_run : (ps : List Piece) (end : List ℕ) (n : Notes) (at : ℕ) (kind : List ℕ) (done : List Named) (place : ℕ) → Behind n kind done place → AllByRecursion IsPiece ps → Each is_blank end → Ended n at (flat_map piece_text ps ++ end) kind (done ++ named_from at ps)
pieces_run [] end n at kind done place behind h e = subst (λ (x : List Named). Ended n at end kind x) (sym (append-nil done)) (behind_ends end n at kind done place behind e)
pieces_run (p ∷ ps) end n at kind done place behind h e = piece_ends p.before p.after p.parameter ps end n at kind done place behind h.0.before h.0.after h.0.parameter (λ m k more q under. pieces_run ps end m k kind more q under h.1 e)

-- ---- a whole field

kind_run : (kind : List ℕ) (at : ℕ) (w : List ℕ) → IsToken kind → run nothing at (kind ++ w) ≡ run (notes Kind kind [] 0 [] []) (at + length kind) w
kind_run [] at w h = absurd (omega (arith, h.some))
kind_run (c ∷ cs) at w h =
    let first : next Start c ≡ Some Kind = rw (token_no_blank c h.each.0, h.each.0) refl in
    let place_is : (at + 1) + length cs ≡ at + suc (length cs) = omega arith in
    run_one nothing at c (cs ++ w) Kind first
    ∙ loop is_token_byte Kind (λ xs. notes Kind (c ∷ xs) [] 0 [] []) (λ xs b k. rw k refl) (λ xs a b. refl) cs [] (at + 1) w h.each.1
    ∙ ap (λ (k : ℕ). run (notes Kind (c ∷ cs) [] 0 [] []) k w) place_is

-- a value of the grammar is run to its end, and its kind and parameters are noted
pub field_run : (f : Field) (value : List ℕ) → Spells f value → Ended nothing 0 value f.kind (named_of f)
field_run f value h =
    let rest = pieces_run f.pieces f.back (notes Kind f.kind [] 0 [] []) (length f.front + length f.kind) f.kind [] 0 (record { is = tt; same = refl }) h.is.pieces h.is.back in
    let place_is : (0 + length f.front) + length f.kind ≡ length f.front + length f.kind = omega arith in
    let ran = ap (run nothing 0) h.text
    ∙ blanks nothing (λ c k. rw k refl) (λ x c. refl) f.front 0 (f.kind ++ (flat_map piece_text f.pieces ++ f.back)) h.is.front
    ∙ kind_run f.kind (0 + length f.front) (flat_map piece_text f.pieces ++ f.back) h.is.kind
    ∙ ap (λ (k : ℕ). run (notes Kind f.kind [] 0 [] []) k (flat_map piece_text f.pieces ++ f.back)) place_is
    ∙ rest.ran in
    record { last = rest.last; ran = ran; end = rest.end; place = rest.place; same = rest.same }
