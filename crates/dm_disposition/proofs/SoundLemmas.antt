-- What may stand behind each state, and that a byte before it leads back.
use Rattle.std.proofs.Common.{◌≡◌, ℕ, ◌+◌, Bool, true, false, cond, eqb, List, [], ◌∷◌, ◌++◌, Option, Some, None, refl, sym, ap, ◌∙◌, subst, arith}
use Rattle.std.specs.Prelude.{option_and_then}
use Rattle.std.specs.List.{flat_map, AllByRecursion}
use Rattle.std.proofs.lemmas.Bool.{eqb-true}
use Rattle.std.proofs.lemmas.Option.{same_Some}
use Rattle.dm_types.specs.Bytes.{is_blank, Each}
use Rattle.dm_disposition.specs.Bytes.{is_token_byte, is_quoted_text, is_escapable}
use Rattle.dm_disposition.specs.Grammar.{Mark, plain, escaped, mark_text, IsMark, Value, token, quoted, value_text, IsValue, Parameter, Piece, optional_text, IsOptional, piece_text, IsPiece, Field, Spells}
use Rattle.dm_disposition.specs.Machine.{between, equals, next, is_end, Notes, taken, run}
use Rattle.dm_disposition.specs.declared.state.State.{State}
use Rattle.dm_disposition.specs.declared.state.State.TheVariants.{Start, Kind, Between, Semicolon, Name, AfterName, Equals, Token, Quoted, Escaped, Closed}
use Rattle.dm_disposition.proofs.SpellLemmas.{parameter_regroup, pieces_regroup, quoted_regroup}

-- pieces, and blanks
pub record Tail (w : List ℕ) : Type 0 where
  pub pieces : List Piece
  pub back : List ℕ
  pub each : AllByRecursion IsPiece pieces
  pub blank : Each is_blank back
  pub text : w ≡ flat_map piece_text pieces ++ back

-- a run of one kind, and what follows
pub record Run (kind : ℕ → Bool) (P : List ℕ → Type 0) (w : List ℕ) : Type 0 where
  pub front : List ℕ
  pub rest : List ℕ
  pub each : Each kind front
  pub follows : P rest
  pub text : w ≡ front ++ rest

-- this byte, and what follows
pub record Then (b : ℕ) (P : List ℕ → Type 0) (w : List ℕ) : Type 0 where
  pub rest : List ℕ
  pub follows : P rest
  pub text : w ≡ b ∷ rest

pub record ValueTail (w : List ℕ) : Type 0 where
  pub value : Value
  pub rest : List ℕ
  pub is : IsValue value
  pub tail : Tail rest
  pub text : w ≡ value_text value ++ rest

pub record OptionalTail (w : List ℕ) : Type 0 where
  pub parameter : Option Parameter
  pub rest : List ℕ
  pub is : IsOptional parameter
  pub tail : Tail rest
  pub text : w ≡ optional_text parameter ++ rest

pub record MarksTail (w : List ℕ) : Type 0 where
  pub marks : List Mark
  pub rest : List ℕ
  pub each : AllByRecursion IsMark marks
  pub tail : Tail rest
  pub text : w ≡ flat_map mark_text marks ++ 34 ∷ rest

pub record EscapedTail (w : List ℕ) : Type 0 where
  pub byte : ℕ
  pub rest : List ℕ
  pub is : is_escapable byte ≡ true
  pub marks : MarksTail rest
  pub text : w ≡ byte ∷ rest

abbrev AfterTail : List ℕ → Type 0
AfterTail w = Run is_blank ValueTail w

abbrev NameTail : List ℕ → Type 0
NameTail w = Run is_blank (Then 61 AfterTail) w

pub record StartTail (w : List ℕ) : Type 0 where
  pub field : Field
  pub spells : Spells field w

abbrev pub Rests : State → List ℕ → Type 0
Rests Start w = StartTail w
Rests Kind w = Run is_token_byte Tail w
Rests Between w = Tail w
Rests Semicolon w = Run is_blank OptionalTail w
Rests Name w = Run is_token_byte NameTail w
Rests AfterName w = NameTail w
Rests Equals w = AfterTail w
Rests Token w = Run is_token_byte Tail w
Rests Quoted w = MarksTail w
Rests Escaped w = EscapedTail w
Rests Closed w = Tail w

-- ---- one byte more in front

more : (kind : ℕ → Bool) (P : List ℕ → Type 0) (c : ℕ) (w : List ℕ) → kind c ≡ true → Run kind P w → Run kind P (c ∷ w)
more kind P c w h r = record { front = c ∷ r.front; rest = r.rest; each = (h, r.each); follows = r.follows; text = ap (λ (x : List ℕ). c ∷ x) r.text }

none_yet : (kind : ℕ → Bool) (P : List ℕ → Type 0) (w : List ℕ) → P w → Run kind P w
none_yet kind P w h = record { front = []; rest = w; each = tt; follows = h; text = refl }

tail_none : Tail []
tail_none = record { pieces = []; back = []; each = tt; blank = tt; text = refl }

-- a blank before a tail belongs to it
blank_tail_by : (c : ℕ) (w : List ℕ) (pieces : List Piece) (back : List ℕ) → is_blank c ≡ true → AllByRecursion IsPiece pieces → Each is_blank back → w ≡ flat_map piece_text pieces ++ back → Tail (c ∷ w)
blank_tail_by c w [] back h each blank text = record { pieces = []; back = c ∷ back; each = tt; blank = (h, blank); text = ap (λ (x : List ℕ). c ∷ x) text }
blank_tail_by c w (p ∷ ps) back h each blank text = record {
  pieces = record p { before = c ∷ p.before } ∷ ps;
  back = back;
  each = (record { before = (h, each.0.before); after = each.0.after; parameter = each.0.parameter }, each.1);
  blank = blank;
  text = ap (λ (x : List ℕ). c ∷ x) text;
}

blank_tail : (c : ℕ) (w : List ℕ) → is_blank c ≡ true → Tail w → Tail (c ∷ w)
blank_tail c w h t = blank_tail_by c w t.pieces t.back h t.each t.blank t.text

-- a semicolon begins a piece
semicolon_tail : (w : List ℕ) → Run is_blank OptionalTail w → Tail (59 ∷ w)
semicolon_tail w r =
    let o = r.follows in
    let t = o.tail in
    record {
      pieces = record { before = []; after = r.front; parameter = o.parameter } ∷ t.pieces;
      back = t.back;
      each = (record { before = tt; after = r.each; parameter = o.is }, t.each);
      blank = t.blank;
      text =
          ap (λ (x : List ℕ). 59 ∷ x) (r.text ∙ ap (λ (x : List ℕ). r.front ++ x) (o.text ∙ ap (λ (x : List ℕ). optional_text o.parameter ++ x) t.text))
          ∙ sym (pieces_regroup (record { before = []; after = r.front; parameter = o.parameter }) t.pieces t.back);
    }

-- a tail stands where a parameter may be left out
no_parameter : (w : List ℕ) → Tail w → OptionalTail w
no_parameter w t = record { parameter = None; rest = w; is = tt; tail = t; text = refl }

-- a name and what follows it are a parameter
one_parameter : (c : ℕ) (w : List ℕ) → is_token_byte c ≡ true → Run is_token_byte NameTail w → OptionalTail (c ∷ w)
one_parameter c w h r =
    let before = r.follows in
    let after = before.follows.follows in
    let v = after.follows in
    let p : Parameter = record { name = c ∷ r.front; before = before.front; after = after.front; value = v.value } in
    record {
      parameter = Some p;
      rest = v.rest;
      is = record { name = record { each = (h, r.each); some = omega arith }; before = before.each; after = after.each; value = v.is };
      tail = v.tail;
      text =
          ap (λ (x : List ℕ). c ∷ x) (r.text ∙ ap (λ (x : List ℕ). r.front ++ x) (before.text ∙ ap (λ (x : List ℕ). before.front ++ x) (before.follows.text ∙ ap (λ (x : List ℕ). 61 ∷ x) (after.text ∙ ap (λ (x : List ℕ). after.front ++ x) v.text))))
          ∙ sym (parameter_regroup p v.rest);
    }

token_value : (c : ℕ) (w : List ℕ) → is_token_byte c ≡ true → Run is_token_byte Tail w → ValueTail (c ∷ w)
token_value c w h r = record { value = token (c ∷ r.front); rest = r.rest; is = record { each = (h, r.each); some = omega arith }; tail = r.follows; text = ap (λ (x : List ℕ). c ∷ x) r.text }

quoted_value : (w : List ℕ) → MarksTail w → ValueTail (34 ∷ w)
quoted_value w m = record { value = quoted m.marks; rest = m.rest; is = m.each; tail = m.tail; text = ap (λ (x : List ℕ). 34 ∷ x) m.text ∙ sym (quoted_regroup m.marks m.rest) }

plain_mark : (c : ℕ) (w : List ℕ) → is_quoted_text c ≡ true → MarksTail w → MarksTail (c ∷ w)
plain_mark c w h m = record { marks = plain c ∷ m.marks; rest = m.rest; each = (h, m.each); tail = m.tail; text = ap (λ (x : List ℕ). c ∷ x) m.text }

escaped_mark : (w : List ℕ) → EscapedTail w → MarksTail (92 ∷ w)
escaped_mark w e =
    let m = e.marks in
    record { marks = escaped e.byte ∷ m.marks; rest = m.rest; each = (e.is, m.each); tail = m.tail; text = ap (λ (x : List ℕ). 92 ∷ x) (e.text ∙ ap (λ (x : List ℕ). e.byte ∷ x) m.text) }

closing : (w : List ℕ) → Tail w → MarksTail (34 ∷ w)
closing w t = record { marks = []; rest = w; each = tt; tail = t; text = refl }

blank_start : (c : ℕ) (w : List ℕ) → is_blank c ≡ true → StartTail w → StartTail (c ∷ w)
blank_start c w h s =
    let f = s.field in
    record {
      field = record f { front = c ∷ f.front };
      spells = record {
        is = record { front = (h, s.spells.is.front); kind = s.spells.is.kind; pieces = s.spells.is.pieces; back = s.spells.is.back };
        text = ap (λ (x : List ℕ). c ∷ x) s.spells.text;
      };
    }

kind_start : (c : ℕ) (w : List ℕ) → is_token_byte c ≡ true → Run is_token_byte Tail w → StartTail (c ∷ w)
kind_start c w h r =
    let t = r.follows in
    record {
      field = record { front = []; kind = c ∷ r.front; pieces = t.pieces; back = t.back };
      spells = record {
        is = record { front = tt; kind = record { each = (h, r.each); some = omega arith }; pieces = t.each; back = t.blank };
        text = ap (λ (x : List ℕ). c ∷ x) (r.text ∙ ap (λ (x : List ℕ). r.front ++ x) t.text);
      };
    }

-- ---- by states

moved : (s t : State) (w : List ℕ) → ◌≡◌ {A = Option State} (Some s) (Some t) → Rests t w → Rests s w
moved s t w e r = subst (λ (x : State). Rests x w) (sym (same_Some s t e)) r

at_byte : (P : List ℕ → Type 0) (c b : ℕ) (w : List ℕ) → eqb c b ≡ true → P (b ∷ w) → P (c ∷ w)
at_byte P c b w h p = subst (λ (x : ℕ). P (x ∷ w)) (sym (eqb-true c b h)) p

back_between : (c : ℕ) (w : List ℕ) (t : State) (x y : Bool) → is_blank c ≡ x → eqb c 59 ≡ y → cond x (Some Between) (cond y (Some Semicolon) None) ≡ Some t → Rests t w → Tail (c ∷ w)
back_between c w t true y p q e r = blank_tail c w p (moved Between t w e r)
back_between c w t false true p q e r = at_byte Tail c 59 w q (semicolon_tail w (moved Semicolon t w e r))
back_between c w t false false p q e r = absurd cc

back_equals : (c : ℕ) (w : List ℕ) (t : State) (x y : Bool) → is_blank c ≡ x → eqb c 61 ≡ y → cond x (Some AfterName) (cond y (Some Equals) None) ≡ Some t → Rests t w → NameTail (c ∷ w)
back_equals c w t true y p q e r = more is_blank (Then 61 AfterTail) c w p (moved AfterName t w e r)
back_equals c w t false true p q e r = none_yet is_blank (Then 61 AfterTail) (c ∷ w) (record { rest = w; follows = moved Equals t w e r; text = ap (λ (x : ℕ). x ∷ w) (eqb-true c 61 q) })
back_equals c w t false false p q e r = absurd cc

back_start : (c : ℕ) (w : List ℕ) (t : State) (x y : Bool) → is_blank c ≡ x → is_token_byte c ≡ y → cond x (Some Start) (cond y (Some Kind) None) ≡ Some t → Rests t w → StartTail (c ∷ w)
back_start c w t true y p q e r = blank_start c w p (moved Start t w e r)
back_start c w t false true p q e r = kind_start c w q (moved Kind t w e r)
back_start c w t false false p q e r = absurd cc

back_semicolon : (c : ℕ) (w : List ℕ) (t : State) (x y z : Bool) → is_blank c ≡ x → eqb c 59 ≡ y → is_token_byte c ≡ z → cond x (Some Semicolon) (cond y (Some Semicolon) (cond z (Some Name) None)) ≡ Some t → Rests t w → Run is_blank OptionalTail (c ∷ w)
back_semicolon c w t true y z p q u e r = more is_blank OptionalTail c w p (moved Semicolon t w e r)
back_semicolon c w t false true z p q u e r = none_yet is_blank OptionalTail (c ∷ w) (no_parameter (c ∷ w) (at_byte Tail c 59 w q (semicolon_tail w (moved Semicolon t w e r))))
back_semicolon c w t false false true p q u e r = none_yet is_blank OptionalTail (c ∷ w) (one_parameter c w u (moved Name t w e r))
back_semicolon c w t false false false p q u e r = absurd cc

back_value : (c : ℕ) (w : List ℕ) (t : State) (x y z : Bool) → is_blank c ≡ x → eqb c 34 ≡ y → is_token_byte c ≡ z → cond x (Some Equals) (cond y (Some Quoted) (cond z (Some Token) None)) ≡ Some t → Rests t w → Run is_blank ValueTail (c ∷ w)
back_value c w t true y z p q u e r = more is_blank ValueTail c w p (moved Equals t w e r)
back_value c w t false true z p q u e r = none_yet is_blank ValueTail (c ∷ w) (at_byte ValueTail c 34 w q (quoted_value w (moved Quoted t w e r)))
back_value c w t false false true p q u e r = none_yet is_blank ValueTail (c ∷ w) (token_value c w u (moved Token t w e r))
back_value c w t false false false p q u e r = absurd cc

back_quoted : (c : ℕ) (w : List ℕ) (t : State) (x y z : Bool) → eqb c 34 ≡ x → eqb c 92 ≡ y → is_quoted_text c ≡ z → cond x (Some Closed) (cond y (Some Escaped) (cond z (Some Quoted) None)) ≡ Some t → Rests t w → MarksTail (c ∷ w)
back_quoted c w t true y z p q u e r = at_byte MarksTail c 34 w p (closing w (moved Closed t w e r))
back_quoted c w t false true z p q u e r = at_byte MarksTail c 92 w q (escaped_mark w (moved Escaped t w e r))
back_quoted c w t false false true p q u e r = plain_mark c w u (moved Quoted t w e r)
back_quoted c w t false false false p q u e r = absurd cc

back_escaped : (c : ℕ) (w : List ℕ) (t : State) (x : Bool) → is_escapable c ≡ x → cond x (Some Quoted) None ≡ Some t → Rests t w → EscapedTail (c ∷ w)
back_escaped c w t true p e r = record { byte = c; rest = w; is = p; marks = moved Quoted t w e r; text = refl }
back_escaped c w t false p e r = absurd cc

-- in a run of token bytes, or behind it
back_token : (P : List ℕ → Type 0) (s : State) (behind : Option State) (c : ℕ) (w : List ℕ) (t : State) (x : Bool) → (◌≡◌ {A = Option State} (Some s) (Some t) → Run is_token_byte P w) → (behind ≡ Some t → P (c ∷ w)) → is_token_byte c ≡ x → cond x (Some s) behind ≡ Some t → Run is_token_byte P (c ∷ w)
back_token P s behind c w t true same other p e = more is_token_byte P c w p (same e)
back_token P s behind c w t false same other p e = none_yet is_token_byte P (c ∷ w) (other e)

pub back : (s t : State) (c : ℕ) (w : List ℕ) → next s c ≡ Some t → Rests t w → Rests s (c ∷ w)
back Start t c w e r = back_start c w t (is_blank c) (is_token_byte c) refl refl e r
back Kind t c w e r = back_token Tail Kind (between c) c w t (is_token_byte c) (λ h. moved Kind t w h r) (λ h. back_between c w t (is_blank c) (eqb c 59) refl refl h r) refl e
back Between t c w e r = back_between c w t (is_blank c) (eqb c 59) refl refl e r
back Semicolon t c w e r = back_semicolon c w t (is_blank c) (eqb c 59) (is_token_byte c) refl refl refl e r
back Name t c w e r = back_token NameTail Name (equals c) c w t (is_token_byte c) (λ h. moved Name t w h r) (λ h. back_equals c w t (is_blank c) (eqb c 61) refl refl h r) refl e
back AfterName t c w e r = back_equals c w t (is_blank c) (eqb c 61) refl refl e r
back Equals t c w e r = back_value c w t (is_blank c) (eqb c 34) (is_token_byte c) refl refl refl e r
back Token t c w e r = back_token Tail Token (between c) c w t (is_token_byte c) (λ h. moved Token t w h r) (λ h. back_between c w t (is_blank c) (eqb c 59) refl refl h r) refl e
back Quoted t c w e r = back_quoted c w t (eqb c 34) (eqb c 92) (is_quoted_text c) refl refl refl e r
back Escaped t c w e r = back_escaped c w t (is_escapable c) refl e r
back Closed t c w e r = back_between c w t (is_blank c) (eqb c 59) refl refl e r

-- ---- by runs

state_taken : (n : Notes) (at b : ℕ) (s : State) → (taken n at b s).state ≡ s
state_taken n at b Start = refl
state_taken n at b Kind = refl
state_taken n at b Between = refl
state_taken n at b Semicolon = refl
state_taken n at b Name = refl
state_taken n at b AfterName = refl
state_taken n at b Equals = refl
state_taken n at b Token = refl
state_taken n at b Quoted = refl
state_taken n at b Escaped = refl
state_taken n at b Closed = refl

step_by : (n m : Notes) (at b : ℕ) (bs w : List ℕ) (o : Option State) → next n.state b ≡ o → option_and_then (λ s. run (taken n at b s) (at + 1) bs) o ≡ Some m → ((s : State) → run (taken n at b s) (at + 1) bs ≡ Some m → Rests (taken n at b s).state (bs ++ w)) → Rests n.state (b ∷ (bs ++ w))
step_by n m at b bs w None h e f = absurd cc
step_by n m at b bs w (Some s) h e f = back n.state s b (bs ++ w) h (subst (λ (x : State). Rests x (bs ++ w)) (state_taken n at b s) (f s e))

-- what may stand behind a run's end may stand, behind the run's bytes, behind its start
pub run_back : (bytes : List ℕ) (n m : Notes) (at : ℕ) (w : List ℕ) → run n at bytes ≡ Some m → Rests m.state w → Rests n.state (bytes ++ w)
unfolding run
run_back [] n m at w e r = subst (λ (x : Notes). Rests x.state w) (sym (same_Some n m e)) r
run_back (b ∷ bs) n m at w e r = step_by n m at b bs w (next n.state b) refl e (λ s h. run_back bs (taken n at b s) m (at + 1) w h r)

-- nothing more is wanted where a value may end
pub ends_here : (s : State) → is_end s ≡ true → Rests s []
ends_here Start e = absurd cc
ends_here Kind e = none_yet is_token_byte Tail [] tail_none
ends_here Between e = tail_none
ends_here Semicolon e = none_yet is_blank OptionalTail [] (no_parameter [] tail_none)
ends_here Name e = absurd cc
ends_here AfterName e = absurd cc
ends_here Equals e = absurd cc
ends_here Token e = none_yet is_token_byte Tail [] tail_none
ends_here Quoted e = absurd cc
ends_here Escaped e = absurd cc
ends_here Closed e = tail_none

-- something may stand behind each state: a, =a, a double quote
pub some_rest : (s : State) → (w : List ℕ) × Rests s w
some_rest Start = (97 ∷ [], kind_start 97 [] refl (none_yet is_token_byte Tail [] tail_none))
some_rest Kind = ([], ends_here Kind refl)
some_rest Between = ([], tail_none)
some_rest Semicolon = ([], ends_here Semicolon refl)
some_rest Name = (61 ∷ 97 ∷ [], none_yet is_token_byte NameTail (61 ∷ 97 ∷ []) equals_a)
  where
    equals_a : NameTail (61 ∷ 97 ∷ [])
    equals_a = none_yet is_blank (Then 61 AfterTail) (61 ∷ 97 ∷ []) (record { rest = 97 ∷ []; follows = none_yet is_blank ValueTail (97 ∷ []) (token_value 97 [] refl (none_yet is_token_byte Tail [] tail_none)); text = refl })
some_rest AfterName = (61 ∷ 97 ∷ [], none_yet is_blank (Then 61 AfterTail) (61 ∷ 97 ∷ []) (record { rest = 97 ∷ []; follows = none_yet is_blank ValueTail (97 ∷ []) (token_value 97 [] refl (none_yet is_token_byte Tail [] tail_none)); text = refl }))
some_rest Equals = (97 ∷ [], none_yet is_blank ValueTail (97 ∷ []) (token_value 97 [] refl (none_yet is_token_byte Tail [] tail_none)))
some_rest Token = ([], ends_here Token refl)
some_rest Quoted = (34 ∷ [], closing [] tail_none)
some_rest Escaped = (97 ∷ 34 ∷ [], record { byte = 97; rest = 34 ∷ []; is = refl; marks = closing [] tail_none; text = refl })
some_rest Closed = ([], tail_none)
