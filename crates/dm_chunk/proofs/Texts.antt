-- What a run over a text says of the text.
use Rattle.std.proofs.Common.{◌≡◌, ℕ, zero, suc, ◌⊎◌, inl, inr, List, [], ◌∷◌, ◌++◌, append_assoc, refl, sym, ap, ◌∙◌, subst, arith}
use Rattle.std.proofs.lemmas.List.{append-nil, append_cancel_left}
use Rattle.dm_chunk.specs.Grammar.{body_text, IsChunked}
use Rattle.dm_chunk.specs.Fronts.{GoesOn, Begins, IsFrontOf}
use Rattle.dm_chunk.specs.Machine.{after, run, data_in}
use Rattle.dm_chunk.specs.declared.place.Place.{Place}
use Rattle.dm_chunk.specs.declared.place.Place.TheVariants.{Digits, Done, Broken}
use Rattle.dm_chunk.proofs.ListLemmas.{head_is, tail_is, fronts}
use Rattle.dm_chunk.proofs.Places.{IsWhole, From}
use Rattle.dm_chunk.proofs.Bodies.{digits_of_whole, whole_of_digits}
use Rattle.dm_chunk.proofs.Back.{Sound}
use Rattle.dm_chunk.proofs.Runs.{run_append, data_append, run_sound, run_forward, run_back, run_broken, run_done_or, ends_from, copies, some_from}

abbrev pub start : Place
start = Digits 0 0

start_sound : Sound start
start_sound = (omega arith, omega arith)

-- the run over a front ends the body, and the rest is what follows it
pub record Ends (text content after : List ℕ) : Type 0 where
  pub front : List ℕ
  pub parts : text ≡ front ++ after
  pub ran : run start front ≡ Done
  pub told : content ≡ data_in start front

whole_run : (w content : List ℕ) → IsWhole w content → (run start w ≡ Done) × (content ≡ data_in start w)
whole_run w content h =
    let f : From start w content = digits_of_whole w content h in
    let goes = run_forward w start [] content (subst (λ (x : List ℕ). From start x content) (sym (append-nil w)) f) in
    let ended = ends_from (run start w) goes.rest goes.follows in
    (ended.0, goes.joined ∙ ap (λ (x : List ℕ). data_in start w ++ x) ended.1 ∙ append-nil (data_in start w))

pub chunked_ends : (text content behind : List ℕ) → IsChunked text content behind → Ends text content behind
chunked_ends text content behind c =
    let w = body_text c.body in
    let ran = whole_run w content (record { body = c.body; is = c.is; parts = refl; joined = c.joined }) in
    record { front = w; parts = c.parts; ran = ran.0; told = ran.1 }

whole_chunked : (w content behind : List ℕ) → IsWhole w content → IsChunked (w ++ behind) content behind
whole_chunked w content behind h = record { body = h.body; is = h.is; parts = ap (λ (x : List ℕ). x ++ behind) h.parts; joined = h.joined }

-- a text that leads to a place, and what may stand behind it
from_chunked : (read w content : List ℕ) → From (run start read) w content → IsChunked (read ++ w) (data_in start read ++ content) []
from_chunked read w content f =
    let h = whole_of_digits (read ++ w) (data_in start read ++ content) (run_back read start w content start_sound f) in
    subst (λ (x : List ℕ). IsChunked x (data_in start read ++ content) []) (append-nil (read ++ w)) (whole_chunked (read ++ w) (data_in start read ++ content) [] h)

pub done_chunked : (read : List ℕ) → run start read ≡ Done → IsChunked read (data_in start read) []
done_chunked read e =
    let f : From (run start read) [] [] = subst (λ (p : Place). From p [] []) (sym e) (refl, refl) in
    subst (λ (x : List ℕ). IsChunked x (data_in start read) []) (append-nil read)
    (subst (λ (x : List ℕ). IsChunked (read ++ []) x []) (append-nil (data_in start read)) (from_chunked read [] [] f))

-- what follows a whole text is free
pub chunked_more : (text content behind more : List ℕ) → IsChunked text content behind → IsChunked (text ++ more) content (behind ++ more)
chunked_more text content behind more c = record {
  body = c.body;
  is = c.is;
  parts = ap (λ (x : List ℕ). x ++ more) c.parts ∙ append_assoc (body_text c.body) behind more;
  joined = c.joined;
}

pub run_after : (p : Place) (b : ℕ) (rest : List ℕ) → run p (b ∷ rest) ≡ run (after p b) rest
unfolding run
run_after p b rest = refl

-- ---- fronts

-- a front that ends the body leaves no other place
ended_before : (read front rest : List ℕ) → run start front ≡ Done → read ≡ front ++ rest → (run start read ≡ Done) ⊎ (run start read ≡ Broken)
ended_before read front rest ran e =
    let over : run start read ≡ run Done rest = ap (run start) e ∙ run_append front start rest ∙ ap (λ (p : Place). run p rest) ran in
    elim (run_done_or rest) [ inl h ↦ inl (over ∙ h) | inr h ↦ inr (over ∙ h) ]

-- what begins as two texts do that go apart behind a list begins the list
common : (d f : List ℕ) (n m : ℕ) → Begins (d ++ copies n 0) f → Begins (d ++ copies m 1) f → Begins d f
common d [] n m g h = record { rest = d; parts = refl }
common [] (x ∷ f) n m g h = absurd (two_bytes n m x f g.rest h.rest g.parts h.parts)
  where
    two_bytes : (n m x : ℕ) (f r s : List ℕ) → copies n 0 ≡ x ∷ (f ++ r) → copies m 1 ≡ x ∷ (f ++ s) → ⊥
    two_bytes zero m x f r s e g = absurd cc
    two_bytes (suc n) zero x f r s e g = absurd cc
    two_bytes (suc n) (suc m) x f r s e g =
        let zero_is = head_is 0 x (copies n 0) (f ++ r) e in
        let one_is = head_is 1 x (copies m 1) (f ++ s) g in
        absurd (omega arith)
common (y ∷ d) (x ∷ f) n m g h =
    let first : Begins (d ++ copies n 0) f = record { rest = g.rest; parts = tail_is y x (d ++ copies n 0) (f ++ g.rest) g.parts } in
    let second : Begins (d ++ copies m 1) f = record { rest = h.rest; parts = tail_is y x (d ++ copies m 1) (f ++ h.rest) h.parts } in
    let both = common d f n m first second in
    record { rest = both.rest; parts = ap (λ (z : ℕ). z ∷ d) (head_is y x (d ++ copies n 0) (f ++ g.rest) g.parts) ∙ ap (λ (z : List ℕ). x ∷ z) both.parts }

pub front_of : (read : List ℕ) → (run start read ≡ Done → ⊥) → (run start read ≡ Broken → ⊥) → IsFrontOf read (data_in start read)
front_of read not_done live =
    let sound = run_sound read start start_sound in
    let one = some_from (run start read) 0 sound live in
    let two = some_from (run start read) 1 sound live in
    let first = from_chunked read one.w (copies one.count 0) one.follows in
    let second = from_chunked read two.w (copies two.count 1) two.follows in
    record {
      goes_on = record { more = one.w; content = data_in start read ++ copies one.count 0; after = []; chunked = first };
      unfinished = λ whole behind c.
          let e = chunked_ends read whole behind c in
          elim (ended_before read e.front behind e.ran e.parts) [ inl h ↦ not_done h | inr h ↦ live h ];
      brought = λ more content behind c.
          let e = chunked_ends (read ++ more) content behind c in
          elim (fronts read more e.front behind e.parts) [
            | inl h ↦ absurd (elim (ended_before read e.front h.rest e.ran h.parts) [ inl g ↦ not_done g | inr g ↦ live g ])
            | inr h ↦ record { rest = data_in (run start read) h.rest; parts = e.told ∙ ap (data_in start) h.parts ∙ data_append read start h.rest }
          ];
      all = λ front brings_it. common (data_in start read) front one.count two.count (brings_it one.w (data_in start read ++ copies one.count 0) [] first) (brings_it two.w (data_in start read ++ copies two.count 1) [] second);
    }

-- no chunked text goes on with a byte that leads nowhere
pub stops_at : (read : List ℕ) (b : ℕ) (content : List ℕ) → IsFrontOf read content → after (run start read) b ≡ Broken → GoesOn (read ++ b ∷ []) → ⊥
stops_at read b content f broken g =
    let e = chunked_ends ((read ++ b ∷ []) ++ g.more) g.content g.after g.chunked in
    let parts = sym (append_assoc read (b ∷ []) g.more) ∙ e.parts in
    elim (fronts read (b ∷ g.more) e.front g.after parts) [
      | inl h ↦ f.unfinished (data_in start e.front) h.rest (early e.front h.rest h.parts e.ran)
      | inr h ↦ later e.front h.rest h.parts e.ran (append_cancel_left read (b ∷ g.more) (h.rest ++ g.after) (parts ∙ ap (λ (x : List ℕ). x ++ g.after) h.parts ∙ append_assoc read h.rest g.after))
    ]
  where
    early : (front rest : List ℕ) → read ≡ front ++ rest → run start front ≡ Done → IsChunked read (data_in start front) rest
    early front rest e ran = subst (λ (x : List ℕ). IsChunked x (data_in start front) rest) (sym e) (chunked_more front (data_in start front) [] rest (done_chunked front ran))

    later : (front rest : List ℕ) → front ≡ read ++ rest → run start front ≡ Done → b ∷ g.more ≡ rest ++ g.after → ⊥
    later front [] e ran same = f.unfinished (data_in start read) [] (done_chunked read (ap (run start) (sym (append-nil read) ∙ sym e) ∙ ran))
    later front (x ∷ rest) e ran same =
        let byte = head_is b x g.more (rest ++ g.after) same in
        let over = ap (run start) e ∙ run_append read start (x ∷ rest) ∙ run_after (run start read) x rest
        ∙ ap (λ (y : ℕ). run (after (run start read) y) rest) (sym byte) ∙ ap (λ (p : Place). run p rest) broken ∙ run_broken rest in
        let wrong : Done ≡ Broken = sym ran ∙ over in
        absurd cc
