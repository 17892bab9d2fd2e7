-- Each text has one reading.
use Rattle.std.proofs.Common.{◌≡◌, ℕ, inl, inr, List, [], ◌∷◌, ◌++◌, length, append_assoc, length-append, refl, sym, ap, ◌∙◌, subst, arith}
use Rattle.std.proofs.lemmas.List.{append-nil, append_cancel_left}
use Rattle.dm_chunk.specs.Grammar.{IsChunked}
use Rattle.dm_chunk.specs.Fronts.{GoesOn, Begins, Brings, IsFrontOf, IsBadChunked}
use Rattle.dm_chunk.specs.Laws.{Reading, is_chunked, is_front, is_bad, OneChunked, OneFront, OneBad, ChunkedNoFront, ChunkedNotBad, FrontNotBad, BadStays, ToldIsBrought}
use Rattle.dm_chunk.specs.Machine.{after, run, data_in}
use Rattle.dm_chunk.specs.Decoded.{Stands, Leads}
use Rattle.dm_chunk.specs.declared.place.Place.{Place}
use Rattle.dm_chunk.specs.declared.place.Place.TheVariants.{Digits, Blanks, Extension, LineEnd, Data, DataEnd, TrailerStart, Trailer, TrailerEnd, LastEnd, Done, Broken}
use Rattle.dm_chunk.proofs.ListLemmas.{head_is, fronts}
use Rattle.dm_chunk.proofs.Runs.{run_append, run_done}
use Rattle.dm_chunk.proofs.Texts.{start, chunked_ends, chunked_more, done_chunked, front_of, stops_at, run_after}

-- ---- chunked texts

-- two fronts that end a body, of which one begins the other, are one
one_end : (a b rest : List ℕ) → run start a ≡ Done → run start b ≡ Done → a ≡ b ++ rest → a ≡ b
one_end a b rest ran run_b e =
    let over : run Done rest ≡ Done = ap (λ (p : Place). run p rest) (sym run_b) ∙ sym (run_append b start rest) ∙ ap (run start) (sym e) ∙ ran in
    e ∙ ap (λ (x : List ℕ). b ++ x) (run_done rest over) ∙ append-nil b

pub one_chunked : OneChunked
one_chunked text content behind other later c d =
    let e = chunked_ends text content behind c in
    let f = chunked_ends text other later d in
    let both = sym e.parts ∙ f.parts in
    let same : e.front ≡ f.front =
    elim (fronts e.front behind f.front later both) [
      | inl h ↦ one_end e.front f.front h.rest e.ran f.ran h.parts
      | inr h ↦ sym (one_end f.front e.front h.rest f.ran e.ran h.parts)
    ]
    in
    (e.told ∙ ap (data_in start) same ∙ sym f.told, append_cancel_left e.front behind later (both ∙ ap (λ (x : List ℕ). x ++ later) (sym same)))

-- ---- fronts

begins_both : (a b : List ℕ) → Begins a b → Begins b a → a ≡ b
begins_both a b g h = by_rest a b g.rest h.rest g.parts h.parts
  where
    by_rest : (a b r s : List ℕ) → a ≡ b ++ r → b ≡ a ++ s → a ≡ b
    by_rest a b [] s e f = e ∙ append-nil b
    by_rest a b (x ∷ r) s e f =
        let one = ap length e ∙ length-append b (x ∷ r) in
        let two = ap length f ∙ length-append a s in
        absurd (omega arith)

pub one_front : OneFront
one_front text content other f g = begins_both content other (f.all other g.brought) (g.all content f.brought)

pub chunked_no_front : ChunkedNoFront
chunked_no_front text content behind other c f = f.unfinished content behind c

-- ---- bad texts

-- a text that goes on from the byte makes its front go on
goes_through : (text front rest more content behind : List ℕ) (b : ℕ) → text ≡ front ++ b ∷ rest → IsChunked (text ++ more) content behind → GoesOn (front ++ b ∷ [])
goes_through text front rest more content behind b e c = record {
  more = rest ++ more;
  content = content;
  after = behind;
  chunked = subst (λ (x : List ℕ). IsChunked x content behind) (ap (λ (x : List ℕ). x ++ more) e ∙ append_assoc front (b ∷ rest) more ∙ sym (append_assoc front (b ∷ []) (rest ++ more))) c;
}

pub bad_goes_not : (text content : List ℕ) → IsBadChunked text content → GoesOn text → ⊥
bad_goes_not text content b g = b.stops (goes_through text b.front b.rest g.more g.content g.after b.byte b.parts g.chunked)

pub chunked_not_bad : ChunkedNotBad
chunked_not_bad text content behind other c b =
    bad_goes_not text other b (record { more = []; content = content; after = behind; chunked = subst (λ (x : List ℕ). IsChunked x content behind) (sym (append-nil text)) c })

pub front_not_bad : FrontNotBad
front_not_bad text content other f b = bad_goes_not text other b f.goes_on

-- of two bytes with which none goes on none stands before the other
one_stop : (front other rest : List ℕ) (b : ℕ) (left more : List ℕ) → front ≡ other ++ rest → front ++ left ≡ other ++ b ∷ more → GoesOn front → (GoesOn (other ++ b ∷ []) → ⊥) → front ≡ other
one_stop front other [] b left more e both goes stops = e ∙ append-nil other
one_stop front other (x ∷ rest) b left more e both goes stops =
    let regrouped = append_cancel_left other ((x ∷ rest) ++ left) (b ∷ more) (sym (append_assoc other (x ∷ rest) left) ∙ ap (λ (v : List ℕ). v ++ left) (sym e) ∙ both) in
    let byte = head_is x b (rest ++ left) more regrouped in
    absurd (stops (goes_through front other rest goes.more goes.content goes.after b (e ∙ ap (λ (y : ℕ). other ++ y ∷ rest) byte) goes.chunked))

pub one_bad : OneBad
one_bad text content other f g =
    let both = sym f.parts ∙ g.parts in
    let same : f.front ≡ g.front =
    elim (fronts f.front (f.byte ∷ f.rest) g.front (g.byte ∷ g.rest) both) [
      | inl h ↦ one_stop f.front g.front h.rest g.byte (f.byte ∷ f.rest) g.rest h.parts both f.before.goes_on g.stops
      | inr h ↦ sym (one_stop g.front f.front h.rest f.byte (g.byte ∷ g.rest) f.rest h.parts (sym both) g.before.goes_on f.stops)
    ]
    in
    one_front g.front content other (subst (λ (x : List ℕ). IsFrontOf x content) same f.before) g.before

pub bad_more : BadStays
bad_more text content more b = record {
  front = b.front;
  byte = b.byte;
  rest = b.rest ++ more;
  parts = ap (λ (x : List ℕ). x ++ more) b.parts ∙ append_assoc b.front (b.byte ∷ b.rest) more;
  before = b.before;
  stops = b.stops;
}

-- ---- each text has a reading

run_nothing : (p : Place) → run p [] ≡ p
unfolding run
run_nothing p = refl

pub one_byte : (read : List ℕ) (b : ℕ) → run start (read ++ b ∷ []) ≡ after (run start read) b
one_byte read b = run_append read start (b ∷ []) ∙ run_after (run start read) b [] ∙ run_nothing (after (run start read) b)

-- a place is under way, whole or broken
pub data Kind (p : Place) : Type 0 where
  whole : p ≡ Done → Kind p
  broken : p ≡ Broken → Kind p
  going : (p ≡ Done → ⊥) → (p ≡ Broken → ⊥) → Kind p

pub kind_of : (p : Place) → Kind p
kind_of (Digits count size) = going (λ e. absurd cc) (λ e. absurd cc)
kind_of (Blanks size spare) = going (λ e. absurd cc) (λ e. absurd cc)
kind_of (Extension size spare) = going (λ e. absurd cc) (λ e. absurd cc)
kind_of (LineEnd size) = going (λ e. absurd cc) (λ e. absurd cc)
kind_of (Data left) = going (λ e. absurd cc) (λ e. absurd cc)
kind_of DataEnd = going (λ e. absurd cc) (λ e. absurd cc)
kind_of (TrailerStart spare) = going (λ e. absurd cc) (λ e. absurd cc)
kind_of (Trailer spare) = going (λ e. absurd cc) (λ e. absurd cc)
kind_of (TrailerEnd spare) = going (λ e. absurd cc) (λ e. absurd cc)
kind_of (LastEnd spare) = going (λ e. absurd cc) (λ e. absurd cc)
kind_of Done = whole refl
kind_of Broken = broken refl

-- a byte that leads nowhere makes a text bad
pub bad_at : (read : List ℕ) (b : ℕ) (rest : List ℕ) → (run start read ≡ Done → ⊥) → (run start read ≡ Broken → ⊥) → after (run start read) b ≡ Broken → IsBadChunked (read ++ b ∷ rest) (data_in start read)
bad_at read b rest not_done live broken_at =
    let f = front_of read not_done live in
    record { front = read; byte = b; rest = rest; parts = refl; before = f; stops = stops_at read b (data_in start read) f broken_at }

reads : (rest read : List ℕ) → (run start read ≡ Done → ⊥) → (run start read ≡ Broken → ⊥) → Reading (read ++ rest)
reads [] read not_done live = subst Reading (sym (append-nil read)) (is_front read (data_in start read) (front_of read not_done live))
reads (b ∷ rest) read not_done live =
    let regroup : (read ++ b ∷ []) ++ rest ≡ read ++ b ∷ rest = append_assoc read (b ∷ []) rest in
    let next = one_byte read b in
    elim (kind_of (after (run start read) b)) [
      | whole e ↦ subst Reading regroup (is_chunked ((read ++ b ∷ []) ++ rest) (data_in start (read ++ b ∷ [])) ([] ++ rest) (chunked_more (read ++ b ∷ []) (data_in start (read ++ b ∷ [])) [] rest (done_chunked (read ++ b ∷ []) (next ∙ e))))
      | broken e ↦ is_bad (read ++ b ∷ rest) (data_in start read) (bad_at read b rest not_done live e)
      | going f g ↦ subst Reading regroup (reads rest (read ++ b ∷ []) (λ h. f (sym next ∙ h)) (λ h. g (sym next ∙ h)))
    ]

pub some_reading_of : (text : List ℕ) → Reading text
some_reading_of text = reads text [] (λ e. not_done (sym (run_nothing start) ∙ e)) (λ e. not_broken (sym (run_nothing start) ∙ e))
  where
    not_done : start ≡ Done → ⊥
    not_done e = absurd cc

    not_broken : start ≡ Broken → ⊥
    not_broken e = absurd cc

-- ---- what a decoder told

pub brings_front : (read content : List ℕ) → IsFrontOf read content → Brings read content
brings_front read content f = f.brought

leads_brings : (read content : List ℕ) (p : Place) → (p ≡ Done → ⊥) → (p ≡ Broken → ⊥) → Leads read content p → Brings read content
leads_brings read content p not_done live l =
    let f = front_of read (λ e. not_done (l.here ∙ e)) (λ e. live (l.here ∙ e)) in
    subst (Brings read) (sym l.brought) f.brought

done_brings : (read content : List ℕ) → IsChunked read content [] → Brings read content
done_brings read content c more other behind d =
    let one = one_chunked (read ++ more) content more other behind (chunked_more read content [] more c) d in
    record { rest = []; parts = sym one.0 ∙ sym (append-nil content) }

bad_brings : (read content : List ℕ) → IsBadChunked read content → Brings read content
bad_brings read content b more other behind d = absurd (bad_goes_not read content b (record { more = more; content = other; after = behind; chunked = d }))

stands_brings : (p : Place) (read content : List ℕ) → Stands read content p → Brings read content
stands_brings (Digits count size) read content s = leads_brings read content (Digits count size) (λ e. absurd cc) (λ e. absurd cc) s
stands_brings (Blanks size spare) read content s = leads_brings read content (Blanks size spare) (λ e. absurd cc) (λ e. absurd cc) s
stands_brings (Extension size spare) read content s = leads_brings read content (Extension size spare) (λ e. absurd cc) (λ e. absurd cc) s
stands_brings (LineEnd size) read content s = leads_brings read content (LineEnd size) (λ e. absurd cc) (λ e. absurd cc) s
stands_brings (Data left) read content s = leads_brings read content (Data left) (λ e. absurd cc) (λ e. absurd cc) s
stands_brings DataEnd read content s = leads_brings read content DataEnd (λ e. absurd cc) (λ e. absurd cc) s
stands_brings (TrailerStart spare) read content s = leads_brings read content (TrailerStart spare) (λ e. absurd cc) (λ e. absurd cc) s
stands_brings (Trailer spare) read content s = leads_brings read content (Trailer spare) (λ e. absurd cc) (λ e. absurd cc) s
stands_brings (TrailerEnd spare) read content s = leads_brings read content (TrailerEnd spare) (λ e. absurd cc) (λ e. absurd cc) s
stands_brings (LastEnd spare) read content s = leads_brings read content (LastEnd spare) (λ e. absurd cc) (λ e. absurd cc) s
stands_brings Done read content s = done_brings read content s
stands_brings Broken read content s = bad_brings read content s

pub told_brought : ToldIsBrought
told_brought read content chunks h = stands_brings chunks.place read content h.stands
