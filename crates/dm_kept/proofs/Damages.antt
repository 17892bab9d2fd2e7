-- A journal that is taken isn't damaged, and the place of the damage is one.
use Rattle.std.proofs.Common.{◌≡◌, ◌⊎◌, inl, inr, ℕ, List, [], ◌∷◌, ◌++◌, length, reverse, refl, sym, ◌∙◌, ap, subst, append_assoc}
use Rattle.std.proofs.lemmas.List.{reverse-append}
use Rattle.dm_types.specs.declared.entry.Entry.{Entry}
use Rattle.dm_record.specs.Spelling.{spelling_of}
use Rattle.dm_record.specs.Limits.{IsEntry}
use Rattle.dm_item.specs.Lawful.{History, IsLawfulBack}
use Rattle.dm_journal.specs.Text.{front}
use Rattle.dm_journal.proofs.Texts as texts
use Rattle.dm_kept.specs.Damage.{IsDamage, IsRefused}
use Rattle.dm_kept.specs.Room.{HadRoomBack, IsTaken, MayFollow}
use Rattle.dm_kept.specs.Spelled.{AllEntries, IsJournalOf, bodies_of}
use Rattle.dm_kept.proofs.Histories.{reverse_push, same_entry}

-- the longer history goes on behind the shorter one with an entry that has this body
record Goes (short long : History) (body : List ℕ) : Type 0 where
  entry : Entry
  rest : History
  whole : long ≡ short ++ entry ∷ rest
  is : body ≡ spelling_of entry
  entry_is : IsEntry entry

heads : {A : Type 0} (a b : A) (x y : List A) → a ∷ x ≡ b ∷ y → a ≡ b
heads a b x y same = cc

tails : {A : Type 0} (a b : A) (x y : List A) → a ∷ x ≡ b ∷ y → x ≡ y
tails a b x y same = cc

goes_more : (first second : Entry) (short long : History) (body : List ℕ) → first ≡ second → Goes short long body → Goes (first ∷ short) (second ∷ long) body
goes_more first second short long body same goes = record {
  entry = goes.entry;
  rest = goes.rest;
  whole = let whole = goes.whole in cc;
  is = goes.is;
  entry_is = goes.entry_is;
}

goes : (short long : History) (body : List ℕ) (later : List (List ℕ)) → AllEntries short → AllEntries long → bodies_of long ≡ bodies_of short ++ body ∷ later → Goes short long body
goes [] [] body later is_short is_long same = absurd cc
goes [] (second ∷ long) body later is_short is_long same =
    record { entry = second; rest = long; whole = refl; is = sym (heads (spelling_of second) body (bodies_of long) later same); entry_is = is_long.0 }
goes (first ∷ short) [] body later is_short is_long same = absurd cc
goes (first ∷ short) (second ∷ long) body later is_short is_long same =
    goes_more first second short long body
    (same_entry first second is_short.0 is_long.0 (sym (heads (spelling_of second) (spelling_of first) (bodies_of long) (bodies_of short ++ body ∷ later) same)))
    (goes short long body later is_short.1 is_long.1 (tails (spelling_of second) (spelling_of first) (bodies_of long) (bodies_of short ++ body ∷ later) same))

compared : (a b : History) (body other : List ℕ) (x y : List (List ℕ)) → AllEntries a → AllEntries b → bodies_of a ++ body ∷ x ≡ bodies_of b ++ other ∷ y
    → (a ≡ b) ⊎ (Goes a b body ⊎ Goes b a other)
compared [] [] body other x y is_a is_b same = inl refl
compared [] (second ∷ b) body other x y is_a is_b same =
    inr (inl (record { entry = second; rest = b; whole = refl; is = heads body (spelling_of second) x (bodies_of b ++ other ∷ y) same; entry_is = is_b.0 }))
compared (first ∷ a) [] body other x y is_a is_b same =
    inr (inr (record { entry = first; rest = a; whole = refl; is = sym (heads (spelling_of first) other (bodies_of a ++ body ∷ x) y same); entry_is = is_a.0 }))
compared (first ∷ a) (second ∷ b) body other x y is_a is_b same =
    let head : first ≡ second =
    same_entry first second is_a.0 is_b.0 (heads (spelling_of first) (spelling_of second) (bodies_of a ++ body ∷ x) (bodies_of b ++ other ∷ y) same) in
    by_rest head (compared a b body other x y is_a.1 is_b.1 (tails (spelling_of first) (spelling_of second) (bodies_of a ++ body ∷ x) (bodies_of b ++ other ∷ y) same))
  where
    by_rest : first ≡ second → (a ≡ b) ⊎ (Goes a b body ⊎ Goes b a other) → (first ∷ a ≡ second ∷ b) ⊎ (Goes (first ∷ a) (second ∷ b) body ⊎ Goes (second ∷ b) (first ∷ a) other)
    by_rest head (inl equal) = inl cc
    by_rest head (inr (inl longer)) = inr (inl (goes_more first second a b body head longer))
    by_rest head (inr (inr shorter)) = inr (inr (goes_more second first b a other (sym head) shorter))

-- what holds of a history holds of its older part
older_lawful : (newer older : List Entry) → IsLawfulBack (newer ++ older) → IsLawfulBack older
older_lawful [] older is = is
older_lawful (entry ∷ newer) older is = older_lawful newer older is.1

older_room : (limit : ℕ) (newer older : List Entry) → HadRoomBack limit (newer ++ older) → HadRoomBack limit older
older_room limit [] older had = had
older_room limit (entry ∷ newer) older had = older_room limit newer older had.1

turned : (short : History) (entry : Entry) (rest : History) → reverse (short ++ entry ∷ rest) ≡ reverse rest ++ (entry ∷ reverse short)
turned short entry rest =
    ap reverse (sym (append_assoc short (entry ∷ []) rest))
    ∙ reverse-append (short ++ entry ∷ []) rest
    ∙ ap (λ (back : List Entry). reverse rest ++ back) (reverse_push short entry)

-- an entry of a history that is taken may follow those before it
pub follows_in : (limit : ℕ) (short : History) (entry : Entry) (rest : History) → IsTaken limit (short ++ entry ∷ rest) → MayFollow limit short entry
follows_in limit short entry rest taken = record {
  room = (older_room limit (reverse rest) (entry ∷ reverse short) (subst (HadRoomBack limit) (turned short entry rest) taken.room)).0;
  meets = (older_lawful (reverse rest) (entry ∷ reverse short) (subst IsLawfulBack (turned short entry rest) taken.lawful)).0;
}

not_refused : (limit : ℕ) (short long : History) (body : List ℕ) → Goes short long body → IsTaken limit long → IsRefused limit short body → ⊥
not_refused limit short long body longer taken refused =
    refused longer.entry longer.entry_is longer.is (follows_in limit short longer.entry longer.rest (subst (IsTaken limit) longer.whole taken))

-- a journal that is taken isn't damaged
pub never_both : (limit place : ℕ) (bytes : List ℕ) (history : History) → IsJournalOf history bytes → IsTaken limit history → IsDamage limit bytes place → ⊥
never_both limit place bytes history is taken (inl damaged) = texts.never_both (bodies_of history) bytes place is.text damaged
never_both limit place bytes history is taken (inr spoiled) =
    let same = texts.journal_unique (bodies_of history) (bodies_of spoiled.history ++ spoiled.body ∷ spoiled.later) bytes is.text spoiled.text in
    not_refused limit spoiled.history history spoiled.body (goes spoiled.history history spoiled.body spoiled.later spoiled.entries is.entries same) taken spoiled.refused

-- the place of the damage is one
pub one_place : (limit a b : ℕ) (bytes : List ℕ) → IsDamage limit bytes a → IsDamage limit bytes b → a ≡ b
one_place limit a b bytes (inl first) (inl second) = texts.damage_unique bytes a b first second
one_place limit a b bytes (inl first) (inr second) = absurd (texts.never_both (bodies_of second.history ++ second.body ∷ second.later) bytes a second.text first)
one_place limit a b bytes (inr first) (inl second) = absurd (texts.never_both (bodies_of first.history ++ first.body ∷ first.later) bytes b first.text second)
one_place limit a b bytes (inr first) (inr second) =
    by_order (compared first.history second.history first.body second.body first.later second.later first.entries second.entries
    (texts.journal_unique (bodies_of first.history ++ first.body ∷ first.later) (bodies_of second.history ++ second.body ∷ second.later) bytes first.text second.text))
  where
    by_order : (first.history ≡ second.history) ⊎ (Goes first.history second.history first.body ⊎ Goes second.history first.history second.body) → a ≡ b
    by_order (inl same) = first.at ∙ ap (λ (h : History). length (front (bodies_of h))) same ∙ sym second.at
    by_order (inr (inl longer)) = absurd (not_refused limit first.history second.history first.body longer second.taken first.refused)
    by_order (inr (inr shorter)) = absurd (not_refused limit second.history first.history second.body shorter first.taken second.refused)
