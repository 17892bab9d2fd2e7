-- What a turn of a lane leaves.
use Rattle.std.proofs.Common.{◌≡◌, ◌⊎◌, inl, inr, ◌<◌, ◌≤◌, ℕ, ◌+◌, List, [], ◌++◌, true, false, length, take, Option, Some, Ok, Err, refl, sym, ◌∙◌, ap, subst, arith, length-append}
use Rattle.std.specs.Prelude.{IfSome, slice_get}
use Rattle.std.proofs.lemmas.List.{append-nil, length-take-le}
use Rattle.dm_policy.specs.declared.cause.Cause.{Cause}
use Rattle.dm_edge.specs.declared.wanted.Wanted.{Wanted}
use Rattle.dm_edge.specs.declared.wanted.Wanted.TheVariants.{Whole}
use Rattle.dm_types.specs.declared.item.Key.{Key}
use Rattle.dm_edge.specs.Wire.{Purpose, Told, stream_of}
use Rattle.dm_edge.specs.Reply.{IsWhole, ContentBroke}
use Rattle.dm_reply.specs.declared.got.Got.TheVariants.{Bytes, End}
use Rattle.dm_reply.specs.declared.body.Body.{Body}
use Rattle.dm_reply.specs.declared.body.Body.TheVariants as body
use Rattle.dm_reply.specs.Content.{EndsAll, Reader, HasRead, counted_of, first_some, framing_of}
use Rattle.dm_reply.specs.Steps.{least_of, most_of}
use Rattle.dm_reply.proofs.StreamLemmas.{content_more}
use Rattle.dm_slice.specs.declared.plan.Part.{Part}
use Rattle.dm_rounds.specs.declared.lane.Lane.{Lane}
use Rattle.dm_rounds.specs.declared.lane.Turn.{Turn}
use Rattle.dm_rounds.specs.declared.lane.Turn.TheVariants as turns
use Rattle.dm_attempt.specs.Shares.{Share, IsNext, added}
use Rattle.dm_rounds.specs.Lanes.{Brought, read, broke, GoesOn, HasGiven, LaneBroke, IsLeft, IsReady, IsFull, PieceMoves, PieceSays, StandsUnder, TurnIs, TurnSays, most_by, most_given, told_count}
use Rattle.dm_attempt.proofs.Sharing.{added_at}

-- the most of a body by what it tells
pub most_told : (b : Body) → most_of b ≡ most_by (counted_of b)
most_told (body.Counted wanted) = refl
most_told body.ToEnd = refl
most_told (body.Chunked chunks) = refl

pub most_same : (old new : Reader) → new.size ≡ old.size → counted_of new.reading.body ≡ counted_of old.reading.body → most_given new ≡ most_given old
most_same old new size counted = ap (λ (s : Option ℕ). least_of s (most_by (counted_of new.reading.body))) size ∙ ap (λ (c : Option ℕ). least_of old.size (most_by c)) counted

-- a piece ends within its part
pub piece_fits : {W : Type 0} (lane : Lane W) (room n : ℕ) → GoesOn lane → lane.at ≡ lane.part.first + lane.reader.reading.given → (lane.at < lane.part.end → lane.at + room ≤ lane.part.end)
    → n ≤ room → lane.reader.reading.given + n ≤ least_of lane.reader.size (most_of lane.reader.reading.body) → lane.at + n ≤ lane.part.end
piece_fits lane room n (inl more) at fits few most = let f = fits more in omega (arith, f, few)
piece_fits lane room n (inr ended) at fits few most =
    let m : lane.reader.reading.given + n ≤ most_given lane.reader = subst (λ (m : ℕ). lane.reader.reading.given + n ≤ least_of lane.reader.size m) (most_told lane.reader.reading.body) most in
    omega (arith, m, ended.1, at)

pub count_same : (old new : Reader) → new.size ≡ old.size → counted_of new.reading.body ≡ counted_of old.reading.body → told_count new ≡ told_count old
count_same old new size counted = ap (λ (s : Option ℕ). first_some s (counted_of new.reading.body)) size ∙ ap (λ (c : Option ℕ). first_some old.size c) counted

module _ {W : Type 0} (tells : Type 0) (made_for : W → Purpose) (told : W → Told) (key : Key) (shares : List Share) (old new : Lane W) (ready : IsReady tells made_for told key shares old) (part : new.part ≡ old.part) (wanted : new.reader.wanted ≡ old.reader.wanted)
    (stays : made_for new.wire ≡ made_for old.wire) where
  pub same_share : slice_get shares new.part.index ≡ Some ready.left.share
  same_share = subst (λ (p : Part). slice_get shares p.index ≡ Some ready.left.share) (sym part) ready.left.share_is

  -- by what it gave so far, and this more
  pub brought_by : (bytes more : List ℕ) → HasGiven key (made_for old.wire) old.reader.wanted (told new.wire).given new.reader (bytes ++ more) → Brought new.reader.wanted (stream_of (told new.wire)) bytes
  brought_by bytes more has =
      read (told new.wire).given (told new.wire).left more new.reader has.head refl (subst (λ (w : Wanted). HasRead w has.head (told new.wire).given new.reader (bytes ++ more)) (sym wanted) has.has)

  -- the piece was not landed
  pub refused_left : (n : ℕ) (buffer : List ℕ)
      → (tells → (bytes : List ℕ) → HasGiven key (made_for old.wire) old.reader.wanted (told old.wire).given old.reader bytes → PieceSays key made_for told old new (Ok (Bytes n)) buffer bytes)
      → IsLeft tells told shares new
  refused_left n buffer says = record {
    share = ready.left.share;
    share_is = same_share;
    part_is = ready.left.part_is ∙ sym part;
    brought = λ t. brought_by ready.left.share.bytes (take n buffer) (says t ready.left.share.bytes (ready.reads t));
  }

  pub broke_left : (cause : Cause) (buffer : List ℕ)
      → (tells → (bytes : List ℕ) → HasGiven key (made_for old.wire) old.reader.wanted (told old.wire).given old.reader bytes → PieceSays key made_for told old new (Err cause) buffer bytes)
      → IsLeft tells told shares new
  broke_left cause buffer says = record {
    share = ready.left.share;
    share_is = same_share;
    part_is = ready.left.part_is ∙ sym part;
    brought = λ t. broke cause (subst (λ (w : Wanted). ContentBroke w (stream_of (told new.wire)) ready.left.share.bytes cause) (sym wanted) (says t ready.left.share.bytes (ready.reads t)));
  }

  pub lane_broke : (cause : Cause) (buffer : List ℕ)
      → (tells → (bytes : List ℕ) → HasGiven key (made_for old.wire) old.reader.wanted (told old.wire).given old.reader bytes → PieceSays key made_for told old new (Err cause) buffer bytes)
      → tells → LaneBroke told shares new cause
  lane_broke cause buffer says t = record {
    share = ready.left.share;
    share_is = same_share;
    is = subst (λ (w : Wanted). ContentBroke w (stream_of (told new.wire)) ready.left.share.bytes cause) (sym wanted) (says t ready.left.share.bytes (ready.reads t));
  }

  -- the stream's head has the key
  stands_by : (bytes : List ℕ) → HasGiven key (made_for old.wire) old.reader.wanted (told new.wire).given new.reader bytes → StandsUnder key (made_for new.wire) new.reader.wanted (stream_of (told new.wire))
  stands_by bytes has =
      let framed = has.has.framed in
      subst (λ (w : Wanted). StandsUnder key (made_for new.wire) w (stream_of (told new.wire))) (sym wanted) (subst (λ (p : Purpose). StandsUnder key p old.reader.wanted (stream_of (told new.wire))) (sym stays) (record {
        tag = has.tag;
        has = record { head = has.head; framing = framing_of new.reader.reading.body; rest = framed.bytes ++ (told new.wire).left; begins = content_more framed.begins (told new.wire).left; tag_is = has.tag_is };
        key_is = has.key_is;
      }))

  -- of a whole reply of known length all was given
  all_given : EndsAll old.reader (Ok End) → new.bounded ≡ old.bounded → new.bounded ≡ true → new.reader.wanted ≡ Whole → new.part.first + length ready.left.share.bytes ≡ new.part.end
  all_given all bounded known whole =
      let tells = ready.whole (sym bounded ∙ known) (sym wanted ∙ whole) in
      let count : old.reader.reading.given ≡ tells.count = subst (λ (n : Option ℕ). IfSome n (λ m. old.reader.reading.given ≡ m)) tells.told all in
      let first_is = ap (λ (p : Part). p.first) part in
      let end_is = ap (λ (p : Part). p.end) part in
      omega (arith, count, tells.within, first_is, end_is, ready.at, ready.given, ready.within)

  pub end_full : EndsAll old.reader (Ok End) → new.bounded ≡ old.bounded → (buffer : List ℕ)
      → (tells → (bytes : List ℕ) → HasGiven key (made_for old.wire) old.reader.wanted (told old.wire).given old.reader bytes → PieceSays key made_for told old new (Ok End) buffer bytes)
      → IsFull tells made_for told key shares new
  end_full all bounded buffer says =
      let bytes = ready.left.share.bytes in
      record {
        left = record {
          share = ready.left.share;
          share_is = same_share;
          part_is = ready.left.part_is ∙ sym part;
          brought = λ t. brought_by bytes [] (subst (λ (b : List ℕ). HasGiven key (made_for old.wire) old.reader.wanted (told new.wire).given new.reader b) (sym (append-nil bytes)) (says t bytes (ready.reads t)).1);
        };
        whole = inr (λ t. subst (λ (w : Wanted). IsWhole w (stream_of (told new.wire)) bytes) (sym wanted) (says t bytes (ready.reads t)).0);
        alone = all_given all bounded;
        stands = λ t. stands_by bytes (says t bytes (ready.reads t)).1;
      }

  module _ (n room : ℕ) (buffer : List ℕ) (moves : PieceMoves old new (Ok (Bytes n)) room) (within : n ≤ length buffer) where
    -- the piece is the next one of its part
    pub piece_next : IsNext shares new.part old.at (take n buffer)
    piece_next =
        let first_is = ap (λ (p : Part). p.first) part in
        let long = length-take-le n buffer within in
        record {
          share = ready.left.share;
          is = same_share;
          part_is = ready.left.part_is ∙ sym part;
          at_is = omega (arith, ready.at, first_is);
          some = omega (arith, long, moves.0);
          fits = omega (arith, long, moves.2, moves.3);
        }

    module _ (limit : most_given new.reader ≡ most_given old.reader) (counted : told_count new.reader ≡ told_count old.reader) (bounded : new.bounded ≡ old.bounded)
        (says : tells → (bytes : List ℕ) → HasGiven key (made_for old.wire) old.reader.wanted (told old.wire).given old.reader bytes → PieceSays key made_for told old new (Ok (Bytes n)) buffer bytes) where
      abbrev pub landed_left : IsLeft tells told (added shares old.part.index (take n buffer)) new
      landed_left = record {
        share = record ready.left.share { bytes = ready.left.share.bytes ++ take n buffer };
        share_is = subst (λ (p : Part). slice_get (added shares old.part.index (take n buffer)) p.index ≡ Some (record ready.left.share { bytes = ready.left.share.bytes ++ take n buffer })) (sym part)
            (added_at shares old.part.index (take n buffer) ready.left.share ready.left.share_is);
        part_is = ready.left.part_is ∙ sym part;
        brought = λ t. brought_by (ready.left.share.bytes ++ take n buffer) []
            (subst (λ (b : List ℕ). HasGiven key (made_for old.wire) old.reader.wanted (told new.wire).given new.reader b) (sym (append-nil (ready.left.share.bytes ++ take n buffer))) (says t ready.left.share.bytes (ready.reads t)));
      }

      long : length (ready.left.share.bytes ++ take n buffer) ≡ length ready.left.share.bytes + n
      long = omega (arith, length-append ready.left.share.bytes (take n buffer), length-take-le n buffer within)

      first_is : new.part.first ≡ old.part.first
      first_is = ap (λ (p : Part). p.first) part

      end_is : new.part.end ≡ old.part.end
      end_is = ap (λ (p : Part). p.end) part

      at_is : new.at ≡ new.part.first + length (ready.left.share.bytes ++ take n buffer)
      at_is = omega (arith, long, first_is, ready.at, moves.2)

      ends : new.bounded ≡ false → new.part.first + most_given new.reader ≤ new.part.end
      ends is = let e = ready.open_end (sym bounded ∙ is) in omega (arith, e, first_is, end_is, limit)

      on_by : (new.at < new.part.end) ⊎ (new.bounded ≡ false) → GoesOn new
      on_by (inl more) = inl more
      on_by (inr is) = inr (is, ends is)

      pub landed_says : (turn : Turn) → TurnIs new turn → TurnSays tells made_for told key (added shares old.part.index (take n buffer)) new turn
      landed_says turns.More is = record {
        left = landed_left;
        at = at_is;
        within = moves.3;
        on = on_by is;
        open_end = ends;
        given = omega (arith, moves.4, ready.given, long);
        unbroken = moves.5;
        whole = λ known whole. let tells = ready.whole (sym bounded ∙ known) (sym wanted ∙ whole) in record { count = tells.count; told = counted ∙ tells.told; within = omega (arith, tells.within, first_is, end_is) };
        reads = λ t. subst (λ (p : Purpose). HasGiven key p new.reader.wanted (told new.wire).given new.reader (ready.left.share.bytes ++ take n buffer)) (sym stays)
            (subst (λ (w : Wanted). HasGiven key (made_for old.wire) w (told new.wire).given new.reader (ready.left.share.bytes ++ take n buffer)) (sym wanted) (says t ready.left.share.bytes (ready.reads t)));
      }
      landed_says turns.Whole is = record { left = landed_left; whole = inl (sym at_is ∙ is); alone = λ known whole. sym at_is ∙ is; stands = λ t. stands_by (ready.left.share.bytes ++ take n buffer) (says t ready.left.share.bytes (ready.reads t)) }
