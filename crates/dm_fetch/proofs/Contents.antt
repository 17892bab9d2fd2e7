-- What a served attempt landed is of one content, where a stated digest is that of one: and so is the sum of all that came.
use Rattle.std.proofs.Common.{◌≡◌, ◌≢◌, ◌⊎◌, inl, inr, ◌<◌, ◌≤◌, ℕ, ◌+◌, ◌-◌, ◌^◌, suc, zero, true, List, [], ◌∷◌, ◌++◌, length, map, Option, Some, None, refl, sym, ◌∙◌, ap, subst, arith, append_assoc}
use Rattle.std.specs.Prelude.{IfSome, slice_get, take}
use Rattle.sha2.specs.Sha256.{sha256}
use Rattle.std.specs.List.{Contains}
use Rattle.std.proofs.lemmas.Bool.{false≢true}
use Rattle.std.proofs.lemmas.List.Elements.{Contains-append_left, Contains-append_right}
use Rattle.std.proofs.lemmas.Option.{none-some, same_Some, slice_get_within}
use Rattle.dm_types.specs.declared.address.Address.{Address}
use Rattle.dm_types.specs.declared.item.Item.{Item}
use Rattle.dm_types.specs.declared.item.Key.{Key}
use Rattle.dm_types.specs.declared.kinds.DiskKind.{DiskKind}
use Rattle.dm_types.specs.declared.slices.Slice.{Slice}
use Rattle.dm_disk_model.specs.Disk.{History as Clock}
use Rattle.dm_request.specs.Request.{request_of}
use Rattle.dm_slice.specs.Cover.{normal_of}
use Rattle.dm_slice.specs.Plan.{open_part}
use Rattle.dm_slice.specs.Words.{IsFull, cover_end, end_of}
use Rattle.dm_slice.specs.declared.plan.Part.{Part}
use Rattle.dm_slice.proofs.Rounds.{open-some}
use Rattle.dm_edge.specs.declared.framing.Framing.{Framing}
use Rattle.dm_edge.specs.declared.framing.Framing.TheVariants as framings
use Rattle.dm_edge.specs.declared.wanted.Wanted.{Wanted}
use Rattle.dm_edge.specs.declared.wanted.Wanted.TheVariants as wants
use Rattle.dm_edge.specs.Begins.{told_total}
use Rattle.dm_edge.specs.Fair.{ask_of, first_of}
use Rattle.dm_edge.specs.Reply.{EndsWhole, IsFramedFront, IsWhole}
use Rattle.dm_edge.specs.Wire.{Closed, Purpose}
use Rattle.dm_head.specs.Laws.{Content}
use Rattle.dm_head.proofs.Outcomes.{one_outcome}
use Rattle.dm_reply.specs.declared.head.Head.{Head}
use Rattle.dm_reply.proofs.Outcomes.{whole_alone, whole_broke, whole_front}
use Rattle.dm_reply.proofs.Said.{front_of}
use Rattle.dm_reply.proofs.StreamLemmas.{front_more}
use Rattle.dm_item.specs.Fields.{no_bytes}
use Rattle.dm_item.specs.History.{get}
use Rattle.dm_item.specs.Lawful.{History}
use Rattle.dm_item.specs.Restored.{IsSound}
use Rattle.dm_kept.specs.Files.{Says}
use Rattle.dm_store.specs.declared.pass.Pass.{Pass}
use Rattle.dm_answers.specs.Finish.{HasSum}
use Rattle.dm_attempt.specs.Asking.{Asking, WantedBy}
use Rattle.dm_attempt.specs.Brought.{AreOf, HasCover, RoundsOf, SharesOf}
use Rattle.dm_attempt.specs.Heads.{SaysHead}
use Rattle.dm_attempt.specs.Scene.{Scene, begun_by, cover_by, told_by}
use Rattle.dm_attempt.specs.Shares.{Share}
use Rattle.dm_attempt.specs.Shows.{total_by}
use Rattle.dm_attempt.specs.Trace.{ArePlanned, Carried, IsRound, Round, Tale, Trace, connections_of, cover_of, filled, wires_of}
use Rattle.dm_rounds.specs.First.{IsReplyOf, IsTaleOf, IsTold, ToldRounds, first_asking}
use Rattle.dm_rounds.specs.Lanes.{Brought, IsRead, StandsUnder, broke, read}
use Rattle.dm_rounds.specs.Trail.{AreRead, WasRead, kept_asking}
use Rattle.dm_rounds.proofs.Ends.{find, same_share}
use Rattle.dm_fetch.specs.Attempts.{Asks, AsksAnew, anew, nothing, on}
use Rattle.dm_fetch.specs.Completes.{IsOf, IsOneContent}
use Rattle.dm_fetch.specs.Serves.{BringsAll, Serves, ServesWhole}
use Rattle.dm_fetch.proofs.Asked.{begun_bare}
use Rattle.dm_fetch.proofs.Known.{AsksKnown, Knows, knows_behind, wanted_known}
use Rattle.dm_fetch.proofs.Served.{content_alone}
use Rattle.dm_fetch.proofs.Sources.{first_knows, kept_knows}
use Rattle.dm_fetch.proofs.Whole.{IsSingle, all_by, contains_wire, single_cover}

-- the first bytes of a list are at their places
front_at : (front rest : List ℕ) (k byte : ℕ) → slice_get front k ≡ Some byte → slice_get (front ++ rest) k ≡ Some byte
front_at [] rest k byte at = absurd (none-some byte at)
front_at (x ∷ front) rest zero byte at = at
front_at (x ∷ front) rest (suc k) byte at = front_at front rest k byte at

-- both have the same byte at this place
record Agree (bytes content : List ℕ) (place : ℕ) : Type 0 where
  byte : ℕ
  there : slice_get bytes place ≡ Some byte
  is : slice_get content place ≡ Some byte

-- where both agree below the content's length, it is the front of the other
taken : (total : ℕ) (bytes content : List ℕ) → total ≡ length content → ((place : ℕ) → place < total → Agree bytes content place) → take total bytes ≡ content
taken zero bytes [] long agree = refl
taken zero bytes (y ∷ content) long agree = absurd (omega (arith, long))
taken (suc n) bytes [] long agree = absurd (omega (arith, long))
taken (suc n) [] (y ∷ content) long agree = let first = agree 0 (omega arith) in absurd (none-some first.byte first.there)
taken (suc n) (x ∷ bytes) (y ∷ content) long agree =
    let first = agree 0 (omega arith) in
    let same : x ≡ y = same_Some x first.byte first.there ∙ sym (same_Some y first.byte first.is) in
    ap (λ (h : ℕ). h ∷ take n bytes) same ∙ ap (λ (l : List ℕ). y ∷ l) (taken n bytes content (omega (arith, long)) (λ place below. let next = agree (suc place) (omega (arith, below)) in record { byte = next.byte; there = next.there; is = next.is }))

-- and the content goes at least so far
reached : (total : ℕ) (bytes content : List ℕ) → ((place : ℕ) → place < total → Agree bytes content place) → total ≤ length content
reached zero bytes content agree = omega arith
reached (suc n) bytes content agree = let last = agree n (omega arith) in let within = slice_get_within content n last.byte last.is in omega (arith, within)

-- what a stream brought of its whole content is the front of it
brought_front : (wanted : Wanted) (stream content bytes : List ℕ) → IsWhole wanted stream content → Brought wanted stream bytes → (rest : List ℕ) × (content ≡ bytes ++ rest)
brought_front wanted stream content bytes whole (read given rest more reader head parts has) =
    let all = whole_front wanted stream content (bytes ++ more) whole
    (front_of wanted head stream (bytes ++ more) reader.size has.sized (subst (λ (s : List ℕ). IsFramedFront wanted head s (bytes ++ more)) (sym parts) (front_more has.framed.front rest))) in
    (more ++ all.0, all.1 ∙ append_assoc bytes more all.0)
brought_front wanted stream content bytes whole (broke cause is) = whole_broke wanted stream content bytes cause whole is

-- what is brought of a wanted content is the content's, from the first wanted place on
placed : (content : List ℕ) (wanted : Wanted) (bytes : List ℕ) → IsOf content wanted bytes → AreOf content (first_of wanted) bytes
placed content wants.Whole bytes is = λ k byte at. subst (λ (n : ℕ). slice_get content n ≡ Some byte) (omega arith) (subst (λ (l : List ℕ). slice_get l k ≡ Some byte) is at)
placed content (wants.Part first last tag total) bytes is = is

-- a content that comes whole behind a told length has it
counted : (framing : Framing) (rest content : List ℕ) (n : ℕ) → told_total framing ≡ Some n → EndsWhole framing rest content → length content ≡ n
counted framings.Chunked rest content n told whole = absurd (none-some n told)
counted (framings.Counted count) rest content n told whole = whole.2 ∙ same_Some count n told
counted framings.ToEnd rest content n told whole = absurd (none-some n told)

-- so the whole content of a reply, whose head tells its length
told_length : (stream content : List ℕ) (told : Head) (n : ℕ) → told.total ≡ Some n → SaysHead stream told → IsWhole wants.Whole stream content → length content ≡ n
told_length stream content told n total says whole =
    let w = whole.all in
    let same = one_outcome wants.Whole stream (Content says.head says.framing says.rest) (Content whole.head w.framing w.rest) says.begins w.begins in
    let framing : says.framing ≡ w.framing = cc in
    counted w.framing w.rest content n (ap told_total (sym framing) ∙ sym says.total_is ∙ total) w.whole

-- no content is longer than one may be
whole_limit : (stream content : List ℕ) → IsWhole wants.Whole stream content → length content ≤ 2 ^ 40
whole_limit stream content whole = whole.all.limit

module _ {D : Type 0} (clock : D → Clock) (disk : D) (net : Type 0) (t : net) (item : Item) (list : History) (connections : List Closed) (serves : ServesWhole item list connections) (digest : List ℕ) (one : IsOneContent clock disk item list connections digest) where
  -- a reply whose head is one of content brings it whole
  content_served : (wanted : Wanted) (at : Address) (stream : List ℕ) (key : Key) (purpose : Purpose) → StandsUnder key purpose wanted stream → Serves wanted at stream → BringsAll wanted stream
  content_served wants.Whole at stream key purpose stands (inl brings) = brings
  content_served wants.Whole at stream key purpose stands (inr leads) = absurd (content_alone stream stands.has.head stands.has.framing stands.has.rest leads.redirects.head leads.location stands.has.begins leads.redirects.begins)
  content_served (wants.Part first last tag total) at stream key purpose stands serves_part = serves_part.brings

  reply_all : (c : Closed) (told : Head) → SaysHead c.stream told → Serves wants.Whole c.purpose.address c.stream → BringsAll wants.Whole c.stream
  reply_all c told says (inl brings) = brings
  reply_all c told says (inr leads) = absurd (content_alone c.stream says.head says.framing says.rest leads.redirects.head leads.location says.begins leads.redirects.begins)

  module _ (asking : Asking) (knows : AsksKnown item list asking) (shares : List Share) (c : Carried) (is : IsRead net asking shares c) (among : Contains connections c.connection) where
    -- the stream of a connection that a part was read from is whole
    all_of : BringsAll c.wanted c.connection.stream
    all_of =
        content_served c.wanted c.connection.purpose.address c.connection.stream asking.key c.connection.purpose (is.stands t)
        (serves.each c.connection c.wanted among (wanted_known item list asking knows c.part c.wanted c.connection.purpose (is.asked.purpose_is t) is.asked.wanted_is) (is.asked.sent_is t))

    -- and what it brings is of the content
    all_is : IsOf one.content c.wanted all_of.content
    all_is = one.each c.connection c.wanted among (wanted_known item list asking knows c.part c.wanted c.connection.purpose (is.asked.purpose_is t) is.asked.wanted_is) (is.asked.sent_is t) all_of.content all_of.whole

    landed_front : (rest : List ℕ) × (all_of.content ≡ is.share.bytes ++ rest)
    landed_front = brought_front c.wanted c.connection.stream all_of.content is.share.bytes all_of.whole (is.brought t)

    -- and so what was landed of the part is
    share_of : AreOf one.content is.share.part.first is.share.bytes
    share_of =
        let first : first_of c.wanted ≡ is.share.part.first = is.asked.first_is ∙ ap (λ (p : Part). p.first) (sym is.part_is) in
        subst (λ (n : ℕ). AreOf one.content n is.share.bytes) first
        (λ k byte at. placed one.content c.wanted all_of.content all_is k byte (subst (λ (l : List ℕ). slice_get l k ≡ Some byte) (sym landed_front.1) (front_at is.share.bytes landed_front.0 k byte at)))

    -- of a content of unknown length all was landed that the first reply brings
    whole_landed : c.wanted ≡ wants.Whole → (is.share.part.first + length is.share.bytes ≡ 2 ^ 40) ⊎ (net → IsWhole c.wanted c.connection.stream is.share.bytes) → length one.content ≤ is.share.part.first + length is.share.bytes
    whole_landed whole (inl full) =
        let own : all_of.content ≡ one.content = subst (λ (w : Wanted). IsOf one.content w all_of.content) whole all_is in
        let most = whole_limit c.connection.stream all_of.content (subst (λ (w : Wanted). IsWhole w c.connection.stream all_of.content) whole all_of.whole) in
        let long = ap (λ (l : List ℕ). length l) own in
        omega (arith, full, most, long)
    whole_landed whole (inr ended) =
        let own : is.share.bytes ≡ all_of.content = whole_alone.one_content c.wanted c.connection.stream is.share.bytes all_of.content (ended t) all_of.whole in
        let same : all_of.content ≡ one.content = subst (λ (w : Wanted). IsOf one.content w all_of.content) whole all_is in
        let long = ap (λ (l : List ℕ). length l) (own ∙ same) in
        omega (arith, long)

  round_of : (round : Round) → AsksKnown item list round.asking → WasRead net round → ((c : Carried) → Contains round.wires c → Contains connections c.connection) → SharesOf one.content round.shares
  round_of round knows was among = all_by (λ (share : Share). AreOf one.content share.part.first share.bytes) round.shares (λ n share at.
      let once = was.once n (slice_get_within round.shares n share at) in
      let found = find (IsRead net round.asking round.shares) round.wires n (omega (arith, once)) was.all in
      let same : found.holds.share ≡ share = same_share round.shares n found.holds.share share (subst (λ (m : ℕ). slice_get round.shares m ≡ Some found.holds.share) found.number found.holds.share_is) at in
      subst (λ (s : Share). AreOf one.content s.part.first s.bytes) same (share_of round.asking knows round.shares found.c found.holds (among found.c found.among)))

  -- all that was landed in rounds that were read is of the content
  rounds_of : (first : Asking) (rounds : List Round) → AsksKnown item list first → AreRead net first rounds → ((c : Closed) → Contains (wires_of rounds) c → Contains connections c) → RoundsOf one.content rounds
  rounds_of first [] knows are among = tt
  rounds_of first (round ∷ older) knows are among =
      let own = map (λ (w : Carried). w.connection) round.wires in (
        round_of round (subst (AsksKnown item list) (sym are.0) (knows_behind item list first older knows)) are.1 (λ c of. among c.connection (Contains-append_right (wires_of older) own c.connection (contains_wire round.wires c of))),
        rounds_of first older knows are.2 (λ c of. among c (Contains-append_left (wires_of older) own c of)),
      )

  -- Of a content of unknown length the oldest round brought all.
  module _ (first : Asking) (knows : AsksKnown item list first) (served : first.served ≡ true) (n least : ℕ) where
    abbrev so_far : List Round → List Slice
    so_far rounds = cover_of no_bytes None n least rounds

    first_wanted : (c : Carried) → WantedBy first c.part c.wanted → c.part.index ≡ 0 → c.wanted ≡ wants.Whole
    first_wanted c (inl whole) zeroth = whole.2
    first_wanted c (inr (inl other, range)) zeroth = absurd (false≢true (sym other ∙ served))
    first_wanted c (inr (inr other, range)) zeroth = absurd (other zeroth)

    -- the one part of the oldest round
    oldest_by : (round : Round) → round.asking ≡ first → WasRead net round → ((c : Carried) → Contains round.wires c → Contains connections c.connection) → (shares : List Share) → round.shares ≡ shares
        → map (λ (share : Share). share.part) shares ≡ record { index = 0; first = 0; end = 2 ^ 40 } ∷ [] → length one.content ≤ cover_end (filled no_bytes shares)
    oldest_by round asking_is was among [] is parts = absurd cc
    oldest_by round asking_is was among (share ∷ more) is parts =
        let part : share.part ≡ record { index = 0; first = 0; end = 2 ^ 40 } = cc in
        let own : AsksKnown item list round.asking = subst (AsksKnown item list) (sym asking_is) knows in
        let at : slice_get round.shares 0 ≡ Some share = ap (λ (l : List Share). slice_get l 0) is in
        let once = was.once 0 (slice_get_within round.shares 0 share at) in
        let found = find (IsRead net round.asking round.shares) round.wires 0 (omega (arith, once)) was.all in
        let same : found.holds.share ≡ share = same_share round.shares 0 found.holds.share share (subst (λ (m : ℕ). slice_get round.shares m ≡ Some found.holds.share) found.number found.holds.share_is) at in
        let wanted : found.c.wanted ≡ wants.Whole = first_wanted found.c (subst (λ (a : Asking). WantedBy a found.c.part found.c.wanted) asking_is found.holds.asked.wanted_is) found.number in
        let end : found.holds.share.part.end ≡ 2 ^ 40 = ap (λ (s : Share). s.part.end) same ∙ ap (λ (p : Part). p.end) part in
        let begin : found.holds.share.part.first ≡ 0 = ap (λ (s : Share). s.part.first) same ∙ ap (λ (p : Part). p.first) part in
        let long : length found.holds.share.bytes ≡ length share.bytes = ap (λ (s : Share). length s.bytes) same in
        let enough = whole_landed round.asking own round.shares found.c found.holds (among found.c found.among) wanted (subst (λ (e : ℕ). (found.holds.share.part.first + length found.holds.share.bytes ≡ e) ⊎ (net → IsWhole found.c.wanted found.c.connection.stream found.holds.share.bytes)) end found.holds.whole) in
        omega (arith, enough, begin, long)

    grown_end : (slice : Slice) (shares : List Share) → slice.first ≡ 0 → end_of slice ≤ cover_end (filled (normal_of None (slice ∷ [])) shares)
    grown_end slice [] begin = omega arith
    grown_end slice (share ∷ more) begin = omega arith

    -- a later round loses nothing
    later_end : (cover : List Slice) (shares : List Share) → IsSingle cover → cover_end cover ≤ cover_end (filled (normal_of None cover) shares)
    later_end cover shares single =
        let grown = grown_end single.0 shares single.2 in
        subst (λ (c : List Slice). cover_end c ≤ cover_end (filled (normal_of None c) shares)) (sym single.1) (omega (arith, grown))

    oldest_whole : (round : Round) → round.asking ≡ first → WasRead net round → ((c : Carried) → Contains round.wires c → Contains connections c.connection) → IsRound None n least no_bytes round → length one.content ≤ cover_end (filled (normal_of None round.cover) round.shares)
    oldest_whole round asking_is was among planned =
        subst (λ (c : List Slice). length one.content ≤ cover_end (filled (normal_of None c) round.shares)) (sym planned.cover_is)
        (oldest_by round asking_is was among round.shares refl (planned.parts_are ∙ ap (λ (c : List Slice). open_part (normal_of None c)) planned.cover_is ∙ open-some no_bytes (omega arith)))

    all_whole : (round : Round) (older : List Round) → AreRead net first (round ∷ older) → ArePlanned no_bytes None n least (round ∷ older) → ((c : Closed) → Contains (wires_of (round ∷ older)) c → Contains connections c) → length one.content ≤ cover_end (so_far (round ∷ older))
    all_whole round [] are planned among = oldest_whole round are.0 are.1 (λ c of. among c.connection (contains_wire round.wires c of)) planned.0
    all_whole round (next ∷ older) are planned among =
        let own = map (λ (w : Carried). w.connection) round.wires in
        let before = all_whole next older are.2 planned.1 (λ c of. among c (Contains-append_left (wires_of (next ∷ older)) own c of)) in
        let after = later_end (so_far (next ∷ older)) round.shares (single_cover no_bytes n least (next ∷ older) (_, refl, refl) planned.1) in
        subst (λ (c : List Slice). length one.content ≤ cover_end (filled (normal_of None c) round.shares)) (sym planned.0.cover_is) (omega (arith, before, after))

-- The sum of what came, where the part has the content's byte at each place of a full cover.
sum_by : (content : List ℕ) (file : Option (List ℕ)) (cover : List Slice) (total : ℕ) (have : List ℕ) → IsFull total cover → HasCover content cover file → HasSum file total have → length content ≤ total → have ≡ sha256 content
sum_by content file cover total have full has sum enough =
    let agree : (place : ℕ) → place < total → Agree sum.bytes content place = λ place below.
    let at = has place (full place below) in
    let same : at.bytes ≡ sum.bytes = same_Some at.bytes sum.bytes (sym at.reads ∙ sum.there) in
    record { byte = at.byte; there = subst (λ (l : List ℕ). slice_get l place ≡ Some at.byte) same at.there; is = at.is } in
    let most = reached total sum.bytes content agree in
    sum.sum_is ∙ ap sha256 (taken total sum.bytes content (omega (arith, enough, most)) agree)

module _ {D O : Type 0} (net : Type 0) (t : net) (tells : Type 0) (clock : D → Clock) (says : O → Says) (far : D → ℕ) (counts : D → DiskKind → ℕ) (scene : Scene D O) (pass : Pass) (slices : ℕ) (trace : Trace) (list : History) (knows : Knows scene trace list) (sound : IsSound scene.item)
    (serves : ServesWhole (begun_by scene) list (connections_of trace)) (digest : List ℕ) (one : IsOneContent clock scene.start.disk (begun_by scene) list (connections_of trace) digest) (some : trace.rounds ≢ [])
    (planned : ArePlanned (begun_by scene).slices (told_by scene trace.told).total trace.count scene.start.limits.min_slice trace.rounds) where
  among_all : (c : Closed) → Contains (wires_of trace.rounds) c → Contains (connections_of trace) c
  among_all c of = Contains-append_right trace.led (wires_of trace.rounds ++ trace.lost) c (Contains-append_left (wires_of trace.rounds) trace.lost c of)

  -- What is known of rounds that were read whole: what was landed is of the content, and no more of it is to come.
  record IsBrought : Type 0 where
    rounds : RoundsOf one.content trace.rounds
    enough : length one.content ≤ total_by scene trace

  total_known : (n : ℕ) → (told_by scene trace.told).total ≡ Some n → n ≡ length one.content → length one.content ≤ total_by scene trace
  total_known n known same = let total : total_by scene trace ≡ n = ap (λ (found : Option ℕ). get found (cover_end (cover_by scene trace))) known in omega (arith, total, same)

  anew_brought : (asks : AsksAnew tells clock says far counts net scene pass slices (AreRead net) trace) → (told : Option Tale) → trace.told ≡ told → IsBrought
  anew_brought asks None is = absurd (some (subst (λ (d : Option Tale). ToldRounds (AreRead net) pass d trace.rounds) is asks.rounds))
  anew_brought asks (Some tale) is = record { rounds = rounds_of clock scene.start.disk net t (begun_by scene) list (connections_of trace) serves digest one first trace.rounds own are among_all; enough = by tale.total refl }
    where
      first : Asking
      first = first_asking pass tale

      own : AsksKnown (begun_by scene) list first
      own = first_knows scene pass trace list knows tale is

      are : AreRead net first trace.rounds
      are = subst (λ (d : Option Tale). ToldRounds (AreRead net) pass d trace.rounds) is asks.rounds

      total : (told_by scene trace.told).total ≡ tale.total
      total = ap (λ (d : Option Tale). (told_by scene d).total) is

      tale_is : IsTold tells clock net asks.desk pass asks.first (begun_by scene).wish slices trace tale
      tale_is = subst (λ (d : Option Tale). IfSome d (IsTold tells clock net asks.desk pass asks.first (begun_by scene).wish slices trace)) is asks.fresh.told

      reply : IsReplyOf pass (begun_by scene).wish trace tale_is.wish
      reply = subst (λ (w : Option (List ℕ)). IfSome w (IsReplyOf pass (begun_by scene).wish trace)) tale_is.wish_is (asks.replied t)

      -- the length that the first reply tells is the content's
      reply_length : (n : ℕ) → tale.total ≡ Some n → n ≡ length one.content
      reply_length n is_n =
          let c = reply.has.connection in
          let sent : c.sent ≡ request_of c.purpose.address (ask_of wants.Whole) = reply.has.sent ∙ ap (λ (p : Purpose). request_of p.address None) (sym reply.has.purpose_is) in
          let head : tale.head ≡ reply.head = (subst (λ (d : Option Tale). IfSome d (IsTaleOf reply.head reply.address)) is reply.told).head_is in
          let all = reply_all clock scene.start.disk net t (begun_by scene) list (connections_of trace) serves digest one c reply.head reply.has.says (serves.each c wants.Whole reply.has.among tt sent) in
          let same : all.content ≡ one.content = one.each c wants.Whole reply.has.among tt sent all.content all.whole in
          sym (ap (λ (l : List ℕ). length l) (sym same) ∙ told_length c.stream all.content reply.head n (ap (λ (h : Head). h.total) (sym head) ∙ sym tale_is.total_is ∙ is_n) reply.has.says all.whole)

      by : (found : Option ℕ) → tale.total ≡ found → length one.content ≤ total_by scene trace
      by (Some n) known = total_known n (total ∙ known) (reply_length n known)
      by None untold =
          let none : (told_by scene trace.told).total ≡ None = total ∙ untold in
          let bare = (begun_bare scene.item scene.by scene.at sound asks.none).0 in
          let plan : ArePlanned no_bytes None trace.count scene.start.limits.min_slice trace.rounds =
          subst (λ (s : List Slice). ArePlanned s None trace.count scene.start.limits.min_slice trace.rounds) bare
          (subst (λ (found : Option ℕ). ArePlanned (begun_by scene).slices found trace.count scene.start.limits.min_slice trace.rounds) none planned) in
          let cover : cover_by scene trace ≡ cover_of no_bytes None trace.count scene.start.limits.min_slice trace.rounds =
          ap (λ (s : List Slice). cover_of s (told_by scene trace.told).total trace.count scene.start.limits.min_slice trace.rounds) bare
          ∙ ap (λ (found : Option ℕ). cover_of no_bytes found trace.count scene.start.limits.min_slice trace.rounds) none in
          let whole = unknown_whole trace.rounds refl are plan among_all in
          let end : total_by scene trace ≡ cover_end (cover_of no_bytes None trace.count scene.start.limits.min_slice trace.rounds) =
          ap (λ (found : Option ℕ). get found (cover_end (cover_by scene trace))) none ∙ ap cover_end cover in
          omega (arith, whole, end)
        where
          unknown_whole : (rounds : List Round) → trace.rounds ≡ rounds → AreRead net first rounds → ArePlanned no_bytes None trace.count scene.start.limits.min_slice rounds → ((c : Closed) → Contains (wires_of rounds) c → Contains (connections_of trace) c)
              → length one.content ≤ cover_end (cover_of no_bytes None trace.count scene.start.limits.min_slice rounds)
          unknown_whole [] empty read_all plan among = absurd (some empty)
          unknown_whole (round ∷ older) are_these read_all plan among =
              all_whole clock scene.start.disk net t (begun_by scene) list (connections_of trace) serves digest one first own refl trace.count scene.start.limits.min_slice round older read_all plan among

  on_brought : Asks tells clock says far counts net scene pass slices (AreRead net) trace → IsBrought
  on_brought (nothing asks) = absurd (some asks.rounds)
  on_brought (anew asks) = anew_brought asks trace.told refl
  on_brought (on asks) =
      let total : (told_by scene trace.told).total ≡ Some asks.source.total = ap (λ (d : Option Tale). (told_by scene d).total) asks.told ∙ asks.is.total_is in
      record {
        rounds = rounds_of clock scene.start.disk net t (begun_by scene) list (connections_of trace) serves digest one (kept_asking pass asks.source) trace.rounds (kept_knows scene pass trace list asks.source asks.is) asks.rounds among_all;
        enough = total_known asks.source.total total (subst (λ (found : Option ℕ). IfSome found (λ n. n ≡ length one.content)) asks.is.total_is one.total);
      }

  -- All came, and all rounds were read whole. So the sum is the stated one, where the part reads what was saved and landed.
  pub sum_stated : (file : Option (List ℕ)) (have : List ℕ) → Asks tells clock says far counts net scene pass slices (AreRead net) trace → IsFull (total_by scene trace) (cover_by scene trace) → HasSum file (total_by scene trace) have
      → (RoundsOf one.content trace.rounds → HasCover one.content (cover_by scene trace) file) → have ≡ digest
  sum_stated file have asks full sum covers =
      let brought = on_brought asks in
      sum_by one.content file (cover_by scene trace) (total_by scene trace) have full (covers brought.rounds) sum brought.enough ∙ sym one.sum
