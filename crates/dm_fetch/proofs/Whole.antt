-- Where all is served, each round that was read brought all of its parts, and so the rounds aren't used up.
use Rattle.std.proofs.Common.{◌≡◌, inl, inr, ◌<◌, ◌≤◌, ℕ, ◌+◌, ◌-◌, ◌^◌, suc, zero, true, List, [], ◌∷◌, ◌++◌, length, map, Option, Some, None, refl, sym, ◌∙◌, ap, subst, arith}
use Rattle.std.specs.Prelude.{IfSome, slice_get}
use Rattle.std.specs.List.{AllByRecursion, Contains}
use Rattle.std.proofs.lemmas.List.{get_or-map, length-map}
use Rattle.std.proofs.lemmas.List.Elements.{Contains-append_left, Contains-append_right}
use Rattle.std.proofs.lemmas.Option.{none-some, same_Some, slice_get_within}
use Rattle.dm_types.specs.declared.item.Item.{Item}
use Rattle.dm_types.specs.declared.slices.Slice.{Slice}
use Rattle.dm_edge.specs.Reply.{IsWhole}
use Rattle.dm_edge.specs.Wire.{Closed}
use Rattle.dm_edge.specs.declared.wanted.Wanted.{Wanted}
use Rattle.dm_item.specs.History.{get}
use Rattle.dm_item.specs.Lawful.{History}
use Rattle.dm_policy.specs.declared.cause.Cause.{Cause}
use Rattle.dm_reply.proofs.Outcomes.{whole_alone}
use Rattle.dm_slice.specs.Cover.{IsCover, normal_of}
use Rattle.dm_slice.specs.Words.{IsFirstMissing, IsWithin, cover_end}
use Rattle.dm_slice.specs.declared.plan.Part.{Part}
use Rattle.dm_answers.specs.Plan.{last_round}
use Rattle.dm_attempt.specs.Asking.{Asking, IsRangeOf, WantedBy, range_of}
use Rattle.dm_attempt.specs.Scene.{Scene, begun_by, told_by}
use Rattle.dm_attempt.specs.Shares.{Share}
use Rattle.dm_attempt.specs.Trace.{ArePlanned, Carried, Round, Trace, connections_of, cover_of, filled, wires_of}
use Rattle.dm_rounds.specs.Lanes.{IsRead}
use Rattle.dm_rounds.specs.Trail.{AreCut, AreRead, AreUsedUp, WasRead, asking_behind}
use Rattle.dm_rounds.proofs.Ends.{find, same_share}
use Rattle.dm_fetch.specs.Serves.{BringsPart, Serves, ServesWhole}
use Rattle.dm_fetch.proofs.Fewer.{IsLanded, IsLandedRound, never_missing, parts_of}
use Rattle.dm_fetch.proofs.Known.{AsksKnown, knows_behind, range_known}

-- what holds of each element, by its place
pub all_by : {X : Type 0} (P : X → Type 0) (xs : List X) → ((n : ℕ) (x : X) → slice_get xs n ≡ Some x → P x) → AllByRecursion P xs
all_by P [] each = tt
all_by P (x ∷ xs) each = (each 0 x refl, all_by P xs (λ n y at. each (suc n) y at))

part_at : (P : Part → Type 0) (shares : List Share) (n : ℕ) (share : Share) → AllByRecursion P (parts_of shares) → slice_get shares n ≡ Some share → P share.part
part_at P [] n share all at = absurd (none-some share at)
part_at P (first ∷ shares) zero share all at = let same : first ≡ share = same_Some first share at in subst (λ (s : Share). P s.part) same all.0
part_at P (first ∷ shares) (suc n) share all at = part_at P shares n share all.1 at

pub contains_wire : (wires : List Carried) (c : Carried) → Contains wires c → Contains (map (λ (w : Carried). w.connection) wires) c.connection
contains_wire wires c among = (among.0, omega (arith, among.1, length-map wires (λ (w : Carried). w.connection)), get_or-map (λ (w : Carried). w.connection) wires among.0 c c.connection among.1 ∙ ap (λ (w : Carried). w.connection) among.2)

module _ (net : Type 0) (t : net) (item : Item) (list : History) (connections : List Closed) (serves : ServesWhole item list connections) where
  -- so many bytes as the asked part has
  ranged : (asking : Asking) (knows : AsksKnown item list asking) (shares : List Share) (c : Carried) (is : IsRead net asking shares c) → Contains connections c.connection → c.part.first < c.part.end → IsRangeOf asking.source c.part c.wanted
      → IsWhole c.wanted c.connection.stream is.share.bytes → IsLanded is.share
  ranged asking knows shares c is among some range whole =
      let stream = c.connection.stream in
      let asked = range_of range.of c.part in
      let served : BringsPart c.part.first (c.part.end - 1) asked stream = subst (λ (w : Wanted). Serves w c.connection.purpose.address stream) range.asked_is (serves.each c.connection c.wanted among (range_known item list asking knows c.part c.wanted c.connection.purpose (is.asked.purpose_is t) range) (is.asked.sent_is t)) in
      let own : IsWhole asked stream is.share.bytes = subst (λ (w : Wanted). IsWhole w stream is.share.bytes) range.asked_is whole in
      let same = ap (λ (l : List ℕ). length l) (whole_alone.one_content asked stream is.share.bytes served.brings.content own served.brings.whole) in
      let long : length served.brings.content ≡ c.part.end - 1 - c.part.first + 1 = served.long in
      subst (λ (p : Part). p.first + length is.share.bytes ≡ p.end) (sym is.part_is) (omega (arith, same, long, some))

  -- a part that was read from a served connection was landed whole
  read_landed : (asking : Asking) (knows : AsksKnown item list asking) (shares : List Share) (c : Carried) (is : IsRead net asking shares c) → Contains connections c.connection → asking.known ≡ true → c.part.first < c.part.end → IsLanded is.share
  read_landed asking knows shares c is among known some = by is.asked.wanted_is
    where
      by : WantedBy asking c.part c.wanted → IsLanded is.share
      by (inl first) = is.alone first.2 known
      by (inr range) = elim is.whole [ inl all ↦ all | inr ended ↦ ranged asking knows shares c is among some range.1 (ended t) ]

  -- and so each part of the round
  round_landed : (round : Round) → AsksKnown item list round.asking → WasRead net round → round.asking.known ≡ true → ((c : Carried) → Contains round.wires c → Contains connections c.connection) → IsLandedRound round
  round_landed round knows was known among places = all_by IsLanded round.shares (λ n share at.
      let once = was.once n (slice_get_within round.shares n share at) in
      let found = find (IsRead net round.asking round.shares) round.wires n (omega (arith, once)) was.all in
      let same : found.holds.share ≡ share = same_share round.shares n found.holds.share share (subst (λ (m : ℕ). slice_get round.shares m ≡ Some found.holds.share) found.number found.holds.share_is) at in
      let some : share.part.first < share.part.end = part_at (λ (p : Part). p.first < p.end) round.shares n share places at in
      let own : found.c.part.first < found.c.part.end = subst (λ (p : Part). p.first < p.end) (ap (λ (s : Share). s.part) (sym same) ∙ found.holds.part_is) some in
      subst IsLanded same (read_landed round.asking knows round.shares found.c found.holds (among found.c found.among) known own))

  known_behind : (first : Asking) (rounds : List Round) → first.known ≡ true → (asking_behind first rounds).known ≡ true
  known_behind first [] known = known
  known_behind first (round ∷ older) known = known

  -- of all rounds that were read
  all_landed : (first : Asking) (rounds : List Round) → AsksKnown item list first → first.known ≡ true → AreRead net first rounds → ((c : Closed) → Contains (wires_of rounds) c → Contains connections c) → AllByRecursion IsLandedRound rounds
  all_landed first [] knows known read among = tt
  all_landed first (round ∷ older) knows known read among =
      let own = map (λ (w : Carried). w.connection) round.wires in (
        round_landed round (subst (AsksKnown item list) (sym read.0) (knows_behind item list first older knows)) read.1 (ap (λ (a : Asking). a.known) read.0 ∙ known_behind first older known) (λ c of. among c.connection (Contains-append_right (wires_of older) own c.connection (contains_wire round.wires c of))),
        all_landed first older knows known read.2 (λ c of. among c (Contains-append_left (wires_of older) own c of)),
      )

-- Of an unknown length the cover is one slice, which begins at the first place: nothing below its end is missing.

abbrev pub IsSingle : List Slice → Type 0
IsSingle slices = (slice : Slice) × (slices ≡ slice ∷ []) × (slice.first ≡ 0)

single_filled : (slice : Slice) (shares : List Share) → slice.first ≡ 0 → IsSingle (filled (normal_of None (slice ∷ [])) shares)
single_filled slice [] first = (_, refl, first)
single_filled slice (share ∷ shares) first = (_, refl, first)

pub single_cover : (start : List Slice) (n least : ℕ) (rounds : List Round) → IsSingle start → ArePlanned start None n least rounds → IsSingle (cover_of start None n least rounds)
single_cover start n least [] single planned = single
single_cover start n least (round ∷ older) single planned =
    let was = single_cover start n least older single planned.1 in
    subst (λ (c : List Slice). IsSingle (filled (normal_of None c) round.shares)) (sym (planned.0.cover_is ∙ was.1)) (single_filled was.0 round.shares was.2)

single_whole : (slices : List Slice) (place : ℕ) → IsSingle slices → IsFirstMissing (cover_end slices) slices place → ⊥
single_whole slices place single missing =
    let m = subst (λ (s : List Slice). IsFirstMissing (cover_end s) s place) single.1 missing in
    let first = single.2 in
    let w = m.within in
    m.missing (inl (omega (arith, first), omega (arith, first, w.1)))

-- What the start of an attempt has, where its total is known, and where it isn't.
pub record StartsWell (total : Option ℕ) (start : List Slice) : Type 0 where
  pub single : total ≡ None → IsSingle start
  pub cover : IsCover start
  pub few : length start ≤ 64
  pub within : IfSome total (λ t. IsWithin t start)
  pub small : IfSome total (λ t. t ≤ 2 ^ 40)

module _ {D O : Type 0} (net : Type 0) (t : net) (scene : Scene D O) (trace : Trace) (list : History) (first : Asking) (knows : AsksKnown (begun_by scene) list first) (serves : ServesWhole (begun_by scene) list (connections_of trace)) (some : 1 ≤ trace.count) (least : 1 ≤ scene.start.limits.min_slice) where
  abbrev total : Option ℕ
  total = (told_by scene trace.told).total

  abbrev start : List Slice
  start = (begun_by scene).slices

  abbrev min : ℕ
  min = scene.start.limits.min_slice

  abbrev Missing : Option ℕ → List Round → ℕ → Type 0
  Missing found rounds place = IsFirstMissing (get found (cover_end (cover_of start found trace.count min rounds))) (cover_of start found trace.count min rounds) place

  never_by : (found : Option ℕ) (rounds : List Round) (place : ℕ) → StartsWell found start → (IfSome found (λ n. first.known ≡ true)) → ArePlanned start found trace.count min rounds → AreCut net first rounds
      → ((c : Closed) → Contains (wires_of rounds) c → Contains (connections_of trace) c) → length rounds ≡ last_round → Missing found rounds place → ⊥
  never_by None rounds place well known planned cut among long missing =
      single_whole (cover_of start None trace.count min rounds) place (single_cover start trace.count min rounds (well.single refl) planned) missing
  never_by (Some bytes) [] place well known planned cut among long missing = absurd (omega (arith, long))
  never_by (Some bytes) (newest ∷ older) place well known planned cut among long missing =
      let few = well.few in
      never_missing bytes trace.count min start well.small (omega (arith, some)) (omega (arith, least)) well.cover well.within newest older place planned
      (all_landed net t (begun_by scene) list (connections_of trace) serves first older knows known cut.2 (λ c of. among c (Contains-append_left (wires_of older) (map (λ (w : Carried). w.connection) newest.wires) c of)))
      (omega (arith, few, long)) missing

  among_all : (c : Closed) → Contains (wires_of trace.rounds) c → Contains (connections_of trace) c
  among_all c of = Contains-append_right trace.led (wires_of trace.rounds ++ trace.lost) c (Contains-append_left (wires_of trace.rounds) trace.lost c of)

  -- Where all is served, the rounds aren't used up.
  pub never_used_up : (cause : Cause) → StartsWell total start → IfSome total (λ n. first.known ≡ true) → ArePlanned start total trace.count min trace.rounds → AreCut net first trace.rounds → AreUsedUp scene trace cause → ⊥
  never_used_up cause well known planned cut up = never_by total trace.rounds up.place well known planned cut among_all up.last up.missing
