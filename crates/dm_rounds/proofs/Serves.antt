-- The first reply as the lane of the first part.
use Rattle.std.proofs.Common.{◌≡◌, inl, inr, ◌<◌, ◌≤◌, ◌^◌, ℕ, ◌+◌, ◌-◌, suc, Bool, true, false, List, [], ◌∷◌, length, map, drop, take, get_or, Option, Some, None, refl, sym, ◌∙◌, ap, subst, arith}
use Rattle.std.specs.Prelude.{is_some, slice_get}
use Rattle.std.proofs.lemmas.Bool.{false≢true}
use Rattle.std.proofs.lemmas.List.{take_all}
use Rattle.std.proofs.lemmas.Option.{same_Some}
use Rattle.dm_types.specs.declared.address.Address.{Address}
use Rattle.dm_types.specs.declared.item.Attempt.{Attempt}
use Rattle.dm_types.specs.declared.item.ItemId.{ItemId}
use Rattle.dm_types.specs.declared.item.Key.{Key}
use Rattle.dm_types.specs.declared.item.Key.TheVariants.{Strong, Once}
use Rattle.dm_edge.specs.declared.wanted.Wanted.{Wanted}
use Rattle.dm_edge.specs.declared.wanted.Wanted.TheVariants.{Whole}
use Rattle.dm_edge.specs.Fair.{ask_of, first_of, key_of}
use Rattle.dm_edge.specs.Wire.{Purpose, Told, Closed}
use Rattle.dm_item.specs.Fields.{no_bytes}
use Rattle.dm_request.specs.Request.{request_of}
use Rattle.dm_reply.specs.Content.{HasRead, KindSays, counted_of, first_some}
use Rattle.dm_reply.specs.Steps.{least_of}
use Rattle.dm_ask.specs.Redirects.{purpose_of}
use Rattle.dm_slice.specs.Plan.{opened_by, parts_by}
use Rattle.dm_slice.specs.declared.plan.Part.{Part}
use Rattle.dm_store.specs.declared.pass.Pass.{Pass}
use Rattle.dm_answers.specs.Plan.{slice_pass}
use Rattle.dm_answers.specs.Slices.{part_of}
use Rattle.dm_answers.specs.declared.answer.SlicePass.{SlicePass}
use Rattle.dm_attempt.specs.declared.source.Source.{Source}
use Rattle.dm_attempt.specs.Asking.{count_by, source_by}
use Rattle.dm_attempt.specs.Ends.{empty_share}
use Rattle.dm_attempt.specs.Heads.{SaysHead}
use Rattle.dm_attempt.specs.Shares.{Share}
use Rattle.dm_attempt.specs.Trace.{AreAtEnds, AreNumbered, Tale}
use Rattle.dm_rounds.specs.declared.first.Reply.{Reply}
use Rattle.dm_rounds.specs.First.{IsHeard, IsReplied, first_asking}
use Rattle.dm_rounds.specs.Lanes.{HasGiven, TellsEnd, most_by, most_given, read}
use Rattle.dm_rounds.specs.Opening.{AreAsked, IsOpening}
use Rattle.dm_rounds.specs.Reading.{IsTurn}
use Rattle.dm_rounds.specs.Rounding.{AsksAll}
use Rattle.dm_rounds.specs.Running.{later_asking}
use Rattle.dm_rounds.specs.Serving.{first_lane}
use Rattle.dm_rounds.proofs.Heard.{says_read}
use Rattle.dm_rounds.proofs.Firsts.{first_begins, first_within, open_whole}
use Rattle.dm_rounds.proofs.Lost.{none_open}
use Rattle.dm_rounds.proofs.Nexts.{index_at, share_at}
use Rattle.dm_rounds.proofs.Opens.{lane_more}

-- what a source of range requests says of the content
pub source_says : (address : Address) (key : Key) (total : Option ℕ) (source : Source) → source_by address key total ≡ Some source → (key ≡ Strong source.tag) × (source.address ≡ address) × (total ≡ Some source.total)
source_says address (Strong tag) (Some total) source is =
    let same = same_Some (record { address = address; tag = tag; total = total }) source is in
    (ap (λ (s : Source). Strong s.tag) same, sym (ap (λ (s : Source). s.address) same), ap (λ (s : Source). Some s.total) same)
source_says address (Strong tag) None source is = absurd (let e = is in cc)
source_says address (Once id attempt) total source is = absurd (let e = is in cc)

-- where there is none one part is asked for
pub count_alone : (pass : Pass) (address : Address) (slices : ℕ) (strong : Option (List ℕ)) (total : Option ℕ) (ranges : Bool) → source_by address (key_of (purpose_of pass.id pass.attempt address) strong) total ≡ None → count_by slices strong total ranges ≡ 1
count_alone pass address slices None total ranges none = refl
count_alone pass address slices (Some tag) None ranges none = refl
count_alone pass address slices (Some tag) (Some total) ranges none = absurd (let e = none in cc)

-- the first of the passes
pub first_of_plan : (id : ItemId) (attempt : Attempt) (round : ℕ) (parts : List Part) (slice : SlicePass) (rest : List SlicePass) → slice ∷ rest ≡ map (slice_pass id attempt round) parts → (more : List Part) × (parts ≡ part_of slice ∷ more)
first_of_plan id attempt round [] slice rest is = absurd (let e = is in cc)
first_of_plan id attempt round (part ∷ more) slice rest is =
    let same : slice ≡ slice_pass id attempt round part = cc in
    (more, ap (λ (p : Part). p ∷ more) (sym (ap part_of same)))

-- where the first part of a content begins and ends of which nothing is there
pub record IsFirstPart (total : Option ℕ) (part : Part) : Type 0 where
  pub number : part.index ≡ 0
  pub begins : part.first ≡ 0
  pub known : (t : ℕ) → total ≡ Some t → part.end ≤ t
  pub open_end : total ≡ None → part.end ≡ 2 ^ 40

pub first_part : (total : Option ℕ) (n least : ℕ) (part : Part) (more : List Part) → 0 < n → parts_by total n least no_bytes ≡ part ∷ more → AreNumbered 0 (part ∷ more) → AreAtEnds (part ∷ more) (opened_by total n least no_bytes) → IsFirstPart total part
first_part total n least part more some is numbers ends = record {
  number = numbers.0;
  begins = first_begins total n least part more ends;
  known = λ t t_is. first_within t n least part more some (sym (ap (λ (x : Option ℕ). parts_by x n least no_bytes) t_is) ∙ is);
  open_end = λ none.
      let e : record { index = 0; first = 0; end = 2 ^ 40 } ∷ [] ≡ part ∷ more = sym (open_whole n least) ∙ sym (ap (λ (x : Option ℕ). parts_by x n least no_bytes) none) ∙ is in
      let same : record { index = 0; first = 0; end = 2 ^ 40 } ≡ part = cc in
      sym (ap (λ (p : Part). p.end) same);
}

none_of : (total : Option ℕ) → is_some total ≡ false → total ≡ None
none_of None is = refl
none_of (Some n) is = absurd (false≢true (sym is))

some_of : (total : Option ℕ) → is_some total ≡ true → (n : ℕ) × (total ≡ Some n)
some_of None is = absurd (false≢true is)
some_of (Some n) is = (n, refl)

module _ {W O : Type 0} (wires : Type 0) (made_for : W → Purpose) (told : W → Told) (origin : W → O) (there : O) (pass : Pass) (first : Address) (reply : Reply W) (tale : Tale) (part : Part) (shares : List Share)
    (replied : IsReplied pass first reply) (heard : wires → IsHeard made_for told pass reply) (same : origin reply.wire ≡ there)
    (address_is : tale.address ≡ reply.address) (key_is : tale.key ≡ reply.key) (total_is : tale.total ≡ reply.head.total)
    (head_is : tale.head ≡ reply.head) (place : IsFirstPart tale.total part) (some : part.first < part.end) (empty : slice_get shares part.index ≡ Some (empty_share part)) where
  given : wires → HasGiven tale.key (made_for reply.wire) reply.reader.wanted (told reply.wire).given reply.reader []
  given t =
      let says = (heard t).says in
      let has : HasRead Whole says.head (told reply.wire).given reply.reader [] = subst (KindSays Whole (told reply.wire) reply.reader says.head) replied.kind_is says.kind_is in
      record {
        head = says.head;
        has = subst (λ (w : Wanted). HasRead w says.head (told reply.wire).given reply.reader []) (sym replied.wanted_is) has;
        tag = reply.head.strong;
        tag_is = says.fields_say.strong_is;
        key_is = key_is ∙ replied.key_is ∙ sym (ap (λ (p : Purpose). key_of p reply.head.strong) (heard t).purpose_is);
      }

  counted : reply.head.total ≡ counted_of reply.reader.reading.body
  counted = replied.framed.1

  most_open : tale.total ≡ None → most_given reply.reader ≡ 2 ^ 40
  most_open none =
      ap (λ (s : Option ℕ). least_of s (most_by (counted_of reply.reader.reading.body))) replied.framed.0
      ∙ ap (λ (c : Option ℕ). least_of None (most_by c)) (sym counted ∙ sym total_is ∙ none)

  told_known : (n : ℕ) → tale.total ≡ Some n → first_some reply.reader.size (counted_of reply.reader.reading.body) ≡ Some n
  told_known n is = ap (λ (s : Option ℕ). first_some s (counted_of reply.reader.reading.body)) replied.framed.0 ∙ sym counted ∙ sym total_is ∙ is

  ends_told : is_some reply.head.total ≡ true → TellsEnd (first_lane reply part)
  ends_told known =
      let n = some_of tale.total (ap is_some total_is ∙ known) in
      record { count = n.0; told = told_known n.0 n.1; within = let e = place.known n.0 n.1 in omega (arith, e) }

  -- it may be read on
  pub first_turn : IsTurn wires made_for told origin there (first_asking pass tale) shares (first_lane reply part)
  first_turn = record {
    ready = record {
      left = record {
        share = empty_share part;
        share_is = empty;
        part_is = refl;
        brought = λ t. let g = given t in read (told reply.wire).given (told reply.wire).left [] reply.reader g.head refl g.has;
      };
      at = omega arith;
      within = omega (arith, some);
      on = inl some;
      open_end = λ unbounded.
          let none = none_of tale.total (ap is_some total_is ∙ unbounded) in
          let most = most_open none in
          let end = place.open_end none in
          let begins = place.begins in
          omega (arith, most, end, begins);
      given = replied.unread;
      unbroken = replied.unbroken;
      whole = λ known wanted. ends_told known;
      reads = given;
    };
    asks = record {
      asked = record {
        wanted_is = inl (refl, place.number, replied.wanted_is);
        first_is = ap first_of replied.wanted_is ∙ sym place.begins;
        purpose_is = λ t. (heard t).purpose_is ∙ ap (purpose_of pass.id pass.attempt) (sym address_is);
        sent_is = λ t. (heard t).sent ∙ ap (λ (w : Wanted). request_of reply.address (ask_of w)) (sym replied.wanted_is)
            ∙ ap (λ (p : Purpose). request_of p.address (ask_of reply.reader.wanted)) (sym (heard t).purpose_is);
        replied = λ t whole. subst (SaysHead (told reply.wire).given) (sym head_is) (says_read (told reply.wire) reply.reader reply.head replied.kind_is replied.framed.1 (heard t).says);
      };
      bounded_is = ap is_some (sym total_is);
    };
    origin_is = same;
  }

  -- and is the only one
  pub first_open : (net : Type 0) (start closed : List Closed) → (net → closed ≡ start) → IsOpening net wires made_for told origin there (first_asking pass tale) start closed shares 1 (first_lane reply part ∷ [])
  first_open net start closed still =
      let before = none_open net wires made_for told origin there (first_asking pass tale) start closed shares [] refl still in
      record { lanes_are = lane_more wires made_for told origin there (first_asking pass tale) shares 0 [] (first_lane reply part) before.lanes_are first_turn place.number; still = still }

-- the later rounds ask for ranges of the source
pub later_asks : (pass : Pass) (tale : Tale) (source : Source) → source_by tale.address tale.key tale.total ≡ Some source → AsksAll (later_asking (first_asking pass tale)) source pass
later_asks pass tale source is =
    let says = source_says tale.address tale.key tale.total source is in
    record { source_is = is; key_is = says.0; purpose_is = ap (purpose_of pass.id pass.attempt) (sym says.1); own = refl; known_is = ap is_some says.2 }

-- the other parts are asked for so
pub others_asked : (pass : Pass) (tale : Tale) (source : Source) → source_by tale.address tale.key tale.total ≡ Some source → (round : ℕ) (parts : List Part) → AreNumbered 0 parts
    → AreAsked (first_asking pass tale) source pass (map empty_share parts) 1 (drop 1 (map (slice_pass pass.id pass.attempt round) parts))
others_asked pass tale source is round [] numbers k d short = absurd (omega (arith, short))
others_asked pass tale source is round (part ∷ rest) numbers k d short =
    let asks = later_asks pass tale source is in
    let number : (get_or (map (slice_pass pass.id pass.attempt round) rest) k d).index ≡ 1 + k = index_at pass.id pass.attempt round 1 rest numbers.1 k d short in
    record {
      asks = record { source_is = asks.source_is; key_is = asks.key_is; purpose_is = asks.purpose_is; own = inr (λ e. absurd (let n = number in omega (arith, e, n))); known_is = asks.known_is };
      number_is = number;
      empty = subst (λ (m : ℕ). slice_get (map empty_share (part ∷ rest)) m ≡ Some (empty_share (part_of (get_or (map (slice_pass pass.id pass.attempt round) rest) k d)))) (let e : suc k ≡ 1 + k = omega arith in e)
          (share_at pass.id pass.attempt round rest k d short);
    }

pub drop_one : (plan : List SlicePass) → 0 < length plan → 1 + length (drop 1 plan) ≡ length plan
drop_one [] some = absurd (omega (arith, some))
drop_one (first ∷ rest) some = omega arith

-- the rest of a plan
pub rest_is : (plan : List SlicePass) → take (length plan - 1) (drop 1 plan) ≡ drop 1 plan
rest_is [] = refl
rest_is (first ∷ rest) = take_all (length (first ∷ rest) - 1) rest (omega arith)

pub rest_ordered : (plan : List SlicePass) → ((k : ℕ) (d : SlicePass) → k < length plan → (get_or plan k d).first < (get_or plan k d).end) → (k : ℕ) (d : SlicePass) → k < length (drop 1 plan) → (get_or (drop 1 plan) k d).first < (get_or (drop 1 plan) k d).end
rest_ordered [] ordered k d short = absurd (omega (arith, short))
rest_ordered (first ∷ rest) ordered k d short = ordered (suc k) d (omega (arith, short))

-- at least one part is asked for, and no more than are wanted
pub count_some : (slices : ℕ) (strong : Option (List ℕ)) (total : Option ℕ) (ranges : Bool) → 1 ≤ slices → (1 ≤ count_by slices strong total ranges) × (count_by slices strong total ranges ≤ slices)
count_some slices None total ranges some = (omega arith, some)
count_some slices (Some tag) None ranges some = (omega arith, some)
count_some slices (Some tag) (Some total) true some = (some, omega arith)
count_some slices (Some tag) (Some total) false some = (omega arith, some)

pub head_is : (plan : List SlicePass) (slice : SlicePass) → slice_get plan 0 ≡ Some slice → (rest : List SlicePass) × (plan ≡ slice ∷ rest)
head_is [] slice at = absurd (let e = at in cc)
head_is (first ∷ rest) slice at = (rest, ap (λ (s : SlicePass). s ∷ rest) (same_Some first slice at))

pub sliced : (plan : List SlicePass) (slice : SlicePass) (rest : List SlicePass) → plan ≡ slice ∷ rest → ((k : ℕ) (d : SlicePass) → k < length plan → (get_or plan k d).first < (get_or plan k d).end) → slice.first < slice.end
sliced plan slice rest is ordered =
    subst (λ (l : List SlicePass). (get_or l 0 slice).first < (get_or l 0 slice).end) is (ordered 0 slice (let e = ap (λ (l : List SlicePass). length l) is in omega (arith, e)))

pub none_is : (plan : List SlicePass) → slice_get plan 0 ≡ None → plan ≡ []
none_is [] none = refl
none_is (first ∷ rest) none = absurd (let e = none in cc)
