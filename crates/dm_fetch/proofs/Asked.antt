-- What an attempt asked for begins well, and so its rounds aren't used up.
use Rattle.std.proofs.Common.{◌≡◌, ◌⊎◌, inl, inr, ◌≤◌, ℕ, ◌^◌, cond, Bool, true, false, List, [], length, Option, Some, None, refl, sym, ◌∙◌, ap, subst, arith}
use Rattle.std.specs.Prelude.{IfSome, IsSome, is_some}
use Rattle.std.proofs.lemmas.Bool.{false≢true}
use Rattle.std.proofs.lemmas.Option.{none-some}
use Rattle.dm_types.specs.declared.item.Item.{Item}
use Rattle.dm_types.specs.declared.item.Key.{Key}
use Rattle.dm_types.specs.declared.item.Key.TheVariants.{Strong}
use Rattle.dm_types.specs.declared.kinds.By.{By}
use Rattle.dm_types.specs.declared.kinds.DiskKind.{DiskKind}
use Rattle.dm_types.specs.declared.slices.Slice.{Slice}
use Rattle.dm_disk_model.specs.Disk.{History as Clock}
use Rattle.dm_policy.specs.declared.cause.Cause.{Cause}
use Rattle.dm_slice.specs.Cover.{IsCover, IsWithinTotal}
use Rattle.dm_slice.specs.Words.{IsNormal, IsWithin, cover_end}
use Rattle.dm_slice.proofs.Covers.{cover-normal}
use Rattle.dm_item.specs.Fields.{no_bytes}
use Rattle.dm_item.specs.History.{get}
use Rattle.dm_item.specs.Lawful.{History}
use Rattle.dm_item.specs.Restored.{IsCovered, IsSound}
use Rattle.dm_kept.specs.Files.{Says}
use Rattle.dm_store.specs.declared.pass.Pass.{Pass}
use Rattle.dm_answers.specs.Begin.{begins_anew}
use Rattle.dm_answers.specs.Describe.{IsCleaned}
use Rattle.dm_answers.specs.Plan.{last_round}
use Rattle.dm_attempt.specs.Asking.{count_by}
use Rattle.dm_attempt.specs.Scene.{Scene, begun_by, cover_by, told_by}
use Rattle.dm_attempt.specs.Trace.{ArePlanned, Round, Tale, Trace, connections_of, cover_of}
use Rattle.dm_rounds.specs.First.{IsTold, IsWished, ToldRounds, first_asking}
use Rattle.dm_rounds.specs.Trail.{AreCut, AreUsedUp, kept_asking}
use Rattle.dm_fetch.specs.Attempts.{Asks, AsksAnew, anew, nothing, on}
use Rattle.dm_fetch.specs.Serves.{ServesWhole}
use Rattle.dm_fetch.proofs.Begun.{begun, begun_key, begun_slices, begun_total}
use Rattle.dm_fetch.proofs.Desk.{IsDescribed}
use Rattle.dm_fetch.proofs.Known.{Knows}
use Rattle.dm_fetch.proofs.Sources.{first_knows, kept_knows}
use Rattle.dm_fetch.proofs.Whole.{StartsWell, never_used_up}

none_by : (found : Option ℕ) → is_some found ≡ false → found ≡ None
none_by None is = refl
none_by (Some n) is = absurd (false≢true (sym is))

-- Behind the beginning of a sound item.
module _ (item : Item) (by : By) (at : ℕ) (sound : IsSound item) where
  bare_test : (test : Bool) → cond test None item.key ≡ None → (cond test no_bytes item.slices ≡ no_bytes) × (cond test None item.total ≡ None)
  bare_test true none = (refl, refl)
  bare_test false none = let bare = sound.told.untold (ap (λ (k : Option Key). is_some k) none) in (bare.1, none_by item.total bare.0)

  -- nothing is there of a content that isn't known
  pub begun_bare : (begun item by at).key ≡ None → ((begun item by at).slices ≡ no_bytes) × ((begun item by at).total ≡ None)
  begun_bare none =
      let bare = bare_test (begins_anew item) (sym (begun_key item by at) ∙ none) in
      (begun_slices item by at ∙ bare.0, begun_total item by at ∙ bare.1)

  kept_test : (test : Bool) (key : Key) → cond test None item.key ≡ Some key → (cond test no_bytes item.slices ≡ item.slices) × (cond test None item.total ≡ item.total)
  kept_test true key is = absurd (none-some key is)
  kept_test false key is = (refl, refl)

  -- and of one that is known what was there
  begun_kept : (key : Key) → (begun item by at).key ≡ Some key → ((begun item by at).slices ≡ item.slices) × ((begun item by at).total ≡ item.total)
  begun_kept key is =
      let kept = kept_test (begins_anew item) key (sym (begun_key item by at) ∙ is) in
      (begun_slices item by at ∙ kept.0, begun_total item by at ∙ kept.1)

cover_by_normal : (total : Option ℕ) (slices : List Slice) → IsNormal total slices ⊎ IsNormal None slices → IsWithin (2 ^ 40) slices → IsCover slices
cover_by_normal total slices (inl normal) within = cover-normal total slices normal within
cover_by_normal total slices (inr normal) within = cover-normal None slices normal within

if_within : (total : Option ℕ) (slices : List Slice) → IsWithinTotal total slices → IfSome total (λ t. IsWithin t slices)
if_within None slices within = tt
if_within (Some t) slices within = within

if_known : (total : Option ℕ) → IfSome total (λ t. is_some total ≡ true)
if_known None = tt
if_known (Some t) = refl

if_true : (total : Option ℕ) → IfSome total (λ t. true ≡ true)
if_true None = tt
if_true (Some t) = refl

if_bare : (total : Option ℕ) → IfSome total (λ t. IsWithin t no_bytes)
if_bare None = tt
if_bare (Some t) = (omega arith, tt)

count_some : (slices : ℕ) (tag : Option (List ℕ)) (total : Option ℕ) (ranges : Bool) → 1 ≤ slices → 1 ≤ count_by slices tag total ranges
count_some slices (Some tag) (Some total) true some = some
count_some slices (Some tag) (Some total) false some = omega arith
count_some slices (Some tag) None ranges some = omega arith
count_some slices None total ranges some = omega arith

well_bare : (total : Option ℕ) → IfSome total (λ t. t ≤ 2 ^ 40) → StartsWell total no_bytes
well_bare total small = record {
  single = λ none. (_, refl, refl);
  cover = (refl, (omega arith, omega arith, tt));
  few = omega arith;
  within = if_bare total;
  small = small;
}

well_kept : (total : Option ℕ) (slices : List Slice) (t : ℕ) → IsCovered total slices → length slices ≤ 64 → total ≡ Some t → StartsWell total slices
well_kept total slices t covered few known = record {
  single = λ none. absurd (none-some t (sym none ∙ known));
  cover = cover_by_normal total slices covered.normal covered.greatest;
  few = few;
  within = if_within total slices covered.within;
  small = covered.small;
}

module _ {D O : Type 0} (net : Type 0) (tells : Type 0) (clock : D → Clock) (says : O → Says) (far : D → ℕ) (counts : D → DiskKind → ℕ) (scene : Scene D O) (pass : Pass) (slices : ℕ) (trace : Trace) where
  abbrev AsksCut : Type 0
  AsksCut = Asks tells clock says far counts net scene pass slices (AreCut net) trace

  -- the wish for a name is a cleaned one
  pub asked_wish : AsksCut → (wish : List ℕ) → trace.wish ≡ Some wish → IsCleaned wish
  asked_wish (nothing asks) wish is = absurd (none-some wish (sym asks.wish ∙ is))
  asked_wish (on asks) wish is = absurd (none-some wish (sym asks.wish ∙ is))
  asked_wish (anew asks) wish is =
      let wished = subst (λ (w : Option (List ℕ)). IfSome w (IsWished (begun_by scene).wish)) is asks.fresh.wished in
      record { raw = _; is = wished.is.clean_is }

  -- before anything is told nothing is there
  bare_described : IsSound scene.item → trace.told ≡ None → trace.rounds ≡ [] → (key : Option Key) → (begun_by scene).key ≡ key → IsDescribed scene trace
  bare_described sound told rounds (Some key) is = inl (subst (λ (d : Option Tale). IsSome (told_by scene d).key) (sym told) (subst IsSome (sym is) refl))
  bare_described sound told rounds None is =
      let bare = begun_bare scene.item scene.by scene.at sound is in
      let total : (told_by scene trace.told).total ≡ None = ap (λ (d : Option Tale). (told_by scene d).total) told ∙ bare.1 in
      let cover : cover_by scene trace ≡ no_bytes = ap (λ (rs : List Round). cover_of (begun_by scene).slices (told_by scene trace.told).total trace.count scene.start.limits.min_slice rs) rounds ∙ bare.0 in
      inr (ap (λ (found : Option ℕ). get found (cover_end (cover_by scene trace))) total ∙ ap cover_end cover)

  told_described : IsSound scene.item → (begun_by scene).key ≡ None → (told : Option Tale) → trace.told ≡ told → ToldRounds (AreCut net) pass told trace.rounds → IsDescribed scene trace
  told_described sound none None is rounds = bare_described sound is rounds None none
  told_described sound none (Some tale) is rounds = inl (subst (λ (d : Option Tale). IsSome (told_by scene d).key) (sym is) refl)

  pub asked_described : AsksCut → IsSound scene.item → IsDescribed scene trace
  asked_described (nothing asks) sound = bare_described sound asks.told asks.rounds (begun_by scene).key refl
  asked_described (on asks) sound = inl (subst (λ (d : Option Tale). IsSome (told_by scene d).key) (sym asks.told) (subst IsSome (sym asks.is.key_is) refl))
  asked_described (anew asks) sound = told_described sound asks.none trace.told refl (subst (λ (d : Option Tale). ToldRounds (AreCut net) pass d trace.rounds) refl asks.rounds)

module _ {D O : Type 0} (net : Type 0) (t : net) (tells : Type 0) (clock : D → Clock) (says : O → Says) (far : D → ℕ) (counts : D → DiskKind → ℕ) (scene : Scene D O) (pass : Pass) (slices : ℕ) (trace : Trace) (list : History) (knows : Knows scene trace list) (some : 1 ≤ slices) (least : 1 ≤ scene.start.limits.min_slice)
    (sound : IsSound scene.item) where
  abbrev Planned : Type 0
  Planned = ArePlanned (begun_by scene).slices (told_by scene trace.told).total trace.count scene.start.limits.min_slice trace.rounds

  none_used : trace.rounds ≡ [] → length trace.rounds ≡ last_round → ⊥
  none_used none long = let e = ap (λ (rs : List Round). length rs) none in omega (arith, e, long)

  anew_never : (asks : AsksAnew tells clock says far counts net scene pass slices (AreCut net) trace) → ServesWhole (begun_by scene) list (connections_of trace) → Planned → (cause : Cause) → (up : AreUsedUp scene trace cause) → (told : Option Tale) → trace.told ≡ told → ⊥
  anew_never asks serves planned cause up None is = none_used (subst (λ (d : Option Tale). ToldRounds (AreCut net) pass d trace.rounds) is asks.rounds) up.last
  anew_never asks serves planned cause up (Some tale) is =
      let rounds : AreCut net (first_asking pass tale) trace.rounds = subst (λ (d : Option Tale). ToldRounds (AreCut net) pass d trace.rounds) is asks.rounds in
      let tale_is : IsTold tells clock net asks.desk pass asks.first (begun_by scene).wish slices trace tale = subst (λ (d : Option Tale). IfSome d (IsTold tells clock net asks.desk pass asks.first (begun_by scene).wish slices trace)) is asks.fresh.told in
      let total : (told_by scene trace.told).total ≡ tale.total = ap (λ (d : Option Tale). (told_by scene d).total) is in
      let bare = (begun_bare scene.item scene.by scene.at sound asks.none).0 in
      let well : StartsWell (told_by scene trace.told).total (begun_by scene).slices =
      subst (λ (found : Option ℕ). StartsWell found (begun_by scene).slices) (sym total) (subst (StartsWell tale.total) (sym bare) (well_bare tale.total tale_is.small)) in
      never_used_up net t scene trace list (first_asking pass tale) (first_knows scene pass trace list knows tale is) serves (subst (λ (n : ℕ). 1 ≤ n) (sym tale_is.count_is) (count_some slices tale.head.strong tale.head.total tale.head.ranges some)) least cause well
      (subst (λ (found : Option ℕ). IfSome found (λ n. is_some tale.total ≡ true)) (sym total) (if_known tale.total)) planned rounds up

  -- Where all is served, the rounds of an attempt aren't used up.
  pub used_up_never : Asks tells clock says far counts net scene pass slices (AreCut net) trace → ServesWhole (begun_by scene) list (connections_of trace) → Planned → (cause : Cause) → AreUsedUp scene trace cause → ⊥
  used_up_never (nothing asks) serves planned cause up = none_used asks.rounds up.last
  used_up_never (anew asks) serves planned cause up = anew_never asks serves planned cause up trace.told refl
  used_up_never (on asks) serves planned cause up =
      let kept = begun_kept scene.item scene.by scene.at sound (Strong asks.source.tag) asks.is.key_is in
      let known : (begun_by scene).total ≡ Some asks.source.total = asks.is.total_is in
      let total : (told_by scene trace.told).total ≡ (begun_by scene).total = ap (λ (d : Option Tale). (told_by scene d).total) asks.told in
      let covered : IsCovered (begun_by scene).total (begun_by scene).slices =
      subst (λ (found : Option ℕ). IsCovered found (begun_by scene).slices) (sym kept.1) (subst (IsCovered scene.item.total) (sym kept.0) sound.covered) in
      let well : StartsWell (told_by scene trace.told).total (begun_by scene).slices =
      subst (λ (found : Option ℕ). StartsWell found (begun_by scene).slices) (sym total) (well_kept (begun_by scene).total (begun_by scene).slices asks.source.total covered asks.few known) in
      never_used_up net t scene trace list (kept_asking pass asks.source) (kept_knows scene pass trace list asks.source asks.is) serves (subst (λ (n : ℕ). 1 ≤ n) (sym asks.count) some) least cause well (if_true (told_by scene trace.told).total) planned asks.rounds up
