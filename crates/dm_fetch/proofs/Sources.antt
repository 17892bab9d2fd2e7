-- What an attempt asked for, of a content whose total is known where ranges are asked for.
use Rattle.std.proofs.Common.{◌≡◌, ◌⊎◌, inl, inr, ℕ, List, [], ◌∷◌, length, Option, Some, None, refl, sym, ◌∙◌, ap, subst, arith}
use Rattle.std.specs.List.{AllByRecursion, Contains}
use Rattle.std.proofs.lemmas.Option.{none-some, same_Some}
use Rattle.dm_types.specs.declared.address.Address.{Address}
use Rattle.dm_types.specs.declared.item.Key.{Key}
use Rattle.dm_types.specs.declared.item.Key.TheVariants.{Once, Strong}
use Rattle.dm_types.specs.declared.kinds.DiskKind.{DiskKind}
use Rattle.dm_disk_model.specs.Disk.{History as Clock}
use Rattle.dm_edge.specs.Wire.{Purpose}
use Rattle.dm_edge.specs.declared.wanted.Wanted.{Wanted}
use Rattle.dm_item.specs.Lawful.{History}
use Rattle.dm_kept.specs.Files.{Says}
use Rattle.dm_store.specs.declared.pass.Pass.{Pass}
use Rattle.dm_attempt.specs.declared.source.Source.{Source}
use Rattle.dm_attempt.specs.Asking.{Asking, source_by}
use Rattle.dm_attempt.specs.Scene.{Scene, begun_by, told_by}
use Rattle.dm_attempt.specs.Trace.{Carried, Round, Tale, Trace}
use Rattle.dm_rounds.specs.First.{ToldRounds, first_asking}
use Rattle.dm_rounds.specs.Opened.{WasTried}
use Rattle.dm_rounds.specs.Trail.{AreCut, IsAskedIn, asking_behind, kept_asking}
use Rattle.dm_rounds.proofs.Totals.{at_each}
use Rattle.dm_fetch.specs.Attempts.{Asks, AsksAnew, IsSourceOf, anew, nothing, on}
use Rattle.dm_fetch.specs.Known.{IsKnownOf, OfKnown, kept}
use Rattle.dm_fetch.proofs.Known.{AsksKnown, Knows, knows_behind, range_known, wanted_known}

-- a source has the content's tag and total
source_is : (address : Address) (key : Key) (total : Option ℕ) (source : Source) → source_by address key total ≡ Some source → (key ≡ Strong source.tag) × (total ≡ Some source.total)
source_is address (Strong tag) (Some bytes) source is =
    let own : Source = record { address = address; tag = tag; total = bytes } in
    let same : own ≡ source = same_Some own source is in
    (ap (λ (s : Source). Strong s.tag) same, ap (λ (s : Source). Some s.total) same)
source_is address (Strong tag) None source is = absurd (none-some source is)
source_is address (Once id attempt) total source is = absurd (none-some source is)

-- one of a list is what all of it are
pub at_wire : (P : Carried → Type 0) (wires : List Carried) (c : Carried) → Contains wires c → AllByRecursion P wires → P c
at_wire P wires c (k, within, at) all = subst P at (at_each P wires k c within all)

module _ {D O : Type 0} (scene : Scene D O) (pass : Pass) (trace : Trace) (list : History) where
  pub first_knows : Knows scene trace list → (tale : Tale) → trace.told ≡ Some tale → AsksKnown (begun_by scene) list (first_asking pass tale)
  first_knows knows tale is source of =
      let own = source_is tale.address tale.key tale.total source of in
      knows (Strong source.tag) tale.address.text source.total (ap (λ (d : Option Tale). (told_by scene d).key) is ∙ ap (λ (k : Key). Some k) own.0) (ap (λ (d : Option Tale). (told_by scene d).last_address) is)
      (ap (λ (d : Option Tale). (told_by scene d).total) is ∙ own.1)

  pub kept_knows : (own : Source) → IsSourceOf (begun_by scene) own → AsksKnown (begun_by scene) list (kept_asking pass own)
  kept_knows own is source of =
      let known : IsKnownOf (begun_by scene) list (Strong own.tag) own.address.text own.total = kept is.key_is (is.text_is ∙ ap (λ (text : List ℕ). Some text) (sym is.stable.same)) is.total_is in
      subst (λ (s : Source). IsKnownOf (begun_by scene) list (Strong s.tag) own.address.text s.total) (same_Some own source of) known

  module _ (net : Type 0) (t : net) (tells : Type 0) (clock : D → Clock) (says : O → Says) (far : D → ℕ) (counts : D → DiskKind → ℕ) (slices : ℕ) (knows : Knows scene trace list) (asks : Asks tells clock says far counts net scene pass slices (AreCut net) trace) where
    -- there is no round, or all are of such an asking
    abbrev Rounds : Type 0
    Rounds = (trace.rounds ≡ []) ⊎ ((first : Asking) × AsksKnown (begun_by scene) list first × AreCut net first trace.rounds)

    anew_rounds : AsksAnew tells clock says far counts net scene pass slices (AreCut net) trace → (told : Option Tale) → trace.told ≡ told → Rounds
    anew_rounds by None is = inl (subst (λ (d : Option Tale). ToldRounds (AreCut net) pass d trace.rounds) is by.rounds)
    anew_rounds by (Some tale) is = inr (first_asking pass tale, first_knows knows tale is, subst (λ (d : Option Tale). ToldRounds (AreCut net) pass d trace.rounds) is by.rounds)

    rounds_by : Asks tells clock says far counts net scene pass slices (AreCut net) trace → Rounds
    rounds_by (nothing by) = inl by.rounds
    rounds_by (anew by) = anew_rounds by trace.told refl
    rounds_by (on by) = inr (kept_asking pass by.source, kept_knows by.source by.is, by.rounds)

    module _ (round : Round) (older : List Round) (newest : trace.rounds ≡ round ∷ older) where
      -- the newest round asks so
      newest_knows : AsksKnown (begun_by scene) list round.asking × ((c : Carried) → Contains round.wires c → WasTried round.asking round.shares c)
      newest_knows = elim (rounds_by asks) [
        | inl none ↦ absurd (let e = ap (λ (rs : List Round). length rs) (sym none ∙ newest) in omega (arith, e))
        | inr are ↦ by_cut are.0 are.1 (subst (AreCut net are.0) newest are.2)
      ]
        where
          by_cut : (first : Asking) → AsksKnown (begun_by scene) list first → AreCut net first (round ∷ older) → AsksKnown (begun_by scene) list round.asking × ((c : Carried) → Contains round.wires c → WasTried round.asking round.shares c)
          by_cut first own cut =
              (subst (AsksKnown (begun_by scene) list) (sym cut.0) (knows_behind (begun_by scene) list first older own), λ c among. at_wire (WasTried round.asking round.shares) round.wires c among (cut.1.each t))

      -- a connection of it wants a range of known total, or the whole content
      pub content_known : (c : Carried) → Contains round.wires c → OfKnown (begun_by scene) list c.connection.purpose.address.text c.wanted
      content_known c among =
          let tried = newest_knows.1 c among in
          wanted_known (begun_by scene) list round.asking newest_knows.0 c.part c.wanted c.connection.purpose tried.purpose_is tried.wanted_is

    -- and so does one whose head was met
    pub head_known : (rounds : List Round) → trace.rounds ≡ rounds → (purpose : Purpose) (wanted : Wanted) → IsAskedIn rounds purpose wanted → OfKnown (begun_by scene) list purpose.address.text wanted
    head_known [] is purpose wanted asked = absurd asked
    head_known (round ∷ older) is purpose wanted asked = range_known (begun_by scene) list round.asking (newest_knows round older is).0 asked.1 wanted purpose asked.0 asked.2
