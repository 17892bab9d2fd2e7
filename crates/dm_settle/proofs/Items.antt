-- One item is settled: what is made, and what is kept.
use Rattle.std.proofs.Common.{◌≡◌, inl, inr, ℕ, Bool, true, false, List, [], ◌++◌, sym, ◌∙◌, ap, subst}
use Rattle.std.proofs.lemmas.Bool.{false≢true}
use Rattle.dm_types.specs.declared.entry.Entry.{Entry}
use Rattle.dm_disk_model.specs.Beside.{Besides}
use Rattle.dm_disk_model.specs.Disk.{DiskState, History as Clock, IsSoundDisk, now}
use Rattle.dm_disk_model.proofs.Beside.{besides_more}
use Rattle.dm_item.specs.Lawful.{History, items_of}
use Rattle.dm_kept.specs.Files.{Covers, Facts, IfGood, Says}
use Rattle.dm_kept.proofs.Flags.{if_two}
use Rattle.dm_store.specs.Becomes.{Becomes, Recorded}
use Rattle.dm_store.specs.Keeps.{Goes, HoldsOf, Keeps, added}
use Rattle.dm_store.specs.Lives.{covers_of}
use Rattle.dm_store.specs.View.{View}
use Rattle.dm_store.proofs.Composing.{becomes_then}
use Rattle.dm_store.proofs.Keeping.{at_rest, goes_then}
use Rattle.dm_sweep.proofs.Stills.{still_keeps}
use Rattle.dm_settle.specs.Judging.{Judges}
use Rattle.dm_settle.specs.Moving.{IsFinishingIn, IsListedFor}
use Rattle.dm_settle.specs.Settled.{IsPartOrAlone, IsSparedBy, IsWhole, ItemGoes, SettleGoes, StopsAt}
use Rattle.dm_settle.specs.declared.judging.Judged.{Judged}
use Rattle.dm_settle.specs.declared.judging.Judged.TheVariants as judgements
use Rattle.dm_settle.specs.declared.moving.Moving.{Moving}
use Rattle.dm_settle.proofs.Finished.{judged_whole}
use Rattle.dm_settle.proofs.Judgements.{becomes_still}

-- A desk of which nothing but the disk's reading changed.
module _ {D O : Type 0} (tells : Type 0) (clock : D → Clock) (says : O → Says) (old read : View D O) (whole : old.broken ≡ false) (none : old.failed ≡ []) (same : read ≡ record old { disk = read.disk }) where
  pub read_whole : read.broken ≡ false
  read_whole = ap (λ (v : View D O). v.broken) same ∙ whole

  pub read_becomes : Becomes old read [] [] false
  read_becomes = becomes_still old read false whole none (same ∙ ap (λ (b : Bool). record old { disk = read.disk; broken = b }) whole)

  module _ (sound : tells → IsSoundDisk (now (clock old.disk))) (still : clock read.disk ≡ clock old.disk) where
    pub read_keeps : Keeps tells clock says old read
    read_keeps = subst (Keeps tells clock says old) (sym same) (still_keeps tells clock says old read.disk sound still)

    -- it was judged, and the judgement was recorded or not
    module _ (new : View D O) (names : List (List ℕ)) (moving : Moving) (is : IsFinishingIn old.items.items moving) (judged : Judged) (judges : Judges tells (now (clock old.disk)) names moving judged) where
      pub item_goes : SettleGoes tells clock says read new judged → ItemGoes tells clock says old new names is.item
      item_goes goes told good before holds listed =
          let said = says old.origin in
          let covers : Covers = covers_of old.lives in
          let disk = now (clock old.disk) in
          let sits = at_rest good said clock old before whole holds in
          let fits : IfGood good (IsWhole judged) =
          if_two good (Facts said covers (items_of before) disk.files) (IsListedFor disk.files names is.item) (IsWhole judged)
          (λ facts right. judged_whole old.items before holds.items moving.id.0 is.item is.there is.finishing said covers disk facts tells told names moving judged is.is right judges) sits.rests.facts listed in
          let went = read_keeps told good before holds in
          let origin : read.origin ≡ old.origin = ap (λ (v : View D O). v.origin) same in
          let held : HoldsOf good (says read.origin) clock read (before ++ added old read) = subst (λ (o : O). HoldsOf good (says o) clock read (before ++ added old read)) (sym origin) went.holds in
          goes_then good said clock old read new before went (ap (λ (v : View D O). v.failed) same ∙ none)
          (subst (λ (o : O). Goes good (says o) clock read new (before ++ added old read) (added read new)) origin (goes told good (before ++ added old read) held fits))

  module _ (new : View D O) where
    pub item_done : (history : History) → Recorded read new history → Recorded old new history
    item_done history becomes = becomes_then old read new [] read_becomes history [] false becomes

    pub item_stopped : (entry : Entry) → StopsAt read new entry true → StopsAt old new entry true
    item_stopped entry stops = record { failed = stops.failed; becomes = becomes_then old read new [] read_becomes [] stops.failed true stops.becomes; tried = stops.tried }

-- only a part that was listed alone is given its name
spared_alone : (tells : Type 0) (disk : DiskState) (names : List (List ℕ)) (moving : Moving) (judged : Judged) → Judges tells disk names moving judged → (name : List ℕ) → IsSparedBy moving judged name → IsPartOrAlone names moving name
spared_alone tells disk names moving (judgements.Broken reason) judges name spared = inl spared
spared_alone tells disk names moving (judgements.Named sum) judges name spared = inl spared
spared_alone tells disk names moving (judgements.InPart sum) judges name (inl part) = inl part
spared_alone tells disk names moving (judgements.InPart sum) judges name (inr same) =
    inr (record { is = same; parted = judges.part_is.0 judges.alone.0; free = λ there. false≢true (sym judges.alone.1 ∙ judges.name_is.1 there) })

pub item_beside : (tells : Type 0) (disk : DiskState) (names : List (List ℕ)) (moving : Moving) (judged : Judged) → Judges tells disk names moving judged → (old new : Clock) → Besides (IsSparedBy moving judged) old new → Besides (IsPartOrAlone names moving) old new
item_beside tells disk names moving judged judges old new = besides_more (IsSparedBy moving judged) (IsPartOrAlone names moving) old new (spared_alone tells disk names moving judged judges)
