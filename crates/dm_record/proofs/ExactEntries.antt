-- The fields of each kind are read exactly, and so are entries.
use Rattle.std.proofs.Common.{◌≡◌, ℕ, Bool, zero, suc, ◌^◌, ◌<◌, List, [], ◌∷◌, ◌++◌, Option, Some, None, Err, refl, subst, arith, inl, inr, IfSome}
use Rattle.std.specs.Int.{w32, w64}
use Rattle.dm_types.specs.declared.entry.Entry.{Entry}
use Rattle.dm_types.specs.declared.entry.Entry.TheVariants.{Added, Began, Described, Progress, Broke, Paused, Cancelled, Restarted, Finishing, Done, Removed, Archived, Reopened, Restored, Asked}
use Rattle.dm_types.specs.declared.item.Item.{Item}
use Rattle.dm_types.specs.declared.item.ItemId.{ItemId}
use Rattle.dm_types.specs.declared.item.Epoch.{Epoch}
use Rattle.dm_types.specs.declared.item.Attempt.{Attempt}
use Rattle.dm_types.specs.declared.item.Key.{Key}
use Rattle.dm_types.specs.declared.item.Phase.{Phase}
use Rattle.dm_types.specs.declared.reason.Reason.{Reason}
use Rattle.dm_types.specs.declared.slices.Slice.{Slice}
use Rattle.dm_record.specs.declared.fault.Stop.TheVariants as stops
use Rattle.dm_record.specs.declared.parts.Order.{Order}
use Rattle.dm_record.specs.declared.parts.Course.{Course}
use Rattle.dm_record.specs.declared.parts.Told.{Told}
use Rattle.dm_record.specs.declared.parts.Kept.{Kept}
use Rattle.dm_types.specs.Kind.{kind_of}
use Rattle.dm_record.specs.Spelling.{number, text, optional, digest, key, slices, flag_byte, fields_of, spelling_of}
use Rattle.dm_record.specs.Limits.{IsBytes, AtMost, IsDigest, IsTag, IsKey, IsEntry}
use Rattle.dm_record.specs.Reading.{Reading, made_by, number_at, text_at, digest_at, key_at, order_at, course_at, told_at, kept_at, make_added, make_began, make_described, make_progress, make_broke, make_restarted, make_finishing, make_done, make_reopened, make_restored, added_at, began_at, described_at, progress_at, broke_at, paused_at, cancelled_at, restarted_at, finishing_at, done_at, removed_at, archived_at, reopened_at, restored_at, asked_at, entry_at}
use Rattle.dm_record.proofs.Exact.{Exact, Branch, made, next, tagged, respelled_by}
use Rattle.dm_record.proofs.ExactFields.{text_exact, optional_exact}
use Rattle.dm_record.proofs.ExactValues.{u32_exact, u64_exact, id_exact, epoch_exact, attempt_exact, digest_exact, key_exact, reason_exact, slices_exact, phase_exact, flag_exact, by_exact, within_exact, FitsKey, FitsSlices, FitsPhase}

-- the entries that are made of fields so
abbrev Made : {X : Type 0} → (X → Entry) → Entry → Type 0
Made {X} make entry = (x : X) × (make x ≡ entry) × IsEntry (make x)

kind_exact : {X : Type 0} {spell : X → List ℕ} {Fits : X → Type 0} {read : List ℕ → Reading X} (make : X → Entry)
    → ((x : X) → Fits x → IsEntry (make x)) → ((x : X) → IsEntry (make x) → Fits x) → ((x : X) → fields_of (make x) ≡ spell x)
    → Exact spell Fits read → Exact fields_of (Made make) (made_by make read)
kind_exact {X} {spell} {Fits} {read} make to from same exact =
    made spell Fits read fields_of (Made make) make (λ x fits. ((x, refl, to x fits), same x)) (λ entry fits. (fits.0, fits.1, from fits.0 fits.2)) exact

made_out : {X : Type 0} (make : X → Entry) (kind : ℕ) → ((x : X) → kind_of (make x) ≡ kind) → (entry : Entry) → Made make entry → IsEntry entry × (kind_of entry ≡ kind)
made_out make kind is entry of = subst (λ (e : Entry). IsEntry e × (kind_of e ≡ kind)) of.1 (of.2, is of.0)

added_exact : Exact fields_of (Made make_added) added_at
unfolding added_at
added_exact = kind_exact make_added (λ x f. ((f.1.0.0, f.1.1.0.0, f.1.1.1.0.0), (f.0, f.1.0.1, f.1.1.0.1, f.1.1.1.0.1, f.1.1.1.1.0, f.1.1.1.1.1))) (λ x f. (f.1.0, ((f.0.0, f.1.1), ((f.0.1, f.1.2), ((f.0.2, f.1.3), (f.1.4, f.1.5)))))) (λ x. refl)
    (next id_exact (next (text_exact 64 (omega arith)) (next (text_exact 4096 (omega arith)) (next (text_exact 255 (omega arith)) (next (optional_exact digest IsDigest digest_at digest_exact) u64_exact)))))

began_exact : Exact fields_of (Made make_began) began_at
unfolding began_at
began_exact = kind_exact make_began (λ x f. (tt, (f.0, f.1.0, f.1.1.1))) (λ x f. (f.1.0, (f.1.1, (tt, f.1.2)))) (λ x. refl)
    (next id_exact (next attempt_exact (next by_exact u64_exact)))

described_exact : Exact fields_of (Made make_described) described_at
unfolding described_at
described_exact = kind_exact make_described (λ x f. ((f.1.0.0, f.1.1.0.0, f.1.1.1.1.0.0, f.1.1.1.1.1.0), (f.0, f.1.0.1, f.1.1.0.1, f.1.1.1.0, f.1.1.1.1.0.1, f.1.1.1.1.1.1))) (λ x f. (f.1.0, ((f.0.0, f.1.1), ((f.0.1, f.1.2), (f.1.3, ((f.0.2, f.1.4), (f.0.3, f.1.5))))))) (λ x. refl)
    (next id_exact (next key_exact (next (text_exact 4096 (omega arith)) (next (optional_exact (number w64) (λ n. n < 2 ^ 64) (number_at w64) u64_exact) (next (text_exact 255 (omega arith)) (text_exact 128 (omega arith)))))))

progress_exact : Exact fields_of (Made make_progress) progress_at
unfolding progress_at
progress_exact = kind_exact make_progress (λ x f. (f.1.0, (f.0, f.1.1))) (λ x f. (f.1.0, (f.0, f.1.1))) (λ x. refl)
    (next id_exact slices_exact)

broke_exact : Exact fields_of (Made make_broke) broke_at
unfolding broke_at
broke_exact = kind_exact make_broke (λ x f. (tt, f.0)) (λ x f. (f.1, tt)) (λ x. refl)
    (next id_exact reason_exact)

paused_exact : Exact fields_of (Made Paused) paused_at
unfolding paused_at
paused_exact = kind_exact Paused (λ x f. (tt, f)) (λ x f. f.1) (λ x. refl)
    (id_exact)

cancelled_exact : Exact fields_of (Made Cancelled) cancelled_at
unfolding cancelled_at
cancelled_exact = kind_exact Cancelled (λ x f. (tt, f)) (λ x f. f.1) (λ x. refl)
    (id_exact)

restarted_exact : Exact fields_of (Made make_restarted) restarted_at
unfolding restarted_at
restarted_exact = kind_exact make_restarted (λ x f. (f.1.1, (f.0, f.1.0))) (λ x f. (f.1.0, (f.1.1, f.0))) (λ x. refl)
    (next id_exact (next epoch_exact (within_exact 1 4 (omega arith))))

finishing_exact : Exact fields_of (Made make_finishing) finishing_at
unfolding finishing_at
finishing_exact = kind_exact make_finishing (λ x f. (tt, f)) (λ x f. f.1) (λ x. refl)
    (next id_exact u64_exact)

done_exact : Exact fields_of (Made make_done) done_at
unfolding done_at
done_exact = kind_exact make_done (λ x f. (tt, (f.0, f.1.0, f.1.1))) (λ x f. (f.1.0, (f.1.1, f.1.2))) (λ x. refl)
    (next id_exact (next digest_exact u64_exact))

removed_exact : Exact fields_of (Made Removed) removed_at
unfolding removed_at
removed_exact = kind_exact Removed (λ x f. (tt, f)) (λ x f. f.1) (λ x. refl)
    (id_exact)

archived_exact : Exact fields_of (Made Archived) archived_at
unfolding archived_at
archived_exact = kind_exact Archived (λ x f. (tt, f)) (λ x f. f.1) (λ x. refl)
    (id_exact)

reopened_exact : Exact fields_of (Made make_reopened) reopened_at
unfolding reopened_at
reopened_exact = kind_exact make_reopened (λ x f. (tt, f)) (λ x f. f.1) (λ x. refl)
    (next u32_exact u64_exact)

-- ---- an item, in five parts

abbrev make_order : ItemId × (List ℕ × (List ℕ × (List ℕ × Option (List ℕ)))) → Order
make_order x = record { id = x.0; word = x.1.0; first_address = x.1.1.0; wish = x.1.1.1.0; digest = x.1.1.1.1 }

abbrev order_spelling : Order → List ℕ
order_spelling o = number w32 o.id.0 ++ (text o.word ++ (text o.first_address ++ (text o.wish ++ optional digest o.digest)))

abbrev FitsOrder : Order → Type 0
FitsOrder o = (o.id.0 < 2 ^ 32) × ((AtMost 64 o.word × IsBytes o.word) × ((AtMost 4096 o.first_address × IsBytes o.first_address) × ((AtMost 255 o.wish × IsBytes o.wish) × IfSome o.digest IsDigest)))

order_exact : Exact order_spelling FitsOrder order_at
unfolding order_at
order_exact =
    respelled_by make_order order_spelling FitsOrder (λ o. (o.id, (o.word, (o.first_address, (o.wish, o.digest))))) (λ x. refl) (λ o. refl) (λ x fits. fits) (λ o fits. fits)
    (next id_exact (next (text_exact 64 (omega arith)) (next (text_exact 4096 (omega arith)) (next (text_exact 255 (omega arith)) (optional_exact digest IsDigest digest_at digest_exact)))))

abbrev make_course : Epoch × (Attempt × (ℕ × Bool)) → Course
make_course x = record { epoch = x.0; attempt = x.1.0; autos = x.1.1.0; begun = x.1.1.1 }

abbrev course_spelling : Course → List ℕ
course_spelling c = number w32 c.epoch.0 ++ (number w32 c.attempt.0 ++ (number w32 c.autos ++ flag_byte c.begun ∷ []))

abbrev FitsCourse : Course → Type 0
FitsCourse c = (c.epoch.0 < 2 ^ 32) × ((c.attempt.0 < 2 ^ 32) × ((c.autos < 2 ^ 32) × Unit {0}))

course_exact : Exact course_spelling FitsCourse course_at
unfolding course_at
course_exact =
    respelled_by make_course course_spelling FitsCourse (λ c. (c.epoch, (c.attempt, (c.autos, c.begun)))) (λ x. refl) (λ c. refl) (λ x fits. fits) (λ c fits. fits)
    (next epoch_exact (next attempt_exact (next u32_exact flag_exact)))

abbrev make_told : Option Key × (Option (List ℕ) × (Option ℕ × (Option (List ℕ) × Option (List ℕ)))) → Told
make_told x = record { key = x.0; last_address = x.1.0; total = x.1.1.0; name = x.1.1.1.0; modified = x.1.1.1.1 }

abbrev told_spelling : Told → List ℕ
told_spelling t = optional key t.key ++ (optional text t.last_address ++ (optional (number w64) t.total ++ (optional text t.name ++ optional text t.modified)))

abbrev Limited : ℕ → List ℕ → Type 0
Limited limit bytes = AtMost limit bytes × IsBytes bytes

abbrev FitsTold : Told → Type 0
FitsTold t = IfSome t.key FitsKey × (IfSome t.last_address (Limited 4096) × (IfSome t.total (λ n. n < 2 ^ 64) × (IfSome t.name (Limited 255) × IfSome t.modified (Limited 128))))

told_exact : Exact told_spelling FitsTold told_at
unfolding told_at
told_exact =
    respelled_by make_told told_spelling FitsTold (λ t. (t.key, (t.last_address, (t.total, (t.name, t.modified))))) (λ x. refl) (λ t. refl) (λ x fits. fits) (λ t fits. fits)
    (next (optional_exact key FitsKey key_at key_exact) (next (optional_exact text (Limited 4096) (text_at 4096) (text_exact 4096 (omega arith))) (next (optional_exact (number w64) (λ n. n < 2 ^ 64) (number_at w64) u64_exact)
    (next (optional_exact text (Limited 255) (text_at 255) (text_exact 255 (omega arith))) (optional_exact text (Limited 128) (text_at 128) (text_exact 128 (omega arith)))))))

abbrev make_kept : List Slice × (Option (List ℕ) × ℕ) → Kept
make_kept x = record { slices = x.0; have = x.1.0; at_ms = x.1.1 }

abbrev kept_spelling : Kept → List ℕ
kept_spelling k = slices k.slices ++ (optional digest k.have ++ number w64 k.at_ms)

abbrev FitsKept : Kept → Type 0
FitsKept k = FitsSlices k.slices × (IfSome k.have IsDigest × (k.at_ms < 2 ^ 64))

kept_exact : Exact kept_spelling FitsKept kept_at
unfolding kept_at
kept_exact =
    respelled_by make_kept kept_spelling FitsKept (λ k. (k.slices, (k.have, k.at_ms))) (λ x. refl) (λ k. refl) (λ x fits. fits) (λ k fits. fits)
    (next slices_exact (next (optional_exact digest IsDigest digest_at digest_exact) u64_exact))

if_both : {A : Type 0} (P Q : A → Type 0) (o : Option A) → IfSome o P → IfSome o Q → IfSome o (λ a. P a × Q a)
if_both P Q None p q = tt
if_both P Q (Some a) p q = (p, q)

if_left : {A : Type 0} (P Q : A → Type 0) (o : Option A) → IfSome o (λ a. P a × Q a) → IfSome o P
if_left P Q None both = tt
if_left P Q (Some a) both = both.0

if_right : {A : Type 0} (P Q : A → Type 0) (o : Option A) → IfSome o (λ a. P a × Q a) → IfSome o Q
if_right P Q None both = tt
if_right P Q (Some a) both = both.1

abbrev ItemParts : Type 0
ItemParts = Order × ((Phase × Option Reason) × (Course × (Told × Kept)))

abbrev parts_of : Item → ItemParts
parts_of i = (
  record { id = i.id; word = i.word; first_address = i.first_address; wish = i.wish; digest = i.digest },
  (
    (i.phase, i.reason),
    (
      record { epoch = i.epoch; attempt = i.attempt; autos = i.autos; begun = i.begun },
      (record { key = i.key; last_address = i.last_address; total = i.total; name = i.name; modified = i.modified }, record { slices = i.slices; have = i.have; at_ms = i.at_ms }),
    ),
  ),
)

abbrev FitsParts : ItemParts → Type 0
FitsParts x = FitsOrder x.0 × (FitsPhase x.1.0 × (FitsCourse x.1.1.0 × (FitsTold x.1.1.1.0 × FitsKept x.1.1.1.1)))

parts_to : (x : ItemParts) → FitsParts x → IsEntry (make_restored x)
parts_to x f =
    let order = f.0 in
    let course = f.1.1.0 in
    let t = x.1.1.1.0 in
    let told = f.1.1.1.0 in
    let kept = f.1.1.1.1 in (
      record {
        word = order.1.0.0;
        first_address = order.1.1.0.0;
        wish = order.1.1.1.0.0;
        reason = f.1.0;
        key = if_left IsTag IsKey t.key told.0;
        last_address = if_left (AtMost 4096) IsBytes t.last_address told.1.0;
        name = if_left (AtMost 255) IsBytes t.name told.1.1.1.0;
        modified = if_left (AtMost 128) IsBytes t.modified told.1.1.1.1;
        slices = kept.0.0;
      },
      record {
        id = order.0;
        word = order.1.0.1;
        first_address = order.1.1.0.1;
        wish = order.1.1.1.0.1;
        digest = order.1.1.1.1;
        epoch = course.0;
        attempt = course.1.0;
        autos = course.1.1.0;
        key = if_right IsTag IsKey t.key told.0;
        last_address = if_right (AtMost 4096) IsBytes t.last_address told.1.0;
        total = told.1.1.0;
        name = if_right (AtMost 255) IsBytes t.name told.1.1.1.0;
        modified = if_right (AtMost 128) IsBytes t.modified told.1.1.1.1;
        slices = kept.0.1;
        have = kept.1.0;
        at_ms = kept.1.1;
      },
    )

parts_from : (x : ItemParts) → IsEntry (make_restored x) → FitsParts x
parts_from x f =
    let s = f.0 in
    let r = f.1 in
    let t = x.1.1.1.0 in (
      (r.id, ((s.word, r.word), ((s.first_address, r.first_address), ((s.wish, r.wish), r.digest)))),
      (
        s.reason,
        (
          (r.epoch, (r.attempt, (r.autos, tt))),
          (
            (if_both IsTag IsKey t.key s.key r.key, (if_both (AtMost 4096) IsBytes t.last_address s.last_address r.last_address, (r.total, (if_both (AtMost 255) IsBytes t.name s.name r.name, if_both (AtMost 128) IsBytes t.modified s.modified r.modified)))),
            ((s.slices, r.slices), (r.have, r.at_ms)),
          ),
        ),
      ),
    )

restored_exact : Exact fields_of (Made make_restored) restored_at
unfolding restored_at
restored_exact = kind_exact make_restored parts_to parts_from (λ x. refl) (next order_exact (next phase_exact (next course_exact (next told_exact kept_exact))))

-- ---- the last kind

asked_exact : Exact fields_of (Made Asked) asked_at
unfolding asked_at
asked_exact = kind_exact Asked (λ x f. (tt, f)) (λ x f. f.1) (λ x. refl)
    (id_exact)

-- ---- all kinds

-- the entries of a kind
abbrev EntryOf : ℕ → Entry → Type 0
EntryOf zero entry = ⊥
EntryOf (suc zero) entry = Made make_added entry
EntryOf (suc (suc zero)) entry = Made make_began entry
EntryOf (suc (suc (suc zero))) entry = Made make_described entry
EntryOf (suc (suc (suc (suc zero)))) entry = Made make_progress entry
EntryOf (suc (suc (suc (suc (suc zero))))) entry = Made make_broke entry
EntryOf (suc (suc (suc (suc (suc (suc zero)))))) entry = Made Paused entry
EntryOf (suc (suc (suc (suc (suc (suc (suc zero))))))) entry = Made Cancelled entry
EntryOf (suc (suc (suc (suc (suc (suc (suc (suc zero)))))))) entry = Made make_restarted entry
EntryOf (suc (suc (suc (suc (suc (suc (suc (suc (suc zero))))))))) entry = Made make_finishing entry
EntryOf (suc (suc (suc (suc (suc (suc (suc (suc (suc (suc zero)))))))))) entry = Made make_done entry
EntryOf (suc (suc (suc (suc (suc (suc (suc (suc (suc (suc (suc zero))))))))))) entry = Made Removed entry
EntryOf (suc (suc (suc (suc (suc (suc (suc (suc (suc (suc (suc (suc zero)))))))))))) entry = Made Archived entry
EntryOf (suc (suc (suc (suc (suc (suc (suc (suc (suc (suc (suc (suc (suc zero))))))))))))) entry = Made make_reopened entry
EntryOf (suc (suc (suc (suc (suc (suc (suc (suc (suc (suc (suc (suc (suc (suc zero)))))))))))))) entry = Made make_restored entry
EntryOf (suc (suc (suc (suc (suc (suc (suc (suc (suc (suc (suc (suc (suc (suc (suc zero))))))))))))))) entry = Made Asked entry
EntryOf (suc (suc (suc (suc (suc (suc (suc (suc (suc (suc (suc (suc (suc (suc (suc (suc n)))))))))))))))) entry = ⊥

entry_into : (entry : Entry) → IsEntry entry → EntryOf (kind_of entry) entry
entry_into (Added id word address wish stated at) fits = ((id, (word, (address, (wish, (stated, at))))), refl, fits)
entry_into (Began id attempt by at) fits = ((id, (attempt, (by, at))), refl, fits)
entry_into (Described id k last_address total name modified) fits = ((id, (k, (last_address, (total, (name, modified))))), refl, fits)
entry_into (Progress id cover) fits = ((id, cover), refl, fits)
entry_into (Broke id r) fits = ((id, r), refl, fits)
entry_into (Paused id) fits = (id, refl, fits)
entry_into (Cancelled id) fits = (id, refl, fits)
entry_into (Restarted id epoch because) fits = ((id, (epoch, because)), refl, fits)
entry_into (Finishing id total) fits = ((id, total), refl, fits)
entry_into (Done id have at) fits = ((id, (have, at)), refl, fits)
entry_into (Removed id) fits = (id, refl, fits)
entry_into (Archived id) fits = (id, refl, fits)
entry_into (Reopened next at) fits = ((next, at), refl, fits)
entry_into (Restored item) fits = (parts_of item, refl, fits)
entry_into (Asked id) fits = (id, refl, fits)

entry_out : (kind : ℕ) (entry : Entry) → EntryOf kind entry → IsEntry entry × (kind_of entry ≡ kind)
entry_out zero entry of = absurd of
entry_out (suc zero) entry of = made_out make_added 1 (λ x. refl) entry of
entry_out (suc (suc zero)) entry of = made_out make_began 2 (λ x. refl) entry of
entry_out (suc (suc (suc zero))) entry of = made_out make_described 3 (λ x. refl) entry of
entry_out (suc (suc (suc (suc zero)))) entry of = made_out make_progress 4 (λ x. refl) entry of
entry_out (suc (suc (suc (suc (suc zero))))) entry of = made_out make_broke 5 (λ x. refl) entry of
entry_out (suc (suc (suc (suc (suc (suc zero)))))) entry of = made_out Paused 6 (λ x. refl) entry of
entry_out (suc (suc (suc (suc (suc (suc (suc zero))))))) entry of = made_out Cancelled 7 (λ x. refl) entry of
entry_out (suc (suc (suc (suc (suc (suc (suc (suc zero)))))))) entry of = made_out make_restarted 8 (λ x. refl) entry of
entry_out (suc (suc (suc (suc (suc (suc (suc (suc (suc zero))))))))) entry of = made_out make_finishing 9 (λ x. refl) entry of
entry_out (suc (suc (suc (suc (suc (suc (suc (suc (suc (suc zero)))))))))) entry of = made_out make_done 10 (λ x. refl) entry of
entry_out (suc (suc (suc (suc (suc (suc (suc (suc (suc (suc (suc zero))))))))))) entry of = made_out Removed 11 (λ x. refl) entry of
entry_out (suc (suc (suc (suc (suc (suc (suc (suc (suc (suc (suc (suc zero)))))))))))) entry of = made_out Archived 12 (λ x. refl) entry of
entry_out (suc (suc (suc (suc (suc (suc (suc (suc (suc (suc (suc (suc (suc zero))))))))))))) entry of = made_out make_reopened 13 (λ x. refl) entry of
entry_out (suc (suc (suc (suc (suc (suc (suc (suc (suc (suc (suc (suc (suc (suc zero)))))))))))))) entry of = made_out make_restored 14 (λ x. refl) entry of
entry_out (suc (suc (suc (suc (suc (suc (suc (suc (suc (suc (suc (suc (suc (suc (suc zero))))))))))))))) entry of = made_out Asked 15 (λ x. refl) entry of
entry_out (suc (suc (suc (suc (suc (suc (suc (suc (suc (suc (suc (suc (suc (suc (suc (suc n)))))))))))))))) entry of = absurd of

entry_branch : (kind : ℕ) → Branch fields_of (EntryOf kind) entry_at kind
unfolding entry_at
entry_branch zero = inr ((λ rest. refl), λ entry of. of)
entry_branch (suc zero) = inl added_exact
entry_branch (suc (suc zero)) = inl began_exact
entry_branch (suc (suc (suc zero))) = inl described_exact
entry_branch (suc (suc (suc (suc zero)))) = inl progress_exact
entry_branch (suc (suc (suc (suc (suc zero))))) = inl broke_exact
entry_branch (suc (suc (suc (suc (suc (suc zero)))))) = inl paused_exact
entry_branch (suc (suc (suc (suc (suc (suc (suc zero))))))) = inl cancelled_exact
entry_branch (suc (suc (suc (suc (suc (suc (suc (suc zero)))))))) = inl restarted_exact
entry_branch (suc (suc (suc (suc (suc (suc (suc (suc (suc zero))))))))) = inl finishing_exact
entry_branch (suc (suc (suc (suc (suc (suc (suc (suc (suc (suc zero)))))))))) = inl done_exact
entry_branch (suc (suc (suc (suc (suc (suc (suc (suc (suc (suc (suc zero))))))))))) = inl removed_exact
entry_branch (suc (suc (suc (suc (suc (suc (suc (suc (suc (suc (suc (suc zero)))))))))))) = inl archived_exact
entry_branch (suc (suc (suc (suc (suc (suc (suc (suc (suc (suc (suc (suc (suc zero))))))))))))) = inl reopened_exact
entry_branch (suc (suc (suc (suc (suc (suc (suc (suc (suc (suc (suc (suc (suc (suc zero)))))))))))))) = inl restored_exact
entry_branch (suc (suc (suc (suc (suc (suc (suc (suc (suc (suc (suc (suc (suc (suc (suc zero))))))))))))))) = inl asked_exact
entry_branch (suc (suc (suc (suc (suc (suc (suc (suc (suc (suc (suc (suc (suc (suc (suc (suc n)))))))))))))))) = inr ((λ rest. refl), λ entry of. of)

entry_empty : entry_at [] ≡ Err stops.Short
unfolding entry_at
entry_empty = refl

pub entry_exact : Exact spelling_of IsEntry entry_at
entry_exact = tagged kind_of fields_of IsEntry EntryOf entry_at entry_into entry_out entry_empty entry_branch (Reopened 0 0, (tt, (omega arith, omega arith)))
