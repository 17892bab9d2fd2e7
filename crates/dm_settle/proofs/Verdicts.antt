-- What an item is judged to be, by what its one file holds.
use Rattle.std.proofs.Common.{◌≡◌, ℕ, ◌<◌, ◌≤◌, Bool, true, false, not, nat_lt, cond, IsTrue, List, length, take, Option, Some, None, refl, sym, ◌∙◌, ap, subst, arith}
use Rattle.std.specs.Prelude.{IfSome, Contains}
use Rattle.std.specs.Str.{bytes_eq}
use Rattle.std.proofs.lemmas.Bool.{false≢true}
use Rattle.std.proofs.lemmas.Bool.Decides.{nat_tests}
use Rattle.std.proofs.lemmas.Slice.Eq.{bytes_eq-Decides}
use Rattle.sha2.specs.Sha256.{sha256}
use Rattle.dm_types.specs.declared.entry.Entry.TheVariants as entries
use Rattle.dm_types.specs.declared.item.Item.{Item}
use Rattle.dm_types.specs.declared.item.ItemId.{ItemId}
use Rattle.dm_types.specs.declared.reason.Reason.TheVariants as reasons
use Rattle.dm_disk_model.specs.declared.place.Place.{Place}
use Rattle.dm_disk_model.specs.Disk.{DiskState, bytes_at}
use Rattle.dm_store.specs.Lives.{part_place}
use Rattle.dm_answers.specs.Settling.{is_stated_other, name_place, settled_by, settled_of, whole_of}
use Rattle.dm_settle.specs.Judging.{IsAlone, IsFit, Judges, JudgedAs, LiesWhole, Weighs, entry_of, judged_by}
use Rattle.dm_settle.specs.Moving.{IsMovingOf}
use Rattle.dm_settle.specs.declared.judging.Judged.{Judged}
use Rattle.dm_settle.specs.declared.judging.Judged.TheVariants as judgements
use Rattle.dm_settle.specs.declared.judging.Weighed.{Weighed}
use Rattle.dm_settle.specs.declared.judging.Weighed.TheVariants as weights
use Rattle.dm_settle.specs.declared.moving.Moving.{Moving}

less_is : (a b : ℕ) → a < b → nat_lt a b ≡ true
less_is a b less = grind (arith, nat_tests)

less_not : (a b : ℕ) → b ≤ a → nat_lt a b ≡ false
less_not a b most = grind (arith, nat_tests)

-- whole, the entry goes by the sum alone
entry_place : (id : ItemId) (at : ℕ) (sum : List ℕ) (in_part : Bool) → entry_of id at (cond in_part (judgements.InPart sum) (judgements.Named sum)) ≡ entries.Done id sum at
entry_place id at sum true = refl
entry_place id at sum false = refl

entry_whole : (id : ItemId) (at : ℕ) (sum : List ℕ) (in_part other : Bool) → entry_of id at (cond other (judgements.Broken reasons.FileHashMismatch) (cond in_part (judgements.InPart sum) (judgements.Named sum)))
    ≡ cond other (entries.Broke id reasons.FileHashMismatch) (entries.Done id sum at)
entry_whole id at sum in_part true = refl
entry_whole id at sum in_part false = entry_place id at sum in_part

settled_short : (item : Item) (at : ℕ) (found : Option (List ℕ)) → ((bytes : List ℕ) → found ≡ Some bytes → length bytes < whole_of item) → entries.Broke item.id reasons.FileTooShort ≡ settled_of item at found
settled_short item at None short = refl
settled_short item at (Some bytes) short =
    sym (ap (λ (b : Bool). cond b (entries.Broke item.id reasons.FileTooShort)
    (cond (is_stated_other item.digest (sha256 (take (whole_of item) bytes))) (entries.Broke item.id reasons.FileHashMismatch) (entries.Done item.id (sha256 (take (whole_of item) bytes)) at)))
    (less_is (length bytes) (whole_of item) (short bytes refl)))

settled_whole : (item : Item) (at : ℕ) (bytes sum : List ℕ) → whole_of item ≤ length bytes → sum ≡ sha256 (take (whole_of item) bytes)
    → cond (is_stated_other item.digest sum) (entries.Broke item.id reasons.FileHashMismatch) (entries.Done item.id sum at) ≡ settled_by item at bytes
settled_whole item at bytes sum long is =
    ap (λ (s : List ℕ). cond (is_stated_other item.digest s) (entries.Broke item.id reasons.FileHashMismatch) (entries.Done item.id s at)) is
    ∙ sym (ap (λ (b : Bool). cond b (entries.Broke item.id reasons.FileTooShort)
    (cond (is_stated_other item.digest (sha256 (take (whole_of item) bytes))) (entries.Broke item.id reasons.FileHashMismatch) (entries.Done item.id (sha256 (take (whole_of item) bytes)) at)))
    (less_not (length bytes) (whole_of item) long))

-- The judgement is that of the bytes.
pub weighed_settles : (item : Item) (in_part : Bool) (found : Option (List ℕ)) (weighed : Weighed) (at : ℕ) → Weighs found (whole_of item) weighed → entry_of item.id at (judged_by in_part item.digest weighed) ≡ settled_of item at found
weighed_settles item in_part found weights.Short at short = settled_short item at found short
weighed_settles item in_part found (weights.Whole sum) at has =
    entry_whole item.id at sum in_part (is_stated_other item.digest sum)
    ∙ settled_whole item at has.bytes sum has.long has.sum_is
    ∙ ap (settled_of item at) (sym has.is)

-- a sum that isn't another than the stated one is it
stated_same : (stated : Option (List ℕ)) (sum : List ℕ) → is_stated_other stated sum ≡ false → IfSome stated (λ digest. digest ≡ sum)
stated_same None sum same = tt
stated_same (Some digest) sum same = (bytes_eq-Decides digest sum).0 (not_false (bytes_eq digest sum) same)
  where
    not_false : (b : Bool) → not b ≡ false → b ≡ true
    not_false true is = refl
    not_false false is = absurd (false≢true (sym is))

fit_place : (stated : Option (List ℕ)) (sum : List ℕ) (in_part : Bool) → IfSome stated (λ digest. digest ≡ sum) → IsFit stated (cond in_part (judgements.InPart sum) (judgements.Named sum))
fit_place stated sum true same = same
fit_place stated sum false same = same

-- over every disk it is one with which items are settled
pub weighed_fits : (in_part : Bool) (stated : Option (List ℕ)) (weighed : Weighed) → IsFit stated (judged_by in_part stated weighed)
weighed_fits in_part stated weights.Short = refl
weighed_fits in_part stated (weights.Whole sum) = by (is_stated_other stated sum) refl
  where
    by : (other : Bool) → is_stated_other stated sum ≡ other → IsFit stated (cond other (judgements.Broken reasons.FileHashMismatch) (cond in_part (judgements.InPart sum) (judgements.Named sum)))
    by true is = refl
    by false is = fit_place stated sum in_part (stated_same stated sum is)

part_lies : (disk : DiskState) (moving : Moving) (stated : Option (List ℕ)) (weighed : Weighed) → Weighs (bytes_at disk moving.part) moving.total weighed → LiesWhole disk moving (judged_by true stated weighed)
part_lies disk moving stated weights.Short has = tt
part_lies disk moving stated (weights.Whole sum) has = by (is_stated_other stated sum)
  where
    by : (other : Bool) → LiesWhole disk moving (cond other (judgements.Broken reasons.FileHashMismatch) (judgements.InPart sum))
    by true = tt
    by false = has

name_lies : (disk : DiskState) (moving : Moving) (stated : Option (List ℕ)) (weighed : Weighed) → Weighs (bytes_at disk moving.target) moving.total weighed → LiesWhole disk moving (judged_by false stated weighed)
name_lies disk moving stated weights.Short has = tt
name_lies disk moving stated (weights.Whole sum) has = by (is_stated_other stated sum)
  where
    by : (other : Bool) → LiesWhole disk moving (cond other (judgements.Broken reasons.FileHashMismatch) (judgements.Named sum))
    by true = tt
    by false = has

part_alone : (part_listed name_listed : Bool) (stated : Option (List ℕ)) (weighed : Weighed) → part_listed ≡ true → name_listed ≡ false → IsAlone part_listed name_listed (judged_by true stated weighed)
part_alone part_listed name_listed stated weights.Short part name = tt
part_alone part_listed name_listed stated (weights.Whole sum) part name = by (is_stated_other stated sum)
  where
    by : (other : Bool) → IsAlone part_listed name_listed (cond other (judgements.Broken reasons.FileHashMismatch) (judgements.InPart sum))
    by true = tt
    by false = (part, name)

name_alone : (part_listed name_listed : Bool) (stated : Option (List ℕ)) (weighed : Weighed) → IsAlone part_listed name_listed (judged_by false stated weighed)
name_alone part_listed name_listed stated weights.Short = tt
name_alone part_listed name_listed stated (weights.Whole sum) = by (is_stated_other stated sum)
  where
    by : (other : Bool) → IsAlone part_listed name_listed (cond other (judgements.Broken reasons.FileHashMismatch) (judgements.Named sum))
    by true = tt
    by false = tt

-- What is judged in each of the four ways.
module _ (tells : Type 0) (disk : DiskState) (names : List (List ℕ)) (moving : Moving) (part_listed name_listed : Bool) (part_is : (IsTrue part_listed → Contains names moving.part.name) × (Contains names moving.part.name → IsTrue part_listed))
    (name_is : (IsTrue name_listed → Contains names moving.target.name) × (Contains names moving.target.name → IsTrue name_listed)) where
  pub judges_both : part_listed ≡ true → name_listed ≡ true → Judges tells disk names moving (judgements.Broken reasons.FileFailed)
  judges_both part name = record {
    fit = refl;
    part_listed = part_listed;
    name_listed = name_listed;
    part_is = part_is;
    name_is = name_is;
    alone = tt;
    as_found = λ told item is.
        subst (λ (b : Bool). JudgedAs disk item b name_listed (judgements.Broken reasons.FileFailed)) (sym part) (subst (λ (b : Bool). JudgedAs disk item true b (judgements.Broken reasons.FileFailed)) (sym name) refl);
    lies = λ told. tt;
  }

  pub judges_none : part_listed ≡ false → name_listed ≡ false → Judges tells disk names moving (judgements.Broken reasons.FileTooShort)
  judges_none part name = record {
    fit = refl;
    part_listed = part_listed;
    name_listed = name_listed;
    part_is = part_is;
    name_is = name_is;
    alone = tt;
    as_found = λ told item is.
        subst (λ (b : Bool). JudgedAs disk item b name_listed (judgements.Broken reasons.FileTooShort)) (sym part) (subst (λ (b : Bool). JudgedAs disk item false b (judgements.Broken reasons.FileTooShort)) (sym name) refl);
    lies = λ told. tt;
  }

  module _ (weighed : Weighed) (judged : Judged) where
    settled_as : (item : Item) → IsMovingOf item moving → (in_part : Bool) (place own : Place) → place ≡ own → Weighs (bytes_at disk place) moving.total weighed → judged ≡ judged_by in_part moving.digest weighed
        → (at : ℕ) → entry_of item.id at judged ≡ settled_of item at (bytes_at disk own)
    settled_as item is in_part place own here weighs judged_is at =
        ap (entry_of item.id at) (judged_is ∙ ap (λ (d : Option (List ℕ)). judged_by in_part d weighed) is.digest)
        ∙ weighed_settles item in_part (bytes_at disk own) weighed at (subst (λ (p : Place). Weighs (bytes_at disk p) (whole_of item) weighed) here (subst (λ (n : ℕ). Weighs (bytes_at disk place) n weighed) is.total weighs))

    pub judges_part : part_listed ≡ true → name_listed ≡ false → judged ≡ judged_by true moving.digest weighed → (tells → Weighs (bytes_at disk moving.part) moving.total weighed) → Judges tells disk names moving judged
    judges_part part name judged_is weighs = record {
      fit = subst (IsFit moving.digest) (sym judged_is) (weighed_fits true moving.digest weighed);
      part_listed = part_listed;
      name_listed = name_listed;
      part_is = part_is;
      name_is = name_is;
      alone = subst (IsAlone part_listed name_listed) (sym judged_is) (part_alone part_listed name_listed moving.digest weighed part name);
      as_found = λ told item is.
          subst (λ (b : Bool). JudgedAs disk item b name_listed judged) (sym part)
          (subst (λ (b : Bool). JudgedAs disk item true b judged) (sym name) (settled_as item is true moving.part (part_place item.id.0 item.epoch.0) is.part (weighs told) judged_is));
      lies = λ told. subst (LiesWhole disk moving) (sym judged_is) (part_lies disk moving moving.digest weighed (weighs told));
    }

    pub judges_name : part_listed ≡ false → name_listed ≡ true → judged ≡ judged_by false moving.digest weighed → (tells → Weighs (bytes_at disk moving.target) moving.total weighed) → Judges tells disk names moving judged
    judges_name part name judged_is weighs = record {
      fit = subst (IsFit moving.digest) (sym judged_is) (weighed_fits false moving.digest weighed);
      part_listed = part_listed;
      name_listed = name_listed;
      part_is = part_is;
      name_is = name_is;
      alone = subst (IsAlone part_listed name_listed) (sym judged_is) (name_alone part_listed name_listed moving.digest weighed);
      as_found = λ told item is.
          subst (λ (b : Bool). JudgedAs disk item b name_listed judged) (sym part)
          (subst (λ (b : Bool). JudgedAs disk item false b judged) (sym name) (settled_as item is false moving.target (name_place item) is.target (weighs told) judged_is));
      lies = λ told. subst (LiesWhole disk moving) (sym judged_is) (name_lies disk moving moving.digest weighed (weighs told));
    }
