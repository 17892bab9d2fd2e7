-- In a sound image a complete item's name holds the whole content, and no name less.
use Rattle.std.proofs.Common.{◌≡◌, ◌⊎◌, inl, inr, ℕ, Bool, true, false, List, reverse, Option, Some, None, refl, sym, ◌∙◌, ap, subst}
use Rattle.std.specs.Prelude.{◌||◌, IfSome, IsTrue, is_some}
use Rattle.std.proofs.lemmas.Bool.{false≢true}
use Rattle.std.proofs.lemmas.Option.{get_or_from_slice_get, slice_get_within}
use Rattle.sha2.specs.Sha256.{sha256}
use Rattle.dm_types.specs.declared.item.Item.{Item}
use Rattle.dm_types.specs.declared.item.Key.{Key}
use Rattle.dm_types.specs.declared.item.Phase.{Phase}
use Rattle.dm_types.specs.declared.item.Phase.TheVariants as phases
use Rattle.dm_disk_model.specs.Disk.{Image}
use Rattle.dm_item.specs.History.{first_some}
use Rattle.dm_item.specs.Lawful.{History, IsLawful, items_of, left_by}
use Rattle.dm_item.specs.Listing.{item_in}
use Rattle.dm_item.specs.Restored.{IsDigestOf, IsSound}
use Rattle.dm_item.specs.Row.{is_cancelled, is_complete, is_finishing}
use Rattle.dm_item.proofs.Shorts.{sound_in}
use Rattle.dm_kept.specs.Files.{EachItem, FileSound, Says, Sound, claim_of, stage_of}
use Rattle.dm_part.specs.Keeping.{FoundAt, Going, IsContent, IsSaid, Moving, Published, Stage}
use Rattle.dm_does.specs.Headline.{HoldsWhole, IsThere, NothingOrWhole}

sound_of : (list : History) (id : ℕ) (item : Item) → IsLawful list → item_in id (items_of list) ≡ Some item → IsSound item
sound_of list id item lawful found = sound_in list (left_by 0 (reverse list)) id item (record { lawful = lawful; value = refl }) found

-- the digest that was found is the stated one, where both are
abbrev Agree : Option (List ℕ) → Option (List ℕ) → Type 0
Agree None stated = Unit {0}
Agree (Some have) stated = IfSome stated (λ digest. digest ≡ have)

agree_of : (is_done : Bool) (stated have : Option (List ℕ)) → IsDigestOf is_done stated have → Agree have stated
agree_of true stated None is = absurd is
agree_of true stated (Some have) is = is
agree_of false stated None is = tt
agree_of false stated (Some have) is = absurd (false≢true (sym is))

sum_is : (have stated : Option (List ℕ)) (bytes : List ℕ) → IfSome (first_some have stated) (λ digest. digest ≡ sha256 bytes) → IfSome have (λ digest. digest ≡ sha256 bytes)
sum_is None stated bytes is = tt
sum_is (Some have) stated bytes is = is

stated_is : (have stated : Option (List ℕ)) (bytes : List ℕ) → Agree have stated → IfSome (first_some have stated) (λ digest. digest ≡ sha256 bytes) → IfSome stated (λ digest. digest ≡ sha256 bytes)
stated_is None stated bytes agree is = is
stated_is (Some have) None bytes agree is = tt
stated_is (Some have) (Some stated) bytes agree is = agree ∙ is

whole_of : (says : Says) (image : Image) (item : Item) (name : List ℕ) (key : Key) (address bytes : List ℕ) → item.key ≡ Some key → item.last_address ≡ Some address → image.files name ≡ Some bytes → IsSaid (says address key) item.slices bytes
    → IsContent item.total (first_some item.have item.digest) item.slices bytes → Agree item.have item.digest → HoldsWhole says image item name
whole_of says image item name key address bytes key_is address_is stands said content agree = record {
  bytes = bytes;
  stands = stands;
  whole = content.ends;
  validator = key;
  validator_is = key_is;
  address = address;
  address_is = address_is;
  said = λ place byte at.
      let within = slice_get_within bytes place byte at in
      subst (says address key place) (get_or_from_slice_get bytes place byte 0 at) (said place (content.full place within)).1;
  sum = sum_is item.have item.digest bytes content.sum;
  stated = stated_is item.have item.digest bytes agree content.sum;
}

complete_is : (phase : Phase) → is_complete phase ≡ true → phase ≡ phases.Complete
complete_is phases.Complete is = refl
complete_is phase is = absurd (false≢true is)

brought : (phase : Phase) → is_complete phase ≡ true → IsTrue (is_finishing phase || is_complete phase)
brought phases.Complete is = refl
brought phase is = absurd (false≢true is)

-- what is told is there as a whole
record Told (item : Item) : Type 0 where
  key : Key
  key_is : item.key ≡ Some key
  address : List ℕ
  address_is : item.last_address ≡ Some address
  name : List ℕ
  name_is : item.name ≡ Some name

record Given {T : Type 0} (option : Option T) : Type 0 where
  value : T
  is : option ≡ Some value

given_of : {T : Type 0} (option : Option T) → is_some option ≡ true → Given option
given_of None is = absurd (false≢true is)
given_of (Some value) is = record { value = value; is = refl }

told_of : (item : Item) → IsSound item → is_some item.key ≡ true → Told item
told_of item sound has =
    let key = given_of item.key has in
    let address = given_of item.last_address (sound.told.has_address ∙ has) in
    let name = given_of item.name (sound.told.has_name ∙ has) in
    record { key = key.value; key_is = key.is; address = address.value; address_is = address.is; name = name.value; name_is = name.is }

pub there : (says : Says) (image : Image) (list : History) → IsLawful list → Sound says (items_of list) image → EachItem (λ item. IsTrue (is_complete item.phase) → IsThere says image item) (items_of list)
there says image list lawful sound id item found complete =
    let whole = sound_of list id item lawful found in
    let told = told_of item whole (whole.whole (brought item.phase complete)).has_key in
    let file : FileSound (says told.address told.key) image.files (Some Published) (claim_of told.name item.slices item) =
    subst (λ (phase : Phase). FileSound (says told.address told.key) image.files (stage_of phase) (claim_of told.name item.slices item)) (complete_is item.phase complete)
    (sound id item found told.key told.address told.name told.key_is told.address_is told.name_is) in
    record {
      name = told.name;
      named = told.name_is;
      holds = whole_of says image item told.name told.key told.address file.bytes told.key_is told.address_is file.found file.said file.whole (agree_of (is_complete item.phase) item.digest item.have whole.digest);
    }

-- by where the file is found
by_stage : (says : Says) (image : Image) (item : Item) (name : List ℕ) (key : Key) (address : List ℕ) (stage : Option Stage) → item.key ≡ Some key → item.last_address ≡ Some address → Agree item.have item.digest → (stage ≡ None → ⊥)
    → FileSound (says address key) image.files stage (claim_of name item.slices item) → (image.files name ≡ None) ⊎ HoldsWhole says image item name
by_stage says image item name key address None key_is address_is agree some file = absurd (some refl)
by_stage says image item name key address (Some Going) key_is address_is agree some file = inl file.found.1
by_stage says image item name key address (Some Published) key_is address_is agree some file =
    inr (whole_of says image item name key address file.bytes key_is address_is file.found file.said file.whole agree)
by_stage says image item name key address (Some Moving) key_is address_is agree some file = by file.found
  where
    by : FoundAt Moving (claim_of name item.slices item).part name file.bytes image.files → (image.files name ≡ None) ⊎ HoldsWhole says image item name
    by (inl parted) = inl parted.1
    by (inr named) = inr (whole_of says image item name key address file.bytes key_is address_is named.0 file.said file.whole agree)

staged : (phase : Phase) → is_cancelled phase ≡ false → stage_of phase ≡ None → ⊥
staged phases.Cancelled not_cancelled is = false≢true (sym not_cancelled)
staged phases.Waiting not_cancelled is = cc
staged phases.Running not_cancelled is = cc
staged phases.Paused not_cancelled is = cc
staged phases.Finishing not_cancelled is = cc
staged phases.Complete not_cancelled is = cc
staged (phases.Interrupted reason) not_cancelled is = cc

pub never_less : (says : Says) (image : Image) (list : History) → IsLawful list → Sound says (items_of list) image → EachItem (λ item. is_cancelled item.phase ≡ false → NothingOrWhole says image item) (items_of list)
never_less says image list lawful sound id item found not_cancelled name name_is =
    let whole = sound_of list id item lawful found in
    let told = told_of item whole (sym whole.told.has_name ∙ ap is_some name_is) in
    by_stage says image item name told.key told.address (stage_of item.phase) told.key_is told.address_is (agree_of (is_complete item.phase) item.digest item.have whole.digest) (staged item.phase not_cancelled)
    (sound id item found told.key told.address name told.key_is told.address_is name_is)
