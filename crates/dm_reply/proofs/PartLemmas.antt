-- What a reader's answers say of the wanted content: of a whole one what is framed, of a part the first bytes of that.
use Rattle.std.proofs.Common.{◌≡◌, ℕ, ◌-◌, ◌<◌, ◌≤◌, ◌⊎◌, inl, inr, List, ◌++◌, length, refl, sym, ◌∙◌, subst, arith, Result, Ok, Err, Option, Some, None, IfSome, IfErr, IsTrue}
use Rattle.std.proofs.lemmas.List.{take-append-le}
use Rattle.httparse.specs.Grammar.{ResponseHead}
use Rattle.dm_types.specs.Faults.{HasCause, Rose}
use Rattle.dm_policy.specs.declared.cause.Cause.{Cause}
use Rattle.dm_policy.specs.declared.cause.Cause.TheVariants as cause
use Rattle.dm_edge.specs.declared.fault.WireFault.{WireFault}
use Rattle.dm_edge.specs.Causes.{is_content_cause}
use Rattle.dm_edge.specs.declared.wanted.Wanted.{Wanted}
use Rattle.dm_edge.specs.declared.wanted.Wanted.TheVariants.{Whole, Part}
use Rattle.dm_edge.specs.Wire.{Told, stream_of}
use Rattle.dm_edge.specs.Begins.{IsOfWire, most_content}
use Rattle.dm_edge.specs.Reply.{FramedBroke, BrokeBy, ContentBroke, HasSize, IsWholeBehind}
use Rattle.dm_reply.specs.declared.got.Got.{Got}
use Rattle.dm_reply.specs.declared.got.Got.TheVariants as got
use Rattle.dm_reply.specs.Content.{Reader, HasFramed, HasPartOf, HasRead, ContentSays, EndsAll, first_some, counted_of}
use Rattle.dm_reply.specs.Faults.{cause_kind}
use Rattle.dm_reply.specs.Part.{part_cause, part_answer}
use Rattle.dm_reply.specs.Steps.{FramedSays, EndsCounted, ShowsWant, settled, settled_reader, KeepsTo}
use Rattle.dm_reply.specs.Unfinished.{LeavesFramed, LeavesContent}
use Rattle.dm_reply.proofs.StreamLemmas.{front_more}

-- what each cause says, by what its parts say
broke_by : {Front Bad Over Other_front Other_bad Other_over : Type 0} {Short Other_short : Option ℕ → Type 0} (count : ℕ) (broke : Cause)
    → (Front → Other_front) → ((told : Option ℕ) → Short told → Other_short told) → (Bad → Other_bad) → (Over → Other_over)
    → BrokeBy Front Short Bad Over count broke → BrokeBy Other_front Other_short Other_bad Other_over count broke
broke_by count cause.NetFailed front short bad over met = front met
broke_by count cause.NetTimeout front short bad over met = front met
broke_by count cause.Memory front short bad over met = front met
broke_by count (cause.ContentShort have told) front short bad over met = (short told met.0, met.1)
broke_by count cause.BadFraming front short bad over met = bad met
broke_by count (cause.TooLarge total) front short bad over met = (over met.0, met.1)
broke_by count cause.HeadCut front short bad over met = met
broke_by count (cause.Status status) front short bad over met = met
broke_by count cause.BadHead front short bad over met = met
broke_by count cause.Encoded front short bad over met = met
broke_by count (cause.File kind) front short bad over met = met
broke_by count cause.NamesTaken front short bad over met = met
broke_by count cause.BothStand front short bad over met = met
broke_by count (cause.PartShort have known) front short bad over met = met
broke_by count (cause.DigestDiffers have known) front short bad over met = met
broke_by count cause.NetNoRoute front short bad over met = met
broke_by count cause.NetRefused front short bad over met = met
broke_by count cause.BadLocation front short bad over met = met
broke_by count cause.TooManyRedirects front short bad over met = met
broke_by count (cause.RangeRefused status) front short bad over met = met
broke_by count cause.Cancel front short bad over met = met
broke_by count cause.Shutdown front short bad over met = met
broke_by count cause.Crash front short bad over met = met

none_or_some : {A : Type 0} (o : Option A) (x : A) → o ≡ None → o ≡ Some x → ⊥
none_or_some o x p q = cc

same_size : (o : Option ℕ) (m n : ℕ) → o ≡ Some m → o ≡ Some n → m ≡ n
same_size o m n p q = cc

-- ---- a whole content

pub whole_answer : (wanted : Wanted) (head : ResponseHead) (now : Told) (old new : Reader) (result : Result Got Cause) (buffer content given : List ℕ)
    → HasRead wanted head given old content → old.size ≡ None → new.size ≡ None
    → FramedSays wanted head now (settled new.reading result) result buffer content
    → ContentSays wanted head now (settled_reader new result) result buffer content
whole_answer (Part first last tag known) head now old new result buffer content given has none kept said =
    absurd (none_or_some old.size has.sized.count none has.sized.size_is)
whole_answer Whole head now old new (Ok (got.Bytes n)) buffer content given has none kept said = record { framed = said; sized = kept }
whole_answer Whole head now old new (Ok got.End) buffer content given has none kept said = (said.0, record { framed = said.1; sized = kept })
whole_answer Whole head now old new (Err broke) buffer content given has none kept said = (
  broke_by (length content) broke (λ front. record { head = head; some = front }) (λ told short. record { head = head; lacks = short })
      (λ bad. record { head = head; breaks = bad }) (λ over. record { head = head; over = over }) said.0,
  said.1,
)

pub whole_leaves : (wanted : Wanted) (head : ResponseHead) (old : Reader) (result : Result Got Cause) (content given now : List ℕ) → HasRead wanted head given old content
    → old.size ≡ None → LeavesFramed wanted head now content result → LeavesContent wanted head now content result
whole_leaves (Part first last tag known) head old result content given now has none said =
    absurd (none_or_some old.size has.sized.count none has.sized.size_is)
whole_leaves Whole head old (Ok answer) content given now has none said = tt
whole_leaves Whole head old (Err broke) content given now has none said = λ wire. said wire

-- at the end what the framing tells was given
pub whole_all : (old : Reader) (result : Result Got Cause) → old.size ≡ None → EndsCounted old.reading result → EndsAll old result
whole_all old (Ok (got.Bytes n)) none said = tt
whole_all old (Ok got.End) none said =
    subst (λ (o : Option ℕ). IfSome (first_some o (counted_of old.reading.body)) (λ n. old.reading.given ≡ n)) (sym none) said
whole_all old (Err broke) none said = tt

-- ---- a part

has_size : {first last known size : ℕ} {tag content : List ℕ} {head : ResponseHead} (kept : Option ℕ)
    → HasPartOf first last tag known head kept content → kept ≡ Some size → HasSize (Part first last tag known) head size
has_size {size = size} kept part is = record {
  to = part.to;
  total = part.total;
  asked = part.asked;
  size_is = same_size kept size part.count is part.size_is ∙ part.count_is;
}

-- all bytes of the part were given
pub part_whole : (wanted : Wanted) (head : ResponseHead) (told : Told) (old : Reader) (size : ℕ) (content : List ℕ) → HasRead wanted head told.given old content
    → old.size ≡ Some size → old.reading.given ≡ size → IsWholeBehind wanted head (stream_of told) content
part_whole Whole head told old size content has is all = absurd (none_or_some old.size size has.sized is)
part_whole (Part first last tag known) head told old size content has is all = record {
  size = size;
  has_size = has_size old.size has.sized is;
  front = front_more has.framed.front told.left;
  all = sym has.framed.count ∙ all;
}

-- the end of a part comes behind all its bytes
pub part_all : (old : Reader) (size : ℕ) → old.size ≡ Some size → old.reading.given ≡ size → EndsAll old (Ok got.End)
part_all old size is all = subst (λ (o : Option ℕ). IfSome (first_some o (counted_of old.reading.body)) (λ n. old.reading.given ≡ n)) (sym is) all

-- and where the part lacks bytes it doesn't
pub part_never : (old : Reader) (given size : ℕ) (answer : Result Got Cause) → EndsAll old (part_answer given size answer)
part_never old given size (Ok (got.Bytes n)) = tt
part_never old given size (Ok got.End) = tt
part_never old given size (Err broke) = tt

-- a cause that ends what is framed, where the part lacks bytes
part_broke : (wanted : Wanted) (head : ResponseHead) (stream content : List ℕ) (given size : ℕ) (broke : Cause) → HasSize wanted head size
    → given ≡ length content → given < size → size ≤ most_content → FramedBroke wanted head stream content broke
    → ContentBroke wanted stream content (part_cause given size broke)
part_broke Whole head stream content given size broke part count lacks limit met = absurd part
part_broke (Part first last tag known) head stream content given size cause.NetFailed part count lacks limit met =
    record { head = head; some = record { size = size; has_size = part; front = met; within = omega (arith, count, lacks) } }
part_broke (Part first last tag known) head stream content given size cause.NetTimeout part count lacks limit met =
    record { head = head; some = record { size = size; has_size = part; front = met; within = omega (arith, count, lacks) } }
part_broke (Part first last tag known) head stream content given size cause.Memory part count lacks limit met =
    record { head = head; some = record { size = size; has_size = part; front = met; within = omega (arith, count, lacks) } }
part_broke (Part first last tag known) head stream content given size (cause.ContentShort have told) part count lacks limit met = (
  record {
    head = head;
    lacks = record { size = size; has_size = part; ended = inr (told, met.0); lacks = omega (arith, count, lacks); told_is = refl };
  },
  count,
)
part_broke (Part first last tag known) head stream content given size cause.BadFraming part count lacks limit met =
    record { head = head; breaks = record { size = size; has_size = part; bad = met; lacks = omega (arith, count, lacks) } }
part_broke (Part first last tag known) head stream content given size (cause.TooLarge total) part count lacks limit met =
    absurd (omega (arith, count, lacks, limit, met.0.full))
part_broke (Part first last tag known) head stream content given size cause.HeadCut part count lacks limit met = absurd met
part_broke (Part first last tag known) head stream content given size (cause.Status status) part count lacks limit met = absurd met
part_broke (Part first last tag known) head stream content given size cause.BadHead part count lacks limit met = absurd met
part_broke (Part first last tag known) head stream content given size cause.Encoded part count lacks limit met = absurd met
part_broke (Part first last tag known) head stream content given size (cause.File kind) part count lacks limit met = absurd met
part_broke (Part first last tag known) head stream content given size cause.NamesTaken part count lacks limit met = absurd met
part_broke (Part first last tag known) head stream content given size cause.BothStand part count lacks limit met = absurd met
part_broke (Part first last tag known) head stream content given size (cause.PartShort have told) part count lacks limit met = absurd met
part_broke (Part first last tag known) head stream content given size (cause.DigestDiffers have told) part count lacks limit met = absurd met
part_broke (Part first last tag known) head stream content given size cause.NetNoRoute part count lacks limit met = absurd met
part_broke (Part first last tag known) head stream content given size cause.NetRefused part count lacks limit met = absurd met
part_broke (Part first last tag known) head stream content given size cause.BadLocation part count lacks limit met = absurd met
part_broke (Part first last tag known) head stream content given size cause.TooManyRedirects part count lacks limit met = absurd met
part_broke (Part first last tag known) head stream content given size (cause.RangeRefused status) part count lacks limit met = absurd met
part_broke (Part first last tag known) head stream content given size cause.Cancel part count lacks limit met = absurd met
part_broke (Part first last tag known) head stream content given size cause.Shutdown part count lacks limit met = absurd met
part_broke (Part first last tag known) head stream content given size cause.Crash part count lacks limit met = absurd met

-- a reader of a part that lacks bytes
pub record LacksBytes (old new : Reader) (size : ℕ) : Type 0 where
  pub size_is : old.size ≡ Some size
  pub kept : new.size ≡ old.size
  pub given : new.reading.given ≡ old.reading.given
  pub lacks : old.reading.given < size
  pub limit : size ≤ most_content

pub part_says : (wanted : Wanted) (head : ResponseHead) (now : Told) (old new : Reader) (size most room : ℕ) (answer : Result Got Cause) (piece behind content given : List ℕ)
    → HasRead wanted head given old content → LacksBytes old new size
    → KeepsTo most old.reading.given room answer → room ≤ length piece → room ≤ size - old.reading.given
    → FramedSays wanted head now (settled new.reading answer) answer piece content
    → ContentSays wanted head now (settled_reader new (part_answer old.reading.given size answer)) (part_answer old.reading.given size answer) (piece ++ behind) content
part_says Whole head now old new size most room answer piece behind content given has reader keeps in_piece small said =
    absurd (none_or_some old.size size has.sized reader.size_is)
part_says (Part first last tag known) head now old new size most room (Ok (got.Bytes n)) piece behind content given has reader keeps in_piece small said =
    let same = sym (take-append-le n piece behind (omega (arith, keeps.1, in_piece))) in
    let count = same_size old.size has.sized.count size has.sized.size_is reader.size_is in
    let framed = subst (λ (t : List ℕ). HasFramed (Part first last tag known) head now.given (settled new.reading (Ok (got.Bytes n))) (content ++ t)) same said in
    record {
      framed = framed;
      sized = record {
        count = has.sized.count;
        size_is = reader.kept ∙ has.sized.size_is;
        to = has.sized.to;
        total = has.sized.total;
        asked = has.sized.asked;
        count_is = has.sized.count_is;
        within = omega (arith, framed.count, reader.given, reader.lacks, keeps.1, small, count);
      };
    }
part_says (Part first last tag known) head now old new size most room (Ok got.End) piece behind content given has reader keeps in_piece small said = (
  (
    record {
      head = head;
      lacks = record {
        size = size;
        has_size = has_size old.size has.sized reader.size_is;
        ended = inl said.0;
        lacks = omega (arith, has.framed.count, reader.lacks);
        told_is = refl;
      };
    },
    has.framed.count,
  ),
  refl,
)
part_says (Part first last tag known) head now old new size most room (Err broke) piece behind content given has reader keeps in_piece small said = (
  part_broke (Part first last tag known) head (stream_of now) content old.reading.given size broke (has_size old.size has.sized reader.size_is)
      has.framed.count reader.lacks reader.limit said.0,
  refl,
)

-- a fault of the wire, or want of its memory, stays what it is
wire_of : (given size : ℕ) (broke : Cause) → IsOfWire (part_cause given size broke) ⊎ (part_cause given size broke ≡ cause.Memory)
    → IsOfWire broke ⊎ (broke ≡ cause.Memory)
wire_of given size (cause.ContentShort have told) (inl (inl is)) = absurd (let wrong = is in cc)
wire_of given size (cause.ContentShort have told) (inl (inr is)) = absurd (let wrong = is in cc)
wire_of given size (cause.ContentShort have told) (inr is) = absurd (let wrong = is in cc)
wire_of given size broke wire = wire

short_no_wire : (given size : ℕ) → IsOfWire (cause.ContentShort given (Some size)) ⊎ (cause.ContentShort given (Some size) ≡ cause.Memory) → ⊥
short_no_wire given size (inl (inl is)) = absurd (let wrong = is in cc)
short_no_wire given size (inl (inr is)) = absurd (let wrong = is in cc)
short_no_wire given size (inr is) = absurd (let wrong = is in cc)

pub part_leaves : (wanted : Wanted) (head : ResponseHead) (old : Reader) (size : ℕ) (answer : Result Got Cause) (content given now : List ℕ)
    → HasRead wanted head given old content → old.size ≡ Some size → old.reading.given < size
    → LeavesFramed wanted head now content answer → LeavesContent wanted head now content (part_answer old.reading.given size answer)
part_leaves Whole head old size answer content given now has is lacks said = absurd (none_or_some old.size size has.sized is)
part_leaves (Part first last tag known) head old size (Ok (got.Bytes n)) content given now has is lacks said = tt
part_leaves (Part first last tag known) head old size (Ok got.End) content given now has is lacks said =
    λ wire. absurd (short_no_wire old.reading.given size wire)
part_leaves (Part first last tag known) head old size (Err broke) content given now has is lacks said = λ wire. record {
  size = size;
  has_size = has_size old.size has.sized is;
  framed = said (wire_of old.reading.given size broke wire);
  lacks = omega (arith, has.framed.count, lacks);
}

-- ---- what holds whatever was read

same_kind : (given size : ℕ) (broke : Cause) → cause_kind (part_cause given size broke) ≡ cause_kind broke
same_kind given size (cause.ContentShort have told) = refl
same_kind given size broke = refl

pub part_kind : (given size : ℕ) (before now : WireFault → ℕ) (answer : Result Got Cause) → HasCause cause_kind before now answer
    → HasCause cause_kind before now (part_answer given size answer)
part_kind given size before now (Ok (got.Bytes n)) has = record { later = has.later; cause = tt }
part_kind given size before now (Ok got.End) has = record { later = has.later; cause = tt }
part_kind given size before now (Err broke) has = record {
  later = has.later;
  cause = subst (λ (o : Option WireFault). IfSome o (λ kind. Rose (before kind) (now kind))) (sym (same_kind given size broke)) has.cause;
}

-- what a cause is stays so
pub part_own : (given size : ℕ) (answer : Result Got Cause) → IfErr answer (λ broke. IsTrue (is_content_cause broke))
    → IfErr (part_answer given size answer) (λ broke. IsTrue (is_content_cause broke))
part_own given size (Ok (got.Bytes n)) own = tt
part_own given size (Ok got.End) own = refl
part_own given size (Err (cause.ContentShort have told)) own = refl
part_own given size (Err broke) own = own

-- want of memory shows where it showed
pub part_wants : (given size before now : ℕ) (answer : Result Got Cause) → IfErr answer (ShowsWant before now)
    → IfErr (part_answer given size answer) (ShowsWant before now)
part_wants given size before now (Ok (got.Bytes n)) shows = tt
part_wants given size before now (Ok got.End) shows = λ is. absurd (let wrong = is in cc)
part_wants given size before now (Err (cause.ContentShort have told)) shows = λ is. absurd (let wrong = is in cc)
part_wants given size before now (Err broke) shows = shows
