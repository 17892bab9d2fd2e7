-- Worked rows: what attempts record, and what ranges ask for.
use Rattle.std.proofs.Common.{◌≡◌, ℕ, false, true, List, [], ◌∷◌, codes, Option, Some, None, refl, arith}
use Rattle.std.proofs.lemmas.Option.{same_Some}
use Rattle.dm_types.specs.declared.entry.Entry.TheVariants as entries
use Rattle.dm_types.specs.declared.address.Address.{Address}
use Rattle.dm_types.specs.declared.item.Item.{Item}
use Rattle.dm_types.specs.declared.item.ItemId.{ItemId}
use Rattle.dm_types.specs.declared.item.Key.{Key}
use Rattle.dm_types.specs.declared.item.Key.TheVariants.{Strong}
use Rattle.dm_types.specs.declared.item.Phase.TheVariants as phases
use Rattle.dm_types.specs.declared.kinds.By.TheVariants.{Itself, User}
use Rattle.dm_types.specs.declared.reason.Reason.TheVariants as reasons
use Rattle.dm_types.specs.declared.slices.Slice.{Slice}
use Rattle.dm_policy.specs.declared.cause.Cause.TheVariants as causes
use Rattle.dm_edge.specs.declared.wanted.Wanted.TheVariants as wanted
use Rattle.dm_reply.specs.declared.head.Head.{Head}
use Rattle.dm_reply.specs.declared.head.Kind.TheVariants as kinds
use Rattle.dm_slice.specs.Cover.{normal_of}
use Rattle.dm_slice.specs.Plan.{parts_by}
use Rattle.dm_item.specs.Fields.{added_item, no_bytes}
use Rattle.dm_store.specs.View.{View}
use Rattle.dm_attempt.specs.declared.source.Source.{Source}
use Rattle.dm_attempt.specs.Asking.{count_by, range_of}
use Rattle.dm_attempt.specs.Live.{all_entries}
use Rattle.dm_attempt.specs.Trace.{Broken, Done, Tale, Trace}
use Rattle.dm_fetch.specs.Attempts.{begins_at}
use Rattle.dm_fetch.specs.Known.{OfKnown, kept, told}
use Rattle.dm_fetch.specs.Starts.{scene_of}

abbrev one : ItemId
one = record { 0 = 1 }

abbrev place : List ℕ
place = codes "http://h/a"

abbrev strong : Key
strong = Strong (codes "a")

abbrev slice : ℕ → ℕ → Slice
slice first got = record { first = first; got = got; finished = false }

abbrev whole : ℕ → List Slice
whole got = record { first = 0; got = got; finished = true } ∷ []

-- an item that was just added, and waits
abbrev waiting : Item
waiting = added_item one [] place (codes "hello.txt") None 5

-- the same with five of its eleven bytes, interrupted
abbrev broken : Item
broken = record waiting {
  phase = phases.Interrupted reasons.ServerContentLengthMismatch;
  reason = Some reasons.ServerContentLengthMismatch;
  attempt = record { 0 = 1 };
  begun = true;
  key = Some strong;
  last_address = Some place;
  total = Some 11;
  name = Some (codes "hello.txt");
  modified = Some [];
  slices = slice 0 5 ∷ [];
}

abbrev address : Address
address = record { text = place; host = codes "h"; port = 80; target = codes "/a" }

abbrev head : Head
head = record { kind = kinds.Content; status = 200; strong = Some (codes "a"); first = 0; last = None; total = Some 11; ranges = true; disposition = None; modified = [] }

abbrev tale : Tale
tale = record { head = head; address = address; key = strong; total = Some 11; name = codes "hello.txt"; modified = [] }

abbrev trace_of : Option Tale → List (List Slice) → Trace
trace_of heard saves = record { led = []; lost = []; wish = None; told = heard; count = 1; rounds = []; saves = saves }

module _ {D O : Type 0} (desk : View D O) where
  -- all came at once
  row_fresh : (digest : List ℕ) → all_entries (scene_of desk waiting User 7 [] (λ kind. 0)) (trace_of (Some tale) (whole 11 ∷ [])) (Done 11 digest)
      ≡ entries.Began one (record { 0 = 1 }) User 7
      ∷ entries.Described one strong place (Some 11) (codes "hello.txt") []
      ∷ entries.Progress one (whole 11)
      ∷ entries.Finishing one 11
      ∷ entries.Done one digest 7
      ∷ []
  row_fresh digest = refl

  -- the stream ended behind five bytes
  row_broken : all_entries (scene_of desk waiting User 7 [] (λ kind. 0)) (trace_of (Some tale) ((slice 0 5 ∷ []) ∷ [])) (Broken (causes.ContentShort 5 (Some 11)))
      ≡ entries.Began one (record { 0 = 1 }) User 7
      ∷ entries.Described one strong place (Some 11) (codes "hello.txt") []
      ∷ entries.Progress one (slice 0 5 ∷ [])
      ∷ entries.Broke one reasons.ServerContentLengthMismatch
      ∷ []
  row_broken = refl

  -- and by itself the item goes on from there
  row_continued : (digest : List ℕ) → all_entries (scene_of desk broken Itself 7 [] (λ kind. 0)) (trace_of None (whole 11 ∷ [])) (Done 11 digest)
      ≡ entries.Began one (record { 0 = 2 }) Itself 7
      ∷ entries.Progress one (whole 11)
      ∷ entries.Finishing one 11
      ∷ entries.Done one digest 7
      ∷ []
  row_continued digest = refl

  -- no reply came: nothing is told, and nothing saved
  row_unreached : all_entries (scene_of desk waiting User 7 [] (λ kind. 0)) (trace_of None []) (Broken causes.NetRefused)
      ≡ entries.Began one (record { 0 = 1 }) User 7 ∷ entries.Broke one reasons.NetworkServerDown ∷ []
  row_unreached = refl

-- a waiting item begins with its first address, one that goes on with its last
row_first : begins_at waiting.key waiting ≡ place
row_first = refl

row_last : begins_at (Some strong) (record broken { last_address = Some (codes "http://h/b") }) ≡ codes "http://h/b"
row_last = refl

-- The rest of eleven bytes is asked for by its range.

abbrev source : ℕ → Source
source total = record { address = address; tag = codes "a"; total = total }

row_rest : parts_by (Some 11) 1 1048576 (slice 0 5 ∷ []) ≡ record { index = 0; first = 5; end = 11 } ∷ []
row_rest = refl

row_range : range_of (source 11) (record { index = 0; first = 5; end = 11 }) ≡ wanted.Part 5 10 (codes "a") 11
row_range = refl

-- its total is the one that is known, and no other is
row_known : OfKnown broken [] place (wanted.Part 5 10 (codes "a") 11)
row_known = kept refl refl refl

row_unknown : OfKnown broken [] place (wanted.Part 5 10 (codes "a") 12) → ⊥
row_unknown (kept key_is address_is total_is) = let same = same_Some 11 12 total_is in omega (arith, same)
row_unknown (told name modified among) = let within = among.1 in omega (arith, within)

-- Two parts of 2 MiB: the second is asked for from its half on.

row_count : count_by 2 (Some (codes "a")) (Some 2097152) true ≡ 2
row_count = refl

row_weak_count : count_by 2 None (Some 2097152) true ≡ 1
row_weak_count = refl

row_no_ranges_count : count_by 2 (Some (codes "a")) (Some 2097152) false ≡ 1
row_no_ranges_count = refl

row_two : parts_by (Some 2097152) 2 1048576 no_bytes ≡ record { index = 0; first = 0; end = 1048576 } ∷ record { index = 1; first = 1048576; end = 2097152 } ∷ []
row_two = refl

row_second : range_of (source 2097152) (record { index = 1; first = 1048576; end = 2097152 }) ≡ wanted.Part 1048576 2097151 (codes "a") 2097152
row_second = refl

-- the first part came whole and ten bytes of the second: what is saved, and what is asked for next
row_first_saved : normal_of (Some 2097152) (slice 0 1048576 ∷ slice 1048576 10 ∷ []) ≡ slice 0 1048586 ∷ []
row_first_saved = refl

row_first_next : parts_by (Some 2097152) 2 1048576 (slice 0 1048586 ∷ []) ≡ record { index = 0; first = 1048586; end = 2097152 } ∷ []
row_first_next = refl

row_first_range : range_of (source 2097152) (record { index = 0; first = 1048586; end = 2097152 }) ≡ wanted.Part 1048586 2097151 (codes "a") 2097152
row_first_range = refl

-- only the ten bytes of the second part came
row_second_saved : normal_of (Some 2097152) (slice 0 0 ∷ slice 1048576 10 ∷ []) ≡ slice 0 0 ∷ slice 1048576 10 ∷ []
row_second_saved = refl

row_second_next : parts_by (Some 2097152) 2 1048576 (slice 0 0 ∷ slice 1048576 10 ∷ []) ≡ record { index = 0; first = 0; end = 1048576 } ∷ record { index = 1; first = 1048586; end = 2097152 } ∷ []
row_second_next = refl

row_second_ranges : range_of (source 2097152) (record { index = 0; first = 0; end = 1048576 }) ≡ wanted.Part 0 1048575 (codes "a") 2097152
row_second_ranges = refl
