-- What a receive of a scripted wire leaves: the next bytes of its stream, and none only at the end.
use Rattle.std.proofs.Common.{◌≡◌, ℕ, ◌+◌, ◌<◌, List, [], ◌++◌, length, take, drop, min, Ok, None, refl, sym, ap, ◌∙◌, arith, add-zero, inl, inr}
use Rattle.std.proofs.Math.Seq.{take-add}
use Rattle.std.proofs.lemmas.List.{drop-drop, take-append-drop, nil_from_length}
use Rattle.std.proofs.lemmas.Option.{slice_get_cases}
use Rattle.std.specs.Prelude.{All, slice_get}
use Rattle.std.specs.Option.{option_map_or}
use Rattle.dm_edge.specs.declared.counts.WireCounts.{WireCounts}
use Rattle.dm_edge.specs.declared.fault.WireFault.{WireFault}
use Rattle.dm_edge.specs.Counts.{raised_by}
use Rattle.dm_edge.specs.Script.{fault_at, next_size, WireState, GivesNext}
use Rattle.dm_edge.specs.Wire.{Purpose, Told, Receives}

-- a cut is at least 1, so a buffer with room may get a byte
pub may_give : (cuts : List ℕ) (k room : ℕ) → All (λ cut. 0 < cut) cuts → 0 < room → 0 < option_map_or (min room) (slice_get cuts k) room
may_give cuts k room good some =
    elim ((slice_get_cases cuts k).1) [
      | inl found ↦ let cut : 0 < found.0 = omega (arith, good k found.0 found.1, found.3) in rw found.2 (omega arith)
      | inr past ↦ rw past.1 some
    ]

-- nothing is given only where nothing is left
pub at_end : (cuts : List ℕ) (k room n : ℕ) (left : List ℕ) → All (λ cut. 0 < cut) cuts
    → n ≡ min (option_map_or (min room) (slice_get cuts k) room) (length left) → n ≡ 0 → 0 < room → left ≡ []
at_end cuts k room n left good size none some =
    let most : 0 < option_map_or (min room) (slice_get cuts k) room = may_give cuts k room good some in
    nil_from_length left (omega arith)

abbrev pub told_at : ℕ → List ℕ → List ℕ → Told
told_at given stream sent = record { given = take given stream; left = drop given stream; sent = sent }

pub received : (given n : ℕ) (stream sent buffer : List ℕ) → take n buffer ≡ take n (drop given stream)
    → (n ≡ 0 → 0 < length buffer → drop given stream ≡ [])
    → Receives (told_at given stream sent) (told_at (given + n) stream sent) (Ok n) buffer
received given n stream sent buffer bytes ended = record {
  sent = refl;
  given = (
    take-add given n stream ∙ ap (λ xs. take given stream ++ xs) (sym bytes),
    λ _. rw bytes (rw (← drop-drop n given stream) (sym (take-append-drop n (drop given stream)))),
    λ none some. rw (none, add-zero) (ended none some),
    λ none _. rw (none, add-zero) refl,
  );
}

abbrev pub wire_at : Purpose → Told → List ℕ → List (ℕ × WireFault) → ℕ → ℕ → WireCounts → ℕ → WireState
wire_at purpose told cuts failing calls receives counts wants =
    record { purpose = purpose; told = told; cuts = cuts; failing = failing; calls = calls; receives = receives; counts = counts; wants = wants }

-- where the wire stands then
pub gave : (purpose : Purpose) (cuts : List ℕ) (failing : List (ℕ × WireFault)) (calls receives next after : ℕ) (counts : WireCounts) (wants : ℕ)
    (given n : ℕ) (stream sent buffer : List ℕ) → fault_at failing calls ≡ None
    → n ≡ next_size (wire_at purpose (told_at given stream sent) cuts failing calls receives counts wants) (length buffer)
    → take n buffer ≡ take n (drop given stream) → next ≡ raised_by 1 calls → after ≡ raised_by 1 receives
    → GivesNext (wire_at purpose (told_at given stream sent) cuts failing calls receives counts wants)
    (wire_at purpose (told_at (given + n) stream sent) cuts failing next after counts wants) n buffer
gave purpose cuts failing calls receives next after counts wants given n stream sent buffer unlisted size bytes called received = record {
  unlisted = unlisted;
  size = size;
  bytes = bytes;
  after = rw (take-add given n stream, ← drop-drop n given stream, called, received) refl;
}
