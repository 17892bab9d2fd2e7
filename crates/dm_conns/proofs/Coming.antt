-- What a read of a stream in memory leaves, and a call that failed.
use Rattle.std.proofs.Common.{◌≡◌, ◌∙◌, ℕ, ◌+◌, ◌≤◌, List, [], ◌++◌, length, take, drop, min, Ok, Err, refl, sym, ap, arith}
use Rattle.std.proofs.Math.Seq.{take-add}
use Rattle.std.proofs.lemmas.List.{drop-drop, nil_from_length, take-append-drop}
use Rattle.dm_types.specs.Faults.{HasCause, Rose}
use Rattle.dm_edge.specs.Counts.{edge_count}
use Rattle.dm_edge.specs.Faults.{edge_kind}
use Rattle.dm_edge.specs.Wire.{Told}
use Rattle.dm_edge.specs.declared.fault.EdgeFault.{EdgeFault}
use Rattle.dm_edge.specs.declared.fault.EdgeFault.TheVariants.{Failed}
use Rattle.dm_conns.specs.Conn.{Reads}
use Rattle.dm_conns.specs.Memory.{ConnState, Counting, GivesNext, made}

-- a fault that was counted
pub cause_of : {T : Type 0} (old new : ℕ) → old ≤ new → Rose old new → HasCause {T = T} edge_kind (edge_count old) (edge_count new) (Err Failed)
cause_of {T} old new later rose = record { later = each; cause = rose }
  where
    each : (kind : EdgeFault) → edge_count old kind ≤ edge_count new kind
    each Failed = later

abbrev told_at : ℕ → List ℕ → List ℕ → Told
told_at given stream sent = record { given = take given stream; left = drop given stream; sent = sent }

pub received : (given n room : ℕ) (stream sent buffer : List ℕ) → take n buffer ≡ take n (drop given stream) → n ≡ min room (length (drop given stream)) → length buffer ≡ room
    → Reads (told_at given stream sent) (told_at (given + n) stream sent) (Ok n) buffer
received given n room stream sent buffer bytes size fits = record {
  sent = refl;
  bytes = record {
    given = take-add given n stream ∙ ap (λ xs. take given stream ++ xs) (sym bytes);
    left = rw bytes (rw (← drop-drop n given stream) (sym (take-append-drop n (drop given stream))));
    end = λ none some. nil_from_length (drop given stream) (omega (arith, size, fits, none, some));
  };
}

abbrev conn_at : ℕ → List ℕ → List ℕ → ℕ → Counting → ConnState
conn_at given stream sent limit counting = record { told = told_at given stream sent; room = limit; counting = counting }

pub gave : (given n room limit : ℕ) (stream sent buffer : List ℕ) (counting next : Counting) → take n buffer ≡ take n (drop given stream)
    → n ≡ min room (length (drop given stream)) → length buffer ≡ room → next ≡ made counting
    → GivesNext (conn_at given stream sent limit counting) (conn_at (given + n) stream sent limit next) n buffer
gave given n room limit stream sent buffer counting next bytes size fits called = record {
  size = rw fits size;
  bytes = bytes;
  after = rw (take-add given n stream, ← drop-drop n given stream, called) refl;
}
