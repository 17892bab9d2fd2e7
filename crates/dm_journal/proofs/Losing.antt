-- Where an append fails, some crash leaves just the bodies before it: the gate isn't durable until the last step, so a crash may still leave it closed.
use Rattle.std.proofs.Common.{◌≡◌, ◌≢◌, ◌⊎◌, inl, inr, ⊎_elim, ℕ, zero, suc, ◌+◌, ◌-◌, ◌<◌, ◌≤◌, List, [], ◌∷◌, ◌++◌, length, get_or, Some, Result, Ok, Err, OnErr, refl, sym, ◌∙◌, ap, subst, arith, length-append}
use Rattle.std.proofs.lemmas.List.{get_or_append_left, get_or-append_right}
use Rattle.dm_disk_model.specs.declared.place.DiskFault.{DiskFault}
use Rattle.dm_disk_model.specs.Beside.{WasUnder}
use Rattle.dm_disk_model.specs.File.{File, FileLeaves, IsClean, IsTorn, IsUntouched, settled_file}
use Rattle.dm_disk_model.specs.Firm.{HasFile}
use Rattle.dm_disk_model.specs.Folder.{Folder, IsSoundFolder}
use Rattle.dm_disk_model.specs.Disk.{DiskState, History, IsSoundDisk, Next, SyncStep, WriteStep, now}
use Rattle.dm_disk_model.proofs.Beside.{had_leaves}
use Rattle.dm_disk_model.proofs.Images.{file_as_read}
use Rattle.dm_journal.specs.Text.{AllFit, FitsCell, front, in_four, IsJournalText}
use Rattle.dm_journal.specs.AtRest.{AtRest, MayLeaveJust, journal_name, journal_place}
use Rattle.dm_journal.proofs.Leaving.{front_left, front_settled, opening}
use Rattle.dm_journal.proofs.Calls.{Filled, Kept, Open, Opened, Ready, kept_at_rest, kept_write, opened_write}

-- a crash may leave under the journal's name what it may leave of its file
may_leave : (folder : Folder) (file : File) (bytes : List ℕ) → IsSoundFolder folder → HasFile folder journal_name file → FileLeaves file bytes → WasUnder folder journal_name (Some bytes)
may_leave folder file bytes sound has left =
    had_leaves folder folder journal_name (Some has.number) (Some bytes) sound (record { survive = 0; named = has.named 0; same = λ k is. refl })
    (subst (λ (f : File). FileLeaves f bytes) (sym has.is) left)

just : (bodies : List (List ℕ)) (folder : Folder) (bytes : List ℕ) → WasUnder folder journal_name (Some bytes) → IsJournalText bodies bytes → MayLeaveJust bodies folder
just bodies folder bytes under text = record { left = under.before; leaves = under.left; bytes = bytes; found = sym under.same; text = text }

pub where_failed : (P : Type 0) (result : Result (Unit {0}) DiskFault) → P → OnErr result P
where_failed P (Ok done) holds = tt
where_failed P (Err fault) holds = holds

-- a front that is durable stands in what reads
kept_lost : (bodies : List (List ℕ)) (disk : DiskState) → IsSoundDisk disk → Kept bodies disk → MayLeaveJust bodies disk.state
kept_lost bodies disk sound kept =
    let within : kept.file.synced ≤ length kept.file.bytes = subst (λ (f : File). f.synced ≤ length f.bytes) kept.has.is (sound.state.within kept.has.number) in
    let left = file_as_read kept.file within in
    just bodies disk.state kept.file.bytes (may_leave disk.state kept.file kept.file.bytes sound.state kept.has left) (front_left bodies kept.file kept.file.bytes kept.keeps left)

pub rest_leaves_just : (bodies : List (List ℕ)) (disk : DiskState) (gate : ℕ) → IsSoundDisk disk → AtRest disk gate bodies → MayLeaveJust bodies disk.state
rest_leaves_just bodies disk gate sound rest = kept_lost bodies disk sound (kept_at_rest bodies disk gate rest)

-- bytes that differ in one place alone
apart : (a r : List ℕ) (g h i : ℕ) → (i < length a) ⊎ (length a + 1 ≤ i) → get_or (a ++ g ∷ r) i 0 ≡ get_or (a ++ h ∷ r) i 0
apart a r g h i (inl low) = get_or_append_left a (g ∷ r) 0 i low ∙ sym (get_or_append_left a (h ∷ r) 0 i low)
apart a r g h i (inr high) =
    get_or-append_right a (g ∷ r) (length a) i 0 refl (omega (arith, high))
    ∙ behind (i - length a) (omega (arith, high))
    ∙ sym (get_or-append_right a (h ∷ r) (length a) i 0 refl (omega (arith, high)))
  where
    behind : (k : ℕ) → 0 < k → get_or (g ∷ r) k 0 ≡ get_or (h ∷ r) k 0
    behind zero some = absurd (omega arith)
    behind (suc k) some = refl

-- of a gate that was written and not synced a crash may leave any byte: so a closed one
opened_lost : (bodies : List (List ℕ)) (body : List ℕ) (disk : DiskState) → AllFit bodies → IsSoundDisk disk → Opened bodies body disk → MayLeaveJust bodies disk.state
opened_lost bodies body disk sizes sound opened =
    let a : List ℕ = front bodies in
    let r : List ℕ = (in_four (length body) ++ body) ++ 0 ∷ opened.rest in
    let one = length-append a (opened.gate ∷ r) in
    let other = length-append a (0 ∷ r) in
    let synced = opened.torn.synced in
    let least = opened.torn.bytes.no_shorter in
    let left : FileLeaves opened.file (a ++ 0 ∷ r) = record {
      clean = λ i clean.
          let untouched : IsUntouched ((length a, length a + 1) ∷ []) i = subst (λ (ranges : List (ℕ × ℕ)). IsUntouched ranges i) opened.torn.touched clean.untouched in
          apart a r 0 opened.gate i untouched.0 ∙ sym (opened.torn.bytes.others i untouched.0);
      no_shorter = omega (arith, one, other, synced);
      no_longer = omega (arith, one, other, least);
    } in
    just bodies disk.state (a ++ 0 ∷ r) (may_leave disk.state opened.file (a ++ 0 ∷ r) sound.state opened.has left)
    (record { sizes = sizes; gate = 0; rest = r; shut = λ e. cc; is = refl })

-- a durable opening, of which the gate is closed
shut_lost : (bodies : List (List ℕ)) (body : List ℕ) (shut : ℕ) (rest : List ℕ) (disk : DiskState) → AllFit bodies → shut ≢ 1 → IsSoundDisk disk
    → HasFile disk.state journal_name (settled_file (opening bodies body shut rest)) → MayLeaveJust bodies disk.state
shut_lost bodies body shut rest disk sizes is_shut sound has =
    let text : IsJournalText bodies (opening bodies body shut rest) = record { sizes = sizes; gate = shut; rest = (in_four (length body) ++ body) ++ 0 ∷ rest; shut = is_shut; is = refl } in
    kept_lost bodies disk sound (record { file = settled_file (opening bodies body shut rest); has = has; keeps = front_settled bodies (opening bodies body shut rest) text })

-- The four calls of an append, each where it fails.
module _ (bodies : List (List ℕ)) (body : List ℕ) (start : History) (gate : ℕ) (fits : FitsCell body) where
  pub fill_lost : (fault : DiskFault) (new : History) (piece : List ℕ) → IsSoundDisk (now new) → AtRest (now start) gate bodies → Next start new (WriteStep journal_place (gate + 1) piece (Err fault)) → MayLeaveJust bodies (now new).state
  fill_lost fault new piece sound rest next =
      kept_lost bodies (now new) sound
      (kept_write bodies (gate + 1) piece (Err fault) (now start) (now new) (ap (λ (n : ℕ). n + 1) rest.at) (kept_at_rest bodies (now start) gate rest) next.stepped)

  pub settle_lost : (fault : DiskFault) (old new : History) → IsSoundDisk (now new) → Filled bodies body start gate fits old → Next old new (SyncStep journal_place (Err fault)) → MayLeaveJust bodies (now new).state
  settle_lost fault old new sound filled next = kept_lost bodies (now new) sound (subst (Kept bodies) (sym next.stepped) filled.kept)

  pub open_lost : (fault : DiskFault) (old new : History) → gate ≡ length (front bodies) → IsSoundDisk (now new) → Ready bodies body start gate fits old → Next old new (WriteStep journal_place gate (1 ∷ []) (Err fault)) → MayLeaveJust bodies (now new).state
  open_lost fault old new at sound ready next =
      let here = subst (λ (n : ℕ). Next old new (WriteStep journal_place n (1 ∷ []) (Err fault))) at next in
      ⊎_elim
      (λ (opened : Opened bodies body (now new)). opened_lost bodies body (now new) ready.sizes sound opened)
      (λ (same : now new ≡ now old).
      shut_lost bodies body ready.shut ready.rest (now new) ready.sizes ready.is_shut sound
      (subst (λ (disk : DiskState). HasFile disk.state journal_name (settled_file (opening bodies body ready.shut ready.rest))) (sym same) ready.has))
      (opened_write bodies body ready.shut ready.rest (Err fault) (now old) (now new) ready.has here.stepped)

  pub keep_lost : (fault : DiskFault) (old new : History) → IsSoundDisk (now new) → Open bodies body start gate fits old → Next old new (SyncStep journal_place (Err fault)) → MayLeaveJust bodies (now new).state
  keep_lost fault old new sound opened next =
      opened_lost bodies body (now new) opened.sizes sound (subst (Opened bodies body) (sym next.stepped) opened.opened)
