-- The four calls of an append, over the disk's moments.
use Rattle.std.proofs.Common.{◌≡◌, ◌≢◌, ◌⊎◌, inl, inr, ⊎_elim, ℕ, ◌+◌, List, [], ◌∷◌, ◌++◌, length, drop, Some, IsSome, is_some, Result, Ok, Err, refl, sym, ◌∙◌, ap, subst, arith, length-append, append_assoc}
use Rattle.dm_disk_model.specs.declared.place.Place.{Place}
use Rattle.dm_disk_model.specs.declared.place.DiskFault.{DiskFault}
use Rattle.dm_disk_model.specs.File.{File, IsTorn, IsWritten, IsSynced, overwrite, settled_file}
use Rattle.dm_disk_model.specs.Folder.{Folder, Names, FileSteps, names_of, after_changes}
use Rattle.dm_disk_model.specs.Firm.{HasFile}
use Rattle.dm_disk_model.specs.Moments.{LeavesOnly, KeepsFiles}
use Rattle.dm_disk_model.specs.Disk.{DiskState, Image, History, Next, now, MayLeave, Stands, WriteStep, SyncStep, bytes_at}
use Rattle.dm_disk_model.proofs.Places.{write_reads, sync_reads}
use Rattle.dm_disk_model.proofs.FirmNames.{steps, has_left, Stepped}
use Rattle.dm_disk_model.proofs.Reaching.{over_call, joined, weaker, at_end}
use Rattle.dm_journal.specs.Text.{header, FitsCell, in_four, cell, AllFit, front, IsJournalText}
use Rattle.dm_journal.specs.AtRest.{journal_name, journal_place, AtRest, ReadsJournal, WithOrWithout, cell_tail}
use Rattle.dm_journal.proofs.Texts.{cells_push, length-cell}
use Rattle.dm_journal.proofs.Leaving.{KeepsFront, front_left, front_settled, front_torn, written_is_torn, opening, opening_open, gate_left, overwrite_at_seam}

-- the file stands, and its front is durable
pub record Kept (bodies : List (List ℕ)) (disk : DiskState) : Type 0 where
  pub file : File
  pub has : HasFile disk.state journal_name file
  pub keeps : KeepsFront bodies file

-- the file stands and reads so
pub record ReadsAs (bytes : List ℕ) (disk : DiskState) : Type 0 where
  pub file : File
  pub has : HasFile disk.state journal_name file
  pub is : file.bytes ≡ bytes

-- a durable opening, of which the gate was written since
pub record Opened (bodies : List (List ℕ)) (body : List ℕ) (disk : DiskState) : Type 0 where
  pub gate : ℕ
  pub rest : List ℕ
  pub file : File
  pub has : HasFile disk.state journal_name file
  pub torn : IsTorn (length (front bodies)) 1 (settled_file (opening bodies body gate rest)) file

pub kept_at_rest : (bodies : List (List ℕ)) (disk : DiskState) (gate : ℕ) → AtRest disk gate bodies → Kept bodies disk
kept_at_rest bodies disk gate rest = record { file = settled_file rest.bytes; has = rest.file; keeps = front_settled bodies rest.bytes rest.text }

kept_leaves : (bodies : List (List ℕ)) (body : List ℕ) (disk : DiskState) → Kept bodies disk → (image : Image) → MayLeave disk image → WithOrWithout bodies body image
kept_leaves bodies body disk kept image left =
    let found = has_left disk.state journal_name kept.file image.state kept.has left.state in
    inl (record { bytes = found.bytes; found = found.is; text = front_left bodies kept.file found.bytes kept.keeps found.left })

opened_leaves : (bodies : List (List ℕ)) (body : List ℕ) (disk : DiskState) → AllFit bodies → FitsCell body → Opened bodies body disk → (image : Image) → MayLeave disk image → WithOrWithout bodies body image
opened_leaves bodies body disk sizes fits opened image left =
    let found = has_left disk.state journal_name opened.file image.state opened.has left.state in
    ⊎_elim
    (λ (without : IsJournalText bodies found.bytes). inl (record { bytes = found.bytes; found = found.is; text = without }))
    (λ (with' : IsJournalText (bodies ++ body ∷ []) found.bytes). inr (record { bytes = found.bytes; found = found.is; text = with' }))
    (gate_left bodies body opened.gate (length (front bodies)) opened.rest opened.file found.bytes sizes fits refl opened.torn found.left)

-- the calls are on the journal's place
pub write_home : (place : Place) (at : ℕ) (piece : List ℕ) (result : Result (Unit {0}) DiskFault) (old new : History) → place ≡ journal_place
    → Next old new (WriteStep place at piece result) → Next old new (WriteStep journal_place at piece result)
write_home place at piece result old new home next = subst (λ (p : Place). Next old new (WriteStep p at piece result)) home next

pub sync_home : (place : Place) (result : Result (Unit {0}) DiskFault) (old new : History) → place ≡ journal_place → Next old new (SyncStep place result) → Next old new (SyncStep journal_place result)
sync_home place result old new home next = subst (λ (p : Place). Next old new (SyncStep p result)) home next

-- what a write does to a file that stands
written : (disk new : DiskState) (file : File) (at : ℕ) (piece : List ℕ) → HasFile disk.state journal_name file → WriteStep journal_place at piece (Ok tt) disk new
    → Stepped new.state journal_name (IsWritten at piece) file
written disk new file at piece has step = steps disk.state new.state journal_name (IsWritten at piece) file has step.0

pub kept_write : (bodies : List (List ℕ)) (at : ℕ) (piece : List ℕ) (result : Result (Unit {0}) DiskFault) (disk new : DiskState) → at ≡ length (front bodies) + 1
    → Kept bodies disk → WriteStep journal_place at piece result disk new → Kept bodies new
kept_write bodies at piece (Ok done) disk new is kept step =
    let moved = steps disk.state new.state journal_name (IsWritten at piece) kept.file kept.has step.0 in
    record { file = moved.after; has = moved.has; keeps = front_torn bodies at (length piece) kept.file moved.after is kept.keeps (written_is_torn at piece kept.file moved.after moved.stepped) }
kept_write bodies at piece (Err fault) disk new is kept (inl step) =
    let moved = steps disk.state new.state journal_name (IsTorn at (length piece)) kept.file kept.has step.0 in
    record { file = moved.after; has = moved.has; keeps = front_torn bodies at (length piece) kept.file moved.after is kept.keeps moved.stepped }
kept_write bodies at piece (Err fault) disk new is kept (inr same) = subst (Kept bodies) (sym same) kept

pub opened_write : (bodies : List (List ℕ)) (body : List ℕ) (gate : ℕ) (rest : List ℕ) (result : Result (Unit {0}) DiskFault) (disk new : DiskState)
    → HasFile disk.state journal_name (settled_file (opening bodies body gate rest)) → WriteStep journal_place (length (front bodies)) (1 ∷ []) result disk new
    → Opened bodies body new ⊎ (new ≡ disk)
opened_write bodies body gate rest (Ok done) disk new has step =
    let was : File = settled_file (opening bodies body gate rest) in
    let moved = steps disk.state new.state journal_name (IsWritten (length (front bodies)) (1 ∷ [])) was has step.0 in
    inl (record { gate = gate; rest = rest; file = moved.after; has = moved.has; torn = written_is_torn (length (front bodies)) (1 ∷ []) was moved.after moved.stepped })
opened_write bodies body gate rest (Err fault) disk new has (inl step) =
    let was : File = settled_file (opening bodies body gate rest) in
    let moved = steps disk.state new.state journal_name (IsTorn (length (front bodies)) 1) was has step.0 in
    inl (record { gate = gate; rest = rest; file = moved.after; has = moved.has; torn = moved.stepped })
opened_write bodies body gate rest (Err fault) disk new has (inr same) = inr same

synced : (disk new : DiskState) (bytes : List ℕ) → ReadsAs bytes disk → SyncStep journal_place (Ok tt) disk new → HasFile new.state journal_name (settled_file bytes)
synced disk new bytes reads step =
    let moved = steps disk.state new.state journal_name IsSynced reads.file reads.has step.0 in
    subst (λ (f : File). HasFile new.state journal_name f) (moved.stepped ∙ ap settled_file reads.is) moved.has

-- the file still stands
names_same : (name : List ℕ) (step : File → File → Type 0) (old new : Folder) → FileSteps name step old new → IsSome (names_of new name)
names_same name step old new taken =
    let same : names_of new ≡ names_of old = ap (λ (s : Names). after_changes s new.changes) taken.synced ∙ ap (after_changes old.synced) taken.changes in
    ap is_some (ap (λ (names : Names). names name) same ∙ taken.stands)

pub write_stands : (at : ℕ) (piece : List ℕ) (disk new : DiskState) → WriteStep journal_place at piece (Ok tt) disk new → Stands new journal_place
write_stands at piece disk new step = names_same journal_name (IsWritten at piece) disk.state new.state step.0

pub sync_stands : (disk new : DiskState) → SyncStep journal_place (Ok tt) disk new → Stands new journal_place
sync_stands disk new step = names_same journal_name IsSynced disk.state new.state step.0

-- the user's files stay
write_files : (at : ℕ) (piece : List ℕ) (result : Result (Unit {0}) DiskFault) (disk new : DiskState) → WriteStep journal_place at piece result disk new → new.files ≡ disk.files
write_files at piece (Ok done) disk new step = step.1
write_files at piece (Err fault) disk new (inl step) = step.1
write_files at piece (Err fault) disk new (inr same) = ap (λ (d : DiskState). d.files) same

sync_files : (result : Result (Unit {0}) DiskFault) (disk new : DiskState) → SyncStep journal_place result disk new → new.files ≡ disk.files
sync_files (Ok done) disk new step = step.1
sync_files (Err fault) disk new same = ap (λ (d : DiskState). d.files) same

pub keeps_write : (at : ℕ) (piece : List ℕ) (result : Result (Unit {0}) DiskFault) (old new : History) → Next old new (WriteStep journal_place at piece result) → KeepsFiles old new
keeps_write at piece result old new next =
    over_call old new (λ disk. disk.files ≡ (now old).files) (WriteStep journal_place at piece result) next refl (write_files at piece result (now old) (now new) next.stepped)

pub keeps_sync : (result : Result (Unit {0}) DiskFault) (old new : History) → Next old new (SyncStep journal_place result) → KeepsFiles old new
keeps_sync result old new next =
    over_call old new (λ disk. disk.files ≡ (now old).files) (SyncStep journal_place result) next refl (sync_files result (now old) (now new) next.stepped)

pub keeps_then : (first middle last : History) → KeepsFiles first middle → KeepsFiles middle last → KeepsFiles first last
keeps_then first middle last before after =
    joined first middle last (λ disk. disk.files ≡ (now first).files) before
    (weaker middle last (λ disk. disk.files ≡ (now middle).files) (λ disk. disk.files ≡ (now first).files)
    (λ disk same. same ∙ at_end first middle (λ d. d.files ≡ (now first).files) before) after)

-- one body that is appended to these, from a start on
module _ (bodies : List (List ℕ)) (body : List ℕ) (start : History) (gate : ℕ) (fits : FitsCell body) where
  abbrev Good : DiskState → Type 0
  Good disk = (image : Image) → MayLeave disk image → WithOrWithout bodies body image

  -- the cell was written behind the gate
  pub record Filled (present : History) : Type 0 where
    pub so_far : LeavesOnly start present (WithOrWithout bodies body)
    pub kept : Kept bodies (now present)
    pub shut : ℕ
    pub is_shut : shut ≢ 1
    pub rest : List ℕ
    pub reads : ReadsAs (opening bodies body shut rest) (now present)

  -- and is durable
  pub record Ready (present : History) : Type 0 where
    pub so_far : LeavesOnly start present (WithOrWithout bodies body)
    pub sizes : AllFit bodies
    pub shut : ℕ
    pub is_shut : shut ≢ 1
    pub rest : List ℕ
    pub has : HasFile (now present).state journal_name (settled_file (opening bodies body shut rest))

  -- the gate was opened
  pub record Open (present : History) : Type 0 where
    pub so_far : LeavesOnly start present (WithOrWithout bodies body)
    pub sizes : AllFit bodies
    pub rest : List ℕ
    pub reads : ReadsAs (opening bodies body 1 rest) (now present)
    pub opened : Opened bodies body (now present)

  pub start_good : AtRest (now start) gate bodies → Good (now start)
  start_good rest = kept_leaves bodies body (now start) (kept_at_rest bodies (now start) gate rest)

  pub fill_failed : (fault : DiskFault) (new : History) (piece : List ℕ) → AtRest (now start) gate bodies → Next start new (WriteStep journal_place (gate + 1) piece (Err fault)) → LeavesOnly start new (WithOrWithout bodies body)
  fill_failed fault new piece rest next =
      over_call start new Good (WriteStep journal_place (gate + 1) piece (Err fault)) next (start_good rest)
      (kept_leaves bodies body (now new) (kept_write bodies (gate + 1) piece (Err fault) (now start) (now new) (ap (λ (n : ℕ). n + 1) rest.at) (kept_at_rest bodies (now start) gate rest) next.stepped))

  pub fill_done : (new : History) (piece : List ℕ) → piece ≡ cell_tail body → AtRest (now start) gate bodies → Next start new (WriteStep journal_place (gate + 1) piece (Ok tt)) → Filled new
  fill_done new piece is rest next =
      let before = kept_at_rest bodies (now start) gate rest in
      let kept = kept_write bodies (gate + 1) piece (Ok tt) (now start) (now new) (ap (λ (n : ℕ). n + 1) rest.at) before next.stepped in
      let moved = written (now start) (now new) (settled_file rest.bytes) (gate + 1) piece rest.file next.stepped in
      let a : List ℕ = front bodies ++ rest.text.gate ∷ [] in
      let at : gate + 1 ≡ length a = let more = length-append (front bodies) (rest.text.gate ∷ []) in omega (arith, more, rest.at) in
      let was : rest.bytes ≡ a ++ rest.text.rest = rest.text.is ∙ sym (append_assoc (front bodies) (rest.text.gate ∷ []) rest.text.rest) in
      let behind : List ℕ = drop (length piece) rest.text.rest in
      let bytes : moved.after.bytes ≡ opening bodies body rest.text.gate behind =
      moved.stepped.bytes
      ∙ ap (λ (xs : List ℕ). overwrite xs (gate + 1) piece) was
      ∙ ap (λ (n : ℕ). overwrite (a ++ rest.text.rest) n piece) at
      ∙ overwrite_at_seam a rest.text.rest piece
      ∙ ap (λ (xs : List ℕ). (a ++ xs) ++ behind) is
      ∙ append_assoc a (cell_tail body) behind
      ∙ append_assoc (front bodies) (rest.text.gate ∷ []) (cell_tail body ++ behind)
      ∙ ap (λ (xs : List ℕ). front bodies ++ rest.text.gate ∷ xs) (append_assoc (in_four (length body) ++ body) (0 ∷ []) behind) in
      record {
        so_far = over_call start new Good (WriteStep journal_place (gate + 1) piece (Ok tt)) next (start_good rest) (kept_leaves bodies body (now new) kept);
        kept = kept;
        shut = rest.text.gate;
        is_shut = rest.text.shut;
        rest = behind;
        reads = record { file = moved.after; has = moved.has; is = bytes };
      }

  pub settle_failed : (fault : DiskFault) (old new : History) → Filled old → Next old new (SyncStep journal_place (Err fault)) → LeavesOnly start new (WithOrWithout bodies body)
  settle_failed fault old new filled next =
      let good = kept_leaves bodies body (now old) filled.kept in
      joined start old new Good filled.so_far
      (over_call old new Good (SyncStep journal_place (Err fault)) next good (subst Good (sym next.stepped) good))

  pub settle_done : (old new : History) → Filled old → Next old new (SyncStep journal_place (Ok tt)) → Ready new
  settle_done old new filled next =
      let has = synced (now old) (now new) (opening bodies body filled.shut filled.rest) filled.reads next.stepped in
      let text : IsJournalText bodies (opening bodies body filled.shut filled.rest) =
      record { sizes = filled.kept.keeps.sizes; gate = filled.shut; rest = (in_four (length body) ++ body) ++ 0 ∷ filled.rest; shut = filled.is_shut; is = refl } in
      let kept : Kept bodies (now new) = record { file = settled_file (opening bodies body filled.shut filled.rest); has = has; keeps = front_settled bodies (opening bodies body filled.shut filled.rest) text } in
      record {
        so_far = joined start old new Good filled.so_far
            (over_call old new Good (SyncStep journal_place (Ok tt)) next (kept_leaves bodies body (now old) filled.kept) (kept_leaves bodies body (now new) kept));
        sizes = filled.kept.keeps.sizes;
        shut = filled.shut;
        is_shut = filled.is_shut;
        rest = filled.rest;
        has = has;
      }

  opened_good : (result : Result (Unit {0}) DiskFault) (old new : History) → Ready old → Next old new (WriteStep journal_place (length (front bodies)) (1 ∷ []) result) → LeavesOnly start new (WithOrWithout bodies body)
  opened_good result old new ready next =
      let before = at_end start old Good ready.so_far in
      joined start old new Good ready.so_far
      (over_call old new Good (WriteStep journal_place (length (front bodies)) (1 ∷ []) result) next before
      (⊎_elim (opened_leaves bodies body (now new) ready.sizes fits) (λ same. subst Good (sym same) before)
      (opened_write bodies body ready.shut ready.rest result (now old) (now new) ready.has next.stepped)))

  pub open_failed : (fault : DiskFault) (old new : History) → gate ≡ length (front bodies) → Ready old → Next old new (WriteStep journal_place gate (1 ∷ []) (Err fault)) → LeavesOnly start new (WithOrWithout bodies body)
  open_failed fault old new at ready next =
      opened_good (Err fault) old new ready (subst (λ (n : ℕ). Next old new (WriteStep journal_place n (1 ∷ []) (Err fault))) at next)

  pub open_done : (old new : History) → gate ≡ length (front bodies) → Ready old → Next old new (WriteStep journal_place gate (1 ∷ []) (Ok tt)) → Open new
  open_done old new at ready next =
      let here = subst (λ (n : ℕ). Next old new (WriteStep journal_place n (1 ∷ []) (Ok tt))) at next in
      let was : File = settled_file (opening bodies body ready.shut ready.rest) in
      let moved = written (now old) (now new) was (length (front bodies)) (1 ∷ []) ready.has here.stepped in
      let r : List ℕ = (in_four (length body) ++ body) ++ 0 ∷ ready.rest in
      let bytes : moved.after.bytes ≡ opening bodies body 1 ready.rest =
      moved.stepped.bytes ∙ overwrite_at_seam (front bodies) (ready.shut ∷ r) (1 ∷ []) ∙ append_assoc (front bodies) (1 ∷ []) r in
      record {
        so_far = opened_good (Ok tt) old new ready here;
        sizes = ready.sizes;
        rest = ready.rest;
        reads = record { file = moved.after; has = moved.has; is = bytes };
        opened = record { gate = ready.shut; rest = ready.rest; file = moved.after; has = moved.has; torn = written_is_torn (length (front bodies)) (1 ∷ []) was moved.after moved.stepped };
      }

  pub keep_failed : (fault : DiskFault) (old new : History) → Open old → Next old new (SyncStep journal_place (Err fault)) → LeavesOnly start new (WithOrWithout bodies body)
  keep_failed fault old new opened next =
      let good = at_end start old Good opened.so_far in
      joined start old new Good opened.so_far
      (over_call old new Good (SyncStep journal_place (Err fault)) next good (subst Good (sym next.stepped) good))

  pub record Appended (present : History) : Type 0 where
    pub so_far : LeavesOnly start present (WithOrWithout bodies body)
    pub rest : AtRest (now present) (gate + (5 + length body)) (bodies ++ body ∷ [])

  pub keep_done : (old new : History) → gate ≡ length (front bodies) → Open old → Next old new (SyncStep journal_place (Ok tt)) → Appended new
  keep_done old new at opened next =
      let bytes : List ℕ = opening bodies body 1 opened.rest in
      let has = synced (now old) (now new) bytes opened.reads next.stepped in
      let text = opening_open bodies body opened.rest bytes opened.sizes fits refl in
      let all : front (bodies ++ body ∷ []) ≡ front bodies ++ cell body = ap (λ (xs : List ℕ). header ++ xs) (cells_push bodies body) in
      let kept : Kept (bodies ++ body ∷ []) (now new) = record { file = settled_file bytes; has = has; keeps = front_settled (bodies ++ body ∷ []) bytes text } in
      record {
        so_far = joined start old new Good opened.so_far
            (over_call old new Good (SyncStep journal_place (Ok tt)) next (at_end start old Good opened.so_far) (last_leaves (now new) kept));
        rest = record {
          bytes = bytes;
          file = has;
          text = text;
          at = let long = ap length all in let parts = length-append (front bodies) (cell body) in let one = length-cell body in omega (arith, long, parts, one, at);
        };
      }
    where
      last_leaves : (disk : DiskState) → Kept (bodies ++ body ∷ []) disk → Good disk
      last_leaves disk k image left =
          let found = has_left disk.state journal_name k.file image.state k.has left.state in
          inr (record { bytes = found.bytes; found = found.is; text = front_left (bodies ++ body ∷ []) k.file found.bytes k.keeps found.left })

-- the same of what reads alone
module _ (bodies : List (List ℕ)) (body : List ℕ) (gate : ℕ) (fits : FitsCell body) where
  pub appended_reads : (first second third fourth last : DiskState) (piece : List ℕ) → piece ≡ cell_tail body → ReadsJournal first gate bodies
      → WriteStep journal_place (gate + 1) piece (Ok tt) first second → SyncStep journal_place (Ok tt) second third
      → WriteStep journal_place gate (1 ∷ []) (Ok tt) third fourth → SyncStep journal_place (Ok tt) fourth last
      → ReadsJournal last (gate + (5 + length body)) (bodies ++ body ∷ [])
  appended_reads first second third fourth last piece is reads filled settled opened kept =
      let a : List ℕ = front bodies ++ reads.text.gate ∷ [] in
      let at : gate + 1 ≡ length a = let more = length-append (front bodies) (reads.text.gate ∷ []) in omega (arith, more, reads.at) in
      let was : reads.bytes ≡ a ++ reads.text.rest = reads.text.is ∙ sym (append_assoc (front bodies) (reads.text.gate ∷ []) reads.text.rest) in
      let behind : List ℕ = drop (length piece) reads.text.rest in
      let shut : List ℕ = opening bodies body reads.text.gate behind in
      let bytes : overwrite reads.bytes (gate + 1) piece ≡ shut =
      ap (λ (xs : List ℕ). overwrite xs (gate + 1) piece) was
      ∙ ap (λ (n : ℕ). overwrite (a ++ reads.text.rest) n piece) at
      ∙ overwrite_at_seam a reads.text.rest piece
      ∙ ap (λ (xs : List ℕ). (a ++ xs) ++ behind) is
      ∙ append_assoc a (cell_tail body) behind
      ∙ append_assoc (front bodies) (reads.text.gate ∷ []) (cell_tail body ++ behind)
      ∙ ap (λ (xs : List ℕ). front bodies ++ reads.text.gate ∷ xs) (append_assoc (in_four (length body) ++ body) (0 ∷ []) behind) in
      let now_shut : bytes_at third journal_place ≡ Some shut =
      sync_reads journal_place second third settled ∙ write_reads journal_place (gate + 1) piece reads.bytes first second reads.reads filled ∙ ap Some bytes in
      let r : List ℕ = (in_four (length body) ++ body) ++ 0 ∷ behind in
      let opens : overwrite shut gate (1 ∷ []) ≡ opening bodies body 1 behind =
      ap (λ (n : ℕ). overwrite shut n (1 ∷ [])) reads.at ∙ overwrite_at_seam (front bodies) (reads.text.gate ∷ r) (1 ∷ []) ∙ append_assoc (front bodies) (1 ∷ []) r in
      let all : front (bodies ++ body ∷ []) ≡ front bodies ++ cell body = ap (λ (xs : List ℕ). header ++ xs) (cells_push bodies body) in
      record {
        bytes = opening bodies body 1 behind;
        reads = sync_reads journal_place fourth last kept ∙ write_reads journal_place gate (1 ∷ []) shut third fourth now_shut opened ∙ ap Some opens;
        text = opening_open bodies body behind (opening bodies body 1 behind) reads.text.sizes fits refl;
        at = let long = ap length all in let parts = length-append (front bodies) (cell body) in let one = length-cell body in omega (arith, long, parts, one, reads.at);
      }
