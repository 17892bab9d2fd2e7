-- Each call is one moment, and the earlier ones stay.
use Rattle.std.proofs.Common.{◌≡◌, inl, inr, ⊎_elim, ◌+◌, ◌<◌, ◌≤◌, List, [], ◌∷◌, ◌++◌, length, refl, sym, ◌∙◌, ap, subst, arith}
use Rattle.std.proofs.lemmas.Bool.{cases_lt}
use Rattle.std.proofs.lemmas.List.{take-append-le, take_all, length_push}
use Rattle.dm_disk_model.specs.Disk.{DiskState, History, Next, now}
use Rattle.dm_disk.specs.declared.call.Call.{Call}
use Rattle.dm_disk.specs.Calls.{folder_after, in_folder, disk_after, history_of}
use Rattle.dm_disk.proofs.Replay.{disk_after_push}

pub now_is : (calls : List Call) → now (history_of calls) ≡ disk_after calls
now_is calls = ap disk_after (take_all (length calls) calls (omega arith))

-- nothing was recorded
pub stayed : (history : History) (step : DiskState → DiskState → Type 0) → step (now history) (now history) → Next history history step
stayed history step stepped = record { later = omega arith; kept = λ t le. refl; between = λ t le ge. let same : t ≡ history.moment = omega arith in inl (ap history.at same); stepped = stepped }

-- one call was recorded
pub pushed : (calls : List Call) (call : Call) (step : DiskState → DiskState → Type 0)
    → step (disk_after calls) (in_folder call.area (folder_after (length calls) call.act) (disk_after calls)) → Next (history_of calls) (history_of (calls ++ call ∷ [])) step
pushed calls call step stepped =
    let more : length (calls ++ call ∷ []) ≡ length calls + 1 = length_push calls call in
    let last : now (history_of (calls ++ call ∷ [])) ≡ in_folder call.area (folder_after (length calls) call.act) (disk_after calls) =
    now_is (calls ++ call ∷ []) ∙ disk_after_push calls call in
    record {
      later = omega (arith, more);
      kept = λ t le. ap disk_after (take-append-le t calls (call ∷ []) le);
      between = λ t ge le. ⊎_elim
          (λ (past : length calls < t). inr (ap disk_after (take_all t (calls ++ call ∷ []) (omega (arith, more)) ∙ sym (take_all (length (calls ++ call ∷ [])) (calls ++ call ∷ []) (omega arith)))))
          (λ (at : t ≤ length calls). inl (ap disk_after (take-append-le t calls (call ∷ []) at ∙ take_all t calls ge ∙ sym (take_all (length calls) calls (omega arith)))))
          (cases_lt (length calls) t);
      stepped = subst (λ (new : DiskState). step (now (history_of calls)) new) (sym last)
          (subst (λ (old : DiskState). step old (in_folder call.area (folder_after (length calls) call.act) (disk_after calls))) (sym (now_is calls)) stepped);
    }

-- the same, where the calls are named by what they became
pub pushed_to : (calls later : List Call) (call : Call) (step : DiskState → DiskState → Type 0) → later ≡ calls ++ call ∷ []
    → step (disk_after calls) (in_folder call.area (folder_after (length calls) call.act) (disk_after calls)) → Next (history_of calls) (history_of later) step
pushed_to calls later call step is stepped = subst (λ (to : List Call). Next (history_of calls) (history_of to) step) (sym is) (pushed calls call step stepped)
