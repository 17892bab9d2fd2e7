-- The same clauses, with the faults of earlier calls on the disk counted too.
use Rattle.std.proofs.Common.{inl, inr, ℕ, Bool, List, Result, Ok, Err}
use Rattle.dm_types.specs.Faults.{NoneFell}
use Rattle.dm_types.specs.declared.kinds.DiskKind.{DiskKind}
use Rattle.dm_disk_model.specs.Disk.{History as Clock}
use Rattle.dm_edge.specs.declared.fault.NetFault.{NetFault}
use Rattle.dm_edge.specs.Wire.{Closed}
use Rattle.dm_item.specs.Lawful.{History}
use Rattle.dm_item.specs.Listing.{Listing}
use Rattle.dm_store.proofs.Saved.{later_then, rose_last}
use Rattle.dm_report.specs.Said.{Said}
use Rattle.dm_report.specs.declared.verdict.Verdict.{Verdict}
use Rattle.dm_csv.specs.declared.row.ImportRow.{ImportRow}
use Rattle.dm_shown.specs.declared.named.Named.{Named}
use Rattle.dm_does.specs.Answering.{SaysFault, SaysUnread}
use Rattle.dm_does.specs.World.{IsLater, World}
use Rattle.dm_past.specs.Answering.{WasUnopened, WasUnread}
use Rattle.dm_past.specs.Past.{Past}
use Rattle.dm_import.specs.Adding.{Comes, EndsSo, all_added, fell, lost, refused, wanted}

ends_since : (told : Type 0) (first counts counts' : DiskKind → ℕ) (past past' : Past) (at : ℕ) (list : Listing) (rest : List ImportRow) (failed : History) (broken : Bool) (verdict : Verdict) → NoneFell first counts
    → EndsSo told counts counts' past past' at list rest failed broken verdict → EndsSo told first counts' past past' at list rest failed broken verdict
ends_since told first counts counts' past past' at list rest failed broken verdict earlier (all_added none none_failed whole is) = all_added none none_failed whole is
ends_since told first counts counts' past past' at list rest failed broken verdict earlier (refused row more rest_is does none_failed whole) = refused row more rest_is does none_failed whole
ends_since told first counts counts' past past' at list rest failed broken verdict earlier (fell row more entry one kind rest_is does failed_is is_broken rose is) =
    fell row more entry one kind rest_is does failed_is is_broken (rose_last (first kind) (counts kind) (counts' kind) (earlier kind) rose) is
ends_since told first counts counts' past past' at list rest failed broken verdict earlier (lost row more rest_is free has_failed none_failed whole is) = lost row more rest_is free has_failed none_failed whole is
ends_since told first counts counts' past past' at list rest failed broken verdict earlier (wanted none_failed whole is) = wanted none_failed whole is

pub comes_since : (told : Type 0) (first counts counts' : DiskKind → ℕ) (past past' : Past) (at : ℕ) (list : Listing) (read : Result (List ImportRow) Verdict) (all : List Named) (recorded failed : History) (broken : Bool) (verdict : Verdict) → NoneFell first counts
    → Comes told counts counts' past past' at list read all recorded failed broken verdict → Comes told first counts' past past' at list read all recorded failed broken verdict
comes_since told first counts counts' past past' at list (Ok rows) all recorded failed broken verdict earlier comes = record {
  first = comes.first;
  rest = comes.rest;
  rows_are = comes.rows_are;
  are = comes.are;
  ends = ends_since told first counts counts' past past' at _ comes.rest failed broken verdict earlier comes.ends;
}
comes_since told first counts counts' past past' at list (Err why) all recorded failed broken verdict earlier comes = comes

-- what a run meets
abbrev pub world : Clock → (DiskKind → ℕ) → (NetFault → ℕ) → List Closed → World
world clock counts net_faults closed = record { disk = clock; disk_faults = counts; net_faults = net_faults; closed = closed }

module _ (clock : Clock) (first counts : DiskKind → ℕ) (net_faults : NetFault → ℕ) (closed : List Closed) (earlier : NoneFell first counts) (after : World) where
  abbrev pub later_world : World
  later_world = world clock counts net_faults closed

  abbrev pub sooner_world : World
  sooner_world = world clock first net_faults closed

  fault_sooner : (said : Said) → SaysFault later_world after said → SaysFault sooner_world after said
  fault_sooner said (inl (kind, rose, is)) = inl (kind, rose_last (first kind) (counts kind) (after.disk_faults kind) (earlier kind) rose, is)
  fault_sooner said (inr is) = inr is

  unread_says : (said : Said) → SaysUnread later_world after said → SaysUnread sooner_world after said
  unread_says said (inl fault) = inl (fault_sooner said fault)
  unread_says said (inr damage) = inr damage

  pub unread_sooner : (past past' : Past) (said : Said) → WasUnread later_world after past past' said → WasUnread sooner_world after past past' said
  unread_sooner past past' said was = record { none_closed = was.none_closed; says = unread_says said was.says; same = was.same }

  pub unopened_sooner : (tells : Type 0) (at : ℕ) (past past' : Past) (found recorded failed rest : History) (said : Said) → WasUnopened tells at later_world after past past' found recorded failed rest said
      → WasUnopened tells at sooner_world after past past' found recorded failed rest said
  unopened_sooner tells at past past' found recorded failed rest said was = record {
    none_closed = was.none_closed;
    says = fault_sooner said was.says;
    same = was.same;
    taken = was.taken;
    lawful = was.lawful;
    one = was.one;
    left = was.left;
    tried = was.tried;
  }

  pub later_sooner : (tells : Type 0) → IsLater tells later_world after → IsLater tells sooner_world after
  later_sooner tells is = record { disk_later = later_then first counts after.disk_faults earlier is.disk_later; net_later = is.net_later; moments_stay = is.moments_stay }
