use Rattle.dm_disk.proofs.Listings.{IsListing}
use Rattle.dm_disk.proofs.listing.list_names.Given as goal

abbrev pub invariant-loop-call : goal.invariant-loop-call
invariant-loop-call l = IsListing l.calls l.area l.call-index l.names.items
