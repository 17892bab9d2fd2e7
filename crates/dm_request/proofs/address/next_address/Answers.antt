-- What is fetched is read of its own text again, and fits the lines of a request.
use Rattle.std.proofs.Common.{◌≤◌, length, sym, subst}
use Rattle.dm_types.specs.declared.address.Address.{Address}
use Rattle.dm_request.specs.Address.{FitsLines}
use Rattle.dm_request.specs.Fault.{IsRead}
use Rattle.dm_request.proofs.ReadingLemmas.{address_again, fits_lines, short_text}
use Rattle.dm_request.proofs.address.next_address.Goals as goal

pub returns-in-Ok-address_of-clause-stable : goal.returns-in-Ok-address_of-clause-stable
returns-in-Ok-address_of-clause-stable c =
    subst (λ (address : Address). IsRead address.text address) (sym c.in-Ok-address_of.ensures.parts) (address_again c.in-Ok-join_url.url c.in-Ok-join_url.ensures.fetched)

pub returns-in-Ok-address_of-clause-lines : goal.returns-in-Ok-address_of-clause-lines
returns-in-Ok-address_of-clause-lines c =
    subst (λ (address : Address). FitsLines address) (sym c.in-Ok-address_of.ensures.parts) (fits_lines c.in-Ok-join_url.url c.in-Ok-join_url.ensures.fetched)

pub returns-in-Ok-address_of-clause-short : goal.returns-in-Ok-address_of-clause-short
returns-in-Ok-address_of-clause-short c =
    subst (λ (address : Address). length address.text ≤ 4096) (sym c.in-Ok-address_of.ensures.parts) (short_text c.in-Ok-join_url.url c.in-Ok-join_url.ensures.fetched)
