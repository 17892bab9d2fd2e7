-- What is known of a call that was read: an item that is to be added keeps the limits of a list.
use Rattle.std.specs.Prelude.{◌≤◌, length}
use Rattle.dm_call.specs.declared.call.Call.{Call}
use Rattle.dm_call.specs.declared.call.Call.TheVariants as calls
use Rattle.dm_call.specs.declared.call.Named.{Named}

pub record FitsNamed (named : Named) : Type 0 where
  pub word : length named.word ≤ 64
  pub address : length named.address.text ≤ 4096
  pub name : length named.name ≤ 255

abbrev pub FitsCall : Call → Type 0
FitsCall (calls.Add named) = FitsNamed named
FitsCall _ = Unit {0}
