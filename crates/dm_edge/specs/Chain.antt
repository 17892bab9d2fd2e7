-- The closed wires of a net, oldest first.
use Rattle.std.specs.Prelude.{List, [], ◌∷◌, ◌++◌}
use Rattle.dm_edge.specs.declared.chain.Link.{Link}
use Rattle.dm_edge.specs.declared.chain.Link.TheVariants.{End, More}
use Rattle.dm_edge.specs.declared.script.Exchange.{Exchange}

abbrev pub linked : Link → List Exchange
linked End = []
linked (More newest older) = older.value ++ newest ∷ []
