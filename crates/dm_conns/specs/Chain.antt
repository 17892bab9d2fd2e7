-- The connections that are over, oldest first.
use Rattle.std.specs.Prelude.{List, [], ◌∷◌, ◌++◌}
use Rattle.dm_conns.specs.declared.chain.Link.{Link}
use Rattle.dm_conns.specs.declared.chain.Link.TheVariants.{End, More}
use Rattle.dm_conns.specs.declared.chain.Served.{Served}

abbrev pub linked : Link → List Served
linked End = []
linked (More newest older) = older.value ++ newest ∷ []
