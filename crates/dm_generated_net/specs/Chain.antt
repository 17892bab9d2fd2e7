-- The closed wires of a generated net, oldest first.
use Rattle.std.specs.Prelude.{List, [], ◌∷◌, ◌++◌}
use Rattle.dm_edge.specs.Wire.{Closed}
use Rattle.dm_generated.specs.Replies.{stream_with}
use Rattle.dm_generated_net.specs.declared.chain.Connection.{Connection}
use Rattle.dm_generated_net.specs.declared.chain.Link.{Link}
use Rattle.dm_generated_net.specs.declared.chain.Link.TheVariants.{End, More}

abbrev pub linked : Link → List Connection
linked End = []
linked (More newest older) = older.value ++ newest ∷ []

-- what is told of a closed wire
abbrev pub closed_as : Connection → Closed
closed_as connection = record {
  purpose = record { address = connection.address; id = connection.id; attempt = connection.attempt };
  sent = connection.sent;
  stream = stream_with connection.number connection.wire connection.reply;
}
