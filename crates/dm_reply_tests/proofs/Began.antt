-- A reader at the content's first byte.
use Rattle.std.proofs.Common.{◌≡◌, [], subst}
use Rattle.dm_edge.specs.declared.wanted.Wanted.{Wanted}
use Rattle.dm_edge.specs.Wire.{Told}
use Rattle.dm_reply.specs.declared.head.Head.{Head}
use Rattle.dm_reply.specs.declared.head.Kind.TheVariants as kind
use Rattle.dm_reply.specs.Content.{Reader, HeadSays, KindSays}
use Rattle.dm_reply_tests.specs.Collected.{HasCollected}

pub collected_none : (wanted : Wanted) (now : Told) (reader : Reader) (told : Head) → HeadSays wanted now reader told → told.kind ≡ kind.Content
    → HasCollected wanted now.given reader []
collected_none wanted now reader told says is = record { head = says.head; read = subst (KindSays wanted now reader says.head) is says.kind_is }
