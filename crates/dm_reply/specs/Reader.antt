-- A reader as contracts see it, by its fields.
use Rattle.std.specs.Prelude.{◌≤◌, IsTrue, IfSome}
use Rattle.dm_edge.specs.Causes.{is_content_cause}
use Rattle.dm_edge.specs.Begins.{most_content}
use Rattle.dm_reply.specs.Content.{Reader}
use Rattle.dm_reply.specs.Steps.{most_of}
use Rattle.dm_reply.specs.declared.reader.ReplyReader.TheInside.{Inside}

abbrev pub reader_of : Inside → Reader
reader_of r = record {
  wanted = r.wanted;
  size = r.size;
  reading = record {
    ahead = r.ahead;
    body = r.body;
    given = r.given;
    broke = r.broke;
  };
}

-- no more is given than its framing allows, nor than a content or the part may have, and what ended it is a cause of a content
pub record IsReader (r : Inside) : Type 0 where
  pub counted : r.given ≤ most_of r.body
  pub within : most_of r.body ≤ most_content
  pub sized : IfSome r.size (λ size. (r.given ≤ size) × (size ≤ most_content))
  pub own : IfSome r.broke (λ broke. IsTrue (is_content_cause broke))
