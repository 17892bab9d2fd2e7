-- The head of the first reply, as the stream of its connection has it.
use Rattle.std.specs.Prelude.{◌≡◌, ℕ, List, Option, Some, None}
use Rattle.httparse.specs.Grammar.{ResponseHead}
use Rattle.dm_edge.specs.declared.framing.Framing.{Framing}
use Rattle.dm_edge.specs.declared.wanted.Wanted.TheVariants.{Whole}
use Rattle.dm_edge.specs.Begins.{BeginsContent, told_total}
use Rattle.dm_edge.specs.Fields.{fields_of}
use Rattle.dm_reply.specs.Content.{FieldsSay}
use Rattle.dm_reply.specs.declared.head.Head.{Head}

-- The stream begins with a head of a whole content. It says this: how many bytes come, its strong tag, whether ranges are given, and what it tells of the file.
pub record SaysHead (stream : List ℕ) (told : Head) : Type 0 where
  pub head : ResponseHead
  pub framing : Framing
  pub rest : List ℕ
  pub begins : BeginsContent Whole stream head framing rest
  pub total_is : told.total ≡ told_total framing
  pub fields_say : FieldsSay (fields_of head) told

-- the stream begins with this head, where there is one
abbrev pub SaysReply : Option Head → List ℕ → Type 0
SaysReply None stream = ⊥
SaysReply (Some told) stream = SaysHead stream told
