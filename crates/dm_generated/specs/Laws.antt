-- What holds of the generated replies: each is read back as what was printed.
use Rattle.std.specs.Prelude.{◌≡◌, ℕ, ◌+◌, ◌-◌, ◌^◌, ◌<◌, ◌≤◌, List, slice_get, Some}
use Rattle.dm_types.specs.declared.address.Address.{Address}
use Rattle.dm_edge.specs.declared.framing.Framing.TheVariants.{Counted}
use Rattle.dm_edge.specs.declared.wanted.Wanted.{Wanted}
use Rattle.dm_edge.specs.declared.wanted.Wanted.TheVariants as wanted
use Rattle.dm_edge.specs.Begins.{BeginsContent}
use Rattle.dm_edge.specs.Fair.{first_of}
use Rattle.dm_edge.specs.Fields.{fields_of}
use Rattle.dm_edge.specs.Metadata.{HasStrong, TakesRanges}
use Rattle.dm_edge.specs.Origin.{generated_byte}
use Rattle.dm_edge.specs.Reply.{IsFrontOfContent}
use Rattle.dm_generated.specs.Content.{size_of, tag_of}
use Rattle.dm_generated.specs.Replies.{Answers, body_of, part_head, stream_with, whole_head}
use Rattle.dm_generated.specs.declared.reply.Reply.{Reply}
use Rattle.dm_generated.specs.declared.reply.Reply.TheVariants as replies

-- the reply for the whole content has its head: the content's length and tag, and ranges of it are given
pub record WholeReads (number wire : ℕ) : Type 0 where
  pub begins : BeginsContent wanted.Whole (stream_with number wire replies.Whole) (whole_head number) (Counted (size_of number)) (body_of number wire replies.Whole)
  pub strong : HasStrong (fields_of (whole_head number)) (tag_of number)
  pub ranges : TakesRanges (fields_of (whole_head number))

-- the reply for a part has its head: that of the asked part of the content with this tag and length
abbrev pub PartReads : (number wire first last : ℕ) → Type 0
PartReads number wire first last =
    BeginsContent (wanted.Part first last (tag_of number) (size_of number)) (stream_with number wire (replies.Part first last)) (part_head number first last)
    (Counted (last - first + 1)) (body_of number wire (replies.Part first last))

abbrev pub ReadsBack : Type 0
ReadsBack = (number wire : ℕ) → number < 2 ^ 32 → WholeReads number wire × ((first last : ℕ) → first ≤ last → last < size_of number → PartReads number wire first last)

-- Whatever is wanted, and whatever was sent: each byte of the content that a generated stream has is the one that the number generates for its place.
abbrev pub BringsGenerated : Type 0
BringsGenerated = (number wire : ℕ) (reply : Reply) (wanted : Wanted) (content : List ℕ) → IsFrontOfContent wanted (stream_with number wire reply) content
    → (place byte : ℕ) → slice_get content place ≡ Some byte → byte ≡ generated_byte number (first_of wanted + place)

-- a text is one request at most
abbrev pub OneAnswer : Type 0
OneAnswer = (number : ℕ) (address : Address) (sent : List ℕ) (reply other : Reply) → Answers number address sent reply → Answers number address sent other → reply ≡ other
