-- What was read of an honest wire is said by its origin.
use Rattle.std.proofs.Common.{◌≡◌, ℕ, inl, inr, List, [], ◌∷◌, Option, Some, None, sym, ap, ◌∙◌, subst}
use Rattle.dm_types.specs.declared.address.Address.{Address}
use Rattle.dm_types.specs.declared.item.Key.{Key}
use Rattle.dm_request.specs.Request.{request_of}
use Rattle.dm_edge.specs.declared.wanted.Wanted.{Wanted}
use Rattle.dm_edge.specs.declared.wanted.Wanted.TheVariants.{Whole, Part}
use Rattle.httparse.specs.Grammar.{ResponseHead}
use Rattle.dm_edge.specs.Fair.{ask_of, first_of, key_of, HasTag, SaysContent, IsHonest}
use Rattle.dm_edge.specs.Fields.{NameAndValue, fields_of}
use Rattle.dm_edge.specs.Metadata.{HasStrong, IsStrongTag}
use Rattle.dm_edge.specs.Reply.{IsFramedFront, IsFrontOfContent}
use Rattle.dm_edge.specs.Wire.{Purpose, Told, stream_of}
use Rattle.dm_reply.specs.Content.{Reader, HasRead, HeadSays, KindSays, IsSized, framing_of}
use Rattle.dm_reply.specs.declared.head.Head.{Head}
use Rattle.dm_reply.specs.declared.head.Kind.TheVariants as kind
use Rattle.dm_reply.proofs.StreamLemmas.{content_more, front_more}

-- what a reader gave is first bytes of what is wanted
pub front_of : (wanted : Wanted) (head : ResponseHead) (stream content : List ℕ) (size : Option ℕ) → IsSized wanted head size content
    → IsFramedFront wanted head stream content → IsFrontOfContent wanted stream content
front_of Whole head stream content size sized front = record { head = head; some = front }
front_of (Part first last tag known) head stream content size sized front = record {
  head = head;
  some = record {
    size = sized.count;
    has_size = record { to = sized.to; total = sized.total; asked = sized.asked; size_is = sized.count_is };
    front = front;
    within = sized.within;
  };
}

-- Where the request for this was sent, the wire is honest and this content was read of it behind this head, each of its bytes is said at its place, under
-- the key of the head.
pub said_by : {tells : Type 0} {says : Address → Key → ℕ → ℕ → Type 0} (purpose : Purpose) (told : Told) (wanted : Wanted) (head : ResponseHead) (reader : Reader)
    (content : List ℕ) (tag : Option (List ℕ)) → IsHonest tells says purpose told → told.sent ≡ request_of purpose.address (ask_of wanted)
    → HasRead wanted head told.given reader content → IsStrongTag (fields_of head) tag
    → SaysContent says purpose.address (key_of purpose tag) (first_of wanted) content
said_by purpose told wanted head reader content tag (inl all) sent read tag_is = record { each = λ place byte here. all _ _ _ _ }
said_by purpose told wanted head reader content tag (inr fair) sent read tag_is =
    let has_tag : HasTag wanted (stream_of told) tag = record {
      head = head;
      framing = framing_of reader.reading.body;
      rest = _;
      begins = content_more read.framed.begins told.left;
      tag_is = tag_is;
    } in
    fair.1 wanted content tag sent (front_of wanted head (stream_of told) content reader.size read.sized (front_more read.framed.front told.left)) has_tag

one_value : (value other : List ℕ) → ◌≡◌ {A = List (List ℕ)} (value ∷ []) (other ∷ []) → value ≡ other
one_value value other e = cc

-- the head of a part has the tag that is known
pub part_key : (first last : ℕ) (tag : List ℕ) (known : ℕ) (now : Told) (reader : Reader) (told : Head) → HeadSays (Part first last tag known) now reader told
    → told.kind ≡ kind.Content → told.strong ≡ Some tag
part_key first last tag known now reader told says content =
    let read : HasRead (Part first last tag known) says.head now.given reader [] =
    subst (KindSays (Part first last tag known) now reader says.head) content says.kind_is in
    one_tag (fields_of says.head) told.strong tag read.sized.asked.strong says.fields_say.strong_is
  where
    one_tag : (fields : List NameAndValue) (told : Option (List ℕ)) (tag : List ℕ) → HasStrong fields tag → IsStrongTag fields told → told ≡ Some tag
    one_tag fields None tag has none = absurd (none tag has)
    one_tag fields (Some other) tag has is = ap Some (one_value other tag (sym is.only ∙ has.only))
