-- What `url_of` gives by each of its tests, and that a URL that was read is read of its own text again.
use Rattle.std.proofs.Common.{lit<, ◌≡◌, ℕ, List, length, Bool, true, false, not, cond, Ok, Err, Some, None, ◌<◌, ◌≤◌, ◌∙◌, ap, refl}
use Rattle.std.specs.Prelude.{[], unwrap_or, Option, Result, nat_lt, codes}
use Rattle.std.specs.Str.{is_utf8}
use Rattle.std.proofs.lemmas.Bool.{cond-true, cond-false, lt-ltb, le-ltb, ltb-false, ltb-true, false_from_ne_true, and_parts}
use Rattle.std.proofs.lemmas.List.Elements.{All-cons, All-append, All-weaker}
use Rattle.std.proofs.lemmas.Slice.Eq.{bytes_eq-Decides}
use Rattle.std.proofs.lemmas.Str.{IsUtf8-from_ascii, is_utf8-from_IsUtf8}
use Rattle.url.specs.declared.sets.TheConstants.{PATH}
use Rattle.url.specs.declared.scheme.SchemeType.TheVariants.{SpecialNotFile}
use Rattle.url.specs.Scheme.{scheme_type, default_port, is_special}
use Rattle.url.specs.Parts.{Parts, IsValid, kind_of, query_set}
use Rattle.url.specs.Parser.{parse_url}
use Rattle.url.proofs.InputLemmas.{Passes}
use Rattle.url.proofs.TextLemmas.{All_kept, All_part, is_host_byte, own_host_bytes, query_byte}
use Rattle.url.proofs.ValidLemmas.{hierarchical, base_from_authority, special_has_authority, segment_list_kept}
use Rattle.url.proofs.Theorems.{parse_url-serialize_special}
use Rattle.dm_request.specs.declared.address.AddressFault.{AddressFault}
use Rattle.dm_request.specs.declared.address.AddressFault.TheVariants.{TooLong, NotUrl, NotHttp, NoMemory}
use Rattle.dm_request.specs.Address.{without_fragment, text_of, is_http, address_of, query_part, IsUnbroken, FitsLines}
use Rattle.dm_request.specs.Reading.{most, fetched_of, url_of, addressed, address_after, IsFetched}
use Rattle.dm_request.specs.Fault.{IsFaultOf, Answers, IsRead}

pub too_long : (base : Option Parts) (text : List ℕ) → most < length text → url_of base text ≡ Err (TooLong (length text))
unfolding url_of
too_long base text long = cond-true _ _ _ (lt-ltb most (length text) long)

pub not_utf8 : (base : Option Parts) (text : List ℕ) → length text ≤ most → (is_utf8 text ≡ true → ⊥) → url_of base text ≡ Err NotUrl
unfolding url_of
not_utf8 base text short not = cond-false _ _ _ (le-ltb most (length text) short) ∙ cond-false _ _ _ (false_from_ne_true _ not)

pub parsed : (base : Option Parts) (text : List ℕ) → length text ≤ most → is_utf8 text ≡ true → url_of base text ≡ fetched_of (parse_url base text)
unfolding url_of
parsed base text short utf8 = cond-false _ _ _ (le-ltb most (length text) short) ∙ cond-true _ _ _ utf8

-- the answer that is expected is right
pub answers_itself : {T : Type 0} (result : Result T AddressFault) → Answers result result
answers_itself (Ok value) = refl
answers_itself (Err (TooLong n)) = refl
answers_itself (Err NotUrl) = refl
answers_itself (Err NotHttp) = refl
answers_itself (Err NoMemory) = tt

-- a refusal by `url_of` is one of the address
pub addressed_fault : (expected : Result Parts AddressFault) (fault : AddressFault) → IsFaultOf expected fault → IsFaultOf (addressed expected) fault
addressed_fault expected (TooLong n) is = ap addressed is
addressed_fault expected NotUrl is = ap addressed is
addressed_fault expected NotHttp is = ap addressed is
addressed_fault expected NoMemory is = tt

-- a refusal of the base is one of what is written from it
pub after_fault : (expected : Result Parts AddressFault) (fault : AddressFault) (text : List ℕ) → IsFaultOf expected fault → IsFaultOf (address_after expected text) fault
after_fault expected (TooLong n) text is = ap (λ e. address_after e text) is
after_fault expected NotUrl text is = ap (λ e. address_after e text) is
after_fault expected NotHttp text is = ap (λ e. address_after e text) is
after_fault expected NoMemory text is = tt

web_scheme : (scheme : List ℕ) → scheme ≡ codes "http" → scheme_type scheme ≡ SpecialNotFile
unfolding scheme_type default_port
web_scheme scheme is = ap scheme_type is

passes : (url : Parts) (long http : Bool) → cond long (Err (TooLong (length (text_of url)))) (cond http (Ok url) (Err NotHttp)) ≡ Ok url → (long ≡ false) × (http ≡ true)
passes url true http is = absurd (cc)
passes url false true is = (refl, refl)
passes url false false is = absurd (cc)

valid_without : (url : Parts) → IsValid url → IsValid (without_fragment url)
valid_without url valid = record {
  head = record { scheme = valid.head.scheme; username = valid.head.username; password = valid.head.password; host = valid.head.host; port = valid.head.port; bare = valid.head.bare };
  path = valid.path;
  query = valid.query;
  fragment = tt;
}

web_kind : (url : Parts) → IsFetched url → kind_of url ≡ SpecialNotFile
web_kind url is =
    let tests = passes url (nat_lt most (length (text_of url))) (is_http url) is.fetched in
    web_scheme url.scheme ((bytes_eq-Decides url.scheme (codes "http")).0 (and_parts _ _ tests.1).0)

-- a URL that is fetched is read of its own text, without its fragment
pub again : (url : Parts) → IsFetched url → url_of None (text_of url) ≡ Ok (without_fragment url)
again url is =
    let tests = passes url (nat_lt most (length (text_of url))) (is_http url) is.fetched in
    let short = ltb-false most (length (text_of url)) tests.0 in
    let back = parse_url-serialize_special (without_fragment url) None (valid_without url is.valid) (web_kind url is) in
    parsed None (text_of url) short (is_utf8-from_IsUtf8 _ (IsUtf8-from_ascii _ is.ascii))
    ∙ ap fetched_of back
    ∙ cond-false _ _ _ tests.0 ∙ cond-true _ _ _ tests.1

pub address_again : (url : Parts) → IsFetched url → IsRead (address_of url).text (address_of url)
address_again url is = ap addressed (again url is)

-- and has at most as many bytes as an address may
pub short_text : (url : Parts) → IsFetched url → length (address_of url).text ≤ most
short_text url is =
    ltb-false most (length (text_of url)) (passes url (nat_lt most (length (text_of url))) (is_http url) is.fetched).0

-- the path of a web URL is a list of segments, and their bytes are above a space
path_unbroken : (url : Parts) → IsValid url → kind_of url ≡ SpecialNotFile → IsUnbroken url.path
path_unbroken url valid kind =
    let authority = special_has_authority url valid.head (ap is_special kind) in
    let list = hierarchical url valid.path (base_from_authority url authority) in
    All-weaker (Passes (λ b. nat_lt 32 b)) (λ b. 32 < b) (λ b above. ltb-true 32 b above) url.path (All_kept (λ b. nat_lt 32 b) PATH refl url.path (segment_list_kept _ url.path list.0))

with_mark : (query : Option (List ℕ)) → IsUnbroken (unwrap_or query []) → IsUnbroken (query_part query)
with_mark None above = above
with_mark (Some query) above = All-cons (λ b. 32 < b) 63 query (lit< tt) above

query_unbroken : (url : Parts) → IsValid url → IsUnbroken (query_part url.query)
query_unbroken url valid =
    with_mark url.query (All_part (λ b. 32 < b) (query_set (kind_of url)) url.query (λ b kept. ltb-true 32 b (and_parts _ _ (query_byte (kind_of url) b kept)).0) valid.query)

pub fits_lines : (url : Parts) → IsFetched url → FitsLines (address_of url)
fits_lines url is = record {
  host = All-weaker (Passes is_host_byte) (λ b. 32 < b) (λ b passes. ltb-true 32 b (and_parts _ _ passes).0) _ (own_host_bytes url is.valid.head);
  target = All-append (λ b. 32 < b) url.path (query_part url.query) (path_unbroken url is.valid (web_kind url is)) (query_unbroken url is.valid);
}
