-- Which answers of a call are right. For each text there is one address or one refusal, and want of memory is the one
-- answer that nothing rules out.
use Rattle.std.specs.Prelude.{◌≡◌, ℕ, List, None, Result, Ok, Err, MatchResult}
use Rattle.dm_types.specs.declared.address.Address.{Address}
use Rattle.dm_request.specs.declared.address.AddressFault.{AddressFault}
use Rattle.dm_request.specs.declared.address.AddressFault.TheVariants.{TooLong, NotUrl, NotHttp, NoMemory}
use Rattle.dm_request.specs.declared.address.Unread.{Unread}
use Rattle.dm_request.specs.declared.address.Unread.TheVariants.{Refused}
use Rattle.dm_request.specs.declared.address.Unread.TheVariants as answers
use Rattle.dm_request.specs.Reading.{address_read, address_next}

-- the fault is the one that is expected, or memory was wanting
abbrev pub IsFaultOf : {T : Type 0} → Result T AddressFault → AddressFault → Type 0
IsFaultOf expected (TooLong length) = expected ≡ Err (TooLong length)
IsFaultOf expected NotUrl = expected ≡ Err NotUrl
IsFaultOf expected NotHttp = expected ≡ Err NotHttp
IsFaultOf expected NoMemory = Unit {0}

-- the result is the one that is expected, or memory was wanting
abbrev pub Answers : {T : Type 0} → Result T AddressFault → Result T AddressFault → Type 0
Answers expected result = MatchResult result (λ value. expected ≡ Ok value) (IsFaultOf expected)

-- the address is read of the text
abbrev pub IsRead : List ℕ → Address → Type 0
IsRead text address = address_read None text ≡ Ok address

-- the text is refused so
abbrev pub Refuses : List ℕ → AddressFault → Type 0
Refuses text fault = IsFaultOf (address_read None text) fault

-- the address is what the Location leads to
abbrev pub IsNext : Address → List ℕ → Address → Type 0
IsNext base location address = address_next base location ≡ Ok address

-- the Location is refused so
abbrev pub RefusesNext : Address → List ℕ → AddressFault → Type 0
RefusesNext base location fault = IsFaultOf (address_next base location) fault

-- there is no address
abbrev pub HasNone : Result Address AddressFault → Type 0
HasNone expected = (address : Address) → ¬ (expected ≡ Ok address)

-- no address is read of the text: it is refused for another cause than memory
abbrev pub IsNoAddress : List ℕ → Type 0
IsNoAddress text = HasNone (address_read None text)

-- the Location leads to no address
abbrev pub IsNowhere : Address → List ℕ → Type 0
IsNowhere base location = HasNone (address_next base location)

-- a fault refuses its text, but for want of memory
abbrev pub unread_of : AddressFault → Unread
unread_of (TooLong length) = Refused
unread_of NotUrl = Refused
unread_of NotHttp = Refused
unread_of NoMemory = answers.NoMemory
