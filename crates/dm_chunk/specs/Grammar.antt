-- The chunked coding as a grammar on whole texts (RFC 9112, section 7.1), with this project's limits. CR LF is 13, 10.
use Rattle.std.specs.Prelude.{◌≡◌, ℕ, ◌<◌, ◌≤◌, List, [], ◌∷◌, ◌++◌, length}
use Rattle.std.specs.List.{flat_map, AllByRecursion}
use Rattle.dm_types.specs.Bytes.{is_blank, Each}
use Rattle.dm_chunk.specs.Bytes.{is_line_byte, is_hex, hexadecimal}

-- ---- chunk lines

-- a chunk line: its size, blanks, and what chunk extension there is
pub record Line : Type 0 where
  pub digits : List ℕ
  pub blanks : List ℕ
  pub extension : List ℕ

abbrev pub line_text : Line → List ℕ
line_text l = l.digits ++ (l.blanks ++ (l.extension ++ 13 ∷ 10 ∷ []))

-- nothing, or a semicolon and bytes other than CR and LF
abbrev pub IsExtension : List ℕ → Type 0
IsExtension [] = Unit {0}
IsExtension (b ∷ bytes) = (b ≡ 59) × Each is_line_byte bytes

-- 1 to 15 digits; with its CR LF the line has at most 16,384 bytes
pub record IsLine (l : Line) : Type 0 where
  pub digits : Each is_hex l.digits
  pub some : 0 < length l.digits
  pub most : length l.digits ≤ 15
  pub blanks : Each is_blank l.blanks
  pub extension : IsExtension l.extension
  pub within : length (line_text l) ≤ 16384

-- ---- chunks

-- chunk = chunk-size [ chunk-ext ] CRLF chunk-data CRLF
pub record Chunk : Type 0 where
  pub line : Line
  pub bytes : List ℕ

abbrev pub chunk_text : Chunk → List ℕ
chunk_text c = line_text c.line ++ (c.bytes ++ 13 ∷ 10 ∷ [])

abbrev pub data_of : Chunk → List ℕ
data_of c = c.bytes

-- it has data, as many bytes as its line says
pub record IsChunk (c : Chunk) : Type 0 where
  pub line : IsLine c.line
  pub some : 0 < length c.bytes
  pub size : hexadecimal c.line.digits ≡ length c.bytes

-- ---- trailers

-- A trailer line has any bytes. It goes up to the first CR LF, so a CR alone and an LF alone belong to it.
pub record IsTrailer (line : List ℕ) : Type 0 where
  pub some : 0 < length line
  pub unbroken : (before behind : List ℕ) → line ≡ before ++ 13 ∷ 10 ∷ behind → ⊥

abbrev pub trailer_text : List ℕ → List ℕ
trailer_text line = line ++ 13 ∷ 10 ∷ []

-- trailer-section CRLF
abbrev pub section_text : List (List ℕ) → List ℕ
section_text lines = flat_map trailer_text lines ++ 13 ∷ 10 ∷ []

-- with its last CR LF the section has at most 16,384 bytes
pub record IsSection (lines : List (List ℕ)) : Type 0 where
  pub each : AllByRecursion IsTrailer lines
  pub within : length (section_text lines) ≤ 16384

-- ---- whole texts

-- chunked-body = *chunk last-chunk trailer-section CRLF
pub record Body : Type 0 where
  pub chunks : List Chunk
  pub last : Line
  pub trailers : List (List ℕ)

abbrev pub body_text : Body → List ℕ
body_text b = flat_map chunk_text b.chunks ++ (line_text b.last ++ section_text b.trailers)

abbrev pub body_data : Body → List ℕ
body_data b = flat_map data_of b.chunks

-- the last chunk has the size 0
pub record IsBody (b : Body) : Type 0 where
  pub chunks : AllByRecursion IsChunk b.chunks
  pub last : IsLine b.last
  pub zero : hexadecimal b.last.digits ≡ 0
  pub trailers : IsSection b.trailers

-- the text is a chunked body with this content, and `after` follows it
pub record IsChunked (text content after : List ℕ) : Type 0 where
  pub body : Body
  pub is : IsBody body
  pub parts : text ≡ body_text body ++ after
  pub joined : content ≡ body_data body
