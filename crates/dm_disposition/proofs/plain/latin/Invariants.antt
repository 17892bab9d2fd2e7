use Rattle.std.proofs.Common.{◌≡◌, take}
use Rattle.std.specs.Str.{encode_utf8_all}
use Rattle.std.specs.Prelude.{string_bytes}
use Rattle.dm_disposition.proofs.plain.latin.Given as goal

abbrev pub invariant-loop-byte : goal.invariant-loop-byte
invariant-loop-byte l = string_bytes l.chars ≡ encode_utf8_all (take l.byte-index l.bytes)
