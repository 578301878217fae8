use Rattle.std.proofs.Common.{◌≡◌, ◌+◌, ◌*◌, ◌++◌, length, map, drop}
use Rattle.macho_text.specs.Stream.{joined}
use Rattle.macho_text.specs.Number.{byte_digits}
use Rattle.macho_text.proofs.line.Line.hex_bytes.Given as goal

-- the texts of the bytes before the index were put
abbrev pub invariant-loop-byte : goal.invariant-loop-byte
invariant-loop-byte l = record {
  end : length l.self ≡ length l.initial.self + 2 * l.byte-index;
  text : l.self ++ joined (map (byte_digits l.upper) (drop l.byte-index l.bytes)) ≡ l.initial.self ++ joined (map (byte_digits l.upper) l.bytes);
}
