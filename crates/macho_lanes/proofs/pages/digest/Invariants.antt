use Rattle.std.proofs.Common.{◌≡◌, ◌*◌, length, take}
use Rattle.sha2.specs.Sha256.{digest_bytes}
use Rattle.macho_lanes.specs.Lanes.{lane}
use Rattle.macho_lanes.proofs.pages.digest.Given as goal

abbrev pub invariant-words : goal.invariant-words
invariant-words l = (length l.bytes ≡ 32) × (take (4 * l.i) l.bytes ≡ digest_bytes (lane l.j l.state) l.i)
