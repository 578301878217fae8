use Rattle.std.proofs.Common.{◌≡◌, ℕ, ◌*◌, ◌<◌, take, drop}
use Rattle.sha2.specs.Sha256.{hash_after, initial_hash_256}
use Rattle.macho_lanes.specs.Lanes.{lane}
use Rattle.macho_lanes.proofs.pages.pages_sha256.Given as goal

abbrev pub invariant-whole : goal.invariant-whole
invariant-whole l = (j : ℕ) → j < 4
    → lane j l.state ≡ hash_after initial_hash_256 (take l.size (drop (j * l.size) l.pages)) l.index
