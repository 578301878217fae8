use Rattle.std.proofs.Common.{◌<◌, ℕ}
use Rattle.macho_identity.specs.DirectoryAgree.{IsDisagreeing}
use Rattle.macho_identity.proofs.AgreeingDirectories.{hash_number, IsFirstFound}
use Rattle.macho_identity.proofs.Noted.{AreNoted}
use Rattle.macho_identity.proofs.directory_agree.first_disagreeing.Given as goal

-- the first directory of the entries before it is there, their types of hashes are noted, and no such entry disagrees
abbrev pub invariant-loop-index : goal.invariant-loop-index
invariant-loop-index l = record {
  first : IsFirstFound l.signature.bytes.now l.index l.first;
  taken : AreNoted (hash_number l.signature.bytes.now) 256 l.index l.is_taken;
  good : (j : ℕ) → j < l.index → ¬ IsDisagreeing l.signature.bytes.now j;
}
