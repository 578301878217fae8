use Rattle.std.proofs.Common.{◌<◌, ℕ}
use Rattle.macho_fields.specs.Bytes.{bytes_of}
use Rattle.macho_identity.specs.DirectoryAgree.{HasDirectory}
use Rattle.macho_explain.proofs.identity.first_directory.Given as goal

-- no entry before is one of a code directory
abbrev pub invariant-loop-earlier : goal.invariant-loop-earlier
invariant-loop-earlier l = (j : ℕ) → j < l.earlier → ¬ HasDirectory (bytes_of l.signature.bytes) j
