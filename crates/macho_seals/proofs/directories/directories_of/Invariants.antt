use Rattle.macho_seals.specs.Directories.{AreDirectories}
use Rattle.macho_seals.proofs.directories.directories_of.Given as goal

-- the directories of the entries before it are there
abbrev pub invariant-loop-index : goal.invariant-loop-index
invariant-loop-index l = AreDirectories l.signature.bytes.now l.index l.directories
