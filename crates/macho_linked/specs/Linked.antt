-- What the linked verdict promises of a file that it accepts.
use Rattle.std.specs.Prelude.{ℕ, List}
use Rattle.macho_fields.specs.First.{IsUnbroken}
use Rattle.macho_fields.specs.Loader.{IsSound}
use Rattle.macho_chains.specs.ChainDyld.{AreChainedSafely}
use Rattle.macho_commands.specs.Sound.{AreSoundCommands}
use Rattle.macho_exports.specs.ExportLaw.{HasSoundExports}
use Rattle.macho_linked.specs.Dyld.{AreFollowedSafely}
use Rattle.macho_linked.specs.Harmless.{AreHarmless}
use Rattle.macho_linked.specs.Located.{AreLocated}
use Rattle.macho_linked.specs.LookedUp.{AreLookedUpSafely}
use Rattle.macho_linked.specs.Rules.{IsLinkedUnbroken}
use Rattle.macho_signature.specs.Signed.{AreSigned}
use Rattle.macho_strict.specs.Accounted.{IsAccounted}
use Rattle.macho_strict.specs.First.{IsStrictlyUnbroken}

-- What follows where a file breaks no rule of the layout and no linked rule
pub record IsLinked (file : List ℕ) : Type 0 where
  -- its opcodes ask for harmless writes alone
  pub harmless : AreHarmless file
  -- the plain dyld follows the streams of opcodes safely
  pub followed : AreFollowedSafely file
  -- and the chained fixups, though it writes the pointers that it reads
  pub chained : AreChainedSafely file
  -- each node of its export tries has an export that leads to what is there, or none, and no look-up of a name is cut
  -- by its bounds
  pub exports : HasSoundExports file
  -- its functions and its data in code are bytes of the file, and its initializers are executable ones
  pub located : AreLocated file
  -- a reader without bounds stays in the indirect symbol table when it looks up what stubs and pointers are for
  pub looked_up : AreLookedUpSafely file
  -- its code signatures cover the bytes before them, and a reader without bounds stays in them
  pub signed : AreSigned file
  -- what its threads and its other commands name is there
  pub commands : AreSoundCommands file

-- What holds of a file that the linked verdict accepts
pub record KeepsLinked (file : List ℕ) : Type 0 where
  -- it breaks no rule of the layout, no strict rule and no linked rule
  pub layout : IsUnbroken file
  pub strict : IsStrictlyUnbroken file
  pub linked : IsLinkedUnbroken file
  -- a loader without bounds of its own stays inside it
  pub sound : IsSound file
  -- each of its bytes is accounted for
  pub accounted : IsAccounted file
  -- and what follows from the linked rules
  pub safe : IsLinked file
