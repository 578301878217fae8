use Rattle.std.proofs.Common.{arith}
use Rattle.macho_text.proofs.Holding.{holds_nothing}
use Rattle.macho_lines.proofs.image.write_linked_library.Goals as goal

pub returns-then-library-eq-LC_ID_DYLIB : goal.returns-then-library-eq-LC_ID_DYLIB
returns-then-library-eq-LC_ID_DYLIB g c = holds_nothing (grind arith)
