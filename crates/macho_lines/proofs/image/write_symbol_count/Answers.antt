use Rattle.std.proofs.Common.{arith}
use Rattle.macho_text.proofs.Holding.{holds_nothing}
use Rattle.macho_lines.proofs.image.write_symbol_count.Goals as goal

pub returns-in-None : goal.returns-in-None
returns-in-None g c = holds_nothing (grind arith)
