use Rattle.std.proofs.Common.{take, drop, ap, ◌∙◌}
use Rattle.macho_fields.specs.Image.{commands_of}
use Rattle.macho_image.specs.Symbol.{symbol_at, symbols_of}
use Rattle.macho_image.proofs.Ranges.{range-map}
use Rattle.macho_image.proofs.image.Image.symbol_range.Goals as goal

pub returns : goal.returns
returns c =
    let image = c.args.self.now in
    c.range.ensures ∙ ap (λ symbols. take c.args.count (drop c.args.first symbols)) c.symbols.ensures
    ∙ range-map (symbol_at image) (symbols_of image (commands_of image)) c.args.first c.args.count
