use Rattle.std.proofs.Common.{◌∙◌, map, sym}
use Rattle.macho_fields.specs.Image.{commands_of}
use Rattle.macho_image.specs.Symbol.{symbols_of}
use Rattle.macho_image.proofs.Ranges.{item_at, range-map}
use Rattle.macho_verified.specs.Image.{symbol_view}
use Rattle.macho_verified.proofs.image.VerifiedImage.symbol.Goals as goal

pub returns : goal.returns
returns c =
    let image = c.args.self.now in
    let read = symbol_view image in
    let symbols = symbols_of image (commands_of image) in
    item_at (map read symbols) c.args.index c.symbol_group.result c.next.new.self c.next.result (c.symbol_group.ensures.symbols ∙ sym (range-map read symbols c.args.index 1)) c.next.ensures.steps
