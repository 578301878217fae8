use Rattle.macho_fields.specs.Bytes.{bytes_of}
use Rattle.std.proofs.Common.{◌≡◌, Some}
use Rattle.std.specs.Prelude.{slice_get}
use Rattle.macho_opcodes.specs.declared.streams.Stream.TheVariants as streams
use Rattle.macho_explain.specs.Explained.{IsSpot}
use Rattle.macho_explain.specs.Streams.{HasOpcode}
use Rattle.macho_explain.specs.Wholes.{Opens}
use Rattle.macho_explain.specs.declared.explanation.Explanation.{Explanation}
use Rattle.macho_explain.proofs.Steps.{in_last}
use Rattle.macho_explain.proofs.stream.bind_opcode.Goals as goal

pub returns : goal.returns
returns c =
    let image = bytes_of c.args.sliced.now.held.bytes in
    let place = c.args.sliced.now.place in
    in_last (Opens image) (HasOpcode streams.Bind image place) (HasOpcode streams.WeakBind image place) (HasOpcode streams.LazyBind image place)
    (λ (e : Explanation). IsSpot c.args.sliced.now e.at × (slice_get image place ≡ Some e.conflict.value) × (e.conflict.limit ≡ 207))
    (λ (e : Explanation). IsSpot c.args.sliced.now e.at × ((slice_get image place ≡ Some e.conflict.value) × (e.conflict.limit ≡ 207)))
    c.opcode_byte-3.result c.in_default.ensures c.in_default-opcode_byte.ensures c.opcode_byte-3.ensures (λ e shown. (shown.0, (shown.1, shown.2)))
