use Rattle.std.proofs.Common.{inr}
use Rattle.macho_fields.specs.Bytes.{bytes_of}
use Rattle.macho_opcodes.specs.declared.streams.Stream.TheVariants as streams
use Rattle.macho_explain.specs.Explained.{IsSpot}
use Rattle.macho_explain.specs.Streams.{HasStep, OfBinds, ShowsStep}
use Rattle.macho_explain.specs.Wholes.{Opens}
use Rattle.macho_explain.specs.declared.explanation.Explanation.{Explanation}
use Rattle.macho_explain.proofs.Steps.{in_last}
use Rattle.macho_explain.proofs.stream.step_of_binds.Goals as goal

pub returns : goal.returns
returns c =
    let image = bytes_of c.args.sliced.now.held.bytes in
    let place = c.args.sliced.now.place in
    let asked = c.args.asked in
    in_last (Opens image) (HasStep asked streams.Bind image place) (HasStep asked streams.WeakBind image place) (HasStep asked streams.LazyBind image place)
    (λ (e : Explanation). IsSpot c.args.sliced.now e.at × ShowsStep asked streams.LazyBind image place e.conflict)
    (λ (e : Explanation). IsSpot c.args.sliced.now e.at × OfBinds (λ one. ShowsStep asked one image place e.conflict))
    c.step_of-3.result c.in_default.ensures c.in_default-step_of.ensures c.step_of-3.ensures (λ e shown. (shown.0, inr (inr shown.1)))
