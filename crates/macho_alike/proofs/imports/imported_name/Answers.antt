use Rattle.std.proofs.Common.{◌≡◌, ◌∙◌, ◌+◌, ◌-◌, ◌^◌, ◌<◌, ℕ, List, length, ap, arith, inl, inr}
use Rattle.std.specs.Prelude.{min}
use Rattle.std.proofs.lemmas.Bool.{cases_lt}
use Rattle.macho_fields.specs.Bytes.{bytes_of}
use Rattle.macho_fields.specs.Field.{string_from}
use Rattle.macho_fields.specs.Symbol.{stroff}
use Rattle.macho_alike.proofs.EndlessStrings.{string_past_end}
use Rattle.macho_alike.proofs.imports.imported_name.Goals as goal

-- a place that does not fit is past the end
saturated : (bytes : List ℕ) (place start : ℕ) → length bytes < 2 ^ 64 → start ≡ min place (2 ^ 64 - 1) → string_from start bytes ≡ string_from place bytes
saturated bytes place start near is = elim (cases_lt place (2 ^ 64)) [
  | inl fits ↦ let same : start ≡ place = omega (arith, is, fits) in ap (λ n. string_from n bytes) same
  | inr past ↦ string_past_end bytes start place (omega (arith, near, is, past)) (omega (arith, near, past))
]

pub returns-clause-name : goal.returns-clause-name
returns-clause-name c = λ symtab begins.
    let image = bytes_of c.args.image in
    let symbol = c.args.symbol in
    let place : c.args.stroff + symbol.strx ≡ stroff image symtab + symbol.strx = ap (λ n. n + symbol.strx) begins in
    c.string_at.ensures ∙ saturated image (stroff image symtab + symbol.strx) c.saturating_add.result c.requires (omega (arith, c.saturating_add.ensures, c.from.ensures, place))
