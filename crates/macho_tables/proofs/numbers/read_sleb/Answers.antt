use Rattle.std.proofs.Common.{◌∙◌, sym, length, FitsSigned, w64, rules}
use Rattle.std.specs.Int.{w128}
use Rattle.std.proofs.lemmas.Int.{to_z-of_z}
use Rattle.macho_tables.proofs.Digits.{number_short, digits_below, signed_none, signed_some, signed_large, power_fits, twos_complement_of, fits_yes, fits_not}
use Rattle.macho_tables.proofs.numbers.read_sleb.Goals as goal

pub returns-in_err-encoded : goal.returns-in_err-encoded
returns-in_err-encoded c = c.from_residual.ensures ∙ sym (signed_none _ c.args.place c.in_err-encoded.ensures)

pub signed-requires-clause-below : goal.signed-requires-clause-below
signed-requires-clause-below c =
    let (bytes, some, value, scale, next) = c.in_ok-encoded.ensures in
    rw (value, scale) (digits_below bytes)

pub signed-requires-clause-few : goal.signed-requires-clause-few
signed-requires-clause-few c =
    let (bytes, some, value, scale, next) = c.in_ok-encoded.ensures in
    rw scale (power_fits (length bytes) (number_short _ bytes some))

pub returns-in_default : goal.returns-in_default
returns-in_default c =
    let (bytes, some, value, scale, next) = c.in_ok-encoded.ensures in
    let fits : FitsSigned w128 c.signed.result = search rules in
    let is = c.signed.ensures ∙ twos_complement_of _ _ bytes value scale in
    let large = simp to_z-of_z at c.in_default.ensures in
    sym (signed_large _ c.args.place bytes some (rw (← is) (fits_not c.signed.result large)))

pub returns : goal.returns
returns c =
    let (bytes, some, value, scale, next) = c.in_ok-encoded.ensures in
    let fits : FitsSigned w128 c.signed.result = search rules in
    let is = c.signed.ensures ∙ twos_complement_of _ _ bytes value scale in
    let (small, same) = simp to_z-of_z at c.in-Ok.ensures in
    let here : FitsSigned w64 c.in-Ok.value = rw same small in
    rw (to_z-of_z w64 c.in-Ok.value here, same, is, next) (sym (signed_some _ c.args.place bytes some (rw (← is) (fits_yes c.signed.result small))))
