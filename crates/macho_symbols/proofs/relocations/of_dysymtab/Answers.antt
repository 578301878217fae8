use Rattle.std.proofs.Common.{◌∙◌, ◌<◌, length, sym, ap, subst, arith}
use Rattle.macho_fields.specs.Bytes.{bytes_of}
use Rattle.macho_fields.specs.FirstPlace.{IsLeastPlace}
use Rattle.macho_image.specs.Symbol.{dysymtab_at}
use Rattle.macho_image.specs.declared.dysymtab.Dysymtab.{Dysymtab}
use Rattle.macho_rules.proofs.OneCommand.{first_at, no_first}
use Rattle.macho_symbols.specs.Relocations.{InDysymtab, IsBadOf}
use Rattle.macho_symbols.specs.declared.relocations.Owner.TheVariants as owners
use Rattle.macho_symbols.proofs.RelocationWalks.{external_inside, local_inside, no_dysymtab, dysymtab_least, found_as}
use Rattle.macho_symbols.proofs.relocations.of_dysymtab.Goals as goal

pub first_bad-requires-clause-inside : goal.first_bad-requires-clause-inside
first_bad-requires-clause-inside c some =
    let image = c.args.image.now in
    let (d, first, same) = first_at (dysymtab_at image) _ c.in_ok-dysymtab.dysymtab (sym c.in_ok-dysymtab.was ∙ c.dysymtab.ensures) in
    let start = ap (λ (t : Dysymtab). t.extreloff) same in
    let count = ap (λ (t : Dysymtab). t.nextrel) same in
    let size = ap length c.bytes-bytes.ensures.bytes in
    let fits = external_inside image c.requires.unbroken (IsBadOf image owners.Dysymtab) d first (subst (λ n. 0 < n) count some) in
    omega (arith, fits, start, count, size)

pub first_bad-requires-2-clause-inside : goal.first_bad-requires-2-clause-inside
first_bad-requires-2-clause-inside c some =
    let image = c.args.image.now in
    let (d, first, same) = first_at (dysymtab_at image) _ c.in_ok-dysymtab.dysymtab (sym c.in_ok-dysymtab.was ∙ c.dysymtab.ensures) in
    let start = ap (λ (t : Dysymtab). t.locreloff) same in
    let count = ap (λ (t : Dysymtab). t.nlocrel) same in
    let size = ap length c.bytes-bytes.ensures.bytes in
    let fits = local_inside image c.requires.unbroken (IsBadOf image owners.Dysymtab) d first (subst (λ n. 0 < n) count some) in
    omega (arith, fits, start, count, size)

-- Found without this answer, in a minute.
pub returns-in_err-dysymtab : goal.returns-in_err-dysymtab
returns-in_err-dysymtab c =
    let image = c.args.image.now in
    let bad = IsBadOf image owners.Dysymtab in
    let first = no_first (dysymtab_at image) _ (sym c.in_err-dysymtab.was ∙ c.dysymtab.ensures) in
    subst (IsLeastPlace (InDysymtab image bad)) (sym c.from_residual.ensures) (no_dysymtab image c.requires.unbroken bad (sym first))

pub returns : goal.returns
returns c =
    let image = c.args.image.now in
    let bad = IsBadOf image owners.Dysymtab in
    let (d, first, same) = first_at (dysymtab_at image) _ c.in_ok-dysymtab.dysymtab (sym c.in_ok-dysymtab.was ∙ c.dysymtab.ensures) in
    let bytes = c.bytes-bytes.ensures.bytes in
    let external = found_as (bytes_of c.bytes-bytes.result) image bytes c.in_ok-dysymtab.dysymtab.extreloff _ c.in_ok-dysymtab.dysymtab.nextrel _
    (ap (λ (t : Dysymtab). t.extreloff) same) (ap (λ (t : Dysymtab). t.nextrel) same) owners.Dysymtab c.first_bad.result c.first_bad.ensures in
    let local = found_as (bytes_of c.bytes-bytes.result) image bytes c.in_ok-dysymtab.dysymtab.locreloff _ c.in_ok-dysymtab.dysymtab.nlocrel _
    (ap (λ (t : Dysymtab). t.locreloff) same) (ap (λ (t : Dysymtab). t.nlocrel) same) owners.Dysymtab c.first_bad-2.result c.first_bad-2.ensures in
    subst (IsLeastPlace (InDysymtab image bad)) (sym c.lesser.ensures) (dysymtab_least image c.requires.unbroken bad d first c.first_bad.result c.first_bad-2.result external local)
