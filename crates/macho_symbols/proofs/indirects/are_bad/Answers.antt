use Rattle.std.proofs.Common.{arith, inl, inr}
use Rattle.std.proofs.lemmas.Bool.{both_ways, cases_eq}
use Rattle.macho_symbols.specs.Indirects.{stride}
use Rattle.macho_symbols.proofs.indirects.are_bad.Goals as goal

pub passes-requires : goal.passes-requires
passes-requires c =
    let section = c.args.section.now in
    elim (cases_eq (stride section.image section.place) 0) [
      | inl none ↦ absurd (both_ways c.is_uneven.result c.if-is_uneven.false (c.is_uneven.ensures.1 (inl none)))
      | inr some ↦ omega (arith, some)
    ]

pub returns-else-is_uneven : goal.returns-else-is_uneven
returns-else-is_uneven c same = (
  λ is. inr ((c.passes.ensures same).0 is),
  λ bad. elim bad [
    | inl uneven ↦ absurd (both_ways c.is_uneven.result c.if-is_uneven.false (c.is_uneven.ensures.1 uneven))
    | inr past ↦ (c.passes.ensures same).1 past
  ],
)
