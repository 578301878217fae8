use Rattle.std.proofs.Common.{◌≡◌, ℕ, subst, arith, inl, inr}
use Rattle.macho_seals.specs.Specials.{BadSpecial}
use Rattle.macho_explain.specs.Seals.{HasDiffering}
use Rattle.macho_fields.specs.Bytes.{bytes_of}
use Rattle.macho_explain.proofs.ShownSeals.{special_differs}
use Rattle.macho_explain.proofs.seal.hashed_at.Goals as goal

pub returns-in-Some-clause-other : goal.returns-in-Some-clause-other
returns-in-Some-clause-other c =
    let image = bytes_of c.args.sliced.now.held.bytes in
    let start = c.args.signature.now.table.span.start in
    let signature = bytes_of c.args.signature.now.bytes in
    let (less, is) = c.in-Some.ensures in
    λ s. elim s [
      | inl (before, differing) ↦ absurd (omega (arith, before, less))
      | inr (offset, at, differing) ↦
          let same : offset ≡ c.in-Some.offset = omega (arith, at, less, is) in
          special_differs image start signature c.in-Some.offset c.special_at.result c.special_at.ensures.only
          (subst (λ (o : ℕ). HasDiffering (λ blob directory. BadSpecial signature blob directory o) start signature) same differing)
    ]

pub returns-in-None-clause-other : goal.returns-in-None-clause-other
returns-in-None-clause-other c = λ s. elim s [
  | inl (before, differing) ↦ differing
  | inr (offset, at, differing) ↦ absurd (omega (arith, at, c.in-None.ensures))
]
