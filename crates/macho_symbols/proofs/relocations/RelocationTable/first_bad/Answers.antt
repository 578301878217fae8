use Rattle.std.proofs.Common.{◌≡◌, ◌∙◌, ◌+◌, ◌*◌, sym, subst, arith, inl, inr}
use Rattle.std.proofs.lemmas.Bool.{cases_lt, false≢true}
use Rattle.macho_fields.specs.Bytes.{bytes_of}
use Rattle.macho_symbols.specs.Reloc.{relocation_at}
use Rattle.macho_symbols.specs.Relocations.{IsBadOf}
use Rattle.macho_symbols.proofs.RelocationWalks.{first_bad_at, none_bad}
use Rattle.macho_symbols.proofs.relocations.RelocationTable.first_bad.Goals as goal

pub returns-then-is_bad : goal.returns-then-is_bad
returns-then-is_bad c =
    let image = bytes_of c.args.image in
    let table = c.args.self in
    first_bad_at image table.start table.count (IsBadOf image table.owner) c.loop-index.index (omega (arith, c.loop-index-test.true, c.loop-index.auto.index-end))
    (subst (IsBadOf image table.owner) c.read.ensures ((c.is_bad.ensures image c.requires.named).0 c.if-is_bad.true)) c.loop-index.invariant

pub loop-index-preserved : goal.loop-index-preserved
loop-index-preserved c =
    let image = bytes_of c.args.image in
    let table = c.args.self in
    λ k less bad. elim (cases_lt k c.loop-index.index) [
      | inl before ↦ c.loop-index.invariant k before bad
      | inr late ↦
          let same : k ≡ c.loop-index.index = omega (arith, less, late) in
          let here = subst (λ j. IsBadOf image table.owner (relocation_at image (table.start + 8 * j))) same bad in
          false≢true (sym c.if-is_bad.false ∙ (c.is_bad.ensures image c.requires.named).1 (subst (IsBadOf image table.owner) (sym c.read.ensures) here))
    ]

pub returns : goal.returns
returns c =
    let image = bytes_of c.args.image in
    let table = c.args.self in
    none_bad image table.start table.count (IsBadOf image table.owner) (λ j below. c.loop-index.invariant j (omega (arith, below, c.loop-index-test.false, c.loop-index.auto.index-end)))
