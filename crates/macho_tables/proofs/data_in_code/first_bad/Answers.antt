use Rattle.std.proofs.Common.{◌≡◌, ◌<◌, ◌≤◌, ◌/◌, ◌%◌, List, ℕ, length, sym, ap, ◌∙◌, subst, arith, inl, inr}
use Rattle.std.proofs.lemmas.Bool.{cases_lt, false≢true}
use Rattle.macho_fields.specs.Bytes.{bytes_of}
use Rattle.macho_tables.specs.DataInCode.{entry_at, entry_place, entry_count, IsBadEntry, HasRest}
use Rattle.macho_tables.proofs.DataInCode.{first_bad_entry, no_bad_entry}
use Rattle.macho_tables.proofs.data_in_code.first_bad.Goals as goal

-- the size is a multiple of an entry's
no_rest : (table : List ℕ) (size : ℕ) → size ≡ length table → size % 8 ≡ 0 → ¬ HasRest table
no_rest table size is none rest = rest (ap (λ n. n % 8) (sym is) ∙ none)

pub returns-then-is_bad : goal.returns-then-is_bad
returns-then-is_bad c =
    let table = bytes_of c.args.table in
    let count = ap (λ n. n / 8) c.len-index-end.ensures.count in
    let less : c.loop-index.index < entry_count table = omega (arith, count, c.loop-index-test.true, c.loop-index.auto.index-end) in
    λ image are. first_bad_entry image table (no_rest table c.len.result c.len.ensures.count c.if-len-ne0.false) c.loop-index.index less
    (subst (IsBadEntry image) c.read.ensures ((c.is_bad.ensures image are).0 c.if-is_bad.true)) (λ j below. c.loop-index.invariant image are j below)

pub loop-index-preserved : goal.loop-index-preserved
loop-index-preserved c = λ image are k less bad. elim (cases_lt k c.loop-index.index) [
  | inl before ↦ c.loop-index.invariant image are k before bad
  | inr late ↦
      let same : k ≡ c.loop-index.index = omega (arith, less, late) in
      let here = subst (λ j. IsBadEntry image (entry_at (bytes_of c.args.table) (entry_place j))) same bad in
      false≢true (sym c.if-is_bad.false ∙ (c.is_bad.ensures image are).1 (subst (IsBadEntry image) (sym c.read.ensures) here))
]

pub returns : goal.returns
returns c =
    let table = bytes_of c.args.table in
    let count = ap (λ n. n / 8) c.len-index-end.ensures.count in
    let all : entry_count table ≤ c.loop-index.index = omega (arith, count, c.loop-index-test.false, c.loop-index.auto.index-end) in
    λ image are. no_bad_entry image table (no_rest table c.len.result c.len.ensures.count c.if-len-ne0.false) (λ j below. c.loop-index.invariant image are j (omega (arith, below, all)))
