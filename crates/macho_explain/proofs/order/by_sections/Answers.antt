use Rattle.std.proofs.Common.{◌≡◌, ◌≢◌, ◌∙◌, ℕ, List, ap, inl, inr, subst, sym}
use Rattle.macho_fields.specs.Bytes.{bytes_of}
use Rattle.macho_fields.specs.Segment.{vmaddr}
use Rattle.macho_readers.specs.Order.{segment_number, IsRunNumber}
use Rattle.macho_explain.proofs.order.by_sections.Goals as goal

pub returns-in_err-image : goal.returns-in_err-image
returns-in_err-image c = rw c.from_residual.ensures (λ opens. opens c.in_err-image.ensures)

-- the numbers that differ, or the starts
numbers : (bytes image : List ℕ) (place number run : ℕ) → image ≡ bytes → number ≡ segment_number image place → IsRunNumber image place run → number ≢ run
    → (number ≡ segment_number bytes place) × IsRunNumber bytes place run × (number ≢ run)
numbers bytes image place number run same is has differ = (subst (λ (i : List ℕ). number ≡ segment_number i place) same is, subst (λ (i : List ℕ). IsRunNumber i place run) same has, differ)

one_number : (bytes image : List ℕ) (place number run : ℕ) → image ≡ bytes → number ≡ segment_number image place → IsRunNumber image place run → number ≡ run → IsRunNumber bytes place (segment_number bytes place)
one_number bytes image place number run same is has equal =
    subst (λ (i : List ℕ). IsRunNumber i place (segment_number i place)) same (subst (λ n. IsRunNumber image place n) (sym equal ∙ is) has)

pub returns-then-number-run : goal.returns-then-number-run
returns-then-number-run c =
    let image = bytes_of c.args.sliced.now.held.bytes in
    let both = c.numbers_of-number in
    rw c.alone.ensures (inl (numbers image c.in_ok-image.image c.args.sliced.now.place both.result.0 both.result.1 c.in_ok-image.ensures.1 both.ensures.number both.ensures.run c.if-number-run.true))

pub returns : goal.returns
returns c =
    let image = bytes_of c.args.sliced.now.held.bytes in
    let place = c.args.sliced.now.place in
    let both = c.numbers_of-number in
    inr (
      one_number image c.in_ok-image.image place both.result.0 both.result.1 c.in_ok-image.ensures.1 both.ensures.number both.ensures.run c.if-number-run.false,
      c.starts.ensures.value ∙ (c.requires.row.start ∙ ap (vmaddr image) c.requires.meets),
      c.starts.ensures.limit,
    )
