use Rattle.std.proofs.Common.{◌≡◌, ◌∙◌, ◌+◌, List, ℕ, None, Some, refl, sym, subst, arith}
use Rattle.std.specs.Prelude.{IsSomeAnd}
use Rattle.macho_fields.specs.Bytes.{bytes_of}
use Rattle.macho_fields.specs.Image.{commands_of}
use Rattle.macho_fields.specs.Segment.{base_of}
use Rattle.macho_fields.specs.declared.header.loader.TheConstants as loader
use Rattle.macho_explain.specs.Compared.{HasFunction, IsFunctionShown, IsStartShown}
use Rattle.macho_explain.specs.Wholes.{named_table}
use Rattle.macho_explain.proofs.FunctionNumbers.{no_function}
use Rattle.macho_explain.proofs.Wholes.{at_offset, lacks, not_before, of_whole}
use Rattle.macho_explain.proofs.functions.function_start.Goals as goal

pub returns-in_err-whole : goal.returns-in_err-whole
returns-in_err-whole c =
    let image = bytes_of c.args.sliced.now.held.bytes in
    rw c.from_residual.ensures (lacks image (named_table image loader.LC_FUNCTION_STARTS) _ c.args.sliced.now.place c.in_err-whole.ensures)

pub returns-in_err-base : goal.returns-in_err-base
returns-in_err-base c =
    let image = bytes_of c.args.sliced.now.held.bytes in
    let none = subst (λ (b : List ℕ). base_of b (commands_of b) ≡ None) c.in_ok-open.ensures.1 (sym c.base.ensures ∙ c.in_err-base.was) in
    rw c.from_residual-in_err-base.ensures (λ s.
    let (offset, at, has) = of_whole image (named_table image loader.LC_FUNCTION_STARTS) c.in_ok-whole.whole.table.span (bytes_of c.in_ok-whole.whole.bytes) c.in_ok-whole.ensures _ c.args.sliced.now.place s.1 in
    no_function image (bytes_of c.in_ok-whole.whole.bytes) offset none has)

pub returns-in_err-offset : goal.returns-in_err-offset
returns-in_err-offset c =
    let image = bytes_of c.args.sliced.now.held.bytes in
    rw c.from_residual-in_err-offset.ensures (λ s. not_before image (named_table image loader.LC_FUNCTION_STARTS) c.in_ok-whole.whole.table.span (bytes_of c.in_ok-whole.whole.bytes) c.in_ok-whole.ensures _ c.args.sliced.now.place (let past = c.in_err-offset.ensures in omega (arith, past)) s.1)

pub returns-in_err-address : goal.returns-in_err-address
returns-in_err-address c =
    let image = bytes_of c.args.sliced.now.held.bytes in
    let table = c.in_ok-whole.whole.table.span in
    let bytes = bytes_of c.in_ok-whole.whole.bytes in
    let base = c.in_ok-base.base in
    let based = subst (λ (b : List ℕ). base_of b (commands_of b) ≡ Some base) c.in_ok-open.ensures.1 (sym c.base.ensures ∙ c.in_ok-base.was) in
    let (less, is) = c.in_ok-offset.ensures in
    rw c.from_residual-in_err-address.ensures (λ s.
    let has = at_offset image (named_table image loader.LC_FUNCTION_STARTS) table bytes c.in_ok-whole.ensures (λ start. HasFunction image) c.args.sliced.now.place c.in_ok-offset.offset (omega (arith, less, is)) s.1 in
    let (function, starts) = rw based at has in c.in_err-address.ensures function starts)

pub returns : goal.returns
returns c =
    let image = bytes_of c.args.sliced.now.held.bytes in
    let table = c.in_ok-whole.whole.table.span in
    let bytes = bytes_of c.in_ok-whole.whole.bytes in
    let base = c.in_ok-base.base in
    let offset = c.in_ok-offset.offset in
    let address = c.in_ok-address.address in
    let based = subst (λ (b : List ℕ). base_of b (commands_of b) ≡ Some base) c.in_ok-open.ensures.1 (sym c.base.ensures ∙ c.in_ok-base.was) in
    let (less, is) = c.in_ok-offset.ensures in
    let place_is : c.args.sliced.now.place ≡ table.start + offset = omega (arith, less, is) in
    let shown = subst (λ o. IsSomeAnd o (λ b. IsStartShown bytes b offset address)) (sym based) c.in_ok-address.ensures in
    let whole : IsFunctionShown image c.args.sliced.now.place address = (table, bytes, c.in_ok-whole.ensures, offset, place_is, shown) in
    rw c.shows.ensures (rw c.at.ensures (record { slice = refl; command = tt; section = tt; symbol = tt }), subst (IsFunctionShown image c.args.sliced.now.place) (sym c.start_conflict-conflict.ensures) whole)
