use Rattle.std.proofs.Common.{◌≡◌, subst, arith}
use Rattle.std.proofs.lemmas.Bool.{false≢true}
use Rattle.std.proofs.lemmas.Option.{get_or_from_slice_get, slice_get_within}
use Rattle.macho_fields.specs.Bytes.{bytes_of}
use Rattle.macho_commands.specs.Described.{string_count}
use Rattle.macho_commands.proofs.Given.{if_none}
use Rattle.macho_commands.proofs.ZeroCounts.{Ended, none_ended, one_ended, few_ended, enough_ended, all_ended}
use Rattle.macho_commands.proofs.strings.strings_end.Goals as goal

pub loop-string-init : goal.loop-string-init
loop-string-init c = none_ended (bytes_of c.args.command) c.args.size c.requires.whole

pub returns-in_err-end-clause-few : goal.returns-in_err-end-clause-few
returns-in_err-end-clause-few c =
    let bytes = bytes_of c.args.command in
    if_none c.from_residual.result
    (few_ended bytes c.args.size c.loop-string._string c.loop-string.end c.loop-string.invariant (omega (arith, c.loop-string-test.true, c.read_u32-string-end.ensures))
    (λ (z, low, high, held, is). false≢true (c.in_err-end.ensures.found.1 (z, low, omega (arith, c.len.ensures.count), held, is))))

pub loop-string-preserved : goal.loop-string-preserved
loop-string-preserved c =
    let bytes = bytes_of c.args.command in
    let at = c.in_ok-end.field-0 in
    let zero = c.in_ok-end.ensures.zero.1 in
    one_ended bytes c.args.size c.loop-string._string c.loop-string.end at c.loop-string.invariant c.in_ok-end.ensures.zero.0.0
    (slice_get_within bytes at 0 zero) (get_or_from_slice_get bytes at 0 0 zero) c.in_ok-end.ensures.first

pub returns-clause-enough : goal.returns-clause-enough
returns-clause-enough c =
    let bytes = bytes_of c.args.command in
    let all : c.loop-string._string ≡ string_count bytes = omega (arith, c.loop-string-test.false, c.loop-string.auto._string-end, c.read_u32-string-end.ensures) in
    enough_ended bytes c.args.size c.loop-string.end (subst (λ n. Ended bytes c.args.size n c.loop-string.end) all c.loop-string.invariant)

pub returns-clause-end : goal.returns-clause-end
returns-clause-end c =
    let bytes = bytes_of c.args.command in
    let all : c.loop-string._string ≡ string_count bytes = omega (arith, c.loop-string-test.false, c.loop-string.auto._string-end, c.read_u32-string-end.ensures) in
    all_ended bytes c.args.size c.loop-string.end (subst (λ n. Ended bytes c.args.size n c.loop-string.end) all c.loop-string.invariant)
