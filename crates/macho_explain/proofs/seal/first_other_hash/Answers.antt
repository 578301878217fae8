use Rattle.std.proofs.Common.{inl, inr, arith, subst}
use Rattle.std.proofs.lemmas.Bool.{cases_lt}
use Rattle.macho_fields.specs.Bytes.{bytes_of}
use Rattle.macho_signature.specs.Signature.{IsDirectoryAt}
use Rattle.macho_explain.specs.Seals.{place_of, IsOther}
use Rattle.macho_explain.proofs.ShownSeals.{counts_directory, counts_on, counts_up, hash_shown, no_difference, no_directory, none_before, of_not_some}
use Rattle.macho_explain.proofs.seal.first_other_hash.Goals.{in-Some+in_ok-left+else-is_some, in_default}
use Rattle.macho_explain.proofs.seal.first_other_hash.Goals as goal

pub loop-index-preserved : goal.loop-index-preserved
loop-index-preserved c =
    let start = c.args.signature.now.table.span.start in
    let signature = bytes_of c.args.signature.now.bytes in
    let Differs = IsOther (bytes_of c.args.sliced.now.held.bytes) signature c.args.hashed in
    let index = c.loop-index.index in
    let (some, before) = c.loop-index.invariant in
    elim c.match-directory_of.branch [
      | in-Some+in_ok-left+else-is_some w ↦ (
        (let one = counts_directory signature index (subst (IsDirectoryAt signature) w.in-Some.ensures.index w.in-Some.ensures.some.slot) in
            omega (arith, some, w.left-is, w.in_ok-left.ensures, one)),
        none_before Differs start signature index before (
            no_difference Differs start signature w.in-Some.directory index w.in-Some.ensures.some w.in-Some.ensures.index
            (of_not_some (¬ Differs (bytes_of w.in-Some.directory.bytes) w.in-Some.directory.fields) w.other_hash-conflict.result w.if-is_some.ensures w.other_hash-conflict.ensures.none)),
      )
      | in_default w ↦ (
        (let on = counts_on signature index in omega (arith, some, w.left-is, on)),
        none_before Differs start signature index before (no_directory Differs start signature index w.in_default.ensures.none),
      )
    ]

pub returns-then-is_some-clause-shown : goal.returns-then-is_some-clause-shown
returns-then-is_some-clause-shown c =
    let image = bytes_of c.args.sliced.now.held.bytes in
    let start = c.args.signature.now.table.span.start in
    let signature = bytes_of c.args.signature.now.bytes in
    hash_shown image start signature c.in-Some.directory (place_of start c.args.hashed) c.other_hash-conflict.result c.in-Some.ensures.some c.other_hash-conflict.ensures.shown

pub returns-in_err-left-clause-none : goal.returns-in_err-left-clause-none
returns-in_err-left-clause-none c =
    let signature = bytes_of c.args.signature.now.bytes in
    let index = c.loop-index.index in
    let (some, before) = c.loop-index.invariant in
    rw c.from_residual-in_err-left.ensures (λ (good, (k, less, early, differs)). elim (cases_lt k index) [
      | inl earlier ↦ before k earlier differs
      | inr past ↦ let up = counts_up signature index k past in omega (arith, some, c.in_err-left.ensures, up, early)
    ])
