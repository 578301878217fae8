use Rattle.std.proofs.Common.{ℕ, List, subst}
use Rattle.std.proofs.lemmas.Bool.{false≢true}
use Rattle.macho_fields.specs.Bytes.{bytes_of}
use Rattle.macho_strict.specs.Claims.{AreNoted}
use Rattle.macho_strict.specs.Elements.{elements_of}
use Rattle.macho_strict.specs.Passed.{ArePassedBy}
use Rattle.macho_strict.specs.Verdict.{element_spans}
use Rattle.macho_strict.specs.declared.gaps.Wanted.TheVariants as wanted
use Rattle.macho_strict.proofs.Sharings.{drained_counted}
use Rattle.macho_strict.proofs.claims.Noted.pass.Goals as goal

pub returns-in-Listed-clause-passed : goal.returns-in-Listed-clause-passed
returns-in-Listed-clause-passed c =
    let image = c.args.image.now in
    let listed = subst (AreNoted image (elements_of image)) c.in-Listed.is c.requires in
    subst (λ (bytes : List ℕ). ArePassedBy bytes (element_spans image) c.pass_sorted.result.gaps c.pass_sorted.result.sorted) c.bytes.ensures.bytes (c.pass_sorted.ensures.passed (element_spans image) listed)

pub returns-in-Listed-clause-by_start : goal.returns-in-Listed-clause-by_start
returns-in-Listed-clause-by_start c = λ _. c.pass_sorted.ensures.by_start

pub returns-in-Unlisted-clause-by_start : goal.returns-in-Unlisted-clause-by_start
returns-in-Unlisted-clause-by_start c = λ some. absurd (false≢true some)

pub returns-in-Passed-clause-by_start : goal.returns-in-Passed-clause-by_start
returns-in-Passed-clause-by_start c = λ some. absurd (false≢true some)

pub returns-in-Unlisted-clause-passed : goal.returns-in-Unlisted-clause-passed
returns-in-Unlisted-clause-passed c =
    let image = c.args.image.now in
    let ran = c.gaps_between.ensures in
    (drained_counted wanted.NonZero (elements_of image) c.of.result c.of.ensures.elements image (bytes_of c.bytes-in-Unlisted.result) c.bytes-in-Unlisted.ensures.bytes c.gaps_between.result ran.0 ran.1 ran.2).0

pub returns-in-Passed-clause-passed : goal.returns-in-Passed-clause-passed
returns-in-Passed-clause-passed c =
    let image = c.args.image.now in
    (subst (AreNoted image (elements_of image)) c.in-Passed.is c.requires).0
