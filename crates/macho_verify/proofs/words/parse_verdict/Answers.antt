use Rattle.std.proofs.Common.{◌≡◌, map, List, [], refl}
use Rattle.clap.specs.Words.{HasKind, Text, found_of, fault_of, is_simple, is_simple_and_free, kind_of, matches_of, rows_of}
use Rattle.macho_verify.specs.Words.{profile_and_file}
use Rattle.macho_words.proofs.Asked.{of_known, refused}
use Rattle.macho_verify.proofs.Asked.{answered}
use Rattle.macho_verify.proofs.words.parse_verdict.Goals as goal

pub returns-in_err-matches : goal.returns-in_err-matches
returns-in_err-matches g c =
    let words : List Text = map g.S.AsStr.text c.args.words.now in
    let error = c.in_err-matches.field-0.0 in
    let why = of_known is_simple_and_free (λ a. HasKind (fault_of a words) error) _ profile_and_file c.in_ok-profile_and_file.ensures refl c.in_err-matches.ensures.kinds in
    refused _ _ (kind_of error) c.from_residual-in_err-matches.result why c.from_residual-in_err-matches.ensures.1

pub returns : goal.returns
returns g c =
    let words : List Text = map g.S.AsStr.text c.args.words.now in
    let rows = rows_of (found_of c.in_ok-matches.matches) in
    let none = of_known is_simple_and_free (λ a. fault_of a words ≡ []) _ profile_and_file c.in_ok-profile_and_file.ensures refl c.in_ok-matches.ensures.kinds in
    let same = of_known is_simple (λ a. rows ≡ matches_of a words) _ profile_and_file c.in_ok-profile_and_file.ensures refl (λ simple. (c.in_ok-matches.ensures.matches simple).0) in
    answered _ rows _ c.verdict_in.result none same c.verdict_in.ensures
