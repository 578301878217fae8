use Rattle.std.proofs.Common.{◌≡◌, ◌∙◌, ◌<◌, map, List, [], length, refl, sym, None, Some}
use Rattle.std.specs.Box.{box_value}
use Rattle.clap.specs.Words.{HasKind, Text, found_of, fault_of, is_simple, is_simple_and_free, kind_of, rows_of, subcommand_of, subcommand_rows_of}
use Rattle.clap.specs.declared.parser.matches.ArgMatches.TheViews.{out-ArgMatches, out-SubCommand}
use Rattle.macho_words.specs.Words.{check_or_where}
use Rattle.macho_words.proofs.Asked.{asked_and_refused, asked_and_taken, asked_where_empty, asked_without_subcommand, no_subcommand, of_known, some_words, subcommand_met}
use Rattle.macho_words.proofs.words.parse_words.Goals as goal

pub returns-then-is_empty : goal.returns-then-is_empty
returns-then-is_empty g c =
    asked_where_empty g.S.AsStr.text c.args.words.now c.is_empty.result _ c.is_empty.ensures c.if-is_empty.true c.in_ok-file.ensures.ok

pub returns-in_err-matches : goal.returns-in_err-matches
returns-in_err-matches g c =
    let words : List Text = map g.S.AsStr.text c.args.words.now in
    let error = c.in_err-matches.field-0.0 in
    let why = of_known is_simple_and_free (λ a. HasKind (fault_of a words) error) _ check_or_where c.in_ok-check_or_where.ensures refl c.in_err-matches.ensures.kinds in
    let some : 0 < length words = some_words g.S.AsStr.text c.args.words.now c.is_empty.result c.is_empty.ensures c.if-is_empty.false in
    asked_and_refused words (kind_of error) c.from_residual-in_err-matches.result some why c.from_residual-in_err-matches.ensures.1

pub returns-in_default : goal.returns-in_default
returns-in_default g c =
    let words : List Text = map g.S.AsStr.text c.args.words.now in
    let missed : subcommand_rows_of c.in_ok-matches.matches ≡ None =
    no_subcommand c.subcommand.result (λ p. rows_of (found_of p.1.now)) (subcommand_rows_of c.in_ok-matches.matches) c.in_default.is c.subcommand.ensures.rows in
    let under = of_known is_simple (λ a. subcommand_rows_of c.in_ok-matches.matches ≡ subcommand_of a words) _ check_or_where c.in_ok-check_or_where.ensures refl (λ simple. (c.in_ok-matches.ensures.matches simple).1) in
    let none = of_known is_simple_and_free (λ a. fault_of a words ≡ []) _ check_or_where c.in_ok-check_or_where.ensures refl c.in_ok-matches.ensures.kinds in
    let some : 0 < length words = some_words g.S.AsStr.text c.args.words.now c.is_empty.result c.is_empty.ensures c.if-is_empty.false in
    asked_without_subcommand words some none (sym under ∙ missed)

pub returns : goal.returns
returns g c =
    let words : List Text = map g.S.AsStr.text c.args.words.now in
    let rows = rows_of (found_of c.in-Some.arguments.now) in
    let met : subcommand_rows_of c.in_ok-matches.matches ≡ Some (c.in-Some.name.now, rows) =
    subcommand_met (out-ArgMatches c.in_ok-matches.matches).subcommand (λ b. ((out-SubCommand (box_value b)).name.now, rows_of (found_of (out-SubCommand (box_value b)).matches)))
    c.in-Some.name.now rows c.in-Some.ensures.name c.in-Some.ensures.rows in
    let under = of_known is_simple (λ a. subcommand_rows_of c.in_ok-matches.matches ≡ subcommand_of a words) _ check_or_where c.in_ok-check_or_where.ensures refl (λ simple. (c.in_ok-matches.ensures.matches simple).1) in
    let none = of_known is_simple_and_free (λ a. fault_of a words ≡ []) _ check_or_where c.in_ok-check_or_where.ensures refl c.in_ok-matches.ensures.kinds in
    let some : 0 < length words = some_words g.S.AsStr.text c.args.words.now c.is_empty.result c.is_empty.ensures c.if-is_empty.false in
    asked_and_taken words c.in-Some.name.now rows c.request_in.result some none (sym under ∙ met) c.request_in.ensures
