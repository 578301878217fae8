use Rattle.std.proofs.Common.{ap, sym, ◌∙◌, arith}
use Rattle.std.specs.Option.{option_map}
use Rattle.std.proofs.lemmas.Option.{none-some}
use Rattle.macho_fields.specs.Bytes.{bytes_of}
use Rattle.macho_fields.specs.FileTypes.{file_type_of, file_type_view}
use Rattle.macho_fields.specs.First.{rank}
use Rattle.macho_fields.specs.declared.rule.Rule.TheVariants as rule
use Rattle.macho_image.proofs.KeptRules.{has_header, header_kept, header_broken}
use Rattle.macho_image.proofs.walk.file_type.Goals as goal

pub word_at-requires : goal.word_at-requires
word_at-requires c = let header = has_header _ c.args.candidate.arch (rank rule.FileType) (omega arith) c.requires in omega (arith, header)

pub returns-in-Some-clause-decides : goal.returns-in-Some-clause-decides
returns-in-Some-clause-decides c =
    let listed = ap file_type_of (sym c.word_at.ensures) ∙ (sym c.file_type_of.ensures ∙ ap (option_map file_type_view) c.in-Some.is) in
    header_kept (bytes_of c.args.candidate.bytes) c.args.candidate.arch rule.FileType (λ _ _ h. h) c.requires (λ place broken. none-some _ (sym broken.1 ∙ listed))

pub returns-in-None-clause-decides : goal.returns-in-None-clause-decides
returns-in-None-clause-decides c =
    let none = ap file_type_of (sym c.word_at.ensures) ∙ (sym c.file_type_of.ensures ∙ ap (option_map file_type_view) c.in-None.is) in
    header_broken (bytes_of c.args.candidate.bytes) c.args.candidate.arch rule.FileType (λ _ _ h. h) c.requires _ c.at.ensures.rule (c.at.ensures.place, none)
    (λ place broken. omega (arith, broken.0, c.at.ensures.place))
