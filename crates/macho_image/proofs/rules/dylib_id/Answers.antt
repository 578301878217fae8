use Rattle.std.proofs.Common.{arith, refl, inl}
use Rattle.macho_fields.specs.Bytes.{bytes_of}
use Rattle.macho_fields.specs.Command.{HasDylibId}
use Rattle.macho_fields.specs.FileTypes.{FileTypeView, file_type_of, file_type_view}
use Rattle.macho_fields.specs.First.{rank}
use Rattle.macho_fields.specs.Image.{commands_of, file_type}
use Rattle.macho_fields.specs.declared.rule.Rule.TheVariants as rule
use Rattle.macho_fields.proofs.Options.{of_some, some_has, some_or_not_none}
use Rattle.macho_image.proofs.KeptRules.{has_header, commands_kept, commands_broken}
use Rattle.macho_image.proofs.Repeated.{HasWrongId, has_id, id_broken, id_kept}
use Rattle.macho_image.proofs.rules.dylib_id.Goals as goal

pub listed_file_type-listed-requires : goal.listed_file_type-listed-requires
listed_file_type-listed-requires c = record {
  header = has_header _ c.args.candidate.arch (rank rule.DylibId) (omega arith) c.requires.before;
  listed = some_or_not_none (file_type_of (file_type (bytes_of c.args.candidate.bytes))) (λ none. c.requires.before rule.FileType 12 (omega arith) (inl (refl, none)));
}

pub returns-then-listed-is_some-clause-decides : goal.returns-then-listed-is_some-clause-decides
returns-then-listed-is_some-clause-decides c =
    let image = bytes_of c.args.candidate.bytes in
    let H = HasDylibId image (commands_of image) in
    let has = has_id image c.of.result c.is_some.result c.is_some.ensures (c.of.ensures.unique image (commands_of image) c.requires.first refl) in
    let wrong = of_some (λ (t : FileTypeView). HasWrongId t.names_itself H) (file_type_of (file_type image)) (file_type_view c.listed_file_type-listed.result) c.listed_file_type-listed.ensures
    (id_broken H _ _ has c.if-listed-is_some.true) in
    commands_broken image c.args.candidate.arch rule.DylibId (λ _ h. h) (omega arith) c.requires.before _ c.at.ensures.rule (c.at.ensures.place, wrong)
    (λ place broken. omega (arith, broken.0, c.at.ensures.place))

pub returns-clause-decides : goal.returns-clause-decides
returns-clause-decides c =
    let image = bytes_of c.args.candidate.bytes in
    let H = HasDylibId image (commands_of image) in
    let has = has_id image c.of.result c.is_some.result c.is_some.ensures (c.of.ensures.unique image (commands_of image) c.requires.first refl) in
    commands_kept image c.args.candidate.arch rule.DylibId (λ _ h. h) (omega arith) c.requires.before
    (λ place broken. id_kept H _ _ has c.if-listed-is_some.false
    (some_has (λ (t : FileTypeView). HasWrongId t.names_itself H) (file_type_of (file_type image)) (file_type_view c.listed_file_type-listed.result) c.listed_file_type-listed.ensures broken.1))
