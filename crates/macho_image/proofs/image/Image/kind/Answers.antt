use Rattle.std.proofs.Common.{◌≡◌, refl}
use Rattle.macho_fields.specs.FileTypes.{FileTypeView, file_type_of, file_type_view}
use Rattle.macho_fields.specs.Image.{file_type}
use Rattle.macho_fields.proofs.Options.{of_some}
use Rattle.macho_image.proofs.image.Image.kind.Goals as goal

pub returns : goal.returns
returns c =
    of_some (λ (t : FileTypeView). t.kind ≡ c.file_type.result.kind) (file_type_of (file_type c.args.self.now)) (file_type_view c.file_type.result) c.file_type.ensures refl
