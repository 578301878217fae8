use Rattle.macho_image.proofs.Opened.{opened_keeps}
use Rattle.macho_image.proofs.image.Image.file_type.Goals as goal

pub listed_file_type-requires : goal.listed_file_type-requires
listed_file_type-requires c = let keeps = opened_keeps _ c.self.invariant.opened in record { header = keeps.header; listed = keeps.kind }
