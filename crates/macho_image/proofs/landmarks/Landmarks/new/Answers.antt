use Rattle.macho_fields.specs.declared.header.loader.TheConstants as loader
use Rattle.macho_image.specs.Library.{is_library}
use Rattle.macho_image.specs.Walk.{has_cmd, names_table}
use Rattle.macho_image.proofs.landmarks.Landmarks.new.Goals as goal

pub returns : goal.returns
returns c = λ image. record {
  first = c.new.ensures image;
  segments = c.new-2.ensures image (has_cmd loader.LC_SEGMENT_64 image);
  builds = c.new-3.ensures image (has_cmd loader.LC_BUILD_VERSION image);
  libraries = c.new-4.ensures image (is_library image);
  tables = c.new-5.ensures image (names_table image);
}
