use Rattle.macho_fields.specs.Bytes.{bytes_of}
use Rattle.macho_image.specs.Walk.{AreLandmarks, IsAt}
use Rattle.macho_image.proofs.landmarks.Landmarks.of.Given as goal

-- the commands before this place are noted
abbrev pub invariant-loop-index : goal.invariant-loop-index
invariant-loop-index l = record {
  at : IsAt (bytes_of l.image) l.index l.place;
  noted : AreLandmarks (bytes_of l.image) l.index l.landmarks;
}
