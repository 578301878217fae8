-- The structure of each segment of an opened image lies inside the image.
use Rattle.std.proofs.Common.{◌≡◌, ℕ, ◌+◌, ◌≤◌, List, length, Contains, Some, refl, subst, arith}
use Rattle.macho_fields.specs.Image.{commands_of}
use Rattle.macho_fields.specs.declared.header.loader.TheConstants as loader
use Rattle.macho_fields.specs.declared.load_command.Structure.TheVariants.{SegmentCommand64}
use Rattle.macho_image.specs.Opened.{IsOpened}
use Rattle.macho_image.specs.Segment.{SegmentView}
use Rattle.macho_fields.specs.Segment.{all_segments}
use Rattle.macho_fields.proofs.LoadCommands.{structure_by_cmd}
use Rattle.macho_fields.proofs.Opened.{command_inside, structure_inside}
use Rattle.macho_fields.proofs.Parts.{with_cmd_is, with_cmd_among}
use Rattle.macho_rules.proofs.Judged.{opened_facts, opened_commands}

pub segment_inside : (image : List ℕ) → IsOpened image → (segment : ℕ) → Contains (all_segments image) segment → segment + 72 ≤ length image
segment_inside image opened segment has =
    let among = with_cmd_among image (commands_of image) loader.LC_SEGMENT_64 segment has in
    let is = with_cmd_is image (commands_of image) loader.LC_SEGMENT_64 segment has in
    let listed = structure_by_cmd image segment loader.LC_SEGMENT_64 (Some SegmentCommand64) is refl in
    let facts = opened_facts image opened in
    let are = opened_commands image opened in
    let whole = structure_inside image (commands_of image) facts are segment SegmentCommand64 among listed in
    let inside = command_inside image (commands_of image) facts are segment among in
    omega arith

-- the view of one that is left in a walk
pub view_inside : (image : List ℕ) → IsOpened image → (s : SegmentView) → Contains (all_segments image) s.place → image ≡ s.image
    → s.place + 72 ≤ length s.image
view_inside image opened s has same = subst (λ (bytes : List ℕ). s.place + 72 ≤ length bytes) same (segment_inside image opened s.place has)
