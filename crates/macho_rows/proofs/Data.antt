-- The data of a linkedit_data_command that lies inside the image.
use Rattle.std.proofs.Common.{◌≡◌, ◌≤◌, ◌+◌, ℕ, List, length, drop, Option, Some, None, inr, ap, ap₂, sym, subst, ◌∙◌, arith}
use Rattle.std.specs.Prelude.{MatchOption}
use Rattle.std.proofs.lemmas.List.{length-take, length-drop}
use Rattle.macho_fields.specs.Field.{part}
use Rattle.macho_fields.specs.Image.{commands_of}
use Rattle.macho_fields.specs.LoadCommands.{structure_of}
use Rattle.macho_fields.specs.declared.load_command.Structure.TheVariants.{LinkeditDataCommand}
use Rattle.macho_image.specs.Command.{first_with_cmd}
use Rattle.macho_rows.specs.Linkedit.{dataoff, datasize, HasData, IsData, PassesImage}
use Rattle.macho_rows.specs.Spans.{span_of}
use Rattle.macho_rows.specs.declared.span.KesvuotSpan.{KesvuotSpan}

pub data_read : (image bytes : List ℕ) (place command start len : ℕ) (span : KesvuotSpan) → start ≡ dataoff image command → len ≡ datasize image command
    → start + len ≤ length image → bytes ≡ part start len image → span ≡ span_of (place + start) bytes → IsData image place command span
data_read image bytes place command start len span begins size fits are is =
    let whole : length (part start len image) ≡ len = omega (arith, fits, length-take len (drop start image), length-drop start image) in
    (is ∙ (ap (span_of (place + start)) are ∙ ap₂ (λ s n. span_of (place + s) (part s n image)) begins size), ap₂ (λ s n. length (part s n image)) (sym begins) (sym size) ∙ (whole ∙ size))

-- what the first command with a cmd has
pub first_data : (image bytes : List ℕ) (place cmd command : ℕ) (found : Option KesvuotSpan) → bytes ≡ image → structure_of cmd ≡ Some LinkeditDataCommand → first_with_cmd image cmd (commands_of image) ≡ Some command
    → MatchOption found (PassesImage bytes command) (IsData bytes place command) → HasData image place cmd found
first_data image bytes place cmd command None same listed first past =
    inr (subst (λ o. MatchOption o (Unit {0}) (PassesImage image)) (sym first) (subst (λ held. PassesImage held command) same past))
first_data image bytes place cmd command (Some span) same listed first is =
    (listed, command, first, subst (λ held. IsData held place command span) same is)
