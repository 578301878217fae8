-- The header of an opened image, and how many of its commands pass a test.
use Rattle.std.proofs.Common.{◌≡◌, ◌≤◌, ℕ, List, length, map, Bool, not, refl, ap, ◌∙◌, arith}
use Rattle.std.specs.Prelude.{filter}
use Rattle.std.proofs.lemmas.List.{length-map}
use Rattle.std.proofs.lemmas.List.Filters.{length-filter_both}
use Rattle.macho_fields.specs.Image.{word, commands_of}
use Rattle.macho_image.specs.Opened.{IsOpened}
use Rattle.macho_image.proofs.Opened.{opened_keeps}
use Rattle.macho_image.proofs.OpenedWalk.{opened_commands}
use Rattle.macho_rows.specs.Commands.{commands_in}
use Rattle.macho_image.specs.Command.{command_at}

pub header_inside : (image : List ℕ) → IsOpened image → 32 ≤ length image
header_inside image opened = let keeps = opened_keeps image opened in omega (arith, keeps.inside)

pub commands_counted : (image : List ℕ) → IsOpened image → length (commands_in image) ≡ word image 16
commands_counted image opened = let are = opened_commands image opened in length-map (commands_of image) (command_at image) ∙ are.0

pub no_more : {B : Type 0} (image : List ℕ) (test : ℕ → Bool) (view : ℕ → B) (all : List B) → all ≡ map view (filter test (commands_of image)) → length all ≤ length (commands_in image)
no_more image test view all is =
    let both = length-filter_both test (λ x. not (test x)) (λ x. refl) (commands_of image) in
    omega (arith, both, ap length is ∙ length-map (filter test (commands_of image)) view, length-map (commands_of image) (command_at image))
