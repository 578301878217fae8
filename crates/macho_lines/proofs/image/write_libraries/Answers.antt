use Rattle.std.proofs.Common.{◌∙◌, refl, ◌==◌}
use Rattle.macho_fields.specs.Image.{command_cmd}
use Rattle.macho_fields.specs.declared.header.loader.TheConstants as loader
use Rattle.macho_image.specs.Library.{dylib_at}
use Rattle.macho_text.proofs.Loops.{texts_unmarked}
use Rattle.macho_text.proofs.Holding.{holds_begin_as, holds_item, holds_item_fails, holds_items}
use Rattle.macho_lines.specs.Layout.{library_text}
use Rattle.macho_lines.specs.LineParts.{linked_text}
use Rattle.macho_lines.proofs.image.write_libraries.Goals as goal

pub loop-library-init : goal.loop-library-init
loop-library-init g c = holds_begin_as (
    texts_unmarked linked_text (dylib_at c.args.image.now) (λ p. command_cmd c.args.image.now p == loader.LC_ID_DYLIB) (library_text c.args.image.now) _
    (c.into_iter-library-iterator.ensures.into_iter_gives ∙ c.dylibs-library-items.ensures) (λ p. refl))

pub loop-library-preserved : goal.loop-library-preserved
loop-library-preserved g c = holds_item linked_text c.in-Some.ensures.steps c.loop-library.invariant c.in_ok-write_linked_library.ensures

pub returns-in_err-write_linked_library : goal.returns-in_err-write_linked_library
returns-in_err-write_linked_library g c = holds_item_fails linked_text c.from_residual.ensures.0 c.in-Some.ensures.steps c.loop-library.invariant c.in_err-write_linked_library.ensures

pub returns : goal.returns
returns g c = holds_items linked_text c.in-None.ensures.steps.0 c.loop-library.invariant
