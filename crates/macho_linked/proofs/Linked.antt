-- What holds of a file that breaks no rule.
use Rattle.std.proofs.Common.{List, ℕ, None}
use Rattle.macho_fields.specs.First.{IsUnbroken}
use Rattle.macho_fields.specs.Layers.{NothingBreaks}
use Rattle.macho_fields.specs.Rules as layout
use Rattle.macho_fields.specs.declared.rule.Rule.TheVariants as rule
use Rattle.macho_chains.specs.ChainDyld.{IsChainedSafely}
use Rattle.macho_chains.proofs.ChainDyld.{chained_safely}
use Rattle.macho_commands.proofs.SoundCommands.{sound_commands}
use Rattle.macho_commands.specs.Sound.{HasSoundCommands}
use Rattle.macho_exports.proofs.ExportLaws.{sound_exports}
use Rattle.macho_exports.specs.ExportLaw.{AreSoundExports}
use Rattle.macho_linked.specs.Dyld.{IsFollowedSafely}
use Rattle.macho_linked.specs.Harmless.{IsHarmless}
use Rattle.macho_linked.specs.Linked.{IsLinked}
use Rattle.macho_linked.specs.Located.{IsLocated}
use Rattle.macho_linked.specs.LookedUp.{IsLookedUpSafely}
use Rattle.macho_linked.specs.Rules.{BreaksImage, IsLinkedUnbroken}
use Rattle.macho_signature.specs.Signed.{IsSigned}
use Rattle.macho_signature.proofs.Signed.{signed_image}
use Rattle.macho_linked.proofs.Dyld.{followed_safely}
use Rattle.macho_linked.proofs.Harmless.{harmless_image, of_images}
use Rattle.macho_linked.proofs.Located.{located_image}
use Rattle.macho_linked.proofs.LookedUp as lookups

image_chained_safely : (image : List ℕ) → NothingBreaks (BreaksImage image) → NothingBreaks (layout.BreaksImage image None) → IsChainedSafely image
image_chained_safely image kept = chained_safely image (λ place broken. kept rule.TableHome place broken) (record {
  header = λ place broken. kept rule.ChainHeader place broken;
  starts = λ place broken. kept rule.ChainStarts place broken;
  imports = λ place broken. kept rule.ChainImports place broken;
  names = λ place broken. kept rule.ChainTotal place broken;
  libraries = λ place broken. kept rule.ChainLibrary place broken;
  slots = λ place broken. kept rule.ChainSlot place broken;
  binds = λ place broken. kept rule.ChainBind place broken;
})

pub file_linked : (file : List ℕ) → IsUnbroken file → IsLinkedUnbroken file → IsLinked file
file_linked file unbroken linked = record {
  harmless = of_images IsHarmless harmless_image file unbroken linked;
  followed = of_images IsFollowedSafely followed_safely file unbroken linked;
  chained = of_images IsChainedSafely image_chained_safely file unbroken linked;
  exports = of_images AreSoundExports
      (λ image kept layout. sound_exports image (kept rule.ExportNode) (kept rule.ExportTotal) (kept rule.ExportTerminal) (kept rule.ExportLibrary) (kept rule.ExportAddress)) file unbroken linked;
  located = of_images IsLocated located_image file unbroken linked;
  looked_up = of_images IsLookedUpSafely lookups.looked_up file unbroken linked;
  signed = of_images IsSigned
      (λ image kept layout. signed_image image (kept rule.SignatureBlob) (kept rule.SignatureDirectory) (kept rule.SignatureWhole)) file unbroken linked;
  commands = of_images HasSoundCommands (λ image kept layout. sound_commands image (kept rule.Thread) (kept rule.CommandContent)) file unbroken linked;
}
