-- What holds of a file that breaks no rule: readers agree about it.
use Rattle.std.proofs.Common.{ℕ, ◌<◌, List, None, get_or, slice_index, inl, inr}
use Rattle.macho_fields.specs.First.{IsUnbroken}
use Rattle.macho_fields.specs.Layers.{NothingBreaks}
use Rattle.macho_fields.specs.Rules as layout
use Rattle.macho_fields.specs.Universal.{OfEachImage, slices_of, slice_bytes}
use Rattle.macho_fields.specs.declared.rule.Rule.TheVariants as rule
use Rattle.macho_rules.proofs.Profiles.{layout_keeps, images_keep}
use Rattle.macho_strict.specs.First.{IsStrictlyUnbroken}
use Rattle.macho_strict.specs.Rules.{BreaksStrictFile, BreaksStrictImage}
use Rattle.macho_alike.proofs.BindAnswers.{chain_slots_apart, one_bind, one_kind_of_fixups, one_slot}
use Rattle.macho_alike.proofs.DefinitionMeanings.{has_one_meaning}
use Rattle.macho_alike.proofs.ExportPaths.{one_export}
use Rattle.macho_alike.proofs.ImportSymbols.{has_one_library}
use Rattle.macho_alike.proofs.IndirectAnswers.{one_name_of_pointer}
use Rattle.macho_alike.proofs.SymbolKinds.{one_kind as one_kind_of_symbol, one_name, same_groups}
use Rattle.macho_alike.proofs.TrieMeanings.{one_origin}
use Rattle.macho_identity.proofs.ClearDirectories.{image_clear}
use Rattle.macho_identity.proofs.OneBlob.{image_one_blob}
use Rattle.macho_identity.proofs.OneIdentity.{image_one_identity}
use Rattle.macho_identity.proofs.StayingDirectories.{image_stays}
use Rattle.macho_linked.specs.Rules.{BreaksImage as LinkedImage, IsLinkedUnbroken}
use Rattle.macho_rules.specs.Profile.{NoFileRule}
use Rattle.macho_unambiguous.specs.Rules.{BreaksFile, BreaksImage, IsUnambiguousUnbroken}
use Rattle.macho_unambiguous.specs.Unambiguous.{IsReadAlike, IsUnambiguous}
use Rattle.macho_unambiguous.proofs.Bases.{one_base}
use Rattle.macho_unambiguous.proofs.CommandMeanings.{one_meaning}
use Rattle.macho_unambiguous.proofs.FileModels.{one_kind as one_kind_of_file, one_set, one_subtype}
use Rattle.macho_unambiguous.proofs.HiddenEntries.{no_hidden_slice}
use Rattle.macho_unambiguous.proofs.ImageModels.{one_entry, one_kind, one_platform, one_protection, one_section, one_segment}
use Rattle.macho_readers.proofs.Numbers.{one_number, one_of_number, one_ordinal, one_start}
use Rattle.macho_unambiguous.proofs.PageMaps.{one_maps}
use Rattle.macho_unambiguous.proofs.SectionBytes.{one_content}
use Rattle.macho_unambiguous.proofs.SectionsAlone.{one_at}
use Rattle.macho_unambiguous.proofs.SliceBytes.{one_slice}

image_read_alike : (image : List ℕ) → NothingBreaks (layout.BreaksImage image None) → NothingBreaks (BreaksStrictImage image) → NothingBreaks (LinkedImage image)
    → NothingBreaks (BreaksImage image) → IsReadAlike image
image_read_alike image opened strict linked kept = record {
  protection = one_protection image (kept rule.SegmentProtection);
  base = one_base image (strict rule.SegmentFileOverlap) (kept rule.SegmentName);
  segment = one_segment image (kept rule.SegmentName);
  section = one_section image (kept rule.SectionName);
  section_at = one_at image (kept rule.SectionAlone);
  content = one_content image opened (kept rule.SectionAlone);
  meaning = one_meaning image (kept rule.CommandKnown);
  command = one_kind image (kept rule.CommandOnce);
  platform = one_platform image (kept rule.CommandOnce);
  number = one_number image (kept rule.NumberShift);
  numbered = one_of_number image (kept rule.NumberShift) (kept rule.SegmentName);
  start = one_start image (kept rule.NumberShift);
  ordinal = one_ordinal image (kept rule.NumberShift);
  entry = one_entry image opened (kept rule.EntryOne);
  bind = one_bind image (λ place broken. kept rule.BindOnce place (inl broken));
  slot = one_slot image (λ place broken. kept rule.BindOnce place (inl broken));
  chained = chain_slots_apart image;
  fixups = one_kind_of_fixups image (linked rule.TableRepeated);
  export = one_export image (linked rule.ExportNode) (linked rule.ExportTotal) (kept rule.ExportEdge);
  symbol = one_kind_of_symbol image (kept rule.SymbolKind);
  groups = same_groups image (kept rule.SymbolKind);
  nameless = one_name image (kept rule.SymbolKind);
  name = has_one_meaning image (λ place broken. kept rule.ExportSymbol place (inl broken));
  origin = one_origin image (λ place broken. kept rule.ExportSymbol place (inr broken));
  pointer = one_name_of_pointer image (kept rule.IndirectName);
  library = has_one_library image (kept rule.ImportLibrary);
  blob = image_one_blob image (kept rule.SignatureSlot);
  identity = image_one_identity image (kept rule.DirectoryAgree);
  directory = image_clear image (kept rule.DirectoryAgree);
  parts = image_stays image (linked rule.SignatureBlob) (linked rule.SignatureDirectory) (linked rule.SignatureWhole);
}

pub file_unambiguous : (file : List ℕ) → ((k : ℕ) → slice_index file k < 256) → IsUnbroken file → IsStrictlyUnbroken file → IsLinkedUnbroken file → IsUnambiguousUnbroken file
    → IsUnambiguous file
file_unambiguous file fits unbroken strict linked kept =
    let of_image : OfEachImage (λ image. NothingBreaks (BreaksImage image)) file = images_keep file BreaksFile BreaksImage kept in
    let of_file : NothingBreaks (BreaksFile file) = λ r place broken. kept (record { scope = 0; rule = r; place = place }) broken in
    let of_layout : NothingBreaks (layout.BreaksFile file) = λ r place broken. unbroken (record { scope = 0; rule = r; place = place }) broken in record {
      kind = one_kind_of_file file (of_file rule.FatCount);
      slices = one_set file (of_file rule.FatHeader);
      subtype = one_subtype file (of_file rule.FatHeader);
      hidden = no_hidden_slice file fits unbroken strict;
      byte = one_slice file (of_layout rule.FatOverlap) (of_file rule.FatPage);
      pages = one_maps file unbroken strict (of_file rule.FatPage) (λ k d less image. of_image k d less image rule.CommandKnown) (λ k d less image. of_image k d less image rule.SegmentPage)
          (λ k d less image. of_image k d less image rule.SegmentProtection) (λ k d less image. of_image k d less image rule.BytesEncrypted);
      images = λ k d less image.
          image_read_alike (slice_bytes file (get_or (slices_of file) k d)) (layout_keeps file unbroken k d less image) (images_keep file BreaksStrictFile BreaksStrictImage strict k d less image)
          (images_keep file NoFileRule LinkedImage linked k d less image) (of_image k d less image);
    }
