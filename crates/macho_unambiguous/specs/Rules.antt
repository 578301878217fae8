-- Where each unambiguous rule is broken, by a file that breaks no other rule: the rule, and the place that is reported.
-- docs/rules/unambiguous.md says the same in words.
use Rattle.std.specs.Prelude.{ℕ, List}
use Rattle.macho_fields.specs.First.{NoneIsBroken, IsFirstOfAll}
use Rattle.macho_fields.specs.declared.rule.Break.{Break}
use Rattle.macho_fields.specs.declared.rule.Rule.{Rule}
use Rattle.macho_fields.specs.declared.rule.Rule.TheVariants as rule
use Rattle.macho_rules.specs.Profile.{AddedIn}
use Rattle.macho_alike.specs.Binds.{BreaksBindOnce}
use Rattle.macho_alike.specs.Exports.{BreaksExportEdge}
use Rattle.macho_alike.specs.ExportSymbols.{BreaksExportSymbol}
use Rattle.macho_alike.specs.Imports.{BreaksImportLibrary}
use Rattle.macho_alike.specs.Indirects.{BreaksIndirectName}
use Rattle.macho_alike.specs.SymbolTotal.{BreaksSymbolTotal}
use Rattle.macho_alike.specs.Symbols.{BreaksSymbolKind}
use Rattle.macho_identity.specs.DirectoryAgree.{BreaksDirectoryAgree}
use Rattle.macho_identity.specs.SignatureSlot.{BreaksSignatureSlot}
use Rattle.macho_readers.specs.Commands.{BreaksBytesEncrypted, BreaksCommandKnown, BreaksCommandOnce}
use Rattle.macho_readers.specs.Entry.{BreaksEntryOne}
use Rattle.macho_readers.specs.Files.{BreaksFatCount, BreaksFatHeader, BreaksFatPage}
use Rattle.macho_readers.specs.Order.{BreaksNumberShift}
use Rattle.macho_readers.specs.Sections.{BreaksSectionName, BreaksSectionAlone}
use Rattle.macho_readers.specs.Segments.{BreaksSegmentName, BreaksSegmentPage, BreaksSegmentProtection}

-- the file itself breaks the rule at the place
abbrev pub BreaksFile : List ℕ → Rule → ℕ → Type 0
BreaksFile file rule.FatCount place = BreaksFatCount file place
BreaksFile file rule.FatHeader place = BreaksFatHeader file place
BreaksFile file rule.FatPage place = BreaksFatPage file place
BreaksFile file other place = ⊥

-- the image breaks the rule at the place
abbrev pub BreaksImage : List ℕ → Rule → ℕ → Type 0
BreaksImage image rule.CommandKnown place = BreaksCommandKnown image place
BreaksImage image rule.CommandOnce place = BreaksCommandOnce image place
BreaksImage image rule.SegmentName place = BreaksSegmentName image place
BreaksImage image rule.SegmentPage place = BreaksSegmentPage image place
BreaksImage image rule.SegmentProtection place = BreaksSegmentProtection image place
BreaksImage image rule.BytesEncrypted place = BreaksBytesEncrypted image place
BreaksImage image rule.NumberShift place = BreaksNumberShift image place
BreaksImage image rule.SectionName place = BreaksSectionName image place
BreaksImage image rule.SectionAlone place = BreaksSectionAlone image place
BreaksImage image rule.EntryOne place = BreaksEntryOne image place
BreaksImage image rule.BindOnce place = BreaksBindOnce image place
BreaksImage image rule.ExportEdge place = BreaksExportEdge image place
BreaksImage image rule.SymbolKind place = BreaksSymbolKind image place
BreaksImage image rule.SymbolTotal place = BreaksSymbolTotal image place
BreaksImage image rule.ExportSymbol place = BreaksExportSymbol image place
BreaksImage image rule.IndirectName place = BreaksIndirectName image place
BreaksImage image rule.ImportLibrary place = BreaksImportLibrary image place
BreaksImage image rule.SignatureSlot place = BreaksSignatureSlot image place
BreaksImage image rule.DirectoryAgree place = BreaksDirectoryAgree image place
BreaksImage image other place = ⊥

-- the unambiguous rule is broken there, by the file or by the bytes of a 64-bit slice
abbrev pub IsBrokenIn : List ℕ → ℕ → Rule → ℕ → Type 0
IsBrokenIn = AddedIn BreaksFile BreaksImage

-- no unambiguous rule is broken
abbrev pub IsUnambiguousUnbroken : List ℕ → Type 0
IsUnambiguousUnbroken file = NoneIsBroken (IsBrokenIn file)

-- b is the first broken unambiguous rule, with its place in the file
abbrev pub IsFirstUnambiguousBroken : List ℕ → Break → Type 0
IsFirstUnambiguousBroken file b = IsFirstOfAll (IsBrokenIn file) file b
