-- What readers of a file agree about, question by question, where the unambiguous verdict accepts it.
use Rattle.std.specs.Prelude.{ℕ, List}
use Rattle.macho_fields.specs.Universal.{OfEachImage}
use Rattle.macho_alike.specs.BindModels.{HasOneBind, HasOneSlot, HasChainSlotsApart, HasOneKindOfFixups}
use Rattle.macho_alike.specs.DefinitionModels.{HasOneMeaningOfName}
use Rattle.macho_alike.specs.ExportModels.{HasOneExportOfName}
use Rattle.macho_alike.specs.ImportModels.{HasOneLibrary}
use Rattle.macho_alike.specs.IndirectModels.{HasOneNameOfPointer}
use Rattle.macho_alike.specs.SymbolModels.{HasOneKind, HasSameGroups, HasOneName}
use Rattle.macho_alike.specs.TrieModels.{HasOneOrigin}
use Rattle.macho_identity.specs.Models.{AreDirectoriesClear, HasOneBlobOfSlot, HasOneIdentity, StayInBlobs}
use Rattle.macho_linked.specs.Linked.{KeepsLinked}
use Rattle.macho_readers.specs.CommandModels.{HasOneMeaning}
use Rattle.macho_readers.specs.HiddenEntries.{HasNoHiddenSlice}
use Rattle.macho_readers.specs.Models.{HasOneKindOfFile, HasOneSubtype, HasOneSetOfSlices, HasOneSliceOfByte, HasOneProtection, HasOneSegmentOfName, HasOneBase, HasOneSectionOfNames, HasOneSectionAt, HasOneCommandOfKind, HasOnePlatform, HasOneNumberOfSegment, HasOneSegmentOfNumber, HasOneStartOfSegment, HasOneOrdinal, HasOneEntry}
use Rattle.macho_readers.specs.PageModels.{HaveOneMap}
use Rattle.macho_unambiguous.specs.Rules.{IsUnambiguousUnbroken}
use Rattle.macho_readers.specs.SectionBytes.{HasOneContent}

-- of an image: any two readers that answer give the same answer
pub record IsReadAlike (image : List ℕ) : Type 0 where
  -- which protection a mapped segment has
  pub protection : HasOneProtection image
  -- where the base is
  pub base : HasOneBase image
  -- which segment has a name, and which section
  pub segment : HasOneSegmentOfName image
  pub section : HasOneSectionOfNames image
  -- which section is at an address, and which bytes a section has
  pub section_at : HasOneSectionAt image
  pub content : HasOneContent image
  -- what a command is, which command is the one of a kind, and which has the versions of a platform
  pub meaning : HasOneMeaning image
  pub command : HasOneCommandOfKind image
  pub platform : HasOnePlatform image
  -- which number a segment has, which segment has a number in fixups, and where it begins
  pub number : HasOneNumberOfSegment image
  pub numbered : HasOneSegmentOfNumber image
  pub start : HasOneStartOfSegment image
  -- which number a library has in binds
  pub ordinal : HasOneOrdinal image
  -- where the program begins
  pub entry : HasOneEntry image
  -- what opcodes bind a slot to, and which slot has a byte; that pointers of chains share no byte; and that the image has
  -- opcodes or chains
  pub bind : HasOneBind image
  pub slot : HasOneSlot image
  pub chained : HasChainSlotsApart image
  pub fixups : HasOneKindOfFixups image
  -- where the export with a name is
  pub export : HasOneExportOfName image
  -- which kind of symbol one is, which symbols a group has, and which name one without a name shows
  pub symbol : HasOneKind image
  pub groups : HasSameGroups image
  pub nameless : HasOneName image
  -- what a name means that the image defines, by its symbols alone, and by the export trie too
  pub name : HasOneMeaningOfName image
  pub origin : HasOneOrigin image
  -- which name a bound pointer has, and from which library an undefined symbol is
  pub pointer : HasOneNameOfPointer image
  pub library : HasOneLibrary image
  -- which blob is in a slot of the signature, which identity its directories say, what one directory says, and which bytes
  -- its parts have
  pub blob : HasOneBlobOfSlot image
  pub identity : HasOneIdentity image
  pub directory : AreDirectoriesClear image
  pub parts : StayInBlobs image

-- and of a file
pub record IsUnambiguous (file : List ℕ) : Type 0 where
  -- which kind of file it is
  pub kind : HasOneKindOfFile file
  -- which slices there are for a processor, and which subtype one has
  pub slices : HasOneSetOfSlices file
  pub subtype : HasOneSubtype file
  -- whether there is one more slice, just past the table
  pub hidden : HasNoHiddenSlice file
  -- which slice has a byte of the file
  pub byte : HasOneSliceOfByte file
  -- which byte and which protection each address of a page has
  pub pages : HaveOneMap file
  pub images : OfEachImage IsReadAlike file

-- What holds of a file that the unambiguous verdict accepts
pub record KeepsUnambiguous (file : List ℕ) : Type 0 where
  -- the linked verdict accepts it
  pub linked : KeepsLinked file
  -- it breaks no unambiguous rule
  pub unbroken : IsUnambiguousUnbroken file
  -- and readers agree about it
  pub unambiguous : IsUnambiguous file
