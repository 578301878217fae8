-- Where each linked rule is broken, by an image that breaks no other rule: the rule, and the place that
-- is reported. docs/rules/linked.md says the same in words.
use Rattle.std.specs.Prelude.{ℕ, List}
use Rattle.macho_fields.specs.First.{NoneIsBroken, IsFirstOfAll}
use Rattle.macho_fields.specs.declared.rule.Break.{Break}
use Rattle.macho_fields.specs.declared.rule.Rule.{Rule}
use Rattle.macho_fields.specs.declared.rule.Rule.TheVariants as rule
use Rattle.macho_chains.specs.ChainPointers.{BreaksChainSlot, BreaksChainBind}
use Rattle.macho_chains.specs.Chains.{BadStarts, BadImports, LongNames, UnknownLibrary, InChains, BreaksChainHeader, InPointers}
use Rattle.macho_tables.specs.DataInCode.{BreaksDataInCode}
use Rattle.macho_exports.specs.Exports.{BreaksExportNode, BreaksExportTotal, BreaksExportTerminal, BreaksExportLibrary, BreaksExportAddress}
use Rattle.macho_tables.specs.Homes.{BreaksTableHome, BreaksHeaderHome}
use Rattle.macho_opcodes.specs.Images.{Undecoded, NoLibrary, NoName, NoSlot, TooMany, TooLong, InRebases, InBinds}
use Rattle.macho_tables.specs.InitOffsets.{BreaksInitOffset}
use Rattle.macho_tables.specs.Kinds.{BreaksTableRepeated, BreaksFunctionVariants}
use Rattle.macho_tables.specs.StartNumbers.{BreaksFunctionNumber, BreaksFunctionStart}
use Rattle.macho_signature.specs.Signature.{BreaksSignatureBlob, BreaksSignatureDirectory, BreaksSignatureWhole}
use Rattle.macho_symbols.specs.Indirects.{BreaksIndirectRange}
use Rattle.macho_symbols.specs.Obsolete.{BreaksObsoleteTable}
use Rattle.macho_symbols.specs.Relocations.{BreaksRelocation}
use Rattle.macho_symbols.specs.Symbols.{BreaksSymbolLibrary, BreaksSymbolValue, BreaksSymbolIndirect}
use Rattle.macho_commands.specs.Commands.{BreaksThread, BreaksCommandContent}
use Rattle.macho_rules.specs.Profile.{NoFileRule, AddedIn}

-- the image breaks the rule at the place
abbrev pub BreaksImage : List ℕ → Rule → ℕ → Type 0
BreaksImage image rule.TableRepeated place = BreaksTableRepeated image place
BreaksImage image rule.FunctionVariants place = BreaksFunctionVariants image place
BreaksImage image rule.TableHome place = BreaksTableHome image place
BreaksImage image rule.HeaderHome place = BreaksHeaderHome image place
BreaksImage image rule.RebaseOpcode place = InRebases image Undecoded place
BreaksImage image rule.RebaseSlot place = InRebases image NoSlot place
BreaksImage image rule.RebaseTotal place = InRebases image TooMany place
BreaksImage image rule.BindOpcode place = InBinds image Undecoded place
BreaksImage image rule.BindLibrary place = InBinds image NoLibrary place
BreaksImage image rule.BindSymbol place = InBinds image NoName place
BreaksImage image rule.BindSlot place = InBinds image NoSlot place
BreaksImage image rule.BindTotal place = InBinds image TooMany place
BreaksImage image rule.BindNames place = InBinds image TooLong place
BreaksImage image rule.ChainHeader place = BreaksChainHeader image place
BreaksImage image rule.ChainStarts place = InChains image BadStarts place
BreaksImage image rule.ChainImports place = InChains image BadImports place
BreaksImage image rule.ChainTotal place = InChains image LongNames place
BreaksImage image rule.ChainLibrary place = InChains image UnknownLibrary place
BreaksImage image rule.ChainSlot place = InPointers image BreaksChainSlot place
BreaksImage image rule.ChainBind place = InPointers image BreaksChainBind place
BreaksImage image rule.ExportNode place = BreaksExportNode image place
BreaksImage image rule.ExportTotal place = BreaksExportTotal image place
BreaksImage image rule.ExportTerminal place = BreaksExportTerminal image place
BreaksImage image rule.ExportLibrary place = BreaksExportLibrary image place
BreaksImage image rule.ExportAddress place = BreaksExportAddress image place
BreaksImage image rule.FunctionNumber place = BreaksFunctionNumber image place
BreaksImage image rule.FunctionStart place = BreaksFunctionStart image place
BreaksImage image rule.DataInCode place = BreaksDataInCode image place
BreaksImage image rule.InitOffset place = BreaksInitOffset image place
BreaksImage image rule.SignatureBlob place = BreaksSignatureBlob image place
BreaksImage image rule.SignatureDirectory place = BreaksSignatureDirectory image place
BreaksImage image rule.SignatureWhole place = BreaksSignatureWhole image place
BreaksImage image rule.SymbolLibrary place = BreaksSymbolLibrary image place
BreaksImage image rule.SymbolValue place = BreaksSymbolValue image place
BreaksImage image rule.SymbolIndirect place = BreaksSymbolIndirect image place
BreaksImage image rule.IndirectRange place = BreaksIndirectRange image place
BreaksImage image rule.ObsoleteTable place = BreaksObsoleteTable image place
BreaksImage image rule.Relocation place = BreaksRelocation image place
BreaksImage image rule.Thread place = BreaksThread image place
BreaksImage image rule.CommandContent place = BreaksCommandContent image place
BreaksImage image other place = ⊥

-- the linked rule is broken there, by the bytes of a 64-bit slice
abbrev pub IsBrokenIn : List ℕ → ℕ → Rule → ℕ → Type 0
IsBrokenIn = AddedIn NoFileRule BreaksImage

-- no linked rule is broken
abbrev pub IsLinkedUnbroken : List ℕ → Type 0
IsLinkedUnbroken file = NoneIsBroken (IsBrokenIn file)

-- b is the first broken linked rule, with its place in the file
abbrev pub IsFirstLinkedBroken : List ℕ → Break → Type 0
IsFirstLinkedBroken file b = IsFirstOfAll (IsBrokenIn file) file b
