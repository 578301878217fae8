-- What kesvuot_explain answers.
use Rattle.std.specs.Prelude.{◌≡◌, ℕ, ◌-◌, ◌^◌, List, Option, Some, None, MatchOption}
use Rattle.macho_fields.specs.RuleList.{rule_number}
use Rattle.macho_fields.specs.declared.rule.Rule.{Rule}
use Rattle.macho_c.specs.declared.explain.KesvuotExplanation.{KesvuotExplanation}
use Rattle.macho_c.specs.declared.explain.KesvuotPart.{KesvuotPart}
use Rattle.macho_explain.specs.Explained.{IsExplained, IsUnexplained}
use Rattle.macho_explain.specs.declared.explanation.Explanation.{Explanation}
use Rattle.macho_explain.specs.declared.part.Part.{Part}
use Rattle.macho_explain.specs.declared.part.PartKind.{PartKind}
use Rattle.macho_explain.specs.declared.part.PartKind.TheVariants as kind
use Rattle.macho_c.specs.Status.{Answers, Tells}

-- KESVUOT_PART_FILE and so on
abbrev pub part_number : PartKind → ℕ
part_number kind.File = 1
part_number kind.Magic = 2
part_number kind.FatHeader = 3
part_number kind.FatTable = 4
part_number kind.FatArch = 5
part_number kind.Slice = 6
part_number kind.Header = 7
part_number kind.Headers = 8
part_number kind.Command = 9
part_number kind.Segment = 10
part_number kind.SegmentMemory = 11
part_number kind.Section = 12
part_number kind.SectionBytes = 13
part_number kind.SectionMemory = 14
part_number kind.Relocations = 15
part_number kind.Table = 16
part_number kind.Group = 17
part_number kind.Name = 18
part_number kind.Symbol = 19
part_number kind.Indirect = 20
part_number kind.Opcode = 21
part_number kind.Byte = 22
part_number kind.ChainHeader = 23
part_number kind.ChainArray = 24
part_number kind.ChainEntry = 25
part_number kind.ChainStarts = 26
part_number kind.ChainImport = 27
part_number kind.PageStart = 28
part_number kind.ChainPointer = 29
part_number kind.FunctionStart = 30
part_number kind.DataInCodeEntry = 31
part_number kind.DataInCode = 32
part_number kind.ExportNode = 33
part_number kind.SignatureEntry = 34
part_number kind.SignatureBlob = 35
part_number kind.Relocation = 36
part_number kind.CodePage = 37
part_number kind.CodeHash = 38

-- KESVUOT_NO_INDEX
abbrev pub index_in_c : Option ℕ → ℕ
index_in_c (Some index) = index
index_in_c None = 2 ^ 32 - 1

abbrev pub part_in_c : Part → KesvuotPart
part_in_c part = record {
  start = part.start;
  size = part.size;
  described = part.described;
  kind = part_number part.kind;
  index = index_in_c part.index;
}

-- KESVUOT_PART_NONE
abbrev pub no_part_in_c : KesvuotPart
no_part_in_c = record { start = 0; size = 0; described = 0; kind = 0; index = 2 ^ 32 - 1 }

abbrev pub some_part_in_c : Option Part → KesvuotPart
some_part_in_c (Some part) = part_in_c part
some_part_in_c None = no_part_in_c

abbrev pub explanation_in_c : Explanation → KesvuotExplanation
explanation_in_c e = record {
  at = part_in_c e.at.part;
  first = some_part_in_c e.conflict.first;
  second = some_part_in_c e.conflict.second;
  value = e.conflict.value;
  limit = e.conflict.limit;
  slice = index_in_c e.at.slice;
  command = index_in_c e.at.command;
  section = index_in_c e.at.section;
  symbol = index_in_c e.at.symbol;
}

-- nothing is explained
abbrev pub nothing_in_c : KesvuotExplanation
nothing_in_c = record {
  at = no_part_in_c;
  first = no_part_in_c;
  second = no_part_in_c;
  value = 0;
  limit = 0;
  slice = 2 ^ 32 - 1;
  command = 2 ^ 32 - 1;
  section = 2 ^ 32 - 1;
  symbol = 2 ^ 32 - 1;
}

-- this explains the rule with a number, at a place
abbrev pub IsExplanation : List ℕ → ℕ → ℕ → KesvuotExplanation → Type 0
IsExplanation file number place e =
    (r : Rule) × (found : Explanation) × (rule_number r ≡ number) × IsExplained r file place found
    × (e ≡ explanation_in_c found)

-- no rule has the number, or what the rule is about is not at the place
abbrev pub IsNotExplained : List ℕ → ℕ → ℕ → Type 0
IsNotExplained file number place =
    (r : Rule) → rule_number r ≡ number → IsUnexplained r file place

abbrev pub IsExplanationIn : List ℕ → ℕ → ℕ → Option KesvuotExplanation → Type 0
IsExplanationIn file number place found =
    MatchOption found (IsNotExplained file number place) (IsExplanation file number place)

-- The answer on the number of a rule, and a place.
abbrev pub IsAnswer : List ℕ → ℕ → ℕ → ℕ → KesvuotExplanation → Type 0
IsAnswer file number place status e =
    Tells (IsExplanationIn file number place) (Answers nothing_in_c status e)
