-- From what is found in the export trie to the places in the image.
use Rattle.std.proofs.Common.{◌≡◌, ◌∙◌, ℕ, zero, suc, ◌+◌, ◌^◌, ◌≤◌, ◌<◌, List, length, Option, Some, None, lit<, refl, sym, subst, arith}
use Rattle.std.specs.Prelude.{IfSome, IsSomeAnd}
use Rattle.std.specs.Option.{option_map, option_map_or}
use Rattle.std.proofs.lemmas.Bool.{ne_eqb}
use Rattle.std.proofs.lemmas.Option.{same_Some, none-some}
use Rattle.macho_fields.proofs.Options.{some_of}
use Rattle.macho_fields.specs.Field.{part}
use Rattle.macho_fields.specs.FirstPlace.{IsLeastPlace}
use Rattle.macho_fields.specs.Image.{commands_of}
use Rattle.macho_fields.specs.Layers.{NothingBreaks}
use Rattle.macho_fields.specs.LoadCommands.{structure_of, linkedit_data_table}
use Rattle.macho_fields.specs.Rules.{BreaksImage}
use Rattle.macho_fields.specs.Symbol.{table_at}
use Rattle.macho_fields.specs.declared.header.loader.TheConstants as loader
use Rattle.macho_fields.specs.declared.load_command.Structure.TheVariants.{DyldInfoCommand, LinkeditDataCommand}
use Rattle.macho_image.specs.Command.{first_with_cmd}
use Rattle.macho_image.specs.Opened.{IsOpened}
use Rattle.macho_spans.specs.Span.{end_of}
use Rattle.macho_spans.specs.declared.span.Span.{Span}
use Rattle.macho_exports.specs.ExportTrie.{Node, node_at, head_at}
use Rattle.macho_exports.specs.ExportWalk.{Met, AtMet, HasNoEnd, own_place, place_or_end, met_nodes}
use Rattle.macho_exports.specs.Exports.{EndlessNode, TooManyBytes, BadTerminal, UnknownLibrary, UnknownAddress, InExports, export_table, some_bytes, AreLeastInTrie, AreLeastInImage, moved_exports, ExportsFitAt, exports_data, info_exports, BreaksExportNode, BreaksExportTotal, BreaksExportTerminal, BreaksExportLibrary, BreaksExportAddress}
use Rattle.macho_tables.specs.Places.{dyld_info, bounded_at}
use Rattle.macho_exports.specs.declared.export_trie.ExportNode.{ExportNode}
use Rattle.macho_exports.specs.declared.exports.ExportSurvey.{ExportSurvey}
use Rattle.macho_tables.specs.Numbers.{unsigned_at}
use Rattle.macho_exports.proofs.ExportNodes.{met_headless}
use Rattle.macho_exports.proofs.ExportTries.{number_ends}
use Rattle.macho_tables.proofs.DataTables.{data_inside}
use Rattle.macho_tables.proofs.NamedTables.{LieInside, bounds_opened, table_inside}
use Rattle.macho_tables.proofs.Places.{named_first, info_has, least_moved}
use Rattle.macho_tables.specs.Homes.{bytes_of_table}
use Rattle.macho_image.proofs.ReadParts.{length-part}

-- The tables that commands name

module _ (image : List ℕ) (command : ℕ) where
  module _ (is : first_with_cmd image loader.LC_DYLD_EXPORTS_TRIE (commands_of image) ≡ Some command) where
    pub data_fields : IsOpened image → LieInside image command linkedit_data_table
    data_fields opened = bounds_opened image opened command LinkeditDataCommand (named_first image (λ n. structure_of n ≡ Some LinkeditDataCommand) loader.LC_DYLD_EXPORTS_TRIE refl command is) linkedit_data_table (0, lit< tt, refl)

  module _ (is : dyld_info image ≡ Some command) where
    pub info_fields : IsOpened image → LieInside image command (bounded_at 40)
    info_fields opened = bounds_opened image opened command DyldInfoCommand (info_has image (λ n. structure_of n ≡ Some DyldInfoCommand) refl refl command is) (bounded_at 40) (4, lit< tt, refl)

    pub info_inside : NothingBreaks (BreaksImage image None) → 0 < (table_at image command (bounded_at 40)).1 → (table_at image command (bounded_at 40)).0 + (table_at image command (bounded_at 40)).1 ≤ length image
    info_inside keeps = table_inside image keeps command DyldInfoCommand (info_has image (λ n. structure_of n ≡ Some DyldInfoCommand) refl refl command is) (bounded_at 40) (4, lit< tt, refl) refl

-- a table that has bytes lies in the image
pub some_inside : (image : List ℕ) (table : Span) (found : Option Span) → found ≡ some_bytes table → (0 < table.len → end_of table ≤ length image)
    → IfSome found (λ t. end_of t ≤ length image) × IfSome found (λ t. 0 < t.len)
some_inside image table None is inside = (tt, tt)
some_inside image table (Some found) is inside = by_len table.len refl
  where
    by_len : (len : ℕ) → table.len ≡ len → (end_of found ≤ length image) × (0 < found.len)
    by_len zero none = let never : Some found ≡ None = is ∙ rw none refl in absurd (cc)
    by_len (suc len) some =
        let same : some_bytes table ≡ Some table = rw (ne_eqb table.len 0 (λ is. omega (arith, is, some))) refl in
        let one : table ≡ found = same_Some table found (sym (is ∙ same)) in
        let less : 0 < table.len = omega (arith, some) in
        subst (λ (t : Span). (end_of t ≤ length image) × (0 < t.len)) one (inside less, less)

-- Where a rule is broken

numberless : (trie : List ℕ) (place : ℕ) → unsigned_at trie place ≡ None → head_at trie place ≡ None
unfolding head_at
numberless trie place is = rw is refl

head_near : (trie : List ℕ) (place : ℕ) (head : ExportNode) → head_at trie place ≡ Some head → place ≤ length trie
head_near trie place head is = by_number (unsigned_at trie place) refl
  where
    by_number : (number : Option (ℕ × ℕ)) → unsigned_at trie place ≡ number → place ≤ length trie
    by_number None none = absurd (none-some head (sym (numberless trie place none) ∙ is))
    by_number (Some n) at = let within = number_ends trie place n.0 n.1 at in omega (arith, within)

-- a node that ends begins in the table
pub node_near : (trie : List ℕ) (place : ℕ) (node : Node) → node_at trie place ≡ Some node → place ≤ length trie
node_near trie place node is = by_head (head_at trie place) refl
  where
    by_head : (head : Option ExportNode) → head_at trie place ≡ head → place ≤ length trie
    by_head None none = absurd (none-some node (sym (met_headless trie place none) ∙ is))
    by_head (Some head) at = head_near trie place head at

pub of_node_near : (trie : List ℕ) (P : Met → Node → Type 0) (met : Met) → IsSomeAnd (node_at trie met.place) (P met) → met.place ≤ length trie
of_node_near trie P met has = let (node, is, _) = some_of (P met) (node_at trie met.place) has in node_near trie met.place node is

pub endless_near : (trie : List ℕ) (nodes : List Met) (place : ℕ) → AtMet (place_or_end trie) (HasNoEnd trie) nodes place → place ≤ length trie
endless_near trie nodes place (met, among, is, has) = omega (arith, is)

pub node_rule_near : (trie : List ℕ) (P : Met → Node → Type 0) (nodes : List Met) (place : ℕ) → AtMet own_place (λ met. IsSomeAnd (node_at trie met.place) (P met)) nodes place → place ≤ length trie
node_rule_near trie P nodes place (met, among, is, has) = let near = of_node_near trie P met has in omega (arith, is, near)

pub fits_up_to : (P : ℕ → Type 0) (start size : ℕ) (found : Option ℕ) → ((place : ℕ) → P place → place ≤ size) → start + size < 2 ^ 64 → IsLeastPlace P found
    → IfSome found (λ offset. start + offset < 2 ^ 64)
fits_up_to P start size None inside fits none = tt
fits_up_to P start size (Some first) inside fits (here, least) = let within = inside first here in omega (arith, within, fits)

pub exports_fit : (image trie : List ℕ) (survey : ExportSurvey) (start : ℕ) → AreLeastInTrie image trie survey → start + length trie < 2 ^ 64 → ExportsFitAt start survey
exports_fit image trie survey start are fits = record {
  node = fits_up_to (EndlessNode image trie) start (length trie) survey.node (endless_near trie _) fits are.node;
  total = fits_up_to (TooManyBytes image trie) start (length trie) survey.total (node_rule_near trie _ _) fits are.total;
  terminal = fits_up_to (BadTerminal image trie) start (length trie) survey.terminal (node_rule_near trie _ _) fits are.terminal;
  library = fits_up_to (UnknownLibrary image trie) start (length trie) survey.library (node_rule_near trie _ _) fits are.library;
  address = fits_up_to (UnknownAddress image trie) start (length trie) survey.address (node_rule_near trie _ _) fits are.address;
}

-- what is found in the trie is found in the image
pub exports_listed : (image : List ℕ) (table : Span) (survey : ExportSurvey) → export_table image ≡ Some table → AreLeastInTrie image (part table.start table.len image) survey
    → AreLeastInImage image (moved_exports table.start survey)
exports_listed image table survey is are = record {
  node = at EndlessNode survey.node are.node;
  total = at TooManyBytes survey.total are.total;
  terminal = at BadTerminal survey.terminal are.terminal;
  library = at UnknownLibrary survey.library are.library;
  address = at UnknownAddress survey.address are.address;
}
  where
    at : (Rule : List ℕ → List ℕ → ℕ → Type 0) (found : Option ℕ) → IsLeastPlace (Rule image (part table.start table.len image)) found
        → IsLeastPlace (InExports image Rule) (option_map (λ offset. table.start + offset) found)
    at Rule found least =
        subst
        (λ (o : Option Span). IsLeastPlace (λ place. IsSomeAnd o (λ t. (offset : ℕ) × (place ≡ t.start + offset) × Rule image (part t.start t.len image) offset)) (option_map (λ offset. table.start + offset) found))
        (sym is) (least_moved (Rule image (part table.start table.len image)) table.start found least)

-- A place at which a rule is broken lies in the image

module _ (image : List ℕ) (keeps : NothingBreaks (BreaksImage image None)) where
  abbrev data_of : ℕ → Option Span
  data_of command = some_bytes (bytes_of_table (table_at image command linkedit_data_table))

  abbrev info_of : ℕ → Option Span
  info_of command = some_bytes (bytes_of_table (table_at image command (bounded_at 40)))

  data_ends : (table : Span) (first : Option ℕ) → first_with_cmd image loader.LC_DYLD_EXPORTS_TRIE (commands_of image) ≡ first → option_map_or data_of first None ≡ Some table → end_of table ≤ length image
  data_ends table None none is = absurd (none-some table is)
  data_ends table (Some command) some is = (some_inside image (bytes_of_table (table_at image command linkedit_data_table)) (Some table) (sym is) (data_inside image loader.LC_DYLD_EXPORTS_TRIE refl command some keeps)).0

  info_ends : (table : Span) (first : Option ℕ) → dyld_info image ≡ first → option_map_or info_of first None ≡ Some table → end_of table ≤ length image
  info_ends table None none is = absurd (none-some table is)
  info_ends table (Some command) some is = (some_inside image (bytes_of_table (table_at image command (bounded_at 40))) (Some table) (sym is) (info_inside image command some keeps)).0

  trie_ends : (table : Span) → export_table image ≡ Some table → end_of table ≤ length image
  trie_ends table is = either (exports_data image) refl is
    where
      either : (first : Option Span) → exports_data image ≡ first → option_map_or (λ t. Some t) first (info_exports image) ≡ Some table → end_of table ≤ length image
      either None none at = info_ends table (dyld_info image) refl at
      either (Some t) some at = data_ends table (first_with_cmd image loader.LC_DYLD_EXPORTS_TRIE (commands_of image)) refl (some ∙ at)

  pub rule_inside : (Rule : List ℕ → List ℕ → ℕ → Type 0) → ((trie : List ℕ) (offset : ℕ) → Rule image trie offset → offset ≤ length trie) → (place : ℕ) → InExports image Rule place → place ≤ length image
  rule_inside Rule near place broken =
      let (table, is, (offset, at, here)) = some_of (λ t. (offset : ℕ) × (place ≡ t.start + offset) × Rule image (part t.start t.len image) offset) (export_table image) broken in
      let inside = trie_ends table is in
      let size = length-part table.start table.len image inside in
      let within = near (part table.start table.len image) offset here in omega (arith, at, within, size, inside)

  pub node_inside : (place : ℕ) → BreaksExportNode image place → place ≤ length image
  node_inside = rule_inside EndlessNode (λ trie. endless_near trie (met_nodes trie))

  pub total_inside : (place : ℕ) → BreaksExportTotal image place → place ≤ length image
  total_inside = rule_inside TooManyBytes (λ trie. node_rule_near trie _ (met_nodes trie))

  pub terminal_inside : (place : ℕ) → BreaksExportTerminal image place → place ≤ length image
  terminal_inside = rule_inside BadTerminal (λ trie. node_rule_near trie _ (met_nodes trie))

  pub library_inside : (place : ℕ) → BreaksExportLibrary image place → place ≤ length image
  library_inside = rule_inside UnknownLibrary (λ trie. node_rule_near trie _ (met_nodes trie))

  pub address_inside : (place : ℕ) → BreaksExportAddress image place → place ≤ length image
  address_inside = rule_inside UnknownAddress (λ trie. node_rule_near trie _ (met_nodes trie))
