-- What the rules of binds, exports and code signatures are about is there, where the rules are broken.
use Rattle.std.proofs.Common.{◌≡◌, ◌∙◌, ℕ, ◌+◌, ◌-◌, ◌≤◌, ◌<◌, ◌⊎◌, List, Option, None, Some, length, inl, inr, ap, refl, subst, sym, arith}
use Rattle.std.specs.Prelude.{IsSomeAnd}
use Rattle.std.specs.Option.{option_map_or}
use Rattle.std.proofs.lemmas.Option.{none-some}
use Rattle.macho_fields.proofs.Options.{of_some, some_of}
use Rattle.macho_fields.specs.Field.{part}
use Rattle.macho_fields.specs.Image.{commands_of}
use Rattle.macho_fields.specs.Layers.{NothingBreaks}
use Rattle.macho_fields.specs.LoadCommands.{linkedit_data_table}
use Rattle.macho_fields.specs.Rules.{BreaksImage}
use Rattle.macho_fields.specs.Symbol.{table_at}
use Rattle.macho_fields.specs.declared.header.loader.TheConstants as loader
use Rattle.macho_image.specs.Command.{first_with_cmd}
use Rattle.macho_tables.specs.Homes.{bytes_of_table}
use Rattle.macho_tables.specs.Places.{bounded_at, dyld_info}
use Rattle.macho_tables.proofs.DataTables.{data_inside, data_table_inside}
use Rattle.macho_spans.specs.Span.{end_of}
use Rattle.macho_spans.specs.declared.span.Span.{Span}
use Rattle.macho_opcodes.specs.Images.{InBinds, InBindsOf, InStream}
use Rattle.macho_opcodes.specs.declared.streams.Stream.{Stream}
use Rattle.macho_opcodes.specs.declared.streams.Stream.TheVariants as streams
use Rattle.macho_exports.specs.ExportTrie.{Node, node_at}
use Rattle.macho_exports.specs.Exports.{export_table, exports_data, info_exports, some_bytes}
use Rattle.macho_exports.proofs.ExportTables.{info_inside, of_node_near, some_inside}
use Rattle.macho_signature.specs.Signature.{BreaksSignatureBlob, InSignature}
use Rattle.macho_signature.specs.Superblobs.{AreGoodBlobs}
use Rattle.macho_alike.specs.Binds.{BindsOf, BreaksBindOnce, IsBind}
use Rattle.macho_alike.specs.Exports.{labels_of, BreaksExportEdge, HasClash, HasClashAt, UnclearNode}
use Rattle.macho_alike.specs.declared.binds.Bind.{Bind}
use Rattle.macho_alike.proofs.BindAnswers.{chain_slots_apart}
use Rattle.macho_identity.specs.DirectoryAgree.{BreaksDirectoryAgree, DisagreeingDirectory}
use Rattle.macho_identity.specs.SignatureSlot.{BadSlot, BreaksSignatureSlot}
use Rattle.macho_identity.proofs.Images.{blobs_in_image}
use Rattle.macho_explain.specs.Blobs.{InSignature as InSignatureOf}
use Rattle.macho_explain.specs.Compared.{HasClashNode}
use Rattle.macho_explain.specs.Identities.{IsAnyDirectory, IsSlotPlace}
use Rattle.macho_explain.specs.Streams.{HasBind}
use Rattle.macho_explain.specs.Wholes.{Opens}
use Rattle.macho_explain.specs.declared.stream.Asked.TheVariants as asked
use Rattle.macho_explain.proofs.LinkedStreams.{bind_step, AnyStep}

-- an opcode that binds something is a known one
in_stream : (image : List ℕ) (one : Stream) (command : ℕ) (bind : Bind) → BindsOf one image command bind → InStream one image command AnyStep bind.place
unfolding BindsOf
in_stream image one command bind (offset, (before, next, after, are, at, (segment, name, k, some, named, less, is))) =
    (offset, ap (λ (b : Bind). b.place) is, (before, next, after, are, at, tt))

in_binds : (image : List ℕ) (bind : Bind) → IsBind image bind → InBinds image AnyStep bind.place
in_binds image bind is =
    let (command, first, here) = some_of (λ c. (BindsOf streams.Bind image c bind ⊎ BindsOf streams.WeakBind image c bind) ⊎ BindsOf streams.LazyBind image c bind) (dyld_info image) is in
    of_some (λ c. InBindsOf image c AnyStep bind.place) (dyld_info image) command first (elim here [
      | inl eager ↦ inl (elim eager [ inl own ↦ inl (in_stream image streams.Bind command bind own) | inr weak ↦ inr (in_stream image streams.WeakBind command bind weak) ])
      | inr lazy ↦ inr (in_stream image streams.LazyBind command bind lazy)
    ])

apart : (one other : ℕ) → one < other → other < one + 8 → (one ≡ other) ⊎ ((one + 8 ≤ other) ⊎ (other + 8 ≤ one)) → ⊥
apart one other less near (inl same) = omega (arith, same, less)
apart one other less near (inr (inl past)) = omega (arith, past, near)
apart one other less near (inr (inr past)) = omega (arith, past, less)

-- a node that is unclear has labels that clash
clash_at : (trie : List ℕ) (place : ℕ) (P : Node → Type 0) → IsSomeAnd (node_at trie place) (λ node. P node × HasClash (labels_of trie node)) → HasClashAt trie place
clash_at trie place P has =
    let (node, is, here) = some_of (λ n. P n × HasClash (labels_of trie n)) (node_at trie place) has in
    of_some (λ n. HasClash (labels_of trie n)) (node_at trie place) node is here.1

module _ (image : List ℕ) (keeps : NothingBreaks (BreaksImage image None)) where
  opens : Opens image
  opens (r, place, before, broken) = keeps r place broken

  pub bind_once : (place : ℕ) → BreaksBindOnce image place → HasBind asked.First image place
  bind_once place (inl (what, one, other, is_one, is_other, clash, less, at)) =
      bind_step image keeps place (subst (InBinds image AnyStep) at (in_binds image other is_other))
  bind_once place (inr (k, one, other, is_one, is_other, less, near, at)) =
      absurd (apart one other less near (chain_slots_apart image k one other is_one is_other))

  -- the trie lies in the image
  data_ends : (table : Span) (first : Option ℕ) → first_with_cmd image loader.LC_DYLD_EXPORTS_TRIE (commands_of image) ≡ first
      → option_map_or (λ c. some_bytes (bytes_of_table (table_at image c linkedit_data_table))) first None ≡ Some table → end_of table ≤ length image
  data_ends table None none is = absurd (none-some table is)
  data_ends table (Some command) some is =
      (some_inside image (bytes_of_table (table_at image command linkedit_data_table)) (Some table) (sym is) (data_inside image loader.LC_DYLD_EXPORTS_TRIE refl command some keeps)).0

  info_ends : (table : Span) (first : Option ℕ) → dyld_info image ≡ first
      → option_map_or (λ c. some_bytes (bytes_of_table (table_at image c (bounded_at 40)))) first None ≡ Some table → end_of table ≤ length image
  info_ends table None none is = absurd (none-some table is)
  info_ends table (Some command) some is =
      (some_inside image (bytes_of_table (table_at image command (bounded_at 40))) (Some table) (sym is) (info_inside image command some keeps)).0

  trie_ends : (table : Span) → export_table image ≡ Some table → end_of table ≤ length image
  trie_ends table is = either (exports_data image) refl is
    where
      either : (first : Option Span) → exports_data image ≡ first → option_map_or (λ t. Some t) first (info_exports image) ≡ Some table → end_of table ≤ length image
      either None none at = info_ends table (dyld_info image) refl at
      either (Some t) some at = data_ends table (first_with_cmd image loader.LC_DYLD_EXPORTS_TRIE (commands_of image)) refl (some ∙ at)

  pub export_edge : (place : ℕ) → BreaksExportEdge image place → HasClashNode image place
  export_edge place broken =
      let (table, is, (offset, at, (met, among, own, unclear))) = some_of (λ t. (offset : ℕ) × (place ≡ t.start + offset) × UnclearNode (part t.start t.len image) offset) (export_table image) broken in
      let trie = part table.start table.len image in
      let near = of_node_near trie (λ m node. (node.end - m.place ≤ m.left) × HasClash (labels_of trie node)) met unclear in
      let has = clash_at trie met.place (λ node. node.end - met.place ≤ met.left) unclear in (
        opens,
        (table, trie, record { named = is; inside = trie_ends table is; bytes = refl }, offset, at, subst (λ o. (o ≤ length trie) × HasClashAt trie o) own (near, has)),
      )

  -- an entry of a signature whose blobs are in place
  module _ (unbroken : (place : ℕ) → ¬ BreaksSignatureBlob image place) where
    in_signature : (Rule : List ℕ → ℕ → Type 0) (P : ℕ → List ℕ → ℕ → Type 0)
        → ((start : ℕ) (signature : List ℕ) (offset : ℕ) → AreGoodBlobs signature → Rule signature offset → P start signature offset)
        → (place : ℕ) → InSignature image (λ start. Rule) place → InSignatureOf P image place
    in_signature Rule P has place (table, is, (offset, at, broken)) =
        let (command, first, (same, some)) = some_of (λ c. (table ≡ bytes_of_table (table_at image c linkedit_data_table)) × (0 < table.len)) (first_with_cmd image loader.LC_CODE_SIGNATURE (commands_of image)) is in
        let inside = data_table_inside image loader.LC_CODE_SIGNATURE refl keeps table is in
        let signature = part table.start table.len image in (
          opens,
          (
            table,
            signature,
            record { named = rw first (ap Some (sym same)); inside = inside; bytes = refl },
            offset,
            at,
            has table.start signature offset (blobs_in_image image unbroken table is) broken,
          ),
        )

    pub signature_slot : (place : ℕ) → BreaksSignatureSlot image place → InSignatureOf IsSlotPlace image place
    signature_slot = in_signature BadSlot IsSlotPlace (λ start signature offset good (k, less, at, bad). (good, (k, less, at, tt)))

    pub directory_agree : (place : ℕ) → BreaksDirectoryAgree image place → InSignatureOf IsAnyDirectory image place
    directory_agree = in_signature DisagreeingDirectory IsAnyDirectory (λ start signature offset good (k, less, at, has). (good, (k, less, at, has.0)))
