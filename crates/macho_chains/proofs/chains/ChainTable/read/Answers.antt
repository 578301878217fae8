use Rattle.std.proofs.Common.{◌≡◌, ℕ, ◌<◌, List, length, sym, ap, ◌∙◌, subst, arith}
use Rattle.macho_fields.specs.Bytes.{bytes_of}
use Rattle.macho_fields.specs.Field.{part}
use Rattle.macho_fields.specs.LoadCommands.{linkedit_data_table}
use Rattle.macho_fields.specs.Symbol.{table_at}
use Rattle.macho_fields.specs.declared.load_command.TableFields.{TableFields}
use Rattle.macho_image.proofs.ReadParts.{length-part}
use Rattle.macho_spans.specs.declared.span.Span.{Span}
use Rattle.macho_tables.specs.Homes.{bytes_of_table}
use Rattle.macho_chains.specs.Chains.{IsChainTable}
use Rattle.macho_chains.proofs.ChainTables.{chain_table_of, chain_fields_inside, chains_inside}
use Rattle.macho_chains.proofs.chains.ChainTable.read.Goals as goal

pub span_of-span-requires-clause-place : goal.span_of-span-requires-clause-place
span_of-span-requires-clause-place c = rw c.bounded_at.ensures (chain_fields_inside c.args.image.now c.args.command c.requires.named c.requires.unbroken).0

pub span_of-span-requires-clause-count : goal.span_of-span-requires-clause-count
span_of-span-requires-clause-count c = rw c.bounded_at.ensures (chain_fields_inside c.args.image.now c.args.command c.requires.named c.requires.unbroken).1

-- the table that was read is the table that the command names
is_table : (image : List ℕ) (command : ℕ) (fields : TableFields) (table : Span) → fields ≡ linkedit_data_table → table ≡ bytes_of_table (table_at image command fields)
    → table ≡ bytes_of_table (table_at image command linkedit_data_table)
is_table image command fields table same is = is ∙ ap (λ (f : TableFields). bytes_of_table (table_at image command f)) same

pub slice-bytes-requires : goal.slice-bytes-requires
slice-bytes-requires c =
    let same = is_table c.args.image.now c.args.command _ _ c.bounded_at.ensures c.span_of-span.ensures in
    let len = ap (λ (s : Span). s.len) same in
    let inside = chains_inside c.args.image.now c.args.command c.requires.named c.requires.unbroken (omega (arith, len, c.if-span-eq0.false)) in
    rw (c.bytes.ensures.bytes, same) inside

pub returns : goal.returns
returns c =
    let image = c.args.image.now in
    let span = c.span_of-span.result in
    let bytes = bytes_of c.slice-bytes.result in
    let same = is_table image c.args.command _ _ c.bounded_at.ensures c.span_of-span.ensures in
    let start = ap (λ (s : Span). s.start) same in
    let len = ap (λ (s : Span). s.len) same in
    let some : 0 < (table_at image c.args.command linkedit_data_table).1 = omega (arith, len, c.if-span-eq0.false) in
    let inside = chains_inside image c.args.command c.requires.named c.requires.unbroken some in
    let are : bytes ≡ part span.start span.len image = c.slice-bytes.ensures ∙ ap (part span.start span.len) c.bytes.ensures.bytes in
    let count : length bytes ≡ span.len = ap length are ∙ length-part span.start span.len image (omega (arith, inside, start, len)) in
    let named = subst (IsChainTable image) (sym same) (chain_table_of image c.args.command c.requires.named some) in record {
      named = subst (λ (n : ℕ). IsChainTable image (record { start = span.start; len = n })) (sym count) named;
      near = omega (arith, count, inside, start, len, c.bytes.ensures.fits, ap length c.bytes.ensures.bytes);
      bytes = subst (λ (n : ℕ). bytes ≡ part span.start n image) (sym count) are;
      header = c.read.ensures;
    }
