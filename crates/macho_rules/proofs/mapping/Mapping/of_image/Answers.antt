use Rattle.std.proofs.Common.{◌≡◌, ◌∙◌, ◌<◌, ◌^◌, length, ap, arith}
use Rattle.macho_rules.proofs.MappingItems.{moved_count, all_indexed, all_fit, sources_given, on_err}
use Rattle.macho_rules.proofs.Verdicts.{unbroken_opened}
use Rattle.macho_rules.proofs.mapping.Mapping.of_image.Goals as goal

pub returns-in_err-memory-clause-memory : goal.returns-in_err-memory-clause-memory
returns-in_err-memory-clause-memory c = on_err c.from_residual.result c.in_err-memory.ensures.memory

pub returns-in_err-files-clause-memory : goal.returns-in_err-files-clause-memory
returns-in_err-files-clause-memory c = on_err c.from_residual-in_err-files.result c.in_err-files.ensures.memory

pub invariant_of-result : goal.invariant_of-result
invariant_of-result c =
    let image = c.args.image.now in
    let size : c.len.result ≡ length image = c.len.ensures.count ∙ ap length c.bytes.ensures.bytes in
    let short : length image < 2 ^ 64 = omega (arith, size, c.len.type_inv) in
    record {
      indexed = all_indexed image _ _ c.in_ok-memory.ensures.held c.in_ok-files.ensures.files;
      fits = all_fit image _ _ c.in_ok-memory.ensures.held c.in_ok-files.ensures.files short (unbroken_opened image c.requires) c.requires;
    }

pub returns-clause-sources : goal.returns-clause-sources
returns-clause-sources c = sources_given c.args.image.now _ _ c.in_ok-memory.ensures.held c.in_ok-files.ensures.files c.in_ok-memory.ensures.sorted

pub returns-clause-segments : goal.returns-clause-segments
returns-clause-segments c = moved_count c.args.image.now _ c.in_ok-memory.ensures.held
