use Rattle.std.proofs.Common.{rules}
use Rattle.macho_fields.specs.Bytes.{bytes_of}
use Rattle.macho_fields.specs.declared.rule.Rule.TheVariants as rule
use Rattle.macho_image.proofs.KeptRules.{kept_none, header_kept, header_broken}
use Rattle.macho_image.proofs.walk.header_truncated.Goals as goal

pub returns-then-len-lt-MACH_HEADER_64_SIZE-clause-decides : goal.returns-then-len-lt-MACH_HEADER_64_SIZE-clause-decides
returns-then-len-lt-MACH_HEADER_64_SIZE-clause-decides c =
    let image = bytes_of c.args.candidate.bytes in
    let arch = c.args.candidate.arch in
    header_broken image arch rule.HeaderTruncated (λ _ _ h. h) (kept_none image arch) _ c.at.ensures.rule (search rules) (search rules)

pub returns-clause-decides : goal.returns-clause-decides
returns-clause-decides c =
    let image = bytes_of c.args.candidate.bytes in
    let arch = c.args.candidate.arch in
    header_kept image arch rule.HeaderTruncated (λ _ _ h. h) (kept_none image arch) (search rules)
