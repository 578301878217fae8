use Rattle.std.proofs.Common.{arith, rules}
use Rattle.macho_fields.specs.Bytes.{bytes_of}
use Rattle.macho_fields.specs.First.{rank}
use Rattle.macho_fields.specs.declared.rule.Rule.TheVariants as rule
use Rattle.macho_image.proofs.KeptRules.{has_header, header_kept, header_broken}
use Rattle.macho_image.proofs.walk.commands_outside.Goals as goal

pub end_of_commands-requires : goal.end_of_commands-requires
end_of_commands-requires c = has_header _ c.args.candidate.arch (rank rule.CommandsOutside) (omega arith) c.requires

pub returns-then-end_of_commands-len-clause-decides : goal.returns-then-end_of_commands-len-clause-decides
returns-then-end_of_commands-len-clause-decides c =
    let image = bytes_of c.args.candidate.bytes in
    header_broken image c.args.candidate.arch rule.CommandsOutside (λ _ _ h. h) c.requires _ c.at.ensures.rule (search rules) (search rules)

pub returns-clause-decides : goal.returns-clause-decides
returns-clause-decides c =
    let image = bytes_of c.args.candidate.bytes in
    header_kept image c.args.candidate.arch rule.CommandsOutside (λ _ _ h. h) c.requires (search rules)
