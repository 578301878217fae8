use Rattle.std.proofs.Common.{arith, ap}
use Rattle.macho_fields.specs.Bytes.{bytes_of}
use Rattle.macho_fields.specs.First.{rank}
use Rattle.macho_fields.specs.declared.rule.Rule.TheVariants as rule
use Rattle.macho_image.specs.Command.{commands_left}
use Rattle.macho_image.proofs.KeptRules.{has_header}
use Rattle.macho_image.proofs.OpenedWalk.{can_walk}
use Rattle.macho_image.proofs.walk.Candidate.commands.Goals as goal

pub word_at-requires : goal.word_at-requires
word_at-requires c = let header = has_header _ c.args.self.arch (rank rule.CommandShort) (omega arith) c.requires in omega (arith, header)

pub invariant_of-result : goal.invariant_of-result
invariant_of-result c = can_walk _ c.args.self.arch _ c.word_at.ensures c.requires

pub returns : goal.returns
returns c = ap (commands_left (bytes_of c.args.self.bytes) 32) c.word_at.ensures
