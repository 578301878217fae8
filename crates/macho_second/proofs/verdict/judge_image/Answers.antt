use Rattle.std.proofs.Common.{List, ℕ, None, sym, subst}
use Rattle.macho_fields.specs.Bytes.{bytes_of}
use Rattle.macho_fields.specs.Layers.{Decides}
use Rattle.macho_fields.specs.Rules.{BreaksImage}
use Rattle.macho_fields.specs.declared.rule.Rule.TheVariants as rule
use Rattle.macho_fields.proofs.Ranks.{image_alone}
use Rattle.macho_rules.specs.Check.{KeptBefore}
use Rattle.macho_second.proofs.Second.{decided_opened}
use Rattle.macho_second.proofs.verdict.judge_image.Goals as goal

pub judge_opened-requires : goal.judge_opened-requires
judge_opened-requires c =
    subst (λ (image : List ℕ). KeptBefore image rule.SegmentAddress) (sym c.in_ok-image.ensures.image)
    (λ r place early broken. c.in_ok-image.ensures.decides r place early (image_alone (bytes_of c.args.bytes) c.args.arch r place broken))

pub returns : goal.returns
returns c =
    decided_opened (bytes_of c.args.bytes) c.args.arch c.in_ok-image.ensures.decides c.judge_opened.result
    (subst (λ (image : List ℕ). Decides (BreaksImage image None) c.judge_opened.result) c.in_ok-image.ensures.image c.judge_opened.ensures)
