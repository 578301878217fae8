use Rattle.std.proofs.Common.{List, ℕ, None, ◌∙◌, ap, sym, arith, rules}
use Rattle.macho_fields.specs.Image.{commands_of}
use Rattle.macho_fields.specs.Segment.{base_of, section_count}
use Rattle.macho_fields.specs.declared.rule.Rule.TheVariants as rule
use Rattle.macho_fields.proofs.Ranks.{layout_rule_rank}
use Rattle.macho_rules.proofs.Verdicts.{refused_by, kept_by}
use Rattle.macho_rules.proofs.check.check_image.Goals as goal

pub returns-in_err-judge_segments-clause-refused : goal.returns-in_err-judge_segments-clause-refused
returns-in_err-judge_segments-clause-refused c = refused_by c.of-survey.ensures _ c.in_err-judge_segments.ensures _ c.from_residual.ensures.1

pub segment_overlap-requires-clause-kept : goal.segment_overlap-requires-clause-kept
segment_overlap-requires-clause-kept c = kept_by c.of-survey.ensures rule.SegmentOverlap c.in_ok-judge_segments.ensures

pub judge_sections-requires : goal.judge_sections-requires
judge_sections-requires c = kept_by (sym c.of-survey.ensures) rule.SectionAddress c.in_ok-segment_overlap.ensures

pub returns-in_err-judge_sections-clause-refused : goal.returns-in_err-judge_sections-clause-refused
returns-in_err-judge_sections-clause-refused c = refused_by c.of-survey.ensures _ c.in_err-judge_sections.ensures _ c.from_residual-in_err-judge_sections.ensures.1

pub table_range-requires : goal.table_range-requires
table_range-requires c = kept_by c.of-survey.ensures rule.TableRange c.in_ok-judge_sections.ensures

pub symbol_group-requires : goal.symbol_group-requires
symbol_group-requires c = search rules

pub of-symbols-requires-clause-sections : goal.of-symbols-requires-clause-sections
of-symbols-requires-clause-sections c = c.section_count.ensures ∙ ap (λ (image : List ℕ). section_count image (commands_of image)) c.of-survey.ensures

pub judge-requires : goal.judge-requires
judge-requires c = kept_by (sym c.of-symbols.ensures) rule.SymbolName c.in_ok-symbol_group.ensures

pub returns-in_err-judge-clause-refused : goal.returns-in_err-judge-clause-refused
returns-in_err-judge-clause-refused c = refused_by c.of-symbols.ensures _ c.in_err-judge.ensures _ c.from_residual-in_err-judge.ensures.1

pub indirect_index-requires : goal.indirect_index-requires
indirect_index-requires c = kept_by c.of-symbols.ensures rule.IndirectIndex c.in_ok-judge.ensures

pub entry-requires-clause-base : goal.entry-requires-clause-base
entry-requires-clause-base c = c.base.ensures ∙ ap (λ (image : List ℕ). base_of image (commands_of image)) c.of-survey.ensures

pub returns-clause-unbroken : goal.returns-clause-unbroken
returns-clause-unbroken c r place broken = let most = layout_rule_rank c.args.image.now None r place broken in c.in_ok-entry.ensures r place (omega (arith, most)) broken
