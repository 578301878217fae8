use Rattle.macho_second.proofs.sections.judge_sections.Goals as goal

-- What an image breaks among these rules computes to what its sections break. By hand, since a search opens both sides.
pub judge-requires-clause-sections : goal.judge-requires-clause-sections
judge-requires-clause-sections c place = (λ h. h, λ h. h)

pub judge-requires-2-clause-sections : goal.judge-requires-2-clause-sections
judge-requires-2-clause-sections c place = (λ h. h, λ h. h)

pub judge-requires-3-clause-sections : goal.judge-requires-3-clause-sections
judge-requires-3-clause-sections c place = (λ h. h, λ h. h)
