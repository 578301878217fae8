use Rattle.macho_second.proofs.segments.judge_segments.Goals as goal

-- What an image breaks among these rules computes to what its segments break. By hand, since a search opens both sides.
pub judge-requires-clause-segments : goal.judge-requires-clause-segments
judge-requires-clause-segments c place = (λ h. h, λ h. h)

pub judge-requires-2-clause-segments : goal.judge-requires-2-clause-segments
judge-requires-2-clause-segments c place = (λ h. h, λ h. h)

pub judge-requires-3-clause-segments : goal.judge-requires-3-clause-segments
judge-requires-3-clause-segments c place = (λ h. h, λ h. h)

pub judge-requires-4-clause-segments : goal.judge-requires-4-clause-segments
judge-requires-4-clause-segments c place = (λ h. h, λ h. h)
