use Rattle.macho_rules.proofs.Profiles.{KeptImages}
use Rattle.macho_rules.proofs.profile.check_images.Given as goal

-- no rule of the profile is broken in the slices that are passed
abbrev pub invariant-loop-index : goal.invariant-loop-index
invariant-loop-index g l = KeptImages g.P.ProfileRules.breaks l.verified l.index
