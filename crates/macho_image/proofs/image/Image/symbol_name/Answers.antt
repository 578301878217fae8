use Rattle.macho_image.proofs.image.Image.symbol_name.Goals as goal

pub returns-then-strx-eq0-clause-named : goal.returns-then-strx-eq0-clause-named
returns-then-strx-eq0-clause-named c = (λ some. absurd (cc), λ has. absurd (has.0 c.if-strx-eq0.true))

pub returns-then-strx-eq0-clause-name : goal.returns-then-strx-eq0-clause-name
returns-then-strx-eq0-clause-name c = tt
