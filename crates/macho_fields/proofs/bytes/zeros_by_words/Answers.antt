use Rattle.std.proofs.Common.{◌≡◌, ◌-◌, ◌∙◌, length, drop, refl, arith, length-drop, length-take}
use Rattle.macho_fields.specs.Field.{number, part}
use Rattle.macho_fields.specs.declared.bytes.Order.TheVariants.{Little}
use Rattle.macho_fields.proofs.NonZeros.{nonzero_in_word}
use Rattle.macho_fields.proofs.bytes.zeros_by_words.Goals as goal

pub returns-else-u64_from-eq0-clause-all : goal.returns-else-u64_from-eq0-clause-all
returns-else-u64_from-eq0-clause-all c = λ inside.
    let bytes = c.args.bytes.now in
    let index = c.loop-index.index in
    let left = length bytes - index in
    let word : c.u64_from.result ≡ number Little 8 (part index left bytes) 0 = c.u64_from.ensures in
    nonzero_in_word bytes (part index left bytes) index left refl (omega (arith, length-take left (drop index bytes), length-drop index bytes)) (λ none. c.if-u64_from-eq0.false (word ∙ none))
