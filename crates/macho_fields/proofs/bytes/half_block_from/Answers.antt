use Rattle.std.proofs.Common.{◌≡◌, ℕ, ◌+◌, ◌-◌, ◌≤◌, ◌∙◌, sym, length, drop, refl, arith, length-drop, length-take, List}
use Rattle.macho_fields.specs.Field.{part, number}
use Rattle.macho_fields.specs.NonZero.{HasNonZero}
use Rattle.macho_fields.specs.declared.bytes.Order.TheVariants.{Little}
use Rattle.macho_fields.proofs.NonZeros.{none_of_four, none_of_number, none_in_word, none_joined}
use Rattle.macho_fields.proofs.bytes.half_block_from.Goals as goal

-- where the word at a place is zero, none of its bytes is not
word_at : (bytes : List ℕ) (k : ℕ) → k + 8 ≤ length bytes → number Little 8 (part k (length bytes - k) bytes) 0 ≡ 0 → ¬ HasNonZero bytes k (k + 8)
word_at bytes k inside word =
    none_in_word bytes (part k (length bytes - k) bytes) k (length bytes - k) refl (omega (arith, length-take (length bytes - k) (drop k bytes), length-drop k bytes)) word

pub returns : goal.returns
returns c = λ none.
    let bytes = c.args.bytes.now in
    let (first, second, third, fourth) = none_of_four c.u64_from-first.result c.u64_from-second.result c.u64_from-third.result c.u64_from-fourth.result none in
    none_joined bytes 0 8 32 (λ (z, low, high, is). is.1 (none_of_number 0 8 bytes (sym c.u64_from-first.ensures ∙ first) z low high))
    (none_joined bytes 8 16 32 (word_at bytes 8 (omega arith) (sym c.u64_from-second.ensures ∙ second))
    (none_joined bytes 16 24 32 (word_at bytes 16 (omega arith) (sym c.u64_from-third.ensures ∙ third))
    (word_at bytes 24 (omega arith) (sym c.u64_from-fourth.ensures ∙ fourth))))
