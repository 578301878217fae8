use Rattle.std.proofs.Common.{[], ◌∷◌}
use Rattle.std.specs.Prelude.{codes}
use Rattle.macho_text.proofs.Holding.{held_fails, held_puts, holds_begin, holds_next}
use Rattle.macho_lines.proofs.lines.write_words.Goals as goal

pub returns-in_err-word : goal.returns-in_err-word
returns-in_err-word g c =
    held_fails c.from_residual.ensures.0 (holds_begin {held = []} {left = c.args.first.now ∷ c.args.second.now ∷ c.args.third.now ∷ codes "\n" ∷ []}) (rw (c.new-line.ensures, c.as_bytes.ensures.value) at c.in_err-word.ensures.text)

pub returns-in_err-word-2 : goal.returns-in_err-word-2
returns-in_err-word-2 g c =
    let one = holds_next (holds_begin {held = []} {left = c.args.first.now ∷ c.args.second.now ∷ c.args.third.now ∷ codes "\n" ∷ []}) (rw (c.new-line.ensures, c.as_bytes.ensures.value) at c.in_ok-word.ensures.text) in
    held_fails c.from_residual-in_err-word-2.ensures.0 one (rw c.as_bytes-2.ensures.value at c.in_err-word-2.ensures.text)

pub returns-in_err-word-3 : goal.returns-in_err-word-3
returns-in_err-word-3 g c =
    let one = holds_next (holds_begin {held = []} {left = c.args.first.now ∷ c.args.second.now ∷ c.args.third.now ∷ codes "\n" ∷ []}) (rw (c.new-line.ensures, c.as_bytes.ensures.value) at c.in_ok-word.ensures.text) in
    let two = holds_next one (rw c.as_bytes-2.ensures.value at c.in_ok-word-2.ensures.text) in
    held_fails c.from_residual-in_err-word-3.ensures.0 two (rw c.as_bytes-3.ensures.value at c.in_err-word-3.ensures.text)

pub returns : goal.returns
returns g c =
    let one = holds_next (holds_begin {held = []} {left = c.args.first.now ∷ c.args.second.now ∷ c.args.third.now ∷ codes "\n" ∷ []}) (rw (c.new-line.ensures, c.as_bytes.ensures.value) at c.in_ok-word.ensures.text) in
    let two = holds_next one (rw c.as_bytes-2.ensures.value at c.in_ok-word-2.ensures.text) in
    held_puts (holds_next two (rw c.as_bytes-3.ensures.value at c.in_ok-word-3.ensures.text)) c.write.ensures.text
