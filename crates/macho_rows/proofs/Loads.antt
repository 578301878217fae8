-- The walk over the load commands of any bytes, step by step.
use Rattle.std.proofs.Common.{◌≡◌, ◌∙◌, ℕ, zero, suc, ◌+◌, ◌-◌, ◌≤◌, ◌<◌, List, [], ◌∷◌, true, false, refl, sym, ap, arith}
use Rattle.macho_fields.specs.Image.{command_size, command_count}
use Rattle.macho_rows.specs.Loads.{is_command, commands_from, next_place, commands_left}
use Rattle.macho_rows.specs.declared.cursor.KesvuotCursor.{KesvuotCursor}

pub none_from : (image : List ℕ) (place left : ℕ) → is_command image place ≡ false → commands_from image place left ≡ []
none_from image place zero is = refl
none_from image place (suc left) is = rw is refl

pub none_after : (image : List ℕ) (place left : ℕ) → left ≡ 0 → commands_from image place left ≡ []
none_after image place left is = rw is refl

pub step_from : (image : List ℕ) (place left : ℕ) → 0 < left → is_command image place ≡ true
    → commands_from image place left ≡ place ∷ commands_from image (place + command_size image place) (left - 1)
step_from image place zero some is = absurd (omega arith)
step_from image place (suc left) some is = rw is (ap (λ n. place ∷ commands_from image (place + command_size image place) n) (let e : left ≡ suc left - 1 = omega arith in e))

-- a cursor past the header is at its own place
pub place_kept : (cursor : KesvuotCursor) → 32 ≤ cursor.place → next_place cursor ≡ cursor.place
place_kept cursor far = grind arith

pub step_left : (image : List ℕ) (before after : KesvuotCursor) (place size : ℕ) → place ≡ next_place before → is_command image place ≡ true → size ≡ command_size image place
    → before.commands < command_count image → after.place ≡ place + size → after.commands ≡ before.commands + 1
    → commands_left image before ≡ place ∷ commands_left image after
step_left image before after place size at is sized less moved counted =
    let far : 32 ≤ next_place before = grind arith in
    let there : next_place after ≡ place + size = place_kept after (omega (arith, far, at, moved)) ∙ moved in
    let some : 0 < command_count image - before.commands = omega arith in
    let fewer : command_count image - before.commands - 1 ≡ command_count image - after.commands = omega arith in
    ap (λ p. commands_from image p (command_count image - before.commands)) (sym at)
    ∙ (step_from image place (command_count image - before.commands) some is
    ∙ ap (λ rest. place ∷ rest) (ap (λ n. commands_from image (place + command_size image place) n) fewer ∙ ap (λ p. commands_from image p (command_count image - after.commands)) (let e : place + command_size image place ≡ next_place after = omega (arith, there, sized) in e)))
