use Rattle.std.proofs.Common.{◌≡◌, ◌+◌, ◌≤◌, ◌<◌, ◌⊎◌, ◌↔◌, IsTrue, Some, sym, ap, ◌∙◌, subst, arith, length, inl, inr}
use Rattle.std.proofs.lemmas.Bool.{false≢true, cases_lt}
use Rattle.macho_fields.specs.Bytes.{bytes_of}
use Rattle.macho_fields.specs.Command.{least_size, name_offset, IsBadName}
use Rattle.macho_fields.specs.Field.{HasZero}
use Rattle.macho_fields.specs.Image.{command_size}
use Rattle.macho_fields.specs.LoadCommands.{structure_of, structure_size}
use Rattle.macho_fields.specs.declared.load_command.Structure.{Structure}
use Rattle.macho_fields.proofs.LoadCommands.{has_structure}
use Rattle.macho_image.proofs.rules.has_bad_name.Goals as goal

pub is_bad_name-requires : goal.is_bad_name-requires
is_bad_name-requires c =
    let bytes = c.args.command.bytes.now in
    let s = c.args.structure in
    let some = subst (λ cmd. structure_of cmd ≡ Some s) c.requires.alone.cmd c.requires.listed in
    let whole : least_size bytes 0 s ≤ command_size bytes 0 = elim (cases_lt (command_size bytes 0) (least_size bytes 0 s)) [
      | inl short ↦ absurd (c.requires.whole ((has_structure bytes 0 (λ (t : Structure). command_size bytes 0 < least_size bytes 0 t) s some).1 short))
      | inr most ↦ most
    ] in
    let same : length (bytes_of c.new.result) ≡ length bytes = ap length c.new.ensures in record {
      named = sym c.has_name.ensures.name ∙ c.if-has_name.true;
      whole = omega (arith, whole, same, c.requires.alone.size, c.requires.alone.whole);
    }

pub returns-then-has_name : goal.returns-then-has_name
returns-then-has_name c =
    let bytes = c.args.command.bytes.now in
    let s = c.args.structure in
    let some = subst (λ cmd. structure_of cmd ≡ Some s) c.requires.alone.cmd c.requires.listed in
    let bad = has_structure bytes 0 (IsBadName bytes 0) s some in
    let start : name_offset bytes 0 ≡ 0 + name_offset bytes 0 = omega arith in
    let end : length bytes ≡ 0 + command_size bytes 0 = omega (arith, c.requires.alone.size, c.requires.alone.whole) in
    let here = subst (λ e. IsTrue c.is_bad_name.result ↔ ((name_offset bytes 0 < structure_size s) ⊎ ¬ HasZero bytes (name_offset bytes 0) e)) end
    (subst (λ bs. IsTrue c.is_bad_name.result ↔ ((name_offset bs 0 < structure_size s) ⊎ ¬ HasZero bs (name_offset bs 0) (length bs))) c.new.ensures c.is_bad_name.ensures) in
    let there = subst (λ o. IsTrue c.is_bad_name.result ↔ ((name_offset bytes 0 < structure_size s) ⊎ ¬ HasZero bytes o (0 + command_size bytes 0))) start here in
    (λ h. bad.1 (sym c.has_name.ensures.name ∙ c.if-has_name.true, there.0 h), λ h. there.1 (bad.0 h).1)

pub returns-else-has_name : goal.returns-else-has_name
returns-else-has_name c =
    let bytes = c.args.command.bytes.now in
    let some = subst (λ cmd. structure_of cmd ≡ Some c.args.structure) c.requires.alone.cmd c.requires.listed in
    let bad = has_structure bytes 0 (IsBadName bytes 0) c.args.structure some in
    (λ h. absurd (false≢true (sym c.if-has_name.false ∙ h)), λ h. c.has_name.ensures.name ∙ (bad.0 h).0)
