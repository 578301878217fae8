use Rattle.std.proofs.Common.{◌∙◌, None, Some, refl, sym, subst}
use Rattle.std.proofs.lemmas.Bool.{both_ways}
use Rattle.macho_fields.specs.Bytes.{bytes_of}
use Rattle.macho_fields.specs.Image.{commands_of}
use Rattle.macho_fields.specs.Segment.{IsExecutable}
use Rattle.macho_commands.specs.Commands.{NamesEntry}
use Rattle.macho_commands.specs.States.{HasThreadEntry}
use Rattle.macho_commands.proofs.Given.{none_given, some_given, gives_none, same_value}
use Rattle.macho_commands.proofs.thread.sound_entry.Goals as goal

pub returns-in_err-entry : goal.returns-in_err-entry
returns-in_err-entry c =
    let bytes = bytes_of c.args.command in
    none_given (NamesEntry c.args.image.now bytes) c.from_residual.result c.from_residual.ensures
    (λ entry (has, runs). gives_none (HasThreadEntry c.arch-cputype.result.0 bytes) c.thread_entry_of.result c.in_err-entry.was c.thread_entry_of.ensures entry
    (subst (λ cpu. HasThreadEntry cpu bytes entry) (sym c.arch-cputype.ensures.cpu_type) has))

pub returns-then-not-is_executable : goal.returns-then-not-is_executable
returns-then-not-is_executable c =
    let image = c.args.image.now in
    let bytes = bytes_of c.args.command in
    none_given (NamesEntry image bytes) None refl
    (λ entry (has, runs).
    let same = same_value c.in_ok-entry.entry entry (sym c.in_ok-entry.was ∙ (c.thread_entry_of.ensures entry).1 (subst (λ cpu. HasThreadEntry cpu bytes entry) (sym c.arch-cputype.ensures.cpu_type) has)) in
    both_ways c.is_executable.result c.if-not-is_executable.true (c.is_executable.ensures.1 (subst (IsExecutable image (commands_of image)) (sym same) runs)))

pub returns : goal.returns
returns c =
    let image = c.args.image.now in
    let bytes = bytes_of c.args.command in
    some_given (NamesEntry image bytes) (Some c.in_ok-entry.entry) c.in_ok-entry.entry refl
    (subst (λ cpu. HasThreadEntry cpu bytes c.in_ok-entry.entry) c.arch-cputype.ensures.cpu_type ((c.thread_entry_of.ensures c.in_ok-entry.entry).0 c.in_ok-entry.was), c.is_executable.ensures.0 c.if-not-is_executable.false)
    (λ entry (has, runs).
    same_value c.in_ok-entry.entry entry (sym c.in_ok-entry.was ∙ (c.thread_entry_of.ensures entry).1 (subst (λ cpu. HasThreadEntry cpu bytes entry) (sym c.arch-cputype.ensures.cpu_type) has)))
