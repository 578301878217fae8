use Rattle.std.proofs.Common.{◌≡◌, ◌≢◌, ◌↔◌, ◌∙◌, ℕ, List, None, Some, ap, arith, subst, sym}
use Rattle.macho_commands.specs.Commands.{IsThreadEntry}
use Rattle.macho_fields.specs.Bytes.{bytes_of}
use Rattle.macho_fields.specs.Image.{command_cmd}
use Rattle.macho_fields.specs.declared.header.loader.TheConstants as loader
use Rattle.macho_rows.specs.Rows.{HasUnbrokenHeaders}
use Rattle.macho_explain.specs.Wholes.{Opens}
use Rattle.macho_explain.proofs.Begins.{by_main, by_thread}
use Rattle.macho_explain.proofs.start.entry_address.Goals as goal

unbroken_opens : (image : List ℕ) → HasUnbrokenHeaders image None → Opens image
unbroken_opens image kept (r, place, before, broken) = kept r place (omega (arith, before)) broken

pub returns-then-walked : goal.returns-then-walked
returns-then-walked c =
    let image = bytes_of c.args.sliced.now.held.bytes in
    let is = c.requires in
    by_main image c.args.sliced.now.place c.main_address.result (sym (is.load.cmd ∙ ap (command_cmd image) is.meets) ∙ c.if-walked.true) c.main_address.ensures

pub returns : goal.returns
returns c =
    let image = bytes_of c.args.sliced.now.held.bytes in
    let is = c.requires in
    let (kept, same) = c.in_ok-open.ensures in
    let other : command_cmd image c.args.sliced.now.place ≢ loader.LC_MAIN = λ main. c.if-walked.false (is.load.cmd ∙ (ap (command_cmd image) is.meets ∙ main)) in
    by_thread image c.args.sliced.now.place c.thread_entry.result other (unbroken_opens image kept)
    (λ a. subst (λ (i : List ℕ). (c.thread_entry.result ≡ Some a) ↔ IsThreadEntry i a) same (c.thread_entry.ensures a))
