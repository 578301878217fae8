use Rattle.std.proofs.Common.{ℕ, ◌+◌, ◌∙◌, sym, subst}
use Rattle.std.proofs.lemmas.Bool.{false≢true}
use Rattle.macho_fields.specs.Bytes.{bytes_of}
use Rattle.macho_fields.specs.Field.{HasZero}
use Rattle.macho_exports.proofs.ExportTries.{name_some, name_none}
use Rattle.macho_exports.proofs.export_trie.read_name.Goals as goal

pub returns-in_err-zero : goal.returns-in_err-zero
returns-in_err-zero c =
    let bytes = bytes_of c.args.bytes in
    c.from_residual.ensures
    ∙ sym (name_none bytes c.args.place
    (λ has. false≢true (c.in_err-zero.ensures.found.1 (subst (λ (n : ℕ). HasZero bytes c.args.place (c.args.place + n)) (sym c.len.ensures.count) has))))

pub returns : goal.returns
returns c =
    sym (name_some (bytes_of c.args.bytes) c.args.place c.in_ok-zero.zero
    c.in_ok-zero.ensures.zero.0.0 c.in_ok-zero.ensures.zero.1 c.in_ok-zero.ensures.first)
