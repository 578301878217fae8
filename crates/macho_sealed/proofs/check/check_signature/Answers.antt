use Rattle.std.proofs.Common.{◌≡◌, ◌+◌, List, ℕ, refl, sym, ap, ◌∙◌, subst, arith}
use Rattle.macho_fields.specs.Bytes.{bytes_of}
use Rattle.macho_fields.specs.Field.{part}
use Rattle.macho_fields.specs.FirstPlace.{IsLeastPlace}
use Rattle.macho_fields.specs.declared.rule.Rule.TheVariants as rule
use Rattle.macho_seals.specs.Executable.{IsExecutableIn}
use Rattle.macho_seals.specs.Signature.{RepeatedDirectory, BadHash, BreaksSignatureExecutable, BreaksDirectoryRepeated}
use Rattle.macho_seals.specs.Slack.{IsSlackAt}
use Rattle.macho_spans.specs.declared.span.Span.{Span}
use Rattle.macho_sealed.proofs.Places.{one_signature, found_in_image}
use Rattle.macho_seals.proofs.TakenSlots.{none_repeated}
use Rattle.macho_signature.proofs.Images.{least_in_signature}
use Rattle.macho_tables.proofs.Places.{least_same}
use Rattle.macho_sealed.proofs.check.check_signature.Goals as goal

pub judge-requires-clause-least : goal.judge-requires-clause-least
judge-requires-clause-least c =
    let image = c.args.image.now in
    let table = c.args.table in
    least_same (IsExecutableIn table image) (BreaksSignatureExecutable image) c.first_executable-executable.result
    (λ place. (λ runs. (table, c.requires.table, runs), λ (other, has, runs). subst (λ (t : Span). IsExecutableIn t image place) (one_signature image other table has c.requires.table) runs))
    c.first_executable-executable.ensures

pub judge-requires-2-clause-least : goal.judge-requires-2-clause-least
judge-requires-2-clause-least c =
    let image = c.args.image.now in
    let table = c.args.table in
    let bytes : bytes_of c.slice-signature.result ≡ part table.start table.len image = c.slice-signature.ensures ∙ ap (part table.start table.len) c.bytes-bytes.ensures.bytes in
    let found = subst (λ (these : List ℕ). IsLeastPlace (RepeatedDirectory these) c.first_repeated.result) bytes c.first_repeated.ensures in
    subst (IsLeastPlace (BreaksDirectoryRepeated image)) (sym c.place_from-repeated.ensures)
    (least_in_signature image (λ start. RepeatedDirectory) table c.requires.table c.first_repeated.result found)

pub judge-requires-3-clause-least : goal.judge-requires-3-clause-least
judge-requires-3-clause-least c =
    let image = c.args.image.now in
    let table = c.args.table in
    let bytes : bytes_of c.slice-signature.result ≡ part table.start table.len image = c.slice-signature.ensures ∙ ap (part table.start table.len) c.bytes-bytes.ensures.bytes in
    let these = subst (λ (signature : List ℕ). IsLeastPlace (IsSlackAt (bytes_of c.bytes-bytes.result) table.start signature) c.first_slack-slack.result) bytes c.first_slack-slack.ensures in
    found_in_image image table c.requires.table (IsSlackAt image) c.first_slack-slack.result
    (subst (λ (all : List ℕ). IsLeastPlace (IsSlackAt all table.start (part table.start table.len image)) c.first_slack-slack.result) c.bytes-bytes.ensures.bytes these)

pub first_other_hash-hash-requires-clause-apart : goal.first_other_hash-hash-requires-clause-apart
first_other_hash-hash-requires-clause-apart c =
    let image = c.args.image.now in
    let table = c.args.table in
    let bytes : bytes_of c.slice-signature.result ≡ part table.start table.len image = c.slice-signature.ensures ∙ ap (part table.start table.len) c.bytes-bytes.ensures.bytes in
    none_repeated (bytes_of c.slice-signature.result)
    (λ offset repeated. c.in_ok-judge-2.ensures rule.DirectoryRepeated (table.start + offset) (omega arith)
    (table, c.requires.table, (offset, refl, subst (λ (these : List ℕ). RepeatedDirectory these offset) bytes repeated)))

pub judge-requires-4-clause-least : goal.judge-requires-4-clause-least
judge-requires-4-clause-least c =
    let image = c.args.image.now in
    let table = c.args.table in
    let bytes : bytes_of c.slice-signature.result ≡ part table.start table.len image = c.slice-signature.ensures ∙ ap (part table.start table.len) c.bytes-bytes.ensures.bytes in
    let these = subst (λ (signature : List ℕ). IsLeastPlace (BadHash (bytes_of c.bytes-bytes.result) table.start signature) c.first_other_hash-hash.result) bytes c.first_other_hash-hash.ensures in
    found_in_image image table c.requires.table (BadHash image) c.first_other_hash-hash.result
    (subst (λ (all : List ℕ). IsLeastPlace (BadHash all table.start (part table.start table.len image)) c.first_other_hash-hash.result) c.bytes-bytes.ensures.bytes these)
