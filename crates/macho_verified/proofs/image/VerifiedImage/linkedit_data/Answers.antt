use Rattle.std.proofs.Common.{◌≡◌, ◌+◌, ◌≤◌, List, ℕ, length, IsSome, IsSomeAnd, refl, sym, subst}
use Rattle.macho_fields.specs.Field.{part}
use Rattle.macho_fields.specs.Image.{commands_of}
use Rattle.macho_image.specs.Command.{command_of, first_with_cmd}
use Rattle.macho_image.proofs.Kept.{first_place}
use Rattle.macho_verified.specs.Image.{dataoff, datasize}
use Rattle.macho_verified.specs.Accepted.{HasData}
use Rattle.macho_verified.proofs.LinkeditData.{fields_inside, data_inside}
use Rattle.macho_verified.proofs.image.VerifiedImage.linkedit_data.Goals as goal

pub data_at-requires-clause-fields : goal.data_at-requires-clause-fields
data_at-requires-clause-fields c =
    let command = c.in_ok-command.command.place in
    let first = first_place c.self.inside.image _ (command_of c.in_ok-command.command) c.in_ok-command.ensures in
    subst (λ (bytes : List ℕ). command + 16 ≤ length bytes) (sym c.bytes.ensures.bytes)
    (fields_inside c.self.inside.image c.self.invariant c.args.cmd (c.names_linkedit_data.ensures.0 c.if-not-names_linkedit_data.false) command first)

pub data_at-requires-clause-data : goal.data_at-requires-clause-data
data_at-requires-clause-data c =
    let command = c.in_ok-command.command.place in
    let first = first_place c.self.inside.image _ (command_of c.in_ok-command.command) c.in_ok-command.ensures in
    subst (λ (bytes : List ℕ). HasData bytes command) (sym c.bytes.ensures.bytes)
    (data_inside c.self.inside.image c.self.invariant c.args.cmd (c.names_linkedit_data.ensures.0 c.if-not-names_linkedit_data.false) command first)

pub returns-clause-held : goal.returns-clause-held
returns-clause-held c =
    let first = first_place c.self.inside.image _ (command_of c.in_ok-command.command) c.in_ok-command.ensures in
    let some : IsSome (first_with_cmd c.self.inside.image c.args.cmd (commands_of c.self.inside.image)) = subst IsSome (sym first) refl in
    (λ given. (c.names_linkedit_data.ensures.0 c.if-not-names_linkedit_data.false, subst (λ (i : List ℕ). IsSome (first_with_cmd i c.args.cmd (commands_of i))) c.self.view_is some), λ held. refl)

pub returns-clause-bytes : goal.returns-clause-bytes
returns-clause-bytes c =
    let named = c.data_at.result.now in
    let command = c.in_ok-command.command.place in
    let first = first_place c.self.inside.image _ (command_of c.in_ok-command.command) c.in_ok-command.ensures in
    subst (λ (i : List ℕ). IsSomeAnd (first_with_cmd i c.args.cmd (commands_of i)) (λ p. named ≡ part (dataoff i p) (datasize i p) i)) c.self.view_is
    (subst (λ o. IsSomeAnd o (λ p. named ≡ part (dataoff c.self.inside.image p) (datasize c.self.inside.image p) c.self.inside.image)) (sym first)
    (subst (λ (bytes : List ℕ). named ≡ part (dataoff bytes command) (datasize bytes command) bytes) c.bytes.ensures.bytes c.data_at.ensures.bytes))

pub returns-clause-whole : goal.returns-clause-whole
returns-clause-whole c =
    let named = c.data_at.result.now in
    let command = c.in_ok-command.command.place in
    let first = first_place c.self.inside.image _ (command_of c.in_ok-command.command) c.in_ok-command.ensures in
    subst (λ (i : List ℕ). IsSomeAnd (first_with_cmd i c.args.cmd (commands_of i)) (λ p. length named ≡ datasize i p)) c.self.view_is
    (subst (λ o. IsSomeAnd o (λ p. length named ≡ datasize c.self.inside.image p)) (sym first)
    (subst (λ (bytes : List ℕ). length named ≡ datasize bytes command) c.bytes.ensures.bytes c.data_at.ensures.whole))
