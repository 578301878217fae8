use Rattle.std.proofs.Common.{◌≡◌, ◌∙◌, ◌+◌, ◌≤◌, ◌⊎◌, [], ap, arith, inl, inr, length, refl, subst}
use Rattle.std.specs.Option.{option_map_or}
use Rattle.macho_fields.specs.Bytes.{bytes_of}
use Rattle.macho_fields.specs.Image.{command_cmd}
use Rattle.macho_fields.specs.LoadCommands.{structure_of, table_fields}
use Rattle.macho_fields.specs.declared.header.loader.TheConstants as loader
use Rattle.macho_explain.specs.Explain.{word_at, IsSegment}
use Rattle.macho_explain.specs.Readers.{IsEncryptedShown}
use Rattle.macho_explain.specs.declared.conflict.Conflict.{Conflict}
use Rattle.macho_explain.proofs.Found.{found_as}
use Rattle.macho_explain.proofs.command.encryption.Goals as goal

pub returns-in-Some : goal.returns-in-Some
returns-in-Some c =
    let found = c.in-Some.ensures in
    let image = bytes_of c.args.sliced.now.held.bytes in
    let is : IsSegment image c.args.sliced.now.place = subst (IsSegment image) found.meets (found.first.index, found.first.listed) in
    inl (is, c.protected.ensures.value, c.protected.ensures.limit)

pub returns-in-None : goal.returns-in-None
returns-in-None c =
    let image = bytes_of c.args.sliced.now.held.bytes in
    let place = c.args.sliced.now.place in
    let walked = c.args.walked.now in
    let is = c.requires in
    let other : ¬ IsSegment image place = λ (k, at). c.in-None.ensures k place at refl in
    found_as (length (option_map_or table_fields (structure_of walked.load.cmd) []) ≤ 0) (¬ (IsSegment image place ⊎ (command_cmd image place ≡ loader.LC_ENCRYPTION_INFO_64)))
    (λ (s : Conflict). (s.value ≡ word_at image (place + 16)) × (s.limit ≡ 0)) (IsEncryptedShown image place) c.encrypted.result
    (λ none has. elim has [
      | inl segment ↦ other segment
      | inr info ↦ (let cmd : walked.load.cmd ≡ loader.LC_ENCRYPTION_INFO_64 = is.load.cmd ∙ (ap (command_cmd image) is.meets ∙ info) in
          let few : length (option_map_or table_fields (structure_of loader.LC_ENCRYPTION_INFO_64) []) ≤ 0 = subst (λ n. length (option_map_or table_fields (structure_of n) []) ≤ 0) cmd none in
          let wrong : 1 ≤ 0 = few in
          omega (arith, wrong))
    ])
    (λ s shown. inr (other, shown.0, shown.1)) c.encrypted.ensures
