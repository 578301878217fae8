use Rattle.std.proofs.Common.{◌≡◌, ◌+◌, IsSome, IfSome, ◌↔◌, length, subst}
use Rattle.macho_fields.specs.Field.{HasZero, string_from}
use Rattle.macho_rows.proofs.Ended.{first_read}
use Rattle.macho_rows.proofs.parts.first_string.Goals as goal

pub returns : goal.returns
returns c =
    first_read c.args.bytes.now c.string_in.result
    (subst (λ bytes. IsSome c.string_in.result ↔ HasZero bytes 0 (0 + length c.args.bytes.now)) c.new.ensures c.string_in.ensures.ended)
    (subst (λ bytes. IfSome c.string_in.result (λ string. string.now ≡ string_from 0 bytes)) c.new.ensures c.string_in.ensures.string)
