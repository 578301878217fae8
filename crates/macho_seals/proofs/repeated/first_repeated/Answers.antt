use Rattle.std.proofs.Common.{◌≡◌, ◌+◌, Some, get_or, true, false, sym, ap, ◌∙◌, subst, arith}
use Rattle.std.proofs.Math.ListN.{set}
use Rattle.macho_fields.specs.Bytes.{bytes_of}
use Rattle.macho_fields.specs.FirstPlace.{IsLeastPlace}
use Rattle.macho_seals.specs.Signature.{IsRepeated, RepeatedDirectory}
use Rattle.macho_seals.specs.Slots.{slot_number, AreTaken}
use Rattle.macho_seals.proofs.Blobs.{counted}
use Rattle.macho_seals.proofs.Firsts.{first_at, none_more}
use Rattle.macho_seals.proofs.TakenSlots.{none_taken, other_kept, one_taken, taken_repeats, free_not_repeats, other_not_repeats}
use Rattle.macho_signature.specs.Superblobs.{blob_at, blob_count, entry_offset, is_directory_slot}
use Rattle.macho_signature.specs.declared.superblob.Blob.{Blob}
use Rattle.macho_seals.proofs.repeated.first_repeated.Goals as goal
use Rattle.macho_seals.proofs.repeated.first_repeated.Goals.{then-is_directory+else-is_taken-number, else-is_directory}

pub loop-index-init : goal.loop-index-init
loop-index-init c = record { taken = none_taken (bytes_of c.args.signature); none = λ j less. absurd (omega (arith, less)) }

pub returns-then-is_taken-number : goal.returns-then-is_taken-number
returns-then-is_taken-number c =
    let signature = bytes_of c.args.signature in
    let k = c.loop-index.index in
    let is = c.blob_at-blob.ensures.blob in
    let less = counted signature _ c.superblob_of-superblob.ensures k c.loop-index-test.true in
    let directory : is_directory_slot (blob_at signature k).slot ≡ true = ap (λ (b : Blob). is_directory_slot b.slot) (sym is) ∙ (sym c.is_directory.ensures ∙ c.if-is_directory.true) in
    let number : c.slot_number-number.result ≡ slot_number (blob_at signature k).slot = c.slot_number-number.ensures.number ∙ ap (λ (b : Blob). slot_number b.slot) is in
    let has = subst (λ n. get_or c.loop-index.is_taken n false ≡ true) number c.if-is_taken-number.true in
    let repeats = taken_repeats signature k c.loop-index.is_taken c.loop-index.invariant.taken directory has in
    subst (λ n. IsLeastPlace (RepeatedDirectory signature) (Some n)) (sym c.entry_offset.ensures)
    (first_at entry_offset (blob_count signature) (IsRepeated signature) k less (λ j late few. omega (arith, late)) repeats c.loop-index.invariant.none)

pub loop-index-preserved : goal.loop-index-preserved
loop-index-preserved c =
    let signature = bytes_of c.args.signature in
    let k = c.loop-index.index in
    let taken = c.loop-index.is_taken in
    let are = c.loop-index.invariant.taken in
    let is = c.blob_at-blob.ensures.blob in
    let answer = ap (λ (b : Blob). is_directory_slot b.slot) (sym is) ∙ sym c.is_directory.ensures in
    elim c.if-is_directory.branch [
      | then-is_directory+else-is_taken-number w ↦
          let directory : is_directory_slot (blob_at signature k).slot ≡ true = answer ∙ w.if-is_directory.true in
          let number : w.slot_number-number.result ≡ slot_number (blob_at signature k).slot = w.slot_number-number.ensures.number ∙ ap (λ (b : Blob). slot_number b.slot) is in
          let free = subst (λ n. get_or taken n false ≡ false) number w.if-is_taken-number.false in
          record {
            taken = subst (AreTaken signature (k + 1)) (sym (w.is_taken-is ∙ ap (λ n. set taken n true) number)) (one_taken signature k taken are directory);
            none = none_more (IsRepeated signature) k c.loop-index.invariant.none (free_not_repeats signature k taken are directory free);
          }
      | else-is_directory w ↦
          let other : is_directory_slot (blob_at signature k).slot ≡ false = answer ∙ w.if-is_directory.false in
          record {
            taken = subst (AreTaken signature (k + 1)) (sym w.is_taken-is) (other_kept signature k taken are other);
            none = none_more (IsRepeated signature) k c.loop-index.invariant.none (other_not_repeats signature k other);
          }
    ]
