use Rattle.std.proofs.Common.{◌≡◌, ◌+◌, ◌<◌, ◌≤◌, Some, sym, ap, ◌∙◌, subst, arith, inr}
use Rattle.std.proofs.lemmas.Bool.{false≢true}
use Rattle.macho_fields.specs.Bytes.{bytes_of}
use Rattle.macho_fields.specs.FirstPlace.{IsLeastPlace}
use Rattle.macho_identity.specs.SignatureSlot.{IsUnnamed, IsBadSlot, BadSlot}
use Rattle.macho_identity.specs.Slots.{magic_at, slot_number, IsMisfit}
use Rattle.macho_identity.proofs.Noted.{AreNoted, none_more, one_more}
use Rattle.macho_identity.proofs.SeenSlots.{number_at, IsPastUnnamed, past_named, past_unnamed, low_is_bad, high_is_good, misfit_there, misfit_read, taken_is_bad, free_is_good}
use Rattle.macho_seals.proofs.Blobs.{counted}
use Rattle.macho_seals.proofs.Firsts.{first_at}
use Rattle.macho_seals.proofs.Firsts.{none_more as none_bad_more}
use Rattle.macho_signature.specs.Superblobs.{big_word, blob_at, blob_count, entry_offset}
use Rattle.macho_signature.specs.declared.superblob.Blob.{Blob}
use Rattle.macho_identity.proofs.signature_slot.first_bad_slot.Goals as goal
use Rattle.macho_identity.proofs.signature_slot.first_bad_slot.Goals.{in-Some+else-is_taken-number, in-None+else-from-least}

pub returns-then-is_misfit : goal.returns-then-is_misfit
returns-then-is_misfit c =
    let signature = bytes_of c.args.signature in
    let k = c.loop-index.index in
    let is = c.blob_at-blob.ensures.blob in
    let less = counted signature _ c.superblob_of-superblob.ensures k c.loop-index-test.true in
    let magic = c.word_at.ensures ∙ ap (big_word signature) c.from.ensures in
    let misfit = misfit_there signature k c.blob_at-blob.result is c.word_at.result magic (c.is_misfit.ensures.0 c.if-is_misfit.true) in
    subst (λ n. IsLeastPlace (BadSlot signature) (Some n)) (sym c.entry_offset.ensures)
    (first_at entry_offset (blob_count signature) (IsBadSlot signature) k less (λ j late few. omega (arith, late)) (inr (inr misfit)) c.loop-index.invariant.good)

pub returns-then-is_taken-number : goal.returns-then-is_taken-number
returns-then-is_taken-number c =
    let signature = bytes_of c.args.signature in
    let k = c.loop-index.index in
    let is = c.blob_at-blob.ensures.blob in
    let less = counted signature _ c.superblob_of-superblob.ensures k c.loop-index-test.true in
    let number : number_at signature k ≡ Some c.in-Some.number = sym (c.in-Some.ensures.number ∙ ap (λ (b : Blob). slot_number b.slot) is) in
    let bad = taken_is_bad signature 20 k c.loop-index.is_taken c.loop-index.invariant.taken c.in-Some.number c.in-Some.ensures.fits number c.if-is_taken-number.true in
    subst (λ n. IsLeastPlace (BadSlot signature) (Some n)) (sym c.entry_offset-then-is_taken-number.ensures)
    (first_at entry_offset (blob_count signature) (IsBadSlot signature) k less (λ j late few. omega (arith, late)) bad c.loop-index.invariant.good)

pub returns-then-from-least : goal.returns-then-from-least
returns-then-from-least c =
    let signature = bytes_of c.args.signature in
    let k = c.loop-index.index in
    let is = c.blob_at-blob.ensures.blob in
    let less = counted signature _ c.superblob_of-superblob.ensures k c.loop-index-test.true in
    let none : IsUnnamed signature k = sym (c.in-None.ensures.number ∙ ap (λ (b : Blob). slot_number b.slot) is) in
    let slot = c.from-in-None.ensures ∙ ap (λ (b : Blob). b.slot) is in
    let bad = low_is_bad signature k c.loop-index.least c.loop-index.invariant.past none (subst (λ n. n < c.loop-index.least) slot c.if-from-least.true) in
    subst (λ n. IsLeastPlace (BadSlot signature) (Some n)) (sym c.entry_offset-then-from-least.ensures)
    (first_at entry_offset (blob_count signature) (IsBadSlot signature) k less (λ j late few. omega (arith, late)) bad c.loop-index.invariant.good)

pub loop-index-preserved : goal.loop-index-preserved
loop-index-preserved c =
    let signature = bytes_of c.args.signature in
    let k = c.loop-index.index in
    let taken = c.loop-index.is_taken in
    let least = c.loop-index.least in
    let noted = c.loop-index.invariant.taken in
    let past = c.loop-index.invariant.past in
    let is = c.blob_at-blob.ensures.blob in
    let magic = c.word_at.ensures ∙ ap (big_word signature) c.from.ensures in
    let fit : ¬ IsMisfit (blob_at signature k).slot (magic_at signature k) =
    λ misfit. false≢true (sym c.if-is_misfit.false ∙ c.is_misfit.ensures.1 (misfit_read signature k c.blob_at-blob.result is c.word_at.result magic misfit)) in
    elim c.match-slot_number.branch [
      | in-Some+else-is_taken-number w ↦
          let n = w.in-Some.number in
          let fits = w.in-Some.ensures.fits in
          let number : number_at signature k ≡ Some n = sym (w.in-Some.ensures.number ∙ ap (λ (b : Blob). slot_number b.slot) is) in
          record {
            taken = subst (AreNoted (number_at signature) 20 (k + 1)) (sym w.is_taken-is) (one_more (number_at signature) 20 k taken noted n fits number);
            past = subst (IsPastUnnamed signature (k + 1)) (sym w.least-is) (past_named signature k least past n number);
            good = none_bad_more (IsBadSlot signature) k c.loop-index.invariant.good (free_is_good signature 20 k taken noted n fits number w.if-is_taken-number.false fit);
          }
      | in-None+else-from-least w ↦
          let none : IsUnnamed signature k = sym (w.in-None.ensures.number ∙ ap (λ (b : Blob). slot_number b.slot) is) in
          let slot = w.from-in-None.ensures ∙ ap (λ (b : Blob). b.slot) is in
          let high : least ≤ (blob_at signature k).slot = subst (λ n. least ≤ n) slot w.if-from-least.false in
          record {
            taken = subst (AreNoted (number_at signature) 20 (k + 1)) (sym w.is_taken-is) (none_more (number_at signature) 20 k taken noted none);
            past = subst (IsPastUnnamed signature (k + 1)) (sym (w.least-is ∙ ap (λ n. n + 1) (w.from-least.ensures ∙ ap (λ (b : Blob). b.slot) is))) (past_unnamed signature k least past none high);
            good = none_bad_more (IsBadSlot signature) k c.loop-index.invariant.good (high_is_good signature k least past none high fit);
          }
    ]
