use Rattle.std.proofs.Common.{◌≡◌, ◌+◌, Some, sym, ap, ◌∙◌, subst, arith}
use Rattle.std.proofs.lemmas.Bool.{false≢true}
use Rattle.macho_fields.specs.Bytes.{bytes_of}
use Rattle.macho_fields.specs.FirstPlace.{IsLeastPlace}
use Rattle.macho_identity.specs.DirectoryAgree.{IsDisagreeing, DisagreeingDirectory}
use Rattle.macho_identity.specs.FirstDirectories.{IsUnclearAfter}
use Rattle.macho_identity.specs.Identity.{hash_type}
use Rattle.macho_identity.proofs.AgreeingDirectories.{hash_number, no_number, IsFirstFound, none_found, lacking_agrees, one_found, unclear_disagrees, number_is, taken_disagrees, free_agrees}
use Rattle.macho_identity.proofs.Noted.{AreNoted, none_noted, none_more, one_more}
use Rattle.macho_seals.proofs.Blobs.{counted}
use Rattle.macho_seals.proofs.Firsts.{first_at}
use Rattle.macho_seals.proofs.Firsts.{none_more as none_bad_more}
use Rattle.macho_signature.specs.Signature.{bytes_at}
use Rattle.macho_signature.specs.Superblobs.{blob_count, entry_offset}
use Rattle.macho_identity.proofs.directory_agree.first_disagreeing.Goals as goal
use Rattle.macho_identity.proofs.directory_agree.first_disagreeing.Goals.{in-Some+else-is_taken-hash_type+else-is_unclear_after, in_default}

pub loop-index-init : goal.loop-index-init
loop-index-init c = record {
  first = λ j less has. absurd (omega (arith, less));
  taken = none_noted (hash_number (bytes_of c.args.signature)) 256;
  good = λ j less. absurd (omega (arith, less));
}

pub returns-then-is_taken-hash_type : goal.returns-then-is_taken-hash_type
returns-then-is_taken-hash_type c =
    let signature = bytes_of c.args.signature in
    let k = c.loop-index.index in
    let less = counted signature _ c.superblob_of-superblob.ensures k c.loop-index-test.true in
    let (has, bytes) = c.in-Some.ensures.directory in
    let at : c.read_u8-hash_type.result ≡ hash_type (bytes_at signature k) = c.read_u8-hash_type.ensures ∙ ap hash_type bytes in
    let bad = taken_disagrees signature k has c.in-Some.directory bytes c.loop-index.is_taken c.loop-index.invariant.taken c.read_u8-hash_type.result c.read_u8-hash_type.type_inv at c.if-is_taken-hash_type.true in
    subst (λ n. IsLeastPlace (DisagreeingDirectory signature) (Some n)) (sym c.entry_offset.ensures)
    (first_at entry_offset (blob_count signature) (IsDisagreeing signature) k less (λ j late few. omega (arith, late)) bad c.loop-index.invariant.good)

pub returns-then-is_unclear_after : goal.returns-then-is_unclear_after
returns-then-is_unclear_after c =
    let signature = bytes_of c.args.signature in
    let k = c.loop-index.index in
    let less = counted signature _ c.superblob_of-superblob.ensures k c.loop-index-test.true in
    let (has, bytes) = c.in-Some.ensures.directory in
    let bad = unclear_disagrees signature k has c.in-Some.directory bytes c.loop-index.first c.loop-index.invariant.first (c.is_unclear_after.ensures.0 c.if-is_unclear_after.true) in
    subst (λ n. IsLeastPlace (DisagreeingDirectory signature) (Some n)) (sym c.entry_offset-then-is_unclear_after.ensures)
    (first_at entry_offset (blob_count signature) (IsDisagreeing signature) k less (λ j late few. omega (arith, late)) bad c.loop-index.invariant.good)

pub loop-index-preserved : goal.loop-index-preserved
loop-index-preserved c =
    let signature = bytes_of c.args.signature in
    let k = c.loop-index.index in
    let first = c.loop-index.first in
    let taken = c.loop-index.is_taken in
    let is_first = c.loop-index.invariant.first in
    let noted = c.loop-index.invariant.taken in
    elim c.match-directory_at.branch [
      | in-Some+else-is_taken-hash_type+else-is_unclear_after w ↦
          let (has, bytes) = w.in-Some.ensures.directory in
          let n = w.read_u8-hash_type.result in
          let fits = w.read_u8-hash_type.type_inv in
          let at : n ≡ hash_type (bytes_at signature k) = w.read_u8-hash_type.ensures ∙ ap hash_type bytes in
          let clear : ¬ IsUnclearAfter first (bytes_of w.in-Some.directory) = λ unclear. false≢true (sym w.if-is_unclear_after.false ∙ w.is_unclear_after.ensures.1 unclear) in
          record {
            first = subst (IsFirstFound signature (k + 1)) (sym w.first-is) (one_found signature k has w.in-Some.directory bytes w.in-Some.ensures.fields first w.first_of-first.result is_first w.first_of-first.ensures);
            taken = subst (AreNoted (hash_number signature) 256 (k + 1)) (sym w.is_taken-is)
                (one_more (hash_number signature) 256 k taken noted n fits (number_is signature k has w.in-Some.directory bytes taken noted n fits at));
            good = none_bad_more (IsDisagreeing signature) k c.loop-index.invariant.good (free_agrees signature k has w.in-Some.directory bytes taken noted n fits at w.if-is_taken-hash_type.false first is_first clear);
          }
      | in_default w ↦
          let lacks = w.in_default.ensures.directory in
          record {
            first = subst (IsFirstFound signature (k + 1)) (sym w.first-is) (none_found signature k first is_first lacks);
            taken = subst (AreNoted (hash_number signature) 256 (k + 1)) (sym w.is_taken-is) (none_more (hash_number signature) 256 k taken noted (no_number signature k lacks));
            good = none_bad_more (IsDisagreeing signature) k c.loop-index.invariant.good (lacking_agrees signature k lacks);
          }
    ]
