use Rattle.std.proofs.Common.{◌≡◌, List, ℕ, Some, true, sym, ap, ◌∙◌, subst}
use Rattle.std.proofs.lemmas.Bool.{false≢true}
use Rattle.macho_fields.specs.Bytes.{bytes_of}
use Rattle.macho_fields.specs.FirstPlace.{IsLeastPlace}
use Rattle.macho_seals.specs.Directories.{EachDirectory, AnyDirectory, HasSpecial, LacksSpecial, HaveOtherSpecial}
use Rattle.macho_seals.specs.Specials.{is_special_slot}
use Rattle.macho_seals.proofs.Blobs.{counted}
use Rattle.macho_seals.proofs.Firsts.{none_more}
use Rattle.macho_seals.proofs.SharedSpecials.{LackSpecial, none_lacks_special, first_lack_special}
use Rattle.macho_signature.specs.Signature.{bytes_at}
use Rattle.macho_signature.specs.Superblobs.{blob_at, blob_bytes}
use Rattle.macho_signature.specs.declared.superblob.Blob.{Blob}
use Rattle.macho_seals.proofs.specials.first_other_special.Goals as goal
use Rattle.macho_seals.proofs.specials.first_other_special.Goals.{else-is_special_slot-via-then-is_special_slot+else-not-have_special, else-is_special_slot-via-else-is_special_slot}

pub returns-then-not-have_special : goal.returns-then-not-have_special
returns-then-not-have_special c =
    let signature = bytes_of c.args.signature in
    let directories = c.args.directories.now in
    let k = c.loop-index.index in
    let is = c.blob_at-special.ensures.blob in
    let less = counted signature _ c.superblob_of-superblob.ensures k c.loop-index-test.true in
    let special : is_special_slot (blob_at signature k).slot ≡ true = ap (λ (b : Blob). is_special_slot b.slot) (sym is) ∙ (sym c.is_special_slot.ensures ∙ c.if-is_special_slot.true) in
    let message : c.blob_bytes.result.now ≡ bytes_at signature k = c.blob_bytes.ensures ∙ ap (blob_bytes signature) is in
    let lack =
    subst (λ n. AnyDirectory directories (LacksSpecial n (bytes_at signature k))) (ap (λ (b : Blob). b.slot) is)
    (subst (λ (these : List ℕ). AnyDirectory directories (LacksSpecial c.blob_at-special.result.slot these)) message c.if-not-have_special.ensures) in
    subst (λ n. IsLeastPlace (HaveOtherSpecial signature directories) (Some n)) (sym (c.from.ensures ∙ ap (λ (b : Blob). b.offset) is))
    (first_lack_special signature directories c.requires.blobs k less (special, lack) c.loop-index.invariant)

pub loop-index-preserved : goal.loop-index-preserved
loop-index-preserved c =
    let signature = bytes_of c.args.signature in
    let directories = c.args.directories.now in
    let k = c.loop-index.index in
    let is = c.blob_at-special.ensures.blob in
    let answer = ap (λ (b : Blob). is_special_slot b.slot) (sym is) ∙ sym c.is_special_slot.ensures in
    none_more (LackSpecial signature directories) k c.loop-index.invariant (elim c.else-is_special_slot.branch [
      | else-is_special_slot-via-then-is_special_slot+else-not-have_special w ↦
          let message : w.blob_bytes.result.now ≡ bytes_at signature k = w.blob_bytes.ensures ∙ ap (blob_bytes signature) is in
          none_lacks_special signature directories k
          (subst (λ n. EachDirectory directories (HasSpecial n (bytes_at signature k))) (ap (λ (b : Blob). b.slot) is)
          (subst (λ (these : List ℕ). EachDirectory directories (HasSpecial c.blob_at-special.result.slot these)) message w.if-not-have_special.ensures))
      | else-is_special_slot-via-else-is_special_slot w ↦ λ other. false≢true (sym (answer ∙ w.if-is_special_slot.false) ∙ other.0)
    ])
