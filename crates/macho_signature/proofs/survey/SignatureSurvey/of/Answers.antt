use Rattle.std.proofs.Common.{◌≡◌, List, ℕ, sym, ap, ◌∙◌, subst}
use Rattle.macho_fields.specs.Bytes.{bytes_of}
use Rattle.macho_fields.specs.Field.{part}
use Rattle.macho_fields.specs.FirstPlace.{IsLeastPlace}
use Rattle.macho_signature.specs.Signature.{BadDirectory, PartialDirectory, BreaksSignatureBlob, BreaksSignatureDirectory, BreaksSignatureWhole}
use Rattle.macho_signature.specs.Superblobs.{BadBlob}
use Rattle.macho_signature.specs.Surveys.{AreLeastInSignature}
use Rattle.macho_signature.proofs.Images.{blob_near, directory_near, whole_near, none_in_signature, least_in_signature, fits_in_signature}
use Rattle.macho_signature.proofs.survey.SignatureSurvey.of.Goals as goal

pub returns-in_default : goal.returns-in_default
returns-in_default c =
    let image = c.args.image.now in
    let none = c.in_default.ensures.table in
    record {
      blob = none_in_signature image (λ start. BadBlob) none;
      directory = none_in_signature image BadDirectory none;
      whole = none_in_signature image PartialDirectory none;
    }

pub place_from-requires : goal.place_from-requires
place_from-requires c =
    let image = c.args.image.now in
    let table = c.in-Some.table in
    let bytes : bytes_of c.slice.result ≡ part table.start table.len image = c.slice.ensures ∙ ap (part table.start table.len) c.bytes.ensures.bytes in
    let found : AreLeastInSignature table.start (part table.start table.len image) c.survey-found.result = subst (λ (these : List ℕ). AreLeastInSignature table.start these c.survey-found.result) bytes c.survey-found.ensures in
    fits_in_signature image (λ start. BadBlob) table c.in-Some.ensures.table c.survey-found.result.blob found.blob (blob_near (part table.start table.len image)) c.in-Some.ensures.inside c.bytes.ensures.fits

pub place_from-requires-2 : goal.place_from-requires-2
place_from-requires-2 c =
    let image = c.args.image.now in
    let table = c.in-Some.table in
    let bytes : bytes_of c.slice.result ≡ part table.start table.len image = c.slice.ensures ∙ ap (part table.start table.len) c.bytes.ensures.bytes in
    let found : AreLeastInSignature table.start (part table.start table.len image) c.survey-found.result = subst (λ (these : List ℕ). AreLeastInSignature table.start these c.survey-found.result) bytes c.survey-found.ensures in
    fits_in_signature image BadDirectory table c.in-Some.ensures.table c.survey-found.result.directory found.directory (directory_near table.start (part table.start table.len image)) c.in-Some.ensures.inside c.bytes.ensures.fits

pub place_from-requires-3 : goal.place_from-requires-3
place_from-requires-3 c =
    let image = c.args.image.now in
    let table = c.in-Some.table in
    let bytes : bytes_of c.slice.result ≡ part table.start table.len image = c.slice.ensures ∙ ap (part table.start table.len) c.bytes.ensures.bytes in
    let found : AreLeastInSignature table.start (part table.start table.len image) c.survey-found.result = subst (λ (these : List ℕ). AreLeastInSignature table.start these c.survey-found.result) bytes c.survey-found.ensures in
    fits_in_signature image PartialDirectory table c.in-Some.ensures.table c.survey-found.result.whole found.whole (whole_near table.start (part table.start table.len image)) c.in-Some.ensures.inside c.bytes.ensures.fits

pub returns : goal.returns
returns c =
    let image = c.args.image.now in
    let table = c.in-Some.table in
    let bytes : bytes_of c.slice.result ≡ part table.start table.len image = c.slice.ensures ∙ ap (part table.start table.len) c.bytes.ensures.bytes in
    let found : AreLeastInSignature table.start (part table.start table.len image) c.survey-found.result = subst (λ (these : List ℕ). AreLeastInSignature table.start these c.survey-found.result) bytes c.survey-found.ensures in
    let is = c.in-Some.ensures.table in
    record {
      blob = subst (IsLeastPlace (BreaksSignatureBlob image)) (sym c.place_from.ensures) (least_in_signature image (λ start. BadBlob) table is c.survey-found.result.blob found.blob);
      directory = subst (IsLeastPlace (BreaksSignatureDirectory image)) (sym c.place_from-2.ensures) (least_in_signature image BadDirectory table is c.survey-found.result.directory found.directory);
      whole = subst (IsLeastPlace (BreaksSignatureWhole image)) (sym c.place_from-3.ensures) (least_in_signature image PartialDirectory table is c.survey-found.result.whole found.whole);
    }
