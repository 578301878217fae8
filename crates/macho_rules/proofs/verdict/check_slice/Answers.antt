use Rattle.std.proofs.Common.{◌≡◌, ℕ, ◌+◌, ◌≤◌, List, length, ◌∙◌, ap, subst, arith}
use Rattle.macho_fields.specs.Bytes.{bytes_of}
use Rattle.macho_fields.specs.Universal.{slice_bytes}
use Rattle.macho_fields.specs.Rules.{BreaksImage}
use Rattle.macho_fields.specs.Layers.{IsLeast, NothingBreaks}
use Rattle.macho_fields.proofs.Inside.{first_inside}
use Rattle.macho_fat.specs.Slices.{slice_of}
use Rattle.macho_rules.specs.Verdict.{IsImageRefusal}
use Rattle.macho_rules.specs.declared.refusal.Refusal.TheVariants as refusal
use Rattle.macho_image.proofs.ReadParts.{length-part}
use Rattle.macho_rules.proofs.verdict.check_slice.Goals as goal

pub in_file-requires : goal.in_file-requires
in_file-requires c =
    let file = bytes_of c.args.file in
    let slice = slice_of c.args.slice.now in
    let same : bytes_of c.slice-bytes.result ≡ slice_bytes file slice = c.slice-bytes.ensures in
    let near : c.in-Err-Broken.broken.place ≤ length (bytes_of c.slice-bytes.result) =
    first_inside (bytes_of c.slice-bytes.result) c.args.slice.now.arch c.in-Err-Broken.broken (rw c.in-Err-Broken.field-0-is at c.in-Err-Broken.ensures.refused) in
    let size : length (slice_bytes file slice) ≡ slice.size = length-part slice.start slice.size file c.requires in
    let inside : slice.start + slice.size ≤ length file = c.requires in
    let counted : length (bytes_of c.slice-bytes.result) ≡ slice.size = ap length same ∙ size in
    omega (arith, counted)

pub returns-in-Ok-clause-unbroken : goal.returns-in-Ok-clause-unbroken
returns-in-Ok-clause-unbroken c = subst (λ (bytes : List ℕ). NothingBreaks (BreaksImage bytes c.args.slice.now.arch)) c.slice-bytes.ensures c.in-Ok.ensures.unbroken

pub returns-in-Err-Broken-clause-refused : goal.returns-in-Err-Broken-clause-refused
returns-in-Err-Broken-clause-refused c =
    let found = rw c.in-Err-Broken.field-0-is at c.in-Err-Broken.ensures.refused in
    let least = subst (λ (bytes : List ℕ). IsLeast (BreaksImage bytes c.args.slice.now.arch) c.in-Err-Broken.broken) c.slice-bytes.ensures found in
    (c.in-Err-Broken.broken, least, c.in_file.ensures.rule, c.in_file.ensures.place)

pub returns-in-Err-Memory-clause-refused : goal.returns-in-Err-Memory-clause-refused
returns-in-Err-Memory-clause-refused c =
    subst (λ (bytes : List ℕ). IsImageRefusal bytes c.args.slice.now.arch refusal.Memory) c.slice-bytes.ensures (rw c.in-Err-Memory.field-0-is at c.in-Err-Memory.ensures.refused)
