use Rattle.std.proofs.Common.{◌≡◌, ◌<◌, sym, subst, arith}
use Rattle.std.proofs.lemmas.Bool.{both_ways}
use Rattle.macho_fields.specs.Bytes.{bytes_of}
use Rattle.macho_fields.specs.Universal.{IsImage, entry_count, slice_bytes}
use Rattle.macho_fields.specs.Rules.{BreaksFile}
use Rattle.macho_fields.specs.declared.rule.Rule.TheVariants as rule
use Rattle.macho_fields.proofs.Layers.{kept_more, least_at}
use Rattle.macho_fields.proofs.Entries.{none_more}
use Rattle.macho_fields.proofs.Slices.{each_entry}
use Rattle.macho_fields.proofs.Magics.{IsRead, empty_broken}
use Rattle.macho_second.proofs.file.fat_empty.Goals as goal

pub returns-then-is_image : goal.returns-then-is_image
returns-then-is_image c =
    let file = bytes_of c.args.entries.file in
    let less : c.loop-k.k < entry_count file = omega (arith, c.args.entries.number) in
    kept_more (BreaksFile file) rule.FatEmpty c.requires
    (λ place broken. each_entry file (λ slice. ¬ IsImage (slice_bytes file slice)) c.args.entries.universal broken.2 c.loop-k.k less
    (subst IsImage c.bytes.ensures (c.is_image.ensures.0 c.if-is_image.true)))

pub loop-k-preserved : goal.loop-k-preserved
loop-k-preserved c =
    none_more (IsRead (bytes_of c.args.entries.file)) c.loop-k.k c.loop-k.invariant
    (λ h. both_ways c.is_image.result c.if-is_image.false (c.is_image.ensures.1 (subst IsImage (sym c.bytes.ensures) h)))

pub returns : goal.returns
returns c =
    let file = bytes_of c.args.entries.file in
    let broken = empty_broken file c.loop-k.k c.at.result.place c.at.ensures.place (omega (arith, c.args.entries.number)) c.args.entries.universal c.loop-k.invariant in
    least_at (BreaksFile file) rule.FatEmpty c.at.result c.requires (c.at.ensures.rule, broken, λ place other. let same : place ≡ 4 = other.0 in omega (arith, same, c.at.ensures.place))
