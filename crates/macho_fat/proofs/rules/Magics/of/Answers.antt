use Rattle.std.proofs.Common.{◌≡◌, ◌+◌, ◌↔◌, Some, true, IsTrue, subst, arith}
use Rattle.std.proofs.lemmas.Bool.{both_ways}
use Rattle.macho_fields.specs.Universal.{IsImage, IsUnreadImage, entry_count}
use Rattle.macho_fat.proofs.Magics.{same_magics, no_magics, read_passed, unread_passed, foreign_passed, all_magics}
use Rattle.macho_fat.proofs.rules.Magics.of.Goals as goal
use Rattle.macho_fat.proofs.rules.Magics.of.Goals.{then-is_image, else-is_image+then-not-is_unread_image, else-is_image+else-not-is_unread_image}

pub loop-k-init : goal.loop-k-init
loop-k-init c = no_magics c.args.table.now

pub loop-k-preserved : goal.loop-k-preserved
loop-k-preserved c =
    let file = c.args.table.now in
    let foreign = c.loop-k.foreign in
    let has_image = c.loop-k.has_image in
    let image = subst (λ bytes. IsTrue c.is_image.result ↔ IsImage bytes) c.slice_bytes-bytes.ensures c.is_image.ensures in
    elim c.if-is_image.branch [
      | then-is_image w ↦ same_magics file (c.loop-k.k + 1) foreign c.if-is_image.foreign true c.if-is_image.has_image w.foreign-is w.has_image-is
          (read_passed file c.loop-k.k foreign has_image c.loop-k.invariant (image.0 w.if-is_image.true))
      | else-is_image+then-not-is_unread_image w ↦ (
          let unread = subst (λ bytes. IsTrue w.is_unread_image.result ↔ IsUnreadImage bytes) c.slice_bytes-bytes.ensures w.is_unread_image.ensures in
          same_magics file (c.loop-k.k + 1) (Some w.min.result) c.if-is_image.foreign has_image c.if-is_image.has_image w.foreign-is w.has_image-is
          (foreign_passed file c.loop-k.k foreign has_image c.loop-k.invariant w.entry-start.result.span.start w.min.result w.entry-start.ensures.start
          (omega (arith, w.min.ensures, w.unwrap_or.ensures)) (λ read. both_ways c.is_image.result w.if-is_image.false (image.1 read))
          (λ other. both_ways w.is_unread_image.result w.if-not-is_unread_image.true (unread.1 other))))
      | else-is_image+else-not-is_unread_image w ↦ (
          let unread = subst (λ bytes. IsTrue w.is_unread_image.result ↔ IsUnreadImage bytes) c.slice_bytes-bytes.ensures w.is_unread_image.ensures in
          same_magics file (c.loop-k.k + 1) foreign c.if-is_image.foreign has_image c.if-is_image.has_image w.foreign-is w.has_image-is
          (unread_passed file c.loop-k.k foreign has_image c.loop-k.invariant (λ read. both_ways c.is_image.result w.if-is_image.false (image.1 read))
          (unread.0 w.if-not-is_unread_image.false)))
    ]

pub invariant_of-result : goal.invariant_of-result
invariant_of-result c =
    let all : c.loop-k.k ≡ entry_count c.args.table.now = omega (arith, c.count-k-end.ensures.count) in
    all_magics c.args.table.now c.loop-k.k c.loop-k.foreign c.loop-k.has_image c.count-k-end.ensures.table.universal all c.loop-k.invariant
