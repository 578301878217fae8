use Rattle.std.proofs.Common.{◌↔◌, IsTrue, Some, ◌∙◌, subst, arith}
use Rattle.macho_fields.specs.Universal.{IsImage}
use Rattle.macho_fat.proofs.Listed.{none_listed, listed_more, all_listed}
use Rattle.macho_fat.proofs.slice.listed.Goals as goal

pub loop-k-init : goal.loop-k-init
loop-k-init c = record {
  first = none_listed c.args.table.now c.in_ok-slices.slices.items c.in_ok-slices.ensures.items;
  len = c.in_ok-slices.ensures.len;
  capacity = omega (arith, c.in_ok-slices.ensures.exact, c.count.ensures.count);
}

pub push_reserved-requires : goal.push_reserved-requires
push_reserved-requires c = omega (arith, c.count-k-end.ensures.count, c.loop-k.invariant.len, c.loop-k.invariant.capacity)

pub loop-k-preserved : goal.loop-k-preserved
loop-k-preserved c = record {
  first = listed_more c.args.table.now c.loop-k.k c.loop-k.slices.items c.push_reserved.new.self.items
      (record { span = c.entry-entry.result.span; arch = Some c.entry-entry.result.arch; read = c.is_image.result })
      c.loop-k.invariant.first c.entry-entry.ensures.start c.entry-entry.ensures.size c.entry-entry.ensures.arch
      (subst (λ bytes. IsTrue c.is_image.result ↔ IsImage bytes) c.slice_bytes.ensures c.is_image.ensures) c.push_reserved.ensures.items;
  len = omega (arith, c.loop-k.invariant.len, c.push_reserved.ensures.len);
  capacity = c.push_reserved.ensures.capacity ∙ c.loop-k.invariant.capacity;
}

pub returns-clause-slices : goal.returns-clause-slices
returns-clause-slices c = all_listed c.args.table.now c.loop-k.k c.loop-k.slices.items c.count-k-end.ensures.table.universal (omega (arith, c.count-k-end.ensures.count)) c.loop-k.invariant.first
