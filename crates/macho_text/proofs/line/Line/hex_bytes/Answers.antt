use Rattle.std.proofs.Common.{arith, ap, length}
use Rattle.std.proofs.lemmas.List.{length-append}
use Rattle.macho_text.specs.Number.{byte_digits}
use Rattle.macho_text.proofs.Puts.{put_item, put_items_end}
use Rattle.macho_text.proofs.line.Line.hex_bytes.Goals as goal

pub text-requires : goal.text-requires
text-requires c = (omega arith, omega (arith, ap length c.byte_digits.ensures))

pub loop-byte-preserved : goal.loop-byte-preserved
loop-byte-preserved c = record {
  end = omega (arith, ap length c.byte_digits.ensures, simp length-append at (ap length c.text.ensures));
  text = put_item (byte_digits c.args.upper) _ _ _ _ _ _ c.loop-byte-test.true c.byte_digits.ensures c.loop-byte.invariant.text c.text.ensures;
}

pub returns-clause-text : goal.returns-clause-text
returns-clause-text c = put_items_end (byte_digits c.args.upper) _ _ _ _ c.loop-byte-test.false c.loop-byte.invariant.text
