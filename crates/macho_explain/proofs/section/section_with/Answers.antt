use Rattle.std.proofs.Common.{◌≡◌, ◌+◌, ◌/◌, ◌<◌, ap, arith, refl, subst}
use Rattle.macho_fields.specs.Bytes.{bytes_of}
use Rattle.macho_rows.specs.Sections.{nsects_at}
use Rattle.macho_rows.specs.declared.sections.KesvuotSection.{KesvuotSection}
use Rattle.macho_explain.specs.Explain.{IsSectionAt}
use Rattle.macho_explain.proofs.Walked.{when_some}
use Rattle.macho_explain.proofs.section.section_with.Goals as goal

pub returns-clause-found : goal.returns-clause-found
returns-clause-found c =
    let image = bytes_of c.args.sliced.now.held.bytes in
    let walked = c.args.walked.now in
    let offset = c.in_ok-number.field-0 in
    let nth = offset / 80 in
    let from : offset + (walked.load.place + 72) ≡ c.args.place = grind arith in
    let row = c.row_of.ensures in
    let less : nth < nsects_at image walked.load.place = subst (λ n. nth < n) c.nsects_at.ensures.count c.if-number-nsects_at.false in
    record {
      row = record {
        start = ap (λ (r : KesvuotSection). r.addr) row;
        size = ap (λ (r : KesvuotSection). r.size) row;
        file_start = ap (λ (r : KesvuotSection). r.offset) row;
        relocs = ap (λ (r : KesvuotSection). r.reloff) row;
        reloc_count = ap (λ (r : KesvuotSection). r.nreloc) row;
        flags = ap (λ (r : KesvuotSection). r.flags) row;
        reserved1 = ap (λ (r : KesvuotSection). r.reserved1) row;
        reserved2 = ap (λ (r : KesvuotSection). r.reserved2) row;
      };
      at = when_some (λ k. IsSectionAt image k c.args.place) (walked.sections + nth) c.section_index.result c.section_index.ensures
          (walked.index, walked.load.place, nth, c.requires.listed, less, ap (λ n. n + nth) c.requires.sections, omega (arith, from), omega (arith, from));
      from = omega (arith, from);
      to = omega (arith, from);
      start = (nth, less, refl);
    }
