use Rattle.std.proofs.Common.{sym, subst, arith}
use Rattle.macho_fields.specs.Bytes.{bytes_of}
use Rattle.macho_fields.specs.FirstPlace.{IsLeastPlace}
use Rattle.macho_seals.specs.Signature.{BadHash}
use Rattle.macho_seals.proofs.OtherHashes.{page_first, special_first}
use Rattle.macho_seals.proofs.PlacedDirectories.{each_whole, each_inside}
use Rattle.macho_seals.proofs.hashes.first_other_hash.Goals as goal

pub first_other_page-page-requires : goal.first_other_page-page-requires
first_other_page-page-requires c = record {
  limit = c.args.start;
  inside = omega (arith, c.requires.inside);
  each = each_whole (bytes_of c.args.signature) c.directories_of-directories.result c.directories_of-directories.ensures c.args.start c.requires.whole;
}

pub returns-then-is_some : goal.returns-then-is_some
returns-then-is_some c =
    let signature = bytes_of c.args.signature in
    let directories = c.directories_of-directories.result in
    let are = c.directories_of-directories.ensures in
    page_first (bytes_of c.args.image) c.args.start signature directories are (each_whole signature directories are c.args.start c.requires.whole)
    c.first_other_page-page.result (sym c.if-is_some.ensures) c.first_other_page-page.ensures

pub first_other_special-requires-clause-hashes : goal.first_other_special-requires-clause-hashes
first_other_special-requires-clause-hashes c =
    each_inside c.directories_of-directories.result c.args.start
    (each_whole (bytes_of c.args.signature) c.directories_of-directories.result c.directories_of-directories.ensures c.args.start c.requires.whole)

pub returns : goal.returns
returns c =
    let image = bytes_of c.args.image in
    let start = c.args.start in
    let signature = bytes_of c.args.signature in
    let directories = c.directories_of-directories.result in
    let are = c.directories_of-directories.ensures in
    subst (IsLeastPlace (BadHash image start signature)) (sym c.place_from.ensures)
    (special_first image start signature directories are (each_whole signature directories are start c.requires.whole)
    c.first_other_page-page.result (sym c.if-is_some.ensures) c.first_other_page-page.ensures c.first_other_special.result c.first_other_special.ensures)
