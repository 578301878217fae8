use Rattle.std.proofs.Common.{◌≡◌, List, ℕ, ◌*◌, ◌/◌, ◌%◌, ◌^◌, length, take, drop, ap, ◌∙◌, arith}
use Rattle.std.proofs.lemmas.Nat.{one_shl}
use Rattle.macho_fields.specs.Bytes.{bytes_of}
use Rattle.macho_seals.proofs.PageGroups.{whole_blocks, length-group, page_in_group}
use Rattle.macho_seals.proofs.side_by_side.digests_from.Goals as goal
use Rattle.sha2.specs.Sha256.{sha256}

pub pages_sha256-requires : goal.pages_sha256-requires
pages_sha256-requires c =
    let size = c.args.directory.page_size in
    let power : 1 * 2 ^ size % 2 ^ 64 ≡ 2 ^ size = one_shl size 64 (omega (arith, c.requires.slots.page)) in
    let inside = rw (power, c.from.ensures) at c.if-pages-directory.false in
    let pages = rw (power, c.from.ensures) at c.read_part.ensures in
    rw (ap length pages ∙ length-group (bytes_of c.args.image) size c.args.directory.limit c.args.index c.requires.inside inside)
    (whole_blocks size c.if-directory-lt-LEAST_PAGE_SIZE.false)

pub returns : goal.returns
returns c k few =
    let size = c.args.directory.page_size in
    let image = bytes_of c.args.image in
    let power : 1 * 2 ^ size % 2 ^ 64 ≡ 2 ^ size = one_shl size 64 (omega (arith, c.requires.slots.page)) in
    let inside = rw (power, c.from.ensures) at c.if-pages-directory.false in
    let pages = rw (power, c.from.ensures) at c.read_part.ensures in
    let count = ap length pages ∙ length-group image size c.args.directory.limit c.args.index c.requires.inside inside in
    let quarter : length c.read_part.result.now / 4 ≡ 2 ^ size = omega (arith, count) in
    c.pages_sha256.ensures k few
    ∙ ap sha256 (ap (λ n. take n (drop (k * n) c.read_part.result.now)) quarter
    ∙ ap (λ (these : List ℕ). take (2 ^ size) (drop (k * 2 ^ size) these)) pages
    ∙ page_in_group image size c.args.directory.limit c.args.index k c.if-directory-lt-LEAST_PAGE_SIZE.false few inside)
