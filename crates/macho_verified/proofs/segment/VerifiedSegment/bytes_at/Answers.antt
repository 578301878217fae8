use Rattle.std.proofs.Common.{◌≡◌, ◌∙◌, ◌+◌, ◌-◌, ◌≤◌, length, ap, subst, rules}
use Rattle.macho_fields.specs.Bytes.{bytes_of}
use Rattle.macho_fields.specs.Field.{part}
use Rattle.macho_fields.specs.Segment.{vmaddr, vmsize, fileoff, filesize}
use Rattle.macho_image.specs.Segment.{SegmentView}
use Rattle.macho_image.proofs.ReadParts.{length-part}
use Rattle.macho_verified.proofs.Accepted.{some_given, part_part, fits_in}
use Rattle.macho_verified.proofs.segment.VerifiedSegment.bytes_at.Goals as goal

pub returns-clause-held : goal.returns-clause-held
returns-clause-held c =
    let v = c.args.self.now in
    let size : c.vmsize.result ≡ vmsize v.image v.place = subst (λ (v : SegmentView). c.vmsize.result ≡ vmsize v.image v.place) c.self.view_is c.vmsize.ensures in
    let low : c.vmaddr.result ≡ vmaddr v.image v.place = subst (λ (v : SegmentView). c.vmaddr.result ≡ vmaddr v.image v.place) c.self.view_is c.vmaddr.ensures in
    let (below, start) = c.in_ok-start.ensures in
    let fits = fits_in c.vmsize.result (vmsize v.image v.place) c.vmaddr.result (vmaddr v.image v.place) (length (bytes_of c.new.result)) (filesize v.image v.place) c.in_ok-start.start c.args.address
    c.args.len size c.if-vmsize-eq0.false low below start (ap length c.new.ensures ∙ c.bytes.ensures.whole) in
    (λ some. fits.0 (c.part.ensures.inside.0 some), λ held. c.part.ensures.inside.1 (fits.1 held))

pub returns-clause-bytes : goal.returns-clause-bytes
returns-clause-bytes c =
    let v = c.args.self.now in
    let low : c.vmaddr.result ≡ vmaddr v.image v.place = subst (λ (v : SegmentView). c.vmaddr.result ≡ vmaddr v.image v.place) c.self.view_is c.vmaddr.ensures in
    let (below, start) = c.in_ok-start.ensures in
    let whole : bytes_of c.new.result ≡ part (fileoff v.image v.place) (filesize v.image v.place) v.image = c.new.ensures ∙ c.bytes.ensures.bytes in
    let long : length (bytes_of c.new.result) ≡ filesize v.image v.place = ap length c.new.ensures ∙ c.bytes.ensures.whole in
    some_given (λ bytes. bytes.now ≡ part c.in_ok-start.start c.args.len (bytes_of c.new.result))
    (λ bytes. bytes.now ≡ part (fileoff v.image v.place + (c.args.address - vmaddr v.image v.place)) c.args.len v.image)
    (c.in_ok-start.start + c.args.len ≤ length (bytes_of c.new.result)) c.part.result c.part.ensures.inside.0
    (λ fits bytes found. found
    ∙ (ap (part c.in_ok-start.start c.args.len) whole
    ∙ (part_part (fileoff v.image v.place) (filesize v.image v.place) c.in_ok-start.start c.args.len v.image (subst (λ n. c.in_ok-start.start + c.args.len ≤ n) long fits)
    ∙ ap (λ past. part (fileoff v.image v.place + past) c.args.len v.image) (start ∙ ap (λ low. c.args.address - low) low)))) c.part.ensures.bytes

pub returns-clause-whole : goal.returns-clause-whole
returns-clause-whole c =
    some_given (λ bytes. bytes.now ≡ part c.in_ok-start.start c.args.len (bytes_of c.new.result)) (λ bytes. length bytes.now ≡ c.args.len)
    (c.in_ok-start.start + c.args.len ≤ length (bytes_of c.new.result)) c.part.result c.part.ensures.inside.0
    (λ fits bytes found. ap length found ∙ length-part c.in_ok-start.start c.args.len (bytes_of c.new.result) fits) c.part.ensures.bytes

pub returns-then-vmsize-eq0-clause-held : goal.returns-then-vmsize-eq0-clause-held
returns-then-vmsize-eq0-clause-held c = search rules

pub returns-then-vmsize-eq0-clause-bytes : goal.returns-then-vmsize-eq0-clause-bytes
returns-then-vmsize-eq0-clause-bytes c = search rules

pub returns-then-vmsize-eq0-clause-whole : goal.returns-then-vmsize-eq0-clause-whole
returns-then-vmsize-eq0-clause-whole c = search rules
