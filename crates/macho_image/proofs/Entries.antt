-- The base of an opened image, and the entry point of its program.
use Rattle.std.proofs.Common.{◌≡◌, ℕ, ◌+◌, ◌<◌, inl, inr, ap₂, List, [], ◌∷◌, map, cond, Bool, true, false, Option, None, Some, refl, sym, ap, ◌∙◌}
use Rattle.std.specs.Prelude.{find}
use Rattle.std.specs.Option.{option_map, option_and_then, SomeIff}
use Rattle.std.proofs.lemmas.Bool.{cases_lt, lt-ltb, le-ltb}
use Rattle.macho_fields.specs.Segment.{vmaddr, segments_of, shows_start, base_of, entryoff}
use Rattle.macho_fields.specs.declared.header.loader.TheConstants as loader
use Rattle.macho_fields.specs.Image.{commands_of}
use Rattle.macho_image.specs.Command.{first_with_cmd}
use Rattle.macho_image.specs.Single.{main_command_at}
use Rattle.macho_image.specs.declared.main_command.MainCommand.{MainCommand}
use Rattle.macho_image.specs.Segment.{SegmentView, segment_at}
use Rattle.macho_image.specs.Entry.{address, entry_of}

-- the base among the segments
abbrev pub base_among : List SegmentView → Option ℕ
base_among segments =
    option_map (λ s. vmaddr s.image s.place) (find (λ s. shows_start s.image s.place) segments)

first_or_rest : (image : List ℕ) (x : ℕ) (b : Bool) (f : Option SegmentView) (g : Option ℕ) → option_map (λ s. vmaddr s.image s.place) f ≡ option_map (vmaddr image) g
    → option_map (λ s. vmaddr s.image s.place) (cond b (Some (segment_at image x)) f) ≡ option_map (vmaddr image) (cond b (Some x) g)
first_or_rest image x true f g same = refl
first_or_rest image x false f g same = same

base_of_map : (image xs : List ℕ) → base_among (map (segment_at image) xs) ≡ option_map (vmaddr image) (find (shows_start image) xs)
base_of_map image [] = refl
base_of_map image (x ∷ xs) =
    first_or_rest image x (shows_start image x) (find (λ s. shows_start s.image s.place) (map (segment_at image) xs)) (find (shows_start image) xs) (base_of_map image xs)

pub base_seen : (image : List ℕ) (all : List SegmentView) (r : Option ℕ) → r ≡ base_among all
    → all ≡ map (segment_at image) (segments_of image (commands_of image)) → r ≡ base_of image (commands_of image)
base_seen image all r is same =
    is ∙ (ap base_among same ∙ base_of_map image (segments_of image (commands_of image)))

-- a segment that shows the start is the base
pub base_here : (s : SegmentView) (rest : List SegmentView) (b : Bool) → b ≡ true → b ≡ shows_start s.image s.place → base_among (s ∷ rest) ≡ Some (vmaddr s.image s.place)
base_here s rest b is same =
    ap (λ t. option_map (λ (u : SegmentView). vmaddr u.image u.place) (cond t (Some s) (find (λ u. shows_start u.image u.place) rest))) (sym same ∙ is)

-- The entry point

sum_is_address : (r : Option ℕ) (n : ℕ) → SomeIff r (n < 18446744073709551616) n → r ≡ address n
sum_is_address None n past = elim (cases_lt n 18446744073709551616) [ inl less ↦ absurd (past less) | inr most ↦ sym (ap (λ b. cond b (Some n) None) (le-ltb n 18446744073709551616 most)) ]
sum_is_address (Some x) n (less, is) =
    ap Some is ∙ sym (ap (λ b. cond b (Some n) None) (lt-ltb n 18446744073709551616 less))

sum_of_both : (image : List ℕ) (base : ℕ) (main : MainCommand) (b m : Option ℕ) → Some base ≡ b → Some main ≡ option_map (main_command_at image) m
    → address (base + main.entryoff) ≡ option_and_then (λ x. option_and_then (λ y. address (x + entryoff image y)) m) b
sum_of_both image base main None m e f = absurd (cc)
sum_of_both image base main (Some x) None e f = absurd (cc)
sum_of_both image base main (Some x) (Some y) e f =
    let base_is : base ≡ x = cc in
    let main_is : main ≡ main_command_at image y = cc in
    ap₂ (λ u v. address (u + v)) base_is (ap (λ (c : MainCommand). c.entryoff) main_is)

pub entry_seen : (image : List ℕ) (base : ℕ) (main : MainCommand) (r : Option ℕ) → Some base ≡ base_of image (commands_of image)
    → Some main ≡ option_map (main_command_at image) (first_with_cmd image loader.LC_MAIN (commands_of image))
    → SomeIff r (base + main.entryoff < 18446744073709551616) (base + main.entryoff) → r ≡ entry_of image (commands_of image)
entry_seen image base main r some main_is sum =
    sum_is_address r (base + main.entryoff) sum ∙ sum_of_both image base main (base_of image (commands_of image)) (first_with_cmd image loader.LC_MAIN (commands_of image)) some main_is
