-- The commands of one kind of an opened image: their structures lie inside it.
use Rattle.std.proofs.Common.{◌≡◌, ℕ, ◌+◌, ◌≤◌, List, [], ◌∷◌, length, map, Contains, Option, None, Some, refl, sym, ap, ◌∙◌, subst, arith}
use Rattle.std.specs.Iterator.{YieldsFirstBy}
use Rattle.std.specs.Prelude.{slice_get, IfSome}
use Rattle.std.specs.Option.{option_map, option_map_or}
use Rattle.std.proofs.lemmas.Option.{same_Some, slice_get-map}
use Rattle.std.proofs.lemmas.List.Elements.{All-contains_itself, All-map}
use Rattle.macho_fields.specs.Image.{command_cmd, command_size, commands_of, with_cmd}
use Rattle.macho_fields.specs.Command.{records_size}
use Rattle.macho_fields.specs.LoadCommands.{structure_of, structure_size}
use Rattle.macho_fields.specs.declared.load_command.Structure.{Structure}
use Rattle.macho_fields.proofs.Opened.{structure_inside, command_inside}
use Rattle.macho_fields.proofs.Parts.{with_cmd_is, with_cmd_among}
use Rattle.macho_image.specs.Opened.{IsOpened}
use Rattle.macho_image.specs.Command.{CommandView, command_of, command_at, first_with_cmd, left_with_cmd}
use Rattle.macho_image.specs.Views.{HaveAll, LieInside}
use Rattle.macho_image.specs.declared.command.Command.{Command}
use Rattle.macho_image.proofs.Opened.{opened_keeps}
use Rattle.macho_image.proofs.OpenedWalk.{opened_commands}
use Rattle.macho_image.proofs.WithOneCmd.{left_with_cmd-map, map-places}

-- the structure of a command of a listed kind lies inside the image
pub structure_held : (image : List ℕ) (command : ℕ) (s : Structure) → structure_of (command_cmd image command) ≡ Some s → IsOpened image → Contains (commands_of image) command
    → command + structure_size s ≤ length image
structure_held image command s listed opened has =
    let keeps = opened_keeps image opened in
    let are = opened_commands image opened in
    let whole : structure_size s + records_size image command s ≤ command_size image command = structure_inside image (commands_of image) keeps are command s has listed in
    let inside : command + command_size image command ≤ length image = command_inside image (commands_of image) keeps are command has in omega arith

pub held : (image : List ℕ) (cmd command : ℕ) (s : Structure) → structure_of cmd ≡ Some s → IsOpened image → Contains (with_cmd image cmd (commands_of image)) command
    → command + structure_size s ≤ length image
held image cmd command s listed opened has =
    let is : command_cmd image command ≡ cmd = with_cmd_is image (commands_of image) cmd command has in
    structure_held image command s (ap structure_of is ∙ listed) opened (with_cmd_among image (commands_of image) cmd command has)

-- the commands that a view begins with are the image's
abbrev pub AreAll : List ℕ → List CommandView → Type 0
AreAll image all = all ≡ map (command_at image) (commands_of image)

pub all_kept : (image : List ℕ) (all : List CommandView) (cmd : ℕ) → AreAll image all → HaveAll cmd image all
all_kept image all cmd is = ap (left_with_cmd cmd) is ∙ left_with_cmd-map image cmd (commands_of image)

pub all_inside : (image : List ℕ) (all : List CommandView) (cmd : ℕ) (s : Structure) → structure_of cmd ≡ Some s → IsOpened image → HaveAll cmd image all
    → LieInside image (structure_size s) (left_with_cmd cmd all)
all_inside image all cmd s listed opened is =
    let places = with_cmd image cmd (commands_of image) in
    subst (LieInside image (structure_size s)) (sym is) (All-map (λ c. c.place + structure_size s ≤ length image) (command_at image) places
    (λ k d less. held image cmd _ s listed opened (All-contains_itself places k d less)))

-- what g reads of each of them
pub all_seen : {B : Type 0} (g : ℕ → B) (image : List ℕ) (all : List CommandView) (cmd : ℕ) → HaveAll cmd image all
    → map (λ c. g c.place) (left_with_cmd cmd all) ≡ map g (with_cmd image cmd (commands_of image))
all_seen g image all cmd is = ap (map (λ c. g c.place)) is ∙ map-places g image (with_cmd image cmd (commands_of image))

pub got_first : (xs : List ℕ) (x : ℕ) → slice_get xs 0 ≡ Some x → Contains xs x
got_first [] x is = absurd (cc)
got_first (y ∷ ys) x is = (0, omega arith, same_Some y x is)

-- the first yielded command that a view begins with is the first of the image
pub first_yielded : (image : List ℕ) (all rest : List CommandView) (cmd : ℕ) (got : Option Command) → AreAll image all → YieldsFirstBy command_of (left_with_cmd cmd) all got rest
    → option_map command_of got ≡ option_map (command_at image) (first_with_cmd image cmd (commands_of image))
first_yielded image all rest cmd None is yields =
    ap (λ (ys : List CommandView). slice_get ys 0) (sym yields.0 ∙ all_kept image all cmd is) ∙ slice_get-map (command_at image) (with_cmd image cmd (commands_of image)) 0
first_yielded image all rest cmd (Some c) is yields =
    ap (λ (ys : List CommandView). slice_get ys 0) (sym yields ∙ all_kept image all cmd is) ∙ slice_get-map (command_at image) (with_cmd image cmd (commands_of image)) 0

-- its place, where there is one
pub first_place : (image : List ℕ) (first : Option ℕ) (c : CommandView) → Some c ≡ option_map (command_at image) first → first ≡ Some c.place
first_place image None c is = absurd (cc)
first_place image (Some p) c is = ap (λ (d : CommandView). Some d.place) (sym (same_Some c (command_at image p) is))

pub no_first : (image : List ℕ) (first : Option ℕ) → None ≡ option_map (command_at image) first → first ≡ None
no_first image None is = refl
no_first image (Some p) is = absurd (cc)

-- the structure of the first of a kind lies inside the image
pub first_inside : (image : List ℕ) (cmd : ℕ) (found : Option ℕ) → IsOpened image → found ≡ first_with_cmd image cmd (commands_of image)
    → IfSome found (λ place. place + option_map_or structure_size (structure_of cmd) 0 ≤ length image)
first_inside image cmd None opened is = tt
first_inside image cmd (Some place) opened is = by (structure_of cmd) refl
  where
    has : Contains (with_cmd image cmd (commands_of image)) place
    has = got_first (with_cmd image cmd (commands_of image)) place (sym is)

    by : (o : Option Structure) → structure_of cmd ≡ o → place + option_map_or structure_size o 0 ≤ length image
    by None none = let inside = command_inside image (commands_of image) (opened_keeps image opened) (opened_commands image opened) place (with_cmd_among image (commands_of image) cmd place has) in omega (arith, inside)
    by (Some s) listed = held image cmd place s listed opened has
