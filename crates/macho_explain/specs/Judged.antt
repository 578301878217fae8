-- What a rule is judged over.
use Rattle.macho_explain.specs.Compared.{Shown, OfFile, OfImage}

-- each image
abbrev pub IsOfImage : Shown → Type 0
IsOfImage (OfFile S P) = ⊥
IsOfImage (OfImage S P) = Unit {0}
