use Rattle.std.proofs.Common.{◌≡◌, ◌+◌, ◌++◌, length, take}
use Rattle.macho_text.proofs.line.put_text.Given as goal

-- the bytes before the index were put
abbrev pub invariant-loop-count : goal.invariant-loop-count
invariant-loop-count g l = record {
  all_places : length l.places ≡ 1024;
  text : take (l.start + l.count) l.places ≡ take l.start l.fn.places ++ take l.count l.text;
}
