use Rattle.std.proofs.Common.{◌≡◌, Bor, List, ℕ, map, take}
use Rattle.cells_program.specs.CommandLine.{plain_words as plain_words_of}
use Rattle.cells_program.proofs.words.plain_words.Given as goal

-- the plain ones of the words so far
abbrev pub invariant-loop-i : goal.invariant-loop-i
invariant-loop-i g l = map (λ (it : Bor (List ℕ)). it.now) l.plain.items ≡ plain_words_of (take l.i (map g.S.AsStr.text l.words))
