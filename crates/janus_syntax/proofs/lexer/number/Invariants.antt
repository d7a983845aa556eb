use Rattle.std.proofs.Common.{◌≡◌, ◌≤◌, drop}
use Rattle.janus_syntax.specs.Lexical.{decimal, decimal_behind, AllPass, of_number, largest_number}
use Rattle.janus_syntax.proofs.lexer.number.Given as goal

-- the digits so far stand for the value, and those that are left complete the number
abbrev pub invariant-loop-digit : goal.invariant-loop-digit
invariant-loop-digit l = record {
  low : l.value ≤ largest_number;
  same : decimal_behind l.value (drop l.digit-index l.digits) ≡ decimal l.digits;
  left : AllPass of_number (drop l.digit-index l.digits);
}
