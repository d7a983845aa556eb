use Rattle.std.proofs.Common.{◌≡◌, take}
use Rattle.janus_syntax.specs.Tree.{declarations_view}
use Rattle.janus_code.proofs.copies.same_declarations.Given as goal

abbrev pub invariant-loop-declaration : goal.invariant-loop-declaration
invariant-loop-declaration l = declarations_view l.copies.items ≡ declarations_view (take l.declaration-index l.declarations)
