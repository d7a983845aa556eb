use Rattle.std.proofs.Common.{◌≡◌, take}
use Rattle.janus_syntax.specs.Tree.{names_view}
use Rattle.janus_code.proofs.copies.same_names.Given as goal

abbrev pub invariant-loop-name : goal.invariant-loop-name
invariant-loop-name l = names_view l.copies.items ≡ names_view (take l.name-index l.names)
