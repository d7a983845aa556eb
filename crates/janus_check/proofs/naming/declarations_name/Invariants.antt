use Rattle.std.proofs.Common.{◌≡◌, take}
use Rattle.std.specs.List.{list_any}
use Rattle.janus_syntax.specs.Tree.{declarations_view}
use Rattle.janus_check.specs.Naming.{in_declaration}
use Rattle.janus_check.proofs.naming.declarations_name.Given as goal

abbrev pub invariant-loop-declaration : goal.invariant-loop-declaration
invariant-loop-declaration l = l.found ≡ list_any (in_declaration l.name) (declarations_view (take l.declaration-index l.declarations))
