use Rattle.std.proofs.Common.{◌≡◌, take}
use Rattle.std.specs.List.{list_any}
use Rattle.janus_syntax.specs.Tree.{names_view}
use Rattle.janus_check.specs.Naming.{is_it}
use Rattle.janus_check.proofs.naming.arguments_name.Given as goal

abbrev pub invariant-loop-argument : goal.invariant-loop-argument
invariant-loop-argument l = l.found ≡ list_any (is_it l.name) (names_view (take l.argument-index l.arguments))
