use Rattle.std.proofs.Common.{◌≡◌, drop}
use Rattle.janus_meaning.specs.Shape.{different}
use Rattle.janus_syntax.specs.Tree.{procedures_view}
use Rattle.janus_check.specs.Names.{heads_in}
use Rattle.janus_check.specs.Fault.{first_from}
use Rattle.janus_check.specs.Check.{after_heads, heads_faults}
use Rattle.janus_check.specs.Sight.{heads_over}
use Rattle.janus_check.proofs.procedure.define_all.Given as goal

-- what is found and defined from here on is what is found and defined from the beginning
abbrev pub invariant-loop-i : goal.invariant-loop-i
invariant-loop-i g l =
    let table = g.T.SymbolTable.known in
    record {
      faults : first_from l.next (heads_faults (heads_in (table l.env).procedures) (heads_in l.own.procedures) (procedures_view (drop l.i l.procedures)))
          ≡ first_from l.fn.first (heads_faults (heads_in (table l.env).procedures) (heads_in l.fn.own.procedures) (procedures_view l.procedures));
      heads : after_heads (heads_in l.own.procedures) (procedures_view (drop l.i l.procedures)) ≡ after_heads (heads_in l.fn.own.procedures)
          (procedures_view l.procedures);
      counted : l.count ≡ different (heads_over (table l.env) l.own);
      names : l.own.names ≡ l.fn.own.names;
    }
