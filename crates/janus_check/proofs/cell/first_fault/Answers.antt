use Rattle.std.proofs.Common.{◌≡◌, ◌++◌, [], None, ap, ◌∙◌}
use Rattle.janus_syntax.specs.Tree.{declarations_view, block_view, procedures_view}
use Rattle.janus_check.specs.Names.{shape_in, heads_in, over}
use Rattle.janus_check.specs.Fault.{first_from}
use Rattle.janus_check.specs.Check.{declarations_faults, after_declarations, heads_faults, heads_with, after_heads, block_faults, bodies_faults}
use Rattle.janus_check.specs.Sight.{heads_over}
use Rattle.janus_check.proofs.FirstLemmas.{four_parts}
use Rattle.janus_check.proofs.FormedLemmas.{own_is}
use Rattle.janus_check.proofs.cell.first_fault.Goals as goal

pub returns-clause-first : goal.returns-clause-first
returns-clause-first g c =
    let table = g.T.SymbolTable.known in
    let env = (table c.args.env.now) in
    let g = shape_in env.names in
    let hs = heads_in env.procedures in
    let ds = c.args.cell.now.declarations.items in
    let b = c.args.cell.now.statements.items in
    let ps = c.args.cell.now.procedures.items in
    let none : heads_in c.declare_all.new.own.procedures ≡ [] = ap heads_in (c.in_ok-first.ensures.procedures ∙ c.requires.procedures) in
    let own : over g c.define_all.new.own.names ≡ after_declarations g (declarations_view ds) =
    ap (over g) c.define_all.ensures.names
    ∙ c.in_ok-first.ensures.names ∙ ap (λ es. after_declarations (over g es) (declarations_view c.deref.result.now)) c.requires.names
    ∙ ap (λ ds. after_declarations g (declarations_view ds)) c.deref.ensures.value in
    let heads : heads_over env c.define_all.new.own ≡ heads_with hs (procedures_view ps) =
    ap (λ n. n ++ hs)
    (c.in_ok-first-2.ensures.heads ∙ ap (λ n. after_heads n (procedures_view c.deref-2.result.now)) none
    ∙ ap (λ ps. after_heads [] (procedures_view ps)) c.deref-2.ensures.value) in
    four_parts None c.in_ok-first.first c.in_ok-first-2.first c.block_fault-first.result c.bodies_fault.result (declarations_faults g (declarations_view ds))
    (heads_faults hs [] (procedures_view ps))
    (block_faults (heads_with hs (procedures_view ps)) (after_declarations g (declarations_view ds)) (block_view b))
    (bodies_faults (heads_with hs (procedures_view ps)) (procedures_view ps))
    (c.in_ok-first.ensures.fault ∙ ap (λ es. first_from None (declarations_faults (over g es) (declarations_view c.deref.result.now))) c.requires.names
    ∙ ap (λ ds. first_from None (declarations_faults g (declarations_view ds))) c.deref.ensures.value)
    (c.in_ok-first-2.ensures.fault ∙ ap (λ n. first_from c.in_ok-first.first (heads_faults hs n (procedures_view c.deref-2.result.now))) none
    ∙ ap (λ ps. first_from c.in_ok-first.first (heads_faults hs [] (procedures_view ps))) c.deref-2.ensures.value)
    (c.block_fault-first.ensures
    ∙ (λ i. first_from c.in_ok-first-2.first (block_faults (c.declared-sight.ensures.heads i) (c.declared-sight.ensures.names i)
    (block_view c.deref-3.result.now)))
    ∙ ap (λ b. first_from c.in_ok-first-2.first (block_faults (heads_over env c.define_all.new.own) (over g c.define_all.new.own.names) (block_view b)))
    c.deref-3.ensures.value
    ∙ ap (λ n. first_from c.in_ok-first-2.first (block_faults (heads_over env c.define_all.new.own) n (block_view b))) own
    ∙ ap (λ n. first_from c.in_ok-first-2.first (block_faults n (after_declarations g (declarations_view ds)) (block_view b))) heads)
    (c.bodies_fault.ensures
    ∙ ap (λ ps. first_from c.block_fault-first.result (bodies_faults (heads_over env c.define_all.new.own) (procedures_view ps))) c.deref-4.ensures.value
    ∙ ap (λ n. first_from c.block_fault-first.result (bodies_faults n (procedures_view ps))) heads)

pub returns-clause-own : goal.returns-clause-own
returns-clause-own g c =
    let table = g.T.SymbolTable.known in
    λ formed.
    let env = (table c.args.env.now) in
    let g = shape_in env.names in
    let hs = heads_in env.procedures in
    let ds = c.args.cell.now.declarations.items in
    let b = c.args.cell.now.statements.items in
    let ps = c.args.cell.now.procedures.items in
    let none : heads_in c.declare_all.new.own.procedures ≡ [] = ap heads_in (c.in_ok-first.ensures.procedures ∙ c.requires.procedures) in
    let names : over g c.define_all.new.own.names ≡ after_declarations g (declarations_view ds) =
    ap (over g) c.define_all.ensures.names
    ∙ c.in_ok-first.ensures.names ∙ ap (λ es. after_declarations (over g es) (declarations_view c.deref.result.now)) c.requires.names
    ∙ ap (λ ds. after_declarations g (declarations_view ds)) c.deref.ensures.value in
    let heads : heads_over env c.define_all.new.own ≡ heads_with hs (procedures_view ps) =
    ap (λ n. n ++ hs)
    (c.in_ok-first-2.ensures.heads ∙ ap (λ n. after_heads n (procedures_view c.deref-2.result.now)) none
    ∙ ap (λ ps. after_heads [] (procedures_view ps)) c.deref-2.ensures.value) in
    own_is env c.define_all.new.own (declarations_view ds) (block_view b) (procedures_view ps) formed names heads
