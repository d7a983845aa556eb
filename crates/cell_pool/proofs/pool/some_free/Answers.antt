use Rattle.std.proofs.Common.{◌≡◌, [], ◌∷◌, ◌++◌, List, ap, sym, ◌∙◌, subst, arith, length}
use Rattle.cell_pool.specs.Chains.{no_cell, lists_in, IsPool}
use Rattle.cell_pool.specs.declared.chain.Cell.{Cell}
use Rattle.cell_pool.proofs.Linked.{pool_more, same_lists_more}
use Rattle.cell_pool.proofs.pool.some_free.Goals as goal

pub returns-clause-pool : goal.returns-clause-pool
returns-clause-pool c = λ stacks h.
    let cells = c.args.cells.now.items in
    let front : c.len-front.result ≡ length cells = omega (arith, c.len-front.ensures, c.args.cells.now.ok.0) in
    let none : c.args.free.count ≡ 0 = omega (arith, c.if-free-gt0.false) in
    subst (λ (l : List Cell). IsPool l (record { front = c.len-front.result; count = 1 }) stacks) (sym c.push_reserved.ensures.items)
    (subst (λ n. IsPool (cells ++ no_cell ∷ []) (record { front = n; count = 1 }) stacks) (sym front) (pool_more cells no_cell c.args.free stacks h none))

pub returns-clause-lists : goal.returns-clause-lists
returns-clause-lists c = λ stacks h.
    ap (λ (l : List Cell). lists_in l stacks) c.push_reserved.ensures.items ∙ same_lists_more c.args.cells.now.items no_cell c.args.free stacks h
