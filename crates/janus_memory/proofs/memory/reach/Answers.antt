use Rattle.std.proofs.Common.{◌≡◌, ◌-◌, ◌++◌, length, replicate, ap, ◌∙◌, arith}
use Rattle.janus_memory.proofs.Cells.{plain_cell}
use Rattle.janus_memory.proofs.memory.reach.Goals as goal

pub returns-clause-more : goal.returns-clause-more
returns-clause-more c =
    let cs = c.args.cells.now.items in
    let all : c.loop-i._i - length cs ≡ c.args.count - length cs = omega (arith, c.loop-i.invariant.few, c.args.cells.now.ok.0, c.len-i.ensures) in
    c.loop-i.invariant.more ∙ ap (λ n. cs ++ replicate n plain_cell) all
