use Rattle.std.proofs.Common.{◌≡◌, ◌<◌, List, ℤ, length, ap, ◌∙◌, sym, subst, arith}
use Rattle.std.specs.Global.{Vec}
use Rattle.janus_memory.specs.Lists.{list_of}
use Rattle.janus_memory.proofs.ArrayLists.{items_in, items-long, items-front}
use Rattle.janus_memory.proofs.arrays.Arrays.release.Goals as goal

pub returns-then-array-long : goal.returns-then-array-long
returns-then-array-long c = λ i h n.
    let vs = c.self.inside.lists.items in
    let long = ap length c.self.view_is in
    let all = items-long vs in
    let r = items-front vs c.args.array i (omega (arith, h, n, long, all, c.if-array-long.true, c.self.inside.lists.ok.0)) (omega (arith, h, long, all)) in
    subst (λ (ws : List (Vec ℤ)). (i < length (items_in ws)) × (list_of (items_in ws) i ≡ list_of c.args.self.now i)) (sym c.truncate.ensures.items)
    (r.0, r.1 ∙ ap (λ ls. list_of ls i) c.self.view_is)
