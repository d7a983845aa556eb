use Rattle.std.proofs.Common.{ℕ, List, ◌+◌, ◌<◌, sym, subst, ◌∙◌, arith}
use Rattle.cell_tree.specs.Tree.{parent_in, parents_of}
use Rattle.cell_tree.specs.Paths.{IsRoute}
use Rattle.cell_tree.proofs.Trees.{count_of_parents}
use Rattle.cell_tree.proofs.Ways.{Nears, nears_up, nears_down, nears_end}
use Rattle.cell_tree.proofs.walks.find_way.Goals as goal

pub loop-a-preserved-then-a-b : goal.loop-a-preserved-then-a-b
loop-a-preserved-then-a-b g c =
    let parents = parents_of c.args.nodes.now in
    let at = c.loop-a in
    let count = count_of_parents c.args.nodes.now in
    let over : at.b < at.a = omega (arith, c.if-a-b.true) in
    record {
      room = at.invariant.room;
      nears =
          subst (λ (n : ℕ). Nears parents c.args.from c.args.to n at.b (at.up + 1) at.way.items) (sym c.parent_of-a.ensures.parent)
          (nears_up parents c.args.from c.args.to at.a at.b at.up at.way.items c.requires.ordered (omega arith) (omega arith) at.invariant.nears over);
    }

pub loop-a-preserved : goal.loop-a-preserved
loop-a-preserved g c =
    let parents = parents_of c.args.nodes.now in
    let at = c.loop-a in
    let count = count_of_parents c.args.nodes.now in
    let over : at.a < at.b = omega (arith, c.if-a-b.false, c.loop-a-test.true) in
    record {
      room = c.push_reserved.ensures.capacity ∙ at.invariant.room;
      nears =
          subst (λ (n : ℕ). Nears parents c.args.from c.args.to at.a n at.up c.push_reserved.new.self.items) (sym c.parent_of-b.ensures.parent)
          (subst (λ (way : List ℕ). Nears parents c.args.from c.args.to at.a (parent_in parents at.b) at.up way)
          (sym {A = List ℕ} c.push_reserved.ensures.items)
          (nears_down parents c.args.from c.args.to at.a at.b at.up at.way.items c.requires.ordered (omega arith) (omega arith) at.invariant.nears over));
    }

pub returns-clause-way : goal.returns-clause-way
returns-clause-way g c =
    let parents = parents_of c.args.nodes.now in
    let at = c.loop-a in
    let count = count_of_parents c.args.nodes.now in
    let size = c.len.ensures in
    subst (λ (k : ℕ). IsRoute parents c.args.from c.args.to at.up k) (omega arith)
    (nears_end parents c.args.from c.args.to at.a at.b at.up at.way.items c.requires.ordered (omega arith) at.invariant.nears c.loop-a-test.false)
