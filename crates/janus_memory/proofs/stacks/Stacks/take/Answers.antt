use Rattle.std.proofs.Common.{ℕ, List, ap, ◌∙◌, sym, subst, arith}
use Rattle.janus_memory.specs.Lists.{list_of}
use Rattle.janus_memory.specs.Stacks.{Pooled, AreEmpty}
use Rattle.janus_memory.proofs.Pooled.{empty_parts}
use Rattle.janus_memory.proofs.stacks.Stacks.take.Goals as goal

pub invariant_of-self : goal.invariant_of-self
invariant_of-self c =
    let p = c.self.inside.pool in
    let h = c.self.invariant in
    record {
      all = h.all;
      cells = h.cells;
      empty = (empty_parts p.lists c.pop.new.self.items c.in-Some.stack (subst (λ (is : List ℕ). AreEmpty p.lists is) c.in-Some.ensures.items h.empty)).0;
      few = omega (arith, h.few, c.in-Some.ensures.len);
      room = omega (arith, h.room, c.in-Some.ensures.capacity);
    }

pub returns-clause-empty : goal.returns-clause-empty
returns-clause-empty c =
    let p = c.self.inside.pool in
    ap (λ (s : Pooled). list_of s.lists c.in-Some.stack) (sym c.self.view_is)
    ∙ (empty_parts p.lists c.pop.new.self.items c.in-Some.stack (subst (λ (is : List ℕ). AreEmpty p.lists is) c.in-Some.ensures.items c.self.invariant.empty)).1
