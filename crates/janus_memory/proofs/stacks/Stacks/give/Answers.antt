use Rattle.std.proofs.Common.{ℕ, List, length, ap, ◌∙◌, sym, subst, arith}
use Rattle.janus_memory.specs.Lists.{list_of}
use Rattle.janus_memory.specs.Stacks.{Pooled, AreEmpty}
use Rattle.janus_memory.proofs.Pooled.{empty_more}
use Rattle.janus_memory.proofs.stacks.Stacks.give.Goals as goal

pub invariant_of-self : goal.invariant_of-self
invariant_of-self c =
    let p = c.self.inside.pool in
    let h = c.self.invariant in
    let less = ap (λ (s : Pooled). length s.spare) c.self.view_is in
    record {
      all = h.all;
      cells = h.cells;
      empty = subst (λ (is : List ℕ). AreEmpty p.lists is) (sym c.push_reserved.ensures.items)
          (empty_more p.lists c.self.inside.spare.items c.args.stack h.empty
          (ap (λ (s : Pooled). list_of s.lists c.args.stack) c.self.view_is ∙ c.requires.empty));
      few = omega (arith, c.requires.room, less, c.self.inside.spare.ok.0, c.push_reserved.ensures.len);
      room = omega (arith, h.room, c.push_reserved.ensures.capacity);
    }
