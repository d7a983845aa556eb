use Rattle.std.proofs.Common.{◌≡◌, ◌+◌, ◌∷◌, length, ap, ◌∙◌, sym, arith, w32, to_z, of_z}
use Rattle.std.proofs.lemmas.Int.{to_z-of_z}
use Rattle.janus_memory.specs.Lists.{list_of}
use Rattle.janus_memory.specs.Memory.{MemoryState, HasStack, content_at, with_content, with_write}
use Rattle.janus_memory.specs.declared.cell.Held.TheVariants as helds
use Rattle.janus_memory.proofs.Changing as changing
use Rattle.janus_memory.proofs.Reading as reading
use Rattle.janus_memory.proofs.memory.Memory.pop.Goals as goal

pub length-requires : goal.length-requires
length-requires g c =
    let a = c.self.inside in
    let p = a.base + c.args.k in
    reading.stack-low a p c.index.result.now (reading.frame-low a c.args.self.now c.self.view_is c.args.k c.requires) c.index.ensures c.in-Stack.stack
    c.self.invariant c.in-Stack.is

pub pop-requires-clause-known : goal.pop-requires-clause-known
pop-requires-clause-known g c =
    let a = c.self.inside in
    let p = a.base + c.args.k in
    reading.stack-low a p c.index.result.now (reading.frame-low a c.args.self.now c.self.view_is c.args.k c.requires) c.index.ensures c.in-Stack.stack
    c.self.invariant c.in-Stack.is

pub pop-requires-clause-named : goal.pop-requires-clause-named
pop-requires-clause-named g c =
    let a = c.self.inside in
    let p = a.base + c.args.k in
    reading.stack-used a p c.index.result.now (reading.frame-low a c.args.self.now c.self.view_is c.args.k c.requires) c.index.ensures c.in-Stack.stack
    c.self.invariant c.in-Stack.is

pub invariant_of-self : goal.invariant_of-self
invariant_of-self g c =
    let a = c.self.inside in
    let p = a.base + c.args.k in
    let l = reading.frame-low a c.args.self.now c.self.view_is c.args.k c.requires in
    let e = reading.held-read a p c.index.result.now l c.index.ensures (helds.Stack c.in-Stack.stack) c.in-Stack.is in
    changing.stack-kept a c.self.invariant p c.in-Stack.stack l e c.pop.new.self c.pop.ensures.rest c.add.new.self
    (omega (arith, ap length c.pop.ensures.top, c.pop.ensures.fewer))

pub returns-else-length-eq0-clause-some : goal.returns-else-length-eq0-clause-some
returns-else-length-eq0-clause-some g c =
    let a = c.self.inside in
    let p = a.base + c.args.k in
    let j = c.in-Stack.stack in
    let l = reading.frame-low a c.args.self.now c.self.view_is c.args.k c.requires in
    let e = reading.held-read a p c.index.result.now l c.index.ensures (helds.Stack j) c.in-Stack.is in
    let r = list_of c.pop.new.self.lists j in
    let same = reading.same-place a c.args.self.now c.self.view_is c.args.k in
    let z : to_z w32 (of_z w32 c.pop.result) ≡ c.pop.result = grind (arith, to_z-of_z) in (
      r,
      ap (content_at c.args.self.now) (sym same)
          ∙ reading.held-seen a c.args.self.now c.self.view_is p c.index.result.now (helds.Stack j) l c.index.ensures c.in-Stack.is
          ∙ ap HasStack (c.pop.ensures.top ∙ ap (λ n. n ∷ r) (sym z)),
      changing.stack-seen a c.self.invariant p j l e c.pop.new.self c.pop.ensures.rest c.add.new.self c.add.ensures
          ∙ ap (λ (m : MemoryState). with_write (with_content m (m.base + c.args.k) (HasStack r))) c.self.view_is,
    )
