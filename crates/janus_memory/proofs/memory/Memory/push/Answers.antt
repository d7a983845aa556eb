use Rattle.std.proofs.Common.{◌≡◌, ◌+◌, ◌∷◌, length, ap, ◌∙◌, sym, arith, w32, to_z, of_z}
use Rattle.std.proofs.lemmas.Int.{to_z-of_z}
use Rattle.janus_memory.specs.Lists.{list_of}
use Rattle.janus_memory.specs.Memory.{MemoryState, HasStack, content_at, pushed}
use Rattle.janus_memory.specs.Memory.{with_content, with_write}
use Rattle.janus_memory.specs.declared.cell.Held.TheVariants as helds
use Rattle.janus_memory.proofs.Changing as changing
use Rattle.janus_memory.proofs.Reading as reading
use Rattle.janus_memory.proofs.memory.Memory.push.Goals as goal

pub push-requires-clause-known : goal.push-requires-clause-known
push-requires-clause-known g c =
    let a = c.self.inside in
    let p = a.base + c.args.k in
    reading.stack-low a p c.index.result.now (reading.frame-low a c.args.self.now c.self.view_is c.args.k c.requires.there) c.index.ensures c.in-Stack.stack
    c.self.invariant c.in-Stack.is

pub push-requires-clause-named : goal.push-requires-clause-named
push-requires-clause-named g c =
    let a = c.self.inside in
    let p = a.base + c.args.k in
    reading.stack-used a p c.index.result.now (reading.frame-low a c.args.self.now c.self.view_is c.args.k c.requires.there) c.index.ensures c.in-Stack.stack
    c.self.invariant c.in-Stack.is

pub invariant_of-self : goal.invariant_of-self
invariant_of-self g c =
    let a = c.self.inside in
    let p = a.base + c.args.k in
    let j = c.in-Stack.stack in
    let l = reading.frame-low a c.args.self.now c.self.view_is c.args.k c.requires.there in
    let e = reading.held-read a p c.index.result.now l c.index.ensures (helds.Stack j) c.in-Stack.is in
    changing.stack-kept a c.self.invariant p j l e c.push.new.self c.push.ensures.rest c.add.new.self
    (omega (arith, ap length c.push.ensures.top, c.push.ensures.more))

pub returns-in-Stack : goal.returns-in-Stack
returns-in-Stack g c =
    let a = c.self.inside in
    let p = a.base + c.args.k in
    let j = c.in-Stack.stack in
    let l = reading.frame-low a c.args.self.now c.self.view_is c.args.k c.requires.there in
    let e = reading.held-read a p c.index.result.now l c.index.ensures (helds.Stack j) c.in-Stack.is in
    let z : to_z w32 (of_z w32 c.args.number) ≡ c.args.number = to_z-of_z w32 c.args.number c.ranges.number in
    let was : content_at c.args.self.now p ≡ HasStack (list_of a.stacks.lists j) =
    reading.held-seen a c.args.self.now c.self.view_is p c.index.result.now (helds.Stack j) l c.index.ensures c.in-Stack.is in
    changing.stack-seen a c.self.invariant p j l e c.push.new.self c.push.ensures.rest c.add.new.self c.add.ensures
    ∙ ap (λ (m : MemoryState). with_write (with_content m p (HasStack (list_of c.push.new.self.lists j)))) c.self.view_is
    ∙ ap (λ l. with_write (with_content c.args.self.now p (HasStack l))) (c.push.ensures.top ∙ ap (λ n. n ∷ list_of a.stacks.lists j) z)
    ∙ ap (λ x. with_write (with_content c.args.self.now p (pushed x c.args.number))) (sym was)
    ∙ ap (λ p. with_write (with_content c.args.self.now p (pushed (content_at c.args.self.now p) c.args.number)))
    (reading.same-place a c.args.self.now c.self.view_is c.args.k)
