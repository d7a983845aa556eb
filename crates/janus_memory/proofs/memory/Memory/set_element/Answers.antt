use Rattle.std.proofs.Common.{◌≡◌, ◌+◌, [], set, ap, ◌∙◌, sym, w32, to_z, of_z}
use Rattle.std.proofs.lemmas.Int.{to_z-of_z}
use Rattle.std.proofs.lemmas.List.{get_or-set_same}
use Rattle.janus_meaning.specs.Store.{set_element}
use Rattle.janus_memory.specs.Lists.{list_of}
use Rattle.janus_memory.specs.Memory.{MemoryState, HasArray, content_at, element_set}
use Rattle.janus_memory.specs.Memory.{with_content, with_write}
use Rattle.janus_memory.specs.declared.cell.Held.TheVariants as helds
use Rattle.janus_memory.proofs.Changing as changing
use Rattle.janus_memory.proofs.Reading as reading
use Rattle.janus_memory.proofs.memory.Memory.set_element.Goals as goal

pub set_element-requires : goal.set_element-requires
set_element-requires g c =
    let a = c.self.inside in
    let p = a.base + c.args.k in
    reading.array-low a p c.index.result.now (reading.frame-low a c.args.self.now c.self.view_is c.args.k c.requires) c.index.ensures c.in-Array.array
    c.self.invariant c.in-Array.is

pub invariant_of-self : goal.invariant_of-self
invariant_of-self g c =
    let a = c.self.inside in
    let p = a.base + c.args.k in
    let j = c.in-Array.array in
    let l = reading.frame-low a c.args.self.now c.self.view_is c.args.k c.requires in
    let e = reading.held-read a p c.index.result.now l c.index.ensures (helds.Array j) c.in-Array.is in
    let low = reading.array-low a p c.index.result.now l c.index.ensures j c.self.invariant c.in-Array.is in
    let m = set_element (list_of a.arrays j) c.args.index c.args.number in
    let z = ap (set_element (list_of a.arrays j) c.args.index) (to_z-of_z w32 c.args.number c.ranges.number) in
    let y = ap (λ i. set_element (list_of a.arrays j) i (to_z w32 (of_z w32 c.args.number))) (to_z-of_z w32 c.args.index c.ranges.index) in
    let w : c.set_element.new.self ≡ set a.arrays j m = c.set_element.ensures ∙ ap (set a.arrays j) (y ∙ z) in
    changing.array-kept a c.self.invariant p j l e c.set_element.new.self m w
    (ap (λ ls. list_of ls j) w ∙ get_or-set_same a.arrays j m [] low) c.add.new.self

pub returns-in-Array : goal.returns-in-Array
returns-in-Array g c =
    let a = c.self.inside in
    let p = a.base + c.args.k in
    let j = c.in-Array.array in
    let l = reading.frame-low a c.args.self.now c.self.view_is c.args.k c.requires in
    let e = reading.held-read a p c.index.result.now l c.index.ensures (helds.Array j) c.in-Array.is in
    let low = reading.array-low a p c.index.result.now l c.index.ensures j c.self.invariant c.in-Array.is in
    let m = set_element (list_of a.arrays j) c.args.index c.args.number in
    let z = ap (set_element (list_of a.arrays j) c.args.index) (to_z-of_z w32 c.args.number c.ranges.number) in
    let y = ap (λ i. set_element (list_of a.arrays j) i (to_z w32 (of_z w32 c.args.number))) (to_z-of_z w32 c.args.index c.ranges.index) in
    let w : c.set_element.new.self ≡ set a.arrays j m = c.set_element.ensures ∙ ap (set a.arrays j) (y ∙ z) in
    let was : content_at c.args.self.now p ≡ HasArray (list_of a.arrays j) =
    reading.held-seen a c.args.self.now c.self.view_is p c.index.result.now (helds.Array j) l c.index.ensures c.in-Array.is in
    changing.array-seen a c.self.invariant p j l e c.set_element.new.self m w
    (ap (λ ls. list_of ls j) w ∙ get_or-set_same a.arrays j m [] low) c.add.new.self c.add.ensures
    ∙ ap (λ (o : MemoryState). with_write (with_content o p (HasArray m))) c.self.view_is
    ∙ ap (λ x. with_write (with_content c.args.self.now p (element_set x c.args.index c.args.number))) (sym was)
    ∙ ap (λ p. with_write (with_content c.args.self.now p (element_set (content_at c.args.self.now p) c.args.index c.args.number)))
    (reading.same-place a c.args.self.now c.self.view_is c.args.k)
