use Rattle.std.proofs.Common.{◌≡◌, ℕ, ◌-◌, ◌≤◌, ◌∙◌, length, ap, arith, refl}
use Rattle.std.specs.Prelude.{min, vec_len}
use Rattle.cell_tree.specs.Tree.{Tree, parents_of, node_limit}
use Rattle.cell_tree.specs.Kept.{spare, room_of, tree_of}
use Rattle.cell_tree.proofs.Trees.{tree_with_way}
use Rattle.cell_tree.proofs.Ways.{length-upward}
use Rattle.cell_tree.proofs.tree.Tree.find_way.Goals as goal

pub invariant_of-self : goal.invariant_of-self
invariant_of-self g c =
    let inside = c.self.inside in
    let t : Tree g.row.C.Denot = tree_of inside.nodes inside.favourites inside.way in
    let count : length inside.nodes.items ≡ length c.args.self.now.nodes = ap (λ (u : Tree g.row.C.Denot). length u.nodes) c.self.view_is in
    let known : c.args.to ≤ length c.args.self.now.nodes = c.has.ensures.0 c.if-not-has.false in
    let few = c.find_way.ensures.few.1 in
    let size : length c.find_way.new.way.items ≡ c.find_way.result.down =
    ap length c.find_way.ensures.kept ∙ length-upward (parents_of c.deref.result.now) c.args.to c.find_way.result.down in
    let room = c.find_way.ensures.room in
    let longest = c.self.invariant.longest in
    record {
      tree = tree_with_way t c.find_way.new.way.items (room_of inside.nodes inside.favourites c.find_way.new.way) c.self.invariant.tree (omega arith);
      longest = omega arith;
    }

pub returns-clause-kept : goal.returns-clause-kept
returns-clause-kept g c =
    let inside = c.self.inside in
    let same : room_of inside.nodes inside.favourites c.find_way.new.way ≡ room_of inside.nodes inside.favourites inside.way =
    ap (λ (n : ℕ). min (node_limit - vec_len inside.nodes) (min (spare inside.nodes) (min (spare inside.favourites) (n - vec_len inside.nodes))))
    c.find_way.ensures.room in
    rw (← c.self.view_is) (rw (c.find_way.ensures.kept, same, c.deref.ensures.value) refl)
