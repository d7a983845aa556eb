use Rattle.std.proofs.Common.{sym, subst}
use Rattle.std.specs.Vec.{with_item}
use Rattle.cell_tree.specs.Tree.{Tree, IsChild}
use Rattle.cell_tree.specs.Kept.{room_of, tree_of}
use Rattle.cell_tree.proofs.Trees.{tree_with_favourite}
use Rattle.cell_tree.proofs.tree.Tree.set_favourite.Goals as goal

pub invariant_of-self : goal.invariant_of-self
invariant_of-self g c =
    let inside = c.self.inside in
    let t : Tree g.row.C.Denot = tree_of inside.nodes inside.favourites inside.way in
    let child : IsChild t c.args.node c.args.child = subst (λ (u : Tree g.row.C.Denot). IsChild u c.args.node c.args.child) (sym c.self.view_is) c.requires in
    record {
      tree = tree_with_favourite t (room_of inside.nodes (with_item inside.favourites c.args.node c.args.child) inside.way)
          c.args.node c.args.child c.self.invariant.tree child;
      longest = c.self.invariant.longest;
    }
