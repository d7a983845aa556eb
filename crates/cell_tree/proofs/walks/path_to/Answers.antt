use Rattle.std.proofs.Common.{◌≡◌, ℕ, List, [], ◌∷◌, ◌++◌, ◌<◌, reverse, ap, ◌∙◌, arith}
use Rattle.std.proofs.lemmas.List.{reverse-append}
use Rattle.cell_tree.specs.Tree.{parent_in, parents_of}
use Rattle.cell_tree.specs.Paths.{path_of}
use Rattle.cell_tree.proofs.Trees.{count_of_parents}
use Rattle.cell_tree.proofs.Paths.{path_further}
use Rattle.cell_tree.proofs.walks.path_to.Goals as goal

pub loop-at-preserved : goal.loop-at-preserved
loop-at-preserved g c =
    let parents = parents_of c.args.nodes.now in
    let at = c.loop-at in
    let count = count_of_parents c.args.nodes.now in
    let known = at.invariant.known in
    let above : 0 < at.at = omega (arith, c.loop-at-test.true) in
    let low = c.parent_of-at.ensures.before above in
    let pushed : c.push.new.self.items ≡ at.path.items ++ at.at ∷ [] = c.in_ok-push.ensures.items in
    let turned : reverse c.push.new.self.items ≡ at.at ∷ reverse at.path.items = ap reverse pushed ∙ reverse-append at.path.items (at.at ∷ []) in
    record {
      known = omega arith;
      path =
          ap (λ (n : ℕ). path_of parents n ++ reverse c.push.new.self.items) c.parent_of-at.ensures.parent
          ∙ ap (λ (below : List ℕ). path_of parents (parent_in parents at.at) ++ below) turned
          ∙ path_further parents at.at (reverse at.path.items) c.requires.ordered above (omega arith)
          ∙ at.invariant.path;
    }
