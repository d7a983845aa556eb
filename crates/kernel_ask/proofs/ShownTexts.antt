-- What is shown of a node's cell, and of the text from which it came.
use Rattle.std.proofs.Common.{◌≡◌, ◌⊎◌, inl, inr, ℕ, ◌<◌, Bool, length, map, sym, ap, ◌∙◌, ⊎_elim, arith}
use Rattle.std.specs.List.{filter}
use Rattle.janus_meaning.specs.Syntax.{Name}
use Rattle.janus_meaning.specs.Store.{Store, Val}
use Rattle.janus_meaning.specs.World.{listed}
use Rattle.janus_syntax.specs.Forms.{A_cell}
use Rattle.janus_syntax.specs.Tree.{Cell}
use Rattle.janus_syntax.specs.View.{plain_cell}
use Rattle.janus_syntax.proofs.TextLaws.{one_tree}
use Rattle.kernel_text.specs.Naming.{in_cell}
use Rattle.kernel_text.specs.ValueTexts.{value_text}
use Rattle.kernel_text.specs.State.{Past, world_at}
use Rattle.kernel_text.specs.NodeTrees.{HasNoTree}
use Rattle.kernel_ask.specs.Shown.{parted, shown_text, ShownIsOfText}
use Rattle.kernel_ask.proofs.SameNames.{same_names}

-- trees that differ in places alone are shown alike
shown_alike : (s : Store) (c d : Cell) → plain_cell c ≡ plain_cell d → shown_text s c ≡ shown_text s d
shown_alike s c d same =
    let tests : (λ (e : Name × Val). in_cell e.0 c) ≡ (λ (e : Name × Val). in_cell e.0 d) = λ k e. same_names e.0 c d same k in
    ap (λ (test : Name × Val → Bool). parted (map value_text (filter test (listed s)))) tests

-- a node that has a cell is not one that has none
no_tree_not : (s : Past) (node : ℕ) → 0 < node → node < length s.nodes → HasNoTree s node → ⊥
no_tree_not s node low high (inl root) = omega arith
no_tree_not s node low high (inr beyond) = omega arith

pub shown_is_of_text : ShownIsOfText
shown_is_of_text s node steps text shown of =
    let own = of.tree in
    ⊎_elim
    (λ at.
    let all : shown ≡ shown_text (world_at s node).store own = at.2 ∙ shown_alike (world_at s node).store at.0 own (sym at.1.meant ∙ of.meant) in (
      λ cell has. all ∙ ap (shown_text (world_at s node).store) (one_tree A_cell text own cell of.is_tree has),
      λ none. absurd (none own of.is_tree),
    ))
    (λ none. absurd (no_tree_not s node of.below_root of.known none.0))
