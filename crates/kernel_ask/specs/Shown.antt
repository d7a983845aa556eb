-- What is shown of a cell that ran (Jupyter messaging page, "Execution results").
use Rattle.std.specs.Prelude.{◌≡◌, ◌⊎◌, ℕ, ◌<◌, List, [], ◌∷◌, length, map, Option, Some, None}
use Rattle.std.specs.List.{filter, join_with_byte}
use Rattle.janus_meaning.specs.Store.{Store}
use Rattle.janus_meaning.specs.World.{listed}
use Rattle.janus_syntax.specs.Tree.{Cell}
use Rattle.janus_syntax.specs.Text.{HasTree}
use Rattle.janus_syntax.specs.View.{plain_cell}
use Rattle.kernel_text.specs.State.{Past, node_at, world_at}
use Rattle.kernel_text.specs.NodeTrees.{IsTreeAt, HasNoTree}
use Rattle.kernel_text.specs.outcome.Outcome.{Outcome}
use Rattle.kernel_text.specs.outcome.Outcome.TheVariants.{Ran, Failed, Interrupted, Undid, Redid, Went, Refused}
use Rattle.kernel_text.specs.Naming.{in_cell}
use Rattle.kernel_text.specs.ValueTexts.{value_text}

-- the texts parted by LF, if there are any
abbrev pub parted : List (List ℕ) → Option (List ℕ)
parted [] = None
parted (text ∷ texts) = Some (join_with_byte 10 (text ∷ texts))

-- the value texts of the names that the cell names, in the order of declaration
abbrev pub shown_text : Store → Cell → Option (List ℕ)
shown_text s cell = parted (map value_text (filter (λ e. in_cell e.0 cell) (listed s)))

-- what is shown of the cell of a text; nothing of a text that is no cell
abbrev pub IsShown : Store → List ℕ → Option (List ℕ) → Type 0
IsShown s text shown =
    ((cell : Cell) → HasTree text cell → shown ≡ shown_text s cell)
    × (((cell : Cell) → HasTree text cell → ⊥) → shown ≡ None)

-- it is shown only where the cell ran, in the world of its node
abbrev pub IsShownAfter : Outcome → Past → List ℕ → Option (List ℕ) → Type 0
IsShownAfter (Ran node steps) s text shown = IsShown (world_at s node).store text shown
IsShownAfter (Failed fault steps) s text shown = shown ≡ None
IsShownAfter (Interrupted steps) s text shown = shown ≡ None
IsShownAfter (Undid cells end) s text shown = shown ≡ None
IsShownAfter (Redid cells end) s text shown = shown ≡ None
IsShownAfter (Went up down end) s text shown = shown ≡ None
IsShownAfter (Refused refusal) s text shown = shown ≡ None

-- the same, told of a tree that is read as the cell of its node; nothing where there is no such node
abbrev pub IsShownOfNode : Outcome → Past → Option (List ℕ) → Type 0
IsShownOfNode (Ran node steps) s shown =
    ((tree : Cell) × IsTreeAt s node tree × (shown ≡ shown_text (world_at s node).store tree)) ⊎ (HasNoTree s node × (shown ≡ None))
IsShownOfNode (Failed fault steps) s shown = shown ≡ None
IsShownOfNode (Interrupted steps) s shown = shown ≡ None
IsShownOfNode (Undid cells end) s shown = shown ≡ None
IsShownOfNode (Redid cells end) s shown = shown ≡ None
IsShownOfNode (Went up down end) s shown = shown ≡ None
IsShownOfNode (Refused refusal) s shown = shown ≡ None

-- the node has a cell, which came from this text
pub record IsTextOf (s : Past) (node : ℕ) (text : List ℕ) : Type 0 where
  pub below_root : 0 < node
  pub known : node < length s.nodes
  pub tree : Cell
  pub is_tree : HasTree text tree
  pub meant : (node_at s node).cell ≡ plain_cell tree

-- What is shown of a cell by the tree that its node keeps is what is shown of its text: places don't matter.
abbrev pub ShownIsOfText : Type 0
ShownIsOfText =
    (s : Past) (node steps : ℕ) (text : List ℕ) (shown : Option (List ℕ)) → IsTextOf s node text → IsShownOfNode (Ran node steps) s shown
    → IsShownAfter (Ran node steps) s text shown
