-- The states of the kernel machine: the tree of cells with the worlds of all its nodes, and the open job. No cursor, no stored inverse, no
-- store.
use Rattle.std.specs.Prelude.{◌≡◌, ℕ, ◌-◌, List, [], ◌∷◌, ◌++◌, length, get_or, zero, suc, Bool, nat_lt}
use Rattle.janus_meaning.specs.World.{World, empty_world, Cell}
use Rattle.janus_meaning.specs.Syntax.{Proc}
use Rattle.cell_tree.specs.Tree.{node_limit}
use Rattle.kernel_machine.specs.Language.{empty_cell, Code, Forward, Backward, start_of, CodePart, end_of}
use Rattle.kernel_machine.specs.Travel.{Up, Down, Aim, Goto, Travel, next_way}
use Rattle.kernel_machine.specs.Heading.{Heading}

-- a cell that ended well, with the steps that it took; or the root
pub record Node : Type 0 where
  pub parent : ℕ
  pub cell : Cell
  pub steps : ℕ

-- the tree with all its worlds, and where the kernel stands in it
pub record Past : Type 0 where
  -- node 0 is the root
  pub nodes : List Node
  -- the world of each node
  pub worlds : List World
  -- for each node the child through which the position last went down from it, or 0
  pub favourites : List ℕ
  pub position : ℕ

-- what runs inside a cell: a posted cell, or the next cell of a travel
pub data Work : Type 0 where
  Posted : (cell : Cell) → Work
  Move : (travel : Travel) → Work

-- a job inside a cell, and how many steps of the cell are taken
pub record Entered : Type 0 where
  pub work : Work
  pub count : ℕ
  pub heading : Heading

-- no open job, or one at a border between two cells, or inside a cell
pub data Job : Type 0 where
  Idle : Job
  Border : (travel : Travel) → Job
  Inside : (e : Entered) → Job

pub record State : Type 0 where
  pub past : Past
  pub job : Job

abbrev pub root : Node
root = record { parent = 0; cell = empty_cell; steps = 0 }

abbrev pub node_at : Past → ℕ → Node
node_at s n = get_or s.nodes n root

abbrev pub world_at : Past → ℕ → World
world_at s n = get_or s.worlds n empty_world

abbrev pub favourite_of : Past → ℕ → ℕ
favourite_of s n = get_or s.favourites n 0

-- no further node may stand in the tree: as many stand beside the root as `cell_tree` allows
abbrev pub is_full : Past → Bool
is_full s = nat_lt node_limit (length s.nodes)

-- the world of the position
abbrev pub here : Past → World
here s = world_at s s.position

-- the node j steps above n; the root is its own parent
abbrev pub ancestor : List Node → ℕ → ℕ → ℕ
ancestor nodes n zero = n
ancestor nodes n (suc j) = (get_or nodes (ancestor nodes n j) root).parent

-- the node to which a travel goes down next, with `down` cells down still to go: towards a node the one `down - 1` steps above it, else the favourite
abbrev pub below_by : Aim → Past → ℕ → ℕ
below_by (Goto n) s down = ancestor s.nodes n (down - 1)
below_by other s down = favourite_of s s.position

abbrev pub below : Past → Travel → ℕ
below s travel = below_by travel.aim s travel.down

-- The code that a job runs inside a cell: a posted cell and the one below forward, that of the position backward. It begins in the world of
-- the position.
abbrev pub code_of : Past → Work → Code
code_of s (Posted cell) = Forward cell
code_of s (Move travel) = elim (next_way travel) [
  | Up ↦ Backward (node_at s s.position).cell
  | Down ↦ Forward (node_at s (below s travel)).cell
]

-- the world that is shown: at a border or with no job that of the position, else that after the counted steps
abbrev pub ShownAt : Past → Job → World → Type 0
ShownAt s Idle w = w ≡ here s
ShownAt s (Border travel) w = w ≡ here s
ShownAt s (Inside e) w = CodePart (code_of s e.work) (here s) e.count w

abbrev pub Shown : State → World → Type 0
Shown s w = ShownAt s.past s.job w

-- the procedures of the world that is shown: inside a cell those with which its steps began
abbrev pub procedures_at : Past → Job → List Proc
procedures_at s Idle = (here s).procedures
procedures_at s (Border travel) = (here s).procedures
procedures_at s (Inside e) = (start_of (code_of s e.work) (here s)).procedures

-- the state of a new kernel
abbrev pub new_state : State
new_state = record {
  past = record { nodes = root ∷ []; worlds = empty_world ∷ []; favourites = 0 ∷ []; position = 0 };
  job = Idle;
}

-- ---- the worlds of a tree as a function

-- the worlds of the nodes, from first to last
unfoldable pub worlds_from : List World → List Node → List World
worlds_from worlds [] = worlds
worlds_from worlds (node ∷ nodes) =
    worlds_from (worlds ++ end_of node.cell (get_or worlds node.parent empty_world) node.steps ∷ []) nodes
