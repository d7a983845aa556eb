-- Legal trees, and what a state of the machine keeps of its open job.
use Rattle.std.specs.Prelude.{◌≡◌, ℕ, ◌+◌, ◌^◌, ◌<◌, ◌≤◌, ◌==◌, Bool, true, false, IsTrue}
use Rattle.std.specs.Prelude.{List, length, zero, suc, if◌then◌else◌, get_or}
use Rattle.janus_meaning.specs.World.{World, empty_world}
use Rattle.kernel_machine.specs.Language.{Forward, CodeExec, IsFormed, IsSound}
use Rattle.kernel_machine.specs.State.{Past, Node, Work, Posted, Move, Job, Idle, Border, Inside}
use Rattle.kernel_machine.specs.State.{root, ancestor, node_at, world_at, here, favourite_of, code_of}
use Rattle.kernel_machine.specs.Travel.{Aim, Undo, Redo, Goto, Travel}
use Rattle.kernel_machine.specs.Heading.{Heading, GoesOn, GoesBack}

-- the node can go up k times
abbrev pub can_undo : List Node → ℕ → ℕ → Bool
can_undo nodes n zero = true
can_undo nodes n (suc k) = (if n == 0 then false else can_undo nodes (get_or nodes n root).parent k)

-- the node can go down k times, along favourites
abbrev pub can_redo : List ℕ → ℕ → ℕ → Bool
can_redo favourites n zero = true
can_redo favourites n (suc k) = (if get_or favourites n 0 == 0 then false else can_redo favourites (get_or favourites n 0) k)

-- the cell of the node n is well formed over its parent's world, and run there it gives the node's world in the node's steps
pub record IsRun (nodes : List Node) (worlds : List World) (n : ℕ) : Type 0 where
  pub parent : (get_or nodes n root).parent < n
  pub formed : IsFormed (get_or nodes n root).cell (get_or worlds (get_or nodes n root).parent empty_world)
  pub ran :
      CodeExec (Forward (get_or nodes n root).cell) (get_or worlds (get_or nodes n root).parent empty_world) (get_or nodes n root).steps
      (get_or worlds n empty_world)

-- the favourite of the node n is a child of it
pub record HasFavouriteChild (nodes : List Node) (favourites : List ℕ) (n : ℕ) : Type 0 where
  pub known : get_or favourites n 0 < length nodes
  pub parent : (get_or nodes (get_or favourites n 0) root).parent ≡ n

-- The tree is legal: parents stand before their children, the root's world is empty, and each other node's is that of its cell, run in
-- its parent's world.
pub record IsLegal (s : Past) : Type 0 where
  pub rooted : 0 < length s.nodes
  pub nothing_at_root : world_at s 0 ≡ empty_world
  pub worlds : length s.worlds ≡ length s.nodes
  pub favourites : length s.favourites ≡ length s.nodes
  pub ran : (n : ℕ) → 0 < n → n < length s.nodes → IsRun s.nodes s.worlds n
  pub sound : (n : ℕ) → n < length s.nodes → IsSound (world_at s n)
  pub children : (n : ℕ) → n < length s.nodes → 0 < favourite_of s n → HasFavouriteChild s.nodes s.favourites n
  pub position : s.position < length s.nodes
  pub root_parent : (node_at s 0).parent ≡ 0
  -- the favourites lead from each node above the position to it
  pub favoured :
      (j : ℕ) → 0 < ancestor s.nodes s.position j →
      favourite_of s (ancestor s.nodes s.position (suc j)) ≡ ancestor s.nodes s.position j

-- up steps above the one and down steps above the other stands the same node: from the one to the other there is a way through it
pub record IsWayTo (nodes : List Node) (from to up down : ℕ) : Type 0 where
  pub known : to < length nodes
  pub above_from : IsTrue (can_undo nodes from up)
  pub above_to : IsTrue (can_undo nodes to down)
  pub meet : ancestor nodes from up ≡ ancestor nodes to down

-- all that a travel has still to go can be gone
abbrev pub CanGo : Aim → List Node → List ℕ → ℕ → ℕ → ℕ → Type 0
CanGo Undo nodes favourites position up down = (down ≡ 0) × IsTrue (can_undo nodes position up)
CanGo Redo nodes favourites position up down = (up ≡ 0) × IsTrue (can_redo favourites position down)
CanGo (Goto n) nodes favourites position up down = IsWayTo nodes position n up down

-- an open travel has a cell to do, and can do all
pub record IsPossible (nodes : List Node) (favourites : List ℕ) (position : ℕ) (travel : Travel) : Type 0 where
  pub some : 0 < travel.up + travel.down
  pub way_there : CanGo travel.aim nodes favourites position travel.up travel.down

-- what runs can run from the position: a posted cell is well formed over its world
abbrev pub IsPossibleWork : Past → Work → Type 0
IsPossibleWork s (Posted cell) = IsFormed cell (here s)
IsPossibleWork s (Move travel) = IsPossible s.nodes s.favourites s.position travel

abbrev pub IsPossibleAt : Past → Job → Type 0
IsPossibleAt s Idle = Unit {0}
IsPossibleAt s (Border travel) = IsPossible s.nodes s.favourites s.position travel
IsPossibleAt s (Inside e) = IsPossibleWork s e.work

-- a job inside a cell has steps to take: while it goes on, the end of the code is ahead; while it goes back, the count is not 0 yet
abbrev pub IsInTime : Past → Work → ℕ → Heading → Type 0
IsInTime s work count GoesOn = (n : ℕ) (w : World) → CodeExec (code_of s work) (here s) n w → count < n
IsInTime s work count (GoesBack why) = 0 < count

abbrev pub IsInTimeAt : Past → Job → Type 0
IsInTimeAt s Idle = Unit {0}
IsInTimeAt s (Border travel) = Unit {0}
IsInTimeAt s (Inside e) = IsInTime s e.work e.count e.heading

-- ---- the way to a node

-- up steps above the one and down steps above the other their paths to the root meet: they have no common node nearer to either
pub record IsMeeting (nodes : List Node) (from to up down : ℕ) : Type 0 where
  pub same : ancestor nodes from up ≡ ancestor nodes to down
  pub least : (i j : ℕ) → ancestor nodes from i ≡ ancestor nodes to j → (up ≤ i) × (down ≤ j)

-- ---- what the code keeps of the open job beside this: its cells are counted in 64 bits

abbrev pub IsCounted : Travel → Type 0
IsCounted travel = (travel.up + travel.went_up < 2 ^ 64) × (travel.down + travel.went_down < 2 ^ 64)

abbrev pub IsCountedIn : Work → Type 0
IsCountedIn (Posted cell) = Unit {0}
IsCountedIn (Move travel) = IsCounted travel

abbrev pub IsCountedAt : Job → Type 0
IsCountedAt Idle = Unit {0}
IsCountedAt (Border travel) = IsCounted travel
IsCountedAt (Inside e) = IsCountedIn e.work
