-- Where undo, redo and goto lead, when the cells on their way settle, and what worlds that gives: laws of the machine's runs.
use Rattle.std.specs.Prelude.{◌≡◌, ℕ, false, ◌+◌, ◌-◌, ◌<◌, ◌≤◌, List, [], ◌∷◌, length, get_or}
use Rattle.std.specs.Prelude.{IsTrue, zero, suc, set, ◌⊎◌, ◌↔◌}
use Rattle.janus_meaning.specs.World.{World, empty_world, Cell, entered}
use Rattle.janus_meaning.specs.Cells.{IsGoodWorld}
use Rattle.kernel_machine.specs.Travel.{next_way}
use Rattle.kernel_machine.specs.declared.travel.Travel.{Travel}
use Rattle.kernel_machine.specs.declared.travel.Way.TheVariants.{Up, Down}
use Rattle.kernel_machine.specs.Language.{Forward, Backward, CodePart, CodeExec}
use Rattle.kernel_machine.specs.Reached.{Reaches}
use Rattle.kernel_machine.specs.declared.progress.Progress.TheVariants.{Stopped}
use Rattle.kernel_machine.specs.State.{Node, Past, Move, Idle, Inside, State, root, node_at, world_at, here, ancestor, below, code_of}
use Rattle.kernel_machine.specs.Legal.{can_undo, can_redo, IsPossible, IsLegal}
use Rattle.kernel_machine.specs.LegalState.{IsLegalState}
use Rattle.kernel_machine.specs.Slices.{Settles}
use Rattle.kernel_machine.specs.Begins.{travel_to}
use Rattle.kernel_machine.specs.Request.{Undo, Redo}
use Rattle.kernel_machine.specs.Runs.{Machine, IsNext, Step, Run}
use Rattle.kernel_machine.specs.Midway.{gone}
use Rattle.kernel_machine.specs.declared.heading.Heading.TheVariants.{GoesOn}
use Rattle.kernel_machine.specs.declared.travel.Aim.TheVariants as aim
use Rattle.kernel_machine.specs.declared.outcome.TravelEnd.TheVariants.{All}
use Rattle.kernel_machine.specs.declared.outcome.Outcome.TheVariants as outcome
use Rattle.kernel_machine.specs.declared.outcome.Sliced.{Sliced}
use Rattle.kernel_machine.specs.declared.outcome.Sliced.TheVariants as sliced
use Rattle.kernel_machine.specs.declared.events.Event.{Event}
use Rattle.kernel_machine.specs.declared.events.Event.TheVariants as event
use Rattle.kernel_machine.specs.declared.events.Told.{Told}
use Rattle.kernel_machine.specs.declared.events.Told.TheVariants as told
use Rattle.janus_meaning.specs.declared.fault.Fault.{Fault}
use Rattle.machine_laws.specs.Theorems.{EndsAs}

-- ---- where a travel leads

-- the node j favourites below n
abbrev pub descendant : List ℕ → ℕ → ℕ → ℕ
descendant favourites n zero = n
descendant favourites n (suc j) = get_or favourites (descendant favourites n j) 0

-- the favourites with this node as that of the position
abbrev pub favoured : Past → ℕ → List ℕ
favoured s n = set s.favourites s.position n

-- j cells of an undo change the position alone: it is j nodes above
abbrev pub UndoGoesUp : Type 0
UndoGoesUp =
    (s : Past) (k j : ℕ) → j ≤ k → gone s (travel_to aim.Undo k 0) j ≡ record s { position = ancestor s.nodes s.position j }

-- j cells of a redo change the position alone: it is j favourites below
abbrev pub RedoGoesDown : Type 0
RedoGoesDown =
    (s : Past) (k j : ℕ) → gone s (travel_to aim.Redo 0 k) j ≡ record s { position = descendant s.favourites s.position j }

-- A goto goes up with no favourite changed, and then down to its node, on its path: each node that it comes to is then the favourite of
-- the one above it, and no other favourite is changed.
abbrev pub GotoGoesThere : Type 0
GotoGoesThere =
    (s : Past) (n up down j : ℕ) →
    (j ≤ up → gone s (travel_to (aim.Goto n) up down) j ≡ record s { position = ancestor s.nodes s.position j })
    × (0 < j → j ≤ down → (gone s (travel_to (aim.Goto n) up down) (up + j)).position ≡ ancestor s.nodes n (down - j))
    × (j < down → (gone s (travel_to (aim.Goto n) up down) (up + j + 1)).favourites
    ≡ favoured (gone s (travel_to (aim.Goto n) up down) (up + j)) (ancestor s.nodes n (down - j - 1)))
    × ((gone s (travel_to (aim.Goto n) up down) j).nodes ≡ s.nodes)
    × ((gone s (travel_to (aim.Goto n) up down) j).worlds ≡ s.worlds)

-- A redo of k cells that is taken where an undo of k cells has led, both to the end, is back at the same node, with the same tree and
-- worlds. It may have been posted before the undo ended, or later.
abbrev pub RedoGivesBack : Type 0
RedoGivesBack =
    (old mid later new : Machine) (k : ℕ) (undo redo : List Event) (told_undo told_redo : List Told) →
    IsLegal old.state.past → old.state.job ≡ Idle →
    IsNext old (Undo k) → Run old (event.Begin ∷ undo) told_undo mid → EndsAs told_undo (outcome.Undid k All) →
    later.state ≡ mid.state → IsNext later (Redo k) → Run later (event.Begin ∷ redo) told_redo new → EndsAs told_redo (outcome.Redid k All) →
    new.state.past ≡ old.state.past

-- ---- inside a cell of a travel

-- how many steps the cell took that is undone or redone
abbrev pub steps_of : Past → Travel → ℕ
steps_of s travel = elim (next_way travel) [ Up ↦ (node_at s s.position).steps | Down ↦ (node_at s (below s travel)).steps ]

-- where it leads: an undone cell to where its statements began, a redone one to its node's world
abbrev pub end_world : Past → Travel → World
end_world s travel = elim (next_way travel) [
  | Up ↦ entered (node_at s s.position).cell (world_at s (node_at s s.position).parent)
  | Down ↦ world_at s (below s travel)
]

-- A slice before the cell's last step goes on, and the slice with that step settles the cell: not earlier, not later.
abbrev pub SettlesAtLastStep : Past → Travel → ℕ → ℕ → Sliced → State → Type 0
SettlesAtLastStep s travel c m told new =
    ((c + m < steps_of s travel) × (told ≡ sliced.Going)
    × (new ≡ record { past = s; job = Inside (record { work = Move travel; count = c + m; heading = GoesOn }) }))
    ⊎ ((steps_of s travel ≤ c + m) × Settles s (Move travel) (steps_of s travel) (end_world s travel) told new)

-- The code leads there in those steps, and the cell settles with the last of them.
abbrev pub IsOnTime : Past → Travel → ℕ → ℕ → Sliced → State → Type 0
IsOnTime s travel c m told new =
    CodeExec (code_of s (Move travel)) (here s) (steps_of s travel) (end_world s travel) × SettlesAtLastStep s travel c m told new

-- A cell is undone by its inverted code, and redone by its code, in as many steps as it took: in each slice that goes on its last
-- step was still to be taken, and the cell settles exactly where the slice takes it.
abbrev pub SettlesOnTime : Type 0
SettlesOnTime =
    (old new : Machine) (travel : Travel) (c m : ℕ) (answer : Sliced) →
    IsLegalState old.state → old.state.job ≡ Inside (record { work = Move travel; count = c; heading = GoesOn }) →
    Step old (event.Slice m false) (told.Slice answer) new →
    (c < steps_of old.state.past travel) × IsOnTime old.state.past travel c m answer new.state

-- Where the tree is legal, the code of an undo or a redo meets no fault.
abbrev pub NeverFaults : Type 0
NeverFaults =
    (s : Past) (travel : Travel) (m j : ℕ) (fault : Fault) (w : World) →
    IsLegal s → IsPossible s.nodes s.favourites s.position travel →
    Reaches (code_of s (Move travel)) (here s) m (Stopped j fault) w → ⊥

-- The inverted code leads back, in as many steps and through the same worlds, to the world in which the cell's statements began.
abbrev pub IsMirrored : Type 0
IsMirrored =
    (cell : Cell) (w u v : World) (n j : ℕ) → IsGoodWorld w → CodeExec (Forward cell) w n v → CodePart (Forward cell) w j u →
    CodeExec (Backward cell) v n (entered cell w) × CodePart (Backward cell) v (n - j) u

-- ---- worlds are those of paths

-- the cells from the node n up to the root
abbrev pub IsPath : List Node → ℕ → List Cell → Type 0
IsPath nodes n [] = n ≡ 0
IsPath nodes n (cell ∷ above) =
    (0 < n) × (n < length nodes) × ((get_or nodes n root).cell ≡ cell) × IsPath nodes (get_or nodes n root).parent above

-- run one after another from the empty world, the last first in the list, they lead to w
abbrev pub LeadTo : List Cell → World → Type 0
LeadTo [] w = w ≡ empty_world
LeadTo (cell ∷ above) w = (v : World) × (steps : ℕ) × LeadTo above v × CodeExec (Forward cell) v steps w

-- The world of a node is the one that the cells on its path give, and no other.
abbrev pub PathGivesWorld : Type 0
PathGivesWorld =
    (s : Past) (n : ℕ) → IsLegal s → n < length s.nodes →
    (cells : List Cell) × IsPath s.nodes n cells × LeadTo cells (world_at s n) × ((w : World) → LeadTo cells w → w ≡ world_at s n)

-- ---- how far an undo and a redo can go

-- An undo of k cells can go exactly where at least k cells stand on the path from the root to the position.
abbrev pub UndoGoesUpThePath : Type 0
UndoGoesUpThePath =
    (s : Past) (k : ℕ) (cells : List Cell) → IsLegal s → IsPath s.nodes s.position cells →
    IsTrue (can_undo s.nodes s.position k) ↔ (k ≤ length cells)

-- the nodes below n: its favourite, the favourite of that one, and so on to one that has none
abbrev pub AreFavourites : List ℕ → ℕ → List ℕ → Type 0
AreFavourites favourites n [] = get_or favourites n 0 ≡ 0
AreFavourites favourites n (m ∷ below) = (0 < m) × (get_or favourites n 0 ≡ m) × AreFavourites favourites m below

-- There is an end to the favourites below the position, and a redo of k cells can go exactly where there are at least k of them.
abbrev pub RedoGoesDownFavourites : Type 0
RedoGoesDownFavourites =
    (s : Past) → IsLegal s →
    (below : List ℕ) × AreFavourites s.favourites s.position below
    × ((k : ℕ) → IsTrue (can_redo s.favourites s.position k) ↔ (k ≤ length below))
