-- What is told of where a walk stands.
use Rattle.std.specs.Prelude.{◌≡◌, ℕ, zero, suc, ◌-◌, ◌≤◌, ◌<◌, List, [], ◌∷◌, reverse, true, false, Option, None, Some, slice_get}
use Rattle.janus_meaning.specs.Syntax.{Name}
use Rattle.janus_linear.specs.declared.code.Order.TheVariants.{Straight}
use Rattle.janus_linear.specs.Layout.{place_at}
use Rattle.janus_machine.specs.declared.cursor.Call.{Call}
use Rattle.janus_machine.specs.declared.direction.Direction.{Direction}
use Rattle.janus_machine.specs.Cursor.{direction_of, calls_of}
use Rattle.janus_machine.specs.Cursors.{place_in}
use Rattle.janus_machine.specs.Nested.{caller_way}
use Rattle.janus_machine.specs.Procedures.{body_at}
use Rattle.janus_machine.specs.declared.linked_procedure.LinkedProcedure.{LinkedProcedure}
use Rattle.janus_machine.specs.Whereabouts.{IsWrittenAt, faced, faces_inverse}
use Rattle.janus_syntax.specs.Tree.{Block}
use Rattle.janus_syntax.specs.declared.token.Span.{Span}
use Rattle.janus_syntax.specs.declared.tree.Procedure.{Procedure}
use Rattle.janus_places.specs.declared.part.Part.{Part}
use Rattle.janus_places.specs.declared.table.Table.{Table}
use Rattle.janus_places.specs.Standing.{code_of, IsTold}
use Rattle.janus_places.specs.Table.{IsTableOf}
use Rattle.kernel_runner.specs.Runner.{Place, Is, Inside}
use Rattle.steps_walk.specs.declared.body.Body.{Body}
use Rattle.steps_walk.specs.declared.level.Level.{Level}
use Rattle.steps_walk.specs.declared.level.Spot.{Spot}
use Rattle.steps_walk.specs.declared.walk.Walk.{Walk}
use Rattle.steps_walk.specs.Bodies.{IsInEffect, parameters_of, text_body}
use Rattle.steps_walk.specs.Walk.{runner_of, program_of, tree_of, block_of, bodies_of, calls_in, HasTable, IsWalking, is_outside}
use Rattle.steps_walk.specs.Where.{IsThere}

-- ---- the code of a level

-- the index of a body that was met, of the name of this number
pub record IsBodyAt {L : Type 0} (w : Walk L) (number k : ℕ) : Type 0 where
  pub body : Body
  pub there : slice_get (bodies_of w) k ≡ Some body
  pub named : body.number ≡ number

-- the i-th open call, the outermost being 0, runs this body
pub record Calls {L : Type 0} (w : Walk L) (i k : ℕ) : Type 0 where
  pub call : Call
  pub there : slice_get (reverse (calls_of (runner_of w).cursor)) i ≡ Some call
  pub runs : IsBodyAt w call.procedure k

-- the number of the procedure in whose body the i-th level stands: the outermost is the cell's own code, and each other one that of a call
abbrev pub IsCalledAt : {L : Type 0} → Walk L → ℕ → Option ℕ → Type 0
IsCalledAt w zero number = number ≡ None
IsCalledAt w (suc i) None = ⊥
IsCalledAt w (suc i) (Some number) = (call : Call) × (slice_get (reverse (calls_of (runner_of w).cursor)) i ≡ Some call) × (number ≡ call.procedure)

-- the body in which the i-th level stands: the outermost is the cell's own code, and each other one that of a call
abbrev pub IsCodeAt : {L : Type 0} → Walk L → ℕ → Option ℕ → Type 0
IsCodeAt w zero body = body ≡ None
IsCodeAt w (suc i) None = ⊥
IsCodeAt w (suc i) (Some k) = Calls w i k

-- ---- which bodies are met

-- a call of the name of this number runs a body
abbrev pub HasBody : {L : Type 0} → Walk L → ℕ → Type 0
HasBody w number = (body : LinkedProcedure) × (body_at (runner_of w).procedures number ≡ Some body)

-- the body of the name of this number was met
abbrev pub IsMetAt : {L : Type 0} → Walk L → ℕ → Type 0
IsMetAt w number = (k : ℕ) × IsBodyAt w number k

-- the body in which the i-th level stands was met; the cell's own code needs none
abbrev pub IsLevelMet : {L : Type 0} → Walk L → ℕ → Type 0
IsLevelMet w i = (number : ℕ) → IsCalledAt w i (Some number) → IsMetAt w number

-- that of the innermost level was met
abbrev pub IsMetHere : {L : Type 0} → Walk L → Type 0
IsMetHere w = IsLevelMet w (calls_in w)

-- those of all levels were met
abbrev pub AreMet : {L : Type 0} → Walk L → Type 0
AreMet w = (i : ℕ) → i ≤ calls_in w → IsLevelMet w i

-- ---- the text of a level

-- the node of the cell whose text has that code
abbrev pub node_in : Option Body → Option ℕ
node_in None = None
node_in (Some body) = body.node

abbrev pub node_at : {L : Type 0} → Walk L → Option ℕ → Option ℕ
node_at w None = None
node_at w (Some k) = node_in (slice_get (bodies_of w) k)

-- the name of the procedure of that body: the one of its number
abbrev pub name_in : List Name → Option Body → Option Name
name_in entries None = None
name_in entries (Some body) = slice_get entries body.number

-- the cell's own code has none
abbrev pub name_at : {L : Type 0} → Walk L → Option ℕ → Option Name
name_at w None = None
name_at w (Some k) = name_in (runner_of w).entries (slice_get (bodies_of w) k)

abbrev pub name_of : {L : Type 0} → Walk L → Level → Option Name
name_of w level = name_at w level.body

-- the table of that code
abbrev pub IsTableIn : Option Body → Table → Type 0
IsTableIn None t = ⊥
IsTableIn (Some body) t = t ≡ body.table

abbrev pub IsTableAt : {L : Type 0} → Walk L → Option ℕ → Table → Type 0
IsTableAt w None t = t ≡ block_of w
IsTableAt w (Some k) t = IsTableIn (slice_get (bodies_of w) k) t

-- what stands at a place of the block that a table is of
abbrev pub TellsSpot : Table → ℕ → Spot → Type 0
TellsSpot t at spot = (b : Block) → IsTableOf t b → (es g : List Name) → IsTold es g b at spot.part spot.span

-- ---- the open calls

-- the place of the i-th open call in its caller's code, as that is written
abbrev pub IsPlaceOf : {L : Type 0} → Walk L → ℕ → ℕ → Type 0
IsPlaceOf w i at = (call : Call) × (slice_get (reverse (calls_of (runner_of w).cursor)) i ≡ Some call) × (at ≡ call.place)

-- the way in which code runs so many levels outside the innermost: each call that is uncalled turns round
abbrev pub way_outside : Direction → List Call → ℕ → Direction
way_outside d cs zero = d
way_outside d [] (suc k) = d
way_outside d (c ∷ cs) (suc k) = way_outside (caller_way c.uncalled d) cs k

-- the way in which the i-th level runs
abbrev pub way_at : {L : Type 0} → Walk L → ℕ → Direction
way_at w i = way_outside (direction_of (runner_of w).cursor) (calls_of (runner_of w).cursor) (calls_in w - i)

-- ---- the innermost level

-- The cursor's place in the innermost code is this one of it as it is written, and this is the way that it runs: in calls too.
pub record IsHere {L : Type 0} (w : Walk L) (level : Level) : Type 0 where
  pub written : IsWrittenAt (runner_of w).procedures (program_of w).book (runner_of w).cursor level.at
  pub faces : level.inverse ≡ faces_inverse (direction_of (runner_of w).cursor)

-- the innermost call is one of the procedure of this number
abbrev pub IsInnermostOf : List Call → ℕ → Type 0
IsInnermostOf [] number = ⊥
IsInnermostOf (c ∷ cs) number = c.procedure ≡ number

abbrev pub IsInnermost : {L : Type 0} → Walk L → ℕ → Type 0
IsInnermost w number = IsInnermostOf (calls_of (runner_of w).cursor) number

-- The innermost call runs this procedure of a text: of the body that is in effect, as it is written, the cursor's place is this one, the way that it runs, and
-- this part of a statement stands there in the text.
pub record IsThereInCall {L : Type 0} (w : Walk L) (level : Level) (p : Part) (s : Option Span) : Type 0 where
  pub number : ℕ
  pub call : IsInnermost w number
  pub procedure : Procedure
  pub in_effect : IsInEffect (runner_of w).entries (program_of w) (tree_of w) number level.node procedure
  pub place : place_in (runner_of w).procedures (program_of w).book (runner_of w).cursor
      ≡ faced (direction_of (runner_of w).cursor)
      (place_at Straight (code_of (runner_of w).entries (parameters_of procedure) (text_body procedure)) level.at)
  pub told : IsTold (runner_of w).entries (parameters_of procedure) (text_body procedure) level.at p s

-- The level is that; and this stands in the text at the place to which the steps that are taken have led: in the cell's own code while no call is open, else in
-- the body that the innermost call runs.
pub record TellsPlace {L : Type 0} (w : Walk L) (found : Level × Spot) : Type 0 where
  pub here : IsHere w found.0
  pub there : HasTable w → is_outside w ≡ true → (at : Place) → Is (runner_of w) (Inside (program_of w) at false) →
      IsThere (runner_of w) (program_of w) at found.1.part found.1.span
  pub called : IsWalking w → is_outside w ≡ false → IsThereInCall w found.0 found.1.part found.1.span

-- That is told of the innermost level of a walk, with the cell in whose text it stands.
pub record TellsStand {L : Type 0} (w : Walk L) (found : Level × Spot) : Type 0 where
  pub tells : TellsPlace w found
  pub code : IsCodeAt w (calls_in w) found.0.body
  pub node : found.0.node ≡ node_at w found.0.body

-- ---- each level

-- That is told of the i-th level, the outermost being 0: the innermost stands where the cursor does, and each other one where the i-th open call stands.
pub record TellsLevel {L : Type 0} (w : Walk L) (i : ℕ) (level : Level) : Type 0 where
  pub here : i ≡ calls_in w → IsHere w level
  pub call : i < calls_in w → IsPlaceOf w i level.at
  pub faces : level.inverse ≡ faces_inverse (way_at w i)
  pub code : IsCodeAt w i level.body
  pub node : level.node ≡ node_at w level.body

-- this stands there in the text
abbrev pub IsSpotAt : {L : Type 0} → Walk L → Level → Spot → Type 0
IsSpotAt w level spot = (t : Table) × IsTableAt w level.body t × TellsSpot t level.at spot
