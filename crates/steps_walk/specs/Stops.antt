-- At which places of code a statement begins or one of its tests is made.
use Rattle.std.specs.Prelude.{◌≡◌, Bool, true, false, not, ◌&&◌, List, [], ◌∷◌}
use Rattle.janus_meaning.specs.Syntax.{Name}
use Rattle.janus_meaning.specs.Moves.{Hole, InFirst, InSecond, InLocal, InCall}
use Rattle.janus_meaning.specs.Stepping.{Framed, Place, BeforeBlock, AfterBlock, BeforeOne, AfterOne, mirror}
use Rattle.janus_places.specs.Spots as spots
use Rattle.janus_places.specs.Standing.{IsAt}
use Rattle.janus_places.specs.declared.part.Form.{Form}
use Rattle.janus_places.specs.declared.part.Form.TheVariants.{Skip, Assign, AssignElement, Push, Pop, Swap, If, Loop, LocalInt, LocalStack, Call, Uncall}
use Rattle.janus_places.specs.declared.part.Part.{Part}
use Rattle.janus_places.specs.declared.part.Part.TheVariants.{Begin, End, Before, After, Enters, Leaves}
use Rattle.steps_walk.specs.declared.level.Level.{Level}
use Rattle.steps_walk.specs.declared.level.Spot.{Spot}
use Rattle.steps_walk.specs.declared.walk.Walk.{Walk}
use Rattle.steps_walk.specs.Standing.{TellsPlace}

-- whether a statement has a test or a local at its end
abbrev pub has_end : Form → Bool
has_end Skip = false
has_end Assign = false
has_end AssignElement = false
has_end Push = false
has_end Pop = false
has_end Swap = false
has_end If = true
has_end Loop = true
has_end LocalInt = true
has_end LocalStack = true
has_end Call = false
has_end Uncall = false

-- Whether the next step is the first or the last, begins a statement, or makes its last test, where code runs as it is written, or where its inverse does,
-- in which a statement begins behind its end.
abbrev pub is_stop : Bool → Part → Bool
is_stop inverse Begin = true
is_stop inverse End = true
is_stop inverse (Before form) = not inverse
is_stop inverse (After form) = inverse
is_stop inverse (Leaves form branch) = not inverse && has_end form
is_stop inverse (Enters form branch) = inverse && has_end form

-- whether the next step of a walk is one of those, by what is told of its place
pub record TellsStop {L : Type 0} (w : Walk L) (stops : Bool) : Type 0 where
  pub told : Level × Spot
  pub tells : TellsPlace w told
  pub is : stops ≡ is_stop told.0.inverse told.1.part

-- ---- what that is in the meaning

-- whether a test is made, or a local ends, behind a block in this hole
abbrev pub is_ended : Hole → Bool
is_ended (InFirst w a t b) = true
is_ended (InSecond w a s b) = true
is_ended (InLocal x k) = true
is_ended (InCall w f xs c) = false

-- whether a place of the meaning is before a statement, behind a block at whose end a test is made or a local ends, or at the beginning or the end of all
abbrev pub is_stop_place : Place → Bool
is_stop_place (BeforeOne c before after fs) = true
is_stop_place (AfterOne c before after fs) = false
is_stop_place (BeforeBlock b []) = true
is_stop_place (BeforeBlock b (f ∷ fs)) = false
is_stop_place (AfterBlock b []) = true
is_stop_place (AfterBlock b (Framed h before after ∷ fs)) = is_ended h

-- What stands at a place of code as it is written is a stop just where the place is one, and where the inverse runs, just where its mirror is one.
abbrev pub StopsAreMeant : Type 0
StopsAreMeant = (es g : List Name) (spot : spots.Spot) (p : Place) → IsAt es g spot p →
    (is_stop false (spots.part_of spot) ≡ is_stop_place p) × (is_stop true (spots.part_of spot) ≡ is_stop_place (mirror p))
