-- Places of the machine, with slots in place of names.
use Rattle.std.specs.Prelude.{List, [], ◌∷◌, length}
use Rattle.janus_meaning.specs.Fault.{Res, Fine, Bad}
use Rattle.janus_meaning.specs.Syntax.{Name, Proc, names_of, LocalInt, LocalStack}
use Rattle.janus_meaning.specs.Store.{find}
use Rattle.janus_meaning.specs.Moves.{Hole, InFirst, InSecond, InLocal, InCall}
use Rattle.janus_meaning.specs.Stepping.{Frame, Framed, Place, BeforeBlock, AfterBlock, BeforeOne, AfterOne, Next, To, End, Halt}
use Rattle.janus_slots.specs.Slots.{slot, slots_in, number_in, exp_in, stm_in, block_in, in_slots}

-- the names of a procedure's parameters
abbrev pub parameters_of : Res Proc → List Name
parameters_of (Fine p) = names_of p.params
parameters_of (Bad f) = []

-- the names in sight inside a hole, where those of g are in sight outside: a call sees its parameters alone
abbrev pub sight_inside : List Proc → Hole → List Name → List Name
sight_inside ps (InFirst w a t b) g = g
sight_inside ps (InSecond w a s b) g = g
sight_inside ps (InLocal x (LocalInt a b)) g = x ∷ g
sight_inside ps (InLocal x LocalStack) g = x ∷ g
sight_inside ps (InCall w f xs c) g = parameters_of (find f ps)

-- those in sight inside these open statements, where those of g are in sight outside of all
abbrev pub sight_at : List Proc → List Name → List Frame → List Name
sight_at ps g [] = g
sight_at ps g (Framed h before after ∷ fs) = sight_inside ps h (sight_at ps g fs)

-- a hole, where the names of g are in sight outside
abbrev pub hole_in : List Name → List Name → Hole → Hole
hole_in es g (InFirst w a t b) = InFirst w (exp_in g a) (block_in es g t) (exp_in g b)
hole_in es g (InSecond w a s b) = InSecond w (exp_in g a) (block_in es g s) (exp_in g b)
hole_in es g (InLocal x (LocalInt a b)) = InLocal (slot (length g)) (LocalInt (exp_in g a) (exp_in g b))
hole_in es g (InLocal x LocalStack) = InLocal (slot (length g)) LocalStack
hole_in es g (InCall w f xs c) = InCall w (number_in es f) (slots_in g xs) (in_slots c)

-- open statements, each with its block round it
abbrev pub frames_in : List Name → List Proc → List Name → List Frame → List Frame
frames_in es ps g [] = []
frames_in es ps g (Framed h before after ∷ fs) =
    Framed (hole_in es (sight_at ps g fs) h) (block_in es (sight_at ps g fs) before) (block_in es (sight_at ps g fs) after) ∷ frames_in es ps g fs

-- a place, where the names of g are in sight outside of all
abbrev pub place_in : List Name → List Proc → List Name → Place → Place
place_in es ps g (BeforeBlock b fs) = BeforeBlock (block_in es (sight_at ps g fs) b) (frames_in es ps g fs)
place_in es ps g (AfterBlock b fs) = AfterBlock (block_in es (sight_at ps g fs) b) (frames_in es ps g fs)
place_in es ps g (BeforeOne c before after fs) =
    BeforeOne (stm_in es (sight_at ps g fs) c) (block_in es (sight_at ps g fs) before) (block_in es (sight_at ps g fs) after) (frames_in es ps g fs)
place_in es ps g (AfterOne c before after fs) =
    AfterOne (stm_in es (sight_at ps g fs) c) (block_in es (sight_at ps g fs) before) (block_in es (sight_at ps g fs) after) (frames_in es ps g fs)

-- where a step leads
abbrev pub next_in : List Name → List Proc → List Name → Next → Next
next_in es ps g (To p s) = To (place_in es ps g p) (in_slots s)
next_in es ps g End = End
next_in es ps g (Halt f) = Halt f
