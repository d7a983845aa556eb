-- What there is to tell of a watch.
use Rattle.std.proofs.Common.{◌≡◌, ℕ, Bool, true, false, List}
use Rattle.std.specs.Borrow.{Bor}
use Rattle.steps_walk.specs.declared.walk.Walk.{Walk}
use Rattle.steps_walk.specs.Walk.{calls_in}
use Rattle.std.specs.Prelude.{nat_lt}
use Rattle.steps_program.specs.declared.going.Came.{Came}
use Rattle.steps_program.specs.declared.going.Came.TheVariants as came
use Rattle.steps_program.specs.declared.source.Source.{Source}
use Rattle.steps_program.specs.declared.talk.Reply.{Reply}
use Rattle.steps_program.specs.declared.talk.Reply.TheVariants as reply
use Rattle.steps_program.specs.Obeyed.{IsLedByChange, IsWatched, watched}

-- it is never told that there is no memory to keep the value
no_memory : (to : Came) (b : Bool) → reply.NoMemory ≡ watched to b → ⊥
no_memory came.There true e = cc
no_memory came.There false e = cc
no_memory came.End b e = cc
no_memory came.Start b e = cc
no_memory (came.Fault fault) b e = cc
no_memory came.Memory b e = cc

-- nor that it isn't in sight
not_in_sight : (to : Came) (b : Bool) → reply.NotInSight ≡ watched to b → ⊥
not_in_sight came.There true e = cc
not_in_sight came.There false e = cc
not_in_sight came.End b e = cc
not_in_sight came.Start b e = cc
not_in_sight (came.Fault fault) b e = cc
not_in_sight came.Memory b e = cc

module _ {L : Type 0} (sources : List Source) (onward : Bool) (name : Bor (List ℕ)) (old new : Walk L) where
  pub led_by : (r : Reply) → IsWatched sources onward name old new r → IsLedByChange sources onward name old new r
  led_by (reply.Came to) h = h
  led_by (reply.Sought to) h = h
  led_by (reply.Refused fault) h = h
  led_by reply.Unknown h = h
  led_by reply.NoMemory h = absurd (no_memory h.to (nat_lt (calls_in new) (calls_in old)) h.tells)
  led_by reply.NotInSight h = absurd (not_in_sight h.to (nat_lt (calls_in new) (calls_in old)) h.tells)
  led_by reply.CallLeft h = h
  led_by reply.Names h = h
  led_by reply.Place h = h
  led_by reply.Calls h = h
  led_by reply.Lines h = h
  led_by reply.Count h = h
  led_by reply.Nothing h = h
