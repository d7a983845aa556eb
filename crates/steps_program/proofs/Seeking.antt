-- Where an expression was seen to hold or not.
use Rattle.std.proofs.Common.{◌≡◌, ℤ, Bool, false, List, ap, ◌∙◌, sym}
use Rattle.std.specs.Borrow.{Bor}
use Rattle.std.specs.Prelude.{Result, Ok, Err, IfOk, IfErr}
use Rattle.janus_meaning.specs.Fault.{Res}
use Rattle.janus_syntax.specs.declared.tree.Exp.{Exp}
use Rattle.steps_walk.specs.declared.level.Level.{Level}
use Rattle.steps_walk.specs.declared.walk.Walk.{Walk}
use Rattle.steps_walk.specs.Quiet.{IsNumberAt, IsSeenAlike}
use Rattle.steps_walk.specs.Values.{TellsHolding, holds_as}
use Rattle.steps_program.specs.declared.going.Came.{Came}
use Rattle.steps_program.specs.declared.going.Came.TheVariants as came
use Rattle.steps_program.specs.declared.going.Goal.TheVariants.{Holds}
use Rattle.steps_program.specs.declared.source.Source.{Source}
use Rattle.steps_program.specs.Going.{IsSeenFalse, IsSeenTrue, IsThere, TakesOne, TakesLast}

module _ {L : Type 0} where
  pub holding : (exp : Exp) (w : Walk L) (level : Level) (r : Res ℤ) (b : Bool) → IsNumberAt exp w level r → holds_as r ≡ b → TellsHolding exp w b
  holding exp w level r b h e = record {
    sight = h.sight;
    of = record { level = level; here = h.here; code = h.code; of = h.of };
    is = λ g a. sym e ∙ ap (λ (x : Res ℤ). holds_as x) (h.is g a);
  }

  pub not_there : (sources : List Source) (exp : Bor Exp) (w : Walk L) (level : Level) → IsSeenFalse exp.now w level → IsThere sources (Holds exp) w false
  not_there sources exp w level h = holding exp.now w level h.0 false h.1 h.2

  pub alike_false : (exp : Exp) (old new : Walk L) (level next : Level) → IsSeenAlike old level new next → IsSeenFalse exp old level →
      IsSeenFalse exp new next
  alike_false exp old new level next alike h = (h.0, alike exp h.0 h.1, h.2)

  -- a step, behind which it was looked
  module _ (sources : List Source) (exp : Bor Exp) (old new : Walk L) (one : TakesOne old new) where
    pub last_seen : (to : Came) → IsSeenTrue exp.now new to → TakesLast sources (Holds exp) old new to
    last_seen came.There h = (one, h)
    last_seen came.Memory h = (one, h)
    last_seen came.End h = absurd h
    last_seen came.Start h = absurd h
    last_seen (came.Fault fault) h = absurd h

    pub looked_ok : (r : Result Level Came) → IfOk r (IsSeenFalse exp.now new) → IfOk r (λ level. TakesOne old new × IsSeenFalse exp.now new level)
    looked_ok (Ok level) h = (one, h)
    looked_ok (Err to) h = h

    pub looked_err : (r : Result Level Came) → IfErr r (IsSeenTrue exp.now new) → IfErr r (TakesLast sources (Holds exp) old new)
    looked_err (Ok level) h = h
    looked_err (Err to) h = last_seen to h
