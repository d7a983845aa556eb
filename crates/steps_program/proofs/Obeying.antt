-- A command moves the walk in its run, if at all.
use Rattle.std.proofs.Common.{◌≡◌, ℕ, Bool, true, false, List, ap, ◌∙◌, sym, subst}
use Rattle.std.specs.Borrow.{Bor}
use Rattle.steps_walk.specs.declared.walk.Walk.{Walk}
use Rattle.steps_walk.specs.Walk.{runner_of, program_of, Moves, KeepsMet}
use Rattle.steps_walk.specs.runner.Runner.{Runner}
use Rattle.steps_walk.specs.Runner.{Runs, count_of, steps_of}
use Rattle.steps_walk.specs.Walking.{StepsBack}
use Rattle.steps_walk.proofs.Moving.{stays, further}
use Rattle.steps_program.specs.declared.command.Command.{Command}
use Rattle.steps_program.specs.declared.command.Command.TheVariants.{Step, Back, Next, Finish, To, BackTo, ToFault, ToEnd, ToStart, Until, BackUntil, Watch}
use Rattle.steps_program.specs.declared.command.Command.TheVariants.{BackWatch, Show, Where, Calls, Count, Quit, Nothing, Unknown}
use Rattle.steps_program.specs.declared.command.Command.TheVariants as command
use Rattle.steps_program.specs.declared.going.Came.{Came}
use Rattle.steps_program.specs.declared.source.Source.{Source}
use Rattle.steps_program.specs.declared.talk.Reply.{Reply}
use Rattle.steps_program.specs.declared.talk.Reply.TheVariants as reply
use Rattle.steps_program.specs.Counted.{GoesOn, GoesBack, ComesBack, came_back}
use Rattle.steps_program.specs.Obeyed.{Obeys, Comes, Seeks, IsLedUntil, IsLedByChange}

module _ {L : Type 0} (sources : List Source) (old new : Walk L) where
  left : new ≡ old → Moves old new
  left e = subst (λ (w : Walk L). Moves old w) (sym e) (stays old)

  comes : (goes : Came → Type 0) → ((to : Came) → goes to → Moves old new) → (r : Reply) → Comes goes r → Moves old new
  comes goes f (reply.Came to) h = f to h
  comes goes f (reply.Sought to) h = absurd h
  comes goes f (reply.Refused fault) h = absurd h
  comes goes f reply.Unknown h = absurd h
  comes goes f reply.NoMemory h = absurd h
  comes goes f reply.NotInSight h = absurd h
  comes goes f reply.CallLeft h = absurd h
  comes goes f reply.Names h = absurd h
  comes goes f reply.Place h = absurd h
  comes goes f reply.Calls h = absurd h
  comes goes f reply.Lines h = absurd h
  comes goes f reply.Count h = absurd h
  comes goes f reply.Nothing h = absurd h

  seeks : (goes : Came → Type 0) → ((to : Came) → goes to → Moves old new) → (r : Reply) → Seeks goes r → Moves old new
  seeks goes f (reply.Sought to) h = f to h
  seeks goes f (reply.Came to) h = absurd h
  seeks goes f (reply.Refused fault) h = absurd h
  seeks goes f reply.Unknown h = absurd h
  seeks goes f reply.NoMemory h = absurd h
  seeks goes f reply.NotInSight h = absurd h
  seeks goes f reply.CallLeft h = absurd h
  seeks goes f reply.Names h = absurd h
  seeks goes f reply.Place h = absurd h
  seeks goes f reply.Calls h = absurd h
  seeks goes f reply.Lines h = absurd h
  seeks goes f reply.Count h = absurd h
  seeks goes f reply.Nothing h = absurd h

  until : (onward : Bool) (text : List ℕ) (r : Reply) → IsLedUntil sources onward text old new r → Moves old new
  until onward text (reply.Sought to) h = h.2.moves
  until onward text (reply.Came to) h = absurd h
  until onward text (reply.Refused fault) h = left h.1
  until onward text reply.Unknown h = absurd h
  until onward text reply.NoMemory h = absurd h
  until onward text reply.NotInSight h = absurd h
  until onward text reply.CallLeft h = absurd h
  until onward text reply.Names h = absurd h
  until onward text reply.Place h = absurd h
  until onward text reply.Calls h = absurd h
  until onward text reply.Lines h = absurd h
  until onward text reply.Count h = absurd h
  until onward text reply.Nothing h = absurd h

  change : (onward : Bool) (name : Bor (List ℕ)) (r : Reply) → IsLedByChange sources onward name old new r → Moves old new
  change onward name (reply.Sought to) h = h.led.moves
  change onward name (reply.Came to) h = h.led.moves
  change onward name (reply.Refused fault) h = h.led.moves
  change onward name reply.Unknown h = h.led.moves
  change onward name reply.NoMemory h = left h
  change onward name reply.NotInSight h = left h.1
  change onward name reply.CallLeft h = h.led.moves
  change onward name reply.Names h = h.led.moves
  change onward name reply.Place h = h.led.moves
  change onward name reply.Calls h = h.led.moves
  change onward name reply.Lines h = h.led.moves
  change onward name reply.Count h = h.led.moves
  change onward name reply.Nothing h = h.led.moves

  pub obeyed : (command : Command) (r : Reply) → Obeys sources command old new r → Moves old new
  obeyed (Step n) r h = comes _ (λ to g. g.moves) r h
  obeyed (Back n) r h = comes _ (λ to g. g.back.moves) r h
  obeyed Next r h = comes _ (λ to g. g.moves) r h
  obeyed Finish r h = comes _ (λ to g. g.moves) r h
  obeyed (To line) r h = seeks _ (λ to g. g.moves) r h
  obeyed (BackTo line) r h = seeks _ (λ to g. g.moves) r h
  obeyed ToFault r h = comes _ (λ to g. g.moves) r h
  obeyed ToEnd r h = comes _ (λ to g. g.moves) r h
  obeyed ToStart r h = comes _ (λ to g. g.back.moves) r h
  obeyed (Until text) r h = until true text.now r h
  obeyed (BackUntil text) r h = until false text.now r h
  obeyed (Watch name) r h = change true name r h
  obeyed (BackWatch name) r h = change false name r h
  obeyed Show r h = left h.1
  obeyed Where r h = left h.1
  obeyed Calls r h = left h.1
  obeyed command.List r h = left h.1
  obeyed Count r h = left h.1
  obeyed Quit r h = left h.1
  obeyed Nothing r h = left h.1
  obeyed Unknown r h = left h.1

-- ---- bodies that are met where the walk was led to

module _ {L : Type 0} (a b c : Walk L) (met : KeepsMet b c) where
  pub led : Moves a b → Moves a c
  led h = further a b c h met.moves

  pub led_on : (n : ℕ) (to : Came) → GoesOn n a b to → GoesOn n a c to
  led_on n to h = record {
    moves = led h.moves;
    told = h.told;
    runs = subst (λ (r : Runner L). Runs (program_of a) n h.told (runner_of a) r) (sym met.runner) h.runs;
    led = h.led;
    counted = ap (λ (r : Runner L). steps_of r) met.runner ∙ h.counted;
  }

  pub led_back : (n : ℕ) → GoesBack n a b → GoesBack n a c
  led_back n h = record {
    moves = led h.moves;
    goes = subst (λ (r : Runner L). StepsBack (program_of a) n (runner_of a) r) (sym met.runner) h.goes;
    counted = ap (λ (r : Runner L). steps_of r) met.runner ∙ h.counted;
  }

  pub come_back : (n : ℕ) (to : Came) → ComesBack n a b to → ComesBack n a c to
  come_back n to h = record {
    back = led_back n h.back;
    led = h.led ∙ ap (λ (r : Runner L). came_back (count_of r)) (sym met.runner);
  }
