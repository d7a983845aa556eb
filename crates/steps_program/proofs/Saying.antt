-- What is told by what there is to tell.
use Rattle.std.proofs.Common.{◌≡◌, ℕ, List, [], ◌++◌, refl, sym, subst}
use Rattle.std.specs.Prelude.{Option, Result, Ok, Err, OnOk}
use Rattle.std.specs.Io.KnownBytes.{Appends}
use Rattle.exact_write.proofs.SendLemmas.{appends_none, appends_join}
use Rattle.steps_walk.specs.Runner.{count_of}
use Rattle.steps_walk.specs.declared.walk.Walk.{Walk}
use Rattle.steps_walk.specs.Walk.{runner_of}
use Rattle.janus_meaning.specs.declared.fault.Fault.{Fault}
use Rattle.steps_program.specs.declared.going.Came.{Came}
use Rattle.steps_program.specs.declared.going.Came.TheVariants as came_to
use Rattle.steps_program.specs.declared.source.Source.{Source}
use Rattle.steps_program.specs.declared.talk.Reply.{Reply}
use Rattle.steps_program.specs.Told.{Tells, TellsStep, TellsCame, TellsMore, TellsReads, came_text}
use Rattle.steps_program.proofs.Telling.{Goes, told, more}

module _ {L : Type 0} (sources : List Source) (w : Walk L) (r k : Reply) (is : r ≡ k) (a b : Option (List ℕ)) where
  so : (xs : List ℕ) → Tells sources k w xs → Tells sources r w xs
  so xs t = subst (λ (x : Reply). Tells sources x w xs) (sym is) t

  module _ {E : Type 0} (res : Result (Unit {0}) E) where
    pub said : (xs : List ℕ) → Tells sources k w xs → OnOk res (Appends a b xs) → OnOk res (Goes (Tells sources r w) a b)
    said xs t h = told (Tells sources r w) a b xs res (so xs t) h

    pub said_so : OnOk res (Goes (Tells sources k w) a b) → OnOk res (Goes (Tells sources r w) a b)
    said_so h = more (Tells sources k w) (Tells sources r w) a b res so h

  pub said_nothing : Tells sources k w [] → Goes (Tells sources r w) a a
  said_nothing t = ([], so [] t, appends_none a)

-- where a command has led: the words, the step, and what is told behind it
module _ {L : Type 0} {E : Type 0} (sources : List Source) (w : Walk L) (to : Came) (a b c d : Option (List ℕ)) where
  pub came : (res : Result (Unit {0}) E) → Appends a b (came_text (count_of (runner_of w)) to) → Goes (TellsStep sources w) b c →
      OnOk res (Goes (TellsMore sources to w) c d) → OnOk res (Goes (TellsCame sources to w) a d)
  came (Ok u) first (step, tells, p) (xs, reads, q) = (
    came_text (count_of (runner_of w)) to ++ (step ++ xs),
    record { step = step; tells = tells; more = xs; reads = reads; is = refl },
    appends_join a b d (came_text (count_of (runner_of w)) to) (step ++ xs) first (appends_join b c d step xs p q),
  )
  came (Err e) first s m = tt

-- behind a fault the values are told that the step reads
pub at_fault : {L E : Type 0} (sources : List Source) (w : Walk L) (to : Came) (fault : Fault) (a b : Option (List ℕ)) (res : Result (Unit {0}) E) →
    to ≡ came_to.Fault fault → OnOk res (Goes (TellsReads sources w) a b) → OnOk res (Goes (TellsMore sources to w) a b)
at_fault sources w to fault a b (Ok u) is (xs, reads, p) = (xs, subst (λ (t : Came). TellsMore sources t w xs) (sym is) reads, p)
at_fault sources w to fault a b (Err e) is h = tt
