use Rattle.std.proofs.Common.{refl, sym, subst}
use Rattle.janus_syntax.specs.declared.tree.Exp.{Exp}
use Rattle.steps_walk.proofs.Moving.{further}
use Rattle.steps_program.specs.Going.{IsSeenFalse, Begun, Further}
use Rattle.steps_program.proofs.Seeking.{not_there}
use Rattle.steps_program.proofs.going.seek.Goals as goal

pub returns-in-Err-clause-goes : goal.returns-in-Err-clause-goes
returns-in-Err-clause-goes g c = record { mid = c.args.walk.now; passes = Begun; last = c.in-Err.ensures.err; moves = c.in-Err.ensures.moves }

pub loop-next-init : goal.loop-next-init
loop-next-init g c =
    let new = c.step_first.new.walk in
    record {
      walks = c.in-Ok.ensures.walks;
      moves = c.in-Ok.ensures.moves;
      passes = λ e is.
          Further c.args.walk.now new Begun c.in-Ok.ensures.ok.0
          (not_there c.args.sources.now e new c.in-Ok.level (subst (λ (x : Exp). IsSeenFalse x new c.in-Ok.level) (sym is) c.in-Ok.ensures.ok.1));
      seen = c.in-Ok.ensures.ok.1;
    }

pub loop-next-preserved : goal.loop-next-preserved
loop-next-preserved g c =
    let mid = c.loop-next.walk in
    let new = c.step_further.new.walk in
    let led = c.in-Ok-step_further.ensures in
    record {
      walks = led.walks;
      moves = further c.args.walk.now mid new c.loop-next.invariant.moves led.moves;
      passes = λ e is.
          Further mid new (c.loop-next.invariant.passes e is) led.ok.0
          (not_there c.args.sources.now e new c.in-Ok-step_further.next
          (subst (λ (x : Exp). IsSeenFalse x new c.in-Ok-step_further.next) (sym is) led.ok.1));
      seen = led.ok.1;
    }

pub returns-in-Err-step_further-clause-moves : goal.returns-in-Err-step_further-clause-moves
returns-in-Err-step_further-clause-moves g c =
    further c.args.walk.now c.loop-next.walk c.step_further.new.walk c.loop-next.invariant.moves c.in-Err-step_further.ensures.moves

pub returns-in-Err-step_further-clause-goes : goal.returns-in-Err-step_further-clause-goes
returns-in-Err-step_further-clause-goes g c = record {
  mid = c.loop-next.walk;
  passes = c.loop-next.invariant.passes c.args.exp refl;
  last = c.in-Err-step_further.ensures.err;
  moves = further c.args.walk.now c.loop-next.walk c.step_further.new.walk c.loop-next.invariant.moves c.in-Err-step_further.ensures.moves;
}
