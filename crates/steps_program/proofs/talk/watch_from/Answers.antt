use Rattle.std.proofs.Common.{◌≡◌, ℕ, false, true, refl, ap, ◌∙◌, subst}
use Rattle.std.specs.Prelude.{nat_lt}
use Rattle.janus_meaning.specs.Fault.{Res}
use Rattle.janus_meaning.specs.Store.{Val}
use Rattle.steps_walk.specs.Values.{IsValueHere}
use Rattle.steps_walk.specs.Walk.{calls_in}
use Rattle.steps_program.specs.declared.going.Goal.TheVariants.{Changes}
use Rattle.steps_program.specs.Obeyed.{IsLed, watched}
use Rattle.steps_program.proofs.Watching.{led_by}
use Rattle.steps_program.proofs.talk.watch_from.Goals as goal

never : false ≡ true → ⊥
never e = cc

pub returns-then-is_absent-clause-led : goal.returns-then-is_absent-clause-led
returns-then-is_absent-clause-led g c =
    (subst (λ (v : Res Val). IsValueHere c.args.walk.now c.args.name.now v) (c.if-is_absent.ensures.0 refl) c.requires.value, refl)

pub returns-clause-led : goal.returns-clause-led
returns-clause-led g c =
    let old = c.args.walk.now in
    let new = c.go-came.new.walk in
    let came = c.go-came.result in
    let sources = c.args.sources.now in
    led_by sources c.args.is_onward c.args.name old new c.watched.result (record {
      kept = c.args.old;
      value = c.requires.value;
      in_sight = λ e. never (c.if-is_absent.ensures.1 e);
      to = came;
      led = subst (λ (n : ℕ). IsLed sources c.args.is_onward (Changes c.args.name n c.args.old) old new came) c.open_calls-depth.ensures c.go-came.ensures.led;
      tells = c.watched.ensures
          ∙ ap (λ (n : ℕ). watched came (nat_lt n c.open_calls-depth.result)) c.open_calls.ensures
          ∙ ap (λ (n : ℕ). watched came (nat_lt (calls_in new) n)) c.open_calls-depth.ensures;
    })
