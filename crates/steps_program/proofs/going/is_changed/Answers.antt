use Rattle.std.proofs.Common.{◌≡◌, ◌∙◌, ◌<◌, sym, arith}
use Rattle.std.specs.Prelude.{◌≢◌}
use Rattle.steps_walk.specs.Values.{found_value}
use Rattle.steps_walk.specs.Walk.{calls_in}
use Rattle.steps_program.specs.Kept.{value_in}
use Rattle.steps_program.proofs.Changing.{first, neither, another}
use Rattle.steps_program.proofs.going.is_changed.Goals as goal

pub returns-then-calls-depth : goal.returns-then-calls-depth
returns-then-calls-depth g c =
    let many = c.open_calls-calls.ensures in
    let less = c.if-calls-depth.true in
    let v = found_value c.value_of.result in
    let k = value_in c.args.old.now in
    let w = c.args.walk.now in
    let d = c.args.depth in
    record {
      value = v;
      has = record { sight = c.in-Some.sight; of = c.in-Some.ensures.is; is = c.value_of.ensures };
      is = first (calls_in w < d) ((calls_in w ≡ d) × (v ≢ k)) (omega (arith, many, less));
    }

pub returns-then-calls-depth-2 : goal.returns-then-calls-depth-2
returns-then-calls-depth-2 g c =
    let many = c.open_calls-calls.ensures in
    let more = c.if-calls-depth.false in
    let other = c.if-calls-depth-2.true in
    let v = found_value c.value_of.result in
    let k = value_in c.args.old.now in
    let w = c.args.walk.now in
    let d = c.args.depth in
    record {
      value = v;
      has = record { sight = c.in-Some.sight; of = c.in-Some.ensures.is; is = c.value_of.ensures };
      is = neither (calls_in w < d) (calls_in w ≡ d) (v ≢ k) (λ low. omega (arith, many, more, low)) (λ e. other (many ∙ e));
    }

pub returns : goal.returns
returns g c =
    let many = c.open_calls-calls.ensures in
    let same = c.if-calls-depth-2.false in
    let v = found_value c.value_of.result in
    let k = value_in c.args.old.now in
    let w = c.args.walk.now in
    let d = c.args.depth in
    record {
      value = v;
      has = record { sight = c.in-Some.sight; of = c.in-Some.ensures.is; is = c.value_of.ensures };
      is = another (calls_in w < d) (calls_in w ≡ d) (v ≡ k) (λ low. omega (arith, many, same, low)) c.is-is_old.result (sym many ∙ same)
          (λ t. sym (c.is-is_old.ensures.0 t), λ e. c.is-is_old.ensures.1 (sym e));
    }
