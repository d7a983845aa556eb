use Rattle.std.proofs.Common.{◌∙◌, ◌&&◌, ℕ, ap}
use Rattle.std.specs.Prelude.{Option, Some, nat_eq}
use Rattle.std.specs.Option.{option_eq}
use Rattle.steps_program.specs.Places.{line_at, source_of}
use Rattle.steps_program.proofs.going.is_on_line.Goals as goal

pub returns-then-not-is_stop : goal.returns-then-not-is_stop
returns-then-not-is_stop g c =
    let line = line_at (source_of c.args.sources.now c.in-Some.level.node) c.in-Some.spot.span in
    record {
      told = (c.in-Some.level, c.in-Some.spot);
      stands = record { tells = c.in-Some.ensures.tells; code = c.in-Some.ensures.code; node = c.in-Some.ensures.node };
      is = ap (λ b. b && option_eq nat_eq line (Some c.args.line)) c.if-not-is_stop.ensures;
    }

pub returns : goal.returns
returns g c =
    let line = line_at (source_of c.args.sources.now c.in-Some.level.node) c.in-Some.spot.span in
    record {
      told = (c.in-Some.level, c.in-Some.spot);
      stands = record { tells = c.in-Some.ensures.tells; code = c.in-Some.ensures.code; node = c.in-Some.ensures.node };
      is = c.eq.ensures ∙ ap (λ (o : Option ℕ). option_eq nat_eq o (Some c.args.line)) c.line_at-here.ensures
          ∙ ap (λ b. b && option_eq nat_eq line (Some c.args.line)) c.if-not-is_stop.ensures;
    }
