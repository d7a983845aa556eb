use Rattle.std.proofs.Common.{◌+◌, [], ◌∷◌, ◌++◌, string_bytes, ap, ◌∙◌, sym, subst, arith}
use Rattle.exact_write.proofs.SendLemmas.{appends_none}
use Rattle.steps_walk.proofs.Moving.{stays, further}
use Rattle.std.specs.Prelude.{◌≢◌}
use Rattle.steps_program.specs.Commands.{Quit, asked_of}
use Rattle.steps_program.specs.Transcript.{Silent, ReadsAll, ReadsLine, ReadsSome}
use Rattle.steps_program.proofs.Talking.{one_more, one_cut, all_said, all_out, ReadsSoFar, none_read, read_on, all_read, quit_read, many_read, some_read}
use Rattle.steps_program.proofs.Telling.{failed}
use Rattle.steps_program.proofs.program.obey_all.Goals as goal

pub loop-init : goal.loop-init
loop-init g c = record {
  walks = c.requires;
  moves = stays c.args.walk.now;
  talks = ([], ([], none_read (g.R.Read.remaining c.args.reader.now), Silent), appends_none (g.W.Write.contents c.args.writer.now));
}

pub returns-in_err-some-clause-err : goal.returns-in_err-some-clause-err
returns-in_err-some-clause-err g c =
    let input = g.R.Read.remaining c.args.reader.now in
    let left = g.R.Read.remaining c.loop.reader in
    failed c.from_residual.result
    (all_out c.args.sources.now c.args.walk.now c.loop.walk (ReadsSoFar input left c.loop.counter) (ReadsSome input)
    (λ lines h. some_read input left c.loop.counter lines h) (g.W.Write.contents c.args.writer.now) (g.W.Write.contents c.loop.writer)
    c.loop.invariant.talks)

pub returns-in_err-obey_one-clause-moves : goal.returns-in_err-obey_one-clause-moves
returns-in_err-obey_one-clause-moves g c =
    further c.args.walk.now c.loop.walk c.obey_one.new.walk c.loop.invariant.moves c.obey_one.ensures.moves

pub returns-then-not-some-clause-ok : goal.returns-then-not-some-clause-ok
returns-then-not-some-clause-ok g c =
    let input = g.R.Read.remaining c.args.reader.now in
    let left = g.R.Read.remaining c.loop.reader in
    let new = g.R.Read.remaining c.read_line.new.reader in
    let line = string_bytes c.read_line.new.line in
    let one = subst (λ b. ReadsLine b left new line) c.if-not-some.true c.in_ok-some.ensures in
    all_said c.args.sources.now c.args.walk.now c.loop.walk (ReadsSoFar input left c.loop.counter) (ReadsAll input)
    (λ lines h. all_read lines line c.loop.counter input left new one h)
    (g.W.Write.contents c.args.writer.now) (g.W.Write.contents c.loop.writer) c.loop.invariant.talks

pub returns-then-is_quit-clause-ok : goal.returns-then-is_quit-clause-ok
returns-then-is_quit-clause-ok g c =
    let input = g.R.Read.remaining c.args.reader.now in
    let left = g.R.Read.remaining c.loop.reader in
    let new = g.R.Read.remaining c.read_line.new.reader in
    let line = string_bytes c.read_line.new.line in
    let one = subst (λ b. ReadsLine b left new line) c.if-not-some.false c.in_ok-some.ensures in
    let asks = c.read-command.ensures ∙ ap asked_of c.as_str.ensures.value in
    let quit = sym asks ∙ c.is_quit.ensures.0 c.if-is_quit.true in
    all_said c.args.sources.now c.args.walk.now c.loop.walk (ReadsSoFar input left c.loop.counter) (ReadsAll input)
    (λ lines h. quit_read lines line c.loop.counter input left new quit one h)
    (g.W.Write.contents c.args.writer.now) (g.W.Write.contents c.loop.writer) c.loop.invariant.talks

pub returns-in_err-obey_one-clause-err : goal.returns-in_err-obey_one-clause-err
returns-in_err-obey_one-clause-err g c =
    let input = g.R.Read.remaining c.args.reader.now in
    let left = g.R.Read.remaining c.loop.reader in
    let new = g.R.Read.remaining c.read_line.new.reader in
    let line = string_bytes c.read_line.new.line in
    let one = subst (λ b. ReadsLine b left new line) c.if-not-some.false c.in_ok-some.ensures in
    let asks = c.read-command.ensures ∙ ap asked_of c.as_str.ensures.value in
    let on : asked_of line ≢ Quit = λ quit. (let asked = c.is_quit.ensures.1 (asks ∙ quit) in let other = c.if-is_quit.false in cc) in
    failed c.from_residual-in_err-obey_one.result
    (one_cut c.args.sources.now c.args.walk.now c.loop.walk c.obey_one.new.walk line c.read-command.result asks
    (ReadsSoFar input left c.loop.counter) (ReadsSome input)
    (λ lines h. some_read input new (c.loop.counter + 1) (lines ++ line ∷ []) (read_on lines line c.loop.counter input left new on one h))
    (g.W.Write.contents c.args.writer.now) (g.W.Write.contents c.loop.writer) (g.W.Write.contents c.obey_one.new.writer)
    c.loop.invariant.talks c.in_err-obey_one.ensures.err)

pub loop-preserved : goal.loop-preserved
loop-preserved g c =
    let input = g.R.Read.remaining c.args.reader.now in
    let left = g.R.Read.remaining c.loop.reader in
    let new = g.R.Read.remaining c.read_line.new.reader in
    let line = string_bytes c.read_line.new.line in
    let one = subst (λ b. ReadsLine b left new line) c.if-not-some.false c.in_ok-some.ensures in
    let asks = c.read-command.ensures ∙ ap asked_of c.as_str.ensures.value in
    let on : asked_of line ≢ Quit = λ quit. (let asked = c.is_quit.ensures.1 (asks ∙ quit) in let other = c.if-is_quit.false in cc) in
    record {
      walks = c.obey_one.ensures.walks;
      moves = further c.args.walk.now c.loop.walk c.obey_one.new.walk c.loop.invariant.moves c.obey_one.ensures.moves;
      talks = one_more c.args.sources.now c.args.walk.now c.loop.walk c.obey_one.new.walk line c.read-command.result asks
          (ReadsSoFar input left c.loop.counter) (ReadsSoFar input new (c.loop.counter + 1))
          (λ lines h. read_on lines line c.loop.counter input left new on one h)
          (g.W.Write.contents c.args.writer.now) (g.W.Write.contents c.loop.writer) (g.W.Write.contents c.obey_one.new.writer)
          c.loop.invariant.talks c.in_ok-obey_one.ensures.ok;
    }

pub returns-clause-ok : goal.returns-clause-ok
returns-clause-ok g c =
    let input = g.R.Read.remaining c.args.reader.now in
    let left = g.R.Read.remaining c.loop.reader in
    let done = c.loop-test.false in
    let low = c.loop.auto.counter-end in
    all_said c.args.sources.now c.args.walk.now c.loop.walk (ReadsSoFar input left c.loop.counter) (ReadsAll input)
    (λ lines h. many_read lines [] c.loop.counter input left (omega (arith, done, low)) h)
    (g.W.Write.contents c.args.writer.now) (g.W.Write.contents c.loop.writer) c.loop.invariant.talks
