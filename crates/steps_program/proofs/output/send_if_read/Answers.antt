use Rattle.std.proofs.Common.{◌≡◌, List, [], codes, ◌∙◌, sym}
use Rattle.std.specs.Prelude.{slice_get}
use Rattle.exact_write.proofs.SendLemmas.{appends_none}
use Rattle.janus_meaning.specs.Syntax.{Name}
use Rattle.janus_meaning.specs.World.{listed}
use Rattle.kernel_text.specs.ValueTexts.{value_text}
use Rattle.cells_program.specs.Lines.{ended_line}
use Rattle.steps_walk.specs.Sights.{AreInSight}
use Rattle.steps_walk.specs.Values.{value_or_lent}
use Rattle.steps_walk.specs.Walk.{slots_in}
use Rattle.steps_program.specs.Told.{read_line}
use Rattle.steps_program.proofs.Reading.{hidden, not_there, there}
use Rattle.steps_program.proofs.Telling.{both}
use Rattle.steps_program.proofs.output.send_if_read.Goals as goal

pub returns-then-not-is_newest : goal.returns-then-not-is_newest
returns-then-not-is_newest g c =
    let s = slots_in c.args.walk.now in
    let ts = c.args.tokens.now in (
      [],
      λ names h. hidden s ts names c.args.name.now c.args.slot c.slot.result (c.slot.ensures names h) (sym c.eq-is_newest.ensures ∙ c.if-not-is_newest.true),
      appends_none (g.W.Write.contents c.args.writer.now),
    )

pub returns-then-not-stands_among : goal.returns-then-not-stands_among
returns-then-not-stands_among g c =
    let s = slots_in c.args.walk.now in
    let ts = c.args.tokens.now in (
      [],
      λ names h.
          not_there s ts names c.args.name.now c.args.slot c.slot.result (c.slot.ensures names h)
          (sym c.stands_among.ensures ∙ c.if-not-stands_among.true) (sym c.eq-is_newest.ensures ∙ c.if-not-is_newest.false),
      appends_none (g.W.Write.contents c.args.writer.now),
    )

pub returns : goal.returns
returns g c =
    let s = slots_in c.args.walk.now in
    let ts = c.args.tokens.now in
    let x = c.args.name.now in
    let k = c.args.slot in
    both (λ out. (names : List Name) → AreInSight c.args.sight.now names → out ≡ read_line s ts names x k)
    (g.W.Write.contents c.args.writer.now) (g.W.Write.contents c.send.new.writer) (g.W.Write.contents c.send_slot.new.writer)
    (codes "  ") (ended_line (value_text (x, value_or_lent (slice_get (listed s) k)))) c.send_slot.result
    (λ names h.
    there s ts names x k c.slot.result (c.slot.ensures names h)
    (sym c.stands_among.ensures ∙ c.if-not-stands_among.false) (sym c.eq-is_newest.ensures ∙ c.if-not-is_newest.false))
    c.in_ok-send.ensures.ok c.send_slot.ensures
