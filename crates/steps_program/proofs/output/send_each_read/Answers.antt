use Rattle.std.proofs.Common.{ℕ, List, [], ◌++◌, ◌<◌, length, ap₂, ◌∙◌, sym, arith}
use Rattle.std.specs.Borrow.{Bor}
use Rattle.exact_write.proofs.SendLemmas.{appends_none, appends_join}
use Rattle.steps_walk.specs.Walk.{slots_in}
use Rattle.steps_program.proofs.Reading.{none_told, next_told, all_told}
use Rattle.steps_program.proofs.Sighting.{name, name_at, same_size}
use Rattle.steps_program.proofs.output.send_each_read.Goals as goal

pub loop-slot-init : goal.loop-slot-init
loop-slot-init g c =
    ([], λ names h e. none_told (slots_in c.args.walk.now) c.args.tokens.now names names 0, appends_none (g.W.Write.contents c.args.writer.now))

pub loop-slot-preserved : goal.loop-slot-preserved
loop-slot-preserved g c =
    let bs = c.args.names.now in
    let none : Bor (List ℕ) = record { ref_ptr = (0, 0); now = [] } in
    let slot = c.loop-slot.slot in
    let within : slot < length bs = c.loop-slot-test.true in
    let before = c.loop-slot.invariant in
    let line = c.in_ok-send_if_read.ensures in (
      before.0 ++ line.0,
      λ names h e.
          let size = same_size bs names e in
          ap₂ (λ (xs ys : List ℕ). xs ++ ys) (before.1 names h e) (line.1 names h)
          ∙ sym (next_told (slots_in c.args.walk.now) c.args.tokens.now names names slot (name bs names e slot none within)
          (omega (arith, size, within)) (name_at bs names e slot none within)),
      appends_join (g.W.Write.contents c.args.writer.now) (g.W.Write.contents c.loop-slot.writer) (g.W.Write.contents c.send_if_read.new.writer)
          before.0 line.0 before.2 line.2,
    )

pub returns : goal.returns
returns g c =
    let before = c.loop-slot.invariant in (
      before.0,
      λ names h e.
          let size = same_size c.args.names.now names e in
          let past = c.loop-slot-test.false in
          before.1 names h e
          ∙ all_told (slots_in c.args.walk.now) c.args.tokens.now names names c.loop-slot.slot (omega (arith, size, past)),
      before.2,
    )
