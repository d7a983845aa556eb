use Rattle.std.proofs.Common.{ℕ, List, [], ◌≤◌, ◌<◌, length, map, arith, refl, subst}
use Rattle.std.specs.Borrow.{Bor}
use Rattle.std.specs.Io.KnownBytes.{Appends}
use Rattle.exact_write.proofs.SendLemmas.{appends_none}
use Rattle.steps_walk.specs.Walk.{slots_in}
use Rattle.steps_program.proofs.Sighting.{one_more, all_told, name, name_at, same_size}
use Rattle.steps_program.proofs.output.send_sight.Goals as goal

pub loop-slot-init : goal.loop-slot-init
loop-slot-init g c = appends_none (g.W.Write.contents c.args.writer.now)

pub loop-slot-preserved : goal.loop-slot-preserved
loop-slot-preserved g c =
    let bs = c.args.names.now in
    let names = map (λ (b : Bor (List ℕ)). b.now) bs in
    let none : Bor (List ℕ) = record { ref_ptr = (0, 0); now = [] } in
    let slot = c.loop-slot.slot in
    let size = same_size bs names refl in
    let within : slot < length bs = c.loop-slot-test.true in
    let among : slot < length names = omega (arith, size, within) in
    one_more (slots_in c.args.walk.now) (g.W.Write.contents c.args.writer.now) (g.W.Write.contents c.loop-slot.writer)
    (g.W.Write.contents c.send_slot.new.writer) names slot (name bs names refl slot none within) among (name_at bs names refl slot none within)
    c.loop-slot.invariant c.in_ok-send_slot.ensures

pub returns : goal.returns
returns g c =
    let names = map (λ (b : Bor (List ℕ)). b.now) c.args.names.now in
    let size = same_size c.args.names.now names refl in
    let done = c.loop-slot-test.false in
    let past : length names ≤ c.loop-slot.slot = omega (arith, size, done) in
    subst (Appends (g.W.Write.contents c.args.writer.now) (g.W.Write.contents c.loop-slot.writer))
    (all_told (slots_in c.args.walk.now) names c.loop-slot.slot past) c.loop-slot.invariant
