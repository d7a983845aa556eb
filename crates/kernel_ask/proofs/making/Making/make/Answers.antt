use Rattle.std.proofs.Common.{◌∙◌, ap, sym, arith}
use Rattle.janus_meaning.specs.Shape.{shape_of}
use Rattle.janus_meaning.specs.World.{World}
use Rattle.kernel_ask.proofs.making.Making.make.Goals as goal

pub make_next-requires-clause-names : goal.make_next-requires-clause-names
make_next-requires-clause-names g c =
    c.declared_names-names.ensures.shape ∙ ap (λ (w : World). shape_of w.store) (sym (c.world-world.ensures.idle c.requires.idle))

pub make_next-requires-clause-room : goal.make_next-requires-clause-room
make_next-requires-clause-room g c = c.loop-i.invariant.2

pub loop-i-preserved : goal.loop-i-preserved
loop-i-preserved g c = (
  λ o given u.
      c.make_next.ensures.goes o c.args.kernel.now.machine.state.past given (c.world-world.ensures.idle c.requires.idle) (c.loop-i.invariant.0 o given u),
  let was = c.loop-i.invariant.1 in
      let fewer = c.make_next.ensures.fewer in
      omega (arith, was, fewer),
  c.make_next.ensures.room,
  let was = c.loop-i.invariant.1 in
      let some = c.make_next.ensures.some c.if-not-make_next.false in
      omega (arith, was, some),
)
