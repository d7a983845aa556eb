use Rattle.std.proofs.Common.{ap, arith}
use Rattle.std.specs.Prelude.{reverse}
use Rattle.janus_meaning.specs.World.{size_of}
use Rattle.janus_frames.specs.FramesState.{FramesState}
use Rattle.janus_frames.proofs.Sight as sight
use Rattle.janus_frames.proofs.frames.Frames.len.Goals as goal

pub returns-clause-names : goal.returns-clause-names
returns-clause-names g c =
    let a = c.self.inside in
    let m = a.memory in
    let t = a.top in
    let cs = reverse a.calls.items in
    let i = c.self.invariant.inside in
    let n = sight.in-sight m t cs i in
    let s = ap (λ (h : FramesState). size_of h.slots) c.self.view_is in
    omega (arith, n, s, c.base.ensures)
