use Rattle.std.proofs.Common.{◌≡◌, length, arith}
use Rattle.janus_code.proofs.turned.backward.Goals as goal

pub returns-clause-backward : goal.returns-clause-backward
returns-clause-backward c =
    let v = c.loop-i.invariant in
    let o = c.requires.order in
    let w = c.requires.within in
    let end : c.len.result ≡ length c.loop-i.others.items = omega (arith, c.loop-i.others.ok.0) in
    let i : c.loop-i.i ≡ c.args.block.start = omega (arith, v.above) in
    record {
      order = omega (arith, v.as_many);
      within = omega arith;
      as_many = omega (arith, v.as_many);
      backward = λ j lt. v.backward j (omega arith);
    }
