use Rattle.std.proofs.Common.{◌≡◌, ◌∙◌, ◌+◌, ◌-◌, ◌≤◌, ◌++◌, true, not, ap, subst, sym, length, take, arith, length-append}
use Rattle.std.specs.Prelude.{is_ok, if◌then◌else◌}
use Rattle.std.specs.Io.KnownBytes.{Consumes}
use Rattle.std.proofs.KnownBytes.{Consumes-trans}
use Rattle.std.proofs.lemmas.List.{length-take}
use Rattle.cells_program.proofs.InputLemmas.{takes_more}
use Rattle.cells_program.proofs.input.read_octets.Goals as goal
use Rattle.cells_program.proofs.input.read_octets.Goals.{then-left-lt8192, else-left-lt8192}

pub returns-then-count-left-clause-taken : goal.returns-then-count-left-clause-taken
returns-then-count-left-clause-taken g c =
    takes_more _ _ _ c.loop-read.octets.items c.read.new.buf c.in-Ok.count _ c.loop-read.invariant.2 c.in-Ok.ensures.bytes.0
    (omega (arith, c.if-count-left.true, c.len.ensures, c.loop-read.invariant.1))

pub returns-then-is_err-clause-taken : goal.returns-then-is_err-clause-taken
returns-then-is_err-clause-taken g c =
    let small : c.if-left-lt8192.end ≤ 16777216 - c.len.result + 1 =
    elim c.if-left-lt8192.branch [ then-left-lt8192 w ↦ omega arith | else-left-lt8192 w ↦ omega arith ] in
    let within : length c.loop-read.octets.items + c.in-Ok.count ≤ 16777217 =
    omega (
      arith,
      small,
      c.in-Ok.ensures.bound.0,
      c.read.auto.buf,
      length-take c.if-left-lt8192.end c.loop-read.room,
      c.len.ensures,
      c.loop-read.invariant.1,
    ) in
    takes_more _ _ _ c.loop-read.octets.items c.read.new.buf c.in-Ok.count _ c.loop-read.invariant.2 c.in-Ok.ensures.bytes.0 within

pub returns-then-is_err-clause-within : goal.returns-then-is_err-clause-within
returns-then-is_err-clause-within g c =
    let small : c.if-left-lt8192.end ≤ 16777216 - c.len.result + 1 =
    elim c.if-left-lt8192.branch [ then-left-lt8192 w ↦ omega arith | else-left-lt8192 w ↦ omega arith ] in
    let within : length c.loop-read.octets.items + c.in-Ok.count ≤ 16777216 =
    omega (
      arith,
      small,
      c.in-Ok.ensures.bound.0,
      c.read.auto.buf,
      length-take c.if-left-lt8192.end c.loop-read.room,
      c.len.ensures,
      c.loop-read.invariant.1,
      c.if-count-left.false,
    ) in
    λ other. takes_more _ _ _ c.loop-read.octets.items c.read.new.buf c.in-Ok.count _ c.loop-read.invariant.2 c.in-Ok.ensures.bytes.0 within

pub loop-read-preserved : goal.loop-read-preserved
loop-read-preserved g c =
    let xs = c.loop-read.octets.items in
    let ys = take c.in-Ok.count c.read.new.buf in
    let small : c.if-left-lt8192.end ≤ 16777216 - c.len.result + 1 =
    elim c.if-left-lt8192.branch [ then-left-lt8192 w ↦ omega arith | else-left-lt8192 w ↦ omega arith ] in
    let within : length xs + c.in-Ok.count ≤ 16777216 =
    omega (
      arith,
      small,
      c.in-Ok.ensures.bound.0,
      c.read.auto.buf,
      length-take c.if-left-lt8192.end c.loop-read.room,
      c.len.ensures,
      c.loop-read.invariant.1,
      c.if-count-left.false,
    ) in
    let ok : is_ok c.extend_from_slice.result ≡ true = c.is_err.ensures.negation ∙ ap not c.if-is_err.false in
    let more : c.extend_from_slice.new.self.items ≡ xs ++ ys = c.extend_from_slice.ensures.items ∙ ap (λ b. if b then xs ++ ys else xs) ok in
    let long : length c.extend_from_slice.new.self.items ≡ length xs + c.in-Ok.count =
    omega (arith, ap length more, length-append xs ys, c.in-Ok.ensures.bound.1) in (
      omega (arith, long, c.loop-read.invariant.0, c.if-count-eq0.false),
      omega (arith, long, within),
      subst (Consumes (g.R.Read.remaining c.args.reader.now) (g.R.Read.remaining c.read.new.self)) (sym more)
          (Consumes-trans _ _ _ xs ys c.loop-read.invariant.2 c.in-Ok.ensures.bytes.0),
    )
