use Rattle.std.proofs.Common.{◌≡◌, true, false, string_bytes, refl, arith, sym, ◌∙◌}
use Rattle.std.proofs.lemmas.Slice.Eq.{bytes_eq-Decides}
use Rattle.janus_places.proofs.Rows.{falls}
use Rattle.janus_places.proofs.Open.{never_out, another, it_is, none_is}
use Rattle.janus_places.proofs.table.Table.find.Goals as goal

pub loop-behind-init : goal.loop-behind-init
loop-behind-init c = λ xs h. record { rest = xs; left = h; same = refl }

pub returns-in_default : goal.returns-in_default
returns-in_default c = λ xs h.
    let k = c.loop-behind.invariant xs h in
    absurd (never_out c.args.self.now.locals.items c.loop-behind.behind k.rest c.loop-behind-test.true k.left
    (rw c.deref.ensures.value at c.in_default.ensures.lookup.0))

pub loop-behind-smaller : goal.loop-behind-smaller
loop-behind-smaller c =
    falls c.args.self.now c.deref.result.now c.loop-behind.behind c.in-Some.local.now c.deref.ensures.value c.loop-behind-test.true
    c.in-Some.ensures.lookup.3.0 c.in-Some.ensures.lookup.1

pub returns-then-eq : goal.returns-then-eq
returns-then-eq c = λ xs h.
    let l = c.in-Some.local.now in
    let same : string_bytes l.name ≡ c.args.name.now = sym c.as_str.ensures.value
    ∙ (bytes_eq-Decides c.as_str.result.now c.args.name.now).0 (sym c.eq.ensures ∙ c.if-eq.true) in
    it_is c.args.self.now.locals.items c.loop-behind.behind l c.args.name.now xs c.count.result c.loop-behind-test.true
    (rw c.deref.ensures.value at c.in-Some.ensures.lookup.1) same c.count.ensures (c.loop-behind.invariant xs h)

pub loop-behind-preserved : goal.loop-behind-preserved
loop-behind-preserved c = λ xs h.
    let l = c.in-Some.local.now in
    let other : string_bytes l.name ≡ c.args.name.now → ⊥ = λ e.
    differ (sym (sym c.eq.ensures ∙ c.if-eq.false) ∙ (bytes_eq-Decides c.as_str.result.now c.args.name.now).1 (c.as_str.ensures.value ∙ e)) in
    another c.args.self.now.locals.items c.loop-behind.behind l c.args.name.now xs c.loop-behind-test.true
    (rw c.deref.ensures.value at c.in-Some.ensures.lookup.1) other (c.loop-behind.invariant xs h)
  where
    differ : false ≡ true → ⊥
    differ e = cc

pub returns : goal.returns
returns c = λ xs h.
    none_is c.args.self.now.locals.items c.loop-behind.behind c.args.name.now xs (omega (arith, c.loop-behind-test.false)) (c.loop-behind.invariant xs h)
