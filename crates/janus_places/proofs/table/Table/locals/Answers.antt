use Rattle.std.proofs.Common.{List, ℕ, Bor, map, ◌++◌, ap, arith}
use Rattle.janus_places.proofs.Rows.{next_left, all_told, open_at, never_past, falls}
use Rattle.janus_places.proofs.Open.{in_row, never_out}
use Rattle.janus_places.proofs.table.Table.locals.Goals as goal

pub loop-behind-init : goal.loop-behind-init
loop-behind-init c = λ xs h. (xs, ap (λ l. map (λ (name : Bor (List ℕ)). name.now) l ++ xs) c.new-names.ensures.items, h)

pub returns-in_default-clause-text : goal.returns-in_default-clause-text
returns-in_default-clause-text c = λ es g b t.
    absurd (never_past c.args.self.now es g b c.args.at c.index.result.now c.loop-behind.behind c.deref.result.now c.loop-behind.names.items
    c.deref.ensures.value c.index.ensures c.requires t c.loop-behind-test.true c.loop-behind.invariant c.in_default.ensures.lookup.0)

pub loop-behind-smaller : goal.loop-behind-smaller
loop-behind-smaller c =
    falls c.args.self.now c.deref.result.now c.loop-behind.behind c.in-Some.local.now c.deref.ensures.value c.loop-behind-test.true
    c.in-Some.ensures.lookup.3.0 c.in-Some.ensures.lookup.1

pub loop-behind-preserved : goal.loop-behind-preserved
loop-behind-preserved c = λ xs h.
    next_left c.args.self.now.locals.items c.loop-behind.behind c.in-Some.local.now c.loop-behind.names.items c.push.new.self.items c.as_str.result xs
    c.loop-behind-test.true (rw c.deref.ensures.value at c.in-Some.ensures.lookup.1) c.in_ok-push.ensures.items c.as_str.ensures.value
    (c.loop-behind.invariant xs h)

pub returns-clause-text : goal.returns-clause-text
returns-clause-text c = λ es g b t.
    open_at c.args.self.now es g b c.args.at c.index.result.now _ c.index.ensures c.requires t (λ xs h.
    all_told c.args.self.now.locals.items c.loop-behind.behind c.loop-behind.names.items xs (omega (arith, c.loop-behind-test.false))
    (c.loop-behind.invariant xs h))

pub returns-in_default-clause-open : goal.returns-in_default-clause-open
returns-in_default-clause-open c = λ xs h.
    let k = c.loop-behind.invariant xs (in_row c.args.self.now c.args.at c.index.result.now xs c.index.ensures c.requires h) in
    absurd (never_out c.args.self.now.locals.items c.loop-behind.behind k.0 c.loop-behind-test.true k.2
    (rw c.deref.ensures.value at c.in_default.ensures.lookup.0))

pub returns-clause-open : goal.returns-clause-open
returns-clause-open c = λ xs h.
    all_told c.args.self.now.locals.items c.loop-behind.behind c.loop-behind.names.items xs (omega (arith, c.loop-behind-test.false))
    (c.loop-behind.invariant xs (in_row c.args.self.now c.args.at c.index.result.now xs c.index.ensures c.requires h))
