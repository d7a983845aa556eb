use Rattle.std.proofs.Common.{◌≡◌, ◌-◌, ◌∷◌, ap, ◌∙◌, sym, arith, w32, to_z, of_z}
use Rattle.std.proofs.lemmas.Int.{to_z-of_z}
use Rattle.cell_pool.specs.Chains.{cell_at, next_of, values_from}
use Rattle.cell_pool.specs.Lent.{values_of}
use Rattle.cell_pool.proofs.Moves.{front_within, rest_within, values_open, values_long}
use Rattle.cell_pool.proofs.values.ValuesIterator.next.Goals as goal

pub returns-then-self-eq0-clause-steps : goal.returns-then-self-eq0-clause-steps
unfolding values_of
returns-then-self-eq0-clause-steps c =
    let s = c.args.self.now in
    let none = ap (values_from s.cells.now s.rest.front) c.if-self-eq0.true in
    (none, none)

pub bounds-self-self : goal.bounds-self-self
bounds-self-self c = let s = c.args.self.now in front_within s.cells.now s.rest.front s.rest.count s.within (omega arith)

pub invariant_of-self : goal.invariant_of-self
invariant_of-self c = let s = c.args.self.now in record { within = rest_within s.cells.now s.rest.front s.rest.count s.within (omega arith) }

pub returns-clause-steps : goal.returns-clause-steps
unfolding values_of
returns-clause-steps c =
    let s = c.args.self.now in
    let n = (cell_at s.cells.now s.rest.front).value in
    let z : to_z w32 (of_z w32 n) ≡ n = grind (arith, to_z-of_z) in
    values_open s.cells.now s.rest.front s.rest.count (omega arith)
    ∙ ap (λ n. n ∷ values_from s.cells.now (next_of s.cells.now s.rest.front) (s.rest.count - 1)) (sym z)

pub returns-clause-goes : goal.returns-clause-goes
unfolding values_of
returns-clause-goes c =
    let s = c.args.self.now in
    let more = values_long s.cells.now s.rest.front s.rest.count in
    let less = values_long s.cells.now (next_of s.cells.now s.rest.front) (s.rest.count - 1) in
    record { on = λ _. (tt, tt, omega (arith, more, less, c.if-self-eq0.false)); keeps = tt; rests = λ _. tt }
