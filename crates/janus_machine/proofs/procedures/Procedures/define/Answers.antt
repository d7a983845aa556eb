use Rattle.std.proofs.Common.{◌≡◌, ◌+◌, ◌<◌, ℕ, suc, List, map, length, get_or, slice_set, refl, ap, ◌∙◌, sym, subst, add-one}
use Rattle.std.specs.Prelude.{slice_get, Some}
use Rattle.std.proofs.lemmas.List.{length-map}
use Rattle.std.proofs.lemmas.Option.{slice_get_read, get_or_from_slice_get, same_Some}
use Rattle.janus_machine.specs.declared.procedures.Body.{Body}
use Rattle.janus_machine.specs.declared.linked_procedure.LinkedProcedure.{LinkedProcedure}
use Rattle.janus_machine.proofs.Bodies.{kept_same, define_puts, define_defines}
use Rattle.janus_machine.proofs.procedures.Procedures.define.Goals as goal

low : (c : goal.After-self-3-1) → c.args.index < length c.args.self.now.bodies.items
low c = subst (λ n. c.args.index < n) (length-map c.args.self.now.bodies.items (λ (b : Body). b.procedure)) c.requires.inside

is_at : (c : goal.After-self-3-1) → slice_get c.args.self.now.bodies.items c.args.index ≡ Some c.index.result.now
is_at c = slice_get_read c.args.self.now.bodies.items (length c.args.self.now.bodies.items) c.args.index c.index.result.now refl (low c) c.index.ensures

wide : (c : goal.After-self-3-1) → c.index.result.now.procedure.name < length c.args.self.now.newest.items
wide c = c.args.self.now.wide c.args.index c.index.result.now (is_at c)

same : (c : goal.After-self-3-1) → c.index_mut.result.now ≡ c.index.result.now
same c = same_Some c.index_mut.result.now c.index.result.now
    (sym (slice_get_read c.args.self.now.bodies.items (length c.args.self.now.bodies.items) c.args.index c.index_mut.result.now refl
    (low c) c.index_mut.ensures.value) ∙ is_at c)

hidden : (c : goal.After-self-3-1) → c.index-2.result.now ≡ get_or c.args.self.now.newest.items c.index.result.now.procedure.name 0
hidden c = sym
    (get_or_from_slice_get c.args.self.now.newest.items c.index.result.now.procedure.name c.index-2.result.now 0
    (slice_get_read c.args.self.now.newest.items (length c.args.self.now.newest.items) c.index.result.now.procedure.name c.index-2.result.now refl
    (wide c) c.index-2.ensures))

bodies : (c : goal.After-self-3-1) →
    slice_set c.args.self.now.bodies.items c.args.index (record { procedure = c.index_mut.result.now.procedure; hidden = c.index-2.result.now }) ≡ slice_set
    c.args.self.now.bodies.items c.args.index
    (record { procedure = c.index.result.now.procedure; hidden = get_or c.args.self.now.newest.items c.index.result.now.procedure.name 0 })
bodies c =
    ap (λ (p : LinkedProcedure). slice_set c.args.self.now.bodies.items c.args.index (record { procedure = p; hidden = c.index-2.result.now }))
    (ap (λ (b : Body). b.procedure) (same c))
    ∙ ap (λ (h : ℕ). slice_set c.args.self.now.bodies.items c.args.index (record { procedure = c.index.result.now.procedure; hidden = h })) (hidden c)

newest : (c : goal.After-self-3-1) → slice_set c.args.self.now.newest.items c.index.result.now.procedure.name
    (c.args.index + 1) ≡ slice_set c.args.self.now.newest.items c.index.result.now.procedure.name (suc c.args.index)
newest c = ap (slice_set c.args.self.now.newest.items c.index.result.now.procedure.name) (add-one c.args.index)

pub returns-clause-kept : goal.returns-clause-kept
returns-clause-kept c =
    ap (λ (bodies : List Body). map (λ (b : Body). b.procedure) bodies) (bodies c)
    ∙ kept_same c.args.self.now.bodies.items c.args.index c.index.result.now (get_or c.args.self.now.newest.items c.index.result.now.procedure.name 0) (is_at c)

pub returns-clause-in_effect : goal.returns-clause-in_effect
returns-clause-in_effect c = define_puts c.args.self.now _ c.args.index c.index.result.now (is_at c) (wide c) (bodies c) (newest c)

pub returns-clause-defined : goal.returns-clause-defined
returns-clause-defined c = define_defines c.args.self.now _ c.args.index c.index.result.now (is_at c) (wide c) (bodies c) (newest c)
