use Rattle.std.proofs.Common.{◌≡◌, ℕ, List, [], ◌<◌, ◌≤◌, length, map, take, get_or, sym, ap, ◌∙◌, subst, arith, add-one}
use Rattle.janus_meaning.specs.Syntax.{Name}
use Rattle.janus_meaning.specs.Store.{Store}
use Rattle.janus_slots.specs.Numbers.{IsUnmet}
use Rattle.janus_slots.specs.Slots.{names_in}
use Rattle.janus_machine.specs.StoreState.{shown_store}
use Rattle.janus_meaning.specs.World.{Declaration, DeclareInt, declare, declare_one, declared_name}
use Rattle.kernel_runner.specs.Declarable.{HasStackRoom}
use Rattle.janus_syntax.specs.Tree.{declaration_view, declarations_view}
use Rattle.janus_syntax.specs.View.{plain_declaration}
use Rattle.kernel_runner.proofs.Slotted.{whole_is}
use Rattle.kernel_runner.proofs.Declaring.{unmet_at, unmet_reversed, room_at, room_in_slots, values_lend_nothing, declared_more, declared_at, declared_count}
use Rattle.kernel_runner.proofs.Declaring.{all_taken, taken_count, becomes_then, becomes_same}
use Rattle.kernel_runner.proofs.runner.declare.Goals as goal

pub declare_one-requires : goal.declare_one-requires
declare_one-requires g c =
    let ds : List Declaration = map plain_declaration (declarations_view c.args.declarations.now) in
    let d : Declaration = DeclareInt [] in
    let low : c.loop-i.i < length ds = rw (declared_count c.args.declarations.now) c.loop-i-test.true in
    let one : get_or ds c.loop-i.i d ≡ plain_declaration (declaration_view c.index-declarations-i.result) =
    declared_at c.args.declarations.now c.loop-i.i c.index-declarations-i.result d c.loop-i-test.true (sym c.index-declarations-i.is) in
    let shown : Store = shown_store c.args.store.now in
    let so_far : Store = declare (take c.loop-i.i ds) shown in
    let is = whole_is c.loop-i.store so_far c.loop-i.invariant.whole c.loop-i.invariant.texts c.loop-i.invariant.shown in
    record {
      absent = subst (λ (x : Declaration). IsUnmet c.loop-i.store.texts (declared_name x)) one
          (subst (λ (xs : List Name). IsUnmet xs (declared_name (get_or ds c.loop-i.i d))) (sym is.texts)
          (unmet_reversed (names_in so_far) _ (unmet_at ds shown c.loop-i.i d (values_lend_nothing shown c.requires.values) c.requires.new low)));
      texts = c.loop-i.invariant.texts;
      whole = c.loop-i.invariant.whole;
      room = subst (λ (x : Declaration). HasStackRoom x c.loop-i.store.slots) one
          (subst (λ (s : Store). HasStackRoom (get_or ds c.loop-i.i d) s) (sym is.slots)
          (room_in_slots (get_or ds c.loop-i.i d) so_far (room_at ds shown c.loop-i.i d (values_lend_nothing shown c.requires.values) c.requires.new low)));
    }

pub loop-i-preserved : goal.loop-i-preserved
loop-i-preserved g c =
    let ds : List Declaration = map plain_declaration (declarations_view c.args.declarations.now) in
    let d : Declaration = DeclareInt [] in
    let low : c.loop-i.i < length ds = rw (declared_count c.args.declarations.now) c.loop-i-test.true in
    let one : get_or ds c.loop-i.i d ≡ plain_declaration (declaration_view c.index-declarations-i.result) =
    declared_at c.args.declarations.now c.loop-i.i c.index-declarations-i.result d c.loop-i-test.true (sym c.index-declarations-i.is) in
    becomes_then _ _ _ _ _ c.loop-i.invariant
    (becomes_same _ _ _ _
    (ap (declare_one (plain_declaration (declaration_view c.index-declarations-i.result))) c.loop-i.invariant.shown
    ∙ ap (λ (x : Declaration). declare_one x (declare (take c.loop-i.i ds) (shown_store c.args.store.now))) (sym one)
    ∙ sym (declared_more ds (shown_store c.args.store.now) c.loop-i.i d low)
    ∙ ap (λ (n : ℕ). declare (take n ds) (shown_store c.args.store.now)) (sym (add-one c.loop-i.i)))
    c.in_default.ensures.ok)

pub returns-clause-ok : goal.returns-clause-ok
returns-clause-ok g c =
    let ds : List Declaration = map plain_declaration (declarations_view c.args.declarations.now) in
    let all : length ds ≤ c.loop-i.i = rw (declared_count c.args.declarations.now) c.loop-i-test.false in
    becomes_same _ _ _ _ (ap (λ (l : List Declaration). declare l (shown_store c.args.store.now)) (all_taken ds c.loop-i.i all)) c.loop-i.invariant

pub retire-requires-clause-declared : goal.retire-requires-clause-declared
retire-requires-clause-declared g c =
    let ds : List Declaration = map plain_declaration (declarations_view c.args.declarations.now) in
    let low : c.loop-i.i ≤ length ds = let h = declared_count c.args.declarations.now in let g = c.loop-i-test.true in omega arith in (
      shown_store c.args.store.now,
      record { declarations = take c.loop-i.i ds; many = taken_count ds c.loop-i.i low; declared = c.in-Err.ensures.err.shown ∙ c.loop-i.invariant.shown },
    )

pub retire-requires-clause-whole : goal.retire-requires-clause-whole
retire-requires-clause-whole g c = c.in-Err.ensures.err.whole

pub retire-requires-clause-texts : goal.retire-requires-clause-texts
retire-requires-clause-texts g c = c.in-Err.ensures.err.texts

pub returns-in-Err-clause-err : goal.returns-in-Err-clause-err
returns-in-Err-clause-err g c =
    let ds : List Declaration = map plain_declaration (declarations_view c.args.declarations.now) in
    let low : c.loop-i.i ≤ length ds = let h = declared_count c.args.declarations.now in let g = c.loop-i-test.true in omega arith in
    becomes_then _ _ _ _ _ c.loop-i.invariant
    (becomes_then _ _ _ _ _ c.in-Err.ensures.err
    (c.retire.ensures.becomes (shown_store c.args.store.now)
    (record { declarations = take c.loop-i.i ds; many = taken_count ds c.loop-i.i low; declared = c.in-Err.ensures.err.shown ∙ c.loop-i.invariant.shown })))
