use Rattle.std.proofs.Common.{◌≡◌, ◌∙◌, List, [], ◌∷◌, ◌++◌, length, sym, ap, subst, append_assoc, arith}
use Rattle.janus_meaning.specs.World.{World}
use Rattle.kernel_ask.specs.Evaluation.{IsEvaluated, AreValuesAfter}
use Rattle.kernel_ask.specs.declared.done.NamedValue.{NamedValue}
use Rattle.kernel_ask.proofs.Named.{values_on, values_none}
use Rattle.kernel_ask.proofs.making.Making.make_next.Goals as goal

pub returns-then-self-clause-goes : goal.returns-then-self-clause-goes
returns-then-self-clause-goes g c = λ o s given is_here u.
    let wish = c.in-Some.wish in
    let steps : c.args.self.now.rest.items ≡ wish ∷ c.pop_front.new.self.items = c.in-Some.ensures.items in
    let short : length c.args.self.now.rest.items ≡ _ = ap length steps in
    let value = subst (λ (w : World). IsEvaluated w.store wish.exp c.evaluate-named.result.value) is_here c.evaluate-named.ensures.value in
    let more = values_on o s u.spent c.args.self.now.values.items wish c.evaluate-named.result (sym u.wanted ∙ c.if-self.true) u.still u.values
    c.evaluate-named.ensures.name value in
    let room = u.room in
    let count = u.count in
    let fewer = c.in-Some.ensures.len in
    record {
      still = u.still;
      spent = u.spent ++ wish ∷ [];
      parts = append_assoc u.spent (wish ∷ []) _ ∙ rw (← steps) u.parts;
      values = subst (λ (vs : List NamedValue). AreValuesAfter o s (u.spent ++ wish ∷ []) vs) (sym c.push_reserved.ensures.items) more;
      wanted = u.wanted;
      room = omega (arith, room, short, c.push_reserved.ensures.len, c.push_reserved.ensures.capacity);
      count = omega (arith, count, short, fewer);
    }

pub returns-else-self-clause-goes : goal.returns-else-self-clause-goes
returns-else-self-clause-goes g c = λ o s given is_here u.
    let wish = c.in-Some.wish in
    let steps : c.args.self.now.rest.items ≡ wish ∷ c.pop_front.new.self.items = c.in-Some.ensures.items in
    let short : length c.args.self.now.rest.items ≡ _ = ap length steps in
    let room = u.room in
    let count = u.count in
    let fewer = c.in-Some.ensures.len in
    record {
      still = u.still;
      spent = u.spent ++ wish ∷ [];
      parts = append_assoc u.spent (wish ∷ []) _ ∙ rw (← steps) u.parts;
      values = values_none o s u.spent c.args.self.now.values.items wish (sym u.wanted ∙ c.if-self.false) u.values;
      wanted = u.wanted;
      room = omega (arith, room, short);
      count = omega (arith, count, short, fewer);
    }

pub returns-then-self-clause-room : goal.returns-then-self-clause-room
returns-then-self-clause-room g c =
    let wish = c.in-Some.wish in
    let steps : c.args.self.now.rest.items ≡ wish ∷ c.pop_front.new.self.items = c.in-Some.ensures.items in
    let short : length c.args.self.now.rest.items ≡ _ = ap length steps in
    let room = c.requires.room.room in
    let count = c.requires.room.count in
    let fewer = c.in-Some.ensures.len in
    record {
      room = omega (arith, room, short, c.push_reserved.ensures.len, c.push_reserved.ensures.capacity);
      count = omega (arith, count, short, fewer);
    }

pub returns-else-self-clause-room : goal.returns-else-self-clause-room
returns-else-self-clause-room g c =
    let wish = c.in-Some.wish in
    let steps : c.args.self.now.rest.items ≡ wish ∷ c.pop_front.new.self.items = c.in-Some.ensures.items in
    let short : length c.args.self.now.rest.items ≡ _ = ap length steps in
    let room = c.requires.room.room in
    let count = c.requires.room.count in
    let fewer = c.in-Some.ensures.len in
    record { room = omega (arith, room, short); count = omega (arith, count, short, fewer) }
