use Rattle.std.proofs.Common.{◌≡◌, ℕ, List, ◌∷◌, [], ◌<◌, length, length-append, refl, ap, ◌∙◌, sym, subst, arith}
use Rattle.std.specs.Prelude.{slice_get, Some}
use Rattle.std.proofs.lemmas.Option.{slice_get_read}
use Rattle.janus_code.specs.CodeBlock.{code_tree, inner_block}
use Rattle.janus_code.specs.Inverted.{IsInverse, IsBackward}
use Rattle.janus_code.proofs.InvertedPairs.{ArePairs, pairs_more}
use Rattle.janus_code.proofs.Reversed.{body_turned, inverse_longer, are_inverse, inverse_downward}
use Rattle.janus_code.proofs.Placed.{all_turned}
use Rattle.janus_code.proofs.turned.inverse_code.Goals as goal

pub loop-i-preserved : goal.loop-i-preserved
loop-i-preserved c =
    let i = c.loop-i.i in
    let ms = c.args.code.now.members.items in
    let ss = c.args.code.now.statements.items in
    let v = c.loop-i.invariant in
    let one = c.in_ok-inverse.inverse in
    let rs = c.loop-i.statements.items in
    let others = c.inverse_one.new.others.items in
    let lt : i < length ss = omega arith in
    let read : slice_get ss i ≡ Some c.index.result.now = slice_get_read ss (length ss) i c.index.result.now refl lt c.index.ensures in
    let grown = c.in_ok-push.ensures.items in
    let inverse : IsInverse ms others c.index.result.now one =
    subst (λ (ms : List ℕ). IsInverse ms others c.index.result.now one) c.deref.ensures.value c.in_ok-inverse.ensures.inverse in
    record {
      as_many = omega (arith, ap length grown, length-append rs (one ∷ []), v.as_many);
      inverse = subst (ArePairs (IsInverse ms others) ss) (sym grown)
          (pairs_more (IsInverse ms others) ss rs c.index.result.now one
          (λ n s r e f. inverse_longer ms c.loop-i.members.items others s r c.in_ok-inverse.ensures.longer (v.inverse n s r e f))
          (ap (slice_get ss) v.as_many ∙ read) inverse);
    }

pub invariant_of-result : goal.invariant_of-result
invariant_of-result c =
    let code = c.args.code.now in
    let v = c.loop-i.invariant in
    let many : length c.loop-i.statements.items ≡ length code.statements.items = omega (arith, v.as_many, code.statements.ok.0) in
    let back : IsBackward code.members.items c.backward.new.others.items code.body c.in_ok-body.body =
    subst (λ (ms : List ℕ). IsBackward ms c.backward.new.others.items code.body c.in_ok-body.body) c.deref-2.ensures.value c.in_ok-body.ensures.backward in
    record {
      downward = inverse_downward code.members.items code.statements.items code.body c.loop-i.members.items c.backward.new.others.items
          c.loop-i.statements.items c.in_ok-body.body code.downward many v.inverse c.in_ok-body.ensures.longer back;
    }

pub returns-clause-parts : goal.returns-clause-parts
returns-clause-parts c =
    let code = c.args.code.now in
    let v = c.loop-i.invariant in
    let many : length c.loop-i.statements.items ≡ length code.statements.items = omega (arith, v.as_many, code.statements.ok.0) in
    let back : IsBackward code.members.items c.backward.new.others.items code.body c.in_ok-body.body =
    subst (λ (ms : List ℕ). IsBackward ms c.backward.new.others.items code.body c.in_ok-body.body) c.deref-2.ensures.value c.in_ok-body.ensures.backward in
    are_inverse code.members.items code.statements.items code.body c.loop-i.members.items c.backward.new.others.items c.loop-i.statements.items
    c.in_ok-body.body many v.inverse c.in_ok-body.ensures.longer back

pub returns-clause-block : goal.returns-clause-block
unfolding code_tree inner_block
returns-clause-block c =
    let code = c.args.code.now in
    let v = c.loop-i.invariant in
    let many : length c.loop-i.statements.items ≡ length code.statements.items = omega (arith, v.as_many, code.statements.ok.0) in
    let back : IsBackward code.members.items c.backward.new.others.items code.body c.in_ok-body.body =
    subst (λ (ms : List ℕ). IsBackward ms c.backward.new.others.items code.body c.in_ok-body.body) c.deref-2.ensures.value c.in_ok-body.ensures.backward in
    let down = inverse_downward code.members.items code.statements.items code.body c.loop-i.members.items c.backward.new.others.items c.loop-i.statements.items
    c.in_ok-body.body code.downward many v.inverse c.in_ok-body.ensures.longer back in
    λ xs. body_turned xs code.members.items code.statements.items code.body c.backward.new.others.items c.loop-i.statements.items c.in_ok-body.body
    code.downward.each down.each
    (are_inverse code.members.items code.statements.items code.body c.loop-i.members.items c.backward.new.others.items c.loop-i.statements.items
    c.in_ok-body.body many v.inverse c.in_ok-body.ensures.longer back) code.downward.whole

pub returns-clause-numbered : goal.returns-clause-numbered
returns-clause-numbered c =
    let code = c.args.code.now in
    let v = c.loop-i.invariant in
    let many : length c.loop-i.statements.items ≡ length code.statements.items = omega (arith, v.as_many, code.statements.ok.0) in
    let back : IsBackward code.members.items c.backward.new.others.items code.body c.in_ok-body.body =
    subst (λ (ms : List ℕ). IsBackward ms c.backward.new.others.items code.body c.in_ok-body.body) c.deref-2.ensures.value c.in_ok-body.ensures.backward in
    all_turned code.members.items code.statements.items code.body c.backward.new.others.items c.loop-i.statements.items c.in_ok-body.body
    (are_inverse code.members.items code.statements.items code.body c.loop-i.members.items c.backward.new.others.items c.loop-i.statements.items
    c.in_ok-body.body many v.inverse c.in_ok-body.ensures.longer back)
