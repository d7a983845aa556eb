use Rattle.std.proofs.Common.{◌≡◌, ℕ, List, ◌++◌, length, ap, ◌∙◌, sym, subst, arith}
use Rattle.janus_code.specs.declared.code.Statement.{Statement}
use Rattle.janus_code.specs.Flat.{tree_at}
use Rattle.janus_code.specs.Grown.{Grows}
use Rattle.janus_code.specs.Held.{IsInside, HasMember, AreInsideFrom}
use Rattle.janus_code.proofs.HeldLemmas.{added_alone, added_inside}
use Rattle.janus_code.proofs.Trees.{grows_by_statement, tree_added}
use Rattle.janus_code.proofs.flat.add.Goals as goal

pub returns-clause-grows : goal.returns-clause-grows
returns-clause-grows c =
    let d = c.args.draft.now in
    subst (λ (ss : List Statement). Grows d.members.items d.statements.items d.members.items ss) (sym c.in_ok-push.ensures.items)
    (grows_by_statement d.members.items d.statements.items c.args.statement)

pub returns-clause-tree : goal.returns-clause-tree
returns-clause-tree c =
    let d = c.args.draft.now in
    let long : c.len-number.result ≡ length d.statements.items = omega (arith, d.statements.ok.0) in
    λ xs. ap (λ (ss : List Statement). tree_at xs d.members.items ss c.len-number.result) c.in_ok-push.ensures.items
    ∙ ap (tree_at xs d.members.items (d.statements.items ++ _)) long
    ∙ tree_added xs d.members.items d.statements.items c.args.statement d.below c.requires

pub returns-clause-alone : goal.returns-clause-alone
returns-clause-alone c =
    let d = c.args.draft.now in
    let long : c.len-number.result ≡ length d.statements.items = omega (arith, d.statements.ok.0) in
    subst (λ (n : ℕ). AreInsideFrom (length d.statements.items) d.members.items c.push.new.self.items (λ m. m ≡ n)) (sym long)
    (subst (λ (ss : List Statement). AreInsideFrom (length d.statements.items) d.members.items ss (λ m. m ≡ length d.statements.items))
    (sym c.in_ok-push.ensures.items) (added_alone d.members.items d.statements.items c.args.statement))

pub returns-clause-inside : goal.returns-clause-inside
returns-clause-inside c =
    let d = c.args.draft.now in
    subst (λ (ss : List Statement). (m : ℕ) → HasMember d.members.items m c.args.statement → IsInside d.members.items ss m) (sym c.in_ok-push.ensures.items)
    (added_inside d.members.items d.statements.items c.args.statement)
