-- What the table spells is derived by the rules: each part, and so each form.
use Rattle.std.proofs.Common.{◌≡◌, List, ◌∷◌, Some, Bool, true, false, refl, sym, subst}
use Rattle.janus_syntax.specs.Tokens.{Token}
use Rattle.janus_syntax.specs.Tree.{More}
use Rattle.janus_syntax.specs.Operators.{weakest, operator_at}
use Rattle.janus_syntax.specs.Forms.{Part, A_cell, Declarations, Bound, Procedures, A_procedure, Parameters, More_parameters, A_parameter, Brackets, Body}
use Rattle.janus_syntax.specs.Forms.{Statements, Else_part, Do_part, Loop_part, Local, Names, More_names, Swap_partner, Target_index, Whole, Level, Chain}
use Rattle.janus_syntax.specs.Forms.{Index, Tree, agrees, Form, done, part, Rule}
use Rattle.janus_syntax.specs.Table.{rule, operand, chains}
use Rattle.janus_syntax.specs.Grammar
use Rattle.janus_syntax.specs.Grammar.{Count, Demands, met, Spells}
use Rattle.janus_syntax.proofs.Agreed.{is_agreed}
use Rattle.janus_grammar.specs.Derivation.{AreDeclarations, IsParameter, AreParameters}
use Rattle.janus_grammar.proofs.Table.{Derived, Means, left_out_derived, level_derived, whole_derived, chain_derived, statement_derived, row_derived}
use Rattle.janus_grammar.proofs.Table.{none_or_more, bound_derived, declaration_derived, partner_derived, target_derived, index_derived, else_derived}
use Rattle.janus_grammar.proofs.Table.{do_derived, loop_part_derived, local_derived, names_derived, more_names_derived}
use Rattle.janus_grammar.proofs.ProcedureTable.{procedures_derived, procedure_derived, parameter_derived, more_parameters_derived, brackets_derived}

-- a part behind its first token
rule_derived : (q : Part) (t : Token) (r : Rule q) (u : Tree q) (from rest : List Token) → rule q t ≡ Some r → Means r.form u from rest →
    Derived q u (t ∷ from) rest
rule_derived A_cell t r u from rest is h = absurd cc
rule_derived Declarations t r u from rest is h =
    let (d, m1, a, h1) = declaration_derived t (λ d. part Declarations (λ ds. done (d ∷ ds))) r u from rest is h in
    let (ds, m2, b, h2) = h1 in
    let (e, f) = h2 in
    subst (λ x. AreDeclarations x (t ∷ from) rest) (sym e) (subst (λ ts. AreDeclarations (d ∷ ds) (t ∷ from) ts) (sym f) (AreDeclarations.more a b))
rule_derived Bound t r u from rest is h = bound_derived t r u from rest is h
rule_derived (Procedures main c) t r u from rest is h = procedures_derived main c t r u from rest is h
rule_derived (A_procedure main c) t r u from rest is h = procedure_derived main c t r u from rest is h
rule_derived Parameters t r u from rest is h =
    let (x, m1, a, h1) = parameter_derived t (λ x. part More_parameters (λ xs. done (x ∷ xs))) r u from rest is h in
    let (xs, m2, b, h2) = h1 in
    let (e, f) = h2 in
    subst (λ y. AreParameters y (t ∷ from) rest) (sym e) (subst (λ ts. AreParameters (x ∷ xs) (t ∷ from) ts) (sym f) (AreParameters.parameters a b))
rule_derived More_parameters t r u from rest is h = more_parameters_derived t r u from rest is h
rule_derived A_parameter t r u from rest is h =
    let (x, m, a, h1) = parameter_derived t done r u from rest is h in
    let (e, f) = h1 in
    subst (λ y. IsParameter y (t ∷ from) rest) (sym e) (subst (λ ts. IsParameter x (t ∷ from) ts) (sym f) a)
rule_derived Brackets t r u from rest is h = brackets_derived t r u from rest is h
rule_derived Body t r u from rest is h =
    let (s, m1, a, h1) = statement_derived t (λ s. part Statements (λ b. done (More s b))) r u from rest is h in
    let (b, m2, c, h2) = h1 in
    let (e, f) = h2 in
    row_derived s b u (t ∷ from) m1 m2 rest a c e f
rule_derived Statements t r u from rest is h =
    let (s, m1, a, h1) = statement_derived t (λ s. part Statements (λ b. done (More s b))) r u from rest is h in
    let (b, m2, c, h2) = h1 in
    let (e, f) = h2 in
    none_or_more (row_derived s b u (t ∷ from) m1 m2 rest a c e f)
rule_derived Else_part t r u from rest is h = else_derived t r u from rest is h
rule_derived Do_part t r u from rest is h = do_derived t r u from rest is h
rule_derived Loop_part t r u from rest is h = loop_part_derived t r u from rest is h
rule_derived Local t r u from rest is h = local_derived t r u from rest is h
rule_derived Names t r u from rest is h = names_derived t r u from rest is h
rule_derived More_names t r u from rest is h = more_names_derived t r u from rest is h
rule_derived Swap_partner t r u from rest is h = partner_derived t r u from rest is h
rule_derived Target_index t r u from rest is h = target_derived t r u from rest is h
rule_derived Whole t r u from rest is h = whole_derived t (operand t (λ e. chains 0 weakest e done)) r u from rest refl is h
rule_derived (Level n) t r u from rest is h = level_derived n t r u from rest is h
rule_derived (Chain n e) t r u from rest is h = chain_derived n e t (operator_at t) r u from rest refl is h
rule_derived Index t r u from rest is h = index_derived t r u from rest is h

-- what is demanded holds
demanded : (b x : Bool) → b ≡ true → met b x ≡ true → x ≡ true
demanded true x e h = h
demanded false x e h = absurd cc

-- where it is demanded that `delocal` agrees with its `local`
pub means : {d : Demands} {p : Part} {f : Form p} {v : Tree p} {m m' : Count} {from rest : List Token} → d.agreement ≡ true → Spells d p f v m from m' rest →
    Means f v from rest
means a Grammar.nothing_more = (refl, refl)
means {d} a (Grammar.token {c = c} {s = s} {t = t} {from = from} is ok more) =
    (t, s, from, refl, is_agreed c t s is (demanded d.agreement (agrees c s) a ok), means a more)
means a (Grammar.end_of_construct more) = means a more
means a (Grammar.a_part {q = q} {r = r} {u = u} {t = t} {from = from} {middle = middle} is ok inner more) =
    (u, middle, rule_derived q t r u from middle is (means a inner), means a more)
means a (Grammar.no_part {q = q} {u = u} {from = from} is more) = (u, from, left_out_derived q u from is, means a more)
