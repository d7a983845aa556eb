-- A part that may be left out does not begin with a token that may follow it.
use Rattle.std.proofs.Common.{◌≡◌, ℕ, ◌-◌, ◌<◌, Option, Some, None, true, cond, refl, ap, arith}
use Rattle.std.specs.Prelude.{◌||◌}
use Rattle.std.proofs.lemmas.Bool.{ltb-true, ne_eqb, and_parts}
use Rattle.janus_syntax.specs.declared.token.Sign.TheVariants as sign
use Rattle.janus_syntax.specs.declared.token.Keyword.TheVariants as keyword
use Rattle.janus_syntax.specs.declared.operator.Infix.{Infix}
use Rattle.janus_syntax.specs.Tokens.{Token, Name, Number, Sign_of, Keyword_of}
use Rattle.janus_syntax.specs.Tree.{Exp, Stm, Declaration, Parameter}
use Rattle.janus_syntax.specs.Operators.{joined, operator_at}
use Rattle.janus_syntax.specs.Forms.{Part, A_cell, Declarations, Bound, Procedures, A_procedure, Parameters, More_parameters, A_parameter, Brackets, Body}
use Rattle.janus_syntax.specs.Forms.{Statements, Else_part, Do_part, Loop_part, Local, Names, More_names, Swap_partner, Target_index, Whole, Level, Chain}
use Rattle.janus_syntax.specs.Forms.{Index, Tree, Form, done, part}
use Rattle.janus_syntax.specs.Table.{rule, left_out, counts, chain_rule, statement, declaration, a_parameter}
use Rattle.janus_syntax.proofs.Follow.{is_keyword, is_sign, no_swap, no_index, weaker_than, after_statement, after_body, after_declarations, after_parameter}
use Rattle.janus_syntax.proofs.Follow.{may_follow}

no_statement : {p : Part} → (t : Token) (k : Stm → Form p) → after_body t ≡ true → statement t k ≡ None
no_statement (Keyword_of keyword.If at) k e = absurd cc
no_statement (Keyword_of keyword.From at) k e = absurd cc
no_statement (Keyword_of keyword.Skip at) k e = absurd cc
no_statement (Keyword_of keyword.Local at) k e = absurd cc
no_statement (Keyword_of keyword.Push at) k e = absurd cc
no_statement (Keyword_of keyword.Pop at) k e = absurd cc
no_statement (Keyword_of keyword.Call at) k e = absurd cc
no_statement (Keyword_of keyword.Uncall at) k e = absurd cc
no_statement (Keyword_of _ at) k e = refl
no_statement (Name x at) k e = absurd cc
no_statement (Number n at) k e = refl
no_statement (Sign_of s at) k e = refl

no_declaration : {p : Part} → (t : Token) (k : Declaration → Form p) → after_declarations t ≡ true → declaration t k ≡ None
no_declaration (Keyword_of keyword.Int at) k e = absurd cc
no_declaration (Keyword_of keyword.Stack at) k e = absurd cc
no_declaration (Keyword_of _ at) k e = refl
no_declaration (Name x at) k e = refl
no_declaration (Number n at) k e = refl
no_declaration (Sign_of s at) k e = refl

no_parameter : {p : Part} → (t : Token) (k : Parameter → Form p) → is_sign sign.Close t ≡ true → a_parameter t k ≡ None
no_parameter (Keyword_of w at) k e = absurd cc
no_parameter (Name x at) k e = refl
no_parameter (Number n at) k e = refl
no_parameter (Sign_of s at) k e = refl

no_more_parameters : (t : Token) → is_sign sign.Close t ≡ true → rule More_parameters t ≡ None
no_more_parameters (Keyword_of w at) e = refl
no_more_parameters (Name x at) e = refl
no_more_parameters (Number n at) e = refl
no_more_parameters (Sign_of sign.Comma at) e = absurd cc
no_more_parameters (Sign_of _ at) e = refl

no_brackets : (t : Token) → after_parameter t ≡ true → rule Brackets t ≡ None
no_brackets (Sign_of sign.OpenIndex at) e = absurd cc
no_brackets (Sign_of _ at) e = refl
no_brackets (Keyword_of w at) e = refl
no_brackets (Name x at) e = refl
no_brackets (Number n at) e = refl

no_chain : (o : Option Infix) (n : ℕ) (e : Exp) → weaker_than n o ≡ true → chain_rule o n e ≡ None
no_chain None n e h = refl
no_chain (Some op) n e h =
    let k : n < op.level = ltb-true n op.level h in
    ap (λ b. cond b (counts (part (Level (n - 1)) (λ r. part (Chain n (joined op.joint e r)) done))) None)
    (ne_eqb op.level n (λ q. absurd (omega (arith, q, k))))

no_bound : (t : Token) → after_statement t ≡ true → rule Bound t ≡ None
no_bound (Sign_of s at) e = absurd cc
no_bound (Keyword_of w at) e = refl
no_bound (Name x at) e = refl
no_bound (Number n at) e = refl

no_else : (t : Token) → is_keyword keyword.Fi t ≡ true → rule Else_part t ≡ None
no_else (Keyword_of keyword.Else at) e = absurd cc
no_else (Keyword_of _ at) e = refl
no_else (Sign_of s at) e = refl
no_else (Name x at) e = refl
no_else (Number n at) e = refl

no_do : (t : Token) → (is_keyword keyword.Loop t || is_keyword keyword.Until t) ≡ true → rule Do_part t ≡ None
no_do (Keyword_of keyword.Do at) e = absurd cc
no_do (Keyword_of _ at) e = refl
no_do (Sign_of s at) e = refl
no_do (Name x at) e = refl
no_do (Number n at) e = refl

no_loop : (t : Token) → is_keyword keyword.Until t ≡ true → rule Loop_part t ≡ None
no_loop (Keyword_of keyword.Loop at) e = absurd cc
no_loop (Keyword_of _ at) e = refl
no_loop (Sign_of s at) e = refl
no_loop (Name x at) e = refl
no_loop (Number n at) e = refl

no_names : (t : Token) → is_sign sign.Close t ≡ true → rule Names t ≡ None
no_names (Name x at) e = absurd cc
no_names (Keyword_of w at) e = refl
no_names (Sign_of s at) e = refl
no_names (Number n at) e = refl

no_more_names : (t : Token) → is_sign sign.Close t ≡ true → rule More_names t ≡ None
no_more_names (Keyword_of w at) e = refl
no_more_names (Name x at) e = refl
no_more_names (Number n at) e = refl
no_more_names (Sign_of sign.Comma at) e = absurd cc
no_more_names (Sign_of _ at) e = refl

pub no_partner : (t : Token) → no_swap t ≡ true → rule Swap_partner t ≡ None
no_partner (Sign_of sign.Swap at) e = absurd cc
no_partner (Sign_of _ at) e = refl
no_partner (Keyword_of w at) e = refl
no_partner (Name x at) e = refl
no_partner (Number n at) e = refl

pub no_target : (t : Token) → no_index t ≡ true → rule Target_index t ≡ None
no_target (Sign_of sign.OpenIndex at) e = absurd cc
no_target (Sign_of _ at) e = refl
no_target (Keyword_of w at) e = refl
no_target (Name x at) e = refl
no_target (Number n at) e = refl

pub not_index : (t : Token) → no_index t ≡ true → rule Index t ≡ None
not_index (Sign_of sign.OpenIndex at) e = absurd cc
not_index (Sign_of _ at) e = refl
not_index (Keyword_of w at) e = refl
not_index (Name x at) e = refl
not_index (Number n at) e = refl

pub unbound : (t : Token) → no_index t ≡ true → rule Bound t ≡ None
unbound (Sign_of sign.OpenIndex at) e = absurd cc
unbound (Sign_of _ at) e = refl
unbound (Keyword_of w at) e = refl
unbound (Name x at) e = refl
unbound (Number n at) e = refl

pub unbracketed : (t : Token) → no_index t ≡ true → rule Brackets t ≡ None
unbracketed (Sign_of sign.OpenIndex at) e = absurd cc
unbracketed (Sign_of _ at) e = refl
unbracketed (Keyword_of w at) e = refl
unbracketed (Name x at) e = refl
unbracketed (Number n at) e = refl

pub no_rule : (p : Part) (t : Token) (u : Tree p) → left_out p ≡ Some u → may_follow p t ≡ true → rule p t ≡ None
no_rule A_cell t u e h = absurd cc
no_rule Declarations t u e h = no_declaration t _ h
no_rule Bound t u e h = no_bound t h
no_rule (Procedures main c) t u e h = absurd cc
no_rule (A_procedure main c) t u e h = absurd cc
no_rule Parameters t u e h = no_parameter t _ h
no_rule More_parameters t u e h = no_more_parameters t h
no_rule A_parameter t u e h = absurd cc
no_rule Brackets t u e h = no_brackets t h
no_rule Body t u e h = absurd cc
no_rule Statements t u e h = no_statement t _ h
no_rule Else_part t u e h = no_else t h
no_rule Do_part t u e h = no_do t h
no_rule Loop_part t u e h = no_loop t h
no_rule Local t u e h = absurd cc
no_rule Names t u e h = no_names t h
no_rule More_names t u e h = no_more_names t h
no_rule Swap_partner t u e h = no_partner t h
no_rule Target_index t u e h = no_target t h
no_rule Whole t u e h = absurd cc
no_rule (Level n) t u e h = absurd cc
no_rule (Chain n x) t u e h = no_chain (operator_at t) n x (and_parts (no_index t) (weaker_than n (operator_at t)) h).1
no_rule Index t u e h = not_index t h
