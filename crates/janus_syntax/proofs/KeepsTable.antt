-- Each line of the grammar's table keeps to the table of what may follow: one line here for each line there.
use Rattle.std.proofs.Common.{◌≡◌, [], Bool, ℕ, ◌+◌, ◌-◌, ◌<◌, Option, Some, None, true, false, cond, refl, arith, inl, inr}
use Rattle.std.specs.Prelude.{nat_eq}
use Rattle.std.proofs.lemmas.Bool.{ltb-true, eqb-true}
use Rattle.janus_syntax.specs.declared.token.Sign.TheVariants as sign
use Rattle.janus_syntax.specs.declared.token.Keyword.TheVariants as keyword
use Rattle.janus_syntax.specs.declared.operator.Infix.{Infix}
use Rattle.janus_syntax.specs.Tokens.{Token, Name, Number, Sign_of, Keyword_of}
use Rattle.janus_syntax.specs.Tree.{named, Exp, Block, Cell, cell_of}
use Rattle.janus_syntax.specs.Operators.{weakest, joined, operator_at}
use Rattle.janus_syntax.specs.Forms.{Part, A_cell, Declarations, Bound, Procedures, A_procedure, Parameters, More_parameters, A_parameter, Brackets, Body}
use Rattle.janus_syntax.specs.Forms.{Statements, Else_part, Do_part, Loop_part, Local, Names, More_names, Swap_partner, Target_index, Whole, Level, Chain}
use Rattle.janus_syntax.specs.Forms.{Index, Tree, done, part, Rule}
use Rattle.janus_syntax.specs.Grammar.{text_form}
use Rattle.janus_syntax.specs.Table.{rule, whole, operand, counts, chain_rule, with_procedure, with_main, is_bare}
use Rattle.janus_syntax.proofs.Follow.{ends_at, after_body, after_declarations, may_follow, May, Proper, AllProper}
use Rattle.janus_syntax.proofs.Keeps.{seen_keyword, seen_sign, ends_statement, ends_close_index, ends_weaker, ends_chain, proper_chains, may_chains, positive}
use Rattle.janus_syntax.proofs.Keeps.{operator_positive}
use Rattle.janus_syntax.proofs.KeepsTokens.{procedure_body, close_parameter, comma_parameter, body_declarations, delocal_body, begins_statement}
use Rattle.janus_syntax.proofs.KeepsTokens.{begins_declaration, body_after, declarations_after, statement_declarations, fi_body, until_body, loop_or_until_body}
use Rattle.janus_syntax.proofs.KeepsForms.{proper_operand, proper_statement, proper_declaration, proper_parameter, proper_behind_name}

-- Statements to the end, and declarations before them.
never_more : (t : Token) → false ≡ true → ⊥
never_more t e = cc

-- what stands behind a cell so far, in a part that nothing follows
may_procedures : (p : Part) → ((t : Token) → may_follow p t ≡ true → ⊥) → (main : Bool) (c : Cell) (k : Cell → Tree p) (t : Token) →
    May {p = p} (part (Procedures main c) (λ d. done (k d))) t → after_body t ≡ true
may_procedures p never main c k t m = elim m [ inl (r, is) ↦ procedure_body main c t r is | inr (u, is, m) ↦ absurd (never t m) ]

proper_procedures : (p : Part) → ((t : Token) → may_follow p t ≡ true → ⊥) → (main : Bool) (c : Cell) (k : Cell → Tree p) →
    Proper {p = p} (part (Procedures main c) (λ d. done (k d)))
proper_procedures p never main c k = λ d. (tt, λ t m. absurd (never t m))

may_statements : (p : Part) → ((t : Token) → may_follow p t ≡ true → ⊥) → (main : Block → Bool) (g : Block → Cell) (k : Cell → Tree p) (t : Token) →
    May {p = p} (part Statements (λ b. part (Procedures (main b) (g b)) (λ d. done (k d)))) t → after_declarations t ≡ true
may_statements p never main g k t m =
    elim m [ inl (r, is) ↦ statement_declarations t _ r is | inr (u, is, m) ↦ body_declarations t (may_procedures p never (main u) (g u) k t m) ]

proper_statements : (p : Part) → ((t : Token) → may_follow p t ≡ true → ⊥) → (main : Block → Bool) (g : Block → Cell) (k : Cell → Tree p) →
    Proper {p = p} (part Statements (λ b. part (Procedures (main b) (g b)) (λ d. done (k d))))
proper_statements p never main g k = λ b. (proper_procedures p never (main b) (g b) k, λ t m. may_procedures p never (main b) (g b) k t m)

-- the form of a whole text
pub proper_text : (goal : Part) → Proper (text_form goal)
proper_text A_cell =
    λ ds. (
      proper_statements A_cell never_more (λ b. is_bare ds b) (λ b. cell_of ds b []) (λ c. c),
      λ t m. may_statements A_cell never_more (λ b. is_bare ds b) (λ b. cell_of ds b []) (λ c. c) t m,
    )
proper_text _ = λ u. (tt, λ t m. m)

whole_proper : {p : Part} (a : Option (Rule p)) → AllProper a → AllProper (whole a)
whole_proper (Some r) h = h
whole_proper None h = h

chain_form : (op : Infix) (n : ℕ) (e : Exp) → 0 < n → Proper {p = Chain n e} (part (Level (n - 1)) (λ r. part (Chain n (joined op.joint e r)) done))
chain_form op n e h =
    λ r. (
      (λ u. (tt, λ t m. m)),
      λ t m. elim m
          [ inl (q, is) ↦ ends_chain (n - 1) n (joined op.joint e r) t q (omega (arith, h)) is | inr (u, is, m) ↦ ends_weaker (n - 1) n t (omega arith) m ],
    )

chain_proper : (o : Option Infix) (n : ℕ) (e : Exp) → positive o ≡ true → AllProper (chain_rule o n e)
chain_proper None n e h = tt
chain_proper (Some op) n e h =
    elim (nat_eq op.level n) as (λ b. nat_eq op.level n ≡ b →
    AllProper {p = Chain n e} (cond b (counts (part (Level (n - 1)) (λ r. part (Chain n (joined op.joint e r)) done))) None)) [
      | true ↦ λ q. let k = ltb-true 0 op.level h in let l = eqb-true op.level n q in chain_form op n e (omega (arith, k, l))
      | false ↦ λ q. tt
    ] refl

up : (n : ℕ) (t : Token) → ends_at n t ≡ true → ends_at (0 + n) t ≡ true
up n t m = ends_weaker (0 + n) n t (omega arith) m

pub proper_rule : (p : Part) (t : Token) → AllProper (rule p t)
proper_rule A_cell t = tt
proper_rule Declarations t =
    proper_declaration t _ (λ d ds. (tt, λ t m. m)) (λ d t m. elim m [ inl (r, is) ↦ begins_declaration t _ r is | inr (u, is, m) ↦ declarations_after t m ])
proper_rule Bound (Sign_of sign.OpenIndex at) = λ n z. tt
proper_rule Bound (Sign_of _ at) = tt
proper_rule Bound (Name x at) = tt
proper_rule Bound (Number n at) = tt
proper_rule Bound (Keyword_of w at) = tt
proper_rule (Procedures main c) (Keyword_of keyword.Procedure at) = λ u. (tt, λ t m. m)
proper_rule (Procedures main c) (Keyword_of _ at) = tt
proper_rule (Procedures main c) (Name x at) = tt
proper_rule (Procedures main c) (Number n at) = tt
proper_rule (Procedures main c) (Sign_of s at) = tt
proper_rule (A_procedure main c) (Name f at) =
    proper_behind_name {p = A_procedure main c} (named f at) (λ p. part (Procedures main (with_procedure c p)) done)
    (λ p. proper_procedures (A_procedure main c) never_more main (with_procedure c p) (λ d. d))
    (λ p t m. may_procedures (A_procedure main c) never_more main (with_procedure c p) (λ d. d) t m)
proper_rule (A_procedure true c) (Keyword_of keyword.Main at) =
    λ a b ds. (
      proper_statements (A_procedure true c) never_more (λ b. false) (λ b. with_main ds b c) (λ d. d),
      λ t m. may_statements (A_procedure true c) never_more (λ b. false) (λ b. with_main ds b c) (λ d. d) t m,
    )
proper_rule (A_procedure false c) (Keyword_of keyword.Main at) = tt
proper_rule (A_procedure true c) (Keyword_of _ at) = tt
proper_rule (A_procedure false c) (Keyword_of _ at) = tt
proper_rule (A_procedure main c) (Number n at) = tt
proper_rule (A_procedure main c) (Sign_of s at) = tt
proper_rule Parameters t =
    proper_parameter t _ (λ x xs. (tt, λ t m. m)) (λ x t m. elim m [ inl (r, is) ↦ comma_parameter t r is | inr (u, is, m) ↦ close_parameter t m ])
proper_rule More_parameters (Sign_of sign.Comma at) =
    λ x. ((λ xs. (tt, λ t m. m)), λ t m. elim m [ inl (r, is) ↦ comma_parameter t r is | inr (u, is, m) ↦ close_parameter t m ])
proper_rule More_parameters (Sign_of _ at) = tt
proper_rule More_parameters (Name x at) = tt
proper_rule More_parameters (Number n at) = tt
proper_rule More_parameters (Keyword_of w at) = tt
proper_rule A_parameter t = proper_parameter t done (λ x. tt) (λ x t m. m)
proper_rule Brackets (Sign_of sign.OpenIndex at) = λ z. tt
proper_rule Brackets (Sign_of _ at) = tt
proper_rule Brackets (Name x at) = tt
proper_rule Brackets (Number n at) = tt
proper_rule Brackets (Keyword_of w at) = tt
proper_rule Body t =
    proper_statement t _ (λ s b. (tt, λ t m. m)) (λ s t m. elim m [ inl (r, is) ↦ begins_statement t _ r is | inr (u, is, m) ↦ body_after t m ])
proper_rule Statements t =
    proper_statement t _ (λ s b. (tt, λ t m. m)) (λ s t m. elim m [ inl (r, is) ↦ begins_statement t _ r is | inr (u, is, m) ↦ body_after t m ])
proper_rule Else_part (Keyword_of keyword.Else at) = λ b. (tt, λ t m. fi_body t m)
proper_rule Else_part (Keyword_of _ at) = tt
proper_rule Else_part (Name x at) = tt
proper_rule Else_part (Number n at) = tt
proper_rule Else_part (Sign_of s at) = tt
proper_rule Do_part (Keyword_of keyword.Do at) = λ b. (tt, λ t m. loop_or_until_body t m)
proper_rule Do_part (Keyword_of _ at) = tt
proper_rule Do_part (Name x at) = tt
proper_rule Do_part (Number n at) = tt
proper_rule Do_part (Sign_of s at) = tt
proper_rule Loop_part (Keyword_of keyword.Loop at) = λ b. (tt, λ t m. until_body t m)
proper_rule Loop_part (Keyword_of _ at) = tt
proper_rule Loop_part (Name x at) = tt
proper_rule Loop_part (Number n at) = tt
proper_rule Loop_part (Sign_of s at) = tt
proper_rule Local (Keyword_of keyword.Int at) =
    λ x a e. (
      (λ b. ((λ c j y d f. (tt, λ t m. ends_statement t m)), λ t m. delocal_body t (seen_keyword keyword.Delocal t m.0 m.1))),
      λ t m. elim m [ inl (r, is) ↦ ends_statement t (begins_statement t _ r is) | inr (u, is, m) ↦ absurd cc ],
    )
proper_rule Local (Keyword_of keyword.Stack at) = λ x a c b. ((λ d j y f g. tt), λ t m. delocal_body t (seen_keyword keyword.Delocal t m.0 m.1))
proper_rule Local (Keyword_of _ at) = tt
proper_rule Local (Name x at) = tt
proper_rule Local (Number n at) = tt
proper_rule Local (Sign_of s at) = tt
proper_rule Names (Name x at) = λ xs. (tt, λ t m. m)
proper_rule Names (Keyword_of w at) = tt
proper_rule Names (Number n at) = tt
proper_rule Names (Sign_of s at) = tt
proper_rule More_names (Sign_of sign.Comma at) = λ x xs. (tt, λ t m. m)
proper_rule More_names (Sign_of _ at) = tt
proper_rule More_names (Name x at) = tt
proper_rule More_names (Number n at) = tt
proper_rule More_names (Keyword_of w at) = tt
proper_rule Swap_partner (Sign_of sign.Swap at) = λ y. tt
proper_rule Swap_partner (Sign_of _ at) = tt
proper_rule Swap_partner (Name x at) = tt
proper_rule Swap_partner (Number n at) = tt
proper_rule Swap_partner (Keyword_of w at) = tt
proper_rule Target_index (Sign_of sign.OpenIndex at) = λ e. ((λ z. tt), λ t m. ends_close_index t (seen_sign sign.CloseIndex t m.0 m.1))
proper_rule Target_index (Sign_of _ at) = tt
proper_rule Target_index (Name x at) = tt
proper_rule Target_index (Number n at) = tt
proper_rule Target_index (Keyword_of w at) = tt
proper_rule Whole t =
    whole_proper (operand t _)
    (proper_operand t _ (λ e. proper_chains {p = Whole} 0 weakest e done (λ f. tt) (λ f t m. m))
    (λ e t m. may_chains {p = Whole} 0 weakest e done (λ f t m. m) t m))
proper_rule (Level n) t =
    proper_operand t _ (λ e. proper_chains {p = Level n} 0 n e done (λ f. tt) (λ f t m. up n t m))
    (λ e t m. may_chains {p = Level n} 0 n e done (λ f t m. up n t m) t m)
proper_rule (Chain n e) t = chain_proper (operator_at t) n e (operator_positive t)
proper_rule Index (Sign_of sign.OpenIndex at) = λ e. ((λ z. tt), λ t m. ends_close_index t (seen_sign sign.CloseIndex t m.0 m.1))
proper_rule Index (Sign_of _ at) = tt
proper_rule Index (Name x at) = tt
proper_rule Index (Number n at) = tt
proper_rule Index (Keyword_of w at) = tt
