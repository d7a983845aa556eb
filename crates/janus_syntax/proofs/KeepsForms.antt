-- Each line of the grammar's table keeps to the table of what may follow: one line here for each line there.
use Rattle.std.proofs.Common.{◌≡◌, Option, Some, None, true, inl, inr}
use Rattle.janus_syntax.specs.declared.token.Sign.TheVariants as sign
use Rattle.janus_syntax.specs.declared.token.Keyword.TheVariants as keyword
use Rattle.janus_syntax.specs.Tokens.{Token, Name, Number, Sign_of, Keyword_of}
use Rattle.janus_syntax.specs.Tree.{Name as Named, Exp, Stm, Declaration, Parameter, Procedure}
use Rattle.janus_syntax.specs.Forms.{Part, Form}
use Rattle.janus_syntax.specs.Table.{operand, behind_target, statement, declaration, a_parameter, behind_name}
use Rattle.janus_syntax.proofs.Follow.{no_swap, ends_at, after_statement, after_body, after_parameter, May, Proper, AllProper}
use Rattle.janus_syntax.proofs.Keeps.{seen_keyword, seen_sign, ends_statement, ends_close}
use Rattle.janus_syntax.proofs.KeepsTokens.{ends_keyword, fi_body, else_body, update_no_index, update_no_swap, index_no_swap, statement_no_swap, no_index_of}
use Rattle.janus_syntax.proofs.KeepsTokens.{loop_follows, do_follows}

-- Operands and statements, in front of any form.

pub proper_operand : {p : Part} (t : Token) (k : Exp → Form p) → ((e : Exp) → Proper (k e)) → ((e : Exp) (t' : Token) → May (k e) t' → ends_at 0 t' ≡ true) →
    AllProper (operand t k)
proper_operand (Number v at) k h ends = h _
proper_operand (Name x at) k h ends = λ i. (h _, λ t m. no_index_of 0 t (ends _ t m))
proper_operand (Keyword_of keyword.Empty at) k h ends = λ z s z'. h _
proper_operand (Keyword_of keyword.Top at) k h ends = λ z s z'. h _
proper_operand (Keyword_of _ at) k h ends = tt
proper_operand (Sign_of sign.Open at) k h ends = λ e. ((λ z. h e), λ t m. ends_close t (seen_sign sign.Close t m.0 m.1))
proper_operand (Sign_of sign.Minus at) k h ends = λ e. (h _, λ t m. ends _ t m)
proper_operand (Sign_of _ at) k h ends = tt

proper_target : {p : Part} (x : Named) (other : Option Named) (k : Stm → Form p) → ((s : Stm) → Proper (k s)) →
    ((s : Stm) (t' : Token) → May (k s) t' → after_statement t' ≡ true) → Proper (behind_target x other k)
proper_target x (Some y) k h ends = h _
proper_target x None k h ends = λ i. ((λ u e. (h _, λ t m. ends_statement t (ends _ t m))), λ t m. update_no_index t m.0 m.1)

may_target : {p : Part} (x : Named) (other : Option Named) (k : Stm → Form p) → ((s : Stm) (t' : Token) → May (k s) t' → after_statement t' ≡ true) →
    (t : Token) → May (behind_target x other k) t → no_swap t ≡ true
may_target x (Some y) k ends t m = statement_no_swap t (ends _ t m)
may_target x None k ends t m = elim m [ inl (r, is) ↦ index_no_swap t r is | inr (u, is, m) ↦ update_no_swap t m.0 m.1 ]

pub proper_statement : {p : Part} (t : Token) (k : Stm → Form p) → ((s : Stm) → Proper (k s)) →
    ((s : Stm) (t' : Token) → May (k s) t' → after_statement t' ≡ true) → AllProper (statement t k)
proper_statement (Number v at) k h ends = tt
proper_statement (Sign_of s at) k h ends = tt
proper_statement (Name x at) k h ends = λ other. (proper_target _ other k h ends, λ t m. may_target _ other k ends t m)
proper_statement (Keyword_of keyword.If at) k h ends =
    λ e. (
      (λ z s. (
        (λ b. ((λ z f. (h _, λ t m. ends_statement t (ends _ t m))), λ t m. seen_keyword keyword.Fi t m.0 m.1)),
        λ t m. elim m [ inl (r, is) ↦ else_body t r is | inr (u, is, m) ↦ fi_body t (seen_keyword keyword.Fi t m.0 m.1) ],
      )),
      λ t m. ends_keyword keyword.Then t m,
    )
proper_statement (Keyword_of keyword.From at) k h ends =
    λ e. (
      (λ s. ((λ b. ((λ z f. (h _, λ t m. ends_statement t (ends _ t m))), λ t m. seen_keyword keyword.Until t m.0 m.1)), λ t m. loop_follows t m)),
      λ t m. do_follows t m,
    )
proper_statement (Keyword_of keyword.Local at) k h ends = λ s. (h s, λ t m. ends s t m)
proper_statement (Keyword_of keyword.Call at) k h ends = λ f z xs. ((λ z. h _), λ t m. seen_sign sign.Close t m.0 m.1)
proper_statement (Keyword_of keyword.Uncall at) k h ends = λ f z xs. ((λ z. h _), λ t m. seen_sign sign.Close t m.0 m.1)
proper_statement (Keyword_of keyword.Skip at) k h ends = h _
proper_statement (Keyword_of keyword.Push at) k h ends = λ z x z' s z''. h _
proper_statement (Keyword_of keyword.Pop at) k h ends = λ z x z' s z''. h _
proper_statement (Keyword_of _ at) k h ends = tt

pub proper_declaration : {p : Part} (t : Token) (k : Declaration → Form p) → ((d : Declaration) → Proper (k d)) →
    ((d : Declaration) (t' : Token) → May (k d) t' → after_statement t' ≡ true) → AllProper (declaration t k)
proper_declaration (Keyword_of keyword.Int at) k h ends = λ x n. (h _, λ t m. ends _ t m)
proper_declaration (Keyword_of keyword.Stack at) k h ends = λ s. h _
proper_declaration (Keyword_of _ at) k h ends = tt
proper_declaration (Name x at) k h ends = tt
proper_declaration (Number n at) k h ends = tt
proper_declaration (Sign_of s at) k h ends = tt

pub proper_parameter : {p : Part} (t : Token) (k : Parameter → Form p) → ((x : Parameter) → Proper (k x)) →
    ((x : Parameter) (t' : Token) → May (k x) t' → after_parameter t' ≡ true) → AllProper (a_parameter t k)
proper_parameter (Keyword_of keyword.Int at) k h ends = λ x b. (h _, λ t m. ends _ t m)
proper_parameter (Keyword_of keyword.Stack at) k h ends = λ s. h _
proper_parameter (Keyword_of _ at) k h ends = tt
proper_parameter (Name x at) k h ends = tt
proper_parameter (Number n at) k h ends = tt
proper_parameter (Sign_of s at) k h ends = tt

pub proper_behind_name : {p : Part} (f : Named) (k : Procedure → Form p) → ((q : Procedure) → Proper (k q)) →
    ((q : Procedure) (t' : Token) → May (k q) t' → after_body t' ≡ true) → Proper (behind_name f k)
proper_behind_name f k h ends = λ z xs. ((λ z b. (h _, λ t m. ends _ t m)), λ t m. seen_sign sign.Close t m.0 m.1)
