-- The tokens that stand behind the parts, as the table of what may follow has them.
use Rattle.std.proofs.Common.{◌≡◌, ℕ, Some, Bool, true, false, refl, ◌⊎◌, inl, inr}
use Rattle.std.specs.Prelude.{◌||◌}
use Rattle.std.proofs.lemmas.Bool.{and_parts}
use Rattle.janus_syntax.specs.declared.token.Sign.TheVariants as sign
use Rattle.janus_syntax.specs.declared.token.Keyword.{Keyword}
use Rattle.janus_syntax.specs.declared.token.Keyword.TheVariants as keyword
use Rattle.janus_syntax.specs.declared.tree.Update.{Update}
use Rattle.janus_syntax.specs.Tokens.{Token, Name, Number, Sign_of, Keyword_of}
use Rattle.janus_syntax.specs.Tree.{Stm, Declaration, Cell}
use Rattle.janus_syntax.specs.Operators.{weakest, operator_at, update_at}
use Rattle.janus_syntax.specs.Forms.{Part, Procedures, More_parameters, Else_part, Do_part, Loop_part, Target_index, Tree, The_keyword, seen, Form, Rule}
use Rattle.janus_syntax.specs.Table.{rule, left_out, statement, declaration}
use Rattle.janus_syntax.proofs.Follow.{is_keyword, is_sign, no_swap, no_index, weaker_than, ends_at, after_statement, after_body, after_declarations}
use Rattle.janus_syntax.proofs.Follow.{after_parameter, may_follow}
use Rattle.janus_syntax.proofs.Keeps.{seen_keyword, ends_statement, keyword_after}

-- Tokens that follow.

-- behind a whole expression, a keyword
pub ends_keyword : (w : Keyword) (t : Token) → (s : Unit {0}) × (seen (The_keyword w) t ≡ Some s) → ends_at weakest t ≡ true
ends_keyword w t (s, e) = ends_statement t (keyword_after w t (seen_keyword w t s e))

-- what a statement begins with
pub begins_statement : {p : Part} (t : Token) (k : Stm → Form p) (r : Rule p) → statement t k ≡ Some r → after_statement t ≡ true
begins_statement (Name x at) k r e = refl
begins_statement (Keyword_of w at) k r e = refl
begins_statement (Number n at) k r e = absurd cc
begins_statement (Sign_of s at) k r e = absurd cc

pub begins_declaration : {p : Part} (t : Token) (k : Declaration → Form p) (r : Rule p) → declaration t k ≡ Some r → after_statement t ≡ true
begins_declaration (Keyword_of w at) k r e = refl
begins_declaration (Name x at) k r e = absurd cc
begins_declaration (Number n at) k r e = absurd cc
begins_declaration (Sign_of s at) k r e = absurd cc

pub body_after : (t : Token) → after_body t ≡ true → after_statement t ≡ true
body_after (Keyword_of w at) e = refl
body_after (Name x at) e = absurd cc
body_after (Number n at) e = absurd cc
body_after (Sign_of s at) e = absurd cc

pub declarations_after : (t : Token) → after_declarations t ≡ true → after_statement t ≡ true
declarations_after (Keyword_of w at) e = refl
declarations_after (Name x at) e = refl
declarations_after (Number n at) e = absurd cc
declarations_after (Sign_of s at) e = absurd cc

pub body_declarations : (t : Token) → after_body t ≡ true → after_declarations t ≡ true
body_declarations (Keyword_of keyword.Int at) e = absurd cc
body_declarations (Keyword_of keyword.Stack at) e = absurd cc
body_declarations (Keyword_of _ at) e = refl
body_declarations (Name x at) e = absurd cc
body_declarations (Number n at) e = absurd cc
body_declarations (Sign_of s at) e = absurd cc

pub statement_declarations : {p : Part} (t : Token) (k : Stm → Form p) (r : Rule p) → statement t k ≡ Some r → after_declarations t ≡ true
statement_declarations (Keyword_of keyword.Int at) k r e = absurd cc
statement_declarations (Keyword_of keyword.Stack at) k r e = absurd cc
statement_declarations (Keyword_of _ at) k r e = refl
statement_declarations (Name x at) k r e = refl
statement_declarations (Number n at) k r e = absurd cc
statement_declarations (Sign_of s at) k r e = absurd cc

-- behind a body
pub fi_body : (t : Token) → is_keyword keyword.Fi t ≡ true → after_body t ≡ true
fi_body (Keyword_of keyword.Fi at) e = refl
fi_body (Keyword_of _ at) e = absurd cc
fi_body (Name x at) e = absurd cc
fi_body (Number n at) e = absurd cc
fi_body (Sign_of s at) e = absurd cc

pub until_body : (t : Token) → is_keyword keyword.Until t ≡ true → after_body t ≡ true
until_body (Keyword_of keyword.Until at) e = refl
until_body (Keyword_of _ at) e = absurd cc
until_body (Name x at) e = absurd cc
until_body (Number n at) e = absurd cc
until_body (Sign_of s at) e = absurd cc

pub delocal_body : (t : Token) → is_keyword keyword.Delocal t ≡ true → after_body t ≡ true
delocal_body (Keyword_of keyword.Delocal at) e = refl
delocal_body (Keyword_of _ at) e = absurd cc
delocal_body (Name x at) e = absurd cc
delocal_body (Number n at) e = absurd cc
delocal_body (Sign_of s at) e = absurd cc

pub procedure_body : (main : Bool) (c : Cell) (t : Token) (r : Rule (Procedures main c)) → rule (Procedures main c) t ≡ Some r → after_body t ≡ true
procedure_body main c (Keyword_of keyword.Procedure at) r e = refl
procedure_body main c (Keyword_of _ at) r e = absurd cc
procedure_body main c (Name x at) r e = absurd cc
procedure_body main c (Number n at) r e = absurd cc
procedure_body main c (Sign_of s at) r e = absurd cc

pub close_parameter : (t : Token) → is_sign sign.Close t ≡ true → after_parameter t ≡ true
close_parameter (Sign_of sign.Close at) e = refl
close_parameter (Sign_of _ at) e = absurd cc
close_parameter (Name x at) e = absurd cc
close_parameter (Number n at) e = absurd cc
close_parameter (Keyword_of w at) e = absurd cc

pub comma_parameter : (t : Token) (r : Rule More_parameters) → rule More_parameters t ≡ Some r → after_parameter t ≡ true
comma_parameter (Sign_of sign.Comma at) r e = refl
comma_parameter (Sign_of _ at) r e = absurd cc
comma_parameter (Name x at) r e = absurd cc
comma_parameter (Number n at) r e = absurd cc
comma_parameter (Keyword_of w at) r e = absurd cc

pub else_body : (t : Token) (r : Rule Else_part) → rule Else_part t ≡ Some r → after_body t ≡ true
else_body (Keyword_of keyword.Else at) r e = refl
else_body (Keyword_of _ at) r e = absurd cc
else_body (Name x at) r e = absurd cc
else_body (Number n at) r e = absurd cc
else_body (Sign_of s at) r e = absurd cc

pub do_keyword : (t : Token) (r : Rule Do_part) → rule Do_part t ≡ Some r → after_statement t ≡ true
do_keyword (Keyword_of w at) r e = refl
do_keyword (Name x at) r e = absurd cc
do_keyword (Number n at) r e = absurd cc
do_keyword (Sign_of s at) r e = absurd cc

pub loop_keyword : (t : Token) (r : Rule Loop_part) → rule Loop_part t ≡ Some r → is_keyword keyword.Loop t ≡ true
loop_keyword (Keyword_of keyword.Loop at) r e = refl
loop_keyword (Keyword_of _ at) r e = absurd cc
loop_keyword (Name x at) r e = absurd cc
loop_keyword (Number n at) r e = absurd cc
loop_keyword (Sign_of s at) r e = absurd cc

pub or_left : (a b : Bool) → a ≡ true → (a || b) ≡ true
or_left true b e = refl
or_left false b e = absurd cc

pub or_right : (a b : Bool) → b ≡ true → (a || b) ≡ true
or_right true b e = refl
or_right false b e = e

pub loop_or_until_body : (t : Token) → (is_keyword keyword.Loop t || is_keyword keyword.Until t) ≡ true → after_body t ≡ true
loop_or_until_body (Keyword_of keyword.Loop at) e = refl
loop_or_until_body (Keyword_of keyword.Until at) e = refl
loop_or_until_body (Keyword_of _ at) e = absurd cc
loop_or_until_body (Name x at) e = absurd cc
loop_or_until_body (Number n at) e = absurd cc
loop_or_until_body (Sign_of s at) e = absurd cc

pub update_no_index : (t : Token) (u : Update) → update_at t ≡ Some u → no_index t ≡ true
update_no_index (Sign_of sign.OpenIndex at) u e = absurd cc
update_no_index (Sign_of _ at) u e = refl
update_no_index (Name x at) u e = refl
update_no_index (Number n at) u e = refl
update_no_index (Keyword_of w at) u e = refl

pub update_no_swap : (t : Token) (u : Update) → update_at t ≡ Some u → no_swap t ≡ true
update_no_swap (Sign_of sign.Swap at) u e = absurd cc
update_no_swap (Sign_of _ at) u e = refl
update_no_swap (Name x at) u e = refl
update_no_swap (Number n at) u e = refl
update_no_swap (Keyword_of w at) u e = refl

pub index_no_swap : (t : Token) (r : Rule Target_index) → rule Target_index t ≡ Some r → no_swap t ≡ true
index_no_swap (Sign_of sign.Swap at) r e = absurd cc
index_no_swap (Sign_of _ at) r e = refl
index_no_swap (Name x at) r e = refl
index_no_swap (Number n at) r e = refl
index_no_swap (Keyword_of w at) r e = refl

pub statement_no_swap : (t : Token) → after_statement t ≡ true → no_swap t ≡ true
statement_no_swap (Keyword_of w at) e = refl
statement_no_swap (Name x at) e = refl
statement_no_swap (Number n at) e = absurd cc
statement_no_swap (Sign_of s at) e = absurd cc

pub no_index_of : (n : ℕ) (t : Token) → ends_at n t ≡ true → no_index t ≡ true
no_index_of n t e = (and_parts (no_index t) (weaker_than n (operator_at t)) e).0

-- the `loop` part or `until`
abbrev pub MayUntil : Token → Type 0
MayUntil t = (s : Unit {0}) × (seen (The_keyword keyword.Until) t ≡ Some s)

abbrev pub MayLoop : Token → Type 0
MayLoop t = ((r : Rule Loop_part) × (rule Loop_part t ≡ Some r)) ⊎ ((u : Tree Loop_part) × (left_out Loop_part ≡ Some u) × MayUntil t)

pub loop_follows : (t : Token) → MayLoop t → may_follow Do_part t ≡ true
loop_follows t m =
    elim m [
      | inl (r, is) ↦ or_left (is_keyword keyword.Loop t) (is_keyword keyword.Until t) (loop_keyword t r is)
      | inr (u, is, m) ↦ or_right (is_keyword keyword.Loop t) (is_keyword keyword.Until t) (seen_keyword keyword.Until t m.0 m.1)
    ]

-- the `do` part, the `loop` part or `until`
pub do_follows : (t : Token) → ((r : Rule Do_part) × (rule Do_part t ≡ Some r)) ⊎ ((u : Tree Do_part) × (left_out Do_part ≡ Some u) × MayLoop t) →
    ends_at weakest t ≡ true
do_follows t m =
    elim m [
      | inl (r, is) ↦ ends_statement t (do_keyword t r is)
      | inr (u, is, m)
          ↦ elim m [ inl (r, is) ↦ ends_statement t (keyword_after keyword.Loop t (loop_keyword t r is)) | inr (u, is, m) ↦ ends_keyword keyword.Until t m ]
    ]
