-- What may stand behind a part, as a table of its own, and that each rule of the grammar keeps to it. So a part
-- that may be left out is never left out in front of a token with which it could begin.
use Rattle.std.proofs.Common.{◌≡◌, ℕ, Option, Some, None, Bool, true, false, ◌⊎◌}
use Rattle.std.specs.Prelude.{nat_lt, nat_eq, ◌||◌, ◌&&◌}
use Rattle.janus_syntax.specs.declared.token.Sign.{Sign}
use Rattle.janus_syntax.specs.declared.token.Sign.TheVariants as sign
use Rattle.janus_syntax.specs.declared.token.Keyword.{Keyword}
use Rattle.janus_syntax.specs.declared.token.Keyword.TheVariants as keyword
use Rattle.janus_syntax.specs.declared.operator.Infix.{Infix}
use Rattle.janus_syntax.specs.Tokens.{Token, Name, Sign_of, Keyword_of}
use Rattle.janus_syntax.specs.Operators.{weakest, operator_at}
use Rattle.janus_syntax.specs.Forms.{Part, A_cell, Declarations, Bound, Procedures, A_procedure, Parameters, More_parameters, A_parameter, Brackets, Body}
use Rattle.janus_syntax.specs.Forms.{Statements, Else_part, Do_part, Loop_part, Local, Names, More_names, Swap_partner, Target_index, Whole, Level, Chain}
use Rattle.janus_syntax.specs.Forms.{Index, Tree, Seen, seen, keyword_number, sign_number, Form, done, take, part, close, Rule}
use Rattle.janus_syntax.specs.Table.{rule, left_out}

-- Tests of tokens.

abbrev pub is_keyword : Keyword → Token → Bool
is_keyword w (Keyword_of v _) = nat_eq (keyword_number w) (keyword_number v)
is_keyword w _ = false

abbrev pub is_sign : Sign → Token → Bool
is_sign s (Sign_of r _) = nat_eq (sign_number s) (sign_number r)
is_sign s _ = false

abbrev pub no_swap : Token → Bool
no_swap (Sign_of sign.Swap _) = false
no_swap _ = true

abbrev pub no_index : Token → Bool
no_index (Sign_of sign.OpenIndex _) = false
no_index _ = true

abbrev pub weaker_than : ℕ → Option Infix → Bool
weaker_than n None = true
weaker_than n (Some op) = nat_lt n op.level

-- neither an index nor an operator of this level or a stronger one
abbrev pub ends_at : ℕ → Token → Bool
ends_at n t = no_index t && weaker_than n (operator_at t)

-- a statement, or a keyword
abbrev pub after_statement : Token → Bool
after_statement (Name x at) = true
after_statement (Keyword_of w at) = true
after_statement _ = false

abbrev pub ends_body : Keyword → Bool
ends_body keyword.Else = true
ends_body keyword.Fi = true
ends_body keyword.Loop = true
ends_body keyword.Until = true
ends_body keyword.Delocal = true
ends_body keyword.Procedure = true
ends_body _ = false

abbrev pub after_body : Token → Bool
after_body (Keyword_of w at) = ends_body w
after_body _ = false

abbrev pub after_declarations : Token → Bool
after_declarations (Name x at) = true
after_declarations (Keyword_of keyword.Int at) = false
after_declarations (Keyword_of keyword.Stack at) = false
after_declarations (Keyword_of _ at) = true
after_declarations _ = false

abbrev pub after_parameter : Token → Bool
after_parameter (Sign_of sign.Comma at) = true
after_parameter (Sign_of sign.Close at) = true
after_parameter _ = false

-- the table
abbrev pub may_follow : Part → Token → Bool
may_follow A_cell t = false
may_follow Declarations t = after_declarations t
may_follow Bound t = after_statement t
may_follow (Procedures main c) t = false
may_follow (A_procedure main c) t = false
may_follow Parameters t = is_sign sign.Close t
may_follow More_parameters t = is_sign sign.Close t
may_follow A_parameter t = after_parameter t
may_follow Brackets t = after_parameter t
may_follow Body t = after_body t
may_follow Statements t = after_body t
may_follow Else_part t = is_keyword keyword.Fi t
may_follow Do_part t = is_keyword keyword.Loop t || is_keyword keyword.Until t
may_follow Loop_part t = is_keyword keyword.Until t
may_follow Local t = after_statement t
may_follow Names t = is_sign sign.Close t
may_follow More_names t = is_sign sign.Close t
may_follow Swap_partner t = no_swap t
may_follow Target_index t = no_index t
may_follow Whole t = ends_at weakest t
may_follow (Level n) t = ends_at n t
may_follow (Chain n e) t = ends_at n t
may_follow Index t = no_index t

-- the tokens with which a form may begin, where its part is followed as the table says
abbrev pub May : {p : Part} → Form p → Token → Type 0
May {p} (done v) t = may_follow p t ≡ true
May (take c k) t = (s : Seen c) × (seen c t ≡ Some s)
May (close f) t = May f t
May {p} (part q k) t = ((r : Rule q) × (rule q t ≡ Some r)) ⊎ ((u : Tree q) × (left_out q ≡ Some u) × May (k u) t)

-- each part of the form is followed as the table says
abbrev pub Proper : {p : Part} → Form p → Type 0
Proper (done v) = Unit {0}
Proper (take c k) = (s : Seen c) → Proper (k s)
Proper (close f) = Proper f
Proper (part q k) = (u : Tree q) → Proper (k u) × ((t : Token) → May (k u) t → may_follow q t ≡ true)

abbrev pub AllProper : {p : Part} → Option (Rule p) → Type 0
AllProper None = Unit {0}
AllProper (Some r) = Proper r.form
