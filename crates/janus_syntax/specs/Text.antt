-- The tokens and the tree of a text, and why a text has none.
use Rattle.std.specs.Prelude.{◌≡◌, ℕ, List, [], ◌∷◌, ◌++◌, length, ◌⊎◌, IsUtf8, Result, Ok, Err, Vec}
use Rattle.janus_syntax.specs.declared.token.Span.{Span}
use Rattle.janus_syntax.specs.declared.token.Token as code_token
use Rattle.janus_syntax.specs.declared.tree.Cell as code_cell
use Rattle.janus_syntax.specs.declared.tree.Exp as code_exp
use Rattle.janus_syntax.specs.declared.fault.What.{What}
use Rattle.janus_syntax.specs.declared.fault.SyntaxFault.{SyntaxFault}
use Rattle.janus_syntax.specs.declared.fault.SyntaxFault.TheVariants as fault
use Rattle.janus_syntax.specs.Tokens.{Token, Name, Number, Sign_of, Keyword_of, views}
use Rattle.janus_syntax.specs.Tree.{Exp, Cell, exp_view, cell_view}
use Rattle.janus_syntax.specs.Lexical.{AreTokens, IsBadToken, IsTooLarge}
use Rattle.janus_syntax.specs.Forms.{Part, A_cell, Whole}
use Rattle.janus_syntax.specs.Forms as forms
use Rattle.janus_syntax.specs.Grammar.{all, IsTree, Expected, TooNested, DelocalName, IsRefused}

-- the text's tokens, or why it has none; of want of memory nothing is said
abbrev pub IsLexed : {Z : Type 0} → List ℕ → Result (Vec code_token.Token Z) SyntaxFault → Type 0
IsLexed text (Ok ts) = AreTokens text (views ts.items)
IsLexed text (Err (fault.BadToken at)) = IsBadToken text at
IsLexed text (Err (fault.NumberTooLarge at)) = IsTooLarge text at
IsLexed text (Err fault.Memory) = Unit {0}
IsLexed text (Err e) = ⊥

-- these tokens, unless memory runs out
abbrev pub IsOnly : {Z : Type 0} → List Token → Result (Vec code_token.Token Z) SyntaxFault → Type 0
IsOnly ts (Ok found) = views found.items ≡ ts
IsOnly ts (Err fault.Memory) = Unit {0}
IsOnly ts (Err e) = ⊥

abbrev pub span_of : Token → Span
span_of (Name x at) = at
span_of (Number n at) = at
span_of (Sign_of s at) = at
span_of (Keyword_of w at) = at

-- the place in front of these tokens: their first token, or the end of the text
abbrev pub place_before : ℕ → List Token → Span
place_before end [] = record { start = end; end = end }
place_before end (t ∷ ts) = span_of t

-- The text's tokens have that tree: of a cell, or of an expression.
pub record HasTreeOf (goal : Part) (text : List ℕ) (v : forms.Tree goal) : Type 0 where
  pub tokens : List Token
  pub are_tokens : AreTokens text tokens
  pub is_tree : IsTree goal all v tokens

-- the text has tokens, and here they can't go on
pub record IsUnexpectedAt (goal : Part) (text : List ℕ) (w : What) (at : Span) : Type 0 where
  pub tokens : List Token
  pub front : List Token
  pub rest : List Token
  pub are_tokens : AreTokens text tokens
  pub whole : tokens ≡ front ++ rest
  pub refused : IsRefused goal tokens (Expected w (length rest))
  pub place : at ≡ place_before (length text) rest

-- the text has tokens, and here stands one past a limit
pub record IsTooNestedAt (goal : Part) (text : List ℕ) (at : Span) : Type 0 where
  pub tokens : List Token
  pub front : List Token
  pub rest : List Token
  pub are_tokens : AreTokens text tokens
  pub whole : tokens ≡ front ++ rest
  pub refused : IsRefused goal tokens (TooNested (length rest))
  pub place : at ≡ place_before (length text) rest

-- the text has tokens, and here stands another kind or another name than behind `local`
pub record IsDelocalNameAt (goal : Part) (text : List ℕ) (at : Span) : Type 0 where
  pub tokens : List Token
  pub front : List Token
  pub rest : List Token
  pub are_tokens : AreTokens text tokens
  pub whole : tokens ≡ front ++ rest
  pub refused : IsRefused goal tokens (DelocalName (length rest))
  pub place : at ≡ place_before (length text) rest

-- the text's refusal
abbrev pub IsRefusalOf : Part → List ℕ → SyntaxFault → Type 0
IsRefusalOf goal text (fault.BadToken at) = IsBadToken text at
IsRefusalOf goal text (fault.Expected w at) = IsUnexpectedAt goal text w at
IsRefusalOf goal text (fault.NumberTooLarge at) = IsTooLarge text at
IsRefusalOf goal text (fault.TooNested at) = IsTooNestedAt goal text at
IsRefusalOf goal text (fault.DelocalName at) = IsDelocalNameAt goal text at
IsRefusalOf goal text fault.Memory = ⊥

-- what is answered is the text's refusal, or want of memory, of which nothing is said
abbrev pub Refuses : Part → List ℕ → SyntaxFault → Type 0
Refuses goal text fault.Memory = Unit {0}
Refuses goal text (fault.BadToken at) = IsRefusalOf goal text (fault.BadToken at)
Refuses goal text (fault.Expected w at) = IsRefusalOf goal text (fault.Expected w at)
Refuses goal text (fault.NumberTooLarge at) = IsRefusalOf goal text (fault.NumberTooLarge at)
Refuses goal text (fault.TooNested at) = IsRefusalOf goal text (fault.TooNested at)
Refuses goal text (fault.DelocalName at) = IsRefusalOf goal text (fault.DelocalName at)

-- ---- cells

abbrev pub HasTree : List ℕ → Cell → Type 0
HasTree text c = HasTreeOf A_cell text c

abbrev pub IsRefusal : List ℕ → SyntaxFault → Type 0
IsRefusal text e = IsRefusalOf A_cell text e

-- the text's tree, or why it has none
abbrev pub IsParsed : List ℕ → Result code_cell.Cell SyntaxFault → Type 0
IsParsed text (Ok cell) = HasTree text (cell_view cell)
IsParsed text (Err e) = Refuses A_cell text e

-- this tree, unless memory runs out
abbrev pub IsOnlyTree : Cell → Result code_cell.Cell SyntaxFault → Type 0
IsOnlyTree tree (Ok cell) = cell_view cell ≡ tree
IsOnlyTree tree (Err fault.Memory) = Unit {0}
IsOnlyTree tree (Err e) = ⊥

-- ---- expressions

abbrev pub HasExp : List ℕ → Exp → Type 0
HasExp text e = HasTreeOf Whole text e

-- the text's expression, or why it is none
abbrev pub IsParsedExp : List ℕ → Result code_exp.Exp SyntaxFault → Type 0
IsParsedExp text (Ok exp) = HasExp text (exp_view exp)
IsParsedExp text (Err e) = Refuses Whole text e

-- this expression, unless memory runs out
abbrev pub IsOnlyExp : Exp → Result code_exp.Exp SyntaxFault → Type 0
IsOnlyExp tree (Ok exp) = exp_view exp ≡ tree
IsOnlyExp tree (Err fault.Memory) = Unit {0}
IsOnlyExp tree (Err e) = ⊥

-- ---- laws, of cells and of expressions

-- A text has one refusal at most.
abbrev pub OneRefusal : Type 0
OneRefusal = (goal : Part) (text : List ℕ) (e f : SyntaxFault) → IsRefusalOf goal text e → IsRefusalOf goal text f → e ≡ f

-- A text has one list of tokens at most.
abbrev pub OneTokens : Type 0
OneTokens = (text : List ℕ) (ts us : List Token) → AreTokens text ts → AreTokens text us → ts ≡ us

-- A text has one tree at most.
abbrev pub OneTree : Type 0
OneTree = (goal : Part) (text : List ℕ) (v u : forms.Tree goal) → HasTreeOf goal text v → HasTreeOf goal text u → v ≡ u

-- A text of characters has a tree or a refusal.
abbrev pub TreeOrRefusal : Type 0
TreeOrRefusal = (goal : Part) (text : List ℕ) → IsUtf8 text → ((v : forms.Tree goal) × HasTreeOf goal text v) ⊎ ((e : SyntaxFault) × IsRefusalOf goal text e)

-- It does not have both.
abbrev pub NotBoth : Type 0
NotBoth = (goal : Part) (text : List ℕ) (v : forms.Tree goal) (e : SyntaxFault) → HasTreeOf goal text v → IsRefusalOf goal text e → ⊥
