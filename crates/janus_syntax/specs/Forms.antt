-- The language in which the grammar's table is written. A part of a cell is told by its first token; behind that
-- it has a form: tokens of a class and further parts in a row, and at its end the part's tree.
use Rattle.std.specs.Prelude.{ℕ, List, Option, Some, None, Bool, true, false, cond, nat_eq}
use Rattle.janus_meaning.specs.Store.{same_name}
use Rattle.janus_syntax.specs.declared.token.Span.{Span}
use Rattle.janus_syntax.specs.declared.token.Sign.{Sign}
use Rattle.janus_syntax.specs.declared.token.Sign.TheVariants as sign
use Rattle.janus_syntax.specs.declared.token.Keyword.{Keyword}
use Rattle.janus_syntax.specs.declared.token.Keyword.TheVariants as keyword
use Rattle.janus_syntax.specs.declared.tree.Update.{Update}
use Rattle.janus_syntax.specs.declared.tree.LocalKind.{LocalKind}
use Rattle.janus_syntax.specs.declared.tree.LocalKind.TheVariants as kind
use Rattle.janus_syntax.specs.declared.fault.What.{What}
use Rattle.janus_syntax.specs.declared.fault.What.TheVariants as what
use Rattle.janus_syntax.specs.Tokens.{Token, Name, Number, Sign_of, Keyword_of}
use Rattle.janus_syntax.specs.Tree.{Name as Named, named, Exp, Stm, Block, Declaration, Parameter, Cell}
use Rattle.janus_syntax.specs.Operators.{update_at}

-- the parts of a cell
pub data Part : Type 0 where
  A_cell : Part
  Declarations : Part
  Bound : Part  -- behind a declared `int` name
  Procedures : Bool → Cell → Part  -- behind what is read of a cell: procedures, of which one may be `main` or not
  A_procedure : Bool → Cell → Part  -- the same behind `procedure`
  Parameters : Part  -- parameters parted by commas, or none
  More_parameters : Part  -- behind a parameter: a comma and a parameter, or several
  A_parameter : Part
  Brackets : Part  -- behind the name of an `int` parameter
  Body : Part  -- one statement or more
  Statements : Part  -- none or more
  Else_part : Part
  Do_part : Part
  Loop_part : Part
  Local : Part  -- behind `local`
  Names : Part  -- names parted by commas, or none
  More_names : Part  -- behind a name: a comma and a name, or several
  Swap_partner : Part  -- behind the name that a statement begins with: `<=>` and a name, or nothing
  Target_index : Part  -- behind the name that an assignment begins with
  Whole : Part  -- a whole expression
  Level : ℕ → Part  -- an expression with no operator of a weaker level outside parentheses; 0: an operand
  Chain : ℕ → Exp → Part  -- behind an expression: operators of this level
  Index : Part  -- behind a name in an expression

-- what a part's tree is
abbrev pub Tree : Part → Type 0
Tree A_cell = Cell
Tree Declarations = List Declaration
Tree Bound = Option (ℕ × Span)
Tree (Procedures main c) = Cell
Tree (A_procedure main c) = Cell
Tree Parameters = List Parameter
Tree More_parameters = List Parameter
Tree A_parameter = Parameter
Tree Brackets = Bool
Tree Body = Block
Tree Statements = Block
Tree Else_part = Block
Tree Do_part = Block
Tree Loop_part = Block
Tree Local = Stm
Tree Names = List Named
Tree More_names = List Named
Tree Swap_partner = Option Named
Tree Target_index = Option Exp
Tree Whole = Exp
Tree (Level n) = Exp
Tree (Chain n e) = Exp
Tree Index = Option Exp

-- the classes of tokens
pub data Class : Type 0 where
  The_keyword : Keyword → Class
  The_sign : Sign → Class
  A_name : Class
  A_number : Class
  An_update : Class
  Same_kind : LocalKind → Class  -- any kind, but it has to be this one
  Same_name : Named → Class  -- any name, but it has to be this one

-- what a token of a class is
abbrev pub Seen : Class → Type 0
Seen (The_keyword w) = Unit {0}
Seen (The_sign s) = Unit {0}
Seen A_name = Named
Seen A_number = ℕ × Span
Seen An_update = Update
Seen (Same_kind k) = LocalKind
Seen (Same_name x) = Named

abbrev pub keyword_number : Keyword → ℕ
keyword_number keyword.Call = 0
keyword_number keyword.Delocal = 1
keyword_number keyword.Do = 2
keyword_number keyword.Else = 3
keyword_number keyword.Empty = 4
keyword_number keyword.Fi = 5
keyword_number keyword.From = 6
keyword_number keyword.If = 7
keyword_number keyword.Int = 8
keyword_number keyword.Local = 9
keyword_number keyword.Loop = 10
keyword_number keyword.Main = 11
keyword_number keyword.Nil = 12
keyword_number keyword.Pop = 13
keyword_number keyword.Procedure = 14
keyword_number keyword.Push = 15
keyword_number keyword.Skip = 16
keyword_number keyword.Stack = 17
keyword_number keyword.Then = 18
keyword_number keyword.Top = 19
keyword_number keyword.Uncall = 20
keyword_number keyword.Until = 21

abbrev pub sign_number : Sign → ℕ
sign_number sign.PlusEquals = 0
sign_number sign.MinusEquals = 1
sign_number sign.XorEquals = 2
sign_number sign.Plus = 3
sign_number sign.Minus = 4
sign_number sign.Times = 5
sign_number sign.Divide = 6
sign_number sign.Remainder = 7
sign_number sign.Xor = 8
sign_number sign.BitAnd = 9
sign_number sign.And = 10
sign_number sign.BitOr = 11
sign_number sign.Or = 12
sign_number sign.Equals = 13
sign_number sign.Differs = 14
sign_number sign.Less = 15
sign_number sign.Greater = 16
sign_number sign.AtMost = 17
sign_number sign.AtLeast = 18
sign_number sign.Open = 19
sign_number sign.Close = 20
sign_number sign.OpenIndex = 21
sign_number sign.CloseIndex = 22
sign_number sign.Comma = 23
sign_number sign.Swap = 24

-- the same name, wherever it stands
abbrev pub same_named : Named → Named → Bool
same_named (named x at) (named y place) = same_name x y

abbrev pub same_kind : LocalKind → LocalKind → Bool
same_kind kind.Int kind.Int = true
same_kind kind.Int kind.Stack = false
same_kind kind.Stack kind.Int = false
same_kind kind.Stack kind.Stack = true

-- the kind of a keyword
abbrev pub keyword_kind : Keyword → Option LocalKind
keyword_kind keyword.Int = Some kind.Int
keyword_kind keyword.Stack = Some kind.Stack
keyword_kind _ = None

-- a token as one of a class
abbrev pub seen : (c : Class) → Token → Option (Seen c)
seen (The_keyword w) (Keyword_of v _) = cond (nat_eq (keyword_number w) (keyword_number v)) (Some tt) None
seen (The_keyword w) _ = None
seen (The_sign s) (Sign_of r _) = cond (nat_eq (sign_number s) (sign_number r)) (Some tt) None
seen (The_sign s) _ = None
seen A_name (Name x at) = Some (named x at)
seen A_name _ = None
seen A_number (Number n at) = Some (n, at)
seen A_number _ = None
seen An_update t = update_at t
seen (Same_kind k) (Keyword_of v _) = keyword_kind v
seen (Same_kind k) _ = None
seen (Same_name x) (Name y at) = Some (named y at)
seen (Same_name x) _ = None

-- whether it is the one that it has to be
abbrev pub agrees : (c : Class) → Seen c → Bool
agrees (Same_kind k) j = same_kind k j
agrees (Same_name x) y = same_named x y
agrees _ v = true

-- how a class is told
abbrev pub what_of : Class → What
what_of (The_keyword w) = what.Keyword w
what_of (The_sign s) = what.Sign s
what_of A_name = what.Name
what_of A_number = what.Number
what_of An_update = what.Operator
what_of (Same_kind k) = what.Kind
what_of (Same_name x) = what.Name

-- a form of a part's tree
pub data Form (p : Part) : Type 0 where
  done : Tree p → Form p  -- nothing more
  take : (c : Class) → (Seen c → Form p) → Form p  -- a token of a class
  part : (q : Part) → (Tree q → Form p) → Form p  -- a part
  close : Form p → Form p  -- here a construct that counts for the limit on nesting has ended

-- What a part is behind its first token: its form; whether that token opens a construct, is an operator, begins
-- a whole expression.
pub record Rule (p : Part) : Type 0 where
  pub opens : ℕ
  pub counts : ℕ
  pub is_whole : Bool
  pub form : Form p
