-- What the parser's functions on statements and declarations say of what they return. It serves the proofs.
use Rattle.std.specs.Prelude.{◌≡◌, ℕ, ◌<◌, ◌≤◌, List, [], ◌∷◌, length, Option, Some, None, Bool, true, false, string_bytes}
use Rattle.std.specs.Borrow.{Bor}
use Rattle.janus_syntax.specs.declared.fault.What.TheVariants as what
use Rattle.janus_syntax.specs.declared.token.Keyword.{Keyword}
use Rattle.janus_syntax.specs.declared.token.Keyword.TheVariants as keyword
use Rattle.janus_syntax.specs.declared.token.Sign.TheVariants as sign
use Rattle.janus_syntax.specs.declared.text_token.TextToken as code_token
use Rattle.janus_syntax.specs.declared.tree.Name as code_name
use Rattle.janus_syntax.specs.declared.tree.LocalKind.{LocalKind}
use Rattle.janus_syntax.specs.declared.tree.Stm as code_stm
use Rattle.janus_syntax.specs.declared.tree.Declaration as code_declaration
use Rattle.janus_syntax.specs.Tokens.{Token, Name, Keyword_of}
use Rattle.janus_syntax.specs.TextTokens.{views}
use Rattle.janus_syntax.specs.Tree.{Name as Named, Exp, Stm, If, Loop, Block, Empty, More, Declaration, Cell, cell_of, stm_view, declaration_view}
use Rattle.janus_syntax.specs.Forms.{Part, Body, Statements, Names, Declarations, Bound, Whole, Else_part, Do_part, Loop_part, Swap_partner, Target_index}
use Rattle.janus_syntax.specs.Forms.{A_name, The_keyword, The_sign, An_update, Form, take, part, close}
use Rattle.janus_syntax.specs.Table.{keyword_then, call_then, delocal_then, local_int, local_stack, statement, declaration, declared, assignment, skip_block}
use Rattle.janus_syntax.specs.Table.{is_bare, behind_target}
use Rattle.janus_syntax.specs.Grammar.{Count, all, depth_limit, operator_limit, Refusal, Expected}
use Rattle.janus_syntax.specs.Reader.{Stack, at, run, start, Outcome, Ended, outcome_of, next}
use Rattle.janus_syntax.specs.Reading.{begun, count, BeginsWith, TokenGoes, Stands, Moves, Stops, IsPart, FailsPart}

-- ---- statements

-- whether a token begins a statement
abbrev pub is_statement : Option Token → Bool
is_statement (Some (Name x place)) = true
is_statement (Some (Keyword_of keyword.If place)) = true
is_statement (Some (Keyword_of keyword.From place)) = true
is_statement (Some (Keyword_of keyword.Local place)) = true
is_statement (Some (Keyword_of keyword.Skip place)) = true
is_statement (Some (Keyword_of keyword.Push place)) = true
is_statement (Some (Keyword_of keyword.Pop place)) = true
is_statement (Some (Keyword_of keyword.Call place)) = true
is_statement (Some (Keyword_of keyword.Uncall place)) = true
is_statement _ = false

abbrev pub begin_statement : {goal p : Part} → List Token → (Stm → Form p) → Stack goal p → ℕ → ℕ → Outcome goal
begin_statement [] k S depth u = Ended None what.Statement
begin_statement (t ∷ rest) k S depth u = begun what.Statement (statement t k) rest S (count depth u)

-- a statement at the front
pub record IsStm (depth : ℕ) (s : Stm) (from rest : List Token) : Type 0 where
  pub begins : is_statement (next from) ≡ true
  pub goes : (goal p : Part) (k : Stm → Form p) (S : Stack goal p) (u : ℕ) → u ≤ operator_limit → Stands depth (begin_statement from k S depth u) rest (k s) S
  pub shorter : length rest < length from

-- refused within a statement
pub record FailsStm (depth : ℕ) (from : List Token) (e : Refusal) : Type 0 where
  pub begins : is_statement (next from) ≡ true
  pub stops : (goal p : Part) (k : Stm → Form p) (S : Stack goal p) (u : ℕ) → u ≤ operator_limit → begin_statement from k S depth u ≡ outcome_of e

-- a statement, or none begins here
abbrev pub IsStmOrOther : ℕ → List Token → Option (code_stm.Stm × Bor (List code_token.TextToken)) → Type 0
IsStmOrOther depth from None = is_statement (next from) ≡ false
IsStmOrOther depth from (Some x) = IsStm depth (stm_view x.0) from (views x.1.now)

-- whether a keyword begins a construct
abbrev pub opens_construct : Keyword → Bool
opens_construct keyword.If = true
opens_construct keyword.From = true
opens_construct keyword.Local = true
opens_construct _ = false

-- what an `if` and a loop are behind their first keyword, but for the end of the construct
abbrev pub if_form : {p : Part} → (Stm → Form p) → Form p
if_form k =
    part Whole (λ e. keyword_then keyword.Then (part Body (λ s. part Else_part (λ t. keyword_then keyword.Fi (part Whole (λ f. close (k (If e s t f))))))))

abbrev pub from_form : {p : Part} → (Stm → Form p) → Form p
from_form k = part Whole (λ e. part Do_part (λ s. part Loop_part (λ t. keyword_then keyword.Until (part Whole (λ f. close (k (Loop e s t f)))))))

-- the same of an assignment behind its name
abbrev pub assignment_form : {p : Part} → Named → (Stm → Form p) → Form p
assignment_form x k = part Target_index (λ i. take An_update (λ u. part Whole (λ e. k (assignment x i u e))))

-- the same of a statement that begins with a name, behind it
abbrev pub target_form : {p : Part} → Named → (Stm → Form p) → Form p
target_form x k = part Swap_partner (λ other. behind_target x other k)

pub record IsIf (depth : ℕ) (s : Stm) (from rest : List Token) : Type 0 where
  pub goes : (p : Part) (k : Stm → Form p) → Moves depth (if_form k) from (close (k s)) rest
  pub shorter : length rest ≤ length from

abbrev pub FailsIf : ℕ → List Token → Refusal → Type 0
FailsIf depth from e = (p : Part) (k : Stm → Form p) → Stops depth (if_form k) from e

pub record IsLoop (depth : ℕ) (s : Stm) (from rest : List Token) : Type 0 where
  pub goes : (p : Part) (k : Stm → Form p) → Moves depth (from_form k) from (close (k s)) rest
  pub shorter : length rest ≤ length from

abbrev pub FailsLoop : ℕ → List Token → Refusal → Type 0
FailsLoop depth from e = (p : Part) (k : Stm → Form p) → Stops depth (from_form k) from e

pub record IsAssignment (depth : ℕ) (x : Named) (s : Stm) (from rest : List Token) : Type 0 where
  pub goes : (p : Part) (k : Stm → Form p) → Moves depth (assignment_form x k) from (k s) rest
  pub shorter : length rest ≤ length from

abbrev pub FailsAssignment : ℕ → Named → List Token → Refusal → Type 0
FailsAssignment depth x from e = (p : Part) (k : Stm → Form p) → Stops depth (assignment_form x k) from e

pub record IsBehindTarget (depth : ℕ) (x : Named) (s : Stm) (from rest : List Token) : Type 0 where
  pub goes : (p : Part) (k : Stm → Form p) → Moves depth (target_form x k) from (k s) rest
  pub shorter : length rest ≤ length from

abbrev pub FailsBehindTarget : ℕ → Named → List Token → Refusal → Type 0
FailsBehindTarget depth x from e = (p : Part) (k : Stm → Form p) → Stops depth (target_form x k) from e

-- ---- calls

-- a name, or none at the front
abbrev pub is_name : Option Token → Bool
is_name (Some (Name x place)) = true
is_name _ = false

abbrev pub IsNameOrOther : List Token → Option (code_name.Name × Bor (List code_token.TextToken)) → Type 0
IsNameOrOther from None = is_name (next from) ≡ false
IsNameOrOther from (Some x) = from ≡ Name (string_bytes x.0.text) x.0.span ∷ views x.1.now

-- names at the front, with any number of constructs open
pub record AreNames (xs : List Named) (from rest : List Token) : Type 0 where
  pub goes : (depth : ℕ) → depth ≤ depth_limit → (p : Part) (k : List Named → Form p) → Moves depth (part Names k) from (k xs) rest
  pub shorter : length rest ≤ length from

abbrev pub FailNames : List Token → Refusal → Type 0
FailNames from e = (depth : ℕ) → depth ≤ depth_limit → (p : Part) (k : List Named → Form p) → Stops depth (part Names k) from e

-- a name, and behind it names in parentheses
pub record IsCall (f : Named) (xs : List Named) (from rest : List Token) : Type 0 where
  pub goes : (depth : ℕ) → depth ≤ depth_limit → (p : Part) (k : Named → List Named → Form p) → Moves depth (call_then k) from (k f xs) rest
  pub shorter : length rest < length from

abbrev pub FailsCall : List Token → Refusal → Type 0
FailsCall from e = (depth : ℕ) → depth ≤ depth_limit → (p : Part) (k : Named → List Named → Form p) → Stops depth (call_then k) from e

-- ---- locals

-- `delocal`, the kind j, the name x and `=` at the front, where the name has the place of y
pub record IsDelocal (j : LocalKind) (x y : Named) (from rest : List Token) : Type 0 where
  pub goes : (goal p : Part) (k : Named → Form p) (S : Stack goal p) (m : Count) → run all from (at (delocal_then j x k) S m) ≡ run all rest (at (k y) S m)
  pub shorter : length rest < length from

abbrev pub FailsDelocal : LocalKind → Named → List Token → Refusal → Type 0
FailsDelocal j x from e = (goal p : Part) (k : Named → Form p) (S : Stack goal p) (m : Count) → run all from (at (delocal_then j x k) S m) ≡ outcome_of e

-- a local behind `local int`, and behind `local stack`
pub record IsLocalInt (depth : ℕ) (s : Stm) (from rest : List Token) : Type 0 where
  pub goes : (p : Part) (k : Stm → Form p) → Moves depth (local_int k) from (k s) rest
  pub shorter : length rest ≤ length from

abbrev pub FailsLocalInt : ℕ → List Token → Refusal → Type 0
FailsLocalInt depth from e = (p : Part) (k : Stm → Form p) → Stops depth (local_int k) from e

pub record IsLocalStack (depth : ℕ) (s : Stm) (from rest : List Token) : Type 0 where
  pub goes : (p : Part) (k : Stm → Form p) → Moves depth (local_stack k) from (k s) rest
  pub shorter : length rest ≤ length from

abbrev pub FailsLocalStack : ℕ → List Token → Refusal → Type 0
FailsLocalStack depth from e = (p : Part) (k : Stm → Form p) → Stops depth (local_stack k) from e

-- a local number up to its statements, and a local stack up to those
pub record IsIntHead (depth : ℕ) (x : Named) (e : Exp) (from rest : List Token) : Type 0 where
  pub behind_name : List Token
  pub behind_sign : List Token
  pub name : TokenGoes A_name x from behind_name
  pub equals : TokenGoes (The_sign sign.Equals) tt behind_name behind_sign
  pub first : IsPart Whole depth e behind_sign rest

pub record IsStackHead (x : Named) (from rest : List Token) : Type 0 where
  pub behind_name : List Token
  pub behind_sign : List Token
  pub name : TokenGoes A_name x from behind_name
  pub equals : TokenGoes (The_sign sign.Equals) tt behind_name behind_sign
  pub empty : TokenGoes (The_keyword keyword.Nil) tt behind_sign rest

-- ---- blocks

-- statements, and then others
abbrev pub followed_by : Block → Block → Block
followed_by Empty b = b
followed_by (More s a) b = More s (followed_by a b)

-- all statements that stand here, behind others
pub record AreStatements (depth : ℕ) (before now : Block) (from rest : List Token) : Type 0 where
  pub block : Block
  pub is : now ≡ followed_by before block
  pub part : IsPart Statements depth block from rest

-- a keyword and a body, or another keyword and nothing
pub data IsOptional (w : Keyword) (depth : ℕ) : Block → List Token → List Token → Type 0 where
  there : {b : Block} {from behind rest : List Token} → BeginsWith w from behind → IsPart Body depth b behind rest → IsOptional w depth b from rest
  left : {from : List Token} → ((behind : List Token) → BeginsWith w from behind → ⊥) → IsOptional w depth skip_block from from

abbrev pub FailsOptional : Keyword → ℕ → List Token → Refusal → Type 0
FailsOptional w depth from e = (behind : List Token) × BeginsWith w from behind × FailsPart Body depth behind e

-- an `if` up to `fi`, and a loop up to `until`
pub record IsIfBegun (depth : ℕ) (e : Exp) (s t : Block) (from rest : List Token) : Type 0 where
  pub behind_test : List Token
  pub behind_then : List Token
  pub behind_part : List Token
  pub test : IsPart Whole depth e from behind_test
  pub then_keyword : TokenGoes (The_keyword keyword.Then) tt behind_test behind_then
  pub then_part : IsPart Body depth s behind_then behind_part
  pub else_part : IsOptional keyword.Else depth t behind_part rest

pub record IsLoopBegun (depth : ℕ) (e : Exp) (s t : Block) (from rest : List Token) : Type 0 where
  pub behind_test : List Token
  pub behind_part : List Token
  pub assertion : IsPart Whole depth e from behind_test
  pub do_part : IsOptional keyword.Do depth s behind_test behind_part
  pub loop_part : IsOptional keyword.Loop depth t behind_part rest

-- ---- declarations

abbrev pub is_declaration : Option Token → Bool
is_declaration (Some (Keyword_of keyword.Int place)) = true
is_declaration (Some (Keyword_of keyword.Stack place)) = true
is_declaration _ = false

abbrev pub begin_declaration : {goal p : Part} → List Token → (Declaration → Form p) → Stack goal p → ℕ → Outcome goal
begin_declaration [] k S u = Ended None what.End
begin_declaration (t ∷ rest) k S u = begun what.End (declaration t k) rest S (count 0 u)

pub record IsDeclaration (d : Declaration) (from rest : List Token) : Type 0 where
  pub begins : is_declaration (next from) ≡ true
  pub goes : (goal p : Part) (k : Declaration → Form p) (S : Stack goal p) (u : ℕ) → u ≤ operator_limit → Stands 0 (begin_declaration from k S u) rest (k d) S
  pub shorter : length rest < length from

pub record FailsDeclaration (from : List Token) (e : Refusal) : Type 0 where
  pub begins : is_declaration (next from) ≡ true
  pub stops : (goal p : Part) (k : Declaration → Form p) (S : Stack goal p) (u : ℕ) → u ≤ operator_limit → begin_declaration from k S u ≡ outcome_of e

abbrev pub IsDeclarationOrOther : List Token → Option (code_declaration.Declaration × Bor (List code_token.TextToken)) → Type 0
IsDeclarationOrOther from None = is_declaration (next from) ≡ false
IsDeclarationOrOther from (Some x) = IsDeclaration (declaration_view x.0) from (views x.1.now)

-- behind a declared name: the length, if there is one
pub record IsBound (x : Named) (d : Declaration) (from rest : List Token) : Type 0 where
  pub goes : (p : Part) (k : Declaration → Form p) → Moves 0 (part Bound (λ n. k (declared x n))) from (k d) rest
  pub shorter : length rest ≤ length from

abbrev pub FailsBound : Named → List Token → Refusal → Type 0
FailsBound x from e = (p : Part) (k : Declaration → Form p) → Stops 0 (part Bound (λ n. k (declared x n))) from e

-- the declarations and the statements of the cell c, which has nothing else; `main` may follow where there are none
pub record AreFirstParts (main : Bool) (c : Cell) (from rest : List Token) : Type 0 where
  pub listed : List Declaration
  pub block : Block
  pub between : List Token
  pub declarations : IsPart Declarations 0 listed from between
  pub statements : IsPart Statements 0 block between rest
  pub cell : c ≡ cell_of listed block []
  pub bare : main ≡ is_bare listed block

-- ---- the end

-- tokens stand where the end is wanted
abbrev pub AtEnd : List Token → Refusal → Type 0
AtEnd from e = (e ≡ Expected what.End (length from)) × (0 < length from)

-- how a whole text is refused
abbrev pub Refused : (goal : Part) → List Token → Refusal → Type 0
Refused goal from e = run all from (start goal) ≡ outcome_of e
