-- What is derived of procedures by the rules is spelled by the table.
use Rattle.std.proofs.Common.{◌≡◌, List, [], ◌∷◌, ◌++◌, Some, Bool, true, false, refl, sym, subst, append_assoc}
use Rattle.std.proofs.lemmas.List.{append-nil}
use Rattle.janus_syntax.specs.declared.token.Sign.TheVariants as sign
use Rattle.janus_syntax.specs.declared.token.Keyword.TheVariants as keyword
use Rattle.janus_syntax.specs.Tokens.{Token, Name, Sign_of, Keyword_of}
use Rattle.janus_syntax.specs.Tree.{named, Block, Empty, Declaration, Parameter, StackParameter, Procedure, procedure_of, Cell, cell_of}
use Rattle.janus_syntax.specs.Forms.{Part, A_cell, Declarations, Procedures, A_procedure, Parameters, More_parameters, A_parameter, Brackets, Body, Statements}
use Rattle.janus_syntax.specs.Forms.{Tree, A_name, Form, done, take, part, Rule}
use Rattle.janus_syntax.specs.Table.{nothing, parameter, with_procedure, with_main, is_bare, sign_then, a_parameter, behind_name, behind_main}
use Rattle.janus_syntax.specs.Grammar.{text_form}
use Rattle.janus_grammar.specs.Derivation.{IsParameter, AreMoreParameters, AreParameters, IsProcedure, AreProcedures, IsMain, IsCell}
use Rattle.janus_grammar.proofs.Table.{grown}
use Rattle.janus_grammar.proofs.Rules.{Spelled, IsPart, nothing_more, taken, begun, absent, sign_behind, statements_are, body_is, declarations_are}

-- ---- parameters

-- a parameter begins each form that starts with one
takes : {x : Parameter} {from middle : List Token} → IsParameter x from middle → (p : Part) (k : Parameter → Form p) (v : Tree p) (last : List Token) →
    Spelled p (k x) v middle last →
    (t : Token) × (behind : List Token) × (r : Rule p) × (from ≡ t ∷ behind) × (a_parameter t k ≡ Some r) × Spelled p r.form v behind last
takes (IsParameter.number {at_int = at_int} {at = at} {x = x} {rest = rest}) = λ p k v last h. (
  Keyword_of keyword.Int at_int,
  Name x at ∷ rest,
  record { opens = 0; counts = 0; is_whole = false; form = take A_name (λ x. part Brackets (λ b. k (parameter x b))) },
  refl,
  refl,
  taken {c = A_name} (λ x. part Brackets (λ b. k (parameter x b))) (named x at) v (Name x at) rest last refl
      (absent Brackets false rest refl p (λ b. k (parameter (named x at) b)) v last h),
)
takes (IsParameter.array {at_int = at_int} {at = at} {opening = opening} {closing = closing} {x = x} {rest = rest}) = λ p k v last h. (
  Keyword_of keyword.Int at_int,
  Name x at ∷ Sign_of sign.OpenIndex opening ∷ Sign_of sign.CloseIndex closing ∷ rest,
  record { opens = 0; counts = 0; is_whole = false; form = take A_name (λ x. part Brackets (λ b. k (parameter x b))) },
  refl,
  refl,
  taken {c = A_name} (λ x. part Brackets (λ b. k (parameter x b))) (named x at) v (Name x at)
      (Sign_of sign.OpenIndex opening ∷ Sign_of sign.CloseIndex closing ∷ rest) last refl
      (begun Brackets (Sign_of sign.OpenIndex opening) (record { opens = 0; counts = 0; is_whole = false; form = sign_then sign.CloseIndex (done true) }) true
      (Sign_of sign.CloseIndex closing ∷ rest) rest refl
      (sign_behind sign.CloseIndex closing (done true) true rest rest refl (nothing_more Brackets true rest))
      p (λ b. k (parameter (named x at) b)) v last h),
)
takes (IsParameter.stack {at_stack = at_stack} {at = at} {s = x} {rest = rest}) = λ p k v last h. (
  Keyword_of keyword.Stack at_stack,
  Name x at ∷ rest,
  record { opens = 0; counts = 0; is_whole = false; form = take A_name (λ s. k (StackParameter s)) },
  refl,
  refl,
  taken {c = A_name} (λ s. k (StackParameter s)) (named x at) v (Name x at) rest last refl h,
)

parameter_is : {x : Parameter} {from rest : List Token} → IsParameter x from rest → IsPart A_parameter x from rest
parameter_is {x} {from} {rest} a =
    let y = takes a A_parameter done x rest (nothing_more A_parameter x rest) in
    subst (λ ts. IsPart A_parameter x ts rest) (sym y.3) (begun A_parameter y.0 y.2 x y.1 rest y.4 y.5)

more_parameters_are : {xs : List Parameter} {from rest : List Token} → AreMoreParameters xs from rest → IsPart More_parameters xs from rest
more_parameters_are (AreMoreParameters.none {rest = rest}) = absent More_parameters [] rest refl
more_parameters_are (AreMoreParameters.more {comma = comma} {x = x} {xs = xs} {from = from} {behind = middle} {rest = rest} a b) =
    begun More_parameters (Sign_of sign.Comma comma)
    (record { opens = 0; counts = 0; is_whole = false; form = part A_parameter (λ y. part More_parameters (λ ys. done (y ∷ ys))) }) (x ∷ xs) from rest refl
    (parameter_is a More_parameters (λ y. part More_parameters (λ ys. done (y ∷ ys))) (x ∷ xs) rest
    (more_parameters_are b More_parameters (λ ys. done (x ∷ ys)) (x ∷ xs) rest (nothing_more More_parameters (x ∷ xs) rest)))

parameters_are : {xs : List Parameter} {from rest : List Token} → AreParameters xs from rest → IsPart Parameters xs from rest
parameters_are (AreParameters.no_parameters {rest = rest}) = absent Parameters [] rest refl
parameters_are (AreParameters.parameters {x = x} {xs = xs} {from = from} {behind = middle} {rest = rest} a b) =
    let y = takes a Parameters (λ y. part More_parameters (λ ys. done (y ∷ ys))) (x ∷ xs) rest
    (more_parameters_are b Parameters (λ ys. done (x ∷ ys)) (x ∷ xs) rest (nothing_more Parameters (x ∷ xs) rest)) in
    subst (λ ts. IsPart Parameters (x ∷ xs) ts rest) (sym y.3) (begun Parameters y.0 y.2 (x ∷ xs) y.1 rest y.4 y.5)

-- ---- procedures behind a cell

-- one procedure more
procedure_is : {q : Procedure} {from middle : List Token} → IsProcedure q from middle → (main : Bool) (c d : Cell) (rest : List Token) →
    IsPart (Procedures main (with_procedure c q)) d middle rest → IsPart (Procedures main c) d from rest
procedure_is (IsProcedure.procedure {at_procedure = at_procedure} {at = at} {opening = opening} {closing = closing} {f = f} {xs = xs} {b = b} {from = from}
    {behind = behind} {rest = middle} a is_body) main c d rest next =
    let q : Part = A_procedure main c in
    let k : Procedure → Form (A_procedure main c) = λ p. part (Procedures main (with_procedure c p)) done in
    let inner : Spelled (A_procedure main c) (behind_name (named f at) (λ p. part (Procedures main (with_procedure c p)) done)) d
    (Sign_of sign.Open opening ∷ from) rest =
    sign_behind sign.Open opening (part Parameters (λ ys. sign_then sign.Close (part Body (λ e. k (procedure_of (named f at) ys e))))) d from rest refl
    (parameters_are a (A_procedure main c) (λ ys. sign_then sign.Close (part Body (λ e. k (procedure_of (named f at) ys e)))) d rest
    (sign_behind sign.Close closing (part Body (λ e. k (procedure_of (named f at) xs e))) d behind rest refl
    (body_is is_body (A_procedure main c) (λ e. k (procedure_of (named f at) xs e)) d rest
    (next (A_procedure main c) done d rest (nothing_more (A_procedure main c) d rest))))) in
    let named_part =
    begun (A_procedure main c) (Name f at)
    (record { opens = 0; counts = 0; is_whole = false; form = behind_name (named f at) (λ p. part (Procedures main (with_procedure c p)) done) }) d
    (Sign_of sign.Open opening ∷ from) rest refl inner in
    begun (Procedures main c) (Keyword_of keyword.Procedure at_procedure)
    (record { opens = 0; counts = 0; is_whole = false; form = part (A_procedure main c) done }) d (Name f at ∷ Sign_of sign.Open opening ∷ from) rest refl
    (named_part (Procedures main c) done d rest (nothing_more (Procedures main c) d rest))

-- `main`
main_is : {ds : List Declaration} {b : Block} {from middle : List Token} → IsMain ds b from middle → (c d : Cell) (rest : List Token) →
    IsPart (Procedures false (with_main ds b c)) d middle rest → IsPart (Procedures true c) d from rest
main_is (IsMain.main {at_procedure = at_procedure} {at = at} {opening = opening} {closing = closing} {ds = ds} {b = b} {from = from} {middle = behind}
    {rest = middle} a s) c d rest next =
    let k : List Declaration → Block → Form (A_procedure true c) = λ ds b. part (Procedures false (with_main ds b c)) done in
    let inner : Spelled (A_procedure true c) (behind_main (λ ds b. part (Procedures false (with_main ds b c)) done)) d
    (Sign_of sign.Open opening ∷ Sign_of sign.Close closing ∷ from) rest =
    sign_behind sign.Open opening (sign_then sign.Close (part Declarations (λ es. part Statements (λ e. k es e)))) d (Sign_of sign.Close closing ∷ from)
    rest refl
    (sign_behind sign.Close closing (part Declarations (λ es. part Statements (λ e. k es e))) d from rest refl
    (declarations_are a (A_procedure true c) (λ es. part Statements (λ e. k es e)) d rest
    (statements_are s (A_procedure true c) (λ e. k ds e) d rest
    (next (A_procedure true c) done d rest (nothing_more (A_procedure true c) d rest))))) in
    let main_part =
    begun (A_procedure true c) (Keyword_of keyword.Main at)
    (record { opens = 0; counts = 0; is_whole = false; form = behind_main (λ ds b. part (Procedures false (with_main ds b c)) done) }) d
    (Sign_of sign.Open opening ∷ Sign_of sign.Close closing ∷ from) rest refl inner in
    begun (Procedures true c) (Keyword_of keyword.Procedure at_procedure)
    (record { opens = 0; counts = 0; is_whole = false; form = part (A_procedure true c) done }) d
    (Keyword_of keyword.Main at ∷ Sign_of sign.Open opening ∷ Sign_of sign.Close closing ∷ from) rest refl
    (main_part (Procedures true c) done d rest (nothing_more (Procedures true c) d rest))

procedures_are : {qs : List Procedure} {from middle : List Token} → AreProcedures qs from middle → (main : Bool) (c d : Cell) (rest : List Token) →
    IsPart (Procedures main (grown c qs)) d middle rest → IsPart (Procedures main c) d from rest
procedures_are (AreProcedures.none {rest = middle}) main (cell_of ds b ps) d rest next =
    subst (λ os. IsPart (Procedures main (cell_of ds b os)) d middle rest) (append-nil ps) next
procedures_are (AreProcedures.more {p = q} {ps = qs} {behind = behind} {rest = middle} a others) main (cell_of ds b ps) d rest next =
    procedure_is a main (cell_of ds b ps) d rest
    (procedures_are others main (cell_of ds b (ps ++ q ∷ [])) d rest
    (subst (λ os. IsPart (Procedures main (cell_of ds b os)) d middle rest) (sym (append_assoc ps (q ∷ []) qs)) next))

-- ---- cells

pub cell_is : {c : Cell} {from rest : List Token} → IsCell c from rest → Spelled A_cell (text_form A_cell) c from rest
cell_is (IsCell.cell {ds = ds} {b = b} {ps = ps} {from = from} {middle = middle} {behind = behind} {rest = rest} a s qs) =
    let c : Cell = cell_of ds b ps in
    let last = procedures_are qs (is_bare ds b) (cell_of ds b []) c rest (absent (Procedures (is_bare ds b) c) c rest refl) in
    declarations_are a A_cell (λ ds. part Statements (λ b. part (Procedures (is_bare ds b) (cell_of ds b [])) done)) c rest
    (statements_are s A_cell (λ b. part (Procedures (is_bare ds b) (cell_of ds b [])) done) c rest (last A_cell done c rest (nothing_more A_cell c rest)))
cell_is (IsCell.program {ds = ds} {b = b} {ps = ps} {qs = qs} {from = from} {middle = middle} {behind = behind} {rest = rest} first m others) =
    let c : Cell = cell_of ds b (ps ++ qs) in
    let behind_main = procedures_are others false (cell_of ds b ps) c rest (absent (Procedures false c) c rest refl) in
    let all_parts = procedures_are first true nothing c rest (main_is m (cell_of [] Empty ps) c rest behind_main) in
    absent Declarations [] from refl A_cell (λ ds. part Statements (λ b. part (Procedures (is_bare ds b) (cell_of ds b [])) done)) c rest
    (absent Statements Empty from refl A_cell (λ b. part (Procedures (is_bare [] b) (cell_of [] b [])) done) c rest
    (all_parts A_cell done c rest (nothing_more A_cell c rest)))
