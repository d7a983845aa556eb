-- What the table spells of procedures is derived by the rules.
use Rattle.std.proofs.Common.{◌≡◌, ℕ, List, [], ◌∷◌, ◌++◌, Some, Bool, true, false, refl, ap, sym, subst, ◌∙◌, append_assoc}
use Rattle.std.proofs.lemmas.List.{append-nil}
use Rattle.janus_syntax.specs.declared.token.Span.{Span}
use Rattle.janus_syntax.specs.declared.token.Sign.TheVariants as sign
use Rattle.janus_syntax.specs.declared.token.Keyword.TheVariants as keyword
use Rattle.janus_syntax.specs.Tokens.{Token, Name, Number, Sign_of, Keyword_of}
use Rattle.janus_syntax.specs.Tree.{named, Block, Declaration, Parameter, StackParameter, Procedure, procedure_of, Cell, cell_of}
use Rattle.janus_syntax.specs.Forms.{Part, Procedures, A_procedure, More_parameters, A_parameter, Brackets, Tree, A_name, Form, done, take, part, Rule}
use Rattle.janus_syntax.specs.Table.{rule, parameter, with_procedure, with_main, is_bare, sign_then, a_parameter, behind_name, behind_main}
use Rattle.janus_grammar.specs.Derivation.{AreStatements, AreDeclarations, IsParameter, AreMoreParameters, AreParameters, IsProcedure, AreProcedures, IsMain}
use Rattle.janus_grammar.specs.Derivation.{IsCell, procedure, main as is_main}
use Rattle.janus_grammar.proofs.Tokens.{open_is, close_is, close_index_is}
use Rattle.janus_grammar.proofs.Table.{AreBrackets, no_brackets, brackets, Grows, by_procedures, by_program, Means, form_as, name_is}

-- ---- parameters

pub brackets_derived : (t : Token) (r : Rule Brackets) (b : Bool) (from rest : List Token) → rule Brackets t ≡ Some r → Means r.form b from rest →
    AreBrackets b (t ∷ from) rest
brackets_derived (Sign_of sign.OpenIndex at) r b from rest is h =
    let a : Rule Brackets = record { opens = 0; counts = 0; is_whole = false; form = sign_then sign.CloseIndex (done true) } in
    let (t1, u1, b1, w1, is1, h1) = form_as a r b from rest is h in
    let c = close_index_is from t1 u1 b1 w1 is1 in
    subst (λ x. AreBrackets x (Sign_of sign.OpenIndex at ∷ from) rest) (sym h1.0)
    (subst (λ ts. AreBrackets true (Sign_of sign.OpenIndex at ∷ ts) rest) (sym c.1)
    (subst (λ ts. AreBrackets true (Sign_of sign.OpenIndex at ∷ Sign_of sign.CloseIndex c.0 ∷ b1) ts) (sym h1.1) brackets))
brackets_derived (Sign_of _ at) r b from rest is h = absurd cc
brackets_derived (Name x at) r b from rest is h = absurd cc
brackets_derived (Number n at) r b from rest is h = absurd cc
brackets_derived (Keyword_of w at) r b from rest is h = absurd cc

bracketed : (at : Span) (x : List ℕ) (place : Span) (b : Bool) (behind rest : List Token) → AreBrackets b behind rest →
    IsParameter (parameter (named x place) b) (Keyword_of keyword.Int at ∷ Name x place ∷ behind) rest
bracketed at x place b behind rest no_brackets = IsParameter.number
bracketed at x place b behind rest brackets = IsParameter.array

-- a parameter, and what the form behind it means
pub parameter_derived : {p : Part} (t : Token) (k : Parameter → Form p) (r : Rule p) (v : Tree p) (from rest : List Token) → a_parameter t k ≡ Some r →
    Means r.form v from rest →
    (x : Parameter) × (middle : List Token) × IsParameter x (t ∷ from) middle × Means (k x) v middle rest
parameter_derived {p} (Keyword_of keyword.Int at) k r v from rest is h =
    let a : Rule p = record { opens = 0; counts = 0; is_whole = false; form = take A_name (λ x. part Brackets (λ b. k (parameter x b))) } in
    let (t, x, behind, whole, names, h1) = form_as a r v from rest is h in
    let (b, middle, d, more) = h1 in
    let n = name_is t x names in
    let front : from ≡ Name n.0 n.1 ∷ behind = whole ∙ ap (λ t. t ∷ behind) n.2 in (
      parameter x b,
      middle,
      subst (λ y. IsParameter (parameter y b) (Keyword_of keyword.Int at ∷ from) middle) n.3
          (subst (λ ts. IsParameter (parameter (named n.0 n.1) b) (Keyword_of keyword.Int at ∷ ts) middle) (sym front)
          (bracketed at n.0 n.1 b behind middle d)),
      more,
    )
parameter_derived {p} (Keyword_of keyword.Stack at) k r v from rest is h =
    let a : Rule p = record { opens = 0; counts = 0; is_whole = false; form = take A_name (λ s. k (StackParameter s)) } in
    let (t, s, behind, whole, names, more) = form_as a r v from rest is h in
    let n = name_is t s names in
    let front : from ≡ Name n.0 n.1 ∷ behind = whole ∙ ap (λ t. t ∷ behind) n.2 in (
      StackParameter s,
      behind,
      subst (λ y. IsParameter (StackParameter y) (Keyword_of keyword.Stack at ∷ from) behind) n.3
          (subst (λ ts. IsParameter (StackParameter (named n.0 n.1)) (Keyword_of keyword.Stack at ∷ ts) behind) (sym front) IsParameter.stack),
      more,
    )
parameter_derived (Keyword_of _ at) k r v from rest is h = absurd cc
parameter_derived (Name x at) k r v from rest is h = absurd cc
parameter_derived (Sign_of s at) k r v from rest is h = absurd cc
parameter_derived (Number n at) k r v from rest is h = absurd cc

pub more_parameters_derived : (t : Token) (r : Rule More_parameters) (xs : List Parameter) (from rest : List Token) → rule More_parameters t ≡ Some r →
    Means r.form xs from rest → AreMoreParameters xs (t ∷ from) rest
more_parameters_derived (Sign_of sign.Comma at) r xs from rest is h =
    let a : Rule More_parameters =
    record { opens = 0; counts = 0; is_whole = false; form = part A_parameter (λ x. part More_parameters (λ ys. done (x ∷ ys))) } in
    let (x, m1, d1, h1) = form_as a r xs from rest is h in
    let (ys, m2, d2, h2) = h1 in
    subst (λ zs. AreMoreParameters zs (Sign_of sign.Comma at ∷ from) rest) (sym h2.0)
    (subst (λ ts. AreMoreParameters (x ∷ ys) (Sign_of sign.Comma at ∷ from) ts) (sym h2.1) (AreMoreParameters.more d1 d2))
more_parameters_derived (Sign_of _ at) r xs from rest is h = absurd cc
more_parameters_derived (Name x at) r xs from rest is h = absurd cc
more_parameters_derived (Number n at) r xs from rest is h = absurd cc
more_parameters_derived (Keyword_of w at) r xs from rest is h = absurd cc

-- ---- procedures behind a cell

-- one procedure more
one_grown : (main : Bool) (c d : Cell) (p : Procedure) (from middle rest : List Token) → IsProcedure p from middle →
    Grows main (with_procedure c p) d middle rest → Grows main c d from rest
one_grown main (cell_of ds b ps) d p from middle rest a (by_procedures {qs = qs} more) =
    subst (λ rs. Grows main (cell_of ds b ps) (cell_of ds b rs) from rest) (sym (append_assoc ps (p ∷ []) qs)) (by_procedures (AreProcedures.more a more))
one_grown main (cell_of es e os) d p from middle rest a (by_program {ds = ds} {b = b} {ps = ps} {qs = qs} more m others) =
    subst (λ rs. Grows true (cell_of es e os) (cell_of ds b (rs ++ qs)) from rest) (sym (append_assoc os (p ∷ []) ps))
    (by_program (AreProcedures.more a more) m others)

-- `main`
main_grown : (c d : Cell) (ds : List Declaration) (b : Block) (from middle rest : List Token) → IsMain ds b from middle →
    Grows false (with_main ds b c) d middle rest → Grows true c d from rest
main_grown (cell_of es e os) d ds b from middle rest a (by_procedures {qs = qs} others) =
    subst (λ rs. Grows true (cell_of es e os) (cell_of ds b (rs ++ qs)) from rest) (append-nil os) (by_program AreProcedures.none a others)

pub procedures_derived : (main : Bool) (c : Cell) (t : Token) (r : Rule (Procedures main c)) (d : Cell) (from rest : List Token) →
    rule (Procedures main c) t ≡ Some r → Means r.form d from rest → Grows main c d (t ∷ from) rest
procedures_derived main c (Keyword_of keyword.Procedure at) r d from rest is h =
    let a : Rule (Procedures main c) = record { opens = 0; counts = 0; is_whole = false; form = part (A_procedure main c) done } in
    let (e, middle, grows, end) = form_as a r d from rest is h in
    subst (λ x. Grows main c x (Keyword_of keyword.Procedure at ∷ from) rest) (sym end.0)
    (subst (λ ts. Grows main c e (Keyword_of keyword.Procedure at ∷ from) ts) (sym end.1) (grows at))
procedures_derived main c (Keyword_of _ at) r d from rest is h = absurd cc
procedures_derived main c (Name x at) r d from rest is h = absurd cc
procedures_derived main c (Number n at) r d from rest is h = absurd cc
procedures_derived main c (Sign_of s at) r d from rest is h = absurd cc

-- a procedure behind its name, and what the form behind it means
name_derived : {p : Part} (f : List ℕ) (place at : Span) (k : Procedure → Form p) (v : Tree p) (from rest : List Token) →
    Means (behind_name (named f place) k) v from rest →
    (q : Procedure) × (middle : List Token) × IsProcedure q (Keyword_of keyword.Procedure at ∷ Name f place ∷ from) middle × Means (k q) v middle rest
name_derived f place at k v from rest h =
    let (t1, u1, b1, w1, is1, h1) = h in
    let (xs, m1, d1, h2) = h1 in
    let (t2, u2, b2, w2, is2, h3) = h2 in
    let (b, m2, d2, more) = h3 in
    let o = open_is from t1 u1 b1 w1 is1 in
    let c = close_is m1 t2 u2 b2 w2 is2 in (
      procedure_of (named f place) xs b,
      m2,
      subst (λ ts. IsProcedure (procedure_of (named f place) xs b) (Keyword_of keyword.Procedure at ∷ Name f place ∷ ts) m2) (sym o.1)
          (procedure (subst (λ ts. AreParameters xs b1 ts) c.1 d1) d2),
      more,
    )

-- `main` behind its name, and what the form behind it means
main_derived : {p : Part} (place at : Span) (k : List Declaration → Block → Form p) (v : Tree p) (from rest : List Token) → Means (behind_main k) v from rest →
    (ds : List Declaration) × (b : Block) × (middle : List Token) × IsMain ds b (Keyword_of keyword.Procedure at ∷ Keyword_of keyword.Main place ∷ from)
    middle × Means (k ds b) v middle rest
main_derived place at k v from rest h =
    let (t1, u1, b1, w1, is1, h1) = h in
    let (t2, u2, b2, w2, is2, h2) = h1 in
    let (ds, m1, d1, h3) = h2 in
    let (b, m2, d2, more) = h3 in
    let o = open_is from t1 u1 b1 w1 is1 in
    let c = close_is b1 t2 u2 b2 w2 is2 in
    let front : from ≡ Sign_of sign.Open o.0 ∷ Sign_of sign.Close c.0 ∷ b2 = o.1 ∙ ap (λ ts. Sign_of sign.Open o.0 ∷ ts) c.1 in
    (ds, b, m2, subst (λ ts. IsMain ds b (Keyword_of keyword.Procedure at ∷ Keyword_of keyword.Main place ∷ ts) m2) (sym front) (is_main d1 d2), more)

pub procedure_derived : (main : Bool) (c : Cell) (t : Token) (r : Rule (A_procedure main c)) (d : Cell) (from rest : List Token) →
    rule (A_procedure main c) t ≡ Some r → Means r.form d from rest → (at : Span) → Grows main c d (Keyword_of keyword.Procedure at ∷ t ∷ from) rest
procedure_derived main c (Name f place) r d from rest is h at =
    let a : Rule (A_procedure main c) =
    record { opens = 0; counts = 0; is_whole = false; form = behind_name (named f place) (λ p. part (Procedures main (with_procedure c p)) done) } in
    let (p, m1, is_p, h1) = name_derived {p = A_procedure main c} f place at (λ p. part (Procedures main (with_procedure c p)) done) d from rest
    (form_as a r d from rest is h) in
    let (e, m2, grows, end) = h1 in
    one_grown main c d p (Keyword_of keyword.Procedure at ∷ Name f place ∷ from) m1 rest is_p
    (subst (λ x. Grows main (with_procedure c p) x m1 rest) (sym end.0) (subst (λ ts. Grows main (with_procedure c p) e m1 ts) (sym end.1) grows))
procedure_derived true c (Keyword_of keyword.Main place) r d from rest is h at =
    let a : Rule (A_procedure true c) =
    record { opens = 0; counts = 0; is_whole = false; form = behind_main (λ ds b. part (Procedures false (with_main ds b c)) done) } in
    let (ds, b, m1, is_m, h1) = main_derived {p = A_procedure true c} place at (λ ds b. part (Procedures false (with_main ds b c)) done) d from rest
    (form_as a r d from rest is h) in
    let (e, m2, grows, end) = h1 in
    main_grown c d ds b (Keyword_of keyword.Procedure at ∷ Keyword_of keyword.Main place ∷ from) m1 rest is_m
    (subst (λ x. Grows false (with_main ds b c) x m1 rest) (sym end.0) (subst (λ ts. Grows false (with_main ds b c) e m1 ts) (sym end.1) grows))
procedure_derived true c (Keyword_of _ place) r d from rest is h at = absurd cc
procedure_derived false c (Keyword_of w place) r d from rest is h at = absurd cc
procedure_derived main c (Number n place) r d from rest is h at = absurd cc
procedure_derived main c (Sign_of s place) r d from rest is h at = absurd cc

-- ---- cells

-- where a cell has neither declarations nor statements, no token is theirs
bare_is : {ds : List Declaration} {b : Block} {from middle behind : List Token} → is_bare ds b ≡ true → AreDeclarations ds from middle →
    AreStatements b middle behind → behind ≡ from
bare_is e AreDeclarations.none AreStatements.none = refl
bare_is e AreDeclarations.none (AreStatements.more d ds) = absurd cc
bare_is e (AreDeclarations.more d ds) s = absurd cc

-- declarations, statements and what procedures make of them
pub cell_grown : (main : Bool) (ds : List Declaration) (b : Block) (c : Cell) (from middle behind rest : List Token) → is_bare ds b ≡ main →
    AreDeclarations ds from middle → AreStatements b middle behind → Grows main (cell_of ds b []) c behind rest → IsCell c from rest
cell_grown main ds b c from middle behind rest e a s (by_procedures {qs = qs} ps) = IsCell.cell a s ps
cell_grown true ds b c from middle behind rest e a s (by_program {ds = es} {b = f} {ps = ps} {qs = qs} first m others) =
    subst (λ ts. IsCell (cell_of es f (ps ++ qs)) ts rest) (bare_is e a s) (IsCell.program first m others)
