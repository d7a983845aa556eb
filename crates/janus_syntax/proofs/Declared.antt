-- The parser's declarations and cells, over plain lists.
use Rattle.std.proofs.Common.{◌≡◌, ℕ, ◌<◌, ◌≤◌, ◌==◌, List, [], ◌∷◌, ◌++◌, length, Some, None, true, false, refl, ap, sym, subst, ◌∙◌, arith, append_assoc}
use Rattle.std.proofs.lemmas.Bool.{eqb-true, ne_eqb}
use Rattle.std.proofs.lemmas.List.{append-nil}
use Rattle.janus_syntax.specs.declared.token.Span.{Span}
use Rattle.janus_syntax.specs.declared.token.Sign.TheVariants as sign
use Rattle.janus_syntax.specs.declared.token.Keyword.TheVariants as keyword
use Rattle.janus_syntax.specs.declared.text_token.TextToken as code_token
use Rattle.janus_syntax.specs.declared.fault.What.TheVariants as what
use Rattle.janus_syntax.specs.declared.tree.Declaration as code_declaration
use Rattle.janus_syntax.specs.declared.tree.Stm as code_stm
use Rattle.janus_syntax.specs.Tokens.{Token, Name, Number, Sign_of, Keyword_of}
use Rattle.janus_syntax.specs.TextTokens.{views}
use Rattle.janus_syntax.specs.Tree.{Name as Named, Exp, Block, Declaration, Int, Array, StackOf, Cell, cell_of, declaration_view, declarations_view, block_view}
use Rattle.janus_syntax.specs.Forms.{Part, A_cell, Declarations, Statements, Procedures, Bound, Whole, Tree, The_sign, A_name, A_number, Form, done, take, part}
use Rattle.janus_syntax.specs.Table.{rule, declared, sign_then, is_bare}
use Rattle.janus_syntax.specs.Grammar.{all, operator_limit, IsTree, Refusal, Expected}
use Rattle.janus_syntax.specs.Reader.{Stack, bottom, waits, at, Outcome, Ended, run, start, outcome_of, next}
use Rattle.janus_syntax.specs.Reading.{TokenGoes, TokenFails, BeginsWith, BeginsWithSign, count, Stands, Moves, Stops, IsPart, FailsPart}
use Rattle.janus_syntax.specs.Statements.{is_declaration, begin_declaration, IsDeclaration, FailsDeclaration, IsBound, FailsBound, AtEnd, Refused}
use Rattle.janus_syntax.proofs.SoFar.{AtDeclarations, AreDeclared}
use Rattle.janus_syntax.proofs.Agrees.{run_hands, left_behind}
use Rattle.janus_syntax.proofs.LeftOut.{unbound}
use Rattle.janus_syntax.proofs.Steps.{no_opening}
use Rattle.janus_syntax.proofs.Parts.{begins_part}
use Rattle.janus_syntax.proofs.Operands.{begun_plain}
use Rattle.janus_syntax.proofs.Theorems.{is_tree}

-- ---- a declaration's length

abbrev the_length : Form Bound
the_length = take A_number (λ n. sign_then sign.CloseIndex (done (Some n)))

abbrev behind_length : ℕ × Span → Form Bound
behind_length n = sign_then sign.CloseIndex (done (Some n))

pub plain_is : (x : Named) (from : List Token) → ((behind : List Token) → BeginsWithSign sign.OpenIndex from behind → ⊥) → IsBound x (Int x) from from
plain_is x from n =
    record {
      goes = λ p k g S u h. (u, h, left_behind Bound (λ y. k (declared x y)) S (count 0 u) None from refl (λ t e. unbound t (no_opening from n t e)));
      shorter = omega arith;
    }

length_begins : {goal p : Part} (x : Named) (k : Declaration → Form p) (S : Stack goal p) (u : ℕ) (place : Span) (behind : List Token) → u ≤ operator_limit →
    run all (Sign_of sign.OpenIndex place ∷ behind) (at (part Bound (λ y. k (declared x y))) S (count 0 u)) ≡ run all behind
    (at the_length (waits {q = Bound} (λ y. k (declared x y)) S) (count 0 u))
length_begins x k S u place behind h = begins_part Bound (λ y. k (declared x y)) S 0 u (Sign_of sign.OpenIndex place) behind the_length refl (omega arith) h

pub array_is : (x : Named) {n : ℕ} {place : Span} {from behind middle rest : List Token} → BeginsWithSign sign.OpenIndex from behind →
    TokenGoes A_number (n, place) behind middle → TokenGoes (The_sign sign.CloseIndex) tt middle rest → IsBound x (Array x n place) from rest
array_is x {n} {place} {from} {behind} {middle} {rest} b i c =
    record {
      goes = λ p k.
          subst (λ ts. Moves 0 (part Bound (λ y. k (declared x y))) ts (k (Array x n place)) rest) (sym b.is)
          (λ g S u h.
          let T : Stack g Bound = waits {q = Bound} (λ y. k (declared x y)) S in (
            u,
            h,
            length_begins x k S u b.at behind h
                ∙ i.goes g Bound behind_length T (count 0 u)
                ∙ c.goes g Bound (λ v. done (Some (n, place))) T (count 0 u)
                ∙ run_hands all Bound (λ y. k (declared x y)) S (count 0 u) (Some (n, place)) rest,
          ));
      shorter = let s0 = ap length b.is in let s1 = i.shorter in let s2 = c.shorter in omega (arith, s0, s1, s2);
    }

pub array_stops_number : (x : Named) {from behind : List Token} (e : Refusal) → BeginsWithSign sign.OpenIndex from behind → TokenFails A_number behind e →
    FailsBound x from e
array_stops_number x {from} {behind} e b f p k =
    subst (λ ts. Stops 0 (part Bound (λ y. k (declared x y))) ts e) (sym b.is)
    (λ g S u h. length_begins x k S u b.at behind h ∙ f g Bound behind_length (waits {q = Bound} (λ y. k (declared x y)) S) (count 0 u))

pub array_stops_close : (x : Named) {n : ℕ × Span} {from behind middle : List Token} (e : Refusal) → BeginsWithSign sign.OpenIndex from behind →
    TokenGoes A_number n behind middle → TokenFails (The_sign sign.CloseIndex) middle e → FailsBound x from e
array_stops_close x {n} {from} {behind} e b i f p k =
    subst (λ ts. Stops 0 (part Bound (λ y. k (declared x y))) ts e) (sym b.is)
    (λ g S u h.
    let T : Stack g Bound = waits {q = Bound} (λ y. k (declared x y)) S in
    length_begins x k S u b.at behind h ∙ i.goes g Bound behind_length T (count 0 u) ∙ f g Bound (λ v. done (Some n)) T (count 0 u))

-- ---- a declaration

abbrev named_form : {p : Part} → (Declaration → Form p) → Form p
named_form k = take A_name (λ x. part Bound (λ n. k (declared x n)))

int_begins : {goal p : Part} (k : Declaration → Form p) (S : Stack goal p) (u : ℕ) (place : Span) (behind : List Token) → u ≤ operator_limit →
    begin_declaration (Keyword_of keyword.Int place ∷ behind) k S u ≡ run all behind (at (named_form k) S (count 0 u))
int_begins k S u place behind h = begun_plain (named_form k) S 0 u behind (omega arith) h

pub declaration_is : {x : Named} {d : Declaration} {from behind middle rest : List Token} → BeginsWith keyword.Int from behind →
    TokenGoes A_name x behind middle → IsBound x d middle rest → IsDeclaration d from rest
declaration_is {x} {d} {from} {behind} {middle} {rest} b i j =
    subst (λ ts. IsDeclaration d ts rest) (sym b.is)
    (record {
      begins = refl;
      goes = λ g p k S u h.
          let a = j.goes p k g S u h in
          (a.0, a.1, int_begins k S u b.at behind h ∙ i.goes g p (λ y. part Bound (λ n. k (declared y n))) S (count 0 u) ∙ a.2);
      shorter = let s1 = i.shorter in let s2 = j.shorter in omega (arith, s1, s2);
    })

pub declaration_stops_name : {from behind : List Token} (e : Refusal) → BeginsWith keyword.Int from behind → TokenFails A_name behind e →
    FailsDeclaration from e
declaration_stops_name {from} {behind} e b f =
    subst (λ ts. FailsDeclaration ts e) (sym b.is)
    (record { begins = refl; stops = λ g p k S u h. int_begins k S u b.at behind h ∙ f g p (λ y. part Bound (λ n. k (declared y n))) S (count 0 u) })

pub declaration_stops_bound : {x : Named} {from behind middle : List Token} (e : Refusal) → BeginsWith keyword.Int from behind →
    TokenGoes A_name x behind middle → FailsBound x middle e → FailsDeclaration from e
declaration_stops_bound {x} {from} {behind} e b i f =
    subst (λ ts. FailsDeclaration ts e) (sym b.is)
    (record {
      begins = refl;
      stops = λ g p k S u h. int_begins k S u b.at behind h ∙ i.goes g p (λ y. part Bound (λ n. k (declared y n))) S (count 0 u)
          ∙ f p k g S u h;
    })

-- the declaration of a stack
abbrev stack_form : {p : Part} → (Declaration → Form p) → Form p
stack_form k = take A_name (λ s. k (StackOf s))

stack_begins : {goal p : Part} (k : Declaration → Form p) (S : Stack goal p) (u : ℕ) (place : Span) (behind : List Token) → u ≤ operator_limit →
    begin_declaration (Keyword_of keyword.Stack place ∷ behind) k S u ≡ run all behind (at (stack_form k) S (count 0 u))
stack_begins k S u place behind h = begun_plain (stack_form k) S 0 u behind (omega arith) h

pub stack_is : {s : Named} {from behind rest : List Token} → BeginsWith keyword.Stack from behind → TokenGoes A_name s behind rest →
    IsDeclaration (StackOf s) from rest
stack_is {s} {from} {behind} {rest} b i =
    subst (λ ts. IsDeclaration (StackOf s) ts rest) (sym b.is)
    (record {
      begins = refl;
      goes = λ g p k S u h. (u, h, stack_begins k S u b.at behind h ∙ i.goes g p (λ y. k (StackOf y)) S (count 0 u));
      shorter = let l = i.shorter in omega (arith, l);
    })

pub stack_stops : {from behind : List Token} (e : Refusal) → BeginsWith keyword.Stack from behind → TokenFails A_name behind e → FailsDeclaration from e
stack_stops {from} {behind} e b f =
    subst (λ ts. FailsDeclaration ts e) (sym b.is)
    (record { begins = refl; stops = λ g p k S u h. stack_begins k S u b.at behind h ∙ f g p (λ y. k (StackOf y)) S (count 0 u) })

pub other_begins : (from : List Token) → ((behind : List Token) → BeginsWith keyword.Int from behind → ⊥) →
    ((behind : List Token) → BeginsWith keyword.Stack from behind → ⊥) → is_declaration (next from) ≡ false
other_begins [] h i = refl
other_begins (Name x place ∷ rest) h i = refl
other_begins (Number n place ∷ rest) h i = refl
other_begins (Sign_of s place ∷ rest) h i = refl
other_begins (Keyword_of keyword.Int place ∷ rest) h i = absurd (h rest (record { at = place; is = refl }))
other_begins (Keyword_of keyword.Stack place ∷ rest) h i = absurd (i rest (record { at = place; is = refl }))
other_begins (Keyword_of _ place ∷ rest) h i = refl

-- ---- declarations

abbrev one_more_form : Declaration → Form Declarations
one_more_form d = part Declarations (λ ds. done (d ∷ ds))

no_declaration : (rest : List Token) → is_declaration (next rest) ≡ false → (t : Token) → next rest ≡ Some t → rule Declarations t ≡ None
no_declaration [] h t e = absurd cc
no_declaration (Name x place ∷ rest) h t e = let same : Name x place ≡ t = cc in subst (λ y. rule Declarations y ≡ None) same refl
no_declaration (Number n place ∷ rest) h t e = let same : Number n place ≡ t = cc in subst (λ y. rule Declarations y ≡ None) same refl
no_declaration (Sign_of s place ∷ rest) h t e = let same : Sign_of s place ≡ t = cc in subst (λ y. rule Declarations y ≡ None) same refl
no_declaration (Keyword_of keyword.Int place ∷ rest) h t e = absurd cc
no_declaration (Keyword_of keyword.Stack place ∷ rest) h t e = absurd cc
no_declaration (Keyword_of w place ∷ rest) h t e = let same : Keyword_of w place ≡ t = cc in subst (λ y. rule Declarations y ≡ None) same refl

declarations_begin : {goal p : Part} (k : List Declaration → Form p) (S : Stack goal p) (u : ℕ) (from : List Token) → u ≤ operator_limit →
    is_declaration (next from) ≡ true →
    run all from (at (part Declarations k) S (count 0 u)) ≡ begin_declaration from one_more_form (waits {q = Declarations} k S) u
declarations_begin k S u [] i h = absurd cc
declarations_begin k S u (Name x place ∷ rest) i h = absurd cc
declarations_begin k S u (Number n place ∷ rest) i h = absurd cc
declarations_begin k S u (Sign_of s place ∷ rest) i h = absurd cc
declarations_begin k S u (Keyword_of keyword.Int place ∷ rest) i h =
    begins_part Declarations k S 0 u (Keyword_of keyword.Int place) rest (named_form one_more_form) refl (omega arith) i
    ∙ sym (int_begins one_more_form (waits {q = Declarations} k S) u place rest i)
declarations_begin k S u (Keyword_of keyword.Stack place ∷ rest) i h =
    begins_part Declarations k S 0 u (Keyword_of keyword.Stack place) rest (stack_form one_more_form) refl (omega arith) i
    ∙ sym (stack_begins one_more_form (waits {q = Declarations} k S) u place rest i)
declarations_begin k S u (Keyword_of _ place ∷ rest) i h = absurd cc

pub view_push : (ds : List code_declaration.Declaration) (d : code_declaration.Declaration) →
    declarations_view (ds ++ d ∷ []) ≡ declarations_view ds ++ declaration_view d ∷ []
view_push [] d = refl
view_push (e ∷ ds) d = ap (λ r. declaration_view e ∷ r) (view_push ds d)

pub declared_begins : (from : List Token) → AreDeclared [] from from
declared_begins from =
    record { goes = λ p k goal S u h. record { other = p; form = k; stack = S; stands = (u, h, refl); onward = λ es ts v. refl }; shorter = omega arith }

one_more : {ds : List Declaration} {d : Declaration} {goal : Part} {out : Outcome goal} {rest after : List Token} {p : Part} {k : List Declaration → Form p}
    {S : Stack goal p} → AtDeclarations ds goal out rest p k S → IsDeclaration d rest after →
    AtDeclarations (ds ++ d ∷ []) goal out after p k S
one_more {ds} {d} {goal} {out} {rest} {after} {p} {k} {S} a i =
    let T : Stack goal Declarations = waits {q = Declarations} a.form a.stack in
    let u = a.stands.0 in
    let x = i.goes goal Declarations one_more_form T u a.stands.1 in
    record {
      other = Declarations;
      form = λ es. done (d ∷ es);
      stack = T;
      stands = (x.0, x.1, a.stands.2 ∙ declarations_begin a.form a.stack u rest a.stands.1 i.begins ∙ x.2);
      onward = λ es ts v.
          run_hands all Declarations a.form a.stack (count 0 v) (d ∷ es) ts
          ∙ a.onward (d ∷ es) ts v
          ∙ ap (λ y. run all ts (at (k y) S (count 0 v))) (sym (append_assoc ds (d ∷ []) es));
    }

pub declared_goes_on : {ds : List Declaration} {d : Declaration} {from rest after : List Token} → AreDeclared ds from rest → IsDeclaration d rest after →
    AreDeclared (ds ++ d ∷ []) from after
declared_goes_on {ds} {d} a i =
    record { goes = λ p k goal S u h. one_more (a.goes p k goal S u h) i; shorter = let x = a.shorter in let y = i.shorter in omega (arith, x, y) }

pub declared_fails : {ds : List Declaration} {from rest : List Token} (e : Refusal) → AreDeclared ds from rest → FailsDeclaration rest e →
    FailsPart Declarations 0 from e
declared_fails {from = from} {rest = rest} e a f p k goal S u h =
    let x = a.goes p k goal S u h in
    x.stands.2 ∙ declarations_begin x.form x.stack x.stands.0 rest x.stands.1 f.begins
    ∙ f.stops goal Declarations one_more_form (waits {q = Declarations} x.form x.stack) x.stands.0 x.stands.1

pub declared_ends : {ds : List Declaration} {from rest : List Token} → AreDeclared ds from rest → is_declaration (next rest) ≡ false →
    IsPart Declarations 0 ds from rest
declared_ends {ds} {from} {rest} a n =
    record {
      goes = λ p k goal S u h.
          let x = a.goes p k goal S u h in
          let v = x.stands.0 in (
            v,
            x.stands.1,
            x.stands.2
                ∙ left_behind Declarations x.form x.stack (count 0 v) [] rest refl (no_declaration rest n)
                ∙ x.onward [] rest v
                ∙ ap (λ es. run all rest (at (k es) S (count 0 v))) (append-nil ds),
          );
      shorter = a.shorter;
    }

-- ---- the end of the tokens

pub no_more : (ts : List code_token.TextToken) → true ≡ (length ts == 0) → views ts ≡ []
no_more [] e = refl
no_more (t ∷ ts) e = absurd (omega (arith, eqb-true (length (t ∷ ts)) 0 (sym e)))

pub some_more : (ts : List code_token.TextToken) → false ≡ (length ts == 0) → 0 < length (views ts)
some_more [] e = absurd cc
some_more (t ∷ ts) e = omega arith

end_refused : {goal : Part} (v : Tree goal) (u : ℕ) (rest : List Token) → 0 < length rest →
    run {goal = goal} all rest (at (done v) bottom (count 0 u)) ≡ outcome_of (Expected what.End (length rest))
end_refused v u [] h = absurd (omega (arith, h))
end_refused v u (t ∷ ts) h = refl

end_read : {goal : Part} (v : Tree goal) (u : ℕ) (rest : List Token) → rest ≡ [] → run {goal = goal} all rest (at (done v) bottom (count 0 u)) ≡ Ended
    (Some v) what.End
end_read v u [] h = refl
end_read v u (t ∷ ts) h = absurd cc

-- ---- cells

abbrev behind_declarations : List Declaration → Form A_cell
behind_declarations ds = part Statements (λ b. part (Procedures (is_bare ds b) (cell_of ds b [])) done)

abbrev behind_statements : List Declaration → Block → Form A_cell
behind_statements ds b = part (Procedures (is_bare ds b) (cell_of ds b [])) done

module _ {ds : List Declaration} {b : Block} {from middle rest : List Token} (i : IsPart Declarations 0 ds from middle)
    (j : IsPart Statements 0 b middle rest) where
  statements_read : Stands 0 (run all from (start A_cell)) rest (behind_statements ds b) bottom
  statements_read =
      let x = i.goes A_cell behind_declarations A_cell bottom 0 (omega arith) in
      let y = j.goes A_cell (behind_statements ds) A_cell bottom x.0 x.1 in
      (y.0, y.1, x.2 ∙ y.2)

  cell_reads : {c : Cell} {last : List Token} → IsPart (Procedures (is_bare ds b) (cell_of ds b [])) 0 c rest last →
      Stands 0 (run all from (start A_cell)) last (done c) bottom
  cell_reads l =
      let x = statements_read in
      let y = l.goes A_cell done A_cell bottom x.0 x.1 in
      (y.0, y.1, x.2 ∙ y.2)

  pub cell_is : {c : Cell} {last : List Token} → IsPart (Procedures (is_bare ds b) (cell_of ds b [])) 0 c rest last → last ≡ [] → IsTree A_cell all c from
  cell_is {c} {last} l e = let x = cell_reads l in is_tree A_cell from c what.End (x.2 ∙ end_read {goal = A_cell} c x.0 last e)

  pub cell_stops_end : {c : Cell} {last : List Token} (e : Refusal) → IsPart (Procedures (is_bare ds b) (cell_of ds b [])) 0 c rest last → AtEnd last e →
      Refused A_cell from e
  cell_stops_end {c} {last} e l a = let x = cell_reads l in x.2 ∙ end_refused {goal = A_cell} c x.0 last a.1 ∙ ap outcome_of (sym a.0)

  pub cell_stops_procedures : (e : Refusal) → FailsPart (Procedures (is_bare ds b) (cell_of ds b [])) 0 rest e → Refused A_cell from e
  cell_stops_procedures e f = let x = statements_read in x.2 ∙ f A_cell done A_cell bottom x.0 x.1

pub cell_stops_declarations : (from : List Token) (e : Refusal) → FailsPart Declarations 0 from e → Refused A_cell from e
cell_stops_declarations from e f = f A_cell behind_declarations A_cell bottom 0 (omega arith)

pub cell_stops_statements : {ds : List Declaration} {from middle : List Token} (e : Refusal) → IsPart Declarations 0 ds from middle →
    FailsPart Statements 0 middle e → Refused A_cell from e
cell_stops_statements {ds} e i f =
    let x = i.goes A_cell behind_declarations A_cell bottom 0 (omega arith) in
    x.2 ∙ f A_cell (behind_statements ds) A_cell bottom x.0 x.1

-- ---- whole expressions

pub exp_is : {e : Exp} {from rest : List Token} → IsPart Whole 0 e from rest → rest ≡ [] → IsTree Whole all e from
exp_is {e} {from} {rest} i h = let x = i.goes Whole done Whole bottom 0 (omega arith) in
    is_tree Whole from e what.End (x.2 ∙ end_read {goal = Whole} e x.0 rest h)

pub exp_stops_end : {e : Exp} {from rest : List Token} (r : Refusal) → IsPart Whole 0 e from rest → AtEnd rest r → Refused Whole from r
exp_stops_end {e} {from} {rest} r i a = let x = i.goes Whole done Whole bottom 0 (omega arith) in x.2 ∙ end_refused {goal = Whole} e x.0 rest a.1
    ∙ ap outcome_of (sym a.0)

pub exp_stops : (from : List Token) (e : Refusal) → FailsPart Whole 0 from e → Refused Whole from e
exp_stops from e f = f Whole done Whole bottom 0 (omega arith)

-- ---- neither declarations nor statements

pub bare_blocks : (ds : List code_declaration.Declaration) (ss : List code_stm.Stm) → true ≡ (length ds == 0) →
    (length ss == 0) ≡ is_bare (declarations_view ds) (block_view ss)
bare_blocks [] [] e = refl
bare_blocks [] (s ∷ ss) e = ne_eqb (length (s ∷ ss)) 0 (λ q. absurd (omega (arith, q)))
bare_blocks (d ∷ ds) ss e = absurd (omega (arith, eqb-true (length (d ∷ ds)) 0 (sym e)))

pub not_bare : (ds : List code_declaration.Declaration) (ss : List code_stm.Stm) → false ≡ (length ds == 0) →
    false ≡ is_bare (declarations_view ds) (block_view ss)
not_bare [] ss e = absurd cc
not_bare (d ∷ ds) ss e = refl
