-- The tokens that spell the print of parameters are read as those parameters, places aside.
use Rattle.std.proofs.Common.{◌≡◌, ℕ, List, [], ◌∷◌, true, false, map, refl, sym, subst, ◌∙◌, ap, arith}
use Rattle.janus_syntax.specs.declared.token.Sign.TheVariants as sign
use Rattle.janus_syntax.specs.declared.token.Keyword.TheVariants as keyword
use Rattle.janus_syntax.specs.Tokens.{Token, Name, Sign_of, Keyword_of}
use Rattle.janus_syntax.specs.Tree.{named, Parameter, IntParameter, ArrayParameter, StackParameter}
use Rattle.janus_syntax.specs.Forms.{Part, Parameters, More_parameters, A_parameter, Brackets, Tree, A_name, The_sign, Form, done, take, part}
use Rattle.janus_syntax.specs.Table.{rule, parameter, sign_then, a_parameter}
use Rattle.janus_syntax.specs.Printing.{parameter_pieces, more_parameters_pieces, parameters_pieces}
use Rattle.janus_syntax.specs.View.{plain_parameter}
use Rattle.janus_printing.proofs.Spelled.{Spelled, in_two}
use Rattle.janus_printing.proofs.Onward.{SpellsTo, StartsTo, done_to, part_to, left_to, token_to, begins_to}

-- these tokens are read as that parameter
record ParameterAgain (x : Parameter) (ts rest : List Token) : Type 0 where
  again : Parameter
  same : plain_parameter again ≡ plain_parameter x
  starts : {p : Part} (k : Parameter → Form p) (v : Tree p) (d' : ℕ) (end : List Token) → SpellsTo (k again) v 0 rest d' end →
      StartsTo (λ t. a_parameter t k) v 0 ts d' end

-- as those parameters, behind another
record MoreAgain (xs : List Parameter) (ts rest : List Token) : Type 0 where
  again : List Parameter
  same : map plain_parameter again ≡ map plain_parameter xs
  spells : {p : Part} (k : List Parameter → Form p) (v : Tree p) (d' : ℕ) (end : List Token) → SpellsTo (k again) v 0 rest d' end →
      SpellsTo (part More_parameters k) v 0 ts d' end

-- and in parentheses
pub record ParametersAgain (xs : List Parameter) (ts rest : List Token) : Type 0 where
  pub again : List Parameter
  pub same : map plain_parameter again ≡ map plain_parameter xs
  pub spells : {p : Part} (k : List Parameter → Form p) (v : Tree p) (d' : ℕ) (end : List Token) → SpellsTo (k again) v 0 rest d' end →
      SpellsTo (part Parameters k) v 0 ts d' end

parameter_again : (x : Parameter) (ts rest : List Token) → Spelled (parameter_pieces x) ts rest → ParameterAgain x ts rest
parameter_again (IntParameter (named x place)) ts rest (at, t1, e1, (at2, t2, e2, s)) =
    record {
      again = IntParameter (named x at2);
      same = refl;
      starts = λ {p} k v d' end onward.
          begins_to (λ t. a_parameter t k) (take A_name (λ y. part Brackets (λ b. k (parameter y b)))) v 0 d' (Keyword_of keyword.Int at) ts t1 end e1 refl
          (omega arith)
          (token_to A_name (λ y. part Brackets (λ b. k (parameter y b))) (named x at2) v 0 d' (Name x at2) t1 t2 end e2 refl
          (subst (λ l. SpellsTo (part Brackets (λ b. k (parameter (named x at2) b))) v 0 l d' end) (sym s)
          (left_to {q = Brackets} (λ b. k (parameter (named x at2) b)) false v 0 d' rest end refl onward)));
    }
parameter_again (ArrayParameter (named x place)) ts rest (at1, t1, e1, (at2, t2, e2, (opened, t3, e3, (shut, t4, e4, s)))) =
    record {
      again = ArrayParameter (named x at2);
      same = refl;
      starts = λ {p} k v d' end onward.
          begins_to (λ t. a_parameter t k) (take A_name (λ y. part Brackets (λ b. k (parameter y b)))) v 0 d' (Keyword_of keyword.Int at1) ts t1 end e1 refl
          (omega arith)
          (token_to A_name (λ y. part Brackets (λ b. k (parameter y b))) (named x at2) v 0 d' (Name x at2) t1 t2 end e2 refl
          (part_to {q = Brackets} (λ b. k (parameter (named x at2) b)) true v 0 0 d' t2 rest end
          (begins_to (rule Brackets) (sign_then sign.CloseIndex (done true)) true 0 0 (Sign_of sign.OpenIndex opened) t2 t3 rest e3 refl (omega arith)
          (token_to {p = Brackets} (The_sign sign.CloseIndex) (λ z. done true) tt true 0 0 (Sign_of sign.CloseIndex shut) t3 rest rest
          (e4 ∙ ap (λ l. Sign_of sign.CloseIndex shut ∷ l) s) refl
          (done_to {p = Brackets} true 0 rest)))
          onward));
    }
parameter_again (StackParameter (named x place)) ts rest (at, t1, e1, (at2, t2, e2, s)) =
    record {
      again = StackParameter (named x at2);
      same = refl;
      starts = λ {p} k v d' end onward.
          begins_to (λ t. a_parameter t k) (take A_name (λ y. k (StackParameter y))) v 0 d' (Keyword_of keyword.Stack at) ts t1 end e1 refl (omega arith)
          (token_to A_name (λ y. k (StackParameter y)) (named x at2) v 0 d' (Name x at2) t1 rest end (e2 ∙ ap (λ l. Name x at2 ∷ l) s) refl onward);
    }

more_again : (xs : List Parameter) (ts rest : List Token) → Spelled (more_parameters_pieces xs) ts rest → MoreAgain xs ts rest
more_again [] ts rest s = record {
  again = [];
  same = refl;
  spells = λ {p} k v d' end onward. subst (λ l. SpellsTo (part More_parameters k) v 0 l d' end) (sym s)
      (left_to {q = More_parameters} k [] v 0 d' rest end refl onward);
}
more_again (x ∷ xs) ts rest (comma, t1, e1, s) =
    let two = in_two (parameter_pieces x) (more_parameters_pieces xs) t1 rest s in
    let first = parameter_again x t1 two.0 two.1 in
    let others = more_again xs two.0 rest two.2 in
    let w : List Parameter = first.again ∷ others.again in
    record {
      again = w;
      same = (λ n. first.same n ∷ others.same n);
      spells = λ {p} k v d' end onward.
          part_to {q = More_parameters} k w v 0 0 d' ts rest end
          (begins_to (rule More_parameters) (part A_parameter (λ y. part More_parameters (λ ys. done (y ∷ ys)))) w 0 0 (Sign_of sign.Comma comma)
          ts t1 rest e1 refl (omega arith)
          (part_to {p = More_parameters} {q = A_parameter} (λ y. part More_parameters (λ ys. done (y ∷ ys))) first.again w 0 0 0 t1 two.0 rest
          (first.starts {p = A_parameter} done first.again 0 two.0 (done_to {p = A_parameter} first.again 0 two.0))
          (others.spells {p = More_parameters} (λ ys. done (first.again ∷ ys)) w 0 rest (done_to {p = More_parameters} w 0 rest))))
          onward;
    }

pub parameters_again : (xs : List Parameter) (ts rest : List Token) → Spelled (parameters_pieces xs) ts rest → ParametersAgain xs ts rest
parameters_again [] ts rest s = record {
  again = [];
  same = refl;
  spells = λ {p} k v d' end onward. subst (λ l. SpellsTo (part Parameters k) v 0 l d' end) (sym s) (left_to {q = Parameters} k [] v 0 d' rest end refl onward);
}
parameters_again (x ∷ xs) ts rest s =
    let two = in_two (parameter_pieces x) (more_parameters_pieces xs) ts rest s in
    let first = parameter_again x ts two.0 two.1 in
    let others = more_again xs two.0 rest two.2 in
    let w : List Parameter = first.again ∷ others.again in
    record {
      again = w;
      same = (λ n. first.same n ∷ others.same n);
      spells = λ {p} k v d' end onward.
          part_to {q = Parameters} k w v 0 0 d' ts rest end
          (first.starts {p = Parameters} (λ y. part More_parameters (λ ys. done (y ∷ ys))) w 0 rest
          (others.spells {p = Parameters} (λ ys. done (first.again ∷ ys)) w 0 rest (done_to {p = Parameters} w 0 rest)))
          onward;
    }
