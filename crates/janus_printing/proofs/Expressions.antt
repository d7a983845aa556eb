-- The tokens that spell the print of an expression spell that expression, places aside.
use Rattle.std.proofs.Common.{◌≡◌, ℕ, suc, ◌+◌, ◌-◌, ◌≤◌, List, [], ◌∷◌, ◌++◌, Some, None, true, false, refl, ap, sym, subst, ◌∙◌, inl, inr, arith}
use Rattle.std.specs.Prelude.{nat_lt, cond}
use Rattle.std.proofs.lemmas.Bool.{ltb-false, eq-eqb}
use Rattle.janus_meaning.specs.Syntax as plain
use Rattle.janus_syntax.specs.declared.token.Span.{Span}
use Rattle.janus_syntax.specs.declared.token.Sign.TheVariants as sign
use Rattle.janus_syntax.specs.declared.token.Keyword.TheVariants as keyword
use Rattle.janus_syntax.specs.declared.tree.Operator.TheVariants as operator
use Rattle.janus_syntax.specs.declared.operator.Joint.{Joint}
use Rattle.janus_syntax.specs.declared.operator.Joint.TheVariants as joint
use Rattle.janus_syntax.specs.Tokens.{Token, Name, Number, Sign_of, Keyword_of}
use Rattle.janus_syntax.specs.Tree.{named, Exp, Num, Var, Element, EmptyOf, TopOf, Neg, Bin, And, Or}
use Rattle.janus_syntax.specs.Operators.{weakest, joined, sign_infix}
use Rattle.janus_syntax.specs.Forms.{Part, Chain, Level, Index, Tree, Form, done, part, close, Rule}
use Rattle.janus_syntax.specs.Table.{rule, variable, sign_then, stack_then, whole, operand, chains, chain_rule}
use Rattle.janus_syntax.specs.Grammar
use Rattle.janus_syntax.specs.Grammar.{Count, all, entered, closed, fits, depth_limit, operator_limit, Spells}
use Rattle.janus_syntax.specs.Reading.{count}
use Rattle.janus_syntax.specs.Printing.{Piece, A_sign, sign_level, if_needed, infix_pieces, exp_pieces}
use Rattle.janus_syntax.specs.View.{plain_exp}
use Rattle.janus_syntax.proofs.Chains.{fits_count}
use Rattle.janus_printing.proofs.Inside.{inside}
use Rattle.janus_printing.proofs.Fits.{operators, Parenthesized, FitsInfix, FitsExp}
use Rattle.janus_printing.proofs.Measures.{recount, joint_sign, joined_operators}
use Rattle.janus_printing.proofs.Spelled.{Spelled, in_two, Starts, part_there, sign_there, stack_there, chains_over}

-- the form behind an expression where operators of this level may stand
abbrev pub onward : {p : Part} → ℕ → ℕ → Exp → (Exp → Form p) → Form p
onward level n e k = chains (level - 1) (n - (level - 1)) e k

-- these tokens are read as that expression, in each place for operators of that level
pub record IsReadAgain (e : Exp) (level d : ℕ) (ts rest : List Token) : Type 0 where
  pub again : Exp
  pub same : plain_exp again ≡ plain_exp e
  pub starts : {p : Part} (n u : ℕ) (k : Exp → Form p) (v : Tree p) (m' : Count) (end : List Token) → level ≤ n → u + operators e ≤ operator_limit →
      Spells all p (onward level n again k) v (count d (u + operators e)) rest m' end → Starts (λ t. operand t (λ x. chains 0 n x k)) v (count d u) ts m' end

-- where an operand was read, on to the operators of the level
to_operators : {p : Part} (level n : ℕ) (e : Exp) (k : Exp → Form p) (v : Tree p) (c m' : Count) (from rest : List Token) → level ≤ n →
    Spells all p (onward level n e k) v c from m' rest → Spells all p (chains 0 n e k) v c from m' rest
to_operators level n e k v c m' from rest h s = chains_over 0 (level - 1) n (n - (level - 1)) e k v c m' from rest (omega (arith, h)) (omega arith) s

-- a part that is such an expression
pub level_again : {e : Exp} {level d : ℕ} {ts rest : List Token} (r : IsReadAgain e level d ts rest) {p : Part} (u : ℕ) (k : Exp → Form p) (v : Tree p)
    (m' : Count) (end : List Token) → u + operators e ≤ operator_limit →
    Spells all p (k r.again) v (count d (u + operators e)) rest m' end → Spells all p (part (Level level) k) v (count d u) ts m' end
level_again {e} {level} {d} {ts} {rest} r {p} u k v m' end few s =
    let last : Spells all (Level level) (chains level 0 r.again done) r.again (count d (u + operators e)) rest (count d (u + operators e)) rest =
    Grammar.nothing_more in
    let behind : Spells all (Level level) (onward level level r.again done) r.again (count d (u + operators e)) rest (count d (u + operators e)) rest =
    chains_over (level - 1) level (level - (level - 1)) 0 r.again done r.again _ _ rest rest (omega arith) (omega arith) last in
    part_there k r.again v (count d u) (count d (u + operators e)) m' ts rest end
    (r.starts {p = Level level} level u done r.again (count d (u + operators e)) rest (omega arith) few behind) s

-- ---- operands

number_again : (x : ℕ) (place at : Span) (level d : ℕ) (ts rest : List Token) → d ≤ depth_limit → ts ≡ Number x at ∷ rest →
    IsReadAgain (Num x place) level d ts rest
number_again x place at level d ts rest h e = record {
  again = Num x at;
  same = refl;
  starts = λ {p} n u k v m' end weaker few s.
      record {
        token = Number x at;
        behind = rest;
        rule_of = record { opens = 0; counts = 0; is_whole = false; form = chains 0 n (Num x at) k };
        whole = e;
        is = refl;
        runs = (
          fits_count (d + 0) (u + 0) (omega (arith, h)) (omega (arith, few)),
          recount d (d + 0) (u + 0) (u + 0) (omega arith) refl (to_operators level n (Num x at) k v _ m' rest end weaker s),
        );
      };
}

variable_again : (x : List ℕ) (place at : Span) (level d : ℕ) (ts rest : List Token) → d ≤ depth_limit → ts ≡ Name x at ∷ rest →
    IsReadAgain (Var (named x place)) level d ts rest
variable_again x place at level d ts rest h e = record {
  again = Var (named x at);
  same = refl;
  starts = λ {p} n u k v m' end weaker few s.
      record {
        token = Name x at;
        behind = rest;
        rule_of = record { opens = 0; counts = 0; is_whole = false; form = part Index (λ i. chains 0 n (variable (named x at) i) k) };
        whole = e;
        is = refl;
        runs = (
          fits_count (d + 0) (u + 0) (omega (arith, h)) (omega (arith, few)),
          Grammar.no_part refl (recount d (d + 0) (u + 0) (u + 0) (omega arith) refl (to_operators level n (Var (named x at)) k v _ m' rest end weaker s)),
        );
      };
}

element_again : (x : List ℕ) (i : Exp) (place at opened shut : Span) (level d : ℕ) (ts t1 t2 t3 rest : List Token) → suc d ≤ depth_limit → ts ≡ Name x at ∷ t1 →
    t1 ≡ Sign_of sign.OpenIndex opened ∷ t2 → IsReadAgain i weakest (suc d) t2 t3 → t3 ≡ Sign_of sign.CloseIndex shut ∷ rest →
    IsReadAgain (Element (named x place) i) level d ts rest
element_again x i place at opened shut level d ts t1 t2 t3 rest h e1 e2 inner e3 = record {
  again = Element (named x at) inner.again;
  same = ap (λ y. plain.At x y) inner.same;
  starts = λ {p} n u k v m' end weaker few s.
      let form : Form Index = part (Level weakest) (λ e. sign_then sign.CloseIndex (close (done (Some e)))) in
      let total = u + operators i in
      let last : Spells all Index (close (done (Some inner.again))) (Some inner.again) (count (suc d) total) rest (count (suc d - 1) total) rest =
      Grammar.end_of_construct Grammar.nothing_more in
      let index : Spells all Index form (Some inner.again) (count (suc d) u) t2 (count (suc d - 1) total) rest =
      level_again inner u (λ e. sign_then sign.CloseIndex (close (done (Some e)))) (Some inner.again) _ rest few
      (sign_there sign.CloseIndex _ _ _ _ shut t3 rest rest e3 refl last) in
      let start : Starts (rule Index) (Some inner.again) (count d u) t1 (count (suc d - 1) total) rest = record {
        token = Sign_of sign.OpenIndex opened;
        behind = t2;
        rule_of = record { opens = 1; counts = 0; is_whole = false; form = form };
        whole = e2;
        is = refl;
        runs = (fits_count (d + 1) (u + 0) (omega (arith, h)) (omega (arith, few)), recount (suc d) (d + 1) u (u + 0) (omega arith) (omega arith) index);
      } in
      let after = to_operators level n (Element (named x at) inner.again) k v _ m' rest end weaker s in
      let whole_of : Spells all p (part Index (λ i. chains 0 n (variable (named x at) i) k)) v (count d u) t1 m' end =
      part_there (λ i. chains 0 n (variable (named x at) i) k) (Some inner.again) v (count d u) (count (suc d - 1) total) m' t1 rest end start
      (recount d (suc d - 1) total total (omega arith) refl after) in
      record {
        token = Name x at;
        behind = t1;
        rule_of = record { opens = 0; counts = 0; is_whole = false; form = part Index (λ i. chains 0 n (variable (named x at) i) k) };
        whole = e1;
        is = refl;
        runs = (fits_count (d + 0) (u + 0) (omega (arith, h)) (omega (arith, few)), recount d (d + 0) u (u + 0) (omega arith) (omega arith) whole_of);
      };
}

empty_again : (x : List ℕ) (place on opened at shut : Span) (level d : ℕ) (ts t1 t2 t3 rest : List Token) → d ≤ depth_limit →
    ts ≡ Keyword_of keyword.Empty on ∷ t1 → t1 ≡ Sign_of sign.Open opened ∷ t2 → t2 ≡ Name x at ∷ t3 → t3 ≡ Sign_of sign.Close shut ∷ rest →
    IsReadAgain (EmptyOf (named x place)) level d ts rest
empty_again x place on opened at shut level d ts t1 t2 t3 rest h e1 e2 e3 e4 = record {
  again = EmptyOf (named x at);
  same = refl;
  starts = λ {p} n u k v m' end weaker few s.
      let after = recount d (d + 0) (u + 0) (u + 0) (omega arith) refl (to_operators level n (EmptyOf (named x at)) k v _ m' rest end weaker s) in
      record {
        token = Keyword_of keyword.Empty on;
        behind = t1;
        rule_of = record { opens = 0; counts = 0; is_whole = false; form = stack_then (λ y. chains 0 n (EmptyOf y) k) };
        whole = e1;
        is = refl;
        runs = (
          fits_count (d + 0) (u + 0) (omega (arith, h)) (omega (arith, few)),
          stack_there (λ y. chains 0 n (EmptyOf y) k) x v _ m' opened at shut t1 t2 t3 rest end e2 e3 e4 after,
        );
      };
}

top_again : (x : List ℕ) (place on opened at shut : Span) (level d : ℕ) (ts t1 t2 t3 rest : List Token) → d ≤ depth_limit →
    ts ≡ Keyword_of keyword.Top on ∷ t1 → t1 ≡ Sign_of sign.Open opened ∷ t2 → t2 ≡ Name x at ∷ t3 → t3 ≡ Sign_of sign.Close shut ∷ rest →
    IsReadAgain (TopOf (named x place)) level d ts rest
top_again x place on opened at shut level d ts t1 t2 t3 rest h e1 e2 e3 e4 = record {
  again = TopOf (named x at);
  same = refl;
  starts = λ {p} n u k v m' end weaker few s.
      let after = recount d (d + 0) (u + 0) (u + 0) (omega arith) refl (to_operators level n (TopOf (named x at)) k v _ m' rest end weaker s) in
      record {
        token = Keyword_of keyword.Top on;
        behind = t1;
        rule_of = record { opens = 0; counts = 0; is_whole = false; form = stack_then (λ y. chains 0 n (TopOf y) k) };
        whole = e1;
        is = refl;
        runs = (
          fits_count (d + 0) (u + 0) (omega (arith, h)) (omega (arith, few)),
          stack_there (λ y. chains 0 n (TopOf y) k) x v _ m' opened at shut t1 t2 t3 rest end e2 e3 e4 after,
        );
      };
}

minus_again : (e : Exp) (at : Span) (level d : ℕ) (ts t1 rest : List Token) → suc d ≤ depth_limit → ts ≡ Sign_of sign.Minus at ∷ t1 →
    IsReadAgain e 0 (suc d) t1 rest → IsReadAgain (Neg e) level d ts rest
minus_again e at level d ts t1 rest h e1 inner = record {
  again = Neg inner.again;
  same = ap (λ x. plain.Negate x) inner.same;
  starts = λ {p} n u k v m' end weaker few s.
      let after = to_operators level n (Neg inner.again) k v _ m' rest end weaker s in
      let total = u + 1 + operators e in
      let shut : Spells all p (close (chains 0 n (Neg inner.again) k)) v (count (suc d) total) rest m' end =
      Grammar.end_of_construct (recount d (suc d - 1) (u + suc (operators e)) total (omega arith) (omega arith) after) in
      let form = level_again inner (u + 1) (λ x. close (chains 0 n (Neg x) k)) v m' end (omega (arith, few)) shut in
      record {
        token = Sign_of sign.Minus at;
        behind = t1;
        rule_of = record { opens = 1; counts = 1; is_whole = false; form = part (Level 0) (λ x. close (chains 0 n (Neg x) k)) };
        whole = e1;
        is = refl;
        runs = (fits_count (d + 1) (u + 1) (omega (arith, h)) (omega (arith, few)), recount (suc d) (d + 1) (u + 1) (u + 1) (omega arith) refl form);
      };
}

parenthesized_again : (e : Exp) (opened shut : Span) (level d : ℕ) (ts t1 t2 rest : List Token) → suc d ≤ depth_limit → ts ≡ Sign_of sign.Open opened ∷ t1 →
    IsReadAgain e weakest (suc d) t1 t2 → t2 ≡ Sign_of sign.Close shut ∷ rest → IsReadAgain e level d ts rest
parenthesized_again e opened shut level d ts t1 t2 rest h e1 inner e2 = record {
  again = inner.again;
  same = inner.same;
  starts = λ {p} n u k v m' end weaker few s.
      let after = to_operators level n inner.again k v _ m' rest end weaker s in
      let total = u + operators e in
      let closing : Spells all p (close (chains 0 n inner.again k)) v (count (suc d) total) rest m' end =
      Grammar.end_of_construct (recount d (suc d - 1) total total (omega arith) refl after) in
      let form = level_again inner u (λ x. sign_then sign.Close (close (chains 0 n x k))) v m' end few
      (sign_there sign.Close _ _ _ _ shut t2 rest end e2 refl closing) in
      record {
        token = Sign_of sign.Open opened;
        behind = t1;
        rule_of = record { opens = 1; counts = 0; is_whole = false; form = part (Level weakest) (λ x. sign_then sign.Close (close (chains 0 n x k))) };
        whole = e1;
        is = refl;
        runs = (fits_count (d + 1) (u + 0) (omega (arith, h)) (omega (arith, few)), recount (suc d) (d + 1) u (u + 0) (omega arith) (omega arith) form);
      };
}

-- ---- operators

-- the level of an operator, and the operator of its sign
pub record IsOperator (j : Joint) : Type 0 where
  pub below : ℕ
  pub level : sign_level (joint_sign j) ≡ suc below
  pub few : suc below ≤ weakest
  pub is : sign_infix (joint_sign j) ≡ Some (record { joint = j; level = suc below })

pub operator_is : (j : Joint) → IsOperator j
operator_is (joint.Binary operator.Add) = record { below = 1; level = refl; few = omega arith; is = refl }
operator_is (joint.Binary operator.Subtract) = record { below = 1; level = refl; few = omega arith; is = refl }
operator_is (joint.Binary operator.Multiply) = record { below = 0; level = refl; few = omega arith; is = refl }
operator_is (joint.Binary operator.Divide) = record { below = 0; level = refl; few = omega arith; is = refl }
operator_is (joint.Binary operator.Remainder) = record { below = 0; level = refl; few = omega arith; is = refl }
operator_is (joint.Binary operator.BitAnd) = record { below = 3; level = refl; few = omega arith; is = refl }
operator_is (joint.Binary operator.BitOr) = record { below = 5; level = refl; few = omega arith; is = refl }
operator_is (joint.Binary operator.Xor) = record { below = 4; level = refl; few = omega arith; is = refl }
operator_is (joint.Binary operator.Less) = record { below = 2; level = refl; few = omega arith; is = refl }
operator_is (joint.Binary operator.Greater) = record { below = 2; level = refl; few = omega arith; is = refl }
operator_is (joint.Binary operator.AtMost) = record { below = 2; level = refl; few = omega arith; is = refl }
operator_is (joint.Binary operator.AtLeast) = record { below = 2; level = refl; few = omega arith; is = refl }
operator_is (joint.Binary operator.Equal) = record { below = 2; level = refl; few = omega arith; is = refl }
operator_is (joint.Binary operator.Differ) = record { below = 2; level = refl; few = omega arith; is = refl }
operator_is joint.And = record { below = 6; level = refl; few = omega arith; is = refl }
operator_is joint.Or = record { below = 7; level = refl; few = omega arith; is = refl }

-- what stands behind the operator of a level
abbrev behind_operator : (o : ℕ) (j : Joint) (l : Exp) → Rule (Chain (suc o) l)
behind_operator o j l = record { opens = 0; counts = 1; is_whole = false; form = part (Level (suc o - 1)) (λ x. part (Chain (suc o) (joined j l x)) done) }

operator_rule : (j : Joint) (o : ℕ) (l : Exp) (at : Span) → sign_infix (joint_sign j) ≡ Some (record { joint = j; level = suc o }) →
    rule (Chain (suc o) l) (Sign_of (joint_sign j) at) ≡ Some (behind_operator o j l)
operator_rule j o l at is =
    ap (λ i. chain_rule i (suc o) l) is ∙ ap (λ b. cond b (Some (behind_operator o j l)) None) (eq-eqb (suc o) (suc o) refl)

-- one operator more in front of those of the level
operator_more : {r : Exp} {o d : ℕ} {t2 rest : List Token} (again : IsReadAgain r (suc o - 1) d t2 rest) {p : Part} (j : Joint) (l : Exp) (u : ℕ) (at : Span)
    (t1 : List Token) (k : Exp → Form p) (v : Tree p) (m' : Count) (end : List Token) → d ≤ depth_limit → u + 1 + operators r ≤ operator_limit →
    sign_infix (joint_sign j) ≡ Some (record { joint = j; level = suc o }) → t1 ≡ Sign_of (joint_sign j) at ∷ t2 →
    Spells all p (part (Chain (suc o) (joined j l again.again)) k) v (count d (u + 1 + operators r)) rest m' end →
    Spells all p (part (Chain (suc o) l) k) v (count d u) t1 m' end
operator_more {r} {o} {d} {t2} {rest} again {p} j l u at t1 k v m' end h few is e s =
    let whole_end : (e2 : Exp) (c : Count) (middle : List Token) → Spells all (Chain (suc o) l) (part (Chain (suc o) (joined j l again.again)) done) e2
    (count d (u + 1 + operators r)) rest c middle → Spells all p (k e2) v c middle m' end →
    Spells all p (part (Chain (suc o) l) k) v (count d u) t1 m' end =
    λ e2 c middle inner after.
    part_there k e2 v (count d u) c m' t1 middle end
    (record {
      token = Sign_of (joint_sign j) at;
      behind = t2;
      rule_of = behind_operator o j l;
      whole = e;
      is = operator_rule j o l at is;
      runs = (
        fits_count (d + 0) (u + 1) (omega (arith, h)) (omega (arith, few)),
        recount d (d + 0) (u + 1) (u + 1) (omega arith) refl
            (level_again again (u + 1) (λ x. part (Chain (suc o) (joined j l x)) done) e2 c middle few inner),
      );
    })
    after
    in
    elim (inside s) [
      | inr left ↦ whole_end left.tree _ rest (Grammar.no_part left.is Grammar.nothing_more) left.onward
      | inl there ↦ whole_end there.tree there.between there.middle
          (subst (λ ts. Spells all (Chain (suc o) l) (part (Chain (suc o) (joined j l again.again)) done) there.tree (count d (u + 1 + operators r))
          ts there.between there.middle) (sym there.whole) (Grammar.a_part there.is there.few there.inner Grammar.nothing_more)) there.onward
    ]

plain_joined : (j : Joint) (l l' r r' : Exp) → plain_exp l ≡ plain_exp l' → plain_exp r ≡ plain_exp r' → plain_exp (joined j l r) ≡ plain_exp (joined j l' r')
plain_joined (joint.Binary op) l l' r r' e h = cc
plain_joined joint.And l l' r r' e h = cc
plain_joined joint.Or l l' r r' e h = cc

bare_again : (j : Joint) (l r : Exp) (o level d : ℕ) (at : Span) (ts t1 t2 rest : List Token) → d ≤ depth_limit →
    sign_infix (joint_sign j) ≡ Some (record { joint = j; level = suc o }) → suc o ≤ level →
    IsReadAgain l (suc o) d ts t1 → t1 ≡ Sign_of (joint_sign j) at ∷ t2 → IsReadAgain r (suc o - 1) d t2 rest → IsReadAgain (joined j l r) level d ts rest
bare_again j l r o level d at ts t1 t2 rest h is weaker left e right = record {
  again = joined j left.again right.again;
  same = plain_joined j left.again l right.again r left.same right.same;
  starts = λ {p} n u k v m' end within few s.
      let both = joined_operators j l r in
      let total : u + operators (joined j l r) ≡ u + operators l + 1 + operators r = omega (arith, both) in
      let here : Spells all p (chains o (suc (n - suc o)) (joined j left.again right.again) k) v (count d (u + operators l + 1 + operators r)) rest m' end =
      recount d d _ _ refl total
      (chains_over o (level - 1) (suc (n - suc o)) (n - (level - 1)) (joined j left.again right.again) k v _ m' rest end (omega (arith, weaker, within))
      (omega (arith, weaker)) s) in
      let first : Spells all p (chains o (suc (n - suc o)) left.again k) v (count d (u + operators l)) t1 m' end =
      operator_more right j left.again (u + operators l) at t1 (λ f. chains (suc o) (n - suc o) f k) v m' end h (omega (arith, few, both)) is e here in
      left.starts n u k v m' end (omega (arith, weaker, within)) (omega (arith, few, both))
      (chains_over (suc o - 1) o (n - (suc o - 1)) (suc (n - suc o)) left.again k v _ m' t1 end (omega (arith, weaker, within)) (omega arith) first);
}

-- what is known of an operand
abbrev ReadsAgain : Exp → Type 0
ReadsAgain e = (level d : ℕ) (ts rest : List Token) → d ≤ depth_limit → FitsExp e level d → Spelled (exp_pieces e level) ts rest → IsReadAgain e level d ts rest

-- two operands and the sign between them, and what is behind
record AreReadAgain (e : Exp) (level d : ℕ) (ts : List Token) (tail : List Piece) (rest : List Token) : Type 0 where
  middle : List Token
  again : IsReadAgain e level d ts middle
  behind : Spelled tail middle rest

two_again : (j : Joint) (l r : Exp) → ReadsAgain l → ReadsAgain r → (level d : ℕ) (ts : List Token) (tail : List Piece) (rest : List Token) → d ≤ depth_limit →
    sign_level (joint_sign j) ≤ level → FitsExp l (sign_level (joint_sign j)) d → FitsExp r (sign_level (joint_sign j) - 1) d →
    Spelled (exp_pieces l (sign_level (joint_sign j)) ++ A_sign (joint_sign j) ∷ (exp_pieces r (sign_level (joint_sign j) - 1) ++ tail)) ts rest →
    AreReadAgain (joined j l r) level d ts tail rest
two_again j l r reads_l reads_r level d ts tail rest h weaker fits_l fits_r s =
    let op = operator_is j in
    let two = in_two (exp_pieces l (sign_level (joint_sign j))) (A_sign (joint_sign j) ∷ (exp_pieces r (sign_level (joint_sign j) - 1) ++ tail)) ts rest s in
    let after = two.2 in
    let last = in_two (exp_pieces r (sign_level (joint_sign j) - 1)) tail after.1 rest after.3 in
    let left : IsReadAgain l (suc op.below) d ts two.0 = subst (λ x. IsReadAgain l x d ts two.0) op.level (reads_l _ d ts two.0 h fits_l two.1) in
    let right : IsReadAgain r (suc op.below - 1) d after.1 last.0 =
    subst (λ x. IsReadAgain r (x - 1) d after.1 last.0) op.level (reads_r _ d after.1 last.0 h fits_r last.1) in
    let weaker' = op.level in
    record {
      middle = last.0;
      again = bare_again j l r op.below level d after.0 ts two.0 after.1 last.0 h op.is (omega (arith, weaker, weaker'))
          left after.2 right;
      behind = last.2;
    }

infix_again : (j : Joint) (l r : Exp) → ReadsAgain l → ReadsAgain r → (level d : ℕ) (ts rest : List Token) → d ≤ depth_limit →
    FitsInfix (joint_sign j) (FitsExp l) (FitsExp r) level d →
    Spelled (infix_pieces level (joint_sign j) (exp_pieces l) (exp_pieces r)) ts rest → IsReadAgain (joined j l r) level d ts rest
infix_again j l r reads_l reads_r level d ts rest h fits_both s =
    let own = sign_level (joint_sign j) in
    elim (nat_lt level own) as (λ b. nat_lt level own ≡ b → Parenthesized b (λ n. FitsExp l own n × FitsExp r (own - 1) n) d →
    Spelled (if_needed b sign.Open ++ (exp_pieces l own ++ A_sign (joint_sign j) ∷ (exp_pieces r (own - 1) ++ if_needed b sign.Close))) ts rest →
    IsReadAgain (joined j l r) level d ts rest) [
      | true ↦ λ e f t.
          let op = operator_is j in
          let own_is = op.level in
          let own_few = op.few in
          let two = two_again j l r reads_l reads_r weakest (suc d) t.1 (A_sign sign.Close ∷ []) rest f.0 (omega (arith, own_is, own_few)) f.1.0 f.1.1 t.3 in
          let shut = two.behind in
          parenthesized_again (joined j l r) t.0 shut.0 level d ts t.1 two.middle rest f.0 t.2 two.again
          (subst (λ more. two.middle ≡ Sign_of sign.Close shut.0 ∷ more) shut.3 shut.2)
      | false ↦ λ e f t.
          let weaker = ltb-false level own e in
          let two = two_again j l r reads_l reads_r level d ts [] rest h (omega (arith, weaker)) f.0 f.1 t in
          subst (λ more. IsReadAgain (joined j l r) level d ts more) two.behind two.again
    ] refl fits_both s

-- ---- all expressions

pub exp_again : (e : Exp) → ReadsAgain e
exp_again (Num n place) level d ts rest h f (at, more, whole, s) = number_again n place at level d ts rest h (whole ∙ ap (λ x. Number n at ∷ x) s)
exp_again (Var (named x place)) level d ts rest h f (at, more, whole, s) = variable_again x place at level d ts rest h (whole ∙ ap (λ y. Name x at ∷ y) s)
exp_again (Element (named x place) i) level d ts rest h (name, few, f) (at, t1, e1, (opened, t2, e2, s)) =
    let two = in_two (exp_pieces i weakest) (A_sign sign.CloseIndex ∷ []) t2 rest s in
    let shut = two.2 in
    element_again x i place at opened shut.0 level d ts t1 t2 two.0 rest few e1 e2 (exp_again i weakest (suc d) t2 two.0 few f two.1)
    (subst (λ more. two.0 ≡ Sign_of sign.CloseIndex shut.0 ∷ more) shut.3 shut.2)
exp_again (EmptyOf (named x place)) level d ts rest h f (on, t1, e1, (opened, t2, e2, (at, t3, e3, (shut, t4, e4, s)))) =
    empty_again x place on opened at shut level d ts t1 t2 t3 rest h e1 e2 e3 (e4 ∙ ap (λ l. Sign_of sign.Close shut ∷ l) s)
exp_again (TopOf (named x place)) level d ts rest h f (on, t1, e1, (opened, t2, e2, (at, t3, e3, (shut, t4, e4, s)))) =
    top_again x place on opened at shut level d ts t1 t2 t3 rest h e1 e2 e3 (e4 ∙ ap (λ l. Sign_of sign.Close shut ∷ l) s)
exp_again (Neg e) level d ts rest h (few, f) (at, t1, e1, s) = minus_again e at level d ts t1 rest few e1 (exp_again e 0 (suc d) t1 rest few f s)
exp_again (Bin op l r) level d ts rest h f s = infix_again (joint.Binary op) l r (exp_again l) (exp_again r) level d ts rest h f s
exp_again (And l r) level d ts rest h f s = infix_again joint.And l r (exp_again l) (exp_again r) level d ts rest h f s
exp_again (Or l r) level d ts rest h f s = infix_again joint.Or l r (exp_again l) (exp_again r) level d ts rest h f s
