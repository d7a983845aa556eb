-- The expressions of a text's tree fit: each of their constructs was entered within the limits.
use Rattle.std.proofs.Common.{◌≡◌, ℕ, suc, ◌+◌, ◌-◌, ◌<◌, ◌≤◌, List, ◌∷◌, length, Some, true, false, refl, ap, sym, subst, ◌∙◌, inl, inr, arith}
use Rattle.std.specs.Prelude.{nat_lt, nat_le}
use Rattle.std.proofs.lemmas.Bool.{ltb-true, leb-true, and_parts}
use Rattle.janus_syntax.specs.declared.token.Sign.{Sign}
use Rattle.janus_syntax.specs.declared.token.Sign.TheVariants as sign
use Rattle.janus_syntax.specs.declared.tree.LocalKind.{LocalKind}
use Rattle.janus_syntax.specs.declared.operator.Joint.{Joint}
use Rattle.janus_syntax.specs.declared.operator.Joint.TheVariants as joint
use Rattle.janus_syntax.specs.declared.operator.Infix.{Infix}
use Rattle.janus_syntax.specs.Tokens.{Token, Name, Number, Sign_of, Keyword_of}
use Rattle.janus_syntax.specs.Tree.{Name as Named, named, Exp}
use Rattle.janus_syntax.specs.Operators.{joined, sign_infix, operator_at}
use Rattle.janus_syntax.specs.Forms.{Part, Level, Tree, A_name, seen, Same_name, Form, take, part, close, Rule}
use Rattle.janus_syntax.specs.Table.{rule, left_out, sign_then, stack_then, variable_and_stack_then, delocal_then}
use Rattle.janus_syntax.specs.Grammar.{Count, all, entered, fits, depth_limit, operator_limit, Spells}
use Rattle.janus_syntax.specs.Reading.{count}
use Rattle.janus_syntax.specs.Printing.{operator_sign, sign_level}
use Rattle.janus_printing.proofs.Inside.{inside}
use Rattle.janus_printing.proofs.Fits.{IsName, IsAgain, operators, FitsInfix, FitsExp}
use Rattle.janus_printing.proofs.Good.{IsGood, AreGood}

-- ---- counts and rules

pub recount : {p : Part} {f : Form p} {v : Tree p} {m' : Count} {from rest : List Token} (a b x y : ℕ) → a ≡ b → x ≡ y →
    Spells all p f v (count a x) from m' rest → Spells all p f v (count b y) from m' rest
recount {p} {f} {v} {m'} {from} {rest} a b x y e h s =
    subst (λ n. Spells all p f v (count n y) from m' rest) e (subst (λ n. Spells all p f v (count a n) from m' rest) h s)

-- behind the first token of a rule, within the limits
abbrev pub Runs : {p : Part} → Rule p → Count → Tree p → List Token → Count → List Token → Type 0
Runs {p} r c v from m' rest = (fits (entered r c) ≡ true) × Spells all p r.form v (entered r c) from m' rest

pub runs_as : {p : Part} (a r : Rule p) (c : Count) (v : Tree p) (from : List Token) (m' : Count) (rest : List Token) → Some a ≡ Some r →
    Runs r c v from m' rest → Runs a c v from m' rest
runs_as a r c v from m' rest e run = let same : a ≡ r = cc in subst (λ x. Runs x c v from m' rest) (sym same) run

pub few_of : (d u : ℕ) → fits (count d u) ≡ true → (d ≤ depth_limit) × (u ≤ operator_limit)
few_of d u e =
    let b = and_parts (nat_le d depth_limit) (nat_le u operator_limit) e in
    (leb-true d depth_limit b.0, leb-true u operator_limit b.1)

pub good_behind : (from behind : List Token) (t : Token) → from ≡ t ∷ behind → AreGood from → IsGood t × AreGood behind
good_behind from behind t e g = subst AreGood e g

pub shorter_behind : (from behind : List Token) (t : Token) → from ≡ t ∷ behind → length behind < length from
shorter_behind from behind t e = let l = ap length e in omega (arith, l)

-- ---- operators

abbrev pub joint_sign : Joint → Sign
joint_sign (joint.Binary op) = operator_sign op
joint_sign joint.And = sign.And
joint_sign joint.Or = sign.Or

-- the sign and the level of what an operator joins
joint_of_sign : (s : Sign) (op : Infix) → sign_infix s ≡ Some op → (joint_sign op.joint ≡ s) × (sign_level s ≡ op.level)
joint_of_sign sign.Times op e = (cc, cc)
joint_of_sign sign.Divide op e = (cc, cc)
joint_of_sign sign.Remainder op e = (cc, cc)
joint_of_sign sign.Plus op e = (cc, cc)
joint_of_sign sign.Minus op e = (cc, cc)
joint_of_sign sign.Less op e = (cc, cc)
joint_of_sign sign.Greater op e = (cc, cc)
joint_of_sign sign.AtMost op e = (cc, cc)
joint_of_sign sign.AtLeast op e = (cc, cc)
joint_of_sign sign.Equals op e = (cc, cc)
joint_of_sign sign.Differs op e = (cc, cc)
joint_of_sign sign.BitAnd op e = (cc, cc)
joint_of_sign sign.Xor op e = (cc, cc)
joint_of_sign sign.BitOr op e = (cc, cc)
joint_of_sign sign.And op e = (cc, cc)
joint_of_sign sign.Or op e = (cc, cc)
joint_of_sign _ op e = absurd cc

pub joint_level : (t : Token) (op : Infix) → operator_at t ≡ Some op → sign_level (joint_sign op.joint) ≡ op.level
joint_level (Sign_of s at) op e = let j = joint_of_sign s op e in ap sign_level j.0 ∙ j.1
joint_level (Name x at) op e = absurd cc
joint_level (Number n at) op e = absurd cc
joint_level (Keyword_of w at) op e = absurd cc

pub joined_operators : (j : Joint) (l r : Exp) → operators (joined j l r) ≡ suc (operators l + operators r)
joined_operators (joint.Binary op) l r = refl
joined_operators joint.And l r = refl
joined_operators joint.Or l r = refl

without_parentheses : (s : Sign) (left right : ℕ → ℕ → Type 0) (level d : ℕ) → sign_level s ≤ level → left (sign_level s) d → right (sign_level s - 1) d →
    FitsInfix s left right level d
without_parentheses s left right level d h l r =
    elim (nat_lt level (sign_level s)) as (λ b. nat_lt level (sign_level s) ≡ b → FitsInfix s left right level d) [
      | true ↦ λ e. let x = ltb-true level (sign_level s) e in absurd (omega (arith, x, h))
      | false ↦ λ e. rw e (l, r)
    ] refl

joined_fits : (j : Joint) (l r : Exp) (level d : ℕ) → sign_level (joint_sign j) ≤ level → FitsExp l (sign_level (joint_sign j)) d →
    FitsExp r (sign_level (joint_sign j) - 1) d → FitsExp (joined j l r) level d
joined_fits (joint.Binary op) l r level d h x y = without_parentheses (operator_sign op) (FitsExp l) (FitsExp r) level d h x y
joined_fits joint.And l r level d h x y = without_parentheses sign.And (FitsExp l) (FitsExp r) level d h x y
joined_fits joint.Or l r level d h x y = without_parentheses sign.Or (FitsExp l) (FitsExp r) level d h x y

pub chain_fits : (j : Joint) (l r : Exp) (level d : ℕ) → sign_level (joint_sign j) ≡ level → FitsExp l level d → FitsExp r (level - 1) d →
    FitsExp (joined j l r) level d
chain_fits j l r level d e x y =
    joined_fits j l r level d (omega (arith, e)) (subst (λ n. FitsExp l n d) (sym e) x) (subst (λ n. FitsExp r (n - 1) d) (sym e) y)

-- ---- expressions

-- an expression was read: it fits, and this is left
pub record IsRead {p : Part} (k : Exp → Form p) (level d used : ℕ) (v : Tree p) (from : List Token) (m' : Count) (rest : List Token) : Type 0 where
  pub tree : Exp
  pub middle : List Token
  pub fits : FitsExp tree level d
  pub few : used + operators tree ≤ operator_limit
  pub shorter : length middle ≤ length from
  pub good : AreGood middle
  pub onward : Spells all p (k tree) v (count d (used + operators tree)) middle m' rest

-- the expression of a part
pub record IsMeasured (level d used : ℕ) (e : Exp) (from : List Token) (m' : Count) (rest : List Token) : Type 0 where
  pub fits : FitsExp e level d
  pub few : used + operators e ≤ operator_limit
  pub counts : m' ≡ count d (used + operators e)
  pub shorter : length rest ≤ length from
  pub good : AreGood rest

-- the same at fewer than n tokens
abbrev pub LevelsMeasured : ℕ → Type 0
LevelsMeasured n = (level d used : ℕ) (t : Token) (r : Rule (Level level)) (e : Exp) (from : List Token) (m' : Count) (rest : List Token) → length from < n →
    IsGood t → AreGood from → rule (Level level) t ≡ Some r →
    Runs r (count d used) e from m' rest → IsMeasured level d used e from m' rest

no_level : (level : ℕ) (e : Exp) → left_out (Level level) ≡ Some e → ⊥
no_level level e h = cc

-- a part that is an expression
pub level_read : (n : ℕ) → LevelsMeasured n → {p : Part} (level d used : ℕ) (k : Exp → Form p) (v : Tree p) (from : List Token) (m' : Count)
    (rest : List Token) → length from ≤ n → AreGood from →
    Spells all p (part (Level level) k) v (count d used) from m' rest → IsRead k level d used v from m' rest
level_read n known {p} level d used k v from m' rest h g s =
    elim (inside s) [
      | inr left ↦ absurd (no_level level left.tree left.is)
      | inl there ↦
          let less = shorter_behind from there.behind there.token there.whole in
          let good = good_behind from there.behind there.token there.whole g in
          let is = known level d used there.token there.rule_of there.tree there.behind there.between there.middle (omega (arith, less, h))
          good.0 good.1 there.is (there.few, there.inner) in
          let shorter = is.shorter in
          record {
            tree = there.tree;
            middle = there.middle;
            fits = is.fits;
            few = is.few;
            shorter = omega (arith, less, shorter);
            good = is.good;
            onward = subst (λ c. Spells all p (k there.tree) v c there.middle m' rest) is.counts there.onward;
          }
    ]

-- behind a token that is there, and the end of a construct
pub close_behind : {p : Part} (s : Sign) (f : Form p) (v : Tree p) (d u : ℕ) (from : List Token) (m' : Count) (rest : List Token) → AreGood from →
    Spells all p (sign_then s (close f)) v (count (d + 1) u) from m' rest →
    (middle : List Token) × (length middle ≤ length from) × AreGood middle × Spells all p f v (count d u) middle m' rest
close_behind s f v d u from m' rest g is =
    let t = inside is in
    let less = shorter_behind from t.behind t.token t.whole in
    (t.behind, omega (arith, less), (good_behind from t.behind t.token t.whole g).1, recount (d + 1 - 1) d u u (omega arith) refl (inside t.onward))

-- ---- names in parentheses

pub name_fits : (t : Token) (x : Named) → seen A_name t ≡ Some x → IsGood t → IsName x
name_fits (Name y at) x e g = let same : named y at ≡ x = cc in subst IsName same g
name_fits (Number n at) x e g = absurd cc
name_fits (Sign_of s at) x e g = absurd cc
name_fits (Keyword_of w at) x e g = absurd cc

-- a stack was read
pub record IsStack {p : Part} (k : Named → Form p) (c : Count) (v : Tree p) (from : List Token) (m' : Count) (rest : List Token) : Type 0 where
  pub name : Named
  pub middle : List Token
  pub fits : IsName name
  pub shorter : length middle ≤ length from
  pub good : AreGood middle
  pub onward : Spells all p (k name) v c middle m' rest

pub stack_read : {p : Part} (k : Named → Form p) (v : Tree p) (c : Count) (from : List Token) (m' : Count) (rest : List Token) → AreGood from →
    Spells all p (stack_then k) v c from m' rest → IsStack k c v from m' rest
stack_read k v c from m' rest g s =
    let a = inside s in
    let b = inside a.onward in
    let shut = inside b.onward in
    let g1 = good_behind from a.behind a.token a.whole g in
    let g2 = good_behind a.behind b.behind b.token b.whole g1.1 in
    let g3 = good_behind b.behind shut.behind shut.token shut.whole g2.1 in
    let l1 = shorter_behind from a.behind a.token a.whole in
    let l2 = shorter_behind a.behind b.behind b.token b.whole in
    let l3 = shorter_behind b.behind shut.behind shut.token shut.whole in
    record {
      name = b.value;
      middle = shut.behind;
      fits = name_fits b.token b.value b.is g2.0;
      shorter = omega
          (arith, l1, l2, l3);
      good = g3.1;
      onward = shut.onward;
    }

-- a variable and a stack were read
pub record AreVariableAndStack {p : Part} (k : Named → Named → Form p) (c : Count) (v : Tree p) (from : List Token) (m' : Count)
    (rest : List Token) : Type 0 where
  pub variable : Named
  pub stack : Named
  pub middle : List Token
  pub variable_fits : IsName variable
  pub stack_fits : IsName stack
  pub shorter : length middle ≤ length from
  pub good : AreGood middle
  pub onward : Spells all p (k variable stack) v c middle m' rest

pub pair_read : {p : Part} (k : Named → Named → Form p) (v : Tree p) (c : Count) (from : List Token) (m' : Count) (rest : List Token) → AreGood from →
    Spells all p (variable_and_stack_then k) v c from m' rest → AreVariableAndStack k c v from m' rest
pair_read k v c from m' rest g s =
    let a = inside s in
    let b = inside a.onward in
    let comma = inside b.onward in
    let g1 = good_behind from a.behind a.token a.whole g in
    let g2 = good_behind a.behind b.behind b.token b.whole g1.1 in
    let g3 = good_behind b.behind comma.behind comma.token comma.whole g2.1 in
    let l1 = shorter_behind from a.behind a.token a.whole in
    let l2 = shorter_behind a.behind b.behind b.token b.whole in
    let l3 = shorter_behind b.behind comma.behind comma.token comma.whole in
    let name = inside comma.onward in
    let shut = inside name.onward in
    let g4 = good_behind comma.behind name.behind name.token name.whole g3.1 in
    let g5 = good_behind name.behind shut.behind shut.token shut.whole g4.1 in
    let l4 = shorter_behind comma.behind name.behind name.token name.whole in
    let l5 = shorter_behind name.behind shut.behind shut.token shut.whole in
    record {
      variable = b.value;
      stack = name.value;
      middle = shut.behind;
      variable_fits = name_fits b.token b.value b.is g2.0;
      stack_fits = name_fits name.token name.value name.is g4.0;
      shorter = omega (arith, l1, l2, l3, l4, l5);
      good = g5.1;
      onward = shut.onward;
    }

-- ---- the names of locals

same_name_fits : (t : Token) (x y : Named) → seen (Same_name x) t ≡ Some y → IsGood t → IsName y
same_name_fits (Name z at) x y e g = let same : named z at ≡ y = cc in subst IsName same g
same_name_fits (Number n at) x y e g = absurd cc
same_name_fits (Sign_of s at) x y e g = absurd cc
same_name_fits (Keyword_of w at) x y e g = absurd cc

-- the name of a local and `=` were read
pub head_read : {p : Part} (k : Named → Form p) (v : Tree p) (c : Count) (from : List Token) (m' : Count) (rest : List Token) → AreGood from →
    Spells all p (take A_name (λ x. sign_then sign.Equals (k x))) v c from m' rest → IsStack k c v from m' rest
head_read k v c from m' rest g s =
    let a = inside s in
    let b = inside a.onward in
    let g1 = good_behind from a.behind a.token a.whole g in
    let g2 = good_behind a.behind b.behind b.token b.whole g1.1 in
    let l1 = shorter_behind from a.behind a.token a.whole in
    let l2 = shorter_behind a.behind b.behind b.token b.whole in
    record { name = a.value; middle = b.behind; fits = name_fits a.token a.value a.is g1.0; shorter = omega (arith, l1, l2); good = g2.1; onward = b.onward }

-- `delocal`, a kind, the name x again and `=` were read
pub record IsDelocal {p : Part} (x : Named) (k : Named → Form p) (c : Count) (v : Tree p) (from : List Token) (m' : Count) (rest : List Token) : Type 0 where
  pub name : Named
  pub middle : List Token
  pub fits : IsAgain x name
  pub shorter : length middle ≤ length from
  pub good : AreGood middle
  pub onward : Spells all p (k name) v c middle m' rest

pub delocal_read : {p : Part} (j : LocalKind) (x : Named) (k : Named → Form p) (v : Tree p) (c : Count) (from : List Token) (m' : Count) (rest : List Token) →
    AreGood from → Spells all p (delocal_then j x k) v c from m' rest → IsDelocal x k c v from m' rest
delocal_read j x k v c from m' rest g s =
    let a = inside s in
    let b = inside a.onward in
    let name = inside b.onward in
    let equals = inside name.onward in
    let g1 = good_behind from a.behind a.token a.whole g in
    let g2 = good_behind a.behind b.behind b.token b.whole g1.1 in
    let g3 = good_behind b.behind name.behind name.token name.whole g2.1 in
    let g4 = good_behind name.behind equals.behind equals.token equals.whole g3.1 in
    let l1 = shorter_behind from a.behind a.token a.whole in
    let l2 = shorter_behind a.behind b.behind b.token b.whole in
    let l3 = shorter_behind b.behind name.behind name.token name.whole in
    let l4 = shorter_behind name.behind equals.behind equals.token equals.whole in
    record {
      name = name.value;
      middle = equals.behind;
      fits = (same_name_fits name.token x name.value name.is g3.0, name.fit);
      shorter = omega
          (arith, l1, l2, l3, l4);
      good = g4.1;
      onward = equals.onward;
    }
