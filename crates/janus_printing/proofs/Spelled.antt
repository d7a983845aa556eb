-- Tokens that spell pieces of print, and derivations put together.
use Rattle.std.proofs.Common.{◌≡◌, ℕ, zero, suc, ◌+◌, ◌≤◌, List, [], ◌∷◌, ◌++◌, Option, Some, refl, sym, subst, inl, inr, arith}
use Rattle.std.proofs.str.Laws.{order}
use Rattle.janus_syntax.specs.declared.token.Span.{Span}
use Rattle.janus_syntax.specs.declared.token.Sign.{Sign}
use Rattle.janus_syntax.specs.declared.token.Sign.TheVariants as sign
use Rattle.janus_syntax.specs.declared.token.Keyword.{Keyword}
use Rattle.janus_syntax.specs.Tokens.{Token, Name, Number, Sign_of, Keyword_of}
use Rattle.janus_syntax.specs.Tree.{Name as Named, named, Exp}
use Rattle.janus_syntax.specs.Forms.{Part, Tree, The_keyword, The_sign, A_name as Name_class, seen, Form, take, part, Rule}
use Rattle.janus_syntax.specs.Table.{rule, chains, keyword_then, sign_then, stack_then}
use Rattle.janus_syntax.specs.Grammar
use Rattle.janus_syntax.specs.Grammar.{Count, all, Spells}
use Rattle.janus_syntax.specs.Printing.{Piece, A_name, A_number, A_sign, A_keyword, A_minus, An_opening}
use Rattle.janus_printing.proofs.Measures.{Runs}

-- a piece as a token at a place
abbrev pub placed : Piece → Span → Token
placed (A_name x) at = Name x at
placed (A_number n) at = Number n at
placed (A_sign s) at = Sign_of s at
placed (A_keyword w) at = Keyword_of w at
placed A_minus at = Sign_of sign.Minus at
placed An_opening at = Sign_of sign.Open at

-- the tokens up to the rest are those pieces
abbrev pub Spelled : List Piece → List Token → List Token → Type 0
Spelled [] ts rest = ts ≡ rest
Spelled (p ∷ ps) ts rest = (at : Span) × (more : List Token) × (ts ≡ placed p at ∷ more) × Spelled ps more rest

pub in_two : (a b : List Piece) (ts rest : List Token) → Spelled (a ++ b) ts rest → (middle : List Token) × Spelled a ts middle × Spelled b middle rest
in_two [] b ts rest s = (ts, refl, s)
in_two (p ∷ a) b ts rest (at, more, whole, s) = let two = in_two a b more rest s in (two.0, (at, more, whole, two.1), two.2)

-- ---- parts

-- a part's first token and what is behind it, by the rule of the token
pub record Starts {p : Part} (rules : Token → Option (Rule p)) (v : Tree p) (c : Count) (from : List Token) (m' : Count) (rest : List Token) : Type 0 where
  pub token : Token
  pub behind : List Token
  pub rule_of : Rule p
  pub whole : from ≡ token ∷ behind
  pub is : rules token ≡ Some rule_of
  pub runs : Runs rule_of c v behind m' rest

pub part_there : {p q : Part} (k : Tree q → Form p) (u : Tree q) (v : Tree p) (c between m' : Count) (from middle rest : List Token) →
    Starts (rule q) u c from between middle → Spells all p (k u) v between middle m' rest → Spells all p (part q k) v c from m' rest
part_there {p} {q} k u v c between m' from middle rest s onward =
    subst (λ ts. Spells all p (part q k) v c ts m' rest) (sym s.whole) (Grammar.a_part s.is s.runs.0 s.runs.1 onward)

pub keyword_there : {p : Part} (w : Keyword) (f : Form p) (v : Tree p) (c m' : Count) (at : Span) (from more rest : List Token) →
    from ≡ Keyword_of w at ∷ more → seen (The_keyword w) (Keyword_of w at) ≡ Some tt → Spells all p f v c more m' rest →
    Spells all p (keyword_then w f) v c from m' rest
keyword_there {p} w f v c m' at from more rest e is s = subst (λ ts. Spells all p (keyword_then w f) v c ts m' rest) (sym e) (Grammar.token is refl s)

pub sign_there : {p : Part} (r : Sign) (f : Form p) (v : Tree p) (c m' : Count) (at : Span) (from more rest : List Token) → from ≡ Sign_of r at ∷ more →
    seen (The_sign r) (Sign_of r at) ≡ Some tt → Spells all p f v c more m' rest → Spells all p (sign_then r f) v c from m' rest
sign_there {p} r f v c m' at from more rest e is s = subst (λ ts. Spells all p (sign_then r f) v c ts m' rest) (sym e) (Grammar.token is refl s)

-- the name of a stack in parentheses
pub stack_there : {p : Part} (k : Named → Form p) (x : List ℕ) (v : Tree p) (c m' : Count) (opened at shut : Span) (from t1 t2 more rest : List Token) →
    from ≡ Sign_of sign.Open opened ∷ t1 → t1 ≡ Name x at ∷ t2 → t2 ≡ Sign_of sign.Close shut ∷ more →
    Spells all p (k (named x at)) v c more m' rest → Spells all p (stack_then k) v c from m' rest
stack_there {p} k x v c m' opened at shut from t1 t2 more rest e1 e2 e3 s =
    let shut_behind : Spells all p (sign_then sign.Close (k (named x at))) v c t2 m' rest =
    sign_there sign.Close (k (named x at)) v c m' shut t2 more rest e3 refl s in
    let name_behind : Spells all p (take Name_class (λ y. sign_then sign.Close (k y))) v c t1 m' rest =
    subst (λ ts. Spells all p (take Name_class (λ y. sign_then sign.Close (k y))) v c ts m' rest) (sym e2)
    (Grammar.token {c = Name_class} refl refl shut_behind) in
    sign_there sign.Open (take Name_class (λ y. sign_then sign.Close (k y))) v c m' opened from t1 rest e1 refl name_behind

-- ---- operators

-- levels without operators are passed over
pub chains_over : {p : Part} (l l' n n' : ℕ) (e : Exp) (k : Exp → Form p) (v : Tree p) (c m' : Count) (from rest : List Token) → l + n ≡ l' + n' → l ≤ l' →
    Spells all p (chains l' n' e k) v c from m' rest → Spells all p (chains l n e k) v c from m' rest
chains_over {p} l l' zero n' e k v c m' from rest same h s =
    let one : l' ≡ l = omega (arith, same, h) in
    let other : n' ≡ zero = omega (arith, same, h) in
    subst (λ j. Spells all p (chains l j e k) v c from m' rest) other (subst (λ i. Spells all p (chains i n' e k) v c from m' rest) one s)
chains_over {p} l l' (suc n) n' e k v c m' from rest same h s =
    elim (order l l') [
      | inl less ↦ Grammar.no_part refl (chains_over (suc l) l' n n' e k v c m' from rest (omega (arith, same)) (omega (arith, less)) s)
      | inr not ↦
          let one : l' ≡ l = omega (arith, not, h) in
          let other : n' ≡ suc n = omega (arith, same, h, not) in
          subst (λ j. Spells all p (chains l j e k) v c from m' rest) other (subst (λ i. Spells all p (chains i n' e k) v c from m' rest) one s)
    ]
