-- What stands behind a form in a derivation, told by the form.
use Rattle.std.proofs.Common.{◌≡◌, List, ◌∷◌, ◌⊎◌, inl, inr, Some, true, refl}
use Rattle.janus_syntax.specs.Tokens.{Token}
use Rattle.janus_syntax.specs.Forms.{Part, Tree, Class, Seen, seen, agrees, Form, done, take, part, close, Rule}
use Rattle.janus_syntax.specs.Table.{rule, left_out}
use Rattle.janus_syntax.specs.Grammar
use Rattle.janus_syntax.specs.Grammar.{Count, entered, closed, fits, Demands, all, met, Spells}

-- a token of the class, and what is behind it
pub record Taken {p : Part} (c : Class) (k : Seen c → Form p) (v : Tree p) (m : Count) (from : List Token) (m' : Count) (rest : List Token) : Type 0 where
  pub token : Token
  pub behind : List Token
  pub value : Seen c
  pub whole : from ≡ token ∷ behind
  pub is : seen c token ≡ Some value
  pub fit : agrees c value ≡ true
  pub onward : Spells all p (k value) v m behind m' rest

-- a part that is there
pub record There {p : Part} (q : Part) (k : Tree q → Form p) (v : Tree p) (m : Count) (from : List Token) (m' : Count) (rest : List Token) : Type 0 where
  pub token : Token
  pub behind : List Token
  pub rule_of : Rule q
  pub tree : Tree q
  pub between : Count
  pub middle : List Token
  pub whole : from ≡ token ∷ behind
  pub is : rule q token ≡ Some rule_of
  pub few : fits (entered rule_of m) ≡ true
  pub inner : Spells all q rule_of.form tree (entered rule_of m) behind between middle
  pub onward : Spells all p (k tree) v between middle m' rest

-- a part that is left out
pub record LeftOut {p : Part} (q : Part) (k : Tree q → Form p) (v : Tree p) (m : Count) (from : List Token) (m' : Count) (rest : List Token) : Type 0 where
  pub tree : Tree q
  pub is : left_out q ≡ Some tree
  pub onward : Spells all p (k tree) v m from m' rest

-- nothing is behind it
pub record Ends (p : Part) (u v : Tree p) (m : Count) (from : List Token) (m' : Count) (rest : List Token) : Type 0 where
  pub tree : v ≡ u
  pub counts : m' ≡ m
  pub rests : rest ≡ from

abbrev pub Inside : {p : Part} → Form p → Tree p → Count → List Token → Count → List Token → Type 0
Inside {p} (done u) v m from m' rest = Ends p u v m from m' rest
Inside (take c k) v m from m' rest = Taken c k v m from m' rest
Inside (part q k) v m from m' rest = There q k v m from m' rest ⊎ LeftOut q k v m from m' rest
Inside {p} (close f) v m from m' rest = Spells all p f v (closed m) from m' rest

pub inside : {p : Part} {f : Form p} {v : Tree p} {m m' : Count} {from rest : List Token} → Spells all p f v m from m' rest → Inside f v m from m' rest
inside Grammar.nothing_more = record { tree = refl; counts = refl; rests = refl }
inside (Grammar.token {s = s} {t = t} {from = from} is ok more) = record { token = t; behind = from; value = s; whole = refl; is = is; fit = ok; onward = more }
inside (Grammar.end_of_construct more) = more
inside (Grammar.a_part {r = r} {u = u} {t = t} {m1 = m1} {from = from} {middle = middle} is ok inner more) =
    inl (record {
      token = t;
      behind = from;
      rule_of = r;
      tree = u;
      between = m1;
      middle = middle;
      whole = refl;
      is = is;
      few = ok;
      inner = inner;
      onward = more;
    })
inside (Grammar.no_part {u = u} is more) = inr (record { tree = u; is = is; onward = more })
