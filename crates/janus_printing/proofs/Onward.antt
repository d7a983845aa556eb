-- Derivations of statements put together, whatever the count of operators.
use Rattle.std.proofs.Common.{◌≡◌, ℕ, suc, ◌+◌, ◌-◌, ◌≤◌, List, ◌∷◌, Option, Some, Bool, true, false, cond, refl, ap, sym, subst, arith}
use Rattle.janus_syntax.specs.declared.token.Span.{Span}
use Rattle.janus_syntax.specs.declared.token.Sign.TheVariants as sign
use Rattle.janus_syntax.specs.declared.token.Keyword.TheVariants as keyword
use Rattle.janus_syntax.specs.declared.tree.LocalKind.{LocalKind}
use Rattle.janus_syntax.specs.Tokens.{Token, Name, Sign_of, Keyword_of}
use Rattle.janus_syntax.specs.Tree.{Name as Named, named, Exp}
use Rattle.janus_syntax.specs.Operators.{weakest}
use Rattle.janus_syntax.specs.Forms.{Part, Whole, Tree, Class, The_keyword, The_sign, A_name, Same_kind, Same_name, Seen, Form, done, take, part, close, Rule}
use Rattle.janus_syntax.specs.Table.{rule, left_out, sign_then, variable_and_stack_then, delocal_then, whole, chains}
use Rattle.janus_syntax.specs.Grammar
use Rattle.janus_syntax.specs.Grammar.{Count, all, entered, closed, fits, depth_limit, operator_limit, Spells}
use Rattle.janus_syntax.specs.Reading.{count}
use Rattle.janus_syntax.specs.Printing.{whole_pieces}
use Rattle.janus_syntax.specs.View.{plain_exp}
use Rattle.janus_meaning.specs.Store.{same_name}
use Rattle.janus_syntax.proofs.Agreed.{agreed, agreed_is, is_agreed, kind_keyword, kind_agreed}
use Rattle.janus_syntax.proofs.Chains.{fits_count}
use Rattle.janus_printing.proofs.Fits.{operators, FitsWhole}
use Rattle.janus_printing.proofs.Measures.{recount, Runs}
use Rattle.janus_printing.proofs.Spelled.{Spelled, Starts, part_there, chains_over}
use Rattle.janus_printing.proofs.Expressions.{onward, exp_again}

-- the form's tokens, with d constructs open before them and d' behind them, from each count of operators to some
abbrev pub SpellsTo : {p : Part} → Form p → Tree p → ℕ → List Token → ℕ → List Token → Type 0
SpellsTo {p} f v d from d' end = (u : ℕ) → u ≤ operator_limit → (u' : ℕ) × (u' ≤ operator_limit) × Spells all p f v (count d u) from (count d' u') end

-- the same by the rule of a part's first token
abbrev pub StartsTo : {p : Part} → (Token → Option (Rule p)) → Tree p → ℕ → List Token → ℕ → List Token → Type 0
StartsTo {p} rules v d from d' end = (u : ℕ) → u ≤ operator_limit → (u' : ℕ) × (u' ≤ operator_limit) × Starts rules v (count d u) from (count d' u') end

pub done_to : {p : Part} (v : Tree p) (d : ℕ) (end : List Token) → SpellsTo {p = p} (done v) v d end d end
done_to v d end u h = (u, h, Grammar.nothing_more)

pub part_to : {p q : Part} (k : Tree q → Form p) (w : Tree q) (v : Tree p) (d d1 d' : ℕ) (from middle end : List Token) → StartsTo (rule q) w d from d1 middle →
    SpellsTo (k w) v d1 middle d' end → SpellsTo (part q k) v d from d' end
part_to k w v d d1 d' from middle end s more_to u h =
    let one = s u h in
    let more = more_to one.0 one.1 in
    (more.0, more.1, part_there k w v (count d u) (count d1 one.0) (count d' more.0) from middle end one.2 more.2)

pub left_to : {p q : Part} (k : Tree q → Form p) (w : Tree q) (v : Tree p) (d d' : ℕ) (from end : List Token) → left_out q ≡ Some w →
    SpellsTo (k w) v d from d' end → SpellsTo (part q k) v d from d' end
left_to k w v d d' from end is onward u h = let more = onward u h in (more.0, more.1, Grammar.no_part is more.2)

pub token_to : {p : Part} (c : Class) (k : Seen c → Form p) (s : Seen c) (v : Tree p) (d d' : ℕ) (t : Token) (from more end : List Token) → from ≡ t ∷ more →
    agreed c t ≡ Some s → SpellsTo (k s) v d more d' end → SpellsTo (take c k) v d from d' end
token_to {p} c k s v d d' t from more end e is onward u h =
    let x = onward u h in
    let seen_as = agreed_is c t s is in
    (x.0, x.1, subst (λ ts. Spells all p (take c k) v (count d u) ts (count d' x.0) end) (sym e) (Grammar.token seen_as.0 seen_as.1 x.2))

-- the names of a variable and a stack in parentheses
pub pair_to : {p : Part} (k : Named → Named → Form p) (x y : List ℕ) (v : Tree p) (d d' : ℕ) (opened at comma place shut : Span)
    (from t1 t2 t3 t4 more end : List Token) →
    from ≡ Sign_of sign.Open opened ∷ t1 → t1 ≡ Name x at ∷ t2 → t2 ≡ Sign_of sign.Comma comma ∷ t3 → t3 ≡ Name y place ∷ t4 →
    t4 ≡ Sign_of sign.Close shut ∷ more →
    SpellsTo (k (named x at) (named y place)) v d more d' end → SpellsTo (variable_and_stack_then k) v d from d' end
pair_to k x y v d d' opened at comma place shut from t1 t2 t3 t4 more end e1 e2 e3 e4 e5 onward =
    token_to (The_sign sign.Open) (λ z. take A_name (λ a. sign_then sign.Comma (take A_name (λ b. sign_then sign.Close (k a b))))) tt v d d'
    (Sign_of sign.Open opened) from t1 end e1 refl
    (token_to A_name (λ a. sign_then sign.Comma (take A_name (λ b. sign_then sign.Close (k a b)))) (named x at) v d d' (Name x at) t1 t2 end e2 refl
    (token_to (The_sign sign.Comma) (λ z. take A_name (λ b. sign_then sign.Close (k (named x at) b))) tt v d d' (Sign_of sign.Comma comma) t2 t3 end e3 refl
    (token_to A_name (λ b. sign_then sign.Close (k (named x at) b)) (named y place) v d d' (Name y place) t3 t4 end e4 refl
    (token_to (The_sign sign.Close) (λ z. k (named x at) (named y place)) tt v d d' (Sign_of sign.Close shut) t4 more end e5 refl onward))))

-- the name of a local and `=`
pub head_to : {p : Part} (k : Named → Form p) (x : List ℕ) (v : Tree p) (d d' : ℕ) (at equals : Span) (from t1 more end : List Token) → from ≡ Name x at ∷ t1 →
    t1 ≡ Sign_of sign.Equals equals ∷ more → SpellsTo (k (named x at)) v d more d' end →
    SpellsTo (take A_name (λ y. sign_then sign.Equals (k y))) v d from d' end
head_to k x v d d' at equals from t1 more end e1 e2 onward =
    token_to A_name (λ y. sign_then sign.Equals (k y)) (named x at) v d d' (Name x at) from t1 end e1 refl
    (token_to (The_sign sign.Equals) (λ z. k (named x at)) tt v d d' (Sign_of sign.Equals equals) t1 more end e2 refl onward)

-- `delocal`, the same kind, the same name and `=`
pub delocal_to : {p : Part} (j : LocalKind) (k : Named → Form p) (x y : List ℕ) (there : Span) (v : Tree p) (d d' : ℕ) (at_delocal at_kind at equals : Span)
    (from t1 t2 t3 more end : List Token) →
    from ≡ Keyword_of keyword.Delocal at_delocal ∷ t1 → t1 ≡ Keyword_of (kind_keyword j) at_kind ∷ t2 → t2 ≡ Name y at ∷ t3 →
    t3 ≡ Sign_of sign.Equals equals ∷ more → same_name x y ≡ true →
    SpellsTo (k (named y at)) v d more d' end → SpellsTo (delocal_then j (named x there) k) v d from d' end
delocal_to j k x y there v d d' at_delocal at_kind at equals from t1 t2 t3 more end e1 e2 e3 e4 same onward =
    token_to (The_keyword keyword.Delocal) (λ z. take (Same_kind j) (λ i. take (Same_name (named x there)) (λ b. sign_then sign.Equals (k b)))) tt v d d'
    (Keyword_of keyword.Delocal at_delocal) from t1 end e1 refl
    (token_to (Same_kind j) (λ i. take (Same_name (named x there)) (λ b. sign_then sign.Equals (k b))) j v d d' (Keyword_of (kind_keyword j) at_kind)
    t1 t2 end e2 (kind_agreed j at_kind)
    (token_to (Same_name (named x there)) (λ b. sign_then sign.Equals (k b)) (named y at) v d d' (Name y at) t2 t3 end e3
    (is_agreed (Same_name (named x there)) (Name y at) (named y at) refl same)
    (token_to (The_sign sign.Equals) (λ z. k (named y at)) tt v d d' (Sign_of sign.Equals equals) t3 more end e4 refl onward)))

pub close_to : {p : Part} (f : Form p) (v : Tree p) (d d' : ℕ) (from end : List Token) → SpellsTo f v d from d' end → SpellsTo (close f) v (suc d) from d' end
close_to f v d d' from end onward u h =
    let x = onward u h in
    (x.0, x.1, Grammar.end_of_construct (recount d (suc d - 1) u u (omega arith) refl x.2))

-- a rule that counts for no limit, and one that opens a construct
pub begins_to : {p : Part} (rules : Token → Option (Rule p)) (f : Form p) (v : Tree p) (d d' : ℕ) (t : Token) (from more end : List Token) → from ≡ t ∷ more →
    rules t ≡ Some (record { opens = 0; counts = 0; is_whole = false; form = f }) → d ≤ depth_limit → SpellsTo f v d more d' end →
    StartsTo rules v d from d' end
begins_to rules f v d d' t from more end e is few onward u h =
    let x = onward u h in (
      x.0,
      x.1,
      record {
        token = t;
        behind = more;
        rule_of = record { opens = 0; counts = 0; is_whole = false; form = f };
        whole = e;
        is = is;
        runs =
            (fits_count (d + 0) (u + 0) (omega (arith, few)) (omega (arith, h)), recount d (d + 0) u (u + 0) (omega arith) (omega arith) x.2);
      },
    )

pub opens_to : {p : Part} (rules : Token → Option (Rule p)) (f : Form p) (v : Tree p) (d d' : ℕ) (t : Token) (from more end : List Token) → from ≡ t ∷ more →
    rules t ≡ Some (record { opens = 1; counts = 0; is_whole = false; form = f }) → suc d ≤ depth_limit → SpellsTo f v (suc d) more d' end →
    StartsTo rules v d from d' end
opens_to rules f v d d' t from more end e is few onward u h =
    let x = onward u h in (
      x.0,
      x.1,
      record {
        token = t;
        behind = more;
        rule_of = record { opens = 1; counts = 0; is_whole = false; form = f };
        whole = e;
        is = is;
        runs =
            (fits_count (d + 1) (u + 0) (omega (arith, few)) (omega (arith, h)), recount (suc d) (d + 1) u (u + 0) (omega arith) (omega arith) x.2);
      },
    )

-- ---- whole expressions

nothing_used : (b : Bool) → let n : ℕ = 0 in n ≡ cond b n n
nothing_used true = refl
nothing_used false = refl

whole_runs : {p : Part} (a : Rule p) (d u : ℕ) (v : Tree p) (from : List Token) (m' : Count) (rest : List Token) → Runs a (count d 0) v from m' rest →
    Runs (record { opens = a.opens; counts = a.counts; is_whole = true; form = a.form }) (count d u) v from m' rest
whole_runs {p} a d u v from m' rest run =
    subst (λ n. (fits (count (d + a.opens) (n + a.counts)) ≡ true) × Spells all p a.form v (count (d + a.opens) (n + a.counts)) from m' rest)
    (sym (nothing_used a.is_whole)) run

pub record WholeAgain (e : Exp) (d : ℕ) (ts rest : List Token) : Type 0 where
  pub again : Exp
  pub same : plain_exp again ≡ plain_exp e
  pub spells : {p : Part} (k : Exp → Form p) (v : Tree p) (d' : ℕ) (end : List Token) → SpellsTo (k again) v d rest d' end →
      SpellsTo (part Whole k) v d ts d' end

nothing_behind : (e : Exp) (c : Count) (rest : List Token) → Spells all Whole (onward weakest weakest e done) e c rest c rest
nothing_behind e c rest =
    let last : Spells all Whole (chains weakest 0 e done) e c rest c rest = Grammar.nothing_more in
    chains_over (weakest - 1) weakest (weakest - (weakest - 1)) 0 e done e c c rest rest (omega arith) (omega arith) last

pub whole_again : (e : Exp) (d : ℕ) (ts rest : List Token) → d ≤ depth_limit → FitsWhole e d → Spelled (whole_pieces e) ts rest → WholeAgain e d ts rest
whole_again e d ts rest h f s =
    let r = exp_again e weakest d ts rest h f.0 s in
    record {
      again = r.again;
      same = r.same;
      spells = λ {p} k v d' end onward.
          part_to k r.again v d d d' ts rest end
          (λ u few.
          let a = r.starts {p = Whole} weakest 0 done r.again (count d (0 + operators e)) rest (omega arith) (let n = f.1 in omega (arith, n))
          (nothing_behind r.again (count d (0 + operators e)) rest) in (
            0 + operators e,
            (let n = f.1 in omega (arith, n)),
            record {
              token = a.token;
              behind = a.behind;
              rule_of =
                  record { opens = a.rule_of.opens; counts = a.rule_of.counts; is_whole = true; form = a.rule_of.form };
              whole = a.whole;
              is = ap whole a.is;
              runs =
                  whole_runs a.rule_of d u r.again a.behind (count d (0 + operators e)) rest a.runs;
            },
          ))
          onward;
    }
