-- The tokens that spell the print of names are read as those names, places aside.
use Rattle.std.proofs.Common.{◌≡◌, ℕ, ◌≤◌, List, [], ◌∷◌, ◌++◌, map, refl, ap, sym, subst, ◌∙◌}
use Rattle.janus_syntax.specs.declared.token.Span.{Span}
use Rattle.janus_syntax.specs.declared.token.Sign.TheVariants as sign
use Rattle.janus_syntax.specs.Tokens.{Token, Name, Sign_of}
use Rattle.janus_syntax.specs.Tree.{Name as Named, named}
use Rattle.janus_syntax.specs.Forms.{Part, Names, More_names, Tree, A_name, The_sign, Form, done, take, part}
use Rattle.janus_syntax.specs.Table.{rule, sign_then, call_then}
use Rattle.janus_syntax.specs.Grammar.{depth_limit}
use Rattle.janus_syntax.specs.Printing.{A_sign, An_opening, A_name as A_name_piece, names_pieces, more_names_pieces}
use Rattle.janus_syntax.specs.View.{text_of}
use Rattle.janus_printing.proofs.Spelled.{Spelled, in_two}
use Rattle.janus_printing.proofs.Onward.{SpellsTo, done_to, part_to, left_to, token_to, begins_to}

-- these tokens are read as those names
record MoreAgain (xs : List Named) (d : ℕ) (ts rest : List Token) : Type 0 where
  again : List Named
  same : map text_of again ≡ map text_of xs
  spells : {p : Part} (k : List Named → Form p) (v : Tree p) (d' : ℕ) (end : List Token) → SpellsTo (k again) v d rest d' end →
      SpellsTo (part More_names k) v d ts d' end

record NamesAgain (xs : List Named) (d : ℕ) (ts rest : List Token) : Type 0 where
  again : List Named
  same : map text_of again ≡ map text_of xs
  spells : {p : Part} (k : List Named → Form p) (v : Tree p) (d' : ℕ) (end : List Token) → SpellsTo (k again) v d rest d' end →
      SpellsTo (part Names k) v d ts d' end

more_again : (xs : List Named) (d : ℕ) (ts rest : List Token) → d ≤ depth_limit → Spelled (more_names_pieces xs) ts rest → MoreAgain xs d ts rest
more_again [] d ts rest h s =
    record {
      again = [];
      same = refl;
      spells = λ {p} k v d' end onward. subst (λ x. SpellsTo (part More_names k) v d x d' end) (sym s)
          (left_to {q = More_names} k [] v d d' rest end refl onward);
    }
more_again (named x place ∷ xs) d ts rest h (comma, t1, e1, (of_x, t2, e2, s)) =
    let r = more_again xs d t2 rest h s in
    let w : List Named = named x of_x ∷ r.again in
    record {
      again = w;
      same = ap (λ ys. x ∷ ys) r.same;
      spells = λ {p} k v d' end onward.
          part_to {q = More_names} k w v d d d' ts rest end
          (begins_to (rule More_names) (take A_name (λ y. part More_names (λ ys. done (y ∷ ys)))) w d d (Sign_of sign.Comma comma) ts t1 rest e1 refl h
          (token_to {p = More_names} A_name (λ y. part More_names (λ ys. done (y ∷ ys))) (named x of_x) w d d (Name x of_x) t1 t2 rest e2 refl
          (r.spells {p = More_names} (λ ys. done (named x of_x ∷ ys)) w d rest (done_to {p = More_names} w d rest))))
          onward;
    }

names_again : (xs : List Named) (d : ℕ) (ts rest : List Token) → d ≤ depth_limit → Spelled (names_pieces xs) ts rest → NamesAgain xs d ts rest
names_again [] d ts rest h s =
    record {
      again = [];
      same = refl;
      spells = λ {p} k v d' end onward. subst (λ x. SpellsTo (part Names k) v d x d' end) (sym s)
          (left_to {q = Names} k [] v d d' rest end refl onward);
    }
names_again (named x place ∷ xs) d ts rest h (of_x, t1, e1, s) =
    let r = more_again xs d t1 rest h s in
    let w : List Named = named x of_x ∷ r.again in
    record {
      again = w;
      same = ap (λ ys. x ∷ ys) r.same;
      spells = λ {p} k v d' end onward.
          part_to {q = Names} k w v d d d' ts rest end
          (begins_to (rule Names) (part More_names (λ ys. done (named x of_x ∷ ys))) w d d (Name x of_x) ts t1 rest e1 refl h
          (r.spells {p = Names} (λ ys. done (named x of_x ∷ ys)) w d rest (done_to {p = Names} w d rest)))
          onward;
    }

-- the tokens of a name and of names in parentheses are read as these, places aside
pub record CallAgain (f : List ℕ) (xs : List Named) (d : ℕ) (ts rest : List Token) : Type 0 where
  pub place : Span
  pub again : List Named
  pub same : map text_of again ≡ map text_of xs
  pub spells : {p : Part} (k : Named → List Named → Form p) (v : Tree p) (d' : ℕ) (end : List Token) → SpellsTo (k (named f place) again) v d rest d' end →
      SpellsTo (call_then k) v d ts d' end

pub call_again : (f : List ℕ) (xs : List Named) (d : ℕ) (ts rest : List Token) → d ≤ depth_limit →
    Spelled (A_name_piece f ∷ An_opening ∷ (names_pieces xs ++ A_sign sign.Close ∷ [])) ts rest → CallAgain f xs d ts rest
call_again f xs d ts rest h (of_f, t1, e1, (opened, t2, e2, s)) =
    let two = in_two (names_pieces xs) (A_sign sign.Close ∷ []) t2 rest s in
    let (shut, t3, e3, last) = two.2 in
    let r = names_again xs d t2 two.0 h two.1 in
    record {
      place = of_f;
      again = r.again;
      same = r.same;
      spells = λ {p} k v d' end onward.
          token_to A_name (λ g. sign_then sign.Open (part Names (λ ys. sign_then sign.Close (k g ys)))) (named f of_f) v d d' (Name f of_f) ts t1 end e1 refl
          (token_to (The_sign sign.Open) (λ z. part Names (λ ys. sign_then sign.Close (k (named f of_f) ys))) tt v d d' (Sign_of sign.Open opened)
          t1 t2 end e2 refl
          (r.spells (λ ys. sign_then sign.Close (k (named f of_f) ys)) v d' end
          (token_to (The_sign sign.Close) (λ z. k (named f of_f) r.again) tt v d d' (Sign_of sign.Close shut) two.0 rest end
          (e3 ∙ ap (λ l. Sign_of sign.Close shut ∷ l) last) refl onward)));
    }
