-- The heads of procedures have no faults exactly where they are well formed.
use Rattle.std.proofs.Common.{◌≡◌, ℕ, ◌≤◌, Bool, true, false, not, is_some, List, [], ◌∷◌, ◌++◌, map, Option, Some, None, refl, ap, ◌∙◌, sym, subst, arith}
use Rattle.std.proofs.Common.{if◌then◌else◌}
use Rattle.std.specs.Prelude.{nat_lt, ◌&&◌}
use Rattle.std.proofs.lemmas.Bool.Decides.{nat_tests}
use lib.Pointwise.{pointwise}
use Rattle.janus_meaning.specs.Limit.{procedure_limit}
use Rattle.janus_meaning.specs.Syntax as tree
use Rattle.janus_meaning.specs.Store.{same_name}
use Rattle.janus_meaning.specs.Shape.{at_name, pick_newest, AreDistinct, different, Heads, head_at, head_of, heads_of, kinds_in}
use Rattle.janus_meaning.specs.FormedWorld.{with_heads, AreDefinable}
use Rattle.janus_meaning.proofs.Stores.{same_name_true, same_name_self}
use Rattle.janus_syntax.specs.Tree.{named, Procedure, procedure_of}
use Rattle.janus_syntax.specs.View.{plain_procedure}
use Rattle.janus_check.specs.declared.env.Kind.{Kind}
use Rattle.janus_check.specs.Names.{meant_kind, meant_kinds}
use Rattle.janus_check.specs.Check.{fault_if, kinds_of, with_head, after_heads, same_kind, same_kinds, is_changed, are_too_many, head_faults, heads_faults}
use Rattle.janus_check.proofs.NoFaults.{left_nil, right_nil, both_nil, no_fault, fault_if_false, not_false, none_out}
use Rattle.janus_check.proofs.UseLemmas.{same_kind_true, same_kind_self}
use Rattle.janus_check.proofs.ScopeLemmas.{at_second}

-- ---- names apart from others

newest_none : {A : Type 0} (b : Bool) (a : A) (o : Option A) → pick_newest b a o ≡ None → (b ≡ false) × (o ≡ None)
newest_none true a o h = cc
newest_none false a o h = (refl, h)

other_way : (x y : tree.Name) (b : Bool) → same_name y x ≡ b → same_name x y ≡ false → b ≡ false
other_way x y true e h =
    let bad : true ≡ false = sym (same_name_self x) ∙ ap (same_name x) (sym (same_name_true y x e)) ∙ h in
    cc
other_way x y false e h = refl

pub different_way : (x y : tree.Name) → same_name x y ≡ false → same_name y x ≡ false
different_way x y h = other_way x y (same_name y x) refl h

-- no name of the second list is in the first
abbrev pub AreApart : {A : Type 0} → List (tree.Name × A) → List (tree.Name × A) → Type 0
AreApart own [] = Unit {0}
AreApart own (e ∷ es) = (at_name e.0 own ≡ None) × AreApart own es

pub all_apart : {A : Type 0} (es : List (tree.Name × A)) → AreApart [] es
all_apart [] = tt
all_apart (e ∷ es) = (refl, all_apart es)

pub apart_less : {A : Type 0} (own : List (tree.Name × A)) (h : tree.Name × A) (es : List (tree.Name × A)) → AreApart (h ∷ own) es → (at_name h.0 es ≡ None) ×
    AreApart own es
apart_less own h [] a = (refl, tt)
apart_less own h (e ∷ es) a =
    let here = newest_none (same_name e.0 h.0) h.1 (at_name e.0 own) a.0 in
    let rest = apart_less own h es a.1 in
    (ap (λ b. pick_newest b e.1 (at_name h.0 es)) (different_way e.0 h.0 here.0) ∙ rest.0, (here.1, rest.1))

pub apart_more : {A : Type 0} (own : List (tree.Name × A)) (h : tree.Name × A) (es : List (tree.Name × A)) → at_name h.0 es ≡ None → AreApart own es →
    AreApart (h ∷ own) es
apart_more own h [] n a = tt
apart_more own h (e ∷ es) n a =
    let here = newest_none (same_name h.0 e.0) e.1 (at_name h.0 es) n in
    (ap (λ b. pick_newest b h.1 (at_name e.0 own)) (different_way h.0 e.0 here.0) ∙ a.0, apart_more own h es here.1 a.1)

-- ---- kinds of parameters

both_true : (a b : Bool) → (a && b) ≡ true → (a ≡ true) × (b ≡ true)
both_true true b h = (refl, h)
both_true false b h = cc

same_kinds_true : (cs ds : List tree.Kind) → same_kinds cs ds ≡ true → cs ≡ ds
same_kinds_true [] [] h = refl
same_kinds_true [] (d ∷ ds) h = cc
same_kinds_true (c ∷ cs) [] h = cc
same_kinds_true (c ∷ cs) (d ∷ ds) h =
    let w = both_true (same_kind c d) (same_kinds cs ds) h in
    ap (λ c. c ∷ cs) (same_kind_true c d w.0) ∙ ap (λ cs. d ∷ cs) (same_kinds_true cs ds w.1)

same_kinds_self : (cs : List tree.Kind) → same_kinds cs cs ≡ true
same_kinds_self [] = refl
same_kinds_self (c ∷ cs) = ap (λ b. b && same_kinds cs cs) (same_kind_self c) ∙ same_kinds_self cs

-- two lists of kinds compared one by one
pub compared : (equal : Kind → Kind → Bool) → ((k l : Kind) → equal k l ≡ same_kind (meant_kind k) (meant_kind l)) → (ks ls : List Kind) →
    pointwise equal ks ls ≡ same_kinds (meant_kinds ks) (meant_kinds ls)
compared equal same [] [] = refl
compared equal same [] (l ∷ ls) = refl
compared equal same (k ∷ ks) [] = refl
compared equal same (k ∷ ks) (l ∷ ls) = (λ i. same k l i && compared equal same ks ls i)

unchanged_is : (cs : List tree.Kind) (o : Option (List tree.Kind)) → is_changed cs o ≡ false → (ds : List tree.Kind) → o ≡ Some ds → cs ≡ ds
unchanged_is cs None h ds e = cc
unchanged_is cs (Some found) h ds e =
    let same : found ≡ ds = cc in
    sym (same_kinds_true found cs (not_false (same_kinds found cs) h)) ∙ same

is_unchanged : (cs : List tree.Kind) (o : Option (List tree.Kind)) → ((ds : List tree.Kind) → o ≡ Some ds → cs ≡ ds) → is_changed cs o ≡ false
is_unchanged cs None h = refl
is_unchanged cs (Some found) h = ap (λ cs. not (same_kinds found cs)) (h found refl) ∙ ap not (same_kinds_self found)

-- ---- heads

abbrev pub plain : List Procedure → List tree.Proc
plain ps = map plain_procedure ps

few : (n : ℕ) → nat_lt procedure_limit n ≡ false → n ≤ procedure_limit
few n h = grind (arith, nat_tests)

not_many : (n : ℕ) → n ≤ procedure_limit → nat_lt procedure_limit n ≡ false
not_many n h = grind (arith, nat_tests)

-- a new head is added
pub head_added : (own : Heads) (f : tree.Name) (cs : List tree.Kind) → head_at f own ≡ None → with_head own f cs ≡ (f, cs) ∷ own
head_added own f cs h = ap (λ o. if is_some o then own else (f, cs) ∷ own) h

-- What procedures without faults of their names have: their heads are apart from the own ones before, and go over these.
pub record Defines (hs own : Heads) (ps : List Procedure) : Type 0 where
  pub apart : AreApart own (heads_of (plain ps))
  pub distinct : AreDistinct (heads_of (plain ps))
  pub definable : AreDefinable (own ++ hs) (plain ps)
  pub same : after_heads own ps ++ hs ≡ with_heads (own ++ hs) (plain ps)

pub defines : (hs own : Heads) (ps : List Procedure) → heads_faults hs own ps ≡ [] → Defines hs own ps
defines hs own [] h = record { apart = tt; distinct = tt; definable = tt; same = refl }
defines hs own (procedure_of (named f at) xs b ∷ ps) h =
    let cs = kinds_of xs in
    let here = left_nil (head_faults hs own (procedure_of (named f at) xs b)) _ h in
    let front = left_nil (fault_if (is_some (head_at f own)) _ ++ fault_if (is_changed cs (head_at f hs)) _) _ here in
    let fresh = none_out (head_at f own) (no_fault (is_some (head_at f own)) _ (left_nil _ _ front)) in
    let kept = no_fault (is_changed cs (head_at f hs)) _ (right_nil (fault_if (is_some (head_at f own)) _) _ front) in
    let room = no_fault (are_too_many (with_head own f cs ++ hs))
    _ (right_nil (fault_if (is_some (head_at f own)) _ ++ fault_if (is_changed cs (head_at f hs)) _) _ here) in
    let next = head_added own f cs fresh in
    let d = defines hs ((f, cs) ∷ own) ps (subst (λ n. heads_faults hs n ps ≡ []) next (right_nil (head_faults hs own (procedure_of (named f at) xs b)) _ h)) in
    let apart = apart_less own (f, cs) (heads_of (plain ps)) d.apart in
    record {
      apart = (fresh, apart.1);
      distinct = (apart.0, d.distinct);
      definable = (
        record {
          unchanged = λ ds e. unchanged_is cs (head_at f hs) kept ds (sym (at_second f own hs fresh) ∙ e);
          room = few (different (((f, cs) ∷ own) ++ hs))
              (ap (λ n. are_too_many (n ++ hs)) (sym next) ∙ room);
        },
        d.definable,
      );
      same = ap (λ n. after_heads n ps ++ hs) next ∙ d.same;
    }

pub defines_no_faults : (hs own : Heads) (ps : List Procedure) → AreApart own (heads_of (plain ps)) → AreDistinct (heads_of (plain ps)) →
    AreDefinable (own ++ hs) (plain ps) → (heads_faults hs own ps ≡ []) × (after_heads own ps ++ hs ≡ with_heads (own ++ hs) (plain ps))
defines_no_faults hs own [] a d h = (refl, refl)
defines_no_faults hs own (procedure_of (named f at) xs b ∷ ps) a d h =
    let cs = kinds_of xs in
    let next = head_added own f cs a.0 in
    let rest = defines_no_faults hs ((f, cs) ∷ own) ps (apart_more own (f, cs) (heads_of (plain ps)) d.0 a.1) d.1 h.1 in
    let kept = is_unchanged cs (head_at f hs) (λ ds e. h.0.unchanged ds (at_second f own hs a.0 ∙ e)) in
    let room : are_too_many (with_head own f cs ++ hs) ≡ false = ap (λ n. are_too_many (n ++ hs)) next
    ∙ not_many (different (((f, cs) ∷ own) ++ hs)) h.0.room in
    let here = both_nil (fault_if (is_some (head_at f own)) _ ++ fault_if (is_changed cs (head_at f hs)) _)
    _ (both_nil _ _ (fault_if_false (is_some (head_at f own)) _ (ap is_some a.0)) (fault_if_false (is_changed cs (head_at f hs)) _ kept))
    (fault_if_false (are_too_many (with_head own f cs ++ hs)) _ room) in
    (both_nil _ _ here (ap (λ n. heads_faults hs n ps) next ∙ rest.0), ap (λ n. after_heads n ps ++ hs) next ∙ rest.1)

-- ---- calls see each of the procedures by its own head

abbrev pub AreHeads : Heads → List tree.Proc → Type 0
AreHeads hs [] = Unit {0}
AreHeads hs (p ∷ ps) = (head_at p.name hs ≡ Some (kinds_in p.params)) × AreHeads hs ps

head_kept : (f : tree.Name) (hs : Heads) (ps : List tree.Proc) → head_at f (heads_of ps) ≡ None → head_at f (with_heads hs ps) ≡ head_at f hs
head_kept f hs [] h = refl
head_kept f hs (p ∷ ps) h =
    let here = newest_none (same_name f p.name) (kinds_in p.params) (head_at f (heads_of ps)) h in
    head_kept f (head_of p ∷ hs) ps here.1 ∙ ap (λ b. pick_newest b (kinds_in p.params) (head_at f hs)) here.0

pub own_heads : (hs : Heads) (ps : List tree.Proc) → AreDistinct (heads_of ps) → AreHeads (with_heads hs ps) ps
own_heads hs [] d = tt
own_heads hs (p ∷ ps) d = (
  head_kept p.name (head_of p ∷ hs) ps d.0 ∙ ap (λ b. pick_newest b (kinds_in p.params) (head_at p.name hs)) (same_name_self p.name),
  own_heads (head_of p ∷ hs) ps d.1,
)
