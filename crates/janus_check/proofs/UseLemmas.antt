-- A use of a name, and an expression, has no faults exactly where it is well formed.
use Rattle.std.proofs.Common.{◌≡◌, Bool, true, false, not, is_some, List, [], ◌∷◌, Option, Some, None, refl, ap, ◌∙◌, sym, if◌then◌else◌}
use Rattle.janus_meaning.specs.Syntax as tree
use Rattle.janus_meaning.specs.Store.{same_name}
use Rattle.janus_meaning.specs.Shape.{Shape, kind_at, without}
use Rattle.janus_meaning.specs.Formed.{IsExp}
use Rattle.janus_meaning.proofs.Stores.{same_name_true}
use Rattle.janus_meaning.proofs.Scopes.{without_same, without_other}
use Rattle.janus_syntax.specs.Tree.{Name, named, Exp, Num, Var, Element, EmptyOf, TopOf, Neg, Bin, And, Or}
use Rattle.janus_syntax.specs.View.{text_of, plain_exp}
use Rattle.janus_syntax.specs.declared.token.Span.{Span}
use Rattle.janus_check.specs.declared.fault.CheckFault.{CheckFault}
use Rattle.janus_check.specs.declared.fault.CheckFault.TheVariants.{SelfUse}
use Rattle.janus_check.specs.Names.{is_in}
use Rattle.janus_check.specs.Check.{fault_if, same_kind, is_other, faults_of, use_faults, exp_faults, side_use_faults, side_faults, end_use_faults}
use Rattle.janus_check.specs.Check.{shadow_faults}
use Rattle.janus_check.proofs.NoFaults.{left_nil, right_nil, both_nil, no_fault, fault_if_false, not_false, none_out}

-- ---- kinds and uses of names

pub same_kind_true : (a b : tree.Kind) → same_kind a b ≡ true → a ≡ b
same_kind_true tree.ANumber tree.ANumber h = refl
same_kind_true tree.ANumber tree.AnArray h = cc
same_kind_true tree.ANumber tree.AStack h = cc
same_kind_true tree.AnArray tree.ANumber h = cc
same_kind_true tree.AnArray tree.AnArray h = refl
same_kind_true tree.AnArray tree.AStack h = cc
same_kind_true tree.AStack tree.ANumber h = cc
same_kind_true tree.AStack tree.AnArray h = cc
same_kind_true tree.AStack tree.AStack h = refl

pub same_kind_self : (k : tree.Kind) → same_kind k k ≡ true
same_kind_self tree.ANumber = refl
same_kind_self tree.AnArray = refl
same_kind_self tree.AStack = refl

kind_in : (c : Option tree.Kind) (k : tree.Kind) → is_some c ≡ true → is_other k c ≡ false → c ≡ Some k
kind_in (Some found) k u h = ap Some (same_kind_true found k (not_false (same_kind found k) h))
kind_in None k u h = cc

-- a use without faults is of a name in sight, of its kind
pub use_formed : (g : Shape) (k : tree.Kind) (y : Name) → use_faults g k y ≡ [] → kind_at (text_of y) g ≡ Some k
use_formed g k (named y at) h =
    kind_in (kind_at y g) k (not_false (is_in y g) (no_fault (not (is_in y g)) _ (left_nil _ _ h)))
    (no_fault (is_other k (kind_at y g)) _ (right_nil (fault_if (not (is_in y g)) _) _ h))

pub use_no_faults : (g : Shape) (k : tree.Kind) (y : Name) → kind_at (text_of y) g ≡ Some k → use_faults g k y ≡ []
use_no_faults g k (named y at) h =
    both_nil _ _ (fault_if_false (not (is_in y g)) _ (ap (λ c. not (is_some c)) h))
    (fault_if_false (is_other k (kind_at y g)) _ (ap (is_other k) h ∙ ap not (same_kind_self k)))

-- ---- expressions

-- A use has no faults exactly where the name is in sight, of its kind.
pub record AreUses (u : tree.Kind → Name → List CheckFault) (g : Shape) : Type 0 where
  pub formed : (k : tree.Kind) (y : Name) → u k y ≡ [] → kind_at (text_of y) g ≡ Some k
  pub no_faults : (k : tree.Kind) (y : Name) → kind_at (text_of y) g ≡ Some k → u k y ≡ []

pub names_formed : (u : tree.Kind → Name → List CheckFault) (g : Shape) → AreUses u g → (e : Exp) → faults_of u e ≡ [] → IsExp g (plain_exp e)
names_formed u g w (Num n at) h = tt
names_formed u g w (Var y) h = w.formed tree.ANumber y h
names_formed u g w (Element a i) h = (w.formed tree.AnArray a (left_nil _ _ h), names_formed u g w i (right_nil (u tree.AnArray a) _ h))
names_formed u g w (EmptyOf y) h = w.formed tree.AStack y h
names_formed u g w (TopOf y) h = w.formed tree.AStack y h
names_formed u g w (Neg e) h = names_formed u g w e h
names_formed u g w (Bin op l r) h = (names_formed u g w l (left_nil _ _ h), names_formed u g w r (right_nil (faults_of u l) _ h))
names_formed u g w (And l r) h = (names_formed u g w l (left_nil _ _ h), names_formed u g w r (right_nil (faults_of u l) _ h))
names_formed u g w (Or l r) h = (names_formed u g w l (left_nil _ _ h), names_formed u g w r (right_nil (faults_of u l) _ h))

pub names_no_faults : (u : tree.Kind → Name → List CheckFault) (g : Shape) → AreUses u g → (e : Exp) → IsExp g (plain_exp e) → faults_of u e ≡ []
names_no_faults u g w (Num n at) h = refl
names_no_faults u g w (Var y) h = w.no_faults tree.ANumber y h
names_no_faults u g w (Element a i) h = both_nil _ _ (w.no_faults tree.AnArray a h.0) (names_no_faults u g w i h.1)
names_no_faults u g w (EmptyOf y) h = w.no_faults tree.AStack y h
names_no_faults u g w (TopOf y) h = w.no_faults tree.AStack y h
names_no_faults u g w (Neg e) h = names_no_faults u g w e h
names_no_faults u g w (Bin op l r) h = both_nil _ _ (names_no_faults u g w l h.0) (names_no_faults u g w r h.1)
names_no_faults u g w (And l r) h = both_nil _ _ (names_no_faults u g w l h.0) (names_no_faults u g w r h.1)
names_no_faults u g w (Or l r) h = both_nil _ _ (names_no_faults u g w l h.0) (names_no_faults u g w r h.1)

-- anywhere
uses : (g : Shape) → AreUses (use_faults g) g
uses g = record { formed = use_formed g; no_faults = use_no_faults g }

pub exp_formed : (g : Shape) (e : Exp) → exp_faults g e ≡ [] → IsExp g (plain_exp e)
exp_formed g = names_formed (use_faults g) g (uses g)

pub exp_no_faults : (g : Shape) (e : Exp) → IsExp g (plain_exp e) → exp_faults g e ≡ []
exp_no_faults g = names_no_faults (use_faults g) g (uses g)

-- where x is assigned
apart_formed : (g : Shape) (x : tree.Name) (k : tree.Kind) (y : Name) → side_use_faults g x k y ≡ [] → kind_at (text_of y) (without x g) ≡ Some k
apart_formed g x k (named y at) h =
    without_other y x g (no_fault (same_name y x) _ (right_nil (use_faults g k (named y at)) _ h)) ∙ use_formed g k (named y at) (left_nil _ _ h)

apart_by : (g : Shape) (x : tree.Name) (k : tree.Kind) (y : tree.Name) (at : Span) (b : Bool) → same_name y x ≡ b → kind_at y (without x g) ≡ Some k →
    side_use_faults g x k (named y at) ≡ []
apart_by g x k y at true s h =
    let bad : None ≡ Some k = sym (without_same x g) ∙ ap (λ z. kind_at z (without x g)) (sym (same_name_true y x s)) ∙ h in
    cc
apart_by g x k y at false s h = both_nil _ _ (use_no_faults g k (named y at) (sym (without_other y x g s) ∙ h)) (fault_if_false (same_name y x) _ s)

apart_no_faults : (g : Shape) (x : tree.Name) (k : tree.Kind) (y : Name) → kind_at (text_of y) (without x g) ≡ Some k → side_use_faults g x k y ≡ []
apart_no_faults g x k (named y at) h = apart_by g x k y at (same_name y x) refl h

side_uses : (g : Shape) (x : tree.Name) → AreUses (side_use_faults g x) (without x g)
side_uses g x = record { formed = apart_formed g x; no_faults = apart_no_faults g x }

pub side_formed : (g : Shape) (x : tree.Name) (e : Exp) → side_faults g x e ≡ [] → IsExp (without x g) (plain_exp e)
side_formed g x = names_formed (side_use_faults g x) (without x g) (side_uses g x)

pub side_no_faults : (g : Shape) (x : tree.Name) (e : Exp) → IsExp (without x g) (plain_exp e) → side_faults g x e ≡ []
side_no_faults g x = names_no_faults (side_use_faults g x) (without x g) (side_uses g x)

-- at an end of a local, whose name is out of sight
end_formed_by : (g : Shape) (k : tree.Kind) (y : Name) (at : Span) (b : Bool) → (if b then SelfUse at ∷ [] else use_faults g k y) ≡ [] →
    kind_at (text_of y) g ≡ Some k
end_formed_by g k y at true h = cc
end_formed_by g k y at false h = use_formed g k y h

end_use_formed : (g : Shape) (x : tree.Name) (k : tree.Kind) (y : Name) → end_use_faults g x k y ≡ [] → kind_at (text_of y) g ≡ Some k
end_use_formed g x k (named y at) h = end_formed_by g k (named y at) at (same_name y x) h

end_by : (g : Shape) (x : tree.Name) (k : tree.Kind) (y : tree.Name) (at : Span) (b : Bool) → same_name y x ≡ b → kind_at x g ≡ None → kind_at y g ≡ Some k →
    end_use_faults g x k (named y at) ≡ []
end_by g x k y at true s out h =
    let bad : None ≡ Some k = sym out ∙ ap (λ z. kind_at z g) (sym (same_name_true y x s)) ∙ h in
    cc
end_by g x k y at false s out h = ap (λ b. if b then SelfUse at ∷ [] else use_faults g k (named y at)) s ∙ use_no_faults g k (named y at) h

end_use_no_faults : (g : Shape) (x : tree.Name) → kind_at x g ≡ None → (k : tree.Kind) (y : Name) → kind_at (text_of y) g ≡ Some k → end_use_faults g x k y ≡ []
end_use_no_faults g x out k (named y at) h = end_by g x k y at (same_name y x) refl out h

pub end_uses : (g : Shape) (x : tree.Name) → kind_at x g ≡ None → AreUses (end_use_faults g x) g
end_uses g x out = record { formed = end_use_formed g x; no_faults = end_use_no_faults g x out }

-- a local's name without faults is new
pub shadow_formed : (g : Shape) (x : Name) → shadow_faults g x ≡ [] → kind_at (text_of x) g ≡ None
shadow_formed g (named x at) h = none_out (kind_at x g) (no_fault (is_in x g) _ h)

pub shadow_no_faults : (g : Shape) (x : Name) → kind_at (text_of x) g ≡ None → shadow_faults g x ≡ []
shadow_no_faults g (named x at) h = fault_if_false (is_in x g) _ (ap is_some h)
