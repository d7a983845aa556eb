-- Results that may be a fault, where something is done to their values.
use Rattle.std.proofs.Common.{◌≡◌, Bool, true, false, refl, ap, ◌∙◌}
use Rattle.janus_meaning.specs.Fault.{Res, Fine, Bad, and_then}
use Rattle.janus_meaning.specs.Moves.{choose}

abbrev pub res_in : {A B : Type 0} → (A → B) → Res A → Res B
res_in f (Fine a) = Fine (f a)
res_in f (Bad e) = Bad e

then_of : {A B C D : Type 0} (f : A → C) (g : B → D) (r : Res A) (k : A → Res B) (l : C → Res D) → ((a : A) → r ≡ Fine a → l (f a) ≡ res_in g (k a))
    → and_then (res_in f r) l ≡ res_in g (and_then r k)
then_of f g (Fine a) k l h = h a refl
then_of f g (Bad e) k l h = refl

-- one result after another, where the first has become f of it and the second becomes g of it
pub then_in : {A B C D : Type 0} (f : A → C) (g : B → D) (r : Res A) (q : Res C) (k : A → Res B) (l : C → Res D) → q ≡ res_in f r
    → ((a : A) → r ≡ Fine a → l (f a) ≡ res_in g (k a)) → and_then q l ≡ res_in g (and_then r k)
then_in f g r q k l e h = ap (λ q. and_then q l) e ∙ then_of f g r k l h

same_of : {A B D : Type 0} (g : B → D) (r : Res A) (k : A → Res B) (l : A → Res D) → ((a : A) → r ≡ Fine a → l a ≡ res_in g (k a))
    → and_then r l ≡ res_in g (and_then r k)
same_of g (Fine a) k l h = h a refl
same_of g (Bad e) k l h = refl

-- where the first is the same
pub same_then : {A B D : Type 0} (g : B → D) (r q : Res A) (k : A → Res B) (l : A → Res D) → q ≡ r → ((a : A) → r ≡ Fine a → l a ≡ res_in g (k a))
    → and_then q l ≡ res_in g (and_then r k)
same_then g r q k l e h = ap (λ q. and_then q l) e ∙ same_of g r k l h

pub choose_in : {A B : Type 0} (g : A → B) (v : Bool) (p q : Res A) (t u : Res B) → t ≡ res_in g p → u ≡ res_in g q → choose v t u ≡ res_in g (choose v p q)
choose_in g true p q t u e h = e
choose_in g false p q t u e h = h
