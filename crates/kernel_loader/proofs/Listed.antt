-- A table of procedures' names that goes on: where all that is called is listed, blocks and procedures keep their numbers.
use Rattle.std.proofs.Common.{◌≡◌, ℕ, zero, suc, Bool, true, false, List, [], ◌∷◌, ◌++◌, length, Some, None, slice_get, refl, ap, ◌∙◌, sym, arith, cond}
use Rattle.std.proofs.lemmas.Option.{slice_get_past}
use Rattle.janus_meaning.specs.Syntax.{Name, Proc, names_of, Stm, Blk, Do, Branch, Local, LocalInt, LocalStack, Call, Nil, Cons, ANumber, AStack}
use Rattle.janus_meaning.specs.Store.{same_name}
use Rattle.janus_meaning.specs.Shape.{Shape, Heads}
use Rattle.janus_meaning.specs.Formed.{IsStm, IsBlk, AreProcs}
use Rattle.janus_meaning.proofs.Stores.{same_name_self}
use Rattle.janus_slots.specs.Numbers.{IsMet, GoOn}
use Rattle.janus_slots.specs.Slots.{slot, number_from, number_in, slots_in, exp_in, stm_in, block_in, stacked, procedure_in, procedures_in}
use Rattle.janus_slots.specs.Law.{AreListed}
use Rattle.janus_code.specs.Slotted.{HasEntries}

-- ---- what is called in statements

-- each procedure that a statement calls is such a one
abbrev mutual
  pub CallsIn : (Name → Type 0) → Stm → Type 0
  CallsIn P (Do k) = Unit {0}
  CallsIn P (Branch w a s t b) = CallsOf P s × CallsOf P t
  CallsIn P (Local x (LocalInt a b) s) = CallsOf P s
  CallsIn P (Local x LocalStack s) = CallsOf P s
  CallsIn P (Call w f xs) = P f

  pub CallsOf : (Name → Type 0) → Blk → Type 0
  CallsOf P Nil = Unit {0}
  CallsOf P (Cons c b) = CallsIn P c × CallsOf P b

-- and those that bodies call
abbrev pub BodiesCall : (Name → Type 0) → List Proc → Type 0
BodiesCall P [] = Unit {0}
BodiesCall P (p ∷ ps) = CallsOf P p.body × BodiesCall P ps

-- a well-formed statement calls what is listed, where all is that calls see
module _ (hs : Heads) (es : List Name) (q : HasEntries hs es) where
  mutual
    stm_calls : (g : Shape) (c : Stm) → IsStm hs g c → CallsIn (IsMet es) c
    stm_calls g (Do k) h = tt
    stm_calls g (Branch w a s t b) h = (block_calls g s h.1, block_calls g t h.2)
    stm_calls g (Local x (LocalInt a b) s) h = block_calls ((x, ANumber) ∷ g) s h.2
    stm_calls g (Local x LocalStack s) h = block_calls ((x, AStack) ∷ g) s h.1
    stm_calls g (Call w f xs) h = q f h.0 h.1

    pub block_calls : (g : Shape) (b : Blk) → IsBlk hs g b → CallsOf (IsMet es) b
    block_calls g Nil h = tt
    block_calls g (Cons c b) h = (stm_calls g c h.0, block_calls g b h.1)

  pub bodies_call : (ps : List Proc) → AreProcs hs ps → BodiesCall (IsMet es) ps
  bodies_call [] h = tt
  bodies_call (p ∷ ps) h = (block_calls p.params p.body h.0.body, bodies_call ps h.1)

-- ---- what is listed keeps its number

met_later : (h : Name) (es : List Name) (f : Name) → same_name f h ≡ false → IsMet (h ∷ es) f → IsMet es f
met_later h es f ne m = at m.0 m.1
  where
    at : (k : ℕ) → slice_get (h ∷ es) k ≡ Some f → IsMet es f
    at zero e =
        let same : h ≡ f = cc in
        let bad : true ≡ false = sym (same_name_self f) ∙ ap (same_name f) (sym same) ∙ ne in
        cc
    at (suc k) e = (k, e)

kept_by : (n : ℕ) (h : Name) (es more : List Name) (f : Name) (b : Bool) → same_name f h ≡ b → IsMet (h ∷ es) f →
    (IsMet es f → number_from (suc n) (es ++ more) f ≡ number_from (suc n) es f)
    → cond b (slot n) (number_from (suc n) (es ++ more) f) ≡ cond b (slot n) (number_from (suc n) es f)
kept_by n h es more f true s m later = refl
kept_by n h es more f false s m later = later (met_later h es f s m)

number_kept : (n : ℕ) (es more : List Name) (f : Name) → IsMet es f → number_from n (es ++ more) f ≡ number_from n es f
number_kept n [] more f m = let bad : None ≡ Some f = sym (slice_get_past [] m.0 (omega arith)) ∙ m.1 in cc
number_kept n (h ∷ es) more f m = kept_by n h es more f (same_name f h) refl m (number_kept (suc n) es more f)

module _ (es fs : List Name) (onward : GoOn es fs) where
  pub number_stays : (f : Name) → IsMet es f → number_in fs f ≡ number_in es f
  number_stays f m = ap (λ l. number_in l f) onward.1 ∙ number_kept 0 es onward.0 f m

  mutual
    stm_stays : (g : List Name) (c : Stm) → CallsIn (IsMet es) c → stm_in fs g c ≡ stm_in es g c
    stm_stays g (Do k) h = refl
    stm_stays g (Branch w a s t b) h =
        ap (λ s. Branch w (exp_in g a) s (block_in fs g t) (exp_in g b)) (block_stays g s h.0)
        ∙ ap (λ t. Branch w (exp_in g a) (block_in es g s) t (exp_in g b)) (block_stays g t h.1)
    stm_stays g (Local x (LocalInt a b) s) h = ap (λ s. Local (slot (length g)) (LocalInt (exp_in g a) (exp_in g b)) s) (block_stays (x ∷ g) s h)
    stm_stays g (Local x LocalStack s) h = ap (λ s. Local (slot (length g)) LocalStack s) (block_stays (x ∷ g) s h)
    stm_stays g (Call w f xs) h = ap (λ n. Call w n (slots_in g xs)) (number_stays f h)

    pub block_stays : (g : List Name) (b : Blk) → CallsOf (IsMet es) b → block_in fs g b ≡ block_in es g b
    block_stays g Nil h = refl
    block_stays g (Cons c b) h = ap (λ c. Cons c (block_in fs g b)) (stm_stays g c h.0) ∙ ap (Cons (stm_in es g c)) (block_stays g b h.1)

  pub procedure_stays : (p : Proc) → IsMet es p.name → CallsOf (IsMet es) p.body → procedure_in fs p ≡ procedure_in es p
  procedure_stays p m h = λ i. record { name = number_stays p.name m i; params = stacked p.params; body = block_stays (names_of p.params) p.body h i }

  pub procedures_stay : (ps : List Proc) → AreListed es ps → BodiesCall (IsMet es) ps → procedures_in fs ps ≡ procedures_in es ps
  procedures_stay [] m h = refl
  procedures_stay (p ∷ ps) m h = ap (λ q. q ∷ procedures_in fs ps) (procedure_stays p m.0 h.0) ∙ ap (λ qs. procedure_in es p ∷ qs) (procedures_stay ps m.1 h.1)

  -- and stays listed
  pub met_still : (x : Name) → IsMet es x → IsMet fs x
  met_still x m = (m.0, ap (λ l. slice_get l m.0) onward.1 ∙ get_front es onward.0 m.0 m.1)
    where
      get_front : (es more : List Name) (k : ℕ) → slice_get es k ≡ Some x → slice_get (es ++ more) k ≡ Some x
      get_front [] more k e = let bad : None ≡ Some x = sym (slice_get_past [] k (omega arith)) ∙ e in cc
      get_front (y ∷ es) more zero e = e
      get_front (y ∷ es) more (suc k) e = get_front es more k e

  pub listed_still : (ps : List Proc) → AreListed es ps → AreListed fs ps
  listed_still [] h = tt
  listed_still (p ∷ ps) h = (met_still p.name h.0, listed_still ps h.1)
