-- Whether a cell is well formed, and what its faults are, depends on the heads of procedures only by what is found under each name.
use Rattle.std.proofs.Common.{◌≡◌, ◌≤◌, suc, ℕ, Bool, true, false, List, [], ◌∷◌, ◌++◌, Option, Some, None, is_some, refl, ap, ◌∙◌, sym, subst}
use Rattle.std.specs.Prelude.{nat_lt}
use Rattle.janus_meaning.specs.Limit.{procedure_limit}
use Rattle.janus_meaning.specs.Syntax.{Name, Stm, Blk, Do, Branch, Local, LocalInt, LocalStack, Call, Nil, Cons, Proc, Kind, ANumber, AStack}
use Rattle.janus_meaning.specs.Store.{same_name}
use Rattle.janus_meaning.specs.Shape.{at_name, pick_newest, left_out, without, count_new, different, Shape, Heads, head_at, head_of}
use Rattle.janus_meaning.specs.Formed.{IsStm, IsBlk, AreProcs}
use Rattle.janus_meaning.specs.FormedWorld.{with_heads, AreDefinable, IsFormedOver}
use Rattle.janus_meaning.specs.World.{Cell}
use Rattle.janus_meaning.proofs.Stores.{same_name_true, same_name_self}
use Rattle.janus_meaning.proofs.Scopes.{without_same, without_other}
use Rattle.janus_syntax.specs.Tree as tree
use Rattle.janus_syntax.specs.View.{text_of}
use Rattle.janus_check.specs.declared.fault.CheckFault.TheVariants.{Declared, ChangedParameters, TooMany}
use Rattle.janus_check.specs.Check.{fault_if, declarations_faults, after_declarations, kinds_of, with_head, after_head, after_heads, is_changed, head_faults}
use Rattle.janus_check.specs.Check.{heads_faults, body_sight, parameters_faults, exp_faults, end_faults, shadow_faults, twice_faults, found_faults, call_faults}
use Rattle.janus_check.specs.Check.{stm_faults, block_faults, bodies_faults, cell_faults}
use Rattle.janus_check.proofs.HeadLemmas.{different_way}
use Rattle.janus_check.proofs.ScopeLemmas.{at_name-append, else_found}

-- under each name the same is found
abbrev pub AreSameHeads : Heads → Heads → Type 0
AreSameHeads hs js = (f : Name) → head_at f hs ≡ head_at f js

-- ---- how many different names there are

-- the same names stand in both
abbrev HaveSameNames : {A : Type 0} → List (Name × A) → List (Name × A) → Type 0
HaveSameNames g h = (x : Name) → is_some (at_name x g) ≡ is_some (at_name x h)

more_new : {A : Type 0} (o : Option A) (n : ℕ) → count_new o (suc n) ≡ suc (count_new o n)
more_new (Some a) n = refl
more_new None n = refl

absent_by : {A : Type 0} (x : Name) (e : Name × A) (g : List (Name × A)) (b : Bool) → same_name x e.0 ≡ b → (at_name x g ≡ None → without x g ≡ g) →
    pick_newest b e.1 (at_name x g) ≡ None → left_out b e (without x g) ≡ e ∷ g
absent_by x e g true s ih h = cc
absent_by x e g false s ih h = ap (λ g. e ∷ g) (ih h)

without_absent : {A : Type 0} (x : Name) (g : List (Name × A)) → at_name x g ≡ None → without x g ≡ g
without_absent x [] h = refl
without_absent x (e ∷ g) h = absent_by x e g (same_name x e.0) refl (without_absent x g) h

front_by : {A : Type 0} (x : Name) (g : List (Name × A)) (o : Option A) → at_name x g ≡ o →
    ((a : A) → at_name x g ≡ Some a → different g ≡ suc (different (without x g))) → count_new o (different g) ≡ suc (different (without x g))
front_by x g (Some a) h ih = ih a h
front_by x g None h ih = ap (λ g. suc (different g)) (sym (without_absent x g h))

removed_by : {A : Type 0} (x : Name) (e : Name × A) (g : List (Name × A)) (b : Bool) → same_name x e.0 ≡ b →
    ((a : A) → at_name x g ≡ Some a → different g ≡ suc (different (without x g))) → (a : A) → pick_newest b e.1 (at_name x g) ≡ Some a →
    different (e ∷ g) ≡ suc (different (left_out b e (without x g)))
removed_by x e g true s ih a h = ap (λ y. count_new (at_name y g) (different g)) (sym (same_name_true x e.0 s)) ∙ front_by x g (at_name x g) refl ih
removed_by x e g false s ih a h =
    ap (count_new (at_name e.0 g)) (ih a h) ∙ more_new (at_name e.0 g) (different (without x g))
    ∙ ap (λ o. suc (count_new o (different (without x g)))) (sym (without_other e.0 x g (different_way x e.0 s)))

-- one less without a name that is there
removed : {A : Type 0} (x : Name) (g : List (Name × A)) (a : A) → at_name x g ≡ Some a → different g ≡ suc (different (without x g))
removed x [] a h = cc
removed x (e ∷ g) a h = removed_by x e g (same_name x e.0) refl (removed x g) a h

here : {A : Type 0} (e : Name × A) (g : List (Name × A)) → at_name e.0 (e ∷ g) ≡ Some e.1
here e g = ap (λ b. pick_newest b e.1 (at_name e.0 g)) (same_name_self e.0)

seen : {A : Type 0} (o : Option A) → true ≡ is_some o → (a : A) × (o ≡ Some a)
seen (Some a) h = (a, refl)
seen None h = cc

-- a name in front that is there already
again : {A : Type 0} (e : Name × A) (g h : List (Name × A)) (a : A) → at_name e.0 g ≡ Some a → HaveSameNames (e ∷ g) h → HaveSameNames g h
again e g h a k s x = by (same_name x e.0) refl
  where
    by : (b : Bool) → same_name x e.0 ≡ b → is_some (at_name x g) ≡ is_some (at_name x h)
    by true q =
        ap is_some (ap (λ y. at_name y g) (same_name_true x e.0 q) ∙ k) ∙ sym (ap (λ b. is_some (pick_newest b e.1 (at_name x g))) q) ∙ s x
    by false q = sym (ap (λ b. is_some (pick_newest b e.1 (at_name x g))) q) ∙ s x

-- a new name in front
anew : {A : Type 0} (e : Name × A) (g h : List (Name × A)) → at_name e.0 g ≡ None → HaveSameNames (e ∷ g) h → HaveSameNames g (without e.0 h)
anew e g h k s x = by (same_name x e.0) refl
  where
    by : (b : Bool) → same_name x e.0 ≡ b → is_some (at_name x g) ≡ is_some (at_name x (without e.0 h))
    by true q =
        let same = same_name_true x e.0 q in
        ap is_some (ap (λ y. at_name y g) same ∙ k) ∙ sym (ap is_some (ap (λ y. at_name y (without e.0 h)) same ∙ without_same e.0 h))
    by false q = sym (ap (λ b. is_some (pick_newest b e.1 (at_name x g))) q) ∙ s x ∙ ap is_some (sym (without_other x e.0 h q))

different_same : {A : Type 0} (g h : List (Name × A)) → HaveSameNames g h → different g ≡ different h
different_same [] [] s = refl
different_same [] (e ∷ h) s = let bad : false ≡ true = s e.0 ∙ ap is_some (here e h) in cc
different_same (e ∷ g) h s = by (different_same g) (at_name e.0 g) refl
  where
    by : ((h : List (Name × _)) → HaveSameNames g h → different g ≡ different h) → (o : Option _) → at_name e.0 g ≡ o →
        count_new (at_name e.0 g) (different g) ≡ different h
    by ih (Some a) k = ap (λ o. count_new o (different g)) k ∙ ih h (again e g h a k s)
    by ih None k =
        let there = seen (at_name e.0 h) (sym (ap is_some (here e g)) ∙ s e.0) in
        ap (λ o. count_new o (different g)) k ∙ ap suc (ih (without e.0 h) (anew e g h k s)) ∙ sym (removed e.0 h there.0 there.1)

-- ---- one more head, and more of them

one_more : (hs js : Heads) (e : Name × List Kind) → AreSameHeads hs js → AreSameHeads (e ∷ hs) (e ∷ js)
one_more hs js e s f = ap (pick_newest (same_name f e.0) e.1) (s f)

more_heads : (hs js : Heads) (ps : List Proc) → AreSameHeads hs js → AreSameHeads (with_heads hs ps) (with_heads js ps)
more_heads hs js [] s = s
more_heads hs js (p ∷ ps) s = more_heads (head_of p ∷ hs) (head_of p ∷ js) ps (one_more hs js (head_of p) s)

else_nothing : {A : Type 0} (o : Option A) → else_found o None ≡ o
else_nothing (Some a) = refl
else_nothing None = refl

-- A newer list is gone through from its front, and a head that isn't there yet is added: it comes last, and hides none ..
pub one_behind : (hs js : Heads) (h : Name × List Kind) → AreSameHeads hs js → head_at h.0 hs ≡ None → AreSameHeads (h ∷ hs) (js ++ h ∷ [])
one_behind hs js h e absent f = by (same_name f h.0) refl ∙ sym (at_name-append f js (h ∷ []))
  where
    by : (b : Bool) → same_name f h.0 ≡ b → pick_newest (same_name f h.0) h.1 (head_at f hs) ≡ else_found (head_at f js)
        (pick_newest (same_name f h.0) h.1 None)
    by true s =
        let none = sym (e f) ∙ ap (λ f. head_at f hs) (same_name_true f h.0 s) ∙ absent in
        ap (λ b. pick_newest b h.1 (head_at f hs)) s
        ∙ sym (ap (λ o. else_found o (pick_newest (same_name f h.0) h.1 None)) none ∙ ap (λ b. pick_newest b h.1 None) s)
    by false s =
        ap (λ b. pick_newest b h.1 (head_at f hs)) s ∙ e f ∙ sym (ap (λ b. else_found (head_at f js) (pick_newest b h.1 None)) s ∙ else_nothing (head_at f js))

-- .. and one that is there already stays hidden
pub one_hidden : (hs js : Heads) (h : Name × List Kind) (cs : List Kind) → AreSameHeads hs js → head_at h.0 hs ≡ Some cs → AreSameHeads hs (js ++ h ∷ [])
one_hidden hs js h cs e there f = by (same_name f h.0) refl ∙ sym (at_name-append f js (h ∷ []))
  where
    by : (b : Bool) → same_name f h.0 ≡ b → head_at f hs ≡ else_found (head_at f js) (pick_newest (same_name f h.0) h.1 None)
    by true s =
        let here = ap (λ f. head_at f hs) (same_name_true f h.0 s) ∙ there in
        here ∙ sym (ap (λ o. else_found o (pick_newest (same_name f h.0) h.1 None)) (sym (e f) ∙ here))
    by false s = e f ∙ sym (ap (λ b. else_found (head_at f js) (pick_newest b h.1 None)) s ∙ else_nothing (head_at f js))

-- ---- what is well formed

mutual
  stm_same : (hs js : Heads) (g : Shape) (s : Stm) → AreSameHeads hs js → IsStm hs g s → IsStm js g s
  stm_same hs js g (Do k) e h = h
  stm_same hs js g (Branch w a s t b) e h = (h.0, block_same hs js g s e h.1, block_same hs js g t e h.2, h.3)
  stm_same hs js g (Local x (LocalInt a b) s) e h = (h.0, h.1, block_same hs js ((x, ANumber) ∷ g) s e h.2, h.3)
  stm_same hs js g (Local x LocalStack s) e h = (h.0, block_same hs js ((x, AStack) ∷ g) s e h.1)
  stm_same hs js g (Call w f xs) e h = (h.0, sym (e f) ∙ h.1, h.2)

  pub block_same : (hs js : Heads) (g : Shape) (b : Blk) → AreSameHeads hs js → IsBlk hs g b → IsBlk js g b
  block_same hs js g Nil e h = h
  block_same hs js g (Cons c b) e h = (stm_same hs js g c e h.0, block_same hs js g b e h.1)

pub procs_same : (hs js : Heads) (ps : List Proc) → AreSameHeads hs js → AreProcs hs ps → AreProcs js ps
procs_same hs js [] e h = h
procs_same hs js (p ∷ ps) e h = (
  record { head = sym (e p.name) ∙ h.0.head; distinct = h.0.distinct; few = h.0.few; body = block_same hs js p.params p.body e h.0.body },
  procs_same hs js ps e h.1,
)

definable_same : (hs js : Heads) (ps : List Proc) → AreSameHeads hs js → AreDefinable hs ps → AreDefinable js ps
definable_same hs js [] e h = h
definable_same hs js (p ∷ ps) e h =
    let more = one_more hs js (head_of p) e in (
      record {
        unchanged = λ cs k. h.0.unchanged cs (e p.name ∙ k);
        room = subst (λ n. n ≤ procedure_limit) (different_same (head_of p ∷ hs) (head_of p ∷ js) (λ x. ap is_some (more x))) h.0.room;
      },
      definable_same (head_of p ∷ hs) (head_of p ∷ js) ps more h.1,
    )

-- a cell over heads of which the same are found
pub formed_same : (g : Shape) (hs js : Heads) (c : Cell) → AreSameHeads hs js → IsFormedOver g hs c → IsFormedOver g js c
formed_same g hs js c e h =
    let more = more_heads hs js c.procedures e in
    record {
      names = h.names;
      once = h.once;
      heads = definable_same hs js c.procedures e h.heads;
      procedures = procs_same (with_heads hs c.procedures) (with_heads js c.procedures) c.procedures more h.procedures;
      block = block_same (with_heads hs c.procedures) (with_heads js c.procedures) _ c.block more h.block;
    }

-- ---- faults

behind_same : (own hs js : Heads) → AreSameHeads hs js → AreSameHeads (own ++ hs) (own ++ js)
behind_same own hs js e f = at_name-append f own hs ∙ ap (else_found (head_at f own)) (e f) ∙ sym (at_name-append f own js)

call_faults_same : (hs js : Heads) (g : Shape) (f : tree.Name) (ys : List tree.Name) → AreSameHeads hs js → call_faults hs g f ys ≡ call_faults js g f ys
call_faults_same hs js g (tree.named f at) ys e = ap (λ o. twice_faults [] ys ++ found_faults g o at ys) (e f)

mutual
  stm_faults_same : (hs js : Heads) (g : Shape) (s : tree.Stm) → AreSameHeads hs js → stm_faults hs g s ≡ stm_faults js g s
  stm_faults_same hs js g tree.Skip e = refl
  stm_faults_same hs js g (tree.Assign x u a) e = refl
  stm_faults_same hs js g (tree.AssignElement a i u b) e = refl
  stm_faults_same hs js g (tree.Push x y) e = refl
  stm_faults_same hs js g (tree.Pop x y) e = refl
  stm_faults_same hs js g (tree.Swap x y) e = refl
  stm_faults_same hs js g (tree.If a s t b) e = (λ i. exp_faults g a ++ block_faults_same hs js g s e i ++ block_faults_same hs js g t e i ++ exp_faults g b)
  stm_faults_same hs js g (tree.Loop a s t b) e = (λ i. exp_faults g a ++ block_faults_same hs js g s e i ++ block_faults_same hs js g t e i ++ exp_faults g b)
  stm_faults_same hs js g (tree.LocalInt x a s y b) e =
      ap (λ fs. shadow_faults g x ++ end_faults g (text_of x) a ++ fs ++ end_faults g (text_of x) b) (block_faults_same hs js ((text_of x, ANumber) ∷ g) s e)
  stm_faults_same hs js g (tree.LocalStack x s y) e = ap (λ fs. shadow_faults g x ++ fs) (block_faults_same hs js ((text_of x, AStack) ∷ g) s e)
  stm_faults_same hs js g (tree.Call f ys) e = call_faults_same hs js g f ys e
  stm_faults_same hs js g (tree.Uncall f ys) e = call_faults_same hs js g f ys e

  block_faults_same : (hs js : Heads) (g : Shape) (b : tree.Block) → AreSameHeads hs js → block_faults hs g b ≡ block_faults js g b
  block_faults_same hs js g tree.Empty e = refl
  block_faults_same hs js g (tree.More s b) e = (λ i. stm_faults_same hs js g s e i ++ block_faults_same hs js g b e i)

head_faults_same : (hs js own : Heads) (p : tree.Procedure) → AreSameHeads hs js → head_faults hs own p ≡ head_faults js own p
head_faults_same hs js own (tree.procedure_of (tree.named f at) xs b) e =
    let all = with_head own f (kinds_of xs) in
    let many = different_same (all ++ hs) (all ++ js) (λ x. ap is_some (behind_same all hs js e x)) in
    (λ i. fault_if (is_some (head_at f own)) (Declared at) ++ fault_if (is_changed (kinds_of xs) (e f i)) (ChangedParameters at) ++ fault_if
    (nat_lt procedure_limit (many i)) (TooMany at))

heads_faults_same : (hs js own : Heads) (ps : List tree.Procedure) → AreSameHeads hs js → heads_faults hs own ps ≡ heads_faults js own ps
heads_faults_same hs js own [] e = refl
heads_faults_same hs js own (p ∷ ps) e = (λ i. head_faults_same hs js own p e i ++ heads_faults_same hs js (after_head own p) ps e i)

bodies_faults_same : (hs js : Heads) (ps : List tree.Procedure) → AreSameHeads hs js → bodies_faults hs ps ≡ bodies_faults js ps
bodies_faults_same hs js [] e = refl
bodies_faults_same hs js (tree.procedure_of f xs b ∷ ps) e =
    (λ i. parameters_faults [] xs ++ block_faults_same hs js (body_sight xs) b e i ++ bodies_faults_same hs js ps e i)

-- the faults of a cell over heads of which the same are found
pub faults_same : (g : Shape) (hs js : Heads) (c : tree.Cell) → AreSameHeads hs js → cell_faults g hs c ≡ cell_faults g js c
faults_same g hs js (tree.cell_of ds b ps) e =
    let own = after_heads [] ps in
    let more = behind_same own hs js e in
    (λ i. declarations_faults g ds ++ heads_faults_same hs js [] ps e i ++ block_faults_same (own ++ hs) (own ++ js) (after_declarations g ds)
    b more i ++ bodies_faults_same (own ++ hs) (own ++ js) ps more i)
