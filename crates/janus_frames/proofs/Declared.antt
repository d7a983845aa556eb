-- What is shown of a store: the declared names, with the values that are found inwards.
use Rattle.std.proofs.Common.{◌≡◌, ℕ, ◌<◌, ◌≤◌, List, [], ap, ◌∙◌, sym, subst, arith}
use Rattle.std.specs.Prelude.{reverse, slice_get, Some}
use Rattle.std.proofs.lemmas.Option.{slice_get_within}
use Rattle.janus_meaning.specs.Fault.{Fine, Bad, Broken}
use Rattle.janus_meaning.specs.Syntax.{Name}
use Rattle.janus_meaning.specs.Store.{Val, Store, look}
use Rattle.janus_meaning.specs.World.{size_of, oldest, listed}
use Rattle.janus_meaning.proofs.Results.{fine_inj}
use Rattle.janus_meaning.proofs.Worlds.{oldest_whole}
use Rattle.janus_slots.specs.Numbers.{IsNumbered, IsUnmet}
use Rattle.janus_slots.specs.Slots.{slot, names_in, in_slots, under_names}
use Rattle.janus_frames.specs.Calls.{Caller, given_back}
use Rattle.janus_frames.specs.Cells.{stored, IsPresent}
use Rattle.janus_frames.specs.FramesState.{FramesState}
use Rattle.janus_frames.specs.Kept.{AreHeld}
use Rattle.janus_frames.specs.StoreState.{StoreState, IsWhole, declared_store, state_of}
use Rattle.janus_frames.proofs.Following.{oldest-stored}
use Rattle.janus_frames.proofs.Reading.{size-stored, look-there, read-present}
use Rattle.janus_frames.proofs.Sizes.{outer-is}
use Rattle.janus_frames.proofs.Texts.{shown-look, shown-none, shown-listed, shown-size, shown-names, shown-slots, stored-slots}

module _ (fr : FramesState) (d : ℕ) (ts : List Name) (h : AreHeld fr d ts) (f : ℕ → Val) (n : ℕ) (e : given_back fr.slots fr.callers ≡ stored f n)
    (p : (k : ℕ) → k < n → IsPresent (f k)) where
  pub outer-names : size_of (given_back fr.slots fr.callers) ≡ n
  outer-names = ap size_of e ∙ size-stored f n

  pub names-enough : d ≤ n
  names-enough = let o = outer-is fr.slots fr.callers in let a = outer-names in let l = h.declared in omega (arith, o, a, l)

  pub declared-is : oldest d (given_back fr.slots fr.callers) ≡ stored f d
  declared-is = ap (oldest d) e ∙ oldest-stored f d n names-enough

  pub shown-is : under_names (reverse ts) (oldest d (given_back fr.slots fr.callers)) ≡ under_names (reverse ts) (stored f d)
  shown-is = ap (under_names (reverse ts)) declared-is

  pub shown-many : size_of (under_names (reverse ts) (oldest d (given_back fr.slots fr.callers))) ≡ d
  shown-many = ap size_of shown-is ∙ shown-size ts f d h.many

  pub told-names : names_in (under_names (reverse ts) (oldest d (given_back fr.slots fr.callers))) ≡ reverse ts
  told-names = ap names_in shown-is ∙ shown-names ts f d h.many

  pub told-slots : in_slots (under_names (reverse ts) (oldest d (given_back fr.slots fr.callers))) ≡ oldest d (given_back fr.slots fr.callers)
  told-slots = ap in_slots shown-is ∙ shown-slots ts f d h.many ∙ sym declared-is

  pub declared-slots : in_slots (oldest d (given_back fr.slots fr.callers)) ≡ oldest d (given_back fr.slots fr.callers)
  declared-slots = ap in_slots declared-is ∙ stored-slots f d ∙ sym declared-is

  -- a text is that of a declared name
  text-low : (i : ℕ) (x : Name) → IsNumbered ts i x → i < d
  text-low i x t = let l = slice_get_within ts i x t in let m = h.many in omega (arith, l, m)

  pub text-there : (i : ℕ) (x : Name) → IsNumbered ts i x → i < size_of (given_back fr.slots fr.callers)
  text-there i x t = let l = text-low i x t in let a = outer-names in let b = names-enough in omega (arith, l, a, b)

  pub text-look : (i : ℕ) (x : Name) → IsNumbered ts i x → look x (under_names (reverse ts) (oldest d (given_back fr.slots fr.callers))) ≡ Fine (f i)
  text-look i x t =
      let l = text-low i x t in
      let b = names-enough in
      ap (look x) shown-is ∙ shown-look ts f d h.many i x h.one_text t ∙ read-present (f i) (p i (omega (arith, l, b)))

  pub text-none : (x : Name) → IsUnmet ts x → look x (under_names (reverse ts) (oldest d (given_back fr.slots fr.callers))) ≡ Bad Broken
  text-none x u = ap (look x) shown-is ∙ shown-none ts f d h.many x u

  pub none-text : (x : Name) → look x (under_names (reverse ts) (oldest d (given_back fr.slots fr.callers))) ≡ Bad Broken → IsUnmet ts x
  none-text x z i t = let both : Fine (f i) ≡ Bad Broken = sym (text-look i x t) ∙ z in cc

  -- the value that was found is its
  pub found-value : (i : ℕ) (u : Val) → i < n → look (slot i) (given_back fr.slots fr.callers) ≡ Fine u → f i ≡ u
  found-value i u l g = fine_inj (f i) u (sym (look-there f n i l (p i l)) ∙ ap (look (slot i)) (sym e) ∙ g)

  pub text-listed : (i : ℕ) (x : Name) → IsNumbered ts i x
      → slice_get (listed (under_names (reverse ts) (oldest d (given_back fr.slots fr.callers)))) i ≡ Some (x, f i)
  text-listed i x t = ap (λ s. slice_get (listed s) i) shown-is ∙ shown-listed ts f d h.many i x t

-- where no local and no call is open, all names in sight are the declared ones
pub whole-by : (s : StoreState) → in_slots (declared_store s) ≡ declared_store s → s.declared ≡ size_of s.slots → s.callers ≡ [] → IsWhole s
whole-by s h all alone =
    let same : declared_store s ≡ s.slots =
    ap (λ (cs : List Caller). oldest s.declared (given_back s.slots cs)) alone ∙ oldest_whole s.declared s.slots (sym all) in
    record { declared = all; callers = alone; slots = subst (λ (t : Store). in_slots t ≡ t) same h }

pub same-state : (s t : Store) (d e : ℕ) (ts us : List Name) (cs bs : List Caller) (v w : ℕ) → s ≡ t → d ≡ e → ts ≡ us → cs ≡ bs → v ≡ w
    → state_of s d ts cs v ≡ state_of t e us bs w
same-state s t d e ts us cs bs v w slots declared texts callers writes =
    ap (λ s. state_of s d ts cs v) slots ∙ ap (λ d. state_of t d ts cs v) declared ∙ ap (λ ts. state_of t e ts cs v) texts
    ∙ ap (λ cs. state_of t e us cs v) callers ∙ ap (state_of t e us bs) writes
