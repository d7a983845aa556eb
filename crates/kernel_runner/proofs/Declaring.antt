-- Names that are declared one after another, and retired again.
use Rattle.std.proofs.Common.{get_or, ◌≡◌, ℕ, pos, ◌+◌, ◌-◌, ◌<◌, ◌≤◌, inl, inr, List, [], ◌∷◌, length, map, take, zero, suc, Bool, true, false, Some, None}
use Rattle.std.proofs.Common.{refl, ap, sym, ◌∙◌, subst, arith}
use Rattle.std.proofs.lemmas.Bool.{cases_lt}
use Rattle.std.proofs.lemmas.Option.{same_Some}
use Rattle.janus_meaning.specs.Fault.{Res, Bad, Broken}
use Rattle.janus_meaning.specs.Syntax.{Name, Kind, ANumber, AnArray, AStack}
use Rattle.janus_meaning.specs.Store.{Val, Num, Arr, Stk, Lent, Store, Bare, Slot, zeros, look, look_at, same_name}
use Rattle.janus_meaning.specs.Shape.{Shape, stack_count, shape_of, with_slot, kind_of, kind_at, pick_newest}
use Rattle.janus_meaning.specs.FormedWorld.{AreNew, declared_kind, HasRoom, HaveValues}
use Rattle.janus_meaning.proofs.Stores.{same_name_self}
use Rattle.janus_meaning.proofs.Scopes.{without_other}
use Rattle.janus_meaning.specs.World.{Declaration, DeclareInt, DeclareArray, DeclareStack, declare, declare_one, declared_name, dropped, stacks_in, size_of}
use Rattle.janus_meaning.specs.Limit.{live_stack_limit}
use Rattle.janus_syntax.specs.Tree.{declaration_view, declarations_view}
use Rattle.janus_syntax.specs.View.{plain_declaration}
use Rattle.janus_syntax.specs.declared.tree.Declaration as Tree
use Rattle.janus_slots.specs.Numbers.{IsUnmet}
use Rattle.janus_slots.specs.Slots.{slot, names_in, in_slots, under_names}
use Rattle.janus_slots.proofs.Whole.{names_size, stacks_same}
use Rattle.janus_machine.specs.StoreState.{StoreState, state_of, IsWhole, Declares, shown_store}
use Rattle.janus_machine.specs.Stores.{IsFirstOnTop, rest_of}
use Rattle.kernel_runner.specs.Declarable.{HasStackRoom}
use Rattle.kernel_runner.specs.Runner.{Becomes}
use Rattle.kernel_runner.proofs.Slotted.{whole_in_sight}
use Rattle.std.specs.Prelude.{reverse, ◌++◌}
use Rattle.std.proofs.lemmas.List.{reverse-append, reverse-reverse, length-append, length-take-le, take_at}

-- one name more is dropped
pub dropped_more : (i : ℕ) (s : Store) → dropped (suc i) s ≡ rest_of (dropped i s)
dropped_more zero Bare = refl
dropped_more zero (Slot x v s) = refl
dropped_more (suc i) Bare = refl
dropped_more (suc i) (Slot x v s) = dropped_more i s

-- what a name is declared with stands on top
declared_rest : (d : Declaration) (s : Store) → rest_of (declare_one d s) ≡ s
declared_rest (DeclareInt x) s = refl
declared_rest (DeclareArray x n) s = refl
declared_rest (DeclareStack x) s = refl

zeros_length : (n : ℕ) → length (zeros n) ≡ n
zeros_length zero = refl
zeros_length (suc n) = ap suc (zeros_length n)

declared_on_top : (d : Declaration) (s : Store) → IsFirstOnTop (declare_one d s)
declared_on_top (DeclareInt x) s = (x, Num (pos 0), s, refl, refl)
declared_on_top (DeclareArray x n) s = (x, Arr (zeros n), s, refl, ap (λ n. Arr (zeros n)) (zeros_length n))
declared_on_top (DeclareStack x) s = (x, Stk [], s, refl, refl)

pub dropped_all : (ds : List Declaration) (s : Store) → dropped (length ds) (declare ds s) ≡ s
dropped_all [] s = refl
dropped_all (d ∷ ds) s = dropped_more (length ds) (declare ds (declare_one d s)) ∙ ap rest_of (dropped_all ds (declare_one d s)) ∙ declared_rest d s

-- the newest of them have the values that they were declared with
pub first_on_top : (ds : List Declaration) (s : Store) (i : ℕ) → i < length ds → IsFirstOnTop (dropped i (declare ds s))
first_on_top [] s i l = absurd (omega arith)
first_on_top (d ∷ ds) s i l = elim (cases_lt i (length ds)) [
  | inl below ↦ first_on_top ds (declare_one d s) i below
  | inr last ↦ (let e : i ≡ length ds = omega arith in
      subst IsFirstOnTop (sym (ap (λ i. dropped i (declare ds (declare_one d s))) e ∙ dropped_all ds (declare_one d s))) (declared_on_top d s))
]

-- in slots too
pub first_in_slots : (s : Store) → IsFirstOnTop s → IsFirstOnTop (in_slots s)
first_in_slots s h = subst (λ (t : Store). IsFirstOnTop (in_slots t)) (sym h.3) (slot (length (names_in h.2)), h.1, in_slots h.2, refl, h.4)

-- ---- new names

some_is_none : {P : Type 0} (k : Kind) → Some k ≡ None → P
some_is_none k h = cc

absent_at : (b : Bool) (x y : Name) (v : Val) (g : Shape) (r : Res Val) → same_name x y ≡ b → kind_at x (with_slot y (kind_of v) g) ≡ None →
    (kind_at x g ≡ None → r ≡ Bad Broken) → look_at b v r ≡ Bad Broken
absent_at true x y (Num n) g r s e f = some_is_none ANumber (sym (ap (λ b. pick_newest b ANumber (kind_at x g)) s) ∙ e)
absent_at true x y (Arr l) g r s e f = some_is_none AnArray (sym (ap (λ b. pick_newest b AnArray (kind_at x g)) s) ∙ e)
absent_at true x y (Stk l) g r s e f = some_is_none AStack (sym (ap (λ b. pick_newest b AStack (kind_at x g)) s) ∙ e)
absent_at true x y Lent g r s e f = refl
absent_at false x y (Num n) g r s e f = f (sym (ap (λ b. pick_newest b ANumber (kind_at x g)) s) ∙ e)
absent_at false x y (Arr l) g r s e f = f (sym (ap (λ b. pick_newest b AnArray (kind_at x g)) s) ∙ e)
absent_at false x y (Stk l) g r s e f = f (sym (ap (λ b. pick_newest b AStack (kind_at x g)) s) ∙ e)
absent_at false x y Lent g r s e f = f (sym (without_other x y g s) ∙ e)

-- a name that is out of sight is not found
pub absent_look : (x : Name) (s : Store) → kind_at x (shape_of s) ≡ None → look x s ≡ Bad Broken
absent_look x Bare e = refl
absent_look x (Slot y v s) e = absent_at (same_name x y) x y v (shape_of s) (look x s) refl e (λ h. absent_look x s h)

declared_shape : (d : Declaration) (s : Store) → shape_of (declare_one d s) ≡ (declared_name d, declared_kind d) ∷ shape_of s
declared_shape (DeclareInt x) s = refl
declared_shape (DeclareArray x n) s = refl
declared_shape (DeclareStack x) s = refl

-- each of the names is new behind those before it
pub new_at : (ds : List Declaration) (s : Store) (i : ℕ) (d : Declaration) → AreNew (shape_of s) ds → i < length ds →
    look (declared_name (get_or ds i d)) (declare (take i ds) s) ≡ Bad Broken
new_at [] s i d new l = absurd (omega arith)
new_at (e ∷ ds) s zero d new l = absent_look (declared_name e) s new.0.name
new_at (e ∷ ds) s (suc i) d new l = new_at ds (declare_one e s) i d (subst (λ g. AreNew g ds) (sym (declared_shape e s)) new.1) (omega arith)

-- one name more
pub declared_more : (ds : List Declaration) (s : Store) (i : ℕ) (d : Declaration) → i < length ds →
    declare (take (suc i) ds) s ≡ declare_one (get_or ds i d) (declare (take i ds) s)
declared_more [] s i d l = absurd (omega arith)
declared_more (e ∷ ds) s zero d l = refl
declared_more (e ∷ ds) s (suc i) d l = declared_more ds (declare_one e s) i d (omega arith)

-- declarations as they lie in memory: one of them, and how many they are
pub declared_at : (ys : List Tree.Declaration) (i : ℕ) (y : Tree.Declaration) (d : Declaration) → i < length ys → get_or ys i y ≡ y →
    get_or (map plain_declaration (declarations_view ys)) i d ≡ plain_declaration (declaration_view y)
declared_at [] i y d l e = absurd (omega arith)
declared_at (z ∷ ys) zero y d l e = ap (λ (z : Tree.Declaration). plain_declaration (declaration_view z)) e
declared_at (z ∷ ys) (suc i) y d l e = declared_at ys i y d (omega arith) e

pub declared_count : (ys : List Tree.Declaration) → length (map plain_declaration (declarations_view ys)) ≡ length ys
declared_count [] = refl
declared_count (y ∷ ys) = ap suc (declared_count ys)

pub all_taken : {A : Type 0} (xs : List A) (n : ℕ) → length xs ≤ n → take n xs ≡ xs
all_taken [] zero l = refl
all_taken [] (suc n) l = refl
all_taken (x ∷ xs) zero l = absurd (omega arith)
all_taken (x ∷ xs) (suc n) l = ap (λ ys. x ∷ ys) (all_taken xs n (omega arith))

pub taken_count : {A : Type 0} (xs : List A) (n : ℕ) → n ≤ length xs → length (take n xs) ≡ n
taken_count [] zero l = refl
taken_count [] (suc n) l = absurd (omega arith)
taken_count (x ∷ xs) zero l = refl
taken_count (x ∷ xs) (suc n) l = ap suc (taken_count xs n (omega arith))

-- ---- nothing is lent, and stacks are counted

-- no value is lent
abbrev pub LendNothing : Store → Type 0
LendNothing Bare = Unit {0}
LendNothing (Slot x (Num n) s) = LendNothing s
LendNothing (Slot x (Arr l) s) = LendNothing s
LendNothing (Slot x (Stk l) s) = LendNothing s
LendNothing (Slot x Lent s) = ⊥

pub values_lend_nothing : (s : Store) → HaveValues s → LendNothing s
values_lend_nothing Bare h = tt
values_lend_nothing (Slot x (Num n) s) h = values_lend_nothing s h.1
values_lend_nothing (Slot x (Arr l) s) h = values_lend_nothing s h.1
values_lend_nothing (Slot x (Stk l) s) h = values_lend_nothing s h.1
values_lend_nothing (Slot x Lent s) h = absurd h.0

pub declared_lend_nothing : (ds : List Declaration) (s : Store) → LendNothing s → LendNothing (declare ds s)
declared_lend_nothing [] s h = h
declared_lend_nothing (DeclareInt x ∷ ds) s h = declared_lend_nothing ds (Slot x (Num (pos 0)) s) h
declared_lend_nothing (DeclareArray x n ∷ ds) s h = declared_lend_nothing ds (Slot x (Arr (zeros n)) s) h
declared_lend_nothing (DeclareStack x ∷ ds) s h = declared_lend_nothing ds (Slot x (Stk []) s) h

stacks_counted : (s : Store) → LendNothing s → stack_count (shape_of s) ≡ stacks_in s
stacks_counted Bare h = refl
stacks_counted (Slot x (Num n) s) h = stacks_counted s h
stacks_counted (Slot x (Arr l) s) h = stacks_counted s h
stacks_counted (Slot x (Stk l) s) h = ap suc (stacks_counted s h)
stacks_counted (Slot x Lent s) h = absurd h

room_by : (d : Declaration) (s : Store) → LendNothing s → HasRoom (shape_of s) d → HasStackRoom d s
room_by (DeclareInt x) s h r = tt
room_by (DeclareArray x n) s h r = tt
room_by (DeclareStack x) s h r = subst (λ n. n < live_stack_limit) (stacks_counted s h) r

-- there is room for each of the stacks behind those before it
pub room_at : (ds : List Declaration) (s : Store) (i : ℕ) (d : Declaration) → LendNothing s → AreNew (shape_of s) ds → i < length ds →
    HasStackRoom (get_or ds i d) (declare (take i ds) s)
room_at [] s i d h new l = absurd (omega arith)
room_at (e ∷ ds) s zero d h new l = room_by e s h new.0.extent
room_at (e ∷ ds) s (suc i) d h new l =
    room_at ds (declare_one e s) i d (declared_lend_nothing (e ∷ []) s h) (subst (λ g. AreNew g ds) (sym (declared_shape e s)) new.1) (omega arith)

pub room_in_slots : (d : Declaration) (s : Store) → HasStackRoom d s → HasStackRoom d (in_slots s)
room_in_slots (DeclareInt x) s h = tt
room_in_slots (DeclareArray x n) s h = tt
room_in_slots (DeclareStack x) s h = subst (λ n. n < live_stack_limit) (sym (stacks_same s)) h

-- ---- no text is declared twice

-- one name more behind the others
unmet_behind : (xs : List Name) (x y : Name) → IsUnmet xs x → (y ≡ x → ⊥) → IsUnmet (xs ++ y ∷ []) x
unmet_behind [] x y none other zero at = other (same_Some y x at)
unmet_behind [] x y none other (suc k) at = cc
unmet_behind (z ∷ xs) x y none other zero at = none zero at
unmet_behind (z ∷ xs) x y none other (suc k) at = unmet_behind xs x y (λ j. none (suc j)) other k at

pub unmet_reversed : (xs : List Name) (x : Name) → IsUnmet xs x → IsUnmet (reverse xs) x
unmet_reversed [] x none = none
unmet_reversed (y ∷ xs) x none =
    subst (λ (l : List Name). IsUnmet l x) (sym (reverse-append (y ∷ []) xs))
    (unmet_behind (reverse xs) x y (unmet_reversed xs x (λ k. none (suc k))) (λ e. none zero (ap Some e)))

true_is_false : {P : Type 0} → true ≡ false → P
true_is_false e = cc

-- the newest name is another one, where the name is out of sight
other_newest : (x y : Name) (k : Kind) (g : Shape) (b : Bool) → same_name x y ≡ b → kind_at x ((y, k) ∷ g) ≡ None → (same_name x y ≡ false) ×
    (kind_at x g ≡ None)
other_newest x y k g true e none = some_is_none k (sym (ap (λ b. pick_newest b k (kind_at x g)) e) ∙ none)
other_newest x y k g false e none = (e, sym (ap (λ b. pick_newest b k (kind_at x g)) e) ∙ none)

unmet_newest : (x y : Name) (k : Kind) (s : Store) → kind_at x ((y, k) ∷ shape_of s) ≡ None → (kind_at x (shape_of s) ≡ None → IsUnmet (names_in s) x) →
    IsUnmet (y ∷ names_in s) x
unmet_newest x y k s none rest zero at =
    let other = other_newest x y k (shape_of s) (same_name x y) refl none in
    true_is_false (sym (same_name_self x) ∙ ap (same_name x) (sym (same_Some y x at)) ∙ other.0)
unmet_newest x y k s none rest (suc i) at = rest (other_newest x y k (shape_of s) (same_name x y) refl none).1 i at

nothing_met : (x : Name) → IsUnmet [] x
nothing_met x zero at = cc
nothing_met x (suc k) at = cc

-- a name that is out of sight is none of those of a store that lends nothing
out_of_sight : (x : Name) (s : Store) → LendNothing s → kind_at x (shape_of s) ≡ None → IsUnmet (names_in s) x
out_of_sight x Bare h e = nothing_met x
out_of_sight x (Slot y (Num n) s) h e = unmet_newest x y ANumber s e (out_of_sight x s h)
out_of_sight x (Slot y (Arr l) s) h e = unmet_newest x y AnArray s e (out_of_sight x s h)
out_of_sight x (Slot y (Stk l) s) h e = unmet_newest x y AStack s e (out_of_sight x s h)
out_of_sight x (Slot y Lent s) h e = absurd h

-- each of the names is new behind those before it
pub unmet_at : (ds : List Declaration) (s : Store) (i : ℕ) (d : Declaration) → LendNothing s → AreNew (shape_of s) ds → i < length ds →
    IsUnmet (names_in (declare (take i ds) s)) (declared_name (get_or ds i d))
unmet_at [] s i d h new l = absurd (omega arith)
unmet_at (e ∷ ds) s zero d h new l = out_of_sight (declared_name e) s h new.0.name
unmet_at (e ∷ ds) s (suc i) d h new l =
    unmet_at ds (declare_one e s) i d (declared_lend_nothing (e ∷ []) s h) (subst (λ g. AreNew g ds) (sym (declared_shape e s)) new.1) (omega arith)

-- ---- what a store becomes

-- nothing yet
pub becomes_itself : (h : StoreState) → IsWhole h → length h.texts ≡ h.declared → Becomes h h (shown_store h)
becomes_itself h whole many = record { shown = refl; texts = many; whole = whole; unwritten = refl }

pub becomes_then : (a b c : StoreState) (s t : Store) → Becomes a b s → Becomes b c t → Becomes a c t
becomes_then a b c s t h k = record { shown = k.shown; texts = k.texts; whole = k.whole; unwritten = k.unwritten ∙ h.unwritten }

-- one name more is declared
pub becomes_declared : (old new : StoreState) (x : Name) (v : Val) → IsWhole old → length old.texts ≡ old.declared → Declares old new x v →
    Becomes old new (Slot x v (shown_store old))
becomes_declared old new x v whole many h =
    let depth : length (names_in old.slots) ≡ old.declared = names_size old.slots ∙ sym whole.declared in
    let now : IsWhole new = record {
      declared = h.declared ∙ ap suc whole.declared ∙ sym (ap size_of h.slots);
      callers = h.callers ∙ whole.callers;
      slots = ap in_slots h.slots ∙ ap (λ (n : ℕ). Slot (slot n) v (in_slots old.slots)) depth ∙ ap (Slot (slot old.declared) v) whole.slots ∙ sym h.slots;
    } in
    record {
      shown = ap (under_names (reverse new.texts)) (whole_in_sight new now ∙ h.slots)
          ∙ ap (λ (g : List Name). under_names g (Slot (slot old.declared) v old.slots)) (ap reverse h.texts ∙ reverse-append old.texts (x ∷ []))
          ∙ ap (λ (s : Store). Slot x v (under_names (reverse old.texts) s)) (sym (whole_in_sight old whole));
      texts = ap length h.texts ∙ length-append old.texts (x ∷ []) ∙ (let e : length old.texts + 1 ≡ suc (length old.texts) = omega arith in e) ∙ ap suc many
          ∙ sym h.declared;
      whole = now;
      unwritten = h.unwritten;
    }

-- what is declared stays
pub becomes_kept : (old new : StoreState) → IsWhole old → length old.texts ≡ old.declared → new ≡ old → Becomes old new (shown_store old)
becomes_kept old new whole many e = subst (λ (h : StoreState). Becomes old h (shown_store old)) (sym e) (becomes_itself old whole many)

rest_size : (s : Store) → size_of (rest_of s) ≡ size_of s - 1
rest_size Bare = refl
rest_size (Slot x v s) = omega arith

rest_slots : (s : Store) → in_slots (rest_of s) ≡ rest_of (in_slots s)
rest_slots Bare = refl
rest_slots (Slot x v s) = refl

-- a list without its first item
abbrev rest_names : List Name → List Name
rest_names [] = []
rest_names (x ∷ g) = g

rest_under : (g : List Name) (s : Store) → under_names (rest_names g) (rest_of s) ≡ rest_of (under_names g s)
rest_under [] Bare = refl
rest_under [] (Slot y v s) = refl
rest_under (x ∷ []) Bare = refl
rest_under (x ∷ y ∷ g) Bare = refl
rest_under (x ∷ g) (Slot y v s) = refl

-- the last text is taken away
last_taken : (ys : List Name) → reverse (take (length (reverse ys) - 1) (reverse ys)) ≡ rest_names ys
last_taken [] = refl
last_taken (y ∷ ys) =
    let all : reverse (y ∷ ys) ≡ reverse ys ++ y ∷ [] = reverse-append (y ∷ []) ys in
    let less : length (reverse (y ∷ ys)) - 1 ≡ length (reverse ys) = ap (λ (l : List Name). length l - 1) all
    ∙ ap (λ (n : ℕ). n - 1) (length-append (reverse ys) (y ∷ [])) ∙ (omega arith) in
    ap (λ (n : ℕ). reverse (take n (reverse (y ∷ ys)))) less ∙ ap (λ (l : List Name). reverse (take (length (reverse ys)) l)) all
    ∙ ap reverse (take_at (reverse ys) (y ∷ []) (length (reverse ys)) refl) ∙ reverse-reverse ys

-- the newest name is taken away
pub becomes_rest : (old new : StoreState) → IsWhole old → length old.texts ≡ old.declared →
    new ≡ state_of (rest_of old.slots) (old.declared - 1) (take (old.declared - 1) old.texts) [] old.writes →
    Becomes old new (rest_of (shown_store old))
becomes_rest old new whole many e =
    let rest : StoreState = state_of (rest_of old.slots) (old.declared - 1) (take (old.declared - 1) old.texts) [] old.writes in
    let now : IsWhole rest =
    record {
      declared = ap (λ (n : ℕ). n - 1) whole.declared ∙ sym (rest_size old.slots);
      callers = refl;
      slots = rest_slots old.slots
          ∙ ap rest_of whole.slots;
    } in
    let texts : reverse (take (old.declared - 1) old.texts) ≡ rest_names (reverse old.texts) =
    ap (λ (n : ℕ). reverse (take (n - 1) old.texts)) (sym many) ∙ subst (λ (l : List Name). reverse (take (length l - 1) l) ≡ rest_names (reverse old.texts))
    (reverse-reverse old.texts) (last_taken (reverse old.texts)) in
    subst (λ (h : StoreState). Becomes old h (rest_of (shown_store old))) (sym e) (record {
      shown = ap (under_names (reverse rest.texts)) (whole_in_sight rest now) ∙ ap (λ (g : List Name). under_names g (rest_of old.slots)) texts
          ∙ rest_under (reverse old.texts) old.slots
          ∙ ap (λ (s : Store). rest_of (under_names (reverse old.texts) s)) (sym (whole_in_sight old whole));
      texts = length-take-le (old.declared - 1) old.texts (omega (arith, many));
      whole = now;
      unwritten = refl;
    })

-- for a store that is the same
pub becomes_same : (a b : StoreState) (s t : Store) → s ≡ t → Becomes a b s → Becomes a b t
becomes_same a b s t e h = subst (Becomes a b) e h
