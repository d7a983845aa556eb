-- What is told once, and what is settled.
use Rattle.std.proofs.Common.{◌≡◌, ℕ, ◌-◌, ◌<◌, ◌≤◌, suc, List, [], ◌∷◌, Option, None, Some, IfSome, IfNone, length}
use Rattle.std.proofs.Common.{get_or, slice_get, slice_set, true, false, refl}
use Rattle.std.proofs.Common.{ap, ◌∙◌, sym, subst, arith, ⊎_elim, vec_len, vec_capacity}
use Rattle.std.proofs.lemmas.Grind.{not_there}
use Rattle.std.proofs.lemmas.List.{set-get_or}
use Rattle.std.proofs.lemmas.Option.{slice_get-get_or, get_or_from_slice_get, slice_get_within}
use Rattle.kernel_audit.specs.Minutes.{Entry, Ended, ended_in}
use Rattle.kernel_audit.specs.Runs.{Machine}
use Rattle.kernel_audit.specs.State.{Idle}
use Rattle.kernel_audit.specs.EndedAt.{StandsAtEnd}
use Rattle.kernel_audit.specs.outcome.Outcome.{Outcome}
use Rattle.kernel_audit.specs.done.Done.{Done}
use Rattle.hall_state.specs.declared.pending_result.PendingResult.{PendingResult}
use Rattle.hall_state.specs.declared.pending_result.LastEnd.{LastEnd}
use Rattle.std.proofs.Common.{◌⊎◌, inl, inr, option_map, string_bytes}
use Rattle.std.specs.Global.{Vec}
use Rattle.kernel_audit.specs.State.{Past}
use Rattle.kernel_audit.specs.Shown.{IsShownOfNode}
use Rattle.kernel_audit.specs.Evaluation.{AreValuesAfter}
use Rattle.kernel_audit.specs.Making.{IsUnderWay}
use Rattle.kernel_audit.specs.Wishes.{WishOf}
use Rattle.kernel_audit.specs.done.NamedValue.{NamedValue}
use Rattle.hall_state.specs.declared.open_result.OpenResult.{OpenResult}
use Rattle.hall_state.specs.PendingResults.{IsTold, IsTakenOut, IsBehind, IsToldOrEndless, HasNoEnd, OpensLast, SettlesLast}
use Rattle.hall_state.specs.LastEnds.{IsLastEnd, EndsNoNumber, StandsAt, IsEndAt, last_of}
use Rattle.hall_state.proofs.Places.{last_added, below_or}
use Rattle.hall_state.proofs.BesidePosts.{last_index, last_outcome}

-- ---- what is told

-- what a telling leaves of one, beside what it tells
pub record IsLeft (kept left : PendingResult) : Type 0 where
  pub ended : left.ended ≡ kept.ended
  pub wishes : left.wishes ≡ kept.wishes

-- what is taken of it
pub record IsTaken (minutes : List Entry) (kept left : PendingResult) (d : Done) : Type 0 where
  pub stands : (place : ℕ) × (kept.ended ≡ Some place) × StandsAt minutes place d
  pub shown : d.shown ≡ kept.shown
  pub values : d.values ≡ kept.values
  pub none_shown : left.shown ≡ None
  pub no_values : left.values.items ≡ []
  pub told : left.is_told ≡ true

pub taken : (minutes : List Entry) (kept left : PendingResult) (r : Option Done)
    → IfSome r (λ d. (place : ℕ) × (kept.ended ≡ Some place) × StandsAt minutes place d) → IfSome r (λ d. d.shown ≡ kept.shown)
    → IfSome r (λ d. d.values ≡ kept.values) → IfSome r (λ d. left.shown ≡ None) → IfSome r (λ d. left.values.items ≡ [])
    → IfSome r (λ d. left.is_told ≡ true) → IfSome r (IsTaken minutes kept left)
taken minutes kept left None stands shown values none empty told = tt
taken minutes kept left (Some d) stands shown values none empty told =
    record { stands = stands; shown = shown; values = values; none_shown = none; no_values = empty; told = told }

pub told : (minutes : List Entry) (es : List PendingResult) (i n : ℕ) (x left : PendingResult) (r : Option Done) → i < length es → i ≡ n - 1
    → IsLeft (get_or es i x) left → IfSome r (IsTaken minutes (get_or es i x) left) → IfSome r (λ d. IsTold minutes es n d (slice_set es i left))
told minutes es i n x left None low same rest t = tt
told minutes es i n x left (Some d) low same rest t = record {
  kept = get_or es i x;
  left = left;
  there = subst (λ (j : ℕ). slice_get es j ≡ Some (get_or es i x)) same (slice_get-get_or es i x low);
  place = t.stands.0;
  was = t.stands.1;
  stands = t.stands.2;
  shown = t.shown;
  values = t.values;
  none_shown = t.none_shown;
  no_values = t.no_values;
  told = t.told;
  ended = rest.ended;
  wishes = rest.wishes;
  others = ap (λ (j : ℕ). slice_set es j left) same;
}

-- where nothing is told all are as they were
pub untold : (es : List PendingResult) (i : ℕ) (x left : PendingResult) (r : Option Done) → IfNone r (left ≡ get_or es i x) →
    IfNone r (slice_set es i left ≡ es)
untold es i x left None same = ap (λ (e : PendingResult). slice_set es i e) same ∙ set-get_or es i x
untold es i x left (Some d) same = tt

-- and nothing was taken down of an end
pub unended : (minutes : List Entry) (es : List PendingResult) (i n : ℕ) (x : PendingResult) (r : Option Done) → i ≡ n - 1
    → IfNone r ((place : ℕ) → (get_or es i x).ended ≡ Some place → IsEndAt minutes place n → ⊥) → IfNone r (HasNoEnd minutes es n)
unended minutes es i n x None at h = λ some e there place ended end.
    let same : get_or es i x ≡ e = get_or_from_slice_get es i e x (subst (λ (j : ℕ). slice_get es j ≡ Some e) (sym at) there) in
    h place (subst (λ (y : PendingResult). y.ended ≡ Some place) (sym same) ended) end
unended minutes es i n x (Some d) at h = tt

-- it was told, or there is none
pub was_told_already : (minutes : List Entry) (es : List PendingResult) (n : ℕ) →
    ((e : PendingResult) → 0 < n → slice_get es (n - 1) ≡ Some e → e.is_told ≡ true) → IsToldOrEndless minutes es n
was_told_already minutes es n h = λ some e there. inl (h e some there)

pub is_endless : (minutes : List Entry) (es : List PendingResult) (n : ℕ) (r : Option Done) → IfNone r (HasNoEnd minutes es n) →
    IfNone r (IsToldOrEndless minutes es n)
is_endless minutes es n None h = λ some e there. inr (h some e there)
is_endless minutes es n (Some d) h = tt

-- of no number, and of one past all, nothing was
pub none_past : (minutes : List Entry) (es : List PendingResult) (i n : ℕ) → i ≡ n - 1 → length es ≤ i → HasNoEnd minutes es n
none_past minutes es i n at far = λ some e there place ended end.
    let low : n - 1 < length es = slice_get_within es (n - 1) e there in absurd (omega (arith, low, at, far))

pub none_zero : (minutes : List Entry) (es : List PendingResult) (n : ℕ) → n ≡ 0 → HasNoEnd minutes es n
none_zero minutes es n is = λ some e there place ended end. absurd (omega (arith, some, is))

-- ---- what is settled

-- the end of a job that has just ended has a number
pub has_number : (m : Machine) (es : List PendingResult) → IsBehind m es → EndsNoNumber (last_of m.minutes) → ⊥
has_number m es b h =
    let entry : Entry = Ended (suc (ended_in b.0)) b.2.outcome b.2.count b.2.node in
    let last : last_of m.minutes ≡ Some entry = subst (λ (l : List Entry). last_of l ≡ Some entry) (sym b.2.written) (last_added b.0 entry) in
    let no_number : suc (ended_in b.0) ≡ 0 = subst EndsNoNumber last h in
    omega (arith, no_number)

pub within : (m : Machine) (es : List PendingResult) (end : LastEnd) → IsBehind m es → IsLastEnd m.minutes end → end.index < length es
within m es end b is =
    let index : end.index ≡ ended_in b.0 = last_index b.0 m end.index end.outcome is.count is.node b.2 is.last in
    ⊎_elim (λ l. l) (λ ge. absurd (not_there b.3 (λ a. omega (arith, index, b.4, a.many, ge)))) (below_or end.index (length es))

-- there is room for values, and none stands there
pub record HasRoom (e : PendingResult) : Type 0 where
  pub empty : e.values.items ≡ []
  pub room : vec_len e.wishes ≤ vec_capacity e.values

are_none : {A : Type 0} (xs : List A) → ((xs ≡ [] → ⊥) → ⊥) → xs ≡ []
are_none [] h = refl
are_none (x ∷ xs) h = absurd (h (λ e. cc e))

pub waits : (m : Machine) (es : List PendingResult) (end : LastEnd) (x : PendingResult) → IsBehind m es → IsLastEnd m.minutes end →
    HasRoom (get_or es end.index x)
waits m es end x b is =
    let index : end.index ≡ ended_in b.0 = last_index b.0 m end.index end.outcome is.count is.node b.2 is.last in
    let e : PendingResult = get_or es end.index x in
    let there : slice_get es end.index ≡ Some e = slice_get-get_or es end.index x (within m es end b is) in record {
      empty = are_none e.values.items (λ some. not_there b.3 (λ a. some (a.waiting end.index e there (omega (arith, index))).empty));
      room = ⊎_elim
          (λ l. absurd (not_there b.3 (λ a. let r = (a.waiting end.index e there (omega (arith, index))).room in omega (arith, l, r))))
          (λ le. le)
          (below_or (vec_capacity e.values) (vec_len e.wishes));
    }

pub stands : (m : Machine) (es : List PendingResult) (end : LastEnd) → IsBehind m es → IsLastEnd m.minutes end → StandsAtEnd end.outcome m.state.past
stands m es end b is =
    subst (λ (o : Outcome). StandsAtEnd o m.state.past) (last_outcome b.0 m (suc end.index) end.outcome is.count is.node b.2 is.last) b.2.stands

pub is_idle : (m : Machine) (es : List PendingResult) → IsBehind m es → m.state.job ≡ Idle
is_idle m es b = b.2.idle

-- what is to be made for it stands under way
pub opens : (m : Machine) (es : List PendingResult) (end : LastEnd) (x left : PendingResult) (r : OpenResult) → IsLastEnd m.minutes end →
    end.index < length es → r.index ≡ end.index → r.number ≡ end.number → r.place ≡ end.place → IsTakenOut (get_or es end.index x) left →
    IsShownOfNode end.outcome m.state.past (option_map string_bytes r.shown) ⊎ (option_map string_bytes r.shown ≡ None) →
    IsUnderWay end.outcome m.state.past (get_or es end.index x).wishes.items r.making → OpensLast m es (slice_set es end.index left) r
opens m es end x left r is low index number place taken shown going = record {
  outcome = end.outcome;
  count = is.count;
  node = is.node;
  last = subst (λ (k : ℕ). last_of m.minutes ≡ Some (Ended (suc k) end.outcome is.count is.node)) (sym index) is.last;
  number = number ∙ is.number ∙ ap suc (sym index);
  place = place ∙ is.place;
  kept = get_or es end.index x;
  left = left;
  there = subst (λ (k : ℕ). slice_get es k ≡ Some (get_or es end.index x)) (sym index) (slice_get-get_or es end.index x low);
  taken = taken;
  others = ap (λ (k : ℕ). slice_set es k left) (sym index);
  is_shown = shown;
  going = going;
}

-- what was made for it is kept
pub settles : (es : List PendingResult) (x left : PendingResult) (r : OpenResult) (values : Vec NamedValue) → r.index < length es →
    left.ended ≡ Some r.place → left.is_told ≡ false → left.shown ≡ r.shown → left.values ≡ values →
    ((o : Outcome) (s : Past) (given : List WishOf) → IsUnderWay o s given r.making → AreValuesAfter o s given values.items) →
    SettlesLast es (slice_set es r.index left) r
settles es x left r values low ended untold shown same made = record {
  kept = get_or es r.index x;
  left = left;
  there = slice_get-get_or es r.index x low;
  ended = ended;
  untold = untold;
  shown = shown;
  values = λ o p given going. subst (λ (v : Vec NamedValue). AreValuesAfter o p given v.items) (sym same) (made o p given going);
  others = refl;
}
