-- What stands beside the posts, as jobs are posted, end and are told.
use Rattle.std.proofs.Common.{◌≡◌, ◌∙◌, ℕ, ◌+◌, ◌-◌, ◌<◌, ◌≤◌, suc, Bool, List, [], ◌∷◌, ◌++◌, Option, None, Some, IfSome, IfNone, true, false, true≢false}
use Rattle.std.proofs.Common.{◌⊎◌, get_or, length, take}
use Rattle.std.proofs.Common.{slice_get, slice_set, option_map, string_bytes, refl, sym, ap, subst, inl, inr, ⊎_elim, arith, append-nil, length-append}
use Rattle.std.proofs.lemmas.Option.{none-some}
use Rattle.std.proofs.lemmas.Grind.{not_there}
use mathlib.Core.List.{IsPrefix}
use mathlib.Core.Logic.{∥∥₁_map, ∥∥₁_map₂}
use Rattle.kernel_audit.specs.Request.{Request}
use Rattle.kernel_audit.specs.Minutes.{Entry, Posted, Ended, posted_in, ended_in}
use Rattle.kernel_audit.specs.Runs.{Machine}
use Rattle.kernel_audit.specs.LegalMinutes.{IsLegalMachine}
use Rattle.kernel_audit.specs.State.{State, Past}
use Rattle.kernel_audit.specs.Shown.{IsShownOfNode}
use Rattle.kernel_audit.specs.Making.{IsUnderWay}
use Rattle.kernel_audit.specs.outcome.Outcome.{Outcome}
use Rattle.kernel_audit.specs.done.Done.{Done}
use Rattle.kernel_audit.specs.done.NamedValue.{NamedValue}
use Rattle.kernel_audit.specs.Wishes.{WishOf}
use Rattle.kernel_audit.proofs.Fronts.{prefix_trans}
use Rattle.kernel_audit.proofs.InOrder.{in_order, no_more_end, fewer_before}
use Rattle.kernel_audit.proofs.Posts.{posted-append, ended-append}
use Rattle.hall_state.specs.LastEnds.{last_of, EndsNowhere}
use Rattle.hall_state.specs.JustEnded.{HasJustEnded}
use Rattle.hall_state.specs.OpenResults.{IsOpen, AreSettled, GoesOn}
use Rattle.hall_state.specs.PendingResults.{AreMadeIn, WereMade, IsWaiting, HasSettled, AreBeside, IsTold, IsUntold, HasNoEnd, OpensLast, SettlesLast}
use Rattle.hall_state.specs.PendingResults.{IsToldOnce, IsToldOrEndless, WasTold, AreKept, AreUntold}
use Rattle.hall_state.specs.declared.open_result.OpenResult.{OpenResult}
use Rattle.hall_state.specs.declared.pending_result.PendingResult.{PendingResult}
use Rattle.hall_state.proofs.Places.{below_or, some_same, there_is, length_set, set_cases, other, append_cases, get_stays, or_stays, or_last, last_added}

-- ---- as minutes go on

made_on : (minutes more : List Entry) (n : ℕ) (o : Outcome) (given : List WishOf) (shown : Option (List ℕ)) (values : List NamedValue) →
    WereMade minutes n o given shown values → WereMade (minutes ++ more) n o given shown values
made_on minutes more n o given shown values w = record {
  machine = w.machine;
  legal = w.legal;
  idle = w.idle;
  before = prefix_trans w.machine.minutes minutes (minutes ++ more) w.before (more, refl);
  count = w.count;
  node = w.node;
  last = w.last;
  made = w.made;
}

settled_on : (minutes more : List Entry) (n : ℕ) (given : List WishOf) (e : PendingResult) → HasSettled minutes n given e →
    HasSettled (minutes ++ more) n given e
settled_on minutes more n given e h = record {
  place = h.place;
  outcome = h.outcome;
  count = h.count;
  node = h.node;
  ended = h.ended;
  there = get_stays minutes more h.place (Ended n h.outcome h.count h.node) h.there;
  made = λ untold. made_on minutes more n h.outcome given (option_map string_bytes e.shown) e.values.items (h.made untold);
  spent = h.spent;
}

-- ---- a new hall

nothing_beside : AreBeside 0 [] [] []
nothing_beside = record {
  many = refl;
  wishes = refl;
  order = omega arith;
  settled = λ i e at low. absurd (none-some e at);
  untaken = λ i e at high. absurd (none-some e at);
  waiting = λ i e at high. absurd (none-some e at);
}

pub beside_new : (minutes : List Entry) (es : List PendingResult) → minutes ≡ [] → es ≡ [] → AreBeside 0 minutes [] es
beside_new minutes es none empty =
    subst (λ (l : List Entry). AreBeside 0 l [] es) (sym none) (subst (λ (l : List PendingResult). AreBeside 0 [] [] l) (sym empty) nothing_beside)

pub settled_new : (m : Machine) → m.minutes ≡ [] → AreSettled 0 m [] None
settled_new m none = ap ended_in none

-- ---- a post

pub beside_posted : (settled : ℕ) (minutes : List Entry) (wished : List (List WishOf)) (es : List PendingResult) (lane : ℕ) (job : Request)
    (given : List WishOf) (e : PendingResult) → ended_in minutes ≤ posted_in minutes → IsWaiting given e → AreBeside settled minutes wished es →
    AreBeside settled (minutes ++ Posted lane job ∷ []) (wished ++ given ∷ []) (es ++ e ∷ [])
beside_posted settled minutes wished es lane job given e le new b =
    let entry : List Entry = Posted lane job ∷ [] in
    let posts : posted_in (minutes ++ entry) ≡ posted_in minutes + 1 = posted-append minutes entry in
    let ends : ended_in (minutes ++ entry) ≡ ended_in minutes + 0 = ended-append minutes entry in
    let many : length es ≡ posted_in minutes = b.many in
    let wishes : length wished ≡ posted_in minutes = b.wishes in
    let order : settled ≤ ended_in minutes = b.order in record {
      many = omega (arith, length-append es (e ∷ []), posts, many);
      wishes = omega (arith, length-append wished (given ∷ []), posts, wishes);
      order = omega (arith, order, ends);
      settled = λ i x at low.
          ⊎_elim
          (λ p. subst (λ (w : List WishOf). HasSettled (minutes ++ entry) (suc i) w x)
          (sym (or_stays wished (given ∷ []) i [] (omega (arith, p.0, many, wishes))))
          (settled_on minutes entry (suc i) (get_or wished i []) x (b.settled i x p.1 low)))
          (λ p. absurd (omega (arith, p.0, low, order, le, many)))
          (append_cases es e i x at);
      untaken = λ i x at high.
          ⊎_elim
          (λ p. b.untaken i x p.1 high)
          (λ p. subst (λ (y : PendingResult). y.ended ≡ None) (sym p.1) new.ended)
          (append_cases es e i x at);
      waiting = λ i x at high.
          ⊎_elim
          (λ p. subst (λ (w : List WishOf). IsWaiting w x)
          (sym (or_stays wished (given ∷ []) i [] (omega (arith, p.0, many, wishes))))
          (b.waiting i x p.1 (omega (arith, high, ends))))
          (λ p.
          let at_end : length wished ≡ i = omega (arith, p.0, many, wishes) in
          let own : get_or (wished ++ given ∷ []) i [] ≡ given =
          subst (λ (k : ℕ). get_or (wished ++ given ∷ []) k [] ≡ given) at_end (or_last wished given []) in
          subst (λ (w : List WishOf). IsWaiting w x) (sym own) (subst (λ (y : PendingResult). IsWaiting given y) (sym p.1) new))
          (append_cases es e i x at);
    }

-- what is under way for an earlier job stays so
pub results_posted : (settled : ℕ) (m next : Machine) (wished : List (List WishOf)) (more : List WishOf) (entry : List Entry) (r : Option OpenResult) →
    next.minutes ≡ m.minutes ++ entry → ended_in entry ≡ 0 → next.state ≡ m.state → ended_in m.minutes ≤ length wished →
    AreSettled settled m wished r → AreSettled settled next (wished ++ more ∷ []) r
results_posted settled m next wished more entry None is none same low h =
    let ends : ended_in (m.minutes ++ entry) ≡ ended_in m.minutes + ended_in entry = ended-append m.minutes entry in
    ap ended_in is ∙ omega (arith, ends, none, h)
results_posted settled m next wished more entry (Some r) is none same low h =
    let ends : ended_in (m.minutes ++ entry) ≡ ended_in m.minutes + ended_in entry = ended-append m.minutes entry in
    let past : next.state.past ≡ m.state.past = ap (λ (s : State). s.past) same in
    let within : settled < length wished = omega (arith, low, h.ended) in
    let given : get_or (wished ++ more ∷ []) settled [] ≡ get_or wished settled [] = or_stays wished (more ∷ []) settled [] within in
    let was = h.was in record {
      ended = ap ended_in is ∙ omega (arith, ends, none, h.ended);
      number = h.number;
      index = h.index;
      idle = ap (λ (s : State). s.job) same ∙ h.idle;
      outcome = h.outcome;
      was = record {
        machine = was.machine;
        legal = was.legal;
        idle = was.idle;
        before = subst (λ (l : List Entry). IsPrefix was.machine.minutes l) (sym is)
            (prefix_trans was.machine.minutes m.minutes (m.minutes ++ entry) was.before (entry, refl));
        count = was.count;
        node = was.node;
        last = was.last;
        past = was.past ∙ sym past;
      };
      place = subst (λ (l : List Entry). slice_get l r.place ≡ Some (Ended (suc settled) h.outcome was.count was.node)) (sym is)
          (get_stays m.minutes entry r.place (Ended (suc settled) h.outcome was.count was.node) h.place);
      is_shown = subst (λ (p : Past). IsShownOfNode h.outcome p (option_map string_bytes r.shown) ⊎ (option_map string_bytes r.shown ≡ None)) (sym past)
          h.is_shown;
      going = subst (λ (p : Past). IsUnderWay h.outcome p (get_or (wished ++ more ∷ []) settled []) r.making) (sym past)
          (subst (λ (w : List WishOf). IsUnderWay h.outcome m.state.past w r.making) (sym given) h.going);
    }

-- and so does a shutdown leave it
pub results_shut : (settled : ℕ) (m next : Machine) (wished : List (List WishOf)) (r : Option OpenResult) →
    next.minutes ≡ m.minutes → next.state ≡ m.state → AreSettled settled m wished r → AreSettled settled next wished r
results_shut settled m next wished None is same h = ap ended_in is ∙ h
results_shut settled m next wished (Some r) is same h =
    let past : next.state.past ≡ m.state.past = ap (λ (s : State). s.past) same in
    let was = h.was in record {
      ended = ap ended_in is ∙ h.ended;
      number = h.number;
      index = h.index;
      idle = ap (λ (s : State). s.job) same ∙ h.idle;
      outcome = h.outcome;
      was = record {
        machine = was.machine;
        legal = was.legal;
        idle = was.idle;
        before = subst (λ (l : List Entry). IsPrefix was.machine.minutes l) (sym is) was.before;
        count = was.count;
        node = was.node;
        last = was.last;
        past = was.past ∙ sym past;
      };
      place = subst (λ (l : List Entry). slice_get l r.place ≡ Some (Ended (suc settled) h.outcome was.count was.node)) (sym is) h.place;
      is_shown = subst (λ (p : Past). IsShownOfNode h.outcome p (option_map string_bytes r.shown) ⊎ (option_map string_bytes r.shown ≡ None)) (sym past)
          h.is_shown;
      going = subst (λ (p : Past). IsUnderWay h.outcome p (get_or wished settled []) r.making) (sym past) h.going;
    }

-- ---- an end

abbrev number_at : Entry → ℕ
number_at (Posted lane job) = 0
number_at (Ended n o count node) = n

abbrev outcome_at : Outcome → Entry → Outcome
outcome_at other (Posted lane job) = other
outcome_at other (Ended n o count node) = o

-- more was posted than has ended where one more can end
pub one_is_open : (before : List Entry) (m : Machine) → IsLegalMachine m → HasJustEnded before m → ended_in before < posted_in before
one_is_open before m legal ended =
    let entry : List Entry = Ended (suc (ended_in before)) ended.outcome ended.count ended.node ∷ [] in
    let posts : posted_in m.minutes ≡ posted_in before + 0 = ap posted_in ended.written ∙ posted-append before entry in
    let ends : ended_in m.minutes ≡ ended_in before + 1 = ap ended_in ended.written ∙ ended-append before entry in
    let le : ended_in m.minutes ≤ posted_in m.minutes = no_more_end m legal.minutes in
    omega (arith, posts, ends, le)

-- the end that was written down last has the number of the earliest job that is open
pub last_index : (before : List Entry) (m : Machine) (index : ℕ) (o : Outcome) (count node : ℕ) → HasJustEnded before m →
    last_of m.minutes ≡ Some (Ended (suc index) o count node) → index ≡ ended_in before
last_index before m index o count node ended is =
    let entry : Entry = Ended (suc (ended_in before)) ended.outcome ended.count ended.node in
    let last : last_of m.minutes ≡ Some entry = subst (λ (l : List Entry). last_of l ≡ Some entry) (sym ended.written) (last_added before entry) in
    let numbers : suc index ≡ suc (ended_in before) = ap number_at (some_same (sym is ∙ last)) in
    omega (arith, numbers)

-- and the outcome with which the machine stands there
pub last_outcome : (before : List Entry) (m : Machine) (number : ℕ) (o : Outcome) (count node : ℕ) → (ended : HasJustEnded before m) →
    last_of m.minutes ≡ Some (Ended number o count node) → ended.outcome ≡ o
last_outcome before m number o count node ended is =
    let entry : Entry = Ended (suc (ended_in before)) ended.outcome ended.count ended.node in
    let last : last_of m.minutes ≡ Some entry = subst (λ (l : List Entry). last_of l ≡ Some entry) (sym ended.written) (last_added before entry) in
    ap (outcome_at o) (some_same (sym last ∙ is))

-- a job has just ended: what stands beside its post is taken out, and stands under way
pub beside_opened : (before : List Entry) (wished : List (List WishOf)) (es next : List PendingResult) (m : Machine) (r : OpenResult) →
    HasJustEnded before m → AreBeside (ended_in before) before wished es → OpensLast m es next r → AreBeside (ended_in before) m.minutes wished next
beside_opened before wished es next m r ended b s =
    let entry : List Entry = Ended (suc (ended_in before)) ended.outcome ended.count ended.node ∷ [] in
    let index : r.index ≡ ended_in before = last_index before m r.index s.outcome s.count s.node ended s.last in
    let posts : posted_in m.minutes ≡ posted_in before + 0 = ap posted_in ended.written ∙ posted-append before entry in
    let ends : ended_in m.minutes ≡ ended_in before + 1 = ap ended_in ended.written ∙ ended-append before entry in
    let many : length es ≡ posted_in before = b.many in
    let wishes : length wished ≡ posted_in before = b.wishes in
    let was : s.kept.ended ≡ None = b.untaken r.index s.kept s.there (omega (arith, index)) in record {
      many = omega (arith, ap length s.others, length_set es r.index s.left, many, posts);
      wishes = omega (arith, wishes, posts);
      order = omega (arith, ends);
      settled = λ i x at low.
          ⊎_elim
          (λ p. absurd (omega (arith, p.0, low, index)))
          (λ p. subst (λ (l : List Entry). HasSettled l (suc i) (get_or wished i []) x) (sym ended.written)
          (settled_on before entry (suc i) (get_or wished i []) x (b.settled i x p.1 low)))
          (set_cases es r.index i s.left x (subst (λ (l : List PendingResult). slice_get l i ≡ Some x) s.others at));
      untaken = λ i x at high.
          ⊎_elim
          (λ p. subst (λ (y : PendingResult). y.ended ≡ None) (sym p.1) (s.taken.ended ∙ was))
          (λ p. b.untaken i x p.1 high)
          (set_cases es r.index i s.left x (subst (λ (l : List PendingResult). slice_get l i ≡ Some x) s.others at));
      waiting = λ i x at high.
          ⊎_elim
          (λ p. absurd (omega (arith, p.0, high, ends, index)))
          (λ p. b.waiting i x p.1 (omega (arith, high, ends)))
          (set_cases es r.index i s.left x (subst (λ (l : List PendingResult). slice_get l i ≡ Some x) s.others at));
    }

pub results_opened : (before : List Entry) (wished : List (List WishOf)) (es next : List PendingResult) (m : Machine) (r : OpenResult) → IsLegalMachine m →
    HasJustEnded before m → AreBeside (ended_in before) before wished es → OpensLast m es next r → AreSettled (ended_in before) m wished (Some r)
results_opened before wished es next m r legal ended b s =
    let entry : List Entry = Ended (suc (ended_in before)) ended.outcome ended.count ended.node ∷ [] in
    let index : r.index ≡ ended_in before = last_index before m r.index s.outcome s.count s.node ended s.last in
    let ends : ended_in m.minutes ≡ ended_in before + 1 = ap ended_in ended.written ∙ ended-append before entry in
    let waits : IsWaiting (get_or wished r.index []) s.kept = b.waiting r.index s.kept s.there (omega (arith, index)) in
    let last : last_of m.minutes ≡ Some (Ended (suc (ended_in before)) s.outcome s.count s.node) =
    subst (λ (k : ℕ). last_of m.minutes ≡ Some (Ended (suc k) s.outcome s.count s.node)) index s.last in
    let given : s.kept.wishes.items ≡ get_or wished (ended_in before) [] =
    subst (λ (k : ℕ). s.kept.wishes.items ≡ get_or wished k []) index waits.wishes in record {
      ended = omega (arith, ends);
      number = s.number ∙ ap suc index;
      index = index;
      idle = ended.idle;
      outcome = s.outcome;
      was = record {
        machine = m;
        legal = legal;
        idle = ended.idle;
        before = ([], append-nil m.minutes);
        count = s.count;
        node = s.node;
        last = last;
        past = refl;
      };
      place = subst (λ (k : ℕ). slice_get m.minutes k ≡ Some (Ended (suc (ended_in before)) s.outcome s.count s.node)) (sym s.place) last;
      is_shown = s.is_shown;
      going = subst (λ (w : List WishOf). IsUnderWay s.outcome m.state.past w r.making) given s.going;
    }

-- ---- what is under way

-- more of it is made
pub results_on : (settled : ℕ) (m : Machine) (wished : List (List WishOf)) (old new : OpenResult) → GoesOn m.state.past old new →
    AreSettled settled m wished (Some old) → AreSettled settled m wished (Some new)
results_on settled m wished old new g h = record {
  ended = h.ended;
  number = g.number ∙ h.number;
  index = g.index ∙ h.index;
  idle = h.idle;
  outcome = h.outcome;
  was = h.was;
  place = subst (λ (k : ℕ). slice_get m.minutes k ≡ Some (Ended (suc settled) h.outcome h.was.count h.was.node)) (sym g.place) h.place;
  is_shown = subst (λ o. IsShownOfNode h.outcome m.state.past (option_map string_bytes o) ⊎ (option_map string_bytes o ≡ None)) (sym g.shown) h.is_shown;
  going = g.going h.outcome (get_or wished settled []) h.going;
}

new_settled : (settled : ℕ) (wished : List (List WishOf)) (es next : List PendingResult) (m : Machine) (r : OpenResult) →
    (s : SettlesLast es next r) → IsOpen settled m wished r → HasSettled m.minutes (suc settled) (get_or wished settled []) s.left
new_settled settled wished es next m r s h = record {
  place = r.place;
  outcome = h.outcome;
  count = h.was.count;
  node = h.was.node;
  ended = s.ended;
  there = h.place;
  made = λ untold. record {
    machine = h.was.machine;
    legal = h.was.legal;
    idle = h.was.idle;
    before = h.was.before;
    count = h.was.count;
    node = h.was.node;
    last = h.was.last;
    made = subst (λ (p : Past). AreMadeIn p h.outcome (get_or wished settled []) (option_map string_bytes s.left.shown) s.left.values.items) (sym h.was.past)
        (record {
          is_shown = subst (λ o. IsShownOfNode h.outcome m.state.past (option_map string_bytes o) ⊎ (option_map string_bytes o ≡ None)) (sym s.shown)
              h.is_shown;
          are_values = s.values h.outcome m.state.past (get_or wished settled []) h.going;
        });
  };
  spent = λ told. absurd (true≢false (sym told ∙ s.untold));
}

-- all of it is there
pub beside_settled : (settled : ℕ) (wished : List (List WishOf)) (es next : List PendingResult) (m : Machine) (r : OpenResult) →
    AreBeside settled m.minutes wished es → IsOpen settled m wished r → SettlesLast es next r → AreBeside (suc settled) m.minutes wished next
beside_settled settled wished es next m r b h s =
    let index : r.index ≡ settled = h.index in
    let ended : ended_in m.minutes ≡ suc settled = h.ended in
    let new : HasSettled m.minutes (suc settled) (get_or wished settled []) s.left = new_settled settled wished es next m r s h in record {
      many = ap length s.others ∙ length_set es r.index s.left ∙ b.many;
      wishes = b.wishes;
      order = omega (arith, ended);
      settled = λ i x at low.
          ⊎_elim
          (λ p. subst (λ (y : PendingResult). HasSettled m.minutes (suc i) (get_or wished i []) y) (sym p.1)
          (subst (λ (k : ℕ). HasSettled m.minutes (suc k) (get_or wished k []) s.left) (sym (p.0 ∙ index)) new))
          (λ p.
          let lower : i < settled = ⊎_elim (λ l. l) (λ l. absurd (p.0 (omega (arith, l, low, index)))) (below_or i settled) in
          b.settled i x p.1 lower)
          (set_cases es r.index i s.left x (subst (λ (l : List PendingResult). slice_get l i ≡ Some x) s.others at));
      untaken = λ i x at high.
          ⊎_elim
          (λ p. absurd (omega (arith, p.0, high, index)))
          (λ p. b.untaken i x p.1 (omega (arith, high)))
          (set_cases es r.index i s.left x (subst (λ (l : List PendingResult). slice_get l i ≡ Some x) s.others at));
      waiting = λ i x at high.
          ⊎_elim
          (λ p. absurd (omega (arith, p.0, high, ended, index)))
          (λ p. b.waiting i x p.1 high)
          (set_cases es r.index i s.left x (subst (λ (l : List PendingResult). slice_get l i ≡ Some x) s.others at));
    }

pub results_settled : (settled : ℕ) (m : Machine) (wished : List (List WishOf)) (r : OpenResult) → IsOpen settled m wished r →
    AreSettled (suc settled) m wished None
results_settled settled m wished r h = h.ended

-- where nothing is under way all are settled
pub all_settled : (settled : ℕ) (m : Machine) (wished : List (List WishOf)) (r : Option OpenResult) → r ≡ None → ∥ AreSettled settled m wished r ∥₁ →
    ended_in m.minutes ≡ settled
all_settled settled m wished r none h =
    let is : ∥ (ended_in m.minutes ≡ settled) ∥₁ = subst (λ (o : Option OpenResult). ∥ AreSettled settled m wished o ∥₁) none h in
    ⊎_elim
    (λ l. absurd (not_there is (λ e. omega (arith, l, e))))
    (λ ge. ⊎_elim
    (λ l. absurd (not_there is (λ e. omega (arith, l, e))))
    (λ le. omega (arith, ge, le))
    (below_or settled (ended_in m.minutes)))
    (below_or (ended_in m.minutes) settled)

-- ---- what is told

-- of what was taken down as ended the result is settled
has_ended : (settled : ℕ) (minutes : List Entry) (wished : List (List WishOf)) (es : List PendingResult) (i : ℕ) (e : PendingResult) (place : ℕ) →
    AreBeside settled minutes wished es → slice_get es i ≡ Some e → e.ended ≡ Some place → i < settled
has_ended settled minutes wished es i e place b at was =
    ⊎_elim (λ l. l) (λ l. absurd (none-some place (sym (b.untaken i e at l) ∙ was))) (below_or i settled)

pub beside_told : (settled : ℕ) (minutes : List Entry) (wished : List (List WishOf)) (es next : List PendingResult) (n : ℕ) (d : Done) →
    AreBeside settled minutes wished es → IsTold minutes es n d next → AreBeside settled minutes wished next
beside_told settled minutes wished es next n d b t =
    let done : n - 1 < settled = has_ended settled minutes wished es (n - 1) t.kept t.place b t.there t.was in
    let order : settled ≤ ended_in minutes = b.order in
    let old : HasSettled minutes (suc (n - 1)) (get_or wished (n - 1) []) t.kept = b.settled (n - 1) t.kept t.there done in
    let new : HasSettled minutes (suc (n - 1)) (get_or wished (n - 1) []) t.left = record {
      place = old.place;
      outcome = old.outcome;
      count = old.count;
      node = old.node;
      ended = t.ended ∙ old.ended;
      there = old.there;
      made = λ untold. absurd (true≢false (sym t.told ∙ untold));
      spent = λ told. (t.none_shown, t.no_values);
    } in record {
      many = ap length t.others ∙ length_set es (n - 1) t.left ∙ b.many;
      wishes = b.wishes;
      order = b.order;
      settled = λ i x at low.
          ⊎_elim
          (λ p. subst (λ (y : PendingResult). HasSettled minutes (suc i) (get_or wished i []) y) (sym p.1)
          (subst (λ (k : ℕ). HasSettled minutes (suc k) (get_or wished k []) t.left) (sym p.0) new))
          (λ p. b.settled i x p.1 low)
          (set_cases es (n - 1) i t.left x (subst (λ (l : List PendingResult). slice_get l i ≡ Some x) t.others at));
      untaken = λ i x at high.
          ⊎_elim
          (λ p. absurd (omega (arith, p.0, high, done)))
          (λ p. b.untaken i x p.1 high)
          (set_cases es (n - 1) i t.left x (subst (λ (l : List PendingResult). slice_get l i ≡ Some x) t.others at));
      waiting = λ i x at high.
          ⊎_elim
          (λ p. absurd (omega (arith, p.0, high, done, order)))
          (λ p. b.waiting i x p.1 high)
          (set_cases es (n - 1) i t.left x (subst (λ (l : List PendingResult). slice_get l i ≡ Some x) t.others at));
    }

-- what is told to the first is what was made of the wishes that were posted
pub made_of_told : (settled : ℕ) (minutes : List Entry) (wished : List (List WishOf)) (es next : List PendingResult) (n : ℕ) (d : Done) →
    AreBeside settled minutes wished es → IsUntold es n → IsTold minutes es n d next →
    WereMade minutes d.number d.outcome (get_or wished (n - 1) []) (option_map string_bytes d.shown) d.values.items
made_of_told settled minutes wished es next n d b untold t =
    let given : List WishOf = get_or wished (n - 1) [] in
    let done : n - 1 < settled = has_ended settled minutes wished es (n - 1) t.kept t.place b t.there t.was in
    let h : HasSettled minutes (suc (n - 1)) given t.kept = b.settled (n - 1) t.kept t.there done in
    let place : t.place ≡ h.place = some_same (sym t.was ∙ h.ended) in
    let stands : slice_get minutes h.place ≡ Some (Ended d.number d.outcome d.count d.node) =
    subst (λ (k : ℕ). slice_get minutes k ≡ Some (Ended d.number d.outcome d.count d.node)) place t.stands in
    let same : Ended (suc (n - 1)) h.outcome h.count h.node ≡ Ended d.number d.outcome d.count d.node = some_same (sym h.there ∙ stands) in
    let made : WereMade minutes (suc (n - 1)) h.outcome given (option_map string_bytes t.kept.shown) t.kept.values.items =
    h.made (untold t.kept t.there) in
    subst (λ (v : List NamedValue). WereMade minutes d.number d.outcome given (option_map string_bytes d.shown) v) (ap (λ v. v.items) (sym t.values))
    (subst (λ (s : Option (List ℕ)). WereMade minutes d.number d.outcome given s t.kept.values.items) (ap (option_map string_bytes) (sym t.shown))
    (subst (λ (o : Outcome). WereMade minutes d.number o given (option_map string_bytes t.kept.shown) t.kept.values.items) (ap (outcome_at d.outcome) same)
    (subst (λ (k : ℕ). WereMade minutes k h.outcome given (option_map string_bytes t.kept.shown) t.kept.values.items) (ap number_at same) made)))

-- to whom it is told later nothing is told of it
pub told_once : (settled : ℕ) (minutes : List Entry) (wished : List (List WishOf)) (es next : List PendingResult) (n : ℕ) (d : Done) →
    AreBeside settled minutes wished es → IsTold minutes es n d next → IsToldOnce minutes (get_or wished (n - 1) []) d
told_once settled minutes wished es next n d b t = by_told t.kept.is_told refl
  where
    by_told : (told : Bool) → t.kept.is_told ≡ told → IsToldOnce minutes (get_or wished (n - 1) []) d
    by_told false is =
        inl (made_of_told settled minutes wished es next n d b
        (λ e there. subst (λ (y : PendingResult). y.is_told ≡ false) (some_same (sym t.there ∙ there)) is) t)
    by_told true is =
        let done : n - 1 < settled = has_ended settled minutes wished es (n - 1) t.kept t.place b t.there t.was in
        let nothing = (b.settled (n - 1) t.kept t.there done).spent is in
        inr (t.shown ∙ nothing.0, ap (λ v. v.items) t.values ∙ nothing.1)

-- where nothing was taken down of an end that is settled there is none
pub ends_nowhere_settled : (settled : ℕ) (m : Machine) (wished : List (List WishOf)) (es : List PendingResult) (n : ℕ) → IsLegalMachine m →
    n ≤ settled → AreBeside settled m.minutes wished es → HasNoEnd m.minutes es n → EndsNowhere m.minutes n
ends_nowhere_settled settled m wished es n legal low b none = λ place end.
    let number : n ≡ suc (ended_in (take place m.minutes)) = in_order m legal.minutes place n end.0 end.1 end.2 end.3 in
    let fewer : ended_in (take place m.minutes) < ended_in m.minutes = fewer_before m.minutes place n end.0 end.1 end.2 end.3 in
    let le : ended_in m.minutes ≤ posted_in m.minutes = no_more_end m legal.minutes in
    let many : length es ≡ posted_in m.minutes = b.many in
    let done : n - 1 < ended_in m.minutes = omega (arith, number, fewer) in
    let x = there_is es (n - 1) (omega (arith, done, le, many)) in
    let h : HasSettled m.minutes (suc (n - 1)) (get_or wished (n - 1) []) x.0 = b.settled (n - 1) x.0 x.1 (omega (arith, number, low)) in
    let own : suc (n - 1) ≡ n = omega (arith, number) in
    none (omega (arith, number)) x.0 x.1 h.place h.ended
    (h.outcome, h.count, h.node, subst (λ (k : ℕ). slice_get m.minutes h.place ≡ Some (Ended k h.outcome h.count h.node)) own h.there)

-- where all is settled, there is none at all
pub ends_nowhere : (settled : ℕ) (m : Machine) (wished : List (List WishOf)) (es : List PendingResult) (n : ℕ) → IsLegalMachine m →
    ended_in m.minutes ≡ settled → AreBeside settled m.minutes wished es → HasNoEnd m.minutes es n → EndsNowhere m.minutes n
ends_nowhere settled m wished es n legal all b none = λ place end.
    let number : n ≡ suc (ended_in (take place m.minutes)) = in_order m legal.minutes place n end.0 end.1 end.2 end.3 in
    let fewer : ended_in (take place m.minutes) < ended_in m.minutes = fewer_before m.minutes place n end.0 end.1 end.2 end.3 in
    ends_nowhere_settled settled m wished es n legal (omega (arith, number, fewer, all)) b none place end

-- ---- by what is answered

pub beside_on : (settled : ℕ) (minutes : List Entry) (wished : List (List WishOf)) (es next : List PendingResult) (n : ℕ) (r : Option Done) →
    ∥ AreBeside settled minutes wished es ∥₁ → IfSome r (λ d. IsTold minutes es n d next) → IfNone r (next ≡ es) → ∥ AreBeside settled minutes wished next ∥₁
beside_on settled minutes wished es next n None b told same = subst (λ (l : List PendingResult). ∥ AreBeside settled minutes wished l ∥₁) (sym same) b
beside_on settled minutes wished es next n (Some d) b told same = ∥∥₁_map b (λ a. beside_told settled minutes wished es next n d a told)

pub first_made : (settled : ℕ) (minutes : List Entry) (wished : List (List WishOf)) (es next : List PendingResult) (n : ℕ) (r : Option Done) (Q : Type 0) →
    ∥ AreBeside settled minutes wished es ∥₁ → IfSome r (λ d. IsUntold es n) → IfSome r (λ d. IsTold minutes es n d next) →
    IfSome r (λ d. Q → ∥ WereMade minutes d.number d.outcome (get_or wished (n - 1) []) (option_map string_bytes d.shown) d.values.items ∥₁)
first_made settled minutes wished es next n None Q b untold told = tt
first_made settled minutes wished es next n (Some d) Q b untold told = λ _. ∥∥₁_map b (λ a. made_of_told settled minutes wished es next n d a untold told)

pub once_told : (settled : ℕ) (minutes : List Entry) (wished : List (List WishOf)) (es next : List PendingResult) (n : ℕ) (r : Option Done) →
    ∥ AreBeside settled minutes wished es ∥₁ → IfSome r (λ d. IsTold minutes es n d next) →
    IfSome r (λ d. ∥ IsToldOnce minutes (get_or wished (n - 1) []) d ∥₁)
once_told settled minutes wished es next n None b told = tt
once_told settled minutes wished es next n (Some d) b told = ∥∥₁_map b (λ a. told_once settled minutes wished es next n d a told)

-- who is not the first is told no more
pub not_first : (r : Option Done) (first : Bool) (P : Done → Type 0) → first ≡ false → IfSome r (λ d. first ≡ true → P d)
not_first None first P later = tt
not_first (Some d) first P later = λ now. absurd (true≢false (sym now ∙ later))

pub is_first : (r : Option Done) (first : Bool) (P : Type 0) → first ≡ true → IfNone r (first ≡ false → P)
is_first None first P now = λ later. absurd (true≢false (sym now ∙ later))
is_first (Some d) first P now = tt

pub nowhere : (settled : ℕ) (m : Machine) (wished : List (List WishOf)) (es : List PendingResult) (n : ℕ) (r : Option Done) (under_way : Option OpenResult)
    (Q : Type 0) → IsLegalMachine m → ∥ AreBeside settled m.minutes wished es ∥₁ → ∥ AreSettled settled m wished under_way ∥₁ →
    IfNone r (HasNoEnd m.minutes es n) → IfNone r (Q → under_way ≡ None → EndsNowhere m.minutes n)
nowhere settled m wished es n None under_way Q legal b results none = λ _ nothing place end.
    not_there b (λ a. ends_nowhere settled m wished es n legal (all_settled settled m wished under_way nothing results) a none place end)
nowhere settled m wished es n (Some d) under_way Q legal b results none = tt

pub nowhere_settled : (settled : ℕ) (m : Machine) (wished : List (List WishOf)) (es : List PendingResult) (n : ℕ) (r : Option Done)
    (Q : Type 0) → IsLegalMachine m → ∥ AreBeside settled m.minutes wished es ∥₁ →
    IfNone r (HasNoEnd m.minutes es n) → IfNone r (Q → n ≤ settled → EndsNowhere m.minutes n)
nowhere_settled settled m wished es n None Q legal b none = λ _ low place end.
    not_there b (λ a. ends_nowhere_settled settled m wished es n legal low a none place end)
nowhere_settled settled m wished es n (Some d) Q legal b none = tt

-- to the first all is told that is settled and was not told
pub first_told : (settled : ℕ) (minutes : List Entry) (wished : List (List WishOf)) (es : List PendingResult) (n : ℕ) (r : Option Done) (Q : Type 0) →
    ∥ AreBeside settled minutes wished es ∥₁ → IfNone r (IsToldOrEndless minutes es n) → IfNone r (Q → WasTold settled es n)
first_told settled minutes wished es n None Q b h = λ _ e some le there.
    ⊎_elim (λ told. told)
    (λ endless.
    absurd (not_there b (λ a.
    let own : suc (n - 1) ≡ n = omega (arith, some) in
    let s : HasSettled minutes (suc (n - 1)) (get_or wished (n - 1) []) e = a.settled (n - 1) e there (omega (arith, le, some)) in
    endless s.place s.ended
    (s.outcome, s.count, s.node, subst (λ (k : ℕ). slice_get minutes s.place ≡ Some (Ended k s.outcome s.count s.node)) own s.there))))
    (h some e there)
first_told settled minutes wished es n (Some d) Q b h = tt

-- ---- what stays

-- at another place than that of the one which is changed
pub kept_but : (es : List PendingResult) (k i : ℕ) (e : PendingResult) → k ≤ i → AreKept k es (slice_set es i e)
kept_but es k i e le = λ j low. other es i j e (λ same. omega (arith, same, low, le))

pub kept_then : (k l : ℕ) (es fs gs : List PendingResult) → k ≤ l → AreKept k es fs → AreKept l fs gs → AreKept k es gs
kept_then k l es fs gs le h g = λ i low. g i (omega (arith, low, le)) ∙ h i low

-- ---- what is under way, as far as contracts see it

module _ (settled : ℕ) (m : Machine) (wished : List (List WishOf)) (r : OpenResult) where
  pub open_is : (o : Option OpenResult) → o ≡ Some r → ∥ AreSettled settled m wished o ∥₁ → ∥ IsOpen settled m wished r ∥₁
  open_is o is h = subst (λ (x : Option OpenResult). ∥ AreSettled settled m wished x ∥₁) is h

  pub goes_on : (old : OpenResult) → GoesOn m.state.past old r → ∥ IsOpen settled m wished old ∥₁ → ∥ IsOpen settled m wished r ∥₁
  goes_on old g h = ∥∥₁_map h (λ i. results_on settled m wished old r g i)

  pub index_is : ∥ IsOpen settled m wished r ∥₁ → r.index ≡ settled
  index_is h =
      ⊎_elim
      (λ l. absurd (not_there h (λ i. omega (arith, l, i.index))))
      (λ ge. ⊎_elim
      (λ l. absurd (not_there h (λ i. omega (arith, l, i.index))))
      (λ le. omega (arith, ge, le))
      (below_or settled r.index))
      (below_or r.index settled)

  pub number_is : ∥ IsOpen settled m wished r ∥₁ → r.number ≡ suc settled
  number_is h =
      ⊎_elim
      (λ l. absurd (not_there h (λ i. omega (arith, l, i.number))))
      (λ ge. ⊎_elim
      (λ l. absurd (not_there h (λ i. omega (arith, l, i.number))))
      (λ le. omega (arith, ge, le))
      (below_or (suc settled) r.number))
      (below_or r.number (suc settled))

  -- a pending result stands beside its post
  pub stands_there : (es : List PendingResult) → IsLegalMachine m → ∥ AreBeside settled m.minutes wished es ∥₁ → ∥ IsOpen settled m wished r ∥₁ →
      r.index < length es
  stands_there es legal b h =
      let more : ended_in m.minutes ≤ posted_in m.minutes = no_more_end m legal.minutes in
      ⊎_elim
      (λ l. l)
      (λ ge. absurd (not_there b (λ a. not_there h (λ i. omega (arith, ge, a.many, i.index, i.ended, more)))))
      (below_or r.index (length es))

  -- all of it is there, and kept: one result more is settled
  module _ (es next : List PendingResult) (s : SettlesLast es next r) where
    pub beside_then : ∥ AreBeside settled m.minutes wished es ∥₁ → ∥ IsOpen settled m wished r ∥₁ → ∥ AreBeside r.number m.minutes wished next ∥₁
    beside_then b h =
        subst (λ (k : ℕ). ∥ AreBeside k m.minutes wished next ∥₁) (sym (number_is h))
        (∥∥₁_map₂ b h (λ a i. beside_settled settled wished es next m r a i s))

    pub results_then : (o : Option OpenResult) → o ≡ None → ∥ IsOpen settled m wished r ∥₁ → ∥ AreSettled r.number m wished o ∥₁
    results_then o none h =
        subst (λ (x : Option OpenResult). ∥ AreSettled r.number m wished x ∥₁) (sym none)
        (subst (λ (k : ℕ). ∥ AreSettled k m wished None ∥₁) (sym (number_is h)) (∥∥₁_map h (λ i. results_settled settled m wished r i)))

    pub kept_then_too : ∥ IsOpen settled m wished r ∥₁ → AreKept settled es next
    kept_then_too h =
        let index : r.index ≡ settled = index_is h in
        subst (λ (l : List PendingResult). AreKept settled es l) (sym s.others) (kept_but es settled r.index s.left (omega (arith, index)))

    pub untold_then : ∥ IsOpen settled m wished r ∥₁ → AreUntold settled r.number next
    untold_then h = λ i e le low there.
        ⊎_elim
        (λ p. subst (λ (y : PendingResult). y.is_told ≡ false) (sym p.1) s.untold)
        (λ p. absurd (p.0 (omega (arith, le, low, index_is h, number_is h))))
        (set_cases es r.index i s.left e (subst (λ (l : List PendingResult). slice_get l i ≡ Some e) s.others there))

-- not more are settled than have ended
pub order_from : (settled : ℕ) (minutes : List Entry) (wished : List (List WishOf)) (es : List PendingResult) → ∥ AreBeside settled minutes wished es ∥₁ →
    settled ≤ ended_in minutes
order_from settled minutes wished es b =
    ⊎_elim (λ l. absurd (not_there b (λ a. omega (arith, l, a.order)))) (λ le. le) (below_or (ended_in minutes) settled)

-- as a job has just ended the results that are settled stay
pub opens_kept : (k : ℕ) (m : Machine) (es next : List PendingResult) (r : OpenResult) → r.index ≡ k → OpensLast m es next r → AreKept k es next
opens_kept k m es next r index s =
    subst (λ (l : List PendingResult). AreKept k es l) (sym s.others) (kept_but es k r.index s.left (omega (arith, index)))

-- what was not told is not told where it stays
pub untold_through : (k l n : ℕ) (fs gs : List PendingResult) → AreUntold k l fs → AreKept l fs gs → AreUntold l n gs → AreUntold k n gs
untold_through k l n fs gs u keep v = λ i e le low there.
    ⊎_elim (λ lt. u i e le lt (sym (keep i lt) ∙ there)) (λ ge. v i e ge low there) (below_or i l)

-- as many wishes are noted as there are posts
pub many_wishes : (settled : ℕ) (minutes : List Entry) (wished : List (List WishOf)) (es : List PendingResult) → ∥ AreBeside settled minutes wished es ∥₁ →
    length wished ≡ posted_in minutes
many_wishes settled minutes wished es b =
    ⊎_elim
    (λ l. absurd (not_there b (λ a. omega (arith, l, a.wishes))))
    (λ ge. ⊎_elim
    (λ l. absurd (not_there b (λ a. omega (arith, l, a.wishes))))
    (λ le. omega (arith, ge, le))
    (below_or (posted_in minutes) (length wished)))
    (below_or (length wished) (posted_in minutes))
