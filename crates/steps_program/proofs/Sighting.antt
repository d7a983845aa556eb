-- The names in sight with their values, one after the other.
use Rattle.std.proofs.Common.{◌≡◌, ℕ, suc, ◌+◌, ◌-◌, ◌<◌, ◌≤◌, List, [], ◌∷◌, ◌++◌, length, take, get_or, refl}
use Rattle.std.proofs.Common.{ap, ◌∙◌, sym, subst, arith, inl, inr, add-one}
use Rattle.std.specs.Borrow.{Bor}
use Rattle.std.specs.Prelude.{Option, Some, map, slice_get}
use Rattle.std.specs.Io.KnownBytes.{Appends}
use Rattle.std.proofs.lemmas.Bool.{cases_lt}
use Rattle.std.proofs.lemmas.Option.{slice_get_past}
use Rattle.std.proofs.lemmas.List.{append-nil, get_or-map, length-append, length-map, take_all}
use Rattle.janus_meaning.specs.Syntax.{Name}
use Rattle.janus_meaning.specs.Store.{Store, Val}
use Rattle.janus_meaning.specs.World.{listed, size_of}
use Rattle.kernel_text.specs.ValueTexts.{value_text}
use Rattle.exact_write.proofs.SendLemmas.{appends_join}
use Rattle.cells_program.specs.Lines.{ended_line}
use Rattle.cells_program.specs.Shown.{value_lines}
use Rattle.cells_program.proofs.ShownLemmas.{length_listed, lines_next}
use Rattle.steps_walk.specs.Values.{sighted, value_or_lent}
use Rattle.steps_walk.proofs.Lists.{there_still, there_last}

module _ (s : Store) where
  abbrev value_at : ℕ → Val
  value_at k = value_or_lent (slice_get (listed s) k)

  pub many : (g : List Name) → length (listed (sighted s g)) ≡ length g
  many [] = refl
  many (y ∷ g) =
      let h = many g in
      let sum = length-append (listed (sighted s g)) ((y, value_at (length g)) ∷ []) in
      omega (arith, h, sum)

  -- the oldest stands in the lowest slot
  pub in_slot : (g : List Name) (k : ℕ) (x : Name) → k < length g → x ≡ get_or g (length g - 1 - k) x →
      slice_get (listed (sighted s g)) k ≡ Some (x, value_or_lent (slice_get (listed s) k))
  in_slot [] k x l e = absurd (omega arith)
  in_slot (y ∷ g) k x l e =
      elim (cases_lt k (length g)) as (λ _. slice_get (listed (sighted s g) ++ (y, value_at (length g)) ∷ []) k ≡ Some (x, value_at k)) [
        | inl low ↦
            (let z : length (y ∷ g) - 1 - k ≡ suc (length g - 1 - k) = omega (arith, low) in
            there_still (listed (sighted s g)) ((y, value_at (length g)) ∷ []) k (x, value_at k)
            (in_slot g k x low (e ∙ ap (λ n. get_or (y ∷ g) n x) z)))
        | inr high ↦
            (let last : k ≡ length g = omega (arith, high, l) in
            let z : length (y ∷ g) - 1 - k ≡ 0 = omega (arith, last) in
            let named : x ≡ y = e ∙ ap (λ n. get_or (y ∷ g) n x) z in
            ap (λ n. slice_get (listed (sighted s g) ++ (y, value_at (length g)) ∷ []) n) (last ∙ sym (many g))
            ∙ there_last (listed (sighted s g)) (y, value_at (length g))
            ∙ ap (λ n. Some (y, value_at n)) (sym last) ∙ ap (λ n. Some (n, value_at k)) (sym named))
      ]

  -- one name more is written
  pub one_more : (a b c : Option (List ℕ)) (g : List Name) (k : ℕ) (x : Name) → k < length g → x ≡ get_or g (length g - 1 - k) x →
      Appends a b (value_lines (take k (listed (sighted s g)))) → Appends b c (ended_line (value_text (x, value_or_lent (slice_get (listed s) k)))) →
      Appends a c (value_lines (take (k + 1) (listed (sighted s g))))
  one_more a b c g k x l e p q =
      let es = listed (sighted s g) in
      let next = lines_next es k (x, value_at k) (in_slot g k x l e) in
      subst (Appends a c) (sym next ∙ ap (λ n. value_lines (take n es)) (sym (add-one k)))
      (appends_join a b c (value_lines (take k es)) (ended_line (value_text (x, value_at k))) p q)

  pub all_told : (g : List Name) (k : ℕ) → length g ≤ k → value_lines (take k (listed (sighted s g))) ≡ value_lines (listed (sighted s g))
  all_told g k past = let size = many g in ap value_lines (take_all k (listed (sighted s g)) (omega (arith, size, past)))

-- a name that has no value stands alone
pub alone : (s : Store) (x : Name) (k : ℕ) → size_of s ≤ k → ended_line x ≡ ended_line (value_text (x, value_or_lent (slice_get (listed s) k)))
alone s x k past =
    let size = length_listed s in
    ap ended_line (sym (append-nil x))
    ∙ ap (λ (o : Option (Name × Val)). ended_line (value_text (x, value_or_lent o))) (sym (slice_get_past (listed s) k (omega (arith, size, past))))

-- ---- names as they are lent

module _ (bs : List (Bor (List ℕ))) (names : List Name) (same : map (λ b. b.now) bs ≡ names) where
  pub same_size : length names ≡ length bs
  same_size = ap length (sym same) ∙ length-map bs (λ (b : Bor (List ℕ)). b.now)

  -- the one that stands so far from behind
  module _ (k : ℕ) (d : Bor (List ℕ)) (within : k < length bs) where
    abbrev pub name : Name
    name = (get_or bs (length bs - 1 - k) d).now

    pub name_at : name ≡ get_or names (length names - 1 - k) name
    name_at =
        let low : length bs - 1 - k < length bs = omega (arith, within) in
        sym (get_or-map (λ (x : Bor (List ℕ)). x.now) bs (length bs - 1 - k) d name low)
        ∙ ap (λ (l : List Name). get_or l (length bs - 1 - k) name) same
        ∙ ap (λ n. get_or names (n - 1 - k) name) (sym same_size)
