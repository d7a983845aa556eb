-- The lines of texts are those of the file.
use Rattle.std.proofs.Common.{◌≡◌, ◌∙◌, ℕ, ◌+◌, ◌-◌, ◌<◌, ◌^◌, ◌==◌, Bool, true, false, List, [], ◌∷◌, ◌++◌, length, refl, ap, sym, subst, arith}
use Rattle.std.proofs.Common.{append_assoc, append-nil, length-append}
use Rattle.std.specs.Prelude.{All, Option, None, Some}
use Rattle.std.specs.List.{onto_first}
use Rattle.std.proofs.Math.Nat.{min-eq_left}
use Rattle.std.proofs.lemmas.List.Elements.{All-append, All-cons, All-nil, All-head, All-tail}
use Rattle.std.proofs.lemmas.List.Splits.{slice_split_at, slice_split-cons_yes, slice_split-cons_no}
use Rattle.kernel_core.specs.Runs.{Machine}
use Rattle.cells_program.specs.Command.{command_of}
use Rattle.cells_program.specs.Lines.{ended_line, is_blank, is_command_line, trimmed}
use Rattle.steps_program.specs.Before.{Stage, Text, RunsIf, LeadsIf, Leads, Unled, LedOn, cell_of, with_line}
use Rattle.steps_program.specs.Before.{begun_behind, kept_as, runs_before, node_come}
use Rattle.steps_program.specs.Places.{next, lines_of}
use Rattle.steps_program.specs.Numbered.{StandsInFile, TextsStandInFile}

-- ---- lines without an LF

abbrev is_end : ℕ → Bool
is_end b = b == 10

abbrev IsClean : List ℕ → Type 0
IsClean line = All (λ b. is_end b ≡ false) line

all_more : {A : Type 0} (P Q : A → Type 0) → ((x : A) → P x → Q x) → (xs : List A) → All P xs → All Q xs
all_more P Q f [] h = All-nil Q
all_more P Q f (x ∷ xs) h = All-cons Q x xs (f x (All-head P x xs h)) (all_more P Q f xs (All-tail P x xs h))

onto_clean : (b : ℕ) → is_end b ≡ false → (ls : List (List ℕ)) → All IsClean ls → All IsClean (onto_first b ls)
onto_clean b e [] h = All-cons IsClean (b ∷ []) [] (All-cons (λ c. is_end c ≡ false) b [] e (All-nil (λ c. is_end c ≡ false))) (All-nil IsClean)
onto_clean b e (l ∷ ls) h =
    All-cons IsClean (b ∷ l) ls (All-cons (λ c. is_end c ≡ false) b l e (All-head IsClean l ls h)) (All-tail IsClean l ls h)

one_more_clean : (x : ℕ) (xs : List ℕ) → All IsClean (lines_of xs) → (b : Bool) → is_end x ≡ b → All IsClean (lines_of (x ∷ xs))
one_more_clean x xs h true e =
    subst (All IsClean) (sym (slice_split-cons_yes is_end x xs e)) (All-cons IsClean [] (lines_of xs) (All-nil (λ b. is_end b ≡ false)) h)
one_more_clean x xs h false e = subst (All IsClean) (sym (slice_split-cons_no is_end x xs e)) (onto_clean x e (lines_of xs) h)

lines_clean : (xs : List ℕ) → All IsClean (lines_of xs)
lines_clean [] = All-cons IsClean [] [] (All-nil (λ b. is_end b ≡ false)) (All-nil IsClean)
lines_clean (x ∷ xs) = one_more_clean x xs (lines_clean xs) (is_end x) refl

all_left : {A : Type 0} (P : A → Type 0) (xs ys : List A) → All P (xs ++ ys) → All P xs
all_left P [] ys h = All-nil P
all_left P (x ∷ xs) ys h = All-cons P x xs (All-head P x (xs ++ ys) h) (all_left P xs ys (All-tail P x (xs ++ ys) h))

all_right : {A : Type 0} (P : A → Type 0) (xs ys : List A) → All P (xs ++ ys) → All P ys
all_right P [] ys h = h
all_right P (x ∷ xs) ys h = all_right P xs ys (All-tail P x (xs ++ ys) h)

-- ---- a text that is made of lines

abbrev texted : List (List ℕ) → List ℕ
texted [] = []
texted (l ∷ ls) = l ++ 10 ∷ texted ls

texted_last : (ls : List (List ℕ)) (line : List ℕ) → texted (ls ++ line ∷ []) ≡ texted ls ++ ended_line line
texted_last [] line = refl
texted_last (l ∷ ls) line =
    ap (λ t. l ++ 10 ∷ t) (texted_last ls line) ∙ sym (append_assoc l (10 ∷ texted ls) (ended_line line))

lines_texted : (ls : List (List ℕ)) → All IsClean ls → lines_of (texted ls) ≡ ls ++ [] ∷ []
lines_texted [] h = refl
lines_texted (l ∷ ls) h =
    slice_split_at is_end l 10 (texted ls) (All-head IsClean l ls h) refl ∙ ap (λ k. l ∷ k) (lines_texted ls (All-tail IsClean l ls h))

-- ---- lines that are read

-- a text has been read among these lines
record Stands (lines : List (List ℕ)) (text : Text) : Type 0 where
  before : List (List ℕ)
  own : List (List ℕ)
  behind : List (List ℕ)
  is : lines ≡ before ++ (own ++ behind)
  first : text.1 ≡ length before + 1
  made : text.0 ≡ texted own

-- what is known of a stage behind these lines
record Known (lines : List (List ℕ)) (s : Stage) : Type 0 where
  next_line : s.next_line ≡ length lines + 1
  before : List (List ℕ)
  own : List (List ℕ)
  is : lines ≡ before ++ own
  first : s.first_line ≡ length before + 1
  made : s.gathered ≡ texted own
  ran : All (Stands lines) s.ran

next_is : (n : ℕ) → n + 1 < 2 ^ 64 → next n ≡ n + 1
next_is n low = min-eq_left {n = n + 1} {m = 2 ^ 64 - 1} (omega arith)

many : (lines : List (List ℕ)) (line : List ℕ) → length (lines ++ line ∷ []) ≡ length lines + 1
many lines line = length-append lines (line ∷ [])

module _ (lines : List (List ℕ)) (line : List ℕ) where
  stands_on : (text : Text) → Stands lines text → Stands (lines ++ line ∷ []) text
  stands_on text h = record {
    before = h.before;
    own = h.own;
    behind = h.behind ++ line ∷ [];
    is = ap (λ l. l ++ line ∷ []) h.is ∙ append_assoc h.before (h.own ++ h.behind) (line ∷ [])
        ∙ ap (λ l. h.before ++ l) (append_assoc h.own h.behind (line ∷ []));
    first = h.first;
    made = h.made;
  }

  module _ (s : Stage) (k : Known lines s) (few : length lines + 2 < 2 ^ 64) where
    next_behind : next s.next_line ≡ length (lines ++ line ∷ []) + 1
    next_behind =
        let m = many lines line in
        ap next k.next_line ∙ next_is (length lines + 1) (omega (arith, few)) ∙ (let z : length lines + 1 + 1 ≡ length (lines ++ line ∷ []) + 1 = omega (arith, m) in z)

    known_line : Known (lines ++ line ∷ []) (with_line s line)
    known_line = record {
      next_line = next_behind;
      before = k.before;
      own = k.own ++ line ∷ [];
      is = ap (λ l. l ++ line ∷ []) k.is ∙ append_assoc k.before k.own (line ∷ []);
      first = k.first;
      made = ap (λ t. t ++ ended_line line) k.made ∙ sym (texted_last k.own line);
      ran = all_more (Stands lines) (Stands (lines ++ line ∷ [])) stands_on s.ran k.ran;
    }

    -- the text that is gathered, whatever node it becomes
    here : (at : Option ℕ) → Stands (lines ++ line ∷ []) (s.gathered, s.first_line, at)
    here at = record {
      before = k.before;
      own = k.own;
      behind = line ∷ [];
      is = ap (λ l. l ++ line ∷ []) k.is ∙ append_assoc k.before k.own (line ∷ []);
      first = k.first;
      made = k.made;
    }

    kept : (at : Option ℕ) → All (Stands (lines ++ line ∷ [])) (kept_as (cell_of s) at s.ran)
    kept None = all_more (Stands lines) (Stands (lines ++ line ∷ [])) stands_on s.ran k.ran
    kept (Some node) =
        let P = Stands (lines ++ line ∷ []) in
        All-append P s.ran ((s.gathered, s.first_line, Some node) ∷ []) (all_more (Stands lines) P stands_on s.ran k.ran)
        (All-cons P (s.gathered, s.first_line, Some node) [] (here (Some node)) (All-nil P))

    -- behind a command
    behind_command : (mid : Stage) (machine : Machine) → mid.next_line ≡ s.next_line → mid.gathered ≡ [] → All (Stands (lines ++ line ∷ [])) mid.ran →
        Known (lines ++ line ∷ []) (begun_behind (record mid { machine = machine }))
    behind_command mid machine same none ran = record {
      next_line = ap next same ∙ next_behind;
      before = lines ++ line ∷ [];
      own = [];
      is = sym (append-nil (lines ++ line ∷ []));
      first = ap next same ∙ next_behind;
      made = none;
      ran = ran;
    }

    by_runs : (b : Bool) (mid : Stage) (first : List ℕ) (machine : Machine) → RunsIf b s mid first →
        Known (lines ++ line ∷ []) (begun_behind (record mid { machine = machine }))
    by_runs true mid first machine h =
        behind_command mid machine (ap (λ (x : Stage). x.next_line) h.left) (ap (λ (x : Stage). x.gathered) h.left)
        (subst (All (Stands (lines ++ line ∷ []))) (sym (ap (λ (x : Stage). x.ran) h.left)) (kept (node_come h.came)))
    by_runs false mid first machine h =
        behind_command mid machine (ap (λ (x : Stage). x.next_line) h.0) (ap (λ (x : Stage). x.gathered) h.0)
        (subst (All (Stands (lines ++ line ∷ []))) (sym (ap (λ (x : Stage). x.ran) h.0))
        (all_more (Stands lines) (Stands (lines ++ line ∷ [])) stands_on s.ran k.ran))

    known_behind : (b : Bool) (new : Stage) (out : List ℕ) → LeadsIf b line s new out → Known (lines ++ line ∷ []) new
    known_behind false new out h = subst (Known (lines ++ line ∷ [])) (sym h.0) known_line
    known_behind true new out h =
        subst (Known (lines ++ line ∷ [])) (sym h.left)
        (by_runs (runs_before (command_of (trimmed line)) (is_blank s.gathered)) h.mid h.first h.machine h.runs)

known : (n : ℕ) (machine : Machine) (lines : List (List ℕ)) (s : Stage) (out : List ℕ) → length lines + 1 < 2 ^ 64 → Leads n machine lines s out →
    Known lines s
known n machine all s out few Unled = record {
  next_line = refl;
  before = [];
  own = [];
  is = refl;
  first = refl;
  made = refl;
  ran = All-nil (Stands []);
}
known n machine all s out few (LedOn lines line mid new before after leads other on) =
    let m = many lines line in
    known_behind lines line mid (known n machine lines mid before (omega (arith, few, m)) leads) (omega (arith, few, m)) (is_command_line line) new after on

-- ---- the law

module _ (file : List ℕ) (lines left : List (List ℕ)) (cut : lines_of file ≡ lines ++ left) where
  in_file : (text : Text) → Stands lines text → StandsInFile file text
  in_file text h = record {
    before = h.before;
    own = h.own;
    behind = h.behind ++ left;
    lines = cut ∙ ap (λ l. l ++ left) h.is ∙ append_assoc h.before (h.own ++ h.behind) left ∙ ap (λ l. h.before ++ l) (append_assoc h.own h.behind left);
    first = h.first;
    is =
        let clean = all_left IsClean lines left (subst (All IsClean) cut (lines_clean file)) in
        let own = all_left IsClean h.own h.behind (all_right IsClean h.before (h.own ++ h.behind) (subst (All IsClean) h.is clean)) in
        ap lines_of h.made ∙ lines_texted h.own own;
  }

pub texts_stand_in_file : TextsStandInFile
texts_stand_in_file n file machine s out few h =
    let size = ap (λ (l : List (List ℕ)). length l) h.cut ∙ length-append h.lines h.left in
    let k = known n machine h.lines s out (omega (arith, few, size)) h.leads in
    let last : Stands h.lines (cell_of s) = record {
      before = k.before;
      own = k.own;
      behind = [];
      is = k.is ∙ ap (λ l. k.before ++ l) (sym (append-nil k.own));
      first = k.first;
      made = k.made;
    } in
    let P = StandsInFile file in
    All-append P s.ran (cell_of s ∷ []) (all_more (Stands h.lines) P (in_file file h.lines h.left h.cut) s.ran k.ran)
    (All-cons P (cell_of s) [] (in_file file h.lines h.left h.cut (cell_of s) last) (All-nil P))
