-- How the posts in the minutes are counted, and where they stand.
use Rattle.std.proofs.Common.{◌≡◌, ℕ, ◌+◌, ◌-◌, suc, false, List, [], ◌∷◌, ◌++◌, Some, length, slice_get, ap, sym, subst, ◌∙◌, arith, length-append}
use mathlib.Core.List.{IsPrefix}
use Rattle.kernel_audit.specs.Request.{Request}
use Rattle.kernel_audit.specs.Minutes.{Entry, Post, Posted, posts_of, posted_in, IsNumberOf}
use Rattle.kernel_audit.specs.LegalMinutes.{IsLegalMachine}
use Rattle.kernel_audit.specs.Wishes.{WishOf}
use Rattle.kernel_audit.specs.declared.note.Note.{Note}
use Rattle.kernel_audit.specs.Notes.{wished_in, has_shutdown}
use Rattle.kernel_audit.specs.Passes.{PassOf, pass_of, HasSeen, HasPosted}
use Rattle.kernel_audit.proofs.Noted.{open_before}
use Rattle.hall_state.proofs.Places.{get_last}
use Rattle.kernel_audit.specs.Runs.{Machine, posted}
use Rattle.kernel_audit.proofs.Posts.{posts-append}
use Rattle.kernel_audit.proofs.Fronts.{number_of_last, posted_behind}

-- a post is one more
pub one_more : (m : Machine) (lane : ℕ) (job : Request) → posted_in (posted m lane job).minutes ≡ posted_in m.minutes + 1
one_more m lane job =
    let e = posts-append m.minutes (Posted lane job ∷ []) in
    let n = length-append (posts_of m.minutes) (posts_of (Posted lane job ∷ [])) in
    ap length e ∙ n

-- a pass that had seen all minutes and has posted, and then sees the minutes behind its post, and the notes behind its wishes
stands_behind : (old mid new : PassOf) (m next : Machine) (job : Request) (given : List WishOf) (number : ℕ) (wished : List (List WishOf))
    → number ≡ suc (posted_in m.minutes) → next ≡ posted m old.lane job → mid ≡ pass_of old.lane (old.posts + 1) old.acts old.front old.notes → HasSeen mid new
    → new.front ≡ next.minutes → IsLegalMachine next → length wished ≡ posted_in m.minutes → wished_in new.notes ≡ wished ++ given ∷ []
    → has_shutdown new.notes ≡ false → old.front ≡ m.minutes → HasPosted old job given number new
stands_behind old mid new m next job given number wished numbered is counted seen front legal many all serving had =
    let post : Post = record { lane = old.lane; job = job } in
    let last = m.minutes ++ Posted old.lane job ∷ [] in
    let noted : IsPrefix old.notes new.notes = subst (λ (l : List Note). IsPrefix l new.notes) (ap (λ (p : PassOf). p.notes) counted) seen.noted in
    let at : length wished ≡ number - 1 = omega (arith, many, numbered) in
    record {
      lane = seen.lane ∙ ap (λ (p : PassOf). p.lane) counted;
      posts = seen.posts ∙ ap (λ (p : PassOf). p.posts) counted;
      onward = subst (λ (l : List Entry). IsPrefix l new.front) (ap (λ (p : PassOf). p.front) counted) seen.onward;
      noted = noted;
      serves = open_before old.notes new.notes noted serving;
      legal = (next, legal, sym front);
      wished = subst (λ (l : List (List WishOf)). slice_get l (number - 1) ≡ Some given) (sym all)
          (subst (λ (n : ℕ). slice_get (wished ++ given ∷ []) n ≡ Some given) at (get_last wished given));
      posted = subst (λ (l : List Entry). IsNumberOf l number post) (sym (front ∙ ap (λ (k : Machine). k.minutes) is))
          (subst (λ (n : ℕ). IsNumberOf last n post) (sym numbered) (number_of_last m.minutes old.lane job));
      fresh = omega (arith, ap posted_in had, numbered);
    }

-- a pass that first saw all minutes
pub stands : (start old mid new : PassOf) (m next : Machine) (job : Request) (given : List WishOf) (number : ℕ) (wished : List (List WishOf))
    → HasSeen start old → number ≡ suc (posted_in m.minutes) → next ≡ posted m old.lane job
    → mid ≡ pass_of old.lane (old.posts + 1) old.acts old.front old.notes
    → HasSeen mid new → new.front ≡ next.minutes → IsLegalMachine next → length wished ≡ posted_in m.minutes → wished_in new.notes ≡ wished ++ given ∷ []
    → has_shutdown new.notes ≡ false → old.front ≡ m.minutes → HasPosted start job given number new
stands start old mid new m next job given number wished first numbered is counted seen front legal many all serving had =
    posted_behind start old new job given number first
    (stands_behind old mid new m next job given number wished numbered is counted seen front legal many all serving had)
