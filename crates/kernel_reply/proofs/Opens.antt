-- Opens of comms, and the comms of other targets.
use Rattle.std.proofs.Common.{◌≡◌, ℕ, Bool, false, ◌&&◌, not, nat_lt, List, [], length, codes, Option, Some, ap, ◌∙◌, string_bytes, if◌then◌else◌}
use Rattle.std.specs.Ordering.{nat_cmp}
use Rattle.std.specs.Cmp.Lexicographic.{slice_cmp}
use Rattle.std.specs.BTreeSet.{insert_key}
use Rattle.std.proofs.lemmas.Bool.{le-ltb}
use Rattle.std.proofs.Math.Bool.{and-false, and-true}
use Rattle.serde_json.specs.Data.{object, no_members}
use Rattle.jupyter_msg.specs.declared.comm.CommOpen.{CommOpen}
use Rattle.kernel_ask.specs.Comms.{comm_limit, is_open, can_open, opened}
use Rattle.kernel_reply.specs.Status.{says}
use Rattle.kernel_reply.specs.Comms.{is_target, with_comms, comm_info_content, comm_close}
use Rattle.kernel_reply.specs.Answers.{only, status_alone, tells, open_comms_say, comms_say}
use Rattle.kernel_reply.specs.Laws.{OpensNothing, OpensPastTheLimitClose, OpensOfOpenComms, OpensForOtherTargetsClose, OtherTargetsHaveNone}

-- a comm that can't be opened is not
unopened : (ids : List (List ℕ)) (id : List ℕ) → can_open ids id ≡ false → opened ids id ≡ ids
unopened ids id e = ap (λ b. if b then insert_key (slice_cmp nat_cmp) ids id else ids) e

-- the answer is that of whether it is for the target, and its comm open
opens_nothing : (r : CommOpen) (ids : List (List ℕ)) (b : Bool) → opened ids (string_bytes r.comm_id) ≡ ids →
    is_target (string_bytes r.target_name) && is_open ids (string_bytes r.comm_id) ≡ b
    → OpensNothing r ids (if b then status_alone else tells (comm_close (string_bytes r.comm_id)))
opens_nothing r ids b same is = record {
  as_before = same;
  told =
      ap (λ c. if c then status_alone else tells (comm_close (string_bytes r.comm_id)))
      (ap (λ xs. is_target (string_bytes r.target_name) && is_open xs (string_bytes r.comm_id)) same ∙ is);
}

pub opens_past_the_limit_close : OpensPastTheLimitClose
opens_past_the_limit_close r ids full closed =
    let id = string_bytes r.comm_id in
    let ours = is_target (string_bytes r.target_name) in
    opens_nothing r ids false (unopened ids id (ap (λ b. b && not (is_open ids id)) (le-ltb (length ids) comm_limit full)))
    (ap (λ b. ours && b) closed ∙ and-false ours)

pub opens_of_open_comms : OpensOfOpenComms
opens_of_open_comms r ids is =
    let id = string_bytes r.comm_id in
    let ours = is_target (string_bytes r.target_name) in
    opens_nothing r ids ours (unopened ids id (ap (λ b. nat_lt (length ids) comm_limit && not b) is ∙ and-false (nat_lt (length ids) comm_limit)))
    (ap (λ b. ours && b) is ∙ and-true ours)

pub opens_for_other_targets_close : OpensForOtherTargetsClose
opens_for_other_targets_close r is other = ap (λ b. if b && is then status_alone else tells (comm_close (string_bytes r.comm_id))) other

pub other_targets_have_none : OtherTargetsHaveNone
other_targets_have_none r target c named other =
    ap (λ (name : Option (List ℕ)). comms_say name c) named
    ∙ ap (λ (b : Bool). if b then open_comms_say (Some target) c
    else only (says (codes "comm_info_reply") (comm_info_content (object (if b then with_comms no_members [] else no_members))))) other
