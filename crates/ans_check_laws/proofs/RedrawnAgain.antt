-- A redrawn file is redrawn to itself.
use Rattle.std.proofs.Common.{◌≡◌, ℕ, List, length, sym, ap, subst, ◌∙◌, arith}
use Rattle.ans_model.specs.File.Layout.{FileParts, content}
use Rattle.ans_model.specs.File.Record.{stated_size}
use Rattle.ans_model.specs.Screen.StartClass.{all_known}
use Rattle.ans_model.specs.Verdict.Good.{GoodWith}
use Rattle.ans_redraw.specs.RedrawnFile.{redrawn_file}
use Rattle.ans_redraw.specs.declared.outcome.Redrawn.{Redrawn}
use Rattle.ans_picture_laws.proofs.RedrawnTwice.{once_is_enough}
use Rattle.ans_redraw.specs.declared.outcome.Unredrawn.{Unredrawn}
use Rattle.ans_redraw.specs.Redrawing.{IsReasonNot, IsRedrawn}
use Rattle.ans_check_laws.proofs.OnePicture.{same_apart}
use Rattle.ans_check_laws.proofs.RedrawnPictures.{IsNew, is_new, new_accepts, new_parts, new_passes}
use Rattle.ans_check_laws.proofs.UnredrawnFiles.{only_length}

pub redrawing_twice : (file new newer : List ℕ) (redrawn again : Redrawn) → IsRedrawn file redrawn new
    → IsRedrawn new again newer → newer ≡ new
redrawing_twice file new newer redrawn again h k =
    let its : IsNew file h.apart h.picture new = is_new file new h.apart h.picture redrawn h.passes h in
    let to = new_parts file h.apart h.picture new its in
    let same : k.apart ≡ to.0 =
    same_apart new k.apart to.0 k.passes.accepts (new_accepts file h.apart h.picture new its) in
    let good : GoodWith (stated_size to.0.record_bytes) all_known (content to.0.body) k.picture =
    subst (λ (v : FileParts). GoodWith (stated_size v.record_bytes) all_known (content v.body) k.picture) same
    k.passes.good in
    k.new_is ∙ ap (λ (v : List ℕ). redrawn_file v k.picture) h.new_is
    ∙ once_is_enough file h.apart to.0 all_known h.picture k.picture its.can to.1 good ∙ sym h.new_is

-- a redrawn file has room for what is redrawn of it, which is itself
pub always_again : (file new : List ℕ) (redrawn : Redrawn) (reason : Unredrawn) → IsRedrawn file redrawn new
    → IsReasonNot new reason → ⊥
always_again file new redrawn reason h why =
    let its : IsNew file h.apart h.picture new = is_new file new h.apart h.picture redrawn h.passes h in
    let to = new_parts file h.apart h.picture new its in
    let passes = new_passes file h.apart h.picture new its all_known in
    let long = only_length new to.0 h.picture reason passes why in
    let same : redrawn_file new h.picture ≡ new =
    ap (λ (v : List ℕ). redrawn_file v h.picture) h.new_is
    ∙ once_is_enough file h.apart to.0 all_known h.picture h.picture its.can to.1 (to.1.good all_known) ∙ sym h.new_is
    in
    omega (arith, long.long, ap length same, ap length h.new_is, h.changes.room)
